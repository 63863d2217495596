use Rattle.deals.proofs.tables.TablesMut.take_apart.Goals as goal

pub returns-clause-holds : goal.returns-clause-holds
returns-clause-holds c s o a = c.end.ensures.holds s s.book o a
