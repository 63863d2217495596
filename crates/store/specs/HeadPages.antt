-- The head that is changed, as clauses see it.
use Rattle.std.specs.Prelude.{◌≡◌}
use Rattle.store.specs.declared.head.HeadPageMut.{HeadPageMut}
use Rattle.store.specs.Head.{Head, head_of}

abbrev pub head_in : HeadPageMut → Head
head_in p = head_of p.words.now

-- both are over the same lent page
abbrev pub SameHeadLoan : HeadPageMut → HeadPageMut → Type 0
SameHeadLoan p q = q.words.ghost_name ≡ p.words.ghost_name
