use Rattle.deals.specs.Deals.{below, from, keyless, word_of, pair_of, step, code, alike, agrees, leaves, marks_of, writes, up_to, looked, some_writes, some_looked, barred}
use Rattle.deals.proofs.examples_hold.Goals as goal

pub returns : goal.returns
unfolding below from keyless word_of pair_of step code alike agrees leaves marks_of writes up_to looked some_writes some_looked barred
returns c = tt
