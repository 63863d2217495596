-- The numbers of a node's page: word 0 is the count, word 1 the level, then come the keys, then the words.
use Rattle.std.specs.Prelude.{ℕ}

abbrev pub keys_from : ℕ
keys_from = 2

abbrev pub words_from : ℕ
words_from = 257

-- the most entries of a node
abbrev pub capacity : ℕ
capacity = 255

-- the fewest entries of a node that isn't the root
abbrev pub least : ℕ
least = 85

-- the most entries that two nodes may make one of
abbrev pub join_most : ℕ
join_most = 240
