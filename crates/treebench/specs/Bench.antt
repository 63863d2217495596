-- What the functions for other languages answer in one word.
use Rattle.std.specs.Prelude.{ℕ, Some, None, Option}

abbrev pub word_or : Option ℕ → ℕ
word_or None = 18446744073709551615
word_or (Some x) = x
