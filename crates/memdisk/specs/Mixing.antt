-- The mixing of two words of 64 bits into one.
-- Assumes nothing.
use Rattle.std.specs.Prelude.{ℕ, ◌+◌, ◌*◌, ◌/◌, ◌%◌, ◌^◌, bit_xor}

unfoldable pub stirred : ℕ → ℕ → ℕ → ℕ
stirred z k factor = bit_xor z (z / 2 ^ k) * factor % 2 ^ 64

-- splitmix64's step from a state
unfoldable pub splitmix : ℕ → ℕ
splitmix z = bit_xor (stirred (stirred z 30 0xbf58476d1ce4e5b9) 27 0x94d049bb133111eb) (stirred (stirred z 30 0xbf58476d1ce4e5b9) 27 0x94d049bb133111eb / 2 ^ 31)

unfoldable pub mix_of : ℕ → ℕ → ℕ
mix_of s p = splitmix ((bit_xor s (p * 0x9e3779b97f4a7c15 % 2 ^ 64) + 0x9e3779b97f4a7c15) % 2 ^ 64)
