-- Ranges of addresses that are one prefix (RFC 3779, 2.2.3.8). Assumes nothing.
use Rattle.std.specs.Prelude.{◌≡◌, ℕ, ◌+◌, ◌/◌, ◌%◌, ◌^◌, ◌≤◌, min, Bool, ◌==◌}
use Rattle.std.specs.Int.Count.{count_trailing_zeros}

-- The range a to b is one prefix: all the 2 ^ k addresses that differ only in their k last bits.
abbrev pub OnePrefix : ℕ → ℕ → ℕ → Type 0
OnePrefix w a b = (k : ℕ) × (k ≤ w) × (a % 2 ^ k ≡ 0) × (b + 1 ≡ a + 2 ^ k)

-- How many bits at the end of an address are zeros.
abbrev pub zero_tail : ℕ → ℕ → ℕ
zero_tail w a = count_trailing_zeros w a

-- How many bits at the end of an address are ones: one more turns just these into zeros.
abbrev pub one_tail : ℕ → ℕ → ℕ
one_tail w b = count_trailing_zeros w (b + 1)

-- The zeros at the end of a over ones at the end of b.
abbrev pub shared_tail : ℕ → ℕ → ℕ → ℕ
shared_tail w a b = min (zero_tail w a) (one_tail w b)

-- `OnePrefix` as a test: a and b agree above these.
abbrev pub one_prefix : ℕ → ℕ → ℕ → Bool
one_prefix w a b = a / 2 ^ shared_tail w a b == b / 2 ^ shared_tail w a b
