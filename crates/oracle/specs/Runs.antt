-- Octets taken up into one block, one after another. Assumes nothing.
use Rattle.std.specs.Prelude.{ℕ, ◌+◌, ◌%◌, List, [], ◌∷◌, bit_xor, slice_index, slice_set}

-- a block of 32 octets, and the place in it at which the next octet is taken up
abbrev pub State : Type 0
State = List ℕ × ℕ

abbrev pub xor_run : List ℕ → ℕ → List ℕ → State
xor_run block at [] = (block, at)
xor_run block at (x ∷ xs) = xor_run (slice_set block at (bit_xor (slice_index block at) x)) ((at + 1) % 32) xs
