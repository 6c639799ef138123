-- The test scheme: the digest is the exclusive-or of the blocks of 32 octets. Assumes nothing.
use Rattle.std.specs.Prelude.{ℕ, zero, suc, ◌+◌, ◌-◌, ◌/◌, Bool, List, [], ◌∷◌, ◌++◌, length, take, drop, replicate, bit_xor}
use Rattle.std.specs.Str.{bytes_eq}

-- a block filled up with 00 to 32 octets
abbrev pub filled : List ℕ → List ℕ
filled b = b ++ replicate (32 - length b) 0

-- the first n blocks of some octets, 32 octets each
abbrev pub blocks_of : ℕ → List ℕ → List (List ℕ)
blocks_of zero s = []
blocks_of (suc n) s = filled (take 32 s) ∷ blocks_of n (drop 32 s)

-- all blocks of some octets: as many as begin in them
unfoldable pub blocks : List ℕ → List (List ℕ)
blocks s = blocks_of ((length s + 31) / 32) s

-- the exclusive-or of two blocks, octet by octet
abbrev pub xor_each : List ℕ → List ℕ → List ℕ
xor_each [] c = []
xor_each (x ∷ b) [] = []
xor_each (x ∷ b) (y ∷ c) = bit_xor x y ∷ xor_each b c

-- the exclusive-or of some blocks: 32 zeros where there are none
abbrev pub xor_all : List (List ℕ) → List ℕ
xor_all [] = replicate 32 0
xor_all (b ∷ bs) = xor_each b (xor_all bs)

unfoldable pub scheme_digest : List ℕ → List ℕ
scheme_digest s = xor_all (blocks s)

-- a signature is the digest of the key followed by the message
abbrev pub scheme_verdict : List ℕ → List ℕ → List ℕ → Bool
scheme_verdict key message signature = bytes_eq signature (scheme_digest (key ++ message))
