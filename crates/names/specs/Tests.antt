-- The rules on names as tests. Names.antt has the same rules as relations. Assumes nothing.
use Rattle.std.specs.Prelude.{ℕ, zero, suc, ◌+◌, ◌-◌, Bool, true, cond, ◌&&◌, ◌||◌, List, [], ◌∷◌, length, take, drop, Some, None, codes, Option, ◌==◌, nat_le, nat_lt, slice_index}
use Rattle.std.specs.Str.{bytes_eq}
use Rattle.names.specs.declared.Class.{Class}
use Rattle.names.specs.declared.Class.TheVariants.{Visible, Stem, Lower}
use Rattle.names.specs.declared.Ending.{Ending}
use Rattle.names.specs.declared.Ending.TheVariants.{Cer, Crl, Mft, Roa}

abbrev pub between : ℕ → ℕ → ℕ → Bool
between a z c = nat_le a c && nat_le c z

-- whether an octet is of a class: from 21 to 7E; a letter, a digit, "-" or "_"; a letter a to z
abbrev pub is_of : Class → ℕ → Bool
is_of Visible c = between 33 126 c
is_of Stem c = between 97 122 c || (between 65 90 c || (between 48 57 c || (c == 45 || c == 95)))
is_of Lower c = between 97 122 c

-- whether every octet passes a test
abbrev pub every : (ℕ → Bool) → List ℕ → Bool
every test [] = true
every test (c ∷ s) = test c && every test s

-- how many octets run through the last "/", where so many do of those after the first
abbrev pub with_first : ℕ → ℕ → ℕ
with_first c zero = cond (c == 47) 1 0
with_first c (suc n) = suc (suc n)

-- how many octets run through the last "/"
abbrev pub folder_size : List ℕ → ℕ
folder_size [] = 0
folder_size (c ∷ s) = with_first c (folder_size s)

-- the folder of a name, its octets through the last "/", and what stands after it
abbrev pub folder_of : List ℕ → List ℕ
folder_of s = take (folder_size s) s

abbrev pub base_of : List ℕ → List ℕ
base_of s = drop (folder_size s) s

abbrev pub is_name : List ℕ → Bool
is_name s = nat_le (length s) 128 && (every (is_of Visible) s && (nat_lt 0 (folder_size s) && nat_lt (folder_size s) (length s)))

abbrev pub is_folder : List ℕ → Bool
is_folder s = nat_le 1 (length s) && (nat_le (length s) 127 && (every (is_of Visible) s && slice_index s (length s - 1) == 47))

-- a bare name whose "." stands after n octets
abbrev pub dotted_at : ℕ → List ℕ → Bool
dotted_at n s = every (is_of Stem) (take n s) && (slice_index s n == 46 && every (is_of Lower) (drop (n + 1) s))

abbrev pub is_bare : List ℕ → Bool
is_bare s = nat_le 5 (length s) && dotted_at (length s - 4) s

-- whether some octets end with others
abbrev pub ends_with : List ℕ → List ℕ → Bool
ends_with s t = bytes_eq (drop (length s - length t) s) t

-- the octets of an ending
abbrev pub text_of : Ending → List ℕ
text_of Cer = codes ".cer"
text_of Crl = codes ".crl"
text_of Mft = codes ".mft"
text_of Roa = codes ".roa"

-- the ending that some octets have
abbrev pub ending_of : List ℕ → Option Ending
ending_of s =
    cond (ends_with s (text_of Cer)) (Some Cer)
    (cond (ends_with s (text_of Crl)) (Some Crl)
    (cond (ends_with s (text_of Mft)) (Some Mft)
    (cond (ends_with s (text_of Roa)) (Some Roa) None)))

abbrev pub is_manifest_name : List ℕ → Bool
is_manifest_name s = is_name s && (is_bare (base_of s) && ends_with (base_of s) (text_of Mft))
