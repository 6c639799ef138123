-- Nothing is lost between octets and their digits, either way. Assumes nothing.
use Rattle.std.specs.Prelude.{◌≡◌, ℕ, ◌*◌, ◌<◌, List, map, length, Some}
use Rattle.std.specs.List.{AllByRecursion}
use Rattle.std.specs.Char.{to_ascii_lowercase}
use Rattle.hex_text.specs.Digits.{unhex, hex_text}

-- the digits of some octets are read as these octets
abbrev pub ReadsBack : Type 0
ReadsBack = (xs : List ℕ) → AllByRecursion (λ x. x < 256) xs → unhex (hex_text xs) ≡ Some xs

-- what is read is two digits for each octet, each octet fits, and written again the octets give the same digits in lower case
abbrev pub WritesBack : Type 0
WritesBack = (s xs : List ℕ) → unhex s ≡ Some xs → (length s ≡ 2 * length xs) × AllByRecursion (λ x. x < 256) xs × (hex_text xs ≡ map to_ascii_lowercase s)
