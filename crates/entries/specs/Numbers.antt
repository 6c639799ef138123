-- One entry of a list of AS numbers: a number, or a range of two (RFC 3779 3.2.3.5 to 3.2.3.8). Assumes nothing.
use Rattle.std.specs.Prelude.{ℕ, cond, ◌&&◌, List, length, Some, None, Ok, Option, Result, ◌==◌, nat_le, nat_lt, slice_index}
use Rattle.std.specs.Int.Digits.{number_from_digits}
use Rattle.fault.specs.declared.Rule.TheVariants.{Structure, Value}
use Rattle.fault.specs.declared.Layer.TheVariants.{Set}
use Rattle.fault.specs.declared.Report.{Report}
use Rattle.element.specs.Reading.{Seen, Octets}
use Rattle.layout.specs.Expecting.{broken, then_read, end_of}
use Rattle.entries.specs.Addresses.{given, ends_of, inside}

-- a number of 32 bits
abbrev pub below32 : ℕ → Option ℕ
below32 n = cond (nat_lt n 4294967296) (Some n) None

-- an INTEGER of 32 bits, not below zero: in its shortest form it has at most five octets
abbrev pub as_number : List ℕ → Option ℕ
as_number c = cond (nat_lt 0 (length c) && (nat_le (length c) 5 && nat_lt (slice_index c 0) 128)) (below32 (number_from_digits 256 c)) None

-- two numbers that ascend; the fault is at the second
abbrev pub ascend : ℕ → ℕ → ℕ → Result (Unit {0}) Report
ascend place a z = cond (nat_lt a z) (Ok tt) (broken Set Value place)

-- the two numbers of a range, and the octets after them
abbrev pub numbers_of : Octets → Result (ℕ × ℕ × Octets) Report
numbers_of q = ends_of 2 as_number as_number ascend q

-- the two numbers of a range, and nothing after them
abbrev pub number_pair : Octets → Result (ℕ × ℕ) Report
number_pair q = then_read (numbers_of q) (λ h. then_read (end_of Set h.2) (λ _. Ok (h.0, h.1)))

-- one number is the range from it to itself
abbrev pub alone : Result ℕ Report → Result (ℕ × ℕ) Report
alone r = then_read r (λ n. Ok (n, n))

-- an entry of a list of AS numbers: an INTEGER is one number, a SEQUENCE a range
abbrev pub number_entry : Seen → Result (ℕ × ℕ) Report
number_entry e =
    cond (e.tag == 2) (alone (given e.place (as_number e.content)))
    (cond (e.tag == 48) (number_pair (inside e)) (broken Set Structure e.place))
