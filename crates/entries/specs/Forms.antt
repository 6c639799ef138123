-- The points of an entry by their form: addresses of a family, or AS numbers. Assumes nothing.
use Rattle.std.specs.Prelude.{ℕ, Bool, cond, not, ◌&&◌, List, Some, Ok, Option, Result, ◌==◌, nat_lt}
use Rattle.fault.specs.declared.Rule.TheVariants.{Structure, Value}
use Rattle.fault.specs.declared.Layer.TheVariants.{Set}
use Rattle.fault.specs.declared.Report.{Report}
use Rattle.family.specs.Widths.{width}
use Rattle.content.specs.Values.{bits_of}
use Rattle.element.specs.Reading.{Seen, Octets}
use Rattle.layout.specs.Expecting.{broken, then_read, end_of}
use Rattle.prefixes.specs.Ranges.{one_prefix}
use Rattle.entries.specs.declared.Form.{Form}
use Rattle.entries.specs.declared.Form.TheVariants.{Addresses, Numbers}
use Rattle.entries.specs.Addresses.{then_some, given, prefix_ends, low_half, high_half, ends_of, inside}
use Rattle.entries.specs.Numbers.{as_number}

-- how many bits a point has
abbrev pub bits : Form → ℕ
bits (Addresses f) = width f
bits Numbers = 32

-- the tag of a point: BIT STRING, or INTEGER
abbrev pub tag : Form → ℕ
tag (Addresses f) = 3
tag Numbers = 2

-- both ends of a prefix, and one number twice
abbrev pub both : Form → List ℕ → Option (ℕ × ℕ)
both (Addresses f) c = then_some (bits_of c) (prefix_ends (width f))
both Numbers c = then_some (as_number c) (λ n. Some (n, n))

-- the first point of a range
abbrev pub low : Form → List ℕ → Option ℕ
low (Addresses f) c = then_some (bits_of c) (low_half (width f))
low Numbers c = as_number c

-- the last point of a range
abbrev pub high : Form → List ℕ → Option ℕ
high (Addresses f) c = then_some (bits_of c) (high_half (width f))
high Numbers c = as_number c

-- whether two points may stand as the ends of a range
abbrev pub stands : Form → ℕ → ℕ → Bool
stands (Addresses f) a z = nat_lt a z && not (one_prefix (width f) a z)
stands Numbers a z = nat_lt a z

abbrev pub standing : Form → ℕ → ℕ → ℕ → Result (Unit {0}) Report
standing form place a z = cond (stands form a z) (Ok tt) (broken Set Value place)

-- the two ends of a range, and nothing after them
abbrev pub pair_in : Form → Octets → Result (ℕ × ℕ) Report
pair_in form q = then_read (ends_of (tag form) (low form) (high form) (standing form) q) (λ h. then_read (end_of Set h.2) (λ _. Ok (h.0, h.1)))

-- an entry: a prefix or one number, or a SEQUENCE as a range
abbrev pub entry_in : Form → Seen → Result (ℕ × ℕ) Report
entry_in form e =
    cond (e.tag == tag form) (given e.place (both form e.content))
    (cond (e.tag == 48) (pair_in form (inside e)) (broken Set Structure e.place))
