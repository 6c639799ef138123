-- One entry of a list of addresses: a prefix, or a range of two bit strings (RFC 3779 2.2.3.7 to 2.2.3.9). Assumes nothing.
use Rattle.std.specs.Prelude.{ℕ, Bool, true, cond, not, ◌&&◌, List, Some, None, Ok, Option, Result, ◌==◌, nat_lt}
use Rattle.fault.specs.declared.Rule.TheVariants.{Structure, Value}
use Rattle.fault.specs.declared.Layer.TheVariants.{Set}
use Rattle.fault.specs.declared.Report.{Report}
use Rattle.content.specs.Values.{bits_of}
use Rattle.element.specs.Reading.{Seen, Octets}
use Rattle.layout.specs.Expecting.{broken, then_read, expect_of, end_of}
use Rattle.prefixes.specs.Reading.{low_end, high_end, last_bit}
use Rattle.prefixes.specs.Ranges.{one_prefix}

-- one answer and then another, none where one of them is none
abbrev pub then_some : {X Y : Type 0} → Option X → (X → Option Y) → Option Y
then_some None k = None
then_some (Some x) k = k x

-- a value that a rule forbids is a fault at the element
abbrev pub given : {X : Type 0} → ℕ → Option X → Result X Report
given place None = broken Set Value place
given place (Some x) = Ok x

-- both ends of a prefix: its bits followed by zeros, and by ones
abbrev pub prefix_ends : ℕ → List ℕ × ℕ → Option (ℕ × ℕ)
prefix_ends w b = then_some (low_end w b.0 b.1) (λ a. then_some (high_end w b.0 b.1) (λ z. Some (a, z)))

-- the first address of a range has no trailing zero bits: its last bit is one, or there is none
abbrev pub ends_low : Option Bool → Bool
ends_low None = true
ends_low (Some b) = b

-- the last address of a range has no trailing one bits
abbrev pub ends_high : Option Bool → Bool
ends_high None = true
ends_high (Some b) = not b

abbrev pub low_half : ℕ → List ℕ × ℕ → Option ℕ
low_half w b = cond (ends_low (last_bit b.0 b.1)) (low_end w b.0 b.1) None

abbrev pub high_half : ℕ → List ℕ × ℕ → Option ℕ
high_half w b = cond (ends_high (last_bit b.0 b.1)) (high_end w b.0 b.1) None

-- a range runs forward, and one that is a prefix has to be written as a prefix; the fault is at its second half
abbrev pub is_range : ℕ → ℕ → ℕ → ℕ → Result (Unit {0}) Report
is_range w place a z = cond (nat_lt a z && not (one_prefix w a z)) (Ok tt) (broken Set Value place)

-- the two halves of a range, each an element of a tag, and the octets after them
abbrev pub ends_of : ℕ → (List ℕ → Option ℕ) → (List ℕ → Option ℕ) → (ℕ → ℕ → ℕ → Result (Unit {0}) Report) → Octets → Result (ℕ × ℕ × Octets) Report
ends_of tag low high stand q =
    then_read (expect_of Set tag q) (λ first.
    then_read (given first.0.place (low first.0.content)) (λ a.
    then_read (expect_of Set tag first.1) (λ last.
    then_read (given last.0.place (high last.0.content)) (λ z.
    then_read (stand last.0.place a z) (λ _. Ok (a, z, last.1))))))

-- the two addresses of a range, and the octets after them
abbrev pub halves_of : ℕ → Octets → Result (ℕ × ℕ × Octets) Report
halves_of w q = ends_of 3 (λ c. then_some (bits_of c) (low_half w)) (λ c. then_some (bits_of c) (high_half w)) (is_range w) q

-- the two halves of a range, and nothing after them
abbrev pub pair_of : ℕ → Octets → Result (ℕ × ℕ) Report
pair_of w q = then_read (halves_of w q) (λ h. then_read (end_of Set h.2) (λ _. Ok (h.0, h.1)))

-- the octets of an element's content, with their place
abbrev pub inside : Seen → Octets
inside e = record { octets = e.content; place = e.content_place }

-- an entry of a list of addresses of w bits: a BIT STRING is a prefix, a SEQUENCE a range
abbrev pub address_entry : ℕ → Seen → Result (ℕ × ℕ) Report
address_entry w e =
    cond (e.tag == 3) (given e.place (then_some (bits_of e.content) (prefix_ends w)))
    (cond (e.tag == 48) (pair_of w (inside e)) (broken Set Structure e.place))
