-- The single fields that layouts share: what each is, and the fault where it is not so. Assumes nothing.
use Rattle.std.specs.Prelude.{ℕ, ◌+◌, ◌-◌, Bool, cond, not, ◌&&◌, List, length, take, drop, Some, None, Ok, Option, Result, ◌==◌, nat_le, nat_lt, slice_index}
use Rattle.fault.specs.declared.Rule.TheVariants.{Structure, Value}
use Rattle.fault.specs.declared.Layer.{Layer}
use Rattle.fault.specs.declared.Report.{Report}
use Rattle.moment.specs.Times.{utc_of, generalized_of}
use Rattle.moment.specs.Calendar.{number_in}
use Rattle.moment.specs.declared.Moment.{Moment}
use Rattle.element.specs.declared.part.Part.{Part}
use Rattle.element.specs.declared.part.Element.{Element}
use Rattle.element.specs.Reading.{Seen, Octets, seen, octets_of}
use Rattle.layout.specs.Expecting.{broken, then_read, next_of, expect_of, inside}
use Rattle.entries.specs.Numbers.{as_number}

-- a value that its rule forbids is a fault at the element
abbrev pub lawful : {X : Type 0} → Layer → ℕ → Option X → Result X Report
lawful l place None = broken l Value place
lawful l place (Some x) = Ok x

-- the same of a test: the content is handed on where it passes
abbrev pub passing : (List ℕ → Bool) → Layer → Seen → Result Octets Report
passing test l e = cond (test e.content) (Ok (inside e)) (broken l Value e.place)

-- the next element, whose content passes a test, and the octets after it
abbrev pub tested_of : (List ℕ → Bool) → Layer → ℕ → Octets → Result (Octets × Octets) Report
tested_of test l tag q = then_read (expect_of l tag q) (λ p. then_read (passing test l p.0) (λ c. Ok (c, p.1)))

-- the octets of q that stand before r, with which q ends
abbrev pub before : Octets → Octets → Octets
before q r = record { octets = take (length q.octets - length r.octets) q.octets; place = q.place }

-- an element of this tag with all its octets, tag and length too; the element; and the octets after it
abbrev pub whole_of : Layer → ℕ → Octets → Result (Octets × Seen × Octets) Report
whole_of l tag q = then_read (expect_of l tag q) (λ p. Ok (before q p.1, p.0, p.1))

-- a SEQUENCE that is not looked into: all its octets, and the octets after it
abbrev pub sequence_of : Layer → Octets → Result (Octets × Octets) Report
sequence_of l q = then_read (whole_of l 48 q) (λ p. Ok (p.0, p.2))

-- the INTEGER n, a number below 128: one octet
abbrev pub is_constant : ℕ → List ℕ → Bool
is_constant n c = length c == 1 && slice_index c 0 == n

-- an INTEGER that is this number, and the octets after it
abbrev pub constant_of : Layer → ℕ → Octets → Result Octets Report
constant_of l n q = then_read (tested_of (is_constant n) l 2 q) (λ p. Ok p.1)

-- an INTEGER from 0, of 1 to 20 octets: its first bit, the sign, is not set
abbrev pub is_number20 : List ℕ → Bool
is_number20 c = nat_lt 0 (length c) && (nat_le (length c) 20 && nat_lt (slice_index c 0) 128)

-- a positive one: zero is the one octet 00, since an INTEGER has its shortest form
abbrev pub is_serial : List ℕ → Bool
is_serial c = is_number20 c && not (is_constant 0 c)

abbrev pub number20_of : Layer → Octets → Result (Octets × Octets) Report
number20_of l q = tested_of is_number20 l 2 q

abbrev pub serial_of : Layer → Octets → Result (Octets × Octets) Report
serial_of l q = tested_of is_serial l 2 q

-- an AS number, an INTEGER from 0 to 2 ^ 32 - 1
abbrev pub as_number_of : Layer → Octets → Result (ℕ × Octets) Report
as_number_of l q = then_read (expect_of l 2 q) (λ p. then_read (lawful l p.0.place (as_number p.0.content)) (λ n. Ok (n, p.1)))

-- a BIT STRING without unused bits: its first octet, their count, is 0
abbrev pub is_whole : List ℕ → Bool
is_whole c = nat_lt 0 (length c) && slice_index c 0 == 0

-- the octets after the first
abbrev pub after_first : Octets → Octets
after_first q = record { octets = drop 1 q.octets; place = q.place + 1 }

-- a BIT STRING without unused bits: its octets, and the octets after it
abbrev pub whole_bits_of : Layer → Octets → Result (Octets × Octets) Report
whole_bits_of l q = then_read (tested_of is_whole l 3 q) (λ p. Ok (after_first p.0, p.1))

-- a moment that is written as a GeneralizedTime lies in 2050 or later
abbrev pub late : Layer → ℕ → ℕ → Result ℕ Report
late l place m = cond (nat_lt m 20500000000000) (broken l Value place) (Ok m)

-- the moment that an element says: UTCTime through 2049, GeneralizedTime from 2050. That a time is one of a true date is the form of
-- its element, so that a content without a moment does not come here.
abbrev pub time_in : Layer → Seen → Result ℕ Report
time_in l e =
    cond (e.tag == 0x17) (lawful l e.place (utc_of e.content))
    (cond (e.tag == 0x18) (then_read (lawful l e.place (generalized_of e.content)) (late l e.place))
    (broken l Structure e.place))

abbrev pub time_of : Layer → Octets → Result (ℕ × Octets) Report
time_of l q = then_read (next_of l q) (λ p. then_read (time_in l p.0) (λ m. Ok (m, p.1)))

-- a GeneralizedTime, of any year
abbrev pub gtime_of : Layer → Octets → Result (ℕ × Octets) Report
gtime_of l q = then_read (expect_of l 0x18 q) (λ p. then_read (lawful l p.0.place (generalized_of p.0.content)) (λ m. Ok (m, p.1)))

-- what a reader answered, as numbers and octets
abbrev pub both_of : Part × Part → Octets × Octets
both_of p = (octets_of p.0, octets_of p.1)

abbrev pub moment_and : Moment × Part → ℕ × Octets
moment_and p = (number_in p.0, octets_of p.1)

abbrev pub whole_seen : Part × Element × Part → Octets × Seen × Octets
whole_seen p = (octets_of p.0, seen p.1, octets_of p.2)
