-- The rows of a ROA (RFC 9582 4.3.2 and 4.3.3): a prefix, and the longest prefix in it that the AS may announce. Assumes nothing.
use Rattle.std.specs.Prelude.{ℕ, ◌-◌, ◌*◌, ◌^◌, cond, ◌&&◌, List, [], ◌∷◌, ◌++◌, length, Some, None, Ok, Option, Result, ◌==◌, nat_le}
use Rattle.fault.specs.declared.Rule.TheVariants.{Structure, Count}
use Rattle.fault.specs.declared.Layer.TheVariants.{Content}
use Rattle.fault.specs.declared.Report.{Report}
use Rattle.family.specs.declared.Family.{Family}
use Rattle.family.specs.declared.Family.TheVariants.{Ipv4, Ipv6}
use Rattle.payload.specs.declared.Prefix.{Prefix}
use Rattle.family.specs.Widths.{width}
use Rattle.content.specs.Values.{bits_of}
use Rattle.prefixes.specs.Reading.{bit_count, low_end}
use Rattle.entries.specs.Addresses.{then_some}
use Rattle.entries.specs.Numbers.{as_number}
use Rattle.element.specs.declared.part.Part.{Part}
use Rattle.element.specs.Reading.{Seen, Octets, octets_of}
use Rattle.layout.specs.Expecting.{broken, then_read, expect_of, end_of, inside}
use Rattle.layout.specs.Rows.{rows_of}
use Rattle.fields.specs.Fields.{lawful}
use Rattle.roa.specs.declared.RoaRow.{RoaRow}

-- the number of an address as the first bits of 128
abbrev pub top_of : Family → ℕ → ℕ
top_of Ipv4 a = a * 2 ^ 96
top_of Ipv6 a = a

-- a prefix from the bits that are written, which are no more than an address has: these bits, then zeros, and how many were written
abbrev pub prefix_in : Family → List ℕ × ℕ → Option Prefix
prefix_in f b = then_some (low_end (width f) b.0 b.1) (λ a. Some record { family = f; address = top_of f a; length = bit_count b.0 b.1 })

abbrev pub prefix_of : Family → List ℕ → Option Prefix
prefix_of f c = then_some (bits_of c) (prefix_in f)

-- the next element is a prefix, a BIT STRING, and the octets after it
abbrev pub prefix_at : Family → Octets → Result (Prefix × Octets) Report
prefix_at f q =
    then_read (expect_of Content 3 q) (λ b.
    then_read (lawful Content b.0.place (prefix_of f b.0.content)) (λ p. Ok (p, b.1)))

-- as the program holds them
abbrev pub prefix_seen : Prefix × Part → Prefix × Octets
prefix_seen p = (p.0, octets_of p.1)

-- a maximum lies between the prefix's length and the length of an address
abbrev pub between : ℕ → ℕ → ℕ → Option ℕ
between least most n = cond (nat_le least n && nat_le n most) (Some n) None

abbrev pub max_of : ℕ → ℕ → List ℕ → Option ℕ
max_of least most c = then_some (as_number c) (between least most)

-- an INTEGER is the maximum, with which the row ends
abbrev pub given_max : Prefix → Octets → Result (Option ℕ) Report
given_max p q =
    then_read (expect_of Content 2 q) (λ i.
    then_read (lawful Content i.0.place (max_of p.length (width p.family) i.0.content)) (λ m.
    then_read (end_of Content i.1) (λ _. Ok (Some m))))

-- the maximum may be absent
abbrev pub max_at : Prefix → Octets → Result (Option ℕ) Report
max_at p q = cond (length q.octets == 0) (Ok None) (given_max p q)

-- a row: a prefix, its maximum if it stands there, and nothing more
abbrev pub row_of : Family → Octets → Result RoaRow Report
row_of f q = then_read (prefix_at f q) (λ p. then_read (max_at p.0 p.1) (λ m. Ok record { prefix = p.0; max = m }))

-- the row in an element, where so many rows of its family stand before it: 256 are all that a family has
abbrev pub row_in : Family → ℕ → Seen → Result RoaRow Report
row_in f before e =
    cond (e.tag == 48)
    (cond (before == 256) (broken Content Count e.place) (row_of f (inside e)))
    (broken Content Structure e.place)

-- one row more, after the rows of the families before it, `base`, and the earlier rows of its own
abbrev pub row_step : Family → ℕ → List RoaRow → Seen → Result (List RoaRow) Report
row_step f base rows e = then_read (row_in f (length rows - base) e) (λ r. Ok (rows ++ (r ∷ [])))

-- the rows of a family, at least one, after those of the families before it
abbrev pub some_rows : Family → List RoaRow → Octets → Result (List RoaRow) Report
some_rows f rows q = cond (length q.octets == 0) (broken Content Structure q.place) (rows_of (row_step f (length rows)) rows q)
