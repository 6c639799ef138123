-- The content of a ROA (RFC 9582 4): roa = S{INT S{S{OCT S{S{BITS INT?}+}}+}}. Assumes nothing.
use Rattle.std.specs.Prelude.{ℕ, cond, List, [], length, take, Some, None, Ok, Option, Result, ◌==◌}
use Rattle.fault.specs.declared.Rule.TheVariants.{Structure}
use Rattle.fault.specs.declared.Layer.TheVariants.{Content}
use Rattle.fault.specs.declared.Report.{Report}
use Rattle.family.specs.declared.Family.{Family}
use Rattle.element.specs.Reading.{Seen, Octets}
use Rattle.layout.specs.Expecting.{broken, then_read, expect_of, end_of, inside}
use Rattle.layout.specs.Rows.{rows_of}
use Rattle.fields.specs.Fields.{as_number_of}
use Rattle.families.specs.Families.{family_after}
use Rattle.roa.specs.declared.RoaRow.{RoaRow}
use Rattle.roa.specs.declared.Roa.{Roa}
use Rattle.roa.specs.Rows.{some_rows}

-- what is known so far: the last family, if there is one, and the rows of all of them
pub record Known : Type 0 where
  pub family : Option Family
  pub rows : List RoaRow

-- what follows the name of a family: a SEQUENCE of its rows, and nothing more
abbrev pub family_rows : Family → List RoaRow → Octets → Result (List RoaRow) Report
family_rows f rows q =
    then_read (expect_of Content 48 q) (λ s.
    then_read (some_rows f rows (inside s.0)) (λ rs.
    then_read (end_of Content s.1) (λ _. Ok rs)))

-- one family more: its name, which ascends, and its rows
abbrev pub family_in : Known → Octets → Result Known Report
family_in s q =
    then_read (family_after Content s.family q) (λ h.
    then_read (family_rows h.0 s.rows h.1) (λ rs. Ok record { family = Some h.0; rows = rs }))

abbrev pub family_step : Known → Seen → Result Known Report
family_step s e = cond (e.tag == 48) (family_in s (inside e)) (broken Content Structure e.place)

abbrev pub nothing_known : Known
nothing_known = record { family = None; rows = [] }

-- the families, of which there is at least one
abbrev pub families_of : Octets → Result Known Report
families_of q = cond (length q.octets == 0) (broken Content Structure q.place) (rows_of family_step nothing_known q)

-- what a ROA says: an AS, and the rows of prefixes that it may announce, in their order
pub record Authorised : Type 0 where
  pub asn : ℕ
  pub rows : List RoaRow

abbrev pub body_of : Octets → Result Authorised Report
body_of q =
    then_read (as_number_of Content q) (λ a.
    then_read (expect_of Content 48 a.1) (λ s.
    then_read (families_of (inside s.0)) (λ k.
    then_read (end_of Content s.1) (λ _. Ok record { asn = a.0; rows = k.rows }))))

-- the content of a ROA: one SEQUENCE, and nothing after it
abbrev pub roa_of : Octets → Result Authorised Report
roa_of q =
    then_read (expect_of Content 48 q) (λ s.
    then_read (body_of (inside s.0)) (λ v.
    then_read (end_of Content s.1) (λ _. Ok v)))

-- as the program holds it: the rows stand at the front of a table
abbrev pub roa_seen : List RoaRow → Roa → Authorised
roa_seen table r = record { asn = r.asn; rows = take r.count table }

abbrev pub known_seen : List RoaRow → Option Family × ℕ → Known
known_seen table p = record { family = p.0; rows = take p.1 table }
