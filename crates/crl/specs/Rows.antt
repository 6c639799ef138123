-- The rows of a revocation list (RFC 5280 5.1.2.6). Assumes nothing.
use Rattle.std.specs.Prelude.{cond, length, Result, ◌==◌}
use Rattle.fault.specs.declared.Rule.TheVariants.{Structure}
use Rattle.fault.specs.declared.Layer.TheVariants.{Crl}
use Rattle.fault.specs.declared.Report.{Report}
use Rattle.element.specs.Reading.{Seen, Octets}
use Rattle.layout.specs.Expecting.{broken, then_read, end_of, inside}
use Rattle.layout.specs.Rows.{rows_of}
use Rattle.fields.specs.Fields.{serial_of, time_of}

-- a revoked certificate: its serial, when it was revoked, and nothing more
abbrev pub row_of : Seen → Result (Unit {0}) Report
row_of e =
    cond (e.tag == 48)
    (then_read (serial_of Crl (inside e)) (λ s. then_read (time_of Crl s.1) (λ t. end_of Crl t.1)))
    (broken Crl Structure e.place)

abbrev pub row_step : Unit {0} → Seen → Result (Unit {0}) Report
row_step u e = row_of e

-- at least one row
abbrev pub revoked_of : Octets → Result (Unit {0}) Report
revoked_of q = cond (length q.octets == 0) (broken Crl Structure q.place) (rows_of row_step tt q)
