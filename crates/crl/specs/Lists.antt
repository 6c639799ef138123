-- A revocation list (RFC 5280 5.1, RFC 6487 5): crl = S{S{INT 1 any name time time S{S{serial time}+}? A0{S{ext+}}} any BITS}.
-- Assumes nothing.
use Rattle.std.specs.Prelude.{ℕ, cond, List, Some, None, Ok, Option, Result, ◌==◌}
use Rattle.std.specs.Option.{option_map}
use Rattle.fault.specs.declared.Rule.TheVariants.{Structure}
use Rattle.fault.specs.declared.Layer.TheVariants as layer
use Rattle.fault.specs.declared.Report.{Report}
use Rattle.moment.specs.Calendar.{number_in}
use Rattle.element.specs.declared.part.Part.{Part}
use Rattle.element.specs.declared.part.Element.{Element}
use Rattle.element.specs.Reading.{Seen, Octets, seen, octets_of}
use Rattle.layout.specs.Expecting.{broken, then_read, next_of, expect_of, end_of, inside}
use Rattle.fields.specs.Fields.{constant_of, sequence_of, time_of, whole_of}
use Rattle.x509.specs.Shared.{seal_of}
use Rattle.crl.specs.declared.Head.{Head}
use Rattle.crl.specs.declared.Body.{Body}
use Rattle.crl.specs.declared.Crl.{Crl}
use Rattle.crl.specs.Rows.{revoked_of}
use Rattle.crl.specs.Extensions.{extensions_of}

-- the front of the signed part: the algorithm, the issuer, and both dates
pub record Front : Type 0 where
  pub algorithm : Octets
  pub issuer : Octets
  pub from : ℕ
  pub until : ℕ

abbrev pub head_in : Head → Front
head_in h = record { algorithm = octets_of h.algorithm; issuer = octets_of h.issuer; from = number_in h.from; until = number_in h.until }

abbrev pub front_in : Head × Part → Front × Octets
front_in p = (head_in p.0, octets_of p.1)

abbrev pub front_of : Octets → Result (Front × Octets) Report
front_of q =
    then_read (constant_of layer.Crl 1 q) (λ a.
    then_read (sequence_of layer.Crl a) (λ algorithm.
    then_read (sequence_of layer.Crl algorithm.1) (λ issuer.
    then_read (time_of layer.Crl issuer.1) (λ begin.
    then_read (time_of layer.Crl begin.1) (λ end.
    Ok (record { algorithm = algorithm.0; issuer = issuer.0; from = begin.0; until = end.0 }, end.1))))))

-- the rows of revoked serials, if they stand, and then the element A0 (160) with the extensions, and the octets after it
abbrev pub tail_at : Seen × Octets → Result (Option Octets × Seen × Octets) Report
tail_at p =
    cond (p.0.tag == 48)
    (then_read (revoked_of (inside p.0)) (λ _. then_read (expect_of layer.Crl 160 p.1) (λ x. Ok (Some (inside p.0), x.0, x.1))))
    (cond (p.0.tag == 160) (Ok (None, p.0, p.1)) (broken layer.Crl Structure p.0.place))

abbrev pub tail_of : Octets → Result (Option Octets × Seen × Octets) Report
tail_of q = then_read (next_of layer.Crl q) tail_at

abbrev pub tail_in : Option Part × Element × Part → Option Octets × Seen × Octets
tail_in t = (option_map octets_of t.0, seen t.1, octets_of t.2)

-- the extensions in the element A0: one SEQUENCE of them, and nothing after it
abbrev pub wrapped_of : Octets → Result (Octets × Octets) Report
wrapped_of q =
    then_read (expect_of layer.Crl 48 q) (λ s.
    then_read (extensions_of (inside s.0)) (λ x.
    then_read (end_of layer.Crl s.1) (λ _. Ok x)))

-- what is known of the signed part
pub record Signed : Type 0 where
  pub front : Front
  pub revoked : Option Octets
  pub key : Octets
  pub number : Octets

abbrev pub body_in : Body → Signed
body_in b = record { front = head_in b.head; revoked = option_map octets_of b.revoked; key = octets_of b.key; number = octets_of b.number }

abbrev pub body_of : Octets → Result Signed Report
body_of q =
    then_read (front_of q) (λ f.
    then_read (tail_of f.1) (λ t.
    then_read (wrapped_of (inside t.1)) (λ x.
    then_read (end_of layer.Crl t.2) (λ _. Ok record { front = f.0; revoked = t.0; key = x.0; number = x.1 }))))

-- the value of a revocation list
pub record Value : Type 0 where
  pub signed : Octets
  pub issuer : Octets
  pub from : ℕ
  pub until : ℕ
  pub revoked : Option Octets
  pub key : Octets
  pub number : Octets
  pub signature : Octets

abbrev pub value_of : Octets → Signed → Octets → Value
value_of signed b signature =
    record {
      signed = signed;
      issuer = b.front.issuer;
      from = b.front.from;
      until = b.front.until;
      revoked = b.revoked;
      key = b.key;
      number = b.number;
      signature = signature;
    }

abbrev pub value_in : Crl → Value
value_in c =
    record {
      signed = octets_of c.signed;
      issuer = octets_of c.issuer;
      from = number_in c.from;
      until = number_in c.until;
      revoked = option_map octets_of c.revoked;
      key = octets_of c.key;
      number = octets_of c.number;
      signature = octets_of c.signature;
    }

-- the signed part, the algorithm again and the signature
abbrev pub inside_of : Octets → Result Value Report
inside_of q =
    then_read (whole_of layer.Crl 48 q) (λ s.
    then_read (body_of (inside s.1)) (λ b.
    then_read (seal_of layer.Crl b.front.algorithm.octets s.2) (λ signature. Ok (value_of s.0 b signature))))

-- a whole file: one SEQUENCE, and nothing after it
abbrev pub crl_of : Octets → Result Value Report
crl_of q =
    then_read (expect_of layer.Crl 48 q) (λ s.
    then_read (inside_of (inside s.0)) (λ v.
    then_read (end_of layer.Crl s.1) (λ _. Ok v)))

-- the octets of a file stand at offset 0
abbrev pub file_of : List ℕ → Octets
file_of s = record { octets = s; place = 0 }
