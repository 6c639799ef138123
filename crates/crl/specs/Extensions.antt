-- The extensions of a revocation list (RFC 5280 5.2, RFC 6487 5). Assumes nothing.
use Rattle.std.specs.Prelude.{ℕ, ◌+◌, false, cond, not, ◌&&◌, List, [], ◌∷◌, length, is_some, Some, None, Ok, Option, Result}
use Rattle.std.specs.Option.{option_map}
use Rattle.std.specs.Str.{bytes_eq}
use Rattle.fault.specs.declared.Rule.TheVariants.{Structure}
use Rattle.fault.specs.declared.Layer.TheVariants.{Crl}
use Rattle.fault.specs.declared.Report.{Report}
use Rattle.element.specs.Reading.{Seen, Octets, octets_of}
use Rattle.layout.specs.Expecting.{broken, then_read, end_of, inside}
use Rattle.layout.specs.Rows.{rows_of}
use Rattle.fields.specs.Fields.{lawful, number20_of}
use Rattle.x509.specs.Shared.{opened_of, value_octets, key_after, issuer_key_front}
use Rattle.crl.specs.declared.Extensions.{Extensions}

-- 2.5.29.35, the authority key identifier
abbrev pub key_oid : List ℕ
key_oid = 85 ∷ (29 ∷ (35 ∷ []))

-- 2.5.29.20, the CRL number
abbrev pub number_oid : List ℕ
number_oid = 85 ∷ (29 ∷ (20 ∷ []))

-- what was found of the two extensions so far
pub record Found : Type 0 where
  pub key : Option Octets
  pub number : Option Octets

abbrev pub found_in : Extensions → Found
found_in x = record { key = option_map octets_of x.key; number = option_map octets_of x.number }

-- the issuer's key id, from what follows the OID in its extension
abbrev pub key_of : Octets → Result Octets Report
key_of q =
    then_read (value_octets Crl false q) (λ v.
    then_read (lawful Crl v.0.place (key_after issuer_key_front (inside v.0))) (λ k.
    then_read (end_of Crl v.1) (λ _. Ok k)))

-- the number of the list, an INTEGER from 0 of at most 20 octets, which fills its OCTET STRING
abbrev pub number_of : Octets → Result Octets Report
number_of q =
    then_read (value_octets Crl false q) (λ v.
    then_read (number20_of Crl (inside v.0)) (λ n.
    then_read (end_of Crl n.1) (λ _.
    then_read (end_of Crl v.1) (λ _. Ok n.0))))

-- one extension: each of the two once, and no other
abbrev pub extension_at : Found → ℕ → Seen × Octets → Result Found Report
extension_at s place p =
    cond (bytes_eq p.0.content key_oid && not (is_some s.key)) (then_read (key_of p.1) (λ k. Ok record { key = Some k; number = s.number }))
    (cond (bytes_eq p.0.content number_oid && not (is_some s.number)) (then_read (number_of p.1) (λ n. Ok record { key = s.key; number = Some n }))
    (broken Crl Structure place))

abbrev pub extension_step : Found → Seen → Result Found Report
extension_step s e = then_read (opened_of Crl e) (extension_at s e.place)

-- both have to stand; what is missing is missing at the end of the row
abbrev pub both_found : ℕ → Option Octets → Option Octets → Result (Octets × Octets) Report
both_found place (Some k) (Some n) = Ok (k, n)
both_found place (Some k) None = broken Crl Structure place
both_found place None n = broken Crl Structure place

abbrev pub none_found : Found
none_found = record { key = None; number = None }

abbrev pub found_of : Octets → Result Found Report
found_of q = rows_of extension_step none_found q

-- the key id and the number, from a row of extensions
abbrev pub extensions_of : Octets → Result (Octets × Octets) Report
extensions_of q = then_read (found_of q) (λ s. both_found (q.place + length q.octets) s.key s.number)
