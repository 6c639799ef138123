-- What certificates and revocation lists share: an extension up to its value, key identifiers, and the signature (RFC 5280 4.1,
-- 4.2 and 5.1). Assumes nothing.
use Rattle.std.specs.Prelude.{ℕ, ◌+◌, Bool, cond, ◌&&◌, List, [], ◌∷◌, length, take, drop, Some, None, Ok, Option, Result, ◌==◌}
use Rattle.std.specs.Str.{bytes_eq}
use Rattle.fault.specs.declared.Rule.TheVariants.{Structure, Value}
use Rattle.fault.specs.declared.Layer.{Layer}
use Rattle.fault.specs.declared.Report.{Report}
use Rattle.element.specs.Reading.{Seen, Octets}
use Rattle.layout.specs.Expecting.{broken, then_read, expect_of, next_of, end_of, inside}
use Rattle.fields.specs.Fields.{sequence_of, whole_bits_of}

-- an extension is a SEQUENCE, and begins with its OID: the OID, and the octets after it
abbrev pub opened_of : Layer → Seen → Result (Seen × Octets) Report
opened_of l e = cond (e.tag == 48) (expect_of l 6 (inside e)) (broken l Structure e.place)

-- a BOOLEAN that is true
abbrev pub is_true : List ℕ → Bool
is_true c = bytes_eq c (255 ∷ [])

-- where a BOOLEAN stands, the extension has to be critical, and it has to be true; then the OCTET STRING follows
abbrev pub after_flag : Layer → Bool → Seen × Octets → Result (Seen × Octets) Report
after_flag l critical p = cond (critical && is_true p.0.content) (expect_of l 4 p.1) (broken l Value p.0.place)

-- where an OCTET STRING stands, the extension may not be critical
abbrev pub without_flag : Layer → Bool → Seen × Octets → Result (Seen × Octets) Report
without_flag l critical p = cond critical (broken l Value p.0.place) (Ok p)

-- the OCTET STRING with the value of an extension, and the octets after it: a critical one has a BOOLEAN before it
-- that is true, another has none
abbrev pub value_octets : Layer → Bool → Octets → Result (Seen × Octets) Report
value_octets l critical q =
    then_read (next_of l q) (λ p.
    cond (p.0.tag == 1) (after_flag l critical p)
    (cond (p.0.tag == 4) (without_flag l critical p) (broken l Structure p.0.place)))

-- the octets after the first so many
abbrev pub skipped : ℕ → Octets → Octets
skipped n q = record { octets = drop n q.octets; place = q.place + n }

-- octets are this front and then 20 more
abbrev pub is_key : List ℕ → List ℕ → Bool
is_key front s = length s == length front + 20 && bytes_eq (take (length front) s) front

-- a key identifier: 20 octets after this front, and nothing else
abbrev pub key_after : List ℕ → Octets → Option Octets
key_after front q = cond (is_key front q.octets) (Some (skipped (length front) q)) None

-- the own key id: an OCTET STRING of 20 octets (RFC 6487 4.8.2)
abbrev pub own_key_front : List ℕ
own_key_front = 4 ∷ (20 ∷ [])

-- the issuer's key id: a SEQUENCE of 20 octets of tag 80 (RFC 6487 4.8.3)
abbrev pub issuer_key_front : List ℕ
issuer_key_front = 48 ∷ (22 ∷ (128 ∷ (20 ∷ [])))

-- the algorithm stands twice: the second is the first, as whole elements
abbrev pub same_algorithm : Layer → List ℕ → Octets → Result (Unit {0}) Report
same_algorithm l first second = cond (bytes_eq first second.octets) (Ok tt) (broken l Value second.place)

-- the end of what is signed: the algorithm once more, and the signature as a BIT STRING of whole octets
abbrev pub seal_of : Layer → List ℕ → Octets → Result Octets Report
seal_of l algorithm q =
    then_read (sequence_of l q) (λ again.
    then_read (same_algorithm l algorithm again.0) (λ _.
    then_read (whole_bits_of l again.1) (λ bits.
    then_read (end_of l bits.1) (λ _. Ok bits.0))))
