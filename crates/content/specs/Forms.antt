-- The form of a content by its kind, as tests. Grammar.antt has the same rules as relations. Assumes nothing.
use Rattle.std.specs.Prelude.{ℕ, ◌-◌, ◌%◌, ◌^◌, Bool, true, false, cond, not, ◌&&◌, ◌||◌, List, [], ◌∷◌, length, is_some, Ok, Err, Result, ◌==◌, nat_lt, slice_index}
use Rattle.fault.specs.declared.Breach.{Breach}
use Rattle.fault.specs.declared.Breach.TheVariants as breach
use Rattle.moment.specs.Times.{utc_of, generalized_of}
use Rattle.content.specs.declared.Kind.{Kind}
use Rattle.content.specs.declared.Kind.TheVariants.{Boolean, Integer, BitString, OctetString, Null, Oid, Ia5String, UtcTime, GeneralizedTime, Sequence, Set, Other}

-- one octet, 00 or FF (X.690 8.2, 11.1)
abbrev pub boolean_form : List ℕ → Bool
boolean_form c = length c == 1 && (slice_index c 0 == 0 || slice_index c 0 == 255)

-- at least one octet; of two and more, the first nine bits are not all alike (X.690 8.3)
abbrev pub integer_form : List ℕ → Bool
integer_form c =
    cond (nat_lt (length c) 2) (length c == 1)
    (cond (nat_lt (slice_index c 1) 128) (not (slice_index c 0 == 0)) (not (slice_index c 0 == 255)))

-- octets and a count of unused bits, 0 to 7, which are zeros at the end of the last octet; without octets there are none
abbrev pub bits_formed : List ℕ → ℕ → Bool
bits_formed o u =
    cond (nat_lt 7 u) false
    (cond (length o == 0) (u == 0) (slice_index o (length o - 1) % 2 ^ u == 0))

-- the count of unused bits, and then the octets (X.690 8.6, 11.2)
abbrev pub bits_form : List ℕ → Bool
bits_form [] = false
bits_form (u ∷ o) = bits_formed o u

-- the rest of an OBJECT IDENTIFIER, where the next octet begins a number or goes on with one
abbrev pub arcs : Bool → List ℕ → Bool
arcs begins [] = begins
arcs begins (b ∷ bs) = cond (begins && b == 128) false (arcs (nat_lt b 128) bs)

-- numbers in base 128, each in the fewest octets, at least one (X.690 8.19)
abbrev pub oid_form : List ℕ → Bool
oid_form c = cond (length c == 0) false (arcs true c)

-- each octet is below 80
abbrev pub below128 : List ℕ → Bool
below128 [] = true
below128 (b ∷ bs) = nat_lt b 128 && below128 bs

-- whether a content has the form of its kind, or how it breaks it
abbrev pub form_of : Kind → List ℕ → Result (Unit {0}) Breach
form_of Boolean c = cond (boolean_form c) (Ok tt) (Err breach.Boolean)
form_of Integer c = cond (integer_form c) (Ok tt) (Err breach.Integer)
form_of BitString c = cond (bits_form c) (Ok tt) (Err breach.BitString)
form_of OctetString c = Ok tt
form_of Null c = cond (length c == 0) (Ok tt) (Err breach.Null)
form_of Oid c = cond (oid_form c) (Ok tt) (Err breach.Oid)
form_of Ia5String c = cond (below128 c) (Ok tt) (Err breach.Ia5String)
form_of UtcTime c = cond (is_some (utc_of c)) (Ok tt) (Err breach.Time)
form_of GeneralizedTime c = cond (is_some (generalized_of c)) (Ok tt) (Err breach.Time)
form_of Sequence c = Ok tt
form_of Set c = Ok tt
form_of Other c = Ok tt
