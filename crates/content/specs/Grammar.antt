-- Which octets are a content of each kind, in the standard's words. Assumes nothing.
use Rattle.std.specs.Prelude.{◌≡◌, ℕ, zero, suc, ◌-◌, ◌%◌, ◌^◌, ◌<◌, ◌≤◌, Bool, cond, ◌⊎◌, List, [], ◌∷◌, length, Some, None, Ok, Err, Decides, Option, Result, ◌≢◌, nat_lt, slice_index, slice_index_or}
use Rattle.fault.specs.declared.Breach.{Breach}
use Rattle.moment.specs.Times.{UtcTime as UtcTimeOf, GeneralizedTime as GeneralizedTimeOf}
use Rattle.content.specs.declared.Kind.{Kind}
use Rattle.content.specs.declared.Kind.TheVariants.{Boolean, Integer, BitString, OctetString, Null, Oid, Ia5String, UtcTime, GeneralizedTime, Sequence, Set, Other}

-- BOOLEAN: one octet, 00 for false and FF for true (X.690 8.2, 11.1)
abbrev pub BooleanContent : List ℕ → Type 0
BooleanContent c = (c ≡ 0 ∷ []) ⊎ (c ≡ 255 ∷ [])

-- the octet that may stand in front of a two's complement number and leave its value as it is
abbrev pub sign_octet : List ℕ → ℕ
sign_octet d = cond (nat_lt (slice_index d 0) 128) 0 255

-- INTEGER: two's complement, at least one octet, and none in front that only repeats the sign (X.690 8.3)
pub record IntegerContent (c : List ℕ) : Type 0 where
  pub some : 0 < length c
  pub shortest : (d : List ℕ) → 0 < length d → c ≢ sign_octet d ∷ d

-- BIT STRING: the count of unused bits, 0 to 7, then the octets; unused bits are zero, and without octets
-- there are none (X.690 8.6, 11.2)
pub record BitStringContent (c : List ℕ) : Type 0 where
  pub counted : 0 < length c
  pub few : slice_index_or c 0 0 ≤ 7
  pub none : length c ≡ 1 → slice_index c 0 ≡ 0
  pub zero : 1 < length c → slice_index c (length c - 1) % 2 ^ slice_index c 0 ≡ 0

-- NULL: no octets (X.690 8.8)
abbrev pub NullContent : List ℕ → Type 0
NullContent c = c ≡ []

-- a number of an OBJECT IDENTIFIER begins at the place k: at the front, or after the last octet of another
abbrev pub NumberBegins : List ℕ → ℕ → Type 0
NumberBegins c zero = Unit {0}
NumberBegins c (suc k) = slice_index c k < 128

-- OBJECT IDENTIFIER: numbers in base 128, each octet of one but its last with the high bit set; the last is
-- whole, and none begins with 80, so that each has its fewest octets (X.690 8.19)
pub record OidContent (c : List ℕ) : Type 0 where
  pub some : 0 < length c
  pub ended : slice_index_or c (length c - 1) 0 < 128
  pub fewest : (k : ℕ) → k < length c → NumberBegins c k → slice_index c k ≢ 128

-- IA5String: each octet is below 80 (X.680 41, X.690 8.23)
abbrev pub Ia5Content : List ℕ → Type 0
Ia5Content c = (k : ℕ) → k < length c → slice_index c k < 128

-- the content of an element by its kind, of the two kinds of time as that of some moment (X.690 11.7, 11.8);
-- the kinds that have no rule take any octets
abbrev pub ContentOf : Kind → List ℕ → Type 0
ContentOf Boolean c = BooleanContent c
ContentOf Integer c = IntegerContent c
ContentOf BitString c = BitStringContent c
ContentOf OctetString c = Unit {0}
ContentOf Null c = NullContent c
ContentOf Oid c = OidContent c
ContentOf Ia5String c = Ia5Content c
ContentOf UtcTime c = (m : ℕ) × UtcTimeOf c m
ContentOf GeneralizedTime c = (m : ℕ) × GeneralizedTimeOf c m
ContentOf Sequence c = Unit {0}
ContentOf Set c = Unit {0}
ContentOf Other c = Unit {0}

-- a check of a content's form answers as the standard has it
abbrev pub Checked : Kind → List ℕ → Result (Unit {0}) Breach → Type 0
Checked k c (Ok u) = ContentOf k c
Checked k c (Err b) = ContentOf k c → ⊥

-- the value of a BOOLEAN's content
abbrev pub BooleanValue : List ℕ → Bool → Type 0
BooleanValue c b = c ≡ cond b 255 0 ∷ []

-- the octets of an INTEGER are its content, and it lies below zero where the first bit is set
abbrev pub IntegerValue : List ℕ → List ℕ × Bool → Type 0
IntegerValue c v = IntegerContent c × (c ≡ v.0) × Decides v.1 (128 ≤ slice_index c 0)

-- the content of a BIT STRING is its count of unused bits and its octets
abbrev pub BitStringValue : List ℕ → List ℕ × ℕ → Type 0
BitStringValue c v = BitStringContent c × (c ≡ v.1 ∷ v.0)

-- the octets of an OBJECT IDENTIFIER are its content
abbrev pub OidValue : List ℕ → List ℕ → Type 0
OidValue c v = OidContent c × (c ≡ v)

-- a reader's answer is the value, and none exactly where the content has none
abbrev pub ValueIn : {V : Type 0} → (List ℕ → V → Type 0) → List ℕ → Option V → Type 0
ValueIn Value c (Some v) = Value c v
ValueIn {V} Value c None = (v : V) → Value c v → ⊥

-- no content has two values, and no value two contents
pub record OneToOne {V : Type 0} (Value : List ℕ → V → Type 0) : Type 0 where
  pub one_value : (c : List ℕ) (v w : V) → Value c v → Value c w → v ≡ w
  pub one_content : (c d : List ℕ) (v : V) → Value c v → Value d v → c ≡ d

abbrev pub ValuesOneToOne : Type 0
ValuesOneToOne = OneToOne BooleanValue × OneToOne IntegerValue × OneToOne BitStringValue × OneToOne OidValue
