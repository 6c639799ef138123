-- Which tag is which (X.690 8.1.2 and X.680 8.4, one octet always). Assumes nothing.
use Rattle.std.specs.Prelude.{ℕ, cond, ◌==◌}
use Rattle.content.specs.declared.Kind.{Kind}
use Rattle.content.specs.declared.Kind.TheVariants.{Boolean, Integer, BitString, OctetString, Null, Oid, Ia5String, UtcTime, GeneralizedTime, Sequence, Set, Other}

abbrev pub kind_of : ℕ → Kind
kind_of tag =
    cond (tag == 0x01) Boolean
    (cond (tag == 0x02) Integer
    (cond (tag == 0x03) BitString
    (cond (tag == 0x04) OctetString
    (cond (tag == 0x05) Null
    (cond (tag == 0x06) Oid
    (cond (tag == 0x16) Ia5String
    (cond (tag == 0x17) UtcTime
    (cond (tag == 0x18) GeneralizedTime
    (cond (tag == 0x30) Sequence
    (cond (tag == 0x31) Set Other))))))))))
