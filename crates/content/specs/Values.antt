-- The typed value of a content, or none where it breaks its form. Assumes nothing.
use Rattle.std.specs.Prelude.{ℕ, Bool, cond, List, drop, Some, None, Option, ◌==◌, nat_le, slice_index}
use Rattle.std.specs.Option.{option_map}
use Rattle.content.specs.declared.Integer.{Integer}
use Rattle.content.specs.declared.BitString.{BitString}
use Rattle.content.specs.declared.Oid.{Oid}
use Rattle.content.specs.Forms.{boolean_form, integer_form, bits_form, oid_form}

abbrev pub boolean_of : List ℕ → Option Bool
boolean_of c = cond (boolean_form c) (Some (slice_index c 0 == 255)) None

-- the octets of an INTEGER, and whether it lies below zero
abbrev pub integer_of : List ℕ → Option (List ℕ × Bool)
integer_of c = cond (integer_form c) (Some (c, nat_le 128 (slice_index c 0))) None

-- the octets of a BIT STRING, and its count of unused bits
abbrev pub bits_of : List ℕ → Option (List ℕ × ℕ)
bits_of c = cond (bits_form c) (Some (drop 1 c, slice_index c 0)) None

abbrev pub oid_of : List ℕ → Option (List ℕ)
oid_of c = cond (oid_form c) (Some c) None

-- what a reader answered, as octets and numbers
abbrev pub integer_seen : Option Integer → Option (List ℕ × Bool)
integer_seen r = option_map (λ v. (v.octets.now, v.negative)) r

abbrev pub bits_seen : Option BitString → Option (List ℕ × ℕ)
bits_seen r = option_map (λ v. (v.octets.now, v.unused)) r

abbrev pub oid_seen : Option Oid → Option (List ℕ)
oid_seen r = option_map (λ v. v.octets.now) r
