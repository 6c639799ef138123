-- The values of contents: each content has one, and each value one content. Assumes nothing.
use Rattle.std.proofs.Common.{◌≡◌, ℕ, ◌<◌, Bool, true, false, cond, eqb, leb, List, [], ◌∷◌, length, get_or, drop, Some, None, Decides, sym, refl, ap, ◌∙◌, inl, inr, arith}
use Rattle.std.proofs.lemmas.Bool.Decides.{nat_tests, same_from_decides}
use Rattle.content.specs.Forms.{boolean_form, integer_form, bits_form, oid_form}
use Rattle.content.specs.Values.{boolean_of, integer_of, bits_of, oid_of}
use Rattle.content.specs.Grammar.{BooleanContent, IntegerContent, BitStringContent, OidContent, BooleanValue, IntegerValue, BitStringValue, OidValue, ValueIn, ValuesOneToOne}
use Rattle.content.proofs.Decided.{boolean_decides, integer_decides, bits_decides, oid_decides}

-- a value of a content of lawful form, and none of any other
valued :
    {V : Type 0} (Value : List ℕ → V → Type 0) (P : Type 0) (c : List ℕ) (v : V) (t : Bool) → Decides t P
    → ((w : V) → Value c w → P) → (P → Value c v) → ValueIn Value c (cond t (Some v) None)
valued Value P c v true d only here = here (d.0 refl)
valued Value P c v false d only here = λ w h. (let e : false ≡ true = d.1 (only w h) in let z : ◌≡◌ {A = ℕ} 0 1 = cc in omega arith)

boolean_here : (c : List ℕ) → BooleanContent c → BooleanValue c (eqb (get_or c 0 0) 255)
boolean_here c (inl p) = p ∙ ap (λ (x : List ℕ). cond (eqb (get_or x 0 0) 255) 255 0 ∷ []) (sym p)
boolean_here c (inr p) = p ∙ ap (λ (x : List ℕ). cond (eqb (get_or x 0 0) 255) 255 0 ∷ []) (sym p)

boolean_only : (c : List ℕ) (b : Bool) → BooleanValue c b → BooleanContent c
boolean_only c true p = inr p
boolean_only c false p = inl p

pub boolean_valued : (c : List ℕ) → ValueIn BooleanValue c (boolean_of c)
boolean_valued c = valued BooleanValue (BooleanContent c) c _ (boolean_form c) (boolean_decides c) (boolean_only c) (boolean_here c)

pub integer_valued : (c : List ℕ) → ValueIn IntegerValue c (integer_of c)
integer_valued c =
    valued IntegerValue (IntegerContent c) c (c, leb 128 (get_or c 0 0)) (integer_form c) (integer_decides c) (λ w h. h.0)
    (λ p. (p, refl, (λ e. grind (arith, nat_tests), λ h. grind (arith, nat_tests))))

headed : (c : List ℕ) → 0 < length c → c ≡ get_or c 0 0 ∷ drop 1 c
headed [] h = absurd (omega arith)
headed (x ∷ c) h = refl

pub bits_valued : (c : List ℕ) → ValueIn BitStringValue c (bits_of c)
bits_valued c =
    valued BitStringValue (BitStringContent c) c (drop 1 c, get_or c 0 0) (bits_form c) (bits_decides c) (λ w h. h.0)
    (λ p. (p, headed c p.counted))

pub oid_valued : (c : List ℕ) → ValueIn OidValue c (oid_of c)
oid_valued c = valued OidValue (OidContent c) c c (oid_form c) (oid_decides c) (λ w h. h.0) (λ p. (p, refl))

one_boolean : (a b : Bool) → ◌≡◌ {A = List ℕ} (cond a 255 0 ∷ []) (cond b 255 0 ∷ []) → a ≡ b
one_boolean true true e = refl
one_boolean false false e = refl
one_boolean true false e = let z : ◌≡◌ {A = ℕ} 255 0 = cc in absurd (omega arith)
one_boolean false true e = let z : ◌≡◌ {A = ℕ} 0 255 = cc in absurd (omega arith)

same_pair : {X Y : Type 0} (v w : X × Y) → v.0 ≡ w.0 → v.1 ≡ w.1 → v ≡ w
same_pair {X} {Y} v w e f = ap (λ (x : X). (x, v.1)) e ∙ ap (λ (y : Y). (w.0, y)) f

pub values_one_to_one : ValuesOneToOne
values_one_to_one = (
  record { one_value = λ c v w p q. one_boolean v w (sym p ∙ q); one_content = λ c d v p q. p ∙ sym q },
  record {
    one_value = λ c v w p q. (let e : v.0 ≡ w.0 = sym p.1 ∙ q.1 in let f : v.1 ≡ w.1 = same_from_decides v.1 w.1 p.2 q.2 in same_pair v w e f);
    one_content = λ c d v p q. p.1 ∙ sym q.1;
  },
  record {
    one_value = λ c v w p q. (let e : v.1 ∷ v.0 ≡ w.1 ∷ w.0 = sym p.1 ∙ q.1 in let f : v.0 ≡ w.0 = cc in let g : v.1 ≡ w.1 = cc in same_pair v w f g);
    one_content = λ c d v p q. p.1 ∙ sym q.1;
  },
  record { one_value = λ c v w p q. sym p.1 ∙ q.1; one_content = λ c d v p q. p.1 ∙ sym q.1 },
)
