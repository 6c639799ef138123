-- The tests on contents decide the relations of the grammar. Assumes nothing.
use Rattle.std.proofs.Common.{◌≡◌, ℕ, zero, suc, ◌-◌, ◌<◌, Bool, true, false, cond, ◌||◌, eqb, ltb, ◌⊎◌, List, [], ◌∷◌, length, get_or, is_some, Some, None, Ok, Err, Decides, MatchBool, Option, sym, refl, ap, ◌∙◌, inl, inr, arith}
use Rattle.std.specs.Str.{IsAscii, IsNotAscii}
use Rattle.std.proofs.lemmas.Bool.{cases_lt, cases_Bool}
use Rattle.std.proofs.lemmas.List.{get_or_past}
use Rattle.std.proofs.lemmas.Bool.Decides.{nat_tests, Decides-like, Decides-ltb, eqb_tells}
use Rattle.std.proofs.ByRecursion.{Decides-by_and, All-get_or, All-from_get_or}
use Rattle.fault.specs.declared.Breach.{Breach}
use Rattle.moment.specs.Times.{UtcTime as UtcTimeOf, GeneralizedTime as GeneralizedTimeOf, utc_of, generalized_of}
use Rattle.moment.proofs.Readings.{utc_sound, utc_complete, generalized_sound, generalized_complete}
use Rattle.content.specs.declared.Kind.{Kind}
use Rattle.content.specs.declared.Kind.TheVariants.{Boolean, Integer, BitString, OctetString, Null, Oid, Ia5String, UtcTime, GeneralizedTime, Sequence, Set, Other}
use Rattle.content.specs.Forms.{boolean_form, integer_form, bits_form, arcs, oid_form, below128, form_of}
use Rattle.content.specs.Grammar.{BooleanContent, sign_octet, IntegerContent, BitStringContent, NullContent, NumberBegins, OidContent, Ia5Content, ContentOf, Checked}

-- no test is both
never : false ≡ true → ⊥
never e = let z : ◌≡◌ {A = ℕ} 0 1 = cc in omega arith

octet_cases : (x : ℕ) → (eqb x 0 || eqb x 255) ≡ true → (x ≡ 0) ⊎ (x ≡ 255)
octet_cases x e = elim (eqb_tells x 0) [ inl p ↦ inl p.1 | inr q ↦ inr (grind (arith, nat_tests)) ]

pub boolean_decides : (c : List ℕ) → Decides (boolean_form c) (BooleanContent c)
boolean_decides [] = (λ e. absurd (never e), λ p. elim p [ inl q ↦ cc | inr q ↦ cc ])
boolean_decides (x ∷ []) = (
  λ e. elim (octet_cases x e) [ inl q ↦ inl (ap (λ (n : ℕ). n ∷ []) q) | inr q ↦ inr (ap (λ (n : ℕ). n ∷ []) q) ],
  λ p. elim p [ inl q ↦ (let h : x ≡ 0 = cc in grind (arith, nat_tests)) | inr q ↦ (let h : x ≡ 255 = cc in grind (arith, nat_tests)) ],
)
boolean_decides (x ∷ (y ∷ c)) = (
  λ e. absurd (grind (arith, nat_tests)),
  λ p. elim p [ inl q ↦ cc | inr q ↦ cc ],
)

-- the first nine bits are alike exactly where the first octet only repeats the sign of the rest
nine_bits : (x y : ℕ) (c : List ℕ) → integer_form (x ∷ (y ∷ c)) ≡ true → x ≡ sign_octet (y ∷ c) → ⊥
nine_bits x y c e h = grind (arith, nat_tests)

nine_bits_apart : (x y : ℕ) (c : List ℕ) → (x ≡ sign_octet (y ∷ c) → ⊥) → integer_form (x ∷ (y ∷ c)) ≡ true
nine_bits_apart x y c h = grind (arith, nat_tests)

pub integer_decides : (c : List ℕ) → Decides (integer_form c) (IntegerContent c)
integer_decides [] = (λ e. absurd (never e), λ p. let h = p.some in absurd (omega arith))
integer_decides (x ∷ []) = (
  λ e. record { some = grind (arith, nat_tests); shortest = λ d some q. (let h : d ≡ [] = cc in let k : length d ≡ 0 = ap length h in omega arith) },
  λ p. refl,
)
integer_decides (x ∷ (y ∷ c)) = (
  λ e. record { some = grind (arith, nat_tests); shortest = λ d some q. (let h : y ∷ c ≡ d = cc in let k : x ≡ sign_octet d = cc in nine_bits x y c e (k ∙ ap sign_octet (sym h))) },
  λ p. nine_bits_apart x y c (λ h. p.shortest (y ∷ c) (grind (arith, nat_tests)) (ap (λ (n : ℕ). n ∷ (y ∷ c)) h)),
)

pub bits_decides : (c : List ℕ) → Decides (bits_form c) (BitStringContent c)
bits_decides [] = (λ e. absurd (never e), λ p. let h = p.counted in absurd (omega arith))
bits_decides (u ∷ o) =
    let l : length (u ∷ o) - 1 ≡ length o = omega arith in (
      λ e. record {
        counted = omega arith;
        few = grind (arith, nat_tests);
        none = λ n. grind (arith, nat_tests);
        zero = λ n. grind (arith, nat_tests);
      },
      λ p. let b = p.few in let d = p.none in let z = p.zero in grind (arith, nat_tests),
    )

pub null_decides : (c : List ℕ) → Decides (eqb (length c) 0) (NullContent c)
null_decides [] = (λ e. refl, λ p. refl)
null_decides (x ∷ c) = (λ e. absurd (grind (arith, nat_tests)), λ p. cc)

pub ia5_decides : (c : List ℕ) → Decides (below128 c) (Ia5Content c)
ia5_decides c =
    let low : ℕ → Type 0 = λ x. x < 128 in
    Decides-like (below128 c) (λ all k h. All-get_or low c k 0 h all) (λ p. All-from_get_or low c 0 p)
    (Decides-by_and (λ x. ltb x 128) low below128 (λ x. Decides-ltb x 128) refl (λ _ _. refl) c)

-- the octets that a number goes on in, or that begin one
record Arcs (b : Bool) (c : List ℕ) : Type 0 where
  none : length c ≡ 0 → b ≡ true
  ended : 0 < length c → get_or c (length c - 1) 0 < 128
  first : 0 < length c → b ≡ true → get_or c 0 0 ≡ 128 → ⊥
  later : (k : ℕ) → suc k < length c → get_or c k 0 < 128 → get_or c (suc k) 0 ≡ 128 → ⊥

less_one : (n : ℕ) → suc n - 1 ≡ n
less_one n = omega arith

ended_more : (x : ℕ) (c : List ℕ) → Arcs (ltb x 128) c → get_or (x ∷ c) (suc (length c) - 1) 0 < 128
ended_more x [] q = let h = q.none refl in grind (arith, nat_tests)
ended_more x (y ∷ c) q =
    let h : get_or (y ∷ c) (length c) 0 < 128 = rw (less_one (length c)) at (q.ended (omega arith)) in
    rw (less_one (suc (length c))) h

later_more : (x : ℕ) (c : List ℕ) → Arcs (ltb x 128) c → (k : ℕ) → suc k < suc (length c) → get_or (x ∷ c) k 0 < 128 → get_or c k 0 ≡ 128 → ⊥
later_more x c q zero h low e = q.first (omega arith) (grind (arith, nat_tests)) e
later_more x c q (suc k) h low e = q.later k (omega arith) low e

arcs_give : (b : Bool) (c : List ℕ) → arcs b c ≡ true → Arcs b c
arcs_give b [] e = record { none = λ _. e; ended = λ h. absurd (omega arith); first = λ h. absurd (omega arith); later = λ k h. absurd (omega arith) }
arcs_give b (x ∷ c) e =
    let rest : arcs (ltb x 128) c ≡ true = grind (arith, nat_tests) in
    let q = arcs_give (ltb x 128) c rest in
    record {
      none = λ h. absurd (omega arith);
      ended = λ h. ended_more x c q;
      first = λ h begins at. never (grind (arith, nat_tests));
      later = later_more x c q;
    }

tail_arcs : (b : Bool) (x : ℕ) (c : List ℕ) → Arcs b (x ∷ c) → Arcs (ltb x 128) c
tail_arcs b x [] p =
    let h : x < 128 = p.ended (omega arith) in
    record { none = λ _. grind (arith, nat_tests); ended = λ k. absurd (omega arith); first = λ k. absurd (omega arith); later = λ k l. absurd (omega arith) }
tail_arcs b x (y ∷ c) p =
    let h : get_or (y ∷ c) (length c) 0 < 128 = rw (less_one (suc (length c))) at (p.ended (omega arith)) in
    record {
      none = λ k. absurd (omega arith);
      ended = λ k. rw (less_one (length c)) h;
      first = λ k low e. p.later 0 (omega arith) (grind (arith, nat_tests)) e;
      later = λ k l low e. p.later (suc k) (omega arith) low e;
    }

arcs_from : (b : Bool) (c : List ℕ) → Arcs b c → arcs b c ≡ true
arcs_from b [] p = p.none refl
arcs_from b (x ∷ c) p =
    let f : b ≡ true → x ≡ 128 → ⊥ = p.first (omega arith) in
    let rest = arcs_from (ltb x 128) c (tail_arcs b x c p) in
    grind (arith, nat_tests)

fewest_at : (c : List ℕ) → Arcs true c → (k : ℕ) → k < length c → NumberBegins c k → get_or c k 0 ≡ 128 → ⊥
fewest_at c q zero h b e = q.first h refl e
fewest_at c q (suc k) h b e = q.later k h b e

pub oid_decides : (c : List ℕ) → Decides (oid_form c) (OidContent c)
oid_decides [] = (λ e. absurd (never e), λ p. let h = p.some in absurd (omega arith))
oid_decides (x ∷ c) = (
  λ e. let f : arcs true (x ∷ c) ≡ true = grind (arith, nat_tests) in
      let q = arcs_give true (x ∷ c) f in
      record { some = omega arith; ended = q.ended (omega arith); fewest = fewest_at (x ∷ c) q },
  λ p. let f : arcs true (x ∷ c) ≡ true = arcs_from true (x ∷ c) (record {
    none = λ h. refl;
    ended = λ h. p.ended;
    first = λ h b e. p.fewest 0 h tt e;
    later = λ k h low e. p.fewest (suc k) h low e;
  }) in
      grind (arith, nat_tests),
)

-- a reader that finds exactly what stands in a relation decides whether there is such a thing
reader-decides :
    (o : Option ℕ) (P : ℕ → Type 0) → ((m : ℕ) → o ≡ Some m → P m) → ((m : ℕ) → P m → o ≡ Some m)
    → Decides (is_some o) ((m : ℕ) × P m)
reader-decides None P sound complete =
    (λ e. absurd (never e), λ p. let e = complete p.0 p.1 in let z : ◌≡◌ {A = ℕ} 0 1 = cc in absurd (omega arith))
reader-decides (Some m) P sound complete = (λ e. (m, sound m refl), λ p. refl)

utc_decides : (c : List ℕ) → Decides (is_some (utc_of c)) ((m : ℕ) × UtcTimeOf c m)
utc_decides c = reader-decides (utc_of c) (UtcTimeOf c) (utc_sound c) (utc_complete c)

generalized_decides : (c : List ℕ) → Decides (is_some (generalized_of c)) ((m : ℕ) × GeneralizedTimeOf c m)
generalized_decides c = reader-decides (generalized_of c) (GeneralizedTimeOf c) (generalized_sound c) (generalized_complete c)

-- a test with its answer is the check of the form
checked_by : (t : Bool) (k : Kind) (c : List ℕ) (b : Breach) → Decides t (ContentOf k c) → Checked k c (cond t (Ok tt) (Err b))
checked_by true k c b d = d.0 refl
checked_by false k c b d = λ p. never (d.1 p)

pub form_checked : (k : Kind) (c : List ℕ) → Checked k c (form_of k c)
form_checked Boolean c = checked_by _ Boolean c _ (boolean_decides c)
form_checked Integer c = checked_by _ Integer c _ (integer_decides c)
form_checked BitString c = checked_by _ BitString c _ (bits_decides c)
form_checked OctetString c = tt
form_checked Null c = checked_by _ Null c _ (null_decides c)
form_checked Oid c = checked_by _ Oid c _ (oid_decides c)
form_checked Ia5String c = checked_by _ Ia5String c _ (ia5_decides c)
form_checked UtcTime c = checked_by _ UtcTime c _ (utc_decides c)
form_checked GeneralizedTime c = checked_by _ GeneralizedTime c _ (generalized_decides c)
form_checked Sequence c = tt
form_checked Set c = tt
form_checked Other c = tt

ascii_not : (c : List ℕ) → below128 c ≡ true → IsNotAscii c → ⊥
ascii_not c t h =
    elim (cases_lt h.0 (length c)) [
      | inl l ↦ (let a = (ia5_decides c).0 t h.0 l in omega (arith, h.1))
      | inr l ↦ (let e = get_or_past c h.0 0 l in omega (arith, h.1))
    ]

-- the library's test on ASCII is ours
pub ascii_is : (c : List ℕ) (r : Bool) → MatchBool r (IsAscii c) (IsNotAscii c) → r ≡ below128 c
ascii_is c true h = sym ((ia5_decides c).1 (λ k l. h k))
ascii_is c false h = elim (cases_Bool (below128 c)) [ inl t ↦ absurd (ascii_not c t h) | inr f ↦ sym f ]
