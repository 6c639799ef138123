-- A word is read as a number exactly where it is the number's text. Assumes nothing.
use Rattle.std.proofs.Common.{◌≡◌, ℕ, zero, suc, ◌+◌, ◌-◌, ◌*◌, ◌/◌, ◌%◌, ◌^◌, ◌<◌, ◌≤◌, Bool, true, false, cond, not, ◌&&◌, leb, List, [], ◌∷◌, ◌++◌, length, get_or, drop, IfSome, Some, None, decimal, Option, sym, refl, ap, ◌∙◌, subst, inl, inr, arith, rules}
use Rattle.std.specs.Str.{all_ascii_digits}
use Rattle.std.proofs.lemmas.Bool.{cases_Bool, leb-true, le-leb, ne_eqb, and_from}
use Rattle.std.proofs.lemmas.Str.Parse.{IsNumeralModel, numerals_by_fold}
use Rattle.std.proofs.lemmas.Fmt.{decimal-digits_value, decimal_by_steps, decimal_digit, decimal_nonempty, first_decimal}
use Rattle.std.proofs.lemmas.Bool.Decides.{nat_tests}
use Rattle.std.proofs.lemmas.List.{at_drop_more}
use Rattle.numeral.specs.Numbers.{grown, number_from, plain, number_of, ReadsNumber}

-- the number that digits write
abbrev read_on : ℕ → List ℕ → ℕ
read_on n [] = n
read_on n (c ∷ cs) = read_on (n * 10 + (c - 48)) cs

own : IsNumeralModel (λ ds. all_ascii_digits ds ≡ true) (read_on 0)
own = numerals_by_fold _ (search rules) read_on (search rules)

-- nothing stays nothing
pub from_none : (most : ℕ) (cs : List ℕ) → number_from most None cs ≡ None
from_none most [] = refl
from_none most (c ∷ cs) = from_none most cs

none_some : {B : Type 0} (n : ℕ) → None ≡ Some n → B
none_some n e = let z : ◌≡◌ {A = ℕ} 0 1 = cc in absurd (omega arith)

-- a further digit was taken: it is one, and the number grew by it
grown_inv : (most n c m : ℕ) → grown most (Some n) c ≡ Some m → ((leb 48 c && leb c 57) ≡ true) × (m ≡ n * 10 + (c - 48)) × (m ≤ most)
grown_inv most n c m h = elim (cases_Bool (leb 48 c && leb c 57)) [
  | inl e ↦
      let next : ℕ = n * 10 + (c - 48) in
      let f : cond (leb next most) (Some next) None ≡ Some m = sym (ap (λ (b : Bool). cond b (cond (leb next most) (Some next) None) None) e) ∙ h in
      elim (cases_Bool (leb next most)) [
        | inl t ↦
            let g : Some next ≡ Some m = sym (ap (λ (b : Bool). cond b (Some next) None) t) ∙ f in
            let same : next ≡ m = cc in
            (e, sym same, subst (λ (x : ℕ). x ≤ most) same (leb-true next most t))
        | inr t ↦ none_some m (sym (ap (λ (b : Bool). cond b (Some next) None) t) ∙ f)
      ]
  | inr e ↦
      let next : ℕ = n * 10 + (c - 48) in
      none_some m (sym (ap (λ (b : Bool). cond b (cond (leb next most) (Some next) None) None) e) ∙ h)
]

-- what digits gave
abbrev Gave : ℕ → ℕ → List ℕ → ℕ → Type 0
Gave most n cs m = (all_ascii_digits cs ≡ true) × (m ≡ read_on n cs) × (m ≤ most)

from_step :
    (most n c : ℕ) (cs : List ℕ) (m : ℕ) (o : Option ℕ) → ((k : ℕ) → k ≤ most → number_from most (Some k) cs ≡ Some m → Gave most k cs m)
    → grown most (Some n) c ≡ o → number_from most o cs ≡ Some m → Gave most n (c ∷ cs) m
from_step most n c cs m None more e h = none_some m (sym (from_none most cs) ∙ h)
from_step most n c cs m (Some k) more e h =
    let g = grown_inv most n c k e in
    let r = more k g.2 h in
    (and_from _ _ g.0 r.0, r.1 ∙ ap (λ (x : ℕ). read_on x cs) g.1, r.2)

from_inv : (most n : ℕ) (cs : List ℕ) (m : ℕ) → n ≤ most → number_from most (Some n) cs ≡ Some m → Gave most n cs m
from_inv most n [] m l h = let e : n ≡ m = cc in (refl, sym e, subst (λ (x : ℕ). x ≤ most) e l)
from_inv most n (c ∷ cs) m l h = from_step most n c cs m (grown most (Some n) c) (λ k. from_inv most k cs m) refl h

-- a plain word has a character, and one that is no zero in front unless that is all
plain_some : (w : List ℕ) → plain w ≡ true → (0 < length w) × (get_or w 0 0 ≡ 48 → length w ≡ 1)
plain_some [] h = absurd (grind arith)
plain_some (c ∷ []) h = (omega arith, λ _. refl)
plain_some (c ∷ (d ∷ cs)) h = (omega arith, λ e. absurd (grind (arith, nat_tests)))

plain_from : (w : List ℕ) → 0 < length w → (get_or w 0 0 ≡ 48 → ⊥) → plain w ≡ true
plain_from [] l h = absurd (omega arith)
plain_from (c ∷ []) l h = refl
plain_from (c ∷ (d ∷ cs)) l h = ap not (ne_eqb c 48 h)

plain_decimal : (n : ℕ) → n < 2 ^ 64 → plain (decimal n) ≡ true
plain_decimal zero l = ap plain (decimal_digit 0 (omega arith))
plain_decimal (suc n) l =
    let f : 48 < get_or (decimal (suc n)) 0 0 = first_decimal (suc n) (omega arith) l in
    plain_from (decimal (suc n)) (decimal_nonempty (suc n) l) (λ e. omega arith)

-- one digit more at the end
from_push : (most : ℕ) (o : Option ℕ) (ds : List ℕ) (c : ℕ) → number_from most o (ds ++ (c ∷ [])) ≡ grown most (number_from most o ds) c
from_push most o [] c = refl
from_push most o (d ∷ ds) c = from_push most (grown most o d) ds c

grown_digit : (most n d : ℕ) → d < 10 → n * 10 + d ≤ most → grown most (Some n) (48 + d) ≡ Some (n * 10 + d)
grown_digit most n d l h =
    let same : 48 + d - 48 ≡ d = omega arith in
    let a : leb 48 (48 + d) ≡ true = le-leb 48 (48 + d) (omega arith) in
    let b : leb (48 + d) 57 ≡ true = le-leb (48 + d) 57 (omega arith) in
    let t : leb (n * 10 + d) most ≡ true = le-leb (n * 10 + d) most h in
    ap (λ (x : Bool). cond x (cond (leb (n * 10 + (48 + d - 48)) most) (Some (n * 10 + (48 + d - 48))) None) None) (and_from _ _ a b)
    ∙ ap (λ (x : ℕ). cond (leb (n * 10 + x) most) (Some (n * 10 + x)) None) same
    ∙ ap (λ (x : Bool). cond x (Some (n * 10 + d)) None) t

abbrev Back : ℕ → ℕ → List ℕ → Type 0
Back most n ds = n ≤ most → number_from most (Some 0) ds ≡ Some n

back_one : (most n : ℕ) → n < 10 → Back most n ((48 + n) ∷ [])
back_one most n l h =
    let z : 0 * 10 + n ≡ n = omega arith in
    grown_digit most 0 n l (omega arith) ∙ ap Some z

back_more : (most n : ℕ) (ds : List ℕ) → 10 ≤ n → Back most (n / 10) ds → Back most n (ds ++ ((48 + n % 10) ∷ []))
back_more most n ds l back h =
    let z : n / 10 * 10 + n % 10 ≡ n = omega arith in
    let below : n / 10 ≤ most = omega arith in
    from_push most (Some 0) ds (48 + n % 10) ∙ ap (λ (o : Option ℕ). grown most o (48 + n % 10)) (back below)
    ∙ grown_digit most (n / 10) (n % 10) (omega arith) (omega arith) ∙ ap Some z

back : (most n : ℕ) → n < 2 ^ 64 → Back most n (decimal n)
back most n l = decimal_by_steps (Back most) (back_one most) (back_more most) n l

-- the number of a word
pub of_inv : (most : ℕ) (w : List ℕ) (n : ℕ) → most < 2 ^ 64 → number_of most w ≡ Some n → (w ≡ decimal n) × (n ≤ most)
of_inv most w n l h = elim (cases_Bool (plain w)) [
  | inl e ↦
      let f : number_from most (Some 0) w ≡ Some n = sym (ap (λ (b : Bool). cond b (number_from most (Some 0) w) None) e) ∙ h in
      let g = from_inv most 0 w n (omega arith) f in
      let p = plain_some w e in
      let small : read_on 0 w < 2 ^ 64 = omega (arith, g.1, g.2) in
      (sym (decimal-digits_value own w g.0 p.0 p.1 small) ∙ ap decimal (sym g.1), g.2)
  | inr e ↦ none_some n (sym (ap (λ (b : Bool). cond b (number_from most (Some 0) w) None) e) ∙ h)
]

pub of_decimal : (most n : ℕ) → most < 2 ^ 64 → n ≤ most → number_of most (decimal n) ≡ Some n
of_decimal most n l h =
    let small : n < 2 ^ 64 = omega arith in
    ap (λ (b : Bool). cond b (number_from most (Some 0) (decimal n)) None) (plain_decimal n small) ∙ back most n small h

pub reads : (most : ℕ) (w : List ℕ) (answer : Option ℕ) → most < 2 ^ 64 → answer ≡ number_of most w → ReadsNumber most w answer
reads most w answer l e n =
    (λ h. of_inv most w n l (sym e ∙ h), λ p. e ∙ ap (number_of most) p.0 ∙ of_decimal most n l p.1)

-- the steps of the loop over the digits
pub digit_none : (most n : ℕ) (s : List ℕ) (i : ℕ) → i < length s → None ≡ grown most (Some n) (get_or s i 0)
    → number_from most (Some n) (drop i s) ≡ number_from most (Some 0) s → None ≡ number_from most (Some 0) s
digit_none most n s i l e inv =
    sym (from_none most (drop (i + 1) s)) ∙ ap (λ (o : Option ℕ). number_from most o (drop (i + 1) s)) e
    ∙ sym (at_drop_more (number_from most (Some n)) s i 0 l) ∙ inv

-- the two ways of a word
pub not_plain : (most : ℕ) (w : List ℕ) → false ≡ plain w → None ≡ number_of most w
not_plain most w e = ap (λ (b : Bool). cond b (number_from most (Some 0) w) None) e

pub is_plain : (most : ℕ) (w : List ℕ) (r : Option ℕ) → true ≡ plain w → r ≡ number_from most (Some 0) w → r ≡ number_of most w
is_plain most w r e h = h ∙ ap (λ (b : Bool). cond b (number_from most (Some 0) w) None) e

pub bounded : (most : ℕ) (w : List ℕ) (answer : Option ℕ) → ReadsNumber most w answer → IfSome answer (λ n. n ≤ most)
bounded most w None h = tt
bounded most w (Some n) h = ((h n).0 refl).1
