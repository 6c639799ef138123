-- A number in print is read as itself. Assumes nothing.
use Rattle.std.proofs.Common.{◌≡◌, ℕ, ◌+◌, ◌-◌, ◌*◌, ◌/◌, ◌%◌, ◌^◌, ◌<◌, ◌≤◌, Bool, true, false, cond, eqb, List, [], ◌∷◌, ◌++◌, Some, None, decimal, sym, refl, ap, ◌∙◌, inl, inr, arith}
use Rattle.std.proofs.lemmas.Fmt.{decimal_by_steps, decimal_digit}
use Rattle.std.proofs.lemmas.List.{append_assoc}
use Rattle.std.proofs.lemmas.Bool.{cases_lt, le-leb, lt-ltb, ne_eqb, and_from}
use Rattle.route_text.specs.Pieces.{is_digit, with_digit, digits_from, number_of}
use Rattle.route_text.specs.Laws.{starts_digit, ReadsNumber}

is_digit_lem : (c : ℕ) → 48 ≤ c → c ≤ 57 → is_digit c ≡ true
is_digit_lem c l k = and_from _ _ (le-leb 48 c l) (le-leb c 57 k)

-- where no digit follows, a number is whole
digits_end : (v : ℕ) (u : List ℕ) → starts_digit u ≡ false → digits_from v u ≡ (v, u)
digits_end v [] e = refl
digits_end v (c ∷ u) e = ap (λ (b : Bool). cond b (digits_from (with_digit v c) u) (v, c ∷ u)) e

-- one digit more
digits_one : (v n : ℕ) (u : List ℕ) → v < 2 ^ 40 → v ≡ n / 10 → digits_from v ((48 + n % 10) ∷ u) ≡ digits_from n u
digits_one v n u l e =
    let c : ℕ = 48 + n % 10 in
    let a : is_digit c ≡ true = is_digit_lem c (omega arith) (omega arith) in
    let b : with_digit v c ≡ n = ap (λ (t : Bool). cond t (v * 10 + (c - 48)) v) (lt-ltb v (2 ^ 40) l) ∙ omega arith in
    ap (λ (t : Bool). cond t (digits_from (with_digit v c) u) (v, c ∷ u)) a ∙ ap (λ (m : ℕ). digits_from m u) b

number_one : (n : ℕ) (u : List ℕ) → 0 < n → n < 10 → number_of ((48 + n) ∷ u) ≡ Some (digits_from n u)
number_one n u l k =
    let c : ℕ = 48 + n in
    let a : is_digit c ≡ true = is_digit_lem c (omega arith) (omega arith) in
    let z : eqb c 48 ≡ false = ne_eqb c 48 (λ e. omega arith) in
    let d : c - 48 ≡ n = omega arith in
    ap (λ (t : Bool). cond t (Some (cond (eqb c 48) (0, u) (digits_from (c - 48) u))) None) a
    ∙ ap (λ (t : Bool). Some (cond t (0, u) (digits_from (c - 48) u))) z
    ∙ ap (λ (m : ℕ). Some (digits_from m u)) d

Front : ℕ → List ℕ → Type 0
Front n ds = 0 < n → n < 2 ^ 40 → (u : List ℕ) → number_of (ds ++ u) ≡ Some (digits_from n u)

front : (n : ℕ) → n < 2 ^ 64 → Front n (decimal n)
unfolding Front
front n l =
    decimal_by_steps Front
    (λ m k p q u. number_one m u p k)
    (λ m ds k h p q u.
    ap number_of (append_assoc ds ((48 + m % 10) ∷ []) u)
    ∙ h (omega arith) (omega arith) ((48 + m % 10) ∷ u)
    ∙ ap (λ (x : ℕ × List ℕ). Some x) (digits_one (m / 10) m u (omega arith) refl))
    n l

pub reads_number : ReadsNumber
unfolding Front
reads_number n u l e = elim (cases_lt 0 n) [
  | inl p ↦ front n (omega arith) p l u ∙ ap (λ (x : ℕ × List ℕ). Some x) (digits_end n u e)
  | inr p ↦
      let z : n ≡ 0 = omega arith in
      let d : decimal n ≡ 48 ∷ [] = ap decimal z ∙ decimal_digit 0 (omega arith) in
      ap (λ (t : List ℕ). number_of (t ++ u)) d ∙ ap (λ (m : ℕ). Some (m, u)) (sym z)
]
