-- That reading decimal digits and writing them are each other's reverse. Assumes nothing.
use Rattle.std.proofs.Common.{◌≡◌, ℕ, zero, suc, ◌+◌, ◌-◌, ◌*◌, ◌/◌, ◌%◌, ◌^◌, ◌<◌, ◌≤◌, true, false, ◌&&◌, eqb, leb, List, [], ◌∷◌, ◌++◌, length, get_or, take, drop, Some, None, Option, sym, refl, ap, ◌∙◌, inl, inr, pow-suc, add-one, arith}
use native.Mathlib.Nat.{pow-zero, pow-le-pow_right}
use Rattle.std.proofs.lemmas.List.{append_assoc, append-nil, length-append, length_push, length-take-le, take_at, get_or_at, take_all, take_more, at_drop_more, at_drop_all}
use Rattle.std.proofs.lemmas.Bool.{leb-true, le-leb, eq-eqb, eqb-true, and_parts, and_from, cases_Bool, cond-true, cond-false}
use Rattle.moment.specs.Times.{decimals, decimal_after, zulu_of}

pub length_decimals : (k n : ℕ) → length (decimals k n) ≡ k
unfolding decimals
length_decimals zero n = refl
length_decimals (suc k) n =
    let h = length_decimals k (n / 10) in
    length-append (decimals k (n / 10)) ((48 + n % 10) ∷ []) ∙ omega arith

-- an octet that is a digit goes on, any other ends the reading
digit_more : (n c : ℕ) (cs : List ℕ) → 48 ≤ c → c ≤ 57 → decimal_after n (c ∷ cs) ≡ decimal_after (n * 10 + (c - 48)) cs
digit_more n c cs h k = cond-true (leb 48 c && leb c 57) _ _ (and_from _ _ (le-leb 48 c h) (le-leb c 57 k))

-- one digit more at the end
push_digit : (a m c : ℕ) (xs : List ℕ) → decimal_after a xs ≡ Some m → 48 ≤ c → c ≤ 57 → decimal_after a (xs ++ (c ∷ [])) ≡ Some (m * 10 + (c - 48))
push_digit a m c [] e h k = let f : a ≡ m = cc in digit_more a c [] h k ∙ ap (λ x. Some (x * 10 + (c - 48))) f
push_digit a m c (x ∷ xs) e h k =
    elim (cases_Bool (leb 48 x && leb x 57)) [
      | inl t ↦
          let f = sym (cond-true _ (decimal_after (a * 10 + (x - 48)) xs) None t) ∙ e in
          cond-true _ _ _ t ∙ push_digit (a * 10 + (x - 48)) m c xs f h k
      | inr t ↦
          let f : None ≡ Some m = sym (cond-false _ (decimal_after (a * 10 + (x - 48)) xs) None t) ∙ e in
          let z : ◌≡◌ {A = ℕ} 0 1 = cc in
          absurd (omega arith)
    ]

-- what was written is read back
pub read_decimals : (k n : ℕ) → n < 10 ^ k → decimal_after 0 (decimals k n) ≡ Some n
unfolding decimals
read_decimals zero n h = let e : 0 ≡ n = omega (arith, pow-zero 10) in ap Some e
read_decimals (suc k) n h =
    let below : n / 10 < 10 ^ k = omega (arith, pow-suc 10 k) in
    let e : n / 10 * 10 + (48 + n % 10 - 48) ≡ n = omega arith in
    push_digit 0 (n / 10) (48 + n % 10) (decimals k (n / 10)) (read_decimals k (n / 10) below) (omega arith) (omega arith) ∙ ap Some e

-- what was read is written again
decimals_step : (k a c : ℕ) → 48 ≤ c → c ≤ 57 → decimals (suc k) (a * 10 + (c - 48)) ≡ decimals k a ++ (c ∷ [])
unfolding decimals
decimals_step k a c h l =
    let e : (a * 10 + (c - 48)) / 10 ≡ a = omega arith in
    let f : 48 + (a * 10 + (c - 48)) % 10 ≡ c = omega arith in
    rw (e, f)

pub written_again : (k a n : ℕ) (cs : List ℕ) → decimal_after a cs ≡ Some n → a < 10 ^ k → (decimals k a ++ cs ≡ decimals (k + length cs) n) × (n < 10 ^ (k + length cs))
written_again k a n [] e h =
    let f : a ≡ n = cc in
    let z : k + 0 ≡ k = omega arith in
    rw z (append-nil (decimals k a) ∙ ap (decimals k) f, omega arith)
written_again k a n (c ∷ cs) e h =
    elim (cases_Bool (leb 48 c && leb c 57)) [
      | inl t ↦
          let p = and_parts (leb 48 c) (leb c 57) t in
          let l = leb-true 48 c p.0 in
          let u = leb-true c 57 p.1 in
          let f = sym (cond-true _ (decimal_after (a * 10 + (c - 48)) cs) None t) ∙ e in
          let below : a * 10 + (c - 48) < 10 ^ suc k = omega (arith, pow-suc 10 k) in
          let rest = written_again (suc k) (a * 10 + (c - 48)) n cs f below in
          let s : suc k + length cs ≡ k + suc (length cs) = omega arith in
          let rest' = rw s at rest in
          let g : decimals k a ++ (c ∷ cs) ≡ decimals (suc k) (a * 10 + (c - 48)) ++ cs =
          sym (append_assoc (decimals k a) (c ∷ []) cs) ∙ ap (λ xs. xs ++ cs) (sym (decimals_step k a c l u)) in
          (g ∙ rest'.0, rest'.1)
      | inr t ↦
          let f : None ≡ Some n = sym (cond-false _ (decimal_after (a * 10 + (c - 48)) cs) None t) ∙ e in
          let z : ◌≡◌ {A = ℕ} 0 1 = cc in
          absurd (omega arith)
    ]

-- digits alone, as many as there are
pub read_again : (k n : ℕ) (cs : List ℕ) → length cs ≡ k → decimal_after 0 cs ≡ Some n → (cs ≡ decimals k n) × (n < 10 ^ k)
unfolding decimals
read_again k n cs l e =
    let z : 0 + length cs ≡ k = omega arith in
    let w = rw z at (written_again 0 0 n cs e (omega arith)) in
    (w.0, w.1)

-- the steps of the loop that reads digits
module _ (ds : List ℕ) (i n : ℕ) (h : i < length ds) where
  pub stops : false ≡ (leb 48 (get_or ds i 0) && leb (get_or ds i 0) 57) → decimal_after n (drop i ds) ≡ None
  stops e = at_drop_more (decimal_after n) ds i 0 h ∙ cond-false _ _ _ (sym e)

  goes_on : true ≡ (leb 48 (get_or ds i 0) && leb (get_or ds i 0) 57) → decimal_after n (drop i ds) ≡ decimal_after (n * 10 + (get_or ds i 0 - 48)) (drop (i + 1) ds)
  goes_on e = at_drop_more (decimal_after n) ds i 0 h ∙ cond-true _ _ _ (sym e)

pub ends : (ds : List ℕ) (i n : ℕ) → length ds ≤ i → decimal_after n (drop i ds) ≡ Some n
ends ds i n h = at_drop_all (decimal_after n) ds i h

below_next : (n d i : ℕ) → n < 10 ^ i → d ≤ 9 → n * 10 + d < 10 ^ (i + 1)
below_next n d i h k = rw (add-one, pow-suc) (omega arith)

pub below_all : (n i k : ℕ) → n < 10 ^ i → i ≤ k → n < 10 ^ k
below_all n i k h l = let p : 10 ^ i ≤ 10 ^ k = pow-le-pow_right (omega arith) l in omega arith

pub next_digit : (ds : List ℕ) (i n d : ℕ) (o : Option ℕ) → i < length ds → true ≡ (leb 48 (get_or ds i 0) && leb (get_or ds i 0) 57) → d ≡ get_or ds i 0 - 48 → decimal_after n (drop i ds) ≡ o → n < 10 ^ i → (decimal_after (n * 10 + d) (drop (i + 1) ds) ≡ o) × (n * 10 + d < 10 ^ (i + 1))
next_digit ds i n d o h t e f l =
    let p = and_parts (leb 48 (get_or ds i 0)) (leb (get_or ds i 0) 57) (sym t) in
    let low = leb-true 48 (get_or ds i 0) p.0 in
    let high = leb-true (get_or ds i 0) 57 p.1 in (
      ap (λ x. decimal_after (n * 10 + x) (drop (i + 1) ds)) e ∙ sym (goes_on ds i n h t) ∙ f,
      below_next n d i l (omega arith),
    )

-- digits and a 'Z' are read back
pub zulu_written : (k n : ℕ) → n < 10 ^ k → zulu_of k (decimals k n ++ (90 ∷ [])) ≡ Some n
zulu_written k n h =
    let l = length_decimals k n in
    let long : length (decimals k n ++ (90 ∷ [])) ≡ k + 1 = length_push (decimals k n) 90 ∙ omega arith in
    cond-true _ _ _ (and_from _ _ (eq-eqb _ _ long) (eq-eqb _ _ (get_or_at (decimals k n) 90 [] 0 k l)))
    ∙ ap (decimal_after 0) (take_at (decimals k n) (90 ∷ []) k l)
    ∙ read_decimals k n h

-- what was read as digits and a 'Z' is just that
pub zulu_read : (k n : ℕ) (c : List ℕ) → zulu_of k c ≡ Some n → (c ≡ decimals k n ++ (90 ∷ [])) × (n < 10 ^ k)
zulu_read k n c e =
    elim (cases_Bool (eqb (length c) (k + 1) && eqb (get_or c k 0) 90)) [
      | inl t ↦
          let p = and_parts (eqb (length c) (k + 1)) (eqb (get_or c k 0) 90) t in
          let long = eqb-true (length c) (k + 1) p.0 in
          let last = eqb-true (get_or c k 0) 90 p.1 in
          let f = sym (cond-true _ (decimal_after 0 (take k c)) None t) ∙ e in
          let d = read_again k n (take k c) (length-take-le k c (omega arith)) f in
          let whole = sym (take_all (k + 1) c (omega arith)) in
          let more = take_more c k 0 (omega arith) in
          (whole ∙ more ∙ ap (λ x. take k c ++ (x ∷ [])) last ∙ ap (λ xs. xs ++ (90 ∷ [])) d.0, d.1)
      | inr t ↦
          let f : None ≡ Some n = sym (cond-false _ (decimal_after 0 (take k c)) None t) ∙ e in
          let z : ◌≡◌ {A = ℕ} 0 1 = cc in
          absurd (omega arith)
    ]
