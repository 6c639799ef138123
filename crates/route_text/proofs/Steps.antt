-- A word at the front of a text, and the loop over digits. Assumes nothing.
use Rattle.std.proofs.Common.{◌≡◌, ℕ, ◌+◌, ◌-◌, ◌*◌, ◌<◌, ◌≤◌, Bool, true, false, cond, not, ◌&&◌, eqb, List, [], ◌∷◌, ◌++◌, length, get_or, take, drop, Some, None, Option, sym, refl, ap, ◌∙◌, inl, inr, arith, Bor, MatchOption}
use Rattle.std.specs.Option.{option_map}
use Rattle.std.proofs.lemmas.List.{at_drop_more, at_drop_all, drop_more, drop_all, take_rest, nil_from_length}
use Rattle.std.proofs.lemmas.Bool.{cases_Bool, eqb-true, eq-eqb}
use Rattle.std.specs.List.{between}
use Rattle.std.proofs.lemmas.Slice.{first_rest}
use Rattle.hex_text.specs.Digits.{nibble_of}
use Rattle.route_text.specs.Pieces.{after_word, is_digit, with_digit, digits_from, grow_by, grow, grow_on, four_of, starts_hex, group_of, past_one, past_colon}

-- what follows a word
pub after_own : (p s : List ℕ) → after_word p (p ++ s) ≡ Some s
after_own [] s = refl
after_own (c ∷ p) s = ap (λ (t : Bool). cond t (after_word p (p ++ s)) None) (eq-eqb c c refl) ∙ after_own p s

pub after_inv : (p s r : List ℕ) → after_word p s ≡ Some r → s ≡ p ++ r
after_inv [] s r e = cc
after_inv (c ∷ p) [] r e = let z : ◌≡◌ {A = ℕ} 0 1 = cc in absurd (omega arith)
after_inv (c ∷ p) (x ∷ s) r e = elim (cases_Bool (eqb x c)) [
  | inl t ↦
      let f : after_word p s ≡ Some r = sym (ap (λ (b : Bool). cond b (after_word p s) None) t) ∙ e in
      ap (λ (n : ℕ). n ∷ s) (eqb-true x c t) ∙ ap (λ (l : List ℕ). c ∷ l) (after_inv p s r f)
  | inr t ↦
      let f : None ≡ Some r = sym (ap (λ (b : Bool). cond b (after_word p s) None) t) ∙ e in
      let z : ◌≡◌ {A = ℕ} 0 1 = cc in
      absurd (omega arith)
]

none_is : (o : Option (List ℕ)) → ((r : List ℕ) → o ≡ Some r → ⊥) → None ≡ o
none_is None h = refl
none_is (Some r) h = absurd (h r refl)

pub after_is : (p s : List ℕ) (o : Option (Bor (List ℕ))) → MatchOption o ((rest : List ℕ) → s ≡ p ++ rest → ⊥) (λ x. s ≡ p ++ x.now) → option_map (λ x. x.now) o ≡ after_word p s
after_is p s None h = none_is (after_word p s) (λ r e. h r (after_inv p s r e))
after_is p s (Some x) h = sym (ap (after_word p) h ∙ after_own p x.now)

-- the loop over digits: it ends at the first character that is none, or at the end
pub digits_stop : (v w : ℕ) (s : List ℕ) (i : ℕ) → i < length s → is_digit (get_or s i 0) ≡ false → digits_from v (drop i s) ≡ digits_from w s → (v, take (length s - i) (drop i s)) ≡ digits_from w s
digits_stop v w s i l e inv =
    let a : digits_from v (drop i s) ≡ cond (is_digit (get_or s i 0)) (digits_from (with_digit v (get_or s i 0)) (drop (i + 1) s)) (v, get_or s i 0 ∷ drop (i + 1) s) =
    at_drop_more (digits_from v) s i 0 l in
    let b : digits_from v (drop i s) ≡ (v, get_or s i 0 ∷ drop (i + 1) s) =
    a ∙ ap (λ (t : Bool). cond t (digits_from (with_digit v (get_or s i 0)) (drop (i + 1) s)) (v, get_or s i 0 ∷ drop (i + 1) s)) e in
    ap (λ (t : List ℕ). (v, t)) (take_rest s i ∙ drop_more s i 0 l) ∙ sym b ∙ inv

pub digits_more : (v u w : ℕ) (s : List ℕ) (i : ℕ) → i < length s → is_digit (get_or s i 0) ≡ true → u ≡ with_digit v (get_or s i 0) → digits_from v (drop i s) ≡ digits_from w s → digits_from u (drop (i + 1) s) ≡ digits_from w s
digits_more v u w s i l e f inv =
    let a : digits_from v (drop i s) ≡ cond (is_digit (get_or s i 0)) (digits_from (with_digit v (get_or s i 0)) (drop (i + 1) s)) (v, get_or s i 0 ∷ drop (i + 1) s) =
    at_drop_more (digits_from v) s i 0 l in
    let b : digits_from v (drop i s) ≡ digits_from (with_digit v (get_or s i 0)) (drop (i + 1) s) =
    a ∙ ap (λ (t : Bool). cond t (digits_from (with_digit v (get_or s i 0)) (drop (i + 1) s)) (v, get_or s i 0 ∷ drop (i + 1) s)) e in
    ap (λ (n : ℕ). digits_from n (drop (i + 1) s)) f ∙ sym b ∙ inv

pub digits_all : (v w : ℕ) (s : List ℕ) (i : ℕ) → length s ≤ i → digits_from v (drop i s) ≡ digits_from w s → (v, take (length s - length s) (drop (length s) s)) ≡ digits_from w s
digits_all v w s i l inv = ap (λ (t : List ℕ). (v, t)) (take_rest s (length s) ∙ drop_all (length s) s (omega arith)) ∙ sym (at_drop_all (digits_from v) s i l) ∙ inv

-- one hexadecimal digit more, if one follows
pub grow_none : (v : ℕ) (s : List ℕ) → length s ≡ 0 → (v, s) ≡ grow v s
unfolding grow
grow_none v s e = let n : s ≡ [] = nil_from_length s e in ap (λ (t : List ℕ). (v, t)) n ∙ sym (ap (grow v) n)

pub grow_digit : (v d : ℕ) (s : List ℕ) → 0 < length s → Some d ≡ nibble_of (get_or s 0 0) → (v * 16 + d, between 1 (length s) s) ≡ grow v s
unfolding grow
grow_digit v d s l e = ap (grow_by v (get_or s 0 0) (between 1 (length s) s)) e ∙ sym (ap (grow v) (first_rest s 0 l))

pub grow_stop : (v : ℕ) (s : List ℕ) → 0 < length s → None ≡ nibble_of (get_or s 0 0) → (v, s) ≡ grow v s
unfolding grow
grow_stop v s l e =
    ap (λ (t : List ℕ). (v, t)) (first_rest s 0 l) ∙ ap (grow_by v (get_or s 0 0) (between 1 (length s) s)) e ∙ sym (ap (grow v) (first_rest s 0 l))

pub four_is : (s : List ℕ) (p q r t : ℕ × List ℕ) → p ≡ grow 0 s → q ≡ grow p.0 p.1 → r ≡ grow q.0 q.1 → t ≡ grow r.0 r.1 → t ≡ four_of s
unfolding four_of
four_is s p q r t a b c d = d ∙ ap grow_on (c ∙ ap grow_on (b ∙ ap grow_on a))

pub group_is : (s : List ℕ) (p : ℕ × List ℕ) → p ≡ four_of s → starts_hex s ≡ true → starts_hex p.1 ≡ false → Some p ≡ group_of s
unfolding group_of
group_is s p e a b =
    let b' : starts_hex (four_of s).1 ≡ false = ap (λ (q : ℕ × List ℕ). starts_hex q.1) (sym e) ∙ b in
    ap (λ (q : ℕ × List ℕ). Some q) e ∙ sym (ap (λ (t : Bool). cond (t && not (starts_hex (four_of s).1)) (Some (four_of s)) None) a ∙ ap (λ (t : Bool). cond (not t) (Some (four_of s)) None) b')

pub group_first : (s : List ℕ) → starts_hex s ≡ false → None ≡ group_of s
unfolding group_of
group_first s a = sym (ap (λ (t : Bool). cond (t && not (starts_hex (four_of s).1)) (Some (four_of s)) None) a)

pub group_fifth : (s : List ℕ) (p : ℕ × List ℕ) → p ≡ four_of s → starts_hex s ≡ true → starts_hex p.1 ≡ true → None ≡ group_of s
unfolding group_of
group_fifth s p e a b =
    let b' : starts_hex (four_of s).1 ≡ true = ap (λ (q : ℕ × List ℕ). starts_hex q.1) (sym e) ∙ b in
    sym (ap (λ (t : Bool). cond (t && not (starts_hex (four_of s).1)) (Some (four_of s)) None) a ∙ ap (λ (t : Bool). cond (not t) (Some (four_of s)) None) b')

-- past a ":" that another group follows
pub colon_past : (s t : List ℕ) → Some t ≡ after_word (58 ∷ []) s → starts_hex t ≡ true → t ≡ past_colon s
unfolding past_colon
colon_past s t e h = sym (ap (past_one s) (sym e) ∙ ap (λ (b : Bool). cond b t s) h)

pub colon_kept : (s t : List ℕ) → Some t ≡ after_word (58 ∷ []) s → starts_hex t ≡ false → s ≡ past_colon s
unfolding past_colon
colon_kept s t e h = sym (ap (past_one s) (sym e) ∙ ap (λ (b : Bool). cond b t s) h)

pub colon_none : (s : List ℕ) → None ≡ after_word (58 ∷ []) s → s ≡ past_colon s
unfolding past_colon
colon_none s e = sym (ap (past_one s) (sym e))
