-- Four parts of a text, read one after another. Assumes nothing.
use Rattle.std.specs.Prelude.{◌≡◌, ℕ, ◌<◌, Bool, true, false, cond, not, ◌&&◌, List, [], ◌∷◌, ◌++◌, map, Some, None, Option, ◌==◌, refl}
use Rattle.std.proofs.Common.{sym, ap, ◌∙◌, inl, inr, arith}
use Rattle.std.specs.Char.{to_ascii_lowercase}
use Rattle.std.proofs.lemmas.Bool.{cases_Bool}
use Rattle.std.proofs.lemmas.Bool.Decides.{nat_tests}
use Rattle.pieces.specs.Marks.{pieces_of, lengthened, lacking, and_then, at_end}
use Rattle.point_words.specs.Texts.{with_next, with_four}

abbrev pub Parts : Type 0
Parts = List (List ℕ)

pub none_some : {A B : Type 0} (x : A) → None ≡ Some x → B
none_some x e = let z : ◌≡◌ {A = ℕ} 0 1 = cc in absurd (omega arith)

-- one step after another gave an answer: each did
pub then_inv : {A B : Type 0} (r : Option A) (f : A → Option B) (b : B) → and_then r f ≡ Some b → (a : A) × (r ≡ Some a) × (f a ≡ Some b)
then_inv None f b h = none_some b h
then_inv (Some a) f b h = (a, refl, h)

pub end_inv : {A : Type 0} (ws : Parts) (a x : A) → at_end ws a ≡ Some x → (ws ≡ []) × (a ≡ x)
end_inv [] a x h = (refl, cc)
end_inv (w ∷ ws) a x h = none_some x h

-- the next part was read as a number
pub record Next {B : Type 0} (reads : List ℕ → Option ℕ) (ws : Parts) (k : ℕ → Parts → Option B) (x : B) : Type 0 where
  pub word : List ℕ
  pub rest : Parts
  pub number : ℕ
  pub whole : ws ≡ word ∷ rest
  pub read : reads word ≡ Some number
  pub after : k number rest ≡ Some x

-- with the number of a part, if it has one, and the parts after it
abbrev onward : {B : Type 0} → Option ℕ → Parts → (ℕ → Parts → Option B) → Option B
onward {B} r ws k = and_then {A = ℕ × Parts} {B = B} (and_then r (λ a. Some (a, ws))) (λ p. k p.0 p.1)

next_from : {B : Type 0} (reads : List ℕ → Option ℕ) (w : List ℕ) (ws : Parts) (k : ℕ → Parts → Option B) (x : B) (r : Option ℕ) → reads w ≡ r
    → onward r ws k ≡ Some x → Next reads (w ∷ ws) k x
next_from reads w ws k x None e h = none_some x h
next_from reads w ws k x (Some n) e h = record { word = w; rest = ws; number = n; whole = refl; read = e; after = h }

pub next_inv : {B : Type 0} (reads : List ℕ → Option ℕ) (ws : Parts) (k : ℕ → Parts → Option B) (x : B) → with_next reads ws k ≡ Some x → Next reads ws k x
next_inv reads [] k x h = none_some x h
next_inv reads (w ∷ ws) k x h = next_from reads w ws k x (reads w) refl h

pub next_read : {B : Type 0} (reads : List ℕ → Option ℕ) (w : List ℕ) (ws : Parts) (n : ℕ) (k : ℕ → Parts → Option B) → reads w ≡ Some n → with_next reads (w ∷ ws) k ≡ k n ws
next_read {B} reads w ws n k e = ap (λ (r : Option ℕ). onward r ws k) e

-- the next four were
pub record Four {B : Type 0} (reads : List ℕ → Option ℕ) (ws : Parts) (k : ℕ → ℕ → ℕ → ℕ → Parts → Option B) (x : B) : Type 0 where
  pub word_a : List ℕ
  pub word_b : List ℕ
  pub word_c : List ℕ
  pub word_d : List ℕ
  pub rest : Parts
  pub a : ℕ
  pub b : ℕ
  pub c : ℕ
  pub d : ℕ
  pub whole : ws ≡ word_a ∷ (word_b ∷ (word_c ∷ (word_d ∷ rest)))
  pub read_a : reads word_a ≡ Some a
  pub read_b : reads word_b ≡ Some b
  pub read_c : reads word_c ≡ Some c
  pub read_d : reads word_d ≡ Some d
  pub after : k a b c d rest ≡ Some x

pub four_inv : {B : Type 0} (reads : List ℕ → Option ℕ) (ws : Parts) (k : ℕ → ℕ → ℕ → ℕ → Parts → Option B) (x : B) → with_four reads ws k ≡ Some x → Four reads ws k x
four_inv {B} reads ws k x h =
    let p = next_inv reads ws (λ a es. with_next reads es (λ b bs. with_next reads bs (λ c cs. with_next reads cs (λ d ds. k a b c d ds)))) x h in
    let a : ℕ = p.number in
    let q = next_inv reads p.rest (λ b bs. with_next reads bs (λ c cs. with_next reads cs (λ d ds. k a b c d ds))) x p.after in
    let b : ℕ = q.number in
    let r = next_inv reads q.rest (λ c cs. with_next reads cs (λ d ds. k a b c d ds)) x q.after in
    let c : ℕ = r.number in
    let s = next_inv reads r.rest (λ d ds. k a b c d ds) x r.after in
    record {
      word_a = p.word;
      word_b = q.word;
      word_c = r.word;
      word_d = s.word;
      rest = s.rest;
      a = a;
      b = b;
      c = c;
      d = s.number;
      whole =
          p.whole ∙ ap (λ (l : Parts). p.word ∷ l) (q.whole ∙ ap (λ (l : Parts). q.word ∷ l) (r.whole ∙ ap (λ (l : Parts). r.word ∷ l) s.whole));
      read_a = p.read;
      read_b = q.read;
      read_c = r.read;
      read_d = s.read;
      after = s.after;
    }

pub four_read : {B : Type 0} (reads : List ℕ → Option ℕ) (u v w z : List ℕ) (rest : Parts) (a b c d : ℕ) (k : ℕ → ℕ → ℕ → ℕ → Parts → Option B)
    → reads u ≡ Some a → reads v ≡ Some b → reads w ≡ Some c → reads z ≡ Some d → with_four reads (u ∷ (v ∷ (w ∷ (z ∷ rest)))) k ≡ k a b c d rest
four_read reads u v w z rest a b c d k e f g h =
    next_read reads u (v ∷ (w ∷ (z ∷ rest))) a (λ a es. with_next reads es (λ b bs. with_next reads bs (λ c cs. with_next reads cs (λ d ds. k a b c d ds)))) e
    ∙ next_read reads v (w ∷ (z ∷ rest)) b (λ b bs. with_next reads bs (λ c cs. with_next reads cs (λ d ds. k a b c d ds))) f
    ∙ next_read reads w (z ∷ rest) c (λ c cs. with_next reads cs (λ d ds. k a b c d ds)) g
    ∙ next_read reads z rest d (λ d ds. k a b c d ds) h

-- a reader that does not tell words apart from what a function makes of them, and a change of what is answered
module _ {B : Type 0} (reads : List ℕ → Option ℕ) (f : List ℕ → List ℕ) (blind : (w : List ℕ) → reads (f w) ≡ reads w) (t : Option B → Option B) (none : t None ≡ None) where
  same_after : (r : Option ℕ) (ws : Parts) (k j : ℕ → Parts → Option B) → ((a : ℕ) → k a (map f ws) ≡ t (j a ws)) → onward r (map f ws) k ≡ t (onward r ws j)
  same_after None ws k j h = sym none
  same_after (Some a) ws k j h = h a

  pub next_map : (ws : Parts) (k j : ℕ → Parts → Option B) → ((a : ℕ) (rest : Parts) → k a (map f rest) ≡ t (j a rest)) → with_next reads (map f ws) k ≡ t (with_next reads ws j)
  next_map [] k j h = sym none
  next_map (w ∷ ws) k j h = ap (λ (r : Option ℕ). onward r (map f ws) k) (blind w) ∙ same_after (reads w) ws k j (λ a. h a ws)

  pub four_map : (ws : Parts) (k : ℕ → ℕ → ℕ → ℕ → Parts → Option B) → ((a b c d : ℕ) (rest : Parts) → k a b c d (map f rest) ≡ t (k a b c d rest))
      → with_four reads (map f ws) k ≡ t (with_four reads ws k)
  four_map ws k h =
      next_map ws (λ a es. with_next reads es (λ b bs. with_next reads bs (λ c cs. with_next reads cs (λ d ds. k a b c d ds))))
      (λ a es. with_next reads es (λ b bs. with_next reads bs (λ c cs. with_next reads cs (λ d ds. k a b c d ds))))
      (λ a es. next_map es (λ b bs. with_next reads bs (λ c cs. with_next reads cs (λ d ds. k a b c d ds)))
      (λ b bs. with_next reads bs (λ c cs. with_next reads cs (λ d ds. k a b c d ds)))
      (λ b bs. next_map bs (λ c cs. with_next reads cs (λ d ds. k a b c d ds)) (λ c cs. with_next reads cs (λ d ds. k a b c d ds))
      (λ c cs. next_map cs (λ d ds. k a b c d ds) (λ d ds. k a b c d ds) (λ d ds. h a b c d ds))))

-- a text lacks a character where its parts do, and the mark is another
lacking_append : (m : ℕ) (s t : List ℕ) → lacking m s ≡ true → lacking m t ≡ true → lacking m (s ++ t) ≡ true
lacking_append m [] t h g = g
lacking_append m (c ∷ s) t h g = elim (cases_Bool (c == m)) [
  | inl e ↦ let z : false ≡ true = sym (ap (λ (b : Bool). not b && lacking m s) e) ∙ h in absurd (grind arith)
  | inr e ↦
      ap (λ (b : Bool). not b && lacking m (s ++ t)) e ∙ lacking_append m s t (sym (ap (λ (b : Bool). not b && lacking m s) e) ∙ h) g
]

pub lacking_parts : (m mark : ℕ) (u v : List ℕ) → (mark == m) ≡ false → lacking m u ≡ true → lacking m v ≡ true → lacking m (u ++ (mark ∷ v)) ≡ true
lacking_parts m mark u v e h g = lacking_append m u (mark ∷ v) h (ap (λ (b : Bool). not b && lacking m v) e ∙ g)

pub lacking_push : (m : ℕ) (s : List ℕ) (c : ℕ) → (c == m) ≡ false → lacking m s ≡ true → lacking m (s ++ (c ∷ [])) ≡ true
lacking_push m s c e h = lacking_append m s (c ∷ []) h (ap (λ (b : Bool). not b && true) e)

-- lower case leaves characters below the letters as they are
lower_mark : (c m : ℕ) → m < 65 → (to_ascii_lowercase c == m) ≡ (c == m)
lower_mark c m l = grind (arith, nat_tests)

pub lacking_lower : (m : ℕ) (w : List ℕ) → m < 65 → lacking m (map to_ascii_lowercase w) ≡ lacking m w
lacking_lower m [] l = refl
lacking_lower m (c ∷ w) l =
    ap (λ (b : Bool). not b && lacking m (map to_ascii_lowercase w)) (lower_mark c m l) ∙ ap (λ (b : Bool). not (c == m) && b) (lacking_lower m w l)

lower_lengthened : (c : ℕ) (ws : Parts) → map (map to_ascii_lowercase) (lengthened c ws) ≡ lengthened (to_ascii_lowercase c) (map (map to_ascii_lowercase) ws)
lower_lengthened c [] = refl
lower_lengthened c (w ∷ ws) = refl

lower_split : (b : Bool) (c : ℕ) (ws : Parts) → cond b ([] ∷ map (map to_ascii_lowercase) ws) (lengthened (to_ascii_lowercase c) (map (map to_ascii_lowercase) ws)) ≡ map (map to_ascii_lowercase) (cond b ([] ∷ ws) (lengthened c ws))
lower_split true c ws = refl
lower_split false c ws = sym (lower_lengthened c ws)

pub pieces_lower : (m : ℕ) (w : List ℕ) → m < 65 → pieces_of m (map to_ascii_lowercase w) ≡ map (map to_ascii_lowercase) (pieces_of m w)
pieces_lower m [] l = refl
pieces_lower m (c ∷ w) l =
    ap (λ (b : Bool). cond b ([] ∷ pieces_of m (map to_ascii_lowercase w)) (lengthened (to_ascii_lowercase c) (pieces_of m (map to_ascii_lowercase w)))) (lower_mark c m l)
    ∙ ap (λ (ws : Parts). cond (c == m) ([] ∷ ws) (lengthened (to_ascii_lowercase c) ws)) (pieces_lower m w l) ∙ lower_split (c == m) c (pieces_of m w)
