-- Octets and digits, either way: the laws that the contracts state, and the steps of the loops. Assumes nothing.
use Rattle.std.proofs.Common.{◌≡◌, ℕ, suc, ◌+◌, ◌-◌, ◌*◌, ◌/◌, ◌%◌, ◌<◌, ◌≤◌, Bool, true, false, ◌&&◌, eqb, List, [], ◌∷◌, ◌++◌, map, length, get_or, take, drop, is_some, Some, None, Option, sym, refl, ap, ◌∙◌, arith}
use Rattle.std.specs.List.{AllByRecursion, list_all}
use Rattle.std.specs.Char.{to_ascii_lowercase}
use Rattle.std.proofs.lemmas.Bool.Decides.{nat_tests}
use Rattle.std.proofs.lemmas.List.{append_assoc, append-nil, take_rest, drop_more, drop_all}
use Rattle.hex_text.specs.Digits.{nibble_of, paired, octet_of, before, unhex, all_digits, digit_of, hex_text}
use Rattle.hex_text.specs.Laws.{ReadsBack, WritesBack}

-- a digit is read as the value that it was written for
nibble_digit : (n : ℕ) → n < 16 → nibble_of (digit_of n) ≡ Some n
nibble_digit n l = grind (arith, nat_tests)

pub octet_back : (x : ℕ) → x < 256 → octet_of (digit_of (x / 16)) (digit_of (x % 16)) ≡ Some x
octet_back x l =
    let h : nibble_of (digit_of (x / 16)) ≡ Some (x / 16) = nibble_digit (x / 16) (omega arith) in
    let k : nibble_of (digit_of (x % 16)) ≡ Some (x % 16) = nibble_digit (x % 16) (omega arith) in
    let e : x / 16 * 16 + x % 16 ≡ x = omega arith in
    ap (λ (o : Option ℕ). paired o (nibble_of (digit_of (x % 16)))) h ∙ ap (paired (Some (x / 16))) k ∙ ap (λ (n : ℕ). Some n) e

pub reads_back : ReadsBack
reads_back [] h = refl
reads_back (x ∷ xs) h =
    ap (λ (o : Option ℕ). before o (unhex (hex_text xs))) (octet_back x h.0) ∙ ap (before (Some x)) (reads_back xs h.1)

-- a digit, written again, is the same digit in lower case
nibble_inv : (c n : ℕ) → nibble_of c ≡ Some n → (n < 16) × (digit_of n ≡ to_ascii_lowercase c)
nibble_inv c n e = (grind (arith, nat_tests), grind (arith, nat_tests))

paired_inv : (a b : Option ℕ) (x : ℕ) → paired a b ≡ Some x → (m : ℕ) × (n : ℕ) × (a ≡ Some m) × (b ≡ Some n) × (m * 16 + n ≡ x)
paired_inv None b x e = let z : ◌≡◌ {A = ℕ} 0 1 = cc in absurd (omega arith)
paired_inv (Some m) None x e = let z : ◌≡◌ {A = ℕ} 0 1 = cc in absurd (omega arith)
paired_inv (Some m) (Some n) x e = (m, n, refl, refl, cc)

pub octet_inv : (h l x : ℕ) → octet_of h l ≡ Some x → (x < 256) × (digit_of (x / 16) ≡ to_ascii_lowercase h) × (digit_of (x % 16) ≡ to_ascii_lowercase l)
octet_inv h l x e =
    let p = paired_inv (nibble_of h) (nibble_of l) x e in
    let m : ℕ = p.0 in
    let n : ℕ = p.1 in
    let a : (m < 16) × (digit_of m ≡ to_ascii_lowercase h) = nibble_inv h m p.2 in
    let b : (n < 16) × (digit_of n ≡ to_ascii_lowercase l) = nibble_inv l n p.3 in
    let s : m * 16 + n ≡ x = p.4 in
    let q : x / 16 ≡ m = omega arith in
    let r : x % 16 ≡ n = omega arith in
    (omega arith, ap digit_of q ∙ a.1, ap digit_of r ∙ b.1)

before_inv : (o : Option ℕ) (r : Option (List ℕ)) (xs : List ℕ) → before o r ≡ Some xs → (y : ℕ) × (ys : List ℕ) × (o ≡ Some y) × (r ≡ Some ys) × (y ∷ ys ≡ xs)
before_inv None r xs e = let z : ◌≡◌ {A = ℕ} 0 1 = cc in absurd (omega arith)
before_inv (Some y) None xs e = let z : ◌≡◌ {A = ℕ} 0 1 = cc in absurd (omega arith)
before_inv (Some y) (Some ys) xs e = (y, ys, refl, refl, cc)

abbrev Back : List ℕ → List ℕ → Type 0
Back s xs = (length s ≡ 2 * length xs) × AllByRecursion (λ x. x < 256) xs × (hex_text xs ≡ map to_ascii_lowercase s)

-- two more digits
back_more : (h l y : ℕ) (s ys : List ℕ) → octet_of h l ≡ Some y → Back s ys → Back (h ∷ (l ∷ s)) (y ∷ ys)
back_more h l y s ys e b =
    let p : (y < 256) × (digit_of (y / 16) ≡ to_ascii_lowercase h) × (digit_of (y % 16) ≡ to_ascii_lowercase l) = octet_inv h l y e in
    let t : hex_text ys ≡ map to_ascii_lowercase s = b.2 in
    let u : digit_of (y / 16) ≡ to_ascii_lowercase h = p.1 in
    let v : digit_of (y % 16) ≡ to_ascii_lowercase l = p.2 in
    let n : length s ≡ 2 * length ys = b.0 in
    (omega arith, (p.0, b.1), ap (λ (d : ℕ). d ∷ (digit_of (y % 16) ∷ hex_text ys)) u ∙ ap (λ (d : ℕ). to_ascii_lowercase h ∷ (d ∷ hex_text ys)) v ∙ ap (λ (w : List ℕ). to_ascii_lowercase h ∷ (to_ascii_lowercase l ∷ w)) t)

pub writes_back : WritesBack
writes_back [] xs e = let h : [] ≡ xs = cc in rw (sym h) (refl, tt, refl)
writes_back (h ∷ []) xs e = let z : ◌≡◌ {A = ℕ} 0 1 = cc in absurd (omega arith)
writes_back (h ∷ (l ∷ s)) xs e =
    let p = before_inv (octet_of h l) (unhex s) xs e in
    rw (sym p.4) (back_more h l p.0 s p.1 p.2 (writes_back s p.1 p.3))

-- the digits write octets exactly where their number is even and each is a digit
pair_reads : (a b : Option ℕ) (r : Option (List ℕ)) → is_some (before (paired a b) r) ≡ (is_some a && (is_some b && is_some r))
pair_reads None b r = refl
pair_reads (Some m) None r = refl
pair_reads (Some m) (Some n) None = refl
pair_reads (Some m) (Some n) (Some xs) = refl

swap_and : (a b e d : Bool) → (a && (b && (e && d))) ≡ (e && (a && (b && d)))
swap_and false b false d = refl
swap_and false b true d = refl
swap_and true false false d = refl
swap_and true false true d = refl
swap_and true true e d = refl

pub reads : (s : List ℕ) → is_some (unhex s) ≡ (eqb (length s % 2) 0 && all_digits s)
reads [] = refl
reads (h ∷ []) = refl
reads (h ∷ (l ∷ s)) =
    let a : Bool = is_some (nibble_of h) in
    let b : Bool = is_some (nibble_of l) in
    let even : suc (suc (length s)) % 2 ≡ length s % 2 = omega arith in
    pair_reads (nibble_of h) (nibble_of l) (unhex s) ∙ ap (λ (t : Bool). a && (b && t)) (reads s)
    ∙ swap_and a b (eqb (length s % 2) 0) (all_digits s)
    ∙ ap (λ (n : ℕ). eqb n 0 && (a && (b && all_digits s))) (sym even)

-- octets before those that are still to be read
abbrev pub after : List ℕ → Option (List ℕ) → Option (List ℕ)
after xs None = None
after xs (Some ys) = Some (xs ++ ys)

pub after_none : (r : Option (List ℕ)) → after [] r ≡ r
after_none None = refl
after_none (Some ys) = refl

after_push : (xs : List ℕ) (x : ℕ) (r : Option (List ℕ)) → after (xs ++ (x ∷ [])) r ≡ after xs (before (Some x) r)
after_push xs x None = refl
after_push xs x (Some ys) = ap (λ (l : List ℕ). Some l) (append_assoc xs (x ∷ []) ys)

-- a list of at least two is its first two and the rest, as a pattern reads them
pub first_two : (s : List ℕ) → 2 ≤ length s → s ≡ get_or s 0 0 ∷ (get_or s 1 0 ∷ take (length s - 2) (drop 2 s))
first_two s l =
    let a : s ≡ get_or s 0 0 ∷ drop 1 s = drop_more s 0 0 (omega arith) in
    let b : drop 1 s ≡ get_or s 1 0 ∷ drop 2 s = drop_more s 1 0 (omega arith) in
    a ∙ ap (λ (t : List ℕ). get_or s 0 0 ∷ t) (b ∙ ap (λ (t : List ℕ). get_or s 1 0 ∷ t) (sym (take_rest s 2)))

-- one octet more is read
pub after_more : (xs zs s rest : List ℕ) (h l x : ℕ) (r : Option (List ℕ)) → s ≡ h ∷ (l ∷ rest) → Some x ≡ octet_of h l → zs ≡ xs ++ (x ∷ []) → after xs (unhex s) ≡ r → after zs (unhex rest) ≡ r
after_more xs zs s rest h l x r e o z i =
    ap (λ (l : List ℕ). after l (unhex rest)) z ∙ after_push xs x (unhex rest) ∙ ap (λ (p : Option ℕ). after xs (before p (unhex rest))) o
    ∙ ap (λ (t : List ℕ). after xs (unhex t)) (sym e) ∙ i

-- two characters that write no octet
pub after_refused : (xs s rest : List ℕ) (h l : ℕ) (r : Option (List ℕ)) → s ≡ h ∷ (l ∷ rest) → None ≡ octet_of h l → after xs (unhex s) ≡ r → None ≡ r
after_refused xs s rest h l r e o i =
    ap (λ (p : Option ℕ). after xs (before p (unhex rest))) o ∙ ap (λ (t : List ℕ). after xs (unhex t)) (sym e) ∙ i

-- nothing is left
pub after_all : (xs s : List ℕ) (r : Option (List ℕ)) → length s ≡ 0 → after xs (unhex s) ≡ r → Some xs ≡ r
after_all xs [] r e i = ap (λ (l : List ℕ). Some l) (sym (append-nil xs)) ∙ i
after_all xs (c ∷ s) r e i = absurd (omega arith)

-- one character is left
pub after_odd : (xs s : List ℕ) (r : Option (List ℕ)) → length s < 2 → (length s ≡ 0 → ⊥) → after xs (unhex s) ≡ r → None ≡ r
after_odd xs [] r l n i = absurd (n refl)
after_odd xs (c ∷ []) r l n i = i
after_odd xs (c ∷ (d ∷ s)) r l n i = absurd (omega arith)

-- the text of one octet more, and of them all
pub text_more : (was then xs all : List ℕ) (i : ℕ) → i < length xs → then ≡ was ++ (digit_of (get_or xs i 0 / 16) ∷ (digit_of (get_or xs i 0 % 16) ∷ [])) → was ++ hex_text (drop i xs) ≡ all → then ++ hex_text (drop (i + 1) xs) ≡ all
text_more was then xs all i l p e =
    let x : ℕ = get_or xs i 0 in
    ap (λ (t : List ℕ). t ++ hex_text (drop (i + 1) xs)) p ∙ append_assoc was (digit_of (x / 16) ∷ (digit_of (x % 16) ∷ [])) (hex_text (drop (i + 1) xs))
    ∙ ap (λ (t : List ℕ). was ++ hex_text t) (sym (drop_more xs i 0 l)) ∙ e

pub text_all : (was xs all : List ℕ) (i : ℕ) → length xs ≤ i → was ++ hex_text (drop i xs) ≡ all → was ≡ all
text_all was xs all i l e = sym (append-nil was) ∙ ap (λ (t : List ℕ). was ++ hex_text t) (sym (drop_all i xs l)) ∙ e

-- whether each character is a digit, in the words of the library
pub digits_listed : (s : List ℕ) → all_digits s ≡ list_all (λ c. is_some (nibble_of c)) s
digits_listed [] = refl
digits_listed (c ∷ s) = ap (λ (b : Bool). is_some (nibble_of c) && b) (digits_listed s)

pub reads_by : (s : List ℕ) (r : Bool) → r ≡ all_digits s → is_some (unhex s) ≡ (eqb (length s % 2) 0 && r)
reads_by s r e = reads s ∙ ap (λ (t : Bool). eqb (length s % 2) 0 && t) (sym e)

-- two characters are appended one after the other
pub two_pushed : (was mid all e f : List ℕ) (a b x y : ℕ) → mid ≡ was ++ e → all ≡ mid ++ f → e ≡ a ∷ [] → f ≡ b ∷ [] → a ≡ x → b ≡ y → all ≡ was ++ (x ∷ (y ∷ []))
two_pushed was mid all e f a b x y p q r s t u =
    let first : mid ≡ was ++ (x ∷ []) = p ∙ ap (λ (l : List ℕ). was ++ l) (r ∙ ap (λ (n : ℕ). n ∷ []) t) in
    let second : f ≡ y ∷ [] = s ∙ ap (λ (n : ℕ). n ∷ []) u in
    q ∙ ap (λ (l : List ℕ). l ++ f) first ∙ ap (λ (l : List ℕ). (was ++ (x ∷ [])) ++ l) second ∙ append_assoc was (x ∷ []) (y ∷ [])
