-- The run over the octets gives the exclusive-or of the blocks. Assumes nothing.
use Rattle.std.proofs.Common.{◌≡◌, ℕ, zero, suc, ◌+◌, ◌-◌, ◌*◌, ◌/◌, ◌%◌, ◌<◌, ◌≤◌, List, [], ◌∷◌, ◌++◌, length, get_or, take, drop, set, replicate, sym, refl, ap, ◌∙◌, inl, inr, append_assoc, arith}
use lib.Bits.{bit_xor, xor_assoc, xor_zero_r}
use Rattle.std.proofs.lemmas.List.{length-append, length_push, length-take, length-take-le, length-drop, length-replicate, take-append-drop, drop_all, get_or_at, set_at}
use Rattle.std.proofs.lemmas.Bool.{cases_lt}
use Rattle.oracle.specs.Scheme.{filled, blocks_of, blocks, xor_each, xor_all, scheme_digest}
use Rattle.oracle.specs.Runs.{State, xor_run}

-- one run of octets after another is the run of both
pub run_append : (b : List ℕ) (p : ℕ) (xs ys : List ℕ) → xor_run b p (xs ++ ys) ≡ xor_run (xor_run b p xs).0 (xor_run b p xs).1 ys
run_append b p [] ys = refl
run_append b p (x ∷ xs) ys = run_append (set b p (bit_xor (get_or b p 0) x)) ((p + 1) % 32) xs ys

-- a block with some octets taken up from its front on
abbrev over : List ℕ → List ℕ → List ℕ
over r [] = r
over [] (x ∷ xs) = []
over (a ∷ r) (x ∷ xs) = bit_xor a x ∷ over r xs

pair : {b c : List ℕ} {p q : ℕ} → b ≡ c → p ≡ q → ◌≡◌ {A = State} (b, p) (c, q)
pair {b} {c} {p} {q} e f = ap (λ (x : List ℕ). (x, p)) e ∙ ap (λ (x : ℕ). (c, x)) f

-- the octet taken up at the place after the front
taken_up : (f r : List ℕ) (a x : ℕ) → length f < 32 → set (f ++ a ∷ r) (length f % 32) (bit_xor (get_or (f ++ a ∷ r) (length f % 32) 0) x) ≡ (f ++ bit_xor a x ∷ []) ++ r
taken_up f r a x h =
    let small : length f % 32 ≡ length f = omega arith in
    ap (λ (p : ℕ). set (f ++ a ∷ r) p (bit_xor (get_or (f ++ a ∷ r) p 0) x)) small
    ∙ ap (λ (y : ℕ). set (f ++ a ∷ r) (length f) (bit_xor y x)) (get_or_at f a r 0 (length f) refl)
    ∙ set_at f a r (bit_xor a x) (length f) refl
    ∙ sym (append_assoc f (bit_xor a x ∷ []) r)

-- a run that stays within the block
within : (f r xs : List ℕ) → length f + length r ≡ 32 → length xs ≤ length r → xor_run (f ++ r) (length f % 32) xs ≡ (f ++ over r xs, (length f + length xs) % 32)
within f r [] e h = let z : length f ≡ length f + 0 = omega arith in pair refl (ap (λ (n : ℕ). n % 32) z)
within f [] (x ∷ xs) e h = absurd (omega arith)
within f (a ∷ r) (x ∷ xs) e h =
    let v = bit_xor a x in
    let low : length f < 32 = omega arith in
    let more : length (f ++ v ∷ []) ≡ length f + 1 = length_push f v in
    let next : (length f % 32 + 1) % 32 ≡ length (f ++ v ∷ []) % 32 = omega (arith, more) in
    let sum : length (f ++ v ∷ []) + length r ≡ 32 = omega (arith, more) in
    let end : (length (f ++ v ∷ []) + length xs) % 32 ≡ (length f + suc (length xs)) % 32 = omega (arith, more) in
    ap (λ (s : State). xor_run s.0 s.1 xs) (pair (taken_up f r a x low) next)
    ∙ within (f ++ v ∷ []) r xs sum (omega arith)
    ∙ pair (append_assoc f (v ∷ []) (over r xs)) end

xor_zeros : (b : List ℕ) → xor_each b (replicate (length b) 0) ≡ b
xor_zeros [] = refl
xor_zeros (x ∷ b) = ap (λ (n : ℕ). n ∷ xor_each b (replicate (length b) 0)) (xor_zero_r x) ∙ ap (λ (l : List ℕ). x ∷ l) (xor_zeros b)

zeros_xor : (n : ℕ) (c : List ℕ) → length c ≡ n → xor_each (replicate n 0) c ≡ c
zeros_xor zero [] e = refl
zeros_xor zero (y ∷ c) e = absurd (omega arith)
zeros_xor (suc n) [] e = absurd (omega arith)
zeros_xor (suc n) (y ∷ c) e = ap (λ (l : List ℕ). y ∷ l) (zeros_xor n c (omega arith))

xor_filled : (b c : List ℕ) → length c ≤ length b → over b c ≡ xor_each b (c ++ replicate (length b - length c) 0)
xor_filled [] [] h = refl
xor_filled (a ∷ b) [] h =
    let e : suc (length b) - 0 ≡ suc (length b) = omega arith in
    sym (ap (λ (n : ℕ). xor_each (a ∷ b) (replicate n 0)) e ∙ xor_zeros (a ∷ b))
xor_filled [] (x ∷ c) h = absurd (omega arith)
xor_filled (a ∷ b) (x ∷ c) h =
    let e : length b - length c ≡ suc (length b) - suc (length c) = omega arith in
    ap (λ (l : List ℕ). bit_xor a x ∷ l) (xor_filled b c (omega arith) ∙ ap (λ (n : ℕ). xor_each b (c ++ replicate n 0)) e)

xor_each_assoc : (a b c : List ℕ) → xor_each (xor_each a b) c ≡ xor_each a (xor_each b c)
xor_each_assoc [] b c = refl
xor_each_assoc (x ∷ a) [] c = refl
xor_each_assoc (x ∷ a) (y ∷ b) [] = refl
xor_each_assoc (x ∷ a) (y ∷ b) (z ∷ c) =
    ap (λ (n : ℕ). n ∷ xor_each (xor_each a b) c) (xor_assoc x y z) ∙ ap (λ (l : List ℕ). bit_xor x (bit_xor y z) ∷ l) (xor_each_assoc a b c)

length_over : (b c : List ℕ) → length c ≤ length b → length (over b c) ≡ length b
length_over b [] h = refl
length_over [] (x ∷ c) h = refl
length_over (a ∷ b) (x ∷ c) h = let k = length_over b c (omega arith) in omega arith

length_xor : (b c : List ℕ) → length c ≡ length b → length (xor_each b c) ≡ length b
length_xor [] c e = refl
length_xor (a ∷ b) [] e = absurd (omega arith)
length_xor (a ∷ b) (x ∷ c) e = let k = length_xor b c (omega arith) in omega arith

length_filled : (s : List ℕ) → length (filled (take 32 s)) ≡ 32
length_filled s = omega (arith, length-append (take 32 s) (replicate (32 - length (take 32 s)) 0), length-replicate {A = ℕ} (32 - length (take 32 s)) 0, length-take 32 s)

length_all : (n : ℕ) (s : List ℕ) → length (xor_all (blocks_of n s)) ≡ 32
length_all zero s = length-replicate {A = ℕ} 32 0
length_all (suc n) s =
    let e = length_filled s in
    let k = length_all n (drop 32 s) in
    length_xor (filled (take 32 s)) (xor_all (blocks_of n (drop 32 s))) (k ∙ sym e) ∙ e

-- past the block the run goes on from its front
goes_on : (b s : List ℕ) → (xor_run b ((0 + length (take 32 s)) % 32) (drop 32 s)).0 ≡ (xor_run b 0 (drop 32 s)).0
goes_on b s =
    elim (cases_lt (length s) 32) [
      | inl h ↦ (let e : drop 32 s ≡ [] = drop_all 32 s (omega arith) in
          ap (λ (d : List ℕ). (xor_run b ((0 + length (take 32 s)) % 32) d).0) e ∙ sym (ap (λ (d : List ℕ). (xor_run b 0 d).0) e))
      | inr h ↦ (let e : (0 + length (take 32 s)) % 32 ≡ 0 = omega (arith, length-take-le 32 s h) in
          ap (λ (p : ℕ). (xor_run b p (drop 32 s)).0) e)
    ]

one_block : (b s : List ℕ) → length b ≡ 32 → (xor_run b 0 s).0 ≡ (xor_run (xor_each b (filled (take 32 s))) 0 (drop 32 s)).0
one_block b s e =
    let t = take 32 s in
    let short : length t ≤ length b = omega (arith, length-take 32 s) in
    let first : xor_run b 0 t ≡ (over b t, (0 + length t) % 32) = within [] b t (omega arith) short in
    let fill : over b t ≡ xor_each b (filled t) = xor_filled b t short ∙ ap (λ (n : ℕ). xor_each b (t ++ replicate (n - length t) 0)) e in
    ap (λ (l : List ℕ). (xor_run b 0 l).0) (sym (take-append-drop 32 s))
    ∙ ap (λ (q : State). q.0) (run_append b 0 t (drop 32 s))
    ∙ ap (λ (q : State). (xor_run q.0 q.1 (drop 32 s)).0) first
    ∙ goes_on (over b t) s
    ∙ ap (λ (l : List ℕ). (xor_run l 0 (drop 32 s)).0) fill

run_blocks : (n : ℕ) (b s : List ℕ) → length b ≡ 32 → length s ≤ 32 * n → (xor_run b 0 s).0 ≡ xor_each b (xor_all (blocks_of n s))
run_blocks zero b [] e h = sym (ap (λ (n : ℕ). xor_each b (replicate n 0)) (sym e) ∙ xor_zeros b)
run_blocks zero b (x ∷ s) e h = absurd (omega arith)
run_blocks (suc n) b s e h =
    let f = filled (take 32 s) in
    let k : length (xor_each b f) ≡ 32 = length_xor b f (length_filled s ∙ sym e) ∙ e in
    one_block b s e
    ∙ run_blocks n (xor_each b f) (drop 32 s) k (omega (arith, length-drop 32 s))
    ∙ xor_each_assoc b f (xor_all (blocks_of n (drop 32 s)))

-- the run over some octets from an empty block is their digest
pub run_digest : (s : List ℕ) → (xor_run (replicate 32 0) 0 s).0 ≡ scheme_digest s
unfolding scheme_digest blocks
run_digest s =
    let n = (length s + 31) / 32 in
    run_blocks n (replicate 32 0) s (length-replicate {A = ℕ} 32 0) (omega arith) ∙ zeros_xor 32 (xor_all (blocks_of n s)) (length_all n s)

pub length_digest : (s : List ℕ) → length (scheme_digest s) ≡ 32
unfolding scheme_digest blocks
length_digest s = length_all ((length s + 31) / 32) s

-- two runs, one after the other, give the digest of both
pub both_digest : (z b c : List ℕ) (q r : ℕ) (k m : List ℕ) → z ≡ replicate 32 0 → (b, q) ≡ xor_run z 0 k → (c, r) ≡ xor_run b q m → c ≡ scheme_digest (k ++ m)
both_digest z b c q r k m zeros e f =
    let g : xor_run b q m ≡ xor_run (xor_run z 0 k).0 (xor_run z 0 k).1 m = ap (λ (s : State). xor_run s.0 s.1 m) e in
    ap (λ (s : State). s.0) (f ∙ g ∙ sym (run_append z 0 k m)) ∙ ap (λ (l : List ℕ). (xor_run l 0 (k ++ m)).0) zeros ∙ run_digest (k ++ m)
