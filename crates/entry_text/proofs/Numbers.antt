-- AS numbers as INTEGERs: what is written reads back, and what reads was written so. Assumes nothing.
use Rattle.std.proofs.Common.{◌≡◌, ℕ, ◌-◌, ◌*◌, ◌/◌, ◌%◌, ◌^◌, ◌<◌, ◌≤◌, true, ◌&&◌, ltb, leb, List, [], ◌∷◌, length, get_or, Some, sym, refl, ap, ◌∙◌, subst, inl, inr, arith}
use Rattle.std.specs.Int.Digits.{number_from_digits}
use Rattle.std.proofs.lemmas.Bool.{cases_lt, cond-true, lt-ltb}
use Rattle.std.proofs.lemmas.Bool.Decides.{nat_tests}
use Rattle.content.specs.Forms.{integer_form}
use Rattle.content.specs.Grammar.{IntegerContent}
use Rattle.content.proofs.Decided.{integer_decides}
use Rattle.prefixes.specs.Theorems.{Octets as EachOctet}
use Rattle.prefixes.specs.Writing.{octets_of}
use Rattle.prefixes.proofs.Octets.{length_octets_lem, octet_get, number_octets, octets_number}
use Rattle.entries.specs.Numbers.{below32, as_number}
use Rattle.entry_text.specs.Texts.{number_size}

-- ---- a number that was read

record Few (c : List ℕ) (n : ℕ) : Type 0 where
  some : 0 < length c
  five : length c ≤ 5
  positive : get_or c 0 0 < 128
  value : number_from_digits 256 c ≡ n
  small : n < 4294967296

few : (c : List ℕ) (n : ℕ) → as_number c ≡ Some n → Few c n
few c n e = record { some = grind (arith, nat_tests); five = grind (arith, nat_tests); positive = grind (arith, nat_tests); value = grind (arith, nat_tests); small = grind (arith, nat_tests) }

size_is : (c : List ℕ) → EachOctet c → integer_form c ≡ true → 0 < length c → length c ≤ 5 → get_or c 0 0 < 128 → number_from_digits 256 c < 4294967296 → number_size (number_from_digits 256 c) ≡ length c
size_is [] o f s l p h = absurd (omega arith)
size_is (a ∷ []) o f s l p h = grind (arith, nat_tests)
size_is (a ∷ (b ∷ [])) o f s l p h = let ob : b < 256 = o 1 (omega arith) in grind (arith, nat_tests)
size_is (a ∷ (b ∷ (c ∷ []))) o f s l p h = let ob : b < 256 = o 1 (omega arith) in let oc : c < 256 = o 2 (omega arith) in grind (arith, nat_tests)
size_is (a ∷ (b ∷ (c ∷ (d ∷ [])))) o f s l p h =
    let ob : b < 256 = o 1 (omega arith) in let oc : c < 256 = o 2 (omega arith) in let od : d < 256 = o 3 (omega arith) in grind (arith, nat_tests)
size_is (a ∷ (b ∷ (c ∷ (d ∷ (g ∷ []))))) o f s l p h =
    let ob : b < 256 = o 1 (omega arith) in let oc : c < 256 = o 2 (omega arith) in let od : d < 256 = o 3 (omega arith) in let og : g < 256 = o 4 (omega arith) in
    grind (arith, nat_tests)
size_is (a ∷ (b ∷ (c ∷ (d ∷ (g ∷ (i ∷ r)))))) o f s l p h = absurd (omega arith)

-- an INTEGER that was read is the one that is written for its number
pub written_number : (c : List ℕ) (n : ℕ) → EachOctet c → integer_form c ≡ true → as_number c ≡ Some n → (c ≡ octets_of (number_size n) n) × (n < 4294967296)
written_number c n o f e =
    let h = few c n e in
    let v = h.value in
    let small = h.small in
    let l : number_from_digits 256 c < 4294967296 = omega arith in
    let s = size_is c o f h.some h.five h.positive l in
    (sym (octets_number (length c) c refl o) ∙ ap (λ (k : ℕ). octets_of k (number_from_digits 256 c)) (sym s) ∙ ap (λ (x : ℕ). octets_of (number_size x) x) v, small)

-- ---- a number that is written

-- the first bit of k octets is zero, and their first nine bits are not all zeros
record Fine (k n : ℕ) : Type 0 where
  size : number_size n ≡ k
  some : 0 < k
  five : k ≤ 5
  below : n < 256 ^ k
  positive : n / 2 ^ (8 * (k - 1 - 0)) % 256 < 128
  nine : 1 < k → n / 2 ^ (8 * (k - 1 - 1)) % 256 < 128 → n / 2 ^ (8 * (k - 1 - 0)) % 256 ≡ 0 → ⊥

fine : (n : ℕ) → n < 4294967296 → Fine (number_size n) n
fine n h =
    elim (cases_lt n 128) [
      | inl a ↦ (let e : number_size n ≡ 1 = grind (arith, nat_tests) in subst (λ (k : ℕ). Fine k n) (sym e) (record { size = e; some = omega arith; five = omega arith; below = omega arith; positive = omega arith; nine = λ l p q. omega arith }))
      | inr a ↦ elim (cases_lt n 32768) [
        | inl b ↦ (let e : number_size n ≡ 2 = grind (arith, nat_tests) in subst (λ (k : ℕ). Fine k n) (sym e) (record { size = e; some = omega arith; five = omega arith; below = omega arith; positive = omega arith; nine = λ l p q. omega arith }))
        | inr b ↦ elim (cases_lt n 8388608) [
          | inl c ↦ (let e : number_size n ≡ 3 = grind (arith, nat_tests) in subst (λ (k : ℕ). Fine k n) (sym e) (record { size = e; some = omega arith; five = omega arith; below = omega arith; positive = omega arith; nine = λ l p q. omega arith }))
          | inr c ↦ elim (cases_lt n 2147483648) [
            | inl d ↦ (let e : number_size n ≡ 4 = grind (arith, nat_tests) in subst (λ (k : ℕ). Fine k n) (sym e) (record { size = e; some = omega arith; five = omega arith; below = omega arith; positive = omega arith; nine = λ l p q. omega arith }))
            | inr d ↦ (let e : number_size n ≡ 5 = grind (arith, nat_tests) in subst (λ (k : ℕ). Fine k n) (sym e) (record { size = e; some = omega arith; five = omega arith; below = omega arith; positive = omega arith; nine = λ l p q. omega arith }))
          ]
        ]
      ]
    ]

formed : (c : List ℕ) → 0 < length c → get_or c 0 0 < 128 → (1 < length c → get_or c 1 0 < 128 → get_or c 0 0 ≡ 0 → ⊥) → integer_form c ≡ true
formed c s p n = grind (arith, nat_tests)

read_few : (c : List ℕ) (n : ℕ) → 0 < length c → length c ≤ 5 → get_or c 0 0 < 128 → number_from_digits 256 c ≡ n → n < 4294967296 → as_number c ≡ Some n
read_few c n s l p v h =
    let i : (ltb 0 (length c) && (leb (length c) 5 && ltb (get_or c 0 0) 128)) ≡ true = grind (arith, nat_tests) in
    cond-true _ _ _ i ∙ ap below32 v ∙ cond-true _ _ _ (lt-ltb _ _ h)

-- what is written for a number
pub record Written (n : ℕ) (c : List ℕ) : Type 0 where
  pub form : IntegerContent c
  pub short : length c ≤ 5
  pub value : as_number c ≡ Some n

pub number_written : (n : ℕ) → n < 4294967296 → Written n (octets_of (number_size n) n)
number_written n h =
    let k = number_size n in
    let c = octets_of k n in
    let f = fine n h in
    let some = f.some in
    let five = f.five in
    let e = length_octets_lem k n in
    let first = octet_get k 0 n some in
    let positive = f.positive in
    let p : get_or c 0 0 < 128 = omega arith in
    let s : 0 < length c = omega arith in
    let l : length c ≤ 5 = omega arith in
    let nine : 1 < length c → get_or c 1 0 < 128 → get_or c 0 0 ≡ 0 → ⊥ =
    λ i j z. (let m : 1 < k = omega arith in let second = octet_get k 1 n m in f.nine m (omega arith) (omega arith)) in
    record { form = (integer_decides c).0 (formed c s p nine); short = l; value = read_few c n s l p (number_octets k n f.below) h }
