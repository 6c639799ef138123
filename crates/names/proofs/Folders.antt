-- Where the folder in a name ends. Assumes nothing.
use Rattle.std.proofs.Common.{◌≡◌, ℕ, zero, suc, ◌+◌, ◌-◌, ◌<◌, ◌≤◌, Bool, true, false, cond, eqb, List, [], ◌∷◌, length, get_or, refl, ⊎_elim, arith}
use Rattle.std.proofs.lemmas.Bool.{cases_lt}
use Rattle.std.proofs.lemmas.Bool.Decides.{Decides-eqb, not_from_Decides}
use Rattle.names.specs.Tests.{with_first, folder_size}
use Rattle.names.specs.Names.{FolderEnd}

-- no end of a folder lies before another
not_before : (s : List ℕ) (m n : ℕ) → FolderEnd s m → FolderEnd s n → m < n → ⊥
not_before s m n f g l = let w = g.within in f.last (n - 1) (omega arith) (omega arith) (g.slash (n - 1) (omega arith))

-- one end of a folder in some octets, and no other
pub one_end : (s : List ℕ) (m n : ℕ) → FolderEnd s m → FolderEnd s n → m ≡ n
one_end s m n f g =
    ⊎_elim (λ l. absurd (not_before s m n f g l))
    (λ a. ⊎_elim (λ l. absurd (not_before s n m g f l)) (λ b. omega arith) (cases_lt n m)) (cases_lt m n)

-- no "/" from a place on
abbrev NoneFrom : List ℕ → ℕ → Type 0
NoneFrom s n = (k : ℕ) → n ≤ k → k < length s → get_or s k 0 ≡ 47 → ⊥

later : (c : ℕ) (s : List ℕ) (n : ℕ) → NoneFrom s n → NoneFrom (c ∷ s) (suc n)
later c s n h zero a b e = absurd (omega arith)
later c s n h (suc k) a b e = h k (omega arith) (omega arith) e

at_all : (c : ℕ) (s : List ℕ) → (c ≡ 47 → ⊥) → NoneFrom s 0 → NoneFrom (c ∷ s) 0
at_all c s h t zero a b e = h e
at_all c s h t (suc k) a b e = t k (omega arith) (omega arith) e

slash_later : (c : ℕ) (s : List ℕ) (n : ℕ) → FolderEnd s (suc n) → (k : ℕ) → k + 1 ≡ suc (suc n) → get_or (c ∷ s) k 0 ≡ 47
slash_later c s n f zero e = absurd (omega arith)
slash_later c s n f (suc k) e = f.slash k (omega arith)

slash_first : (c : ℕ) (s : List ℕ) → c ≡ 47 → (k : ℕ) → k + 1 ≡ 1 → get_or (c ∷ s) k 0 ≡ 47
slash_first c s e zero i = e
slash_first c s e (suc k) i = absurd (omega arith)

step_none : (c : ℕ) (s : List ℕ) → FolderEnd s 0 → (b : Bool) → eqb c 47 ≡ b → FolderEnd (c ∷ s) (cond b 1 0)
step_none c s f true e =
    record { within = omega arith; slash = slash_first c s ((Decides-eqb c 47).0 e); last = later c s 0 f.last }
step_none c s f false e =
    record {
      within = omega arith;
      slash = λ k i. absurd (omega arith);
      last = at_all c s (not_from_Decides (eqb c 47) (Decides-eqb c 47) e) f.last;
    }

step : (c : ℕ) (s : List ℕ) (n : ℕ) → FolderEnd s n → FolderEnd (c ∷ s) (with_first c n)
step c s zero f = step_none c s f (eqb c 47) refl
step c s (suc n) f = let w = f.within in record { within = omega arith; slash = slash_later c s n f; last = later c s (suc n) f.last }

pub size_end : (s : List ℕ) → FolderEnd s (folder_size s)
size_end [] = record { within = omega arith; slash = λ k i. absurd (omega arith); last = λ k a b e. absurd (omega arith) }
size_end (c ∷ s) = step c s (folder_size s) (size_end s)

-- what a loop knows that has come to the end
pub end_known :
    (s : List ℕ) (n i : ℕ) → n ≤ i → i ≤ length s → length s ≤ i → ((k : ℕ) → k + 1 ≡ n → get_or s k 0 ≡ 47)
    → ((k : ℕ) → n ≤ k → k < i → get_or s k 0 ≡ 47 → ⊥) → FolderEnd s n
end_known s n i a b c slash last = record { within = omega arith; slash = slash; last = λ k p q e. last k p (omega arith) e }
