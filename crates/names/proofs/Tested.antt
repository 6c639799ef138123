-- That the tests on names tell what the relations say. Assumes nothing.
use Rattle.std.proofs.Common.{◌≡◌, ℕ, ◌-◌, ◌<◌, ◌≤◌, Bool, ◌&&◌, leb, List, [], ◌∷◌, length, get_or, Decides, refl, ap, ⊎_elim, arith}
use Rattle.std.specs.List.{AllByRecursion, list_all}
use Rattle.std.proofs.lemmas.Bool.{leb-true, le-leb, cases_lt}
use Rattle.std.proofs.lemmas.Bool.Decides.{Decides-and, Decides-or, Decides-eqb, Decides-ltb, Decides-like}
use Rattle.std.proofs.ByRecursion.{Decides-by_and}
use Rattle.names.specs.declared.Class.{Class}
use Rattle.names.specs.declared.Class.TheVariants.{Visible, Stem, Lower}
use Rattle.names.specs.Tests.{between, is_of, every, folder_size, is_name, is_folder}
use Rattle.names.specs.Names.{Between, Of, FolderEnd, Name, Folder}
use Rattle.names.proofs.Folders.{size_end}

pub decides_leb : (a b : ℕ) → Decides (leb a b) (a ≤ b)
decides_leb a b = (leb-true a b, le-leb a b)

-- the library's word for every
pub every_is : (test : ℕ → Bool) (s : List ℕ) → list_all test s ≡ every test s
every_is test [] = refl
every_is test (c ∷ s) = ap (λ (b : Bool). test c && b) (every_is test s)

between_decides : (a z c : ℕ) → Decides (between a z c) (Between a z c)
between_decides a z c = Decides-and _ _ (decides_leb a c) (decides_leb c z)

of_decides : (k : Class) (c : ℕ) → Decides (is_of k c) (Of k c)
of_decides Visible c = between_decides 33 126 c
of_decides Stem c =
    Decides-or _ _ (between_decides 97 122 c)
    (Decides-or _ _ (between_decides 65 90 c)
    (Decides-or _ _ (between_decides 48 57 c) (Decides-or _ _ (Decides-eqb c 45) (Decides-eqb c 95))))
of_decides Lower c = between_decides 97 122 c

pub all_of : (k : Class) (s : List ℕ) → Decides (every (is_of k) s) (AllByRecursion (Of k) s)
all_of k s = Decides-by_and (is_of k) (Of k) (every (is_of k)) (of_decides k) refl (λ _ _. refl) s

-- what the test of a name is made of
abbrev pub Parts : List ℕ → ℕ → Type 0
Parts s n = (length s ≤ 128) × (AllByRecursion (Of Visible) s × ((0 < n) × (n < length s)))

name_from : (s : List ℕ) (n : ℕ) → FolderEnd s n → Parts s n → Name s
name_from s n f p =
    let a = p.1.1.0 in
    let b = p.1.1.1 in
    record {
      some = omega arith;
      short = p.0;
      visible = p.1.0;
      slash = (n - 1, (omega arith, f.slash (n - 1) (omega arith)));
      goes_on = λ e. f.last (length s - 1) (omega arith) (omega arith) e;
    }

pub name_parts : (s : List ℕ) (n : ℕ) → FolderEnd s n → Name s → Parts s n
name_parts s n f w =
    let i = f.within in
    let k = w.slash.0 in
    let a : 0 < n = ⊎_elim (λ l. l) (λ l. absurd (f.last k (omega arith) w.slash.1.0 w.slash.1.1)) (cases_lt 0 n) in
    let b : n < length s = ⊎_elim (λ l. l) (λ l. absurd (w.goes_on (f.slash (length s - 1) (omega arith)))) (cases_lt n (length s)) in
    (w.short, (w.visible, (a, b)))

pub name_decides : (s : List ℕ) → Decides (is_name s) (Name s)
name_decides s =
    Decides-like _ (name_from s (folder_size s) (size_end s)) (name_parts s (folder_size s) (size_end s))
    (Decides-and _ _ (decides_leb (length s) 128)
    (Decides-and _ _ (all_of Visible s) (Decides-and _ _ (Decides-ltb 0 (folder_size s)) (Decides-ltb (folder_size s) (length s)))))

pub folder_decides : (s : List ℕ) → Decides (is_folder s) (Folder s)
folder_decides s =
    Decides-like _ (λ p. record { some = p.0; short = p.1.0; visible = p.1.1.0; ended = p.1.1.1 })
    (λ f. (f.some, (f.short, (f.visible, f.ended))))
    (Decides-and _ _ (decides_leb 1 (length s))
    (Decides-and _ _ (decides_leb (length s) 127) (Decides-and _ _ (all_of Visible s) (Decides-eqb (get_or s (length s - 1) 0) 47))))
