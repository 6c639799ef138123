-- That the tests on bare names, endings and manifests' names tell what the relations say. Assumes nothing.
use Rattle.std.proofs.Common.{◌≡◌, ℕ, ◌+◌, ◌-◌, ◌<◌, ◌≤◌, Bool, true, false, cond, List, ◌∷◌, ◌++◌, length, get_or, take, drop, Some, None, Decides, Option, sym, refl, ap, ◌∙◌, subst, ⊎_elim, arith, length-append, length-drop, take-append-drop, MatchOption}
use lib.Seq.{take-append_seam, drop-append_seam, drop-append-add, get_or-append_seam}
use Rattle.std.specs.List.{AllByRecursion}
use Rattle.std.specs.Str.{bytes_eq}
use Rattle.std.proofs.lemmas.List.{drop_more, get_or_append_left, get_or-append_right, get_or-take, length-take-le}
use Rattle.std.proofs.ByRecursion.{All-get_or, All-append, All-weaker}
use Rattle.std.proofs.lemmas.Slice.Eq.{bytes_eq-Decides, ends_is}
use Rattle.std.proofs.lemmas.List.Prefix.{end_rest}
use Rattle.std.proofs.lemmas.Bool.Decides.{Decides-and, Decides-eqb, Decides-like, not_from_Decides, same_from_decides}
use Rattle.names.specs.declared.Class.TheVariants.{Stem, Lower}
use Rattle.names.specs.declared.Ending.{Ending}
use Rattle.names.specs.declared.Ending.TheVariants.{Cer, Crl, Mft, Roa}
use Rattle.names.specs.Tests.{folder_size, folder_of, base_of, is_bare, is_manifest_name, ends_with, text_of, ending_of}
use Rattle.names.specs.Names.{Of, Slashed, FolderEnd, Name, Bare, ManifestName, EndsWith, FolderOfBare}
use Rattle.names.proofs.Folders.{size_end, one_end}
use Rattle.names.proofs.Tested.{all_of, decides_leb, name_decides, name_parts}

abbrev Parts : List ℕ → ℕ → Type 0
Parts s n = (5 ≤ length s) × (AllByRecursion (Of Stem) (take n s) × ((get_or s n 0 ≡ 46) × AllByRecursion (Of Lower) (drop (n + 1) s)))

parts_decide : (s : List ℕ) → Decides (is_bare s) (Parts s (length s - 4))
parts_decide s =
    let n = length s - 4 in
    Decides-and _ _ (decides_leb 5 (length s))
    (Decides-and _ _ (all_of Stem (take n s)) (Decides-and _ _ (Decides-eqb (get_or s n 0) 46) (all_of Lower (drop (n + 1) s))))

bare_from : (s : List ℕ) (n : ℕ) → n + 4 ≡ length s → Parts s n → Bare s
bare_from s n is p =
    let five = p.0 in
    let d : drop n s ≡ get_or s n 0 ∷ drop (n + 1) s = drop_more s n 0 (omega arith) in
    record {
      stem = take n s;
      end = drop (n + 1) s;
      whole = sym (take-append-drop n s) ∙ ap (λ (t : List ℕ). take n s ++ t) (d ∙ ap (λ (c : ℕ). c ∷ drop (n + 1) s) p.1.1.0);
      some = rw (length-take-le n s (omega arith)) (omega arith);
      letters = p.1.0;
      three = simp length-drop (omega arith);
      lower = p.1.1.1;
    }

parts_of : (stem end : List ℕ) → 1 ≤ length stem → length end ≡ 3 → AllByRecursion (Of Stem) stem → AllByRecursion (Of Lower) end → (n : ℕ) → n ≡ length stem
    → Parts (stem ++ (46 ∷ end)) n
parts_of stem end some three a b n is =
    let t : take n (stem ++ (46 ∷ end)) ≡ stem = ap (λ (k : ℕ). take k (stem ++ (46 ∷ end))) is ∙ take-append_seam stem (46 ∷ end) in
    let d : drop (n + 1) (stem ++ (46 ∷ end)) ≡ end = ap (λ (k : ℕ). drop (k + 1) (stem ++ (46 ∷ end))) is ∙ drop-append-add stem (46 ∷ end) 1 in
    let g : get_or (stem ++ (46 ∷ end)) n 0 ≡ 46 = ap (λ (k : ℕ). get_or (stem ++ (46 ∷ end)) k 0) is ∙ get_or-append_seam stem 46 end 0 in
    (simp length-append (omega arith), (subst (AllByRecursion (Of Stem)) (sym t) a, (g, subst (AllByRecursion (Of Lower)) (sym d) b)))

pub bare_decides : (s : List ℕ) → Decides (is_bare s) (Bare s)
bare_decides s =
    Decides-like _ (λ p. let five = p.0 in bare_from s (length s - 4) (omega arith) p)
    (λ b. let some = b.some in
    let three = b.three in
    subst (λ (t : List ℕ). Parts t (length t - 4)) (sym b.whole)
    (parts_of b.stem b.end b.some b.three b.letters b.lower (length (b.stem ++ (46 ∷ b.end)) - 4) (simp length-append (omega arith))))
    (parts_decide s)

-- an octet of a bare name is no "/"
stem_no_slash : (c : ℕ) → Of Stem c → c ≡ 47 → ⊥
stem_no_slash c p e =
    ⊎_elim (λ a. omega arith) (⊎_elim (λ a. omega arith) (⊎_elim (λ a. omega arith) (⊎_elim (λ a. omega arith) (λ a. omega arith)))) p

lower_no_slash : (c : ℕ) → Of Lower c → c ≡ 47 → ⊥
lower_no_slash c p e = omega arith

no_slash : (b : List ℕ) → Bare b → AllByRecursion (λ c. c ≡ 47 → ⊥) b
no_slash b p =
    subst (AllByRecursion (λ c. c ≡ 47 → ⊥)) (sym p.whole)
    (All-append (λ c. c ≡ 47 → ⊥) p.stem (46 ∷ p.end) (All-weaker (Of Stem) (λ c. c ≡ 47 → ⊥) stem_no_slash p.stem p.letters)
    (λ e. omega arith, All-weaker (Of Lower) (λ c. c ≡ 47 → ⊥) lower_no_slash p.end p.lower))

-- a folder followed by a bare name ends where the folder does
folder_end : (f b : List ℕ) → Slashed f → Bare b → FolderEnd (f ++ b) (length f)
folder_end f b slashed bare =
    let n = length-append f b in
    record {
      within = omega arith;
      slash = λ k e.
          let i : k ≡ length f - 1 = omega arith in
          get_or_append_left f b 0 k (omega arith) ∙ ap (λ (j : ℕ). get_or f j 0) i ∙ slashed;
      last = λ k l h e.
          All-get_or (λ c. c ≡ 47 → ⊥) b (k - length f) 0 (omega arith) (no_slash b bare)
          (sym (get_or-append_right f b (length f) k 0 refl l) ∙ e);
    }

bare_size : (f b : List ℕ) → Slashed f → Bare b → folder_size (f ++ b) ≡ length f
bare_size f b slashed bare = one_end (f ++ b) (folder_size (f ++ b)) (length f) (size_end (f ++ b)) (folder_end f b slashed bare)

pub folder_of_bare : FolderOfBare
folder_of_bare f b slashed bare = ap (λ (n : ℕ). take n (f ++ b)) (bare_size f b slashed bare) ∙ take-append_seam f b

base_of_bare : (f b : List ℕ) → Slashed f → Bare b → base_of (f ++ b) ≡ b
base_of_bare f b slashed bare = ap (λ (n : ℕ). drop n (f ++ b)) (bare_size f b slashed bare) ∙ drop-append_seam f b

ends_decides : (s t : List ℕ) → Decides (ends_with s t) (EndsWith s t)
ends_decides s t =
    let n = length s - length t in
    Decides-like _ (λ e. (take n s, sym (take-append-drop n s) ∙ ap (λ (u : List ℕ). take n s ++ u) e)) (λ p. end_rest s t p.0 p.1)
    (bytes_eq-Decides (drop n s) t)

-- what the library's test of an end answers
pub ends-answer :
    (s t : List ℕ) (r : Bool) → r ≡ bytes_eq t (drop (length s - length t) s) → r ≡ ends_with s t
ends-answer s t r m =
    let p = ends_is Decides-eqb s t r m in
    same_from_decides r (ends_with s t) (λ e. (take (length s - length t) s, p.0 e), λ q. p.1 q.0 q.1) (ends_decides s t)

-- what an answer on an ending says
abbrev Told : List ℕ → Option Ending → Type 0
Told s r = MatchOption r ((e : Ending) → EndsWith s (text_of e) → ⊥) (λ e. EndsWith s (text_of e))

none_told :
    (s : List ℕ) → (EndsWith s (text_of Cer) → ⊥) → (EndsWith s (text_of Crl) → ⊥) → (EndsWith s (text_of Mft) → ⊥) → (EndsWith s (text_of Roa) → ⊥)
    → (e : Ending) → EndsWith s (text_of e) → ⊥
none_told s a b c d Cer = a
none_told s a b c d Crl = b
none_told s a b c d Mft = c
none_told s a b c d Roa = d

tell :
    (s : List ℕ) (a b c d : Bool) → Decides a (EndsWith s (text_of Cer)) → Decides b (EndsWith s (text_of Crl)) → Decides c (EndsWith s (text_of Mft))
    → Decides d (EndsWith s (text_of Roa)) → Told s (cond a (Some Cer) (cond b (Some Crl) (cond c (Some Mft) (cond d (Some Roa) None))))
tell s true b c d p q r t = p.0 refl
tell s false true c d p q r t = q.0 refl
tell s false false true d p q r t = r.0 refl
tell s false false false true p q r t = t.0 refl
tell s false false false false p q r t =
    none_told s (not_from_Decides false p refl) (not_from_Decides false q refl) (not_from_Decides false r refl) (not_from_Decides false t refl)

pub ending_told : (s : List ℕ) (r : Option Ending) → r ≡ ending_of s → Told s r
ending_told s r e =
    subst (Told s) (sym e)
    (tell s _ _ _ _ (ends_decides s (text_of Cer)) (ends_decides s (text_of Crl)) (ends_decides s (text_of Mft)) (ends_decides s (text_of Roa)))

front_slashed : (s : List ℕ) (n : ℕ) → FolderEnd s n → 0 < n → Slashed (take n s)
front_slashed s n f some =
    let w = f.within in
    ap (λ (j : ℕ). get_or (take n s) (j - 1) 0) (length-take-le n s w) ∙ get_or-take n s (n - 1) 0 (omega arith) ∙ f.slash (n - 1) (omega arith)

abbrev ManifestParts : List ℕ → Type 0
ManifestParts s = Name s × (Bare (base_of s) × EndsWith (base_of s) (text_of Mft))

manifest_from : (s : List ℕ) → ManifestParts s → ManifestName s
manifest_from s p =
    let f = size_end s in
    record {
      name = p.0;
      folder = folder_of s;
      base = base_of s;
      whole = sym (take-append-drop (folder_size s) s);
      ended = front_slashed s (folder_size s) f (name_parts s (folder_size s) f p.0).1.1.0;
      bare = p.1.0;
      manifest = p.1.1;
    }

manifest_parts : (s : List ℕ) → ManifestName s → ManifestParts s
manifest_parts s m =
    let e : base_of s ≡ m.base = ap base_of m.whole ∙ base_of_bare m.folder m.base m.ended m.bare in
    (m.name, (subst Bare (sym e) m.bare, subst (λ (b : List ℕ). EndsWith b (text_of Mft)) (sym e) m.manifest))

pub manifest_decides : (s : List ℕ) → Decides (is_manifest_name s) (ManifestName s)
manifest_decides s =
    Decides-like _ (manifest_from s) (manifest_parts s)
    (Decides-and _ _ (name_decides s) (Decides-and _ _ (bare_decides (base_of s)) (ends_decides (base_of s) (text_of Mft))))
