-- The turns of the loops over a list's ranges. Assumes nothing.
use Rattle.std.proofs.Common.{◌≡◌, ℕ, zero, suc, ◌+◌, ◌*◌, ◌<◌, ◌≤◌, List, [], ◌∷◌, ◌++◌, length, get_or, take, sym, refl, ap, ◌∙◌, arith, length-append}
use Rattle.std.specs.List.{flat_map}
use Rattle.std.proofs.lemmas.List.{take_more, take_all, flat_map_more}
use Rattle.ranges.specs.declared.Range.{Range}
use Rattle.entry_writer.specs.Areas.{laid_at}
use Rattle.entry_writer.proofs.Laying.{laid_none, laid-after}
use Rattle.list_writer.specs.Texts.{entries_text}

module _ {P : Type 0} (text : Range P → List ℕ) where
  front_more :
      (rs : List (Range P)) (i : ℕ) (x : Range P) → i < length rs → x ≡ get_or rs i x → entries_text text (take (i + 1) rs) ≡ entries_text text (take i rs) ++ text x
  unfolding entries_text
  front_more rs i x h e =
      ap (flat_map text) (take_more rs i x h)
      ∙ ap (λ (y : Range P). flat_map text (take i rs ++ (y ∷ []))) (sym e)
      ∙ sym (flat_map_more text [] (take i rs) x)

  front_length : (rs : List (Range P)) (k : ℕ) → length (entries_text text (take k rs)) ≤ length (entries_text text rs)
  unfolding entries_text
  front_length rs zero = omega arith
  front_length [] (suc k) = omega arith
  front_length (r ∷ rs) (suc k) =
      let h = front_length rs k in
      let a = length-append (text r) (flat_map text (take k rs)) in
      let b = length-append (text r) (flat_map text rs) in
      omega arith

  -- the octets of the entries so far, each of at most 40
  abbrev pub Counting : List (Range P) → ℕ → ℕ → Type 0
  Counting rs i size = (size ≡ length (entries_text text (take i rs))) × (size ≤ 40 * i)

  pub count_none : (rs : List (Range P)) → Counting rs 0 0
  unfolding entries_text
  count_none rs = (refl, omega arith)

  pub count_more :
      ((r : Range P) → length (text r) ≤ 40) → (rs : List (Range P)) (i size n : ℕ) (x : Range P) → i < length rs → x ≡ get_or rs i x → n ≡ length (text x)
      → Counting rs i size → Counting rs (i + 1) (size + n)
  count_more short rs i size n x h e f c =
      let s = short x in
      let p = c.0 in
      let q = c.1 in
      let m = ap length (front_more rs i x h e) in
      let l = length-append (entries_text text (take i rs)) (text x) in
      (omega arith, omega arith)

  pub count_all : (rs : List (Range P)) (i size : ℕ) → length rs ≤ i → i ≤ length rs → length rs ≤ 256 → Counting rs i size → (size ≡ length (entries_text text rs)) × (size ≤ 10240)
  count_all rs i size h l m c =
      let q = c.1 in
      (c.0 ∙ ap (λ (x : List (Range P)). length (entries_text text x)) (take_all i rs h), omega arith)

  -- the entries so far stand there
  abbrev pub Laying : List (Range P) → List ℕ → ℕ → ℕ → ℕ → List ℕ → Type 0
  Laying rs before at i next area = (next ≡ at + length (entries_text text (take i rs))) × (area ≡ laid_at at (entries_text text (take i rs)) before)

  pub laying_none : (rs : List (Range P)) (before : List ℕ) (at : ℕ) → Laying rs before at 0 at before
  unfolding entries_text
  laying_none rs before at = (omega arith, sym (laid_none at before))

  pub laying-room :
      (rs : List (Range P)) (before : List ℕ) (at i next room : ℕ) (area : List ℕ) (x : Range P) → at + length (entries_text text rs) ≤ room → i < length rs → x ≡ get_or rs i x
      → Laying rs before at i next area → next + length (text x) ≤ room
  laying-room rs before at i next room area x h l e c =
      let n = c.0 in
      let f = front_length rs (i + 1) in
      let m = ap length (front_more rs i x l e) in
      let k = length-append (entries_text text (take i rs)) (text x) in
      omega arith

  pub laying-more :
      (rs : List (Range P)) (before : List ℕ) (at i next end : ℕ) (area after : List ℕ) (x : Range P) → at + length (entries_text text rs) ≤ length before → i < length rs → x ≡ get_or rs i x
      → Laying rs before at i next area → end ≡ next + length (text x) → after ≡ laid_at next (text x) area → Laying rs before at (i + 1) end after
  laying-more rs before at i next end area after x h l e c p q =
      let n = c.0 in
      let f = front_length rs i in
      let g = front_more rs i x l e in
      let m = ap length g in
      let k = length-append (entries_text text (take i rs)) (text x) in (
        omega arith,
        laid-after at next (entries_text text (take i rs)) (text x) before area after (omega arith) n c.1 q ∙ ap (λ (y : List ℕ). laid_at at y before) (sym g),
      )

  pub laying-all :
      (rs : List (Range P)) (before : List ℕ) (at i next : ℕ) (area : List ℕ) → length rs ≤ i → Laying rs before at i next area → area ≡ laid_at at (entries_text text rs) before
  laying-all rs before at i next area h c = c.1 ∙ ap (λ (x : List (Range P)). laid_at at (entries_text text x) before) (take_all i rs h)
