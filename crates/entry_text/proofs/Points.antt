-- The laws of a kind of points from those of the numbers of its points. Assumes nothing.
use Rattle.std.proofs.Common.{◌≡◌, ℕ, ◌+◌, ◌<◌, ◌≤◌, List, ◌++◌, length, Ok, Err, Result, sym, refl, ap, ◌∙◌, subst, arith}
use Rattle.fault.specs.declared.Report.{Report}
use Rattle.element.specs.Reading.{Seen, Octets, read_of}
use Rattle.prefixes.specs.Theorems.{Octets as EachOctet}
use Rattle.ranges.specs.declared.Range.{Range}
use Rattle.entries.specs.Kinds.{between}
use Rattle.entry_text.specs.Laws.{Sound, ReadsAs, WrittenAs, EntryLaws}

-- the laws of writing and reading the numbers from a to z, all below a bound
module _ (bound : ℕ) (entry : Seen → Result (ℕ × ℕ) Report) (text : ℕ → ℕ → List ℕ) where
  pub record Said (a z at : ℕ) (q : List ℕ) : Type 0 where
    pub element : Seen
    pub read : read_of (text a z ++ q) at ≡ Ok (element, record { octets = q; place = at + length (text a z) })
    pub says : entry element ≡ Ok (a, z)

  -- the same of octets that are the text
  pub said-as :
      (a z at : ℕ) (q s : List ℕ) (e : Seen) → text a z ≡ s → read_of (s ++ q) at ≡ Ok (e, record { octets = q; place = at + length s }) → entry e ≡ Ok (a, z) → Said a z at q
  said-as a z at q s e i p h = record {
    element = e;
    read = subst (λ (x : List ℕ). read_of (x ++ q) at ≡ Ok (e, record { octets = q; place = at + length x })) (sym i) p;
    says = h;
  }

  pub record NumberLaws : Type 0 where
    pub reads_back : (a z : ℕ) → a ≤ z → z < bound → (at : ℕ) (q : List ℕ) → Said a z at q
    pub one_encoding :
        (s : List ℕ) (at : ℕ) (e : Seen) (q : Octets) (a z : ℕ) → EachOctet s → read_of s at ≡ Ok (e, q) → entry e ≡ Ok (a, z)
        → (s ≡ text a z ++ q.octets) × (a ≤ z) × (z < bound)
    pub some : (a z : ℕ) → 0 < length (text a z)
    pub short : (a z : ℕ) → length (text a z) ≤ 40

  -- a kind whose points have the numbers below the bound
  module _ {P : Type 0} (rank : P → ℕ) (fits : P → Type 0) (point : ℕ → P) where
    pub record Numbered : Type 0 where
      pub point_rank : (x : P) → fits x → point (rank x) ≡ x
      pub rank_point : (n : ℕ) → n < bound → rank (point n) ≡ n
      pub point_fits : (n : ℕ) → n < bound → fits (point n)
      pub below : (x : P) → fits x → rank x < bound

    abbrev kind_entry : Seen → Result (Range P) Report
    kind_entry e = between point (entry e)

    abbrev kind_text : Range P → List ℕ
    kind_text r = text (rank r.first) (rank r.last)

    between_ok : (r : Result (ℕ × ℕ) Report) (y : Range P) → between point r ≡ Ok y → (p : ℕ × ℕ) × (r ≡ Ok p) × (record { first = point p.0; last = point p.1 } ≡ y)
    between_ok (Ok p) y e = (p, refl, cc)
    between_ok (Err f) y e = let z : ◌≡◌ {A = ℕ} 0 1 = cc in absurd (omega arith)

    back : NumberLaws → Numbered → (r : Range P) → Sound rank fits r → (at : ℕ) (q : List ℕ) → ReadsAs rank fits kind_entry kind_text r at q
    back l n r s at q =
        let g = l.reads_back (rank r.first) (rank r.last) s.forward (n.below r.last s.last_fits) at q in
        record {
          element = g.element;
          read = g.read;
          says = ap (between point) g.says
              ∙ ap (λ (x : P). Ok record { first = x; last = point (rank r.last) }) (n.point_rank r.first s.first_fits)
              ∙ ap (λ (x : P). Ok record { first = r.first; last = x }) (n.point_rank r.last s.last_fits);
        }

    one :
        NumberLaws → Numbered → (s : List ℕ) (at : ℕ) (e : Seen) (q : Octets) (r : Range P) → EachOctet s → read_of s at ≡ Ok (e, q) → kind_entry e ≡ Ok r
        → WrittenAs rank fits kind_entry kind_text s q.octets r
    one l n s at e q r o p i =
        let g = between_ok (entry e) r i in
        let a = g.0.0 in
        let z = g.0.1 in
        let h = l.one_encoding s at e q a z o p g.1 in
        let up = h.1 in
        let small : z < bound = h.2 in
        let few : a < bound = omega arith in
        let ra = n.rank_point a few in
        let rz = n.rank_point z small in
        subst (WrittenAs rank fits kind_entry kind_text s q.octets) g.2
        (record {
          octets = h.0 ∙ ap (λ (x : ℕ). text x z ++ q.octets) (sym ra) ∙ ap (λ (x : ℕ). text (rank (point a)) x ++ q.octets) (sym rz);
          sound = record { first_fits = n.point_fits a few; last_fits = n.point_fits z small; forward = omega arith };
        })

    pub laws : NumberLaws → Numbered → EntryLaws rank fits kind_entry kind_text
    laws l n = record {
      reads_back = back l n;
      one_encoding = one l n;
      some = λ r. l.some (rank r.first) (rank r.last);
      short = λ r. l.short (rank r.first) (rank r.last);
    }
