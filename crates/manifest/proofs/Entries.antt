-- Reading entries one after the other, with their names noted. Assumes nothing.
use Rattle.std.proofs.Common.{◌≡◌, ℕ, zero, suc, ◌+◌, ◌-◌, ◌*◌, ◌<◌, ◌≤◌, Bool, true, cond, not, eqb, List, [], ◌∷◌, ◌++◌, map, length, take, drop, set, Ok, Err, Result, sym, refl, ap, ◌∙◌, subst, arith}
use Rattle.std.proofs.lemmas.List.{take_more_set, map_push, append_assoc, append-nil, drop-drop}
use Rattle.std.proofs.lemmas.Bool.Decides.{nat_tests}
use Rattle.fault.specs.declared.Report.{Report}
use Rattle.element.specs.Reading.{Octets}
use Rattle.layout.specs.Expecting.{then_read}
use Rattle.repeats.specs.declared.Spot.{Spot}
use Rattle.repeats.specs.Repeats.{Notes}
use Rattle.repeats.specs.Reading.{Noted, noted, note_first, note_onward}
use Rattle.manifest.specs.declared.ManifestEntry.{ManifestEntry}
use Rattle.manifest.specs.Manifests.{Listed, Opened, Begun, State, added, listed, listed_of, opened_of, entry_reader}
use Rattle.manifest.specs.Steps.{NotesOne, Took, Begins, NotedAs}

pub stored : (ts : List ManifestEntry) (n : ℕ) (e : ManifestEntry) → n < length ts → listed (n + 1) (set ts n e) ≡ listed n ts ++ listed_of e ∷ []
stored ts n e l = ap (map listed_of) (take_more_set ts n e l) ∙ map_push listed_of (take n ts) e

-- ---- the parts that were read before, and those after them

abbrev pub preceded : List Begun → Noted State Begun Report → Noted State Begun Report
preceded parts n = (parts ++ n.0, n.1)

preceded_none : (n : Noted State Begun Report) → n ≡ preceded [] n
preceded_none n = refl

-- so much of the entries is read, and this is left
pub record Going (q₀ : Octets) (ts₀ : List ManifestEntry) (q : Octets) (n : ℕ) (ss : List Spot) (ts : List ManifestEntry) : Type 0 where
  pub parts : List Begun
  pub left : ℕ
  pub enough : length q.octets ≤ left
  pub reads : noted entry_reader (length q₀.octets) (q₀, []) ≡ preceded parts (noted entry_reader left (q, listed n ts))
  pub notes : Notes (map entry_reader.key parts) (map entry_reader.place parts) ss n
  pub others : drop n ts ≡ drop n ts₀
  pub octets : 44 * n + length q.octets ≤ length q₀.octets

pub begun : (q : Octets) (ss : List Spot) (ts : List ManifestEntry) → Going q ts q 0 ss ts
begun q ss ts = record {
  parts = [];
  left = length q.octets;
  enough = omega arith;
  reads = refl;
  notes = record { keys_are = refl; places_are = refl; numbered = λ k d l. absurd (let z : k < zero = l in omega arith) };
  others = refl;
  octets = omega arith;
}

noted_end : (n : ℕ) (s : State) → length s.0.octets ≡ 0 → noted entry_reader n s ≡ ([], Ok s)
unfolding noted
noted_end zero s e = refl
noted_end (suc n) s e = ap (λ (m : ℕ). cond (not (eqb m 0)) (note_first entry_reader (noted entry_reader n) (entry_reader.first s)) ([], Ok s)) e

not_zero : (m : ℕ) → (m ≡ 0 → ⊥) → not (eqb m 0) ≡ true
not_zero m h = grind (arith, nat_tests)

noted_first : (n : ℕ) (s : State) → (length s.0.octets ≡ 0 → ⊥) → noted entry_reader (suc n) s ≡ note_first entry_reader (noted entry_reader n) (entry_reader.first s)
unfolding noted
noted_first n s h = ap (λ (t : Bool). cond t (note_first entry_reader (noted entry_reader n) (entry_reader.first s)) ([], Ok s)) (not_zero (length s.0.octets) h)

pub finished : (q₀ : Octets) (ts₀ : List ManifestEntry) (q : Octets) (n : ℕ) (ss : List Spot) (ts : List ManifestEntry) → n ≤ length ss → length q.octets ≡ 0 → (g : Going q₀ ts₀ q n ss ts) → NotedAs q₀ n ss g.parts (Ok (q, listed n ts))
finished q₀ ts₀ q n ss ts l none g = record {
  reads = g.reads ∙ ap (preceded g.parts) (noted_end g.left (q, listed n ts) none) ∙ ap (λ (p : List Begun). (p, Ok (q, listed n ts))) (append-nil g.parts);
  notes = g.notes;
  within = l;
}

one_left : (m n : ℕ) → (m ≡ 0 → ⊥) → m ≤ n → (k : ℕ) × (n ≡ suc k)
one_left m n h l = (n - 1, omega arith)

-- an entry whose name is not read
pub unread : (q₀ : Octets) (ts₀ : List ManifestEntry) (q : Octets) (n : ℕ) (ss : List Spot) (ts : List ManifestEntry) (f : Report) → n ≤ length ss → (length q.octets ≡ 0 → ⊥) → opened_of q ≡ Err f → (g : Going q₀ ts₀ q n ss ts) → NotedAs q₀ n ss g.parts (Err f)
unread q₀ ts₀ q n ss ts f l some e g =
    let k = one_left (length q.octets) g.left some g.enough in
    let s : State = (q, listed n ts) in
    record {
      reads =
          g.reads
          ∙ ap (λ (m : ℕ). preceded g.parts (noted entry_reader m s)) k.1
          ∙ ap (preceded g.parts) (noted_first k.0 s some ∙ ap (λ (o : Result Opened Report). note_first entry_reader (noted entry_reader k.0) (then_read o (λ a. Ok (a, listed n ts)))) e)
          ∙ ap (λ (p : List Begun). (p, Err f)) (append-nil g.parts);
      notes = g.notes;
      within = l;
    }

-- what is noted of one more entry
notes_one : (ss zs : List Spot) (n : ℕ) (parts : List Begun) (a : Opened) (es : List Listed) → NotesOne a n ss zs → Notes (map entry_reader.key parts) (map entry_reader.place parts) ss n → Notes (map entry_reader.key (parts ++ (a, es) ∷ [])) (map entry_reader.place (parts ++ (a, es) ∷ [])) zs (n + 1)
notes_one ss zs n parts a es h notes =
    subst (λ (ks : List (List ℕ)). Notes ks (map entry_reader.place (parts ++ (a, es) ∷ [])) zs (n + 1)) (sym (map_push entry_reader.key parts (a, es)))
    (subst (λ (ps : List ℕ). Notes (map entry_reader.key parts ++ a.name.content ∷ []) ps zs (n + 1)) (sym (map_push entry_reader.place parts (a, es)))
    (h _ _ notes))

-- an entry whose name is read, and its digest is not
pub named : (q₀ : Octets) (ts₀ : List ManifestEntry) (q : Octets) (n : ℕ) (ss zs : List Spot) (ts : List ManifestEntry) (f : Report) → n + 1 ≤ length zs → (length q.octets ≡ 0 → ⊥) → (b : Begins q n ss zs f) → (g : Going q₀ ts₀ q n ss ts) → NotedAs q₀ (n + 1) zs (g.parts ++ (b.opened, listed n ts) ∷ []) (Err f)
named q₀ ts₀ q n ss zs ts f l some b g =
    let k = one_left (length q.octets) g.left some g.enough in
    let s : State = (q, listed n ts) in
    let a = b.opened in
    record {
      reads =
          g.reads
          ∙ ap (λ (m : ℕ). preceded g.parts (noted entry_reader m s)) k.1
          ∙ ap (preceded g.parts) (noted_first k.0 s some
          ∙ ap (λ (o : Result Opened Report). note_first entry_reader (noted entry_reader k.0) (then_read o (λ x. Ok (x, listed n ts)))) b.opens
          ∙ ap (λ (o : Result Octets Report). let w = note_onward (noted entry_reader k.0) (then_read o (λ d. Ok (a.after, added (a, listed n ts) d))) in ((a, listed n ts) ∷ w.0, w.1)) b.breaks);
      notes = notes_one ss zs n g.parts a (listed n ts) b.notes g.notes;
      within = l;
    }

-- an entry that is read whole
pub more : (q₀ : Octets) (ts₀ : List ManifestEntry) (q z : Octets) (n : ℕ) (ss zs : List Spot) (ts us : List ManifestEntry) → (length q.octets ≡ 0 → ⊥) → 44 + length z.octets ≤ length q.octets → Took q n ss zs ts us z → Going q₀ ts₀ q n ss ts → Going q₀ ts₀ z (n + 1) zs us
more q₀ ts₀ q z n ss zs ts us some long t g =
    let k = one_left (length q.octets) g.left some g.enough in
    let s : State = (q, listed n ts) in
    let a = t.opened in
    let m = k.0 in
    let e = k.1 in
    let u = g.enough in
    let o = g.octets in
    let w : noted entry_reader (suc m) s ≡ ((a, listed n ts) ∷ (noted entry_reader m (z, listed (n + 1) us)).0, (noted entry_reader m (z, listed (n + 1) us)).1) =
    noted_first m s some
    ∙ ap (λ (r : Result Opened Report). note_first entry_reader (noted entry_reader m) (then_read r (λ x. Ok (x, listed n ts)))) t.opens
    ∙ ap (λ (r : Result Octets Report). let v = note_onward (noted entry_reader m) (then_read r (λ d. Ok (a.after, added (a, listed n ts) d))) in ((a, listed n ts) ∷ v.0, v.1)) t.digests
    ∙ ap (λ (x : Octets). let v = noted entry_reader m (x, added (a, listed n ts) t.digest) in ((a, listed n ts) ∷ v.0, v.1)) t.after_is
    ∙ ap (λ (x : List Listed). let v = noted entry_reader m (z, x) in ((a, listed n ts) ∷ v.0, v.1)) (sym t.files) in
    record {
      parts = g.parts ++ (a, listed n ts) ∷ [];
      left = m;
      enough = omega arith;
      reads =
          g.reads
          ∙ ap (λ (j : ℕ). preceded g.parts (noted entry_reader j s)) e
          ∙ ap (preceded g.parts) w
          ∙ ap (λ (p : List Begun). (p, (noted entry_reader m (z, listed (n + 1) us)).1)) (sym (append_assoc g.parts ((a, listed n ts) ∷ []) (noted entry_reader m (z, listed (n + 1) us)).0));
      notes = notes_one ss zs n g.parts a (listed n ts) t.notes g.notes;
      others = t.others ∙ drop_one n ts ts₀ g.others;
      octets = omega arith;
    }
  where
    drop_one : (n : ℕ) (xs ys : List ManifestEntry) → drop n xs ≡ drop n ys → drop (n + 1) xs ≡ drop (n + 1) ys
    drop_one n xs ys h = sym (drop-drop 1 n xs) ∙ ap (drop 1) h ∙ drop-drop 1 n ys

-- so many octets have room for no more entries
pub room_left : (n m k l : ℕ) → 44 * n + m ≤ k → k ≤ 65535 → 1490 ≤ l → (n ≤ l) × (n + 1 ≤ l)
room_left n m k l a b c = (omega arith, omega arith)
