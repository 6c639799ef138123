-- The turns of the loop over a list's entries. Assumes nothing.
use Rattle.std.proofs.Common.{◌≡◌, ℕ, zero, suc, ◌+◌, ◌-◌, ◌<◌, ◌≤◌, true, false, eqb, List, [], ◌∷◌, ◌++◌, length, take, drop, set, Some, None, Ok, Err, Option, Result, sym, refl, ap, ◌∙◌, append_assoc, append-nil, arith, length-set, take-append-drop}
use Rattle.std.proofs.lemmas.List.{take_more_set, length-take-le, drop-drop, drop-set-lt}
use Rattle.std.proofs.lemmas.Bool.Decides.{nat_tests}
use Rattle.fault.specs.declared.Report.{Report}
use Rattle.fault.specs.declared.ElementFault.{ElementFault}
use Rattle.fault.specs.Faults.{element_report}
use Rattle.element.specs.Reading.{Seen, Octets, read_of}
use Rattle.ranges.specs.declared.Range.{Range}
use Rattle.lists.specs.Entries.{Reading, entry_with, after, on_read, no_more, entries_of, counted, kept}

module _ {P : Type 0} (rank : P → ℕ) (entry : Seen → Result (Range P) Report) where
  abbrev Left : ℕ → Option (Range P) → Octets → Reading P
  Left = entries_of rank entry

  abbrev Tail : ℕ → Option (Range P) → Octets → Reading P
  Tail zero = no_more rank entry
  Tail (suc room) = Left room

  -- octets that are not at their end, by what was read there
  opened :
      (room : ℕ) (before : Option (Range P)) (q : Octets) → (length q.octets ≡ 0 → ⊥)
      → Left room before q ≡ on_read rank entry (Tail room) room before (read_of q.octets q.place)
  unfolding entries_of
  opened zero before q some = grind (arith, nat_tests)
  opened (suc room) before q some = grind (arith, nat_tests)

  closed : (room : ℕ) (before : Option (Range P)) (q : Octets) → length q.octets ≡ 0 → Left room before q ≡ ([], Ok tt)
  unfolding entries_of
  closed zero before q none = grind (arith, nat_tests)
  closed (suc room) before q none = grind (arith, nat_tests)

  -- the ranges read so far stand at the front of the table, and what is left of the octets gives the others
  pub record Going (start : Octets) (table₀ table : List (Range P)) (count : ℕ) (before : Option (Range P)) (rest : Octets) : Type 0 where
    pub room : count ≤ 256
    pub size : length table ≡ 256
    pub size₀ : length table₀ ≡ 256
    pub whole : Left 256 None start ≡ (take count table ++ (Left (256 - count) before rest).0, (Left (256 - count) before rest).1)
    pub past : drop count table ≡ drop count table₀

  pub begun : (start : Octets) (table : List (Range P)) → length table ≡ 256 → Going start table table 0 None start
  begun start table size = record { room = omega arith; size = size; size₀ = size; whole = refl; past = refl }

  -- what the rest of the octets gives where it is at its end, or where a fault stands there
  abbrev Rest : ℕ → Option (Range P) → Octets → Reading P
  Rest count before rest = Left (256 - count) before rest

  stopped-at :
      (start : Octets) (table₀ table : List (Range P)) (count : ℕ) (before : Option (Range P)) (rest : Octets) (o : Result (Unit {0}) Report)
      → Going start table₀ table count before rest → Rest count before rest ≡ ([], o) → Left 256 None start ≡ (take count table, o)
  stopped-at start table₀ table count before rest o g e =
      g.whole ∙ ap (λ (x : Reading P). (take count table ++ x.0, x.1)) e ∙ ap (λ (x : List (Range P)). (x, o)) (append-nil (take count table))

  -- the table holds what was read, and then what stood there before
  table_kept :
      (start : Octets) (table₀ table : List (Range P)) (count : ℕ) (before : Option (Range P)) (rest : Octets) (o : Result (Unit {0}) Report)
      → Going start table₀ table count before rest → Rest count before rest ≡ ([], o) → table ≡ kept (Left 256 None start).0 table₀
  table_kept start table₀ table count before rest o g e =
      let h = stopped-at start table₀ table count before rest o g e in
      let i : (Left 256 None start).0 ≡ take count table = ap (λ (x : Reading P). x.0) h in
      let fits = g.room in
      let size = g.size in
      let n : length (take count table) ≡ count = length-take-le count table (omega arith) in
      sym (take-append-drop count table)
      ∙ ap (λ (x : List (Range P)). take count table ++ x) (g.past ∙ ap (λ (k : ℕ). drop k table₀) (sym n))
      ∙ ap (λ (x : List (Range P)). x ++ drop (length x) table₀) (sym i)

  -- the loop comes to the end of the octets
  pub finished :
      (start : Octets) (table₀ table : List (Range P)) (count : ℕ) (before : Option (Range P)) (rest : Octets)
      → Going start table₀ table count before rest → length rest.octets ≡ 0
      → (Ok count ≡ counted (Left 256 None start)) × (table ≡ kept (Left 256 None start).0 table₀)
  finished start table₀ table count before rest g none =
      let e = closed (256 - count) before rest none in
      let h = stopped-at start table₀ table count before rest (Ok tt) g e in
      let fits = g.room in
      let size = g.size in
      let n : length (take count table) ≡ count = length-take-le count table (omega arith) in
      (sym (ap counted h ∙ ap Ok n), table_kept start table₀ table count before rest (Ok tt) g e)

  -- the loop comes to a fault
  pub faulted :
      (start : Octets) (table₀ table : List (Range P)) (count : ℕ) (before : Option (Range P)) (rest : Octets) (f : Report)
      → Going start table₀ table count before rest → Rest count before rest ≡ ([], Err f)
      → (Err f ≡ counted (Left 256 None start)) × (table ≡ kept (Left 256 None start).0 table₀)
  faulted start table₀ table count before rest f g e =
      (sym (ap counted (stopped-at start table₀ table count before rest (Err f) g e)), table_kept start table₀ table count before rest (Err f) g e)

  -- the octets that are left are no element
  pub no-element :
      (count : ℕ) (before : Option (Range P)) (rest : Octets) (x : ElementFault) → (length rest.octets ≡ 0 → ⊥)
      → Err x ≡ read_of rest.octets rest.place → Rest count before rest ≡ ([], Err (element_report x))
  no-element count before rest x some e =
      opened (256 - count) before rest some ∙ ap (on_read rank entry (Tail (256 - count)) (256 - count) before) (sym e)

  entered :
      (count : ℕ) (before : Option (Range P)) (rest : Octets) (e : Seen) (q : Octets) (r : Result (Range P) Report) → (length rest.octets ≡ 0 → ⊥)
      → Ok (e, q) ≡ read_of rest.octets rest.place → r ≡ entry_with rank entry (256 - count) before e
      → Rest count before rest ≡ after rank entry (Tail (256 - count)) q r
  entered count before rest e q r some p i =
      opened (256 - count) before rest some
      ∙ ap (on_read rank entry (Tail (256 - count)) (256 - count) before) (sym p)
      ∙ ap (after rank entry (Tail (256 - count)) q) (sym i)

  -- the entry that comes next is refused
  pub no-entry :
      (count : ℕ) (before : Option (Range P)) (rest : Octets) (e : Seen) (q : Octets) (f : Report) → (length rest.octets ≡ 0 → ⊥)
      → Ok (e, q) ≡ read_of rest.octets rest.place → Err f ≡ entry_with rank entry (256 - count) before e
      → Rest count before rest ≡ ([], Err f)
  no-entry count before rest e q f some p i = entered count before rest e q (Err f) some p i

  -- one entry more
  pub more :
      (start : Octets) (table₀ table : List (Range P)) (count : ℕ) (before : Option (Range P)) (rest : Octets) (e : Seen) (q : Octets) (r : Range P)
      → Going start table₀ table count before rest → count < 256 → (length rest.octets ≡ 0 → ⊥)
      → Ok (e, q) ≡ read_of rest.octets rest.place → Ok r ≡ entry_with rank entry (256 - count) before e
      → Going start table₀ (set table count r) (count + 1) (Some r) q
  more start table₀ table count before rest e q r g small some p i =
      let size = g.size in
      let k : 256 - count ≡ suc (256 - (count + 1)) = omega arith in
      let step : Rest count before rest ≡ (r ∷ (Left (256 - (count + 1)) (Some r) q).0, (Left (256 - (count + 1)) (Some r) q).1) =
      entered count before rest e q (Ok r) some p i ∙ ap (λ (n : ℕ). after rank entry (Tail n) q (Ok r)) k in
      let t : take (count + 1) (set table count r) ≡ take count table ++ (r ∷ []) = take_more_set table count r (omega arith) in
      let j : take count table ++ (r ∷ (Left (256 - (count + 1)) (Some r) q).0) ≡ take (count + 1) (set table count r) ++ (Left (256 - (count + 1)) (Some r) q).0 =
      sym (append_assoc (take count table) (r ∷ []) (Left (256 - (count + 1)) (Some r) q).0)
      ∙ ap (λ (x : List (Range P)). x ++ (Left (256 - (count + 1)) (Some r) q).0) (sym t) in
      record {
        room = omega arith;
        size = length-set table count r ∙ size;
        size₀ = g.size₀;
        whole = g.whole ∙ ap (λ (x : Reading P). (take count table ++ x.0, x.1)) step
            ∙ ap (λ (x : List (Range P)). (x, (Left (256 - (count + 1)) (Some r) q).1)) j;
        past = drop-set-lt (count + 1) table count r (omega arith) ∙ sym (drop-drop 1 count table) ∙ ap (drop 1) g.past ∙ drop-drop 1 count table₀;
      }

  -- what the test of the loop says
  pub some_left : (n : ℕ) → false ≡ eqb n 0 → n ≡ 0 → ⊥
  some_left n e h = grind (arith, nat_tests)

  pub none_left : (n : ℕ) → true ≡ eqb n 0 → n ≡ 0
  none_left n e = grind (arith, nat_tests)
