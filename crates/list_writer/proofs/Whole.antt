-- The element of a list: its header laid down, and then its entries. Assumes nothing.
use Rattle.std.proofs.Common.{◌≡◌, ℕ, ◌+◌, ◌<◌, ◌≤◌, true, List, ◌++◌, length, take, drop, Ok, Err, sym, ap, ◌∙◌, arith}
use Rattle.std.proofs.lemmas.Bool.{cond-true, cond-false, lt-ltb, le-ltb}
use Rattle.fault.specs.declared.Rule.TheVariants.{Area}
use Rattle.element.specs.Lengths.{length_octets, header, encoded}
use Rattle.element.specs.Writing.{header_written}
use Rattle.element.proofs.Writes.{length_encoded, header-fits, front_of}
use Rattle.ranges.specs.declared.Range.{Range}
use Rattle.ranges.specs.Walks.{lawful}
use Rattle.entry_text.proofs.Elements.{ok_same}
use Rattle.entry_writer.specs.Areas.{laid_at}
use Rattle.entry_writer.proofs.Laying.{laid-after}
use Rattle.list_writer.specs.Texts.{entries_text, list_text, list_written}

laid_front : (s area : List ℕ) → laid_at 0 s area ≡ s ++ drop (length s) area
unfolding laid_at
laid_front s area = let e : 0 + length s ≡ length s = omega arith in ap (λ (k : ℕ). s ++ drop k area) e

module _ {P : Type 0} (rank : P → ℕ) (text : Range P → List ℕ) where
  list_length : (rs : List (Range P)) (size head : ℕ) → size ≡ length (entries_text text rs) → head ≡ 1 + length (length_octets size) → length (list_text text rs) ≡ head + size
  unfolding list_text
  list_length rs size head e h =
      let n = length_encoded 48 (entries_text text rs) in
      let m : length (length_octets size) ≡ length (length_octets (length (entries_text text rs))) = ap (λ (x : ℕ). length (length_octets x)) e in
      omega arith

  pub no_room :
      (rs : List (Range P)) (size head room : ℕ) → true ≡ lawful rank rs → size ≡ length (entries_text text rs) → head ≡ 1 + length (length_octets size) → room < head + size
      → Err Area ≡ list_written rank text rs room
  no_room rs size head room law e h l =
      let n = list_length rs size head e h in
      sym (cond-true (lawful rank rs) _ _ (sym law) ∙ cond-true _ _ _ (lt-ltb room (length (list_text text rs)) (omega arith)))

  -- the header takes what was counted for it
  pub start_is :
      (size head room start : ℕ) → size ≤ 10240 → head ≡ 1 + length (length_octets size) → head + size ≤ room → Ok start ≡ header_written 48 size room → start ≡ head
  start_is size head room start few h l p =
      let f = header-fits 48 size head room (omega arith) h (omega arith) in
      ok_same start head (p ∙ sym f)

  pub written :
      (rs : List (Range P)) (size head start : ℕ) (before middle after : List ℕ) → true ≡ lawful rank rs → size ≡ length (entries_text text rs)
      → head ≡ 1 + length (length_octets size) → start ≡ head → head + size ≤ length before
      → middle ≡ header 48 size ++ drop (length (header 48 size)) before → after ≡ laid_at start (entries_text text rs) middle
      → (Ok (start + size) ≡ list_written rank text rs (length before)) × (after ≡ list_text text rs ++ drop (length (list_text text rs)) before) × (take (start + size) after ≡ list_text text rs)
  unfolding list_text
  written rs size head start before middle after law e h i l p q =
      let c = entries_text text rs in
      let n = list_length rs size head e h in
      let k : start + size ≡ length (encoded 48 c) = omega arith in
      let a : middle ≡ laid_at 0 (header 48 size) before = p ∙ sym (laid_front (header 48 size) before) in
      let z : start ≡ 0 + length (header 48 size) = omega arith in
      let b : after ≡ laid_at 0 (header 48 size ++ c) before = laid-after 0 start (header 48 size) c before middle after (omega arith) z a q in
      let d : after ≡ encoded 48 c ++ drop (length (encoded 48 c)) before = b ∙ ap (λ (x : ℕ). laid_at 0 (header 48 x ++ c) before) e ∙ laid_front (encoded 48 c) before in (
        ap Ok k ∙ sym (cond-true (lawful rank rs) _ _ (sym law) ∙ cond-false _ _ _ (le-ltb (length before) (length (encoded 48 c)) (omega arith))),
        d,
        ap (take (start + size)) d ∙ front_of (encoded 48 c) before (start + size) k,
      )
