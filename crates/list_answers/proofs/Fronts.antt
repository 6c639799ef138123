-- What a call left at the front of its area. Assumes nothing.
use Rattle.std.proofs.Common.{◌≡◌, ℕ, Bool, true, false, cond, ◌&&◌, ltb, leb, List, [], ◌∷◌, ◌++◌, length, take, drop, Ok, Err, Result, sym, refl, ap, ◌∙◌, arith}
use Rattle.fault.specs.declared.Rule.{Rule}
use Rattle.element.specs.Writing.{laid}
use Rattle.ranges.specs.declared.Range.{Range}
use Rattle.ranges.specs.Walks.{lawful}
use Rattle.ranges.specs.Joins.{joined, join_answer}
use Rattle.list_writer.specs.Texts.{list_written, list_text as octets_text}
use Rattle.list_answers.specs.Replies.{joined_line, joined_or, join_reply, written_line, written_or, write_reply}

err_ok : {B : Type 0} (e : Rule) (n : ℕ) → ◌≡◌ {A = Result ℕ Rule} (Ok n) (Err e) → B
err_ok e n h = let z : ◌≡◌ {A = ℕ} 0 1 = cc in absurd (omega arith)

-- an answer that two tests let through, or one test lets through and another does not
let_through : (b c : Bool) (m n : ℕ) (e f : Rule) → ◌≡◌ {A = Result ℕ Rule} (Ok n) (cond b (cond c (Ok m) (Err e)) (Err f)) → n ≡ m
let_through true true m n e f h = cc
let_through true false m n e f h = err_ok e n h
let_through false c m n e f h = err_ok f n h

not_kept : (b c : Bool) (m n : ℕ) (e f : Rule) → ◌≡◌ {A = Result ℕ Rule} (Ok n) (cond b (cond c (Err e) (Ok m)) (Err f)) → n ≡ m
not_kept true true m n e f h = err_ok e n h
not_kept true false m n e f h = cc
not_kept false c m n e f h = err_ok f n h

-- the front of two parts is the first
take_front : {X : Type 0} (xs ys : List X) → take (length xs) (xs ++ ys) ≡ xs
take_front [] [] = refl
take_front [] (y ∷ ys) = refl
take_front {X} (x ∷ xs) ys = ap (λ (l : List X). x ∷ l) (take_front xs ys)

module _ {P : Type 0} (rank : P → ℕ) where
  -- the joined list is as long as the answer says
  pub join_fits : (xs ys after : List (Range P)) (room n : ℕ) → Ok n ≡ join_answer rank xs ys room → take n after ≡ joined rank xs ys → n ≡ length (take n after)
  join_fits xs ys after room n h p =
      let e : n ≡ length (joined rank xs ys) =
      let_through (lawful rank xs && lawful rank ys) (leb (length (joined rank xs ys)) 256 && leb (length (joined rank xs ys)) room) (length (joined rank xs ys)) n _ _ h in
      e ∙ sym (ap length p)

  pub join_is : (text : P → List ℕ) (xs ys after : List (Range P)) (room n : ℕ) → Ok n ≡ join_answer rank xs ys room → take n after ≡ joined rank xs ys → joined_line text (take n after) ≡ join_reply rank text xs ys room
  join_is text xs ys after room n h p = ap (joined_line text) p ∙ ap (λ (r : Result ℕ Rule). joined_or text r (joined rank xs ys)) h

  pub write_is : (text : Range P → List ℕ) (xs : List (Range P)) (area after : List ℕ) (n : ℕ) → Ok n ≡ list_written rank text xs (length area) → after ≡ laid (Ok n) (octets_text text xs) area
      → written_line (take n after) ≡ write_reply rank text xs (length area)
  write_is text xs area after n h p =
      let t : List ℕ = octets_text text xs in
      let e : n ≡ length t = not_kept (lawful rank xs) (ltb (length area) (length t)) (length t) n _ _ h in
      ap (λ (k : ℕ). written_line (take k after)) e ∙ ap (λ (s : List ℕ). written_line (take (length t) s)) p
      ∙ ap written_line (take_front t (drop (length t) area)) ∙ ap (λ (r : Result ℕ Rule). written_or r t) h
