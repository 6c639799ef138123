-- Looking for repeats while reading, and after it. Assumes nothing.
use Rattle.std.specs.Prelude.{◌≡◌, ℕ, zero, suc, Bool, cond, List, [], ◌∷◌, map, Some, None, Ok, Err, Option, Result}
use Rattle.repeats.specs.Repeats.{among, first_repeat, place_at}

-- A reading of items, one after the other, from a state S to the next. Of each item a first part A is read, which has
-- a key and a place, and then the rest of it. A reading goes on while there is more, and ends with a fault E of either
-- part. A key that stood before is a fault at its place.
pub record Reader (S A E : Type 0) : Type 0 where
  pub more : S → Bool
  pub first : S → Result A E
  pub rest : A → Result S E
  pub key : A → List ℕ
  pub place : A → ℕ
  pub again : ℕ → E

-- ---- looking while reading: a key that stood before ends the reading, before the rest of its item is read

abbrev pub onward : {S E : Type 0} → (S → Result S E) → Result S E → Result S E
onward next (Err e) = Err e
onward next (Ok s) = next s

abbrev pub on_first : {S A E : Type 0} → Reader S A E → (List (List ℕ) → S → Result S E) → List (List ℕ) → Result A E → Result S E
on_first r next seen (Err e) = Err e
on_first r next seen (Ok a) = cond (among (r.key a) seen) (Err (r.again (r.place a))) (onward (next (r.key a ∷ seen)) (r.rest a))

-- the state after at most so many items, where some keys were seen before
unfoldable pub tested : {S A E : Type 0} → Reader S A E → ℕ → List (List ℕ) → S → Result S E
tested r zero seen s = Ok s
tested r (suc n) seen s = cond (r.more s) (on_first r (tested r n) seen (r.first s)) (Ok s)

-- ---- looking after reading: the first parts are noted up to the first fault

-- the first parts that were read, and how the reading ended
abbrev pub Noted : Type 0 → Type 0 → Type 0 → Type 0
Noted S A E = List A × Result S E

abbrev pub note_onward : {S A E : Type 0} → (S → Noted S A E) → Result S E → Noted S A E
note_onward next (Err e) = ([], Err e)
note_onward next (Ok s) = next s

abbrev pub note_first : {S A E : Type 0} → Reader S A E → (S → Noted S A E) → Result A E → Noted S A E
note_first r next (Err e) = ([], Err e)
note_first r next (Ok a) = (a ∷ (note_onward next (r.rest a)).0, (note_onward next (r.rest a)).1)

unfoldable pub noted : {S A E : Type 0} → Reader S A E → ℕ → S → Noted S A E
noted r zero s = ([], Ok s)
noted r (suc n) s = cond (r.more s) (note_first r (noted r n) (r.first s)) ([], Ok s)

-- a repeat, if there is one, wins over how the reading ended
abbrev pub unless_repeat : {S E : Type 0} → (ℕ → E) → Option ℕ → Result S E → Result S E
unless_repeat again None end = end
unless_repeat again (Some p) end = Err (again p)

-- the place of the first repeat among the first parts that were noted
abbrev pub repeat_in : {S A E : Type 0} → Reader S A E → List A → Option ℕ
repeat_in r parts = place_at (map r.place parts) (first_repeat (map r.key parts))

abbrev pub decided : {S A E : Type 0} → Reader S A E → Noted S A E → Result S E
decided r n = unless_repeat r.again (repeat_in r n.0) n.1

-- both are the same
abbrev pub LookingAfter : Type 0 → Type 0 → Type 0 → Type 0
LookingAfter S A E = (r : Reader S A E) (n : ℕ) (s : S) → tested r n [] s ≡ decided r (noted r n s)
