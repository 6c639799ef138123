-- Looking for repeats while reading is the same parts looking after it. Assumes nothing.
use Rattle.std.proofs.Common.{◌≡◌, ℕ, zero, suc, ◌+◌, Bool, true, false, cond, List, [], ◌∷◌, ◌++◌, map, length, Some, None, Ok, Err, Option, Result, sym, refl, ap, ◌∙◌}
use Rattle.std.proofs.lemmas.List.{get_or_at, append_assoc, length_push}
use Rattle.repeats.specs.Repeats.{among, repeat_after, place_at}
use Rattle.repeats.specs.Reading.{Reader, onward, on_first, tested, Noted, note_onward, note_first, noted, unless_repeat, LookingAfter}

module _ {S A E : Type 0} (r : Reader S A E) where
  -- the place of the first repeat among first parts, where some keys were seen before them
  abbrev place_after : List (List ℕ) → List A → Option ℕ
  place_after seen [] = None
  place_after seen (a ∷ parts) = cond (among (r.key a) seen) (Some (r.place a)) (place_after (r.key a ∷ seen) parts)

  place_by : (t : Bool) (front : List ℕ) (a : A) (parts : List A) (i : Option ℕ) (p : Option ℕ) → place_at (front ++ r.place a ∷ map r.place parts) i ≡ p → place_at (front ++ r.place a ∷ map r.place parts) (cond t (Some (length front)) i) ≡ cond t (Some (r.place a)) p
  place_by true front a parts i p h = ap Some (get_or_at front (r.place a) (map r.place parts) 0 (length front) refl)
  place_by false front a parts i p h = h

  place_after_lem : (front : List ℕ) (seen : List (List ℕ)) (parts : List A) → place_at (front ++ map r.place parts) (repeat_after seen (length front) (map r.key parts)) ≡ place_after seen parts
  place_after_lem front seen [] = refl
  place_after_lem front seen (a ∷ parts) =
      place_by (among (r.key a) seen) front a parts (repeat_after (r.key a ∷ seen) (length front + 1) (map r.key parts)) (place_after (r.key a ∷ seen) parts)
      (ap (λ (q : List ℕ). place_at q (repeat_after (r.key a ∷ seen) (length front + 1) (map r.key parts))) (sym (append_assoc front (r.place a ∷ []) (map r.place parts)))
      ∙ ap (λ (m : ℕ). place_at ((front ++ r.place a ∷ []) ++ map r.place parts) (repeat_after (r.key a ∷ seen) m (map r.key parts))) (sym (length_push front (r.place a)))
      ∙ place_after_lem (front ++ r.place a ∷ []) (r.key a ∷ seen) parts)

  -- with some keys seen before
  abbrev After : List (List ℕ) → Noted S A E → Result S E
  After seen n = unless_repeat r.again (place_after seen n.0) n.1

  onward_same : (seen : List (List ℕ)) (next : S → Result S E) (note : S → Noted S A E) → ((s : S) → next s ≡ After seen (note s)) → (q : Result S E) → onward next q ≡ After seen (note_onward note q)
  onward_same seen next note h (Err e) = refl
  onward_same seen next note h (Ok s) = h s

  test_by : (t : Bool) (p : ℕ) (i : Option ℕ) (x y : Result S E) → x ≡ unless_repeat r.again i y → cond t (Err (r.again p)) x ≡ unless_repeat r.again (cond t (Some p) i) y
  test_by true p i x y h = refl
  test_by false p i x y h = h

  first_same : (next : List (List ℕ) → S → Result S E) (note : S → Noted S A E) → ((seen : List (List ℕ)) (s : S) → next seen s ≡ After seen (note s)) → (seen : List (List ℕ)) (q : Result A E) → on_first r next seen q ≡ After seen (note_first r note q)
  first_same next note h seen (Err e) = refl
  first_same next note h seen (Ok a) =
      test_by (among (r.key a) seen) (r.place a) (place_after (r.key a ∷ seen) (note_onward note (r.rest a)).0) (onward (next (r.key a ∷ seen)) (r.rest a)) (note_onward note (r.rest a)).1
      (onward_same (r.key a ∷ seen) (next (r.key a ∷ seen)) note (h (r.key a ∷ seen)) (r.rest a))

  more_by : (t : Bool) (seen : List (List ℕ)) (s : S) (x : Result S E) (y : Noted S A E) → x ≡ After seen y → cond t x (Ok s) ≡ After seen (cond t y ([], Ok s))
  more_by true seen s x y h = h
  more_by false seen s x y h = refl

  tested_after : (n : ℕ) (seen : List (List ℕ)) (s : S) → tested r n seen s ≡ After seen (noted r n s)
  unfolding tested noted
  tested_after zero seen s = refl
  tested_after (suc n) seen s =
      more_by (r.more s) seen s (on_first r (tested r n) seen (r.first s)) (note_first r (noted r n) (r.first s))
      (first_same (tested r n) (noted r n) (tested_after n) seen (r.first s))

pub looking_after : (S A E : Type 0) → LookingAfter S A E
looking_after S A E r n s =
    tested_after r n [] s
    ∙ ap (λ (i : Option ℕ). unless_repeat r.again i (noted r n s).1) (sym (place_after_lem r [] [] (noted r n s).0))
