-- The first octet string of a list that stood in it before. Assumes nothing.
use Rattle.std.specs.Prelude.{◌≡◌, ℕ, ◌+◌, ◌<◌, Bool, false, cond, ◌||◌, List, [], ◌∷◌, map, length, get_or, take, drop, Some, None, Option, ◌==◌, nat_lt, slice_index, slice_index_or}
use Rattle.std.specs.List.Sorted.{IsPermutation}
use Rattle.std.specs.Str.{bytes_eq}
use Rattle.repeats.specs.declared.Spot.{Spot}

-- the string at this place stands at an earlier one too
pub record Repeats (xs : List (List ℕ)) (i : ℕ) : Type 0 where
  pub within : i < length xs
  pub earlier : (j : ℕ) × (j < i) × (slice_index_or xs j [] ≡ slice_index_or xs i [])

-- the string at this place is the first that stood before
pub record FirstRepeat (xs : List (List ℕ)) (i : ℕ) : Type 0 where
  pub repeats : Repeats xs i
  pub first : (k : ℕ) → k < i → Repeats xs k → ⊥

-- no string stands twice
abbrev pub AllDifferent : List (List ℕ) → Type 0
AllDifferent xs = (i : ℕ) → Repeats xs i → ⊥

-- whether these octets are among the strings
abbrev pub among : List ℕ → List (List ℕ) → Bool
among x [] = false
among x (y ∷ ys) = bytes_eq x y || among x ys

-- the place of the first string that stood before, where the strings begin at a place and some were seen before it
abbrev pub repeat_after : List (List ℕ) → ℕ → List (List ℕ) → Option ℕ
repeat_after seen at [] = None
repeat_after seen at (x ∷ xs) = cond (among x seen) (Some at) (repeat_after (x ∷ seen) (at + 1) xs)

-- the place of the first string that stood before
abbrev pub first_repeat : List (List ℕ) → Option ℕ
first_repeat xs = repeat_after [] 0 xs

-- the octets of a spot
abbrev pub key_of : Spot → List ℕ
key_of s = s.octets.now

-- the octets of spots, in their order
abbrev pub keys_of : List Spot → List (List ℕ)
keys_of ss = map key_of ss

-- spots are numbered from 0 in their order
abbrev pub Numbered : List Spot → Type 0
Numbered ss = (k : ℕ) (d : Spot) → k < length ss → (get_or ss k d).index ≡ k

-- the lesser of a number, if there is one, and another
abbrev pub lesser : Option ℕ → ℕ → ℕ
lesser None n = n
lesser (Some m) n = cond (nat_lt m n) m n

-- the least index so far, and that of a spot whose octets are those of the spot before it
abbrev pub with_next : Option ℕ → Spot → Spot → Option ℕ
with_next best p s = cond (bytes_eq (key_of p) (key_of s)) (Some (lesser best s.index)) best

-- the least index of a spot whose octets are those of the spot before it
abbrev pub least_after : Option ℕ → Spot → List Spot → Option ℕ
least_after best p [] = best
least_after best p (s ∷ ss) = least_after (with_next best p s) s ss

abbrev pub least_next : List Spot → Option ℕ
least_next [] = None
least_next (p ∷ ss) = least_after None p ss

-- the places of spots, in their order
abbrev pub places_of : List Spot → List ℕ
places_of ss = map (λ (s : Spot). s.place) ss

-- the place of this number, if there is a number
abbrev pub place_at : List ℕ → Option ℕ → Option ℕ
place_at ps None = None
place_at ps (Some i) = Some (slice_index ps i)

-- the place of the first spot of this number, if there is one
abbrev pub place_with : ℕ → List Spot → Option ℕ
place_with i [] = None
place_with i (s ∷ ss) = cond (s.index == i) (Some s.place) (place_with i ss)

-- the first so many spots note these strings and these places, in the order that they were read in
pub record Notes (keys : List (List ℕ)) (places : List ℕ) (spots : List Spot) (count : ℕ) : Type 0 where
  pub keys_are : keys_of (take count spots) ≡ keys
  pub places_are : places_of (take count spots) ≡ places
  pub numbered : Numbered (take count spots)

-- the first so many spots in another order, and the others as they were
pub record Stirs (count : ℕ) (xs ys : List Spot) : Type 0 where
  pub front : IsPermutation (take count xs) (take count ys)
  pub rest : drop count ys ≡ drop count xs
