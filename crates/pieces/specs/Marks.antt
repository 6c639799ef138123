-- The pieces of a text between the marks in it. Assumes nothing.
use Rattle.std.specs.Prelude.{ℕ, suc, Bool, true, cond, not, ◌&&◌, List, [], ◌∷◌, ◌++◌, drop, Some, None, Option, ◌==◌}

-- a character in front of the first piece
abbrev pub lengthened : ℕ → List (List ℕ) → List (List ℕ)
lengthened c [] = (c ∷ []) ∷ []
lengthened c (w ∷ ws) = (c ∷ w) ∷ ws

-- each mark ends a piece, so that two marks in a row have an empty piece between them
abbrev pub pieces_of : ℕ → List ℕ → List (List ℕ)
pieces_of mark [] = [] ∷ []
pieces_of mark (c ∷ s) = cond (c == mark) ([] ∷ pieces_of mark s) (lengthened c (pieces_of mark s))

-- pieces with a mark between each two
abbrev pub joined : ℕ → List (List ℕ) → List ℕ
joined mark [] = []
joined mark (w ∷ []) = w
joined mark (w ∷ (v ∷ ws)) = w ++ (mark ∷ joined mark (v ∷ ws))

-- whether no character is c
abbrev pub lacking : ℕ → List ℕ → Bool
lacking c [] = true
lacking c (x ∷ s) = not (x == c) && lacking c s

-- where the first piece ends
abbrev pub piece_end : ℕ → List ℕ → ℕ
piece_end mark [] = 0
piece_end mark (c ∷ s) = cond (c == mark) 0 (suc (piece_end mark s))

-- the pieces after a mark, and none at the end
abbrev pub pieces_after : ℕ → List ℕ → List (List ℕ)
pieces_after mark [] = []
pieces_after mark (c ∷ s) = pieces_of mark s

-- the pieces after the one that ends at n
abbrev pub pieces_past : ℕ → ℕ → List ℕ → List (List ℕ)
pieces_past mark n s = pieces_after mark (drop n s)

-- the next piece and those after it
abbrev pub take_piece : List (List ℕ) → Option (List ℕ × List (List ℕ))
take_piece [] = None
take_piece (w ∷ ws) = Some (w, ws)

-- what may be there, beside what is left after it
abbrev pub beside : {X A B : Type 0} → (X → A) → Option X → B → Option (A × B)
beside f None rest = None
beside f (Some x) rest = Some (f x, rest)

-- one answer and then another with what it gave, none where one of them is none
abbrev pub and_then : {A B : Type 0} → Option A → (A → Option B) → Option B
and_then None f = None
and_then (Some a) f = f a

-- what the next piece reads as, and the pieces after it
abbrev pub read_next : {A : Type 0} → (List ℕ → Option A) → List (List ℕ) → Option (A × List (List ℕ))
read_next reads ws = and_then (take_piece ws) (λ p. and_then (reads p.0) (λ a. Some (a, p.1)))

-- something, where no piece is left
abbrev pub at_end : {A : Type 0} → List (List ℕ) → A → Option A
at_end [] a = Some a
at_end (w ∷ ws) a = None
