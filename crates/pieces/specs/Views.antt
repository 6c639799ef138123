-- The pieces that are still to be read, as lists in place of references. Assumes nothing.
use Rattle.std.specs.Prelude.{ℕ, List, [], Some, None, Option}
use Rattle.std.specs.Borrow.{Bor}
use Rattle.pieces.specs.declared.Pieces.{Pieces}
use Rattle.pieces.specs.Marks.{pieces_of}

-- the pieces of what is left of a text
abbrev pub coming : ℕ → Option (Bor (List ℕ)) → List (List ℕ)
coming mark None = []
coming mark (Some s) = pieces_of mark s.now

abbrev pub left : Pieces → List (List ℕ)
left p = coming p.mark p.rest
