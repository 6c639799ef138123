use Rattle.std.proofs.Common.{ℕ, List, Option, sym, ap, ◌∙◌, Bor}
use Rattle.pieces.specs.Marks.{take_piece}
use Rattle.pieces.specs.Views.{coming}
use Rattle.pieces.proofs.Splits.{next_piece}
use Rattle.pieces.proofs.Pieces.next.Goals as goal

pub returns : goal.returns
returns c =
    let m = c.args.self.now.mark in
    next_piece m c.in_ok-rest.rest.now c.piece_end-end.result (coming m c.past-self.result) c.piece_end-end.ensures.value (c.past-self.ensures m)
    ∙ ap (λ (o : Option (Bor (List ℕ))). take_piece (coming m o)) (sym c.in_ok-rest.was)
