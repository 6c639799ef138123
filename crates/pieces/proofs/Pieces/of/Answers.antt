use Rattle.std.proofs.Common.{refl}
use Rattle.pieces.proofs.Splits.{joined_pieces, markless_pieces}
use Rattle.pieces.proofs.Pieces.of.Goals as goal

pub returns : goal.returns
returns c =
    let s = c.args.text.now in
    let m = c.args.mark in
    record { value = refl; joined = joined_pieces m s; markless = markless_pieces m s }
