use Rattle.std.proofs.Common.{refl, arith}
use Rattle.std.proofs.lemmas.List.{drop-set-lt}
use Rattle.repeats.proofs.Places.{noted_more}
use Rattle.repeats.proofs.note.Goals as goal

pub returns : goal.returns
returns c = record {
  noted = λ ks ps h. noted_more c.args.spots.now c.args.count _ ks ps c.requires refl h;
  rest = drop-set-lt _ c.args.spots.now c.args.count _ (omega arith);
}
