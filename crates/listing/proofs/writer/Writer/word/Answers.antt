use Rattle.std.proofs.Common.{◌∙◌, arith}
use Rattle.std.proofs.lemmas.List.{take_all}
use Rattle.listing.proofs.Writes.{word_more, written_at}
use Rattle.listing.proofs.writer.Writer.word.Goals as goal

pub loop-octet-preserved : goal.loop-octet-preserved
loop-octet-preserved c = (
  word_more c.args.word.now _ _ _ _ c.loop-octet.octet-index _ _ c.loop-octet-test.true c.loop-octet.invariant.0 c.octet.ensures.written,
  omega (arith, c.loop-octet.invariant.1, c.octet.ensures.bound),
  c.octet.ensures.kept ∙ c.loop-octet.invariant.2,
)

pub returns : goal.returns
returns c =
    record {
      written = written_at (take_all c.loop-octet.octet-index c.args.word.now c.loop-octet-test.false) c.loop-octet.invariant.0;
      kept = c.loop-octet.invariant.2;
      bound = omega (arith, c.loop-octet.invariant.1);
    }
