use Rattle.oracle.proofs.Blocks.{both_digest}
use Rattle.oracle.proofs.digest_of_both.Goals as goal

pub returns : goal.returns
returns c =
    both_digest c.filled_block-block.result _ _ _ _ c.args.front.now c.args.back.now
    c.filled_block-block.ensures c.mix-at.ensures.value c.mix.ensures.value
