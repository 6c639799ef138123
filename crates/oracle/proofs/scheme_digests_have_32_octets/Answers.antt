use Rattle.oracle.proofs.Blocks.{length_digest}
use Rattle.oracle.proofs.scheme_digests_have_32_octets.Goals as goal

pub returns : goal.returns
returns c = length_digest
