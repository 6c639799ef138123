use Rattle.book.proofs.Kept.{digest_is_the_first}
use Rattle.book.proofs.digest_is_the_first.Goals as goal

pub returns : goal.returns
returns c = digest_is_the_first
