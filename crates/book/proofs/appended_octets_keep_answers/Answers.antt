use Rattle.book.proofs.Kept.{appended_keep}
use Rattle.book.proofs.appended_octets_keep_answers.Goals as goal

pub returns : goal.returns
returns c = appended_keep
