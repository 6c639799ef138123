use Rattle.book.proofs.Kept.{always_no_no_book}
use Rattle.book.proofs.always_no_is_no_book_with_a_verdict.Goals as goal

pub returns : goal.returns
returns c = always_no_no_book
