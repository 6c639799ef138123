use Rattle.std.proofs.Common.{rules}
use borrow.Author.Tests.{tests}
use Rattle.std.proofs.lemmas.Iterator.Search.{any_from_yields_List}
use Rattle.std.proofs.lemmas.Iterator.Consumers.{YieldsList-from_first}
use Rattle.record.specs.Views.{record_seen, records_left}
use Rattle.book.specs.Meaning.{yes_said}
use Rattle.book.proofs.some_verdict.Goals as goal

pub returns : goal.returns
returns c =
    any_from_yields_List (yes_said c.args.claim.key.now c.args.claim.message.now c.args.claim.signature.now) c.any.new.self _ _ c.any.ensures.ran
    (YieldsList-from_first record_seen records_left {s = c.of.result} _ c.of.ensures) (λ x b q k. search (rules, tests))
