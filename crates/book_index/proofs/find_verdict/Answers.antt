use Rattle.std.proofs.Common.{refl, ◌∙◌, rules}
use borrow.Author.Tests.{tests}
use Rattle.std.proofs.lemmas.Iterator.{YieldsList-from_slice}
use Rattle.std.proofs.lemmas.Iterator.Search.{any_from_yields_List}
use Rattle.oracle.specs.declared.Claim.{Claim}
use Rattle.record.specs.Views.{claim_seen}
use Rattle.book.specs.Meaning.{yes_said}
use Rattle.book_index.proofs.Walks.{any_seen}
use Rattle.book_index.proofs.find_verdict.Goals as goal

pub returns : goal.returns
returns c =
    let k = c.args.claim.key.now in
    let m = c.args.claim.message.now in
    let g = c.args.claim.signature.now in
    any_from_yields_List (λ (s : Claim). yes_said k m g (claim_seen s)) c.any.new.self _ _ c.any.ensures.ran
    (YieldsList-from_slice c.args.signed.now cc) (λ x b q h. search (rules, tests))
    ∙ any_seen _ k m g (λ x. refl) c.args.signed.now
