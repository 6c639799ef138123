use Rattle.std.proofs.Common.{Some, None, ap, ◌∙◌, rules}
use borrow.Author.Tests.{tests}
use Rattle.std.specs.Option.{option_map}
use Rattle.std.specs.Str.{bytes_eq}
use Rattle.std.proofs.lemmas.Iterator.{YieldsList-from_slice}
use Rattle.std.proofs.lemmas.Iterator.Search.{find_from_yields_List}
use Rattle.record.specs.declared.KnownDigest.{KnownDigest}
use Rattle.book_index.proofs.Walks.{first_found}
use Rattle.book_index.proofs.find_digest.Goals as goal

pub returns-in_err-found : goal.returns-in_err-found
returns-in_err-found c =
    let found = find_from_yields_List (λ (k : KnownDigest). bytes_eq k.octets.now c.args.octets.now) c.find.new.self _ None c.in_err-found.ensures.ran (YieldsList-from_slice c.args.known.now cc) (λ x b q k. search (rules, tests)) in
    c.from_residual.ensures ∙ ap (option_map (λ (k : KnownDigest). k.digest)) found ∙ first_found c.args.octets.now c.args.known.now

pub returns : goal.returns
returns c =
    let found = find_from_yields_List (λ (k : KnownDigest). bytes_eq k.octets.now c.args.octets.now) c.find.new.self _ (Some c.in_ok-found.found) c.in_ok-found.ensures.ran (YieldsList-from_slice c.args.known.now cc) (λ x b q k. search (rules, tests)) in
    ap (option_map (λ (k : KnownDigest). k.digest)) found ∙ first_found c.args.octets.now c.args.known.now
