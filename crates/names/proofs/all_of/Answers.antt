use Rattle.std.proofs.Common.{◌∙◌, rules, tests}
use Rattle.std.proofs.lemmas.Iterator.{YieldsList-from_slice}
use Rattle.std.proofs.lemmas.Iterator.Search.{all_from_yields_List}
use Rattle.names.specs.Tests.{is_of}
use Rattle.names.proofs.Tested.{every_is}
use Rattle.names.proofs.all_of.Goals as goal

pub returns : goal.returns
returns c =
    all_from_yields_List (is_of c.args.class) c.all.new.self _ _ c.all.ensures.ran (YieldsList-from_slice c.args.octets.now cc) (λ x b q k. search (rules, tests))
    ∙ every_is (is_of c.args.class) c.args.octets.now
