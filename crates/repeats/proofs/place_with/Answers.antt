use Rattle.std.proofs.Common.{eqb, Some, None, ap, ◌∙◌, rules, tests}
use Rattle.std.specs.Option.{option_map}
use Rattle.std.proofs.lemmas.Iterator.{YieldsList-from_slice}
use Rattle.std.proofs.lemmas.Iterator.Search.{find_from_yields_List}
use Rattle.repeats.specs.declared.Spot.{Spot}
use Rattle.repeats.proofs.Places.{place_found}
use Rattle.repeats.proofs.place_with.Goals as goal

pub returns-in_err-found : goal.returns-in_err-found
returns-in_err-found c =
    let found = find_from_yields_List (λ (s : Spot). eqb s.index c.args.index) c.find.new.self _ None c.in_err-found.ensures.ran (YieldsList-from_slice c.args.spots.now cc) (λ x b q k. search (rules, tests)) in
    c.from_residual.ensures ∙ ap (option_map (λ (s : Spot). s.place)) found ∙ place_found c.args.index c.args.spots.now

pub returns : goal.returns
returns c =
    let found = find_from_yields_List (λ (s : Spot). eqb s.index c.args.index) c.find.new.self _ (Some c.in_ok-found.found) c.in_ok-found.ensures.ran (YieldsList-from_slice c.args.spots.now cc) (λ x b q k. search (rules, tests)) in
    ap (option_map (λ (s : Spot). s.place)) found ∙ place_found c.args.index c.args.spots.now
