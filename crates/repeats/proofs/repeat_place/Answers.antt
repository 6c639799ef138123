use Rattle.std.proofs.Common.{subst}
use Rattle.repeats.specs.Repeats.{Numbered}
use Rattle.repeats.proofs.Places.{front_is, stirred, noted_place}
use Rattle.repeats.proofs.repeat_place.Goals as goal

pub place_of_repeat-requires : goal.place_of_repeat-requires
place_of_repeat-requires c = subst Numbered (front_is c.args.count c.args.spots.now) c.requires.numbered

pub returns : goal.returns
returns c = record {
  value = noted_place c.args.count c.args.spots.now c.place_of_repeat.result c.place_of_repeat.ensures.value;
  same = stirred c.args.count c.args.spots.now c.place_of_repeat.new.spots c.requires.within c.place_of_repeat.ensures.same;
}
