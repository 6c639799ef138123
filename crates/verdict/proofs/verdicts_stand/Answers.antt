use Rattle.std.proofs.Common.{refl}
use Rattle.verdict.proofs.Laws.{one_verdict, same_verdict, uncovered_stays, none_covers, longer_covers_not, no_origin_matches_not, differ_in_cover}
use Rattle.verdict.proofs.verdicts_stand.Goals as goal

pub returns : goal.returns
returns c = record { shown = refl; one = one_verdict; same = same_verdict; stays = uncovered_stays; none = none_covers; longer = longer_covers_not; origins = no_origin_matches_not; differ = differ_in_cover }
