-- The theorems on GeneralizedTime, from proofs/Readings.antt.
use Rattle.std.proofs.Common.{refl}
use Rattle.moment.proofs.Readings.{generalized_one_moment, generalized_one_content}
use Rattle.moment.proofs.generalized_times_stand.Goals as goal

pub returns : goal.returns
returns c = record { shown = refl; moments = generalized_one_moment; contents = generalized_one_content }
