-- The theorems on UTCTime, from proofs/Readings.antt.
use Rattle.std.proofs.Common.{refl}
use Rattle.moment.proofs.Readings.{utc_one_moment, utc_one_content}
use Rattle.moment.proofs.utc_times_stand.Goals as goal

pub returns : goal.returns
returns c = record { shown = refl; moments = utc_one_moment; contents = utc_one_content }
