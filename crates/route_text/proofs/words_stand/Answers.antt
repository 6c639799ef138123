use Rattle.std.proofs.Common.{refl}
use Rattle.route_text.proofs.Numbers.{reads_number}
use Rattle.route_text.proofs.Laws.{reads_prefix, reads_route, reads_origin}
use Rattle.route_text.proofs.words_stand.Goals as goal

pub returns : goal.returns
returns c = record { shown = refl; numbers = reads_number; prefixes = reads_prefix; routes = reads_route; origins = reads_origin }
