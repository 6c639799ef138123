use Rattle.std.proofs.Common.{rules}
use Rattle.payload.proofs.Comparing.{ranked_parts}
use Rattle.payload.proofs.compare.Goals as goal

pub returns : goal.returns
returns c =
    ranked_parts c.args.a c.args.b
    record { address = search rules; length = search rules; max = search rules; asn = search rules }
    record { address = search rules; length = search rules; max = search rules; asn = search rules }
    c.cmp.result c.cmp.ensures
