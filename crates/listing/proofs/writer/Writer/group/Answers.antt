use Rattle.listing.proofs.Writes.{group_all}
use Rattle.listing.proofs.writer.Writer.group.Goals as goal

pub returns-clause-written : goal.returns-clause-written
returns-clause-written c =
    group_all c.args.group c.digit.result c.digit-2.result c.digit-3.result c.digit-4.result _ _ _ _ _ _ _ _ _ _ c.digit.ensures c.digit-2.ensures c.digit-3.ensures c.digit-4.ensures
    c.octet.ensures.written c.octet-2.ensures.written c.octet-3.ensures.written c.octet-4.ensures.written
