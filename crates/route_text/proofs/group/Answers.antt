use Rattle.std.proofs.Common.{sym}
use Rattle.route_text.proofs.Steps.{group_is, group_first, group_fifth}
use Rattle.route_text.proofs.group.Goals as goal

pub returns-then-not-starts_hex : goal.returns-then-not-starts_hex
returns-then-not-starts_hex c = group_first c.args.s.now (sym c.if-not-starts_hex.ensures)

pub returns-then-starts_hex : goal.returns-then-starts_hex
returns-then-starts_hex c = group_fifth c.args.s.now _ c.four-value.ensures (sym c.if-not-starts_hex.ensures) (sym c.if-starts_hex.ensures)

pub returns : goal.returns
returns c = group_is c.args.s.now _ c.four-value.ensures (sym c.if-not-starts_hex.ensures) (sym c.if-starts_hex.ensures)
