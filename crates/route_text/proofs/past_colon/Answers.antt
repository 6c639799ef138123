use Rattle.std.proofs.Common.{sym}
use Rattle.route_text.proofs.Steps.{colon_past, colon_kept, colon_none}
use Rattle.route_text.proofs.past_colon.Goals as goal

pub returns-in_default : goal.returns-in_default
returns-in_default c = colon_none c.args.s.now c.in_default.ensures

pub returns-then-starts_hex : goal.returns-then-starts_hex
returns-then-starts_hex c = colon_past c.args.s.now c.in-Some.rest.now c.in-Some.ensures (sym c.if-starts_hex.ensures)

pub returns-else-starts_hex : goal.returns-else-starts_hex
returns-else-starts_hex c = colon_kept c.args.s.now c.in-Some.rest.now c.in-Some.ensures (sym c.if-starts_hex.ensures)
