use Rattle.std.proofs.Common.{◌≡◌, ◌*◌, ◌^◌, ◌<◌, ◌≤◌}
use Rattle.route_text.specs.Pieces.{groups_of}
use Rattle.route_text.proofs.up_to_eight.Given as goal

abbrev pub invariant-loop-i : goal.invariant-loop-i
invariant-loop-i l =
    let run = l.run in
    ((run.0, run.1.0, run.1.1.0.now) ≡ groups_of l._i l.s) × (run.1.0 ≤ l._i) × (run.0 < 2 ^ (16 * run.1.0))
