use Rattle.std.proofs.Common.{◌≡◌, ℕ, ◌+◌, ◌*◌, ◌<◌, ap, ◌∙◌, arith, rules}
use Rattle.route_text.specs.Pieces.{run_of}
use Rattle.route_text.proofs.Widths.{step_fits, step_whole, group_more}
use Rattle.route_text.proofs.next_group.Goals as goal

pub overflow_mul-result : goal.overflow_mul-result
overflow_mul-result c = omega (arith, step_whole c.args.run.value c.args.run.count 0 c.args.run.fits c.requires (omega arith))

pub overflow_add-result : goal.overflow_add-result
overflow_add-result c =
    let e : c.from.result ≡ c.in-Some.value = search rules in
    let b : c.in-Some.value < 65536 = search rules in
    omega (arith, e, step_whole c.args.run.value c.args.run.count c.in-Some.value c.args.run.fits c.requires b)

pub invariant_of-result : goal.invariant_of-result
invariant_of-result c =
    let e : c.from.result ≡ c.in-Some.value = search rules in
    let b : c.in-Some.value < 65536 = search rules in
    record {
      few = omega arith;
      fits = omega (arith, e, step_fits c.args.run.value c.args.run.count c.in-Some.value c.args.run.fits b);
    }

pub returns : goal.returns
returns c =
    let e : c.from.result ≡ c.in-Some.value = search rules in
    record {
      value =
          ap (λ (g : ℕ). (c.args.run.value * 65536 + g, c.args.run.count + 1, c.past_colon.result.now)) e
          ∙ group_more (run_of c.args.run) (c.in-Some.value, c.in-Some.rest.now) c.past_colon.result.now c.in-Some.ensures c.past_colon.ensures;
      bound = omega arith;
    }
