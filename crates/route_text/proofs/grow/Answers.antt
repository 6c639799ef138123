use Rattle.std.proofs.Common.{◌≡◌, ℕ, ◌+◌, ◌*◌, length, ap, ◌∙◌, arith, rules}
use Rattle.std.specs.List.{between}
use Rattle.route_text.proofs.Steps.{grow_none, grow_digit, grow_stop}
use Rattle.route_text.proofs.grow.Goals as goal

pub returns-in-empty : goal.returns-in-empty
returns-in-empty c = record { value = grow_none c.args.value c.args.s.now (search rules); bound = omega arith }

pub returns-in-Some : goal.returns-in-Some
returns-in-Some c =
    let e : c.from.result ≡ c.in-Some.digit = search rules in
    record {
      value = ap (λ (d : ℕ). (c.args.value * 16 + d, between 1 (length c.args.s.now) c.args.s.now)) e ∙ grow_digit c.args.value c.in-Some.digit c.args.s.now (search rules) c.in-Some.ensures.value;
      bound = omega (arith, e, c.in-Some.ensures.bound);
    }

pub returns-in-None : goal.returns-in-None
returns-in-None c = record { value = grow_stop c.args.value c.args.s.now (search rules) c.in-None.ensures.value; bound = omega arith }
