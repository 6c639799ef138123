use Rattle.std.proofs.Common.{sym, ◌∙◌, rules}
use Rattle.oracle.specs.Runs.{xor_run}
use Rattle.std.proofs.lemmas.List.{at_drop_more, at_drop_all}
use Rattle.oracle.proofs.mix.Goals as goal

pub loop-octet-preserved : goal.loop-octet-preserved
loop-octet-preserved c =
    let l = c.loop-octet in
    (search rules, search rules, sym (at_drop_more (xor_run l.block l.at) c.args.octets.now l.octet-index 0 c.loop-octet-test.true) ∙ l.invariant.2)

pub returns : goal.returns
returns c =
    let l = c.loop-octet in
    record {
      value = sym (at_drop_all (xor_run l.block l.at) c.args.octets.now l.octet-index c.loop-octet-test.false) ∙ l.invariant.2;
      bound = l.invariant.0;
    }
