use Rattle.std.proofs.Common.{sym, ◌∙◌}
use Rattle.std.proofs.lemmas.List.{at_drop_all}
use Rattle.content.specs.Forms.{arcs}
use Rattle.content.proofs.Loops.{arcs_here, arcs-within, arcs-between, arcs_sum}
use Rattle.content.proofs.is_oid.Goals as goal
use Rattle.content.proofs.is_oid.Goals.{else-begins-via-then-begins+else-octet, else-begins-via-else-begins}

pub returns-then-octet : goal.returns-then-octet
returns-then-octet c = arcs_sum _ _ c.if-is_empty.ensures (sym (arcs_here _ _ _ c.loop-octet-test.true c.if-begins.true c.if-octet.true) ∙ c.loop-octet.invariant)

pub loop-octet-preserved : goal.loop-octet-preserved
loop-octet-preserved c =
    elim c.else-begins.branch [
      | else-begins-via-then-begins+else-octet w ↦ sym (arcs-between _ _ _ c.loop-octet-test.true w.if-octet.false) ∙ c.loop-octet.invariant
      | else-begins-via-else-begins w ↦ sym (arcs-within _ _ _ c.loop-octet-test.true w.if-begins.false) ∙ c.loop-octet.invariant
    ]

pub returns : goal.returns
returns c = arcs_sum _ _ c.if-is_empty.ensures (sym (at_drop_all (arcs c.loop-octet.begins) c.args.content.now c.loop-octet.octet-index c.loop-octet-test.false) ∙ c.loop-octet.invariant)
