use Rattle.std.proofs.Common.{vec_len, ap, ◌∙◌, inl, inr}
use Rattle.std.proofs.lemmas.Result.{err_from_is_err_and}
use Rattle.walk.specs.declared.Walk.{Walk}
use Rattle.walk.proofs.Visits.{visited, stopped, opened, passed}
use Rattle.walk.proofs.Walk.step.Goals as goal
use Rattle.walk.proofs.Walk.step.Goals.{then-is_constructed+in_ok-push, else-is_constructed}

pub returns-in_err-element : goal.returns-in_err-element
returns-in_err-element c =
    let p = err_from_is_err_and c.from_residual.result c.from_residual.ensures.1 in
    let r = c.in_err-element.ensures in
    record {
      file = c.leave.ensures.file;
      value = rw (p.1, p.2) (stopped _ _ _ _ c.limit-limit.result c.leave.new.self.place c.in_err-element.field-0.0 c.leave.ensures.file c.leave.ensures.place r.value r.grammar);
      depth = rw p.1 tt;
    }

pub returns-in_err-push : goal.returns-in_err-push
returns-in_err-push c =
    let p = err_from_is_err_and c.from_residual-in_err-push.result c.from_residual-in_err-push.ensures.1 in
    record { file = c.leave.ensures.file; value = rw (p.1, p.2) tt; depth = rw p.1 tt }

pub returns : goal.returns
returns c =
    let r = c.in_ok-element.ensures in
    record {
      file = elim c.if-is_constructed.branch [
        | then-is_constructed+in_ok-push w ↦ ap (λ (x : Walk). x.file.now) w.self-is ∙ c.leave.ensures.file
        | else-is_constructed w ↦ ap (λ (x : Walk). x.file.now) w.self-is ∙ c.leave.ensures.file
      ];
      value = visited _ _ _ _ c.limit-limit.result _ _ _ c.leave.ensures.file c.leave.ensures.place c.limit-limit.ensures.bound c.if-place-limit.false r.value r.grammar
          (elim c.if-is_constructed.branch [
            | then-is_constructed+in_ok-push w ↦ inl (ap (λ (x : Walk). x.place) w.self-is)
            | else-is_constructed w ↦ inr (ap (λ (x : Walk). x.place) w.self-is)
          ]);
      depth = elim c.if-is_constructed.branch [
        | then-is_constructed+in_ok-push w ↦
            opened _ _ _ _ _ c.is_constructed.ensures w.if-is_constructed.true (ap (λ (x : Walk). vec_len x.ends) w.self-is ∙ w.in_ok-push.ensures.len) c.len-depth.ensures
        | else-is_constructed w ↦
            passed _ _ _ _ _ c.is_constructed.ensures w.if-is_constructed.false (ap (λ (x : Walk). vec_len x.ends) w.self-is) c.len-depth.ensures
      ];
    }
