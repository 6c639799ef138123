use Rattle.std.proofs.Common.{◌≡◌, Result, sym, ap, ◌∙◌, subst}
use Rattle.fault.specs.declared.Breach.{Breach}
use Rattle.content.specs.declared.Kind.{Kind}
use Rattle.content.specs.Tags.{kind_of}
use Rattle.content.specs.Forms.{form_of}
use Rattle.content.specs.Grammar.{Checked}
use Rattle.content.proofs.Decided.{form_checked}
use Rattle.content.proofs.check_form.Goals as goal

pub returns : goal.returns
returns c =
    let s = c.args.content.now in
    let k = kind_of c.args.tag in
    let v : c.form_of.result ≡ form_of k s = c.form_of.ensures ∙ ap (λ (x : Kind). form_of x s) c.from.ensures in
    record { value = v; grammar = subst (λ (r : Result (Unit {0}) Breach). Checked k s r) (sym v) (form_checked k s) }
