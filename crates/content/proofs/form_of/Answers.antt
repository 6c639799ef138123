use Rattle.std.proofs.Common.{Ok, Err, cond, sym, ap, ◌∙◌}
use Rattle.fault.specs.declared.Breach.TheVariants as breach
use Rattle.content.specs.Forms.{form_of}
use Rattle.content.proofs.Decided.{ascii_is}
use Rattle.content.proofs.form_of.Goals as goal

pub returns-in-Ia5String : goal.returns-in-Ia5String
returns-in-Ia5String c =
    let s = c.args.content.now in
    c.formed_or-in-Ia5String.ensures
    ∙ ap (λ b. cond b (Ok tt) (Err breach.Ia5String)) (ascii_is s c.is_ascii.result c.is_ascii.ensures.cases)
    ∙ sym (ap (λ k. form_of k s) c.in-Ia5String.is)
