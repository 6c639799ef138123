use Rattle.std.proofs.Common.{◌≡◌, Some, Ok, Err, ◌∙◌}
use Rattle.std.specs.Option.{option_map}
use Rattle.std.proofs.lemmas.Result.{IfOk-from_err, err_from_is_err_and}
use Rattle.arguments.specs.declared.Why.TheVariants.{CarriageReturn}
use Rattle.arguments.specs.Views.{seen}
use Rattle.log_lines.specs.Sets.{line_of}
use Rattle.log_lines.proofs.Lines.{said_return, said_call, calls_read, elements_read, lawful_read, lacking_any}
use Rattle.log_lines.proofs.read_line.Goals as goal

pub returns-then-contains : goal.returns-then-contains
returns-then-contains g c =
    let s = c.args.line.now in
    let set = g.C.Calls.set in
    let h = c.known-known.ensures.stands in
    let e : Err CarriageReturn ≡ line_of set s = said_return set s c.if-says_nothing.ensures (c.if-contains.ensures.value ∙ lacking_any 13 s) in
    record { value = e; lawful = tt; calls = calls_read set h s (Err CarriageReturn) e; elements = elements_read set h s (Err CarriageReturn) e }

pub returns-in_err-read_whole : goal.returns-in_err-read_whole
returns-in_err-read_whole g c =
    let s = c.args.line.now in
    let set = g.C.Calls.set in
    let h = c.known-known.ensures.stands in
    let answer = seen (option_map g.C.Calls.meant) c.from_residual.result in
    let e : answer ≡ line_of set s =
    let p = err_from_is_err_and c.from_residual.result c.from_residual.ensures.1 in
    rw (p.1, p.2) (said_call set s (Err c.in_err-read_whole.field-0.0) c.if-says_nothing.ensures (c.if-contains.ensures.value ∙ lacking_any 13 s) c.in_err-read_whole.ensures) in
    record { value = e; lawful = IfOk-from_err c.from_residual.result _ c.from_residual.ensures.0; calls = calls_read set h s answer e; elements = elements_read set h s answer e }

pub returns : goal.returns
returns g c =
    let s = c.args.line.now in
    let set = g.C.Calls.set in
    let h = c.known-known.ensures.stands in
    let a = g.C.Calls.meant c.in_ok-read_whole.field-0 in
    let e : Ok (Some a) ≡ line_of set s = said_call set s (Ok a) c.if-says_nothing.ensures (c.if-contains.ensures.value ∙ lacking_any 13 s) c.in_ok-read_whole.ensures in
    record { value = e; lawful = lawful_read set h s (Some a) e; calls = calls_read set h s (Ok (Some a)) e; elements = elements_read set h s (Ok (Some a)) e }
