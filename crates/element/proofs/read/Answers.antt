use Rattle.std.proofs.Common.{◌≡◌, ◌+◌, ◌-◌, length, take, drop, sym, subst, rules}
use Rattle.std.proofs.lemmas.List.{take_rest}
use Rattle.element.specs.Grammar.{Parsed}
use Rattle.element.proofs.Parses.{parsed, parsed_refused, answer_header, answer-form, answer-element}
use Rattle.element.proofs.read.Goals as goal

pub returns-in-Err : goal.returns-in-Err
returns-in-Err c =
    let s = c.args.input.octets.now in
    let at = c.args.input.place in
    let v = answer_header s at c.in-Err.breach c.in-Err.ensures.value in
    record { value = v; grammar = parsed_refused s at _ v }

pub returns-in-Err-check_form : goal.returns-in-Err-check_form
returns-in-Err-check_form c =
    let s = c.args.input.octets.now in
    let at = c.args.input.place in
    let h = c.in-Ok.header in
    let i : take (h.octets + h.content - h.octets) (drop h.octets s) ≡ take h.content (drop h.octets s) = search rules in
    let v = answer-form s at h _ c.in-Err-check_form.breach c.in-Ok.ensures.value i c.in-Err-check_form.ensures.value in
    record { value = v; grammar = parsed_refused s at _ v }

pub returns : goal.returns
returns c =
    let s = c.args.input.octets.now in
    let at = c.args.input.place in
    let h = c.in-Ok.header in
    let end = h.octets + h.content in
    let i : take (end - h.octets) (drop h.octets s) ≡ take h.content (drop h.octets s) = search rules in
    let j : take (length s - end) (drop end s) ≡ drop end s = search (rules, take_rest) in
    let v = answer-element s at h _ _ c.in-Ok.ensures.value i j c.in_default.ensures.value in
    record { value = v; grammar = subst (Parsed s at) (sym v) (parsed s at c.in-Ok.ensures.octets) }
