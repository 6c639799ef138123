use Rattle.std.proofs.Common.{is_some, sym, ◌∙◌, rules, tests}
use Rattle.std.proofs.lemmas.Iterator.{YieldsList-from_slice}
use Rattle.std.proofs.lemmas.Iterator.Search.{all_from_yields_List}
use Rattle.hex_text.specs.Digits.{nibble_of}
use Rattle.hex_text.proofs.Texts.{digits_listed, reads_by}
use Rattle.hex_text.proofs.all_digits.Goals as goal

pub returns : goal.returns
returns c =
    let s = c.args.digits.now in
    let all = all_from_yields_List (λ x. is_some (nibble_of x)) _ _ c.all.result c.all.ensures.ran (YieldsList-from_slice s c.iter.ensures.rest) (λ x b q k. search (rules, tests)) in
    let e = all ∙ sym (digits_listed s) in
    record { value = e; reads = reads_by s c.all.result e }
