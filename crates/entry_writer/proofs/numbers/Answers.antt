use Rattle.std.proofs.Common.{List, ℕ, ◌++◌, ap, ◌∙◌}
use Rattle.entry_text.specs.Texts.{integer_text}
use Rattle.entry_writer.proofs.Written.{only_room, first_room, last_room, integer_most, one_is, numbers_are}
use Rattle.entry_writer.proofs.numbers.Goals as goal

pub extend_integer-requires : goal.extend_integer-requires
extend_integer-requires c = only_room _ _ c.new-text.ensures (integer_most c.args.first)

pub returns-then-first-last : goal.returns-then-first-last
returns-then-first-last c =
    c.extend_integer.ensures
    ∙ ap (λ (x : List ℕ). x ++ integer_text c.args.first) c.new-text.ensures
    ∙ one_is c.args.first c.args.last c.if-first-last.true

pub extend_integer-requires-2 : goal.extend_integer-requires-2
extend_integer-requires-2 c = first_room _ _ _ _ _ c.new-text.ensures c.extend_head.ensures (integer_most c.args.first)

pub extend_integer-requires-3 : goal.extend_integer-requires-3
extend_integer-requires-3 c =
    last_room _ _ _ _ _ _ _ c.new-text.ensures c.extend_head.ensures c.extend_integer-2.ensures
    (integer_most c.args.first) (integer_most c.args.last)

pub returns : goal.returns
returns c =
    numbers_are c.args.first c.args.last c.numbers_size.result _ _ _ _ c.if-first-last.false c.numbers_size.ensures.value
    c.new-text.ensures c.extend_head.ensures c.extend_integer-2.ensures c.extend_integer-3.ensures
