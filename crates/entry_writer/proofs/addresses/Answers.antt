use Rattle.std.proofs.Common.{List, ℕ, ◌++◌, sym, ap, ◌∙◌}
use Rattle.family.specs.Widths.{width}
use Rattle.entry_text.specs.Texts.{bit_text}
use Rattle.entry_text.proofs.Addresses.{bit_length}
use Rattle.entry_writer.proofs.Written.{only_room, first_room, last_room, prefix_is, range_size, range_is}
use Rattle.entry_writer.proofs.addresses.Goals as goal

pub extend_bit_string-requires : goal.extend_bit_string-requires
extend_bit_string-requires c = (
  c.bit_count_prefix-bits.ensures.most,
  only_room _ _ c.new-text.ensures (bit_length c.args.family c.args.first c.bit_count_prefix-bits.result c.bit_count_prefix-bits.ensures.most),
)

pub returns-then-is_prefix : goal.returns-then-is_prefix
returns-then-is_prefix c =
    c.extend_bit_string.ensures
    ∙ ap (λ (x : List ℕ). x ++ bit_text (width c.args.family) c.args.first c.bit_count_prefix-bits.result) c.new-text.ensures
    ∙ prefix_is c.args.family c.args.first c.args.last c.bit_count_prefix-bits.result (sym c.if-is_prefix.ensures.value)
    c.bit_count_prefix-bits.ensures.value

pub extend_bit_string-requires-2 : goal.extend_bit_string-requires-2
extend_bit_string-requires-2 c = (
  c.end_bits-bits.ensures.most.0,
  first_room _ _ _ _ _ c.new-text.ensures c.extend_head.ensures
      (bit_length c.args.family c.args.first c.end_bits-bits.result.0 c.end_bits-bits.ensures.most.0),
)

pub extend_bit_string-requires-3 : goal.extend_bit_string-requires-3
extend_bit_string-requires-3 c = (
  c.end_bits-bits.ensures.most.1,
  last_room _ _ _ _ _ _ _ c.new-text.ensures c.extend_head.ensures c.extend_bit_string-2.ensures
      (bit_length c.args.family c.args.first c.end_bits-bits.result.0 c.end_bits-bits.ensures.most.0)
      (bit_length c.args.family c.args.last c.end_bits-bits.result.1 c.end_bits-bits.ensures.most.1),
)

pub returns : goal.returns
returns c =
    range_is c.args.family c.args.first c.args.last c.end_bits-bits.result.0 c.end_bits-bits.result.1 _ _ _ _ _ (sym c.if-is_prefix.ensures.value)
    c.end_bits-bits.ensures.value.0 c.end_bits-bits.ensures.value.1 c.end_bits-bits.ensures.most.0 c.end_bits-bits.ensures.most.1
    (range_size c.args.family c.args.first c.args.last c.end_bits-bits.result.0 c.end_bits-bits.result.1 _ _ (sym c.if-is_prefix.ensures.value)
    c.end_bits-bits.ensures.value.0 c.end_bits-bits.ensures.value.1 c.end_bits-bits.ensures.most.0 c.end_bits-bits.ensures.most.1
    (c.bit_string_size.ensures.value c.args.first) (c.bit_string_size-2.ensures.value c.args.last))
    c.new-text.ensures c.extend_head.ensures c.extend_bit_string-2.ensures c.extend_bit_string-3.ensures
