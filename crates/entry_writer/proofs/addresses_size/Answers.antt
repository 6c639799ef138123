use Rattle.std.proofs.Common.{sym}
use Rattle.entry_writer.proofs.Written.{prefix_size, range_size}
use Rattle.entry_writer.proofs.addresses_size.Goals as goal

pub returns-then-is_prefix-clause-value : goal.returns-then-is_prefix-clause-value
returns-then-is_prefix-clause-value c =
    prefix_size c.args.family c.args.first c.args.last c.bit_count_prefix.result c.octet_count.result (sym c.if-is_prefix.ensures.value)
    c.bit_count_prefix.ensures.value c.bit_count_prefix.ensures.most c.octet_count.ensures

pub returns-clause-value : goal.returns-clause-value
returns-clause-value c =
    range_size c.args.family c.args.first c.args.last c.end_bits-bits.result.0 c.end_bits-bits.result.1 _ _ (sym c.if-is_prefix.ensures.value)
    c.end_bits-bits.ensures.value.0 c.end_bits-bits.ensures.value.1 c.end_bits-bits.ensures.most.0 c.end_bits-bits.ensures.most.1
    (c.bit_string_size.ensures.value c.args.first) (c.bit_string_size-2.ensures.value c.args.last)
