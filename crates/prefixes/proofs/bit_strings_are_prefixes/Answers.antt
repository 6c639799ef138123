use Rattle.std.proofs.Common.{refl}
use Rattle.prefixes.proofs.Laws.{one_encoding, one_bit_string, is_one_prefix}
use Rattle.prefixes.proofs.Shortest.{fewest_bits}
use Rattle.prefixes.proofs.bit_strings_are_prefixes.Goals as goal

pub returns : goal.returns
returns c = record { shown = refl; encoding = one_encoding; unique = one_bit_string; prefix = is_one_prefix; fewest = fewest_bits }
