-- The examples, by computation. Assumes nothing.
use Rattle.std.proofs.Common.{refl}
use lib.Count.{count_trailing_zeros}
use Rattle.prefixes.specs.Reading.{low_of}
use Rattle.lists.specs.Entries.{entries_of}
use Rattle.worked_examples.specs.Examples.{Worked}

pub worked : Worked
unfolding low_of entries_of count_trailing_zeros
worked =
    record {
      a_prefix = refl;
      every_address = refl;
      some_bits = refl;
      bits_past = refl;
      form = refl;
      a_range = refl;
      touching = refl;
      order = refl;
      valid = refl;
      invalid = refl;
      not_found = refl;
    }
