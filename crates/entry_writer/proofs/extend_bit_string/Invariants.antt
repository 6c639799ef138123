use Rattle.std.proofs.Common.{◌≡◌, ◌++◌, take}
use Rattle.family.specs.Widths.{width}
use Rattle.prefixes.specs.Writing.{bits_of}
use Rattle.entry_writer.proofs.extend_bit_string.Given as goal

abbrev pub invariant-loop-i : goal.invariant-loop-i
invariant-loop-i l = l.text ≡ l.initial.text ++ take l.i (bits_of (width l.family) l.address l.bits)
