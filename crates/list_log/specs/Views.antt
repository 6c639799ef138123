-- What the readers answer, as lists in place of references. Assumes nothing.
use Rattle.arguments.specs.Views.{said}
use Rattle.log_lines.specs.Views.{asked as asked·base}
use Rattle.list_log.specs.declared.Call.{Call}
use Rattle.list_log.specs.declared.Call.TheVariants.{Base, Join, Write, Read}
use Rattle.list_log.specs.Lists.{Asked, base, join, write, read}

abbrev pub asked : Call → Asked
asked (Base c) = base (asked·base c)
asked (Join k a b) = join k a.now b.now
asked (Write k a n) = write k a.now n
asked (Read f a) = read f (said a)
