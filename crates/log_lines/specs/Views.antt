-- What the readers answer, as lists in place of references. Assumes nothing.
use Rattle.arguments.specs.Views.{said, sourced}
use Rattle.log_lines.specs.declared.Call.{Call}
use Rattle.log_lines.specs.declared.Call.TheVariants.{Element, Digest, Verdict}
use Rattle.log_lines.specs.Oracles.{Asked, element, digest, verdict}

abbrev pub asked : Call → Asked
asked (Element o) = element (said o)
asked (Digest o a) = digest (sourced o) (said a)
asked (Verdict o k m g) = verdict (sourced o) (said k) (said m) (said g)
