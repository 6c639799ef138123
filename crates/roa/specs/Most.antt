-- How many rows the table of a ROA has at most. Assumes nothing.
use Rattle.std.specs.Prelude.{ℕ, Some, None, Option}
use Rattle.family.specs.declared.Family.{Family}
use Rattle.family.specs.declared.Family.TheVariants.{Ipv4, Ipv6}

-- up to the last family: 256 of each
abbrev pub most_rows : Option Family → ℕ
most_rows None = 0
most_rows (Some Ipv4) = 256
most_rows (Some Ipv6) = 512
