-- How many bits an address has. Assumes nothing.
use Rattle.std.specs.Prelude.{ℕ}
use Rattle.family.specs.declared.Family.{Family}
use Rattle.family.specs.declared.Family.TheVariants.{Ipv4, Ipv6}

-- an IPv4 address has 32 bits, an IPv6 address 128
abbrev pub width : Family → ℕ
width Ipv4 = 32
width Ipv6 = 128
