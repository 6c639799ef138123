-- How the points of each kind are numbered in their order, and which are the values of the kind. Assumes nothing.
use Rattle.std.specs.Prelude.{ℕ, ◌+◌, ◌*◌, ◌/◌, ◌%◌, ◌^◌, ◌<◌}
use Rattle.points.specs.declared.V4.{V4}
use Rattle.points.specs.declared.V6.{V6}
use Rattle.points.specs.declared.Asn.{Asn}

-- an IPv4 address is its 32 bits (RFC 3779 2.1.1)
abbrev pub v4_rank : V4 → ℕ
v4_rank a = a.word

abbrev pub v4_fits : V4 → Type 0
v4_fits a = a.word < 2 ^ 32

-- an IPv6 address is its 128 bits, the upper half first (RFC 3779 2.1.1)
abbrev pub v6_rank : V6 → ℕ
v6_rank a = a.high * 2 ^ 64 + a.low

abbrev pub v6_fits : V6 → Type 0
v6_fits a = (a.high < 2 ^ 64) × (a.low < 2 ^ 64)

-- the IPv6 address that is a number of 128 bits
abbrev pub v6_of : ℕ → V6
v6_of n = record { high = n / 2 ^ 64; low = n % 2 ^ 64 }

-- an AS number is its 32 bits (RFC 3779 3.2.3.10, RFC 6793)
abbrev pub asn_rank : Asn → ℕ
asn_rank a = a.number

abbrev pub asn_fits : Asn → Type 0
asn_fits a = a.number < 2 ^ 32
