-- A list of payloads as text. Assumes nothing.
use Rattle.std.specs.Prelude.{ℕ, zero, suc, ◌+◌, ◌-◌, ◌*◌, ◌/◌, ◌%◌, ◌^◌, cond, List, [], ◌∷◌, ◌++◌, length, codes, decimal, nat_lt}
use Rattle.family.specs.declared.Family.{Family}
use Rattle.family.specs.declared.Family.TheVariants.{Ipv4, Ipv6}
use Rattle.payload.specs.declared.Payload.{Payload}

-- the octet of an address at a place, the first at place 0
abbrev pub octet_at : ℕ → ℕ → ℕ
octet_at k address = address / 2 ^ (120 - 8 * k) % 256

-- the first so many octets of an address in decimal, each with "." after it
unfoldable pub octets_text : ℕ → ℕ → List ℕ
octets_text zero address = []
octets_text (suc k) address = octets_text k address ++ (decimal (octet_at k address) ++ (46 ∷ []))

-- an IPv4 address: four octets in decimal, with "." between
unfoldable pub ipv4_text : ℕ → List ℕ
ipv4_text address = octets_text 3 address ++ decimal (octet_at 3 address)

-- the lower-case hexadecimal digit of a number below 16
abbrev pub hex_digit : ℕ → ℕ
hex_digit n = cond (nat_lt n 10) (n + 48) (n + 87)

-- a group of 16 bits: four hexadecimal digits
unfoldable pub group_text : ℕ → List ℕ
group_text g = hex_digit (g / 4096) ∷ (hex_digit (g / 256 % 16) ∷ (hex_digit (g / 16 % 16) ∷ (hex_digit (g % 16) ∷ [])))

-- the group of an address at a place, the first at place 0
abbrev pub group_at : ℕ → ℕ → ℕ
group_at k address = address / 2 ^ (112 - 16 * k) % 65536

-- the first so many groups of an address, each with ":" after it
unfoldable pub groups_text : ℕ → ℕ → List ℕ
groups_text zero address = []
groups_text (suc k) address = groups_text k address ++ (group_text (group_at k address) ++ (58 ∷ []))

-- an IPv6 address: eight groups with ":" between, none left out
unfoldable pub ipv6_text : ℕ → List ℕ
ipv6_text address = groups_text 7 address ++ group_text (group_at 7 address)

-- an address by its family
abbrev pub address_text : Family → ℕ → List ℕ
address_text Ipv4 address = ipv4_text address
address_text Ipv6 address = ipv6_text address

-- a payload: asn=64496 prefix=192.0.2.0/24 max=26 and a newline
unfoldable pub line_text : Payload → List ℕ
line_text p =
    codes "asn=" ++ (decimal p.asn
    ++ (codes " prefix=" ++ (address_text p.prefix.family p.prefix.address
    ++ (codes "/" ++ (decimal p.prefix.length
    ++ (codes " max=" ++ (decimal p.max ++ codes "\n")))))))

-- a line for each payload
abbrev pub lines_text : List Payload → List ℕ
lines_text [] = []
lines_text (p ∷ ps) = line_text p ++ lines_text ps

-- how many payloads there are: payloads=2 and a newline
unfoldable pub head_text : ℕ → List ℕ
head_text count = codes "payloads=" ++ (decimal count ++ codes "\n")

-- a list: how many payloads it has, and then each
abbrev pub list_text : List Payload → List ℕ
list_text ps = head_text (length ps) ++ lines_text ps
