-- What stands at the front of a text, and what follows it: a word, a number, an address, a prefix. Assumes nothing.
use Rattle.std.specs.Prelude.{ℕ, zero, suc, ◌+◌, ◌-◌, ◌*◌, ◌^◌, Bool, false, cond, not, ◌&&◌, List, [], ◌∷◌, is_some, Some, None, Option, ◌==◌, nat_le, nat_lt}
use Rattle.std.specs.Borrow.{Bor}
use Rattle.hex_text.specs.Digits.{nibble_of}
use Rattle.family.specs.declared.Family.{Family}
use Rattle.family.specs.declared.Family.TheVariants.{Ipv4, Ipv6}
use Rattle.payload.specs.declared.Prefix.{Prefix}
use Rattle.route_text.specs.declared.groups.Groups.{Groups}

-- one answer and then another, none where one of them is none
abbrev pub then_some : {X Y : Type 0} → Option X → (X → Option Y) → Option Y
then_some None k = None
then_some (Some x) k = k x

-- a value with the text after it, as a list
abbrev pub beside : {X : Type 0} → X × Bor (List ℕ) → X × List ℕ
beside p = (p.0, p.1.now)

-- what follows a word
abbrev pub after_word : List ℕ → List ℕ → Option (List ℕ)
after_word [] s = Some s
after_word (w ∷ ws) [] = None
after_word (w ∷ ws) (c ∷ s) = cond (c == w) (after_word ws s) None

-- a decimal digit
abbrev pub is_digit : ℕ → Bool
is_digit c = nat_le 48 c && nat_le c 57

-- a number with one digit more; past 2 ^ 40 it stays as it is, so that it is still large
abbrev pub with_digit : ℕ → ℕ → ℕ
with_digit v c = cond (nat_lt v (2 ^ 40)) (v * 10 + (c - 48)) v

-- a number of which some digits are read, with the digits that follow them
abbrev pub digits_from : ℕ → List ℕ → ℕ × List ℕ
digits_from v [] = (v, [])
digits_from v (c ∷ s) = cond (is_digit c) (digits_from (with_digit v c) s) (v, c ∷ s)

-- a decimal number by its first character: 0 alone, or a digit that is not 0 and those that follow
abbrev pub number_from : ℕ → List ℕ → Option (ℕ × List ℕ)
number_from c s = cond (is_digit c) (Some (cond (c == 48) (0, s) (digits_from (c - 48) s))) None

-- a decimal number
abbrev pub number_of : List ℕ → Option (ℕ × List ℕ)
number_of [] = None
number_of (c ∷ s) = number_from c s

-- a decimal number below 256
abbrev pub small : ℕ × List ℕ → Option (ℕ × List ℕ)
small p = cond (nat_lt p.0 256) (Some p) None

abbrev pub octet_of : List ℕ → Option (ℕ × List ℕ)
octet_of s = then_some (number_of s) small

-- an octet and the "." after it
abbrev pub octet_dot : List ℕ → Option (ℕ × List ℕ)
octet_dot s = then_some (octet_of s) (λ o. then_some (after_word (46 ∷ []) o.1) (λ t. Some (o.0, t)))

-- an IPv4 address: four octets with "." between; its bits are the first 32 of 128
abbrev pub quad_of : List ℕ → Option (ℕ × List ℕ)
quad_of s =
    then_some (octet_dot s) (λ a.
    then_some (octet_dot a.1) (λ b.
    then_some (octet_dot b.1) (λ c.
    then_some (octet_of c.1) (λ d.
    Some ((a.0 * 16777216 + b.0 * 65536 + c.0 * 256 + d.0) * 79228162514264337593543950336, d.1)))))

-- one hexadecimal digit more, if one follows
abbrev pub grow_by : ℕ → ℕ → List ℕ → Option ℕ → ℕ × List ℕ
grow_by v c s None = (v, c ∷ s)
grow_by v c s (Some d) = (v * 16 + d, s)

unfoldable pub grow : ℕ → List ℕ → ℕ × List ℕ
grow v [] = (v, [])
grow v (c ∷ s) = grow_by v c s (nibble_of c)

abbrev pub grow_on : ℕ × List ℕ → ℕ × List ℕ
grow_on p = grow p.0 p.1

-- up to four hexadecimal digits
unfoldable pub four_of : List ℕ → ℕ × List ℕ
four_of s = grow_on (grow_on (grow_on (grow 0 s)))

-- a text that begins with a hexadecimal digit
abbrev pub starts_hex : List ℕ → Bool
starts_hex [] = false
starts_hex (c ∷ s) = is_some (nibble_of c)

-- a group: one to four hexadecimal digits, and no fifth
unfoldable pub group_of : List ℕ → Option (ℕ × List ℕ)
group_of s = cond (starts_hex s && not (starts_hex (four_of s).1)) (Some (four_of s)) None

-- past a ":" that another group follows
abbrev pub past_one : List ℕ → Option (List ℕ) → List ℕ
past_one s None = s
past_one s (Some t) = cond (starts_hex t) t s

unfoldable pub past_colon : List ℕ → List ℕ
past_colon s = past_one s (after_word (58 ∷ []) s)

-- the number that groups write, how many there are, and what follows them
abbrev pub Run : Type 0
Run = ℕ × ℕ × List ℕ

abbrev pub run_of : Groups → Run
run_of g = (g.value, g.count, g.rest.now)

-- one group more, if one follows
abbrev pub with_group : Run → Option (ℕ × List ℕ) → Run
with_group r None = r
with_group r (Some g) = (r.0 * 65536 + g.0, r.1 + 1, past_colon g.1)

-- so many groups, or as many as there are, with ":" between
unfoldable pub groups_of : ℕ → List ℕ → Run
groups_of zero s = (0, 0, s)
groups_of (suc k) s = with_group (groups_of k s) (group_of (groups_of k s).2)

-- groups, "::" in place of one or more groups of zeros, and groups
abbrev pub joined : Run → Run → Option (ℕ × List ℕ)
joined h t = cond (nat_lt 7 (h.1 + t.1)) None (Some (h.0 * 2 ^ (128 - 16 * h.1) + t.0, t.2))

-- an IPv6 address: eight groups, or fewer with one "::"
abbrev pub six_from : Run → Option (ℕ × List ℕ)
six_from h = cond (h.1 == 8) (Some (h.0, h.2)) (then_some (after_word (58 ∷ (58 ∷ [])) h.2) (λ t. joined h (groups_of 8 t)))

abbrev pub six_of : List ℕ → Option (ℕ × List ℕ)
six_of s = six_from (groups_of 8 s)

-- an address of either family
abbrev pub Addressed : Type 0
Addressed = Family × ℕ × List ℕ

abbrev pub addressed : Family × ℕ × Bor (List ℕ) → Addressed
addressed a = (a.0, a.1, a.2.now)

abbrev pub either_of : Option (ℕ × List ℕ) → Option (ℕ × List ℕ) → Option Addressed
either_of (Some q) six = Some (Ipv4, q.0, q.1)
either_of None None = None
either_of None (Some x) = Some (Ipv6, x.0, x.1)

abbrev pub address_of : List ℕ → Option Addressed
address_of s = either_of (quad_of s) (six_of s)

-- a length past 255 is as unlawful as 255
abbrev pub length_of : ℕ → ℕ
length_of n = cond (nat_lt n 255) n 255

-- a prefix: an address, "/" and a length
abbrev pub prefix_of : List ℕ → Option (Prefix × List ℕ)
prefix_of s =
    then_some (address_of s) (λ a.
    then_some (after_word (47 ∷ []) a.2) (λ t.
    then_some (number_of t) (λ n.
    Some (record { family = a.0; address = a.1; length = length_of n.0 }, n.1))))
