-- What the lines of a printed list say, and which line is the first that is wrong. Assumes nothing.
use Rattle.std.specs.Prelude.{◌≡◌, ℕ, zero, suc, ◌+◌, Bool, true, cond, ◌&&◌, List, [], ◌∷◌, ◌++◌, length, drop, Some, None, Ok, Err, codes, Option, Result, ◌==◌, nat_le, nat_lt}
use Rattle.std.specs.Borrow.{Bor}
use Rattle.payload.specs.declared.Payload.{Payload}
use Rattle.payload.specs.declared.Prefix.{Prefix}
use Rattle.payload.specs.declared.list.PayloadList.{PayloadList}
use Rattle.payload.specs.Lists.{held, room}
use Rattle.family.specs.Widths.{width}
use Rattle.payload.specs.Order.{lawful, rank}
use Rattle.listing.specs.Texts.{line_text, head_text}
use Rattle.route_text.specs.Pieces.{then_some, beside, after_word, number_of, prefix_of}
use Rattle.listing_reader.specs.declared.Why.{Why}
use Rattle.listing_reader.specs.declared.Why.TheVariants.{Head, Room, Missing, Spelling, Prefix as Unlawful, Maximum, Order, Surplus}
use Rattle.listing_reader.specs.declared.BadLine.{BadLine}

-- the payload of an AS and a maximum, where they fit
abbrev pub sized_of : ℕ → Prefix → ℕ → Option Payload
sized_of asn p max = cond (nat_lt asn 4294967296 && nat_lt max 256) (Some record { asn = asn; prefix = p; max = max }) None

-- the payload of which a text may be the line: what stands where the parts of a line stand
abbrev pub likely_of : List ℕ → Option Payload
likely_of s =
    then_some (after_word (codes "asn=") s) (λ t.
    then_some (number_of t) (λ asn.
    then_some (after_word (codes " prefix=") asn.1) (λ u.
    then_some (prefix_of u) (λ p.
    then_some (after_word (codes " max=") p.1) (λ v.
    then_some (number_of v) (λ max.
    sized_of asn.0 p.0 max.0))))))

-- a payload with what follows its line, where the text begins with that line
abbrev pub with_rest : {X : Type 0} → X → Option (List ℕ) → Option (X × List ℕ)
with_rest x o = then_some o (λ t. Some (x, t))

-- the payload of which a text begins with the line, and what follows it
unfoldable pub line_of : List ℕ → Option (Payload × List ℕ)
line_of s = then_some (likely_of s) (λ p. with_rest p (after_word (line_text p) s))

-- how many payloads a text may say
abbrev pub count_of : List ℕ → Option ℕ
count_of s = then_some (after_word (codes "payloads=") s) (λ t. then_some (number_of t) (λ n. Some n.0))

-- the number of payloads with which a text begins, and what follows the first line
unfoldable pub head_of : List ℕ → Option (ℕ × List ℕ)
head_of s = then_some (count_of s) (λ n. with_rest n (after_word (head_text n) s))

-- a maximum is not below the length, and within the family
abbrev pub fits_max : Payload → Bool
fits_max p = nat_le p.prefix.length p.max && nat_le p.max (width p.prefix.family)

-- a payload comes after all of a list
abbrev pub comes_after : List Payload → Payload → Bool
comes_after [] p = true
comes_after (x ∷ xs) p = nat_lt (rank x) (rank p) && comes_after xs p

-- what is wrong with a payload that comes after others, if anything
abbrev pub checked : List Payload → Payload × List ℕ → Result (Payload × List ℕ) Why
checked ps q =
    cond (lawful q.0.prefix)
    (cond (fits_max q.0)
    (cond (comes_after ps q.0) (Ok q) (Err Order))
    (Err Maximum))
    (Err Unlawful)

abbrev pub spelt : List Payload → Option (Payload × List ℕ) → Result (Payload × List ℕ) Why
spelt ps None = Err Spelling
spelt ps (Some q) = checked ps q

-- an answer with a list in place of a reference
abbrev pub seen : Result (Payload × Bor (List ℕ)) Why → Result (Payload × List ℕ) Why
seen (Ok q) = Ok (beside q)
seen (Err why) = Err why

-- a payload stands behind those of a list, and the memory past it is as it was
pub record Added (p : Payload) (s t : PayloadList) : Type 0 where
  pub payloads : held t ≡ held s ++ p ∷ []
  pub rest : drop (length (held t)) t.entries.now ≡ drop (length (held t)) s.entries.now
  pub same_room : room t ≡ room s

-- the payload of the next line, after these, and what follows it
abbrev pub next_of : List Payload → List ℕ → Result (Payload × List ℕ) Why
next_of ps s = cond (length s == 0) (Err Missing) (spelt ps (line_of s))

-- what was read, and how the reading ended
abbrev pub Reading : Type 0
Reading = List Payload × Result (Unit {0}) BadLine

-- the line after the lines of these payloads is wrong
abbrev pub wrong : List Payload → Why → Reading
wrong ps why = (ps, Err record { line = length ps + 2; why = why })

abbrev pub go_on : (List Payload → List ℕ → Reading) → List Payload → Result (Payload × List ℕ) Why → Reading
go_on more ps (Err why) = wrong ps why
go_on more ps (Ok q) = more (ps ++ q.0 ∷ []) q.1

-- nothing follows the last line
abbrev pub ended : List Payload → List ℕ → Reading
ended ps s = cond (length s == 0) (ps, Ok tt) (wrong ps Surplus)

-- so many lines more, after those of these payloads
unfoldable pub lines_of : ℕ → List Payload → List ℕ → Reading
lines_of zero ps s = ended ps s
lines_of (suc n) ps s = go_on (lines_of n) ps (next_of ps s)

-- the first line is wrong
abbrev pub no_head : Why → Reading
no_head why = ([], Err record { line = 1; why = why })

abbrev pub from_head : ℕ → Option (ℕ × List ℕ) → Reading
from_head room None = no_head Head
from_head room (Some h) = cond (nat_lt room h.0) (no_head Room) (lines_of h.0 [] h.1)

-- the payloads of a text, in a list of so much room
abbrev pub list_of : ℕ → List ℕ → Reading
list_of room s = from_head room (head_of s)
