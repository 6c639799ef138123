-- What reading one element answers. Grammar.antt has the relation that it decides. Assumes nothing.
use Rattle.std.specs.Prelude.{ℕ, ◌+◌, ◌*◌, ◌^◌, ◌<◌, cond, List, length, take, drop, Ok, Err, Result, ◌==◌, nat_le, nat_lt, slice_index}
use Rattle.fault.specs.declared.Breach.{Breach}
use Rattle.fault.specs.declared.Breach.TheVariants.{NoTag, LengthCut, LengthForm, LengthNotShortest, ContentCut}
use Rattle.fault.specs.declared.ElementFault.{ElementFault}
use Rattle.content.specs.Tags.{kind_of}
use Rattle.content.specs.Forms.{form_of}
use Rattle.element.specs.declared.Header.{Header}
use Rattle.element.specs.declared.part.Part.{Part}
use Rattle.element.specs.declared.part.Element.{Element}

-- the header of these sizes, where so many octets stand there
abbrev pub whole_of : List ℕ → ℕ → ℕ → Result Header Breach
whole_of s octets content = cond (nat_le (octets + content) (length s)) (Ok record { octets = octets; content = content }) (Err ContentCut)

-- a length of 81 and one octet, or of 82 and two, each only where no shorter form would do
abbrev pub longer_of : List ℕ → Result Header Breach
longer_of s =
    cond (slice_index s 1 == 129)
    (cond (nat_lt (length s) 3) (Err LengthCut)
    (cond (nat_lt (slice_index s 2) 128) (Err LengthNotShortest) (whole_of s 3 (slice_index s 2))))
    (cond (slice_index s 1 == 130)
    (cond (nat_lt (length s) 4) (Err LengthCut)
    (cond (slice_index s 2 == 0) (Err LengthNotShortest) (whole_of s 4 (slice_index s 2 * 256 + slice_index s 3))))
    (Err LengthForm))

-- how many octets tag and length take, and how many the content has
abbrev pub measured : List ℕ → Result Header Breach
measured s =
    cond (length s == 0) (Err NoTag)
    (cond (length s == 1) (Err LengthCut)
    (cond (nat_lt (slice_index s 1) 128) (whole_of s 2 (slice_index s 1)) (longer_of s)))

-- the offsets of the octets, and that of their end, are numbers of the machine
abbrev pub Placed : Part → Type 0
Placed p = p.place + length p.octets.now < 2 ^ 64

-- an element as numbers and octets: its tag, the place of the tag, the content and its place
pub record Seen : Type 0 where
  pub tag : ℕ
  pub place : ℕ
  pub content : List ℕ
  pub content_place : ℕ

-- octets with their place
pub record Octets : Type 0 where
  pub octets : List ℕ
  pub place : ℕ

abbrev pub seen : Element → Seen
seen e = record { tag = e.tag; place = e.place; content = e.content.octets.now; content_place = e.content.place }

abbrev pub octets_of : Part → Octets
octets_of p = record { octets = p.octets.now; place = p.place }

-- the element and the octets after it, where the content has its form
abbrev pub read_form : List ℕ → ℕ → Header → Result (Unit {0}) Breach → Result (Seen × Octets) ElementFault
read_form s at h (Err b) = Err record { breach = b; place = at }
read_form s at h (Ok u) =
    Ok (
      record { tag = slice_index s 0; place = at; content = take h.content (drop h.octets s); content_place = at + h.octets },
      record { octets = drop (h.octets + h.content) s; place = at + (h.octets + h.content) },
    )

abbrev pub read_at : List ℕ → ℕ → Result Header Breach → Result (Seen × Octets) ElementFault
read_at s at (Err b) = Err record { breach = b; place = at }
read_at s at (Ok h) = read_form s at h (form_of (kind_of (slice_index s 0)) (take h.content (drop h.octets s)))

-- the first element of the octets s, which begin at the offset `at`
abbrev pub read_of : List ℕ → ℕ → Result (Seen × Octets) ElementFault
read_of s at = read_at s at (measured s)

-- what a reader answered, as numbers and octets
abbrev pub answered : Result (Element × Part) ElementFault → Result (Seen × Octets) ElementFault
answered (Ok p) = Ok (seen p.0, octets_of p.1)
answered (Err f) = Err f
