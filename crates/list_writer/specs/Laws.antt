-- What writing a list and reading one are to each other, for any kind of points. Assumes nothing.
use Rattle.std.specs.Prelude.{◌≡◌, ℕ, ◌+◌, ◌<◌, List, [], length, None, Ok, Result}
use Rattle.fault.specs.declared.Report.{Report}
use Rattle.element.specs.Lengths.{encoded}
use Rattle.element.specs.Reading.{Seen, read_of}
use Rattle.prefixes.specs.Theorems.{Octets as EachOctet}
use Rattle.ranges.specs.declared.Range.{Range}
use Rattle.ranges.specs.Sets.{Fit, Lawful}
use Rattle.lists.specs.Entries.{entries_of}
use Rattle.list_writer.specs.Texts.{list_text}

module _ {P : Type 0} (rank : P → ℕ) (fits : P → Type 0) (entry : Seen → Result (Range P) Report) (text : Range P → List ℕ) where
  -- octets read as one element with the tag of a list and nothing over, whose entries are the ranges rs, with no fault
  pub record ReadsAsList (s : List ℕ) (at : ℕ) (rs : List (Range P)) : Type 0 where
    pub element : Seen
    pub read : read_of s at ≡ Ok (element, record { octets = []; place = at + length s })
    pub tag : element.tag ≡ 48
    pub entries : entries_of rank entry 256 None record { octets = element.content; place = element.content_place } ≡ (rs, Ok tt)

  -- what is written for a lawful list reads back as that list
  abbrev pub ReadsBack : Type 0
  ReadsBack = (rs : List (Range P)) → Lawful rank rs → Fit fits rs → (at : ℕ) → ReadsAsList (list_text text rs) at rs

  -- a content whose entries are the ranges rs, with no fault, is what is written for them, and the list is lawful
  pub record WrittenAsList (content : List ℕ) (rs : List (Range P)) : Type 0 where
    pub octets : encoded 48 content ≡ list_text text rs
    pub law : Lawful rank rs
    pub fit : Fit fits rs

  abbrev pub WrittenAgain : Type 0
  WrittenAgain =
      (content : List ℕ) (at : ℕ) (rs : List (Range P)) → EachOctet content → 0 < length rs
      → entries_of rank entry 256 None record { octets = content; place = at } ≡ (rs, Ok tt) → WrittenAsList content rs

  -- no two lawful lists have the same octets
  abbrev pub OneList : Type 0
  OneList = (xs ys : List (Range P)) → Lawful rank xs → Lawful rank ys → Fit fits xs → Fit fits ys → list_text text xs ≡ list_text text ys → xs ≡ ys
