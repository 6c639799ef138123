-- Which octets are an element, as a relation. Assumes nothing.
use Rattle.std.specs.Prelude.{◌≡◌, ℕ, ◌+◌, ◌≤◌, List, [], ◌++◌, length, Ok, Err, Result}
use Rattle.fault.specs.declared.ElementFault.{ElementFault}
use Rattle.content.specs.Tags.{kind_of}
use Rattle.content.specs.Grammar.{ContentOf}
use Rattle.element.specs.Lengths.{longest, header, encoded}
use Rattle.element.specs.Reading.{Seen, Octets}

-- the octets s begin with the element of this tag and content, and `after` follows it
pub record Begins (s : List ℕ) (tag : ℕ) (content after : List ℕ) : Type 0 where
  pub octets : s ≡ encoded tag content ++ after
  pub short : length content ≤ longest
  pub form : ContentOf (kind_of tag) content

-- the element e and the octets q stand in s one after the other, where s begins at the offset `at`
pub record InPlace (s : List ℕ) (at : ℕ) (e : Seen) (q : Octets) : Type 0 where
  pub tag_place : e.place ≡ at
  pub content_place : e.content_place ≡ at + length (header e.tag (length e.content))
  pub rest_place : q.place ≡ e.content_place + length e.content
  pub end : q.place + length q.octets ≡ at + length s

-- the answer of a reader is the element with which s begins, or a fault at the tag where s begins with none
abbrev pub Parsed : List ℕ → ℕ → Result (Seen × Octets) ElementFault → Type 0
Parsed s at (Ok p) = Begins s p.0.tag p.0.content p.1.octets × InPlace s at p.0 p.1
Parsed s at (Err f) = (f.place ≡ at) × ((t : ℕ) (c q : List ℕ) → Begins s t c q → ⊥)

-- no octets begin with two elements, and no tag and content have two encodings
pub record OneEncoding : Type 0 where
  pub one_element :
      (s : List ℕ) (t u : ℕ) (c d q r : List ℕ) → Begins s t c q → Begins s u d r → (t ≡ u) × (c ≡ d) × (q ≡ r)
  pub one_text : (s z : List ℕ) (t : ℕ) (c : List ℕ) → Begins s t c [] → Begins z t c [] → s ≡ z
