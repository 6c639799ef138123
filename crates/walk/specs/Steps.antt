-- The steps of a walk over the elements of a file. Assumes nothing.
use Rattle.std.specs.Prelude.{◌≡◌, ℕ, ◌-◌, ◌/◌, ◌%◌, ◌<◌, ◌≤◌, min, Bool, cond, not, ◌&&◌, ◌||◌, List, length, Some, None, Ok, Err, Option, Result, ◌==◌, nat_le, slice_index, slice_range}
use Rattle.element.specs.Reading.{Seen, Octets, seen, read_of}
use Rattle.walk.specs.declared.Node.{Node}
use Rattle.walk.specs.declared.WalkError.{WalkError}
use Rattle.walk.specs.declared.WalkError.TheVariants.{Fault, Memory}

-- a SEQUENCE, a SET, or an element of a class other than universal with the bit for constructed set (X.690 8.1.2)
abbrev pub opens : ℕ → Bool
opens tag = tag == 48 || (tag == 49 || (nat_le 64 tag && not (tag / 32 % 2 == 0)))

-- where the innermost open element ends, which never is past the file's end
abbrev pub limit_of : ℕ → List ℕ → ℕ
limit_of size ends = cond (length ends == 0) size (min (slice_index ends (length ends - 1)) size)

-- the octets of a file from one place to another
abbrev pub span : List ℕ → ℕ → ℕ → List ℕ
span file from to = slice_range file from to

-- what a step answered, as numbers and octets
abbrev pub node_seen : Result (Option Node) WalkError → Result (Option Seen) WalkError
node_seen (Ok None) = Ok None
node_seen (Ok (Some n)) = Ok (Some (seen n.element))
node_seen (Err e) = Err e

-- the element e is what reading the file from its place up to some limit gives, and the walk went on inside or after it
pub record Visited (file : List ℕ) (from to : ℕ) (e : Seen) : Type 0 where
  pub limit : ℕ
  pub inside : limit ≤ length file
  pub rest : Octets
  pub read : read_of (span file from limit) from ≡ Ok (e, rest)
  pub here : e.place ≡ from
  pub forward : from < to
  pub kept : to ≤ length file

-- a step gives the element at the place where the walk is, or none at the end of the file, or the fault of the octets there
abbrev pub Stepped : List ℕ → ℕ → ℕ → Result (Option Seen) WalkError → Type 0
Stepped file from to (Ok None) = (length file ≤ from) × (to ≡ from)
Stepped file from to (Ok (Some e)) = Visited file from to e
Stepped file from to (Err (Fault f)) = (f.place ≡ from) × ((limit : ℕ) × (read_of (span file from limit) from ≡ Err f))
Stepped file from to (Err Memory) = Unit {0}
