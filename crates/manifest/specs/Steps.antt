-- What reading the entries one after the other leaves in the lent tables. Assumes nothing.
use Rattle.std.specs.Prelude.{◌≡◌, ℕ, ◌+◌, ◌≤◌, ◌⊎◌, List, [], ◌∷◌, ◌++◌, map, length, drop, Ok, Err, Result}
use Rattle.fault.specs.declared.Report.{Report}
use Rattle.file_faults.specs.Reports.{content_report}
use Rattle.element.specs.declared.part.Part.{Part}
use Rattle.element.specs.Reading.{Octets, octets_of}
use Rattle.layout.specs.Expecting.{inside}
use Rattle.repeats.specs.declared.Spot.{Spot}
use Rattle.repeats.specs.Repeats.{Notes}
use Rattle.repeats.specs.Reading.{noted}
use Rattle.manifest.specs.declared.ManifestEntry.{ManifestEntry}
use Rattle.manifest.specs.declared.Stopped.{Stopped}
use Rattle.manifest.specs.Manifests.{Opened, Begun, State, listed, opened_of, digest_of, entry_reader}

-- one more name is noted
abbrev pub NotesOne : Opened → ℕ → List Spot → List Spot → Type 0
NotesOne a n ss zs =
    (ks : List (List ℕ)) (ps : List ℕ) → Notes ks ps ss n → Notes (ks ++ a.name.content ∷ []) (ps ++ a.name.place ∷ []) zs (n + 1)

-- an entry that was read whole
pub record Took (q : Octets) (n : ℕ) (ss zs : List Spot) (ts us : List ManifestEntry) (after : Octets) : Type 0 where
  pub opened : Opened
  pub digest : Octets
  pub opens : opened_of q ≡ Ok opened
  pub digests : digest_of opened.inner ≡ Ok digest
  pub after_is : opened.after ≡ after
  pub notes : NotesOne opened n ss zs
  pub files : listed (n + 1) us ≡ listed n ts ++ record { name = inside opened.name; digest = digest } ∷ []
  pub others : drop (n + 1) us ≡ drop (n + 1) ts

-- an entry that was read up to its name
pub record Begins (q : Octets) (n : ℕ) (ss zs : List Spot) (fault : Report) : Type 0 where
  pub opened : Opened
  pub opens : opened_of q ≡ Ok opened
  pub breaks : digest_of opened.inner ≡ Err fault
  pub notes : NotesOne opened n ss zs

-- an entry with a fault, before its name was read or after it
abbrev pub Stops : Octets → ℕ → List Spot → List Spot → Stopped → Type 0
Stops q n ss zs e =
    ((e.noted ≡ n) × (opened_of q ≡ Err (content_report e.fault)) × (zs ≡ ss)) ⊎ ((e.noted ≡ n + 1) × Begins q n ss zs (content_report e.fault))

-- how one entry was read, where so many stand before it
abbrev pub Stepped : Octets → ℕ → List Spot → List Spot → List ManifestEntry → List ManifestEntry → Result Part Stopped → Type 0
Stepped q n ss zs ts us (Ok p) = Took q n ss zs ts us (octets_of p)
Stepped q n ss zs ts us (Err e) = Stops q n ss zs e

-- the names of the entries that were begun are noted
pub record NotedAs (q : Octets) (n : ℕ) (ss : List Spot) (parts : List Begun) (end : Result State Report) : Type 0 where
  pub reads : noted entry_reader (length q.octets) (q, []) ≡ (parts, end)
  pub notes : Notes (map entry_reader.key parts) (map entry_reader.place parts) ss n
  pub within : n ≤ length ss

-- how the reading of all entries ended
abbrev pub Ended : Octets → List Spot → List ManifestEntry → List ManifestEntry → Result ℕ Stopped → Type 0
Ended q ss ts us (Ok n) = ((parts : List Begun) × ((s : Octets) × NotedAs q n ss parts (Ok (s, listed n us)))) × (drop n us ≡ drop n ts) × (n ≤ length us)
Ended q ss ts us (Err e) = (parts : List Begun) × NotedAs q e.noted ss parts (Err (content_report e.fault))
