-- The memory that a reading is lent. Assumes nothing.
use Rattle.std.specs.Prelude.{◌≡◌, ◌+◌, ◌^◌, ◌<◌, List, All, length}
use Rattle.manifest.specs.declared.Located.{Located}
use Rattle.manifest.specs.declared.ManifestEntry.{ManifestEntry}
use Rattle.manifest.specs.declared.lent.Lent.{Lent}

-- it is the same table and the same spots
abbrev pub SameMemory : Lent → Lent → Type 0
SameMemory s t = (t.table.ghost_name ≡ s.table.ghost_name) × (t.spots.ghost_name ≡ s.spots.ghost_name)

-- the offsets of the octets, and that of their end, are numbers of the machine, as they are for a part of a file
abbrev pub InMachine : Located → Type 0
InMachine l = l.place + length l.octets.now < 2 ^ 64

abbrev pub PlacedEntry : ManifestEntry → Type 0
PlacedEntry e = InMachine e.name × InMachine e.digest

-- a table of placed entries stays one
abbrev pub StaysPlaced : List ManifestEntry → List ManifestEntry → Type 0
StaysPlaced ts us = All PlacedEntry ts → All PlacedEntry us
