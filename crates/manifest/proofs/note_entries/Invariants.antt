use Rattle.std.proofs.Common.{All, length, take}
use Rattle.element.specs.Reading.{octets_of}
use Rattle.manifest.specs.Lending.{SameMemory, PlacedEntry, StaysPlaced}
use Rattle.manifest.proofs.Entries.{Going}
use Rattle.manifest.proofs.note_entries.Given as goal

abbrev pub invariant-loop-rest : goal.invariant-loop-rest
invariant-loop-rest l =
    let ts = l.initial.lent.table.now in
    let us = l.lent.table.now in
    Going (octets_of l.content) ts (octets_of l.rest) l.count l.lent.spots.now us × SameMemory l.initial.lent l.lent × All PlacedEntry (take l.count us) × StaysPlaced ts us

abbrev pub decreases-loop-rest : goal.decreases-loop-rest
decreases-loop-rest l = length l.rest.octets.now
