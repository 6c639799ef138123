use Rattle.std.proofs.Common.{◌≡◌, ℕ, ◌≤◌, All, length, take, drop, Ok, Err, refl}
use Rattle.element.specs.Reading.{octets_of}
use Rattle.manifest.specs.Lending.{PlacedEntry}
use Rattle.manifest.proofs.Deciding.{decides, made_unless}
use Rattle.manifest.proofs.read_entries.Goals as goal

pub returns-in-Ok : goal.returns-in-Ok
returns-in-Ok c =
    let q = octets_of c.args.content in
    let n = c.in-Ok.count in
    let e = c.in-Ok.ensures.value in
    let us = c.note_entries.new.lent.table.now in
    let h = e.0.1.1 in
    record {
      value = decides q n c.note_entries.new.lent.spots.now us e.0.0 (Ok (e.0.1.0, _)) (Ok n) c.repeat_place.result c.unless_repeat.result h refl (c.repeat_place.ensures.value _ _ h.notes) c.unless_repeat.ensures;
      others = made_unless (λ (m : ℕ). (drop m us ≡ drop m c.args.lent.now.table.now) × (m ≤ length us)) c.repeat_place.result (Ok n) c.unless_repeat.result (e.1, e.2) c.unless_repeat.ensures;
      placed = made_unless (λ (m : ℕ). All PlacedEntry (take m us)) c.repeat_place.result (Ok n) c.unless_repeat.result c.in-Ok.ensures.placed c.unless_repeat.ensures;
      kept = c.in-Ok.ensures.kept;
      memory = c.in-Ok.ensures.memory;
    }

pub returns-in-Err : goal.returns-in-Err
returns-in-Err c =
    let q = octets_of c.args.content in
    let f = c.in-Err.stopped in
    let e = c.in-Err.ensures.value in
    let us = c.note_entries.new.lent.table.now in
    record {
      value = decides q f.noted c.note_entries.new.lent.spots.now us e.0 (Err _) (Err f.fault) c.repeat_place-in-Err.result c.unless_repeat-in-Err.result e.1 refl (c.repeat_place-in-Err.ensures.value _ _ e.1.notes) c.unless_repeat-in-Err.ensures;
      others = made_unless (λ (m : ℕ). (drop m us ≡ drop m c.args.lent.now.table.now) × (m ≤ length us)) c.repeat_place-in-Err.result (Err f.fault) c.unless_repeat-in-Err.result tt c.unless_repeat-in-Err.ensures;
      placed = made_unless (λ (m : ℕ). All PlacedEntry (take m us)) c.repeat_place-in-Err.result (Err f.fault) c.unless_repeat-in-Err.result tt c.unless_repeat-in-Err.ensures;
      kept = c.in-Err.ensures.kept;
      memory = c.in-Err.ensures.memory;
    }
