use Rattle.std.proofs.Common.{ℕ, ◌+◌, ◌≤◌, List, [], ◌∷◌, ◌++◌, length, Err, sym, ap, subst, refl, inl, inr, arith}
use Rattle.std.proofs.lemmas.List.Elements.{All-nil}
use Rattle.std.proofs.lemmas.Result.{err_from_is_err_and}
use Rattle.element.specs.Reading.{Octets, octets_of}
use Rattle.file_faults.specs.Reports.{content_report}
use Rattle.layout.proofs.Rows.{some_left, none_left}
use Rattle.repeats.specs.declared.Spot.{Spot}
use Rattle.manifest.specs.Lending.{PlacedEntry}
use Rattle.manifest.specs.Manifests.{Begun, listed}
use Rattle.manifest.specs.Steps.{NotedAs, Ended}
use Rattle.manifest.proofs.Entries.{begun, finished, unread, named, more, room_left}
use Rattle.manifest.proofs.Lending.{moved}
use Rattle.manifest.proofs.Sizes.{entry_size}
use Rattle.manifest.proofs.note_entries.Goals as goal

pub loop-rest-init : goal.loop-rest-init
loop-rest-init c = (begun (octets_of c.args.content) c.args.lent.now.spots.now c.args.lent.now.table.now, (refl, refl), All-nil PlacedEntry, λ h. h)

pub returns-in_err-rest : goal.returns-in_err-rest
returns-in_err-rest c =
    let l = c.loop-rest in
    let q₀ = octets_of c.args.content in
    let q = octets_of l.rest in
    let g = l.invariant.0 in
    let ts = c.args.lent.now.table.now in
    let ss = l.lent.spots.now in
    let us = l.lent.table.now in
    let w = room_left l.count _ _ (length ss) g.octets c.requires.size l.lent.names in
    let some = some_left _ c.loop-rest-test.ensures in
    let zs = c.take_entry.new.lent.spots.now in
    let e = c.in_err-rest.field-0.0 in
    let v : l.count + 1 ≤ length zs = (room_left l.count _ _ (length zs) g.octets c.requires.size c.take_entry.new.lent.names).1 in
    let p = err_from_is_err_and c.from_residual.result c.from_residual.ensures.1 in
    let h : Ended q₀ zs ts c.take_entry.new.lent.table.now (Err e) =
    elim c.in_err-rest.ensures.value [
      | inl u ↦
          let r = unread q₀ ts q l.count ss us (content_report e.fault) w.0 some u.1 g in
          let x : NotedAs q₀ e.noted ss g.parts (Err (content_report e.fault)) = subst (λ (n : ℕ). NotedAs q₀ n ss g.parts (Err (content_report e.fault))) (sym u.0) r in
          (g.parts, subst (λ (ss : List Spot). NotedAs q₀ e.noted ss g.parts (Err (content_report e.fault))) (sym u.2) x)
      | inr b ↦
          let r = named q₀ ts q l.count ss zs us (content_report e.fault) v some b.1 g in
          let ps : List Begun = g.parts ++ (b.1.opened, listed l.count us) ∷ [] in
          (ps, subst (λ (n : ℕ). NotedAs q₀ n zs ps (Err (content_report e.fault))) (sym b.0) r)
    ] in
    record {
      value = rw p.1 (rw p.2 h);
      placed = rw p.1 tt;
      kept = λ h. c.in_err-rest.ensures.kept (l.invariant.3 h);
      memory = moved c.args.lent.now l.lent c.take_entry.new.lent l.invariant.1 c.in_err-rest.ensures.memory;
    }

pub loop-rest-smaller : goal.loop-rest-smaller
loop-rest-smaller c =
    let t = c.in_ok-rest.ensures.value in
    let s = entry_size (octets_of c.loop-rest.rest) t.opened t.digest t.opens t.digests in
    let e = ap (λ (o : Octets). length o.octets) t.after_is in
    omega arith

pub loop-rest-preserved : goal.loop-rest-preserved
loop-rest-preserved c =
    let l = c.loop-rest in
    let q = octets_of l.rest in
    let z = octets_of c.in_ok-rest.rest in
    let t = c.in_ok-rest.ensures.value in
    let s = entry_size q t.opened t.digest t.opens t.digests in
    let long : 44 + length z.octets ≤ length q.octets = subst (λ (o : Octets). 44 + length o.octets ≤ length q.octets) t.after_is s in (
      more (octets_of c.args.content) c.args.lent.now.table.now q z l.count l.lent.spots.now c.take_entry.new.lent.spots.now l.lent.table.now c.take_entry.new.lent.table.now (some_left _ c.loop-rest-test.ensures) long t l.invariant.0,
      moved c.args.lent.now l.lent c.take_entry.new.lent l.invariant.1 c.in_ok-rest.ensures.memory,
      c.in_ok-rest.ensures.placed l.invariant.2,
      λ h. c.in_ok-rest.ensures.kept (l.invariant.3 h),
    )

pub returns : goal.returns
returns c =
    let l = c.loop-rest in
    let q = octets_of l.rest in
    let g = l.invariant.0 in
    let ss = l.lent.spots.now in
    let us = l.lent.table.now in
    let w = room_left l.count _ _ (length ss) g.octets c.requires.size l.lent.names in
    let v = room_left l.count _ _ (length us) g.octets c.requires.size l.lent.entries in
    record {
      value = ((g.parts, (q, finished (octets_of c.args.content) c.args.lent.now.table.now q l.count ss us w.0 (none_left _ c.loop-rest-test.ensures) g)), g.others, v.0);
      placed = l.invariant.2;
      kept = l.invariant.3;
      memory = l.invariant.1;
    }
