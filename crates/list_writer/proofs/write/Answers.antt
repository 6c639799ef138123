use Rattle.std.proofs.Common.{ℕ, List, length, sym, refl, subst}
use Rattle.list_writer.specs.Laws.{ReadsAsList}
use Rattle.list_writer.proofs.RoundTrip.{reads_back}
use Rattle.list_writer.proofs.Whole.{no_room, start_is, written}
use Rattle.list_writer.proofs.write.Goals as goal

pub returns-then-area-header_size : goal.returns-then-area-header_size
returns-then-area-header_size g c = record {
  value = no_room g.P.Point.rank g.P.WrittenResource.text c.args.list.now c.entries_size-size.result c.header_size.result (length c.args.area.now)
      c.if-not-is_lawful.ensures.test c.entries_size-size.ensures.value c.header_size.ensures.value c.if-area-header_size.true;
  after = refl;
  reads = tt;
}

pub returns : goal.returns
returns g c =
    let rank = g.P.Point.rank in
    let text = g.P.WrittenResource.text in
    let rs = c.args.list.now in
    let s = start_is rank text c.entries_size-size.result c.header_size.result (length c.args.area.now) c.in_ok-start.start
    c.entries_size-size.ensures.most c.header_size.ensures.value c.if-area-header_size.false c.in_ok-start.ensures.value in
    let w = written rank text rs c.entries_size-size.result c.header_size.result c.in_ok-start.start c.args.area.now c.write_header.new.area c.write_entries.new.area
    c.if-not-is_lawful.ensures.test c.entries_size-size.ensures.value c.header_size.ensures.value s c.if-area-header_size.false
    c.in_ok-start.ensures.after c.write_entries.ensures in
    record {
      value = w.0;
      after = w.1;
      reads = λ at. subst (λ (x : List ℕ). ReadsAsList rank g.P.Point.fits g.P.Resource.entry text x at rs) (sym w.2)
          (reads_back rank g.P.Point.fits g.P.Resource.entry text g.met.P.WrittenResource.entry_laws rs
          (c.if-not-is_lawful.ensures.law.0 refl) (c.if-not-is_lawful.ensures.fit refl) at);
    }
