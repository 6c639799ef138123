use Rattle.std.proofs.Common.{refl}
use Rattle.list_writer.proofs.RoundTrip.{reads_back, written_again, one_list}
use Rattle.list_writer.proofs.lists_have_one_encoding.Goals as goal

pub returns : goal.returns
returns g c = record {
  shown = refl;
  reading = reads_back g.P.Point.rank g.P.Point.fits g.P.Resource.entry g.P.WrittenResource.text g.met.P.WrittenResource.entry_laws;
  writing = written_again g.P.Point.rank g.P.Point.fits g.P.Resource.entry g.P.WrittenResource.text g.met.P.WrittenResource.entry_laws;
  one = one_list g.P.Point.rank g.P.Point.fits g.P.Resource.entry g.P.WrittenResource.text g.met.P.WrittenResource.entry_laws;
}
