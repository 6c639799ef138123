use Rattle.std.proofs.Common.{◌≡◌, refl, ◌∙◌, arith}
use Rattle.listing.proofs.Writes.{octets_none, octets_more, octets_all}
use Rattle.listing.proofs.writer.Writer.ipv4.Goals as goal

pub loop-place-init : goal.loop-place-init
loop-place-init c = (octets_none _ _ _, omega arith, refl)

pub loop-place-preserved : goal.loop-place-preserved
loop-place-preserved c = (
  octets_more c.args.address c.loop-place.place c.octet_at.result _ _ _ _ _ _ _ _ c.octet_at.ensures.value c.loop-place.invariant.0 c.decimal.ensures.written c.octet.ensures.written,
  omega (arith, c.loop-place.invariant.1, c.decimal.ensures.bound, c.octet.ensures.bound),
  c.octet.ensures.kept ∙ c.decimal.ensures.kept ∙ c.loop-place.invariant.2,
)

pub returns : goal.returns
returns c =
    let k : c.loop-place.place ≡ 3 = omega (arith, c.loop-place-test.false, c.loop-place.auto.place-end) in
    record {
      written = octets_all c.args.address c.loop-place.place c.octet_at-2.result _ _ _ _ _ _ k c.octet_at-2.ensures.value c.loop-place.invariant.0 c.decimal-2.ensures.written;
      kept = c.decimal-2.ensures.kept ∙ c.loop-place.invariant.2;
      bound = omega (arith, c.loop-place.invariant.1, c.decimal-2.ensures.bound);
    }
