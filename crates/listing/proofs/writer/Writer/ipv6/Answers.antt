use Rattle.std.proofs.Common.{◌≡◌, refl, ◌∙◌, arith}
use Rattle.listing.proofs.Writes.{groups_none, groups_more, groups_all}
use Rattle.listing.proofs.writer.Writer.ipv6.Goals as goal

pub loop-place-init : goal.loop-place-init
loop-place-init c = (groups_none _ _ _, omega arith, refl)

pub loop-place-preserved : goal.loop-place-preserved
loop-place-preserved c = (
  groups_more c.args.address c.loop-place.place c.group_at.result _ _ _ _ _ _ _ _ c.group_at.ensures.value c.loop-place.invariant.0 c.group.ensures.written c.octet.ensures.written,
  omega (arith, c.loop-place.invariant.1, c.group.ensures.bound, c.octet.ensures.bound),
  c.octet.ensures.kept ∙ c.group.ensures.kept ∙ c.loop-place.invariant.2,
)

pub returns : goal.returns
returns c =
    let k : c.loop-place.place ≡ 7 = omega (arith, c.loop-place-test.false, c.loop-place.auto.place-end) in
    record {
      written = groups_all c.args.address c.loop-place.place c.group_at-2.result _ _ _ _ _ _ k c.group_at-2.ensures.value c.loop-place.invariant.0 c.group-2.ensures.written;
      kept = c.group-2.ensures.kept ∙ c.loop-place.invariant.2;
      bound = omega (arith, c.loop-place.invariant.1, c.group-2.ensures.bound);
    }
