use Rattle.std.proofs.Common.{refl}
use Rattle.element.proofs.Writes.{header_short, header-fits, header_room}
use Rattle.element.proofs.write_header.Goals as goal

pub returns-then-area-end : goal.returns-then-area-end
returns-then-area-end c =
    record { value = header_short c.args.tag c.args.size _ _ c.if-size-gt-LONGEST.false c.header_size-end.ensures.value c.if-area-end.true; after = refl }

pub put_header-requires : goal.put_header-requires
put_header-requires c = (c.if-size-gt-LONGEST.false, header_room c.args.tag c.args.size _ _ c.header_size-end.ensures.value c.if-area-end.false)

pub returns : goal.returns
returns c =
    record { value = header-fits c.args.tag c.args.size _ _ c.if-size-gt-LONGEST.false c.header_size-end.ensures.value c.if-area-end.false; after = c.put_header.ensures }
