use Rattle.element.specs.Reading.{octets_of}
use Rattle.layout.specs.Expecting.{part_of}
use Rattle.manifest.proofs.Sizes.{content_size}
use Rattle.manifest.proofs.read_whole.Goals as goal

pub read_body-requires : goal.read_body-requires
read_body-requires c =
    let p = c.in_ok-outer in
    record { size = content_size 48 (octets_of c.args.input) (part_of (p.outer, p.after)) 65535 p.ensures.value c.requires.size }
