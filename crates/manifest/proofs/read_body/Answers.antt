use Rattle.element.specs.Reading.{octets_of}
use Rattle.layout.specs.Expecting.{part_of}
use Rattle.manifest.specs.Manifests.{head_and}
use Rattle.manifest.proofs.Sizes.{row_size}
use Rattle.manifest.proofs.read_body.Goals as goal

pub read_entries-requires : goal.read_entries-requires
read_entries-requires c =
    let h = c.in_ok-head in
    let p = c.in_ok-row in
    record { size = row_size (octets_of c.args.content) (head_and (h.head, h.rest)) (part_of (p.row, p.after)) 65535 h.ensures.value p.ensures.value c.requires.size }
