use Rattle.element.specs.Reading.{seen, octets_of}
use Rattle.fields.proofs.Lengths.{expected-shorter}
use Rattle.fields.proofs.whole.Goals as goal

pub before-requires : goal.before-requires
before-requires g c =
    expected-shorter g.F.LayerFault.layer c.args.tag (octets_of c.args.input) (seen c.in_ok-element.element, octets_of c.in_ok-element.rest)
    c.in_ok-element.ensures.value
