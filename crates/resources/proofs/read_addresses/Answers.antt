use Rattle.element.specs.Reading.{octets_of}
use Rattle.fault.specs.Faults.{set_report, reported}
use Rattle.resources.proofs.Answered.{addresses-told, addresses_empty}
use Rattle.resources.proofs.read_addresses.Goals as goal

pub returns : goal.returns
returns c =
    let f = c.addresses_in in
    let m = c.args.may in
    let q = octets_of c.args.value in
    record {
      value = f.ensures.value;
      tables = f.ensures.tables;
      says = addresses-told m q c.args.tables.now f.new.tables f.result f.ensures.value f.ensures.tables;
      empty = addresses_empty m q (reported set_report f.result) f.ensures.value;
    }
