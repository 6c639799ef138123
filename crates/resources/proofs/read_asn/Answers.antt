use Rattle.std.proofs.Common.{rules}
use Rattle.element.specs.Reading.{octets_of}
use Rattle.fault.specs.Faults.{set_report, reported}
use Rattle.resources.proofs.Answered.{asn-told, asn_empty}
use Rattle.resources.proofs.read_asn.Goals as goal

pub returns : goal.returns
returns c =
    let f = c.asn_in in
    let m = c.args.may in
    let q = octets_of c.args.value in
    record {
      value = f.ensures.value;
      tables = search rules;
      says = asn-told m q c.args.tables.now f.new.asn f.result f.ensures.value f.ensures.table;
      empty = asn_empty m q (reported set_report f.result) f.ensures.value;
    }
