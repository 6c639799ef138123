use Rattle.std.proofs.Common.{◌-◌, arith}
use Rattle.entry_writer.proofs.Written.{head_length, part_room, integer_size, integer_is}
use Rattle.entry_writer.proofs.extend_integer.Goals as goal

pub extend_head-requires : goal.extend_head-requires
extend_head-requires c =
    let n = integer_size c.args.number c.number_size-size.result c.number_size-size.ensures.value in
    (omega (arith, c.number_size-size.ensures.most), omega (arith, n, c.requires))

pub extend-requires : goal.extend-requires
extend-requires c =
    let n = integer_size c.args.number c.number_size-size.result c.number_size-size.ensures.value in
    let h = head_length 2 c.number_size-size.result c.args.text.now c.extend_head.new.text c.extend_head.ensures in
    part_room (8 - (8 - c.number_size-size.result)) c.extend_head.new.text _ (omega (arith, n, h, c.requires))

pub returns : goal.returns
returns c =
    integer_is c.args.number c.from.result c.number_size-size.result (8 - (8 - c.number_size-size.result)) c.to_be_bytes-octets.result
    c.args.text.now c.extend_head.new.text c.extend.new.self c.to_be_bytes-octets.ensures c.from.ensures c.number_size-size.ensures.value
    c.number_size-size.ensures.most (omega (arith, c.number_size-size.ensures.most)) c.extend_head.ensures c.extend.ensures
