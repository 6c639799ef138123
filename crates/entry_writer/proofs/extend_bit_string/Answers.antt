use Rattle.std.proofs.Common.{◌+◌, sym, append-nil, arith}
use Rattle.family.specs.Widths.{width}
use Rattle.prefixes.specs.Writing.{bits_of}
use Rattle.prefixes.proofs.Laws.{has_octets}
use Rattle.entry_writer.proofs.Written.{head_length, more_length, string_size, count_most, bits_length, bits_more, string_is}
use Rattle.entry_writer.proofs.extend_bit_string.Goals as goal

pub extend_head-requires : goal.extend_head-requires
extend_head-requires c =
    let m = count_most c.args.family c.args.bits c.octet_count-count.result c.requires.0 c.octet_count-count.ensures in
    let n = string_size c.args.family c.args.address c.args.bits c.octet_count-count.result c.requires.0 c.octet_count-count.ensures in
    (omega (arith, m), omega (arith, n, c.requires.1))

pub extend-requires : goal.extend-requires
extend-requires c =
    let n = string_size c.args.family c.args.address c.args.bits c.octet_count-count.result c.requires.0 c.octet_count-count.ensures in
    let h = head_length 3 (1 + c.octet_count-count.result) c.args.text.now c.extend_head.new.text c.extend_head.ensures in
    omega (arith, n, h, c.requires.1)

pub loop-i-init : goal.loop-i-init
loop-i-init c = sym (append-nil c.extend.new.self)

pub extend-requires-in-loop-i : goal.extend-requires-in-loop-i
extend-requires-in-loop-i c =
    let n = string_size c.args.family c.args.address c.args.bits c.octet_count-count.result c.requires.0 c.octet_count-count.ensures in
    let h = head_length 3 (1 + c.octet_count-count.result) c.args.text.now c.extend_head.new.text c.extend_head.ensures in
    let l = more_length c.unused.result c.extend_head.new.text c.extend.new.self c.extend.ensures in
    let t = bits_length c.loop-i.i c.extend.new.self c.loop-i.text _ c.loop-i.invariant in
    omega (arith, n, h, l, t, c.loop-i-test.true, c.requires.1)

pub loop-i-preserved : goal.loop-i-preserved
loop-i-preserved c =
    let n = (has_octets c.args.family c.args.address c.args.bits c.requires.0).0 in
    bits_more c.extend.new.self (bits_of (width c.args.family) c.args.address c.args.bits) c.loop-i.text _ c.loop-i.i c.octet_at.result
    c.loop-i.invariant (omega (arith, n, c.loop-i-test.true, c.octet_count-count.ensures)) c.octet_at.ensures c.extend-in-loop-i.ensures

pub returns : goal.returns
returns c =
    string_is c.args.family c.args.address c.args.bits c.octet_count-count.result c.unused.result c.loop-i.i
    c.args.text.now c.extend_head.new.text c.extend.new.self c.loop-i.text c.requires.0 c.octet_count-count.ensures c.unused.ensures
    (omega (arith, c.loop-i-test.false)) c.extend_head.ensures c.extend.ensures c.loop-i.invariant
