use Rattle.std.proofs.Common.{◌≡◌, ◌<◌, ◌≤◌, min, ap, ◌∙◌, arith}
use Rattle.family.specs.Widths.{width}
use Rattle.prefixes.specs.Writing.{octets_for}
use Rattle.prefixes.proofs.Ends.{whole}
use Rattle.prefixes.proofs.Octets.{octet-answer, octet_past}
use Rattle.prefixes.proofs.octet_at.Goals as goal

pub returns-then-i-octet_count : goal.returns-then-i-octet_count
returns-then-i-octet_count c =
    let v = c.args.family in
    let n = c.args.bits in
    let e : c.min-count.result ≡ min n (width v) = c.min-count.ensures ∙ ap (min n) (c.from-size.ensures ∙ c.width.ensures.value) in
    let l : octets_for c.min-count.result ≤ c.args.i = omega (arith, c.octet_count.ensures, c.if-i-octet_count.true) in
    octet_past (width v) c.args.address n c.args.i c.min-count.result (whole v) e l

pub returns : goal.returns
returns c =
    let v = c.args.family in
    let l : c.args.i < octets_for c.min-count.result = omega (arith, c.octet_count.ensures, c.if-i-octet_count.false) in
    octet-answer (width v) c.from-size.result c.args.address c.args.bits c.args.i c.min-count.result
    c.cleared-kept.result c.above-octet.result (c.from-size.ensures ∙ c.width.ensures.value) (whole v) c.min-count.ensures l
    c.cleared-kept.ensures c.above-octet.ensures
