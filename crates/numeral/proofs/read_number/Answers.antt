use Rattle.std.proofs.Common.{◌≡◌, ◌^◌, ◌<◌, None, arith}
use Rattle.numeral.specs.Numbers.{number_of}
use Rattle.numeral.proofs.Reading.{reads, bounded, not_plain, is_plain}
use Rattle.numeral.proofs.read_number.Goals as goal

pub returns-then-not-is_plain : goal.returns-then-not-is_plain
returns-then-not-is_plain c =
    let most = c.args.most in
    let w = c.args.word.now in
    let small : most < 2 ^ 64 = omega (arith, c.ranges.most.fits) in
    let e : None ≡ number_of most w = not_plain most w c.if-not-is_plain.ensures in
    record { value = e; text = reads most w None small e; bound = tt }

pub returns : goal.returns
returns c =
    let most = c.args.most in
    let w = c.args.word.now in
    let small : most < 2 ^ 64 = omega (arith, c.ranges.most.fits) in
    let e : c.read_digits.result ≡ number_of most w = is_plain most w c.read_digits.result c.if-not-is_plain.ensures c.read_digits.ensures in
    let t = reads most w c.read_digits.result small e in
    record { value = e; text = t; bound = bounded most w c.read_digits.result t }
