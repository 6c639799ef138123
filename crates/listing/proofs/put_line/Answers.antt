use Rattle.std.proofs.Common.{◌≡◌, decimal, ap, ◌∙◌, arith, rules}
use Rattle.listing.proofs.Writes.{line_all, written_at, written_to}
use Rattle.listing.proofs.put_line.Goals as goal

pub returns : goal.returns
returns c =
    let e : c.from.result ≡ c.args.p.asn = search rules in
    let f : c.from-2.result ≡ c.args.p.prefix.length = search rules in
    let g : c.from-3.result ≡ c.args.p.max = search rules in
    let kept =
    c.word-5.ensures.kept ∙ c.decimal-3.ensures.kept ∙ c.word-4.ensures.kept ∙ c.decimal-2.ensures.kept ∙ c.word-3.ensures.kept ∙ c.address.ensures.kept ∙ c.word-2.ensures.kept
    ∙ c.decimal.ensures.kept ∙ c.word.ensures.kept in
    record {
      written =
          written_to
          (line_all c.args.p c.word.ensures.written (written_at (ap decimal e) c.decimal.ensures.written) c.word-2.ensures.written c.address.ensures.written c.word-3.ensures.written
          (written_at (ap decimal f) c.decimal-2.ensures.written) c.word-4.ensures.written (written_at (ap decimal g) c.decimal-3.ensures.written) c.word-5.ensures.written)
          (search (rules, kept));
      bound = omega arith;
    }
