use Rattle.std.proofs.Common.{◌≡◌, decimal, ap, ◌∙◌}
use Rattle.listing.specs.declared.writer.Writer.{Writer}
use Rattle.listing.specs.Writing.{Written}
use Rattle.listing.proofs.Writes.{written_from, number_short, number_long, number_bound}
use Rattle.listing.proofs.writer.Writer.+decimal.Goals as goal
use Rattle.listing.proofs.writer.Writer.+decimal.Goals.{then-number-ge10, else-number-ge10}

pub returns : goal.returns
returns t c =
    let n = c.args.number in
    let w : Written (decimal n) c.args.self.now.area.now c.args.self.now.at c.octet.new.self.area.now c.octet.new.self.at =
    elim c.if-number-ge10.branch [
      | then-number-ge10 w ↦ number_long n _ _ _ _ _ _ w.if-number-ge10.true c.ranges.number.fits w.decimal.ensures.written
          (written_from (ap (λ (s : Writer). s.area.now) w.self-is) (ap (λ (s : Writer). s.at) w.self-is) c.octet.ensures.written)
      | else-number-ge10 w ↦ number_short n _ _ _ _ w.if-number-ge10.false
          (written_from (ap (λ (s : Writer). s.area.now) w.self-is) (ap (λ (s : Writer). s.at) w.self-is) c.octet.ensures.written)
    ] in
    let k : c.if-number-ge10.self.area.ghost_name ≡ c.args.self.now.area.ghost_name =
    elim c.if-number-ge10.branch [
      | then-number-ge10 w ↦ ap (λ (s : Writer). s.area.ghost_name) w.self-is ∙ w.decimal.ensures.kept
      | else-number-ge10 w ↦ ap (λ (s : Writer). s.area.ghost_name) w.self-is
    ] in
    record { written = w; kept = c.octet.ensures.kept ∙ k; bound = number_bound n _ _ _ _ c.ranges.number.fits w }
