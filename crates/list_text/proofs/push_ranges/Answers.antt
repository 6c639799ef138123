use Rattle.std.proofs.Common.{ℕ, List, ◌∷◌, ◌++◌, string_bytes, ap, ◌∙◌, append_assoc}
use Rattle.list_text.specs.Lists.{range_text, tail_text}
use Rattle.list_text.proofs.Theorem.{joined_tail, prints_back}
use Rattle.list_text.proofs.push_ranges.Goals as goal

pub returns : goal.returns
returns g c =
    let p = g.P.PointText in
    let m = g.met.P.PointText in
    let was = string_bytes c.args.out.now in
    let r = c.args.first in
    let rs = c.args.rest.now in
    record {
      value =
          c.in_ok-push_tail.ensures.value ∙ ap (λ (l : List ℕ). l ++ tail_text p.text rs) c.in_ok-push_range.ensures.value
          ∙ append_assoc was (range_text p.text r) (tail_text p.text rs) ∙ ap (λ (l : List ℕ). was ++ l) (joined_tail p.text r rs);
      back =
          prints_back p.reads p.text p.folded p.proper m.words.text_read m.words.read_text m.words.blind (r ∷ rs)
          (c.in_ok-push_range.ensures.proper, c.in_ok-push_tail.ensures.proper);
    }
