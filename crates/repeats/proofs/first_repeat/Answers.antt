use Rattle.std.proofs.Common.{ℕ, length, Option, sym, refl, subst}
use Rattle.repeats.specs.Repeats.{keys_of, first_repeat}
use Rattle.repeats.proofs.First.{Answers, one_answer, first_answers}
use Rattle.repeats.proofs.Sorting.{answers_from_sort}
use Rattle.repeats.proofs.first_repeat.Goals as goal

pub returns : goal.returns
returns c =
    let xs = c.args.spots.now in
    let ys = c.sort_unstable.new.self in
    let s = c.sort_unstable.ensures.permutation in
    let a : Answers c.least_next.result (keys_of xs) =
    subst (λ (r : Option ℕ). Answers r (keys_of xs)) (sym c.least_next.ensures) (answers_from_sort xs ys c.requires s (length ys) refl c.sort_unstable.ensures.sorted) in
    record { value = one_answer (keys_of xs) c.least_next.result (first_repeat (keys_of xs)) a (first_answers (keys_of xs)); plain = a; same = s }
