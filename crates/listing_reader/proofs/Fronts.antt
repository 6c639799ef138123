-- What stands at the front of an area after a text was written there. Assumes nothing.
use Rattle.std.proofs.Common.{◌≡◌, ℕ, ◌+◌, ◌-◌, ◌≤◌, List, ◌++◌, length, take, drop, refl, ap, ◌∙◌, arith}
use lib.Seq.{sets, sets-eq}
use Rattle.std.proofs.lemmas.List.{take_at}
use Rattle.listing.specs.Writing.{Written}

pub front_is : (text a area : List ℕ) (n : ℕ) → Written text a 0 area n → n ≤ length a → take (n - 0) (drop 0 area) ≡ text
front_is text a area n w l =
    let p : n ≡ 0 + length text = w.place in
    let e : n - 0 ≡ length text = omega arith in
    let s : sets a 0 text ≡ take 0 a ++ text ++ drop (0 + length text) a = sets-eq text a 0 (omega arith) in
    ap (λ (m : ℕ). take m area) e ∙ ap (take (length text)) (w.octets ∙ s) ∙ take_at text (drop (0 + length text) a) (length text) refl
