-- One turn of the loops over a content: what is left of the octets gives the answer. Assumes nothing.
use Rattle.std.proofs.Common.{◌≡◌, ℕ, ◌+◌, ◌<◌, Bool, true, false, cond, eqb, ltb, List, length, get_or, drop, ap, ◌∙◌, arith}
use Rattle.std.proofs.lemmas.List.{at_drop_more}
use Rattle.std.proofs.lemmas.Bool.Decides.{nat_tests}
use Rattle.content.specs.Forms.{arcs, oid_form}

pub arcs_here : (b : Bool) (c : List ℕ) (i : ℕ) → i < length c → b ≡ true → get_or c i 0 ≡ 128 → arcs b (drop i c) ≡ false
arcs_here b c i h begins at = let e = at_drop_more (arcs b) c i 0 h in grind (arith, nat_tests)

pub arcs-between :
    (b : Bool) (c : List ℕ) (i : ℕ) → i < length c → (get_or c i 0 ≡ 128 → ⊥)
    → arcs b (drop i c) ≡ arcs (ltb (get_or c i 0) 128) (drop (i + 1) c)
arcs-between b c i h other = let e = at_drop_more (arcs b) c i 0 h in grind (arith, nat_tests)

pub arcs-within :
    (b : Bool) (c : List ℕ) (i : ℕ) → i < length c → b ≡ false
    → arcs b (drop i c) ≡ arcs (ltb (get_or c i 0) 128) (drop (i + 1) c)
arcs-within b c i h within = let e = at_drop_more (arcs b) c i 0 h in grind (arith, nat_tests)

-- where there are octets, the numbers decide
pub arcs_sum : (c : List ℕ) (r : Bool) → false ≡ eqb (length c) 0 → r ≡ arcs true c → r ≡ oid_form c
arcs_sum c r some e = e ∙ ap (λ (b : Bool). cond b false (arcs true c)) some
