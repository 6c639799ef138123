-- What one step of a reading says where it succeeds, and when it does. Assumes nothing.
use Rattle.std.proofs.Common.{◌≡◌, ℕ, Bool, true, false, cond, eqb, List, [], ◌∷◌, length, Ok, Err, Result, sym, refl, ap, ◌∙◌, arith}
use Rattle.std.proofs.lemmas.Bool.{cond-true, cond-false, eq-eqb, ne_eqb, eqb-true}
use Rattle.fault.specs.declared.Rule.{Rule}
use Rattle.fault.specs.declared.Rule.TheVariants.{Structure}
use Rattle.fault.specs.declared.Layer.{Layer}
use Rattle.fault.specs.declared.Report.{Report}
use Rattle.fault.specs.declared.ElementFault.{ElementFault}
use Rattle.element.specs.Reading.{Seen, Octets, read_of}
use Rattle.layout.specs.Expecting.{broken, then_read, tagged, expect_of, surplus, end_of}
use Rattle.resources.specs.Meaning.{Next, Ended}

-- a reading in two steps that succeeds
pub then_ok :
    {V W : Type 0} (r : Result V Report) (k : V → Result W Report) (w : W) → Ok w ≡ then_read r k
    → (v : V) × (r ≡ Ok v) × (Ok w ≡ k v)
then_ok (Ok v) k w e = (v, refl, e)
then_ok (Err f) k w e = absurd cc

-- a test that has to pass
pub cond_ok : {W : Type 0} (b : Bool) (l : Layer) (u : Rule) (p : ℕ) (x : Result W Report) (w : W) → Ok w ≡ cond b x (broken l u p) → (b ≡ true) × (Ok w ≡ x)
cond_ok true l u p x w e = (refl, e)
cond_ok false l u p x w e = absurd cc

-- a test that has to fail
pub cond_not : {W : Type 0} (b : Bool) (l : Layer) (u : Rule) (p : ℕ) (x : Result W Report) (w : W) → Ok w ≡ cond b (broken l u p) x → (b ≡ false) × (Ok w ≡ x)
cond_not true l u p x w e = absurd cc
cond_not false l u p x w e = (refl, e)

-- an element stands only in octets that are not at their end
next_some : (s : List ℕ) (at : ℕ) (e : Seen) (after : Octets) → read_of s at ≡ Ok (e, after) → length s ≡ 0 → ⊥
next_some [] at e after n h = cc
next_some (x ∷ s) at e after n h = omega arith

pub not_ended : (q : Octets) (e : Seen) (after : Octets) → Next q e after → Ended q → ⊥
not_ended q e after n h = next_some q.octets q.place e after n h

tagged_ok :
    (l : Layer) (t : ℕ) (r : Result (Seen × Octets) ElementFault) (p : Seen × Octets) → Ok p ≡ tagged l t r
    → (r ≡ Ok p) × (p.0.tag ≡ t)
tagged_ok l t (Err f) p e = absurd cc
tagged_ok l t (Ok x) p e =
    let h = cond_ok (eqb x.0.tag t) l Structure x.0.place (Ok x) p e in
    let i : p ≡ x = (let k = h.1 in cc) in
    (ap Ok (sym i), ap (λ (y : Seen × Octets). y.0.tag) i ∙ eqb-true _ _ h.0)

-- an element of the tag that was wanted
pub expect-ok :
    (l : Layer) (t : ℕ) (q : Octets) (p : Seen × Octets) → Ok p ≡ expect_of l t q → Next q p.0 p.1 × (p.0.tag ≡ t)
expect-ok l t q p e =
    let h = cond_not (eqb (length q.octets) 0) l Structure q.place (tagged l t (read_of q.octets q.place)) p e in
    tagged_ok l t (read_of q.octets q.place) p h.1

pub expect-is :
    (l : Layer) (t : ℕ) (q : Octets) (e : Seen) (after : Octets) → Next q e after → e.tag ≡ t → expect_of l t q ≡ Ok (e, after)
expect-is l t q e after n is =
    cond-false (eqb (length q.octets) 0) _ _ (ne_eqb _ _ (not_ended q e after n))
    ∙ ap (tagged l t) n
    ∙ cond-true (eqb e.tag t) _ _ (eq-eqb _ _ is)

surplus_never : (l : Layer) (r : Result (Seen × Octets) ElementFault) → Ok tt ≡ surplus l r → ⊥
surplus_never l (Err f) e = cc
surplus_never l (Ok p) e = cc

end_by : (b : Bool) (n : ℕ) (l : Layer) (r : Result (Seen × Octets) ElementFault) → b ≡ eqb n 0 → Ok tt ≡ cond b (Ok tt) (surplus l r) → n ≡ 0
end_by true n l r i e = eqb-true n 0 (sym i)
end_by false n l r i e = absurd (surplus_never l r e)

-- nothing is left where nothing may be left
pub end_ok : (l : Layer) (q : Octets) → Ok tt ≡ end_of l q → Ended q
end_ok l q e = end_by (eqb (length q.octets) 0) (length q.octets) l (read_of q.octets q.place) refl e

pub end_is : (l : Layer) (q : Octets) → Ended q → end_of l q ≡ Ok tt
end_is l q h = cond-true (eqb (length q.octets) 0) _ _ (eq-eqb _ _ h)
