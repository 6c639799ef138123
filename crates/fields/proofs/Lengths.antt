-- What follows an element that a layout wants is no longer than what it was read from. Assumes nothing.
use Rattle.std.proofs.Common.{◌≡◌, ℕ, ◌≤◌, Bool, true, false, cond, eqb, length, Ok, Err, Result, refl, ap, arith}
use Rattle.fault.specs.declared.Layer.{Layer}
use Rattle.fault.specs.declared.Report.{Report}
use Rattle.fault.specs.declared.Rule.TheVariants.{Structure}
use Rattle.fault.specs.declared.ElementFault.{ElementFault}
use Rattle.element.specs.Reading.{Seen, Octets, read_of}
use Rattle.element.proofs.Parses.{shorter}
use Rattle.layout.specs.Expecting.{broken, tagged, expect_of}

abbrev rest_in : Result (Seen × Octets) Report → Octets → Octets
rest_in (Ok p) q = p.1
rest_in (Err f) q = q

tagged-shorter :
    (l : Layer) (tag : ℕ) (q : Octets) (r : Result (Seen × Octets) ElementFault) → read_of q.octets q.place ≡ r → (p : Seen × Octets)
    → Ok p ≡ tagged l tag r → length p.1.octets ≤ length q.octets
tagged-shorter l tag q (Err f) is p e = let z : ◌≡◌ {A = ℕ} 0 1 = cc in absurd (omega arith)
tagged-shorter l tag q (Ok r) is p e = by (eqb r.0.tag tag) e
  where
    by : (b : Bool) → Ok p ≡ cond b (Ok r) (broken l Structure r.0.place) → length p.1.octets ≤ length q.octets
    by true f =
        let s = shorter q.octets q.place r.0 r.1 is in
        let i : p.1 ≡ r.1 = ap (λ x. rest_in x q) f in
        rw i (omega arith)
    by false f = let z : ◌≡◌ {A = ℕ} 0 1 = cc in absurd (omega arith)

pub expected-shorter :
    (l : Layer) (tag : ℕ) (q : Octets) (p : Seen × Octets) → Ok p ≡ expect_of l tag q → length p.1.octets ≤ length q.octets
expected-shorter l tag q p e = by (eqb (length q.octets) 0) e
  where
    by : (b : Bool) → Ok p ≡ cond b (broken l Structure q.place) (tagged l tag (read_of q.octets q.place)) → length p.1.octets ≤ length q.octets
    by true f = let z : ◌≡◌ {A = ℕ} 0 1 = cc in absurd (omega arith)
    by false f = tagged-shorter l tag q (read_of q.octets q.place) refl p f
