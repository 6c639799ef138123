-- What a step of a walk saw, from what the reader answered. Assumes nothing.
use Rattle.std.proofs.Common.{◌≡◌, ℕ, ◌+◌, ◌-◌, ◌<◌, ◌≤◌, Bool, true, false, cond, ◌⊎◌, List, length, drop, Ok, Err, sym, subst, inl, inr, arith, length-drop}
use Rattle.std.proofs.lemmas.List.{length-take-le}
use Rattle.fault.specs.declared.ElementFault.{ElementFault}
use Rattle.element.specs.Reading.{Seen, Octets, read_of}
use Rattle.element.specs.Grammar.{Parsed}
use Rattle.walk.specs.Steps.{span, Visited, Stepped}
use Rattle.walk.specs.declared.WalkError.TheVariants.{Fault}

length_span : (file : List ℕ) (from to : ℕ) → to ≤ length file → length (span file from to) ≡ to - from
length_span file from to h = length-take-le (to - from) (drop from file) (simp length-drop (omega arith))

visited-here :
    (file : List ℕ) (from limit to : ℕ) (e : Seen) (q : Octets) → limit ≤ length file → from < limit
    → Ok (e, q) ≡ read_of (span file from limit) from → Parsed (span file from limit) from (Ok (e, q))
    → (to ≡ e.content_place) ⊎ (to ≡ q.place) → Visited file from to e
visited-here file from limit to e q inside some read p way =
    let n = length_span file from limit inside in
    let i = p.1 in
    let at = i.content_place in
    let rest = i.rest_place in
    let end = i.end in
    record {
      limit = limit;
      inside = inside;
      rest = q;
      read = sym read;
      here = i.tag_place;
      forward = elim way [ inl w ↦ omega arith | inr w ↦ omega arith ];
      kept = elim way [ inl w ↦ omega arith | inr w ↦ omega arith ];
    }

-- the same where the walk's file and place are known by another name
pub visited :
    (file g : List ℕ) (from p limit to : ℕ) (e : Seen) (q : Octets) → g ≡ file → p ≡ from → limit ≤ length g → p < limit
    → Ok (e, q) ≡ read_of (span g p limit) p → Parsed (span g p limit) p (Ok (e, q))
    → (to ≡ e.content_place) ⊎ (to ≡ q.place) → Visited file from to e
visited file g from p limit to e q same at inside some read parsed way =
    subst (λ (x : ℕ). Visited file x to e) at
    (subst (λ (x : List ℕ). Visited x p to e) same (visited-here g p limit to e q inside some read parsed way))

pub stopped :
    (file g : List ℕ) (from p limit to : ℕ) (f : ElementFault) → g ≡ file → p ≡ from
    → Err f ≡ read_of (span g p limit) p → Parsed (span g p limit) p (Err f) → Stepped file from to (Err (Fault f))
stopped file g from p limit to f same at read parsed =
    subst (λ (x : ℕ). Stepped file x to (Err (Fault f))) at
    (subst (λ (x : List ℕ). Stepped x p to (Err (Fault f))) same (parsed.0, (limit, sym read)))

-- how many elements are open after one that has elements inside, and after one that has none
pub opened :
    (t b : Bool) (after before depth : ℕ) → b ≡ t → b ≡ true → after ≡ before + 1 → depth ≡ before → after ≡ depth + cond t 1 0
opened true b after before depth e h a d = omega arith
opened false b after before depth e h a d = let z : ◌≡◌ {A = ℕ} 0 1 = cc in absurd (omega arith)

pub passed : (t b : Bool) (after before depth : ℕ) → b ≡ t → b ≡ false → after ≡ before → depth ≡ before → after ≡ depth + cond t 1 0
passed false b after before depth e h a d = omega arith
passed true b after before depth e h a d = let z : ◌≡◌ {A = ℕ} 0 1 = cc in absurd (omega arith)
