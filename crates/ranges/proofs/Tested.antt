-- That the tests of the lists decide their laws. Assumes nothing.
use Rattle.std.proofs.Common.{◌≡◌, ℕ, ◌+◌, ◌<◌, true, ◌&&◌, List, [], ◌∷◌, Decides, refl, arith}
use Rattle.std.specs.List.{AllByRecursion}
use Rattle.std.proofs.ByRecursion.{All-weaker}
use Rattle.std.proofs.lemmas.Bool.{and_parts, and_from, leb-true, le-leb, ltb-true, lt-ltb}
use Rattle.std.proofs.lemmas.Bool.Decides.{nat_tests, Decides-and}
use Rattle.ranges.specs.declared.Range.{Range}
use Rattle.ranges.specs.Sets.{Counted, Ascending, Lawful}
use Rattle.ranges.specs.Walks.{counted, forward, gap_before, ascending, lawful}

pub counted_decides : {P : Type 0} (rs : List (Range P)) → Decides (counted rs) (Counted rs)
counted_decides rs = (λ e. (grind (arith, nat_tests), grind (arith, nat_tests)), λ p. grind (arith, nat_tests))

module _ {P : Type 0} (rank : P → ℕ) where
  -- where the first range begins past n, each does
  pub past_all : (n : ℕ) (r : Range P) (rs : List (Range P)) → n < rank r.first → Ascending rank (r ∷ rs) → AllByRecursion (λ s. n < rank s.first) (r ∷ rs)
  past_all n r rs h a =
      (h, All-weaker (λ s. rank r.last + 1 < rank s.first) (λ s. n < rank s.first) (λ s k. (let f = a.0 in omega arith)) rs a.1)

  gap_all : (r : Range P) (rs : List (Range P)) → gap_before rank r rs ≡ true → Ascending rank rs → AllByRecursion (λ s. rank r.last + 1 < rank s.first) rs
  gap_all r [] t a = tt
  gap_all r (s ∷ ss) t a = past_all (rank r.last + 1) s ss (ltb-true _ _ t) a

  all_gap : (r : Range P) (rs : List (Range P)) → AllByRecursion (λ s. rank r.last + 1 < rank s.first) rs → gap_before rank r rs ≡ true
  all_gap r [] a = refl
  all_gap r (s ∷ ss) a = lt-ltb _ _ a.0

  ascending_gives : (rs : List (Range P)) → ascending rank rs ≡ true → Ascending rank rs
  ascending_gives [] e = tt
  ascending_gives (r ∷ rs) e =
      let p = and_parts (forward rank r && gap_before rank r rs) (ascending rank rs) e in
      let q = and_parts (forward rank r) (gap_before rank r rs) p.0 in
      let a = ascending_gives rs p.1 in
      (leb-true _ _ q.0, gap_all r rs q.1 a, a)

  ascending_from : (rs : List (Range P)) → Ascending rank rs → ascending rank rs ≡ true
  ascending_from [] a = refl
  ascending_from (r ∷ rs) a =
      and_from _ _ (and_from _ _ (le-leb _ _ a.0) (all_gap r rs a.1)) (ascending_from rs a.2)

  pub ascending_decides : (rs : List (Range P)) → Decides (ascending rank rs) (Ascending rank rs)
  ascending_decides rs = (ascending_gives rs, ascending_from rs)

  pub lawful_decides : (rs : List (Range P)) → Decides (lawful rank rs) (Lawful rank rs)
  lawful_decides rs = Decides-and (counted rs) (ascending rank rs) (counted_decides rs) (ascending_decides rs)
