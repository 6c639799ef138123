-- One payload more on a walk over a list. Assumes nothing.
use Rattle.std.proofs.Common.{◌≡◌, ℕ, ◌+◌, ◌<◌, ◌≤◌, Bool, true, false, cond, ◌&&◌, ◌||◌, List, ◌∷◌, length, get_or, drop, Option, sym, refl, ◌∙◌}
use Rattle.std.proofs.lemmas.List.{at_drop_more, at_drop_all}
use Rattle.std.proofs.lemmas.Bool.{both_ways}
use Rattle.payload.specs.declared.Prefix.{Prefix}
use Rattle.payload.specs.declared.Payload.{Payload}
use Rattle.verdict.specs.declared.Verdict.{Verdict}
use Rattle.verdict.specs.declared.Verdict.TheVariants.{Valid, Invalid}
use Rattle.verdict.specs.Routes.{covers, names, verdict_after}

match_tells : (c n m k : Bool) (v : Verdict) → c ≡ true → n ≡ true → cond ((c && n) || m) Valid (cond (c || k) Invalid v) ≡ Valid
match_tells true true m k v e f = refl
match_tells true false m k v e f = absurd (both_ways false refl f)
match_tells false n m k v e f = absurd (both_ways false refl e)

cover_tells : (c n m k : Bool) (v : Verdict) → c ≡ true → n ≡ false → cond ((c && n) || m) Valid (cond (c || k) Invalid v) ≡ cond m Valid (cond k Invalid Invalid)
cover_tells true false m true v e f = refl
cover_tells true false m false v e f = refl
cover_tells true true m k v e f = absurd (both_ways true f refl)
cover_tells false n m k v e f = absurd (both_ways false refl e)

other_tells : (c n m k : Bool) (v : Verdict) → c ≡ false → cond ((c && n) || m) Valid (cond (c || k) Invalid v) ≡ cond m Valid (cond k Invalid v)
other_tells false n m k v e = refl
other_tells true n m k v e = absurd (both_ways true e refl)

module _ (xs : List Payload) (route : Prefix) (origin : Option ℕ) (i : ℕ) (z : Payload) (v all : Verdict) (l : i < length xs) (inv : verdict_after v (drop i xs) route origin ≡ all) where
  here : verdict_after v (get_or xs i z ∷ drop (i + 1) xs) route origin ≡ all
  here = sym (at_drop_more (λ (t : List Payload). verdict_after v t route origin) xs i z l) ∙ inv

  -- a payload that matches
  pub walk_match : covers (get_or xs i z) route ≡ true → names (get_or xs i z) route origin ≡ true → Valid ≡ all
  walk_match c n = sym (match_tells (covers (get_or xs i z) route) (names (get_or xs i z) route origin) _ _ v c n) ∙ here

  -- one that only covers
  pub walk_cover : covers (get_or xs i z) route ≡ true → names (get_or xs i z) route origin ≡ false → verdict_after Invalid (drop (i + 1) xs) route origin ≡ all
  walk_cover c n = sym (cover_tells (covers (get_or xs i z) route) (names (get_or xs i z) route origin) _ _ v c n) ∙ here

  -- one that does not cover
  pub walk_other : covers (get_or xs i z) route ≡ false → verdict_after v (drop (i + 1) xs) route origin ≡ all
  walk_other c = sym (other_tells (covers (get_or xs i z) route) (names (get_or xs i z) route origin) _ _ v c) ∙ here

pub walk_all : (xs : List Payload) (route : Prefix) (origin : Option ℕ) (i : ℕ) (v all : Verdict) → length xs ≤ i → verdict_after v (drop i xs) route origin ≡ all → v ≡ all
walk_all xs route origin i v all l inv = sym (at_drop_all (λ (t : List Payload). verdict_after v t route origin) xs i l) ∙ inv
