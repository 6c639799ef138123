-- What the walks over what an index holds find. Assumes nothing.
use Rattle.std.proofs.Common.{◌≡◌, ℕ, Bool, true, false, cond, ◌||◌, List, [], ◌∷◌, map, Some, None, refl, ap, ◌∙◌}
use Rattle.std.specs.List.{find, list_any}
use Rattle.std.specs.Option.{option_or, option_map}
use Rattle.std.specs.Str.{bytes_eq}
use Rattle.oracle.specs.declared.Claim.{Claim}
use Rattle.record.specs.declared.KnownDigest.{KnownDigest}
use Rattle.record.specs.Views.{known_seen, claim_seen}
use Rattle.book.specs.Meaning.{yes_said, first_digest, some_verdict}

-- the first known digest of these octets gives the digest
pub first_found : (s : List ℕ) (ks : List KnownDigest) → option_map (λ k. k.digest) (find (λ k. bytes_eq k.octets.now s) ks) ≡ first_digest s (map known_seen ks)
first_found s [] = refl
first_found s (k ∷ ks) = by (bytes_eq k.octets.now s) (first_found s ks)
  where
    by : (b : Bool) → option_map (λ k. k.digest) (find (λ k. bytes_eq k.octets.now s) ks) ≡ first_digest s (map known_seen ks) → option_map (λ k. k.digest) (cond b (Some k) (find (λ k. bytes_eq k.octets.now s) ks)) ≡ option_or (cond b (Some k.digest) None) (first_digest s (map known_seen ks))
    by true ih = refl
    by false ih = ih

-- a test of claims that answers as the records of them do
pub any_seen : (f : Claim → Bool) (k m g : List ℕ) → ((x : Claim) → f x ≡ yes_said k m g (claim_seen x)) → (xs : List Claim) → list_any f xs ≡ some_verdict k m g (map claim_seen xs)
any_seen f k m g h [] = refl
any_seen f k m g h (x ∷ xs) =
    ap (λ (b : Bool). b || list_any f xs) (h x) ∙ ap (λ (b : Bool). yes_said k m g (claim_seen x) || b) (any_seen f k m g h xs)
