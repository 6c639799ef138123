-- The payloads of one prefix stand together. Assumes nothing.
use Rattle.std.proofs.Common.{◌≡◌, ℕ, ◌+◌, ◌-◌, ◌*◌, ◌^◌, ◌<◌, ◌≤◌, true, List, [], ◌∷◌, length, get_or, sym, ap, ◌∙◌, subst, ⊎_elim, arith}
use Rattle.std.specs.List.{between, ContainsAt as Has}
use Rattle.std.proofs.lemmas.List.Edits.{length-between, get_or-between}
use Rattle.std.proofs.lemmas.Bool.{cases_lt, and_parts}
use Rattle.payload.specs.declared.Prefix.{Prefix}
use Rattle.payload.specs.declared.Payload.{Payload}
use Rattle.payload.specs.Order.{prefix_rank, rank, lawful, Small, AllSmall, all_lawful, Placed}
use Rattle.payload.specs.Lists.{Around}
use Rattle.payload.proofs.Members.{has_cases, none_has}

pub around_whole : (q : Prefix) (xs ys : List Payload) → ys ≡ xs → Around q xs ys
around_whole q xs ys e =
    record {
      only = λ p h. let P : List Payload → Type 0 = λ l. Has l p in subst P e h;
      every = λ p h _. let P : List Payload → Type 0 = λ l. Has l p in subst P (sym e) h;
    }

-- the first place is not past the second
pub start_end : (xs : List Payload) (lo hi : Payload) (a b : ℕ) → rank lo ≤ rank hi → Placed lo xs a → Placed hi xs b → a ≤ b
start_end xs lo hi a b l u v =
    ⊎_elim
    (λ less. absurd (omega (arith, u.within, u.before b lo less, v.after b lo (omega arith) (omega (arith, u.within)))))
    (λ le. le)
    (cases_lt b a)

-- a payload of the prefix ranks between the two
ranked : (q : Prefix) (p : Payload) → p.prefix ≡ q → rank p ≡ prefix_rank q * 2 ^ 40 + (p.max * 2 ^ 32 + p.asn)
ranked q p e = let f : prefix_rank p.prefix ≡ prefix_rank q = ap prefix_rank e in omega arith

pub around_part : (q : Prefix) (xs ys : List Payload) (lo hi : Payload) (a b : ℕ) → ys ≡ xs → AllSmall xs → rank lo ≡ prefix_rank q * 2 ^ 40 → rank hi ≡ (prefix_rank q + 1) * 2 ^ 40 → Placed lo ys a → Placed hi ys b → Around q xs (between a b ys)
around_part q xs ys lo hi a b e all low high u v =
    let in' : b ≤ length ys = v.within in
    let long : length (between a b ys) ≡ b - a = length-between ys a b in' in
    let S : List Payload → Type 0 = AllSmall in
    let small : AllSmall ys = subst S (sym e) all in
    record {
      only = λ p h.
          let P : List Payload → Type 0 = λ l. Has l p in
          subst P e (a + h.0, omega (arith, h.1), λ d. sym (get_or-between ys a b h.0 d (omega (arith, h.1))) ∙ h.2 d);
      every = λ p h f.
          let P : List Payload → Type 0 = λ l. Has l p in
          let g : Has ys p = subst P (sym e) h in
          let k : ℕ = g.0 in
          let kl : k < length ys = g.1 in
          let at : get_or ys k p ≡ p = g.2 p in
          let Q : Payload → Type 0 = Small in
          let few : p.max * 2 ^ 32 + p.asn < 2 ^ 40 = subst Q at (small k p kl) in
          let r : rank p ≡ prefix_rank q * 2 ^ 40 + (p.max * 2 ^ 32 + p.asn) = ranked q p f in
          let s : rank (get_or ys k p) ≡ rank p = ap rank at in
          let from : a ≤ k = ⊎_elim (λ less. absurd (omega (arith, u.before k p less))) (λ le. le) (cases_lt k a) in
          let to : k < b = ⊎_elim (λ less. less) (λ le. absurd (omega (arith, v.after k p le kl))) (cases_lt k b) in
          let back : a + (k - a) ≡ k = omega arith in
          (k - a, omega arith, λ d. get_or-between ys a b (k - a) d (omega arith) ∙ ap (λ (n : ℕ). get_or ys n d) back ∙ g.2 d);
    }

-- each prefix of a list of lawful prefixes is lawful
pub lawful_has : (xs : List Payload) → all_lawful xs ≡ true → (p : Payload) → Has xs p → lawful p.prefix ≡ true
lawful_has [] a p h = absurd (none_has p h)
lawful_has (x ∷ xs) a p h =
    let r = and_parts (lawful x.prefix) (all_lawful xs) a in
    let P : Payload → Type 0 = λ y. lawful y.prefix ≡ true in
    ⊎_elim (λ e. subst P e r.0) (λ t. lawful_has xs r.1 p t) (has_cases x xs p h)

pub around_at : (q : Prefix) (xs ys zs : List Payload) → ys ≡ xs → Around q ys zs → Around q xs zs
around_at q xs ys zs e h = let P : List Payload → Type 0 = λ l. Around q l zs in subst P e h
