-- The laws of verdicts. Assumes nothing.
use Rattle.std.proofs.Common.{◌≡◌, ℕ, Bool, true, false, cond, ◌||◌, eqb, ltb, ◌⊎◌, List, [], ◌∷◌, Some, None, Decides, Option, sym, refl, ap, ◌∙◌, subst, ap₂, inl, inr, ⊎_elim, arith}
use Rattle.std.specs.List.{ContainsAt as Has}
use Rattle.std.proofs.lemmas.Bool.{cases_Bool, cases_eq, both_ways}
use Rattle.std.proofs.lemmas.Bool.Decides.{same_from_decides}
use Rattle.family.specs.declared.Family.{Family}
use Rattle.family.specs.declared.Family.TheVariants.{Ipv4, Ipv6}
use Rattle.payload.specs.declared.Prefix.{Prefix}
use Rattle.payload.specs.declared.Payload.{Payload}
use Rattle.payload.specs.Order.{rank}
use Rattle.payload.specs.Lists.{inserted_into}
use Rattle.payload.proofs.Members.{has_cases, has_here, has_there, none_has}
use Rattle.verdict.specs.declared.Verdict.TheVariants.{Valid, Invalid, NotFound}
use Rattle.verdict.specs.Routes.{Covers, Matches, covers, matches, any, verdict_of}
use Rattle.verdict.specs.Laws.{OneVerdict, SameVerdict, UncoveredStays, NoneCovers, LongerCoversNot, NoOriginMatchesNot, Telling, DifferInCover}
use Rattle.verdict.proofs.Verdicts.{covers_decides, matches_decides, any_from, any_to}

pub one_verdict : OneVerdict
one_verdict xs route origin Valid Valid a b = refl
one_verdict xs route origin Valid Invalid a b = absurd (b.1 a.0 a.1 a.2)
one_verdict xs route origin Valid NotFound a b = absurd (b a.0 a.1 a.2.covered)
one_verdict xs route origin Invalid Valid a b = absurd (a.1 b.0 b.1 b.2)
one_verdict xs route origin Invalid Invalid a b = refl
one_verdict xs route origin Invalid NotFound a b = absurd (b a.0.0 a.0.1 a.0.2)
one_verdict xs route origin NotFound Valid a b = absurd (a b.0 b.1 b.2.covered)
one_verdict xs route origin NotFound Invalid a b = absurd (a b.0.0 b.0.1 b.0.2)
one_verdict xs route origin NotFound NotFound a b = refl

-- a test that passes only what covers is met in both lists or in neither
level : (f : Payload → Bool) (xs ys : List Payload) → ((p : Payload) → f p ≡ true → Has xs p → Has ys p) → ((p : Payload) → f p ≡ true → Has ys p → Has xs p) → any f xs ≡ any f ys
level f xs ys to from =
    same_from_decides {P = (p : Payload) × Has ys p × (f p ≡ true)} (any f xs) (any f ys)
    ((λ h. let r = any_from f xs h in (r.0, to r.0 r.2 r.1, r.2)), λ r. any_to f xs r.0 (from r.0 r.2 r.1) r.2)
    (any_from f ys, λ r. any_to f ys r.0 r.1 r.2)

matched : (p : Payload) (route : Prefix) (origin : Option ℕ) → matches p route origin ≡ true → covers p route ≡ true
matched p route origin e = (covers_decides p route).1 ((matches_decides p route origin).0 e).covered

-- lists that have the same payloads of those that cover
same_covering : (xs ys : List Payload) (route : Prefix) (origin : Option ℕ) → ((p : Payload) → covers p route ≡ true → Has xs p → Has ys p) → ((p : Payload) → covers p route ≡ true → Has ys p → Has xs p) → verdict_of xs route origin ≡ verdict_of ys route origin
same_covering xs ys route origin to from =
    ap₂ (λ (m c : Bool). cond m Valid (cond c Invalid NotFound))
    (level (λ p. matches p route origin) xs ys (λ p e. to p (matched p route origin e)) (λ p e. from p (matched p route origin e)))
    (level (λ p. covers p route) xs ys to from)

pub same_verdict : SameVerdict
same_verdict xs ys route origin h = same_covering xs ys route origin (λ p _. (h p).0) (λ p _. (h p).1)

-- putting in what fails a test
any_inserted : (f : Payload → Bool) (p : Payload) (xs : List Payload) → f p ≡ false → any f (inserted_into p xs) ≡ any f xs
any_inserted f p [] e = ap (λ (b : Bool). b || false) e
any_inserted f p (x ∷ xs) e = go (any_inserted f p xs e) (ltb (rank p) (rank x)) (eqb (rank p) (rank x))
  where
    go : any f (inserted_into p xs) ≡ any f xs → (l s : Bool) → any f (cond l (p ∷ (x ∷ xs)) (cond s (x ∷ xs) (x ∷ inserted_into p xs))) ≡ any f (x ∷ xs)
    go h true s = ap (λ (b : Bool). b || any f (x ∷ xs)) e
    go h false true = refl
    go h false false = ap (λ (b : Bool). f x || b) h

fails : (t : Bool) (P : Type 0) → Decides t P → (P → ⊥) → t ≡ false
fails t P d n = ⊎_elim (λ e. absurd (n (d.0 e))) (λ e. e) (cases_Bool t)

pub uncovered_stays : UncoveredStays
uncovered_stays p xs route origin n =
    ap₂ (λ (m c : Bool). cond m Valid (cond c Invalid NotFound))
    (any_inserted (λ q. matches q route origin) p xs (fails (matches p route origin) (Matches p route origin) (matches_decides p route origin) (λ m. n m.covered)))
    (any_inserted (λ q. covers q route) p xs (fails (covers p route) (Covers p route) (covers_decides p route) n))

pub none_covers : NoneCovers
none_covers xs route origin n =
    ap₂ (λ (m c : Bool). cond m Valid (cond c Invalid NotFound))
    (none (λ p. matches p route origin) (λ p h e. n p h ((matches_decides p route origin).0 e).covered))
    (none (λ p. covers p route) (λ p h e. n p h ((covers_decides p route).0 e)))
  where
    none : (f : Payload → Bool) → ((p : Payload) → Has xs p → f p ≡ true → ⊥) → any f xs ≡ false
    none f m = ⊎_elim (λ e. let r = any_from f xs e in absurd (m r.0 r.1 r.2)) (λ e. e) (cases_Bool (any f xs))

pub longer_covers_not : LongerCoversNot
longer_covers_not p route l c = omega (arith, c.no_longer)

some_same : (m n : ℕ) → Some m ≡ Some n → m ≡ n
some_same m n e = cc

pub no_origin_matches_not : NoOriginMatchesNot
no_origin_matches_not p route = (
  (λ m. let e : None ≡ Some p.asn = m.same_as in let z : ◌≡◌ {A = ℕ} 0 1 = cc (e) in omega arith),
  (λ m. m.not_zero (sym (some_same 0 p.asn m.same_as))),
)

-- whether two payloads are the same
family? : (f g : Family) → (f ≡ g) ⊎ (f ≡ g → ⊥)
family? Ipv4 Ipv4 = inl refl
family? Ipv4 Ipv6 = inr (λ e. let z : ◌≡◌ {A = ℕ} 0 1 = cc (e) in omega arith)
family? Ipv6 Ipv4 = inr (λ e. let z : ◌≡◌ {A = ℕ} 0 1 = cc (e) in omega arith)
family? Ipv6 Ipv6 = inl refl

and? : {P Q : Type 0} → P ⊎ (P → ⊥) → Q ⊎ (Q → ⊥) → (P × Q) ⊎ (P × Q → ⊥)
and? (inl p) (inl q) = inl (p, q)
and? (inl p) (inr n) = inr (λ h. n h.1)
and? (inr n) q = inr (λ h. n h.0)

made : (f g : Family) (a b l m n o s t : ℕ) → f ≡ g → a ≡ b → l ≡ m → n ≡ o → s ≡ t
    → ◌≡◌ {A = Payload} (record { asn = s; prefix = record { family = f; address = a; length = l }; max = n }) (record { asn = t; prefix = record { family = g; address = b; length = m }; max = o })
made f g a b l m n o s t u v w x y = cc

same? : (p q : Payload) → (p ≡ q) ⊎ (p ≡ q → ⊥)
same? p q =
    ⊎_elim
    (λ h. inl (made _ _ _ _ _ _ _ _ _ _ h.0 h.1.0 h.1.1.0 h.1.1.1.0 h.1.1.1.1))
    (λ n. inr (λ e. n (ap (λ x. x.prefix.family) e, (ap (λ x. x.prefix.address) e, (ap (λ x. x.prefix.length) e, (ap (λ x. x.max) e, ap (λ x. x.asn) e))))))
    (and? (family? p.prefix.family q.prefix.family) (and? (cases_eq p.prefix.address q.prefix.address) (and? (cases_eq p.prefix.length q.prefix.length) (and? (cases_eq p.max q.max) (cases_eq p.asn q.asn)))))

has? : (ys : List Payload) (x : Payload) → Has ys x ⊎ (Has ys x → ⊥)
has? [] x = inr (none_has x)
has? (y ∷ ys) x = go (same? y x) (has? ys x)
  where
    go : (y ≡ x) ⊎ (y ≡ x → ⊥) → Has ys x ⊎ (Has ys x → ⊥) → Has (y ∷ ys) x ⊎ (Has (y ∷ ys) x → ⊥)
    go (inl e) _ = let P : Payload → Type 0 = Has (y ∷ ys) in inl (subst P e (has_here y ys))
    go (inr n) (inl h) = inl (has_there y ys x h)
    go (inr n) (inr m) = inr (λ h. ⊎_elim n m (has_cases y ys x h))

-- what the first list has more, of those that pass a test, or that it has nothing more
abbrev Missing : (Payload → Bool) → List Payload → List Payload → Type 0
Missing f xs ys = ((x : Payload) × (f x ≡ true) × Has xs x × (Has ys x → ⊥)) ⊎ ((x : Payload) → f x ≡ true → Has xs x → Has ys x)

missing : (f : Payload → Bool) (xs ys : List Payload) → Missing f xs ys
missing f [] ys = inr (λ x _ h. absurd (none_has x h))
missing f (y ∷ xs) ys = go (cases_Bool (f y)) (has? ys y) (missing f xs ys)
  where
    go : (f y ≡ true) ⊎ (f y ≡ false) → Has ys y ⊎ (Has ys y → ⊥) → Missing f xs ys → Missing f (y ∷ xs) ys
    go _ _ (inl m) = inl (m.0, m.1, has_there y xs m.0 m.2, m.3)
    go (inl e) (inr n) (inr a) = inl (y, e, has_here y xs, n)
    go (inl e) (inl h) (inr a) = inr (λ x c k. ⊎_elim (λ s. let P : Payload → Type 0 = Has ys in subst P s h) (a x c) (has_cases y xs x k))
    go (inr e) _ (inr a) = inr (λ x c k. ⊎_elim (λ s. absurd (both_ways (f y) e (ap f s ∙ c))) (a x c) (has_cases y xs x k))

pub differ_in_cover : DifferInCover
differ_in_cover xs ys route origin differ = go (missing (λ p. covers p route) xs ys) (missing (λ p. covers p route) ys xs)
  where
    go : Missing (λ p. covers p route) xs ys → Missing (λ p. covers p route) ys xs → Telling route xs ys
    go (inl m) _ = record { payload = m.0; covering = (covers_decides m.0 route).0 m.1; told = inl (m.2, m.3) }
    go (inr to) (inl m) = record { payload = m.0; covering = (covers_decides m.0 route).0 m.1; told = inr (m.2, m.3) }
    go (inr to) (inr from) = absurd (differ (same_covering xs ys route origin to from))
