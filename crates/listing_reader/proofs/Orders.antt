-- A payload that comes after all of a list. Assumes nothing.
use Rattle.std.proofs.Common.{◌≡◌, ℕ, zero, suc, ◌<◌, ◌≤◌, Bool, true, false, cond, eqb, ltb, leb, List, [], ◌∷◌, ◌++◌, length, get_or, sym, refl, ap, ◌∙◌, inl, inr, arith}
use Rattle.std.proofs.lemmas.Bool.{cases_Bool, cases_lt, and_parts, and_from, lt-ltb, le-ltb, ltb-true, le-leb, lt-leb, ne_eqb}
use Rattle.payload.specs.declared.Payload.{Payload}
use Rattle.payload.specs.declared.list.PayloadList.{PayloadList}
use Rattle.payload.specs.declared.list.Inserted.{Inserted}
use Rattle.payload.specs.declared.list.Inserted.TheVariants.{Added as Added·way, Present, Full}
use Rattle.payload.specs.Order.{rank, Placed, Listed, HasAt}
use Rattle.payload.specs.Lists.{held, room, inserted_into, Inserts}
use Rattle.payload.proofs.Orders.{blank}
use Rattle.listing_reader.specs.Lines.{comes_after, Added}

pub after_at : (xs : List Payload) (p : Payload) → comes_after xs p ≡ true → (k : ℕ) (d : Payload) → k < length xs → rank (get_or xs k d) < rank p
after_at [] p h k d l = absurd (omega arith)
after_at (x ∷ xs) p h zero d l = ltb-true (rank x) (rank p) (and_parts (ltb (rank x) (rank p)) (comes_after xs p) h).0
after_at (x ∷ xs) p h (suc k) d l = after_at xs p (and_parts (ltb (rank x) (rank p)) (comes_after xs p) h).1 k d (omega arith)

pub after_from : (xs : List Payload) (p : Payload) → ((k : ℕ) (d : Payload) → k < length xs → rank (get_or xs k d) < rank p) → comes_after xs p ≡ true
after_from [] p h = refl
after_from (x ∷ xs) p h =
    and_from (ltb (rank x) (rank p)) (comes_after xs p) (lt-ltb (rank x) (rank p) (h 0 x (omega arith))) (after_from xs p (λ k d l. h (suc k) d (omega arith)))

pub placed_after : (xs : List Payload) (p : Payload) (n m : ℕ) → Placed p xs n → m ≡ length xs → leb m n ≡ comes_after xs p
placed_after xs p n m pl e = elim (cases_lt n (length xs)) [
  | inl l ↦ elim (cases_Bool (comes_after xs p)) [
    | inl t ↦
        let a : rank (get_or xs n blank) < rank p = after_at xs p t n blank l in
        let b : rank p ≤ rank (get_or xs n blank) = pl.after n blank (omega arith) l in
        absurd (omega arith)
    | inr t ↦ lt-leb m n (omega arith) ∙ sym t
  ]
  | inr l ↦ le-leb m n (omega arith) ∙ sym (after_from xs p (λ k d h. pl.before k d (omega arith)))
]

pub inserted_last : (xs : List Payload) (p : Payload) → comes_after xs p ≡ true → inserted_into p xs ≡ xs ++ p ∷ []
inserted_last [] p h = refl
inserted_last (x ∷ xs) p h =
    let q = and_parts (ltb (rank x) (rank p)) (comes_after xs p) h in
    let l : rank x < rank p = ltb-true (rank x) (rank p) q.0 in
    let a : ltb (rank p) (rank x) ≡ false = le-ltb (rank p) (rank x) (omega arith) in
    let b : eqb (rank p) (rank x) ≡ false = ne_eqb (rank p) (rank x) (λ e. omega arith) in
    ap (λ (t : Bool). cond t (p ∷ (x ∷ xs)) (cond (eqb (rank p) (rank x)) (x ∷ xs) (x ∷ inserted_into p xs))) a
    ∙ ap (λ (t : Bool). cond t (x ∷ xs) (x ∷ inserted_into p xs)) b
    ∙ ap (λ (l : List Payload). x ∷ l) (inserted_last xs p q.1)

not_listed : (xs : List Payload) (p : Payload) → comes_after xs p ≡ true → Listed p xs → ⊥
not_listed xs p h f =
    let at : HasAt p xs f.0 = f.1 in
    let a : rank (get_or xs f.0 blank) < rank p = after_at xs p h f.0 blank at.0 in
    let e : rank (get_or xs f.0 blank) ≡ rank p = at.1 blank in
    omega arith

pub added_is : (p : Payload) (s : PayloadList) (r : Inserted) (t : PayloadList) → Inserts p s r t → comes_after (held s) p ≡ true → length (held s) < room s → Added p s t
added_is p s Added·way t i h l = record { payloads = i.payloads ∙ inserted_last (held s) p h; rest = i.rest; same_room = i.same_room }
added_is p s Present t i h l = absurd (not_listed (held s) p h i.0)
added_is p s Full t i h l = let e : length (held s) ≡ room s = i.1 in absurd (omega arith)
