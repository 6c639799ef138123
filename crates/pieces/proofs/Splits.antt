-- The pieces of a text: they give it back, and pieces with marks between them are read as these. Assumes nothing.
use Rattle.std.proofs.Common.{◌≡◌, ℕ, suc, ◌+◌, ◌-◌, ◌<◌, ◌≤◌, Bool, true, false, cond, not, ◌&&◌, eqb, List, [], ◌∷◌, ◌++◌, length, take, drop, Some, None, Option, sym, refl, ap, ◌∙◌, subst, inl, inr, arith}
use Rattle.std.specs.Prelude.{nat_eq, nat_lt}
use Rattle.std.specs.Option.{unwrap_or}
use Rattle.std.proofs.lemmas.Bool.Decides.{nat_tests}
use Rattle.std.specs.List.{AllByRecursion, position_or_len}
use Rattle.std.proofs.lemmas.List.Recursion.{is_position_or_len}
use Rattle.std.proofs.lemmas.List.{drop_more, drop_all, take_rest}
use Rattle.std.proofs.lemmas.Bool.{cases_Bool, eqb-true, eq-eqb}
use Rattle.pieces.specs.Marks.{lengthened, pieces_of, joined, lacking, piece_end, pieces_after, pieces_past, take_piece, beside, and_then, read_next}

module _ (m : ℕ) where
  -- a mark, and another character
  pieces_mark : (c : ℕ) (s : List ℕ) → eqb c m ≡ true → pieces_of m (c ∷ s) ≡ [] ∷ pieces_of m s
  pieces_mark c s e = ap (λ (b : Bool). cond b ([] ∷ pieces_of m s) (lengthened c (pieces_of m s))) e

  pieces_other : (c : ℕ) (s : List ℕ) → eqb c m ≡ false → pieces_of m (c ∷ s) ≡ lengthened c (pieces_of m s)
  pieces_other c s e = ap (λ (b : Bool). cond b ([] ∷ pieces_of m s) (lengthened c (pieces_of m s))) e

  -- a text begins with a piece, which ends where `piece_end` says
  pub pieces_first : (s : List ℕ) → pieces_of m s ≡ take (piece_end m s) s ∷ pieces_past m (piece_end m s) s
  pieces_first [] = refl
  pieces_first (c ∷ s) = elim (cases_Bool (eqb c m)) [
    | inl e ↦
        pieces_mark c s e ∙ sym (ap (λ (b : Bool). take (cond b 0 (suc (piece_end m s))) (c ∷ s) ∷ pieces_past m (cond b 0 (suc (piece_end m s))) (c ∷ s)) e)
    | inr e ↦
        pieces_other c s e ∙ ap (lengthened c) (pieces_first s)
        ∙ sym (ap (λ (b : Bool). take (cond b 0 (suc (piece_end m s))) (c ∷ s) ∷ pieces_past m (cond b 0 (suc (piece_end m s))) (c ∷ s)) e)
  ]

  -- the pieces of a text give the text back
  joined_lengthened : (c : ℕ) (ws : List (List ℕ)) → joined m (lengthened c ws) ≡ c ∷ joined m ws
  joined_lengthened c [] = refl
  joined_lengthened c (w ∷ []) = refl
  joined_lengthened c (w ∷ (v ∷ ws)) = refl

  joined_more : (s : List ℕ) → joined m ([] ∷ pieces_of m s) ≡ m ∷ joined m (pieces_of m s)
  joined_more s =
      ap (λ (l : List (List ℕ)). joined m ([] ∷ l)) (pieces_first s) ∙ sym (ap (λ (l : List (List ℕ)). m ∷ joined m l) (pieces_first s))

  pub joined_pieces : (s : List ℕ) → joined m (pieces_of m s) ≡ s
  joined_pieces [] = refl
  joined_pieces (c ∷ s) = elim (cases_Bool (eqb c m)) [
    | inl e ↦
        ap (joined m) (pieces_mark c s e) ∙ joined_more s ∙ ap (λ (l : List ℕ). m ∷ l) (joined_pieces s) ∙ ap (λ (n : ℕ). n ∷ s) (sym (eqb-true c m e))
    | inr e ↦ ap (joined m) (pieces_other c s e) ∙ joined_lengthened c (pieces_of m s) ∙ ap (λ (l : List ℕ). c ∷ l) (joined_pieces s)
  ]

  -- no piece holds the mark
  abbrev pub Markless : List (List ℕ) → Type 0
  Markless ws = AllByRecursion (λ w. lacking m w ≡ true) ws

  pub lacking_more : (c x : ℕ) (s : List ℕ) → eqb x c ≡ false → lacking c s ≡ true → lacking c (x ∷ s) ≡ true
  lacking_more c x s e h = ap (λ (b : Bool). not b && lacking c s) e ∙ h

  markless_lengthened : (c : ℕ) (ws : List (List ℕ)) → eqb c m ≡ false → Markless ws → Markless (lengthened c ws)
  markless_lengthened c [] e h = (lacking_more m c [] e refl, tt)
  markless_lengthened c (w ∷ ws) e h = (lacking_more m c w e h.0, h.1)

  pub markless_pieces : (s : List ℕ) → Markless (pieces_of m s)
  markless_pieces [] = (refl, tt)
  markless_pieces (c ∷ s) = elim (cases_Bool (eqb c m)) [
    | inl e ↦ subst Markless (sym (pieces_mark c s e)) (refl, markless_pieces s)
    | inr e ↦ subst Markless (sym (pieces_other c s e)) (markless_lengthened c (pieces_of m s) e (markless_pieces s))
  ]

  -- a text without the mark is one piece
  pub lacking_parts : (c x : ℕ) (s : List ℕ) → lacking c (x ∷ s) ≡ true → (eqb x c ≡ false) × (lacking c s ≡ true)
  lacking_parts c x s h = elim (cases_Bool (eqb x c)) [
    | inl e ↦ let z : false ≡ true = sym (ap (λ (b : Bool). not b && lacking c s) e) ∙ h in absurd (grind arith)
    | inr e ↦ (e, sym (ap (λ (b : Bool). not b && lacking c s) e) ∙ h)
  ]

  pub pieces_one : (w : List ℕ) → lacking m w ≡ true → pieces_of m w ≡ w ∷ []
  pieces_one [] h = refl
  pieces_one (c ∷ w) h =
      let p : (eqb c m ≡ false) × (lacking m w ≡ true) = lacking_parts m c w h in
      pieces_other c w p.0 ∙ ap (lengthened c) (pieces_one w p.1)

  -- pieces with marks between them are read as these pieces
  pub pieces_front : (w t : List ℕ) → lacking m w ≡ true → pieces_of m (w ++ (m ∷ t)) ≡ w ∷ pieces_of m t
  pieces_front [] t h = pieces_mark m t (eq-eqb m m refl)
  pieces_front (c ∷ w) t h =
      let p : (eqb c m ≡ false) × (lacking m w ≡ true) = lacking_parts m c w h in
      pieces_other c (w ++ (m ∷ t)) p.0 ∙ ap (lengthened c) (pieces_front w t p.1)

  pub pieces_joined : (w : List ℕ) (ws : List (List ℕ)) → Markless (w ∷ ws) → pieces_of m (joined m (w ∷ ws)) ≡ w ∷ ws
  pieces_joined w [] h = pieces_one w h.0
  pieces_joined w (v ∷ ws) h = pieces_front w (joined m (v ∷ ws)) h.0 ∙ ap (λ (l : List (List ℕ)). w ∷ l) (pieces_joined v ws h.1)

  -- what follows the mark that ends a piece, and nothing
  pub past_some : (s : List ℕ) (n : ℕ) → n < length s → pieces_of m (take (length s - (n + 1)) (drop (n + 1) s)) ≡ pieces_past m n s
  past_some s n l = ap (pieces_of m) (take_rest s (n + 1)) ∙ sym (ap (pieces_after m) (drop_more s n 0 l))

  pub past_none : (s : List ℕ) (n : ℕ) → length s ≤ n → [] ≡ pieces_past m n s
  past_none s n l = sym (ap (pieces_after m) (drop_all n s l))

  -- where the first piece ends, in the words of the library
  pub end_position : (s : List ℕ) → piece_end m s ≡ position_or_len (λ c. nat_eq c m) s
  end_position s = is_position_or_len (piece_end m) (λ c. nat_eq c m) refl (λ x xs. ap (λ n. cond (eqb x m) 0 n) (omega arith)) s

  end_bound : (s : List ℕ) → piece_end m s ≤ length s
  end_bound [] = omega arith
  end_bound (c ∷ s) = let h : piece_end m s ≤ length s = end_bound s in grind arith

  pub end_from_position :
      (s : List ℕ) (o : Option ℕ) → o ≡ cond (nat_lt (position_or_len (λ c. nat_eq c m) s) (length s)) (Some (position_or_len (λ c. nat_eq c m) s)) None
      → unwrap_or o (length s) ≡ piece_end m s
  end_from_position s o h =
      let e : piece_end m s ≡ position_or_len (λ c. nat_eq c m) s = end_position s in
      let b : piece_end m s ≤ length s = end_bound s in
      grind (arith, nat_tests)

  -- the next piece
  pub next_piece : (s : List ℕ) (n : ℕ) (ws : List (List ℕ)) → n ≡ piece_end m s → ws ≡ pieces_past m n s → Some (take (n - 0) s, ws) ≡ take_piece (pieces_of m s)
  next_piece s n ws e p =
      let whole : n - 0 ≡ n = omega arith in
      ap (λ (k : ℕ). Some (take k s, ws)) whole ∙ ap (λ (l : List (List ℕ)). Some (take n s, l)) p
      ∙ ap (λ (k : ℕ). Some (take k s, pieces_past m k s)) e ∙ sym (ap take_piece (pieces_first s))

-- the next piece was read
beside_then : {A B : Type 0} (r : Option A) (rest : B) → beside (λ a. a) r rest ≡ and_then r (λ a. Some (a, rest))
beside_then None rest = refl
beside_then (Some a) rest = refl

pub next_read : {A : Type 0} (reads : List ℕ → Option A) (ws rest : List (List ℕ)) (w : List ℕ) (r : Option A) → Some (w, rest) ≡ take_piece ws → r ≡ reads w → beside (λ a. a) r rest ≡ read_next reads ws
next_read {A} reads ws rest w r e h =
    beside_then r rest ∙ ap (λ (o : Option A). and_then o (λ a. Some (a, rest))) h
    ∙ ap (λ (o : Option (List ℕ × List (List ℕ))). and_then o (λ p. and_then (reads p.0) (λ a. Some (a, p.1)))) e
