-- What a text that is read, and one that is not, is. Assumes nothing.
use Rattle.std.proofs.Common.{◌≡◌, ℕ, zero, suc, ◌+◌, ◌<◌, Bool, true, false, cond, eqb, ltb, ◌⊎◌, List, [], ◌∷◌, ◌++◌, length, get_or, Some, None, Ok, Err, Option, Result, sym, refl, ap, ◌∙◌, subst, inl, inr, arith}
use Rattle.std.specs.List.{AllByRecursion}
use Rattle.std.proofs.lemmas.List.{append_assoc, append-nil, length-append, nil_from_length, get_or_append_left, get_or_at}
use Rattle.std.proofs.lemmas.Bool.{eqb-true, eqb-false, ltb-true, le-ltb}
use Rattle.payload.specs.declared.Payload.{Payload}
use Rattle.payload.specs.Order.{rank, Rising}
use Rattle.payload.proofs.Orders.{far}
use Rattle.payload.proofs.Laws.{inserted_rises}
use Rattle.listing.specs.Texts.{line_text, lines_text, head_text, list_text}
use Rattle.listing_reader.specs.declared.Why.{Why}
use Rattle.listing_reader.specs.declared.Why.TheVariants.{Head, Room, Surplus}
use Rattle.listing_reader.specs.declared.BadLine.{BadLine}
use Rattle.listing_reader.specs.Lines.{head_of, comes_after, next_of, Reading, wrong, go_on, lines_of, no_head, from_head}
use Rattle.listing_reader.specs.Laws.{Good, Whole, NoLine, NoHead, Told, Tells, ReadsBack, ReadsOnly}
use Rattle.listing_reader.proofs.Orders.{after_from, inserted_last}
use Rattle.listing_reader.proofs.Lines.{head_reads, head_inv, next_reads, Line, next_inv}

-- each of these payloads comes after those before it
abbrev Follow : List Payload → List Payload → Type 0
Follow ps [] = Unit {0}
Follow ps (q ∷ qs) = (comes_after ps q ≡ true) × Follow (ps ++ q ∷ []) qs

follows : (ps qs : List Payload) → Rising (ps ++ qs) → Follow ps qs
follows ps [] r = tt
follows ps (q ∷ qs) r =
    let whole : List Payload = ps ++ q ∷ qs in
    let size : length whole ≡ length ps + suc (length qs) = length-append ps (q ∷ qs) in
    let before : (k : ℕ) (d : Payload) → k < length ps → rank (get_or ps k d) < rank q = λ k d l.
    let a : rank (get_or whole k d) < rank (get_or whole (length ps) d) = far whole r k (length ps) d l (omega arith) in
    let b : get_or whole k d ≡ get_or ps k d = get_or_append_left ps (q ∷ qs) d k l in
    let c : get_or whole (length ps) d ≡ q = get_or_at ps q qs d (length ps) refl in
    omega (arith, a, ap rank b, ap rank c) in
    (after_from ps q before, follows (ps ++ q ∷ []) qs (subst (λ (l : List Payload). Rising l) (sym (append_assoc ps (q ∷ []) qs)) r))

-- the lines of good payloads are read as these
lines_read : (ps qs : List Payload) → AllByRecursion Good qs → Follow ps qs → lines_of (length qs) ps (lines_text qs) ≡ (ps ++ qs, Ok tt)
unfolding lines_of
lines_read ps [] g f = ap (λ (l : List Payload). (l, Ok tt)) (sym (append-nil ps))
lines_read ps (q ∷ qs) g f =
    ap (go_on (lines_of (length qs)) ps) (next_reads ps q (lines_text qs) g.0 f.0)
    ∙ lines_read (ps ++ q ∷ []) qs g.1 f.1
    ∙ ap (λ (l : List Payload). (l, Ok tt)) (append_assoc ps (q ∷ []) qs)

pub reads_back : ReadsBack
reads_back room ps g r l k =
    ap (from_head room) (head_reads (length ps) (lines_text ps) k)
    ∙ ap (λ (b : Bool). cond b (no_head Room) (lines_of (length ps) [] (lines_text ps))) (le-ltb room (length ps) l)
    ∙ lines_read [] ps g (follows [] ps r)

-- how the reading of so many lines ends, after these payloads and with this rest
abbrev Ends : ℕ → List Payload → List Payload → List ℕ → Result (Unit {0}) BadLine → Type 0
Ends n ts ps rest (Ok u) = (length ts ≡ n) × (rest ≡ [])
Ends n ts ps rest (Err bad) = (bad.line ≡ length ps + 2) × (((length ts ≡ n) × (rest ≡ [] → ⊥)) ⊎ ((length ts < n) × NoLine ps rest))

record Cut (n : ℕ) (before : List Payload) (s : List ℕ) (r : Reading) : Type 0 where
  more : List Payload
  left : List ℕ
  read : r.0 ≡ before ++ more
  text : s ≡ lines_text more ++ left
  good : AllByRecursion Whole more
  rising : Rising r.0
  ends : Ends n more r.0 left r.1

rising_push : (ps : List Payload) (p : Payload) → Rising ps → comes_after ps p ≡ true → Rising (ps ++ p ∷ [])
rising_push ps p r a = subst (λ (l : List Payload). Rising l) (inserted_last ps p a) (inserted_rises p ps r).rising

ended_cut : (b : Bool) (ps : List Payload) (s : List ℕ) → Rising ps → eqb (length s) 0 ≡ b → Cut 0 ps s (cond b (ps, Ok tt) (wrong ps Surplus))
ended_cut true ps s r e = record { more = []; left = s; read = sym (append-nil ps); text = refl; good = tt; rising = r; ends = (refl, nil_from_length s (eqb-true (length s) 0 e)) }
ended_cut false ps s r e =
    record { more = []; left = s; read = sym (append-nil ps); text = refl; good = tt; rising = r; ends = (refl, inl (refl, λ z. eqb-false (length s) 0 e (ap length z))) }

-- one line more in front
ends_more : (n : ℕ) (p : Payload) (ts ps : List Payload) (rest : List ℕ) (r : Result (Unit {0}) BadLine) → Ends n ts ps rest r → Ends (suc n) (p ∷ ts) ps rest r
ends_more n p ts ps rest (Ok u) e = (ap (λ (k : ℕ). suc k) e.0, e.1)
ends_more n p ts ps rest (Err bad) e = (e.0, elim e.1 [ inl a ↦ inl (ap (λ (k : ℕ). suc k) a.0, a.1) | inr a ↦ inr (omega (arith, a.0), a.1) ])

next_cut : (n : ℕ) (ps : List Payload) (s : List ℕ) (o : Result (Payload × List ℕ) Why) → ((qs : List Payload) (t : List ℕ) → Rising qs → Cut n qs t (lines_of n qs t)) → Rising ps → next_of ps s ≡ o → Cut (suc n) ps s (go_on (lines_of n) ps o)
next_cut n ps s (Err why) ih r e =
    let none : NoLine ps s = λ p u g a z.
    let f : ◌≡◌ {A = Result (Payload × List ℕ) Why} (Ok (p, u)) (Err why) = sym (next_reads ps p u g a) ∙ ap (next_of ps) (sym z) ∙ e in
    let y : ◌≡◌ {A = ℕ} 0 1 = cc in
    omega arith in
    record { more = []; left = s; read = sym (append-nil ps); text = refl; good = tt; rising = r; ends = (refl, inr (omega arith, none)) }
next_cut n ps s (Ok q) ih r e =
    let l : Line ps s q = next_inv ps s q e in
    let c : Cut n (ps ++ q.0 ∷ []) q.1 (lines_of n (ps ++ q.0 ∷ []) q.1) = ih (ps ++ q.0 ∷ []) q.1 (rising_push ps q.0 r l.last) in
    record {
      more = q.0 ∷ c.more;
      left = c.left;
      read = c.read ∙ append_assoc ps (q.0 ∷ []) c.more;
      text = l.text ∙ ap (λ (t : List ℕ). line_text q.0 ++ t) c.text ∙ sym (append_assoc (line_text q.0) (lines_text c.more) c.left);
      good = ((l.lawful_prefix, l.max), c.good);
      rising = c.rising;
      ends = ends_more n q.0 c.more (lines_of n (ps ++ q.0 ∷ []) q.1).0 c.left (lines_of n (ps ++ q.0 ∷ []) q.1).1 c.ends;
    }

lines_cut : (n : ℕ) (ps : List Payload) (s : List ℕ) → Rising ps → Cut n ps s (lines_of n ps s)
unfolding lines_of
lines_cut zero ps s r = ended_cut (eqb (length s) 0) ps s r refl
lines_cut (suc n) ps s r = next_cut n ps s (next_of ps s) (lines_cut n) r refl

rising_empty : Rising []
rising_empty k d l = absurd (omega arith)

-- the whole text by its first line and the rest
whole_told : (room n : ℕ) (s : List ℕ) (ps ts : List Payload) (left : List ℕ) (r : Result (Unit {0}) BadLine) → s ≡ head_text n ++ (lines_text ts ++ left) → ps ≡ ts → Ends n ts ps left r → Told room s ps r
whole_told room n s ps ts left (Ok u) e p f =
    e ∙ ap (λ (t : List ℕ). head_text n ++ (lines_text ts ++ t)) f.1 ∙ ap (λ (t : List ℕ). head_text n ++ t) (append-nil (lines_text ts))
    ∙ ap (λ (k : ℕ). head_text k ++ lines_text ts) (sym f.0) ∙ ap list_text (sym p)
whole_told room n s ps ts left (Err bad) e p f =
    let size : length ps ≡ length ts = ap length p in
    inr record {
      count = n;
      rest = left;
      text = e ∙ ap (λ (l : List Payload). head_text n ++ (lines_text l ++ left)) (sym p);
      line = f.0;
      stuck = elim f.1 [ inl a ↦ inl (size ∙ a.0, a.1) | inr a ↦ inr (omega (arith, size, a.0), a.1) ];
    }

none_tells : (room : ℕ) (s : List ℕ) (why : Why) → NoHead room s → Tells room s (no_head why).0 (no_head why).1
none_tells room s why h = record { rising = rising_empty; whole = tt; told = inl (refl, refl, h) }

room_tells : (b : Bool) (room : ℕ) (s : List ℕ) (h : ℕ × List ℕ) → head_of s ≡ Some h → ltb room h.0 ≡ b → Tells room s (cond b (no_head Room) (lines_of h.0 [] h.1)).0 (cond b (no_head Room) (lines_of h.0 [] h.1)).1
room_tells true room s h e f =
    none_tells room s Room (λ n u l k z.
    let g : Some (n, u) ≡ Some h = sym (head_reads n u l) ∙ ap head_of (sym z) ∙ e in
    let m : n ≡ h.0 = cc in
    omega (arith, ltb-true room h.0 f))
room_tells false room s h e f =
    let c : Cut h.0 [] h.1 (lines_of h.0 [] h.1) = lines_cut h.0 [] h.1 rising_empty in
    record {
      rising = c.rising;
      whole = subst (λ (l : List Payload). AllByRecursion Whole l) (sym c.read) c.good;
      told =
          whole_told room h.0 s (lines_of h.0 [] h.1).0 c.more c.left (lines_of h.0 [] h.1).1
          (head_inv s h e ∙ ap (λ (t : List ℕ). head_text h.0 ++ t) c.text) c.read c.ends;
    }

head_tells : (room : ℕ) (s : List ℕ) (o : Option (ℕ × List ℕ)) → head_of s ≡ o → Tells room s (from_head room o).0 (from_head room o).1
head_tells room s None e =
    none_tells room s Head (λ n u l k z.
    let g : Some (n, u) ≡ None = sym (head_reads n u l) ∙ ap head_of (sym z) ∙ e in
    let y : ◌≡◌ {A = ℕ} 0 1 = cc in
    omega arith)
head_tells room s (Some h) e = room_tells (ltb room h.0) room s h e refl

pub reads_only : ReadsOnly
reads_only room s = head_tells room s (head_of s) refl
