-- The steps of the loop over the lines of a text. Assumes nothing.
use Rattle.std.proofs.Common.{◌≡◌, ℕ, suc, ◌+◌, ◌-◌, ◌<◌, ◌≤◌, Bool, cond, List, [], ◌∷◌, ◌++◌, length, drop, Ok, Err, sym, refl, ap, ◌∙◌, arith}
use Rattle.std.proofs.lemmas.List.{length_push, drop-drop}
use Rattle.std.proofs.lemmas.Bool.{eq-eqb, ne_eqb}
use Rattle.payload.specs.declared.Payload.{Payload}
use Rattle.payload.specs.declared.list.PayloadList.{PayloadList}
use Rattle.payload.specs.Lists.{held, room}
use Rattle.listing_reader.specs.declared.Why.{Why}
use Rattle.listing_reader.specs.declared.Why.TheVariants.{Surplus}
use Rattle.listing_reader.specs.Lines.{next_of, Added, wrong, go_on, ended, lines_of}

pub lines_next : (n i : ℕ) (ps : List Payload) (s : List ℕ) (q : Payload × List ℕ) → i < n → Ok q ≡ next_of ps s → lines_of (n - i) ps s ≡ lines_of (n - (i + 1)) (ps ++ q.0 ∷ []) q.1
unfolding lines_of
lines_next n i ps s q l e =
    let m : n - i ≡ suc (n - (i + 1)) = omega arith in
    ap (λ (k : ℕ). lines_of k ps s) m ∙ ap (go_on (lines_of (n - (i + 1))) ps) (sym e)

pub lines_stop : (n i : ℕ) (ps : List Payload) (s : List ℕ) (why : Why) → i < n → Err why ≡ next_of ps s → lines_of (n - i) ps s ≡ wrong ps why
unfolding lines_of
lines_stop n i ps s why l e =
    let m : n - i ≡ suc (n - (i + 1)) = omega arith in
    ap (λ (k : ℕ). lines_of k ps s) m ∙ ap (go_on (lines_of (n - (i + 1))) ps) (sym e)

pub lines_end : (n i : ℕ) (ps : List Payload) (s : List ℕ) → n ≤ i → lines_of (n - i) ps s ≡ ended ps s
unfolding lines_of
lines_end n i ps s l = let m : n - i ≡ 0 = omega arith in ap (λ (k : ℕ). lines_of k ps s) m

-- what the loop has read, and what is left of the text, together are the whole
pub record Halfway (n i : ℕ) (start list : PayloadList) (s whole : List ℕ) : Type 0 where
  pub lines : lines_of (n - i) (held list) s ≡ lines_of n [] whole
  pub count : length (held list) ≡ i
  pub same_room : room list ≡ room start
  pub rest : drop i list.entries.now ≡ drop i start.entries.now

pub halfway_none : (n : ℕ) (list : PayloadList) (s : List ℕ) → held list ≡ [] → Halfway n 0 list list s s
halfway_none n list s e =
    let m : n - 0 ≡ n = omega arith in
    record { lines = ap (λ (k : ℕ). lines_of k (held list) s) m ∙ ap (λ (ps : List Payload). lines_of n ps s) e; count = ap length e; same_room = refl; rest = refl }

pub halfway_more : (n i : ℕ) (start list after : PayloadList) (s whole : List ℕ) (q : Payload × List ℕ) → i < n → Halfway n i start list s whole → Ok q ≡ next_of (held list) s → Added q.0 list after → Halfway n (i + 1) start after q.1 whole
halfway_more n i start list after s whole q l h e a =
    let size : length (held after) ≡ i + 1 = ap length a.payloads ∙ length_push (held list) q.0 ∙ ap (λ (k : ℕ). k + 1) h.count in
    record {
      lines = ap (λ (ps : List Payload). lines_of (n - (i + 1)) ps q.1) a.payloads ∙ sym (lines_next n i (held list) s q l e) ∙ h.lines;
      count = size;
      same_room = a.same_room ∙ h.same_room;
      rest =
          ap (λ (k : ℕ). drop k after.entries.now) (sym size) ∙ a.rest ∙ ap (λ (k : ℕ). drop k list.entries.now) size
          ∙ sym (drop-drop 1 i list.entries.now) ∙ ap (drop 1) h.rest ∙ drop-drop 1 i start.entries.now;
    }

-- the memory past the list
pub halfway_rest : (n i : ℕ) (start list : PayloadList) (s whole : List ℕ) → Halfway n i start list s whole → drop (length (held list)) list.entries.now ≡ drop (length (held list)) start.entries.now
halfway_rest n i start list s whole h =
    ap (λ (k : ℕ). drop k list.entries.now) h.count ∙ h.rest ∙ ap (λ (k : ℕ). drop k start.entries.now) (sym h.count)

pub halfway_stop : (n i : ℕ) (start list : PayloadList) (s whole : List ℕ) (why : Why) → i < n → Halfway n i start list s whole → Err why ≡ next_of (held list) s → (held list, Err record { line = i + 2; why = why }) ≡ lines_of n [] whole
halfway_stop n i start list s whole why l h e =
    ap (λ (k : ℕ). (held list, Err record { line = k + 2; why = why })) (sym h.count) ∙ sym (lines_stop n i (held list) s why l e) ∙ h.lines

pub halfway_end : (n i : ℕ) (start list : PayloadList) (s whole : List ℕ) → n ≤ i → Halfway n i start list s whole → length s ≡ 0 → (held list, Ok tt) ≡ lines_of n [] whole
halfway_end n i start list s whole l h e =
    sym (ap (λ (b : Bool). cond b (held list, Ok tt) (wrong (held list) Surplus)) (eq-eqb (length s) 0 e)) ∙ sym (lines_end n i (held list) s l) ∙ h.lines

pub halfway_surplus : (n i : ℕ) (start list : PayloadList) (s whole : List ℕ) → n ≤ i → i ≤ n → Halfway n i start list s whole → (length s ≡ 0 → ⊥) → (held list, Err record { line = n + 2; why = Surplus }) ≡ lines_of n [] whole
halfway_surplus n i start list s whole l k h e =
    let m : n ≡ length (held list) = omega (arith, h.count) in
    ap (λ (x : ℕ). (held list, Err record { line = x + 2; why = Surplus })) m
    ∙ sym (ap (λ (b : Bool). cond b (held list, Ok tt) (wrong (held list) Surplus)) (ne_eqb (length s) 0 e)) ∙ sym (lines_end n i (held list) s l) ∙ h.lines
