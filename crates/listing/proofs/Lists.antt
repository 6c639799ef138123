-- The text of a list, measured and written line by line. Assumes nothing.
use Rattle.std.proofs.Common.{◌≡◌, ℕ, suc, ◌+◌, ◌-◌, ◌<◌, ◌≤◌, ltb, List, [], ◌∷◌, ◌++◌, length, get_or, take, drop, set, Ok, Err, sym, refl, ap, ◌∙◌, arith}
use lib.Seq.{sets, sets-eq, length-sets}
use Rattle.fault.specs.declared.Rule.TheVariants.{Area}
use Rattle.std.proofs.lemmas.List.{append-nil, length-append, length-take-le, set-append_right, take-append-drop, at_drop_more, at_drop_all, drop_all, length-drop, take_rest}
use borrow.Rule.Slice.PartMut.{put_mid}
use Rattle.std.proofs.lemmas.Bool.{lt-ltb, le-ltb, cond-true, cond-false}
use Rattle.payload.specs.declared.Payload.{Payload}
use Rattle.listing.specs.Texts.{line_text, lines_text, head_text, list_text}
use Rattle.listing.specs.Writing.{room_for, Written}
use Rattle.listing.proofs.Writes.{sets_append}

room_short : (text : List ℕ) (room : ℕ) → room < length text → Err Area ≡ room_for text room
room_short text room l = sym (cond-true (ltb room (length text)) (Err Area) (Ok (length text)) (lt-ltb room (length text) l))

room_long : (text : List ℕ) (room n : ℕ) → length text ≤ room → n ≡ length text → Ok n ≡ room_for text room
room_long text room n l e =
    ap (λ (m : ℕ). Ok m) e ∙ sym (cond-false (ltb room (length text)) (Err Area) (Ok (length text)) (le-ltb room (length text) l))

-- what is left to write, one payload on
lines_at : (xs : List Payload) (i : ℕ) (z : Payload) → i < length xs → length (lines_text (drop i xs)) ≡ length (line_text (get_or xs i z)) + length (lines_text (drop (i + 1) xs))
lines_at xs i z l = ap length (at_drop_more lines_text xs i z l) ∙ length-append (line_text (get_or xs i z)) (lines_text (drop (i + 1) xs))

lines_end : (xs : List Payload) (i : ℕ) → length xs ≤ i → length (lines_text (drop i xs)) ≡ 0
lines_end xs i l = ap length (at_drop_all lines_text xs i l)

list_long : (xs : List Payload) → length (list_text xs) ≡ length (head_text (length xs)) + length (lines_text xs)
list_long xs = length-append (head_text (length xs)) (lines_text xs)

-- the loop that measures: the room is what is left and what was counted
abbrev pub Counted : List Payload → ℕ → ℕ → ℕ → Type 0
Counted xs room left i = (room + length (lines_text (drop i xs)) ≡ left + length (list_text xs)) × (left ≤ room)

pub count_short : (xs : List Payload) (room head : ℕ) → head ≡ length (head_text (length xs)) → room < head → Err Area ≡ room_for (list_text xs) room
count_short xs room head e l = room_short (list_text xs) room (omega (arith, list_long xs))

pub count_none : (xs : List Payload) (room head : ℕ) → head ≡ length (head_text (length xs)) → head ≤ room → Counted xs room (room - head) 0
count_none xs room head e l = (omega (arith, list_long xs), omega arith)

pub count_over : (xs : List Payload) (room left i size : ℕ) (z : Payload) → i < length xs → size ≡ length (line_text (get_or xs i z)) → Counted xs room left i → left < size → Err Area ≡ room_for (list_text xs) room
count_over xs room left i size z l e inv m = room_short (list_text xs) room (omega (arith, lines_at xs i z l, inv.0))

pub count_more : (xs : List Payload) (room left i size : ℕ) (z : Payload) → i < length xs → size ≡ length (line_text (get_or xs i z)) → Counted xs room left i → size ≤ left → Counted xs room (left - size) (i + 1)
count_more xs room left i size z l e inv m = (omega (arith, lines_at xs i z l, inv.0), omega (arith, inv.1))

pub count_all : (xs : List Payload) (room left i : ℕ) → length xs ≤ i → Counted xs room left i → Ok (room - left) ≡ room_for (list_text xs) room
count_all xs room left i l inv =
    room_long (list_text xs) room (room - left) (omega (arith, lines_end xs i l, inv.0)) (omega (arith, lines_end xs i l, inv.0, inv.1))

-- a text written into the back of an area
sets_back : (p q s : List ℕ) (i : ℕ) → sets (p ++ q) (length p + i) s ≡ p ++ sets q i s
sets_back p q [] i = refl
sets_back p q (c ∷ s) i =
    let e : (length p + i) - length p ≡ i = omega arith in
    let f : suc (length p + i) ≡ length p + suc i = omega arith in
    ap (λ (l : List ℕ). sets l (suc (length p + i)) s) (set-append_right p q (length p) (length p + i) c refl (omega arith) ∙ ap (λ (n : ℕ). p ++ set q n c) e)
    ∙ ap (λ (n : ℕ). sets (p ++ set q i c) n s) f ∙ sets_back p (set q i c) s (suc i)

pub part_set : (area new s : List ℕ) (at : ℕ) → at ≤ length area → new ≡ sets (drop at area) 0 s → take at area ++ new ≡ sets area at s
part_set area new s at l e =
    let long : length (take at area) ≡ at = length-take-le at area l in
    let f : length (take at area) + 0 ≡ at = omega arith in
    ap (λ (t : List ℕ). take at area ++ t) e
    ∙ sym (sets_back (take at area) (drop at area) s 0)
    ∙ ap (λ (n : ℕ). sets (take at area ++ drop at area) n s) f
    ∙ ap (λ (t : List ℕ). sets t at s) (take-append-drop at area)

-- the loop that writes: the lines that are left, written from here on, make the whole text
abbrev pub Printed : List Payload → List ℕ → ℕ → List ℕ → ℕ → ℕ → Type 0
Printed xs area₀ at₀ area at i = (sets area at (lines_text (drop i xs)) ≡ sets area₀ at₀ (lines_text xs)) × (at + length (lines_text (drop i xs)) ≤ length area)

pub print_none : (xs : List Payload) (a area : List ℕ) (at : ℕ) → length (list_text xs) ≤ length a → Written (head_text (length xs)) a 0 area at → Printed xs area at area at 0
print_none xs a area at l w =
    let long : length area ≡ length a = ap length w.octets ∙ length-sets a 0 (head_text (length xs)) in
    let p : at ≡ 0 + length (head_text (length xs)) = w.place in
    (refl, omega (arith, list_long xs))

pub print_fits : (xs : List Payload) (area₀ area : List ℕ) (at₀ at i r : ℕ) (z : Payload) → i < length xs → Printed xs area₀ at₀ area at i → r ≡ 0 + length (line_text (get_or xs i z)) → at + r ≤ length area
print_fits xs area₀ area at₀ at i r z l inv e = omega (arith, lines_at xs i z l, inv.1)

pub print_more : (xs : List Payload) (area₀ area after : List ℕ) (at₀ at i r : ℕ) (z : Payload) → i < length xs → Printed xs area₀ at₀ area at i → after ≡ sets area at (line_text (get_or xs i z)) → r ≡ 0 + length (line_text (get_or xs i z)) → Printed xs area₀ at₀ after (at + r) (i + 1)
print_more xs area₀ area after at₀ at i r z l inv e f =
    let line : List ℕ = line_text (get_or xs i z) in
    let rest : List ℕ = lines_text (drop (i + 1) xs) in
    let place : at + r ≡ at + length line = omega arith in
    let long : length after ≡ length area = ap length e ∙ length-sets area at line in (
      ap (λ (t : List ℕ). sets t (at + r) rest) e ∙ ap (λ (n : ℕ). sets (sets area at line) n rest) place ∙ sets_append line rest area at
          ∙ ap (λ (t : List ℕ). sets area at t) (sym (at_drop_more lines_text xs i z l)) ∙ inv.0,
      omega (arith, lines_at xs i z l, inv.1),
    )

pub print_all : (xs : List Payload) (a area₀ area : List ℕ) (at₀ at i : ℕ) → length xs ≤ i → length (list_text xs) ≤ length a → Written (head_text (length xs)) a 0 area₀ at₀ → Printed xs area₀ at₀ area at i → area ≡ list_text xs ++ drop (length (list_text xs)) a
print_all xs a area₀ area at₀ at i l room w inv =
    let p : at₀ ≡ 0 + length (head_text (length xs)) = w.place in
    let text : List ℕ = list_text xs in
    let e : 0 + length text ≡ length text = omega arith in
    let whole : sets a 0 text ≡ take 0 a ++ text ++ drop (0 + length text) a = sets-eq text a 0 (omega arith) in
    sym (ap (λ (t : List ℕ). sets area at t) (at_drop_all lines_text xs i l)) ∙ inv.0
    ∙ ap (λ (t : List ℕ). sets t at₀ (lines_text xs)) w.octets ∙ ap (λ (n : ℕ). sets (sets a 0 (head_text (length xs))) n (lines_text xs)) p
    ∙ sets_append (head_text (length xs)) (lines_text xs) a 0 ∙ whole ∙ ap (λ (n : ℕ). text ++ drop n a) e

-- what a write to the back of an area leaves of the area
pub part_put : (area new s : List ℕ) (at r : ℕ) → at ≤ length area → Written s (take (length area - at) (drop at area)) 0 new r → put_mid at (length area - at) area new ≡ sets area at s
part_put area new s at r l w =
    let none : drop (length area - at) (drop at area) ≡ [] = drop_all (length area - at) (drop at area) (omega (arith, length-drop at area)) in
    ap (λ (t : List ℕ). take at area ++ (new ++ t)) none ∙ ap (λ (t : List ℕ). take at area ++ t) (append-nil new)
    ∙ part_set area new s at l (w.octets ∙ ap (λ (t : List ℕ). sets t 0 s) (take_rest area at))
