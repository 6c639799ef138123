-- What is written reads back, and an area keeps what stands past it. Assumes nothing.
use Rattle.std.proofs.Common.{◌≡◌, ℕ, ◌+◌, ◌-◌, ◌<◌, ◌≤◌, cond, ltb, List, [], ◌++◌, length, get_or, take, drop, Ok, Err, Result, sym, refl, ap, ◌∙◌, append_assoc, append-nil, arith, length-append}
use lib.Seq.{take-append_seam, drop-append_seam}
use borrow.Rule.Slice.PartMut.{put_mid}
use Rattle.std.proofs.lemmas.List.{drop-drop}
use Rattle.std.proofs.lemmas.Bool.Decides.{nat_tests}
use Rattle.fault.specs.declared.Breach.{Breach}
use Rattle.fault.specs.declared.Rule.{Rule}
use Rattle.fault.specs.declared.Rule.TheVariants.{Form, Area}
use Rattle.content.specs.Tags.{kind_of}
use Rattle.content.specs.declared.Kind.{Kind}
use Rattle.content.specs.Forms.{form_of}
use Rattle.content.specs.Grammar.{ContentOf, Checked}
use Rattle.content.proofs.Decided.{form_checked}
use Rattle.element.specs.declared.Header.{Header}
use Rattle.element.specs.Lengths.{longest, length_octets, header, encoded}
use Rattle.element.specs.Reading.{Seen, Octets, read_of}
use Rattle.element.specs.Grammar.{Begins, OneEncoding}
use Rattle.element.specs.Writing.{room_for, header_written, element_written, ReadsBack}
use Rattle.element.proofs.Parses.{begins_found, answer-element}

pub length_encoded : (t : ℕ) (c : List ℕ) → length (encoded t c) ≡ (1 + length (length_octets (length c))) + length c
length_encoded t c = length-append (header t (length c)) c ∙ omega arith

room_short : (text : List ℕ) (room : ℕ) → room < length text → Err Area ≡ room_for text room
room_short text room h = grind (arith, nat_tests)

room_enough : (text : List ℕ) (room : ℕ) → length text ≤ room → Ok (length text) ≡ room_for text room
room_enough text room h = grind (arith, nat_tests)

past_none : (n : ℕ) (r : Result ℕ Rule) → n ≤ longest → r ≡ cond (ltb longest n) (Err Form) r
past_none n r h = grind (arith, nat_tests)

pub header_short : (t n e room : ℕ) → n ≤ longest → e ≡ 1 + length (length_octets n) → room < e → Err Area ≡ header_written t n room
header_short t n e room small is h = room_short (header t n) room (omega arith) ∙ past_none n _ small

pub header-fits :
    (t n e room : ℕ) → n ≤ longest → e ≡ 1 + length (length_octets n) → e ≤ room → Ok e ≡ header_written t n room
header-fits t n e room small is h =
    let i : e ≡ length (header t n) = omega arith in
    ap Ok i ∙ room_enough (header t n) room (omega arith) ∙ past_none n _ small

pub element-short :
    (t e room : ℕ) (c : List ℕ) → length c ≤ longest → e ≡ (1 + length (length_octets (length c))) + length c → room < e
    → Err Area ≡ element_written t c room
element-short t e room c small is h =
    let i = length_encoded t c in
    room_short (encoded t c) room (omega arith) ∙ past_none (length c) _ small

pub element-fits :
    (t e room : ℕ) (c : List ℕ) → length c ≤ longest → e ≡ (1 + length (length_octets (length c))) + length c → e ≤ room
    → Ok e ≡ element_written t c room
element-fits t e room c small is h =
    let k = length_encoded t c in
    let i : e ≡ length (encoded t c) = omega arith in
    ap Ok i ∙ room_enough (encoded t c) room (omega arith) ∙ past_none (length c) _ small

-- a content of its kind passes the check of its form
passes : (k : Kind) (c : List ℕ) (f : Result (Unit {0}) Breach) → Checked k c f → ContentOf k c → Ok tt ≡ f
passes k c (Ok u) d p = refl
passes k c (Err b) d p = absurd (d p)

-- octets that begin with an element read as that element
pub read-begun :
    (s : List ℕ) (at t : ℕ) (c q : List ℕ) → Begins s t c q
    → read_of s at ≡ Ok (
      record { tag = t; place = at; content = c; content_place = at + length (header t (length c)) },
      record { octets = q; place = at + (length (header t (length c)) + length c) },
    )
read-begun s at t c q g =
    let f = begins_found s t c q g in
    let h : Header = record { octets = length (header t (length c)); content = length c } in
    let k : Ok tt ≡ form_of (kind_of (get_or s 0 0)) c =
    rw f.tag (passes (kind_of t) c (form_of (kind_of t) c) (form_checked (kind_of t) c) g.form) in
    sym (answer-element s at h c q (sym f.head) (sym f.content) (sym f.rest) k)
    ∙ ap (λ (x : ℕ). Ok (
      record { tag = x; place = at; content = c; content_place = at + length (header t (length c)) },
      record { octets = q; place = at + (length (header t (length c)) + length c) },
    )) f.tag

-- an element that stands alone reads back with nothing over
pub reads_back : (s : List ℕ) (t : ℕ) (c : List ℕ) → length c ≤ longest → s ≡ encoded t c → ReadsBack t c s
reads_back s t c small is form at =
    let n : length s ≡ length (header t (length c)) + length c = ap length is ∙ length-append (header t (length c)) c in
    read-begun s at t c [] (record { octets = is ∙ sym (append-nil (encoded t c)); short = small; form = form })
    ∙ ap (λ (x : ℕ). Ok (
      record { tag = t; place = at; content = c; content_place = at + length (header t (length c)) },
      record { octets = []; place = at + x },
    )) (sym n)

-- a header has room where the element has
pub header_room : (t n e room : ℕ) → e ≡ 1 + length (length_octets n) → e ≤ room → length (header t n) ≤ room
header_room t n e room is h = omega arith

-- two texts laid down one after the other
over-laid :
    (head c area : List ℕ)
    → put_mid (length head) (length c) (head ++ drop (length head) area) c ≡ (head ++ c) ++ drop (length (head ++ c)) area
over-laid head c area =
    let r = drop (length head) area in
    let back : drop (length c) (drop (length head) (head ++ r)) ≡ drop (length (head ++ c)) area =
    ap (drop (length c)) (drop-append_seam head r) ∙ drop-drop (length c) (length head) area
    ∙ ap (λ (n : ℕ). drop n area) (sym (length-append head c)) in
    ap (λ (x : List ℕ). x ++ (c ++ drop (length c) (drop (length head) (head ++ r)))) (take-append_seam head r)
    ∙ ap (λ (x : List ℕ). head ++ (c ++ x)) back
    ∙ sym (append_assoc head c (drop (length (head ++ c)) area))

-- a header laid down at the front of an area, and a content laid down after it
pub laid-down :
    (t e : ℕ) (c area laid : List ℕ) → e ≡ 1 + length (length_octets (length c))
    → laid ≡ header t (length c) ++ drop (length (header t (length c))) area
    → put_mid e (e + length c - e) laid c ≡ encoded t c ++ drop (length (encoded t c)) area
laid-down t e c area laid is h =
    let n : e ≡ length (header t (length c)) = omega arith in
    let k : e + length c - e ≡ length c = omega arith in
    ap (λ (x : List ℕ). put_mid e (e + length c - e) x c) h
    ∙ ap (λ (x : ℕ). put_mid e x (header t (length c) ++ drop (length (header t (length c))) area) c) k
    ∙ ap (λ (x : ℕ). put_mid x (length c) (header t (length c) ++ drop (length (header t (length c))) area) c) n
    ∙ over-laid (header t (length c)) c area

-- the text at the front of an area
pub front_of : (text area : List ℕ) (n : ℕ) → n ≡ length text → take n (text ++ drop (length text) area) ≡ text
front_of text area n is = ap (λ (x : ℕ). take x (text ++ drop (length text) area)) is ∙ take-append_seam text (drop (length text) area)

same_ok : {V E : Type 0} (r : Result V E) (x y : V) → r ≡ Ok x → r ≡ Ok y → x ≡ y
same_ok r x y p q = cc

one_element : (s : List ℕ) (t u : ℕ) (c d q r : List ℕ) → Begins s t c q → Begins s u d r → (t ≡ u) × (c ≡ d) × (q ≡ r)
one_element s t u c d q r g k =
    let e = same_ok _ _ _ (read-begun s 0 t c q g) (read-begun s 0 u d r k) in
    (ap (λ (p : Seen × Octets). p.0.tag) e, ap (λ (p : Seen × Octets). p.0.content) e, ap (λ (p : Seen × Octets). p.1.octets) e)

pub one_encoding : OneEncoding
one_encoding = record {
  one_element = one_element;
  one_text = λ s z t c g k. g.octets ∙ sym k.octets;
}
