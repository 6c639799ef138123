-- Reading decides the grammar: it answers the element with which the octets begin, and refuses where they begin
-- with none. Assumes nothing.
use Rattle.std.proofs.Common.{◌≡◌, ℕ, ◌+◌, ◌<◌, ◌≤◌, List, [], ◌++◌, length, get_or, take, drop, Ok, Err, Result, sym, refl, ap, ◌∙◌, subst, append_assoc, arith, length-append, length-drop, take-append-drop}
use lib.Seq.{take-append_seam, drop-append_seam, drop-append-add}
use Rattle.std.proofs.lemmas.List.{drop-drop, length-take-le}
use Rattle.std.proofs.lemmas.Bool.Decides.{nat_tests}
use Rattle.fault.specs.declared.Breach.{Breach}
use Rattle.fault.specs.declared.ElementFault.{ElementFault}
use Rattle.content.specs.Tags.{kind_of}
use Rattle.content.specs.Forms.{form_of}
use Rattle.content.specs.Grammar.{ContentOf, Checked}
use Rattle.content.proofs.Decided.{form_checked}
use Rattle.element.specs.declared.Header.{Header}
use Rattle.element.specs.Lengths.{longest, header, encoded}
use Rattle.element.specs.Reading.{measured, read_form, read_at, read_of, Seen, Octets}
use Rattle.element.specs.Grammar.{Begins, InPlace, Parsed}
use Rattle.element.proofs.Headers.{Octetwise, measured-header, measured_fits, measured_small, measured_front}

-- the parts of an element that stands at the front
pub tag_of : (t n : ℕ) (c q : List ℕ) → get_or ((header t n ++ c) ++ q) 0 0 ≡ t
tag_of t n c q = refl

pub content_of : (t : ℕ) (c q : List ℕ) → take (length c) (drop (length (header t (length c))) (encoded t c ++ q)) ≡ c
content_of t c q =
    let h = header t (length c) in
    ap (λ (x : List ℕ). take (length c) (drop (length h) x)) (append_assoc h c q)
    ∙ ap (take (length c)) (drop-append_seam h (c ++ q))
    ∙ take-append_seam c q

pub rest_of : (t : ℕ) (c q : List ℕ) → drop (length (header t (length c)) + length c) (encoded t c ++ q) ≡ q
rest_of t c q =
    let h = header t (length c) in
    ap (λ (x : List ℕ). drop (length h + length c) x) (append_assoc h c q)
    ∙ drop-append-add h (c ++ q) (length c)
    ∙ drop-append_seam c q

pub measured-encoded :
    (t : ℕ) (c q : List ℕ) → length c ≤ longest → measured (encoded t c ++ q) ≡ Ok record { octets = length (header t (length c)); content = length c }
measured-encoded t c q small =
    let h = header t (length c) in
    ap measured (append_assoc h c q) ∙ measured-header t (length c) (c ++ q) small (simp length-append (omega arith))

-- what octets that begin with an element are read as
pub record Found (s : List ℕ) (t : ℕ) (c q : List ℕ) : Type 0 where
  pub head : measured s ≡ Ok record { octets = length (header t (length c)); content = length c }
  pub tag : get_or s 0 0 ≡ t
  pub content : take (length c) (drop (length (header t (length c))) s) ≡ c
  pub rest : drop (length (header t (length c)) + length c) s ≡ q

found_at : (t : ℕ) (c q : List ℕ) → length c ≤ longest → Found (encoded t c ++ q) t c q
found_at t c q small = record { head = measured-encoded t c q small; tag = refl; content = content_of t c q; rest = rest_of t c q }

pub begins_found : (s : List ℕ) (t : ℕ) (c q : List ℕ) → Begins s t c q → Found s t c q
begins_found s t c q g = subst (λ (x : List ℕ). Found x t c q) (sym g.octets) (found_at t c q g.short)

-- the header that is read is the one with which the octets begin
same_header : (h k : Header) (m : Result Header Breach) → m ≡ Ok h → m ≡ Ok k → h ≡ k
same_header h k m p q = cc

formed-here :
    (s : List ℕ) (h : Header) → measured s ≡ Ok h → (t : ℕ) (c q : List ℕ) → Begins s t c q
    → ContentOf (kind_of (get_or s 0 0)) (take h.content (drop h.octets s))
formed-here s h e t c q g =
    let f = begins_found s t c q g in
    let k : Header = record { octets = length (header t (length c)); content = length c } in
    let i : take h.content (drop h.octets s) ≡ c = ap (λ (x : Header). take x.content (drop x.octets s)) (same_header h k _ e f.head) ∙ f.content in
    rw f.tag (rw i g.form)

-- the octets are the header, the content and the rest
joined-again :
    (s : List ℕ) (h : Header) → Octetwise s → measured s ≡ Ok h
    → s ≡ encoded (get_or s 0 0) (take h.content (drop h.octets s)) ++ drop (h.octets + h.content) s
joined-again s h below e =
    let d = drop h.octets s in
    let c = take h.content d in
    let fits = measured_fits s h e in
    let n : length c ≡ h.content = length-take-le h.content d (simp length-drop (omega arith)) in
    let front : take h.octets s ≡ header (get_or s 0 0) (length c) = measured_front s h below e ∙ ap (header (get_or s 0 0)) (sym n) in
    let back : d ≡ c ++ drop (h.octets + h.content) s =
    sym (take-append-drop h.content d) ∙ ap (λ (x : List ℕ). c ++ x) (drop-drop h.content h.octets s) in
    sym (take-append-drop h.octets s)
    ∙ ap (λ (x : List ℕ). x ++ d) front
    ∙ ap (λ (x : List ℕ). header (get_or s 0 0) (length c) ++ x) back
    ∙ sym (append_assoc (header (get_or s 0 0) (length c)) c (drop (h.octets + h.content) s))

in_place :
    (s : List ℕ) (at : ℕ) (h : Header) → Octetwise s → measured s ≡ Ok h
    → InPlace s at
    record { tag = get_or s 0 0; place = at; content = take h.content (drop h.octets s); content_place = at + h.octets }
    record { octets = drop (h.octets + h.content) s; place = at + (h.octets + h.content) }
in_place s at h below e =
    let d = drop h.octets s in
    let c = take h.content d in
    let fits = measured_fits s h e in
    let n : length c ≡ h.content = length-take-le h.content d (simp length-drop (omega arith)) in
    let m : length (take h.octets s) ≡ h.octets = length-take-le h.octets s (omega arith) in
    let front : length (take h.octets s) ≡ length (header (get_or s 0 0) h.content) = ap length (measured_front s h below e) in
    record {
      tag_place = refl;
      content_place = rw n (omega arith);
      rest_place = rw n (omega arith);
      end = simp length-drop (omega arith);
    }

-- a fault is at the tag, and the octets begin with no element
refused-form :
    (s : List ℕ) (at : ℕ) (h : Header) → measured s ≡ Ok h → (f : Result (Unit {0}) Breach)
    → Checked (kind_of (get_or s 0 0)) (take h.content (drop h.octets s)) f → (x : ElementFault) → Err x ≡ read_form s at h f
    → Parsed s at (Err x)
refused-form s at h e (Ok u) k x p = let z : ◌≡◌ {A = ℕ} 0 1 = cc in absurd (omega arith)
refused-form s at h e (Err b) k x p = (cc, λ t c q g. k (formed-here s h e t c q g))

refused-by :
    (s : List ℕ) (at : ℕ) (m : Result Header Breach) → measured s ≡ m → (x : ElementFault) → Err x ≡ read_at s at m → Parsed s at (Err x)
refused-by s at (Ok h) e x p =
    refused-form s at h e _ (form_checked (kind_of (get_or s 0 0)) (take h.content (drop h.octets s))) x p
refused-by s at (Err b) e x p =
    (cc, λ t c q g. (let f = begins_found s t c q g in let h = f.head in let z : ◌≡◌ {A = ℕ} 0 1 = cc in omega arith))

pub parsed_refused : (s : List ℕ) (at : ℕ) (x : ElementFault) → Err x ≡ read_of s at → Parsed s at (Err x)
parsed_refused s at x p = refused-by s at (measured s) refl x p

parsed-form :
    (s : List ℕ) (at : ℕ) (h : Header) → Octetwise s → measured s ≡ Ok h → (f : Result (Unit {0}) Breach)
    → Checked (kind_of (get_or s 0 0)) (take h.content (drop h.octets s)) f → Parsed s at (read_form s at h f)
parsed-form s at h below e (Ok u) k =
    let d = drop h.octets s in
    let fits = measured_fits s h e in
    let small = measured_small s h below e in
    let n : length (take h.content d) ≡ h.content = length-take-le h.content d (simp length-drop (omega arith)) in
    (record { octets = joined-again s h below e; short = rw n small; form = k }, in_place s at h below e)
parsed-form s at h below e (Err b) k = refused-form s at h e (Err b) k _ refl

parsed_by : (s : List ℕ) (at : ℕ) → Octetwise s → (m : Result Header Breach) → measured s ≡ m → Parsed s at (read_at s at m)
parsed_by s at below (Ok h) e = parsed-form s at h below e _ (form_checked (kind_of (get_or s 0 0)) (take h.content (drop h.octets s)))
parsed_by s at below (Err b) e = refused-by s at (Err b) e _ refl

-- what is read is what the grammar has
pub parsed : (s : List ℕ) (at : ℕ) → Octetwise s → Parsed s at (read_of s at)
parsed s at below = parsed_by s at below (measured s) refl

header_some : (s : List ℕ) (h : Header) → measured s ≡ Ok h → (0 < h.octets) × (0 < length s)
header_some s h e = (grind (arith, nat_tests), grind (arith, nat_tests))

abbrev rest_in : Result (Seen × Octets) ElementFault → List ℕ
rest_in (Ok p) = p.1.octets
rest_in (Err x) = []

shorter-form :
    (s : List ℕ) (at : ℕ) (h : Header) → measured s ≡ Ok h → (f : Result (Unit {0}) Breach) (e : Seen) (q : Octets)
    → read_form s at h f ≡ Ok (e, q) → length q.octets < length s
shorter-form s at h m (Ok u) e q p =
    let some = header_some s h m in
    let i : q.octets ≡ drop (h.octets + h.content) s = sym (ap rest_in p) in
    rw i (simp length-drop (omega (arith, some.0, some.1)))
shorter-form s at h m (Err b) e q p = let z : ◌≡◌ {A = ℕ} 0 1 = cc in absurd (omega arith)

shorter-by :
    (s : List ℕ) (at : ℕ) (m : Result Header Breach) → measured s ≡ m → (e : Seen) (q : Octets) → read_at s at m ≡ Ok (e, q) → length q.octets < length s
shorter-by s at (Ok h) m e q p = shorter-form s at h m _ e q p
shorter-by s at (Err b) m e q p = let z : ◌≡◌ {A = ℕ} 0 1 = cc in absurd (omega arith)

-- what follows an element is shorter than the octets that begin with it
pub shorter : (s : List ℕ) (at : ℕ) (e : Seen) (q : Octets) → read_of s at ≡ Ok (e, q) → length q.octets < length s
shorter s at e q p = shorter-by s at (measured s) refl e q p

-- the answer of the reader at each of its three ends
pub answer_header : (s : List ℕ) (at : ℕ) (b : Breach) → Err b ≡ measured s → Err record { breach = b; place = at } ≡ read_of s at
answer_header s at b e = ap (read_at s at) e

form_at : (s : List ℕ) (at : ℕ) (h : Header) (c : List ℕ) → Ok h ≡ measured s → c ≡ take h.content (drop h.octets s)
    → read_form s at h (form_of (kind_of (get_or s 0 0)) c) ≡ read_of s at
form_at s at h c e p = ap (λ (x : List ℕ). read_form s at h (form_of (kind_of (get_or s 0 0)) x)) p ∙ ap (read_at s at) e

pub answer-form :
    (s : List ℕ) (at : ℕ) (h : Header) (c : List ℕ) (b : Breach) → Ok h ≡ measured s → c ≡ take h.content (drop h.octets s)
    → Err b ≡ form_of (kind_of (get_or s 0 0)) c → Err record { breach = b; place = at } ≡ read_of s at
answer-form s at h c b e p f = ap (read_form s at h) f ∙ form_at s at h c e p

pub answer-element :
    (s : List ℕ) (at : ℕ) (h : Header) (c q : List ℕ) → Ok h ≡ measured s → c ≡ take h.content (drop h.octets s)
    → q ≡ drop (h.octets + h.content) s → Ok tt ≡ form_of (kind_of (get_or s 0 0)) c
    → Ok (
      record { tag = get_or s 0 0; place = at; content = c; content_place = at + h.octets },
      record { octets = q; place = at + (h.octets + h.content) },
    ) ≡ read_of s at
answer-element s at h c q e p r f =
    ap (λ (x : List ℕ). Ok (
      record { tag = get_or s 0 0; place = at; content = x; content_place = at + h.octets },
      record { octets = q; place = at + (h.octets + h.content) },
    )) p
    ∙ ap (λ (x : List ℕ). Ok (
      record { tag = get_or s 0 0; place = at; content = take h.content (drop h.octets s); content_place = at + h.octets },
      record { octets = x; place = at + (h.octets + h.content) },
    )) r
    ∙ ap (read_form s at h) f
    ∙ form_at s at h c e p
