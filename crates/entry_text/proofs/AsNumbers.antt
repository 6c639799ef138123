-- The entries of lists of AS numbers: what is written reads back, and what reads was written so. Assumes nothing.
use Rattle.std.proofs.Common.{◌≡◌, ℕ, ◌+◌, ◌<◌, ◌≤◌, ltb, List, ◌++◌, length, Some, Ok, Option, sym, refl, ap, ◌∙◌, subst, inl, inr, arith, length-append}
use Rattle.std.proofs.lemmas.Bool.{cases_eq, eq-eqb, ne_eqb, lt-ltb, ltb-true, cond-true, cond-false}
use Rattle.std.proofs.lemmas.Bool.Decides.{nat_tests}
use Rattle.content.specs.Grammar.{IntegerContent}
use Rattle.content.proofs.Decided.{integer_decides}
use Rattle.element.specs.Lengths.{encoded}
use Rattle.element.specs.Reading.{Seen, Octets, read_of}
use Rattle.element.specs.Grammar.{Begins}
use Rattle.prefixes.specs.Theorems.{Octets as EachOctet}
use Rattle.prefixes.specs.Writing.{octets_of}
use Rattle.prefixes.proofs.Octets.{length_octets_lem}
use Rattle.points.specs.Ranks.{asn_rank, asn_fits}
use Rattle.entries.specs.Addresses.{given, inside}
use Rattle.entries.specs.Numbers.{as_number, ascend, alone, number_pair, number_entry}
use Rattle.entries.specs.Kinds.{asn_of, asn_entry}
use Rattle.entry_text.specs.Texts.{number_size, integer_text, number_text, asn_text}
use Rattle.entry_text.specs.Laws.{EntryLaws}
use Rattle.entry_text.proofs.Elements.{then_ok, ok_same, given_ok, cond_ok, tag_cases, begun, each_content, each_low, each_high, length_short, element_at, read-text}
use Rattle.entry_text.proofs.Pairs.{Half, pair-back, pair_read}
use Rattle.entry_text.proofs.Points.{Said, said-as, NumberLaws, laws}
use Rattle.entry_text.proofs.Numbers.{number_written, written_number}

-- the octets of a number's INTEGER
abbrev pub content : ℕ → List ℕ
content n = octets_of (number_size n) n

size_most : (n : ℕ) → number_size n ≤ 5
size_most n = grind (arith, nat_tests)

pub content_most : (n : ℕ) → length (content n) ≤ 5
content_most n = let e = length_octets_lem (number_size n) n in let s = size_most n in omega arith

pub integer_length : (n : ℕ) → length (integer_text n) ≡ 2 + length (content n)
unfolding integer_text
integer_length n = let s = content_most n in length_short 2 (content n) (omega arith)

pub pair_length : (a z : ℕ) → length (integer_text a ++ integer_text z) ≤ 14
pair_length a z =
    let e = length-append (integer_text a) (integer_text z) in
    let x = integer_length a in
    let y = integer_length z in
    let s = content_most a in
    let t = content_most z in
    omega arith

-- the text of one number, and of several
pub text_one : (a z : ℕ) → a ≡ z → number_text a z ≡ encoded 2 (content a)
unfolding number_text integer_text
text_one a z e = cond-true _ _ _ (eq-eqb a z e)

pub text_more : (a z : ℕ) → (a ≡ z → ⊥) → number_text a z ≡ encoded 48 (integer_text a ++ integer_text z)
unfolding number_text
text_more a z n = cond-false _ _ _ (ne_eqb a z n)

-- ---- what is written reads back

one_back : (a at : ℕ) (q : List ℕ) → a < 4294967296 → read_of (encoded 2 (content a) ++ q) at ≡ Ok (element_at at 2 (content a), record { octets = q; place = at + length (encoded 2 (content a)) })
one_back a at q h = let w = number_written a h in let s = w.short in read-text at 2 (content a) q (omega arith) w.form

one_says : (a z at : ℕ) → a ≡ z → a < 4294967296 → number_entry (element_at at 2 (content a)) ≡ Ok (a, z)
one_says a z at e h =
    ap (λ (o : Option ℕ). alone (given at o)) (number_written a h).value ∙ ap (λ (x : ℕ). Ok (a, x)) e

half : (n : ℕ) → n < 4294967296 → Half 2 as_number as_number ascend as_number (content n) n
half n h = let w = number_written n h in let s = w.short in record { short = omega arith; form = w.form; value = w.value }

pair_says : (a z at : ℕ) → a < z → z < 4294967296 → number_entry (element_at at 48 (integer_text a ++ integer_text z)) ≡ Ok (a, z)
unfolding integer_text
pair_says a z at l h =
    pair-back 2 as_number as_number ascend _ a z (content a) (content z) (half a (omega arith)) (half z h) (λ place. cond-true _ _ _ (lt-ltb a z l))

numbers_back : (a z : ℕ) → a ≤ z → z < 4294967296 → (at : ℕ) (q : List ℕ) → Said 4294967296 number_entry number_text a z at q
numbers_back a z l h at q =
    elim (cases_eq a z) [
      | inl e ↦ said-as 4294967296 number_entry number_text a z at q _ _ (text_one a z e) (one_back a at q (omega arith)) (one_says a z at e (omega arith))
      | inr n ↦ (let m = pair_length a z in let s : a < z = omega arith in
          said-as 4294967296 number_entry number_text a z at q _ _ (text_more a z n) (read-text at 48 (integer_text a ++ integer_text z) q (omega arith) tt) (pair_says a z at s h))
    ]

-- ---- what reads was written so

-- an INTEGER that was read
integer_is : (c : List ℕ) (n : ℕ) → EachOctet c → IntegerContent c → as_number c ≡ Some n → (c ≡ content n) × (n < 4294967296)
integer_is c n o f e = written_number c n o ((integer_decides c).1 f) e

one-was :
    (s c q : List ℕ) (place a z : ℕ) → EachOctet s → Begins s 2 c q → alone (given place (as_number c)) ≡ Ok (a, z)
    → (s ≡ number_text a z ++ q) × (a ≤ z) × (z < 4294967296)
one-was s c q place a z o b e =
    let h = then_ok (given place (as_number c)) _ (a, z) e in
    let n = h.0 in
    let p = ok_same _ _ h.2 in
    let ea : n ≡ a = ap (λ (x : ℕ × ℕ). x.0) p in
    let ez : n ≡ z = ap (λ (x : ℕ × ℕ). x.1) p in
    let i = integer_is c n (each_content s 2 c q o b) b.form (given_ok _ _ _ h.1) in
    let small = i.1 in (
      b.octets ∙ ap (λ (x : List ℕ). encoded 2 x ++ q) (i.0 ∙ ap content ea) ∙ ap (λ (x : List ℕ). x ++ q) (sym (text_one a z (sym ea ∙ ez))),
      omega arith,
      omega arith,
    )

pair-was :
    (s c q : List ℕ) (place a z : ℕ) → EachOctet s → Begins s 48 c q → number_pair record { octets = c; place = place } ≡ Ok (a, z)
    → (s ≡ number_text a z ++ q) × (a ≤ z) × (z < 4294967296)
unfolding integer_text
pair-was s c q place a z o b e =
    let oc = each_content s 48 c q o b in
    let r = pair_read 2 as_number as_number ascend record { octets = c; place = place } a z oc e in
    let l : a < z = ltb-true a z (cond_ok (ltb a z) tt tt _ r.passed).0 in
    let ol = subst EachOctet r.octets oc in
    let i = integer_is r.low a (each_low 2 r.low r.high ol) r.first.form r.first.value in
    let j = integer_is r.high z (each_high 2 r.low r.high ol) r.second.form r.second.value in
    let small = j.1 in
    let ne : a ≡ z → ⊥ = λ x. omega arith in (
      b.octets ∙ ap (λ (x : List ℕ). encoded 48 x ++ q) (r.octets ∙ ap (λ (x : List ℕ). encoded 2 x ++ encoded 2 r.high) i.0 ∙ ap (λ (x : List ℕ). encoded 2 (content a) ++ encoded 2 x) j.0)
          ∙ ap (λ (x : List ℕ). x ++ q) (sym (text_more a z ne)),
      omega arith,
      small,
    )

numbers-one :
    (s : List ℕ) (at : ℕ) (e : Seen) (q : Octets) (a z : ℕ) → EachOctet s → read_of s at ≡ Ok (e, q) → number_entry e ≡ Ok (a, z)
    → (s ≡ number_text a z ++ q.octets) × (a ≤ z) × (z < 4294967296)
numbers-one s at e q a z o p h =
    let b = begun s at e q o p in
    elim (tag_cases e.tag 2 48 (alone (given e.place (as_number e.content))) (number_pair (inside e)) _ (a, z) h) [
      | inl i ↦ one-was s e.content q.octets e.place a z o (subst (λ (t : ℕ). Begins s t e.content q.octets) i.0 b) i.1
      | inr i ↦ pair-was s e.content q.octets e.content_place a z o (subst (λ (t : ℕ). Begins s t e.content q.octets) i.0 b) i.1
    ]

text_some : (a z : ℕ) → 0 < length (number_text a z)
text_some a z =
    elim (cases_eq a z) [
      | inl e ↦ (let i = ap length (text_one a z e) in omega arith)
      | inr n ↦ (let i = ap length (text_more a z n) in omega arith)
    ]

text_short : (a z : ℕ) → length (number_text a z) ≤ 40
text_short a z =
    elim (cases_eq a z) [
      | inl e ↦ (let i = ap length (text_one a z e) in let m = content_most a in let j = length_short 2 (content a) (omega arith) in omega arith)
      | inr n ↦ (let i = ap length (text_more a z n) in let m = pair_length a z in let j = length_short 48 (integer_text a ++ integer_text z) (omega arith) in omega arith)
    ]

number_laws : NumberLaws 4294967296 number_entry number_text
number_laws = record { reads_back = numbers_back; one_encoding = numbers-one; some = text_some; short = text_short }

pub asn_laws : EntryLaws asn_rank asn_fits asn_entry asn_text
asn_laws = laws 4294967296 number_entry number_text asn_rank asn_fits asn_of number_laws
    record { point_rank = λ x h. refl; rank_point = λ n h. refl; point_fits = λ n h. h; below = λ x h. h }
