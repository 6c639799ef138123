-- An argument is taken exactly where the words are its text. Assumes nothing.
use Rattle.std.proofs.Common.{◌≡◌, ℕ, ◌%◌, ◌<◌, Bool, true, false, cond, ◌&&◌, eqb, List, [], ◌∷◌, ◌++◌, length, is_some, Some, None, Ok, Err, codes, decimal, Option, Result, sym, refl, ap, ◌∙◌, subst, inl, inr, arith}
use Rattle.std.specs.Str.{bytes_eq}
use Rattle.std.proofs.lemmas.Fmt.{decimal_nonempty}
use Rattle.std.proofs.lemmas.Bool.{cases_Bool, eqb-false, ne_eqb, and_parts}
use Rattle.std.proofs.lemmas.Slice.Eq.{bytes_eq-Decides}
use Rattle.hex_text.specs.Digits.{unhex, all_digits}
use Rattle.hex_text.proofs.Texts.{reads}
use Rattle.numeral.specs.Numbers.{number_of}
use Rattle.numeral.proofs.Reading.{of_inv, of_decimal}
use Rattle.arguments.specs.declared.Why.{Why}
use Rattle.arguments.specs.declared.Why.TheVariants.{EmptyWord, MissingWord, NoOracle, NoKind, NoForm, NoList, NoNumber, OddDigits, NoDigit, EmptyPath}
use Rattle.arguments.specs.declared.Kind.{Kind}
use Rattle.arguments.specs.declared.Kind.TheVariants as kinds
use Rattle.arguments.specs.declared.Form.{Form}
use Rattle.arguments.specs.declared.Form.TheVariants as forms
use Rattle.arguments.specs.Words.{take_word}
use Rattle.arguments.specs.Arguments.{Said, digits, path, Source, scheme, book, and_then, stripped, digits_of, path_of, sort_of, octets_of, argument_of, source_of, oracle_of, kind_word, form_word, spelling, spelled_next, kind_of, form_of, is_list_of, list_word_of, roomed, area_of, area_words, LawfulArea, written, Lawful, LawfulSource, source_words}
use Rattle.arguments.proofs.Prefixes.{stripped_inv}
use Rattle.arguments.proofs.Taking.{area_some}

-- two answers that differ
pub clash : {A B : Type 0} (x : A) (why : Why) → Err why ≡ Ok x → B
clash x why e = let z : ◌≡◌ {A = ℕ} 0 1 = cc in absurd (omega arith)

-- what `digits_of` and `path_of` take
digits_taken : (d : List ℕ) → is_some (unhex d) ≡ true → digits_of d ≡ Ok (digits d)
digits_taken d h =
    let p : (eqb (length d % 2) 0 ≡ true) × (all_digits d ≡ true) = and_parts (eqb (length d % 2) 0) (all_digits d) (sym (reads d) ∙ h) in
    ap (λ (b : Bool). cond b (cond (all_digits d) (Ok (digits d)) (Err NoDigit)) (Err OddDigits)) p.0
    ∙ ap (λ (b : Bool). cond b (Ok (digits d)) (Err NoDigit)) p.1

digits_inv : (d : List ℕ) (a : Said) → digits_of d ≡ Ok a → (digits d ≡ a) × (is_some (unhex d) ≡ true)
digits_inv d a h = elim (cases_Bool (eqb (length d % 2) 0)) [
  | inl e ↦
      let f : cond (all_digits d) (Ok (digits d)) (Err NoDigit) ≡ Ok a =
      sym (ap (λ (b : Bool). cond b (cond (all_digits d) (Ok (digits d)) (Err NoDigit)) (Err OddDigits)) e) ∙ h in
      elim (cases_Bool (all_digits d)) [
        | inl t ↦
            let g : Ok (digits d) ≡ Ok a = sym (ap (λ (b : Bool). cond b (Ok (digits d)) (Err NoDigit)) t) ∙ f in
            (cc, reads d ∙ ap (λ (b : Bool). b && all_digits d) e ∙ t)
        | inr t ↦ clash a NoDigit (sym (ap (λ (b : Bool). cond b (Ok (digits d)) (Err NoDigit)) t) ∙ f)
      ]
  | inr e ↦ clash a OddDigits (sym (ap (λ (b : Bool). cond b (cond (all_digits d) (Ok (digits d)) (Err NoDigit)) (Err OddDigits)) e) ∙ h)
]

path_taken : (p : List ℕ) → 0 < length p → path_of p ≡ Ok (path p)
path_taken p h = ap (λ (b : Bool). cond b (Err EmptyPath) (Ok (path p))) (ne_eqb (length p) 0 (λ e. omega arith))

path_inv : (p : List ℕ) (a : Said) → path_of p ≡ Ok a → (path p ≡ a) × (0 < length p)
path_inv p a h = elim (cases_Bool (eqb (length p) 0)) [
  | inl e ↦ clash a EmptyPath (sym (ap (λ (b : Bool). cond b (Err EmptyPath) (Ok (path p))) e) ∙ h)
  | inr e ↦
      let g : Ok (path p) ≡ Ok a = sym (ap (λ (b : Bool). cond b (Err EmptyPath) (Ok (path p))) e) ∙ h in
      (cc, omega (arith, eqb-false (length p) 0 e))
]

-- a word that writes octets is read as these, and no other word is
octets_written : (a : Said) → Lawful a → octets_of (written a) ≡ Ok a
octets_written (digits d) h = digits_taken d h
octets_written (path p) h = path_taken p h

sort_inv : (w : List ℕ) (o q : Option (List ℕ)) (a : Said) → stripped (codes "hex:") w ≡ o → stripped (codes "@") w ≡ q → sort_of o q ≡ Ok a → (w ≡ written a) × Lawful a
sort_inv w (Some d) q a f g h =
    let p : (digits d ≡ a) × (is_some (unhex d) ≡ true) = digits_inv d a h in
    subst (λ (x : Said). (w ≡ written x) × Lawful x) p.0 (stripped_inv (codes "hex:") w d f, p.1)
sort_inv w None (Some r) a f g h =
    let p : (path r ≡ a) × (0 < length r) = path_inv r a h in
    subst (λ (x : Said). (w ≡ written x) × Lawful x) p.0 (stripped_inv (codes "@") w r g, p.1)
sort_inv w None None a f g h = let z : ◌≡◌ {A = ℕ} 0 1 = cc in absurd (omega arith)

octets_inv : (w : List ℕ) (a : Said) → octets_of w ≡ Ok a → (w ≡ written a) × Lawful a
octets_inv w a h = sort_inv w (stripped (codes "hex:") w) (stripped (codes "@") w) a refl refl h

-- one step after another gave an answer: each did
pub then_inv : {A B : Type 0} (r : Result A Why) (f : A → Result B Why) (b : B) → and_then r f ≡ Ok b → (a : A) × (r ≡ Ok a) × (f a ≡ Ok b)
then_inv (Ok a) f b h = (a, refl, h)
then_inv (Err why) f b h = clash b why h

-- what an argument took
abbrev pub WordsLeft : Type 0
WordsLeft = List (List ℕ)

pub word_inv : (ws : WordsLeft) (p : List ℕ × WordsLeft) → take_word ws ≡ Ok p → ws ≡ p.0 ∷ p.1
word_inv [] p h = clash p MissingWord h
word_inv ([] ∷ ws) p h = clash p EmptyWord h
word_inv ((c ∷ w) ∷ ws) p h = let e : (c ∷ w, ws) ≡ p = cc in ap (λ (q : List ℕ × WordsLeft). q.0 ∷ q.1) e

abbrev with_argument : WordsLeft → Result Said Why → Result (Said × WordsLeft) Why
with_argument ws o = and_then o (λ a. Ok (a, ws))

pub argument_inv : (ws : WordsLeft) (p : Said × WordsLeft) → argument_of ws ≡ Ok p → (ws ≡ written p.0 ∷ p.1) × Lawful p.0
argument_inv ws p h =
    let t = then_inv (take_word ws) (λ q. with_argument q.1 (octets_of q.0)) p h in
    let w : List ℕ = t.0.0 in
    let rest : WordsLeft = t.0.1 in
    let o = then_inv (octets_of w) (λ a. Ok (a, rest)) p t.2 in
    let g : Ok (o.0, rest) ≡ Ok p = o.2 in
    let e : (o.0, rest) ≡ p = cc in
    let f : (w ≡ written o.0) × Lawful o.0 = octets_inv w o.0 o.1 in
    subst (λ (x : Said × WordsLeft). (ws ≡ written x.0 ∷ x.1) × Lawful x.0) e
    (word_inv ws t.0 t.1 ∙ ap (λ (v : List ℕ). v ∷ rest) f.0, f.1)

pub argument_written : (a : Said) (ws : WordsLeft) → Lawful a → argument_of (written a ∷ ws) ≡ Ok (a, ws)
argument_written (digits d) ws h = ap (with_argument ws) (octets_written (digits d) h)
argument_written (path p) ws h = ap (with_argument ws) (octets_written (path p) h)

-- what an oracle took
source-inv :
    (w : List ℕ) (ws : WordsLeft) (p : Source × WordsLeft) → source_of w ws ≡ Ok p → (w ∷ ws ≡ source_words p.0 ++ p.1) × LawfulSource p.0
source-inv w ws p h =
    let booked : Result (Source × WordsLeft) Why = and_then (argument_of ws) (λ q. Ok (book q.0, q.1)) in
    let other : Result (Source × WordsLeft) Why = cond (bytes_eq w (codes "book")) booked (Err NoOracle) in
    elim (cases_Bool (bytes_eq w (codes "scheme"))) [
      | inl e ↦
          let g : Ok (scheme, ws) ≡ Ok p = sym (ap (λ (b : Bool). cond b (Ok (scheme, ws)) other) e) ∙ h in
          let same : (scheme, ws) ≡ p = cc in
          subst (λ (x : Source × WordsLeft). (w ∷ ws ≡ source_words x.0 ++ x.1) × LawfulSource x.0) same
          (ap (λ (v : List ℕ). v ∷ ws) ((bytes_eq-Decides w (codes "scheme")).0 e), tt)
      | inr e ↦
          let f : other ≡ Ok p = sym (ap (λ (b : Bool). cond b (Ok (scheme, ws)) other) e) ∙ h in
          elim (cases_Bool (bytes_eq w (codes "book"))) [
            | inl t ↦
                let g : booked ≡ Ok p = sym (ap (λ (b : Bool). cond b booked (Err NoOracle)) t) ∙ f in
                let a = then_inv (argument_of ws) (λ q. Ok (book q.0, q.1)) p g in
                let k : Ok (book a.0.0, a.0.1) ≡ Ok p = a.2 in
                let same : (book a.0.0, a.0.1) ≡ p = cc in
                let i : (ws ≡ written a.0.0 ∷ a.0.1) × Lawful a.0.0 = argument_inv ws a.0 a.1 in
                subst (λ (x : Source × WordsLeft). (w ∷ ws ≡ source_words x.0 ++ x.1) × LawfulSource x.0) same
                (ap (λ (v : List ℕ). v ∷ ws) ((bytes_eq-Decides w (codes "book")).0 t) ∙ ap (λ (l : WordsLeft). codes "book" ∷ l) i.0, i.1)
            | inr t ↦ clash p NoOracle (sym (ap (λ (b : Bool). cond b booked (Err NoOracle)) t) ∙ f)
          ]
    ]

pub oracle_inv : (ws : WordsLeft) (p : Source × WordsLeft) → oracle_of ws ≡ Ok p → (ws ≡ source_words p.0 ++ p.1) × LawfulSource p.0
oracle_inv ws p h =
    let t = then_inv (take_word ws) (λ q. source_of q.0 q.1) p h in
    let f = source-inv t.0.0 t.0.1 p t.2 in
    (word_inv ws t.0 t.1 ∙ f.0, f.1)

pub oracle_written : (o : Source) (ws : WordsLeft) → LawfulSource o → oracle_of (source_words o ++ ws) ≡ Ok (o, ws)
oracle_written scheme ws h = refl
oracle_written (book a) ws h = ap (λ (r : Result (Said × WordsLeft) Why). and_then r (λ p. Ok (book p.0, p.1))) (argument_written a ws h)

-- what a word that spells something took
pub spelling_inv : {A : Type 0} (spelt : A → List ℕ) (why : Why) (all : List A) (w : List ℕ) (a : A) → spelling spelt why all w ≡ Ok a → w ≡ spelt a
spelling_inv spelt why [] w a h = clash a why h
spelling_inv {A} spelt why (b ∷ others) w a h = elim (cases_Bool (bytes_eq w (spelt b))) [
  | inl e ↦
      let g : Ok b ≡ Ok a = sym (ap (λ (t : Bool). cond {A = Result A Why} t (Ok b) (spelling spelt why others w)) e) ∙ h in
      let same : b ≡ a = cc in
      (bytes_eq-Decides w (spelt b)).0 e ∙ ap spelt same
  | inr e ↦ spelling_inv spelt why others w a (sym (ap (λ (t : Bool). cond {A = Result A Why} t (Ok b) (spelling spelt why others w)) e) ∙ h)
]

spelled_inv : {A : Type 0} (spelt : A → List ℕ) (why : Why) (all : List A) (ws : WordsLeft) (p : A × WordsLeft) → spelled_next spelt why all ws ≡ Ok p → ws ≡ spelt p.0 ∷ p.1
spelled_inv {A} spelt why all ws p h =
    let t = then_inv (take_word ws) (λ q. and_then {A = A} (spelling spelt why all q.0) (λ a. Ok (a, q.1))) p h in
    let rest : WordsLeft = t.0.1 in
    let o = then_inv (spelling spelt why all t.0.0) (λ a. Ok (a, rest)) p t.2 in
    let g : Ok (o.0, rest) ≡ Ok p = o.2 in
    let e : (o.0, rest) ≡ p = cc in
    word_inv ws t.0 t.1 ∙ ap (λ (w : List ℕ). w ∷ rest) (spelling_inv spelt why all t.0.0 o.0 o.1) ∙ ap (λ (q : A × WordsLeft). spelt q.0 ∷ q.1) e

pub kind_inv : (ws : WordsLeft) (p : Kind × WordsLeft) → kind_of ws ≡ Ok p → ws ≡ kind_word p.0 ∷ p.1
kind_inv ws p h = spelled_inv kind_word NoKind (kinds.V4 ∷ (kinds.V6 ∷ (kinds.Asn ∷ []))) ws p h

pub kind_written : (k : Kind) (ws : WordsLeft) → kind_of (kind_word k ∷ ws) ≡ Ok (k, ws)
kind_written kinds.V4 ws = refl
kind_written kinds.V6 ws = refl
kind_written kinds.Asn ws = refl

pub form_inv : (ws : WordsLeft) (p : Form × WordsLeft) → form_of ws ≡ Ok p → ws ≡ form_word p.0 ∷ p.1
form_inv ws p h = spelled_inv form_word NoForm (forms.Addresses ∷ (forms.Asn ∷ [])) ws p h

pub form_written : (f : Form) (ws : WordsLeft) → form_of (form_word f ∷ ws) ≡ Ok (f, ws)
form_written forms.Addresses ws = refl
form_written forms.Asn ws = refl

-- what a list took
listed_inv : (k : Kind) (w : List ℕ) (rest : WordsLeft) (p : List ℕ × WordsLeft) → cond (is_list_of k w) (Ok (w, rest)) (Err NoList) ≡ Ok p → (w ∷ rest ≡ p.0 ∷ p.1) × (is_list_of k p.0 ≡ true)
listed_inv k w rest p h = elim (cases_Bool (is_list_of k w)) [
  | inl e ↦
      let g : Ok (w, rest) ≡ Ok p = sym (ap (λ (b : Bool). cond {A = Result (List ℕ × WordsLeft) Why} b (Ok (w, rest)) (Err NoList)) e) ∙ h in
      let same : (w, rest) ≡ p = cc in
      subst (λ (q : List ℕ × WordsLeft). (w ∷ rest ≡ q.0 ∷ q.1) × (is_list_of k q.0 ≡ true)) same (refl, e)
  | inr e ↦ clash p NoList (sym (ap (λ (b : Bool). cond {A = Result (List ℕ × WordsLeft) Why} b (Ok (w, rest)) (Err NoList)) e) ∙ h)
]

pub list_inv : (k : Kind) (ws : WordsLeft) (p : List ℕ × WordsLeft) → list_word_of k ws ≡ Ok p → (ws ≡ p.0 ∷ p.1) × (is_list_of k p.0 ≡ true)
list_inv k ws p h =
    let t = then_inv (take_word ws) (λ q. cond (is_list_of k q.0) (Ok (q.0, q.1)) (Err NoList)) p h in
    let f = listed_inv k t.0.0 t.0.1 p t.2 in
    (word_inv ws t.0 t.1 ∙ f.0, f.1)

-- no list is the empty word
no_list : (k : Kind) → is_list_of k [] ≡ false
no_list kinds.V4 = refl
no_list kinds.V6 = refl
no_list kinds.Asn = refl

pub list_written : (k : Kind) (w : List ℕ) (ws : WordsLeft) → is_list_of k w ≡ true → list_word_of k (w ∷ ws) ≡ Ok (w, ws)
list_written k [] ws h = let z : false ≡ true = sym (no_list k) ∙ h in absurd (grind arith)
list_written k (c ∷ w) ws h = ap (λ (b : Bool). cond {A = Result (List ℕ × WordsLeft) Why} b (Ok (c ∷ w, ws)) (Err NoList)) h

-- what the room of an area took
roomed_inv : (o : Option ℕ) (ws : WordsLeft) (p : Option ℕ × WordsLeft) → roomed o ws ≡ Ok p → (n : ℕ) × (o ≡ Some n) × ((Some n, ws) ≡ p)
roomed_inv None ws p h = clash p NoNumber h
roomed_inv (Some n) ws p h = (n, refl, cc)

abbrev Area : WordsLeft → Option ℕ × WordsLeft → Type 0
Area ws p = (ws ≡ area_words p.0 ++ p.1) × LawfulArea p.0

pub area_inv : (ws : WordsLeft) (p : Option ℕ × WordsLeft) → area_of ws ≡ Ok p → Area ws p
area_inv [] p h = let e : (None, []) ≡ p = cc in subst (Area []) e (refl, tt)
area_inv ([] ∷ ws) p h = clash p EmptyWord h
area_inv ((c ∷ w) ∷ ws) p h =
    let t = roomed_inv (number_of 18446744073709551615 (c ∷ w)) ws p h in
    let f = of_inv 18446744073709551615 (c ∷ w) t.0 (omega arith) t.1 in
    subst (Area ((c ∷ w) ∷ ws)) t.2 (ap (λ (v : List ℕ). v ∷ ws) f.0, f.1)

pub area_written : (o : Option ℕ) → LawfulArea o → area_of (area_words o) ≡ Ok (o, [])
area_written None h = refl
area_written (Some n) h =
    let some : length (decimal n) ≡ 0 → ⊥ = λ e. omega (arith, decimal_nonempty n (omega arith)) in
    area_some (decimal n) [] some ∙ ap (λ (x : Option ℕ). roomed x []) (of_decimal 18446744073709551615 n (omega arith) h)
