-- A line says a call exactly where it is that call's text, for every set of calls that stands. Assumes nothing.
use Rattle.std.proofs.Common.{◌≡◌, ℕ, Bool, true, false, cond, not, ◌&&◌, ◌||◌, eqb, List, [], ◌∷◌, ◌++◌, Some, None, Ok, Err, codes, Option, Result, sym, refl, ap, ◌∙◌, subst, inl, inr, arith}
use Rattle.std.specs.List.{AllByRecursion, list_any}
use Rattle.std.proofs.lemmas.List.{append-nil}
use Rattle.std.proofs.lemmas.Bool.{cases_Bool, not-true, not-false}
use Rattle.pieces.specs.Marks.{lacking}
use Rattle.pieces.proofs.Splits.{joined_pieces, markless_pieces, pieces_joined}
use Rattle.arguments.specs.declared.Known.{Known}
use Rattle.arguments.specs.declared.Why.{Why}
use Rattle.arguments.specs.declared.Why.TheVariants.{CarriageReturn, EmptyWord, ExtraWord, MissingWord, UnknownCall}
use Rattle.arguments.specs.Words.{words_of, spaced, take_word, ended}
use Rattle.arguments.specs.Arguments.{Said, and_then, written, Lawful}
use Rattle.arguments.proofs.Written.{clash, then_inv, WordsLeft, word_inv}
use Rattle.log_lines.specs.Sets.{CallSet, named, call_of, whole_of, silent, line_of, LawfulLine, CallLine, ReadsCalls, ElementLine, ReadsElements, Stands}

-- the words of a call were read
named_inv : {A : Type 0} (known : Known) (o : Option (Result A Why)) (a : A) → named known o ≡ Ok a → o ≡ Some (Ok a)
named_inv known None a e = clash a (UnknownCall known) e
named_inv known (Some r) a e = ap Some e

call_inv : {A : Type 0} (set : CallSet A) → Stands set → (ws : WordsLeft) (p : A × WordsLeft) → call_of set ws ≡ Ok p → (ws ≡ set.call_words p.0 ++ p.1) × set.LawfulCall p.0
call_inv set h ws p e =
    let t = then_inv (take_word ws) (λ q. named set.known (set.reads q.0 q.1)) p e in
    let f = h.taken t.0.0 t.0.1 p (named_inv set.known (set.reads t.0.0 t.0.1) p t.2) in
    (word_inv ws t.0 t.1 ∙ f.0, f.1)

ended_inv : (ws : WordsLeft) (u : Unit {0}) → ended ws ≡ Ok u → ws ≡ []
ended_inv [] u h = refl
ended_inv ([] ∷ ws) u h = clash u EmptyWord h
ended_inv ((c ∷ w) ∷ ws) u h = clash u ExtraWord h

abbrev pub with_end : {A : Type 0} → Result (A × WordsLeft) Why → Result A Why
with_end r = and_then r (λ p. and_then (ended p.1) (λ _. Ok p.0))

whole_inv : {A : Type 0} (set : CallSet A) → Stands set → (ws : WordsLeft) (c : A) → whole_of set ws ≡ Ok c → (ws ≡ set.call_words c) × set.LawfulCall c
whole_inv {A} set h ws c e =
    let t = then_inv (call_of set ws) (λ p. and_then (ended p.1) (λ _. Ok p.0)) c e in
    let u = then_inv (ended t.0.1) (λ _. Ok t.0.0) c t.2 in
    let g : Ok t.0.0 ≡ Ok c = u.2 in
    let same : t.0.0 ≡ c = cc in
    let f : (ws ≡ set.call_words t.0.0 ++ t.0.1) × set.LawfulCall t.0.0 = call_inv set h ws t.0 t.1 in
    subst (λ (x : A). (ws ≡ set.call_words x) × set.LawfulCall x) same
    (f.0 ∙ ap (λ (l : WordsLeft). set.call_words t.0.0 ++ l) (ended_inv t.0.1 u.0 u.1) ∙ append-nil (set.call_words t.0.0), f.1)

-- words that are read as a call, with single spaces between them, are read as these words
words_call : {A : Type 0} (set : CallSet A) (ws : WordsLeft) (c : A) → whole_of set ws ≡ Ok c → AllByRecursion (λ w. lacking 32 w ≡ true) ws → words_of (spaced ws) ≡ ws
words_call set [] c e h = clash c MissingWord e
words_call set (w ∷ ws) c e h = pieces_joined 32 w ws h

-- a line that is the call
abbrev loud : {A : Type 0} → CallSet A → List ℕ → Result (Option A) Why
loud set s = cond (lacking 13 s) (and_then (whole_of set (words_of s)) (λ c. Ok (Some c))) (Err CarriageReturn)

called : {A : Type 0} (r : Result A Why) (c : A) → and_then r (λ x. Ok (Some x)) ≡ Ok (Some c) → r ≡ Ok c
called (Ok x) c h = cc
called (Err why) c h = clash (Some c) why h

line_said : {A : Type 0} (set : CallSet A) (s : List ℕ) (c : A) → line_of set s ≡ Ok (Some c) → (lacking 13 s ≡ true) × (whole_of set (words_of s) ≡ Ok c)
line_said {A} set s c h = elim (cases_Bool (silent s)) [
  | inl e ↦
      let f : ◌≡◌ {A = Result (Option A) Why} (Ok None) (Ok (Some c)) = sym (ap (λ (b : Bool). cond {A = Result (Option A) Why} b (Ok None) (loud set s)) e) ∙ h in
      let z : ◌≡◌ {A = ℕ} 0 1 = cc in
      absurd (omega arith)
  | inr e ↦
      let f : loud set s ≡ Ok (Some c) = sym (ap (λ (b : Bool). cond {A = Result (Option A) Why} b (Ok None) (loud set s)) e) ∙ h in
      let given : Result (Option A) Why = and_then (whole_of set (words_of s)) (λ x. Ok (Some x)) in
      elim (cases_Bool (lacking 13 s)) [
        | inl t ↦ (t, called (whole_of set (words_of s)) c (sym (ap (λ (b : Bool). cond b given (Err CarriageReturn)) t) ∙ f))
        | inr t ↦ clash (Some c) CarriageReturn (sym (ap (λ (b : Bool). cond b given (Err CarriageReturn)) t) ∙ f)
      ]
]

line_inv : {A : Type 0} (set : CallSet A) → Stands set → (s : List ℕ) (c : A) → line_of set s ≡ Ok (Some c) → CallLine set s c
line_inv set h s c e =
    let b : (lacking 13 s ≡ true) × (whole_of set (words_of s) ≡ Ok c) = line_said set s c e in
    let p : (words_of s ≡ set.call_words c) × set.LawfulCall c = whole_inv set h (words_of s) c b.1 in
    record {
      text = sym (joined_pieces 32 s) ∙ ap spaced p.0;
      lawful = p.1;
      no_space = subst (λ (l : WordsLeft). AllByRecursion (λ w. lacking 32 w ≡ true) l) p.0 (markless_pieces 32 s);
      no_return = b.0;
    }

-- the ways of a line
pub said_nothing : {A : Type 0} (set : CallSet A) (s : List ℕ) → true ≡ silent s → Ok None ≡ line_of set s
said_nothing {A} set s e = ap (λ (b : Bool). cond {A = Result (Option A) Why} b (Ok None) (loud set s)) e

said_loud : {A : Type 0} (set : CallSet A) (s : List ℕ) (t : Result (Option A) Why) → false ≡ silent s → t ≡ loud set s → t ≡ line_of set s
said_loud {A} set s t e h = h ∙ ap (λ (b : Bool). cond {A = Result (Option A) Why} b (Ok None) (loud set s)) e

pub said_return : {A : Type 0} (set : CallSet A) (s : List ℕ) → false ≡ silent s → true ≡ not (lacking 13 s) → Err CarriageReturn ≡ line_of set s
said_return {A} set s e h =
    let given : Result (Option A) Why = and_then (whole_of set (words_of s)) (λ c. Ok (Some c)) in
    said_loud set s (Err CarriageReturn) e (ap (λ (b : Bool). cond b given (Err CarriageReturn)) (sym (not-true (lacking 13 s) (sym h))))

pub said_call : {A : Type 0} (set : CallSet A) (s : List ℕ) (r : Result A Why) → false ≡ silent s → false ≡ not (lacking 13 s) → r ≡ whole_of set (words_of s) → and_then r (λ c. Ok (Some c)) ≡ line_of set s
said_call {A} set s r e h w =
    let given : Result (Option A) Why = and_then (whole_of set (words_of s)) (λ c. Ok (Some c)) in
    said_loud set s (and_then r (λ c. Ok (Some c))) e
    (ap (λ (x : Result A Why). and_then {B = Option A} x (λ c. Ok (Some c))) w ∙ ap (λ (b : Bool). cond b given (Err CarriageReturn)) (sym (not-false (lacking 13 s) (sym h))))

line_written : {A : Type 0} (set : CallSet A) → Stands set → (s : List ℕ) (c : A) → CallLine set s c → Ok (Some c) ≡ line_of set s
line_written set h s c e =
    let t : s ≡ spaced (set.call_words c) = e.text in
    let whole : whole_of set (set.call_words c) ≡ Ok c = h.given c e.lawful in
    let ws : words_of s ≡ set.call_words c = ap words_of t ∙ words_call set (set.call_words c) c whole e.no_space in
    said_call set s (Ok c) (sym (h.loud c) ∙ ap silent (sym t)) (sym (ap not e.no_return)) (sym (ap (whole_of set) ws ∙ whole))

pub calls_read : {A : Type 0} (set : CallSet A) → Stands set → (s : List ℕ) (answer : Result (Option A) Why) → answer ≡ line_of set s → ReadsCalls set s answer
calls_read set h s answer e c = (λ f. line_inv set h s c (sym e ∙ f), λ f. e ∙ sym (line_written set h s c f))

-- the line `element OCTETS` is the line of that call
abbrev Spaceless : WordsLeft → Type 0
Spaceless ws = AllByRecursion (λ w. lacking 32 w ≡ true) ws

element_from_call : {A : Type 0} (set : CallSet A) → Stands set → (s : List ℕ) (a : Said) → CallLine set s (set.element a) → ElementLine s a
element_from_call set h s a e =
    let text : s ≡ codes "element" ++ (32 ∷ written a) = e.text ∙ ap spaced (h.element_words a) in
    let words : Spaceless (codes "element" ∷ (written a ∷ [])) = subst Spaceless (h.element_words a) e.no_space in
    record { text = text; lawful = (h.element_lawful a).0 e.lawful; no_space = words.1.0; no_return = sym (ap (lacking 13) text) ∙ e.no_return }

call_from_element : {A : Type 0} (set : CallSet A) → Stands set → (s : List ℕ) (a : Said) → ElementLine s a → CallLine set s (set.element a)
call_from_element set h s a e = record {
  text = e.text ∙ ap spaced (sym (h.element_words a));
  lawful = (h.element_lawful a).1 e.lawful;
  no_space = subst Spaceless (sym (h.element_words a)) (refl, (e.no_space, tt));
  no_return = ap (lacking 13) e.text ∙ e.no_return;
}

pub elements_read : {A : Type 0} (set : CallSet A) → Stands set → (s : List ℕ) (answer : Result (Option A) Why) → answer ≡ line_of set s → ReadsElements set s answer
elements_read set h s answer e a =
    let r = calls_read set h s answer e (set.element a) in
    (λ f. element_from_call set h s a (r.0 f), λ f. r.1 (call_from_element set h s a f))

-- what follows for an answer
pub lawful_read : {A : Type 0} (set : CallSet A) → Stands set → (s : List ℕ) (o : Option A) → Ok o ≡ line_of set s → LawfulLine set o
lawful_read set h s None e = tt
lawful_read set h s (Some c) e = (line_inv set h s c (sym e)).lawful

-- whether a line lacks a character
pub lacking_any : (c : ℕ) (s : List ℕ) → list_any (λ x. eqb x c) s ≡ not (lacking c s)
lacking_any c [] = refl
lacking_any c (x ∷ s) =
    elim (cases_Bool (eqb x c)) [
      | inl e ↦ ap (λ (b : Bool). b || list_any (λ y. eqb y c) s) e ∙ sym (ap (λ (b : Bool). not (not b && lacking c s)) e)
      | inr e ↦ ap (λ (b : Bool). b || list_any (λ y. eqb y c) s) e ∙ lacking_any c s ∙ sym (ap (λ (b : Bool). not (not b && lacking c s)) e)
    ]
