-- What a line of a log says, for a set of calls that it may have: nothing, or a call with its arguments. Assumes nothing.
use Rattle.std.specs.Prelude.{◌≡◌, ℕ, Bool, true, false, cond, List, [], ◌∷◌, ◌++◌, Some, None, Ok, Err, codes, Option, Result, ◌==◌}
use Rattle.std.specs.List.{AllByRecursion}
use Rattle.pieces.specs.Marks.{lacking}
use Rattle.arguments.specs.declared.Known.{Known}
use Rattle.arguments.specs.declared.Why.{Why}
use Rattle.arguments.specs.declared.Why.TheVariants.{CarriageReturn, UnknownCall}
use Rattle.arguments.specs.Words.{words_of, spaced, take_word, ended}
use Rattle.arguments.specs.Arguments.{Said, and_then, written, Lawful}

-- a set of calls: which are known, the call of a first word with the words after it, which calls are lawful, the words that write a call, and the call
-- `element`
pub record CallSet (A : Type 0) : Type 1 where
  pub known : Known
  pub reads : List ℕ → List (List ℕ) → Option (Result (A × List (List ℕ)) Why)
  pub LawfulCall : A → Type 0
  pub call_words : A → List (List ℕ)
  pub element : Said → A

-- what a name reads, where it names a call
abbrev pub named : {A : Type 0} → Known → Option (Result A Why) → Result A Why
named known None = Err (UnknownCall known)
named known (Some r) = r

-- the name of a call and its arguments
abbrev pub call_of : {A : Type 0} → CallSet A → List (List ℕ) → Result (A × List (List ℕ)) Why
call_of set ws = and_then (take_word ws) (λ p. named set.known (set.reads p.0 p.1))

-- a call, and no word after its arguments
abbrev pub whole_of : {A : Type 0} → CallSet A → List (List ℕ) → Result A Why
whole_of set ws = and_then (call_of set ws) (λ p. and_then (ended p.1) (λ _. Ok p.0))

-- an empty line and a comment say nothing
abbrev pub silent : List ℕ → Bool
silent [] = true
silent (c ∷ s) = c == 35

-- a line without its newline
abbrev pub line_of : {A : Type 0} → CallSet A → List ℕ → Result (Option A) Why
line_of set s = cond (silent s) (Ok None) (cond (lacking 13 s) (and_then (whole_of set (words_of s)) (λ c. Ok (Some c))) (Err CarriageReturn))

-- what a line says is lawful
abbrev pub LawfulLine : {A : Type 0} → CallSet A → Option A → Type 0
LawfulLine set None = Unit {0}
LawfulLine set (Some c) = set.LawfulCall c

-- a line that is the words of a call, with single spaces between them
pub record CallLine {A : Type 0} (set : CallSet A) (s : List ℕ) (c : A) : Type 0 where
  pub text : s ≡ spaced (set.call_words c)
  pub lawful : set.LawfulCall c
  pub no_space : AllByRecursion (λ w. lacking 32 w ≡ true) (set.call_words c)
  pub no_return : lacking 13 s ≡ true

-- the answer is a call exactly where the line is that call's text
abbrev pub ReadsCalls : {A : Type 0} → CallSet A → List ℕ → Result (Option A) Why → Type 0
ReadsCalls {A} set s answer = (c : A) → (answer ≡ Ok (Some c) → CallLine set s c) × (CallLine set s c → answer ≡ Ok (Some c))

-- the line `element OCTETS`
pub record ElementLine (s : List ℕ) (a : Said) : Type 0 where
  pub text : s ≡ codes "element" ++ (32 ∷ written a)
  pub lawful : Lawful a
  pub no_space : lacking 32 (written a) ≡ true
  pub no_return : lacking 13 (written a) ≡ true

-- the answer is the call `element OCTETS` exactly where the line is that text
abbrev pub ReadsElements : {A : Type 0} → CallSet A → List ℕ → Result (Option A) Why → Type 0
ReadsElements set s answer =
    (a : Said) → (answer ≡ Ok (Some (set.element a)) → ElementLine s a) × (ElementLine s a → answer ≡ Ok (Some (set.element a)))

-- a set whose calls are what their words read as, and whose calls are no comments
pub record Stands {A : Type 0} (set : CallSet A) : Type 0 where
  pub taken : (name : List ℕ) (ws : List (List ℕ)) (p : A × List (List ℕ)) → set.reads name ws ≡ Some (Ok p) → (name ∷ ws ≡ set.call_words p.0 ++ p.1) × set.LawfulCall p.0
  pub given : (c : A) → set.LawfulCall c → whole_of set (set.call_words c) ≡ Ok c
  pub loud : (c : A) → silent (spaced (set.call_words c)) ≡ false
  pub element_words : (a : Said) → set.call_words (set.element a) ≡ codes "element" ∷ (written a ∷ [])
  pub element_lawful : (a : Said) → (set.LawfulCall (set.element a) → Lawful a) × (Lawful a → set.LawfulCall (set.element a))
