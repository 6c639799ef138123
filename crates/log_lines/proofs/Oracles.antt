-- The calls on elements and oracles are what their words read as. Assumes nothing.
use Rattle.std.proofs.Common.{◌≡◌, ℕ, Bool, true, false, cond, List, [], ◌∷◌, ◌++◌, Some, None, Ok, codes, Option, Result, sym, refl, ap, ◌∙◌, subst, inl, inr, append_assoc, ◌⊎◌, arith}
use Rattle.std.specs.Str.{bytes_eq}
use Rattle.std.proofs.lemmas.Bool.{cases_Bool}
use Rattle.std.proofs.lemmas.Slice.Eq.{bytes_eq-Decides}
use Rattle.arguments.specs.declared.Why.{Why}
use Rattle.arguments.specs.Words.{spaced}
use Rattle.arguments.specs.Arguments.{Said, Source, scheme, book, and_then, argument_of, oracle_of, written, Lawful, source_words}
use Rattle.arguments.proofs.Written.{then_inv, WordsLeft, argument_inv, argument_written, oracle_inv, oracle_written}
use Rattle.log_lines.specs.Sets.{whole_of, silent, Stands}
use Rattle.log_lines.specs.Oracles.{Asked, element, digest, verdict, element_of, digest_of, verdict_of, asked_of, LawfulAsked, asked_words, oracle_calls}
use Rattle.log_lines.proofs.Lines.{with_end}

-- a word is the name, or the other names are tried
pub picked : {A : Type 0} (name word : List ℕ) (here there o : Option A) → cond (bytes_eq name word) here there ≡ o → ((name ≡ word) × (here ≡ o)) ⊎ (there ≡ o)
picked {A} name word here there o h = elim (cases_Bool (bytes_eq name word)) [
  | inl e ↦ inl ((bytes_eq-Decides name word).0 e, sym (ap (λ (b : Bool). cond {A = Option A} b here there) e) ∙ h)
  | inr e ↦ inr (sym (ap (λ (b : Bool). cond {A = Option A} b here there) e) ∙ h)
]

pub some_inv : {A : Type 0} (x y : A) → Some x ≡ Some y → x ≡ y
some_inv x y h = cc

pub none_is_some : {A B : Type 0} (x : A) → None ≡ Some x → B
none_is_some x h = let z : ◌≡◌ {A = ℕ} 0 1 = cc in absurd (omega arith)

-- what the arguments of each call took
abbrev Took : List ℕ → WordsLeft → Asked × WordsLeft → Type 0
Took name ws p = (name ∷ ws ≡ asked_words p.0 ++ p.1) × LawfulAsked p.0

element_taken : (ws : WordsLeft) (p : Asked × WordsLeft) → element_of ws ≡ Ok p → Took (codes "element") ws p
element_taken ws p h =
    let t = then_inv (argument_of ws) (λ q. Ok (element q.0, q.1)) p h in
    let g : Ok (element t.0.0, t.0.1) ≡ Ok p = t.2 in
    let e : (element t.0.0, t.0.1) ≡ p = cc in
    let f : (ws ≡ written t.0.0 ∷ t.0.1) × Lawful t.0.0 = argument_inv ws t.0 t.1 in
    subst (Took (codes "element") ws) e (ap (λ (l : WordsLeft). codes "element" ∷ l) f.0, f.1)

digest_taken : (ws : WordsLeft) (p : Asked × WordsLeft) → digest_of ws ≡ Ok p → Took (codes "digest") ws p
digest_taken ws p h =
    let t = then_inv (oracle_of ws) (λ o. and_then (argument_of o.1) (λ q. Ok (digest o.0 q.0, q.1))) p h in
    let o : Source = t.0.0 in
    let u = then_inv (argument_of t.0.1) (λ q. Ok (digest o q.0, q.1)) p t.2 in
    let g : Ok (digest o u.0.0, u.0.1) ≡ Ok p = u.2 in
    let e : (digest o u.0.0, u.0.1) ≡ p = cc in
    let i = oracle_inv ws t.0 t.1 in
    let f : (t.0.1 ≡ written u.0.0 ∷ u.0.1) × Lawful u.0.0 = argument_inv t.0.1 u.0 u.1 in
    subst (Took (codes "digest") ws) e
    (ap (λ (l : WordsLeft). codes "digest" ∷ l) (i.0 ∙ ap (λ (l : WordsLeft). source_words o ++ l) f.0 ∙ sym (append_assoc (source_words o) (written u.0.0 ∷ []) u.0.1)), (i.1, f.1))

verdict_taken : (ws : WordsLeft) (p : Asked × WordsLeft) → verdict_of ws ≡ Ok p → Took (codes "verdict") ws p
verdict_taken ws p h =
    let t = then_inv (oracle_of ws) (λ o. and_then (argument_of o.1) (λ k. and_then (argument_of k.1) (λ m. and_then (argument_of m.1) (λ g. Ok (verdict o.0 k.0 m.0 g.0, g.1))))) p h in
    let o : Source = t.0.0 in
    let u = then_inv (argument_of t.0.1) (λ k. and_then (argument_of k.1) (λ m. and_then (argument_of m.1) (λ g. Ok (verdict o k.0 m.0 g.0, g.1)))) p t.2 in
    let k : Said = u.0.0 in
    let v = then_inv (argument_of u.0.1) (λ m. and_then (argument_of m.1) (λ g. Ok (verdict o k m.0 g.0, g.1))) p u.2 in
    let m : Said = v.0.0 in
    let w = then_inv (argument_of v.0.1) (λ g. Ok (verdict o k m g.0, g.1)) p v.2 in
    let y : Ok (verdict o k m w.0.0, w.0.1) ≡ Ok p = w.2 in
    let e : (verdict o k m w.0.0, w.0.1) ≡ p = cc in
    let i = oracle_inv ws t.0 t.1 in
    let a = argument_inv t.0.1 u.0 u.1 in
    let b = argument_inv u.0.1 v.0 v.1 in
    let d = argument_inv v.0.1 w.0 w.1 in
    let all : t.0.1 ≡ written k ∷ (written m ∷ (written w.0.0 ∷ w.0.1)) =
    a.0 ∙ ap (λ (l : WordsLeft). written k ∷ l) (b.0 ∙ ap (λ (l : WordsLeft). written m ∷ l) d.0) in
    subst (Took (codes "verdict") ws) e (
      ap (λ (l : WordsLeft). codes "verdict" ∷ l) (i.0 ∙ ap (λ (l : WordsLeft). source_words o ++ l) all
          ∙ sym (append_assoc (source_words o) (written k ∷ (written m ∷ (written w.0.0 ∷ []))) w.0.1)),
      (i.1, a.1, b.1, d.1),
    )

pub asked_taken : (name : List ℕ) (ws : WordsLeft) (p : Asked × WordsLeft) → asked_of name ws ≡ Some (Ok p) → Took name ws p
asked_taken name ws p h =
    let last : Option (Result (Asked × WordsLeft) Why) = cond (bytes_eq name (codes "verdict")) (Some (verdict_of ws)) None in
    let later : Option (Result (Asked × WordsLeft) Why) = cond (bytes_eq name (codes "digest")) (Some (digest_of ws)) last in
    let Took·ws : List ℕ → Type 0 = λ n. Took n ws p in
    elim (picked name (codes "element") (Some (element_of ws)) later (Some (Ok p)) h) [
      | inl e ↦ subst Took·ws (sym e.0) (element_taken ws p (some_inv (element_of ws) (Ok p) e.1))
      | inr f ↦ elim (picked name (codes "digest") (Some (digest_of ws)) last (Some (Ok p)) f) [
        | inl e ↦ subst Took·ws (sym e.0) (digest_taken ws p (some_inv (digest_of ws) (Ok p) e.1))
        | inr g ↦ elim (picked name (codes "verdict") (Some (verdict_of ws)) None (Some (Ok p)) g) [
          | inl e ↦ subst Took·ws (sym e.0) (verdict_taken ws p (some_inv (verdict_of ws) (Ok p) e.1))
          | inr k ↦ none_is_some (Ok p) k
        ]
      ]
    ]

-- the arguments of each call are read as the call, and no word is left
pub element_given : (a : Said) → Lawful a → element_of (written a ∷ []) ≡ Ok (element a, [])
element_given a h = ap (λ (r : Result (Said × WordsLeft) Why). and_then r (λ p. Ok (element p.0, p.1))) (argument_written a [] h)

pub digest_given : (o : Source) (a : Said) → LawfulAsked (digest o a) → digest_of (source_words o ++ (written a ∷ [])) ≡ Ok (digest o a, [])
digest_given o a h =
    ap (λ (r : Result (Source × WordsLeft) Why). and_then r (λ q. and_then (argument_of q.1) (λ p. Ok (digest q.0 p.0, p.1)))) (oracle_written o (written a ∷ []) h.0)
    ∙ ap (λ (r : Result (Said × WordsLeft) Why). and_then r (λ p. Ok (digest o p.0, p.1))) (argument_written a [] h.1)

pub verdict_given : (o : Source) (k m g : Said) → LawfulAsked (verdict o k m g) → verdict_of (source_words o ++ (written k ∷ (written m ∷ (written g ∷ [])))) ≡ Ok (verdict o k m g, [])
verdict_given o k m g h =
    ap (λ (r : Result (Source × WordsLeft) Why). and_then r (λ q. and_then (argument_of q.1) (λ x. and_then (argument_of x.1) (λ y. and_then (argument_of y.1) (λ z. Ok (verdict q.0 x.0 y.0 z.0, z.1))))))
    (oracle_written o (written k ∷ (written m ∷ (written g ∷ []))) h.0)
    ∙ ap (λ (r : Result (Said × WordsLeft) Why). and_then r (λ x. and_then (argument_of x.1) (λ y. and_then (argument_of y.1) (λ z. Ok (verdict o x.0 y.0 z.0, z.1)))))
    (argument_written k (written m ∷ (written g ∷ [])) h.1)
    ∙ ap (λ (r : Result (Said × WordsLeft) Why). and_then r (λ y. and_then (argument_of y.1) (λ z. Ok (verdict o k y.0 z.0, z.1))))
    (argument_written m (written g ∷ []) h.2)
    ∙ ap (λ (r : Result (Said × WordsLeft) Why). and_then r (λ z. Ok (verdict o k m z.0, z.1))) (argument_written g [] h.3)

asked_given : (c : Asked) → LawfulAsked c → whole_of oracle_calls (asked_words c) ≡ Ok c
asked_given (element a) h = ap with_end (element_given a h)
asked_given (digest o a) h = ap with_end (digest_given o a h)
asked_given (verdict o k m g) h = ap with_end (verdict_given o k m g h)

pub asked_loud : (c : Asked) → silent (spaced (asked_words c)) ≡ false
asked_loud (element a) = refl
asked_loud (digest scheme a) = refl
asked_loud (digest (book b) a) = refl
asked_loud (verdict scheme k m g) = refl
asked_loud (verdict (book b) k m g) = refl

pub oracle_calls_stand : Stands oracle_calls
oracle_calls_stand = record {
  taken = asked_taken;
  given = asked_given;
  loud = asked_loud;
  element_words = λ a. refl;
  element_lawful = λ a. (λ h. h, λ h. h);
}
