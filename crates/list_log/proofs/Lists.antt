-- The calls on elements, oracles and lists are what their words read as. Assumes nothing.
use Rattle.std.proofs.Common.{◌≡◌, ℕ, Bool, true, false, cond, List, [], ◌∷◌, ◌++◌, Some, None, Ok, codes, Option, Result, sym, refl, ap, ◌∙◌, subst, inl, inr}
use Rattle.std.specs.Option.{option_map}
use Rattle.std.specs.Str.{bytes_eq}
use Rattle.arguments.specs.declared.Why.{Why}
use Rattle.arguments.specs.declared.Kind.{Kind}
use Rattle.arguments.specs.declared.Form.{Form}
use Rattle.arguments.specs.Words.{spaced}
use Rattle.arguments.specs.Arguments.{Said, and_then, argument_of, kind_word, form_word, kind_of, form_of, list_word_of, area_of, area_words, written}
use Rattle.arguments.proofs.Written.{then_inv, WordsLeft, argument_inv, argument_written, kind_inv, kind_written, form_inv, form_written, list_inv, list_written, area_inv, area_written}
use Rattle.log_lines.specs.Sets.{whole_of, silent, Stands}
use Rattle.log_lines.specs.Oracles.{Asked as Asked·base, element as element·base, digest as digest·base, verdict as verdict·base, asked_of, LawfulAsked, asked_words}
use Rattle.log_lines.proofs.Lines.{with_end}
use Rattle.log_lines.proofs.Oracles.{picked, some_inv, none_is_some, asked_taken, element_given, digest_given, verdict_given, asked_loud}
use Rattle.list_log.specs.Lists.{Asked, base, join, write, read, join_of, write_of, read_of, based, call_named, LawfulListCall, list_call_words, list_calls}

-- what the arguments of each call took
abbrev Took : List ℕ → WordsLeft → Asked × WordsLeft → Type 0
Took name ws p = (name ∷ ws ≡ list_call_words p.0 ++ p.1) × LawfulListCall p.0

join_taken : (ws : WordsLeft) (p : Asked × WordsLeft) → join_of ws ≡ Ok p → Took (codes "join") ws p
join_taken ws p h =
    let t = then_inv (kind_of ws) (λ k. and_then (list_word_of k.0 k.1) (λ a. and_then (list_word_of k.0 a.1) (λ b. Ok (join k.0 a.0 b.0, b.1)))) p h in
    let k : Kind = t.0.0 in
    let u = then_inv (list_word_of k t.0.1) (λ a. and_then (list_word_of k a.1) (λ b. Ok (join k a.0 b.0, b.1))) p t.2 in
    let one : List ℕ = u.0.0 in
    let v = then_inv (list_word_of k u.0.1) (λ b. Ok (join k one b.0, b.1)) p u.2 in
    let y : Ok (join k one v.0.0, v.0.1) ≡ Ok p = v.2 in
    let e : (join k one v.0.0, v.0.1) ≡ p = cc in
    let a = list_inv k t.0.1 u.0 u.1 in
    let b = list_inv k u.0.1 v.0 v.1 in
    subst (Took (codes "join") ws) e (
      ap (λ (l : WordsLeft). codes "join" ∷ l) (kind_inv ws t.0 t.1 ∙ ap (λ (l : WordsLeft). kind_word k ∷ l) (a.0 ∙ ap (λ (l : WordsLeft). one ∷ l) b.0)),
      (a.1, b.1),
    )

write_taken : (ws : WordsLeft) (p : Asked × WordsLeft) → write_of ws ≡ Ok p → Took (codes "write") ws p
write_taken ws p h =
    let t = then_inv (kind_of ws) (λ k. and_then (list_word_of k.0 k.1) (λ a. and_then (area_of a.1) (λ n. Ok (write k.0 a.0 n.0, n.1)))) p h in
    let k : Kind = t.0.0 in
    let u = then_inv (list_word_of k t.0.1) (λ a. and_then (area_of a.1) (λ n. Ok (write k a.0 n.0, n.1))) p t.2 in
    let one : List ℕ = u.0.0 in
    let v = then_inv (area_of u.0.1) (λ n. Ok (write k one n.0, n.1)) p u.2 in
    let y : Ok (write k one v.0.0, v.0.1) ≡ Ok p = v.2 in
    let e : (write k one v.0.0, v.0.1) ≡ p = cc in
    let a = list_inv k t.0.1 u.0 u.1 in
    let b = area_inv u.0.1 v.0 v.1 in
    subst (Took (codes "write") ws) e (
      ap (λ (l : WordsLeft). codes "write" ∷ l) (kind_inv ws t.0 t.1 ∙ ap (λ (l : WordsLeft). kind_word k ∷ l) (a.0 ∙ ap (λ (l : WordsLeft). one ∷ l) b.0)),
      (a.1, b.1),
    )

read_taken : (ws : WordsLeft) (p : Asked × WordsLeft) → read_of ws ≡ Ok p → Took (codes "read") ws p
read_taken ws p h =
    let t = then_inv (form_of ws) (λ f. and_then (argument_of f.1) (λ q. Ok (read f.0 q.0, q.1))) p h in
    let f : Form = t.0.0 in
    let u = then_inv (argument_of t.0.1) (λ q. Ok (read f q.0, q.1)) p t.2 in
    let y : Ok (read f u.0.0, u.0.1) ≡ Ok p = u.2 in
    let e : (read f u.0.0, u.0.1) ≡ p = cc in
    let a = argument_inv t.0.1 u.0 u.1 in
    subst (Took (codes "read") ws) e (ap (λ (l : WordsLeft). codes "read" ∷ l) (form_inv ws t.0 t.1 ∙ ap (λ (l : WordsLeft). form_word f ∷ l) a.0), a.1)

-- what a call on elements and oracles took
mapped_inv : (o : Option (Result (Asked·base × WordsLeft) Why)) (p : Asked × WordsLeft) → option_map based o ≡ Some (Ok p) → (r : Result (Asked·base × WordsLeft) Why) × (o ≡ Some r) × (based r ≡ Ok p)
mapped_inv None p h = none_is_some (Ok p) h
mapped_inv (Some r) p h = (r, refl, some_inv (based r) (Ok p) h)

base_taken : (name : List ℕ) (ws : WordsLeft) (p : Asked × WordsLeft) → option_map based (asked_of name ws) ≡ Some (Ok p) → Took name ws p
base_taken name ws p h =
    let m = mapped_inv (asked_of name ws) p h in
    let t = then_inv m.0 (λ q. Ok (base q.0, q.1)) p m.2 in
    let y : Ok (base t.0.0, t.0.1) ≡ Ok p = t.2 in
    let e : (base t.0.0, t.0.1) ≡ p = cc in
    subst (Took name ws) e (asked_taken name ws t.0 (m.1 ∙ ap Some t.1))

call_taken : (name : List ℕ) (ws : WordsLeft) (p : Asked × WordsLeft) → call_named name ws ≡ Some (Ok p) → Took name ws p
call_taken name ws p h =
    let bases : Option (Result (Asked × WordsLeft) Why) = option_map based (asked_of name ws) in
    let last : Option (Result (Asked × WordsLeft) Why) = cond (bytes_eq name (codes "read")) (Some (read_of ws)) bases in
    let later : Option (Result (Asked × WordsLeft) Why) = cond (bytes_eq name (codes "write")) (Some (write_of ws)) last in
    let Took·ws : List ℕ → Type 0 = λ n. Took n ws p in
    elim (picked name (codes "join") (Some (join_of ws)) later (Some (Ok p)) h) [
      | inl e ↦ subst Took·ws (sym e.0) (join_taken ws p (some_inv (join_of ws) (Ok p) e.1))
      | inr f ↦ elim (picked name (codes "write") (Some (write_of ws)) last (Some (Ok p)) f) [
        | inl e ↦ subst Took·ws (sym e.0) (write_taken ws p (some_inv (write_of ws) (Ok p) e.1))
        | inr g ↦ elim (picked name (codes "read") (Some (read_of ws)) bases (Some (Ok p)) g) [
          | inl e ↦ subst Took·ws (sym e.0) (read_taken ws p (some_inv (read_of ws) (Ok p) e.1))
          | inr k ↦ base_taken name ws p k
        ]
      ]
    ]

-- the words of each call are read as the call, and its text is not silent: a clause for each
call_given : (c : Asked) → LawfulListCall c → whole_of list_calls (list_call_words c) ≡ Ok c
call_given (base (element·base a)) h = ap (λ (r : Result (Asked·base × WordsLeft) Why). with_end (based r)) (element_given a h)
call_given (base (digest·base o a)) h = ap (λ (r : Result (Asked·base × WordsLeft) Why). with_end (based r)) (digest_given o a h)
call_given (base (verdict·base o k m g)) h = ap (λ (r : Result (Asked·base × WordsLeft) Why). with_end (based r)) (verdict_given o k m g h)
call_given (join k a b) h =
    ap (λ (r : Result (Kind × WordsLeft) Why). with_end (and_then r (λ q. and_then (list_word_of q.0 q.1) (λ x. and_then (list_word_of q.0 x.1) (λ y. Ok (join q.0 x.0 y.0, y.1)))))) (kind_written k (a ∷ (b ∷ [])))
    ∙ ap (λ (r : Result (List ℕ × WordsLeft) Why). with_end (and_then r (λ x. and_then (list_word_of k x.1) (λ y. Ok (join k x.0 y.0, y.1))))) (list_written k a (b ∷ []) h.0)
    ∙ ap (λ (r : Result (List ℕ × WordsLeft) Why). with_end (and_then r (λ y. Ok (join k a y.0, y.1)))) (list_written k b [] h.1)
call_given (write k a n) h =
    ap (λ (r : Result (Kind × WordsLeft) Why). with_end (and_then r (λ q. and_then (list_word_of q.0 q.1) (λ x. and_then (area_of x.1) (λ y. Ok (write q.0 x.0 y.0, y.1)))))) (kind_written k (a ∷ area_words n))
    ∙ ap (λ (r : Result (List ℕ × WordsLeft) Why). with_end (and_then r (λ x. and_then (area_of x.1) (λ y. Ok (write k x.0 y.0, y.1))))) (list_written k a (area_words n) h.0)
    ∙ ap (λ (r : Result (Option ℕ × WordsLeft) Why). with_end (and_then r (λ y. Ok (write k a y.0, y.1)))) (area_written n h.1)
call_given (read f a) h =
    ap (λ (r : Result (Form × WordsLeft) Why). with_end (and_then r (λ q. and_then (argument_of q.1) (λ y. Ok (read q.0 y.0, y.1))))) (form_written f (written a ∷ []))
    ∙ ap (λ (r : Result (Said × WordsLeft) Why). with_end (and_then r (λ y. Ok (read f y.0, y.1)))) (argument_written a [] h)

call_loud : (c : Asked) → silent (spaced (list_call_words c)) ≡ false
call_loud (base c) = asked_loud c
call_loud (join k a b) = refl
call_loud (write k a n) = refl
call_loud (read f a) = refl

pub list_calls_stand : Stands list_calls
list_calls_stand = record {
  taken = call_taken;
  given = call_given;
  loud = call_loud;
  element_words = λ a. refl;
  element_lawful = λ a. (λ h. h, λ h. h);
}
