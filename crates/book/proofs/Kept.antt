-- What a book's answers say of its records. Assumes nothing.
use Rattle.std.proofs.Common.{◌≡◌, ℕ, Bool, true, false, cond, ◌&&◌, ◌||◌, List, [], ◌∷◌, ◌++◌, Some, None, Decides, Option, sym, refl, ap, ◌∙◌, arith}
use Rattle.std.specs.Option.{option_or}
use Rattle.std.specs.List.{AllByRecursion}
use Rattle.std.specs.Str.{bytes_eq}
use Rattle.std.proofs.lemmas.Slice.Eq.{bytes_eq-Decides}
use Rattle.std.proofs.lemmas.Bool.Decides.{Decides-and, Decides-like, Decides-by_or}
use Rattle.std.proofs.lemmas.Bool.{false≢true}
use Rattle.record.specs.Format.{Entry, Known, Signed, records, leftover}
use Rattle.record.proofs.Fronts.{some_same, none_some}
use Rattle.record.proofs.Steps.{records_append}
use Rattle.book.specs.Meaning.{digest_said, yes_said, first_digest, some_verdict}
use Rattle.book.specs.Promises.{YesIsARecord, SilentOn, FirstOf, DigestIsTheFirst, UnknownIsNoRecord, NoVerdict, NoVerdictRecordNoYes, AlwaysNoIsNoBookWithAVerdict, AnswersDependOnRecordsOnly, AppendedOctetsKeepAnswers}

-- a record says yes exactly where it is the record of the three
pub yes_decides : (k m g : List ℕ) (r : Entry) → Decides (yes_said k m g r) (r ≡ Signed k m g)
yes_decides k m g (Known o d) = (λ e. absurd (false≢true e), λ e. absurd (let z : ◌≡◌ {A = ℕ} 0 1 = cc in omega arith))
yes_decides k m g (Signed k' m' g') =
    Decides-like _
    (λ p. ap (λ (x : List ℕ). Signed x m' g') p.1.1 ∙ ap (λ (x : List ℕ). Signed k x g') p.1.0 ∙ ap (λ (x : List ℕ). Signed k m x) p.0)
    (λ e. let a : k' ≡ k = cc in let b : m' ≡ m = cc in let c : g' ≡ g = cc in (c, (b, a)))
    (Decides-and (bytes_eq g' g) (bytes_eq m' m && bytes_eq k' k) (bytes_eq-Decides g' g) (Decides-and (bytes_eq m' m) (bytes_eq k' k) (bytes_eq-Decides m' m) (bytes_eq-Decides k' k)))

pub yes_is_a_record : YesIsARecord
yes_is_a_record book k m g =
    Decides-by_or (yes_said k m g) (λ r. r ≡ Signed k m g) (some_verdict k m g) (yes_decides k m g) refl (λ _ _. refl) (records book)

-- a record gives a digest of some octets exactly where it is one of them
said_known : (s d : List ℕ) (r : Entry) → digest_said s r ≡ Some d → r ≡ Known s d
said_known s d (Signed k m g) e = absurd (none_some e)
said_known s d (Known o x) e = by (bytes_eq o s) refl e
  where
    by : (b : Bool) → bytes_eq o s ≡ b → cond b (Some x) None ≡ Some d → Known o x ≡ Known s d
    by true f e = ap (λ (l : List ℕ). Known l x) ((bytes_eq-Decides o s).0 f) ∙ ap (λ (l : List ℕ). Known s l) (some_same e)
    by false f e = absurd (none_some e)

known_said : (s d : List ℕ) → digest_said s (Known s d) ≡ Some d
known_said s d = ap (λ (b : Bool). cond b (Some d) None) ((bytes_eq-Decides s s).1 refl)

said_none : (s : List ℕ) (r : Entry) → SilentOn s r → digest_said s r ≡ None
said_none s r h = by (digest_said s r) refl
  where
    by : (o : Option (List ℕ)) → digest_said s r ≡ o → o ≡ None
    by None e = refl
    by (Some d) e = absurd (h d (said_known s d r e))

none_said : (s : List ℕ) (r : Entry) → digest_said s r ≡ None → SilentOn s r
none_said s r e d f = none_some (sym e ∙ ap (digest_said s) f ∙ known_said s d)

first_from : (s d : List ℕ) (rs : List Entry) → first_digest s rs ≡ Some d → FirstOf rs s d
first_from s d [] e = absurd (none_some e)
first_from s d (r ∷ rs) e = by (first_from s d rs) (digest_said s r) refl e
  where
    by : (first_digest s rs ≡ Some d → FirstOf rs s d) → (o : Option (List ℕ)) → digest_said s r ≡ o → option_or o (first_digest s rs) ≡ Some d → FirstOf (r ∷ rs) s d
    by ih (Some x) f e = record { before = []; after = rs; stands = ap (λ (v : Entry). v ∷ rs) (said_known s d r (f ∙ e)); none_before = tt }
    by ih None f e =
        let more = ih e in
        record { before = r ∷ more.before; after = more.after; stands = ap (λ (l : List Entry). r ∷ l) more.stands; none_before = (none_said s r f, more.none_before) }

first_at : (s d : List ℕ) (front back : List Entry) → AllByRecursion (SilentOn s) front → first_digest s (front ++ Known s d ∷ back) ≡ Some d
first_at s d [] back h = ap (λ (o : Option (List ℕ)). option_or o (first_digest s back)) (known_said s d)
first_at s d (r ∷ front) back h =
    ap (λ (o : Option (List ℕ)). option_or o (first_digest s (front ++ Known s d ∷ back))) (said_none s r h.0) ∙ first_at s d front back h.1

pub digest_is_the_first : DigestIsTheFirst
digest_is_the_first book s d = (
  first_from s d (records book),
  λ f. ap (first_digest s) f.stands ∙ first_at s d f.before f.after f.none_before,
)

silent_all : (s : List ℕ) (rs : List Entry) → first_digest s rs ≡ None → AllByRecursion (SilentOn s) rs
silent_all s [] e = tt
silent_all s (r ∷ rs) e = by (silent_all s rs) (digest_said s r) refl e
  where
    by : (first_digest s rs ≡ None → AllByRecursion (SilentOn s) rs) → (o : Option (List ℕ)) → digest_said s r ≡ o → option_or o (first_digest s rs) ≡ None → AllByRecursion (SilentOn s) (r ∷ rs)
    by ih (Some x) f e = absurd (none_some (sym e))
    by ih None f e = (none_said s r f, ih e)

all_silent : (s : List ℕ) (rs : List Entry) → AllByRecursion (SilentOn s) rs → first_digest s rs ≡ None
all_silent s [] h = refl
all_silent s (r ∷ rs) h = ap (λ (o : Option (List ℕ)). option_or o (first_digest s rs)) (said_none s r h.0) ∙ all_silent s rs h.1

pub unknown_is_no_record : UnknownIsNoRecord
unknown_is_no_record book s = (silent_all s (records book), all_silent s (records book))

no_yes : (rs : List Entry) → AllByRecursion NoVerdict rs → (k m g : List ℕ) → some_verdict k m g rs ≡ false
no_yes [] h k m g = refl
no_yes (Known o d ∷ rs) h k m g = no_yes rs h.1 k m g
no_yes (Signed a b c ∷ rs) h k m g = absurd h.0

pub no_verdict_no_yes : NoVerdictRecordNoYes
no_verdict_no_yes book h k m g = no_yes (records book) h k m g

-- a record of kind 59 has a yes
no_record : (rs : List Entry) → ((k m g : List ℕ) → some_verdict k m g rs ≡ false) → AllByRecursion NoVerdict rs
no_record [] h = tt
no_record (Known o d ∷ rs) h = (tt, no_record rs h)
no_record (Signed k m g ∷ rs) h =
    absurd (false≢true (sym (h k m g) ∙ ap (λ (b : Bool). b || some_verdict k m g rs) ((yes_decides k m g (Signed k m g)).1 refl)))

pub always_no_no_book : AlwaysNoIsNoBookWithAVerdict
always_no_no_book v book no' same = no_record (records book) (λ k m g. sym (same k m g) ∙ no' k m g)

pub depend_on_records : AnswersDependOnRecordsOnly
depend_on_records book other e = (λ s. ap (first_digest s) e, λ k m g. ap (some_verdict k m g) e)

digest_append : (s d : List ℕ) (rs more : List Entry) → first_digest s rs ≡ Some d → first_digest s (rs ++ more) ≡ Some d
digest_append s d [] more e = absurd (none_some e)
digest_append s d (r ∷ rs) more e = by (digest_append s d rs more) (digest_said s r) e
  where
    by : (first_digest s rs ≡ Some d → first_digest s (rs ++ more) ≡ Some d) → (o : Option (List ℕ)) → option_or o (first_digest s rs) ≡ Some d → option_or o (first_digest s (rs ++ more)) ≡ Some d
    by ih (Some x) e = e
    by ih None e = ih e

yes_append : (k m g : List ℕ) (rs more : List Entry) → some_verdict k m g rs ≡ true → some_verdict k m g (rs ++ more) ≡ true
yes_append k m g [] more e = absurd (false≢true e)
yes_append k m g (r ∷ rs) more e = by (yes_append k m g rs more) (yes_said k m g r) e
  where
    by : (some_verdict k m g rs ≡ true → some_verdict k m g (rs ++ more) ≡ true) → (b : Bool) → (b || some_verdict k m g rs) ≡ true → (b || some_verdict k m g (rs ++ more)) ≡ true
    by ih true e = refl
    by ih false e = ih e

pub appended_keep : AppendedOctetsKeepAnswers
appended_keep book more = (
  λ s d e. ap (first_digest s) (records_append more book) ∙ digest_append s d (records book) (records (leftover book ++ more)) e,
  λ k m g e. ap (some_verdict k m g) (records_append more book) ∙ yes_append k m g (records book) (records (leftover book ++ more)) e,
)
