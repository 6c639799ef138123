-- What the records listed so far, with those still to come, answer. Assumes nothing.
use Rattle.std.proofs.Common.{◌≡◌, ℕ, Bool, ◌||◌, List, [], ◌∷◌, ◌++◌, map, vec_items, sym, refl, ap, ◌∙◌, append_assoc, append-nil}
use Rattle.std.specs.Option.{option_or}
use Rattle.record.specs.Format.{Entry, records}
use Rattle.record.specs.Format as format
use Rattle.book.specs.Meaning.{digest_said, yes_said, first_digest, some_verdict, book_digest, book_verdict}
use Rattle.std.proofs.lemmas.List.{map_push}
use Rattle.record.specs.declared.Record.{Record}
use Rattle.record.specs.declared.Record.TheVariants.{Digest, Verdict}
use Rattle.record.specs.Views.{record_seen, known_seen, claim_seen}
use Rattle.oracle.specs.declared.Claim.{Claim}
use Rattle.record.specs.declared.KnownDigest.{KnownDigest}
use Rattle.book_index.specs.declared.Index.{Index}
use Rattle.book_index.specs.Held.{known_in, signed_in, Listed, AnswersAs}

-- the answers of a book, from the records that are listed and those that are left
abbrev pub Gives : Index → List Entry → List ℕ → Type 0
Gives i left book =
    ((s : List ℕ) → first_digest s (known_in i ++ left) ≡ book_digest book s)
    × ((k m g : List ℕ) → some_verdict k m g (signed_in i ++ left) ≡ book_verdict book k m g)

skip_signed : (s k m g : List ℕ) (ks rs : List Entry) → first_digest s (ks ++ format.Signed k m g ∷ rs) ≡ first_digest s (ks ++ rs)
skip_signed s k m g [] rs = refl
skip_signed s k m g (x ∷ ks) rs = ap (option_or (digest_said s x)) (skip_signed s k m g ks rs)

skip_known : (k m g o d : List ℕ) (ss rs : List Entry) → some_verdict k m g (ss ++ format.Known o d ∷ rs) ≡ some_verdict k m g (ss ++ rs)
skip_known k m g o d [] rs = refl
skip_known k m g o d (x ∷ ss) rs = ap (λ (b : Bool). yes_said k m g x || b) (skip_known k m g o d ss rs)

-- a record that is listed comes from the front of what is left
push_front : {X : Type 0} (f : X → Entry) (xs ys : List X) (x : X) (left more : List Entry) → ys ≡ xs ++ x ∷ [] → left ≡ f x ∷ more → map f ys ++ more ≡ map f xs ++ left
push_front f xs ys x left more p e =
    ap (λ l. map f l ++ more) p
    ∙ ap (λ (l : List Entry). l ++ more) (map_push f xs x)
    ∙ append_assoc (map f xs) (f x ∷ []) more
    ∙ ap (λ (l : List Entry). map f xs ++ l) (sym e)

-- one more record is listed
pub gives_next : (i j : Index) (r : Record) (left more : List Entry) (book : List ℕ) → Listed i j r → left ≡ record_seen r ∷ more → Gives i left book → Gives j more book
gives_next i j (Digest known) left more book h e inv = (
  λ s. ap (first_digest s) (push_front known_seen (vec_items i.known) (vec_items j.known) known left more h.0 e) ∙ inv.0 s,
  λ k m g.
      ap (λ (l : List Claim). some_verdict k m g (map claim_seen l ++ more)) h.1
      ∙ sym (skip_known k m g known.octets.now known.digest (signed_in i) more)
      ∙ ap (λ (l : List Entry). some_verdict k m g (signed_in i ++ l)) (sym e)
      ∙ inv.1 k m g,
)
gives_next i j (Verdict claim) left more book h e inv = (
  λ s.
      ap (λ (l : List KnownDigest). first_digest s (map known_seen l ++ more)) h.0
      ∙ sym (skip_signed s claim.key.now claim.message.now claim.signature.now (known_in i) more)
      ∙ ap (λ (l : List Entry). first_digest s (known_in i ++ l)) (sym e)
      ∙ inv.0 s,
  λ k m g. ap (some_verdict k m g) (push_front claim_seen (vec_items i.signed) (vec_items j.signed) claim left more h.1 e) ∙ inv.1 k m g,
)

-- where no record is left, all are listed
pub gives_all : (i : Index) (left : List Entry) (book : List ℕ) → left ≡ [] → Gives i left book → AnswersAs i book
gives_all i left book e inv =
    record {
      digests = λ s. sym (ap (first_digest s) (ap (λ (l : List Entry). known_in i ++ l) e ∙ append-nil (known_in i))) ∙ inv.0 s;
      verdicts = λ k m g. sym (ap (some_verdict k m g) (ap (λ (l : List Entry). signed_in i ++ l) e ∙ append-nil (signed_in i))) ∙ inv.1 k m g;
    }
