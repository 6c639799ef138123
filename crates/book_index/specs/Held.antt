-- What an index holds, and what it answers. Assumes nothing.
use Rattle.std.specs.Prelude.{◌≡◌, ℕ, List, [], ◌∷◌, ◌++◌, map, vec_items}
use Rattle.oracle.specs.Meaning.{Digests, Verdicts, SameVerdicts}
use Rattle.record.specs.Format.{Entry}
use Rattle.record.specs.declared.Record.{Record}
use Rattle.record.specs.declared.Record.TheVariants.{Digest, Verdict}
use Rattle.record.specs.Views.{known_seen, claim_seen}
use Rattle.book.specs.Meaning.{first_digest, some_verdict, book_digest, book_verdict}
use Rattle.book_index.specs.declared.Index.{Index}

-- the records that an index holds, by their kind
abbrev pub known_in : Index → List Entry
known_in i = map known_seen (vec_items i.known)

abbrev pub signed_in : Index → List Entry
signed_in i = map claim_seen (vec_items i.signed)

-- one more record is listed, after those of its kind
abbrev pub Listed : Index → Index → Record → Type 0
Listed i j (Digest known) =
    (vec_items j.known ≡ vec_items i.known ++ known ∷ []) × (vec_items j.signed ≡ vec_items i.signed)
Listed i j (Verdict claim) =
    (vec_items j.known ≡ vec_items i.known) × (vec_items j.signed ≡ vec_items i.signed ++ claim ∷ [])

-- the meaning of an index: by the records that it holds, as a book's is by its records
abbrev pub index_digest : Index → Digests
index_digest i s = first_digest s (known_in i)

abbrev pub index_verdict : Index → Verdicts
index_verdict i k m g = some_verdict k m g (signed_in i)

-- the index answers every question as the book does
pub record AnswersAs (i : Index) (book : List ℕ) : Type 0 where
  pub digests : (s : List ℕ) → index_digest i s ≡ book_digest book s
  pub verdicts : SameVerdicts (index_verdict i) (book_verdict book)
