-- What is said of verdicts and digests. Assumes nothing.
use Rattle.std.proofs.Common.{[], ◌++◌, sym, refl, ◌∙◌}
use Rattle.std.proofs.lemmas.Slice.Eq.{bytes_eq-Decides}
use Rattle.std.proofs.lemmas.Bool.{false≢true}
use Rattle.oracle.specs.Scheme.{scheme_digest}
use Rattle.oracle.specs.Meaning.{AlwaysNoIsNotTheScheme}

-- the signature of an empty message by an empty key is its digest
pub always_no : AlwaysNoIsNotTheScheme
always_no v no' same =
    let d = scheme_digest ([] ++ []) in
    false≢true (sym (no' [] [] d) ∙ same [] [] d ∙ (bytes_eq-Decides d d).1 refl)
