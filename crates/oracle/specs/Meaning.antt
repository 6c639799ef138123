-- What an oracle means, as two functions of octets, and what is promised of the meanings here. Assumes nothing.
use Rattle.std.specs.Prelude.{◌≡◌, ℕ, Bool, false, List, length, None, Option}
use Rattle.oracle.specs.declared.Claim.{Claim}
use Rattle.oracle.specs.Scheme.{scheme_digest, scheme_verdict}

-- the digest of some octets, or none where it is not known
abbrev pub Digests : Type 0
Digests = List ℕ → Option (List ℕ)

-- yes or no on a key, a message and a signature
abbrev pub Verdicts : Type 0
Verdicts = List ℕ → List ℕ → List ℕ → Bool

-- the answer to a claim: to its key, its message and its signature
abbrev pub answer_on : Verdicts → Claim → Bool
answer_on v claim = v claim.key.now claim.message.now claim.signature.now

-- who knows nothing
abbrev pub silent_digest : Digests
silent_digest s = None

abbrev pub silent_verdict : Verdicts
silent_verdict key message signature = false

-- no to every key, message and signature
abbrev pub AlwaysNo : Verdicts → Type 0
AlwaysNo v = (key message signature : List ℕ) → v key message signature ≡ false

-- the same answer to every key, message and signature
abbrev pub SameVerdicts : Verdicts → Verdicts → Type 0
SameVerdicts v w = (key message signature : List ℕ) → v key message signature ≡ w key message signature

-- whoever always says no does not answer by the test scheme
abbrev pub AlwaysNoIsNotTheScheme : Type 0
AlwaysNoIsNotTheScheme = (v : Verdicts) → AlwaysNo v → SameVerdicts v scheme_verdict → ⊥

abbrev pub SchemeDigestsHave32Octets : Type 0
SchemeDigestsHave32Octets = (s : List ℕ) → length (scheme_digest s) ≡ 32
