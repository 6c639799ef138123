-- The calls on elements and oracles, and the words that write them. Assumes nothing.
use Rattle.std.specs.Prelude.{ℕ, cond, List, [], ◌∷◌, ◌++◌, Some, None, Ok, codes, Option, Result}
use Rattle.std.specs.Str.{bytes_eq}
use Rattle.arguments.specs.declared.Known.TheVariants.{Oracles}
use Rattle.arguments.specs.declared.Why.{Why}
use Rattle.arguments.specs.Arguments.{Said, Source, and_then, argument_of, oracle_of, written, Lawful, LawfulSource, source_words}
use Rattle.log_lines.specs.Sets.{CallSet}

-- a call with its arguments; those of `verdict` are a key, a message and a signature
pub data Asked : Type 0 where
  element : Said → Asked
  digest : Source → Said → Asked
  verdict : Source → Said → Said → Said → Asked

-- the arguments of each call
abbrev pub element_of : List (List ℕ) → Result (Asked × List (List ℕ)) Why
element_of ws = and_then (argument_of ws) (λ p. Ok (element p.0, p.1))

abbrev pub digest_of : List (List ℕ) → Result (Asked × List (List ℕ)) Why
digest_of ws = and_then (oracle_of ws) (λ o. and_then (argument_of o.1) (λ p. Ok (digest o.0 p.0, p.1)))

abbrev pub verdict_of : List (List ℕ) → Result (Asked × List (List ℕ)) Why
verdict_of ws =
    and_then (oracle_of ws) (λ o. and_then (argument_of o.1) (λ k. and_then (argument_of k.1) (λ m. and_then (argument_of m.1) (λ g.
    Ok (verdict o.0 k.0 m.0 g.0, g.1)))))

-- the call that a word names, with its arguments
abbrev pub asked_of : List ℕ → List (List ℕ) → Option (Result (Asked × List (List ℕ)) Why)
asked_of name ws =
    cond (bytes_eq name (codes "element")) (Some (element_of ws))
    (cond (bytes_eq name (codes "digest")) (Some (digest_of ws))
    (cond (bytes_eq name (codes "verdict")) (Some (verdict_of ws)) None))

-- the octets of a call are lawful
abbrev pub LawfulAsked : Asked → Type 0
LawfulAsked (element a) = Lawful a
LawfulAsked (digest o a) = LawfulSource o × Lawful a
LawfulAsked (verdict o k m g) = LawfulSource o × Lawful k × Lawful m × Lawful g

-- the words that write a call
abbrev pub asked_words : Asked → List (List ℕ)
asked_words (element a) = codes "element" ∷ (written a ∷ [])
asked_words (digest o a) = codes "digest" ∷ (source_words o ++ (written a ∷ []))
asked_words (verdict o k m g) = codes "verdict" ∷ (source_words o ++ (written k ∷ (written m ∷ (written g ∷ []))))

abbrev pub oracle_calls : CallSet Asked
oracle_calls = record { known = Oracles; reads = asked_of; LawfulCall = LawfulAsked; call_words = asked_words; element = element }
