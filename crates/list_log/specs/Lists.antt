-- The calls on elements, oracles and lists of resources, and the words that write them. Assumes nothing.
use Rattle.std.specs.Prelude.{◌≡◌, ℕ, true, cond, List, [], ◌∷◌, Some, Ok, codes, Option, Result}
use Rattle.std.specs.Option.{option_map}
use Rattle.std.specs.Str.{bytes_eq}
use Rattle.arguments.specs.declared.Known.TheVariants as known
use Rattle.arguments.specs.declared.Why.{Why}
use Rattle.arguments.specs.declared.Kind.{Kind}
use Rattle.arguments.specs.declared.Form.{Form}
use Rattle.arguments.specs.Arguments.{Said, and_then, argument_of, kind_word, form_word, kind_of, form_of, is_list_of, list_word_of, area_of, area_words, LawfulArea, written, Lawful}
use Rattle.log_lines.specs.Sets.{CallSet}
use Rattle.log_lines.specs.Oracles.{Asked as Asked·base, element as element·base, asked_of, LawfulAsked, asked_words}

-- a call with its arguments: those of `join` are two lists of a kind, and those of `write` a list of a kind and the room of the area, where the line
-- names one
pub data Asked : Type 0 where
  base : Asked·base → Asked
  join : Kind → List ℕ → List ℕ → Asked
  write : Kind → List ℕ → Option ℕ → Asked
  read : Form → Said → Asked

-- the arguments of `join`: a kind of points, and two lists of the kind
abbrev pub join_of : List (List ℕ) → Result (Asked × List (List ℕ)) Why
join_of ws = and_then (kind_of ws) (λ k. and_then (list_word_of k.0 k.1) (λ a. and_then (list_word_of k.0 a.1) (λ b. Ok (join k.0 a.0 b.0, b.1))))

-- the arguments of `write`: a kind of points, a list of the kind, and the room of the area
abbrev pub write_of : List (List ℕ) → Result (Asked × List (List ℕ)) Why
write_of ws = and_then (kind_of ws) (λ k. and_then (list_word_of k.0 k.1) (λ a. and_then (area_of a.1) (λ n. Ok (write k.0 a.0 n.0, n.1))))

-- the arguments of `read`: the kind of value, and its octets
abbrev pub read_of : List (List ℕ) → Result (Asked × List (List ℕ)) Why
read_of ws = and_then (form_of ws) (λ f. and_then (argument_of f.1) (λ p. Ok (read f.0 p.0, p.1)))

-- a call on elements and oracles as one of these
abbrev pub based : Result (Asked·base × List (List ℕ)) Why → Result (Asked × List (List ℕ)) Why
based r = and_then r (λ p. Ok (base p.0, p.1))

-- the call that a word names, with its arguments
abbrev pub call_named : List ℕ → List (List ℕ) → Option (Result (Asked × List (List ℕ)) Why)
call_named name ws =
    cond (bytes_eq name (codes "join")) (Some (join_of ws))
    (cond (bytes_eq name (codes "write")) (Some (write_of ws))
    (cond (bytes_eq name (codes "read")) (Some (read_of ws)) (option_map based (asked_of name ws))))

-- the octets of a call are lawful, its lists are lists of the kind, and a room fits 64 bits
abbrev pub LawfulListCall : Asked → Type 0
LawfulListCall (base c) = LawfulAsked c
LawfulListCall (join k a b) = (is_list_of k a ≡ true) × (is_list_of k b ≡ true)
LawfulListCall (write k a n) = (is_list_of k a ≡ true) × LawfulArea n
LawfulListCall (read f a) = Lawful a

-- the words that write a call
abbrev pub list_call_words : Asked → List (List ℕ)
list_call_words (base c) = asked_words c
list_call_words (join k a b) = codes "join" ∷ (kind_word k ∷ (a ∷ (b ∷ [])))
list_call_words (write k a n) = codes "write" ∷ (kind_word k ∷ (a ∷ area_words n))
list_call_words (read f a) = codes "read" ∷ (form_word f ∷ (written a ∷ []))

abbrev pub list_calls : CallSet Asked
list_calls = record { known = known.Lists; reads = call_named; LawfulCall = LawfulListCall; call_words = list_call_words; element = λ a. base (element·base a) }
