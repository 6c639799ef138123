-- The arguments that the words of a line write. Assumes nothing.
use Rattle.std.specs.Prelude.{◌≡◌, ℕ, ◌%◌, ◌<◌, ◌≤◌, Bool, true, cond, List, [], ◌∷◌, ◌++◌, length, is_some, Some, None, Ok, Err, codes, decimal, Option, Result, ◌==◌}
use Rattle.std.specs.Str.{bytes_eq}
use Rattle.hex_text.specs.Digits.{unhex, all_digits}
use Rattle.numeral.specs.Numbers.{number_of}
use Rattle.point_words.specs.Texts.{v4_of, v6_of, asn_of}
use Rattle.list_text.specs.Lists.{list_of}
use Rattle.arguments.specs.declared.Why.{Why}
use Rattle.arguments.specs.declared.Why.TheVariants.{EmptyWord, NoOctets, NoOracle, NoKind, NoForm, NoList, NoNumber, OddDigits, NoDigit, EmptyPath}
use Rattle.arguments.specs.declared.Kind.{Kind}
use Rattle.arguments.specs.declared.Kind.TheVariants as kinds
use Rattle.arguments.specs.declared.Form.{Form}
use Rattle.arguments.specs.declared.Form.TheVariants as forms
use Rattle.arguments.specs.Words.{take_word}

-- octets as a line writes them: by their digits, or by the path of a file
pub data Said : Type 0 where
  digits : List ℕ → Said
  path : List ℕ → Said

-- an oracle as a line names it: the test scheme, or the verdict book of some octets
pub data Source : Type 0 where
  scheme : Source
  book : Said → Source

-- first one thing, then another with what it gave; the first refusal stands
abbrev pub and_then : {A B : Type 0} → Result A Why → (A → Result B Why) → Result B Why
and_then (Ok a) f = f a
and_then (Err why) f = Err why

-- what follows a prefix
abbrev pub stripped : List ℕ → List ℕ → Option (List ℕ)
stripped [] w = Some w
stripped (p ∷ ps) [] = None
stripped (p ∷ ps) (c ∷ w) = cond (c == p) (stripped ps w) None

-- digits that write octets
abbrev pub digits_of : List ℕ → Result Said Why
digits_of d = cond (length d % 2 == 0) (cond (all_digits d) (Ok (digits d)) (Err NoDigit)) (Err OddDigits)

-- a path that is not empty
abbrev pub path_of : List ℕ → Result Said Why
path_of p = cond (length p == 0) (Err EmptyPath) (Ok (path p))

-- what follows `hex:`, or else what follows `@`
abbrev pub sort_of : Option (List ℕ) → Option (List ℕ) → Result Said Why
sort_of (Some d) other = digits_of d
sort_of None (Some p) = path_of p
sort_of None None = Err NoOctets

-- the octets that a word writes
abbrev pub octets_of : List ℕ → Result Said Why
octets_of w = sort_of (stripped (codes "hex:") w) (stripped (codes "@") w)

-- octets as the next word
abbrev pub argument_of : List (List ℕ) → Result (Said × List (List ℕ)) Why
argument_of ws = and_then (take_word ws) (λ p. and_then (octets_of p.0) (λ a. Ok (a, p.1)))

-- an oracle by its first word, and what follows it
abbrev pub source_of : List ℕ → List (List ℕ) → Result (Source × List (List ℕ)) Why
source_of w ws =
    cond (bytes_eq w (codes "scheme")) (Ok (scheme, ws))
    (cond (bytes_eq w (codes "book")) (and_then (argument_of ws) (λ p. Ok (book p.0, p.1))) (Err NoOracle))

-- an oracle as the next word or two
abbrev pub oracle_of : List (List ℕ) → Result (Source × List (List ℕ)) Why
oracle_of ws = and_then (take_word ws) (λ p. source_of p.0 p.1)

-- the words of each kind of points, and of each kind of value that is read
abbrev pub kind_word : Kind → List ℕ
kind_word kinds.V4 = codes "v4"
kind_word kinds.V6 = codes "v6"
kind_word kinds.Asn = codes "as"

abbrev pub form_word : Form → List ℕ
form_word forms.Addresses = codes "addresses"
form_word forms.Asn = codes "asn"

-- the first of some things that the word spells
abbrev pub spelling : {A : Type 0} → (A → List ℕ) → Why → List A → List ℕ → Result A Why
spelling spelt why [] w = Err why
spelling spelt why (a ∷ others) w = cond (bytes_eq w (spelt a)) (Ok a) (spelling spelt why others w)

-- a thing that the next word spells
abbrev pub spelled_next : {A : Type 0} → (A → List ℕ) → Why → List A → List (List ℕ) → Result (A × List (List ℕ)) Why
spelled_next spelt why all ws = and_then (take_word ws) (λ p. and_then (spelling spelt why all p.0) (λ a. Ok (a, p.1)))

abbrev pub kind_of : List (List ℕ) → Result (Kind × List (List ℕ)) Why
kind_of ws = spelled_next kind_word NoKind (kinds.V4 ∷ (kinds.V6 ∷ (kinds.Asn ∷ []))) ws

abbrev pub form_of : List (List ℕ) → Result (Form × List (List ℕ)) Why
form_of ws = spelled_next form_word NoForm (forms.Addresses ∷ (forms.Asn ∷ [])) ws

-- whether a word is a list of the kind
abbrev pub is_list_of : Kind → List ℕ → Bool
is_list_of kinds.V4 w = is_some (list_of v4_of w)
is_list_of kinds.V6 w = is_some (list_of v6_of w)
is_list_of kinds.Asn w = is_some (list_of asn_of w)

-- a list of the kind as the next word
abbrev pub list_word_of : Kind → List (List ℕ) → Result (List ℕ × List (List ℕ)) Why
list_word_of k ws = and_then (take_word ws) (λ p. cond (is_list_of k p.0) (Ok (p.0, p.1)) (Err NoList))

-- the room of an area, where a number was read
abbrev pub roomed : Option ℕ → List (List ℕ) → Result (Option ℕ × List (List ℕ)) Why
roomed None ws = Err NoNumber
roomed (Some n) ws = Ok (Some n, ws)

-- the room of an area as the next word, or none where no word is left
abbrev pub area_of : List (List ℕ) → Result (Option ℕ × List (List ℕ)) Why
area_of [] = Ok (None, [])
area_of ([] ∷ ws) = Err EmptyWord
area_of ((c ∷ w) ∷ ws) = roomed (number_of 18446744073709551615 (c ∷ w)) ws

abbrev pub LawfulArea : Option ℕ → Type 0
LawfulArea None = Unit {0}
LawfulArea (Some n) = n ≤ 18446744073709551615

-- the words that write the room of an area
abbrev pub area_words : Option ℕ → List (List ℕ)
area_words None = []
area_words (Some n) = decimal n ∷ []

-- the word that writes some octets
abbrev pub written : Said → List ℕ
written (digits d) = codes "hex:" ++ d
written (path p) = codes "@" ++ p

-- digits can be read, and a path is not empty
abbrev pub Lawful : Said → Type 0
Lawful (digits d) = is_some (unhex d) ≡ true
Lawful (path p) = 0 < length p

-- the octets of a book are lawful
abbrev pub LawfulSource : Source → Type 0
LawfulSource scheme = Unit {0}
LawfulSource (book a) = Lawful a

-- the words that name an oracle
abbrev pub source_words : Source → List (List ℕ)
source_words scheme = codes "scheme" ∷ []
source_words (book a) = codes "book" ∷ (written a ∷ [])
