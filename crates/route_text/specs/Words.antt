-- What a whole word says: a route, or an origin. Assumes nothing.
use Rattle.std.specs.Prelude.{ℕ, cond, ◌&&◌, List, [], ◌∷◌, length, Some, None, Ok, Err, codes, Option, Result, ◌==◌, nat_lt}
use Rattle.std.specs.Str.{bytes_eq}
use Rattle.payload.specs.declared.Prefix.{Prefix}
use Rattle.route_text.specs.declared.Misspelt.{Misspelt}
use Rattle.route_text.specs.declared.Misspelt.TheVariants.{Route, Origin}
use Rattle.route_text.specs.Pieces.{after_word, number_of, prefix_of}

-- a prefix with nothing after it
abbrev pub only_prefix : Option (Prefix × List ℕ) → Result Prefix Misspelt
only_prefix None = Err Route
only_prefix (Some p) = cond (length p.1 == 0) (Ok p.0) (Err Route)

abbrev pub route_of : List ℕ → Result Prefix Misspelt
route_of w = only_prefix (prefix_of w)

-- a number of 32 bits with nothing after it
abbrev pub only_asn : Option (ℕ × List ℕ) → Result ℕ Misspelt
only_asn None = Err Origin
only_asn (Some n) = cond (length n.1 == 0 && nat_lt n.0 4294967296) (Ok n.0) (Err Origin)

abbrev pub asn_of : List ℕ → Result ℕ Misspelt
asn_of w = only_asn (number_of w)

-- an origin that is there
abbrev pub present : Result ℕ Misspelt → Result (Option ℕ) Misspelt
present (Ok n) = Ok (Some n)
present (Err e) = Err e

-- the digits of an AS number, without `AS`
abbrev pub digits_of : List ℕ → Option (List ℕ) → List ℕ
digits_of w None = w
digits_of w (Some s) = s

-- an AS number, with or without `AS` in front, or `none`
abbrev pub origin_of : List ℕ → Result (Option ℕ) Misspelt
origin_of w = cond (bytes_eq w (codes "none")) (Ok None) (present (asn_of (digits_of w (after_word (65 ∷ (83 ∷ [])) w))))
