-- What is printed is read as itself. Assumes nothing.
use Rattle.std.specs.Prelude.{◌≡◌, ℕ, ◌^◌, ◌<◌, Bool, true, false, List, [], ◌∷◌, ◌++◌, Some, None, Ok, codes, decimal}
use Rattle.payload.specs.declared.Prefix.{Prefix}
use Rattle.payload.specs.Order.{lawful}
use Rattle.listing.specs.Texts.{address_text}
use Rattle.route_text.specs.Pieces.{is_digit, number_of, prefix_of}
use Rattle.route_text.specs.Words.{route_of, origin_of}

-- a text that begins with a decimal digit
abbrev pub starts_digit : List ℕ → Bool
starts_digit [] = false
starts_digit (c ∷ s) = is_digit c

-- a prefix in print: the address in its fixed form, "/" and the length
abbrev pub prefix_text : Prefix → List ℕ
prefix_text p = address_text p.family p.address ++ (47 ∷ decimal p.length)

-- a number in print is read as itself, up to a character that is no digit
abbrev pub ReadsNumber : Type 0
ReadsNumber = (n : ℕ) (u : List ℕ) → n < 2 ^ 40 → starts_digit u ≡ false → number_of (decimal n ++ u) ≡ Some (n, u)

-- and so is a lawful prefix
abbrev pub ReadsPrefix : Type 0
ReadsPrefix =
    (p : Prefix) (u : List ℕ) → lawful p ≡ true → p.address < 2 ^ 128 → starts_digit u ≡ false → prefix_of (prefix_text p ++ u) ≡ Some (p, u)

-- as a whole word it is a route
abbrev pub ReadsRoute : Type 0
ReadsRoute = (p : Prefix) → lawful p ≡ true → p.address < 2 ^ 128 → route_of (prefix_text p) ≡ Ok p

-- an origin is an AS number with or without `AS` in front, or `none`
pub record ReadsOrigin : Type 0 where
  pub bare : (n : ℕ) → n < 2 ^ 32 → origin_of (decimal n) ≡ Ok (Some n)
  pub named : (n : ℕ) → n < 2 ^ 32 → origin_of (codes "AS" ++ decimal n) ≡ Ok (Some n)
  pub absent : origin_of (codes "none") ≡ Ok None
