-- Which octets are a name, a folder, a bare name and a manifest's name, as relations. Assumes nothing.
use Rattle.std.specs.Prelude.{◌≡◌, ℕ, ◌+◌, ◌-◌, ◌<◌, ◌≤◌, ◌⊎◌, List, ◌∷◌, ◌++◌, length, ◌≢◌, slice_index}
use Rattle.std.specs.List.{AllByRecursion}
use Rattle.names.specs.declared.Class.{Class}
use Rattle.names.specs.declared.Class.TheVariants.{Visible, Stem, Lower}
use Rattle.names.specs.declared.Ending.TheVariants.{Mft}
use Rattle.names.specs.Tests.{folder_of, text_of}

abbrev pub Between : ℕ → ℕ → ℕ → Type 0
Between a z c = (a ≤ c) × (c ≤ z)

-- an octet of a class: from 21 to 7E; a letter, a digit, "-" or "_"; a letter a to z
abbrev pub Of : Class → ℕ → Type 0
Of Visible c = Between 33 126 c
Of Stem c = Between 97 122 c ⊎ (Between 65 90 c ⊎ (Between 48 57 c ⊎ ((c ≡ 45) ⊎ (c ≡ 95))))
Of Lower c = Between 97 122 c

-- the last octet is "/"
abbrev pub Slashed : List ℕ → Type 0
Slashed s = slice_index s (length s - 1) ≡ 47

-- the first n octets of s run through its last "/"; n is 0 where s has none
pub record FolderEnd (s : List ℕ) (n : ℕ) : Type 0 where
  pub within : n ≤ length s
  pub slash : (k : ℕ) → k + 1 ≡ n → slice_index s k ≡ 47
  pub last : (k : ℕ) → n ≤ k → k < length s → slice_index s k ≢ 47

-- a name: 1 to 128 octets from 21 to 7E, with a "/" and not ending with it
pub record Name (s : List ℕ) : Type 0 where
  pub some : 1 ≤ length s
  pub short : length s ≤ 128
  pub visible : AllByRecursion (Of Visible) s
  pub slash : (k : ℕ) × ((k < length s) × (slice_index s k ≡ 47))
  pub goes_on : Slashed s → ⊥

-- a folder: 1 to 127 octets from 21 to 7E, ending with "/"
pub record Folder (s : List ℕ) : Type 0 where
  pub some : 1 ≤ length s
  pub short : length s ≤ 127
  pub visible : AllByRecursion (Of Visible) s
  pub ended : Slashed s

-- a bare name: letters, digits, "-" or "_", at least one, then "." and three letters a to z
pub record Bare (s : List ℕ) : Type 0 where
  pub stem : List ℕ
  pub end : List ℕ
  pub whole : s ≡ stem ++ (46 ∷ end)
  pub some : 1 ≤ length stem
  pub letters : AllByRecursion (Of Stem) stem
  pub three : length end ≡ 3
  pub lower : AllByRecursion (Of Lower) end

abbrev pub EndsWith : List ℕ → List ℕ → Type 0
EndsWith s t = (front : List ℕ) × (s ≡ front ++ t)

-- the name of a manifest: a name that is a folder and a bare name that ends .mft
pub record ManifestName (s : List ℕ) : Type 0 where
  pub name : Name s
  pub folder : List ℕ
  pub base : List ℕ
  pub whole : s ≡ folder ++ base
  pub ended : Slashed folder
  pub bare : Bare base
  pub manifest : EndsWith base (text_of Mft)

-- the folder of a folder followed by a bare name is that folder
abbrev pub FolderOfBare : Type 0
FolderOfBare = (f b : List ℕ) → Slashed f → Bare b → folder_of (f ++ b) ≡ f
