-- The subject information access of an authority's certificate (RFC 6487 4.8.8.1): S{S{OID 86}+}, with the folder and the manifest's
-- name among the descriptions. Assumes nothing.
use Rattle.std.specs.Prelude.{ℕ, ◌+◌, Bool, true, cond, ◌&&◌, List, [], ◌∷◌, length, is_some, Some, None, Ok, Option, Result}
use Rattle.std.specs.Option.{option_map}
use Rattle.std.specs.Str.{bytes_eq}
use Rattle.fault.specs.declared.Rule.TheVariants.{Structure, Value}
use Rattle.fault.specs.declared.Layer.TheVariants.{Certificate}
use Rattle.fault.specs.declared.Report.{Report}
use Rattle.element.specs.Reading.{Seen, Octets, octets_of}
use Rattle.layout.specs.Expecting.{broken, then_read, expect_of, end_of, inside}
use Rattle.layout.specs.Rows.{rows_of}
use Rattle.names.specs.Tests.{folder_of, is_folder, is_manifest_name}
use Rattle.x509.specs.Shared.{opened_of}
use Rattle.access.specs.declared.Found.{Found}
use Rattle.access.specs.declared.Access.{Access}

-- 1.3.6.1.5.5.7.48.5, the folder of the publication point
abbrev pub folder_oid : List ℕ
folder_oid = 43 ∷ (6 ∷ (1 ∷ (5 ∷ (5 ∷ (7 ∷ (48 ∷ (5 ∷ [])))))))

-- 1.3.6.1.5.5.7.48.10, the manifest
abbrev pub manifest_oid : List ℕ
manifest_oid = 43 ∷ (6 ∷ (1 ∷ (5 ∷ (5 ∷ (7 ∷ (48 ∷ (10 ∷ [])))))))

-- what was found of the two names so far
pub record Names : Type 0 where
  pub folder : Option Octets
  pub manifest : Option Octets

abbrev pub names_in : Found → Names
names_in f = record { folder = option_map octets_of f.folder; manifest = option_map octets_of f.manifest }

-- a manifest stands in its folder; where only one of the two is known, nothing is said
abbrev pub agrees : List ℕ → Option Octets → Bool
agrees folder None = true
agrees folder (Some m) = bytes_eq (folder_of m.octets) folder

abbrev pub stands_in : List ℕ → Option Octets → Bool
stands_in manifest None = true
stands_in manifest (Some f) = bytes_eq (folder_of manifest) f.octets

-- the name in a description, of tag 86 (134), which passes a test, and nothing after it
abbrev pub name_of : (List ℕ → Bool) → Octets → Result Octets Report
name_of test q =
    then_read (expect_of Certificate 134 q) (λ n.
    cond (test n.0.content) (then_read (end_of Certificate n.1) (λ _. Ok (inside n.0))) (broken Certificate Value n.0.place))

abbrev pub folder_in : Option Octets → Octets → Result Octets Report
folder_in manifest q = name_of (λ s. is_folder s && agrees s manifest) q

abbrev pub manifest_in : Option Octets → Octets → Result Octets Report
manifest_in folder q = name_of (λ s. is_manifest_name s && stands_in s folder) q

abbrev pub other_in : Octets → Result Octets Report
other_in q = name_of (λ s. true) q

-- folder and manifest stand once each, and other descriptions are passed over
abbrev pub with_folder : Names → ℕ → Octets → Result Names Report
with_folder s place q =
    cond (is_some s.folder) (broken Certificate Structure place)
    (then_read (folder_in s.manifest q) (λ f. Ok record { folder = Some f; manifest = s.manifest }))

abbrev pub with_manifest : Names → ℕ → Octets → Result Names Report
with_manifest s place q =
    cond (is_some s.manifest) (broken Certificate Structure place)
    (then_read (manifest_in s.folder q) (λ m. Ok record { folder = s.folder; manifest = Some m }))

abbrev pub described_at : Names → ℕ → Seen × Octets → Result Names Report
described_at s place p =
    cond (bytes_eq p.0.content folder_oid) (with_folder s place p.1)
    (cond (bytes_eq p.0.content manifest_oid) (with_manifest s place p.1)
    (then_read (other_in p.1) (λ _. Ok s)))

abbrev pub described : Names → Seen → Result Names Report
described s e = then_read (opened_of Certificate e) (described_at s e.place)

abbrev pub no_names : Names
no_names = record { folder = None; manifest = None }

-- what the descriptions of a row say
abbrev pub row_of : Octets → Result Names Report
row_of q = rows_of described no_names q

-- both have to stand; what is missing is missing at the end of the row
abbrev pub both_named : ℕ → Option Octets → Option Octets → Result (Octets × Octets) Report
both_named place (Some f) (Some m) = Ok (f, m)
both_named place (Some f) None = broken Certificate Structure place
both_named place None m = broken Certificate Structure place

abbrev pub descriptions_of : Octets → Result (Octets × Octets) Report
descriptions_of q = then_read (row_of q) (λ s. both_named (q.place + length q.octets) s.folder s.manifest)

-- the folder and the manifest's name, from the whole value of the extension
abbrev pub access_of : Octets → Result (Octets × Octets) Report
access_of q =
    then_read (expect_of Certificate 48 q) (λ s.
    then_read (descriptions_of (inside s.0)) (λ a.
    then_read (end_of Certificate s.1) (λ _. Ok a)))

abbrev pub access_in : Access → Octets × Octets
access_in a = (octets_of a.folder, octets_of a.manifest)
