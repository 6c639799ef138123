-- The content of a manifest (RFC 9286 4.2). Assumes nothing.
use Rattle.std.specs.Prelude.{ℕ, cond, not, List, [], ◌∷◌, ◌++◌, map, length, take, Ok, Result, ◌==◌}
use Rattle.std.specs.Str.{bytes_eq}
use Rattle.fault.specs.declared.Rule.TheVariants.{Value}
use Rattle.fault.specs.declared.Layer.TheVariants.{Content}
use Rattle.fault.specs.declared.Report.{Report}
use Rattle.file_faults.specs.declared.ContentFault.{ContentFault}
use Rattle.file_faults.specs.declared.ContentFault.TheVariants.{Own}
use Rattle.file_faults.specs.Reports.{content_report}
use Rattle.moment.specs.Calendar.{number_in}
use Rattle.element.specs.declared.part.Part.{Part}
use Rattle.element.specs.Reading.{Seen, Octets, seen, octets_of}
use Rattle.layout.specs.Expecting.{broken, then_read, expect_of, end_of, inside}
use Rattle.fields.specs.Fields.{number20_of, gtime_of, whole_bits_of}
use Rattle.repeats.specs.Reading.{Reader, tested}
use Rattle.names.specs.Tests.{is_bare}
use Rattle.manifest.specs.declared.Located.{Located}
use Rattle.manifest.specs.declared.ManifestEntry.{ManifestEntry}
use Rattle.manifest.specs.declared.Front.{Front}
use Rattle.manifest.specs.declared.Head.{Head}
use Rattle.manifest.specs.declared.Manifest.{Manifest}

-- ---- one entry

-- what a manifest says of a file: its bare name and its digest
pub record Listed : Type 0 where
  pub name : Octets
  pub digest : Octets

-- an entry up to its name: the name's element, what follows it in the entry, and what follows the entry
pub record Opened : Type 0 where
  pub name : Seen
  pub inner : Octets
  pub after : Octets

-- as the program holds them
abbrev pub front_seen : Front → Opened
front_seen f = record { name = seen f.name; inner = octets_of f.inner; after = octets_of f.after }

abbrev pub located_of : Located → Octets
located_of l = record { octets = l.octets.now; place = l.place }

abbrev pub listed_of : ManifestEntry → Listed
listed_of e = record { name = located_of e.name; digest = located_of e.digest }

-- a bare name, and the octets after it
abbrev pub name_of : Octets → Result (Seen × Octets) Report
name_of q = then_read (expect_of Content 22 q) (λ p. cond (is_bare p.0.content) (Ok p) (broken Content Value p.0.place))

-- an entry up to its name
abbrev pub opened_of : Octets → Result Opened Report
opened_of q = then_read (expect_of Content 48 q) (λ p. then_read (name_of (inside p.0)) (λ n. Ok record { name = n.0; inner = n.1; after = p.1 }))

-- a digest, a BIT STRING of 32 whole octets, with which the octets end
abbrev pub digest_of : Octets → Result Octets Report
digest_of q =
    then_read (whole_bits_of Content q)
    (λ p. then_read (cond (length p.0.octets == 32) (Ok p) (broken Content Value q.place))
    (λ d. then_read (end_of Content d.1) (λ _. Ok d.0)))

-- ---- the entries

-- where a reading of entries is: the octets that are left, and the entries that were read
abbrev pub State : Type 0
State = Octets × List Listed

-- an entry up to its name, and the entries before it
abbrev pub Begun : Type 0
Begun = Opened × List Listed

-- an entry after those before it
abbrev pub added : Begun → Octets → List Listed
added a d = a.1 ++ record { name = inside a.0.name; digest = d } ∷ []

-- a name that stood before is a value that its rule forbids
abbrev pub named_twice : ℕ → ContentFault
named_twice p = Own Value p

-- how entries are read: each up to its name, which stood in no entry before it, and then to its end
abbrev pub entry_reader : Reader State Begun Report
entry_reader = record {
  more = λ s. not (length s.0.octets == 0);
  first = λ s. then_read (opened_of s.0) (λ a. Ok (a, s.1));
  rest = λ a. then_read (digest_of a.0.inner) (λ d. Ok (a.0.after, added a d));
  key = λ a. a.0.name.content;
  place = λ a. a.0.name.place;
  again = λ p. content_report (named_twice p);
}

-- the entries of some octets, whose names are all different; an entry takes octets, so as many as there are octets are all
abbrev pub entries_of : Octets → Result (List Listed) Report
entries_of q = then_read (tested entry_reader (length q.octets) [] (q, [])) (λ s. Ok s.1)

-- ---- the manifest

-- SHA-256 (RFC 5754), by which the digests are made
abbrev pub sha256 : List ℕ
sha256 = 0x60 ∷ 0x86 ∷ 0x48 ∷ 0x01 ∷ 0x65 ∷ 0x03 ∷ 0x04 ∷ 0x02 ∷ 0x01 ∷ []

-- the digest algorithm, and the octets after it
abbrev pub algorithm_of : Octets → Result Octets Report
algorithm_of q = then_read (expect_of Content 6 q) (λ p. cond (bytes_eq p.0.content sha256) (Ok p.1) (broken Content Value p.0.place))

-- what stands in a manifest before its files: its number, when it was issued and when the next is due
pub record Headed : Type 0 where
  pub number : Octets
  pub issued : ℕ
  pub due : ℕ

abbrev pub head_seen : Head → Headed
head_seen h = record { number = octets_of h.number; issued = number_in h.this_update; due = number_in h.next_update }

abbrev pub head_and : Head × Part → Headed × Octets
head_and p = (head_seen p.0, octets_of p.1)

-- the elements of a manifest before its files, and the octets after them
abbrev pub head_of : Octets → Result (Headed × Octets) Report
head_of q =
    then_read (number20_of Content q)
    (λ n. then_read (gtime_of Content n.1)
    (λ t. then_read (gtime_of Content t.1)
    (λ u. then_read (algorithm_of u.1)
    (λ r. Ok (record { number = n.0; issued = t.0; due = u.0 }, r)))))

-- what a manifest says
pub record Manifested : Type 0 where
  pub head : Headed
  pub files : List Listed

-- the files that the first so many records of a table say
abbrev pub listed : ℕ → List ManifestEntry → List Listed
listed n ts = map listed_of (take n ts)

-- a manifest as the program holds it, its files in a table
abbrev pub manifest_seen : List ManifestEntry → Manifest → Manifested
manifest_seen ts m = record { head = head_seen m.head; files = listed m.count ts }

-- the elements inside a manifest's SEQUENCE
abbrev pub body_of : Octets → Result Manifested Report
body_of q =
    then_read (head_of q)
    (λ h. then_read (expect_of Content 48 h.1)
    (λ p. then_read (entries_of (inside p.0))
    (λ fs. then_read (end_of Content p.1) (λ _. Ok record { head = h.0; files = fs }))))

-- a manifest, with which the octets end
abbrev pub manifest_of : Octets → Result Manifested Report
manifest_of q = then_read (expect_of Content 48 q) (λ p. then_read (body_of (inside p.0)) (λ m. then_read (end_of Content p.1) (λ _. Ok m)))
