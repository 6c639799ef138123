-- The entries that were noted, decided by the first repeat. Assumes nothing.
use Rattle.std.proofs.Common.{◌≡◌, ℕ, List, [], length, IfOk, Some, None, Ok, Option, Result, sym, refl, ap, ◌∙◌, subst}
use Rattle.fault.specs.declared.Report.{Report}
use Rattle.file_faults.specs.declared.ContentFault.{ContentFault}
use Rattle.file_faults.specs.Reports.{content_report}
use Rattle.element.specs.Reading.{Octets}
use Rattle.layout.specs.Expecting.{told_by, then_read}
use Rattle.repeats.specs.declared.Spot.{Spot}
use Rattle.repeats.specs.Reading.{tested, unless_repeat, repeat_in, decided}
use Rattle.repeats.proofs.Looking.{looking_after}
use Rattle.manifest.specs.declared.ManifestEntry.{ManifestEntry}
use Rattle.manifest.specs.Manifests.{Listed, Begun, State, named_twice, entry_reader, listed, entries_of}
use Rattle.manifest.specs.Steps.{NotedAs}

abbrev files : State → Result (List Listed) Report
files s = Ok s.1

told_repeat : (us : List ManifestEntry) (p : Option ℕ) (r : Result ℕ ContentFault) (end : Result State Report) → told_by content_report (λ n. listed n us) r ≡ then_read end files → told_by content_report (λ n. listed n us) (unless_repeat named_twice p r) ≡ then_read (unless_repeat entry_reader.again p end) files
told_repeat us None r end e = e
told_repeat us (Some x) r end e = refl

-- what the noted names and the end of the reading decide
pub decides : (q : Octets) (n : ℕ) (ss : List Spot) (us : List ManifestEntry) (parts : List Begun) (end : Result State Report) (r : Result ℕ ContentFault) (p : Option ℕ) (a : Result ℕ ContentFault) → NotedAs q n ss parts end → told_by content_report (λ m. listed m us) r ≡ then_read end files → p ≡ repeat_in entry_reader parts → a ≡ unless_repeat named_twice p r → told_by content_report (λ m. listed m us) a ≡ entries_of q
decides q n ss us parts end r p a h t e i =
    let w : tested entry_reader (length q.octets) [] (q, []) ≡ unless_repeat entry_reader.again (repeat_in entry_reader parts) end =
    looking_after State Begun Report entry_reader (length q.octets) (q, []) ∙ ap (decided entry_reader) h.reads in
    ap (told_by content_report (λ m. listed m us)) i
    ∙ told_repeat us p r end t
    ∙ ap (λ (x : Option ℕ). then_read (unless_repeat entry_reader.again x end) files) e
    ∙ ap (λ (x : Result State Report). then_read x files) (sym w)

-- what holds of the number of entries holds where it is the answer
pub made_unless : (P : ℕ → Type 0) (p : Option ℕ) (r a : Result ℕ ContentFault) → IfOk r P → a ≡ unless_repeat named_twice p r → IfOk a P
made_unless P p r a h i = subst (λ (x : Result ℕ ContentFault). IfOk x P) (sym i) (by p)
  where
    by : (p : Option ℕ) → IfOk (unless_repeat named_twice p r) P
    by None = h
    by (Some x) = tt
