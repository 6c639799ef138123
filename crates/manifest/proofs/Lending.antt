-- Memory that is lent on stays the same. Assumes nothing.
use Rattle.std.proofs.Common.{◌≡◌, ◌+◌, ◌^◌, ◌<◌, ◌≤◌, List, All, length, take, drop, IfOk, Result, sym, ◌∙◌, subst}
use Rattle.fault.specs.declared.Report.{Report}
use Rattle.file_faults.specs.declared.ContentFault.{ContentFault}
use Rattle.file_faults.specs.Reports.{content_report}
use Rattle.element.specs.declared.part.Part.{Part}
use Rattle.element.specs.Reading.{Octets, octets_of}
use Rattle.layout.specs.Expecting.{told_by}
use Rattle.manifest.specs.declared.Located.{Located}
use Rattle.manifest.specs.declared.ManifestEntry.{ManifestEntry}
use Rattle.manifest.specs.declared.Manifest.{Manifest}
use Rattle.manifest.specs.declared.lent.Lent.{Lent}
use Rattle.manifest.specs.Manifests.{Manifested, located_of, manifest_seen}
use Rattle.manifest.specs.Lending.{SameMemory, InMachine, PlacedEntry, StaysPlaced}

pub moved : (s t u : Lent) → SameMemory s t → SameMemory t u → SameMemory s u
moved s t u a b = (b.0 ∙ a.0, b.1 ∙ a.1)

-- what a part of a file was copied to lies in the machine as the part does
pub in_machine : (p : Part) (l : Located) → located_of l ≡ octets_of p → InMachine l
in_machine p l e = subst (λ (o : Octets). o.place + length o.octets < 2 ^ 64) (sym e) p.placed

-- what the table holds at the end of the loan is what it held at last
pub seen_at :
    (m : Result Manifest ContentFault) (us vs : List ManifestEntry) (r : Result Manifested Report) → us ≡ vs
    → told_by content_report (manifest_seen us) m ≡ r → told_by content_report (manifest_seen vs) m ≡ r
seen_at m us vs r same e = subst (λ (xs : List ManifestEntry). told_by content_report (manifest_seen xs) m ≡ r) same e

abbrev Past : Result Manifest ContentFault → List ManifestEntry → List ManifestEntry → Type 0
Past m ts us = IfOk m (λ x. (drop x.count us ≡ drop x.count ts) × (x.count ≤ length us))

pub past_at : (m : Result Manifest ContentFault) (ts us vs : List ManifestEntry) → us ≡ vs → Past m ts us → Past m ts vs
past_at m ts us vs same h = subst (λ (xs : List ManifestEntry). Past m ts xs) same h

-- the entries that were read are placed
abbrev Read : Result Manifest ContentFault → List ManifestEntry → Type 0
Read m us = IfOk m (λ x. All PlacedEntry (take x.count us))

pub read_at : (m : Result Manifest ContentFault) (us vs : List ManifestEntry) → us ≡ vs → Read m us → Read m vs
read_at m us vs same h = subst (Read m) same h

pub stays_at : (ts us vs : List ManifestEntry) → us ≡ vs → StaysPlaced ts us → StaysPlaced ts vs
stays_at ts us vs same h = subst (StaysPlaced ts) same h
