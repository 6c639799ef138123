-- What the readers answer, as octets. Assumes nothing.
use Rattle.std.specs.Prelude.{◌≢◌, ℕ, List, Option}
use Rattle.std.specs.Option.{option_map}
use Rattle.std.specs.Borrow.{Bor}
use Rattle.oracle.specs.declared.Claim.{Claim}
use Rattle.record.specs.declared.Kind.{Kind}
use Rattle.record.specs.declared.Kind.TheVariants as kinds
use Rattle.record.specs.declared.KnownDigest.{KnownDigest}
use Rattle.record.specs.declared.Record.{Record}
use Rattle.record.specs.declared.Record.TheVariants.{Digest, Verdict}
use Rattle.record.specs.declared.Reading.{Reading}
use Rattle.record.specs.declared.Records.{Records}
use Rattle.record.specs.Format.{Front, Entry, Known, Signed, records}

-- the octet that stands for a kind
abbrev pub kind_octet : Kind → ℕ
kind_octet kinds.Digest = 0x44
kind_octet kinds.Verdict = 0x59

-- an octet that stands for no kind
abbrev pub StandsForNone : ℕ → Type 0
StandsForNone octet = (kind : Kind) → kind_octet kind ≢ octet

abbrev pub known_seen : KnownDigest → Entry
known_seen known = Known known.octets.now known.digest

abbrev pub claim_seen : Claim → Entry
claim_seen claim = Signed claim.key.now claim.message.now claim.signature.now

abbrev pub record_seen : Record → Entry
record_seen (Digest known) = known_seen known
record_seen (Verdict claim) = claim_seen claim

abbrev pub field_seen : Option (Reading (Bor (List ℕ))) → Front (List ℕ)
field_seen r = option_map (λ v. (v.value.now, v.rest.now)) r

abbrev pub reading_seen : Option (Reading Record) → Front Entry
reading_seen r = option_map (λ v. (record_seen v.value, v.rest.now)) r

-- the records that are still to come
abbrev pub records_left : Records → List Entry
records_left s = records s.rest.now
