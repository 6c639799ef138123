-- What the answers of the readers tell. Assumes nothing.
use Rattle.std.proofs.Common.{◌≡◌, ℕ, false, eqb, List, [], length, take, drop, Some, None, Ok, Err, Result, sym, refl, ap, ◌∙◌, subst, inl, inr, arith}
use Rattle.std.proofs.lemmas.List.{take-append-le, take_all}
use Rattle.std.proofs.lemmas.Bool.{cond-false, ne_eqb}
use Rattle.fault.specs.declared.Rule.TheVariants.{Value}
use Rattle.fault.specs.declared.Layer.TheVariants.{Set}
use Rattle.fault.specs.declared.Report.{Report}
use Rattle.fault.specs.declared.SetFault.{SetFault}
use Rattle.fault.specs.Faults.{set_report, reported}
use Rattle.family.specs.declared.Family.{Family}
use Rattle.family.specs.declared.Family.TheVariants.{Ipv4, Ipv6}
use Rattle.element.specs.Reading.{Seen, Octets}
use Rattle.layout.specs.Expecting.{broken, then_read}
use Rattle.points.specs.declared.V4.{V4}
use Rattle.points.specs.declared.V6.{V6}
use Rattle.points.specs.declared.Asn.{Asn}
use Rattle.points.specs.Ranks.{v4_rank, v6_rank, asn_rank}
use Rattle.ranges.specs.declared.Range.{Range}
use Rattle.entries.specs.Addresses.{inside}
use Rattle.entries.specs.Kinds.{v4_entry, v6_entry, asn_entry}
use Rattle.lists.specs.Entries.{kept}
use Rattle.resources.specs.declared.Held.{Held}
use Rattle.resources.specs.declared.Held.TheVariants as held
use Rattle.resources.specs.declared.Addresses.{Addresses}
use Rattle.resources.specs.declared.May.{May}
use Rattle.resources.specs.declared.Tables.{Tables}
use Rattle.resources.specs.Parts.{holds}
use Rattle.resources.specs.Values.{last_of, families_of, addresses_of, addresses_v4, addresses_v6, asn_of, asn_ranges, asn_tables, address_tables}
use Rattle.resources.specs.Meaning.{PartSays, AsnSays, Optional, AddressesSay, FamilyAt, FamilySays, ListAt, AsnListIn, FamiliesListIn, AddressListIn, EmptyRefused, Tells, asn_listed, addresses_listed}
use Rattle.resources.proofs.Steps.{not_ended, expect-is}
use Rattle.resources.proofs.Says.{part-is, empty-refused}
use Rattle.resources.proofs.Wholes.{then_at, asn_says, asn_is, addresses_say, addresses-are, at-is, second_read}

module _ {P : Type 0} (rank : P → ℕ) (entry : Seen → Result (Range P) Report) where
  -- a part that is read holds what it lists at the front of the table
  part_held :
      (m : May) (q : Octets) (h : Held) (rs before : List (Range P)) → PartSays rank entry m q h rs → holds (kept rs before) [] h ≡ rs
  part_held m q held.Absent rs before s = absurd s
  part_held m q held.Inherited rs before s = sym s.1
  part_held m q (held.List place n) rs before s = ap (λ (k : ℕ). take k (kept rs before)) s.1 ∙ take-append-le (length rs) rs (drop (length rs) before) (omega arith) ∙ take_all (length rs) rs (omega arith)

  optional-held :
      (m : May) (n : Family) (q : Octets) (h : Held) (rs before : List (Range P)) (after : Octets) → Optional rank entry m n q h rs after
      → holds (kept rs before) [] h ≡ rs
  optional-held m n q held.Absent rs before after o = sym o.1
  optional-held m n q held.Inherited rs before after o = part_held m o.inner held.Inherited rs before o.part
  optional-held m n q (held.List place k) rs before after o = part_held m o.inner (held.List place k) rs before o.part

asn-tells :
    (m : May) (q : Octets) (t : Tables) (r : Result Held SetFault) → reported set_report r ≡ asn_of m q
    → Tells (AsnSays m q) (asn_listed (asn_tables m q t)) r
asn-tells m q t (Ok h) e =
    let s = asn_says m q h e in
    let i = part_held asn_rank asn_entry m (inside s.numbers) h (asn_ranges m q) t.asn s.part in (
      subst (λ (l : List (Range Asn)). AsnSays m q h l) (sym i) s,
      λ u v w. (let x = asn_is m q u v w in let a = x.0 in (cc, sym x.1 ∙ sym i)),
    )
asn-tells m q t (Err f) e = λ u v w. (let x = asn_is m q u v w in let a = x.0 in cc)

-- the same of tables that hold what was read
pub asn-told :
    (m : May) (q : Octets) (t : Tables) (asn : List (Range Asn)) (r : Result Held SetFault) → reported set_report r ≡ asn_of m q
    → asn ≡ kept (asn_ranges m q) t.asn → Tells (AsnSays m q) (asn_listed record { v4 = t.v4; v6 = t.v6; asn = asn }) r
asn-told m q t asn r e i =
    subst (λ (x : List (Range Asn)). Tells (AsnSays m q) (asn_listed record { v4 = t.v4; v6 = t.v6; asn = x }) r) (sym i) (asn-tells m q t r e)

abbrev Both : Type 0
Both = List (Range V4) × List (Range V6)

addresses-tell :
    (m : May) (q : Octets) (t : Tables) (r : Result Addresses SetFault) → reported set_report r ≡ addresses_of m q
    → Tells (AddressesSay m q) (addresses_listed (address_tables m q t)) r
addresses-tell m q t (Ok a) e =
    let s = addresses_say m q a e in
    let f = s.families in
    let i = optional-held v4_rank v4_entry m Ipv4 (inside s.outer) a.v4 (addresses_v4 m q) t.v4 f.middle f.v4 in
    let j = optional-held v6_rank v6_entry m Ipv6 f.middle a.v6 (addresses_v6 m q) t.v6 f.after f.v6 in
    let both : (addresses_v4 m q, addresses_v6 m q) ≡ addresses_listed (address_tables m q t) a =
    ap (λ (l : List (Range V4)). (l, addresses_v6 m q)) (sym i) ∙ ap (λ (l : List (Range V6)). (holds (kept (addresses_v4 m q) t.v4) [] a.v4, l)) (sym j) in (
      subst (λ (l : Both). AddressesSay m q a l) both s,
      λ u v w.
          (let x = addresses-are m q u v w in
          let o = x.0 in
          (cc, ap (λ (l : List (Range V4)). (l, v.1)) (sym x.1) ∙ ap (λ (l : List (Range V6)). (addresses_v4 m q, l)) (sym x.2) ∙ both)),
    )
addresses-tell m q t (Err f) e =
    λ u v w. (let x = addresses-are m q u v w in let a = x.0 in cc)

-- the same of tables that hold what was read
pub addresses-told :
    (m : May) (q : Octets) (t u : Tables) (r : Result Addresses SetFault) → reported set_report r ≡ addresses_of m q
    → u ≡ address_tables m q t → Tells (AddressesSay m q) (addresses_listed u) r
addresses-told m q t u r e i =
    subst (λ (x : Tables). Tells (AddressesSay m q) (addresses_listed x) r) (sym i) (addresses-tell m q t r e)

-- a step that failed
then_err : {V W : Type 0} {r : Result V Report} {f : Report} (k : V → Result W Report) → r ≡ Err f → then_read r k ≡ Err f
then_err k e = ap (λ r. then_read r k) e

pub asn_empty : (m : May) (q : Octets) (r : Result Held Report) → r ≡ asn_of m q → EmptyRefused (AsnListIn q) r
asn_empty m q r i e l none =
    let outer = expect-is Set 48 q l.outer l.outer_after l.value l.value_tag in
    let inner = expect-is Set 160 (inside l.outer) l.numbers l.numbers_after l.choice l.choice_tag in
    let p = empty-refused asn_rank asn_entry m (inside l.numbers) e l.list.after l.list.next l.list.tagged none in
    i ∙ then_at _ outer ∙ then_at _ inner ∙ then_err _ p

first-empty :
    (m : May) (q : Octets) (e : Seen) (g : Family) (p after : Octets) → FamilyAt g q p after → ListAt p e
    → length e.content ≡ 0 → families_of m q ≡ broken Set Value e.place
first-empty m q e Ipv4 p after f l none =
    let a = at-is Ipv4 None q p after f refl in
    then_at _ a ∙ then_err _ (empty-refused v4_rank v4_entry m p e l.after l.next l.tagged none)
first-empty m q e Ipv6 p after f l none =
    let a = at-is Ipv6 None q p after f refl in
    let last : last_of m p after ≡ broken Set Value e.place = then_err _ (empty-refused v6_rank v6_entry m p e l.after l.next l.tagged none) in
    then_at _ a ∙ then_err _ last

second_empty :
    (m : May) (q : Octets) (e : Seen) (h : Held) (rs : List (Range V4)) (middle p after : Octets) → FamilySays v4_rank v4_entry m Ipv4 q h rs middle
    → FamilyAt Ipv6 middle p after → ListAt p e → length e.content ≡ 0 → families_of m q ≡ broken Set Value e.place
second_empty m q e h rs middle p after f g l none =
    let a = at-is Ipv4 None q f.inner middle f.stands refl in
    let v4 = part-is v4_rank v4_entry m f.inner h rs f.part in
    let b = at-is Ipv6 (Some Ipv4) middle p after g refl in
    let t : eqb (length middle.octets) 0 ≡ false = ne_eqb _ _ (not_ended middle g.family after g.first) in
    then_at _ a ∙ then_at _ v4.0
    ∙ then_err _ (cond-false (eqb (length middle.octets) 0) (Ok held.Absent) (second_read m middle) t
    ∙ then_at _ b ∙ then_err _ (empty-refused v6_rank v6_entry m p e l.after l.next l.tagged none))

families_empty : (m : May) (q : Octets) (e : Seen) → FamiliesListIn m q e → length e.content ≡ 0 → families_of m q ≡ broken Set Value e.place
families_empty m q e (inl x) none = first-empty m q e x.0 x.1 x.2 x.3 x.4 none
families_empty m q e (inr x) none = second_empty m q e x.0 x.1 x.2 x.3 x.4 x.5 x.6 x.7 none

pub addresses_empty : (m : May) (q : Octets) (r : Result Addresses Report) → r ≡ addresses_of m q → EmptyRefused (AddressListIn m q) r
addresses_empty m q r i e l none =
    i ∙ then_at _ (expect-is Set 48 q l.outer l.after l.value l.value_tag) ∙ then_err _ (families_empty m (inside l.outer) e l.list none)
