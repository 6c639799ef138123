-- What the values of the two extensions say, and what reading them answers. Assumes nothing.
use Rattle.std.proofs.Common.{◌≡◌, ℕ, Bool, true, false, cond, eqb, ◌⊎◌, List, [], length, Some, None, Ok, Option, Result, sym, refl, ap, ◌∙◌, subst, inl, inr}
use Rattle.std.proofs.lemmas.Bool.{cond-true, cond-false, eq-eqb, ne_eqb, eqb-true}
use Rattle.std.specs.Str.{bytes_eq}
use Rattle.std.proofs.lemmas.Slice.Eq.{bytes_eq-Decides}
use Rattle.fault.specs.declared.Rule.TheVariants.{Value}
use Rattle.fault.specs.declared.Layer.TheVariants.{Set}
use Rattle.fault.specs.declared.Report.{Report}
use Rattle.family.specs.declared.Family.{Family}
use Rattle.family.specs.declared.Family.TheVariants.{Ipv4, Ipv6}
use Rattle.element.specs.Reading.{Seen, Octets}
use Rattle.layout.specs.Expecting.{then_read, expect_of, end_of}
use Rattle.families.specs.Families.{family_named, follows, in_order, family_after}
use Rattle.points.specs.declared.V4.{V4}
use Rattle.points.specs.declared.V6.{V6}
use Rattle.points.specs.declared.Asn.{Asn}
use Rattle.points.specs.Ranks.{v4_rank, v6_rank, asn_rank}
use Rattle.ranges.specs.declared.Range.{Range}
use Rattle.entries.specs.Addresses.{inside}
use Rattle.entries.specs.Kinds.{v4_entry, v6_entry, asn_entry}
use Rattle.resources.specs.declared.Held.{Held}
use Rattle.resources.specs.declared.Held.TheVariants as held
use Rattle.resources.specs.declared.Addresses.{Addresses}
use Rattle.resources.specs.declared.May.{May}
use Rattle.resources.specs.Parts.{read_by, read_part, ranges_of}
use Rattle.resources.specs.Values.{next_family, further, no_more, last_of, second_of, second_ranges, from_first, families_of, v4_first, families_v4, v6_from, families_v6, addresses_of, addresses_v4, addresses_v6, asn_of, asn_ranges}
use Rattle.resources.specs.Meaning.{Ended, PartSays, AsnSays, name_of, FamilyAt, FamilySays, Optional, FamiliesSay, AddressesSay}
use Rattle.resources.proofs.Steps.{then_ok, cond_ok, not_ended, expect-ok, expect-is, end_ok, end_is}
use Rattle.resources.proofs.Forwards.{v4_forward, v6_forward, asn_forward}
use Rattle.resources.proofs.Says.{part_says, part-is}

-- a step that succeeded, in what is read and in what is kept
pub then_at : {V W : Type 0} {r : Result V Report} {v : V} (k : V → Result W Report) → r ≡ Ok v → then_read r k ≡ k v
then_at k e = ap (λ r. then_read r k) e

pub by_at : {V X : Type 0} {r : Result V Report} {v : V} (k : V → List X) → r ≡ Ok v → read_by r k ≡ k v
by_at k e = ap (λ r. read_by r k) e

-- the value for AS numbers
pub asn_says : (m : May) (q : Octets) (h : Held) → Ok h ≡ asn_of m q → AsnSays m q h (asn_ranges m q)
asn_says m q h e =
    let a = then_ok (expect_of Set 48 q) _ h e in
    let b = then_ok (expect_of Set 160 (inside a.0.0)) _ h a.2 in
    let c = then_ok (read_part asn_rank asn_entry m (inside b.0.0)) _ h b.2 in
    let d = then_ok (end_of Set b.0.1) _ h c.2 in
    let f = then_ok (end_of Set a.0.1) _ h d.2 in
    let outer = expect-ok Set 48 q a.0 (sym a.1) in
    let inner = expect-ok Set 160 (inside a.0.0) b.0 (sym b.1) in
    let i : Ok h ≡ read_part asn_rank asn_entry m (inside b.0.0) = f.2 ∙ sym c.1 in
    let rs : ranges_of asn_rank asn_entry m (inside b.0.0) ≡ asn_ranges m q =
    sym (by_at (λ s. read_by (expect_of Set 160 (inside s.0)) (λ a. ranges_of asn_rank asn_entry m (inside a.0))) a.1
    ∙ by_at (λ a. ranges_of asn_rank asn_entry m (inside a.0)) b.1) in
    record {
      outer = a.0.0;
      numbers = b.0.0;
      value = record { after = a.0.1; next = outer.0; tagged = outer.1; ended = end_ok Set a.0.1 (sym f.1) };
      choice = record { after = b.0.1; next = inner.0; tagged = inner.1; ended = end_ok Set b.0.1 (sym d.1) };
      part = subst (λ (x : List (Range Asn)). PartSays asn_rank asn_entry m (inside b.0.0) h x) rs
          (part_says asn_rank asn_entry asn_forward m (inside b.0.0) h i);
    }

pub asn_is : (m : May) (q : Octets) (h : Held) (rs : List (Range Asn)) → AsnSays m q h rs → (asn_of m q ≡ Ok h) × (asn_ranges m q ≡ rs)
asn_is m q h rs s =
    let v = s.value in
    let c = s.choice in
    let outer = expect-is Set 48 q s.outer v.after v.next v.tagged in
    let inner = expect-is Set 160 (inside s.outer) s.numbers c.after c.next c.tagged in
    let p = part-is asn_rank asn_entry m (inside s.numbers) h rs s.part in (
      then_at _ outer ∙ then_at _ inner ∙ then_at _ p.0 ∙ then_at _ (end_is Set c.after c.ended) ∙ then_at _ (end_is Set v.after v.ended),
      by_at _ outer ∙ by_at _ inner ∙ p.1,
    )

-- the octets that name a family, by the tests for either
named_by :
    (s : List ℕ) (a b : Bool) (f : Family) → (a ≡ true → s ≡ name_of Ipv4) → (b ≡ true → s ≡ name_of Ipv6)
    → cond a (Some Ipv4) (cond b (Some Ipv6) None) ≡ Some f → s ≡ name_of f
named_by s true b f u v e = let i : Ipv4 ≡ f = cc in u refl ∙ ap name_of i
named_by s false true f u v e = let i : Ipv6 ≡ f = cc in v refl ∙ ap name_of i
named_by s false false f u v e = cc

name_octets : (s : List ℕ) (f : Family) → family_named s ≡ Some f → s ≡ name_of f
name_octets s f e =
    named_by s (bytes_eq s (name_of Ipv4)) (bytes_eq s (name_of Ipv6)) f
    (bytes_eq-Decides s (name_of Ipv4)).0 (bytes_eq-Decides s (name_of Ipv6)).0 e

names_family : (f : Family) → family_named (name_of f) ≡ Some f
names_family Ipv4 = refl
names_family Ipv6 = refl

-- a name that was read in its order
in_order_ok :
    (b : Option Family) (place : ℕ) (q : Octets) (o : Option Family) (x : Family × Octets) → Ok x ≡ in_order Set b place q o
    → (o ≡ Some x.0) × (q ≡ x.1) × (follows b x.0 ≡ true)
in_order_ok b place q None x e = absurd cc
in_order_ok b place q (Some f) x e =
    let t = cond_ok (follows b f) Set Value place (Ok (f, q)) x e in
    let i : (f, q) ≡ x = (let k = t.1 in cc) in
    let n : f ≡ x.0 = ap (λ (y : Family × Octets). y.0) i in
    (ap Some n, ap (λ (y : Family × Octets). y.1) i, ap (follows b) (sym n) ∙ t.0)

-- only IPv6 follows IPv4, and nothing IPv6
after_v4 : (f : Family) → follows (Some Ipv4) f ≡ true → f ≡ Ipv6
after_v4 Ipv4 e = absurd cc
after_v4 Ipv6 e = refl

after_v6 : (f : Family) → follows (Some Ipv6) f ≡ true → ⊥
after_v6 f e = cc

abbrev Found : Type 0
Found = Family × Octets × Octets

-- a family that was read stands there
at_ok :
    (q : Octets) (b : Option Family) (x : Found) → Ok x ≡ next_family b q → FamilyAt x.0 q x.1 x.2 × (follows b x.0 ≡ true)
at_ok q b x e =
    let s = then_ok (expect_of Set 48 q) _ x e in
    let family = s.0.0 in
    let outer = expect-ok Set 48 q s.0 (sym s.1) in
    let h = then_ok (family_after Set b (inside family)) _ x s.2 in
    let a = then_ok (expect_of Set 4 (inside family)) _ h.0 (sym h.1) in
    let name = a.0.0 in
    let inner = expect-ok Set 4 (inside family) a.0 (sym a.1) in
    let t = in_order_ok b name.place a.0.1 (family_named name.content) h.0 a.2 in
    let i : (h.0.0, h.0.1, s.0.1) ≡ x = (let k = h.2 in cc) in
    subst (λ (y : Found). FamilyAt y.0 q y.1 y.2 × (follows b y.0 ≡ true)) i (
      record {
        family = family;
        name = name;
        first = outer.0;
        tagged = outer.1;
        named = inner.0 ∙ ap (λ (y : Octets). Ok (name, y)) t.1;
        octets = inner.1;
        names = name_octets name.content h.0.0 t.0;
      },
      t.2,
    )

-- of a family that stands there, the element is read, and then the name and what follows it
pub at_parts :
    (g : Family) (b : Option Family) (q p after : Octets) (f : FamilyAt g q p after) → follows b g ≡ true
    → (expect_of Set 48 q ≡ Ok (f.family, after)) × (family_after Set b (inside f.family) ≡ Ok (g, p))
at_parts g b q p after f past =
    let i : family_named f.name.content ≡ Some g = ap family_named f.names ∙ names_family g in (
      expect-is Set 48 q f.family after f.first f.tagged,
      then_at _ (expect-is Set 4 (inside f.family) f.name p f.named f.octets)
          ∙ ap (in_order Set b f.name.place p) i
          ∙ cond-true (follows b g) _ _ past,
    )

-- so the family is read
pub at-is :
    (g : Family) (b : Option Family) (q p after : Octets) → FamilyAt g q p after → follows b g ≡ true → next_family b q ≡ Ok (g, p, after)
at-is g b q p after f past = let r = at_parts g b q p after f past in then_at _ r.0 ∙ then_at _ r.1

no_more_by : (b : Bool) (q : Octets) → b ≡ eqb (length q.octets) 0 → Ok tt ≡ cond b (Ok tt) (further q) → Ended q
no_more_by true q i e = eqb-true _ _ (sym i)
no_more_by false q i e =
    let a = then_ok (next_family (Some Ipv6) q) _ tt e in
    absurd (after_v6 a.0.0 (at_ok q (Some Ipv6) a.0 (sym a.1)).1)

-- nothing follows IPv6
no_more_ok : (q : Octets) → Ok tt ≡ no_more q → Ended q
no_more_ok q e = no_more_by (eqb (length q.octets) 0) q refl e

no_more_is : (q : Octets) → Ended q → no_more q ≡ Ok tt
no_more_is q h = cond-true (eqb (length q.octets) 0) _ _ (eq-eqb _ _ h)

module _ {P : Type 0} (rank : P → ℕ) (entry : Seen → Result (Range P) Report) where
  -- a family that says something is present
  optional-of :
      (m : May) (n : Family) (q : Octets) (h : Held) (rs : List (Range P)) (after : Octets) → FamilySays rank entry m n q h rs after
      → Optional rank entry m n q h rs after
  optional-of m n q held.Absent rs after f = absurd f.part
  optional-of m n q held.Inherited rs after f = f
  optional-of m n q (held.List place k) rs after f = f

  -- a family is absent, or says something
  abbrev Gone : Octets → Held → List (Range P) → Octets → Type 0
  Gone q h rs after = (h ≡ held.Absent) × (after ≡ q) × (rs ≡ [])

  optional-is :
      (m : May) (n : Family) (q : Octets) (h : Held) (rs : List (Range P)) (after : Octets) → Optional rank entry m n q h rs after
      → Gone q h rs after ⊎ FamilySays rank entry m n q h rs after
  optional-is m n q held.Absent rs after o = inl (refl, o.0, o.1)
  optional-is m n q held.Inherited rs after o = inr o
  optional-is m n q (held.List place k) rs after o = inr o

abbrev V6Optional : May → Octets → Held → List (Range V6) → Octets → Type 0
V6Optional m q h rs after = Optional v6_rank v6_entry m Ipv6 q h rs after

-- IPv6 after IPv4
pub record Second (m : May) (q : Octets) (h : Held) (rs : List (Range V6)) : Type 0 where
  pub after : Octets
  pub said : V6Optional m q h rs after
  pub ended : Ended after

-- an IPv6 family whose part was read, and nothing after it
v6_read :
    (m : May) (q p after : Octets) (h : Held) → FamilyAt Ipv6 q p after → Ok h ≡ read_part v6_rank v6_entry m p → Ended after
    → Second m q h (ranges_of v6_rank v6_entry m p)
v6_read m q p after h f e n =
    record {
      after = after;
      said = optional-of v6_rank v6_entry m Ipv6 q h (ranges_of v6_rank v6_entry m p) after
          (record { inner = p; stands = f; part = part_says v6_rank v6_entry v6_forward m p h e });
      ended = n;
    }

abbrev pub second_read : May → Octets → Result Held Report
second_read m q = then_read (next_family (Some Ipv4) q) (λ h. last_of m h.1 h.2)

abbrev pub second_kept : May → Octets → List (Range V6)
second_kept m q = read_by (next_family (Some Ipv4) q) (λ h. ranges_of v6_rank v6_entry m h.1)

second-by :
    (b : Bool) (m : May) (q : Octets) (h : Held) → b ≡ eqb (length q.octets) 0 → Ok h ≡ cond b (Ok held.Absent) (second_read m q)
    → Second m q h (cond b [] (second_kept m q))
second-by true m q h i e =
    let a : held.Absent ≡ h = cc in
    subst (λ (y : Held). Second m q y []) a (record { after = q; said = (refl, refl); ended = eqb-true _ _ (sym i) })
second-by false m q h i e =
    let b = then_ok (next_family (Some Ipv4) q) _ h e in
    let x = b.0 in
    let c = then_ok (read_part v6_rank v6_entry m x.1) _ h b.2 in
    let d = then_ok (no_more x.2) _ h c.2 in
    let f = at_ok q (Some Ipv4) x (sym b.1) in
    let g : FamilyAt Ipv6 q x.1 x.2 = subst (λ (k : Family). FamilyAt k q x.1 x.2) (after_v4 x.0 f.1) f.0 in
    let rs : ranges_of v6_rank v6_entry m x.1 ≡ second_kept m q = sym (by_at (λ h. ranges_of v6_rank v6_entry m h.1) b.1) in
    subst (λ (y : List (Range V6)). Second m q h y) rs
    (v6_read m q x.1 x.2 h g (d.2 ∙ sym c.1) (no_more_ok x.2 (sym d.1)))

second_says : (m : May) (q : Octets) (h : Held) → Ok h ≡ second_of m q → Second m q h (second_ranges m q)
second_says m q h e = second-by (eqb (length q.octets) 0) m q h refl e

second_is :
    (m : May) (q : Octets) (h : Held) (rs : List (Range V6)) (after : Octets)
    → Gone v6_rank v6_entry q h rs after ⊎ FamilySays v6_rank v6_entry m Ipv6 q h rs after → Ended after
    → (second_of m q ≡ Ok h) × (second_ranges m q ≡ rs)
second_is m q h rs after (inl g) n =
    let ended : Ended q = subst (λ (y : Octets). Ended y) g.1 n in
    let t : eqb (length q.octets) 0 ≡ true = eq-eqb _ _ ended in (
      cond-true (eqb (length q.octets) 0) (Ok held.Absent) (second_read m q) t ∙ ap Ok (sym g.0),
      cond-true (eqb (length q.octets) 0) [] (second_kept m q) t ∙ sym g.2,
    )
second_is m q h rs after (inr f) n =
    let a = at-is Ipv6 (Some Ipv4) q f.inner after f.stands refl in
    let p = part-is v6_rank v6_entry m f.inner h rs f.part in
    let t : eqb (length q.octets) 0 ≡ false = ne_eqb _ _ (not_ended q f.stands.family after f.stands.first) in (
      cond-false (eqb (length q.octets) 0) (Ok held.Absent) (second_read m q) t
          ∙ then_at _ a ∙ then_at _ p.0 ∙ then_at _ (no_more_is after n),
      cond-false (eqb (length q.octets) 0) [] (second_kept m q) t ∙ by_at _ a ∙ p.1,
    )

-- the families by the first of them
families-by :
    (g : Family) (m : May) (q p after : Octets) (a : Addresses) → FamilyAt g q p after → Ok a ≡ from_first g m p after
    → FamiliesSay m q a (v4_first g m p, v6_from g m p after)
families-by Ipv6 m q p after a f e =
    let b = then_ok (last_of m p after) _ a e in
    let c = then_ok (read_part v6_rank v6_entry m p) _ b.0 (sym b.1) in
    let d = then_ok (no_more after) _ b.0 c.2 in
    let z = v6_read m q p after b.0 f (d.2 ∙ sym c.1) (no_more_ok after (sym d.1)) in
    let is : record { v4 = held.Absent; v6 = b.0 } ≡ a = (let k = b.2 in cc) in
    subst (λ (y : Addresses). FamiliesSay m q y ([], ranges_of v6_rank v6_entry m p)) is
    (record {
      middle = q;
      after = z.after;
      some = not_ended q f.family after f.first;
      v4 = (refl, refl);
      v6 = z.said;
      ended = z.ended;
    })
families-by Ipv4 m q p after a f e =
    let b = then_ok (read_part v4_rank v4_entry m p) _ a e in
    let c = then_ok (second_of m after) _ a b.2 in
    let z = second_says m after c.0 (sym c.1) in
    let is : record { v4 = b.0; v6 = c.0 } ≡ a = (let k = c.2 in cc) in
    let rs : second_ranges m after ≡ v6_from Ipv4 m p after = sym (by_at (λ _. second_ranges m after) b.1) in
    let rs4 = ranges_of v4_rank v4_entry m p in
    subst (λ (l : List (Range V6)). FamiliesSay m q a (rs4, l)) rs
    (subst (λ (y : Addresses). FamiliesSay m q y (rs4, second_ranges m after)) is
    (record {
      middle = after;
      after = z.after;
      some = not_ended q f.family after f.first;
      v4 = optional-of v4_rank v4_entry m Ipv4 q b.0 rs4 after
          (record { inner = p; stands = f; part = part_says v4_rank v4_entry v4_forward m p b.0 (sym b.1) });
      v6 = z.said;
      ended = z.ended;
    }))

families_say : (m : May) (q : Octets) (a : Addresses) → Ok a ≡ families_of m q → FamiliesSay m q a (families_v4 m q, families_v6 m q)
families_say m q a e =
    let c = then_ok (next_family None q) _ a e in
    let x = c.0 in
    let f = at_ok q None x (sym c.1) in
    let v4 : v4_first x.0 m x.1 ≡ families_v4 m q = sym (by_at (λ h. v4_first h.0 m h.1) c.1) in
    let v6 : v6_from x.0 m x.1 x.2 ≡ families_v6 m q = sym (by_at (λ h. v6_from h.0 m h.1 h.2) c.1) in
    subst (λ (l : List (Range V4)). FamiliesSay m q a (l, families_v6 m q)) v4
    (subst (λ (l : List (Range V6)). FamiliesSay m q a (v4_first x.0 m x.1, l)) v6
    (families-by x.0 m q x.1 x.2 a f.0 c.2))

abbrev Read : May → Octets → Held → Held → List (Range V4) → List (Range V6) → Type 0
Read m q h k rs4 rs6 = (families_of m q ≡ Ok record { v4 = h; v6 = k }) × (families_v4 m q ≡ rs4) × (families_v6 m q ≡ rs6)

-- IPv4 and what follows it
v4-is :
    (m : May) (q middle after : Octets) (h k : Held) (rs4 : List (Range V4)) (rs6 : List (Range V6))
    → FamilySays v4_rank v4_entry m Ipv4 q h rs4 middle → Gone v6_rank v6_entry middle k rs6 after ⊎ FamilySays v6_rank v6_entry m Ipv6 middle k rs6 after → Ended after
    → Read m q h k rs4 rs6
v4-is m q middle after h k rs4 rs6 f o n =
    let a = at-is Ipv4 None q f.inner middle f.stands refl in
    let p = part-is v4_rank v4_entry m f.inner h rs4 f.part in
    let z = second_is m middle k rs6 after o n in (
      then_at _ a ∙ then_at _ p.0 ∙ then_at _ z.0,
      by_at _ a ∙ p.1,
      by_at _ a ∙ by_at _ p.0 ∙ z.1,
    )

-- IPv6 alone
v6_is :
    (m : May) (q after : Octets) (k : Held) (rs6 : List (Range V6)) → FamilySays v6_rank v6_entry m Ipv6 q k rs6 after → Ended after
    → Read m q held.Absent k [] rs6
v6_is m q after k rs6 f n =
    let a = at-is Ipv6 None q f.inner after f.stands refl in
    let p = part-is v6_rank v6_entry m f.inner k rs6 f.part in
    let last : last_of m f.inner after ≡ Ok k = then_at _ p.0 ∙ then_at _ (no_more_is after n) in (
      then_at _ a ∙ then_at _ last,
      by_at _ a,
      by_at _ a ∙ p.1,
    )

absent-v4 :
    (m : May) (q middle after : Octets) (h k : Held) (rs4 : List (Range V4)) (rs6 : List (Range V6)) → (Ended q → ⊥)
    → Gone v4_rank v4_entry q h rs4 middle → Gone v6_rank v6_entry middle k rs6 after ⊎ FamilySays v6_rank v6_entry m Ipv6 middle k rs6 after → Ended after
    → Read m q h k rs4 rs6
absent-v4 m q middle after h k rs4 rs6 some g (inl o) n =
    absurd (some (subst (λ (y : Octets). Ended y) (o.1 ∙ g.1) n))
absent-v4 m q middle after h k rs4 rs6 some g (inr f) n =
    let x = v6_is m q after k rs6 (subst (λ (y : Octets). FamilySays v6_rank v6_entry m Ipv6 y k rs6 after) g.1 f) n in
    (x.0 ∙ ap (λ (y : Held). Ok record { v4 = y; v6 = k }) (sym g.0), x.1 ∙ sym g.2, x.2)

families-are :
    (m : May) (q middle after : Octets) (h k : Held) (rs4 : List (Range V4)) (rs6 : List (Range V6)) → (Ended q → ⊥)
    → Gone v4_rank v4_entry q h rs4 middle ⊎ FamilySays v4_rank v4_entry m Ipv4 q h rs4 middle
    → Gone v6_rank v6_entry middle k rs6 after ⊎ FamilySays v6_rank v6_entry m Ipv6 middle k rs6 after → Ended after
    → Read m q h k rs4 rs6
families-are m q middle after h k rs4 rs6 some (inl g) o n = absent-v4 m q middle after h k rs4 rs6 some g o n
families-are m q middle after h k rs4 rs6 some (inr f) o n = v4-is m q middle after h k rs4 rs6 f o n

families-is :
    (m : May) (q : Octets) (a : Addresses) (rs : List (Range V4) × List (Range V6)) → FamiliesSay m q a rs → Read m q a.v4 a.v6 rs.0 rs.1
families-is m q a rs s =
    families-are m q s.middle s.after a.v4 a.v6 rs.0 rs.1 s.some
    (optional-is v4_rank v4_entry m Ipv4 q a.v4 rs.0 s.middle s.v4)
    (optional-is v6_rank v6_entry m Ipv6 s.middle a.v6 rs.1 s.after s.v6)
    s.ended

-- the value for addresses
pub addresses_say : (m : May) (q : Octets) (a : Addresses) → Ok a ≡ addresses_of m q → AddressesSay m q a (addresses_v4 m q, addresses_v6 m q)
addresses_say m q a e =
    let b = then_ok (expect_of Set 48 q) _ a e in
    let c = then_ok (families_of m (inside b.0.0)) _ a b.2 in
    let d = then_ok (end_of Set b.0.1) _ a c.2 in
    let outer = expect-ok Set 48 q b.0 (sym b.1) in
    let inner = inside b.0.0 in
    let v4 : families_v4 m inner ≡ addresses_v4 m q = sym (by_at (λ s. families_v4 m (inside s.0)) b.1) in
    let v6 : families_v6 m inner ≡ addresses_v6 m q = sym (by_at (λ s. families_v6 m (inside s.0)) b.1) in
    record {
      outer = b.0.0;
      value = record { after = b.0.1; next = outer.0; tagged = outer.1; ended = end_ok Set b.0.1 (sym d.1) };
      families = subst (λ (l : List (Range V4)). FamiliesSay m inner a (l, addresses_v6 m q)) v4
          (subst (λ (l : List (Range V6)). FamiliesSay m inner a (families_v4 m inner, l)) v6
          (families_say m inner a (d.2 ∙ sym c.1)));
    }

pub addresses-are :
    (m : May) (q : Octets) (a : Addresses) (rs : List (Range V4) × List (Range V6)) → AddressesSay m q a rs
    → (addresses_of m q ≡ Ok a) × (addresses_v4 m q ≡ rs.0) × (addresses_v6 m q ≡ rs.1)
addresses-are m q a rs s =
    let v = s.value in
    let outer = expect-is Set 48 q s.outer v.after v.next v.tagged in
    let f = families-is m (inside s.outer) a rs s.families in (
      then_at _ outer ∙ then_at _ f.0 ∙ then_at _ (end_is Set v.after v.ended),
      by_at _ outer ∙ f.1,
      by_at _ outer ∙ f.2,
    )
