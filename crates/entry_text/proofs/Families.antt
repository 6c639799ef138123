-- The laws of the two families of addresses. Assumes nothing.
use Rattle.std.proofs.Common.{◌≡◌, ℕ, ◌+◌, ◌*◌, ◌/◌, ◌%◌, ◌^◌, ◌<◌, refl, ap, ◌∙◌, arith}
use Rattle.family.specs.declared.Family.TheVariants as family
use Rattle.points.specs.declared.V6.{V6}
use Rattle.points.specs.Ranks.{v4_rank, v4_fits, v6_rank, v6_fits, v6_of}
use Rattle.entries.specs.Addresses.{address_entry}
use Rattle.entries.specs.Kinds.{v4_of, v4_entry, v6_entry}
use Rattle.entry_text.specs.Texts.{address_text, v4_text, v6_text}
use Rattle.entry_text.specs.Laws.{EntryLaws}
use Rattle.entry_text.proofs.Points.{laws}
use Rattle.entry_text.proofs.Addresses.{address_laws}

pub v4_laws : EntryLaws v4_rank v4_fits v4_entry v4_text
v4_laws = laws (2 ^ 32) (address_entry 32) (address_text 32) v4_rank v4_fits v4_of (address_laws family.Ipv4)
    record { point_rank = λ x h. refl; rank_point = λ n h. refl; point_fits = λ n h. h; below = λ x h. h }

-- the two halves of a number of 128 bits
upper : (a b : ℕ) → b < 2 ^ 64 → (a * 2 ^ 64 + b) / 18446744073709551616 ≡ a
upper a b h = omega arith

lower : (a b : ℕ) → b < 2 ^ 64 → (a * 2 ^ 64 + b) % 18446744073709551616 ≡ b
lower a b h = omega arith

point_rank : (x : V6) → v6_fits x → v6_of (v6_rank x) ≡ x
point_rank x h =
    ap (λ (n : ℕ). record { high = n; low = v6_rank x % 18446744073709551616 }) (upper x.high x.low h.1)
    ∙ ap (λ (n : ℕ). record { high = x.high; low = n }) (lower x.high x.low h.1)

rank_point : (n : ℕ) → v6_rank (v6_of n) ≡ n
rank_point n = omega arith

point_fits : (n : ℕ) → n < 2 ^ 128 → v6_fits (v6_of n)
point_fits n h = (omega arith, omega arith)

below : (a b : ℕ) → a < 2 ^ 64 → b < 2 ^ 64 → a * 2 ^ 64 + b < 2 ^ 128
below a b h k = omega arith

pub v6_laws : EntryLaws v6_rank v6_fits v6_entry v6_text
v6_laws = laws (2 ^ 128) (address_entry 128) (address_text 128) v6_rank v6_fits v6_of (address_laws family.Ipv6)
    record { point_rank = point_rank; rank_point = λ n h. rank_point n; point_fits = point_fits; below = λ x h. below x.high x.low h.0 h.1 }
