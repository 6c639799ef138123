-- A family that is read by numbers is the one that is read by families. Assumes nothing.
use Rattle.std.proofs.Common.{◌≡◌, ℕ, cond, nat_le, List, [], ◌∷◌, Some, None, Ok, Err, Option, Result, sym, refl, ap, ◌∙◌, arith}
use Rattle.fault.specs.declared.Rule.TheVariants.{Value}
use Rattle.fault.specs.declared.Layer.{Layer}
use Rattle.fault.specs.declared.Report.{Report}
use Rattle.family.specs.declared.Family.{Family}
use Rattle.family.specs.declared.Family.TheVariants.{Ipv4, Ipv6}
use Rattle.element.specs.Reading.{Seen, Octets}
use Rattle.layout.specs.Expecting.{broken, then_read, expect_of}
use Rattle.families.specs.Families.{family_named, in_order, family_after}
use Rattle.families.specs.Numbers as numbers

-- the number of a family that is named, 0 where none is
abbrev named_number : Option Family → ℕ
named_number None = 0
named_number (Some f) = numbers.number_of f

named : (s : List ℕ) → numbers.family_of s ≡ named_number (family_named s)
named [] = refl
named (a ∷ []) = grind arith
named (a ∷ b ∷ []) = grind arith
named (a ∷ b ∷ c ∷ s) = grind arith

-- a family and what follows its name, by its number
abbrev numbered : Family × Octets → ℕ × Octets
numbered p = (numbers.number_of p.0, p.1)

ascends :
    (l : Layer) (n place : ℕ) (q : Octets) (o : Option Family)
    → cond (nat_le (named_number o) n) (broken l Value place) (Ok (named_number o, q))
    ≡ then_read (in_order l (numbers.last_up_to n) place q o) (λ p. Ok (numbered p))
ascends l n place q None = grind arith
ascends l n place q (Some Ipv4) = grind arith
ascends l n place q (Some Ipv6) = grind arith

after_name :
    (l : Layer) (n : ℕ) (r : Result (Seen × Octets) Report)
    → then_read r (λ name.
    cond (nat_le (numbers.family_of name.0.content) n) (broken l Value name.0.place) (Ok (numbers.family_of name.0.content, name.1)))
    ≡ then_read
    (then_read r (λ name. in_order l (numbers.last_up_to n) name.0.place name.1 (family_named name.0.content)))
    (λ p. Ok (numbered p))
after_name l n (Err e) = refl
after_name l n (Ok name) =
    ap (λ (i : ℕ). cond (nat_le i n) (broken l Value name.0.place) (Ok (i, name.1))) (named name.0.content)
    ∙ ascends l n name.0.place name.1 (family_named name.0.content)

by_number :
    (l : Layer) (n : ℕ) (q : Octets)
    → then_read (family_after l (numbers.last_up_to n) q) (λ p. Ok (numbered p)) ≡ numbers.family_after l n q
by_number l n q = sym (after_name l n (expect_of l 4 q))

-- by how the reading after a family ended
pub numbered_so :
    (l : Layer) (n : ℕ) (q : Octets) (before : Option Family) (r : Result (Family × Octets) Report)
    → before ≡ numbers.last_up_to n → r ≡ family_after l before q
    → then_read r (λ p. Ok (numbered p)) ≡ numbers.family_after l n q
numbered_so l n q before r last e = rw e (rw last (by_number l n q))
