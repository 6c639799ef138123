-- Octets appended part by part, and a record appended to a book. Assumes nothing.
use Rattle.std.proofs.Common.{◌≡◌, ℕ, cond, List, ◌++◌, length, take, is_ok, Ok, Err, Result, sym, ap, ◌∙◌, append_assoc, arith}
use Rattle.std.proofs.lemmas.List.{take_at}
use Rattle.record.specs.Format.{Entry, records, leftover}
use Rattle.record.specs.Writing.{record_octets, Writable}
use Rattle.record.proofs.Written.{appended_record}
use Rattle.book_writer.specs.Writer.{Appended, Written}

pub join : (s mid t xs ys : List ℕ) → mid ≡ s ++ xs → t ≡ mid ++ ys → t ≡ s ++ (xs ++ ys)
join s mid t xs ys e f = f ∙ ap (λ (l : List ℕ). l ++ ys) e ∙ append_assoc s xs ys

-- a slice was appended last
pub appended_last : {E : Type 0} (r : Result (Unit {0}) E) (s mid t xs ys : List ℕ) → mid ≡ s ++ xs → t ≡ cond (is_ok r) (mid ++ ys) mid → Appended r s t (xs ++ ys)
appended_last (Ok u) s mid t xs ys e f = join s mid t xs ys e f
appended_last (Err x) s mid t xs ys e f = (xs, f ∙ e)

-- what was appended after something else was
pub appended_more : {E : Type 0} (r : Result (Unit {0}) E) (s mid t xs ys : List ℕ) → mid ≡ s ++ xs → Appended r mid t ys → Appended r s t (xs ++ ys)
appended_more (Ok u) s mid t xs ys e f = join s mid t xs ys e f
appended_more (Err x) s mid t xs ys e f = (xs ++ f.0, join s mid t xs f.0 e f.1)

-- where memory ran out on the way
pub appended_part : {E : Type 0} (r : Result (Unit {0}) E) (x : E) (s mid t xs zs : List ℕ) → r ≡ Err x → mid ≡ s ++ xs → (some : List ℕ) × (t ≡ mid ++ some) → Appended r s t zs
appended_part (Ok u) x s mid t xs zs e f g = absurd (let z : ◌≡◌ {A = ℕ} 0 1 = cc in omega arith)
appended_part (Err y) x s mid t xs zs e f g = (xs ++ g.0, join s mid t xs g.0 f g.1)

pub written_ok : (s t : List ℕ) (r : Entry) → Writable r → t ≡ s ++ record_octets r → Written (Ok tt) s t r
written_ok s t r h e =
    (e, λ whole. let p = appended_record s r h whole in (ap records e ∙ p.0, ap leftover e ∙ p.1))

pub cut_back : (s mid t : List ℕ) (n : ℕ) → n ≡ length s → (some : List ℕ) × (mid ≡ s ++ some) → t ≡ take n mid → t ≡ s
cut_back s mid t n e f g = g ∙ ap (take n) f.1 ∙ take_at s f.0 n (sym e)
