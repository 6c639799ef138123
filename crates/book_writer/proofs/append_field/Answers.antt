use Rattle.std.proofs.Common.{◌≡◌, ℕ, ◌<◌, ◌^◌, ◌/◌, ◌%◌, List, [], ◌∷◌, ◌++◌, length, get_or, vec_items, ap, ◌∙◌, arith}
use Rattle.std.specs.Int.{to_be_bytes, w32}
use Rattle.record.specs.Writing.{length_octets}
use Rattle.book_writer.proofs.Appends.{appended_last}
use Rattle.book_writer.proofs.append_field.Goals as goal

-- the last three of four octets write a length below 2^24
three_octets : (n : ℕ) (bs : List ℕ) → n < 2 ^ 24 → bs ≡ to_be_bytes w32 n → get_or bs 1 0 ∷ (get_or bs 2 0 ∷ (get_or bs 3 0 ∷ [])) ≡ length_octets n
three_octets n bs h e =
    let high : n / 0x10000 % 0x100 ≡ n / 0x10000 = omega arith in
    rw e (ap (λ (v : ℕ). v ∷ (n / 0x100 % 0x100 ∷ (n % 0x100 ∷ []))) high)

pub returns : goal.returns
returns c =
    let field = c.args.octets.now in
    let three = three_octets (length field) c.to_be_bytes.result c.requires c.to_be_bytes.ensures in
    appended_last c.extend_from_slice-2.result (vec_items c.args.book.now) (vec_items c.extend_from_slice.new.self) (vec_items c.extend_from_slice-2.new.self)
    (length_octets (length field)) field
    (c.in_ok-extend_from_slice.ensures.items ∙ ap (λ (l : List ℕ). vec_items c.args.book.now ++ l) three) c.extend_from_slice-2.ensures.items
