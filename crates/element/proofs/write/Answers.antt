use Rattle.std.proofs.Common.{◌≡◌, ℕ, ◌+◌, ◌-◌, List, length, take, sym, refl, ap, ◌∙◌, arith}
use borrow.Rule.Slice.PartMut.{put_mid}
use Rattle.element.specs.Lengths.{encoded}
use Rattle.element.proofs.Writes.{element-short, element-fits, header_room, laid-down, front_of, length_encoded, reads_back}
use Rattle.element.proofs.write.Goals as goal

pub returns-then-area-end : goal.returns-then-area-end
returns-then-area-end c =
    let n = length c.args.content.now in
    let e = ap (λ (x : ℕ). x + n) c.header_size-start.ensures.value in
    record {
      value = element-short c.args.tag _ _ c.args.content.now c.if-content-gt-LONGEST.false e c.if-area-end.true;
      after = refl;
      reads = tt;
    }

pub put_header-requires : goal.put_header-requires
put_header-requires c = (c.if-content-gt-LONGEST.false, header_room c.args.tag (length c.args.content.now) _ _ c.header_size-start.ensures.value (omega arith))

pub returns : goal.returns
returns c =
    let s = c.args.content.now in
    let t = c.args.tag in
    let n = length s in
    let start = c.header_size-start.result in
    let e = ap (λ (x : ℕ). x + n) c.header_size-start.ensures.value in
    let copied : c.copy_from_slice.new.self ≡ s = c.copy_from_slice.ensures.after in
    let after = ap (λ (x : List ℕ). put_mid start (start + n - start) c.put_header.new.area x) copied
    ∙ laid-down t start s c.args.area.now c.put_header.new.area c.header_size-start.ensures.value c.put_header.ensures in
    let size : start + n ≡ length (encoded t s) = e ∙ sym (length_encoded t s) in
    record {
      value = element-fits t _ _ s c.if-content-gt-LONGEST.false e c.if-area-end.false;
      after = after;
      reads = reads_back _ t s c.if-content-gt-LONGEST.false (ap (take (start + n)) after ∙ front_of (encoded t s) c.args.area.now (start + n) size);
    }
