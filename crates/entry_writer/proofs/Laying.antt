-- Texts that are laid down one after the other. Assumes nothing.
use Rattle.std.proofs.Common.{◌≡◌, ℕ, ◌+◌, ◌≤◌, List, [], ◌++◌, length, take, drop, sym, ap, ◌∙◌, append_assoc, arith, length-append, length-drop, take-append-drop}
use borrow.Rule.Slice.PartMut.{put_mid}
use Rattle.std.proofs.lemmas.List.{take_at, drop_at, drop-drop, length-take-le}
use Rattle.entry_writer.specs.Areas.{laid_at}

-- after a write to a part of the area
pub laid_mid : (at k : ℕ) (text ys area : List ℕ) → ys ≡ text → k ≡ length text → put_mid at k area ys ≡ laid_at at text area
unfolding laid_at
laid_mid at k text ys area e h =
    ap (λ (x : List ℕ). take at area ++ (x ++ drop k (drop at area))) e
    ∙ ap (λ (x : List ℕ). take at area ++ (text ++ x)) (drop-drop k at area ∙ ap (λ (m : ℕ). drop (at + m) area) h)

pub laid_none : (at : ℕ) (area : List ℕ) → laid_at at [] area ≡ area
unfolding laid_at
laid_none at area = let e : at + 0 ≡ at = omega arith in ap (λ (k : ℕ). take at area ++ drop k area) e ∙ take-append-drop at area

pub length_laid : (at : ℕ) (s area : List ℕ) → at + length s ≤ length area → length (laid_at at s area) ≡ length area
unfolding laid_at
length_laid at s area h =
    let n = length-take-le at area (omega arith) in
    let d = length-drop (at + length s) area in
    let e = length-append (take at area) (s ++ drop (at + length s) area) in
    let f = length-append s (drop (at + length s) area) in
    omega arith

pub laid_more : (at : ℕ) (s t area : List ℕ) → at + length s ≤ length area → laid_at (at + length s) t (laid_at at s area) ≡ laid_at at (s ++ t) area
unfolding laid_at
laid_more at s t area h =
    let a = take at area in
    let b = drop (at + length s) area in
    let n = length-take-le at area (omega arith) in
    let l = length-append a s in
    let k : length (a ++ s) ≡ at + length s = omega arith in
    let join : a ++ (s ++ b) ≡ (a ++ s) ++ b = sym (append_assoc a s b) in
    let front : take (at + length s) (a ++ (s ++ b)) ≡ a ++ s = ap (take (at + length s)) join ∙ take_at (a ++ s) b (at + length s) k in
    let m = length-append s t in
    let i : at + length s + length t ≡ at + length (s ++ t) = omega arith in
    let back : drop (at + length s + length t) (a ++ (s ++ b)) ≡ drop (at + length (s ++ t)) area =
    sym (drop-drop (length t) (at + length s) (a ++ (s ++ b)))
    ∙ ap (λ (x : List ℕ). drop (length t) (drop (at + length s) x)) join
    ∙ ap (drop (length t)) (drop_at (a ++ s) b (at + length s) k)
    ∙ drop-drop (length t) (at + length s) area
    ∙ ap (λ (x : ℕ). drop x area) i in
    ap (λ (x : List ℕ). x ++ (t ++ drop (at + length s + length t) (a ++ (s ++ b)))) front
    ∙ ap (λ (x : List ℕ). (a ++ s) ++ (t ++ x)) back
    ∙ append_assoc a s (t ++ drop (at + length (s ++ t)) area)
    ∙ ap (λ (x : List ℕ). a ++ x) (sym (append_assoc s t (drop (at + length (s ++ t)) area)))

-- the same where the areas and the place are named
pub laid-after :
    (at end : ℕ) (s t before middle after : List ℕ) → at + length s ≤ length before → end ≡ at + length s
    → middle ≡ laid_at at s before → after ≡ laid_at end t middle → after ≡ laid_at at (s ++ t) before
laid-after at end s t before middle after h e p q =
    q ∙ ap (λ (x : List ℕ). laid_at end t x) p ∙ ap (λ (k : ℕ). laid_at k t (laid_at at s before)) e ∙ laid_more at s t before h
