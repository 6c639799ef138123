-- A text is the text of one list. Assumes nothing.
use Rattle.std.specs.Prelude.{◌≡◌, ◌^◌, ◌<◌, true, List, length}
use Rattle.std.specs.List.{AllByRecursion}
use Rattle.payload.specs.declared.Payload.{Payload}
use Rattle.payload.specs.Order.{lawful}
use Rattle.payload.specs.Laws.{Sized}
use Rattle.listing.specs.Texts.{list_text}

-- a payload of a lawful prefix, each part of which fits its type
abbrev pub Lawful : Payload → Type 0
Lawful p = (lawful p.prefix ≡ true) × Sized p

-- lists of lawful payloads that have one text are one list
abbrev pub TextTells : Type 0
TextTells =
    (xs ys : List Payload) → AllByRecursion Lawful xs → AllByRecursion Lawful ys → length xs < 2 ^ 64 → length ys < 2 ^ 64
    → list_text xs ≡ list_text ys → xs ≡ ys
