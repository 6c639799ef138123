-- The list of payloads in lent memory, and what the calls on it leave. Assumes nothing.
use Rattle.std.specs.Prelude.{◌≡◌, ℕ, ◌+◌, cond, List, [], ◌∷◌, length, take, drop, ◌==◌, nat_lt}
use Rattle.std.specs.List.{ContainsAt as Has}
use Rattle.payload.specs.declared.Prefix.{Prefix}
use Rattle.payload.specs.declared.Payload.{Payload}
use Rattle.payload.specs.declared.list.PayloadList.{PayloadList}
use Rattle.payload.specs.declared.list.Inserted.{Inserted}
use Rattle.payload.specs.declared.list.Inserted.TheVariants.{Added, Present, Full}
use Rattle.payload.specs.Order.{rank, Listed}

-- the payloads that a list holds, in their order
abbrev pub held : PayloadList → List Payload
held t = take t.count t.entries.now

-- how many payloads a list can hold
abbrev pub room : PayloadList → ℕ
room t = length t.entries.now

-- a payload put into a list at its place; a list that has its key stays
abbrev pub inserted_into : Payload → List Payload → List Payload
inserted_into p [] = p ∷ []
inserted_into p (x ∷ xs) =
    cond (nat_lt (rank p) (rank x)) (p ∷ (x ∷ xs))
    (cond (rank p == rank x) (x ∷ xs) (x ∷ inserted_into p xs))

-- a list is as it was, and so is its memory
pub record Unchanged (s t : PayloadList) : Type 0 where
  pub count : t.count ≡ s.count
  pub entries : t.entries.now ≡ s.entries.now

-- the payload was not in the list, and is in it now, and the memory past it is as it was
pub record Adds (p : Payload) (s t : PayloadList) : Type 0 where
  pub new : Listed p (held s) → ⊥
  pub payloads : held t ≡ inserted_into p (held s)
  pub more : length (held t) ≡ length (held s) + 1
  pub rest : drop (length (held t)) t.entries.now ≡ drop (length (held t)) s.entries.now
  pub same_room : room t ≡ room s

-- what putting a payload into a list answers and leaves
abbrev pub Inserts : Payload → PayloadList → Inserted → PayloadList → Type 0
Inserts p s Added t = Adds p s t
Inserts p s Present t = Listed p (held s) × Unchanged s t
Inserts p s Full t = (Listed p (held s) → ⊥) × (length (held s) ≡ room s) × Unchanged s t

-- a part of a list that has every payload of one prefix
pub record Around (q : Prefix) (xs ys : List Payload) : Type 0 where
  pub only : (p : Payload) → Has ys p → Has xs p
  pub every : (p : Payload) → Has xs p → p.prefix ≡ q → Has ys p
