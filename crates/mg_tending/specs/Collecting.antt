-- What is left of a record that is collected, by the history that its keeper stands for.
use Rattle.std.specs.Prelude.{◌≡◌, ◌⊎◌, ◌<◌, ℕ, Bool, true, false, List, [], ◌∷◌, Option, length}
use Rattle.mg_base.specs.declared.transaction.TxState.TheVariants.{Active, Committed, Dead}
use Rattle.mg_model.specs.declared.opening.Opening.{Opening}
use Rattle.mg_model.specs.declared.table.Table.{Table}
use Rattle.mg_value.specs.declared.value.Value.{Value}
use Rattle.mg_model.specs.Answers.{is_open, told}
use Rattle.mg_model.specs.History.{Entries}
use Rattle.mg_model.specs.Machine.{state_of}
use Rattle.mg_records.specs.Meaning.{Means}

-- ---- versions

-- A version that is kept of a record: who wrote it, and whether it takes the row away.
pub record Kept : Type 0 where
  pub writer : ℕ
  pub erases : Bool

-- What is known of a keeper that collects records.
pub record Collecting (R P : Type 0) : Type 1 where
  -- a record of the table stands at the place
  pub has_record : R → Table → P → Type 0
  -- of the record at a place these versions are kept, the newest first; none where no record stands there
  pub kept : R → P → List Kept → Type 0
  -- the record at a place speaks for a key of the table: a row with the key is looked for there; no record speaks for it
  pub speaks : R → Table → Value → P → Type 0
  pub silent : R → Table → Value → Type 0
  -- the table is one that committed rows of the catalog name
  pub is_committed : R → Table → Type 0

-- ---- what remains

-- an active transaction saw the older one of two as committed, and not the newer one
abbrev pub IsMissed : Opening → Entries → ℕ → ℕ → Type 0
IsMissed o h newer older = (t : ℕ) × (state_of o h t ≡ Active) × ((told o h).saw t older ≡ true)
    × ((told o h).saw t newer ≡ false)

-- each active transaction saw this one as committed
abbrev pub IsSeenByEach : Opening → Entries → ℕ → Type 0
IsSeenByEach o h by = (t : ℕ) → state_of o h t ≡ Active → (told o h).saw t by ≡ true

-- Behind a version of this writer these are left of committed ones: each that somebody misses who did not see the next
-- newer one, whether that one is left or not.
pub data LeftBehind (o : Opening) (h : Entries) : ℕ → List Kept → List Kept → Type 0 where
  none_behind : (newer : ℕ) → LeftBehind o h newer [] []
  is_missed : (newer : ℕ) (v : Kept) (vs left : List Kept) → state_of o h v.writer ≡ Committed
      → IsMissed o h newer v.writer → LeftBehind o h v.writer vs left → LeftBehind o h newer (v ∷ vs) (v ∷ left)
  not_missed : (newer : ℕ) (v : Kept) (vs left : List Kept) → state_of o h v.writer ≡ Committed
      → (IsMissed o h newer v.writer → ⊥) → LeftBehind o h v.writer vs left → LeftBehind o h newer (v ∷ vs) left

-- of committed versions the newest is left, and what is behind it
pub data LeftOfCommitted (o : Opening) (h : Entries) : List Kept → List Kept → Type 0 where
  no_committed : LeftOfCommitted o h [] []
  newest_committed : (v : Kept) (vs left : List Kept) → state_of o h v.writer ≡ Committed
      → LeftBehind o h v.writer vs left → LeftOfCommitted o h (v ∷ vs) (v ∷ left)

-- Of a record's versions the newest is gone where its transaction is dead, and left where that is active, in limbo or
-- committed; the others are committed.
pub data LeftOfAll (o : Opening) (h : Entries) : List Kept → List Kept → Type 0 where
  no_version : LeftOfAll o h [] []
  dead_newest : (v : Kept) (vs left : List Kept) → state_of o h v.writer ≡ Dead → LeftOfCommitted o h vs left
      → LeftOfAll o h (v ∷ vs) left
  open_newest : (v : Kept) (vs left : List Kept) → is_open (state_of o h v.writer) ≡ true
      → LeftOfCommitted o h vs left → LeftOfAll o h (v ∷ vs) (v ∷ left)
  committed_newest : (v : Kept) (vs left : List Kept) → LeftOfCommitted o h (v ∷ vs) left
      → LeftOfAll o h (v ∷ vs) left

-- a version takes the row away, by a committed transaction that each active one saw
abbrev pub IsErased : Opening → Entries → Kept → Type 0
IsErased o h v = (v.erases ≡ true) × (state_of o h v.writer ≡ Committed) × IsSeenByEach o h v.writer

-- where that is all that is left the record goes
pub data UnlessErased (o : Opening) (h : Entries) : List Kept → List Kept → Type 0 where
  erased : (v : Kept) → IsErased o h v → UnlessErased o h (v ∷ []) []
  no_more : UnlessErased o h [] []
  not_erased : (v : Kept) → (IsErased o h v → ⊥) → UnlessErased o h (v ∷ []) (v ∷ [])
  several : (v u : Kept) (vs : List Kept) → UnlessErased o h (v ∷ u ∷ vs) (v ∷ u ∷ vs)

-- What remains of a record's versions: its newest one where that is active or in limbo; its newest committed one; and each
-- older one that an active transaction saw which did not see the next newer one. Nothing, where that is a deletion alone
-- that all saw.
pub record Remains (o : Opening) (h : Entries) (versions left : List Kept) : Type 0 where
  pub found : List Kept
  pub all : LeftOfAll o h versions found
  pub unless : UnlessErased o h found left

-- What is left of a record that is collected: what remains. A version that stands alone and is of no committed transaction
-- is let be, since no history says anything of a table that was never committed, in which it may stand.
abbrev pub IsLeft : Opening → Entries → List Kept → List Kept → Type 0
IsLeft o h [] left = left ≡ []
IsLeft o h (v ∷ []) left = (state_of o h v.writer ≡ Committed → Remains o h (v ∷ []) left)
    × ((state_of o h v.writer ≡ Committed → ⊥) → left ≡ v ∷ [])
IsLeft o h (v ∷ u ∷ vs) left = Remains o h (v ∷ u ∷ vs) left

-- it is told whether a version went
abbrev pub IsToldGone : Bool → List Kept → List Kept → Type 0
IsToldGone true versions left = length left < length versions
IsToldGone false versions left = left ≡ versions

-- ---- the call

-- Of the record at a place these versions are left, and it is told whether one went.
pub record LeavesOf {R P : Type 0} (c : Collecting R P) (new : R) (o : Opening) (h : Entries) (place : P)
    (versions : List Kept) (gone : Bool) : Type 0 where
  pub left : List Kept
  pub kept : c.kept new place left
  pub is : IsLeft o h versions left
  pub is_told : IsToldGone gone versions left

-- The record at a place is collected, where it is one of the table; any other slot is left as it is.
pub record Collects {R P : Type 0} (m : Means R P) (c : Collecting R P) (old new : R) (table : Table) (place : P)
    (gone : Bool) : Type 0 where
  pub record_left : (o : Opening) (h : Entries) → m.stands old o h → c.has_record old table place
      → (versions : List Kept) → c.kept old place versions → LeavesOf c new o h place versions gone
  pub other_left : (c.has_record old table place → ⊥) → (gone ≡ false)
      × ((versions : List Kept) → c.kept old place versions → c.kept new place versions)

-- The record that speaks for a key is collected.
pub record SpokenIsCollected {R P : Type 0} (m : Means R P) (c : Collecting R P) (old new : R) (table : Table)
    (key : Value) (gone : Bool) : Type 0 where
  pub place : P
  pub speaks : c.speaks old table key place
  pub collects : Collects m c old new table place gone

-- or none speaks for it, and nothing goes; so it is by each history that the keeper stands for
abbrev pub CollectsKey : {R P : Type 0} → Means R P → Collecting R P → R → R → Table → Value → Bool → Type 0
CollectsKey m c old new table key gone = (o : Opening) (h : Entries) → m.stands old o h
    → SpokenIsCollected m c old new table key gone ⊎ (c.silent old table key × (gone ≡ false))

-- ---- all records

-- Of the record at a place, which had these versions, those are left that remain.
pub record IsCollected {R P : Type 0} (c : Collecting R P) (new : R) (o : Opening) (h : Entries) (place : P)
    (versions : List Kept) : Type 0 where
  pub left : List Kept
  pub kept : c.kept new place left
  pub is : IsLeft o h versions left

-- So it is of each record of each committed table, by each history that the keeper stood for.
abbrev pub CollectsEach : {R P : Type 0} → Means R P → Collecting R P → R → R → Type 0
CollectsEach {P = P} m c old new = (o : Opening) (h : Entries) → m.stands old o h → (table : Table)
    → c.is_committed old table → (place : P) → c.has_record old table place → (versions : List Kept)
    → c.kept old place versions → IsCollected c new o h place versions

-- walks are as far from their ends as they were
abbrev pub AreAsFar : {R P : Type 0} → Means R P → R → R → Type 0
AreAsFar {P = P} m old new = (t : ℕ) (table : Table) (after : Option P)
    → m.still new t table after ≡ m.still old t table after
