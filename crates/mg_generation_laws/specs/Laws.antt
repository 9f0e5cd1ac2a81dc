-- The laws of versions, each for every opening, history, table and key.
use Rattle.std.specs.Prelude.{◌≡◌, ℕ, ◌&&◌, true, false, List, [], ◌∷◌, ◌++◌, Option, Some, None}
use Rattle.mg_base.specs.declared.transaction.TxState.TheVariants.{Dead, Committed}
use Rattle.mg_value.specs.declared.value.Value.{Value}
use Rattle.mg_model.specs.declared.change.Point.{Point}
use Rattle.mg_model.specs.declared.opening.Opening.{Opening}
use Rattle.mg_model.specs.Catalog.{catalog_name, table_key, shape_in, key_in}
use Rattle.mg_model.specs.Changes.{Cells, same_row, same_name, same_key, has_change, row_at}
use Rattle.mg_model.specs.History.{Entry, Entries, Makes, Gives, TakesBack, Ends, effect_of}
use Rattle.mg_model.specs.Machine.{opening_rows, state_of, steps, own, database, view}
use Rattle.mg_model.specs.Answers.{told, is_active, is_committed, is_open, can_hinder, catalog_of, obstacle, table_obstacle}
use Rattle.mg_model.specs.Legal.{MayBegin, IsLegal, after_durable, durable_database}
use Rattle.mg_generation_laws.specs.Generations.{Generation, shown_by, first_writer, is_newest_by, newest_row, newest_writer_if, versions_of_row, without_newest_by, put, sees, AreFirst, AreGenerations}
use Rattle.mg_generation_laws.specs.After.{generations_with, generations_of, generations_back, leaves_versions, IsUndone}
use Rattle.mg_generation_laws.specs.Kept.{IsSeenByAll, StandFor}
use Rattle.mg_generation_laws.specs.Tables.{AreOld, asks_to_write, LeavesTable, opening_catalog}

-- ---- how they come about

-- a history begins with the versions of which its opening says the rows and the open changes
abbrev pub VersionsBegin : Type 0
VersionsBegin = (o : Opening) (table : List ℕ) (key : Value) (gs : List Generation)
    → MayBegin o → AreFirst o table key gs → AreGenerations o [] table key gs

-- a key that no transaction in limbo has changed begins with its row, as the system's
abbrev pub RowBegins : Type 0
RowBegins = (o : Opening) (table : List ℕ) (key : Value)
    → ((t : ℕ) → has_change (own o [] t) table key ≡ false)
    → AreFirst o table key (versions_of_row (row_at (opening_rows o) table key))

-- an entry of a legal history makes of them what its effect says
abbrev pub VersionsGoOn : Type 0
VersionsGoOn = (o : Opening) (h : Entries) (e : Entry) (table : List ℕ) (key : Value)
    (gs : List Generation) → MayBegin o → IsLegal o (e ∷ h) → AreGenerations o h table key gs
    → AreGenerations o (e ∷ h) table key (generations_with o h e table key gs)

-- so each legal history has versions of each key, with those that it begins with
abbrev pub VersionsCome : Type 0
VersionsCome = (o : Opening) (table : List ℕ) (key : Value) (first : List Generation) (h : Entries)
    → MayBegin o → IsLegal o h → AreFirst o table key first
    → AreGenerations o h table key (generations_of o first h table key)

-- one that writes nothing, lets nobody die and takes nothing back leaves them
abbrev pub OthersLeaveVersions : Type 0
OthersLeaveVersions = (o : Opening) (h : Entries) (e : Entry) (table : List ℕ) (key : Value)
    (gs : List Generation) → MayBegin o → IsLegal o (e ∷ h) → AreGenerations o h table key gs
    → leaves_versions (effect_of e) ≡ true → AreGenerations o (e ∷ h) table key gs

-- a key that is given another row, or none, has that version in front
abbrev pub GivenIsInFront : Type 0
GivenIsInFront = (o : Opening) (h : Entries) (e : Entry) (table : List ℕ) (key : Value)
    (gs : List Generation) (t : ℕ) (row : Option Cells) → MayBegin o → IsLegal o (e ∷ h)
    → AreGenerations o h table key gs → effect_of e ≡ Gives t table key row
    → AreGenerations o (e ∷ h) table key (put t row gs)

-- the key of a row that is made has the row in front
abbrev pub MadeIsInFront : Type 0
MadeIsInFront = (o : Opening) (h : Entries) (e : Entry) (table : List ℕ) (key : Value)
    (gs : List Generation) (t : ℕ) (row : Cells) → MayBegin o → IsLegal o (e ∷ h)
    → AreGenerations o h table key gs → effect_of e ≡ Makes t table row
    → key_in (catalog_of (told o h) t) table row ≡ key
    → AreGenerations o (e ∷ h) table key (put t (Some row) gs)

-- where another key is given a row or none, or the key of a row that is made is another one, they
-- are left
abbrev pub OtherKeysAreLeft : Type 0
OtherKeysAreLeft = (o : Opening) (h : Entries) (e : Entry) (table : List ℕ) (key : Value)
    (gs : List Generation) (t : ℕ) (named : List ℕ) → MayBegin o → IsLegal o (e ∷ h)
    → AreGenerations o h table key gs
    → ((given : Value) (row : Option Cells) → effect_of e ≡ Gives t named given row
    → (same_name named table && same_key given key) ≡ false → AreGenerations o (e ∷ h) table key gs)
    × ((row : Cells) → effect_of e ≡ Makes t named row
    → (same_name named table && same_key (key_in (catalog_of (told o h) t) named row) key) ≡ false
    → AreGenerations o (e ∷ h) table key gs)

-- a transaction that comes to be dead takes its version along
abbrev pub DeadLeaves : Type 0
DeadLeaves = (o : Opening) (h : Entries) (e : Entry) (table : List ℕ) (key : Value)
    (gs : List Generation) (t : ℕ) → MayBegin o → IsLegal o (e ∷ h)
    → AreGenerations o h table key gs → effect_of e ≡ Ends t Dead
    → AreGenerations o (e ∷ h) table key (without_newest_by t gs)

-- a transaction that takes back has the version that its changes give which it has left, if one of
-- them is of the key
abbrev pub TakenBackLeaves : Type 0
TakenBackLeaves = (o : Opening) (h : Entries) (e : Entry) (table : List ℕ) (key : Value)
    (gs : List Generation) (t : ℕ) (point : Point) → MayBegin o → IsLegal o (e ∷ h)
    → AreGenerations o h table key gs → effect_of e ≡ TakesBack t point
    → AreGenerations o (e ∷ h) table key (generations_back (own o (e ∷ h) t) t table key gs)

-- a mark that is taken back with nothing done since leaves them
abbrev pub UndoneLeavesVersions : Type 0
UndoneLeavesVersions = (o : Opening) (h : Entries) (table : List ℕ) (key : Value)
    (gs : List Generation) (t : ℕ) (sets : Entry) (since : Entries) (undoes : Entry)
    → MayBegin o → IsLegal o (undoes ∷ (since ++ (sets ∷ h))) → IsUndone t sets since undoes
    → AreGenerations o h table key gs
    → AreGenerations o (undoes ∷ (since ++ (sets ∷ h))) table key gs

-- and the steps, the states and the database
abbrev pub UndoneLeavesAll : Type 0
UndoneLeavesAll = (o : Opening) (h : Entries) (t : ℕ) (sets : Entry) (since : Entries)
    (undoes : Entry) → IsUndone t sets since undoes
    → (steps o (undoes ∷ (since ++ (sets ∷ h))) ≡ steps o h)
    × ((u : ℕ) → state_of o (undoes ∷ (since ++ (sets ∷ h))) u ≡ state_of o h u)
    × (database o (undoes ∷ (since ++ (sets ∷ h))) ≡ database o h)

-- ---- what they tell

-- a transaction that has not ended sees the newest version that is its own or was committed when it
-- took its base
abbrev pub VersionsShowViews : Type 0
VersionsShowViews = (o : Opening) (h : Entries) (table : List ℕ) (key : Value)
    (gs : List Generation) (t : ℕ) → AreGenerations o h table key gs
    → is_open (state_of o h t) ≡ true
    → same_row (row_at (view o h t) table key) (shown_by (sees (told o h) t) gs)

-- the database has the newest version that is committed
abbrev pub VersionsShowDatabase : Type 0
VersionsShowDatabase = (o : Opening) (h : Entries) (table : List ℕ) (key : Value)
    (gs : List Generation) → AreGenerations o h table key gs
    → same_row (row_at (database o h) table key) (shown_by (λ u. is_committed (state_of o h u)) gs)

-- what outlasts a crash has the newest version that was committed after that durable event
abbrev pub VersionsShowDurables : Type 0
VersionsShowDurables = (o : Opening) (h : Entries) (table : List ℕ) (key : Value)
    (gs : List Generation) (k : ℕ) → AreGenerations o h table key gs
    → same_row (row_at (durable_database o h k) table key)
    (shown_by (λ u. is_committed (state_of o (after_durable h k) u)) gs)

-- once a transaction is committed whose version is the newest, that one is shown
abbrev pub CommitShowsNewest : Type 0
CommitShowsNewest = (o : Opening) (h : Entries) (e : Entry) (t : ℕ) (gs : List Generation)
    → effect_of e ≡ Ends t Committed → is_newest_by t gs ≡ true
    → shown_by (λ u. is_committed (state_of o (e ∷ h) u)) gs ≡ newest_row gs

-- in a legal history the obstacle of a key is the first of their writers that can be in the way
abbrev pub ObstacleIsWriter : Type 0
ObstacleIsWriter = (o : Opening) (h : Entries) (t : ℕ) (table : List ℕ) (key : Value)
    (gs : List Generation) → MayBegin o → IsLegal o h → AreGenerations o h table key gs
    → obstacle (told o h) t table key ≡ first_writer (can_hinder (told o h) t) gs

-- it is the writer of the newest version, if that one can be in the way, and else there is none
abbrev pub ObstacleIsNewest : Type 0
ObstacleIsNewest = (o : Opening) (h : Entries) (t : ℕ) (table : List ℕ) (key : Value)
    (gs : List Generation) → MayBegin o → IsLegal o h → AreGenerations o h table key gs
    → obstacle (told o h) t table key ≡ newest_writer_if (can_hinder (told o h) t) gs

-- where the versions of a table's own row in the catalog are old, the table has no obstacle
abbrev pub OldTableHindersNot : Type 0
OldTableHindersNot = (o : Opening) (h : Entries) (t : ℕ) (table : List ℕ) (gs : List Generation)
    → MayBegin o → IsLegal o h → AreGenerations o h catalog_name (table_key table) gs → AreOld o gs
    → table_obstacle (told o h) t table ≡ None

-- ---- versions that are kept

-- all versions of a key stand for themselves, as long as none is collected
abbrev pub WholeStand : Type 0
WholeStand = (o : Opening) (h : Entries) (table : List ℕ) (key : Value) (gs : List Generation)
    → AreGenerations o h table key gs → StandFor o h table key gs

-- an entry of a legal history makes of a chain what its effect says
abbrev pub ChainsGoOn : Type 0
ChainsGoOn = (o : Opening) (h : Entries) (e : Entry) (table : List ℕ) (key : Value)
    (chain : List Generation) → MayBegin o → IsLegal o (e ∷ h) → StandFor o h table key chain
    → StandFor o (e ∷ h) table key (generations_with o h e table key chain)

-- whom all see, all go on to see
abbrev pub SeenGoesOn : Type 0
SeenGoesOn = (o : Opening) (h : Entries) (e : Entry) (u : ℕ) → MayBegin o → IsLegal o (e ∷ h)
    → IsSeenByAll o h u → IsSeenByAll o (e ∷ h) u

-- a committed version may go that lies directly behind another one, which each active transaction saw that saw it
abbrev pub CoveredMayGo : Type 0
CoveredMayGo = (o : Opening) (h : Entries) (table : List ℕ) (key : Value)
    (newer older : List Generation) (a y : Generation)
    → StandFor o h table key (newer ++ (a ∷ (y ∷ older)))
    → state_of o h a.writer ≡ Committed → state_of o h y.writer ≡ Committed
    → ((t : ℕ) → is_active (state_of o h t) ≡ true → (told o h).saw t y.writer ≡ true
    → (told o h).saw t a.writer ≡ true)
    → StandFor o h table key (newer ++ (a ∷ older))

-- all may go, where the newest is a deletion that all see
abbrev pub ErasedMayGo : Type 0
ErasedMayGo = (o : Opening) (h : Entries) (table : List ℕ) (key : Value) (g : Generation)
    (gs : List Generation) → StandFor o h table key (g ∷ gs) → IsSeenByAll o h g.writer
    → g.row ≡ None → StandFor o h table key []

-- an active transaction sees the newest version of a chain that is its own or was committed when it
-- took its base
abbrev pub ChainsShowViews : Type 0
ChainsShowViews = (o : Opening) (h : Entries) (table : List ℕ) (key : Value)
    (chain : List Generation) (t : ℕ) → StandFor o h table key chain
    → is_active (state_of o h t) ≡ true
    → same_row (row_at (view o h t) table key) (shown_by (sees (told o h) t) chain)

-- the database has the newest version of a chain that is committed. Of earlier moments chains say
-- nothing, once garbage was collected
abbrev pub ChainsShowDatabase : Type 0
ChainsShowDatabase = (o : Opening) (h : Entries) (table : List ℕ) (key : Value)
    (chain : List Generation) → StandFor o h table key chain
    → same_row (row_at (database o h) table key)
    (shown_by (λ u. is_committed (state_of o h u)) chain)

-- the obstacle of an active transaction is the writer of a chain's newest version, if that one can
-- be in the way, and else there is none
abbrev pub ChainsTellObstacles : Type 0
ChainsTellObstacles = (o : Opening) (h : Entries) (t : ℕ) (table : List ℕ) (key : Value)
    (chain : List Generation) → MayBegin o → IsLegal o h → StandFor o h table key chain
    → is_active (state_of o h t) ≡ true
    → obstacle (told o h) t table key ≡ newest_writer_if (can_hinder (told o h) t) chain

-- ---- tables that a history leaves

-- an entry whose event asks for no write to a table leaves it
abbrev pub OthersLeaveTable : Type 0
OthersLeaveTable = (o : Opening) (table : List ℕ) (h : Entries) (e : Entry)
    → LeavesTable o table h → asks_to_write e.event table ≡ false → LeavesTable o table (e ∷ h)

-- a table that is left is in each view, and in the database, as when the history began
abbrev pub LeftTableStands : Type 0
LeftTableStands = (o : Opening) (table : List ℕ) (h : Entries) (key : Value)
    → LeavesTable o table h
    → ((t : ℕ) → row_at (view o h t) table key ≡ row_at (opening_rows o) table key)
    × (row_at (database o h) table key ≡ row_at (opening_rows o) table key)

-- none of its keys has an obstacle
abbrev pub LeftTableHindersNot : Type 0
LeftTableHindersNot = (o : Opening) (table : List ℕ) (h : Entries) (t : ℕ) (key : Value)
    → LeavesTable o table h → obstacle (told o h) t table key ≡ None

-- where the catalog is left, each transaction sees the one that the history begins with: the shape
-- of each table, and the key of each row
abbrev pub LeftCatalogStands : Type 0
LeftCatalogStands = (o : Opening) (h : Entries) (t : ℕ) (table : List ℕ)
    → LeavesTable o catalog_name h
    → (shape_in (catalog_of (told o h) t) table ≡ shape_in (opening_catalog o) table)
    × ((row : Cells)
    → key_in (catalog_of (told o h) t) table row ≡ key_in (opening_catalog o) table row)

-- and no table has an obstacle
abbrev pub LeftCatalogHindersNot : Type 0
LeftCatalogHindersNot = (o : Opening) (h : Entries) (t : ℕ) (table : List ℕ)
    → LeavesTable o catalog_name h → table_obstacle (told o h) t table ≡ None
