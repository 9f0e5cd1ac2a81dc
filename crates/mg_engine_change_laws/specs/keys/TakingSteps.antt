-- A transaction takes its changes back, key after key: what each step tells, and what is known of the cache and of the
-- pages after all.
use Rattle.std.specs.Prelude.{◌≡◌, ◌⊎◌, ◌++◌, ℕ, true, List, [], ◌∷◌, Option, None, Some}
use Rattle.mg_base.specs.Disk.{Meaning}
use Rattle.mg_base.specs.Image.{Image}
use Rattle.mg_base.specs.declared.numbers.RecId.{RecId}
use Rattle.mg_chain.specs.Writing.{Replaces, TakesOut}
use Rattle.mg_engine_step_laws.specs.backs.Again.{without_key}
use Rattle.mg_engine_step_laws.specs.backs.Midway.{GoesBack, IsBackAt, IsMidway}
use Rattle.mg_engine_step_laws.specs.backs.Shown.{ShowsMidway}
use Rattle.mg_engine_step_laws.specs.writes.Knowing.{CodesRow, HasEntries, WasChanged}
use Rattle.mg_entries.specs.Entries.{PutsEntry}
use Rattle.mg_entry_overlay_laws.specs.Entered.{ShowsEntries}
use Rattle.mg_entry_tie_laws.specs.IndexPlaces.{HasRoot}
use Rattle.mg_image.specs.Form.{Pages, Row, packed_coding, packed_form}
use Rattle.mg_image.specs.Indexes.{Finds}
use Rattle.mg_image.specs.Records.{Reading}
use Rattle.mg_image.specs.Sound.{IsSoundBy}
use Rattle.mg_image.specs.Tables.{Layout}
use Rattle.mg_image_overlay_laws.specs.tables.Growing.{IsTableOf}
use Rattle.mg_image_overlay_laws.specs.names.Whose.{IsTableFor}
use Rattle.mg_model.specs.Openings.{everyone}
use Rattle.mg_node.specs.declared.entry.Entry.{Entry as IndexEntry}
use Rattle.mg_overlay_laws.specs.Overlays.{left_state}
use Rattle.mg_image.specs.Histories.{newest_at, row_change}
use Rattle.mg_model.specs.Changes.{Cells}
use Rattle.mg_model.specs.History.{Entries, Entry}
use Rattle.mg_model.specs.Legal.{IsLegal, MayBegin}
use Rattle.mg_model.specs.Machine.{own}
use Rattle.mg_model.specs.declared.change.Change.{Change}
use Rattle.mg_model.specs.declared.change.Point.{Point}
use Rattle.mg_model.specs.declared.opening.Opening.{Opening}
use Rattle.mg_model.specs.declared.table.Table.{Table}
use Rattle.mg_pool.specs.Batch.{Changed}
use Rattle.mg_pool.specs.Pool.{shown}
use Rattle.mg_pool.specs.declared.pool.Pool.{Pool}
use Rattle.mg_pool_overlay_laws.specs.Needs.{Asked, Sessions}
use Rattle.mg_space.specs.View.{KeepsStore}
use Rattle.mg_tie_laws.specs.Changed.{fresh}
use Rattle.mg_engine_step_laws.specs.standing.Standing.{Remembers, ShowsHistory, Standing}
use Rattle.mg_value.specs.declared.value.Value.{Value}
use Rattle.mg_version.specs.declared.cell.Version.{Version}

-- The transaction had not changed the key before the point: its version is taken out.
pub record GoesOut {D L : Type 0} (before : Pool D L) (i : Image) (batch : Changed) (o : Opening) (h : Entries)
    (e : Entry) (t : ℕ) (name : List ℕ) (key : Value) (rec : RecId) : Type 0 where
  pub takes : TakesOut before i fresh batch rec
  pub its : takes.was.tx.0 ≡ t
  pub none : newest_at (own o (e ∷ h) t) name key ≡ None

-- It had: the version that gives what it gave then is put in place of its own newest one.
pub record ComesBack {D L : Type 0} (before : Pool D L) (i : Image) (batch : Changed) (o : Opening) (h : Entries)
    (e : Entry) (t : ℕ) (name : List ℕ) (key : Value) (rec : RecId) (table : Table) : Type 0 where
  pub row : Option Cells
  pub version : Version
  pub stored : Row
  pub replaces : Replaces before i fresh batch rec version
  pub codes : CodesRow packed_coding table version stored t key row
  pub entries : HasEntries (shown before.dirty i) table rec version stored
  pub former : newest_at (own o (e ∷ h) t) name key ≡ Some (row_change row)

-- Pages were read, and then a key was taken back in a batch of its own, in the record that speaks for it.
pub record TakesKeyOf {D L : Type 0} (m : Meaning D) (size : ℕ) (o : Opening) (h : Entries) (e : Entry) (t : ℕ)
    (s : Standing) (speaker : List ℕ → Value → Option RecId) (left : List Change) (before after : Pool D L)
    (i j : Image) (name : List ℕ) (key : Value) : Type 0 where
  pub ready : Pool D L
  pub keeps : KeepsStore m before ready
  pub size_is : ready.geometry.size ≡ size
  pub page_size : before.dirty.size ≡ size
  pub tells : m.tells before.disk ≡ true
  pub batch : Changed
  pub was : WasChanged m ready after i j batch
  pub rec : RecId
  pub table : Table
  pub at_key : IsBackAt packed_form size s (shown ready.dirty i) t table name key left rec
  pub spoken : speaker name key ≡ Some rec
  pub how : GoesOut ready i batch o h e t name key rec ⊎ ComesBack ready i batch o h e t name key rec table

-- An entry was laid in an index of a table that stands, and into which the transaction may write, in a batch of its own.
pub record LaysEntryOf {D L : Type 0} (m : Meaning D) (size : ℕ) (s : Standing) (t : ℕ) (before after : Pool D L)
    (i j : Image) : Type 0 where
  pub size_is : before.geometry.size ≡ size
  pub batch : Changed
  pub was : WasChanged m before after i j batch
  pub table : Table
  pub root : ℕ
  pub entry : IndexEntry
  pub puts : PutsEntry before i fresh batch root entry
  pub stands : (layout : Layout) (reading : Reading)
      → IsSoundBy packed_form size (left_state everyone s.state) (shown before.dirty i) layout reading
      → IsTableOf layout table
  pub has : HasRoot table.indexes root
  pub whose : IsTableFor packed_form size t s.state (shown before.dirty i) table

-- these keys are taken back, one after another, between readings and entries that are laid; what is not taken back then
-- is the last one of the lists
pub data TakesKeysOf {D L : Type 0} (m : Meaning D) (size : ℕ) (o : Opening) (h : Entries) (e : Entry) (t : ℕ)
    (s : Standing) (speaker : List ℕ → Value → Option RecId) : List Change → List Change → List Change
    → Pool D L → Pool D L → Image → Image → Type 0 where
  no_keys : {left : List Change} {pool : Pool D L} {i : Image}
      → TakesKeysOf m size o h e t s speaker [] left left pool pool i i
  one_key : {keys left rest : List Change} {before after : Pool D L} {i j : Image} (c : Change) (mid : Pool D L)
      (k : Image) → TakesKeyOf m size o h e t s speaker left before mid i k c.table c.key
      → TakesKeysOf m size o h e t s speaker keys (without_key c.table c.key left) rest mid after k j
      → TakesKeysOf m size o h e t s speaker (c ∷ keys) left rest before after i j
  some_read : {keys left rest : List Change} {before after : Pool D L} {i j : Image} (mid : Pool D L)
      → KeepsStore m before mid → m.tells before.disk ≡ true → before.dirty.size ≡ size
      → TakesKeysOf m size o h e t s speaker keys left rest mid after i j
      → TakesKeysOf m size o h e t s speaker keys left rest before after i j
  one_entry : {keys left rest : List Change} {before after : Pool D L} {i j : Image} (mid : Pool D L) (k : Image)
      → LaysEntryOf m size s t before mid i k
      → TakesKeysOf m size o h e t s speaker keys left rest mid after k j
      → TakesKeysOf m size o h e t s speaker keys left rest before after i j

-- and then these
pub keys_then : {D L : Type 0} (m : Meaning D) (size : ℕ) (o : Opening) (h : Entries) (e : Entry) (t : ℕ) (s : Standing)
    (speaker : List ℕ → Value → Option RecId) (front back left between rest : List Change) (a b c : Pool D L)
    (i j k : Image) → TakesKeysOf m size o h e t s speaker front left between a b i j
    → TakesKeysOf m size o h e t s speaker back between rest b c j k
    → TakesKeysOf m size o h e t s speaker (front ++ back) left rest a c i k
keys_then m size o h e t s speaker front back left between rest a b c i j k no_keys more = more
keys_then m size o h e t s speaker front back left between rest a b c i j k (one_key {keys = keys} x mid n taken later)
    more = one_key x mid n taken (keys_then m size o h e t s speaker keys back (without_key x.table x.key left) between
    rest mid b c n j k later more)
keys_then m size o h e t s speaker front back left between rest a b c i j k (some_read mid keeps tells page_size later)
    more = some_read mid keeps tells page_size
    (keys_then m size o h e t s speaker front back left between rest mid b c i j k later more)
keys_then m size o h e t s speaker front back left between rest a b c i j k (one_entry mid n laid later) more =
    one_entry mid n laid (keys_then m size o h e t s speaker front back left between rest mid b c n j k later more)

-- What is known in the middle: the cache, and the pages.
pub record StandsMidway {D L : Type 0} (m : Meaning D) (size : ℕ) (o : Opening) (h : Entries) (e : Entry) (t : ℕ)
    (whole left : List Change) (s : Standing) (start pool : Pool D L) (begun : Pages)
    (first : ShowsHistory packed_form size o h s begun) (i : Image) (asked : Asked) (session : Sessions) : Type 0
  where
    pub cache : IsMidway m packed_form size o h e t left s start pool i asked session
    pub pages : ShowsMidway packed_form size o h e t whole left s begun first (shown pool.dirty i)

-- An entry was laid in the middle: what is known goes on over pages that differ in trees alone.
pub record StandsEntered {D L : Type 0} (m : Meaning D) (size : ℕ) (o : Opening) (h : Entries) (e : Entry) (t : ℕ)
    (whole left : List Change) (s : Standing) (start before after : Pool D L) (begun : Pages)
    (first : ShowsHistory packed_form size o h s begun) (i j : Image) (asked : Asked) (session : Sessions)
    (midway : StandsMidway m size o h e t whole left s start before begun first i asked session) (root : ℕ)
    (entry : IndexEntry) : Type 0 where
  pub entries : ShowsEntries packed_form size (left_state everyone s.state) (shown before.dirty i) (shown after.dirty j)
      midway.pages.layout midway.pages.reading
  pub then_ : StandsMidway m size o h e t whole left s start after begun first j asked session
  pub layout : then_.pages.layout ≡ entries.layout
  pub reading : then_.pages.reading ≡ midway.pages.reading
  pub has : Finds (shown after.dirty j) entry root

-- so it is after each step, and after all
abbrev pub KeysGoOn : (D L : Type 0) → Meaning D → Type 0
KeysGoOn D L m = (size : ℕ) (o : Opening) (h : Entries) (e : Entry) (point : Point) (s : Standing)
    (start before after : Pool D L) (begun : Pages) (first : ShowsHistory packed_form size o h s begun) (i j : Image)
    (asked : Asked) (session : Sessions) (t : ℕ) (whole left rest keys : List Change) → MayBegin o → IsLegal o h
    → Remembers o h s → GoesBack o h e point s asked t
    → TakesKeysOf m size o h e t s first.versions.speaker keys left rest before after i j
    → StandsMidway m size o h e t whole left s start before begun first i asked session
    → StandsMidway m size o h e t whole rest s start after begun first j asked session
