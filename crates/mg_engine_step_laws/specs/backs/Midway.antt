-- A transaction takes back what it has changed since a point, one key after another: what is known of the cache
-- in between, what one step knows, and what stands at the end.
use Rattle.mg_base.specs.Disk.{Meaning}
use Rattle.mg_base.specs.Image.{Image}
use Rattle.mg_base.specs.declared.numbers.RecId.{RecId}
use Rattle.mg_base.specs.declared.transaction.TxState.TheVariants.{Active}
use Rattle.mg_chain.specs.Writing.{Replaces, TakesOut}
use Rattle.mg_engine_step_laws.specs.backs.Again.{AreTaken, again, rolling, without_key}
use Rattle.mg_engine_step_laws.specs.backs.Shown.{ShowsMidway, TakesKeyBack}
use Rattle.mg_engine_step_laws.specs.writes.GoesOn.{HasGoneOn}
use Rattle.mg_engine_step_laws.specs.writes.Knowing.{CodesRow, HasEntries, MayWriteInto, WasChanged}
use Rattle.mg_image.specs.Form.{Form, Pages, Row}
use Rattle.mg_image.specs.Histories.{newest_at, row_change}
use Rattle.mg_image.specs.Inventory.{next_of}
use Rattle.mg_image.specs.Records.{Reading, record_key}
use Rattle.mg_image.specs.Sound.{IsSoundBy}
use Rattle.mg_image.specs.Tables.{Layout, stands_of, table_at}
use Rattle.mg_lasting_laws.specs.Crashes.{HoldsAcknowledged, LeavesSince, may_last}
use Rattle.mg_lasting_laws.specs.Entries.{is_idle}
use Rattle.mg_lasting_laws.specs.Lasting.{LastsOn}
use Rattle.mg_model.specs.Changes.{Cells}
use Rattle.mg_model.specs.History.{Entries, Entry, TakesBack, effect_of}
use Rattle.mg_model.specs.Legal.{IsLawful, IsLegal, MayBegin, is_durable}
use Rattle.mg_model.specs.Machine.{own}
use Rattle.mg_model.specs.Openings.{everyone}
use Rattle.mg_model.specs.declared.change.Change.{Change}
use Rattle.mg_model.specs.declared.change.Point.{Point}
use Rattle.mg_model.specs.declared.opening.Opening.{Opening}
use Rattle.mg_model.specs.declared.table.Table.{Table}
use Rattle.mg_overlay_laws.specs.Overlays.{left_state}
use Rattle.mg_pool.specs.Batch.{Changed}
use Rattle.mg_pool.specs.Pool.{IsPool, shown}
use Rattle.mg_pool.specs.declared.pool.Pool.{Pool}
use Rattle.mg_pool_overlay_laws.specs.Needs.{Asked, Sessions}
use Rattle.mg_tie_laws.specs.Changed.{KeptIn, fresh}
use Rattle.mg_engine_step_laws.specs.standing.Following.{FollowsEntry}
use Rattle.mg_engine_step_laws.specs.standing.QuietPages.{FindsAfter}
use Rattle.mg_engine_step_laws.specs.standing.Standing.{Remembers, Standing, Stands}
use Rattle.mg_value.specs.declared.value.Value.{Value}
use Rattle.mg_version.specs.declared.cell.Version.{Version}
use Rattle.std.proofs.Common.{List, None, Option, Some, [], false, true, ℕ, ◌<◌, ◌∷◌, ◌≡◌}

-- Some changes are not taken back yet: in every overlay the transaction has these over those that it is left
-- with. A crash leaves what the history before has, as if the transaction were rolled back.
pub record IsMidway {D L : Type 0} (m : Meaning D) (form : Form) (size : ℕ) (o : Opening) (h : Entries)
    (e : Entry) (t : ℕ) (left : List Change) (s : Standing) (start pool : Pool D L) (i : Image)
    (asked : Asked) (session : Sessions) : Type 0 where
  pub kept : KeptIn form size o (again t left (e ∷ h)) s.state asked session pool i
  pub lasts : LastsOn m form o (rolling t ∷ h) pool asked session
  pub leaves : LeavesSince m start.disk pool.disk (HoldsAcknowledged form size o h)

-- Whatever has come of its pages, the cache lasts with the history in which the transaction is rolled back, and a crash
-- leaves what the history before has: with it dead every overlay is what it has to be. So it is between the rows of a
-- table, where no overlay is that counts the transaction as in limbo.
pub record LastsDead {D L : Type 0} (m : Meaning D) (form : Form) (size : ℕ) (o : Opening) (h : Entries) (t : ℕ)
    (start pool : Pool D L) (asked : Asked) (session : Sessions) : Type 0 where
  pub lasts : LastsOn m form o (rolling t ∷ h) pool asked session
  pub leaves : LeavesSince m start.disk pool.disk (HoldsAcknowledged form size o h)

-- A transaction that is active, and has not asked for its commit, takes back; the entry is idle to all but its
-- own changes.
pub record GoesBack (o : Opening) (h : Entries) (e : Entry) (point : Point) (s : Standing) (asked : Asked) (t : ℕ)
    : Type 0 where
  pub back : effect_of e ≡ TakesBack t point
  pub passing : is_durable e ≡ false
  pub no_failure : may_last e ≡ false
  pub active : s.state t ≡ Active
  pub not_asked : asked t ≡ false
  -- a rollback would be lawful
  pub ends : IsLawful o h (rolling t)

-- ---- the beginning

abbrev pub MidwaysBegin : Form → (D L : Type 0) → Meaning D → Type 0
MidwaysBegin form D L m = (o : Opening) (h : Entries) (e : Entry) (point : Point) (s : Standing) (pool : Pool D L)
    (i : Image) (asked : Asked) (session : Sessions) (t : ℕ) (left : List Change)
    → Stands form pool.geometry.size o h s (Some (shown pool.dirty i))
    → LastsOn m form o h pool asked session → IsPool m pool → m.held pool.disk ≡ Some i
    → m.tells pool.disk ≡ true → GoesBack o h e point s asked t → AreTaken o h e t left
    → IsMidway m form pool.geometry.size o h e t left s pool pool i asked session

-- ---- one key

-- A record's newest version is the transaction's own, of a key whose change is not taken back yet: the pages
-- are sound with this layout and reading, the record is one of a table into which the transaction may write.
pub record IsBackAt (form : Form) (size : ℕ) (s : Standing) (pages : Pages) (t : ℕ) (table : Table)
    (name : List ℕ) (key : Value) (left : List Change) (rec : RecId) : Type 0 where
  pub layout : Layout
  pub reading : Reading
  pub sound : IsSoundBy form size (left_state everyone s.state) pages layout reading
  pub drawn : t < next_of pages
  pub may : MayWriteInto form size s.state pages layout reading t table
  pub named : table.name ≡ name
  pub of_table : table_at (stands_of layout) rec.page.0 ≡ Some table
  pub keyed : record_key table (reading rec) ≡ key
  pub change : Option Cells
  pub to_take : newest_at left name key ≡ Some (row_change change)

-- the key had no change before: the version is taken out, and the record is read without it
abbrev pub KeysGoOut : Form → (D L : Type 0) → Meaning D → Type 0
KeysGoOut form D L m = (o : Opening) (h : Entries) (e : Entry) (point : Point) (s : Standing) (start : Pool D L)
    (before after : Pool D L) (i j : Image) (batch : Changed) (asked : Asked) (session : Sessions) (t : ℕ)
    (name : List ℕ) (key : Value) (left : List Change) (rec : RecId) (table : Table) → MayBegin o → IsLegal o h
    → Remembers o h s → GoesBack o h e point s asked t
    → IsMidway m form before.geometry.size o h e t left s start before i asked session
    → WasChanged m before after i j batch → (takes : TakesOut before i fresh batch rec)
    → takes.was.tx.0 ≡ t
    → (at_key : IsBackAt form before.geometry.size s (shown before.dirty i) t table name key left rec)
    → newest_at (own o (e ∷ h) t) name key ≡ None
    → IsMidway m form before.geometry.size o h e t (without_key name key left) s start after j asked session
    × ((speaker : List ℕ → Value → Option RecId) → speaker name key ≡ Some rec
    → TakesKeyBack form before.geometry.size o h e t s (shown before.dirty i) (shown after.dirty j) at_key.layout
    at_key.reading speaker name key rec table)

-- it had one: its version comes back, in its cell or moved, and the record is read with it
abbrev pub KeysComeBack : Form → (D L : Type 0) → Meaning D → Type 0
KeysComeBack form D L m = (o : Opening) (h : Entries) (e : Entry) (point : Point) (s : Standing)
    (start : Pool D L) (before after : Pool D L) (i j : Image) (batch : Changed) (asked : Asked)
    (session : Sessions) (t : ℕ) (name : List ℕ) (key : Value) (row : Option Cells) (left : List Change)
    (rec : RecId) (v : Version) (stored : Row) (table : Table) → MayBegin o → IsLegal o h → Remembers o h s
    → GoesBack o h e point s asked t
    → IsMidway m form before.geometry.size o h e t left s start before i asked session
    → WasChanged m before after i j batch → Replaces before i fresh batch rec v
    → (at_key : IsBackAt form before.geometry.size s (shown before.dirty i) t table name key left rec)
    → CodesRow form.coding table v stored t key row → HasEntries (shown before.dirty i) table rec v stored
    → newest_at (own o (e ∷ h) t) name key ≡ Some (row_change row)
    → IsMidway m form before.geometry.size o h e t (without_key name key left) s start after j asked session
    × ((speaker : List ℕ → Value → Option RecId) → speaker name key ≡ Some rec
    → TakesKeyBack form before.geometry.size o h e t s (shown before.dirty i) (shown after.dirty j) at_key.layout
    at_key.reading speaker name key rec table)

-- ---- the end

-- all is taken back: the cache lasts with the history that has the entry
abbrev pub MidwaysEnd : Form → (D L : Type 0) → Meaning D → Type 0
MidwaysEnd form D L m = (o : Opening) (h : Entries) (e : Entry) (point : Point) (s : Standing)
    (start pool : Pool D L) (i : Image) (asked : Asked) (session : Sessions) (t : ℕ)
    → Remembers o h s → GoesBack o h e point s asked t → IsPool m pool → m.held pool.disk ≡ Some i
    → IsMidway m form pool.geometry.size o h e t [] s start pool i asked session
    → LastsOn m form o (e ∷ h) pool asked session
    × LeavesSince m start.disk pool.disk (HoldsAcknowledged form pool.geometry.size o h)

-- and an engine whose pages show it stands for that history
abbrev pub EnginesGoBack : Form → (D L : Type 0) → Meaning D → Type 0
EnginesGoBack form D L m = (o : Opening) (h : Entries) (e : Entry) (point : Point) (s new : Standing)
    (start pool : Pool D L) (k i : Image) (asked : Asked) (session : Sessions) (t : ℕ) (whole : List Change)
    (stands : Stands form pool.geometry.size o h s (Some (shown start.dirty k)))
    → start.dirty.size ≡ pool.geometry.size → IsPool m pool → m.held pool.disk ≡ Some i
    → GoesBack o h e point s asked t → AreTaken o h e t whole → IsLawful o h e → FollowsEntry o h e s new
    → FindsAfter form pool.geometry.size o h e s new (shown pool.dirty i)
    → IsMidway m form pool.geometry.size o h e t [] s start pool i asked session
    → ShowsMidway form pool.geometry.size o h e t whole [] s (shown start.dirty k) stands.shows (shown pool.dirty i)
    → HasGoneOn m form pool.geometry.size o h e new start pool i asked session

-- ---- given up in the middle

-- The event was refused in the middle, and the transaction is rolled back: the cache lasts with the history that
-- has the refused event and the rollback.
abbrev pub MidwaysAreGivenUp : Form → (D L : Type 0) → Meaning D → Type 0
MidwaysAreGivenUp form D L m = (o : Opening) (h : Entries) (refused : Entry) (start pool : Pool D L) (asked : Asked)
    (session : Sessions) (t : ℕ) → is_idle (effect_of refused) ≡ true → is_durable refused ≡ false
    → may_last refused ≡ false → LastsDead m form pool.geometry.size o h t start pool asked session
    → LastsOn m form o (rolling t ∷ refused ∷ h) pool asked session
    × LeavesSince m start.disk pool.disk (HoldsAcknowledged form pool.geometry.size o h)
