-- What an engine has in memory and on its pages, and which history it stands for.
use Rattle.std.specs.Prelude.{◌≡◌, ◌⊎◌, ◌<◌, ℕ, true, List, [], ◌∷◌, map, Option, None, Some}
use Rattle.mg_base.specs.declared.transaction.TxState.{TxState}
use Rattle.mg_base.specs.declared.transaction.TxState.TheVariants.{Active}
use Rattle.mg_value.specs.declared.shape.Shape.{Shape}
use Rattle.mg_value.specs.declared.value.Value.{Value}
use Rattle.mg_model.specs.declared.event.Mode.{Mode}
use Rattle.mg_model.specs.declared.opening.Opening.{Opening}
use Rattle.mg_model.specs.declared.table.Table.{Table}
use Rattle.mg_model.specs.Changes.{has_change}
use Rattle.mg_model.specs.History.{Entries}
use Rattle.mg_model.specs.Legal.{IsLegal}
use Rattle.mg_model.specs.Machine.{deeds_by, mode_of, next_number, own, state_of, steps}
use Rattle.mg_model.specs.Openings.{IsOpening, everyone}
use Rattle.mg_records.specs.Reading.{shape_seen}
use Rattle.mg_snap.specs.Live.{State as Live}
use Rattle.mg_chain.specs.Bases.{StandsFor}
use Rattle.mg_waits.specs.Machine.{NotesLast}
use Rattle.mg_waits.specs.Waits.{Edges}
use Rattle.mg_undo.specs.Machine.{undo_of}
use Rattle.mg_undo.specs.Undo.{State as Undo}
use Rattle.mg_image.specs.Form.{Form, Pages}
use Rattle.mg_image.specs.Inventory.{next_of}
use Rattle.mg_image.specs.Records.{Reading}
use Rattle.mg_image.specs.Sound.{IsSoundBy, facts_by}
use Rattle.mg_image.specs.Tables.{Layout, Stand, stands_of, table_at}
use Rattle.mg_key_entry_laws.specs.KeptEntries.{HasFound}
use Rattle.mg_image_overlay_laws.specs.tables.TableOwners.{IsOneOf}
use Rattle.mg_overlay_laws.specs.Overlays.{left_state}
use Rattle.mg_engine_step_laws.specs.standing.Bare.{IsBare}
use Rattle.mg_engine_step_laws.specs.standing.Based.{AreBased}
use Rattle.mg_engine_step_laws.specs.standing.Versions.{HaveVersions}

-- What an engine has in memory of its transactions.
pub record Standing : Type 0 where
  -- the number that can't be drawn, and the one that is drawn next
  pub limit : ℕ
  pub next : ℕ
  -- what has become of each transaction
  pub state : ℕ → TxState
  -- how an active one runs, and by which session pages are marked for it
  pub mode : ℕ → Mode
  pub session : ℕ → ℕ
  -- those that have not ended, with their bases
  pub live : Live
  -- who waits for whom
  pub waits : Edges
  -- what an active one has to take back, and the number by which that names a table: its first pointer
  -- page
  pub undo : ℕ → Undo
  pub number : ℕ → List ℕ → ℕ
  -- the table of a name that an active one sees
  pub table : ℕ → List ℕ → Option Table

-- ---- what is in memory

-- the table that is seen under a name has the shape that the history tells, and none is where it tells
-- none
abbrev pub IsSeenAs : List ℕ → Option Shape → Option Table → Type 0
IsSeenAs name None None = Unit {0}
IsSeenAs name None (Some table) = ⊥
IsSeenAs name (Some shape) None = ⊥
IsSeenAs name (Some shape) (Some table) = (table.name ≡ name) × (table.shape ≡ shape)

-- What is in memory of an active transaction.
pub record RemembersOne (o : Opening) (h : Entries) (s : Standing) (t : ℕ) : Type 0 where
  pub mode : s.mode t ≡ mode_of h t
  pub session : s.session t < 32
  pub undo : s.undo t ≡ undo_of (s.number t) (deeds_by t (steps o h))
  pub table : (name : List ℕ) → IsSeenAs name (shape_seen o h t name) (s.table t name)

-- What is in memory is what a history says.
pub record Remembers (o : Opening) (h : Entries) (s : Standing) : Type 0 where
  pub limit : s.limit ≡ o.limit.0
  pub next : s.next ≡ next_number o h
  pub state : (t : ℕ) → s.state t ≡ state_of o h t
  pub live : StandsFor o h s.live
  -- who has a base is active: so whom all active ones see, the test of all bases tells
  pub based : AreBased o h s.live
  pub waits : NotesLast h s.waits
  pub active : (t : ℕ) → state_of o h t ≡ Active → RemembersOne o h s t
  -- each session has one active transaction at most
  pub apart : (t u : ℕ) → state_of o h t ≡ Active → state_of o h u ≡ Active
      → s.session t ≡ s.session u → t ≡ u

-- ---- what is on the pages

-- a table with a name has this first pointer page
abbrev pub HasFirstPage : List Stand → List ℕ → ℕ → Type 0
HasFirstPage [] name page = ⊥
HasFirstPage (stand ∷ stands) name page =
    ((stand.table.name ≡ name) × (stand.table.pointer.0 ≡ page)) ⊎ HasFirstPage stands name page

-- The tables that an active transaction sees are those of the layout, with all their indexes, and the tables that it
-- has changed are where it takes them to be.
pub record FindsTables (o : Opening) (h : Entries) (s : Standing) (layout : Layout) (t : ℕ) : Type 0
  where
    pub seen : (name : List ℕ) (table : Table) → s.table t name ≡ Some table
        → IsOneOf (map (λ stand. stand.table) layout.tables) table
    pub changed : (name : List ℕ) (key : Value) → has_change (own o h t) name key ≡ true
        → HasFirstPage (stands_of layout) name (s.number t name)

-- The pages as the cache shows them are a sound image, where each active transaction counts as in
-- limbo, their records have the versions that the history says, and the indexes what a keeper asks of them.
pub record ShowsHistory (form : Form) (size : ℕ) (o : Opening) (h : Entries) (s : Standing)
    (pages : Pages) : Type 0 where
  pub layout : Layout
  pub reading : Reading
  pub sound : IsSoundBy form size (left_state everyone s.state) pages layout reading
  pub next : next_of pages ≡ s.next
  pub versions : HaveVersions o h (facts_by (left_state everyone s.state) pages layout) reading
  pub tables : (t : ℕ) → s.state t ≡ Active → FindsTables o h s layout t
  -- what active transactions see is found in the indexes, and the keys of records whose deletion counts in the primary ones
  pub found : HasFound s.state s.live (table_at (stands_of layout)) pages reading
  -- no table has an index yet: that carries `found` wherever no law of its own does
  pub bare : IsBare layout

-- the same, where the pages are known: the disk tells its images, and no page write has failed
abbrev pub ShowsIfKnown : Form → ℕ → Opening → Entries → Standing → Option Pages → Type 0
ShowsIfKnown form size o h s None = Unit {0}
ShowsIfKnown form size o h s (Some pages) = ShowsHistory form size o h s pages

-- An engine stands for a history that begins so and has these entries: the history is legal, memory is
-- as it says, and so are the pages, where they are known.
pub record Stands (form : Form) (size : ℕ) (o : Opening) (h : Entries) (s : Standing)
    (pages : Option Pages) : Type 0 where
  pub opening : IsOpening o
  pub legal : IsLegal o h
  pub memory : Remembers o h s
  pub shows : ShowsIfKnown form size o h s pages
