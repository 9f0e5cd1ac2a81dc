-- Each active transaction finds its tables after an entry under which the layout stays.
use Rattle.std.specs.Prelude.{◌≡◌, ℕ, true, false, List, ◌∷◌, map, Option, Some}
use Rattle.mg_base.specs.declared.transaction.TxState.TheVariants.{Active, Committed}
use Rattle.mg_model.specs.declared.event.Mode.{Mode}
use Rattle.mg_model.specs.declared.opening.Opening.{Opening}
use Rattle.mg_model.specs.declared.table.Table.{Table}
use Rattle.mg_model.specs.Effects.{is_its}
use Rattle.mg_model.specs.History.{Begins, Ends, Entries, Entry, Looks, effect_of}
use Rattle.mg_model.specs.Legal.{IsLegal, MayBegin}
use Rattle.mg_model.specs.Machine.{mode_of}
use Rattle.mg_records.specs.Reading.{shape_seen}
use Rattle.mg_image.specs.Form.{Pages, packed_form}
use Rattle.mg_image.specs.Tables.{Layout}
use Rattle.mg_image_overlay_laws.specs.tables.TableOwners.{IsOneOf}
use Rattle.mg_model.specs.Openings.{everyone}
use Rattle.mg_overlay_laws.specs.Overlays.{left_state}
use Rattle.mg_lasting_laws.specs.Entries.{is_idle}
use Rattle.mg_engine_step_laws.specs.standing.Following.{FollowsEntry}
use Rattle.mg_engine_step_laws.specs.standing.QuietPages.{FindsAfter, StaySound}
use Rattle.mg_engine_step_laws.specs.standing.Standing.{IsSeenAs, Standing}
use Rattle.mg_engine_step_laws.specs.standing.Known.{KnowsPages}

-- ---- the tables of a new base

-- Tables to be seen by a transaction: one for each name under which a history tells it a table, of the shape that
-- is told, which stands on the pages; and none for each other name.
pub record TablesFor (o : Opening) (h : Entries) (layout : Layout) (t : ℕ) : Type 0 where
  pub table : List ℕ → Option Table
  pub seen_as : (name : List ℕ) → IsSeenAs name (shape_seen o h t name) (table name)
  pub stands : (name : List ℕ) (given : Table) → table name ≡ Some given
      → IsOneOf (map (λ stand. stand.table) layout.tables) given

-- there are such for one that begins
abbrev pub BeginHasTables : Type 0
BeginHasTables = (size : ℕ) (o : Opening) (h : Entries) (e : Entry) (t : ℕ) (mode : Mode)
    (s : Standing) (pages : Pages) (knows : KnowsPages size o h s pages) → MayBegin o
    → IsLegal o (e ∷ h) → effect_of e ≡ Begins t mode → TablesFor o (e ∷ h) knows.shows.layout t

-- and for one that takes a new base as a statement of it begins
abbrev pub LookHasTables : Type 0
LookHasTables = (size : ℕ) (o : Opening) (h : Entries) (e : Entry) (t : ℕ) (s : Standing)
    (pages : Pages) (knows : KnowsPages size o h s pages) → MayBegin o → IsLegal o (e ∷ h)
    → effect_of e ≡ Looks t → (mode_of h t).snapshot ≡ false
    → TablesFor o (e ∷ h) knows.shows.layout t

-- ---- finding them

-- a transaction begins, and sees such tables
abbrev pub BeginFinds : Type 0
BeginFinds = (size : ℕ) (o : Opening) (h : Entries) (e : Entry) (t : ℕ) (mode : Mode)
    (s new : Standing) (pages later : Pages) (knows : KnowsPages size o h s pages) → MayBegin o
    → IsLegal o (e ∷ h) → effect_of e ≡ Begins t mode → FollowsEntry o h e s new
    → StaySound packed_form size (left_state everyone new.state) pages later
    → (given : TablesFor o (e ∷ h) knows.shows.layout t)
    → ((name : List ℕ) → new.table t name ≡ given.table name)
    → FindsAfter packed_form size o h e s new later

-- a statement of a transaction begins, and it sees such tables; it knows those that it has changed as before
abbrev pub LookFinds : Type 0
LookFinds = (size : ℕ) (o : Opening) (h : Entries) (e : Entry) (t : ℕ) (s new : Standing)
    (pages : Pages) (knows : KnowsPages size o h s pages) → effect_of e ≡ Looks t
    → FollowsEntry o h e s new → (given : TablesFor o (e ∷ h) knows.shows.layout t)
    → ((name : List ℕ) → new.table t name ≡ given.table name) → new.number t ≡ s.number t
    → FindsAfter packed_form size o h e s new pages

-- an idle entry under which its transaction sees the tables that it saw
abbrev pub IdleFinds : Type 0
IdleFinds = (size : ℕ) (o : Opening) (h : Entries) (e : Entry) (s new : Standing) (pages : Pages)
    → is_idle (effect_of e) ≡ true → FollowsEntry o h e s new
    → ((t : ℕ) → is_its t e ≡ true → new.state t ≡ Active
    → (new.number t ≡ s.number t) × ((name : List ℕ) → new.table t name ≡ s.table t name))
    → FindsAfter packed_form size o h e s new pages

-- a transaction is committed
abbrev pub CommitFinds : Type 0
CommitFinds = (size : ℕ) (o : Opening) (h : Entries) (e : Entry) (t : ℕ) (s new : Standing)
    (later : Pages) → effect_of e ≡ Ends t Committed → FollowsEntry o h e s new
    → FindsAfter packed_form size o h e s new later
