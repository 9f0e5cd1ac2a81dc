-- The walks of all others go on while a transaction is taken back, and where it is given up.
use Rattle.std.specs.Prelude.{◌≡◌, ◌≢◌, ℕ, List, Option}
use Rattle.mg_base.specs.declared.transaction.TxState.TheVariants.{Active}
use Rattle.mg_chain.specs.Chains.{takes_version}
use Rattle.mg_engine_step_laws.specs.standing.Known.{IsShown}
use Rattle.mg_engine_step_laws.specs.reads.Walking.{AreToCome, WalkPlace}
use Rattle.mg_engine_step_laws.specs.backs.Shown.{ShowsMidway}
use Rattle.mg_engine_meaning_laws.specs.Falling.{Falls}
use Rattle.mg_image.specs.Form.{Pages, packed_form}
use Rattle.mg_image.specs.Records.{Reading}
use Rattle.mg_image.specs.Sound.{IsSoundBy}
use Rattle.mg_image.specs.Tables.{Layout, stands_of}
use Rattle.mg_image_overlay_laws.specs.kept.KeptImages.{AreFrontStands}
use Rattle.mg_model.specs.Changes.{KeyedRows}
use Rattle.mg_model.specs.History.{Entries, Entry}
use Rattle.mg_model.specs.Openings.{everyone}
use Rattle.mg_model.specs.declared.change.Change.{Change}
use Rattle.mg_model.specs.declared.opening.Opening.{Opening}
use Rattle.mg_model.specs.declared.table.Table.{Table}
use Rattle.mg_overlay_laws.specs.Overlays.{left_state}
use Rattle.mg_engine_step_laws.specs.standing.Standing.{ShowsHistory, Standing}

-- One active transaction takes back, and another one walks, which takes the versions of the same writers as before.
pub record WalksBeside (s new : Standing) (t u : ℕ) : Type 0 where
  pub back : s.state t ≡ Active
  pub active : s.state u ≡ Active
  pub apart : u ≢ t
  pub takes : (by : ℕ) → takes_version new.state new.live u by ≡ takes_version s.state s.live u by

-- whatever is taken back: each table has the data pages that it had, in their order, and more
abbrev pub BackWalksGoOn : Type 0
BackWalksGoOn = (size : ℕ) (o : Opening) (h : Entries) (e : Entry) (t u : ℕ) (whole left : List Change)
    (s new : Standing) (begun pages : Pages) (first : ShowsHistory packed_form size o h s begun)
    (midway : ShowsMidway packed_form size o h e t whole left s begun first pages) → WalksBeside s new t u
    → AreFrontStands (stands_of first.layout) (stands_of midway.layout)
    → ((v : ℕ) → new.state v ≡ s.state v)
    → (table : Table) (after : Option WalkPlace) (rows : KeyedRows)
    → AreToCome size s begun u table after rows → AreToCome size new pages u table after rows

-- and where it then counts as dead, over a table that stands still
abbrev pub GivenUpWalksGoOn : Type 0
GivenUpWalksGoOn = (size : ℕ) (o : Opening) (h : Entries) (e : Entry) (t u : ℕ) (whole left : List Change)
    (s new : Standing) (begun pages : Pages) (first : ShowsHistory packed_form size o h s begun)
    (midway : ShowsMidway packed_form size o h e t whole left s begun first pages) → WalksBeside s new t u
    → AreFrontStands (stands_of first.layout) (stands_of midway.layout)
    → Falls (left_state everyone s.state) (left_state everyone new.state) t
    → (layout : Layout) (reading : Reading)
    → IsSoundBy packed_form size (left_state everyone new.state) pages layout reading
    → (table : Table) → IsShown layout table → (after : Option WalkPlace) (rows : KeyedRows)
    → AreToCome size s begun u table after rows → AreToCome size new pages u table after rows
