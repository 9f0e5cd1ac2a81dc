-- Which tables each active transaction finds after one has taken back to a point.
use Rattle.std.specs.Prelude.{◌≡◌, ℕ, List, [], Some}
use Rattle.mg_base.specs.declared.transaction.TxState.TheVariants.{Active}
use Rattle.mg_engine_step_laws.specs.backs.Again.{AreTaken}
use Rattle.mg_engine_step_laws.specs.backs.Shown.{ShowsMidway}
use Rattle.mg_image.specs.Form.{Pages, packed_form}
use Rattle.mg_model.specs.History.{Entries, Entry, TakesBack, effect_of}
use Rattle.mg_model.specs.declared.change.Change.{Change}
use Rattle.mg_model.specs.declared.change.Point.{Point}
use Rattle.mg_model.specs.declared.opening.Opening.{Opening}
use Rattle.mg_model.specs.declared.table.Table.{Table}
use Rattle.mg_engine_step_laws.specs.standing.Following.{FollowsEntry}
use Rattle.mg_engine_step_laws.specs.standing.QuietPages.{FindsAfter}
use Rattle.mg_engine_step_laws.specs.standing.Standing.{ShowsHistory, Standing}

-- each finds them where it found them, where the one that took back sees the tables that it saw, or fewer
abbrev pub BackFinds : Type 0
BackFinds = (size : ℕ) (o : Opening) (h : Entries) (e : Entry) (point : Point) (t : ℕ) (whole : List Change)
    (s new : Standing) (begun pages : Pages) (first : ShowsHistory packed_form size o h s begun)
    → effect_of e ≡ TakesBack t point → s.state t ≡ Active → AreTaken o h e t whole → FollowsEntry o h e s new
    → new.number t ≡ s.number t
    → ((name : List ℕ) (table : Table) → new.table t name ≡ Some table → s.table t name ≡ Some table)
    → ShowsMidway packed_form size o h e t whole [] s begun first pages
    → FindsAfter packed_form size o h e s new pages
