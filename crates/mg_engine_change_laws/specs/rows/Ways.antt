-- On which way a write goes into the record of its key, where nobody is in the way there.
use Rattle.std.specs.Prelude.{◌≡◌, ℕ, None, Some}
use Rattle.mg_base.specs.declared.numbers.RecId.{RecId}
use Rattle.mg_base.specs.declared.transaction.TxState.TheVariants.{Committed, Dead}
use Rattle.mg_image.specs.Form.{Pages, packed_form}
use Rattle.mg_image.specs.Records.{cells_of}
use Rattle.mg_image.specs.Tables.{stands_of, table_at}
use Rattle.mg_model.specs.declared.opening.Opening.{Opening}
use Rattle.mg_model.specs.declared.table.Table.{Table}
use Rattle.mg_model.specs.History.{Entries}
use Rattle.mg_row_writes.specs.Befores.{IsBeforeIn}
use Rattle.mg_row_writes.specs.declared.before.Before.{Before}
use Rattle.mg_row_writes.specs.declared.before.Way.TheVariants as ways
use Rattle.mg_seek.specs.Views.{IsObstacle}
use Rattle.mg_engine_step_laws.specs.standing.Standing.{Standing, Stands}
use Rattle.mg_version.specs.declared.cell.Cell.TheVariants as cells
use Rattle.mg_version.specs.declared.cell.Link.{Link}

-- A version that is pushed goes over a committed one, and one that has to go first is a dead transaction's.
pub record IsFreeWay (s : Standing) (rec : RecId) (newest : Link) (b : Before) : Type 0 where
  pub over : b.way ≡ ways.Push rec → s.state newest.tx.0 ≡ Committed
  pub over_dead : b.way ≡ ways.PushOverDead rec → s.state newest.tx.0 ≡ Dead

-- so it is where nobody is in the way, at a record whose slot leads to its newest version
abbrev pub WaysAreFree : Type 0
WaysAreFree = (size : ℕ) (o : Opening) (h : Entries) (s : Standing) (pages : Pages)
    (stands : Stands packed_form size o h s (Some pages)) (t : ℕ) (its table : Table) (rec : RecId) (newest : Link)
    (b : Before) → table_at (stands_of stands.shows.layout) rec.page.0 ≡ Some its
    → cells_of pages rec ≡ Some (cells.Anchor newest) → IsObstacle s.state s.live t pages rec None
    → IsBeforeIn s.state s.live t pages table rec b → IsFreeWay s rec newest b
