-- The record of a key is visited, as a statement's step visits one: what nobody needs of it goes.
use Rattle.std.specs.Prelude.{Bool}
use Rattle.mg_value.specs.declared.value.Value.{Value}
use Rattle.mg_model.specs.declared.opening.Opening.{Opening}
use Rattle.mg_model.specs.declared.table.Table.{Table}
use Rattle.mg_model.specs.History.{Entries}
use Rattle.mg_records.specs.Meaning.{Means}
use Rattle.mg_tending.specs.Collecting.{Collecting, CollectsKey}

-- The record that speaks for a key is collected, once its row was read; that has left each history as it was.
pub record KeyIsCollected {R P : Type 0} (m : Means R P) (c : Collecting R P) (old new : R) (table : Table) (key : Value)
    : Type 0 where
  pub between : R
  pub stays : (o : Opening) (h : Entries) → m.stands old o h → m.stands between o h
  pub gone : Bool
  pub collects : CollectsKey m c between new table key gone
