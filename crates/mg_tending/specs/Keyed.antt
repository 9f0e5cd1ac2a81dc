-- The row with a key.
use Rattle.std.specs.Prelude.{◌≡◌, ℕ, List, Option, Some, get_or}
use Rattle.mg_base.specs.declared.transaction.TxState.TheVariants.{Active}
use Rattle.mg_value.specs.declared.value.Value.{Value}
use Rattle.mg_value.specs.declared.value.Value.TheVariants.{Null}
use Rattle.mg_model.specs.declared.opening.Opening.{Opening}
use Rattle.mg_model.specs.declared.table.Table.{Table}
use Rattle.mg_model.specs.Changes.{Cells, row_at}
use Rattle.mg_model.specs.History.{Entries}
use Rattle.mg_model.specs.Machine.{state_of, view}
use Rattle.mg_records.specs.Meaning.{Means}

-- this is the row with a key of a table that an active transaction sees, none where it sees none: so it is by each
-- history that the value stands for
abbrev pub IsSeenAt : {R P : Type 0} → Means R P → R → ℕ → List ℕ → Value → Option Cells → Type 0
IsSeenAt m old t name key row = (o : Opening) (h : Entries) → m.stands old o h → state_of o h t ≡ Active
    → row ≡ row_at (view o h t) name key

-- Each row of a table that an active transaction sees has the key under which it stands in the column of the key. The
-- machine alone does not say so: there a row may be put under any key.
abbrev pub HaveTheirKeys : {R P : Type 0} → Means R P → R → ℕ → Table → Type 0
HaveTheirKeys m old t table = (o : Opening) (h : Entries) → m.stands old o h → state_of o h t ≡ Active
    → (key : Value) (row : Cells) → row_at (view o h t) table.name key ≡ Some row
    → get_or row table.shape.key Null ≡ key
