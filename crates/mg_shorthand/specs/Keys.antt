-- The row with a key, the write of a put, and the reading of a get.
use Rattle.std.specs.Prelude.{◌≡◌, ◌==◌, ◌&&◌, ℕ, ℤ, Bool, true, false, List, [], ◌∷◌, codes, Option, Some, None, is_some}
use Rattle.mg_base.specs.declared.numbers.TxNo.{TxNo}
use Rattle.mg_base.specs.declared.transaction.TxState.TheVariants.{Active}
use Rattle.mg_value.specs.declared.shape.Column.{Column}
use Rattle.mg_value.specs.declared.shape.Shape.{Shape}
use Rattle.mg_value.specs.declared.value.Value.{Value}
use Rattle.mg_value.specs.declared.value.Value.TheVariants as values
use Rattle.mg_model.specs.declared.opening.Opening.{Opening}
use Rattle.mg_expr.specs.declared.expr.Sign.TheVariants.{Equal}
use Rattle.mg_expr.specs.Trees.{Tree, Column as ColumnTree, Compare, Integer}
use Rattle.mg_model.specs.Changes.{Cells, row_at, same_name}
use Rattle.mg_model.specs.History.{Entries}
use Rattle.mg_model.specs.Machine.{state_of, view}
use Rattle.mg_records.specs.declared.write.Write.{Write}
use Rattle.mg_records.specs.declared.write.Write.TheVariants as writes
use Rattle.mg_records.specs.Meaning.{Means}
use Rattle.mg_script.specs.declared.reply.Reply.{Reply}
use Rattle.mg_transcript.specs.Courses.{Begun, Ends, Later}
use Rattle.mg_transcript.specs.Shorthand.{pair_of, value_of_key}
use Rattle.mg_transcript.specs.Steps.{Runs}
use Rattle.mg_courses.specs.Carrying.{Carries}

-- the transaction sees a row with this key in the table
abbrev pub sees_key : Opening → Entries → ℕ → List ℕ → Value → Bool
sees_key o h t name key = is_some (row_at (view o h t) name key)

-- the write of a put: another row, or a new one
abbrev pub write_of : Bool → ℤ → ℤ → Write
write_of true key value = writes.Change (values.Int key) (pair_of key value)
write_of false key value = writes.Insert (pair_of key value)

-- ---- the reading of a get

-- the columns are a key K and a value V
abbrev pub are_key_and_value : List Column → Bool
are_key_and_value (a ∷ b ∷ []) = same_name a.name (codes "K") && same_name b.name (codes "V")
are_key_and_value columns = false

-- a table is of these columns, and K is its key
abbrev pub has_key_and_value : Shape → Bool
has_key_and_value shape = shape.key == 0 && are_key_and_value shape.columns

-- K = key, bound to such a table
abbrev pub with_key : ℤ → Tree
with_key key = Compare (ColumnTree 0) Equal (Integer key)

-- the rows that are found: the one with the key, if there is one
abbrev pub found_of : Option Cells → List Cells
found_of None = []
found_of (Some row) = row ∷ []

-- The reading of a get has come to its answer: the keeper stands for that, and no crash loses what was durable.
pub record HasRead {R P : Type 0} (m : Means R P) (old new : R) (o : Opening) (h : Entries) (t : TxNo) (key : ℤ)
    (reply : Reply) : Type 0 where
  pub after : Entries
  pub runs : Runs o t h (Later (Begun (value_of_key key) 0)) after (Ends reply)
  pub stands : m.stands new o after
  pub carries : Carries m old new o h after

-- so it is after a history for which the keeper stood, and in which the transaction is active
abbrev pub HasReadAt : {R P : Type 0} → Means R P → R → R → Opening → Entries → TxNo → ℤ → Reply → Type 0
HasReadAt m old new o h t key reply = m.stands old o h → state_of o h t.0 ≡ Active
    → HasRead m old new o h t key reply
