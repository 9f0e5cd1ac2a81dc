-- What the machine finds in a table that a transaction sees.
use Rattle.std.proofs.Common.{◌≡◌, ℕ, Bool, true, false, List, filter, Option, Some, None, ap, ◌∙◌}
use Rattle.std.specs.Prelude.{is_some, if◌then◌else◌}
use Rattle.mg_base.specs.declared.numbers.TxNo.{TxNo}
use Rattle.mg_base.specs.declared.transaction.TxState.TheVariants.{Active}
use Rattle.mg_value.specs.declared.shape.Shape.{Shape}
use Rattle.mg_expr.specs.declared.expr.Expr.{Expr}
use Rattle.mg_model.specs.declared.answer.Answer.TheVariants.{Rows, No}
use Rattle.mg_model.specs.declared.event.Event.TheVariants.{Find}
use Rattle.mg_model.specs.declared.opening.Opening.{Opening}
use Rattle.mg_model.specs.declared.refusal.Refusal.TheVariants.{NoTable}
use Rattle.mg_model.specs.Answers.{answer, answer_find, catalog_of, if_active, passes, told}
use Rattle.mg_model.specs.Catalog.{CatalogRows, catalog_name, catalog_shape, shape_in, shape_said, table_key}
use Rattle.mg_model.specs.Changes.{Cells, same_name}
use Rattle.mg_model.specs.History.{Entries}
use Rattle.mg_model.specs.Machine.{state_of}
use Rattle.mg_records.specs.Reading.{shape_named, shape_seen}
use Rattle.mg_calls.specs.Walks.{rows_seen}

-- a table that has a shape is there
there : (of_catalog : Bool) (said : Option Shape) (shape : Shape)
    → (if of_catalog then None else said) ≡ Some shape
    → is_some (if of_catalog then Some catalog_shape else said) ≡ true
there true said shape is = absurd cc
there false said shape is = ap is_some is

pub has_shape : (rows : CatalogRows) (name : List ℕ) (shape : Shape)
    → shape_named rows name ≡ Some shape → is_some (shape_in rows name) ≡ true
has_shape rows name shape is =
    there (same_name name catalog_name) (shape_said rows name (rows (table_key name))) shape is

-- the rows of a table that a transaction sees, through a filter, are what the machine finds
abbrev pub MachineFinds : Type 0
MachineFinds = (o : Opening) (h : Entries) (t : TxNo) (name : List ℕ) (test : Option Expr)
    (shape : Shape) (rows : List Cells) → state_of o h t.0 ≡ Active
    → shape_seen o h t.0 name ≡ Some shape
    → filter (passes test) (rows_seen o h t.0 name) ≡ rows
    → answer o h (Find t name test) ≡ Rows rows

pub machine_finds : MachineFinds
machine_finds o h t name test shape rows active seen found =
    ap (λ state. if_active state (answer_find (told o h) t.0 name test)) active
    ∙ ap (λ (there : Bool). if there then Rows (filter (passes test) (rows_seen o h t.0 name)) else No NoTable)
    (has_shape (catalog_of (told o h) t.0) name shape seen)
    ∙ ap (λ (found : List Cells). Rows found) found
