-- The writes of a bound statement as events, and the first step of an INSERT.
use Rattle.std.proofs.Common.{◌≡◌, ℕ, true, List, [], ◌∷◌, Option, Some, Result, Ok, Err, refl, sym, ap, ◌∙◌, subst}
use Rattle.std.specs.Prelude.{length, map}
use Rattle.std.proofs.lemmas.Bool.{false≢true}
use Rattle.mg_base.specs.declared.numbers.TxNo.{TxNo}
use Rattle.mg_value.specs.declared.shape.Column.{Column}
use Rattle.mg_value.specs.declared.shape.Shape.{Shape}
use Rattle.mg_expr.specs.Trees.{Tree, tree_of}
use Rattle.mg_statements.specs.declared.statement.Assign.{Assign}
use Rattle.mg_statements.specs.declared.statement.Statement.{Statement}
use Rattle.mg_statements.specs.declared.statement.Statement.TheVariants as statements
use Rattle.mg_statements.specs.Plain.{Plain, Delete, Insert, Select, Totals, Update, assign_of, plain_of}
use Rattle.mg_plan.specs.declared.bound.Bound.{Bound}
use Rattle.mg_plan.specs.Statements.{bound_plain}
use Rattle.mg_model.specs.declared.event.Event.TheVariants as events
use Rattle.mg_model.specs.declared.opening.Opening.{Opening}
use Rattle.mg_model.specs.declared.refusal.Refusal.TheVariants as refusals
use Rattle.mg_model.specs.declared.table.Table.{Table}
use Rattle.mg_model.specs.Answers.{is_active}
use Rattle.mg_model.specs.Catalog.{key_of}
use Rattle.mg_model.specs.Changes.{Cells}
use Rattle.mg_model.specs.History.{Entries}
use Rattle.mg_records.specs.declared.write.Write.{Write}
use Rattle.mg_records.specs.declared.write.Write.TheVariants as writes_
use Rattle.mg_records.specs.Meaning.{Means}
use Rattle.mg_records.specs.Reading.{shape_seen}
use Rattle.mg_records.specs.Writing.{event_of}
use Rattle.mg_rows.specs.declared.fault.NewRowFault.{NewRowFault}
use Rattle.mg_rows.specs.declared.fault.NewRowFault.TheVariants as row_faults
use Rattle.mg_rows.specs.declared.outcome.Outcome.TheVariants as outcomes
use Rattle.mg_rows.specs.Faults.{of_new_row}
use Rattle.mg_rows.specs.NewRows.{inserted, updated}
use Rattle.mg_exec.specs.declared.phase.Turn.{Turn}
use Rattle.mg_exec.specs.Changing.{StartsToWrite, begins, makes_none}
use Rattle.mg_exec.specs.Making.{MakesNone, changes_of, insertion_of, made_by, writes_made}
use Rattle.mg_exec.specs.Phases.{is_insert}
use Rattle.mg_script.specs.declared.reply.Reply.TheVariants as replies
use Rattle.mg_transcript.specs.Courses.{Begun, Ends}
use Rattle.mg_transcript.specs.Statements.{changes, events_of, made_of, table_of, written_by}
use Rattle.mg_transcript.specs.Steps.{Marks, Steps, inserts, inserts_not, stops}
use Rattle.mg_exec_course_laws.specs.Courses.{InsertsTell, IsBoundHere, Tells}
use Rattle.mg_exec_course_laws.specs.WriteLaws.{marks_tell}

map_map : {A B C : Type 0} (f : B → C) (g : A → B) (xs : List A) → map f (map g xs) ≡ map (λ x. f (g x)) xs
map_map f g [] = refl
map_map f g (x ∷ xs) = ap (λ ys. f (g x) ∷ ys) (map_map f g xs)

-- ---- the writes as events

-- what is made of rows that could be computed
changes_told : (t : TxNo) (table : List ℕ) (shape : Shape) (made : Result (List Cells) NewRowFault)
    → made_of (changes t table shape) made ≡ made_of (map (event_of t table)) (changes_of shape made)
changes_told t table shape (Ok rows) = ap Ok (sym (map_map (event_of t table)
    (λ (row : Cells). writes_.Change (key_of shape row) row) rows))
changes_told t table shape (Err fault) = refl

insertion_told : (t : TxNo) (table : List ℕ) (made : Result Cells NewRowFault)
    → made_of (λ (row : Cells). events.Insert t table row ∷ []) made
    ≡ made_of (map (event_of t table)) (insertion_of made)
insertion_told t table (Ok row) = refl
insertion_told t table (Err fault) = refl

written_told : (t : TxNo) (shape : Shape) (places : List ℕ) (st : Statement) (rows : List Cells)
    → written_by t shape places (plain_of st) rows
    ≡ made_of (map (event_of t (table_of (plain_of st)))) (made_by st places shape rows)
written_told t shape places (statements.Insert table columns values) rows =
    insertion_told t table (inserted shape.columns places (map tree_of values.items))
written_told t shape places (statements.Update table sets filter) rows =
    ap (λ (trees : List Tree). made_of (changes t table shape) (updated shape.columns places trees rows))
    (map_map (λ (set : List ℕ × Tree). set.1) assign_of sets.items)
    ∙ changes_told t table shape (updated shape.columns places
    (map (λ (set : Assign). tree_of set.value) sets.items) rows)
written_told t shape places (statements.Delete table filter) rows = ap Ok (sym (map_map (event_of t table)
    (λ (row : Cells). writes_.Erase (key_of shape row)) rows))
written_told t shape places st rows = refl

-- the table's name stays where a statement is bound
bound_table : (columns : List Column) (s : Plain) → table_of (bound_plain columns s) ≡ table_of s
bound_table columns (Update table sets filter) = refl
bound_table columns (Delete table filter) = refl
bound_table columns (Totals table totals filter) = refl
bound_table columns (Select table values filter sorted) = refl
bound_table columns s = refl

pub events_told : (t : TxNo) (s : Plain) (table : Table) (bound : Bound) (rows : List Cells)
    → IsBoundHere s table bound
    → events_of t table.shape s rows ≡ made_of (map (event_of t table.name)) (writes_made table bound rows)
events_told t s table bound rows is =
    ap (λ (ps : List ℕ). written_by t table.shape ps (bound_plain table.shape.columns s) rows) (sym is.binds.places)
    ∙ (ap (λ (p : Plain). written_by t table.shape bound.places.items p rows) (sym is.binds.statement)
    ∙ (written_told t table.shape bound.places.items bound.statement rows
    ∙ ap (λ (name : List ℕ). made_of (map (event_of t name)) (writes_made table bound rows))
    (ap table_of is.binds.statement ∙ (bound_table table.shape.columns s ∙ sym is.named))))

-- ---- the first step of an INSERT

pub bound_insert : (columns : List Column) (s : Plain) → is_insert (bound_plain columns s) ≡ is_insert s
bound_insert columns (Update table sets filter) = refl
bound_insert columns (Delete table filter) = refl
bound_insert columns (Totals table totals filter) = refl
bound_insert columns (Select table values filter sorted) = refl
bound_insert columns s = refl

-- it makes one write
one_made : (st : Statement) (places : List ℕ) (shape : Shape) (rows : List Cells) (made : List Write)
    → is_insert (plain_of st) ≡ true → made_by st places shape rows ≡ Ok made → length made ≡ 1
one_made (statements.Insert table columns values) places shape rows made is makes =
    at (inserted shape.columns places (map tree_of values.items)) makes
  where
    inside : (a b : List Write) → ◌≡◌ {A = Result (List Write) NewRowFault} (Ok a) (Ok b) → a ≡ b
    inside a b same = cc

    at : (r : Result Cells NewRowFault) → insertion_of r ≡ Ok made → length made ≡ 1
    at (Ok row) same = ap length (sym (inside (writes_.Insert row ∷ []) made same))
    at (Err fault) same = absurd cc
one_made st places shape rows made is makes = absurd (false≢true is)

module _ {R P : Type 0} (m : Means R P) (new : R) (o : Opening) (h : Entries) (t : TxNo) (taken : ℕ)
    (name : List ℕ) (columns : Option (List (List ℕ))) (values : List Tree) (table : Table) (bound : Bound)
    (is : IsBoundHere (Insert name columns values) table bound)
    (seen : shape_seen o h t.0 table.name ≡ Some table.shape) where
  seen_there : shape_seen o h t.0 name ≡ Some table.shape
  seen_there = subst (λ (n : List ℕ). shape_seen o h t.0 n ≡ Some table.shape) is.named seen

  inserting : is_insert (plain_of bound.statement) ≡ true
  inserting = ap is_insert is.binds.statement ∙ bound_insert table.shape.columns (Insert name columns values)

  starts_tell : (turn : Turn P) → StartsToWrite m new o h t table bound [] turn
      → Tells m new o h t (Insert name columns values) (Begun (Insert name columns values) taken) turn
  starts_tell turn (begins made makes begun) =
      subst (Tells m new o h t (Insert name columns values) (Begun (Insert name columns values) taken))
      (sym begun.stands_so)
      (let it = marks_tell {P = P} m new o h t (Insert name columns values) table begun.left begun.table_stays made
      begun.result begun.writes in record {
        after = it.after;
        comes = it.comes;
        steps = inserts name columns values taken table.shape (map (event_of t table.name) made) it.after it.comes
            seen_there (events_told t (Insert name columns values) table bound [] is
            ∙ ap (made_of (map (event_of t table.name))) makes)
            (subst (λ (n : ℕ). Marks o h t (outcomes.Count n) (map (event_of t table.name) made) it.after it.comes)
            (one_made bound.statement bound.places.items table.shape [] made inserting makes) it.marks);
        stands = it.stands;
        stays = it.stays;
        active = it.active;
        told = it.told;
      })
  starts_tell turn (makes_none fault none so stands) =
      subst (Tells m new o h t (Insert name columns values) (Begun (Insert name columns values) taken)) (sym so)
      (record {
        after = h;
        comes = Ends (replies.No (of_new_row fault));
        steps = by fault none;
        stands = stands;
        stays = tt;
        active = λ was. ap is_active was;
        told = refl;
      })
    where
      failed : (fault : NewRowFault) → writes_made table bound [] ≡ Err fault
          → Steps o h t (Begun (Insert name columns values) taken) h (Ends (replies.No (of_new_row fault)))
      failed fault none = inserts_not name columns values taken table.shape fault seen_there
          (events_told t (Insert name columns values) table bound [] is
          ∙ ap (made_of (map (event_of t table.name))) none)

      by : (fault : NewRowFault) → MakesNone (writes_made table bound []) fault
          → Steps o h t (Begun (Insert name columns values) taken) h (Ends (replies.No (of_new_row fault)))
      by row_faults.Memory none = stops (Insert name columns values) taken refusals.Memory refl
      by fault none = failed fault none

pub inserts_tell : {R P : Type 0} (m : Means R P) → InsertsTell m
inserts_tell m new o h t (Insert name columns values) taken table bound turn is_one is seen starts =
    starts_tell m new o h t taken name columns values table bound is seen turn starts
inserts_tell m new o h t s taken table bound turn is_one is seen starts = absurd (false≢true is_one)
