use Rattle.std.proofs.Common.{length, ◌-◌, ◌≤◌, ◌≡◌, ℕ, List, map, true}
use Rattle.mg_expr.specs.Trees.{Tree, tree_of}
use Rattle.mg_statements.specs.declared.statement.Def.{Def}
use Rattle.mg_statements.specs.Plain.{Total, assign_of, total_of}
use Rattle.mg_sql.specs.Statements as g
use Rattle.mg_sql.specs.Statements.{Rest, behind}
use Rattle.mg_sql.specs.Reading.{Keeps}
use Rattle.mg_sql.specs.Going.{Derives, begins_in, behind_list}
use Rattle.mg_sql.proofs.lists.definitions.Given as goal

-- the items so far were read
abbrev pub invariant-loop-p : goal.invariant-loop-p
invariant-loop-p l = record {
  keeps : Keeps l.fn.p l.p;
  read : (then_ : List (Def) → Rest) → ((xs : List (Def)) → begins_in behind_list (then_ xs) ≡ true)
      → Derives (g.list (g.definitions) then_) (behind (g.definitions) then_ (l.columns.items)) l.fn.p l.p;
}

abbrev pub decreases-loop-p : goal.decreases-loop-p
decreases-loop-p l = length l.p.text.now - l.p.at
