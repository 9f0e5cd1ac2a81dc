use Rattle.std.proofs.Common.{subst, ℕ}
use Rattle.mg_catalog.specs.ByKey.{by_key}
use Rattle.mg_catalog.specs.TableLaws.{tables_are_small}
use Rattle.mg_file_figures.specs.Tables.{AreTold, AreToldAll}
use Rattle.mg_file_figures.proofs.StatingLemmas.{tables_damage, tables_stated}
use Rattle.mg_file_figures.proofs.stating.state_tables.Goals as goal

pub tables_figures-requires-clause-columns : goal.tables_figures-requires-clause-columns
tables_figures-requires-clause-columns c = tables_are_small (by_key c.requires.names.rows) c.args.tables.now
    c.requires.names.named

pub returns-in-Found-clause-stated : goal.returns-in-Found-clause-stated
returns-in-Found-clause-stated c = tables_stated c.args.size c.args.pages.now c.args.tables.now c.args.first
    c.in_ok-told.field-0 c.in-Found.finding c.requires.names c.requires.first
    c.in_ok-told.ensures c.in-Found.is

pub returns-in-Found-clause-damage : goal.returns-in-Found-clause-damage
returns-in-Found-clause-damage c = tables_damage c.args.size c.args.pages.now c.args.tables.now c.args.first
    c.in_ok-told.field-0 c.in-Found.finding c.in_ok-told.ensures c.in-Found.is

pub returns-clause-stated : goal.returns-clause-stated
returns-clause-stated c = record {
  file = c.figures_of-file.ensures;
  tables = c.args.tables.now;
  names = c.requires.names;
  told = subst (λ (n : ℕ). AreTold c.args.size c.args.pages.now n c.args.tables.now c.in-Told.told.items)
      c.requires.first (subst (AreToldAll c.args.size c.args.pages.now c.args.first c.args.tables.now) c.in-Told.is
      c.in_ok-told.ensures);
  limbo = c.in_ok-limbo.ensures;
}
