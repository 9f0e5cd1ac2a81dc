use Rattle.std.proofs.Common.{ap, sym, ◌∙◌}
use Rattle.std.specs.Option.{option_copied}
use Rattle.mg_model.specs.declared.change.Point.TheVariants.{SavepointNamed}
use Rattle.mg_taking_back.proofs.TableLemmas.{told_behind, told_nobody}
use Rattle.mg_taking_back.proofs.tables.takes_tables_to_savepoint.Goals as goal

pub returns-in-Some : goal.returns-in-Some
returns-in-Some g c = λ undo its reaches. told_behind c.args.core.now.catalog.pointer.0 c.args.core.now.works c.args.t.0
    c.in-Some.work.now c.args.name.now c.touches_since.result
    (sym (ap option_copied c.in-Some.is) ∙ c.work.ensures.work) c.touches_since.ensures undo its reaches

pub returns-in-None : goal.returns-in-None
returns-in-None g c = λ undo its reaches. told_nobody c.args.core.now.catalog.pointer.0 c.args.core.now.works c.args.t.0
    (SavepointNamed c.args.name.now) (sym (ap option_copied c.in-None.is) ∙ c.work.ensures.work) undo its
