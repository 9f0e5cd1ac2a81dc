use Rattle.std.proofs.Common.{◌∙◌, refl, sym}
use Rattle.mg_model.specs.declared.change.Point.TheVariants.{SavepointNamed}
use Rattle.mg_taking_back.specs.TakingLaws.{stands}
use Rattle.mg_table_takings.proofs.PointLemmas.{not_to_savepoint, to_savepoint}
use Rattle.mg_table_takings.proofs.points.back_over_tables.Goals as goal

pub returns-then-not-back_to-clause-goes : goal.returns-then-not-back_to-clause-goes
returns-then-not-back_to-clause-goes g c = (
  stands c.args.core.now.works c.args.t.0 c.in-Ok-copy_undo.undo c.in-Ok-copy_undo.ensures c.args.name.now
      c.back_to.result c.back_to.ensures.found ∙ c.if-not-back_to.true,
  c.in-Ok.ensures,
  refl,
)

pub returns-in-Ok-take_tables_from-clause-goes : goal.returns-in-Ok-take_tables_from-clause-goes
returns-in-Ok-take_tables_from-clause-goes g c = (
  stands c.args.core.now.works c.args.t.0 c.in-Ok-copy_undo.undo c.in-Ok-copy_undo.ensures c.args.name.now
      c.back_to.result c.back_to.ensures.found ∙ c.if-not-back_to.false,
  to_savepoint g.D.Disk.meaning c.args.core.now c.end_wait-2.new.core c.take_tables_from.new.core c.args.t.0
      c.in-Ok-copy_undo.undo c.in-Ok.ensures c.end_wait-2.ensures.wait c.in-Ok-copy_undo.ensures c.args.name.now
      c.back_to.new.self (sym c.back_to.ensures.found ∙ c.if-not-back_to.false) c.back_to.ensures.after
      c.in-Ok-take_tables_from.ensures.takes,
)

pub returns-in-Err-take_tables_from-clause-goes : goal.returns-in-Err-take_tables_from-clause-goes
returns-in-Err-take_tables_from-clause-goes g c = not_to_savepoint g.D.Disk.meaning c.args.core.now
    c.end_wait-2.new.core c.take_tables_from.new.core c.args.t.0 c.in-Ok-copy_undo.undo c.in-Ok.ensures
    c.end_wait-2.ensures.wait c.in-Ok-copy_undo.ensures c.args.name.now c.back_to.new.self
    c.in-Err-take_tables_from.refusal (sym c.back_to.ensures.found ∙ c.if-not-back_to.false) c.back_to.ensures.after
    c.in-Err-take_tables_from.ensures.takes

pub returns-in-Err-copy_undo-clause-goes : goal.returns-in-Err-copy_undo-clause-goes
returns-in-Err-copy_undo-clause-goes g c = c.give_up_event.ensures.fails (SavepointNamed c.args.name.now)
