use Rattle.std.proofs.Common.{refl, ◌∙◌}
use Rattle.mg_model.specs.declared.event.Event.TheVariants.{Insert}
use Rattle.mg_model.specs.Catalog.{catalog_name}
use Rattle.mg_plain.proofs.CallLemmas.{fails_to_make, done_leaves, makes_table}
use Rattle.mg_catalog.specs.RowsSaid.{table_row}
use Rattle.mg_records.specs.Writing.{new_table}
use Rattle.mg_plain.proofs.SessionLemmas.{done_sessions, sessions_grown}
use Rattle.mg_plain.proofs.plain.records.PlainRecords.create_table.Goals as goal

pub returns-in_default-clause-adds : goal.returns-in_default-clause-adds
returns-in_default-clause-adds c =
    fails_to_make c.args.self.now c.fail.new.self c.args.t c.args.name.now c.args.shape.now c.fail.result c.fail.ensures.err c.fail.ensures.done

pub returns-in_default-clause-leaves : goal.returns-in_default-clause-leaves
returns-in_default-clause-leaves c =
    done_leaves c.args.self.now c.fail.new.self (Insert c.args.t catalog_name (table_row (new_table c.args.name.now c.args.shape.now))) c.fail.result _
    (c.fail.ensures.done (Insert c.args.t catalog_name (table_row (new_table c.args.name.now c.args.shape.now))) refl)

pub returns-in-Err-clause-adds : goal.returns-in-Err-clause-adds
returns-in-Err-clause-adds c =
    fails_to_make c.args.self.now c.fail-in-Err.new.self c.args.t c.args.name.now c.args.shape.now c.fail-in-Err.result c.fail-in-Err.ensures.err c.fail-in-Err.ensures.done

pub returns-in-Err-clause-leaves : goal.returns-in-Err-clause-leaves
returns-in-Err-clause-leaves c =
    done_leaves c.args.self.now c.fail-in-Err.new.self (Insert c.args.t catalog_name (table_row (new_table c.args.name.now c.args.shape.now))) c.fail-in-Err.result _
    (c.fail-in-Err.ensures.done (Insert c.args.t catalog_name (table_row (new_table c.args.name.now c.args.shape.now))) refl)

pub returns-in-Ok-clause-adds : goal.returns-in-Ok-clause-adds
returns-in-Ok-clause-adds c =
    makes_table c.args.self.now c.insert_each.new.self c.args.t c.args.name.now c.args.shape.now c.deref.result.now c.insert_each.result (c.deref.ensures.value ∙ c.in-Ok.ensures) c.insert_each.ensures

pub returns-in_default-clause-sessions : goal.returns-in_default-clause-sessions
returns-in_default-clause-sessions c =
    done_sessions c.args.self.now c.fail.new.self (Insert c.args.t catalog_name (table_row (new_table c.args.name.now c.args.shape.now))) c.fail.result _ _
    (c.fail.ensures.done (Insert c.args.t catalog_name (table_row (new_table c.args.name.now c.args.shape.now))) refl)

pub returns-in-Err-clause-sessions : goal.returns-in-Err-clause-sessions
returns-in-Err-clause-sessions c =
    done_sessions c.args.self.now c.fail-in-Err.new.self (Insert c.args.t catalog_name (table_row (new_table c.args.name.now c.args.shape.now))) c.fail-in-Err.result _ _
    (c.fail-in-Err.ensures.done (Insert c.args.t catalog_name (table_row (new_table c.args.name.now c.args.shape.now))) refl)

pub returns-in-Ok-clause-sessions : goal.returns-in-Ok-clause-sessions
returns-in-Ok-clause-sessions c =
    sessions_grown c.args.self.now c.insert_each.new.self _ c.insert_each.ensures.grows
