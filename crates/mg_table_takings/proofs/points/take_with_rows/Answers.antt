use Rattle.std.proofs.Common.{ap, ◌∙◌}
use Rattle.mg_txlist.specs.TxList.{said}
use Rattle.mg_txlist.specs.declared.list.TxList.{TxList}
use Rattle.mg_taking_back.specs.CoreLaws.{core_works, unasked_same}
use Rattle.mg_table_takings.proofs.PointLemmas.{left_same, stopped_from, taken_from}
use Rattle.mg_table_takings.proofs.points.take_with_rows.Goals as goal

pub take_both-requires : goal.take_both-requires
take_both-requires g c = record {
  core = core_works g.D.Disk.meaning c.args.core.now c.unask.new.self c.requires.core
      (unasked_same c.args.core.now.works c.unask.new.self c.args.t.0 c.unask.ensures);
  online = c.requires.continues.0;
}

pub give_up-requires-clause-active : goal.give_up-requires-clause-active
give_up-requires-clause-active g c = ap (λ (l : TxList). said l c.args.t.0) c.take_both.ensures.list
    ∙ c.requires.continues.1

pub returns-in-Ok-clause-core : goal.returns-in-Ok-clause-core
returns-in-Ok-clause-core g c = core_works g.D.Disk.meaning c.take_both.new.core c.forget_tables.new.self
    c.take_both.ensures.core
    (left_same c.take_both.new.core.works c.set_undo.new.self c.drop_written.new.self c.forget_tables.new.self c.args.t.0
    c.take_both.new.undo c.args.keys.now c.set_undo.ensures c.drop_written.ensures c.forget_tables.ensures)

pub returns-in-Ok-clause-takes : goal.returns-in-Ok-clause-takes
returns-in-Ok-clause-takes g c = taken_from g.D.Disk.meaning c.args.core.now c.unask.new.self c.args.t.0 c.args.undo
    c.args.keys.now c.requires.rows c.unask.ensures c.take_both.new.core c.take_both.new.undo c.set_undo.new.self
    c.drop_written.new.self c.forget_tables.new.self c.in-Ok.ensures.takes c.set_undo.ensures c.drop_written.ensures
    c.forget_tables.ensures

pub returns-in-Err-clause-takes : goal.returns-in-Err-clause-takes
returns-in-Err-clause-takes g c = stopped_from g.D.Disk.meaning c.args.core.now c.unask.new.self c.args.t.0 c.args.undo
    c.args.keys.now c.requires.rows c.unask.ensures c.take_both.new.core c.give_up.new.core c.in-Err.refusal
    c.give_up.result c.in-Err.ensures.takes c.give_up.ensures.gives_up c.give_up.ensures.refusal
