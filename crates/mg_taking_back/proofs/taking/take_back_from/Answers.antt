use Rattle.std.proofs.Common.{ap, ◌∙◌}
use Rattle.mg_txlist.specs.TxList.{said}
use Rattle.mg_txlist.specs.declared.list.TxList.{TxList}
use Rattle.mg_taking_back.specs.CoreLaws.{back_same, core_works, unasked_same}
use Rattle.mg_taking_back.specs.TakingLaws.{stopped_from, taken_from}
use Rattle.mg_taking_back.proofs.taking.take_back_from.Goals as goal

pub take_all-requires : goal.take_all-requires
take_all-requires g c = record {
  core = core_works g.D.Disk.meaning c.args.core.now c.unask.new.self c.requires.core
      (unasked_same c.args.core.now.works c.unask.new.self c.args.t.0 c.unask.ensures);
}

pub give_up-requires-clause-active : goal.give_up-requires-clause-active
give_up-requires-clause-active g c = ap (λ (l : TxList). said l c.args.t.0) c.take_all.ensures.list ∙ c.requires.active

pub returns-in-Ok-clause-core : goal.returns-in-Ok-clause-core
returns-in-Ok-clause-core g c = core_works g.D.Disk.meaning c.take_all.new.core c.forget_tables.new.self
    c.take_all.ensures.core
    (back_same c.take_all.new.core.works c.set_undo.new.self c.forget_tables.new.self c.args.t.0 c.take_all.new.undo
    c.set_undo.ensures c.forget_tables.ensures)

pub returns-in-Ok-clause-takes : goal.returns-in-Ok-clause-takes
returns-in-Ok-clause-takes g c = taken_from g.D.Disk.meaning c.args.core.now c.unask.new.self c.args.t.0 c.args.undo
    c.unask.ensures c.take_all.new.core c.take_all.new.undo c.set_undo.new.self c.forget_tables.new.self
    c.in-Ok.ensures.takes c.set_undo.ensures c.forget_tables.ensures

pub returns-in-Err-clause-takes : goal.returns-in-Err-clause-takes
returns-in-Err-clause-takes g c = stopped_from g.D.Disk.meaning c.args.core.now c.unask.new.self c.args.t.0 c.args.undo
    c.unask.ensures c.take_all.new.core c.give_up.new.core c.in-Err.refusal c.give_up.result c.in-Err.ensures.takes
    c.give_up.ensures.gives_up c.give_up.ensures.refusal
