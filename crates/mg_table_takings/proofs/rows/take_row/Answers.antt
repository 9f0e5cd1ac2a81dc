use Rattle.std.proofs.Common.{subst}
use Rattle.mg_txlist.specs.TxList.{said}
use Rattle.mg_txlist.specs.declared.list.TxList.{TxList}
use Rattle.mg_table_unmaking.specs.Rows.{FailsRowOut}
use Rattle.mg_table_takings.proofs.PointLemmas.{fault_told}
use Rattle.mg_table_takings.proofs.rows.take_row.Goals as goal

pub returns-in-Err-clause-takes : goal.returns-in-Err-clause-takes
returns-in-Err-clause-takes g c = fault_told g.D.Disk.meaning c.args.core.now c.refuse.new.self c.take_row_out.new.store
    c.args.t.0 c.args.key.now c.in-Err.fault c.refuse.result
    (subst (λ (l : TxList). FailsRowOut g.D.Disk.meaning c.args.core.now.store c.take_row_out.new.store (said l)
    c.args.core.now.live c.args.t.0 c.args.core.now.catalog c.args.key.now c.in-Err.fault) c.new-states.ensures
    c.in-Err.ensures.takes) c.refuse.ensures.refusal c.refuse.ensures.names
    c.refuse.ensures.counts c.refuse.ensures.same
