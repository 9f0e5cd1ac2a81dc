use Rattle.std.proofs.Common.{refl, subst}
use Rattle.std.specs.Option.{option_copied}
use Rattle.mg_pool.specs.Pool.{shown}
use Rattle.mg_row_writes.specs.Finding.{IsRowAt, RefusesRowAt}
use Rattle.mg_row_writes.specs.declared.finding.RowAt.{RowAt}
use Rattle.mg_txlist.specs.TxList.{said}
use Rattle.mg_txlist.specs.declared.list.TxList.{TxList}
use Rattle.mg_value.specs.declared.value.Value.{Value}
use Rattle.mg_core.specs.Writing.{WhyOfKnown}
use Rattle.mg_core.proofs.StageLemmas.{fails_reading}
use Rattle.mg_core.proofs.WriteLemmas.{may_tell_by}
use Rattle.mg_core.proofs.parts.Core.row_of_key.Goals as goal

pub returns-clause-reads : goal.returns-clause-reads
returns-clause-reads g c = fails_reading RowAt g.D.Disk.meaning c.args.self.now c.refuse.new.self c.row_at.new.store
    (WhyOfKnown g.D.Disk.meaning c.args.self.now c.args.t c.args.table.now c.args.key.now) c.in-Err.fault c.refuse.result
    c.in-Err.ensures.keeps c.in-Err.ensures.fault c.in-Err.ensures.own
    (λ image tells knows. subst (λ (k : Value). RefusesRowAt g.D.Disk.meaning c.row_at.new.store (shown c.args.self.now.store.dirty image)
    (said c.args.self.now.list) c.args.self.now.live c.args.t c.args.table.now k c.in-Err.fault) c.value.ensures.value
    (subst (λ (l : TxList). RefusesRowAt g.D.Disk.meaning c.row_at.new.store (shown c.args.self.now.store.dirty image) (said l) c.args.self.now.live
    c.args.t c.args.table.now c.value.result.now c.in-Err.fault) c.new-states.ensures
    (c.in-Err.ensures.gives image tells (may_tell_by c.args.self.now c.args.table.now c.args.key.now c.value.result.now
    _ (shown c.args.self.now.store.dirty image) (option_copied c.slice_of-recs.result)
    c.candidates_for-candidates.result c.slice_of-recs.ensures c.candidates_for-candidates.ensures c.value.ensures.value c.new-states.ensures
    knows))))
    c.refuse.ensures.refusal c.refuse.ensures.counts c.refuse.ensures.same

pub returns-in-Ok-clause-reads : goal.returns-in-Ok-clause-reads
returns-in-Ok-clause-reads g c = record {
  reads = record { keeps = c.in-Ok.ensures.keeps; online = c.in-Ok.ensures.fault; same = refl };
  told = λ image tells knows. subst (λ (k : Value). IsRowAt (said c.args.self.now.list) c.args.self.now.live c.args.t (shown c.args.self.now.store.dirty image) c.args.table.now k
      c.in-Ok.found) c.value.ensures.value
      (subst (λ (l : TxList). IsRowAt (said l) c.args.self.now.live c.args.t (shown c.args.self.now.store.dirty image) c.args.table.now c.value.result.now
      c.in-Ok.found) c.new-states.ensures (c.in-Ok.ensures.gives image tells (may_tell_by c.args.self.now c.args.table.now c.args.key.now c.value.result.now
      _ (shown c.args.self.now.store.dirty image) (option_copied c.slice_of-recs.result)
      c.candidates_for-candidates.result c.slice_of-recs.ensures c.candidates_for-candidates.ensures c.value.ensures.value c.new-states.ensures
      knows)));
}
