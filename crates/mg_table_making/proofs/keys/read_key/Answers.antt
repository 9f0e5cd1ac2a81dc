use Rattle.std.proofs.Common.{refl, subst}
use Rattle.mg_pool.specs.Pool.{shown}
use Rattle.mg_row_writes.specs.Finding.{IsRowAt, RefusesRowAt}
use Rattle.mg_row_writes.specs.declared.finding.RowAt.{RowAt}
use Rattle.mg_txlist.specs.TxList.{said}
use Rattle.mg_txlist.specs.declared.list.TxList.{TxList}
use Rattle.mg_value.specs.declared.value.Value.{Value}
use Rattle.mg_core.specs.Writing.{WhyOfKey}
use Rattle.mg_table_making.proofs.CoreLemmas.{core_read, core_read_counted, fails_reading}
use Rattle.mg_table_making.proofs.keys.read_key.Goals as goal

pub returns-in-Ok-clause-core : goal.returns-in-Ok-clause-core
returns-in-Ok-clause-core g c = core_read g.D.Disk.meaning c.args.core.now c.row_at.new.store c.requires.core c.in-Ok.ensures.keeps

pub returns-in-Ok-clause-reads : goal.returns-in-Ok-clause-reads
returns-in-Ok-clause-reads g c = record {
  reads = record { keeps = c.in-Ok.ensures.keeps; online = c.in-Ok.ensures.fault; same = refl };
  told = λ image tells. subst (λ (k : Value). IsRowAt (said c.args.core.now.list) c.args.core.now.live c.args.t
      (shown c.args.core.now.store.dirty image) c.args.core.now.catalog k c.in-Ok.found) c.value.ensures.value
      (subst (λ (l : TxList). IsRowAt (said l) c.args.core.now.live c.args.t (shown c.args.core.now.store.dirty image)
      c.args.core.now.catalog c.value.result.now c.in-Ok.found) c.new-states.ensures (c.in-Ok.ensures.gives image tells tt));
}

pub returns-in-Err-clause-core : goal.returns-in-Err-clause-core
returns-in-Err-clause-core g c = core_read_counted g.D.Disk.meaning c.args.core.now c.refuse.new.self c.row_at.new.store c.requires.core
    c.in-Err.ensures.keeps c.refuse.ensures.same

pub returns-in-Err-clause-reads : goal.returns-in-Err-clause-reads
returns-in-Err-clause-reads g c = fails_reading RowAt g.D.Disk.meaning c.args.core.now c.refuse.new.self c.row_at.new.store
    (WhyOfKey g.D.Disk.meaning c.args.core.now c.args.t c.args.core.now.catalog c.args.key.now) c.in-Err.fault c.refuse.result
    c.in-Err.ensures.keeps c.in-Err.ensures.fault c.in-Err.ensures.own
    (λ image tells. subst (λ (k : Value). RefusesRowAt g.D.Disk.meaning c.row_at.new.store
    (shown c.args.core.now.store.dirty image) (said c.args.core.now.list) c.args.core.now.live c.args.t
    c.args.core.now.catalog k c.in-Err.fault) c.value.ensures.value
    (subst (λ (l : TxList). RefusesRowAt g.D.Disk.meaning c.row_at.new.store
    (shown c.args.core.now.store.dirty image) (said l) c.args.core.now.live c.args.t c.args.core.now.catalog
    c.value.result.now c.in-Err.fault) c.new-states.ensures (c.in-Err.ensures.gives image tells tt)))
    c.refuse.ensures.refusal c.refuse.ensures.counts c.refuse.ensures.same
