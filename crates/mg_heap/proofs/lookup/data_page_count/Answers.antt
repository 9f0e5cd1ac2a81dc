use Rattle.mg_space.specs.HandedLaws.{fault_same}
use Rattle.mg_space.specs.View.{viewed}
use Rattle.mg_heap.specs.HandedLaws.{reads_same}
use Rattle.mg_heap.specs.Table.{RefusesTable}
use Rattle.mg_heap.specs.declared.lookup.Reached.{Reached}
use Rattle.mg_heap.proofs.LookupLemmas.{counted, table_refused}
use Rattle.mg_heap.proofs.TableLemmas.{handed_on}
use Rattle.mg_heap.proofs.lookup.data_page_count.Goals as goal

pub returns-in_err-reached-clause-keeps : goal.returns-in_err-reached-clause-keeps
returns-in_err-reached-clause-keeps g c = c.in_err-reached.ensures.keeps

pub returns-in_err-reached-clause-fault : goal.returns-in_err-reached-clause-fault
returns-in_err-reached-clause-fault g c = fault_same Reached g.D.Disk.meaning c.args.store.now
    c.reach_place.new.store c.from_residual.result c.in_err-reached.field-0.0 c.from_residual.ensures.0
    c.from_residual.ensures.1 c.in_err-reached.ensures.fault

pub returns-in_err-reached-clause-own : goal.returns-in_err-reached-clause-own
returns-in_err-reached-clause-own g c = reads_same Reached c.from_residual.result
    c.in_err-reached.field-0.0 c.from_residual.ensures.0 c.from_residual.ensures.1
    c.in_err-reached.ensures.own

pub returns-in_err-reached-clause-counts : goal.returns-in_err-reached-clause-counts
returns-in_err-reached-clause-counts g c = λ image tells. handed_on c.from_residual.result
    c.in_err-reached.field-0.0 _
    (RefusesTable g.D.Disk.meaning c.reach_place.new.store c.args.batch.now.pages
    (viewed c.args.store.now image c.args.batch.now) c.args.owner.0)
    c.from_residual.ensures.0 c.from_residual.ensures.1
    (table_refused g.D.Disk.meaning c.reach_place.new.store c.args.batch.now.pages
    (viewed c.args.store.now image c.args.batch.now) c.args.owner.0 4294967295
    c.in_err-reached.field-0.0 (c.in_err-reached.ensures.finds image tells))

pub returns-clause-keeps : goal.returns-clause-keeps
returns-clause-keeps g c = c.in_ok-reached.ensures.keeps

pub returns-clause-fault : goal.returns-clause-fault
returns-clause-fault g c = c.in_ok-reached.ensures.fault

pub returns-clause-counts : goal.returns-clause-counts
returns-clause-counts g c = λ image tells. counted (viewed c.args.store.now image c.args.batch.now)
    c.args.owner.0 c.in_ok-reached.reached c.count_before.result c.in_ok-reached.ensures.few
    c.count_before.ensures (c.in_ok-reached.ensures.finds image tells)
