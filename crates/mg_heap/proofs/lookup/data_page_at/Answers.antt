use Rattle.mg_space.specs.HandedLaws.{fault_same, no_answer}
use Rattle.mg_space.specs.View.{viewed}
use Rattle.mg_heap.specs.HandedLaws.{reads_same}
use Rattle.mg_heap.specs.Places.{RefusesPlace}
use Rattle.mg_heap.specs.declared.lookup.Reached.{Reached}
use Rattle.mg_heap.proofs.LookupLemmas.{page_few, page_reached}
use Rattle.mg_heap.proofs.TableLemmas.{handed_on}
use Rattle.mg_heap.proofs.lookup.data_page_at.Goals as goal

pub returns-in_err-reached-clause-keeps : goal.returns-in_err-reached-clause-keeps
returns-in_err-reached-clause-keeps g c = c.in_err-reached.ensures.keeps

pub returns-in_err-reached-clause-fault : goal.returns-in_err-reached-clause-fault
returns-in_err-reached-clause-fault g c = fault_same Reached g.D.Disk.meaning c.args.store.now
    c.reach_place.new.store c.from_residual.result c.in_err-reached.field-0.0 c.from_residual.ensures.0
    c.from_residual.ensures.1 c.in_err-reached.ensures.fault

pub returns-in_err-reached-clause-own : goal.returns-in_err-reached-clause-own
returns-in_err-reached-clause-own g c = reads_same Reached c.from_residual.result
    c.in_err-reached.field-0.0 c.from_residual.ensures.0 c.from_residual.ensures.1
    c.in_err-reached.ensures.own

pub returns-in_err-reached-clause-few : goal.returns-in_err-reached-clause-few
returns-in_err-reached-clause-few g c = no_answer _ c.from_residual.result c.from_residual.ensures.0

pub returns-in_err-reached-clause-finds : goal.returns-in_err-reached-clause-finds
returns-in_err-reached-clause-finds g c = λ image tells. handed_on c.from_residual.result
    c.in_err-reached.field-0.0 _
    (RefusesPlace g.D.Disk.meaning c.reach_place.new.store c.args.batch.now.pages
    (viewed c.args.store.now image c.args.batch.now) c.args.owner.0 c.args.place)
    c.from_residual.ensures.0 c.from_residual.ensures.1 (c.in_err-reached.ensures.finds image tells)

pub returns-clause-keeps : goal.returns-clause-keeps
returns-clause-keeps g c = c.in_ok-reached.ensures.keeps

pub returns-clause-fault : goal.returns-clause-fault
returns-clause-fault g c = c.in_ok-reached.ensures.fault

pub returns-clause-few : goal.returns-clause-few
returns-clause-few g c = page_few c.args.place c.in_ok-reached.reached c.page_in.result
    c.page_in.ensures c.in_ok-reached.ensures.few

pub returns-clause-finds : goal.returns-clause-finds
returns-clause-finds g c = λ image tells. page_reached (viewed c.args.store.now image c.args.batch.now)
    c.args.owner.0 c.args.place c.in_ok-reached.reached c.page_in.result c.page_in.ensures
    (c.in_ok-reached.ensures.finds image tells)
