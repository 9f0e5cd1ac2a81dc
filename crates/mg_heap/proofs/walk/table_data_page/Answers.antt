use Rattle.std.proofs.Common.{◌≡◌, ◌∙◌, List, Ok, subst, sym, ℕ}
use Rattle.mg_image.specs.Form.{Pages}
use Rattle.mg_slots.specs.DataPage.{IsDataPage}
use Rattle.mg_slots.specs.Verdict.{common_verdict}
use Rattle.mg_slots.specs.declared.page.TheConstants.{DATA_KIND}
use Rattle.mg_heap.specs.HandedLaws.{reads_same}
use Rattle.mg_heap.specs.Walk.{RefusesTableData}
use Rattle.mg_heap.proofs.HandedLemmas.{reads_memory}
use Rattle.mg_heap.proofs.HoldingLemmas.{data_common, data_lawful}
use Rattle.mg_heap.proofs.TableLemmas.{as_started, handed_on, whole_later}
use Rattle.mg_space.specs.HandedLaws.{fault_memory, fault_same, no_answer, out_of_memory}
use Rattle.mg_space.specs.View.{viewed}
use Rattle.mg_heap.proofs.walk.table_data_page.Goals as goal

pub returns-in_err-hold_table_data-clause-keeps : goal.returns-in_err-hold_table_data-clause-keeps
returns-in_err-hold_table_data-clause-keeps g c = c.in_err-hold_table_data.ensures.keeps

pub returns-in_err-hold_table_data-clause-fault : goal.returns-in_err-hold_table_data-clause-fault
returns-in_err-hold_table_data-clause-fault g c = fault_same (Unit {0}) g.D.Disk.meaning c.args.store.now
    c.hold_table_data.new.store c.from_residual.result c.in_err-hold_table_data.field-0.0
    c.from_residual.ensures.0 c.from_residual.ensures.1 c.in_err-hold_table_data.ensures.fault

pub returns-in_err-hold_table_data-clause-own : goal.returns-in_err-hold_table_data-clause-own
returns-in_err-hold_table_data-clause-own g c = reads_same (Unit {0}) c.from_residual.result
    c.in_err-hold_table_data.field-0.0 c.from_residual.ensures.0 c.from_residual.ensures.1
    c.in_err-hold_table_data.ensures.own

pub returns-in_err-hold_table_data-clause-seen : goal.returns-in_err-hold_table_data-clause-seen
returns-in_err-hold_table_data-clause-seen g c = λ image tells. handed_on c.from_residual.result
    c.in_err-hold_table_data.field-0.0 _ (RefusesTableData g.D.Disk.meaning c.hold_table_data.new.store
    c.args.batch.now.pages (viewed c.args.store.now image c.args.batch.now c.args.n.0) c.args.owner.0
    c.args.at c.args.n) c.from_residual.ensures.0 c.from_residual.ensures.1
    (c.in_err-hold_table_data.ensures.seen image tells)

pub returns-in_err-hold_table_data-clause-reads : goal.returns-in_err-hold_table_data-clause-reads
returns-in_err-hold_table_data-clause-reads g c = c.in_err-hold_table_data.ensures.reads

pub returns-in_err-hold_table_data-clause-common : goal.returns-in_err-hold_table_data-clause-common
returns-in_err-hold_table_data-clause-common g c = no_answer _ c.from_residual.result
    c.from_residual.ensures.0

pub returns-in_err-hold_table_data-clause-lawful : goal.returns-in_err-hold_table_data-clause-lawful
returns-in_err-hold_table_data-clause-lawful g c = no_answer _ c.from_residual.result
    c.from_residual.ensures.0

pub lent-bytes-requires-clause-whole : goal.lent-bytes-requires-clause-whole
lent-bytes-requires-clause-whole g c = whole_later g.D.Disk.meaning c.args.store.now
    c.hold_table_data.new.store c.in_ok-hold_table_data.ensures.keeps c.args.batch.now.pages
    c.requires.whole

pub returns-in_err-from_slice-clause-keeps : goal.returns-in_err-from_slice-clause-keeps
returns-in_err-from_slice-clause-keeps g c = c.in_ok-hold_table_data.ensures.keeps

pub returns-in_err-from_slice-clause-fault : goal.returns-in_err-from_slice-clause-fault
returns-in_err-from_slice-clause-fault g c = fault_memory g.D.Disk.meaning c.args.store.now
    c.hold_table_data.new.store c.from_residual-in_err-from_slice.result
    c.from_residual-in_err-from_slice.ensures.0 c.from_residual-in_err-from_slice.ensures.1
    c.in_ok-hold_table_data.ensures.fault

pub returns-in_err-from_slice-clause-own : goal.returns-in_err-from_slice-clause-own
returns-in_err-from_slice-clause-own g c = reads_memory c.from_residual-in_err-from_slice.result
    c.from_residual-in_err-from_slice.ensures.1

pub returns-in_err-from_slice-clause-seen : goal.returns-in_err-from_slice-clause-seen
returns-in_err-from_slice-clause-seen g c = λ image tells. handed_on
    c.from_residual-in_err-from_slice.result out_of_memory _ (RefusesTableData g.D.Disk.meaning
    c.hold_table_data.new.store c.args.batch.now.pages (viewed c.args.store.now image c.args.batch.now
    c.args.n.0) c.args.owner.0 c.args.at c.args.n) c.from_residual-in_err-from_slice.ensures.0
    c.from_residual-in_err-from_slice.ensures.1 tt

pub returns-in_err-from_slice-clause-reads : goal.returns-in_err-from_slice-clause-reads
returns-in_err-from_slice-clause-reads g c = c.in_ok-hold_table_data.ensures.reads

pub returns-in_err-from_slice-clause-common : goal.returns-in_err-from_slice-clause-common
returns-in_err-from_slice-clause-common g c = no_answer _ c.from_residual-in_err-from_slice.result
    c.from_residual-in_err-from_slice.ensures.0

pub returns-in_err-from_slice-clause-lawful : goal.returns-in_err-from_slice-clause-lawful
returns-in_err-from_slice-clause-lawful g c = no_answer _ c.from_residual-in_err-from_slice.result
    c.from_residual-in_err-from_slice.ensures.0

pub returns-clause-keeps : goal.returns-clause-keeps
returns-clause-keeps g c = c.in_ok-hold_table_data.ensures.keeps

pub returns-clause-fault : goal.returns-clause-fault
returns-clause-fault g c = c.in_ok-hold_table_data.ensures.fault

pub returns-clause-reads : goal.returns-clause-reads
returns-clause-reads g c = c.in_ok-hold_table_data.ensures.reads

pub returns-clause-common : goal.returns-clause-common
returns-clause-common g c = subst (λ (b : List ℕ). common_verdict b c.args.n DATA_KIND c.args.owner.0
    c.args.at ≡ Ok tt) (sym (c.new.ensures ∙ c.in_ok-from_slice.ensures.items))
    (data_common c.hold_table_data.new.store c.args.batch.now.pages c.args.owner.0 c.args.at c.args.n
    c.lent-bytes.result.now c.lent-bytes.ensures.read c.in_ok-hold_table_data.ensures.held)

pub returns-clause-lawful : goal.returns-clause-lawful
returns-clause-lawful g c = subst IsDataPage (sym (c.new.ensures ∙ c.in_ok-from_slice.ensures.items))
    (data_lawful c.hold_table_data.new.store c.args.batch.now.pages c.args.owner.0 c.args.at c.args.n
    c.lent-bytes.result.now c.lent-bytes.ensures.read c.in_ok-hold_table_data.ensures.held)

pub returns-clause-seen : goal.returns-clause-seen
returns-clause-seen g c = λ image tells. (c.new.ensures ∙ c.in_ok-from_slice.ensures.items)
    ∙ as_started g.D.Disk.meaning c.args.store.now c.hold_table_data.new.store image c.args.batch.now
    c.in_ok-hold_table_data.ensures.keeps tells (λ (pages : Pages). c.lent-bytes.result.now ≡ pages
    c.args.n.0) (c.lent-bytes.ensures.seen image)
