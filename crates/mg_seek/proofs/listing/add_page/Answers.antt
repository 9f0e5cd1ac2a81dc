use Rattle.mg_seek.proofs.Steps.{handed_on}
use Rattle.std.proofs.Common.{◌≡◌, List, Some, ℕ, ◌++◌, ◌∙◌, ap, subst, sym}
use Rattle.mg_image.specs.Form.{Pages}
use Rattle.mg_slots.specs.DataPage.{IsDataPage}
use Rattle.mg_space.specs.HandedLaws.{fault_same}
use Rattle.mg_space.specs.View.{viewed}
use Rattle.mg_space.specs.ViewLaws.{tells_on, viewed_on}
use Rattle.mg_space.specs.WholeLaws.{whole_kept}
use Rattle.mg_heap.specs.HandedLaws.{reads_same}
use Rattle.mg_heap.specs.Walk.{RefusesTableData}
use Rattle.mg_seek.specs.TableRecords.{records_on}
use Rattle.mg_seek.proofs.listing.add_page.Goals as goal

pub returns-in_err-hold_table_data-clause-keeps : goal.returns-in_err-hold_table_data-clause-keeps
returns-in_err-hold_table_data-clause-keeps g c = c.in_err-hold_table_data.ensures.keeps

pub returns-in_err-hold_table_data-clause-fault : goal.returns-in_err-hold_table_data-clause-fault
returns-in_err-hold_table_data-clause-fault g c = fault_same (Unit {0}) g.D.Disk.meaning c.args.store.now
    c.hold_table_data.new.store c.from_residual.result c.in_err-hold_table_data.field-0.0
    c.from_residual.ensures.0 c.from_residual.ensures.1 c.in_err-hold_table_data.ensures.fault

pub returns-in_err-hold_table_data-clause-own : goal.returns-in_err-hold_table_data-clause-own
returns-in_err-hold_table_data-clause-own g c = reads_same (Unit {0}) c.from_residual.result
    c.in_err-hold_table_data.field-0.0 c.from_residual.ensures.0 c.from_residual.ensures.1
    c.in_err-hold_table_data.ensures.own

pub returns-in_err-hold_table_data-clause-gives : goal.returns-in_err-hold_table_data-clause-gives
returns-in_err-hold_table_data-clause-gives g c = λ image tells. handed_on c.from_residual.result
    c.in_err-hold_table_data.field-0.0 _
    (RefusesTableData g.D.Disk.meaning c.hold_table_data.new.store c.args.batch.now.pages
    (viewed c.args.store.now image c.args.batch.now c.args.n.0) c.args.owner.0 c.args.at c.args.n)
    c.from_residual.ensures.0 c.from_residual.ensures.1 (c.in_err-hold_table_data.ensures.seen image tells)

pub lent-requires-clause-whole : goal.lent-requires-clause-whole
lent-requires-clause-whole g c = whole_kept g.D.Disk.meaning c.args.store.now c.hold_table_data.new.store
    c.args.batch.now.pages c.in_ok-hold_table_data.ensures.keeps c.requires.whole

pub add_records-requires : goal.add_records-requires
add_records-requires g c =
    let same : Some c.in_ok-hold_table_data.ensures.held.bytes ≡ Some c.lent.result.now =
    sym c.in_ok-hold_table_data.ensures.held.read ∙ c.lent.ensures.read in
    let is : c.in_ok-hold_table_data.ensures.held.bytes ≡ c.lent.result.now = cc in
    subst IsDataPage is c.in_ok-hold_table_data.ensures.held.lawful

pub returns-in_err-add_records-clause-keeps : goal.returns-in_err-add_records-clause-keeps
returns-in_err-add_records-clause-keeps g c = c.in_ok-hold_table_data.ensures.keeps

pub returns-clause-keeps : goal.returns-clause-keeps
returns-clause-keeps g c = c.in_ok-hold_table_data.ensures.keeps

pub returns-clause-fault : goal.returns-clause-fault
returns-clause-fault g c = c.in_ok-hold_table_data.ensures.fault

pub returns-clause-own : goal.returns-clause-own
returns-clause-own g c = tt

pub returns-clause-gives : goal.returns-clause-gives
returns-clause-gives g c = λ image tells. c.in_ok-add_records.ensures
    ∙ ap (λ (b : List ℕ). c.args.records.now.items ++ records_on b c.args.n.0)
    (c.lent.ensures.seen image (tells_on g.D.Disk.meaning c.args.store.now c.hold_table_data.new.store image
    c.in_ok-hold_table_data.ensures.keeps tells)
    ∙ ap (λ (pages : Pages). pages c.args.n.0) (viewed_on g.D.Disk.meaning c.args.store.now
    c.hold_table_data.new.store image c.args.batch.now c.in_ok-hold_table_data.ensures.keeps))
