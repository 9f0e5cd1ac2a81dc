use Rattle.mg_space.specs.WholeLaws.{whole_kept}
use Rattle.std.proofs.Common.{◌≡◌, ℕ}
use Rattle.std.specs.Prelude.{MatchResult}
use Rattle.mg_heap.specs.HandedLaws.{reads_same}
use Rattle.mg_heap.specs.Walk.{RefusesWalk, RefusesWalkOf}
use Rattle.mg_image.specs.Form.{Pages}
use Rattle.mg_space.specs.HandedLaws.{fault_same}
use Rattle.mg_space.specs.View.{viewed, pool_answer}
use Rattle.mg_seek.specs.TableRecords.{AreTableRecords, records_in}
use Rattle.mg_seek.specs.RecordLaws.{as_kept}
use Rattle.mg_seek.proofs.Steps.{handed_on}
use Rattle.mg_seek.proofs.TableLemmas.{table_broken, table_listed}
use Rattle.mg_space.specs.ViewLaws.{fault_on, keeps_on}
use Rattle.mg_heap.specs.declared.table.TablePages.{TablePages}
use Rattle.mg_seek.proofs.listing.table_records.Goals as goal

pub returns-in_err-table-clause-gives : goal.returns-in_err-table-clause-gives
returns-in_err-table-clause-gives g c = λ image tells.
    handed_on c.from_residual.result c.in_err-table.field-0.0
    (λ records. AreTableRecords (viewed c.args.store.now image c.args.batch.now) c.args.owner.0 records.items)
    (RefusesWalk g.D.Disk.meaning c.table_pages.new.store c.args.batch.now.pages (viewed c.args.store.now image c.args.batch.now) c.args.owner.0)
    c.from_residual.ensures.0 c.from_residual.ensures.1
    (table_broken g.D.Disk.meaning c.table_pages.new.store c.args.batch.now.pages (viewed c.args.store.now image c.args.batch.now) c.args.owner.0
    c.in_err-table.field-0.0 (c.in_err-table.ensures.finds image tells))

pub returns-clause-gives : goal.returns-clause-gives
returns-clause-gives g c = λ image tells.
    table_listed g.D.Disk.meaning c.page_records.new.store c.args.batch.now.pages (viewed c.args.store.now image c.args.batch.now) c.args.owner.0
    c.in_ok-table.table.pointers.items c.in_ok-table.table.data_pages.items (λ records. records.items)
    c.page_records.result (c.in_ok-table.ensures.finds image tells)
    (as_kept g.D.Disk.meaning c.args.store.now c.table_pages.new.store image c.args.batch.now
    (λ (view : Pages). MatchResult c.page_records.result
    (λ records. records.items ≡ records_in view c.in_ok-table.table.data_pages.items)
    (RefusesWalkOf g.D.Disk.meaning c.page_records.new.store c.args.batch.now.pages view c.args.owner.0
    c.in_ok-table.table.data_pages.items)) c.in_ok-table.ensures.keeps tells
    (rw c.deref.ensures.value at (c.page_records.ensures.gives image)))

pub returns-in_err-table-clause-keeps : goal.returns-in_err-table-clause-keeps
returns-in_err-table-clause-keeps g c = c.in_err-table.ensures.keeps

pub returns-in_err-table-clause-fault : goal.returns-in_err-table-clause-fault
returns-in_err-table-clause-fault g c = fault_same TablePages g.D.Disk.meaning c.args.store.now c.table_pages.new.store c.from_residual.result c.in_err-table.field-0.0
    c.from_residual.ensures.0 c.from_residual.ensures.1 c.in_err-table.ensures.fault

pub returns-in_err-table-clause-own : goal.returns-in_err-table-clause-own
returns-in_err-table-clause-own g c = reads_same TablePages c.from_residual.result c.in_err-table.field-0.0 c.from_residual.ensures.0 c.from_residual.ensures.1
    c.in_err-table.ensures.own

pub returns-clause-keeps : goal.returns-clause-keeps
returns-clause-keeps g c = keeps_on g.D.Disk.meaning g.met.D.Disk.counts_now c.args.store.now c.table_pages.new.store
    c.page_records.new.store c.in_ok-table.ensures.keeps c.page_records.ensures.keeps

pub returns-clause-fault : goal.returns-clause-fault
returns-clause-fault g c = fault_on g.D.Disk.meaning c.args.store.now c.table_pages.new.store c.page_records.new.store
    (pool_answer c.page_records.result) c.in_ok-table.ensures.keeps c.in_ok-table.ensures.fault.2 c.page_records.ensures.fault

pub returns-clause-own : goal.returns-clause-own
returns-clause-own g c = c.page_records.ensures.own

pub page_records-requires-clause-whole : goal.page_records-requires-clause-whole
page_records-requires-clause-whole g c = whole_kept g.D.Disk.meaning c.args.store.now
    c.table_pages.new.store c.args.batch.now.pages c.in_ok-table.ensures.keeps c.requires.whole
