use Rattle.std.proofs.Common.{false}
use Rattle.mg_image.specs.Sound.{IsTableData}
use Rattle.mg_image.specs.Tables.{EachFrom}
use Rattle.mg_reading.specs.ImageView.{pages_in}
use Rattle.mg_reading.specs.Readable.{HasPointers, HasReading, IsReadable}
use Rattle.mg_reading.proofs.RefusalLemmas.{passed_on}
use Rattle.mg_reading.proofs.TableLemmas.{readable_data, readable_pointers, readable_records}
use Rattle.std.proofs.lemmas.Result.{IfOk-from_err}
use Rattle.mg_reading.proofs.table_reading.read_table.Goals as goal

pub returns-in_err-pages-clause-broken : goal.returns-in_err-pages-clause-broken
returns-in_err-pages-clause-broken c = passed_on
    (HasPointers c.args.image.now.size (pages_in c.args.image.now) c.args.table.now.pointer.0)
    (IsReadable c.args.coding c.args.image.now c.args.table.now)
    (readable_pointers c.args.coding c.args.image.now c.args.table.now)
    c.from_residual.result c.in_err-pages.field-0.0 c.from_residual.ensures.1
    c.in_err-pages.ensures.broken

pub returns-in_err-check_data_pages-clause-broken : goal.returns-in_err-check_data_pages-clause-broken
returns-in_err-check_data_pages-clause-broken c = passed_on
    (EachFrom (IsTableData false c.args.image.now.size (pages_in c.args.image.now)
    c.args.table.now.pointer.0) 0 c.deref.result.now)
    (IsReadable c.args.coding c.args.image.now c.args.table.now)
    (λ is. rw c.deref.ensures.value (readable_data c.args.coding c.args.image.now c.args.table.now
    c.in_ok-pages.pages.pointers.items c.in_ok-pages.pages.data_pages.items
    c.in_ok-pages.ensures.chain c.in_ok-pages.ensures.entries is))
    c.from_residual-in_err-check_data_pages.result c.in_err-check_data_pages.field-0.0
    c.from_residual-in_err-check_data_pages.ensures.1 c.in_err-check_data_pages.ensures.broken

pub returns-in_err-found-clause-broken : goal.returns-in_err-found-clause-broken
returns-in_err-found-clause-broken c = passed_on
    (HasReading c.args.coding c.args.image.now c.args.table.now c.deref-2.result.now)
    (IsReadable c.args.coding c.args.image.now c.args.table.now)
    (λ is. rw c.deref-2.ensures.value (readable_records c.args.coding c.args.image.now
    c.args.table.now c.in_ok-pages.pages.pointers.items c.in_ok-pages.pages.data_pages.items
    c.in_ok-pages.ensures.chain c.in_ok-pages.ensures.entries is))
    c.from_residual-in_err-found.result c.in_err-found.field-0.0
    c.from_residual-in_err-found.ensures.1 c.in_err-found.ensures.broken

pub returns-in_err-pages-clause-chain : goal.returns-in_err-pages-clause-chain
returns-in_err-pages-clause-chain c = IfOk-from_err c.from_residual.result _ c.from_residual.ensures.0

pub returns-in_err-pages-clause-pointers : goal.returns-in_err-pages-clause-pointers
returns-in_err-pages-clause-pointers c = IfOk-from_err c.from_residual.result _ c.from_residual.ensures.0

pub returns-in_err-pages-clause-entries : goal.returns-in_err-pages-clause-entries
returns-in_err-pages-clause-entries c = IfOk-from_err c.from_residual.result _ c.from_residual.ensures.0

pub returns-in_err-pages-clause-data_pages : goal.returns-in_err-pages-clause-data_pages
returns-in_err-pages-clause-data_pages c = IfOk-from_err c.from_residual.result _ c.from_residual.ensures.0

pub returns-in_err-pages-clause-records : goal.returns-in_err-pages-clause-records
returns-in_err-pages-clause-records c = IfOk-from_err c.from_residual.result _ c.from_residual.ensures.0

pub returns-in_err-check_data_pages-clause-chain : goal.returns-in_err-check_data_pages-clause-chain
returns-in_err-check_data_pages-clause-chain c = IfOk-from_err c.from_residual-in_err-check_data_pages.result _ c.from_residual-in_err-check_data_pages.ensures.0

pub returns-in_err-check_data_pages-clause-pointers : goal.returns-in_err-check_data_pages-clause-pointers
returns-in_err-check_data_pages-clause-pointers c = IfOk-from_err c.from_residual-in_err-check_data_pages.result _ c.from_residual-in_err-check_data_pages.ensures.0

pub returns-in_err-check_data_pages-clause-entries : goal.returns-in_err-check_data_pages-clause-entries
returns-in_err-check_data_pages-clause-entries c = IfOk-from_err c.from_residual-in_err-check_data_pages.result _ c.from_residual-in_err-check_data_pages.ensures.0

pub returns-in_err-check_data_pages-clause-data_pages : goal.returns-in_err-check_data_pages-clause-data_pages
returns-in_err-check_data_pages-clause-data_pages c = IfOk-from_err c.from_residual-in_err-check_data_pages.result _ c.from_residual-in_err-check_data_pages.ensures.0

pub returns-in_err-check_data_pages-clause-records : goal.returns-in_err-check_data_pages-clause-records
returns-in_err-check_data_pages-clause-records c = IfOk-from_err c.from_residual-in_err-check_data_pages.result _ c.from_residual-in_err-check_data_pages.ensures.0

pub returns-in_err-found-clause-chain : goal.returns-in_err-found-clause-chain
returns-in_err-found-clause-chain c = IfOk-from_err c.from_residual-in_err-found.result _ c.from_residual-in_err-found.ensures.0

pub returns-in_err-found-clause-pointers : goal.returns-in_err-found-clause-pointers
returns-in_err-found-clause-pointers c = IfOk-from_err c.from_residual-in_err-found.result _ c.from_residual-in_err-found.ensures.0

pub returns-in_err-found-clause-entries : goal.returns-in_err-found-clause-entries
returns-in_err-found-clause-entries c = IfOk-from_err c.from_residual-in_err-found.result _ c.from_residual-in_err-found.ensures.0

pub returns-in_err-found-clause-data_pages : goal.returns-in_err-found-clause-data_pages
returns-in_err-found-clause-data_pages c = IfOk-from_err c.from_residual-in_err-found.result _ c.from_residual-in_err-found.ensures.0

pub returns-in_err-found-clause-records : goal.returns-in_err-found-clause-records
returns-in_err-found-clause-records c = IfOk-from_err c.from_residual-in_err-found.result _ c.from_residual-in_err-found.ensures.0

pub returns-clause-chain : goal.returns-clause-chain
returns-clause-chain c = c.in_ok-pages.ensures.chain

pub returns-clause-pointers : goal.returns-clause-pointers
returns-clause-pointers c = c.in_ok-pages.ensures.wanted

pub returns-clause-entries : goal.returns-clause-entries
returns-clause-entries c = c.in_ok-pages.ensures.entries

pub returns-clause-broken : goal.returns-clause-broken
returns-clause-broken c = tt
