use Rattle.std.proofs.Common.{false}
use Rattle.mg_image.specs.Sound.{IsTableData}
use Rattle.mg_image.specs.Tables.{EachFrom}
use Rattle.mg_reading.specs.ImageView.{pages_in}
use Rattle.mg_layout.specs.Refusals.{CanStand}
use Rattle.mg_layout.proofs.PlaceLemmas.{place_data}
use Rattle.mg_layout.proofs.RefusalLemmas.{passed_on}
use Rattle.mg_layout.proofs.place.stand_of.Goals as goal

pub returns-in_err-check_data_pages-clause-broken :
    goal.returns-in_err-check_data_pages-clause-broken
returns-in_err-check_data_pages-clause-broken c = passed_on
    (EachFrom (IsTableData false c.args.image.now.size (pages_in c.args.image.now)
    c.args.table.pointer.0) 0 c.deref.result.now)
    (CanStand c.args.image.now c.args.table)
    (λ stands. rw c.deref.ensures.value (place_data c.args.image.now c.args.table
    c.in_ok-pages.pages.pointers.items c.in_ok-pages.pages.data_pages.items
    c.in_ok-pages.ensures.chain c.in_ok-pages.ensures.entries stands))
    c.from_residual-in_err-check_data_pages.result c.in_err-check_data_pages.field-0.0
    c.from_residual-in_err-check_data_pages.ensures.1 c.in_err-check_data_pages.ensures.broken
