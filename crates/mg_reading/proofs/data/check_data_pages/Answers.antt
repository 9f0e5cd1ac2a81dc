use Rattle.std.proofs.Common.{false, get_or}
use Rattle.mg_image.specs.Tables.{EachFrom}
use Rattle.mg_reading.proofs.RefusalLemmas.{passed_on}
use Rattle.mg_reading.proofs.DataLemmas.{each_there}
use Rattle.std.proofs.Common.{false, arith}
use Rattle.mg_reading.specs.ImageView.{pages_in}
use Rattle.mg_image.specs.Sound.{IsTableData}
use Rattle.mg_reading.proofs.DataLemmas.{each_take}
use Rattle.mg_reading.proofs.data.check_data_pages.Goals as goal

pub loop-at-preserved : goal.loop-at-preserved
loop-at-preserved c = each_take
    (IsTableData false c.args.image.now.size (pages_in c.args.image.now) c.args.owner)
    c.args.data_pages.now c.loop-at.at (omega arith) c.loop-at.invariant c.in_ok-check_page.ensures.data

pub returns-in_err-check_page-clause-broken : goal.returns-in_err-check_page-clause-broken
returns-in_err-check_page-clause-broken c = passed_on
    (IsTableData false c.args.image.now.size (pages_in c.args.image.now) c.args.owner c.loop-at.at
    (get_or c.args.data_pages.now c.loop-at.at 0))
    (EachFrom (IsTableData false c.args.image.now.size (pages_in c.args.image.now) c.args.owner) 0
    c.args.data_pages.now)
    (each_there (IsTableData false c.args.image.now.size (pages_in c.args.image.now) c.args.owner)
    c.args.data_pages.now c.loop-at.at (omega arith))
    c.from_residual.result c.in_err-check_page.field-0.0 c.from_residual.ensures.1
    c.in_err-check_page.ensures.broken
