use Rattle.std.proofs.Common.{false}
use Rattle.mg_reading.specs.ImageView.{pages_in}
use Rattle.mg_image.specs.Sound.{IsTableData}
use Rattle.mg_reading.specs.Readable.{HasCells}
use Rattle.mg_reading.proofs.RefusalLemmas.{refuses_more}
use Rattle.mg_reading.proofs.data.check_page.Goals as goal

pub returns-clause-broken : goal.returns-clause-broken
returns-clause-broken c = refuses_more (HasCells (pages_in c.args.image.now c.args.n))
    (IsTableData false c.args.image.now.size (pages_in c.args.image.now) c.args.owner c.args.at
    c.args.n)
    (λ is. is.cells) c.check_cells.result (rw c.page.ensures.page at c.check_cells.ensures.broken)
