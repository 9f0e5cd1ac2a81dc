use Rattle.std.proofs.Common.{rules}
use Rattle.mg_reading.specs.ImageView.{pages_in}
use Rattle.mg_soundness.proofs.NewCatalogLemmas.{same_new_page}
use Rattle.mg_soundness.proofs.new_pages.is_new_page.Goals as goal

pub returns : goal.returns
returns c = same_new_page c.args.coding c.args.image.now.size _ c.args.n
    (pages_in c.args.image.now c.args.n) c.make_page.new.b c.is_same-2.result (search rules)
    (λ k p. c.make_page.ensures k p) (rw c.page-page.ensures.page at c.is_same-2.ensures)
