use Rattle.std.proofs.Common.{◌∙◌}
use Rattle.mg_base.specs.Checks.{verdict}
use Rattle.mg_pointer.specs.PointerPage.{pointer_checks}
use Rattle.mg_reading.specs.ImageView.{pages_in}
use Rattle.mg_reading.proofs.WantedLemmas.{pointer_lawful}
use Rattle.mg_reading.proofs.image.Image.is_pointer_there.Goals as goal

pub returns-clause-lawful : goal.returns-clause-lawful
returns-clause-lawful c = λ passed.
    pointer_lawful c.args.self.now.size (pages_in c.args.self.now) c.args.owner c.args.at c.args.n
    (rw c.page.ensures.page at c.page.ensures.least) (rw c.page.ensures.page at c.page.ensures.most)
    ((c.is_as_wanted.ensures
    (pointer_checks (pages_in c.args.self.now c.args.n) c.args.n c.args.owner c.args.at)
    (c.check_pointer.ensures ∙ (λ i. verdict (record { 0 = c.args.n })
    (pointer_checks (c.page.ensures.page i) c.args.n c.args.owner c.args.at)))).0 passed)
