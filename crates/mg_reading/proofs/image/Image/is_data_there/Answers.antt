use Rattle.std.proofs.Common.{◌∙◌}
use Rattle.mg_base.specs.Checks.{common_checks, verdict}
use Rattle.mg_slots.specs.declared.page.TheConstants.{DATA_KIND}
use Rattle.mg_reading.specs.ImageView.{pages_in}
use Rattle.mg_reading.proofs.WantedLemmas.{slots_where_ok}
use Rattle.mg_reading.proofs.image.Image.is_data_there.Goals as goal

pub returns-then-is_as_wanted : goal.returns-then-is_as_wanted
returns-then-is_as_wanted c = slots_where_ok c.args.self.now.size (pages_in c.args.self.now)
    c.args.owner c.args.at c.args.n c.page-page.result.now c.page-page.ensures.page
    ((c.is_as_wanted.ensures (common_checks (pages_in c.args.self.now c.args.n) c.args.n DATA_KIND
    c.args.owner c.args.at)
    (c.check_common-common.ensures ∙ (λ i. verdict (record { 0 = c.args.n })
    (common_checks (c.page-page.ensures.page i) c.args.n DATA_KIND c.args.owner c.args.at)))).0
    c.if-is_as_wanted.true)
    c.check_data.result c.check_data.ensures.when c.is_ok.result c.is_ok.ensures.value
