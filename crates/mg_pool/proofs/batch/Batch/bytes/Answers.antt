use Rattle.std.proofs.Common.{ap, refl, Some}
use Rattle.mg_pool.specs.declared.batch.BatchPage.{BatchPage}
use Rattle.mg_pool.proofs.BatchLemmas.{no_content, content_first}
use Rattle.mg_pool.proofs.batch.Batch.bytes.Goals as goal

pub returns-in_err-place : goal.returns-in_err-place
returns-in_err-place c = rw (← c.self.view_is, c.from_residual.ensures, no_content c.self.inside.pages.items c.args.page.0 c.in_err-place.ensures.absent) refl

pub returns : goal.returns
returns c = rw (← c.self.view_is, content_first c.self.inside.pages.items c.in_ok-place.place c.args.page.0 c.index.result.now c.in_ok-place.ensures.found.0 (c.in_ok-place.ensures.found.1 c.index.result.now) c.in_ok-place.ensures.first, c.as_slice.ensures) (ap (λ (d : BatchPage). Some d.bytes) c.index.ensures)
