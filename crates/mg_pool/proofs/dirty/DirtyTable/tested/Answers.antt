use Rattle.std.proofs.Common.{◌≡◌, ◌∙◌, ap, refl, Some, length}
use Rattle.mg_pool.specs.DirtyPage.{DirtyPage}
use Rattle.mg_pool.specs.Dirty.{content_of, DirtyPages}
use Rattle.mg_pool.proofs.DirtyLemmas.{entry_at, no_entry, whole_at}
use Rattle.mg_pool.proofs.dirty.DirtyTable.tested.Goals as goal

pub returns-in_err-place-clause-content : goal.returns-in_err-place-clause-content
unfolding content_of
returns-in_err-place-clause-content g c = rw (← c.self.view_is, c.from_residual.ensures, no_entry c.self.inside.pages.items c.args.page c.in_err-place.ensures.absent) refl

pub returns-clause-content : goal.returns-clause-content
unfolding content_of
returns-clause-content g c = rw (← c.self.view_is, entry_at c.self.inside.size c.self.inside.pages.items c.in_ok-place.place c.args.page c.index.result.now c.self.invariant.0 c.in_ok-place.ensures.found.0 (c.in_ok-place.ensures.found.1 c.index.result.now), c.tested.ensures) (ap (λ (d : DirtyPage). Some d.bytes) c.index.ensures)

pub returns-clause-whole : goal.returns-clause-whole
returns-clause-whole g c =
    let size_is : c.self.inside.size ≡ c.args.self.now.size = ap (λ (t : DirtyPages). t.size) c.self.view_is in
    ap length c.tested.ensures ∙ (ap (λ (d : DirtyPage). length d.bytes) c.index.ensures ∙ (whole_at c.self.inside.size c.self.inside.pages.items c.in_ok-place.place c.index.result.now c.self.invariant.0 c.in_ok-place.ensures.found.0 ∙ size_is))
