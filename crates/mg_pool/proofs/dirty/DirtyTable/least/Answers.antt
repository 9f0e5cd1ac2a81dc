use Rattle.std.proofs.Common.{◌≡◌, ◌∙◌, sym, ap, subst, ℕ, Some, true, length, rules}
use Rattle.mg_careful.specs.Rows.{IsLeast}
use Rattle.mg_pool.specs.DirtyPage.{DirtyPage}
use Rattle.mg_pool.proofs.LeastLemmas.{least_more, given, given_at, least_page, least_same, dirty_passes}
use Rattle.mg_pool.proofs.dirty.DirtyTable.least.Goals as goal

pub loop-i-preserved : goal.loop-i-preserved
loop-i-preserved g c =
    rw (c.lesser-least.ensures, c.number.ensures) (least_more _ c.loop-i.i c.loop-i.least (Some c.index.result.now.page) c.loop-i.invariant (given_at (λ d. true) c.self.inside.pages.items c.loop-i.i c.index.result.now (search rules) ∙ ap (λ (d : DirtyPage). Some d.page) (sym c.index.ensures)))

pub returns : goal.returns
returns g c =
    let at_end : c.loop-i.i ≡ length c.self.inside.pages.items = search rules in
    let is : IsLeast (given (λ d. true) c.self.inside.pages.items) (length c.self.inside.pages.items) c.loop-i.least = subst (λ (k : ℕ). IsLeast (given (λ d. true) c.self.inside.pages.items) k c.loop-i.least) at_end c.loop-i.invariant in
    rw (← c.self.view_is) (least_same _ _ c.loop-i.least (dirty_passes c.self.inside.size c.self.inside.room c.self.inside.pages.items) (least_page (λ d. true) c.self.inside.size c.self.inside.pages.items c.loop-i.least c.self.invariant.0 is))
