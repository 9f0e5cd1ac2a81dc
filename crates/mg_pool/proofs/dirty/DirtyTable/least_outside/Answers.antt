use Rattle.std.proofs.Common.{◌≡◌, ◌∙◌, sym, subst, ℕ, not, length, get_or, rules}
use Rattle.mg_careful.specs.Rows.{IsLeast}
use Rattle.mg_pool.specs.Batch.{is_in}
use Rattle.mg_pool.proofs.LeastLemmas.{least_more, given, given_at, least_page, least_same, none_entry}
use Rattle.mg_pool.proofs.OutsideLemmas.{outside_passes, outside_chosen, least_some}
use Rattle.mg_pool.proofs.dirty.DirtyTable.least_outside.Goals as goal

pub loop-i-preserved : goal.loop-i-preserved
loop-i-preserved g c =
    rw c.lesser-least.ensures (least_more _ c.loop-i.i c.loop-i.least c.page_outside.result c.loop-i.invariant (given_at _ c.self.inside.pages.items c.loop-i.i none_entry (search rules) ∙ (outside_chosen c.args.batch.now.items (get_or c.self.inside.pages.items c.loop-i.i none_entry) ∙ sym (c.page_outside.ensures none_entry))))

pub returns-clause-least : goal.returns-clause-least
returns-clause-least g c =
    let at_end : c.loop-i.i ≡ length c.self.inside.pages.items = search rules in
    let is : IsLeast (given (λ d. not (is_in c.args.batch.now.items d.page)) c.self.inside.pages.items) (length c.self.inside.pages.items) c.loop-i.least = subst (λ (k : ℕ). IsLeast (given (λ d. not (is_in c.args.batch.now.items d.page)) c.self.inside.pages.items) k c.loop-i.least) at_end c.loop-i.invariant in
    rw (← c.self.view_is) (least_same _ _ c.loop-i.least (outside_passes c.self.inside.size c.self.inside.room c.self.inside.pages.items c.args.batch.now.items c.self.invariant.0) (least_page (λ d. not (is_in c.args.batch.now.items d.page)) c.self.inside.size c.self.inside.pages.items c.loop-i.least c.self.invariant.0 is))

pub returns-clause-some : goal.returns-clause-some
returns-clause-some g c =
    let least = returns-clause-least g c in
    rw (← c.self.view_is) (least_some c.self.inside.size c.self.inside.room c.self.inside.pages.items c.args.batch.now.items c.self.invariant.0 c.loop-i.least (rw (← c.self.view_is) at least))
