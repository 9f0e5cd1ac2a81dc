use Rattle.std.proofs.Common.{◌≡◌, ◌∙◌, sym, subst, ℕ, false, length, get_or, rules}
use Rattle.mg_careful.specs.Rows.{IsLeast}
use Rattle.mg_pool.proofs.LeastLemmas.{least_more, given, given_at, least_page, least_same, marked_passes, none_entry}
use Rattle.mg_pool.proofs.dirty.DirtyTable.least_marked.Goals as goal

pub loop-i-preserved : goal.loop-i-preserved
loop-i-preserved g c =
    rw c.lesser-least.ensures (least_more _ c.loop-i.i c.loop-i.least c.marked_page.result c.loop-i.invariant (given_at _ c.self.inside.pages.items c.loop-i.i none_entry (search rules) ∙ sym (c.marked_page.ensures none_entry)))

pub returns : goal.returns
returns g c =
    let at_end : c.loop-i.i ≡ length c.self.inside.pages.items = search rules in
    let is : IsLeast (given (λ d. get_or d.marks c.args.who false) c.self.inside.pages.items) (length c.self.inside.pages.items) c.loop-i.least = subst (λ (k : ℕ). IsLeast (given (λ d. get_or d.marks c.args.who false) c.self.inside.pages.items) k c.loop-i.least) at_end c.loop-i.invariant in
    rw (← c.self.view_is) (least_same _ _ c.loop-i.least (λ page. marked_passes c.self.inside.size c.self.inside.room c.self.inside.pages.items page c.args.who) (least_page (λ d. get_or d.marks c.args.who false) c.self.inside.size c.self.inside.pages.items c.loop-i.least c.self.invariant.0 is))
