use Rattle.std.proofs.Common.{◌-◌, ◌/◌, ◌≤◌, ◌∙◌, arith, refl, subst, ℕ}
use Rattle.mg_base.specs.Image.{page_at}
use Rattle.mg_limbo_list.proofs.TipsLemmas.{back_inside, state_found, state_past, state_system}
use Rattle.mg_limbo_list.proofs.tips.Tips.state.Goals as goal

pub returns-then-t-eq0 : goal.returns-then-t-eq0
returns-then-t-eq0 c = state_system c.args.self.now.size
    (page_at c.args.self.now.size c.args.pages.now) c.args.t c.if-t-eq0.true

pub returns-then-t-self : goal.returns-then-t-self
returns-then-t-self c = state_past c.args.self.now.size
    (page_at c.args.self.now.size c.args.pages.now) c.args.t c.if-t-eq0.false
    (subst (λ (m : ℕ). m ≤ c.args.t) c.requires.tips.next c.if-t-self.true)

pub returns : goal.returns
returns c = c.settled.ensures ∙ state_found c.args.self.now.size
    (page_at c.args.self.now.size c.args.pages.now) c.args.t c.places_of-places.result
    ((c.args.self.now.next - 1) / c.places_of-places.result - c.args.t / c.places_of-places.result)
    c.index-n.result.now c.args.self.now.next c.args.self.now.pages.items c.state_on.result
    c.if-t-eq0.false c.requires.tips.next (omega (arith, c.if-t-self.false))
    c.places_of-places.ensures.places refl c.index-n.ensures
    (back_inside c.args.self.now.size (page_at c.args.self.now.size c.args.pages.now)
    c.args.t c.places_of-places.result c.args.self.now.next c.args.self.now.pages.items
    c.requires.tips.next c.places_of-places.ensures.places c.requires.tips.count)
    c.requires.tips.each c.state_on.ensures
