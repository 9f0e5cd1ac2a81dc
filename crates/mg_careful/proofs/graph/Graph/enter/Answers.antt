use Rattle.std.proofs.Common.{◌≡◌, ◌≢◌, ◌∙◌, ℕ, Some, None, get_or, sym, true, false, arith}
use Rattle.mg_careful.specs.Graph.{is_entered, entered_count, room_of}
use Rattle.mg_careful.proofs.PlaceLemmas.{graph, not_entered, count_full}
use Rattle.mg_careful.proofs.ReadLemmas.{found_entered, not_found}
use Rattle.mg_careful.proofs.GraphLemmas.{enter_again, enter_changes}
use Rattle.mg_careful.proofs.graph.Graph.enter.Goals as goal

pub returns-then-is_some : goal.returns-then-is_some
returns-then-is_some c =
    let entered : is_entered (graph c.self.inside.pages.items c.self.inside.before.items) c.args.page ≡ true = sym (found_entered c.self.inside.pages.items c.self.inside.before.items c.args.page c.find.result c.find.ensures.found c.find.ensures.absent) ∙ (sym c.is_some.ensures ∙ c.if-is_some.true) in
    enter_again c.args.self.now c.args.page (rw (← c.self.view_is) entered)

pub returns-in-Some : goal.returns-in-Some
returns-in-Some c =
    let absent : (i : ℕ) → get_or c.self.inside.pages.items i None ≢ Some c.args.page = not_found c.find.result c.find.ensures.absent (sym c.is_some.ensures ∙ c.if-is_some.false) in
    rw (← c.self.view_is) (enter_changes _ _ _ _ c.self.invariant c.in-Some.place c.args.page c.in-Some.ensures.found.0 c.in-Some.ensures.found.1 absent)

-- there is room, so a place is free
pub returns-in_default : goal.returns-in_default
unfolding entered_count room_of
returns-in_default c =
    let absent : (i : ℕ) → get_or c.self.inside.pages.items i None ≢ Some c.args.page = not_found c.find.result c.find.ensures.absent (sym c.is_some.ensures ∙ c.if-is_some.false) in
    let out : is_entered c.args.self.now c.args.page ≡ false = rw (← c.self.view_is) (not_entered c.self.inside.pages.items c.self.inside.before.items c.args.page absent) in
    let room = rw (← c.self.view_is) at (c.requires.room out) in
    let full = count_full c.self.inside.pages.items c.in_default.ensures.absent in
    absurd (omega (arith, room, full))
