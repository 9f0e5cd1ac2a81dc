use Rattle.std.proofs.Common.{◌≡◌, ◌∙◌, sym, length, rules}
use Rattle.mg_careful.proofs.GraphLemmas.{clear_kept, clear_first, clear_changes, clear_absent, square_of}
use Rattle.mg_careful.proofs.graph.Graph.clear.Goals as goal

pub invariant_of-self : goal.invariant_of-self
invariant_of-self c =
    let size_is : c.len-size.result ≡ length c.self.inside.pages.items = search rules in
    clear_first _ _ _ _ c.self.invariant c.in-Some.place c.args.page c.in-Some.ensures.found.1 c.clear_member.new.rows.items (square_of size_is c.clear_member.ensures.square) c.clear_member.ensures.bits
    c.clear_row.new.rows.items (sym c.is_row_blank-is_first.ensures ∙ c.if-is_first.true) (square_of size_is c.clear_row.ensures.square) c.clear_row.ensures.bits

pub invariant_of-self-else-is_first : goal.invariant_of-self-else-is_first
invariant_of-self-else-is_first c =
    let size_is : c.len-size.result ≡ length c.self.inside.pages.items = search rules in
    clear_kept _ _ _ _ c.self.invariant c.in-Some.place c.args.page c.in-Some.ensures.found.1 c.clear_member.new.rows.items (square_of size_is c.clear_member.ensures.square) c.clear_member.ensures.bits
    c.close_all.new.after.items c.close_all.new.row (square_of size_is c.close_all.ensures.square) (c.close_all.ensures.row ∙ size_is) c.close_all.ensures.closure

pub returns-then-is_first : goal.returns-then-is_first
returns-then-is_first c =
    let size_is : c.len-size.result ≡ length c.self.inside.pages.items = search rules in
    rw (← c.self.view_is) (clear_changes _ _ _ _ c.self.invariant c.in-Some.place c.args.page c.in-Some.ensures.found.1 c.clear_member.new.rows.items (square_of size_is c.clear_member.ensures.square) c.clear_member.ensures.bits)

pub returns-else-is_first : goal.returns-else-is_first
returns-else-is_first c =
    let size_is : c.len-size.result ≡ length c.self.inside.pages.items = search rules in
    rw (← c.self.view_is) (clear_changes _ _ _ _ c.self.invariant c.in-Some.place c.args.page c.in-Some.ensures.found.1 c.clear_member.new.rows.items (square_of size_is c.clear_member.ensures.square) c.clear_member.ensures.bits)

pub returns-in_default : goal.returns-in_default
returns-in_default c = rw (← c.self.view_is) (clear_absent c.self.inside.pages.items c.self.inside.before.items c.args.page c.in_default.ensures.absent)
