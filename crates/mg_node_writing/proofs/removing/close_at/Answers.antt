use Rattle.std.proofs.Common.{Bool, ap, subst, sym, ◌∙◌, ◌≤◌, ◌<◌, ℕ}
use Rattle.mg_node.specs.NodePage.{end_of, is_inner}
use Rattle.mg_node_writing.proofs.InsertLemmas.{closes, entry_behind}
use Rattle.mg_node_writing.proofs.removing.close_at.Goals as goal

pub returns : goal.returns
returns c =
    let old = c.args.b.now in
    let is = c.end_of-from.ensures.is
    ∙ ap (λ (w : Bool). end_of w old c.args.at) c.is_inner.ensures in
    let count = c.count-count.ensures.is in
    closes old c.move_bytes.new.b c.set_end.new.b c.args.at c.end_of-from.result c.end-end.result
    c.count-count.result is c.end-end.ensures count c.requires.front
    (subst (λ (x : ℕ). c.args.at ≤ x) (sym is) (entry_behind (is_inner old) old c.args.at))
    (subst (λ (x : ℕ). x ≤ c.end-end.result) (sym is)
    (subst (λ (x : ℕ). end_of (is_inner old) old c.args.at ≤ x) (sym c.end-end.ensures) c.requires.back))
    (subst (λ (x : ℕ). 0 < x) (sym count) c.requires.some) c.move_bytes.ensures c.set_end.ensures
