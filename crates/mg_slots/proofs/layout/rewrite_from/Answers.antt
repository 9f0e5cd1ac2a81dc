use Rattle.std.proofs.Common.{◌≡◌, ◌+◌, ℕ, List, arith, length, ◌∙◌, sym, subst}
use Rattle.std.specs.Option.{option_copied}
use Rattle.mg_slots.specs.DataPage.{IsLaid, cell_of, taken_below}
use Rattle.mg_slots.specs.Layout.{with_cell}
use Rattle.mg_slots.proofs.RewriteLemmas.{rewritten}
use Rattle.mg_slots.proofs.layout.rewrite_from.Goals as goal

pub returns-clause-sets : goal.returns-clause-sets
returns-clause-sets c =
    let copy : c.args.old.now ≡ c.args.b.now = c.requires.copy in
    (rewritten c.args.b.now c.lay_out-low.new.b c.put_u16-2.new.b c.args.slot
    (option_copied c.args.new_cell) c.args.count c.lay_out-low.result
    c.requires.lawful c.requires.ends c.requires.room
    (omega (arith, c.lay_out-low.auto.b, c.clear.ensures.len))
    (λ k lt. c.lay_out-low.ensures.front k (omega arith) ∙ c.clear.ensures.common k lt)
    (let P : List ℕ → Type 0 = λ p. IsLaid c.lay_out-low.new.b (with_cell (cell_of p) c.args.slot
    (option_copied c.args.new_cell)) c.args.count in subst P copy c.lay_out-low.ensures.laid)
    (let P : List ℕ → Type 0 = λ p. c.lay_out-low.result + taken_below (with_cell
    (cell_of p) c.args.slot
    (option_copied c.args.new_cell)) c.args.count ≡ length c.lay_out-low.new.b in
    subst P copy (c.lay_out-low.ensures.low ∙ sym c.lay_out-low.auto.b))
    cc).0
