use Rattle.std.proofs.Common.{◌≤◌, ◌∙◌, sym, subst, false, length, ℕ}
use Rattle.std.specs.Prelude.{◌↔◌, IsTrue}
use Rattle.mg_node.specs.NodePage.{IsBelow, end_of, entry_at}
use Rattle.mg_btree.specs.OnPageLaws.{high_fits, is_under_none, is_under_some}
use Rattle.mg_btree.specs.RowOrderLaws.{not_there}
use Rattle.mg_btree.proofs.on_page.is_under.Goals as goal

pub returns-then-not-has_high : goal.returns-then-not-has_high
returns-then-not-has_high c = λ lawful. is_under_none c.args.page.now c.args.e.now
    (sym c.has_high.ensures ∙ c.if-not-has_high.true)

pub returns-then-not-fits : goal.returns-then-not-fits
returns-then-not-fits c = λ lawful. absurd (not_there c.fits.result c.fits.ensures.1 c.if-not-fits.true
    (subst (λ (at : ℕ). end_of false c.args.page.now at ≤ length c.args.page.now)
    (sym c.high_at-at.ensures.is) (high_fits c.args.page.now lawful
    (sym c.has_high.ensures ∙ c.if-not-has_high.false))))

pub returns : goal.returns
returns c = λ lawful. is_under_some c.args.page.now c.args.e.now c.is_before.result
    (sym c.has_high.ensures ∙ c.if-not-has_high.false)
    (subst (λ (at : ℕ). IsTrue c.is_before.result
    ↔ IsBelow c.args.e.now (entry_at false c.args.page.now at)) c.high_at-at.ensures.is
    c.is_before.ensures)
