use Rattle.std.proofs.Common.{◌+◌, ◌≤◌, ◌∙◌, List, ap, subst, sym, ℕ}
use Rattle.mg_base.specs.Image.{page_at}
use Rattle.mg_base.specs.declared.numbers.TxNo.{TxNo}
use Rattle.mg_image.specs.Inventory.{state_at}
use Rattle.mg_limbo_list.specs.Limbo.{IsLimboBelow}
use Rattle.mg_limbo_list.proofs.LimboLemmas.{limbo_all, limbo_more, limbo_none}
use Rattle.mg_limbo_list.proofs.listing.limbo_of.Goals as goal

pub loop-t-init : goal.loop-t-init
loop-t-init c = subst (λ (list : List TxNo). IsLimboBelow
    (state_at c.args.size (page_at c.args.size c.args.pages.now)) 1 list)
    (sym c.new-list.ensures.items)
    (limbo_none c.args.size (page_at c.args.size c.args.pages.now))

pub loop-t-preserved : goal.loop-t-preserved
loop-t-preserved c = subst (λ (list : List TxNo). IsLimboBelow
    (state_at c.args.size (page_at c.args.size c.args.pages.now)) (c.loop-t.t + 1) list)
    (sym c.in_ok-note_limbo.ensures.adds)
    (limbo_more (state_at c.args.size (page_at c.args.size c.args.pages.now)) c.loop-t.t
    c.loop-t.list.items c.loop-t.invariant c.state.result
    (c.state.ensures ∙ ap (λ (size : ℕ). state_at size (page_at size c.args.pages.now) c.loop-t.t)
    c.in_ok-tips.ensures.sized))

pub returns : goal.returns
returns c = limbo_all c.args.size (page_at c.args.size c.args.pages.now) c.loop-t.t
    c.loop-t.list.items c.loop-t.invariant
    (subst (λ (n : ℕ). n ≤ c.loop-t.t) c.in_ok-tips.ensures.next c.loop-t-test.false)
