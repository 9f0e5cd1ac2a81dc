use Rattle.std.proofs.Common.{rules, arith, ◌≡◌, ℕ, false, sym, ◌∙◌, subst}
use Rattle.std.proofs.lemmas.Bool.{both_ways}
use Rattle.mg_pool.specs.Batch.{is_in, order_at}
use Rattle.mg_pool.proofs.OrderLemmas.{at_listed}
use Rattle.mg_pool.proofs.LawfulLemmas.{later_placed}
use Rattle.mg_pool.proofs.batch.lawful.has_each_later.Goals as goal

pub returns-then-not-has_page : goal.returns-then-not-has_page
returns-then-not-has_page c =
    let there = at_listed c.args.orders.now.items c.loop-place.place (omega arith) in
    let out : is_in c.args.pages.now.items (order_at c.args.orders.now.items c.loop-place.place).later ≡ false = subst (λ (x : ℕ). is_in c.args.pages.now.items x ≡ false) c.later_of.ensures (sym c.has_page.ensures ∙ c.if-not-has_page.true) in
    (λ is. absurd cc, λ all. absurd (both_ways (is_in c.args.pages.now.items (order_at c.args.orders.now.items c.loop-place.place).later) out (all (order_at c.args.orders.now.items c.loop-place.place).first (order_at c.args.orders.now.items c.loop-place.place).later there)))

pub returns : goal.returns
returns c = (λ is. later_placed c.args.pages.now.items c.args.orders.now.items (search rules), λ all. search rules)
