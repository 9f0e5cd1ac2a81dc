use Rattle.std.proofs.Common.{◌≡◌, ◌∙◌, sym, ℕ, true, false, get_or}
use Rattle.std.proofs.lemmas.List.{get_or_read}
use Rattle.mg_pool.specs.Batch.{Leads, order_at}
use Rattle.mg_pool.proofs.PlaceLemmas.{inside_all, place_all, place_more, refuted, tested}
use Rattle.mg_pool.proofs.pool.Pool.next_due.Goals.{else-not-index-via-then-not-index+else-leads, else-not-index-via-else-not-index}
use Rattle.mg_pool.proofs.pool.Pool.next_due.Goals as goal

pub loop-place-preserved : goal.loop-place-preserved
loop-place-preserved g c = place_more (λ (k : ℕ).
    Leads c.args.self.now.graph c.args.orders.now.items c.args.due.now.items
    (order_at c.args.orders.now.items k).later c.args.goal → get_or c.args.due.now.items k false ≡ true)
    c.loop-place.place c.loop-place.invariant
    (elim c.else-not-index.branch [
      | else-not-index-via-then-not-index+else-leads w ↦ λ leads. absurd (refuted w.leads.result
          (λ (p : ℕ). Leads c.args.self.now.graph c.args.orders.now.items c.args.due.now.items p c.args.goal)
          _ _ w.later_of.ensures w.leads.ensures w.if-leads.false leads)
      | else-not-index-via-else-not-index w ↦ λ leads.
          sym (get_or_read c.args.due.now.items c.loop-place.place c.index.result.now
          (inside_all c.loop-place.place c.args.count _ _ c.loop-place-test.true c.requires.count c.requires.due)
          c.index.ensures false) ∙ w.if-not-index.false
    ])

pub returns-clause-none : goal.returns-clause-none
returns-clause-none g c = place_all (λ (k : ℕ).
    Leads c.args.self.now.graph c.args.orders.now.items c.args.due.now.items
    (order_at c.args.orders.now.items k).later c.args.goal → get_or c.args.due.now.items k false ≡ true)
    c.loop-place.place c.args.count c.loop-place.invariant c.loop-place-test.false

pub returns-then-leads-clause-some : goal.returns-then-leads-clause-some
returns-then-leads-clause-some g c = (
  c.loop-place-test.true,
  sym (get_or_read c.args.due.now.items c.loop-place.place c.index.result.now
      (inside_all c.loop-place.place c.args.count _ _ c.loop-place-test.true c.requires.count c.requires.due)
      c.index.ensures false) ∙ c.if-not-index.true,
  tested c.leads.result
      (λ (p : ℕ). Leads c.args.self.now.graph c.args.orders.now.items c.args.due.now.items p c.args.goal)
      _ _ c.later_of.ensures c.leads.ensures c.if-leads.true,
)
