use Rattle.std.proofs.Common.{◌≡◌, ◌-◌, ◌/◌, ◌∙◌, ℕ, ap}
use Rattle.mg_header.specs.HeaderPage.{header_in}
use Rattle.mg_space.proofs.DemandLemmas.{begins_here, begins_up, header_linked}
use Rattle.mg_space.specs.Demands.{linked}
use Rattle.mg_tip.specs.TipPage.{places}
use Rattle.mg_space.specs.declared.links.TheConstants.{TRANSACTIONS}
use Rattle.mg_space.proofs.demands.put_header.Goals as goal

pub returns-in_err-put_linked-clause-err : goal.returns-in_err-put_linked-clause-err
returns-in_err-put_linked-clause-err c = begins_here c.args.out.now.items c.put_linked.new.out.items
    c.from_residual.result c.in_err-put_linked.ensures.err

pub returns-clause-ok : goal.returns-clause-ok
returns-clause-ok c = header_linked c.args.size c.args.b.now c.args.out.now.items
    c.put_linked.new.out.items c.put_linked-2.new.out.items c.put_linked-2.result
    c.u32_or_zero-2.result c.from.result c.u32_or_zero-catalog.result c.from-2.result
    c.u32_or_zero-2.ensures (c.from.ensures ∙ quotient c.saturating_sub-last.ensures)
    c.u32_or_zero-catalog.ensures c.from-2.ensures c.in_ok-put_linked.ensures.ok
    c.put_linked-2.ensures.ok
  where
    quotient : c.saturating_sub-last.result ≡ c.u32_or_zero.result - 1
        → c.saturating_sub-last.result / c.places_of.result
        ≡ ((header_in c.args.b.now).next.0 - 1) / places c.args.size
    quotient is = ap (λ (n : ℕ). n / c.places_of.result)
        (is ∙ ap (λ (n : ℕ). n - 1) c.u32_or_zero.ensures)
        ∙ ap (λ (n : ℕ). ((header_in c.args.b.now).next.0 - 1) / n) c.places_of.ensures

pub returns-clause-err : goal.returns-clause-err
returns-clause-err c = begins_up c.args.out.now.items c.put_linked.new.out.items
    c.put_linked-2.new.out.items (linked c.args.size c.u32_or_zero-2.result TRANSACTIONS
    c.from.result 0) c.put_linked-2.result c.in_ok-put_linked.ensures.ok c.put_linked-2.ensures.err
