use Rattle.std.proofs.Common.{◌+◌, ◌∙◌, ℕ, ap}
use Rattle.mg_pointer.specs.PointerPage.{count_in, next_in}
use Rattle.mg_space.proofs.DemandLemmas.{begins_here, begins_up, ends_here, goes_on_linked}
use Rattle.mg_space.specs.Demands.{entry_demands, linked}
use Rattle.mg_space.specs.declared.links.TheConstants.{POINTER}
use Rattle.mg_space.proofs.demands.put_pointer.Goals as goal

pub returns-in_err-put_entries-clause-err : goal.returns-in_err-put_entries-clause-err
returns-in_err-put_entries-clause-err c = begins_here c.args.out.now.items
    c.put_entries.new.out.items c.from_residual.result c.in_err-put_entries.ensures.err

pub returns-then-next-eq0-clause-ok : goal.returns-then-next-eq0-clause-ok
returns-then-next-eq0-clause-ok c = ends_here c.args.out.now.items c.put_entries.new.out.items
    (entry_demands c.args.size c.args.b.now c.args.owner c.args.sequence (count_in c.args.b.now))
    (linked c.args.size (next_in c.args.b.now) POINTER c.args.owner (c.args.sequence + 1))
    c.u32_or_zero-next.result (next_in c.args.b.now) c.u32_or_zero-next.ensures c.if-next-eq0.true
    c.in_ok-put_entries.ensures.ok

pub returns-clause-ok : goal.returns-clause-ok
returns-clause-ok c = goes_on_linked c.args.size c.args.out.now.items c.put_entries.new.out.items
    c.put_linked.new.out.items
    (entry_demands c.args.size c.args.b.now c.args.owner c.args.sequence (count_in c.args.b.now))
    (next_in c.args.b.now) c.u32_or_zero-next.result (next_in c.args.b.now) POINTER c.from.result
    c.args.owner (c.from-2.result + 1) (c.args.sequence + 1) c.put_linked.result
    (λ zero_. c.if-next-eq0.false (c.u32_or_zero-next.ensures ∙ zero_)) c.u32_or_zero-next.ensures
    c.from.ensures (ap (λ (n : ℕ). n + 1) c.from-2.ensures) c.in_ok-put_entries.ensures.ok
    c.put_linked.ensures.ok

pub returns-clause-err : goal.returns-clause-err
returns-clause-err c = begins_up c.args.out.now.items c.put_entries.new.out.items
    c.put_linked.new.out.items
    (entry_demands c.args.size c.args.b.now c.args.owner c.args.sequence (count_in c.args.b.now))
    c.put_linked.result c.in_ok-put_entries.ensures.ok c.put_linked.ensures.err
