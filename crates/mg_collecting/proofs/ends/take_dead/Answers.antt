use Rattle.std.proofs.Common.{[], Option, sym, ◌∙◌}
use Rattle.mg_base.specs.Image.{Image}
use Rattle.mg_chain.specs.Refusals.{RefusesChain}
use Rattle.mg_pool.specs.Pool.{shown}
use Rattle.mg_space.specs.declared.fault.SpaceFault.{SpaceFault}
use Rattle.mg_version.specs.declared.cell.Link.{Link}
use Rattle.mg_collecting.specs.Remaining.{without_dead}
use Rattle.mg_collecting.specs.RemainingLaws.{dead_some}
use Rattle.mg_collecting.specs.Steps.{DoesPart, FailsPart, not_read, not_taken_out}
use Rattle.mg_collecting.proofs.CountLemmas.{primary_refuses}
use Rattle.mg_collecting.proofs.EndLemmas.{dead_taken, first_leads, none_dead, not_dead}
use Rattle.mg_collecting.proofs.PartLemmas.{fails_after, fails_at_once, handed_on}
use Rattle.mg_collecting.proofs.WholeLemmas.{reading_as}
use Rattle.mg_collecting.proofs.ends.take_dead.Goals as goal

pub returns-in_err-first-clause-takes : goal.returns-in_err-first-clause-takes
returns-in_err-first-clause-takes g c = handed_on c.from_residual.result c.in_err-first.field-0.0
    (DoesPart g.D.Disk.meaning c.args.store.now c.newest.new.store (g.S.States.state_of c.args.states.now)
    c.args.live.now c.args.rec (without_dead (g.S.States.state_of c.args.states.now)))
    (FailsPart g.D.Disk.meaning c.args.store.now c.newest.new.store (g.S.States.state_of c.args.states.now)
    c.args.live.now c.args.rec (without_dead (g.S.States.state_of c.args.states.now)))
    c.from_residual.ensures.0 c.from_residual.ensures.1
    (fails_at_once g.D.Disk.meaning (g.S.States.state_of c.args.states.now) c.args.live.now c.args.rec
    (without_dead (g.S.States.state_of c.args.states.now)) g.met.D.Disk.holds c.args.store.now c.newest.new.store
    c.in_err-first.field-0.0 (not_read (reading_as (Option Link) g.D.Disk.meaning c.args.store.now c.newest.new.store
    (λ (image : Image). λ (f : SpaceFault). RefusesChain g.D.Disk.meaning c.newest.new.store []
    (shown c.args.store.now.dirty image) c.args.rec f) c.in_err-first.field-0.0 c.in_err-first.ensures.keeps
    c.in_err-first.ensures.own c.in_err-first.ensures.fault
    (λ image tells. primary_refuses g.D.Disk.meaning c.newest.new.store [] (shown c.args.store.now.dirty image)
    c.args.rec c.in_err-first.field-0.0 (c.in_err-first.ensures.gives image tells))))
    (dead_some (g.S.States.state_of c.args.states.now)))

pub returns-in_default-clause-takes : goal.returns-in_default-clause-takes
returns-in_default-clause-takes g c = none_dead g.D.Disk.meaning (g.S.States.state_of c.args.states.now)
    c.args.live.now c.args.rec c.args.store.now c.in_ok-first.field-0 c.in_ok-first.ensures.gives c.newest.new.store
    c.in_ok-first.ensures.keeps c.in_ok-first.ensures.fault c.in_default.is

pub returns-then-not-is_dead-clause-takes : goal.returns-then-not-is_dead-clause-takes
returns-then-not-is_dead-clause-takes g c = not_dead g.D.Disk.meaning (g.S.States.state_of c.args.states.now)
    c.args.live.now c.args.rec c.args.store.now c.in_ok-first.field-0 c.in_ok-first.ensures.gives c.newest.new.store
    c.in_ok-first.ensures.keeps c.in_ok-first.ensures.fault c.in-Some.first c.in-Some.is
    (sym c.is_dead.ensures ∙ c.if-not-is_dead.true)

pub returns-in_err-take_newest_out-clause-takes : goal.returns-in_err-take_newest_out-clause-takes
returns-in_err-take_newest_out-clause-takes g c = handed_on c.from_residual-in_err-take_newest_out.result
    c.in_err-take_newest_out.field-0.0
    (DoesPart g.D.Disk.meaning c.args.store.now c.take_newest_out.new.store (g.S.States.state_of c.args.states.now)
    c.args.live.now c.args.rec (without_dead (g.S.States.state_of c.args.states.now)))
    (FailsPart g.D.Disk.meaning c.args.store.now c.take_newest_out.new.store (g.S.States.state_of c.args.states.now)
    c.args.live.now c.args.rec (without_dead (g.S.States.state_of c.args.states.now)))
    c.from_residual-in_err-take_newest_out.ensures.0 c.from_residual-in_err-take_newest_out.ensures.1
    (fails_after g.D.Disk.meaning (g.S.States.state_of c.args.states.now) c.args.live.now c.args.rec
    (without_dead (g.S.States.state_of c.args.states.now)) g.met.D.Disk.holds c.args.store.now c.newest.new.store
    c.take_newest_out.new.store c.in_err-take_newest_out.field-0.0 c.in_ok-first.ensures.keeps
    c.in_ok-first.ensures.fault (not_taken_out c.in-Some.first (first_leads g.D.Disk.meaning c.args.rec
    c.args.store.now c.newest.new.store c.in_ok-first.field-0 c.in-Some.first c.in_ok-first.ensures.gives
    c.in_ok-first.ensures.keeps c.in-Some.is) c.in_err-take_newest_out.ensures.takes)
    (dead_some (g.S.States.state_of c.args.states.now)))

pub returns-clause-takes : goal.returns-clause-takes
returns-clause-takes g c = dead_taken g.D.Disk.meaning (g.S.States.state_of c.args.states.now)
    c.args.live.now c.args.rec c.args.store.now c.in_ok-first.field-0 c.in_ok-first.ensures.gives
    c.cells_are_changed.ensures.put c.cells_are_changed.ensures.freed c.newest.new.store c.take_newest_out.new.store
    c.in_ok-first.ensures.keeps c.in_ok-first.ensures.fault c.in_ok-take_newest_out.ensures.takes c.in-Some.first
    c.in-Some.is (sym c.is_dead.ensures ∙ c.if-not-is_dead.false)
