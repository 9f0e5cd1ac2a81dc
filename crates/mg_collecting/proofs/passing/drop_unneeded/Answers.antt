use Rattle.std.proofs.Common.{[], ℕ, ◌+◌, Option, sym, subst, ◌∙◌, ◌-◌, arith, Bool, false}
use Rattle.mg_base.specs.Image.{Image}
use Rattle.mg_chain.specs.Refusals.{RefusesChain}
use Rattle.mg_pool.specs.Pool.{shown}
use Rattle.mg_space.specs.Taking.{IsGeometry}
use Rattle.mg_space.specs.declared.fault.SpaceFault.{SpaceFault}
use Rattle.mg_collecting.specs.Passing.{HasPassed, StartsAt}
use Rattle.mg_collecting.specs.Remaining.{without_unneeded}
use Rattle.mg_collecting.specs.RemainingLaws.{unneeded_some}
use Rattle.mg_collecting.specs.Steps.{DoesPart, FailsPart, not_read}
use Rattle.mg_collecting.specs.declared.passing.Stand.{Stand}
use Rattle.mg_collecting.proofs.PartLemmas.{does_nothing, fails_at_once, handed_on}
use Rattle.mg_collecting.proofs.PassedLemmas.{ends_all, ends_none, ends_open, pass_fails, passed_starts, passes_on}
use Rattle.mg_collecting.proofs.WholeLemmas.{reading_as}
use Rattle.mg_collecting.proofs.passing.drop_unneeded.Goals as goal

pub returns-in_err-first-clause-drops : goal.returns-in_err-first-clause-drops
returns-in_err-first-clause-drops g c = handed_on c.from_residual.result c.in_err-first.field-0.0
    (DoesPart g.D.Disk.meaning c.args.store.now c.first_stand.new.store (g.S.States.state_of c.args.states.now)
    c.args.live.now c.args.rec (without_unneeded (g.S.States.state_of c.args.states.now) c.args.live.now))
    (FailsPart g.D.Disk.meaning c.args.store.now c.first_stand.new.store (g.S.States.state_of c.args.states.now)
    c.args.live.now c.args.rec (without_unneeded (g.S.States.state_of c.args.states.now) c.args.live.now))
    c.from_residual.ensures.0 c.from_residual.ensures.1
    (fails_at_once g.D.Disk.meaning (g.S.States.state_of c.args.states.now) c.args.live.now c.args.rec
    (without_unneeded (g.S.States.state_of c.args.states.now) c.args.live.now) g.met.D.Disk.holds c.args.store.now
    c.first_stand.new.store c.in_err-first.field-0.0
    (not_read (reading_as (Option Stand) g.D.Disk.meaning c.args.store.now c.first_stand.new.store
    (λ (image : Image). λ (f : SpaceFault). RefusesChain g.D.Disk.meaning c.first_stand.new.store []
    (shown c.args.store.now.dirty image) c.args.rec f) c.in_err-first.field-0.0 c.in_err-first.ensures.keeps
    c.in_err-first.ensures.own c.in_err-first.ensures.fault c.in_err-first.ensures.gives))
    (unneeded_some (g.S.States.state_of c.args.states.now) c.args.live.now))

pub returns-in_default-clause-drops : goal.returns-in_default-clause-drops
returns-in_default-clause-drops g c = does_nothing g.D.Disk.meaning (g.S.States.state_of c.args.states.now)
    c.args.live.now c.args.rec (without_unneeded (g.S.States.state_of c.args.states.now) c.args.live.now)
    c.args.store.now c.first_stand.new.store c.in_ok-first.ensures.keeps c.in_ok-first.ensures.fault
    (λ i tells es has. subst (λ (at : Option Stand). StartsAt (g.S.States.state_of c.args.states.now) c.args.live.now
    c.args.rec es at) c.in_default.is (c.in_ok-first.ensures.gives i tells es has))

pub loop-step-init : goal.loop-step-init
loop-step-init g c = subst (λ (n : ℕ). HasPassed g.D.Disk.meaning c.args.store.now c.first_stand.new.store
    (g.S.States.state_of c.args.states.now) c.args.live.now c.args.rec false c.in-Some.first n) (omega arith)
    (passed_starts g.D.Disk.meaning g.met.D.Disk.holds c.cells_are_changed.ensures.put
    c.cells_are_changed.ensures.freed (g.S.States.state_of c.args.states.now) c.args.live.now c.args.rec
    c.args.store.now c.args.count c.requires.counted c.first_stand.new.store c.in-Some.first
    c.in_ok-first.ensures.keeps c.in_ok-first.ensures.fault
    (λ image tells es has. subst (λ (at : Option Stand). StartsAt (g.S.States.state_of c.args.states.now)
    c.args.live.now c.args.rec es at) c.in-Some.is (c.in_ok-first.ensures.gives image tells es has)))

pub returns-in_default-next-clause-drops : goal.returns-in_default-next-clause-drops
returns-in_default-next-clause-drops g c = ends_none g.D.Disk.meaning g.met.D.Disk.holds
    c.cells_are_changed.ensures.put c.cells_are_changed.ensures.freed (g.S.States.state_of c.args.states.now)
    c.args.live.now c.args.rec c.args.store.now c.args.count c.requires.counted c.loop-step.store c.loop-step.gone
    c.loop-step.at (c.args.count - c.loop-step.step) c.loop-step.invariant c.in_default-next.is

pub returns-then-not-is_committed-clause-drops : goal.returns-then-not-is_committed-clause-drops
returns-then-not-is_committed-clause-drops g c = ends_open g.D.Disk.meaning g.met.D.Disk.holds
    c.cells_are_changed.ensures.put c.cells_are_changed.ensures.freed (g.S.States.state_of c.args.states.now)
    c.args.live.now c.args.rec c.args.store.now c.args.count c.requires.counted c.loop-step.store c.loop-step.gone
    c.loop-step.at (c.args.count - c.loop-step.step) c.loop-step.invariant c.in-Some-next.older c.in-Some-next.is
    (sym c.is_committed.ensures ∙ c.if-not-is_committed.true)

pub pass_one-requires-clause-pool : goal.pass_one-requires-clause-pool
pass_one-requires-clause-pool g c = c.loop-step.invariant.pool

pub pass_one-requires-clause-geometry : goal.pass_one-requires-clause-geometry
pass_one-requires-clause-geometry g c = subst IsGeometry (sym c.loop-step.invariant.geometry) c.requires.geometry

pub returns-in_err-passed-clause-geometry : goal.returns-in_err-passed-clause-geometry
returns-in_err-passed-clause-geometry g c = c.in_err-passed.ensures.geometry ∙ c.loop-step.invariant.geometry

pub returns-in_err-passed-clause-drops : goal.returns-in_err-passed-clause-drops
returns-in_err-passed-clause-drops g c = handed_on c.from_residual-in_err-passed.result c.in_err-passed.field-0.0
    (DoesPart g.D.Disk.meaning c.args.store.now c.pass_one.new.store (g.S.States.state_of c.args.states.now)
    c.args.live.now c.args.rec (without_unneeded (g.S.States.state_of c.args.states.now) c.args.live.now))
    (FailsPart g.D.Disk.meaning c.args.store.now c.pass_one.new.store (g.S.States.state_of c.args.states.now)
    c.args.live.now c.args.rec (without_unneeded (g.S.States.state_of c.args.states.now) c.args.live.now))
    c.from_residual-in_err-passed.ensures.0 c.from_residual-in_err-passed.ensures.1
    (pass_fails g.D.Disk.meaning g.met.D.Disk.holds c.cells_are_changed.ensures.put
    c.cells_are_changed.ensures.freed (g.S.States.state_of c.args.states.now) c.args.live.now c.args.rec
    c.args.store.now c.args.count c.requires.counted c.loop-step.store c.loop-step.gone c.loop-step.at
    (c.args.count - c.loop-step.step) c.loop-step.invariant c.pass_one.new.store c.in-Some-next.older
    c.in_err-passed.field-0.0 c.in-Some-next.is c.in_err-passed.ensures.passes)

pub loop-step-preserved : goal.loop-step-preserved
loop-step-preserved g c = subst (λ (b : Bool). HasPassed g.D.Disk.meaning c.args.store.now c.pass_one.new.store
    (g.S.States.state_of c.args.states.now) c.args.live.now c.args.rec b c.in_ok-passed.passed.stand
    (c.args.count - (c.loop-step.step + 1))) (sym c.either-gone.ensures)
    (passes_on g.D.Disk.meaning g.met.D.Disk.holds c.cells_are_changed.ensures.put
    c.cells_are_changed.ensures.freed (g.S.States.state_of c.args.states.now) c.args.live.now c.args.rec
    c.args.store.now c.args.count c.requires.counted c.loop-step.store c.loop-step.gone c.loop-step.at
    (c.args.count - c.loop-step.step) c.loop-step.invariant c.in-Some-next.older c.in-Some-next.is
    (sym c.is_committed.ensures ∙ c.if-not-is_committed.false) c.pass_one.new.store c.in_ok-passed.ensures.pool
    c.in_ok-passed.ensures.geometry c.in_ok-passed.passed c.in_ok-passed.ensures.passes (c.args.count - (c.loop-step.step + 1)) (omega (arith, c.loop-step-test.true)))

pub returns-clause-drops : goal.returns-clause-drops
returns-clause-drops g c = ends_all g.D.Disk.meaning g.met.D.Disk.holds
    c.cells_are_changed.ensures.put c.cells_are_changed.ensures.freed (g.S.States.state_of c.args.states.now)
    c.args.live.now c.args.rec c.args.store.now c.args.count c.requires.counted c.loop-step.store c.loop-step.gone
    c.loop-step.at (c.args.count - c.loop-step.step) c.loop-step.invariant (omega (arith, c.loop-step-test.false))
