use Rattle.std.proofs.Common.{[], ℕ, Bool, ◌||◌, sym, subst, ◌∙◌, ap}
use Rattle.mg_base.specs.Image.{Image}
use Rattle.mg_chain.specs.Refusals.{RefusesChain}
use Rattle.mg_pool.specs.Pool.{shown}
use Rattle.mg_space.specs.declared.fault.SpaceFault.{SpaceFault}
use Rattle.mg_collecting.specs.Collecting.{Collects, FailsCollecting}
use Rattle.mg_collecting.proofs.PartLemmas.{handed_on}
use Rattle.mg_collecting.proofs.WholeLemmas.{all_done, counting_fails, dead_fails, drop_fails, erase_fails, reading_as, still_few}
use Rattle.mg_collecting.proofs.collecting.collect_record.Goals as goal

pub returns-in_err-count-clause-collects : goal.returns-in_err-count-clause-collects
returns-in_err-count-clause-collects g c = handed_on c.from_residual.result c.in_err-count.field-0.0
    (Collects g.D.Disk.meaning c.args.store.now c.count_versions.new.store (g.S.States.state_of c.args.states.now)
    c.args.live.now c.args.rec)
    (FailsCollecting g.D.Disk.meaning c.args.store.now c.count_versions.new.store
    (g.S.States.state_of c.args.states.now) c.args.live.now c.args.rec)
    c.from_residual.ensures.0 c.from_residual.ensures.1
    (counting_fails g.D.Disk.meaning g.met.D.Disk.holds (g.S.States.state_of c.args.states.now) c.args.live.now
    c.args.rec c.args.store.now c.count_versions.new.store c.in_err-count.field-0.0
    (reading_as ℕ g.D.Disk.meaning c.args.store.now c.count_versions.new.store
    (λ (image : Image). λ (f : SpaceFault). RefusesChain g.D.Disk.meaning c.count_versions.new.store []
    (shown c.args.store.now.dirty image) c.args.rec f) c.in_err-count.field-0.0 c.in_err-count.ensures.keeps
    c.in_err-count.ensures.own c.in_err-count.ensures.fault c.in_err-count.ensures.gives))

pub returns-in_err-dead-clause-collects : goal.returns-in_err-dead-clause-collects
returns-in_err-dead-clause-collects g c = handed_on c.from_residual-in_err-dead.result c.in_err-dead.field-0.0
    (Collects g.D.Disk.meaning c.args.store.now c.take_dead.new.store (g.S.States.state_of c.args.states.now)
    c.args.live.now c.args.rec)
    (FailsCollecting g.D.Disk.meaning c.args.store.now c.take_dead.new.store
    (g.S.States.state_of c.args.states.now) c.args.live.now c.args.rec)
    c.from_residual-in_err-dead.ensures.0 c.from_residual-in_err-dead.ensures.1
    (dead_fails g.D.Disk.meaning g.met.D.Disk.holds (g.S.States.state_of c.args.states.now) c.args.live.now
    c.args.rec c.args.store.now c.count_versions.new.store c.in_ok-count.count c.in_ok-count.ensures.keeps
    c.in_ok-count.ensures.fault c.in_ok-count.ensures.gives c.take_dead.new.store c.in_err-dead.field-0.0
    c.in_err-dead.ensures.takes)

pub drop_unneeded-requires-clause-counted : goal.drop_unneeded-requires-clause-counted
drop_unneeded-requires-clause-counted g c =
    still_few g.D.Disk.meaning g.met.D.Disk.holds (g.S.States.state_of c.args.states.now) c.args.live.now
    c.args.rec c.args.store.now c.count_versions.new.store c.in_ok-count.count c.in_ok-count.ensures.keeps
    c.in_ok-count.ensures.fault c.in_ok-count.ensures.gives c.take_dead.new.store c.in_ok-dead.dead
    c.in_ok-dead.ensures.takes

pub returns-in_err-dropped-clause-collects : goal.returns-in_err-dropped-clause-collects
returns-in_err-dropped-clause-collects g c = handed_on c.from_residual-in_err-dropped.result
    c.in_err-dropped.field-0.0
    (Collects g.D.Disk.meaning c.args.store.now c.drop_unneeded.new.store (g.S.States.state_of c.args.states.now)
    c.args.live.now c.args.rec)
    (FailsCollecting g.D.Disk.meaning c.args.store.now c.drop_unneeded.new.store
    (g.S.States.state_of c.args.states.now) c.args.live.now c.args.rec)
    c.from_residual-in_err-dropped.ensures.0 c.from_residual-in_err-dropped.ensures.1
    (drop_fails g.D.Disk.meaning g.met.D.Disk.holds (g.S.States.state_of c.args.states.now) c.args.live.now
    c.args.rec c.args.store.now c.count_versions.new.store c.in_ok-count.count c.in_ok-count.ensures.keeps
    c.in_ok-count.ensures.fault c.in_ok-count.ensures.gives c.take_dead.new.store c.in_ok-dead.dead
    c.in_ok-dead.ensures.takes c.drop_unneeded.new.store c.in_err-dropped.field-0.0 c.in_err-dropped.ensures.drops)

pub returns-in_err-erased-clause-collects : goal.returns-in_err-erased-clause-collects
returns-in_err-erased-clause-collects g c = handed_on c.from_residual-in_err-erased.result
    c.in_err-erased.field-0.0
    (Collects g.D.Disk.meaning c.args.store.now c.take_erased.new.store (g.S.States.state_of c.args.states.now)
    c.args.live.now c.args.rec)
    (FailsCollecting g.D.Disk.meaning c.args.store.now c.take_erased.new.store
    (g.S.States.state_of c.args.states.now) c.args.live.now c.args.rec)
    c.from_residual-in_err-erased.ensures.0 c.from_residual-in_err-erased.ensures.1
    (erase_fails g.D.Disk.meaning g.met.D.Disk.holds (g.S.States.state_of c.args.states.now) c.args.live.now
    c.args.rec c.args.store.now c.count_versions.new.store c.in_ok-count.count c.in_ok-count.ensures.keeps
    c.in_ok-count.ensures.fault c.in_ok-count.ensures.gives c.take_dead.new.store c.in_ok-dead.dead
    c.in_ok-dead.ensures.takes c.drop_unneeded.new.store c.in_ok-dropped.dropped c.in_ok-dropped.ensures.drops
    c.take_erased.new.store c.in_err-erased.field-0.0 c.in_err-erased.ensures.takes)

pub returns-clause-collects : goal.returns-clause-collects
returns-clause-collects g c = subst (λ (b : Bool). Collects g.D.Disk.meaning c.args.store.now c.take_erased.new.store
    (g.S.States.state_of c.args.states.now) c.args.live.now c.args.rec b)
    (sym (c.either-2.ensures ∙ ap (λ (b : Bool). b || c.in_ok-erased.erased) c.either.ensures))
    (all_done g.D.Disk.meaning g.met.D.Disk.holds (g.S.States.state_of c.args.states.now) c.args.live.now
    c.args.rec c.args.store.now c.count_versions.new.store c.in_ok-count.count c.in_ok-count.ensures.keeps
    c.in_ok-count.ensures.fault c.in_ok-count.ensures.gives c.take_dead.new.store c.in_ok-dead.dead
    c.in_ok-dead.ensures.takes c.drop_unneeded.new.store c.in_ok-dropped.dropped c.in_ok-dropped.ensures.drops
    c.take_erased.new.store c.in_ok-erased.erased c.in_ok-erased.ensures.takes)
