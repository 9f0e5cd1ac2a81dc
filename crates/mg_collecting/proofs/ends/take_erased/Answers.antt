use Rattle.std.proofs.Common.{[], Ok, Option, sym, ◌∙◌}
use Rattle.mg_base.specs.Image.{Image}
use Rattle.mg_chain.specs.Refusals.{RefusesChain}
use Rattle.mg_pool.specs.Pool.{shown}
use Rattle.mg_space.specs.ViewLaws.{keeps_on}
use Rattle.mg_space.specs.declared.fault.SpaceFault.{SpaceFault}
use Rattle.mg_version.specs.declared.cell.Link.{Link}
use Rattle.mg_version.specs.declared.cell.Version.{Version}
use Rattle.mg_collecting.specs.Remaining.{without_erased}
use Rattle.mg_collecting.specs.RemainingLaws.{erased_some}
use Rattle.mg_collecting.specs.Steps.{DoesPart, FailsPart, not_read, not_taken_out}
use Rattle.mg_collecting.proofs.CountLemmas.{met_on, primary_refuses}
use Rattle.mg_collecting.proofs.EndLemmas.{erased_taken, first_followed, first_leads, leads_nowhere, none_erased, not_alone, not_erased}
use Rattle.mg_collecting.proofs.PartLemmas.{fails_after, fails_at_once, handed_on, online_on}
use Rattle.mg_collecting.proofs.PassedLemmas.{version_unread}
use Rattle.mg_collecting.proofs.WholeLemmas.{reading_as}
use Rattle.mg_collecting.proofs.ends.take_erased.Goals as goal

pub returns-in_err-first-clause-takes : goal.returns-in_err-first-clause-takes
returns-in_err-first-clause-takes g c = handed_on c.from_residual.result c.in_err-first.field-0.0
    (DoesPart g.D.Disk.meaning c.args.store.now c.newest.new.store (g.S.States.state_of c.args.states.now)
    c.args.live.now c.args.rec (without_erased (g.S.States.state_of c.args.states.now) c.args.live.now))
    (FailsPart g.D.Disk.meaning c.args.store.now c.newest.new.store (g.S.States.state_of c.args.states.now)
    c.args.live.now c.args.rec (without_erased (g.S.States.state_of c.args.states.now) c.args.live.now))
    c.from_residual.ensures.0 c.from_residual.ensures.1
    (fails_at_once g.D.Disk.meaning (g.S.States.state_of c.args.states.now) c.args.live.now c.args.rec
    (without_erased (g.S.States.state_of c.args.states.now) c.args.live.now) g.met.D.Disk.holds c.args.store.now
    c.newest.new.store c.in_err-first.field-0.0
    (not_read (reading_as (Option Link) g.D.Disk.meaning c.args.store.now c.newest.new.store
    (λ (image : Image). λ (f : SpaceFault). RefusesChain g.D.Disk.meaning c.newest.new.store []
    (shown c.args.store.now.dirty image) c.args.rec f) c.in_err-first.field-0.0 c.in_err-first.ensures.keeps
    c.in_err-first.ensures.own c.in_err-first.ensures.fault
    (λ image tells. primary_refuses g.D.Disk.meaning c.newest.new.store [] (shown c.args.store.now.dirty image)
    c.args.rec c.in_err-first.field-0.0 (c.in_err-first.ensures.gives image tells))))
    (erased_some (g.S.States.state_of c.args.states.now) c.args.live.now))

pub returns-in_default-clause-takes : goal.returns-in_default-clause-takes
returns-in_default-clause-takes g c = none_erased g.D.Disk.meaning (g.S.States.state_of c.args.states.now)
    c.args.live.now c.args.rec c.args.store.now c.in_ok-first.field-0 c.in_ok-first.ensures.gives c.newest.new.store
    c.in_ok-first.ensures.keeps c.in_ok-first.ensures.fault c.in_default.is

pub returns-in_err-met-clause-takes : goal.returns-in_err-met-clause-takes
returns-in_err-met-clause-takes g c = handed_on c.from_residual-in_err-met.result c.in_err-met.field-0.0
    (DoesPart g.D.Disk.meaning c.args.store.now c.version.new.store (g.S.States.state_of c.args.states.now)
    c.args.live.now c.args.rec (without_erased (g.S.States.state_of c.args.states.now) c.args.live.now))
    (FailsPart g.D.Disk.meaning c.args.store.now c.version.new.store (g.S.States.state_of c.args.states.now)
    c.args.live.now c.args.rec (without_erased (g.S.States.state_of c.args.states.now) c.args.live.now))
    c.from_residual-in_err-met.ensures.0 c.from_residual-in_err-met.ensures.1
    (fails_after g.D.Disk.meaning (g.S.States.state_of c.args.states.now) c.args.live.now c.args.rec
    (without_erased (g.S.States.state_of c.args.states.now) c.args.live.now) g.met.D.Disk.holds c.args.store.now
    c.newest.new.store c.version.new.store c.in_err-met.field-0.0 c.in_ok-first.ensures.keeps
    c.in_ok-first.ensures.fault
    (not_read (reading_as Version g.D.Disk.meaning c.newest.new.store c.version.new.store
    (λ (image : Image). λ (f : SpaceFault). RefusesChain g.D.Disk.meaning c.version.new.store []
    (shown c.newest.new.store.dirty image) c.args.rec f) c.in_err-met.field-0.0 c.in_err-met.ensures.keeps
    c.in_err-met.ensures.own c.in_err-met.ensures.fault
    (λ image tells. version_unread g.D.Disk.meaning c.version.new.store [] (shown c.newest.new.store.dirty image)
    c.args.rec c.args.rec.page.0 c.in-Some.first
    (first_followed g.D.Disk.meaning c.args.rec c.args.store.now c.newest.new.store c.in_ok-first.field-0
    c.in-Some.first c.in_ok-first.ensures.gives c.in_ok-first.ensures.keeps c.in-Some.is image tells)
    c.in_err-met.field-0.0 (c.in_err-met.ensures.gives image tells))))
    (erased_some (g.S.States.state_of c.args.states.now) c.args.live.now))

pub returns-then-is_some-clause-takes : goal.returns-then-is_some-clause-takes
returns-then-is_some-clause-takes g c = not_alone g.D.Disk.meaning (g.S.States.state_of c.args.states.now)
    c.args.live.now c.args.rec c.args.store.now c.in_ok-first.field-0 c.in_ok-first.ensures.gives c.version.new.store
    (keeps_on g.D.Disk.meaning g.met.D.Disk.counts_now c.args.store.now c.newest.new.store c.version.new.store
    c.in_ok-first.ensures.keeps c.in_ok-met.ensures.keeps)
    (online_on g.D.Disk.meaning c.args.store.now c.newest.new.store c.version.new.store c.in_ok-first.ensures.fault
    c.in_ok-met.ensures.fault)
    c.in-Some.first c.in-Some.is c.in_ok-met.met
    (λ image tells. met_on g.D.Disk.meaning c.args.store.now c.newest.new.store c.version.new.store image
    c.args.rec.page.0 c.in-Some.first (Ok c.in_ok-met.met) c.in_ok-first.ensures.keeps tells
    c.in_ok-met.ensures.gives)
    (sym c.is_some.ensures ∙ c.if-is_some.true)

pub returns-then-not-is_erased_for_all-clause-takes : goal.returns-then-not-is_erased_for_all-clause-takes
returns-then-not-is_erased_for_all-clause-takes g c = not_erased g.D.Disk.meaning
    (g.S.States.state_of c.args.states.now) c.args.live.now c.args.rec c.args.store.now c.in_ok-first.field-0
    c.in_ok-first.ensures.gives c.version.new.store
    (keeps_on g.D.Disk.meaning g.met.D.Disk.counts_now c.args.store.now c.newest.new.store c.version.new.store
    c.in_ok-first.ensures.keeps c.in_ok-met.ensures.keeps)
    (online_on g.D.Disk.meaning c.args.store.now c.newest.new.store c.version.new.store c.in_ok-first.ensures.fault
    c.in_ok-met.ensures.fault)
    c.in-Some.first c.in-Some.is c.in_ok-met.met
    (λ image tells. met_on g.D.Disk.meaning c.args.store.now c.newest.new.store c.version.new.store image
    c.args.rec.page.0 c.in-Some.first (Ok c.in_ok-met.met) c.in_ok-first.ensures.keeps tells
    c.in_ok-met.ensures.gives)
    (sym c.is_erased_for_all.ensures ∙ c.if-not-is_erased_for_all.true)

pub returns-in_err-take_newest_out-clause-takes : goal.returns-in_err-take_newest_out-clause-takes
returns-in_err-take_newest_out-clause-takes g c = handed_on c.from_residual-in_err-take_newest_out.result
    c.in_err-take_newest_out.field-0.0
    (DoesPart g.D.Disk.meaning c.args.store.now c.take_newest_out.new.store (g.S.States.state_of c.args.states.now)
    c.args.live.now c.args.rec (without_erased (g.S.States.state_of c.args.states.now) c.args.live.now))
    (FailsPart g.D.Disk.meaning c.args.store.now c.take_newest_out.new.store (g.S.States.state_of c.args.states.now)
    c.args.live.now c.args.rec (without_erased (g.S.States.state_of c.args.states.now) c.args.live.now))
    c.from_residual-in_err-take_newest_out.ensures.0 c.from_residual-in_err-take_newest_out.ensures.1
    (fails_after g.D.Disk.meaning (g.S.States.state_of c.args.states.now) c.args.live.now c.args.rec
    (without_erased (g.S.States.state_of c.args.states.now) c.args.live.now) g.met.D.Disk.holds c.args.store.now
    c.version.new.store c.take_newest_out.new.store c.in_err-take_newest_out.field-0.0
    (keeps_on g.D.Disk.meaning g.met.D.Disk.counts_now c.args.store.now c.newest.new.store c.version.new.store
    c.in_ok-first.ensures.keeps c.in_ok-met.ensures.keeps)
    (online_on g.D.Disk.meaning c.args.store.now c.newest.new.store c.version.new.store c.in_ok-first.ensures.fault
    c.in_ok-met.ensures.fault) (not_taken_out c.in-Some.first (first_leads g.D.Disk.meaning c.args.rec
    c.args.store.now c.version.new.store c.in_ok-first.field-0 c.in-Some.first c.in_ok-first.ensures.gives
    (keeps_on g.D.Disk.meaning g.met.D.Disk.counts_now c.args.store.now c.newest.new.store c.version.new.store
    c.in_ok-first.ensures.keeps c.in_ok-met.ensures.keeps) c.in-Some.is) c.in_err-take_newest_out.ensures.takes)
    (erased_some (g.S.States.state_of c.args.states.now) c.args.live.now))

pub returns-clause-takes : goal.returns-clause-takes
returns-clause-takes g c = erased_taken g.D.Disk.meaning (g.S.States.state_of c.args.states.now)
    c.args.live.now c.args.rec c.args.store.now c.in_ok-first.field-0 c.in_ok-first.ensures.gives
    c.cells_are_changed.ensures.put c.cells_are_changed.ensures.freed c.version.new.store c.take_newest_out.new.store
    (keeps_on g.D.Disk.meaning g.met.D.Disk.counts_now c.args.store.now c.newest.new.store c.version.new.store
    c.in_ok-first.ensures.keeps c.in_ok-met.ensures.keeps)
    (online_on g.D.Disk.meaning c.args.store.now c.newest.new.store c.version.new.store c.in_ok-first.ensures.fault
    c.in_ok-met.ensures.fault) c.in_ok-take_newest_out.ensures.takes c.in-Some.first c.in-Some.is c.in_ok-met.met
    (λ image tells. met_on g.D.Disk.meaning c.args.store.now c.newest.new.store c.version.new.store image
    c.args.rec.page.0 c.in-Some.first (Ok c.in_ok-met.met) c.in_ok-first.ensures.keeps tells
    c.in_ok-met.ensures.gives)
    (leads_nowhere c.in_ok-met.met.back c.is_some.result c.is_some.ensures c.if-is_some.false)
    (sym c.is_erased_for_all.ensures ∙ c.if-not-is_erased_for_all.false)
