use Rattle.std.proofs.Common.{Err, Ok, Option, inl, inr, sym, ◌∙◌}
use Rattle.mg_core_collecting.specs.Places.{RefusesLook, TellsSettled}
use Rattle.mg_core_collecting.proofs.LookLemmas.{handed_on, look_told, met_on}
use Rattle.mg_core_collecting.proofs.settled.is_settled.Goals as goal
use Rattle.mg_heap.specs.HandedLaws.{reads_same}
use Rattle.mg_pool.specs.Pool.{shown}
use Rattle.mg_space.specs.HandedLaws.{fault_same, fault_up}
use Rattle.mg_space.specs.ViewLaws.{keeps_on}
use Rattle.mg_version.specs.declared.cell.Link.{Link}
use Rattle.mg_version.specs.declared.cell.Version.{Version}

pub returns-in_err-link-clause-keeps : goal.returns-in_err-link-clause-keeps
returns-in_err-link-clause-keeps g c = c.in_err-link.ensures.keeps

pub returns-in_err-link-clause-fault : goal.returns-in_err-link-clause-fault
returns-in_err-link-clause-fault g c = fault_same (Option Link) g.D.Disk.meaning c.args.store.now c.newest.new.store
    c.from_residual.result c.in_err-link.field-0.0 c.from_residual.ensures.0 c.from_residual.ensures.1
    c.in_err-link.ensures.fault

pub returns-in_err-link-clause-own : goal.returns-in_err-link-clause-own
returns-in_err-link-clause-own g c = reads_same (Option Link) c.from_residual.result c.in_err-link.field-0.0
    c.from_residual.ensures.0 c.from_residual.ensures.1 c.in_err-link.ensures.own

pub returns-in_err-link-clause-tells : goal.returns-in_err-link-clause-tells
returns-in_err-link-clause-tells g c = λ image tells. handed_on c.from_residual.result c.in_err-link.field-0.0
    (TellsSettled (shown c.args.store.now.dirty image) (g.S.States.state_of c.args.states.now) c.args.rec)
    (RefusesLook g.D.Disk.meaning c.newest.new.store (shown c.args.store.now.dirty image) c.args.rec)
    c.from_residual.ensures.0 c.from_residual.ensures.1 (inl (c.in_err-link.ensures.gives image tells))

pub returns-in_default-clause-keeps : goal.returns-in_default-clause-keeps
returns-in_default-clause-keeps g c = c.in_ok-link.ensures.keeps

pub returns-in_default-clause-fault : goal.returns-in_default-clause-fault
returns-in_default-clause-fault g c = c.in_ok-link.ensures.fault

pub returns-in_default-clause-tells : goal.returns-in_default-clause-tells
returns-in_default-clause-tells g c = λ image tells. inl (sym (c.in_ok-link.ensures.gives image tells) ∙ c.in_default.is)

pub returns-in_err-met-clause-keeps : goal.returns-in_err-met-clause-keeps
returns-in_err-met-clause-keeps g c = keeps_on g.D.Disk.meaning g.met.D.Disk.counts_now c.args.store.now
    c.newest.new.store c.version.new.store c.in_ok-link.ensures.keeps c.in_err-met.ensures.keeps

pub returns-in_err-met-clause-fault : goal.returns-in_err-met-clause-fault
returns-in_err-met-clause-fault g c = fault_up Version g.D.Disk.meaning c.args.store.now c.newest.new.store
    c.version.new.store c.from_residual-in_err-met.result c.in_err-met.field-0.0 c.in_ok-link.ensures.keeps
    c.in_ok-link.ensures.fault.2 c.from_residual-in_err-met.ensures.0 c.from_residual-in_err-met.ensures.1
    c.in_err-met.ensures.fault

pub returns-in_err-met-clause-own : goal.returns-in_err-met-clause-own
returns-in_err-met-clause-own g c = reads_same Version c.from_residual-in_err-met.result c.in_err-met.field-0.0
    c.from_residual-in_err-met.ensures.0 c.from_residual-in_err-met.ensures.1 c.in_err-met.ensures.own

pub returns-in_err-met-clause-tells : goal.returns-in_err-met-clause-tells
returns-in_err-met-clause-tells g c = λ image tells. handed_on c.from_residual-in_err-met.result
    c.in_err-met.field-0.0
    (TellsSettled (shown c.args.store.now.dirty image) (g.S.States.state_of c.args.states.now) c.args.rec)
    (RefusesLook g.D.Disk.meaning c.version.new.store (shown c.args.store.now.dirty image) c.args.rec)
    c.from_residual-in_err-met.ensures.0 c.from_residual-in_err-met.ensures.1
    (inr (
      c.in-Some.link,
      sym (c.in_ok-link.ensures.gives image tells) ∙ c.in-Some.is,
      met_on g.D.Disk.meaning c.args.store.now c.newest.new.store c.version.new.store image c.args.rec.page.0
          c.in-Some.link (Err c.in_err-met.field-0.0) c.in_ok-link.ensures.keeps tells c.in_err-met.ensures.gives,
    ))

pub returns-clause-keeps : goal.returns-clause-keeps
returns-clause-keeps g c = keeps_on g.D.Disk.meaning g.met.D.Disk.counts_now c.args.store.now c.newest.new.store
    c.version.new.store c.in_ok-link.ensures.keeps c.in_ok-met.ensures.keeps

pub returns-clause-fault : goal.returns-clause-fault
returns-clause-fault g c = (
  c.in_ok-link.ensures.fault.0,
  c.in_ok-met.ensures.fault.1,
  c.in_ok-met.ensures.fault.2 ∙ c.in_ok-link.ensures.fault.2,
)

pub returns-clause-tells : goal.returns-clause-tells
returns-clause-tells g c = λ image tells. look_told (shown c.args.store.now.dirty image)
    (g.S.States.state_of c.args.states.now) c.args.rec c.in-Some.link c.in_ok-met.met c.has_settled.result
    (sym (c.in_ok-link.ensures.gives image tells) ∙ c.in-Some.is)
    (met_on g.D.Disk.meaning c.args.store.now c.newest.new.store c.version.new.store image c.args.rec.page.0
    c.in-Some.link (Ok c.in_ok-met.met) c.in_ok-link.ensures.keeps tells c.in_ok-met.ensures.gives)
    c.has_settled.ensures
