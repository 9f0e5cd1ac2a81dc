use Rattle.std.proofs.Common.{[], refl, sym, ◌∙◌}
use Rattle.mg_base.specs.Image.{Image}
use Rattle.mg_chain.specs.Refusals.{RefusesVersion}
use Rattle.mg_pool.specs.Pool.{shown}
use Rattle.mg_space.specs.declared.fault.SpaceFault.{SpaceFault}
use Rattle.mg_version.specs.declared.cell.Version.{Version}
use Rattle.mg_collecting.specs.Passing.{FailsPass, Passes, drops_it, keeps_it, undropped, unread}
use Rattle.mg_collecting.proofs.PartLemmas.{handed_on}
use Rattle.mg_collecting.proofs.WholeLemmas.{reading_as}
use Rattle.mg_collecting.proofs.passing.pass_one.Goals as goal

pub returns-in_err-met-clause-passes : goal.returns-in_err-met-clause-passes
returns-in_err-met-clause-passes g c = handed_on c.from_residual.result c.in_err-met.field-0.0
    (Passes g.D.Disk.meaning c.args.store.now c.version.new.store c.args.live.now c.args.at c.args.older)
    (FailsPass g.D.Disk.meaning c.args.store.now c.version.new.store c.args.at c.args.older)
    c.from_residual.ensures.0 c.from_residual.ensures.1
    (unread (reading_as Version g.D.Disk.meaning c.args.store.now c.version.new.store
    (λ (image : Image). λ (f : SpaceFault). RefusesVersion g.D.Disk.meaning c.version.new.store []
    (shown c.args.store.now.dirty image) c.args.at.kept.rec.page.0 c.args.older f) c.in_err-met.field-0.0
    c.in_err-met.ensures.keeps c.in_err-met.ensures.own c.in_err-met.ensures.fault c.in_err-met.ensures.gives))

pub returns-then-needed-clause-passes : goal.returns-then-needed-clause-passes
returns-then-needed-clause-passes g c = keeps_it c.in_ok-met.met (sym c.needed.ensures ∙ c.if-needed.true)
    c.in_ok-met.ensures.keeps c.in_ok-met.ensures.fault c.in_ok-met.ensures.gives refl

pub returns-in_err-gone-clause-passes : goal.returns-in_err-gone-clause-passes
returns-in_err-gone-clause-passes g c = handed_on c.from_residual-in_err-gone.result c.in_err-gone.field-0.0
    (Passes g.D.Disk.meaning c.args.store.now c.drop_own.new.store c.args.live.now c.args.at c.args.older)
    (FailsPass g.D.Disk.meaning c.args.store.now c.drop_own.new.store c.args.at c.args.older)
    c.from_residual-in_err-gone.ensures.0 c.from_residual-in_err-gone.ensures.1
    (undropped c.version.new.store c.in_ok-met.ensures.keeps c.in_ok-met.ensures.fault c.in_err-gone.ensures.drops)

pub returns-clause-passes : goal.returns-clause-passes
returns-clause-passes g c = drops_it c.in_ok-met.met c.version.new.store c.in_ok-gone.gone
    (sym c.needed.ensures ∙ c.if-needed.false) c.in_ok-met.ensures.keeps c.in_ok-met.ensures.fault
    c.in_ok-met.ensures.gives c.in_ok-gone.ensures.drops refl
