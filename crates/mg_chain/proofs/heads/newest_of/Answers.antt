use Rattle.mg_space.specs.WholeLaws.{whole_kept}
use Rattle.std.proofs.Common.{◌∙◌, Err, Ok}
use Rattle.mg_space.specs.HandedLaws.{fault_up}
use Rattle.mg_space.specs.View.{viewed}
use Rattle.mg_space.specs.ViewLaws.{keeps_on}
use Rattle.mg_version.specs.declared.cell.Version.{Version}
use Rattle.mg_chain.specs.WritingRefusals.{RefusesNewest}
use Rattle.mg_chain.proofs.HeadLemmas.{newest_head, newest_version}
use Rattle.mg_chain.proofs.Steps.{handed_on, met_on}
use Rattle.mg_chain.proofs.heads.newest_of.Goals as goal

pub returns-in_err-head-clause-gives : goal.returns-in_err-head-clause-gives
returns-in_err-head-clause-gives g c = λ image tells.
    handed_on c.from_residual.result c.in_err-head.field-0.0 _
    (RefusesNewest g.D.Disk.meaning c.head_of.new.store c.args.batch.now.pages
    (viewed c.args.store.now image c.args.batch.now) c.args.rec)
    c.from_residual.ensures.0 c.from_residual.ensures.1
    (newest_head g.D.Disk.meaning c.head_of.new.store c.args.batch.now.pages
    (viewed c.args.store.now image c.args.batch.now) c.args.rec
    c.in_err-head.field-0.0 (c.in_err-head.ensures.gives image tells))

pub returns-in_err-version-clause-gives : goal.returns-in_err-version-clause-gives
returns-in_err-version-clause-gives g c = λ image tells.
    handed_on c.from_residual-in_err-version.result c.in_err-version.field-0.0 _
    (RefusesNewest g.D.Disk.meaning c.version_at.new.store c.args.batch.now.pages
    (viewed c.args.store.now image c.args.batch.now) c.args.rec)
    c.from_residual-in_err-version.ensures.0 c.from_residual-in_err-version.ensures.1
    (newest_version g.D.Disk.meaning c.version_at.new.store c.args.batch.now.pages
    (viewed c.args.store.now image c.args.batch.now) c.args.rec
    c.in_ok-head.head.newest c.in_ok-head.head.owner.0 c.in_err-version.field-0.0
    (c.in_ok-head.ensures.gives image tells)
    (met_on g.D.Disk.meaning c.args.store.now c.head_of.new.store c.version_at.new.store image
    c.args.batch.now c.args.rec.page.0 c.in_ok-head.head.newest (Err c.in_err-version.field-0.0)
    c.in_ok-head.ensures.keeps tells c.in_err-version.ensures.gives))

pub returns-clause-keeps : goal.returns-clause-keeps
returns-clause-keeps g c = keeps_on g.D.Disk.meaning g.met.D.Disk.counts_now c.args.store.now
    c.head_of.new.store c.version_at.new.store c.in_ok-head.ensures.keeps c.in_ok-version.ensures.keeps

pub returns-clause-gives : goal.returns-clause-gives
returns-clause-gives g c = λ image tells. record {
  head = c.in_ok-head.ensures.gives image tells;
  meets = met_on g.D.Disk.meaning c.args.store.now c.head_of.new.store c.version_at.new.store image
      c.args.batch.now c.args.rec.page.0 c.in_ok-head.head.newest (Ok c.in_ok-version.version)
      c.in_ok-head.ensures.keeps tells c.in_ok-version.ensures.gives;
}

pub returns-in_err-version-clause-keeps : goal.returns-in_err-version-clause-keeps
returns-in_err-version-clause-keeps g c = keeps_on g.D.Disk.meaning g.met.D.Disk.counts_now
    c.args.store.now c.head_of.new.store c.version_at.new.store c.in_ok-head.ensures.keeps
    c.in_err-version.ensures.keeps

pub returns-in_err-version-clause-fault : goal.returns-in_err-version-clause-fault
returns-in_err-version-clause-fault g c = fault_up Version g.D.Disk.meaning c.args.store.now
    c.head_of.new.store c.version_at.new.store c.from_residual-in_err-version.result c.in_err-version.field-0.0
    c.in_ok-head.ensures.keeps c.in_ok-head.ensures.fault.2 c.from_residual-in_err-version.ensures.0
    c.from_residual-in_err-version.ensures.1 c.in_err-version.ensures.fault

pub returns-clause-fault : goal.returns-clause-fault
returns-clause-fault g c = (
  c.in_ok-head.ensures.fault.0,
  c.in_ok-version.ensures.fault.1,
  c.in_ok-version.ensures.fault.2 ∙ c.in_ok-head.ensures.fault.2,
)

pub version_at-requires-clause-whole : goal.version_at-requires-clause-whole
version_at-requires-clause-whole g c = whole_kept g.D.Disk.meaning c.args.store.now
    c.head_of.new.store c.args.batch.now.pages
    c.in_ok-head.ensures.keeps
    c.requires.whole
