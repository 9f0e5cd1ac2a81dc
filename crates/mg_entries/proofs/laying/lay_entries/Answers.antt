use Rattle.std.proofs.Common.{◌∙◌, refl, subst}
use Rattle.mg_entries.specs.Entries.{FailsAll, KeysFit, LaysAll}
use Rattle.mg_entries.specs.EntryLaws.{handed_on, laying_fails, laying_goes_on, laying_starts}
use Rattle.mg_entries.proofs.laying.lay_entries.Goals as goal

pub loop-index-init : goal.loop-index-init
loop-index-init g c = (
  laying_starts g.D.Disk.meaning c.args.indexes.now c.args.rec c.args.row.now c.args.store.now,
  c.requires.pool,
  refl,
  c.requires.short,
)

pub returns-in_err-lay_entry-clause-lays : goal.returns-in_err-lay_entry-clause-lays
returns-in_err-lay_entry-clause-lays g c = handed_on c.from_residual.result c.in_err-lay_entry.field-0.0
    (λ x. LaysAll g.D.Disk.meaning c.args.indexes.now c.args.rec c.args.row.now c.args.store.now c.lay_entry.new.store)
    (FailsAll g.D.Disk.meaning c.args.indexes.now c.args.rec c.args.row.now c.args.store.now c.lay_entry.new.store)
    c.from_residual.ensures.0 c.from_residual.ensures.1
    (laying_fails g.D.Disk.meaning c.args.indexes.now c.loop-index.rest.now c.in-Some.index.now c.in-Some.later.now
    c.args.rec c.args.row.now c.args.store.now c.loop-index.store c.lay_entry.new.store c.in_err-lay_entry.field-0.0
    c.loop-index.invariant.0 c.in-Some.ensures.cases.0 c.in_err-lay_entry.ensures.lays)

pub loop-index-preserved : goal.loop-index-preserved
loop-index-preserved g c = (
  laying_goes_on g.D.Disk.meaning c.args.indexes.now c.loop-index.rest.now c.in-Some.index.now c.in-Some.later.now
      c.args.rec c.args.row.now c.args.store.now c.loop-index.store c.lay_entry.new.store c.loop-index.invariant.0
      c.in-Some.ensures.cases.0 c.in_ok-lay_entry.ensures.lays,
  c.lay_entry.ensures.pool,
  c.lay_entry.ensures.geometry ∙ c.loop-index.invariant.2,
  (subst (KeysFit c.args.store.now.geometry.size c.args.row.now) c.in-Some.ensures.cases.0 c.loop-index.invariant.3).1,
)
