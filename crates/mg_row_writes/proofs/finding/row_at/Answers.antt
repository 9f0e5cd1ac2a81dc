use Rattle.std.proofs.Common.{◌∙◌, subst, sym, Option}
use Rattle.mg_image.specs.Form.{Pages, Row}
use Rattle.mg_pool.specs.Pool.{shown}
use Rattle.mg_heap.specs.HandedLaws.{reads_same}
use Rattle.mg_seek.specs.Versions.{wants}
use Rattle.mg_seek.specs.declared.whose.Wanted.TheVariants.{SeenBy}
use Rattle.mg_row_writes.specs.Finding.{IsRowAt, IsSeenIn, RefusesRowAt, RefusesSeen, row_unread, row_unspoken}
use Rattle.mg_row_writes.proofs.FindLemmas.{as_before, handed_on}
use Rattle.mg_space.specs.HandedLaws.{fault_same, fault_up}
use Rattle.mg_space.specs.ViewLaws.{keeps_on}
use Rattle.mg_space.specs.Taking.{IsGeometry}
use Rattle.mg_base.specs.declared.numbers.RecId.{RecId}
use Rattle.mg_row_writes.proofs.finding.row_at.Goals as goal

pub returns-in_err-rec-clause-gives : goal.returns-in_err-rec-clause-gives
returns-in_err-rec-clause-gives g c = λ image tells may. handed_on c.from_residual.result c.in_err-rec.field-0.0
    (IsRowAt (g.S.States.state_of c.args.states.now) c.args.live.now c.args.t (shown c.args.store.now.dirty image)
    c.args.table.now c.args.key.now)
    (RefusesRowAt g.D.Disk.meaning c.speaker_at.new.store
    (shown c.args.store.now.dirty image) (g.S.States.state_of c.args.states.now) c.args.live.now c.args.t
    c.args.table.now c.args.key.now)
    c.from_residual.ensures.0 c.from_residual.ensures.1 (row_unspoken (c.in_err-rec.ensures.gives image tells may))

pub returns-in_err-row-clause-gives : goal.returns-in_err-row-clause-gives
returns-in_err-row-clause-gives g c = λ image tells may. handed_on c.from_residual-in_err-row.result
    c.in_err-row.field-0.0
    (IsRowAt (g.S.States.state_of c.args.states.now) c.args.live.now c.args.t (shown c.args.store.now.dirty image)
    c.args.table.now c.args.key.now)
    (RefusesRowAt g.D.Disk.meaning c.row_seen.new.store
    (shown c.args.store.now.dirty image) (g.S.States.state_of c.args.states.now) c.args.live.now c.args.t
    c.args.table.now c.args.key.now)
    c.from_residual-in_err-row.ensures.0 c.from_residual-in_err-row.ensures.1
    (row_unread c.in_ok-rec.rec (c.in_ok-rec.ensures.gives image tells may)
    (as_before g.D.Disk.meaning c.args.store.now c.speaker_at.new.store image
    (λ (view : Pages). RefusesSeen g.D.Disk.meaning c.row_seen.new.store view
    (wants (g.S.States.state_of c.args.states.now) c.args.live.now (SeenBy c.args.t)) c.args.table.now
    c.in_ok-rec.rec c.in_err-row.field-0.0) c.in_ok-rec.ensures.keeps tells (c.in_err-row.ensures.gives image)))

pub returns-clause-gives : goal.returns-clause-gives
returns-clause-gives g c = λ image tells may. record {
  spoken = c.in_ok-rec.ensures.gives image tells may;
  seen = as_before g.D.Disk.meaning c.args.store.now c.speaker_at.new.store image
      (λ (view : Pages). IsSeenIn (g.S.States.state_of c.args.states.now) c.args.live.now c.args.t
      view c.args.table.now c.in_ok-rec.rec c.in_ok-row.row) c.in_ok-rec.ensures.keeps tells
      (c.in_ok-row.ensures.gives image);
}

pub returns-in_err-rec-clause-keeps : goal.returns-in_err-rec-clause-keeps
returns-in_err-rec-clause-keeps g c = c.in_err-rec.ensures.keeps

pub returns-in_err-rec-clause-fault : goal.returns-in_err-rec-clause-fault
returns-in_err-rec-clause-fault g c = fault_same (Option RecId) g.D.Disk.meaning c.args.store.now
    c.speaker_at.new.store c.from_residual.result c.in_err-rec.field-0.0
    c.from_residual.ensures.0 c.from_residual.ensures.1 c.in_err-rec.ensures.fault

pub returns-in_err-rec-clause-own : goal.returns-in_err-rec-clause-own
returns-in_err-rec-clause-own g c = reads_same (Option RecId) c.from_residual.result c.in_err-rec.field-0.0
    c.from_residual.ensures.0 c.from_residual.ensures.1
    c.in_err-rec.ensures.own

pub row_seen-requires-clause-pool : goal.row_seen-requires-clause-pool
row_seen-requires-clause-pool g c = c.in_ok-rec.ensures.keeps.pool

pub row_seen-requires-clause-geometry : goal.row_seen-requires-clause-geometry
row_seen-requires-clause-geometry g c = subst IsGeometry (sym c.in_ok-rec.ensures.keeps.geometry) c.requires.geometry

pub row_seen-requires-clause-online : goal.row_seen-requires-clause-online
row_seen-requires-clause-online g c = c.in_ok-rec.ensures.fault.1

pub row_seen-requires-clause-columns : goal.row_seen-requires-clause-columns
row_seen-requires-clause-columns g c = c.requires.columns

pub returns-in_err-row-clause-keeps : goal.returns-in_err-row-clause-keeps
returns-in_err-row-clause-keeps g c = keeps_on g.D.Disk.meaning g.met.D.Disk.counts_now c.args.store.now
    c.speaker_at.new.store
    c.row_seen.new.store c.in_ok-rec.ensures.keeps c.in_err-row.ensures.keeps

pub returns-in_err-row-clause-fault : goal.returns-in_err-row-clause-fault
returns-in_err-row-clause-fault g c = fault_up (Option Row) g.D.Disk.meaning c.args.store.now
    c.speaker_at.new.store c.row_seen.new.store
    c.from_residual-in_err-row.result c.in_err-row.field-0.0 c.in_ok-rec.ensures.keeps c.in_ok-rec.ensures.fault.2
    c.from_residual-in_err-row.ensures.0 c.from_residual-in_err-row.ensures.1 c.in_err-row.ensures.fault

pub returns-in_err-row-clause-own : goal.returns-in_err-row-clause-own
returns-in_err-row-clause-own g c = reads_same (Option Row) c.from_residual-in_err-row.result c.in_err-row.field-0.0
    c.from_residual-in_err-row.ensures.0 c.from_residual-in_err-row.ensures.1 c.in_err-row.ensures.own

pub returns-clause-keeps : goal.returns-clause-keeps
returns-clause-keeps g c = keeps_on g.D.Disk.meaning g.met.D.Disk.counts_now c.args.store.now c.speaker_at.new.store
    c.row_seen.new.store c.in_ok-rec.ensures.keeps c.in_ok-row.ensures.keeps

pub returns-clause-fault : goal.returns-clause-fault
returns-clause-fault g c = (
  c.in_ok-rec.ensures.fault.0,
  c.in_ok-row.ensures.fault.1,
  c.in_ok-row.ensures.fault.2 ∙ c.in_ok-rec.ensures.fault.2,
)

pub returns-clause-own : goal.returns-clause-own
returns-clause-own g c = tt
