use Rattle.mg_space.specs.WholeLaws.{whole_kept}
use Rattle.std.proofs.Common.{arith, ◌≡◌, ◌∙◌, ℕ, List, [], ◌++◌, inl, inr, refl, subst, sym}
use Rattle.mg_base.specs.declared.numbers.RecId.{RecId}
use Rattle.mg_image.specs.Form.{Pages, Row}
use Rattle.mg_space.specs.HandedLaws.{fault_up}
use Rattle.mg_space.specs.View.{viewed}
use Rattle.mg_space.specs.ViewLaws.{keeps_itself, keeps_on}
use Rattle.mg_heap.specs.HandedLaws.{reads_same}
use Rattle.mg_seek.specs.Refusals.{RefusesRecord}
use Rattle.mg_seek.specs.Speaking.{RefusesRecords}
use Rattle.mg_seek.specs.TableRecords.{IsAmong}
use Rattle.mg_seek.specs.TableRows.{AddsSeen, AreSeen}
use Rattle.mg_seek.specs.Versions.{wants}
use Rattle.mg_seek.specs.declared.whose.Wanted.TheVariants.{SeenBy}
use Rattle.mg_seek.specs.RecordLaws.{as_kept}
use Rattle.mg_seek.proofs.SeenLemmas.{seen_all, seen_on}
use Rattle.mg_seek.proofs.Steps.{handed_on}
use Rattle.mg_seek.proofs.TableLemmas.{none_left, record_refuses}
use Rattle.mg_space.specs.Taking.{IsGeometry}
use Rattle.mg_seek.proofs.tables.rows_among.Goals as goal

pub loop-rec-init : goal.loop-rec-init
loop-rec-init g c = record {
  keeps = keeps_itself g.D.Disk.meaning c.args.store.now c.requires.pool;
  faults = refl;
  among = λ rec is. is;
  further = λ image tells later are. subst (λ (rows : List Row). AreSeen (g.S.States.state_of c.args.states.now) c.args.live.now c.args.t (viewed c.args.store.now image c.args.batch.now)
      c.args.table.now c.args.records.now (rows ++ later)) (sym c.new-rows.ensures.items) are;
}

pub returns-in_err-add_row-clause-gives : goal.returns-in_err-add_row-clause-gives
returns-in_err-add_row-clause-gives g c = λ image tells.
    handed_on c.from_residual.result c.in_err-add_row.field-0.0 _
    (RefusesRecords g.D.Disk.meaning c.add_row.new.store c.args.batch.now.pages (viewed c.args.store.now image c.args.batch.now) (wants (g.S.States.state_of c.args.states.now) c.args.live.now (SeenBy c.args.t)) c.args.table.now c.args.records.now)
    c.from_residual.ensures.0 c.from_residual.ensures.1
    (record_refuses g.D.Disk.meaning c.add_row.new.store c.args.batch.now.pages (viewed c.args.store.now image c.args.batch.now) (wants (g.S.States.state_of c.args.states.now) c.args.live.now (SeenBy c.args.t)) c.args.table.now c.args.records.now
    c.in-Some.rec.now c.in_err-add_row.field-0.0
    (c.loop-rec.invariant.among c.in-Some.rec.now (subst (λ (recs : List RecId). IsAmong recs c.in-Some.rec.now)
    (sym c.in-Some.ensures.cases.0) (inl refl)))
    (as_kept g.D.Disk.meaning c.args.store.now c.loop-rec.store image c.args.batch.now
    (λ (view : Pages). RefusesRecord g.D.Disk.meaning c.add_row.new.store c.args.batch.now.pages view (wants (g.S.States.state_of c.args.states.now) c.args.live.now (SeenBy c.args.t))
    c.args.table.now c.in-Some.rec.now c.in_err-add_row.field-0.0) c.loop-rec.invariant.keeps tells
    (c.in_err-add_row.ensures.gives image)))

pub loop-rec-preserved : goal.loop-rec-preserved
loop-rec-preserved g c = record {
  keeps = keeps_on g.D.Disk.meaning g.met.D.Disk.counts_now c.args.store.now c.loop-rec.store
      c.add_row.new.store c.loop-rec.invariant.keeps c.in_ok-add_row.ensures.keeps;
  faults = c.in_ok-add_row.ensures.fault.2 ∙ c.loop-rec.invariant.faults;
  among = λ x is. c.loop-rec.invariant.among x (subst (λ (recs : List RecId). IsAmong recs x)
      (sym c.in-Some.ensures.cases.0) (inr is));
  further = λ image tells later are. seen_on (g.S.States.state_of c.args.states.now) c.args.live.now c.args.t (viewed c.args.store.now image c.args.batch.now) c.args.table.now
      c.in-Some.rec.now c.in-Some.later.now c.args.records.now c.loop-rec.rows.items
      c.add_row.new.rows.items later
      (as_kept g.D.Disk.meaning c.args.store.now c.loop-rec.store image c.args.batch.now
      (λ (view : Pages). AddsSeen (g.S.States.state_of c.args.states.now) c.args.live.now c.args.t view c.args.table.now
      c.in-Some.rec.now c.loop-rec.rows.items c.add_row.new.rows.items) c.loop-rec.invariant.keeps tells
      (c.in_ok-add_row.ensures.gives image)) are
      (λ rows whole. c.loop-rec.invariant.further image tells rows
      (subst (λ (recs : List RecId). AreSeen (g.S.States.state_of c.args.states.now) c.args.live.now c.args.t (viewed c.args.store.now image c.args.batch.now) c.args.table.now recs rows)
      (sym c.in-Some.ensures.cases.0) whole));
}

pub returns-clause-gives : goal.returns-clause-gives
returns-clause-gives g c = λ image tells. seen_all (g.S.States.state_of c.args.states.now) c.args.live.now c.args.t (viewed c.args.store.now image c.args.batch.now) c.args.table.now
    c.args.records.now c.loop-rec.rows.items (c.loop-rec.invariant.further image tells []
    (subst (λ (recs : List RecId). AreSeen (g.S.States.state_of c.args.states.now) c.args.live.now c.args.t (viewed c.args.store.now image c.args.batch.now) c.args.table.now recs [])
    (sym (none_left c.loop-rec.rest.now (omega (arith, c.in_default.ensures.cases)))) refl))

pub add_row-requires-clause-pool : goal.add_row-requires-clause-pool
add_row-requires-clause-pool g c = c.loop-rec.invariant.keeps.pool

pub add_row-requires-clause-geometry : goal.add_row-requires-clause-geometry
add_row-requires-clause-geometry g c = subst IsGeometry (sym c.loop-rec.invariant.keeps.geometry) c.requires.geometry

pub add_row-requires-clause-whole : goal.add_row-requires-clause-whole
add_row-requires-clause-whole g c =
    whole_kept g.D.Disk.meaning c.args.store.now c.loop-rec.store c.args.batch.now.pages c.loop-rec.invariant.keeps c.requires.whole

pub add_row-requires-clause-columns : goal.add_row-requires-clause-columns
add_row-requires-clause-columns g c = c.requires.columns

pub returns-in_err-add_row-clause-keeps : goal.returns-in_err-add_row-clause-keeps
returns-in_err-add_row-clause-keeps g c = keeps_on g.D.Disk.meaning g.met.D.Disk.counts_now c.args.store.now c.loop-rec.store
    c.add_row.new.store c.loop-rec.invariant.keeps c.in_err-add_row.ensures.keeps

pub returns-in_err-add_row-clause-fault : goal.returns-in_err-add_row-clause-fault
returns-in_err-add_row-clause-fault g c = fault_up (Unit {0}) g.D.Disk.meaning c.args.store.now c.loop-rec.store c.add_row.new.store
    c.from_residual.result c.in_err-add_row.field-0.0 c.loop-rec.invariant.keeps c.loop-rec.invariant.faults
    c.from_residual.ensures.0 c.from_residual.ensures.1 c.in_err-add_row.ensures.fault

pub returns-in_err-add_row-clause-own : goal.returns-in_err-add_row-clause-own
returns-in_err-add_row-clause-own g c = reads_same (Unit {0}) c.from_residual.result c.in_err-add_row.field-0.0 c.from_residual.ensures.0 c.from_residual.ensures.1
    c.in_err-add_row.ensures.own

pub returns-clause-keeps : goal.returns-clause-keeps
returns-clause-keeps g c = c.loop-rec.invariant.keeps

pub returns-clause-fault : goal.returns-clause-fault
returns-clause-fault g c = (c.requires.online, c.loop-rec.invariant.keeps.offline ∙ c.requires.online, c.loop-rec.invariant.faults)

pub returns-clause-own : goal.returns-clause-own
returns-clause-own g c = tt
