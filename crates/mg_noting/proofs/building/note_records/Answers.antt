use Rattle.std.proofs.Common.{arith, ◌∙◌, List, [], Bool, inl, inr, refl, subst, sym}
use Rattle.std.specs.Bool.{OnTrue}
use Rattle.mg_base.specs.declared.numbers.RecId.{RecId}
use Rattle.mg_directory.specs.Candidates.{under}
use Rattle.mg_image.specs.Form.{Pages}
use Rattle.mg_pool.specs.Pool.{shown}
use Rattle.mg_space.specs.HandedLaws.{fault_up}
use Rattle.mg_space.specs.Taking.{IsGeometry}
use Rattle.mg_space.specs.ViewLaws.{keeps_on}
use Rattle.mg_heap.specs.HandedLaws.{reads_same}
use Rattle.mg_seek.specs.Refusals.{RefusesRecord}
use Rattle.mg_seek.specs.Speaking.{RefusesRecords}
use Rattle.mg_seek.specs.TableRecords.{IsAmong}
use Rattle.mg_seek.specs.Versions.{wants}
use Rattle.mg_seek.specs.declared.whose.Wanted.TheVariants.{Any}
use Rattle.mg_noting.specs.Building.{IsBuilt, IsUnderItsKey}
use Rattle.mg_noting.proofs.BuildingLemmas.{all_stay, as_before, built_more, handed_on, none_left, on_true, one_refuses, stay_on, under_on}
use Rattle.mg_noting.proofs.building.note_records.Goals as goal

pub note_record-requires-clause-pool : goal.note_record-requires-clause-pool
note_record-requires-clause-pool g c = c.loop-rec.invariant.keeps.pool

pub note_record-requires-clause-geometry : goal.note_record-requires-clause-geometry
note_record-requires-clause-geometry g c = subst IsGeometry (sym c.loop-rec.invariant.keeps.geometry) c.requires.geometry

pub note_record-requires-clause-columns : goal.note_record-requires-clause-columns
note_record-requires-clause-columns g c = c.requires.columns

pub returns-in_err-noted-clause-keeps : goal.returns-in_err-noted-clause-keeps
returns-in_err-noted-clause-keeps g c = keeps_on g.D.Disk.meaning g.met.D.Disk.counts_now c.args.store.now
    c.loop-rec.store c.note_record.new.store c.loop-rec.invariant.keeps c.in_err-noted.ensures.keeps

pub returns-in_err-noted-clause-fault : goal.returns-in_err-noted-clause-fault
returns-in_err-noted-clause-fault g c = fault_up Bool g.D.Disk.meaning c.args.store.now c.loop-rec.store
    c.note_record.new.store c.from_residual.result c.in_err-noted.field-0.0 c.loop-rec.invariant.keeps
    c.loop-rec.invariant.faults c.from_residual.ensures.0 c.from_residual.ensures.1 c.in_err-noted.ensures.fault

pub returns-in_err-noted-clause-own : goal.returns-in_err-noted-clause-own
returns-in_err-noted-clause-own g c = reads_same Bool c.from_residual.result c.in_err-noted.field-0.0
    c.from_residual.ensures.0 c.from_residual.ensures.1 c.in_err-noted.ensures.own

pub returns-in_err-noted-clause-table : goal.returns-in_err-noted-clause-table
returns-in_err-noted-clause-table g c = c.in_err-noted.ensures.table ∙ c.loop-rec.invariant.table

pub returns-in_err-noted-clause-more : goal.returns-in_err-noted-clause-more
returns-in_err-noted-clause-more g c = stay_on (under c.args.dir.now) (under c.loop-rec.dir)
    (under c.note_record.new.dir) c.loop-rec.invariant.more c.in_err-noted.ensures.more

pub returns-in_err-noted-clause-notes : goal.returns-in_err-noted-clause-notes
returns-in_err-noted-clause-notes g c = λ image tells. handed_on c.from_residual.result
    c.in_err-noted.field-0.0
    (λ all. OnTrue all (IsBuilt (g.S.States.state_of c.args.states.now) c.args.live.now
    (shown c.args.store.now.dirty image) c.args.table.now c.args.records.now (under c.note_record.new.dir)))
    (RefusesRecords g.D.Disk.meaning c.note_record.new.store [] (shown c.args.store.now.dirty image)
    (wants (g.S.States.state_of c.args.states.now) c.args.live.now Any) c.args.table.now c.args.records.now)
    c.from_residual.ensures.0 c.from_residual.ensures.1
    (one_refuses (g.S.States.state_of c.args.states.now) c.args.live.now (shown c.args.store.now.dirty image)
    c.args.table.now g.D.Disk.meaning c.note_record.new.store []
    (wants (g.S.States.state_of c.args.states.now) c.args.live.now Any) c.args.records.now c.in-Some.rec.now
    c.in_err-noted.field-0.0
    (c.loop-rec.invariant.among c.in-Some.rec.now (subst (λ (recs : List RecId). IsAmong recs c.in-Some.rec.now)
    (sym c.in-Some.ensures.cases.0) (inl refl)))
    (as_before g.D.Disk.meaning c.args.store.now c.loop-rec.store image
    (λ (view : Pages). RefusesRecord g.D.Disk.meaning c.note_record.new.store [] view
    (wants (g.S.States.state_of c.args.states.now) c.args.live.now Any) c.args.table.now c.in-Some.rec.now
    c.in_err-noted.field-0.0) c.loop-rec.invariant.keeps tells (c.in_err-noted.ensures.notes image)))

pub returns-then-not-noted-clause-keeps : goal.returns-then-not-noted-clause-keeps
returns-then-not-noted-clause-keeps g c = keeps_on g.D.Disk.meaning g.met.D.Disk.counts_now c.args.store.now
    c.loop-rec.store c.note_record.new.store c.loop-rec.invariant.keeps c.in_ok-noted.ensures.keeps

pub returns-then-not-noted-clause-fault : goal.returns-then-not-noted-clause-fault
returns-then-not-noted-clause-fault g c =
    (c.requires.online, c.in_ok-noted.ensures.fault.1, c.in_ok-noted.ensures.fault.2 ∙ c.loop-rec.invariant.faults)

pub returns-then-not-noted-clause-own : goal.returns-then-not-noted-clause-own
returns-then-not-noted-clause-own g c = tt

pub returns-then-not-noted-clause-table : goal.returns-then-not-noted-clause-table
returns-then-not-noted-clause-table g c = c.in_ok-noted.ensures.table ∙ c.loop-rec.invariant.table

pub returns-then-not-noted-clause-more : goal.returns-then-not-noted-clause-more
returns-then-not-noted-clause-more g c = stay_on (under c.args.dir.now) (under c.loop-rec.dir)
    (under c.note_record.new.dir) c.loop-rec.invariant.more c.in_ok-noted.ensures.more

pub returns-then-not-noted-clause-notes : goal.returns-then-not-noted-clause-notes
returns-then-not-noted-clause-notes g c = λ image tells. tt

pub loop-rec-preserved : goal.loop-rec-preserved
loop-rec-preserved g c = record {
  keeps = keeps_on g.D.Disk.meaning g.met.D.Disk.counts_now c.args.store.now c.loop-rec.store
      c.note_record.new.store c.loop-rec.invariant.keeps c.in_ok-noted.ensures.keeps;
  faults = c.in_ok-noted.ensures.fault.2 ∙ c.loop-rec.invariant.faults;
  table = c.in_ok-noted.ensures.table ∙ c.loop-rec.invariant.table;
  more = stay_on (under c.args.dir.now) (under c.loop-rec.dir) (under c.note_record.new.dir)
      c.loop-rec.invariant.more c.in_ok-noted.ensures.more;
  among = λ x is. c.loop-rec.invariant.among x (subst (λ (recs : List RecId). IsAmong recs x)
      (sym c.in-Some.ensures.cases.0) (inr is));
  further = λ image tells later has built. c.loop-rec.invariant.further image tells later
      (stay_on (under c.loop-rec.dir) (under c.note_record.new.dir) later c.in_ok-noted.ensures.more has)
      (subst (λ (recs : List RecId). IsBuilt (g.S.States.state_of c.args.states.now) c.args.live.now
      (shown c.args.store.now.dirty image) c.args.table.now recs later) (sym c.in-Some.ensures.cases.0)
      (built_more (g.S.States.state_of c.args.states.now) c.args.live.now (shown c.args.store.now.dirty image)
      c.args.table.now later c.in-Some.rec.now c.in-Some.later.now
      (under_on (g.S.States.state_of c.args.states.now) c.args.live.now (shown c.args.store.now.dirty image)
      c.args.table.now (under c.note_record.new.dir) later c.in-Some.rec.now has
      (on_true c.in_ok-noted.noted c.if-not-noted.false
      (as_before g.D.Disk.meaning c.args.store.now c.loop-rec.store image
      (λ (view : Pages). OnTrue c.in_ok-noted.noted (IsUnderItsKey (g.S.States.state_of c.args.states.now)
      c.args.live.now view c.args.table.now (under c.note_record.new.dir) c.in-Some.rec.now))
      c.loop-rec.invariant.keeps tells (c.in_ok-noted.ensures.notes image)))) built));
}

pub returns-clause-keeps : goal.returns-clause-keeps
returns-clause-keeps g c = c.loop-rec.invariant.keeps

pub returns-clause-fault : goal.returns-clause-fault
returns-clause-fault g c =
    (c.requires.online, c.loop-rec.invariant.keeps.offline ∙ c.requires.online, c.loop-rec.invariant.faults)

pub returns-clause-own : goal.returns-clause-own
returns-clause-own g c = tt

pub returns-clause-table : goal.returns-clause-table
returns-clause-table g c = c.loop-rec.invariant.table

pub returns-clause-more : goal.returns-clause-more
returns-clause-more g c = c.loop-rec.invariant.more

pub returns-clause-notes : goal.returns-clause-notes
returns-clause-notes g c = λ image tells. c.loop-rec.invariant.further image tells (under c.loop-rec.dir)
    (all_stay (under c.loop-rec.dir))
    (subst (λ (recs : List RecId). IsBuilt (g.S.States.state_of c.args.states.now) c.args.live.now
    (shown c.args.store.now.dirty image) c.args.table.now recs (under c.loop-rec.dir))
    (sym (none_left c.loop-rec.rest.now (omega (arith, c.in_default.ensures.cases)))) (λ rec none. absurd none))
