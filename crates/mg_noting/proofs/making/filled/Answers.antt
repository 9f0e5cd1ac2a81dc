use Rattle.std.proofs.Common.{arith, length, ◌≡◌, ◌∙◌, ◌<◌, Bool, List, [], ℕ, Vec, Global, Ok, Err, subst, sym}
use Rattle.std.specs.Bool.{OnTrue}
use Rattle.mg_base.specs.declared.numbers.RecId.{RecId}
use Rattle.mg_directory.specs.Candidates.{IsStarted, MarksFor, Noted, under}
use Rattle.mg_heap.specs.HandedLaws.{reads_same}
use Rattle.mg_heap.specs.Walk.{RefusesWalk}
use Rattle.mg_image.specs.Form.{Pages}
use Rattle.mg_pool.specs.Pool.{shown}
use Rattle.mg_pool.specs.declared.batch.BatchPage.{BatchPage}
use Rattle.mg_space.specs.HandedLaws.{fault_same, fault_up}
use Rattle.mg_space.specs.Taking.{IsGeometry}
use Rattle.mg_space.specs.ViewLaws.{keeps_on}
use Rattle.mg_seek.specs.Speaking.{RefusesRecords, RefusesTableRows}
use Rattle.mg_seek.specs.TableRecords.{AreTableRecords}
use Rattle.mg_seek.specs.Versions.{wants}
use Rattle.mg_seek.specs.declared.whose.Wanted.TheVariants.{Any}
use Rattle.mg_noting.specs.Building.{IsBuilt}
use Rattle.mg_noting.specs.Making.{Fills}
use Rattle.mg_noting.proofs.BuildingLemmas.{as_before, handed_on, through_empty}
use Rattle.mg_noting.proofs.MakingLemmas.{filled_by, on_err, records_refuse, some_of, walk_refuses}
use Rattle.mg_noting.proofs.making.filled.Goals as goal

pub note_records-requires-clause-pool : goal.note_records-requires-clause-pool
note_records-requires-clause-pool g c = c.in_ok-records.ensures.keeps.pool

pub note_records-requires-clause-geometry : goal.note_records-requires-clause-geometry
note_records-requires-clause-geometry g c = subst IsGeometry (sym c.in_ok-records.ensures.keeps.geometry) c.requires.geometry

pub note_records-requires-clause-online : goal.note_records-requires-clause-online
note_records-requires-clause-online g c = c.in_ok-records.ensures.fault.1

pub returns-in_err-records-clause-keeps : goal.returns-in_err-records-clause-keeps
returns-in_err-records-clause-keeps g c = c.in_err-records.ensures.keeps

pub returns-in_err-records-clause-fault : goal.returns-in_err-records-clause-fault
returns-in_err-records-clause-fault g c = fault_same (Vec RecId Global) g.D.Disk.meaning c.args.store.now
    c.table_records.new.store c.from_residual.result c.in_err-records.field-0.0 c.from_residual.ensures.0
    c.from_residual.ensures.1 c.in_err-records.ensures.fault

pub returns-in_err-records-clause-own : goal.returns-in_err-records-clause-own
returns-in_err-records-clause-own g c = reads_same (Vec RecId Global) c.from_residual.result
    c.in_err-records.field-0.0 c.from_residual.ensures.0 c.from_residual.ensures.1 c.in_err-records.ensures.own

pub returns-in_err-records-clause-fills : goal.returns-in_err-records-clause-fills
returns-in_err-records-clause-fills g c = λ image tells. handed_on c.from_residual.result
    c.in_err-records.field-0.0
    (Fills (g.S.States.state_of c.args.states.now) c.args.live.now (shown c.args.store.now.dirty image)
    c.args.table.now c.args.directories.now c.args.directories.now)
    (RefusesTableRows g.D.Disk.meaning c.table_records.new.store [] (shown c.args.store.now.dirty image)
    (wants (g.S.States.state_of c.args.states.now) c.args.live.now Any) c.args.table.now)
    c.from_residual.ensures.0 c.from_residual.ensures.1
    (walk_refuses g.D.Disk.meaning c.table_records.new.store (shown c.args.store.now.dirty image)
    (wants (g.S.States.state_of c.args.states.now) c.args.live.now Any) c.args.table.now c.in_err-records.field-0.0
    (through_empty {T = Vec RecId Global} c.args.store.now image c.new-batch.result (Err c.in_err-records.field-0.0)
    (λ (view : Pages). λ (records : Vec RecId Global). AreTableRecords view c.args.table.now.pointer.0 records.items)
    (λ (pages : List BatchPage). λ (view : Pages). RefusesWalk g.D.Disk.meaning c.table_records.new.store pages view
    c.args.table.now.pointer.0) c.new-batch.ensures.pages (c.in_err-records.ensures.gives image tells)))

pub returns-in_default-clause-keeps : goal.returns-in_default-clause-keeps
returns-in_default-clause-keeps g c = c.in_ok-records.ensures.keeps

pub returns-in_default-clause-fault : goal.returns-in_default-clause-fault
returns-in_default-clause-fault g c = c.in_ok-records.ensures.fault

pub returns-in_default-clause-fills : goal.returns-in_default-clause-fills
returns-in_default-clause-fills g c = λ image tells.
    let counted : c.len.result ≡ length c.in_ok-records.records.items = omega (arith, c.len.ensures) in record {
      records = c.in_ok-records.records.items;
      of_table = (through_empty {T = Vec RecId Global} c.args.store.now image c.new-batch.result (Ok c.in_ok-records.records)
          (λ (view : Pages). λ (records : Vec RecId Global). AreTableRecords view c.args.table.now.pointer.0 records.items)
          (λ (pages : List BatchPage). λ (view : Pages). RefusesWalk g.D.Disk.meaning c.table_records.new.store pages view
          c.args.table.now.pointer.0) c.new-batch.ensures.pages (c.in_ok-records.ensures.gives image tells));
      dirs = c.start_for-started.ensures.dirs;
      marks = subst (λ (n : ℕ). MarksFor (c.args.directories.now.most < n) c.args.directories.now
          c.start_for-started.new.directories c.args.table.now.pointer.0) counted c.start_for-started.ensures.marks;
    }

pub returns-in_err-all-clause-keeps : goal.returns-in_err-all-clause-keeps
returns-in_err-all-clause-keeps g c = keeps_on g.D.Disk.meaning g.met.D.Disk.counts_now c.args.store.now
    c.table_records.new.store c.note_records.new.store c.in_ok-records.ensures.keeps c.in_err-all.ensures.keeps

pub returns-in_err-all-clause-fault : goal.returns-in_err-all-clause-fault
returns-in_err-all-clause-fault g c = fault_up Bool g.D.Disk.meaning c.args.store.now c.table_records.new.store
    c.note_records.new.store c.from_residual-in_err-all.result c.in_err-all.field-0.0
    c.in_ok-records.ensures.keeps c.in_ok-records.ensures.fault.2 c.from_residual-in_err-all.ensures.0
    c.from_residual-in_err-all.ensures.1 c.in_err-all.ensures.fault

pub returns-in_err-all-clause-own : goal.returns-in_err-all-clause-own
returns-in_err-all-clause-own g c = reads_same Bool c.from_residual-in_err-all.result c.in_err-all.field-0.0
    c.from_residual-in_err-all.ensures.0 c.from_residual-in_err-all.ensures.1 c.in_err-all.ensures.own

pub returns-in_err-all-clause-same : goal.returns-in_err-all-clause-same
returns-in_err-all-clause-same g c = on_err (c.start_for-started.new.directories ≡ c.args.directories.now) c.from_residual-in_err-all.result
    (some_of (λ (dir : Noted). IsStarted c.args.table.now.pointer.0 c.len.result dir
    × (c.start_for-started.new.directories ≡ c.args.directories.now)) c.start_for-started.result c.in-Some.dir c.in-Some.is
    c.start_for-started.ensures.starts).1

pub returns-in_err-all-clause-fills : goal.returns-in_err-all-clause-fills
returns-in_err-all-clause-fills g c = λ image tells. handed_on c.from_residual-in_err-all.result
    c.in_err-all.field-0.0
    (Fills (g.S.States.state_of c.args.states.now) c.args.live.now (shown c.args.store.now.dirty image)
    c.args.table.now c.args.directories.now c.start_for-started.new.directories)
    (RefusesTableRows g.D.Disk.meaning c.note_records.new.store [] (shown c.args.store.now.dirty image)
    (wants (g.S.States.state_of c.args.states.now) c.args.live.now Any) c.args.table.now)
    c.from_residual-in_err-all.ensures.0 c.from_residual-in_err-all.ensures.1
    (records_refuse g.D.Disk.meaning c.note_records.new.store (shown c.args.store.now.dirty image)
    (wants (g.S.States.state_of c.args.states.now) c.args.live.now Any) c.args.table.now c.in_ok-records.records.items
    c.in_err-all.field-0.0 (through_empty {T = Vec RecId Global} c.args.store.now image c.new-batch.result (Ok c.in_ok-records.records)
    (λ (view : Pages). λ (records : Vec RecId Global). AreTableRecords view c.args.table.now.pointer.0 records.items)
    (λ (pages : List BatchPage). λ (view : Pages). RefusesWalk g.D.Disk.meaning c.table_records.new.store pages view
    c.args.table.now.pointer.0) c.new-batch.ensures.pages (c.in_ok-records.ensures.gives image tells))
    (as_before g.D.Disk.meaning c.args.store.now c.table_records.new.store image
    (λ (view : Pages). RefusesRecords g.D.Disk.meaning c.note_records.new.store [] view
    (wants (g.S.States.state_of c.args.states.now) c.args.live.now Any) c.args.table.now c.in_ok-records.records.items
    c.in_err-all.field-0.0) c.in_ok-records.ensures.keeps tells
    (rw c.deref.ensures.value at (c.in_err-all.ensures.notes image))))

pub returns-clause-keeps : goal.returns-clause-keeps
returns-clause-keeps g c = keeps_on g.D.Disk.meaning g.met.D.Disk.counts_now c.args.store.now
    c.table_records.new.store c.note_records.new.store c.in_ok-records.ensures.keeps c.in_ok-all.ensures.keeps

pub returns-clause-fault : goal.returns-clause-fault
returns-clause-fault g c = (
  c.in_ok-records.ensures.fault.0,
  c.in_ok-all.ensures.fault.1,
  c.in_ok-all.ensures.fault.2 ∙ c.in_ok-records.ensures.fault.2,
)

pub returns-clause-fills : goal.returns-clause-fills
returns-clause-fills g c = λ image tells.
    let started = (some_of (λ (dir : Noted). IsStarted c.args.table.now.pointer.0 c.len.result dir
    × (c.start_for-started.new.directories ≡ c.args.directories.now)) c.start_for-started.result c.in-Some.dir c.in-Some.is
    c.start_for-started.ensures.starts) in
    filled_by (g.S.States.state_of c.args.states.now) c.args.live.now (shown c.args.store.now.dirty image)
    c.args.table.now c.args.directories.now c.start_for-started.new.directories c.in_ok-records.records.items
    c.note_records.new.dir c.in_ok-all.all c.taken_if.result c.taken_if.ensures (through_empty {T = Vec RecId Global} c.args.store.now image c.new-batch.result (Ok c.in_ok-records.records)
    (λ (view : Pages). λ (records : Vec RecId Global). AreTableRecords view c.args.table.now.pointer.0 records.items)
    (λ (pages : List BatchPage). λ (view : Pages). RefusesWalk g.D.Disk.meaning c.table_records.new.store pages view
    c.args.table.now.pointer.0) c.new-batch.ensures.pages (c.in_ok-records.ensures.gives image tells))
    (c.in_ok-all.ensures.table ∙ started.0.table) started.1
    (as_before g.D.Disk.meaning c.args.store.now c.table_records.new.store image
    (λ (view : Pages). OnTrue c.in_ok-all.all (IsBuilt (g.S.States.state_of c.args.states.now) c.args.live.now
    view c.args.table.now c.in_ok-records.records.items (under c.note_records.new.dir)))
    c.in_ok-records.ensures.keeps tells (rw c.deref.ensures.value at (c.in_ok-all.ensures.notes image)))
