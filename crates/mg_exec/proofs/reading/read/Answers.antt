use Rattle.std.proofs.Common.{None, Some, Ok, length, refl, ap, sym, subst, ◌∙◌, arith}
use Rattle.mg_calls.specs.declared.walking.Visit.{Visit}
use Rattle.mg_calls.specs.declared.walking.Visit.TheVariants as visits
use Rattle.mg_calls.specs.Walks.{ComesToFitting, GoesOn, Progresses}
use Rattle.mg_calls.specs.FrameLaws.{frames_reads}
use Rattle.mg_value.specs.declared.value.Value.{Value}
use Rattle.mg_model.specs.declared.table.Table.{Table}
use Rattle.mg_model.specs.Changes.{Cells}
use Rattle.mg_records.specs.Reading.{MayStand}
use Rattle.mg_exec.specs.Reading.{KeepsRow, comes_on}
use Rattle.mg_calls.specs.QuietLaws.{quiet_then_at}
use Rattle.mg_rows.specs.declared.statement_fault.StatementFault.TheVariants.{Engine}
use Rattle.mg_exec.specs.Phases.{rolled_back_at}
use Rattle.mg_exec.proofs.ProgressLemmas.{end_nears, keeps_nears, no_row_nears, reading_behind, refused_at_end}
use Rattle.mg_exec.proofs.ReadLemmas.{a_row, no_row, at_end, is_refused, keeps_leaves, read_all, reads_on, refused_leaves, then_leaves}
use Rattle.mg_exec.proofs.reading.read.Goals as goal

pub returns-in-Ok-Record-Some-clause-reads : goal.returns-in-Ok-Record-Some-clause-reads
returns-in-Ok-Record-Some-clause-reads g c = λ o h stands read.
    a_row g.R.Records.meaning c.args.r.now c.visit_next.new.r o h c.args.t c.args.reading
    c.visit_next.new.walk c.in-Ok-Record-Some.keyed c.keep_row.result c.visit_next.ensures.table
    (c.visit_next.ensures.reads.stays o h stands) read
    (subst (λ (visit : Visit). GoesOn g.R.Records.meaning c.visit_next.new.r o h c.args.t.0
    c.visit_next.new.walk read.visited (Ok visit))
    (c.in-Ok-Record-Some.field-0-is ∙ ap visits.Record c.in-Ok-Record-Some.field-0-0-is)
    (c.in-Ok-Record-Some.ensures.comes o h read.visited stands read.come))
    (subst (λ (r : Value × Cells). KeepsRow (record {
      walk = c.visit_next.new.walk;
      bound = c.args.reading.bound;
      kept = c.args.reading.kept;
    }) r c.keep_row.result.phase c.keep_row.result.answer)
    c.in-Ok-Record-Some.keyed-is c.keep_row.ensures)

pub returns-in-Ok-Record-None-clause-reads : goal.returns-in-Ok-Record-None-clause-reads
returns-in-Ok-Record-None-clause-reads g c = λ o h stands read.
    comes_on _ refl refl c.visit_next.ensures.table (c.visit_next.ensures.reads.stays o h stands)
    (no_row g.R.Records.meaning c.args.r.now c.visit_next.new.r o h c.args.t.0 c.args.reading
    c.visit_next.new.walk read
    (subst (λ (visit : Visit). GoesOn g.R.Records.meaning c.visit_next.new.r o h c.args.t.0
    c.visit_next.new.walk read.visited (Ok visit))
    (c.in-Ok-Record-None.field-0-is ∙ ap visits.Record c.in-Ok-Record-None.field-0-0-is)
    (c.in-Ok-Record-None.ensures.comes o h read.visited stands read.come)))
    (omega arith)

pub returns-in-Ok-End-clause-reads : goal.returns-in-Ok-End-clause-reads
returns-in-Ok-End-clause-reads g c = λ o h stands read.
    let goes = subst (λ (visit : Visit). GoesOn g.R.Records.meaning c.visit_next.new.r o h c.args.t.0
    c.visit_next.new.walk read.visited (Ok visit)) c.in-Ok-End.field-0-is
    (c.in-Ok-End.ensures.comes o h read.visited stands read.come) in
    at_end g.R.Records.meaning c.args.r.now c.visit_next.new.r c.finish.new.r o h c.args.t
    c.args.reading c.visit_next.new.walk c.finish.result c.visit_next.ensures.table read goes
    (g.met.R.Records.seen c.args.r.now o h c.args.t.0 c.args.reading.walk.table.name
    c.args.reading.walk.table stands goes.0 c.requires.ready.way.table).1
    (c.finish.ensures.ends o h (c.visit_next.ensures.reads.stays o h stands))

pub returns-in-Err-clause-reads : goal.returns-in-Err-clause-reads
returns-in-Err-clause-reads g c = λ o h stands read.
    is_refused g.R.Records.meaning c.visit_next.new.r o h c.args.t c.args.reading.walk.table
    c.args.reading.bound (length c.args.reading.kept.items) c.in-Err.refusal c.stop.result
    (c.in-Err.ensures.comes o h read.visited stands read.come)
    (c.visit_next.ensures.reads.stays o h stands) c.stop.ensures

-- ---- nearer to the end

pub returns-in-Ok-Record-Some-clause-nears : goal.returns-in-Ok-Record-Some-clause-nears
returns-in-Ok-Record-Some-clause-nears g c = λ more.
    keeps_nears g.R.Records.meaning c.args.r.now c.visit_next.new.r c.args.t.0 c.args.reading
    c.visit_next.new.walk _ c.keep_row.result.phase c.keep_row.result.answer c.visit_next.ensures.table
    (subst (λ (visit : Visit). Progresses g.R.Records.meaning c.args.r.now c.visit_next.new.r c.args.t.0
    c.args.reading.walk c.visit_next.new.walk (Ok visit))
    (c.in-Ok-Record-Some.field-0-is ∙ ap visits.Record c.in-Ok-Record-Some.field-0-0-is)
    c.in-Ok-Record-Some.ensures.progress) c.keep_row.ensures more

pub returns-in-Ok-Record-None-clause-nears : goal.returns-in-Ok-Record-None-clause-nears
returns-in-Ok-Record-None-clause-nears g c = λ more.
    no_row_nears g.R.Records.meaning c.args.r.now c.visit_next.new.r c.args.t.0 c.args.reading
    c.visit_next.new.walk c.visit_next.ensures.table
    (subst (λ (visit : Visit). Progresses g.R.Records.meaning c.args.r.now c.visit_next.new.r c.args.t.0
    c.args.reading.walk c.visit_next.new.walk (Ok visit))
    (c.in-Ok-Record-None.field-0-is ∙ ap visits.Record c.in-Ok-Record-None.field-0-0-is)
    c.in-Ok-Record-None.ensures.progress)

pub returns-in-Ok-End-clause-nears : goal.returns-in-Ok-End-clause-nears
returns-in-Ok-End-clause-nears g c =
    reading_behind g.R.Records.meaning c.args.r.now c.finish.new.r c.args.t.0 c.args.reading c.finish.result
    c.finish.ensures.behind

pub returns-in-Err-clause-nears : goal.returns-in-Err-clause-nears
returns-in-Err-clause-nears g c =
    end_nears g.R.Records.meaning c.args.r.now c.visit_next.new.r c.args.t.0 _ c.stop.result
    (refused_at_end (Engine c.in-Err.refusal) c.stop.result c.stop.ensures)

-- ---- what is left

pub returns-in-Err-clause-leaves : goal.returns-in-Err-clause-leaves
returns-in-Err-clause-leaves g c =
    refused_leaves g.R.Records.meaning c.args.r.now c.visit_next.new.r c.args.t.0 c.in-Err.refusal
    c.stop.result
    (frames_reads g.R.Records.meaning c.args.r.now c.visit_next.new.r c.args.t.0 (Some c.in-Err.refusal)
    c.in-Err.ensures.reads c.in-Err.ensures.told)
    c.visit_next.ensures.calm c.stop.ensures

pub returns-in-Ok-Record-Some-clause-leaves : goal.returns-in-Ok-Record-Some-clause-leaves
returns-in-Ok-Record-Some-clause-leaves g c =
    keeps_leaves g.R.Records.meaning c.args.r.now c.visit_next.new.r c.args.t.0
    (record { walk = c.visit_next.new.walk; bound = c.args.reading.bound; kept = c.args.reading.kept })
    _ c.keep_row.result.phase c.keep_row.result.answer
    (frames_reads g.R.Records.meaning c.args.r.now c.visit_next.new.r c.args.t.0 None
    c.in-Ok-Record-Some.ensures.reads c.in-Ok-Record-Some.ensures.told)
    c.visit_next.ensures.calm
    (reads_on g.R.Records.meaning c.args.r.now c.visit_next.new.r c.args.t.0 c.args.reading
    c.visit_next.new.walk c.requires.ready c.visit_next.ensures.table c.visit_next.ensures.ready)
    (subst (λ (r : Value × Cells). MayStand c.visit_next.new.walk.table.shape r.1)
    (sym c.in-Ok-Record-Some.keyed-is)
    (subst (λ (table : Table). MayStand table.shape c.in-Ok-Record-Some.keyed.1) (sym c.visit_next.ensures.table)
    (subst (λ (visit : Visit). ComesToFitting c.args.reading.walk.table.shape (Ok visit))
    (c.in-Ok-Record-Some.field-0-is ∙ ap visits.Record c.in-Ok-Record-Some.field-0-0-is)
    c.in-Ok-Record-Some.ensures.fits).0))
    c.keep_row.ensures

pub returns-in-Ok-Record-None-clause-leaves : goal.returns-in-Ok-Record-None-clause-leaves
returns-in-Ok-Record-None-clause-leaves g c = record {
  frames = frames_reads g.R.Records.meaning c.args.r.now c.visit_next.new.r c.args.t.0 None
      c.in-Ok-Record-None.ensures.reads c.in-Ok-Record-None.ensures.told;
  ready = reads_on g.R.Records.meaning c.args.r.now c.visit_next.new.r c.args.t.0 c.args.reading
      c.visit_next.new.walk c.requires.ready c.visit_next.ensures.table c.visit_next.ensures.ready;
  calm = c.visit_next.ensures.calm;
}

pub returns-in-Ok-End-clause-leaves : goal.returns-in-Ok-End-clause-leaves
returns-in-Ok-End-clause-leaves g c =
    then_leaves g.R.Records.meaning c.args.r.now c.visit_next.new.r c.finish.new.r c.args.t.0
    c.finish.result
    (frames_reads g.R.Records.meaning c.args.r.now c.visit_next.new.r c.args.t.0 None
    c.in-Ok-End.ensures.reads c.in-Ok-End.ensures.told)
    c.visit_next.ensures.calm
    c.finish.ensures.leaves

-- ---- quiet

pub returns-in-Ok-Record-Some-clause-quiet : goal.returns-in-Ok-Record-Some-clause-quiet
returns-in-Ok-Record-Some-clause-quiet g c = λ o h stands read.
    c.visit_next.ensures.quiet o h read.visited stands read.come

pub returns-in-Ok-Record-None-clause-quiet : goal.returns-in-Ok-Record-None-clause-quiet
returns-in-Ok-Record-None-clause-quiet g c = λ o h stands read.
    c.visit_next.ensures.quiet o h read.visited stands read.come

pub returns-in-Err-clause-quiet : goal.returns-in-Err-clause-quiet
returns-in-Err-clause-quiet g c = λ o h stands read.
    c.visit_next.ensures.quiet o h read.visited stands read.come

pub returns-in-Ok-End-clause-quiet : goal.returns-in-Ok-End-clause-quiet
returns-in-Ok-End-clause-quiet g c = λ o h stands read.
    let goes = subst (λ (visit : Visit). GoesOn g.R.Records.meaning c.visit_next.new.r o h c.args.t.0
    c.visit_next.new.walk read.visited (Ok visit)) c.in-Ok-End.field-0-is
    (c.in-Ok-End.ensures.comes o h read.visited stands read.come) in
    quiet_then_at g.R.Records.meaning c.args.r.now c.visit_next.new.r c.finish.new.r
    (rolled_back_at c.args.t.0 c.finish.result.phase) o h c.visit_next.ensures.calm
    (c.visit_next.ensures.quiet o h read.visited stands read.come) c.finish.ensures.leaves.calm
    (c.finish.ensures.quiet o h (c.visit_next.ensures.reads.stays o h stands)
    (read_all g.R.Records.meaning c.args.r.now c.visit_next.new.r o h c.args.t c.args.reading
    c.visit_next.new.walk c.visit_next.ensures.table read goes
    (g.met.R.Records.seen c.args.r.now o h c.args.t.0 c.args.reading.walk.table.name
    c.args.reading.walk.table stands goes.0 c.requires.ready.way.table).1))
