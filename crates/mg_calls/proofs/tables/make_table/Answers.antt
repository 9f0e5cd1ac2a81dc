use Rattle.std.proofs.Common.{Some, None, subst}
use Rattle.mg_model.specs.declared.opening.Opening.{Opening}
use Rattle.mg_model.specs.declared.refusal.Refusal.{Refusal}
use Rattle.mg_model.specs.History.{Entries}
use Rattle.mg_records.specs.Writing.{rows_made}
use Rattle.mg_calls.specs.Frames.{Frames}
use Rattle.mg_calls.specs.Tables.{RowsCome}
use Rattle.mg_calls.specs.FrameLaws.{frames_changes}
use Rattle.mg_calls.specs.QuietLaws.{quiet_then}
use Rattle.mg_calls.specs.Writes.{ended_by}
use Rattle.mg_calls.proofs.TableLemmas.{quiet_table, table_comes, table_undone}
use Rattle.mg_calls.proofs.tables.make_table.Goals as goal

pub returns-in-Ok : goal.returns-in-Ok
returns-in-Ok g c = record {
  makes = table_comes g.R.Records.meaning c.args.r.now c.create_table.new.self c.args.t c.args.name.now
      c.args.shape.now None c.in-Ok.ensures.adds;
  frames = frames_changes g.R.Records.meaning c.args.r.now c.create_table.new.self c.args.t.0 None
      c.in-Ok.ensures.leaves c.in-Ok.ensures.told;
  quiet = quiet_table g.R.Records.meaning c.args.r.now c.create_table.new.self c.args.t c.args.name.now
      c.args.shape.now None (Some c.args.t.0) (Some c.args.t.0) c.in-Ok.ensures.adds
      c.in-Ok.ensures.leaves c.in-Ok.ensures.undamaged c.in-Ok.ensures.crash c.in-Ok.ensures.sessions;
}

pub returns-in-Some : goal.returns-in-Some
returns-in-Some g c = record {
  makes = subst (λ (refusal : Refusal). (o : Opening) (h : Entries)
      → g.R.Records.meaning.stands c.args.r.now o h
      → RowsCome g.R.Records.meaning c.create_table.new.self o h c.args.t
      (rows_made c.args.name.now c.args.shape.now) (Some refusal)) c.in-Some.ensures
      (table_comes g.R.Records.meaning c.args.r.now c.create_table.new.self c.args.t c.args.name.now
      c.args.shape.now (Some c.in-Err.refusal) c.in-Err.ensures.adds);
  frames = subst (λ (refusal : Refusal). Frames g.R.Records.meaning c.args.r.now c.create_table.new.self
      c.args.t.0 (Some refusal)) c.in-Some.ensures
      (frames_changes g.R.Records.meaning c.args.r.now c.create_table.new.self c.args.t.0
      (Some c.in-Err.refusal) c.in-Err.ensures.leaves c.in-Err.ensures.told);
  quiet = quiet_table g.R.Records.meaning c.args.r.now c.create_table.new.self c.args.t c.args.name.now
      c.args.shape.now (Some c.in-Err.refusal) (Some c.args.t.0) (Some c.args.t.0)
      c.in-Err.ensures.adds c.in-Err.ensures.leaves c.in-Err.ensures.undamaged c.in-Err.ensures.crash
      c.in-Err.ensures.sessions;
}

pub returns-in-None : goal.returns-in-None
returns-in-None g c = record {
  makes = table_undone g.R.Records.meaning c.args.r.now c.create_table.new.self c.undo.new.r c.args.t
      c.args.name.now c.args.shape.now c.in-Err.refusal c.undo.result c.in-None.ensures c.in-Err.ensures.adds
      c.undo.ensures.undoes;
  frames = c.undo.ensures.frames c.args.r.now
      (frames_changes g.R.Records.meaning c.args.r.now c.create_table.new.self c.args.t.0
      (Some c.in-Err.refusal) c.in-Err.ensures.leaves c.in-Err.ensures.told);
  quiet = quiet_then g.R.Records.meaning g.met.R.Records.lasts c.args.r.now c.create_table.new.self
      c.undo.new.r (ended_by c.args.t.0 c.undo.result)
      (quiet_table g.R.Records.meaning c.args.r.now c.create_table.new.self c.args.t c.args.name.now
      c.args.shape.now (Some c.in-Err.refusal) (Some c.args.t.0) (Some c.args.t.0)
      c.in-Err.ensures.adds c.in-Err.ensures.leaves
      c.in-Err.ensures.undamaged c.in-Err.ensures.crash c.in-Err.ensures.sessions)
      c.undo.ensures.quiet;
}
