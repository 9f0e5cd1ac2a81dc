use Rattle.std.proofs.Common.{refl, Some, None, sym, ◌∙◌}
use Rattle.mg_statements.specs.Plain.{plain_of}
use Rattle.mg_model.specs.declared.refusal.Refusal.TheVariants.{ReadOnly, TableExists}
use Rattle.mg_calls.specs.FrameLaws.{frames_reads_nothing}
use Rattle.mg_calls.specs.QuietLaws.{quiet_nothing, quiet_reading}
use Rattle.mg_exec.specs.NewTables.{may_not, not_read, taken}
use Rattle.mg_exec.proofs.FrameLemmas.{frames_none, frames_quiet}
use Rattle.mg_exec.proofs.TableStartLemmas.{named_catalog, phase_frames, phase_ready, refused_otherwise, seen_already, tested}
use Rattle.mg_exec.proofs.creating.test_table.Goals as goal

pub returns-then-is_barred-clause-tests : goal.returns-then-is_barred-clause-tests
returns-then-is_barred-clause-tests g c = λ o h stands.
    (stands, may_not (sym c.is_barred.ensures ∙ c.if-is_barred.true))

pub returns-then-is_barred-clause-quiet : goal.returns-then-is_barred-clause-quiet
returns-then-is_barred-clause-quiet g c =
    quiet_nothing g.R.Records.meaning g.met.R.Records.crashes c.args.r.now

pub returns-then-is_catalog-clause-tests : goal.returns-then-is_catalog-clause-tests
returns-then-is_catalog-clause-tests g c = λ o h stands. (
  stands,
  taken (sym c.is_barred.ensures ∙ c.if-is_barred.false)
      (named_catalog c.args.name.now _ c.is_catalog.result c.is_catalog.ensures.is c.if-is_catalog.true),
)

pub returns-then-is_catalog-clause-quiet : goal.returns-then-is_catalog-clause-quiet
returns-then-is_catalog-clause-quiet g c =
    quiet_nothing g.R.Records.meaning g.met.R.Records.crashes c.args.r.now

pub returns-in-Ok-clause-tests : goal.returns-in-Ok-clause-tests
returns-in-Ok-clause-tests g c = λ o h stands. (
  c.in-Ok.ensures.reads.stays o h stands,
  taken (sym c.is_barred.ensures ∙ c.if-is_barred.false)
      (seen_already g.R.Records.meaning c.args.r.now o h c.args.t.0 c.args.name.now c.in-Ok.field-0
      c.in-Ok.ensures.table stands),
)

pub returns-in-Ok-clause-quiet : goal.returns-in-Ok-clause-quiet
returns-in-Ok-clause-quiet g c =
    quiet_reading g.R.Records.meaning c.args.r.now c.table.new.self None None
    c.in-Ok.ensures.reads c.in-Ok.ensures.undamaged c.in-Ok.ensures.crash c.in-Ok.ensures.sessions

pub returns-then-is_missing-clause-tests : goal.returns-then-is_missing-clause-tests
returns-then-is_missing-clause-tests g c = λ o h stands.
    tested g.R.Records.meaning c.args.r.now c.table.new.self o h c.args.t c.args.read_only
    (plain_of c.args.s.now) c.args.name.now c.args.size c.in-Err.refusal c.plan.result
    (sym c.is_barred.ensures ∙ c.if-is_barred.false) (sym c.is_catalog.ensures.is ∙ c.if-is_catalog.false)
    (sym c.is_missing.ensures ∙ c.if-is_missing.true) c.in-Err.ensures.table c.in-Err.ensures.reads
    c.plan.ensures stands

pub returns-then-is_missing-clause-ready : goal.returns-then-is_missing-clause-ready
returns-then-is_missing-clause-ready g c =
    phase_ready g.R.Records.meaning c.args.r.now c.table.new.self c.args.t.0 (plain_of c.args.s.now)
    c.args.name.now c.args.size c.plan.result _ c.requires.creates c.is_catalog.ensures.named
    (sym c.is_catalog.ensures.is ∙ c.if-is_catalog.false) c.requires.pages c.in-Err.ensures.reads
    c.plan.ensures

pub returns-then-is_missing-clause-frames : goal.returns-then-is_missing-clause-frames
returns-then-is_missing-clause-frames g c =
    phase_frames g.R.Records.meaning c.args.r.now c.table.new.self c.args.t.0 (plain_of c.args.s.now)
    c.args.name.now c.args.size c.in-Err.refusal c.plan.result
    (sym c.is_missing.ensures ∙ c.if-is_missing.true) c.in-Err.ensures.reads c.in-Err.ensures.told
    c.plan.ensures

pub returns-then-is_missing-clause-quiet : goal.returns-then-is_missing-clause-quiet
returns-then-is_missing-clause-quiet g c =
    quiet_reading g.R.Records.meaning c.args.r.now c.table.new.self (Some c.in-Err.refusal) None
    c.in-Err.ensures.reads c.in-Err.ensures.undamaged c.in-Err.ensures.crash c.in-Err.ensures.sessions

pub returns-clause-tests : goal.returns-clause-tests
returns-clause-tests g c = λ o h stands. (
  c.in-Err.ensures.reads.stays o h stands,
  not_read c.in-Err.refusal (sym c.is_barred.ensures ∙ c.if-is_barred.false)
      (sym c.is_catalog.ensures.is ∙ c.if-is_catalog.false)
      (refused_otherwise g.R.Records.meaning c.args.r.now o h c.args.t.0 c.args.name.now c.in-Err.refusal
      (sym c.is_missing.ensures ∙ c.if-is_missing.false) c.in-Err.ensures.table stands),
)

pub returns-clause-quiet : goal.returns-clause-quiet
returns-clause-quiet g c =
    quiet_reading g.R.Records.meaning c.args.r.now c.table.new.self (Some c.in-Err.refusal) None
    c.in-Err.ensures.reads c.in-Err.ensures.undamaged c.in-Err.ensures.crash c.in-Err.ensures.sessions

-- ---- ready, and framed

pub returns-then-is_barred-clause-ready : goal.returns-then-is_barred-clause-ready
returns-then-is_barred-clause-ready g c = tt

pub returns-then-is_catalog-clause-ready : goal.returns-then-is_catalog-clause-ready
returns-then-is_catalog-clause-ready g c = tt

pub returns-in-Ok-clause-ready : goal.returns-in-Ok-clause-ready
returns-in-Ok-clause-ready g c = tt

pub returns-clause-ready : goal.returns-clause-ready
returns-clause-ready g c = tt

pub returns-then-is_barred-clause-frames : goal.returns-then-is_barred-clause-frames
returns-then-is_barred-clause-frames g c =
    frames_none g.R.Records.meaning c.args.r.now c.args.t.0 (Some ReadOnly) tt

pub returns-then-is_catalog-clause-frames : goal.returns-then-is_catalog-clause-frames
returns-then-is_catalog-clause-frames g c =
    frames_none g.R.Records.meaning c.args.r.now c.args.t.0 (Some TableExists) tt

pub returns-in-Ok-clause-frames : goal.returns-in-Ok-clause-frames
returns-in-Ok-clause-frames g c =
    frames_quiet g.R.Records.meaning c.args.r.now c.table.new.self c.args.t.0 (Some TableExists) tt
    (frames_reads_nothing g.R.Records.meaning c.args.r.now c.table.new.self c.args.t.0 None
    c.in-Ok.ensures.reads c.in-Ok.ensures.told)
    (λ k quiet. refl)

pub returns-clause-frames : goal.returns-clause-frames
returns-clause-frames g c =
    frames_reads_nothing g.R.Records.meaning c.args.r.now c.table.new.self c.args.t.0 (Some c.in-Err.refusal)
    c.in-Err.ensures.reads c.in-Err.ensures.told
