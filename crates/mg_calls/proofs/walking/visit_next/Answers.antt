use Rattle.std.proofs.Common.{Some, None, refl}
use Rattle.mg_calls.specs.QuietLaws.{calm_one, quiet_reading_at}
use Rattle.mg_calls.proofs.WalkLemmas.{come_on, come_to_end, found_nearer, found_place, still_on_way}
use Rattle.mg_calls.proofs.walking.visit_next.Goals as goal

pub returns-in-Ok-Some-clause-calm : goal.returns-in-Ok-Some-clause-calm
returns-in-Ok-Some-clause-calm g c = calm_one g.R.Records.meaning c.args.r.now c.scan_step.new.self None
    None c.in-Ok-Some.ensures.reads.keeps c.in-Ok-Some.ensures.sessions

pub returns-in-Ok-None-clause-calm : goal.returns-in-Ok-None-clause-calm
returns-in-Ok-None-clause-calm g c = calm_one g.R.Records.meaning c.args.r.now c.scan_step.new.self None
    None c.in-Ok-None.ensures.reads.keeps c.in-Ok-None.ensures.sessions

pub returns-in-Err-clause-calm : goal.returns-in-Err-clause-calm
returns-in-Err-clause-calm g c = calm_one g.R.Records.meaning c.args.r.now c.scan_step.new.self
    (Some c.in-Err.refusal) None c.in-Err.ensures.reads.keeps c.in-Err.ensures.sessions

pub returns-in-Ok-Some-clause-quiet : goal.returns-in-Ok-Some-clause-quiet
returns-in-Ok-Some-clause-quiet g c = λ o h visited stands come.
    quiet_reading_at g.R.Records.meaning c.args.r.now c.scan_step.new.self None (Some c.args.t.0) o h
    c.in-Ok-Some.ensures.reads stands (c.in-Ok-Some.ensures.undamaged come.rest (rw c.as_ref.ensures.value come.to_come) o h stands)
    c.in-Ok-Some.ensures.crash

pub returns-in-Ok-None-clause-quiet : goal.returns-in-Ok-None-clause-quiet
returns-in-Ok-None-clause-quiet g c = λ o h visited stands come.
    quiet_reading_at g.R.Records.meaning c.args.r.now c.scan_step.new.self None (Some c.args.t.0) o h
    c.in-Ok-None.ensures.reads stands (c.in-Ok-None.ensures.undamaged come.rest (rw c.as_ref.ensures.value come.to_come) o h stands)
    c.in-Ok-None.ensures.crash

pub returns-in-Err-clause-quiet : goal.returns-in-Err-clause-quiet
returns-in-Err-clause-quiet g c = λ o h visited stands come.
    quiet_reading_at g.R.Records.meaning c.args.r.now c.scan_step.new.self (Some c.in-Err.refusal)
    (Some c.args.t.0) o h c.in-Err.ensures.reads stands
    (c.in-Err.ensures.undamaged come.rest (rw c.as_ref.ensures.value come.to_come) o h stands) c.in-Err.ensures.crash

-- ---- on its way

pub returns-in-Ok-Some-clause-ready : goal.returns-in-Ok-Some-clause-ready
returns-in-Ok-Some-clause-ready g c = record {
  table = c.in-Ok-Some.ensures.reads.tables c.args.t.0 c.args.walk.now.table.name c.args.walk.now.table refl
      c.requires.ready.table;
  place = found_place g.R.Records.meaning c.args.r.now c.scan_step.new.self c.args.t.0 c.args.walk.now.table _
      c.in-Ok-Some.field-0 c.in-Ok-Some.found c.in-Ok-Some.field-0-is c.in-Ok-Some.ensures.nears;
}

pub returns-in-Ok-None-clause-ready : goal.returns-in-Ok-None-clause-ready
returns-in-Ok-None-clause-ready g c =
    still_on_way g.R.Records.meaning c.args.r.now c.scan_step.new.self c.args.t.0 c.args.walk.now None
    (Some c.args.t.0) c.in-Ok-None.ensures.reads c.requires.ready

pub returns-in-Err-clause-ready : goal.returns-in-Err-clause-ready
returns-in-Err-clause-ready g c =
    still_on_way g.R.Records.meaning c.args.r.now c.scan_step.new.self c.args.t.0 c.args.walk.now
    (Some c.in-Err.refusal) (Some c.args.t.0) c.in-Err.ensures.reads c.requires.ready

pub returns-in-Ok-Some-clause-progress : goal.returns-in-Ok-Some-clause-progress
returns-in-Ok-Some-clause-progress g c =
    found_nearer g.R.Records.meaning c.args.r.now c.scan_step.new.self c.args.t.0 c.args.walk.now.table _
    c.args.walk.now.place c.in-Ok-Some.field-0 c.in-Ok-Some.found c.as_ref.ensures.value c.in-Ok-Some.field-0-is
    c.in-Ok-Some.ensures.nears

pub returns-in-Ok-Some-clause-reads : goal.returns-in-Ok-Some-clause-reads
returns-in-Ok-Some-clause-reads g c = c.in-Ok-Some.ensures.reads

pub returns-in-Ok-None-clause-reads : goal.returns-in-Ok-None-clause-reads
returns-in-Ok-None-clause-reads g c = c.in-Ok-None.ensures.reads

pub returns-in-Err-clause-reads : goal.returns-in-Err-clause-reads
returns-in-Err-clause-reads g c = c.in-Err.ensures.reads

pub returns-in-Ok-Some-clause-told : goal.returns-in-Ok-Some-clause-told
returns-in-Ok-Some-clause-told g c = c.in-Ok-Some.ensures.told

pub returns-in-Ok-None-clause-told : goal.returns-in-Ok-None-clause-told
returns-in-Ok-None-clause-told g c = c.in-Ok-None.ensures.told

pub returns-in-Err-clause-told : goal.returns-in-Err-clause-told
returns-in-Err-clause-told g c = c.in-Err.ensures.told

pub returns-in-Ok-Some-clause-table : goal.returns-in-Ok-Some-clause-table
returns-in-Ok-Some-clause-table g c = refl

pub returns-in-Ok-None-clause-table : goal.returns-in-Ok-None-clause-table
returns-in-Ok-None-clause-table g c = refl

pub returns-in-Ok-None-clause-progress : goal.returns-in-Ok-None-clause-progress
returns-in-Ok-None-clause-progress g c = refl

pub returns-in-Err-clause-table : goal.returns-in-Err-clause-table
returns-in-Err-clause-table g c = refl

pub returns-in-Err-clause-progress : goal.returns-in-Err-clause-progress
returns-in-Err-clause-progress g c = refl

-- ---- what it comes to

pub returns-in-Ok-Some-clause-comes : goal.returns-in-Ok-Some-clause-comes
returns-in-Ok-Some-clause-comes g c = λ o h visited stands come.
    come_on g.R.Records.meaning c.scan_step.new.self o h c.args.t.0 _ c.in-Ok-Some.field-0 c.in-Ok-Some.found
    visited come.rest c.in-Ok-Some.field-0-is refl
    (c.in-Ok-Some.ensures.visits come.rest (rw c.as_ref.ensures.value come.to_come)) come.whole

pub returns-in-Ok-None-clause-comes : goal.returns-in-Ok-None-clause-comes
returns-in-Ok-None-clause-comes g c = λ o h visited stands come. (
  c.in-Ok-None.ensures.answers o h stands,
  come_to_end g.R.Records.meaning c.scan_step.new.self c.args.t.0 c.args.walk.now.table c.in-Ok-None.field-0
      visited come.rest _ c.in-Ok-None.field-0-is
      (c.in-Ok-None.ensures.visits come.rest (rw c.as_ref.ensures.value come.to_come)) come.whole,
)

pub returns-in-Err-clause-comes : goal.returns-in-Err-clause-comes
returns-in-Err-clause-comes g c = λ o h visited stands come. c.in-Err.ensures.answers o h stands
