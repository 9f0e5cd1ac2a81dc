use Rattle.mg_space.specs.WholeLaws.{whole_kept}
use Rattle.std.proofs.Common.{Bool}
use Rattle.std.specs.Prelude.{◌↔◌, IsTrue, MatchResult}
use Rattle.mg_image.specs.Form.{Pages}
use Rattle.mg_space.specs.HandedLaws.{fault_same}
use Rattle.mg_space.specs.View.{pool_answer, viewed}
use Rattle.mg_space.specs.ViewLaws.{fault_on, keeps_on}
use Rattle.mg_heap.specs.HandedLaws.{reads_same}
use Rattle.mg_seek.specs.Candidates.{RefusesCandidate, SpeaksOf}
use Rattle.mg_seek.specs.RecordLaws.{as_kept}
use Rattle.mg_seek.specs.Refusals.{RefusesRecord}
use Rattle.mg_seek.specs.Speaking.{Speaks}
use Rattle.mg_seek.specs.Versions.{wants}
use Rattle.mg_seek.specs.declared.whose.Wanted.TheVariants.{Living}
use Rattle.mg_seek.proofs.CandidateLemmas.{as_record, not_told, other_silent}
use Rattle.mg_seek.proofs.Steps.{handed_on}
use Rattle.mg_seek.proofs.candidates.speaks_of.Goals as goal

pub returns-in_err-its-clause-keeps : goal.returns-in_err-its-clause-keeps
returns-in_err-its-clause-keeps g c = c.in_err-its.ensures.keeps

pub returns-in_err-its-clause-fault : goal.returns-in_err-its-clause-fault
returns-in_err-its-clause-fault g c = fault_same Bool g.D.Disk.meaning c.args.store.now
    c.is_record_of.new.store c.from_residual.result c.in_err-its.field-0.0 c.from_residual.ensures.0
    c.from_residual.ensures.1 c.in_err-its.ensures.fault

pub returns-in_err-its-clause-own : goal.returns-in_err-its-clause-own
returns-in_err-its-clause-own g c = reads_same Bool c.from_residual.result c.in_err-its.field-0.0
    c.from_residual.ensures.0 c.from_residual.ensures.1 c.in_err-its.ensures.own

pub returns-in_err-its-clause-gives : goal.returns-in_err-its-clause-gives
returns-in_err-its-clause-gives g c = λ image tells.
    handed_on c.from_residual.result c.in_err-its.field-0.0
    (λ does. IsTrue does ↔ SpeaksOf (g.S.States.state_of c.args.states.now) c.args.live.now (viewed c.args.store.now image c.args.batch.now) c.args.table.now c.args.key.now c.args.rec)
    (RefusesCandidate g.D.Disk.meaning c.is_record_of.new.store c.args.batch.now.pages (viewed c.args.store.now image c.args.batch.now) (wants (g.S.States.state_of c.args.states.now) c.args.live.now Living) c.args.table.now c.args.rec)
    c.from_residual.ensures.0 c.from_residual.ensures.1
    (not_told g.D.Disk.meaning c.is_record_of.new.store c.args.batch.now.pages (viewed c.args.store.now image c.args.batch.now) (wants (g.S.States.state_of c.args.states.now) c.args.live.now Living) c.args.table.now c.args.rec
    c.in_err-its.field-0.0 (c.in_err-its.ensures.tells image tells))

pub returns-then-not-its-clause-keeps : goal.returns-then-not-its-clause-keeps
returns-then-not-its-clause-keeps g c = c.in_ok-its.ensures.keeps

pub returns-then-not-its-clause-fault : goal.returns-then-not-its-clause-fault
returns-then-not-its-clause-fault g c = c.in_ok-its.ensures.fault

pub returns-then-not-its-clause-gives : goal.returns-then-not-its-clause-gives
returns-then-not-its-clause-gives g c = λ image tells.
    other_silent (g.S.States.state_of c.args.states.now) c.args.live.now (viewed c.args.store.now image c.args.batch.now) c.args.table.now c.args.key.now c.in_ok-its.its c.args.rec
    c.if-not-its.true (c.in_ok-its.ensures.tells image tells)

pub returns-clause-keeps : goal.returns-clause-keeps
returns-clause-keeps g c = keeps_on g.D.Disk.meaning g.met.D.Disk.counts_now c.args.store.now c.is_record_of.new.store
    c.speaks.new.store c.in_ok-its.ensures.keeps c.speaks.ensures.keeps

pub returns-clause-fault : goal.returns-clause-fault
returns-clause-fault g c = fault_on g.D.Disk.meaning c.args.store.now c.is_record_of.new.store c.speaks.new.store
    (pool_answer c.speaks.result) c.in_ok-its.ensures.keeps c.in_ok-its.ensures.fault.2 c.speaks.ensures.fault

pub returns-clause-own : goal.returns-clause-own
returns-clause-own g c = c.speaks.ensures.own

pub returns-clause-gives : goal.returns-clause-gives
returns-clause-gives g c = λ image tells.
    as_record (g.S.States.state_of c.args.states.now) c.args.live.now (viewed c.args.store.now image c.args.batch.now) c.args.table.now c.args.key.now
    g.D.Disk.meaning c.speaks.new.store c.args.batch.now.pages (wants (g.S.States.state_of c.args.states.now) c.args.live.now Living)
    c.args.rec c.in_ok-its.its c.speaks.result c.if-not-its.false (c.in_ok-its.ensures.tells image tells)
    (as_kept g.D.Disk.meaning c.args.store.now c.is_record_of.new.store image c.args.batch.now
    (λ (view : Pages). MatchResult c.speaks.result
    (λ does. IsTrue does ↔ Speaks (g.S.States.state_of c.args.states.now) c.args.live.now view c.args.table.now c.args.key.now c.args.rec)
    (RefusesRecord g.D.Disk.meaning c.speaks.new.store c.args.batch.now.pages view (wants (g.S.States.state_of c.args.states.now) c.args.live.now Living) c.args.table.now c.args.rec))
    c.in_ok-its.ensures.keeps tells (c.speaks.ensures.gives image))

pub speaks-requires-clause-whole : goal.speaks-requires-clause-whole
speaks-requires-clause-whole g c = whole_kept g.D.Disk.meaning c.args.store.now
    c.is_record_of.new.store c.args.batch.now.pages c.in_ok-its.ensures.keeps c.requires.whole
