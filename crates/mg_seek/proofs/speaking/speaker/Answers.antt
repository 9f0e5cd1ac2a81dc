use Rattle.mg_space.specs.WholeLaws.{whole_kept}
use Rattle.std.proofs.Common.{ℕ}
use Rattle.std.specs.Prelude.{MatchResult}
use Rattle.mg_image.specs.Form.{Pages}
use Rattle.mg_space.specs.HandedLaws.{fault_same}
use Rattle.mg_space.specs.View.{viewed, pool_answer}
use Rattle.mg_heap.specs.HandedLaws.{reads_same}
use Rattle.mg_seek.specs.Speaking.{IsSpeaker, RefusesRecords, RefusesTableRows, SpeaksAmong}
use Rattle.mg_seek.specs.Versions.{wants}
use Rattle.mg_seek.specs.declared.whose.Wanted.TheVariants.{Living}
use Rattle.mg_seek.specs.RecordLaws.{as_kept}
use Rattle.mg_seek.proofs.Steps.{handed_on}
use Rattle.mg_seek.proofs.TableLemmas.{of_table, walk_refuses}
use Rattle.mg_space.specs.ViewLaws.{fault_on, keeps_on}
use Rattle.std.specs.declared.vec.Vec.{Vec}
use Rattle.mg_base.specs.declared.numbers.RecId.{RecId}
use Rattle.std.specs.declared.alloc.Global.{Global}
use Rattle.mg_seek.proofs.speaking.speaker.Goals as goal

pub returns-in_err-records-clause-gives : goal.returns-in_err-records-clause-gives
returns-in_err-records-clause-gives g c = λ image tells.
    handed_on c.from_residual.result c.in_err-records.field-0.0
    (IsSpeaker (g.S.States.state_of c.args.states.now) c.args.live.now (viewed c.args.store.now image c.args.batch.now) c.args.table.now c.args.key.now)
    (RefusesTableRows g.D.Disk.meaning c.table_records.new.store c.args.batch.now.pages (viewed c.args.store.now image c.args.batch.now) (wants (g.S.States.state_of c.args.states.now) c.args.live.now Living) c.args.table.now)
    c.from_residual.ensures.0 c.from_residual.ensures.1
    (walk_refuses g.D.Disk.meaning c.table_records.new.store c.args.batch.now.pages (viewed c.args.store.now image c.args.batch.now) (wants (g.S.States.state_of c.args.states.now) c.args.live.now Living) c.args.table.now
    c.in_err-records.field-0.0 (c.in_err-records.ensures.gives image tells))

pub returns-clause-gives : goal.returns-clause-gives
returns-clause-gives g c = λ image tells.
    of_table g.D.Disk.meaning c.speaker_among.new.store c.args.batch.now.pages (viewed c.args.store.now image c.args.batch.now) (wants (g.S.States.state_of c.args.states.now) c.args.live.now Living) c.args.table.now
    c.in_ok-records.records.items
    (SpeaksAmong (g.S.States.state_of c.args.states.now) c.args.live.now (viewed c.args.store.now image c.args.batch.now) c.args.table.now c.args.key.now c.in_ok-records.records.items)
    (IsSpeaker (g.S.States.state_of c.args.states.now) c.args.live.now (viewed c.args.store.now image c.args.batch.now) c.args.table.now c.args.key.now) c.speaker_among.result
    (c.in_ok-records.ensures.gives image tells)
    (λ found speaks. record {
      records = c.in_ok-records.records.items;
      of_table = c.in_ok-records.ensures.gives image tells;
      speaks = speaks;
    })
    (as_kept g.D.Disk.meaning c.args.store.now c.table_records.new.store image c.args.batch.now
    (λ (view : Pages). MatchResult c.speaker_among.result
    (SpeaksAmong (g.S.States.state_of c.args.states.now) c.args.live.now view c.args.table.now c.args.key.now c.in_ok-records.records.items)
    (RefusesRecords g.D.Disk.meaning c.speaker_among.new.store c.args.batch.now.pages view (wants (g.S.States.state_of c.args.states.now) c.args.live.now Living) c.args.table.now
    c.in_ok-records.records.items)) c.in_ok-records.ensures.keeps tells
    (rw c.deref.ensures.value at (c.speaker_among.ensures.gives image)))

pub returns-in_err-records-clause-keeps : goal.returns-in_err-records-clause-keeps
returns-in_err-records-clause-keeps g c = c.in_err-records.ensures.keeps

pub returns-in_err-records-clause-fault : goal.returns-in_err-records-clause-fault
returns-in_err-records-clause-fault g c = fault_same (Vec RecId Global) g.D.Disk.meaning c.args.store.now c.table_records.new.store c.from_residual.result c.in_err-records.field-0.0
    c.from_residual.ensures.0 c.from_residual.ensures.1 c.in_err-records.ensures.fault

pub returns-in_err-records-clause-own : goal.returns-in_err-records-clause-own
returns-in_err-records-clause-own g c = reads_same (Vec RecId Global) c.from_residual.result c.in_err-records.field-0.0 c.from_residual.ensures.0 c.from_residual.ensures.1
    c.in_err-records.ensures.own

pub returns-clause-keeps : goal.returns-clause-keeps
returns-clause-keeps g c = keeps_on g.D.Disk.meaning g.met.D.Disk.counts_now c.args.store.now c.table_records.new.store
    c.speaker_among.new.store c.in_ok-records.ensures.keeps c.speaker_among.ensures.keeps

pub returns-clause-fault : goal.returns-clause-fault
returns-clause-fault g c = fault_on g.D.Disk.meaning c.args.store.now c.table_records.new.store c.speaker_among.new.store
    (pool_answer c.speaker_among.result) c.in_ok-records.ensures.keeps c.in_ok-records.ensures.fault.2 c.speaker_among.ensures.fault

pub returns-clause-own : goal.returns-clause-own
returns-clause-own g c = c.speaker_among.ensures.own

pub speaker_among-requires-clause-whole : goal.speaker_among-requires-clause-whole
speaker_among-requires-clause-whole g c = whole_kept g.D.Disk.meaning c.args.store.now
    c.table_records.new.store c.args.batch.now.pages c.in_ok-records.ensures.keeps c.requires.whole
