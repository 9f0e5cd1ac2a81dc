use Rattle.std.proofs.Common.{Option, [], subst, sym}
use Rattle.std.specs.Prelude.{MatchResult}
use Rattle.mg_base.specs.declared.numbers.RecId.{RecId}
use Rattle.mg_heap.specs.HandedLaws.{reads_same}
use Rattle.mg_image.specs.Form.{Pages}
use Rattle.mg_pool.specs.Pool.{shown}
use Rattle.mg_row_writes.specs.Finding.{SpeaksThere}
use Rattle.mg_row_writes.proofs.FindLemmas.{as_before, handed_on}
use Rattle.mg_seek.specs.Speaking.{IsSpeaker, RefusesTableRows}
use Rattle.mg_seek.specs.Versions.{wants}
use Rattle.mg_seek.specs.declared.whose.Wanted.TheVariants.{Living}
use Rattle.mg_space.specs.HandedLaws.{fault_same}
use Rattle.mg_space.specs.Taking.{IsGeometry}
use Rattle.mg_space.specs.View.{pool_answer}
use Rattle.mg_space.specs.ViewLaws.{fault_on, keeps_on}
use Rattle.mg_row_writes.proofs.finding.speaker_near.Goals as goal

pub returns-in_err-found-clause-keeps : goal.returns-in_err-found-clause-keeps
returns-in_err-found-clause-keeps g c = c.in_err-found.ensures.keeps

pub returns-in_err-found-clause-fault : goal.returns-in_err-found-clause-fault
returns-in_err-found-clause-fault g c = fault_same (Option RecId) g.D.Disk.meaning c.args.store.now
    c.speaker_in_place.new.store c.from_residual.result c.in_err-found.field-0.0
    c.from_residual.ensures.0 c.from_residual.ensures.1 c.in_err-found.ensures.fault

pub returns-in_err-found-clause-own : goal.returns-in_err-found-clause-own
returns-in_err-found-clause-own g c = reads_same (Option RecId) c.from_residual.result c.in_err-found.field-0.0
    c.from_residual.ensures.0 c.from_residual.ensures.1 c.in_err-found.ensures.own

pub returns-in_err-found-clause-gives : goal.returns-in_err-found-clause-gives
returns-in_err-found-clause-gives g c = λ image tells. handed_on c.from_residual.result c.in_err-found.field-0.0
    (IsSpeaker (g.S.States.state_of c.args.states.now) c.args.live.now (shown c.args.store.now.dirty image)
    c.args.table.now c.args.key.now)
    (RefusesTableRows g.D.Disk.meaning c.speaker_in_place.new.store [] (shown c.args.store.now.dirty image)
    (wants (g.S.States.state_of c.args.states.now) c.args.live.now Living) c.args.table.now)
    c.from_residual.ensures.0 c.from_residual.ensures.1 (c.in_err-found.ensures.gives image tells)

pub returns-in-None-clause-keeps : goal.returns-in-None-clause-keeps
returns-in-None-clause-keeps g c = keeps_on g.D.Disk.meaning g.met.D.Disk.counts_now c.args.store.now
    c.speaker_in_place.new.store c.speaker_at.new.store c.in_ok-found.ensures.keeps c.speaker_at.ensures.keeps

pub returns-in-None-clause-fault : goal.returns-in-None-clause-fault
returns-in-None-clause-fault g c = fault_on g.D.Disk.meaning c.args.store.now c.speaker_in_place.new.store
    c.speaker_at.new.store (pool_answer c.speaker_at.result) c.in_ok-found.ensures.keeps c.in_ok-found.ensures.fault.2
    c.speaker_at.ensures.fault

pub returns-in-None-clause-own : goal.returns-in-None-clause-own
returns-in-None-clause-own g c = c.speaker_at.ensures.own

pub returns-in-None-clause-gives : goal.returns-in-None-clause-gives
returns-in-None-clause-gives g c = λ image tells.
    as_before g.D.Disk.meaning c.args.store.now c.speaker_in_place.new.store image
    (λ (view : Pages). MatchResult c.speaker_at.result
    (IsSpeaker (g.S.States.state_of c.args.states.now) c.args.live.now view c.args.table.now c.args.key.now)
    (RefusesTableRows g.D.Disk.meaning c.speaker_at.new.store [] view
    (wants (g.S.States.state_of c.args.states.now) c.args.live.now Living) c.args.table.now))
    c.in_ok-found.ensures.keeps tells (λ later. c.speaker_at.ensures.gives image later tt)

pub speaker_at-requires-clause-pool : goal.speaker_at-requires-clause-pool
speaker_at-requires-clause-pool g c = c.in_ok-found.ensures.keeps.pool

pub speaker_at-requires-clause-geometry : goal.speaker_at-requires-clause-geometry
speaker_at-requires-clause-geometry g c = subst IsGeometry (sym c.in_ok-found.ensures.keeps.geometry)
    c.requires.geometry

pub returns-in-Some-clause-keeps : goal.returns-in-Some-clause-keeps
returns-in-Some-clause-keeps g c = c.in_ok-found.ensures.keeps

pub returns-in-Some-clause-fault : goal.returns-in-Some-clause-fault
returns-in-Some-clause-fault g c = c.in_ok-found.ensures.fault

pub returns-in-Some-clause-gives : goal.returns-in-Some-clause-gives
returns-in-Some-clause-gives g c = λ image tells. subst (SpeaksThere (g.S.States.state_of c.args.states.now) c.args.live.now
    (shown c.args.store.now.dirty image) c.args.table.now c.args.key.now) c.in-Some.is
    (c.in_ok-found.ensures.gives image tells)
