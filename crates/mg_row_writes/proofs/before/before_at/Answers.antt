use Rattle.std.proofs.Common.{List, [], Option, None, Some, refl, subst, sym}
use Rattle.std.specs.Prelude.{MatchResult}
use Rattle.std.proofs.lemmas.Bool.{eq-eqb, ne_eqb}
use Rattle.mg_base.specs.declared.numbers.RecId.{RecId}
use Rattle.mg_image.specs.Form.{Pages}
use Rattle.mg_pool.specs.Pool.{shown}
use Rattle.mg_pool.specs.declared.batch.BatchPage.{BatchPage}
use Rattle.mg_heap.specs.HandedLaws.{reads_same}
use Rattle.mg_chain.specs.Refusals.{RefusesChain}
use Rattle.mg_seek.specs.Versions.{IsFirst, wants}
use Rattle.mg_seek.specs.declared.whose.Wanted.TheVariants.{Any}
use Rattle.mg_undo.specs.declared.changes.Was.TheVariants as wases
use Rattle.mg_row_writes.specs.Befores.{IsBefore}
use Rattle.mg_row_writes.specs.declared.before.Way.TheVariants as ways
use Rattle.mg_row_writes.specs.Finding.{RefusesSeen}
use Rattle.mg_row_writes.proofs.FindLemmas.{before_by, chain_refuses, empty_seen, handed_on, other_by, own_comes}
use Rattle.mg_space.specs.HandedLaws.{fault_same}
use Rattle.mg_space.specs.ViewLaws.{keeps_itself}
use Rattle.mg_seek.specs.declared.walk.Placed.{Placed}
use Rattle.mg_row_writes.proofs.before.before_at.Goals as goal

pub returns-in_err-newest-clause-gives : goal.returns-in_err-newest-clause-gives
returns-in_err-newest-clause-gives g c = λ image tells. handed_on c.from_residual.result c.in_err-newest.field-0.0
    (IsBefore (g.S.States.state_of c.args.states.now) c.args.live.now c.args.t.0 (shown c.args.store.now.dirty
    image) c.args.table.now c.args.rec)
    (RefusesSeen g.D.Disk.meaning c.first_version.new.store (shown c.args.store.now.dirty image) (wants
    (g.S.States.state_of c.args.states.now) c.args.live.now Any) c.args.table.now c.args.rec)
    c.from_residual.ensures.0 c.from_residual.ensures.1
    (subst (λ (r : Option RecId). RefusesSeen g.D.Disk.meaning c.first_version.new.store (shown
    c.args.store.now.dirty image) (wants (g.S.States.state_of c.args.states.now) c.args.live.now Any)
    c.args.table.now r
    c.in_err-newest.field-0.0) (sym c.in-Some.is)
    (chain_refuses g.D.Disk.meaning c.first_version.new.store [] (shown c.args.store.now.dirty image) (wants
    (g.S.States.state_of c.args.states.now) c.args.live.now Any) c.args.table.now c.in-Some.rec
    c.in_err-newest.field-0.0
    (empty_seen c.args.store.now image c.new-batch.result (λ (pages : List BatchPage). λ (view : Pages).
    RefusesChain g.D.Disk.meaning c.first_version.new.store pages view c.in-Some.rec c.in_err-newest.field-0.0)
    c.new-batch.ensures.pages (c.in_err-newest.ensures.gives image tells))))

pub returns-in_default-2-clause-gives : goal.returns-in_default-2-clause-gives
returns-in_default-2-clause-gives g c = λ image tells. subst (λ (r : Option RecId).
    IsBefore (g.S.States.state_of c.args.states.now) c.args.live.now c.args.t.0 (shown c.args.store.now.dirty
    image) c.args.table.now r
    (record { way = ways.Push c.in-Some.rec; was = wases.Untouched })) (sym c.in-Some.is)
    (before_by (g.S.States.state_of c.args.states.now) c.args.live.now c.args.t.0 (shown c.args.store.now.dirty
    image) c.args.table.now c.in-Some.rec c.in_ok-newest.field-0 None
    (record { way = ways.Push c.in-Some.rec; was = wases.Untouched })
    (empty_seen c.args.store.now image c.new-batch.result (λ (pages : List BatchPage). λ (view : Pages).
    IsFirst view (wants (g.S.States.state_of c.args.states.now) c.args.live.now Any) c.in-Some.rec
    c.in_ok-newest.field-0) c.new-batch.ensures.pages
    (c.in_ok-newest.ensures.gives image tells)) c.in_default-2.is refl)

pub returns-then-newest-t-clause-gives : goal.returns-then-newest-t-clause-gives
returns-then-newest-t-clause-gives g c = λ image tells. subst (λ (r : Option RecId). MatchResult c.own_before.result
    (IsBefore (g.S.States.state_of c.args.states.now) c.args.live.now c.args.t.0 (shown c.args.store.now.dirty
    image) c.args.table.now r)
    (RefusesSeen g.D.Disk.meaning c.first_version.new.store (shown c.args.store.now.dirty image) (wants
    (g.S.States.state_of c.args.states.now) c.args.live.now Any) c.args.table.now r)) (sym c.in-Some.is)
    (own_comes g.D.Disk.meaning c.first_version.new.store (shown c.args.store.now.dirty image)
    (g.S.States.state_of c.args.states.now) c.args.live.now c.args.t.0 c.args.table.now c.in-Some.rec
    c.in_ok-newest.field-0 c.in-Some-2.newest c.own_before.result (empty_seen c.args.store.now image
    c.new-batch.result (λ (pages : List BatchPage). λ (view : Pages).
    IsFirst view (wants (g.S.States.state_of c.args.states.now) c.args.live.now Any) c.in-Some.rec
    c.in_ok-newest.field-0) c.new-batch.ensures.pages
    (c.in_ok-newest.ensures.gives image tells)) c.in-Some-2.is
    (eq-eqb c.in-Some-2.newest.version.tx.0 c.args.t.0 c.if-newest-t.true) c.own_before.ensures)

pub returns-clause-gives : goal.returns-clause-gives
returns-clause-gives g c = λ image tells. subst (λ (r : Option RecId).
    IsBefore (g.S.States.state_of c.args.states.now) c.args.live.now c.args.t.0 (shown c.args.store.now.dirty
    image) c.args.table.now r c.other_before.result) (sym c.in-Some.is)
    (before_by (g.S.States.state_of c.args.states.now) c.args.live.now c.args.t.0 (shown c.args.store.now.dirty
    image) c.args.table.now c.in-Some.rec c.in_ok-newest.field-0
    (Some c.in-Some-2.newest) c.other_before.result (empty_seen c.args.store.now image c.new-batch.result
    (λ (pages : List BatchPage). λ (view : Pages).
    IsFirst view (wants (g.S.States.state_of c.args.states.now) c.args.live.now Any) c.in-Some.rec
    c.in_ok-newest.field-0) c.new-batch.ensures.pages
    (c.in_ok-newest.ensures.gives image tells)) c.in-Some-2.is
    (other_by (g.S.States.state_of c.args.states.now) c.args.t.0 c.args.table.now c.in-Some.rec
    c.in-Some-2.newest c.other_before.result
    (ne_eqb c.in-Some-2.newest.version.tx.0 c.args.t.0 c.if-newest-t.false) c.other_before.ensures))

pub returns-in_default-clause-keeps : goal.returns-in_default-clause-keeps
returns-in_default-clause-keeps g c = keeps_itself g.D.Disk.meaning c.args.store.now c.requires.pool

pub returns-in_default-clause-fault : goal.returns-in_default-clause-fault
returns-in_default-clause-fault g c = (c.requires.online, c.requires.online, refl)

pub returns-in_default-clause-own : goal.returns-in_default-clause-own
returns-in_default-clause-own g c = tt

pub returns-in_err-newest-clause-keeps : goal.returns-in_err-newest-clause-keeps
returns-in_err-newest-clause-keeps g c = c.in_err-newest.ensures.keeps

pub returns-in_err-newest-clause-fault : goal.returns-in_err-newest-clause-fault
returns-in_err-newest-clause-fault g c = fault_same (Option Placed) g.D.Disk.meaning c.args.store.now
    c.first_version.new.store c.from_residual.result c.in_err-newest.field-0.0
    c.from_residual.ensures.0 c.from_residual.ensures.1 c.in_err-newest.ensures.fault

pub returns-in_err-newest-clause-own : goal.returns-in_err-newest-clause-own
returns-in_err-newest-clause-own g c = reads_same (Option Placed) c.from_residual.result
    c.in_err-newest.field-0.0 c.from_residual.ensures.0 c.from_residual.ensures.1
    c.in_err-newest.ensures.own

pub returns-in_default-2-clause-keeps : goal.returns-in_default-2-clause-keeps
returns-in_default-2-clause-keeps g c = c.in_ok-newest.ensures.keeps

pub returns-in_default-2-clause-fault : goal.returns-in_default-2-clause-fault
returns-in_default-2-clause-fault g c = c.in_ok-newest.ensures.fault

pub returns-in_default-2-clause-own : goal.returns-in_default-2-clause-own
returns-in_default-2-clause-own g c = tt

pub returns-then-newest-t-clause-keeps : goal.returns-then-newest-t-clause-keeps
returns-then-newest-t-clause-keeps g c = c.in_ok-newest.ensures.keeps

pub returns-clause-keeps : goal.returns-clause-keeps
returns-clause-keeps g c = c.in_ok-newest.ensures.keeps

pub returns-clause-fault : goal.returns-clause-fault
returns-clause-fault g c = c.in_ok-newest.ensures.fault

pub returns-clause-own : goal.returns-clause-own
returns-clause-own g c = tt
