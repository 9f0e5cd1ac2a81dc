use Rattle.std.proofs.Common.{Ok, Err, [], Option, sym, ◌∙◌, List}
use Rattle.mg_chain.specs.Refusals.{RefusesChain}
use Rattle.mg_image.specs.Records.{cells_of}
use Rattle.mg_image.specs.declared.entry.Entry.{Entry}
use Rattle.mg_pool.specs.Pool.{shown}
use Rattle.mg_space.specs.ViewLaws.{keeps_on}
use Rattle.mg_collecting.specs.Leaving.{HasInOrder}
use Rattle.mg_collecting.specs.Passing.{StartsAt}
use Rattle.mg_collecting.specs.declared.passing.Stand.{Stand}
use Rattle.mg_collecting.proofs.CountLemmas.{met_on, primary_refuses}
use Rattle.mg_collecting.proofs.EndLemmas.{second_followed, start_followed}
use Rattle.mg_collecting.proofs.PartLemmas.{handed_on}
use Rattle.mg_collecting.proofs.PassedLemmas.{version_unread}
use Rattle.mg_collecting.proofs.StandLemmas.{starts_alone, starts_first, starts_none, starts_open, starts_second}
use Rattle.mg_collecting.proofs.passing.first_stand.Goals as goal

pub returns-in_err-first-clause-gives : goal.returns-in_err-first-clause-gives
returns-in_err-first-clause-gives g c = λ image tells. handed_on c.from_residual.result c.in_err-first.field-0.0
    (λ (at : Option Stand). (es : List Entry) → HasInOrder (cells_of (shown c.args.store.now.dirty image)) c.args.rec es
    → StartsAt (g.S.States.state_of c.args.states.now) c.args.live.now c.args.rec es at)
    (RefusesChain g.D.Disk.meaning c.newest.new.store [] (shown c.args.store.now.dirty image) c.args.rec)
    c.from_residual.ensures.0 c.from_residual.ensures.1
    (primary_refuses g.D.Disk.meaning c.newest.new.store [] (shown c.args.store.now.dirty image) c.args.rec
    c.in_err-first.field-0.0 (c.in_err-first.ensures.gives image tells))

pub returns-in_default-clause-gives : goal.returns-in_default-clause-gives
returns-in_default-clause-gives g c = λ image tells. λ es has.
    starts_none (g.S.States.state_of c.args.states.now) c.args.live.now c.args.rec
    (shown c.args.store.now.dirty image) es has (sym (c.in_ok-first.ensures.gives image tells) ∙ c.in_default.is)

pub returns-in_err-met-clause-gives : goal.returns-in_err-met-clause-gives
returns-in_err-met-clause-gives g c = λ image tells. handed_on c.from_residual-in_err-met.result
    c.in_err-met.field-0.0
    (λ (at : Option Stand). (es : List Entry) → HasInOrder (cells_of (shown c.args.store.now.dirty image)) c.args.rec es
    → StartsAt (g.S.States.state_of c.args.states.now) c.args.live.now c.args.rec es at)
    (RefusesChain g.D.Disk.meaning c.version.new.store [] (shown c.args.store.now.dirty image) c.args.rec)
    c.from_residual-in_err-met.ensures.0 c.from_residual-in_err-met.ensures.1
    (version_unread g.D.Disk.meaning c.version.new.store [] (shown c.args.store.now.dirty image) c.args.rec
    c.args.rec.page.0 c.in-Some.first
    (start_followed (shown c.args.store.now.dirty image) c.args.rec c.in_ok-first.field-0 c.in-Some.first
    (c.in_ok-first.ensures.gives image tells) c.in-Some.is) c.in_err-met.field-0.0
    (met_on g.D.Disk.meaning c.args.store.now c.newest.new.store c.version.new.store image c.args.rec.page.0
    c.in-Some.first (Err c.in_err-met.field-0.0) c.in_ok-first.ensures.keeps tells c.in_err-met.ensures.gives))

pub returns-then-is_committed-clause-gives : goal.returns-then-is_committed-clause-gives
returns-then-is_committed-clause-gives g c = λ image tells. λ es has.
    starts_first (g.S.States.state_of c.args.states.now) c.args.live.now c.args.rec
    (shown c.args.store.now.dirty image) es c.in-Some.first c.in_ok-met.met has
    (sym (c.in_ok-first.ensures.gives image tells) ∙ c.in-Some.is)
    (met_on g.D.Disk.meaning c.args.store.now c.newest.new.store c.version.new.store image c.args.rec.page.0
    c.in-Some.first (Ok c.in_ok-met.met) c.in_ok-first.ensures.keeps tells c.in_ok-met.ensures.gives)
    (sym c.is_committed.ensures ∙ c.if-is_committed.true)

pub returns-in_default-back-clause-gives : goal.returns-in_default-back-clause-gives
returns-in_default-back-clause-gives g c = λ image tells. λ es has.
    starts_alone (g.S.States.state_of c.args.states.now) c.args.live.now c.args.rec
    (shown c.args.store.now.dirty image) es c.in-Some.first c.in_ok-met.met has
    (sym (c.in_ok-first.ensures.gives image tells) ∙ c.in-Some.is)
    (met_on g.D.Disk.meaning c.args.store.now c.newest.new.store c.version.new.store image c.args.rec.page.0
    c.in-Some.first (Ok c.in_ok-met.met) c.in_ok-first.ensures.keeps tells c.in_ok-met.ensures.gives)
    (sym c.is_committed.ensures ∙ c.if-is_committed.false) c.in_default-back.is

pub returns-then-not-is_committed-clause-gives : goal.returns-then-not-is_committed-clause-gives
returns-then-not-is_committed-clause-gives g c = λ image tells. λ es has.
    starts_open (g.S.States.state_of c.args.states.now) c.args.live.now c.args.rec
    (shown c.args.store.now.dirty image) es c.in-Some.first c.in-Some-back.second c.in_ok-met.met has
    (sym (c.in_ok-first.ensures.gives image tells) ∙ c.in-Some.is)
    (met_on g.D.Disk.meaning c.args.store.now c.newest.new.store c.version.new.store image c.args.rec.page.0
    c.in-Some.first (Ok c.in_ok-met.met) c.in_ok-first.ensures.keeps tells c.in_ok-met.ensures.gives)
    (sym c.is_committed.ensures ∙ c.if-is_committed.false) c.in-Some-back.is
    (sym c.is_committed-2.ensures ∙ c.if-not-is_committed.true)

pub returns-in_err-behind-clause-gives : goal.returns-in_err-behind-clause-gives
returns-in_err-behind-clause-gives g c = λ image tells. handed_on c.from_residual-in_err-behind.result
    c.in_err-behind.field-0.0
    (λ (at : Option Stand). (es : List Entry) → HasInOrder (cells_of (shown c.args.store.now.dirty image)) c.args.rec es
    → StartsAt (g.S.States.state_of c.args.states.now) c.args.live.now c.args.rec es at)
    (RefusesChain g.D.Disk.meaning c.version-2.new.store [] (shown c.args.store.now.dirty image) c.args.rec)
    c.from_residual-in_err-behind.ensures.0 c.from_residual-in_err-behind.ensures.1
    (version_unread g.D.Disk.meaning c.version-2.new.store [] (shown c.args.store.now.dirty image) c.args.rec
    c.in-Some.first.rec.page.0 c.in-Some-back.second
    (second_followed (shown c.args.store.now.dirty image) c.args.rec c.in-Some.first c.in-Some-back.second
    c.in_ok-met.met (sym (c.in_ok-first.ensures.gives image tells) ∙ c.in-Some.is)
    (met_on g.D.Disk.meaning c.args.store.now c.newest.new.store c.version.new.store image c.args.rec.page.0
    c.in-Some.first (Ok c.in_ok-met.met) c.in_ok-first.ensures.keeps tells c.in_ok-met.ensures.gives)
    c.in-Some-back.is) c.in_err-behind.field-0.0
    (met_on g.D.Disk.meaning c.args.store.now c.version.new.store c.version-2.new.store image
    c.in-Some.first.rec.page.0 c.in-Some-back.second (Err c.in_err-behind.field-0.0)
    (keeps_on g.D.Disk.meaning g.met.D.Disk.counts_now c.args.store.now c.newest.new.store c.version.new.store
    c.in_ok-first.ensures.keeps c.in_ok-met.ensures.keeps) tells c.in_err-behind.ensures.gives))

pub returns-clause-gives : goal.returns-clause-gives
returns-clause-gives g c = λ image tells. λ es has.
    starts_second (g.S.States.state_of c.args.states.now) c.args.live.now c.args.rec
    (shown c.args.store.now.dirty image) es c.in-Some.first c.in-Some-back.second c.in_ok-met.met
    c.in_ok-behind.behind has
    (sym (c.in_ok-first.ensures.gives image tells) ∙ c.in-Some.is)
    (met_on g.D.Disk.meaning c.args.store.now c.newest.new.store c.version.new.store image c.args.rec.page.0
    c.in-Some.first (Ok c.in_ok-met.met) c.in_ok-first.ensures.keeps tells c.in_ok-met.ensures.gives)
    (sym c.is_committed.ensures ∙ c.if-is_committed.false) c.in-Some-back.is
    (sym c.is_committed-2.ensures ∙ c.if-not-is_committed.false)
    (met_on g.D.Disk.meaning c.args.store.now c.version.new.store c.version-2.new.store image
    c.in-Some.first.rec.page.0 c.in-Some-back.second (Ok c.in_ok-behind.behind)
    (keeps_on g.D.Disk.meaning g.met.D.Disk.counts_now c.args.store.now c.newest.new.store c.version.new.store
    c.in_ok-first.ensures.keeps c.in_ok-met.ensures.keeps) tells c.in_ok-behind.ensures.gives)

pub returns-clause-keeps : goal.returns-clause-keeps
returns-clause-keeps g c = keeps_on g.D.Disk.meaning g.met.D.Disk.counts_now c.args.store.now c.version.new.store
    c.version-2.new.store
    (keeps_on g.D.Disk.meaning g.met.D.Disk.counts_now c.args.store.now c.newest.new.store c.version.new.store
    c.in_ok-first.ensures.keeps c.in_ok-met.ensures.keeps) c.in_ok-behind.ensures.keeps
