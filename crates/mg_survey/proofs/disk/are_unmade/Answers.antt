use Rattle.std.proofs.Common.{◌∙◌, arith, false, refl, sym, true}
use Rattle.std.proofs.lemmas.Bool.{false≢true}
use Rattle.mg_space.specs.ViewLaws.{content_on}
use Rattle.mg_survey.proofs.AskingLemmas.{all_tested, asks_answered, asks_up, tested_more, tested_none}
use Rattle.mg_survey.proofs.disk.are_unmade.Goals as goal

pub loop-n-preserved : goal.loop-n-preserved
loop-n-preserved g c = tested_more g.D.Disk.meaning g.met.D.Disk.counts_now c.args.disk.now c.loop-n.disk
    c.is_unmade_at.new.disk c.args.size c.args.pages c.loop-n.n c.loop-n.invariant
    c.is_unmade_at.ensures.has c.is_unmade_at.ensures.asks.content
    c.in_ok-is_unmade_at.ensures.asks.steady c.is_unmade_at.ensures.asks.none_failed
    (λ image held. (c.in_ok-is_unmade_at.ensures.unmade image held).0 c.if-not-branch.false)

pub returns-clause-unmade : goal.returns-clause-unmade
returns-clause-unmade g c = λ image held. (
  λ yes_. all_tested g.D.Disk.meaning g.met.D.Disk.counted c.args.disk.now c.loop-n.disk c.args.size
      c.args.pages c.loop-n.n c.loop-n.invariant
      (omega (arith, c.loop-n-test.false, c.loop-n.auto.n-end, c.min-n-end.ensures)) image held,
  λ all. refl,
)

pub loop-n-init : goal.loop-n-init
loop-n-init g c = tested_none g.D.Disk.meaning c.args.disk.now c.args.size c.args.pages c.requires.has

pub is_unmade_at-requires-clause-has : goal.is_unmade_at-requires-clause-has
is_unmade_at-requires-clause-has g c = c.loop-n.invariant.has

pub is_unmade_at-requires-clause-size : goal.is_unmade_at-requires-clause-size
is_unmade_at-requires-clause-size g c = c.requires.size

pub returns-in_err-is_unmade_at-clause-has : goal.returns-in_err-is_unmade_at-clause-has
returns-in_err-is_unmade_at-clause-has g c = c.is_unmade_at.ensures.has

pub returns-in_err-is_unmade_at-clause-asks : goal.returns-in_err-is_unmade_at-clause-asks
returns-in_err-is_unmade_at-clause-asks g c = asks_up g.D.Disk.meaning g.met.D.Disk.counts_now c.args.disk.now
    c.loop-n.disk
    c.is_unmade_at.new.disk c.loop-n.invariant.content c.loop-n.invariant.steady c.loop-n.invariant.none_failed c.from_residual.result
    c.in_err-is_unmade_at.field-0.0 c.from_residual.ensures.0 c.in_err-is_unmade_at.ensures.asks

pub returns-then-not-branch-clause-has : goal.returns-then-not-branch-clause-has
returns-then-not-branch-clause-has g c = c.is_unmade_at.ensures.has

pub returns-then-not-branch-clause-asks : goal.returns-then-not-branch-clause-asks
returns-then-not-branch-clause-asks g c = asks_answered g.D.Disk.meaning c.args.disk.now c.is_unmade_at.new.disk false
    (content_on g.D.Disk.meaning g.met.D.Disk.counts_now c.args.disk.now c.loop-n.disk c.is_unmade_at.new.disk
    c.loop-n.invariant.content c.is_unmade_at.ensures.asks.content)
    (c.in_ok-is_unmade_at.ensures.asks.steady ∙ c.loop-n.invariant.steady)
    (c.is_unmade_at.ensures.asks.none_failed ∙ c.loop-n.invariant.none_failed)

pub returns-then-not-branch-clause-unmade : goal.returns-then-not-branch-clause-unmade
returns-then-not-branch-clause-unmade g c = λ image held. (
  λ yes_. absurd (false≢true yes_),
  λ all. absurd (false≢true (sym c.if-not-branch.true
      ∙ (c.in_ok-is_unmade_at.ensures.unmade image (c.loop-n.invariant.content.held ∙ held)).1
      (all c.loop-n.n (omega (arith, c.loop-n.auto.n))
      (omega (arith, c.loop-n-test.true, c.loop-n.auto.n-end, c.min-n-end.ensures))))),
)

pub returns-clause-has : goal.returns-clause-has
returns-clause-has g c = c.loop-n.invariant.has

pub returns-clause-asks : goal.returns-clause-asks
returns-clause-asks g c = asks_answered g.D.Disk.meaning c.args.disk.now c.loop-n.disk true c.loop-n.invariant.content
    c.loop-n.invariant.steady c.loop-n.invariant.none_failed
