use Rattle.std.proofs.Common.{◌∙◌, false, refl, sym, true}
use Rattle.std.proofs.lemmas.Bool.{false≢true}
use Rattle.mg_space.specs.ViewLaws.{same_content}
use Rattle.mg_base.specs.Image.{page_at}
use Rattle.mg_survey.proofs.AskingLemmas.{all_unmade, asks_answered, asks_over, asks_same, empty_unmade}
use Rattle.mg_survey.proofs.disk.is_unmade.Goals as goal

pub returns-then-pages-eq0-clause-unmade : goal.returns-then-pages-eq0-clause-unmade
returns-then-pages-eq0-clause-unmade g c = empty_unmade g.D.Disk.meaning g.met.D.Disk.counted
    c.args.disk.now c.args.size c.args.pages c.requires.has c.if-pages-eq0.true

pub returns-clause-unmade : goal.returns-clause-unmade
returns-clause-unmade g c = λ image held. all_unmade c.args.size (page_at c.args.size image) c.are_unmade.result
    ((c.in_ok-is_unmade_at.ensures.unmade image held).0 c.if-not-branch.false)
    (c.are_unmade.ensures.unmade image (c.is_unmade_at.ensures.asks.content.held ∙ held))

pub returns-then-pages-eq0-clause-has : goal.returns-then-pages-eq0-clause-has
returns-then-pages-eq0-clause-has g c = c.requires.has

pub returns-then-pages-eq0-clause-asks : goal.returns-then-pages-eq0-clause-asks
returns-then-pages-eq0-clause-asks g c = asks_answered g.D.Disk.meaning c.args.disk.now c.args.disk.now true
    (same_content g.D.Disk.meaning c.args.disk.now)
    refl refl

pub is_unmade_at-requires-clause-has : goal.is_unmade_at-requires-clause-has
is_unmade_at-requires-clause-has g c = c.requires.has

pub is_unmade_at-requires-clause-size : goal.is_unmade_at-requires-clause-size
is_unmade_at-requires-clause-size g c = c.requires.size

pub returns-in_err-is_unmade_at-clause-has : goal.returns-in_err-is_unmade_at-clause-has
returns-in_err-is_unmade_at-clause-has g c = c.is_unmade_at.ensures.has

pub returns-in_err-is_unmade_at-clause-asks : goal.returns-in_err-is_unmade_at-clause-asks
returns-in_err-is_unmade_at-clause-asks g c = asks_same g.D.Disk.meaning c.args.disk.now
    c.is_unmade_at.new.disk c.from_residual.result
    c.in_err-is_unmade_at.field-0.0 c.from_residual.ensures.0 c.in_err-is_unmade_at.ensures.asks

pub returns-in_err-is_unmade_at-clause-alone : goal.returns-in_err-is_unmade_at-clause-alone
returns-in_err-is_unmade_at-clause-alone g c = λ image held other. c.is_unmade_at.ensures.alone

pub returns-then-not-branch-clause-has : goal.returns-then-not-branch-clause-has
returns-then-not-branch-clause-has g c = c.is_unmade_at.ensures.has

pub returns-then-not-branch-clause-asks : goal.returns-then-not-branch-clause-asks
returns-then-not-branch-clause-asks g c = asks_answered g.D.Disk.meaning c.args.disk.now c.is_unmade_at.new.disk false
    c.is_unmade_at.ensures.asks.content c.in_ok-is_unmade_at.ensures.asks.steady c.is_unmade_at.ensures.asks.none_failed

pub returns-then-not-branch-clause-unmade : goal.returns-then-not-branch-clause-unmade
returns-then-not-branch-clause-unmade g c = λ image held. (
  λ yes_. absurd (false≢true yes_),
  λ unmade. absurd (false≢true (sym c.if-not-branch.true
      ∙ (c.in_ok-is_unmade_at.ensures.unmade image held).1 unmade.header)),
)

pub returns-then-not-branch-clause-alone : goal.returns-then-not-branch-clause-alone
returns-then-not-branch-clause-alone g c = λ image held other. c.is_unmade_at.ensures.alone

pub are_unmade-requires-clause-has : goal.are_unmade-requires-clause-has
are_unmade-requires-clause-has g c = c.is_unmade_at.ensures.has

pub are_unmade-requires-clause-size : goal.are_unmade-requires-clause-size
are_unmade-requires-clause-size g c = c.requires.size

pub returns-clause-has : goal.returns-clause-has
returns-clause-has g c = c.are_unmade.ensures.has

pub returns-clause-asks : goal.returns-clause-asks
returns-clause-asks g c = asks_over g.D.Disk.meaning g.met.D.Disk.counts_now c.args.disk.now c.is_unmade_at.new.disk
    c.are_unmade.new.disk c.is_unmade_at.ensures.asks.content c.in_ok-is_unmade_at.ensures.asks.steady
    c.is_unmade_at.ensures.asks.none_failed c.are_unmade.result c.are_unmade.ensures.asks

pub returns-clause-alone : goal.returns-clause-alone
returns-clause-alone g c = λ image held other. absurd
    (other ((c.in_ok-is_unmade_at.ensures.unmade image held).0 c.if-not-branch.false))
