use Rattle.std.proofs.Common.{◌≡◌, ℕ, refl, sym, ◌∙◌, ap, subst, arith, get_or, length}
use Rattle.mg_sql.proofs.Quotes.{begins, plain_step, pair_step, ends_here, at_end}
use Rattle.mg_sql.proofs.scanning.text_end.Goals as goal
use Rattle.mg_sql.proofs.scanning.text_end.Goals.{else-at-text-via-then-at-text+else-text-at-eq39, else-at-text-via-else-at-text}

pub loop-at-init : goal.loop-at-init
loop-at-init c = begins c.args.text.now c.args.from c.requires.inside c.requires.quote

pub loop-at-preserved-then-text-at-ne39 : goal.loop-at-preserved-then-text-at-ne39
loop-at-preserved-then-text-at-ne39 c = plain_step c.args.text.now c.args.from c.loop-at.at c.loop-at.closed c.loop-at.invariant (omega arith) (omega arith)

pub loop-at-preserved : goal.loop-at-preserved
loop-at-preserved c = pair_step c.args.text.now c.args.from c.loop-at.at c.loop-at.closed c.loop-at.invariant c.if-at-text.true c.if-text-at-ne39.false c.if-text-at-eq39.true

pub returns-else-at-text : goal.returns-else-at-text
returns-else-at-text c = elim c.else-at-text.branch [
  | else-at-text-via-then-at-text+else-text-at-eq39 w ↦ ends_here c.args.text.now c.args.from c.loop-at.at c.loop-at.closed c.loop-at.invariant (omega arith) c.if-text-at-ne39.false (λ low. w.if-text-at-eq39.false)
  | else-at-text-via-else-at-text w ↦ ends_here c.args.text.now c.args.from c.loop-at.at c.loop-at.closed c.loop-at.invariant (omega arith) c.if-text-at-ne39.false (λ low. absurd (omega (arith, low, w.if-at-text.false)))
]

pub returns : goal.returns
returns c = at_end c.args.text.now c.args.from c.loop-at.at c.loop-at.closed c.loop-at.invariant (omega arith)
