use Rattle.std.proofs.Common.{◌≡◌, ℕ, ◌+◌, ◌≤◌, length, List, get_or, sym, ◌∙◌, ap, subst, arith, refl}
use Rattle.mg_sql.proofs.Unquoting.{Half, start, step, done}
use Rattle.mg_sql.proofs.values.unquoted.Goals as goal

pub loop-at-init : goal.loop-at-init
loop-at-init c = record {
  some = omega arith;
  half = subst (λ xs. Half c.args.bytes.now 1 xs) (sym c.new-value.ensures.items) (start c.args.bytes.now c.requires);
}

pub loop-at-preserved : goal.loop-at-preserved
loop-at-preserved c = record {
  some = omega (arith, c.loop-at.invariant.some);
  half = subst (λ xs. Half c.args.bytes.now (c.loop-at.at + c.width-at.result) xs) (sym c.in_ok-push.ensures.items)
      (step c.args.bytes.now c.loop-at.at c.loop-at.value.items (get_or c.args.bytes.now c.loop-at.at 0) c.width-at.result refl c.width-at.ensures.is
      c.loop-at-test.true c.loop-at.invariant.half);
}

pub returns : goal.returns
returns c = done c.args.bytes.now c.loop-at.at c.loop-at.value.items (omega (arith, c.loop-at-test.false)) c.loop-at.invariant.half
