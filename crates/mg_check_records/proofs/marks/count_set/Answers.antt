use Rattle.std.proofs.Common.{arith, length, refl}
use Rattle.mg_check_records.proofs.ListingLemmas.{set_all, set_few, set_more}
use Rattle.mg_check_records.proofs.marks.count_set.Goals as goal

pub loop-at-preserved : goal.loop-at-preserved
loop-at-preserved c = set_more c.args.marks.now c.loop-at.at c.loop-at.count c.mark_number-number.result
    c.is_set-mark.result c.loop-at.invariant c.is_set-mark.ensures c.mark_number-number.ensures.number

pub overflow_add-count : goal.overflow_add-count
overflow_add-count c = omega (
  arith,
  c.loop-at.invariant,
  set_few c.args.marks.now c.loop-at.at,
  c.mark_number-number.ensures.most,
)

pub returns : goal.returns
returns c = set_all c.args.marks.now c.loop-at.at (length c.args.marks.now) (length c.args.marks.now) c.loop-at.count refl
    c.loop-at.auto.at-end c.loop-at-test.false c.loop-at.invariant
