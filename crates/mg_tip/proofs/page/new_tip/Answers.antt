use Rattle.std.proofs.Common.{length, arith}
use Rattle.mg_tip.specs.TipPage.{new_tip_page}
use Rattle.mg_tip.specs.TipPageLaws.{new_page_active, new_page_passes}
use Rattle.mg_tip.proofs.page.new_tip.Goals as goal

pub returns-clause-active : goal.returns-clause-active
unfolding new_tip_page
returns-clause-active c = λ place. rw (
  c.put_u32.ensures,
  c.new_common.ensures,
) (new_page_active (length c.args.b.now) c.args.page.0 c.args.seq c.args.prev.0 place)

pub returns-clause-passes : goal.returns-clause-passes
unfolding new_tip_page
returns-clause-passes c = λ first. rw (
  c.put_u32.ensures,
  c.new_common.ensures,
) (new_page_passes (length c.args.b.now) c.args.page.0 c.args.seq c.args.prev.0 (omega arith) (omega arith) (omega arith) (omega arith) first)
