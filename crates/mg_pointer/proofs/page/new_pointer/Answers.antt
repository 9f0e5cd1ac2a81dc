use Rattle.std.proofs.Common.{length, arith}
use Rattle.mg_pointer.specs.PointerPage.{new_pointer_page}
use Rattle.mg_pointer.specs.PointerPageLaws.{new_page_empty, new_page_next, new_page_lawful, new_page_passes}
use Rattle.mg_pointer.proofs.page.new_pointer.Goals as goal

pub returns-clause-page : goal.returns-clause-page
unfolding new_pointer_page
returns-clause-page c = c.new_common.ensures

pub returns-clause-entries : goal.returns-clause-entries
unfolding new_pointer_page
returns-clause-entries c =
    rw c.new_common.ensures (new_page_empty
    (length c.args.b.now) c.args.page.0 c.args.owner c.args.seq)

pub returns-clause-next : goal.returns-clause-next
unfolding new_pointer_page
returns-clause-next c =
    rw c.new_common.ensures (new_page_next
    (length c.args.b.now) c.args.page.0 c.args.owner c.args.seq)

pub returns-clause-passes : goal.returns-clause-passes
unfolding new_pointer_page
returns-clause-passes c = rw c.new_common.ensures
    (new_page_passes (length c.args.b.now) c.args.page.0 c.args.owner c.args.seq c.requires.least
    (omega arith) (omega arith) (omega arith))

pub returns-clause-lawful : goal.returns-clause-lawful
unfolding new_pointer_page
returns-clause-lawful c = rw c.new_common.ensures
    (new_page_lawful (length c.args.b.now) c.args.page.0 c.args.owner c.args.seq c.requires.least
    c.requires.most)
