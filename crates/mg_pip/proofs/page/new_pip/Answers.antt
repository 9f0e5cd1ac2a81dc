use Rattle.std.proofs.Common.{length, arith}
use Rattle.mg_pip.specs.PipPage.{new_pip_page}
use Rattle.mg_pip.specs.PipPageLaws.{new_page_unused, new_page_passes}
use Rattle.mg_pip.proofs.page.new_pip.Goals as goal

pub returns-clause-page : goal.returns-clause-page
unfolding new_pip_page
returns-clause-page c = c.new_common.ensures

pub returns-clause-unused : goal.returns-clause-unused
unfolding new_pip_page
returns-clause-unused c =
    λ bit. rw c.new_common.ensures (new_page_unused
    (length c.args.b.now) c.args.page.0 c.args.seq bit)

pub returns-clause-passes : goal.returns-clause-passes
unfolding new_pip_page
returns-clause-passes c =
    rw c.new_common.ensures (new_page_passes (length c.args.b.now) c.args.page.0 c.args.seq
    (omega arith) (omega arith) (omega arith))
