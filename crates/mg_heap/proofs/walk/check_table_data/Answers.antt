use Rattle.mg_heap.proofs.HoldingLemmas.{common_damage, common_ok}
use Rattle.mg_heap.proofs.walk.check_table_data.Goals as goal

pub returns-then-marked-clause-common : goal.returns-then-marked-clause-common
returns-then-marked-clause-common c = common_ok c.args.b.now c.args.page c.args.owner c.args.at
    c.check_common.result c.check_common.ensures

pub returns-then-marked-clause-damaged : goal.returns-then-marked-clause-damaged
returns-then-marked-clause-damaged c = common_damage c.args.b.now c.args.page c.args.owner c.args.at
    c.check_common.result c.check_common.ensures
