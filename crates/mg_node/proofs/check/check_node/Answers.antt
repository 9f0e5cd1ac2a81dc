use Rattle.mg_node.proofs.CheckLemmas.{ok_exactly}
use Rattle.mg_node.proofs.check.check_node.Goals as goal

pub returns-clause-when : goal.returns-clause-when
returns-clause-when c =
    ok_exactly c.args.page c.args.b.now c.args.owner c.first_damage.result c.first_damage.ensures
