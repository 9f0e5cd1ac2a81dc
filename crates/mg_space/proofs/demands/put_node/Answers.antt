use Rattle.mg_space.proofs.DemandLemmas.{begins_here, begins_up, grown_up}
use Rattle.mg_space.specs.Demands.{right_demands, tree_demands}
use Rattle.mg_space.proofs.demands.put_node.Goals as goal

pub returns-in_err-put_right-clause-err : goal.returns-in_err-put_right-clause-err
returns-in_err-put_right-clause-err c = begins_here c.args.out.now.items c.put_right.new.out.items
    c.from_residual.result c.in_err-put_right.ensures.err

pub returns-clause-ok : goal.returns-clause-ok
returns-clause-ok c = grown_up c.args.out.now.items c.put_right.new.out.items
    c.put_tree.new.out.items (right_demands c.args.size c.args.b.now c.args.owner)
    (tree_demands c.args.size c.args.b.now c.args.owner) c.put_tree.result
    c.in_ok-put_right.ensures.ok c.put_tree.ensures.ok

pub returns-clause-err : goal.returns-clause-err
returns-clause-err c = begins_up c.args.out.now.items c.put_right.new.out.items
    c.put_tree.new.out.items (right_demands c.args.size c.args.b.now c.args.owner) c.put_tree.result
    c.in_ok-put_right.ensures.ok c.put_tree.ensures.err
