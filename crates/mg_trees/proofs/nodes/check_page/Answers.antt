use Rattle.std.proofs.Common.{◌<◌}
use Rattle.mg_image.specs.Indexes.{IsNode}
use Rattle.mg_reading.specs.ImageView.{pages_in}
use Rattle.mg_trees.specs.Trees.{HasFences, IsInner}
use Rattle.mg_trees.proofs.PageLemmas.{fences_of_node, inner_of_node, node_of_parts}
use Rattle.mg_trees.proofs.RefusalLemmas.{gives_more, passed_on, refuses_more}
use Rattle.mg_trees.proofs.nodes.check_page.Goals as goal

pub returns-in_err-check_above-clause-broken : goal.returns-in_err-check_above-clause-broken
returns-in_err-check_above-clause-broken c = passed_on
    (0 < c.args.level → IsInner (pages_in c.args.image.now) c.args.below.now c.in_ok-node.node)
    (IsNode c.args.image.now.size (pages_in c.args.image.now) c.args.owner c.args.level
    c.args.below.now c.args.n)
    (λ is above. inner_of_node c.args.image.now.size (pages_in c.args.image.now) c.args.owner
    c.args.level c.args.below.now c.args.n c.in_ok-node.node c.in_ok-node.ensures above is)
    c.from_residual-in_err-check_above.result c.in_err-check_above.field-0.0 c.from_residual-in_err-check_above.ensures.1
    c.in_err-check_above.ensures.broken

pub returns-clause-node : goal.returns-clause-node
returns-clause-node c = gives_more (HasFences (pages_in c.args.image.now) c.in_ok-node.node)
    (IsNode c.args.image.now.size (pages_in c.args.image.now) c.args.owner c.args.level
    c.args.below.now c.args.n)
    (node_of_parts c.args.image.now.size (pages_in c.args.image.now) c.args.owner c.args.level
    c.args.below.now c.args.n c.in_ok-node.node c.requires.page c.in_ok-node.ensures
    c.in_ok-check_above.ensures.inner) c.check_neighbour.result c.check_neighbour.ensures.fences

pub returns-clause-broken : goal.returns-clause-broken
returns-clause-broken c = refuses_more (HasFences (pages_in c.args.image.now) c.in_ok-node.node)
    (IsNode c.args.image.now.size (pages_in c.args.image.now) c.args.owner c.args.level
    c.args.below.now c.args.n)
    (fences_of_node c.args.image.now.size (pages_in c.args.image.now) c.args.owner c.args.level
    c.args.below.now c.args.n c.in_ok-node.node c.in_ok-node.ensures) c.check_neighbour.result
    c.check_neighbour.ensures.broken
