use Rattle.mg_reading.specs.ImageView.{pages_in}
use Rattle.mg_trees.specs.Trees.{HasLevelFrom, HasLevelsFrom, HasTree}
use Rattle.mg_trees.proofs.RefusalLemmas.{passed_on}
use Rattle.mg_trees.specs.TreeLaws.{levels_of_tree}
use Rattle.mg_trees.proofs.TreeLemmas.{level_of_levels}
use Rattle.mg_trees.proofs.tree.read_tree.Goals as goal

pub returns-then-root-eq0-clause-broken : goal.returns-then-root-eq0-clause-broken
returns-then-root-eq0-clause-broken c = λ has. has.1.rooted c.if-root-eq0.true

pub returns-in_err-pages-clause-broken : goal.returns-in_err-pages-clause-broken
returns-in_err-pages-clause-broken c = passed_on
    (HasLevelFrom c.args.image.now.size (pages_in c.args.image.now) c.args.owner
    c.level_at-level.result c.args.root)
    (HasTree c.args.image.now.size (pages_in c.args.image.now) c.args.owner c.args.root)
    (λ has. level_of_levels c.args.image.now.size (pages_in c.args.image.now) c.args.owner
    c.level_at-level.result c.args.root (rw c.level_at-level.ensures (levels_of_tree
    c.args.image.now.size (pages_in c.args.image.now) c.args.owner c.args.root
    c.if-root-eq0.false has)))
    c.from_residual.result c.in_err-pages.field-0.0 c.from_residual.ensures.1
    c.in_err-pages.ensures.broken

pub returns-in_err-levels-clause-broken : goal.returns-in_err-levels-clause-broken
returns-in_err-levels-clause-broken c = passed_on
    (HasLevelsFrom c.args.image.now.size (pages_in c.args.image.now) c.args.owner
    c.level_at-level.result c.args.root)
    (HasTree c.args.image.now.size (pages_in c.args.image.now) c.args.owner c.args.root)
    (λ has. rw c.level_at-level.ensures (levels_of_tree c.args.image.now.size
    (pages_in c.args.image.now) c.args.owner c.args.root c.if-root-eq0.false has))
    c.from_residual-in_err-levels.result c.in_err-levels.field-0.0
    c.from_residual-in_err-levels.ensures.1 c.in_err-levels.ensures.broken
