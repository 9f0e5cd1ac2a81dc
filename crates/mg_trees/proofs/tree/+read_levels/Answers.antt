use Rattle.std.proofs.Common.{◌∙◌, ◌-◌, [], refl, sym}
use Rattle.mg_node.specs.NodePage.{right_in}
use Rattle.mg_image.specs.Indexes.{EachPage, IsNode}
use Rattle.mg_reading.specs.ImageView.{pages_in}
use Rattle.mg_trees.specs.Trees.{HasLevelFrom, HasLevelsFrom, IsLevelPage}
use Rattle.mg_trees.specs.TreeLaws.{first_has}
use Rattle.mg_trees.proofs.RefusalLemmas.{passed_on}
use Rattle.mg_trees.proofs.TreeLemmas.{bounded_level, child_there, lawful_level, level_of_levels, levels_below, levels_lowest, levels_more, nodes_above, nodes_lowest}
use Rattle.mg_trees.proofs.tree.+read_levels.Goals as goal

pub check_pages-requires-clause-pages : goal.check_pages-requires-clause-pages
check_pages-requires-clause-pages t c = rw c.deref.ensures.value
    (bounded_level c.args.image.now.size (pages_in c.args.image.now) c.args.owner c.args.level
    c.args.first c.args.pages.items c.requires.level)

pub returns-in_err-check_pages-clause-broken : goal.returns-in_err-check_pages-clause-broken
returns-in_err-check_pages-clause-broken t c = passed_on
    (EachPage (IsNode c.args.image.now.size (pages_in c.args.image.now) c.args.owner c.args.level
    []) c.args.pages.items)
    (HasLevelsFrom c.args.image.now.size (pages_in c.args.image.now) c.args.owner c.args.level
    c.args.first)
    (nodes_lowest c.args.image.now.size (pages_in c.args.image.now) c.args.owner c.args.level
    c.args.first c.args.pages.items c.if-level-eq0.true c.requires.level.chain)
    c.from_residual.result c.in_err-check_pages.field-0.0 c.from_residual.ensures.1
    (rw c.deref.ensures.value at c.in_err-check_pages.ensures.broken)

pub returns-then-level-eq0-clause-levels : goal.returns-then-level-eq0-clause-levels
returns-then-level-eq0-clause-levels t c = levels_lowest c.args.image.now.size
    (pages_in c.args.image.now) c.args.owner c.args.level c.args.first c.args.pages.items
    c.push.new.self.items c.if-level-eq0.true c.requires.level.chain
    (rw c.deref.ensures.value at c.in_ok-check_pages.ensures.nodes)
    (c.in_ok-push.ensures.items ∙ rw (c.new-levels.ensures.items, c.new.ensures) refl)

pub first_child-requires : goal.first_child-requires
first_child-requires t c = (first_has
    (IsLevelPage c.args.image.now.size (pages_in c.args.image.now) c.args.owner c.args.level)
    (λ k. right_in (pages_in c.args.image.now k)) c.args.first c.args.pages.items
    c.requires.level.chain c.requires.level.each c.requires.some).lawful

pub returns-then-child-eq0-clause-broken : goal.returns-then-child-eq0-clause-broken
returns-then-child-eq0-clause-broken t c = child_there c.args.image.now.size
    (pages_in c.args.image.now) c.args.owner c.args.level c.args.first c.requires.some
    c.if-level-eq0.false (sym c.in_ok-child.ensures ∙ c.if-child-eq0.true)

pub returns-in_err-below-clause-broken : goal.returns-in_err-below-clause-broken
returns-in_err-below-clause-broken t c = passed_on
    (HasLevelFrom c.args.image.now.size (pages_in c.args.image.now) c.args.owner
    (c.args.level - 1) c.in_ok-child.child)
    (HasLevelsFrom c.args.image.now.size (pages_in c.args.image.now) c.args.owner c.args.level
    c.args.first)
    (λ has. level_of_levels c.args.image.now.size (pages_in c.args.image.now) c.args.owner
    (c.args.level - 1) c.in_ok-child.child (rw c.in_ok-child.ensures (levels_below
    c.args.image.now.size (pages_in c.args.image.now) c.args.owner c.args.level c.args.first
    c.if-level-eq0.false has)))
    c.from_residual-in_err-below.result c.in_err-below.field-0.0
    c.from_residual-in_err-below.ensures.1 c.in_err-below.ensures.broken

pub check_pages-requires-2-clause-pages : goal.check_pages-requires-2-clause-pages
check_pages-requires-2-clause-pages t c = rw c.deref-3.ensures.value
    (bounded_level c.args.image.now.size (pages_in c.args.image.now) c.args.owner c.args.level
    c.args.first c.args.pages.items c.requires.level)

pub check_pages-requires-2-clause-below : goal.check_pages-requires-2-clause-below
check_pages-requires-2-clause-below t c = rw c.deref-2.ensures.value
    (lawful_level c.args.image.now.size (pages_in c.args.image.now) c.args.owner
    (c.args.level - 1) c.in_ok-child.child c.in_ok-below.below.items c.in_ok-below.ensures.level)

pub returns-in_err-check_pages-2-clause-broken : goal.returns-in_err-check_pages-2-clause-broken
returns-in_err-check_pages-2-clause-broken t c = passed_on
    (EachPage (IsNode c.args.image.now.size (pages_in c.args.image.now) c.args.owner c.args.level
    c.in_ok-below.below.items) c.args.pages.items)
    (HasLevelsFrom c.args.image.now.size (pages_in c.args.image.now) c.args.owner c.args.level
    c.args.first)
    (nodes_above c.args.image.now.size (pages_in c.args.image.now) c.args.owner c.args.level
    c.args.first c.args.pages.items c.in_ok-below.below.items c.if-level-eq0.false
    c.requires.level.chain (rw c.in_ok-child.ensures at c.in_ok-below.ensures.level.chain))
    c.from_residual-in_err-check_pages-2.result c.in_err-check_pages-2.field-0.0
    c.from_residual-in_err-check_pages-2.ensures.1
    (rw (c.deref-2.ensures.value, c.deref-3.ensures.value) at c.in_err-check_pages-2.ensures.broken)

pub returns-in_err-levels-clause-broken : goal.returns-in_err-levels-clause-broken
returns-in_err-levels-clause-broken t c = passed_on
    (HasLevelsFrom c.args.image.now.size (pages_in c.args.image.now) c.args.owner
    (c.args.level - 1) c.in_ok-child.child)
    (HasLevelsFrom c.args.image.now.size (pages_in c.args.image.now) c.args.owner c.args.level
    c.args.first)
    (λ has. rw c.in_ok-child.ensures (levels_below c.args.image.now.size
    (pages_in c.args.image.now) c.args.owner c.args.level c.args.first c.if-level-eq0.false has))
    c.from_residual-in_err-levels.result c.in_err-levels.field-0.0
    c.from_residual-in_err-levels.ensures.1 c.in_err-levels.ensures.broken

pub returns-clause-levels : goal.returns-clause-levels
returns-clause-levels t c = levels_more c.args.image.now.size (pages_in c.args.image.now)
    c.args.owner c.args.level c.args.first c.args.pages.items c.in_ok-below.below.items
    c.in_ok-levels.levels.items c.insert.new.self.items c.if-level-eq0.false
    c.requires.level.chain (rw c.in_ok-child.ensures at c.in_ok-below.ensures.level.chain)
    (rw (c.deref-2.ensures.value, c.deref-3.ensures.value) at c.in_ok-check_pages-2.ensures.nodes)
    (rw c.in_ok-child.ensures at c.in_ok-levels.ensures.levels)
    (rw c.new-2.ensures at c.in_ok-insert.ensures.items)
