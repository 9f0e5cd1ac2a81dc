use Rattle.std.proofs.Common.{◌≡◌, ◌↔◌, ◌∷◌, subst, rules, Bool, IsTrue}
use Rattle.mg_image.specs.Indexes.{Finds}
use Rattle.mg_reading.specs.ImageView.{pages_in}
use Rattle.mg_trees.specs.Searches.{IsSearched, first_page, pages_from}
use Rattle.mg_trees.proofs.SearchLemmas.{down_of, found_below, leaf_found, ok_more, searched_below}
use Rattle.mg_trees.proofs.search.+is_found_from.Goals as goal

pub returns-in_default : goal.returns-in_default
returns-in_default t c = leaf_found c.args.image.now.size (pages_in c.args.image.now)
    c.args.entry.now c.args.pages.now c.args.below.now c.in_ok-node.node c.has_entry.result
    c.requires (search rules) c.in_ok-node.ensures (rw c.deref.ensures.value at c.has_entry.ensures)

pub is_found_from-requires : goal.is_found_from-requires
is_found_from-requires t c =
    let split : c.args.below.now ≡ c.in-Some.next.now ∷ c.in-Some.lower.now = search rules in
    let is = subst (IsSearched c.args.image.now.size (pages_in c.args.image.now) c.args.entry.now
    c.args.pages.now) split c.requires in
    let goes_down = down_of c.args.image.now.size (pages_in c.args.image.now) c.args.entry.now
    c.args.pages.now c.in-Some.next.now c.in-Some.lower.now c.in_ok-node.node
    c.child_for-child.result is c.in_ok-node.ensures
    (rw c.deref-2.ensures.value at c.child_for-child.ensures) in (
      search rules,
      rw (c.from_page.ensures, c.as_slice.ensures) (searched_below
          c.args.image.now.size (pages_in c.args.image.now) c.args.entry.now c.args.pages.now
          c.in-Some.next.now c.in-Some.lower.now c.child_for-child.result is goes_down),
    )

pub returns : goal.returns
returns t c =
    let split : c.args.below.now ≡ c.in-Some.next.now ∷ c.in-Some.lower.now = search rules in
    let is = subst (IsSearched c.args.image.now.size (pages_in c.args.image.now) c.args.entry.now
    c.args.pages.now) split c.requires in
    let goes_down = down_of c.args.image.now.size (pages_in c.args.image.now) c.args.entry.now
    c.args.pages.now c.in-Some.next.now c.in-Some.lower.now c.in_ok-node.node
    c.child_for-child.result is c.in_ok-node.ensures
    (rw c.deref-2.ensures.value at c.child_for-child.ensures) in
    ok_more
    (λ (found : Bool). IsTrue found ↔ Finds (pages_in c.args.image.now) c.args.entry.now
    (first_page (pages_from c.child_for-child.result c.in-Some.next.now)))
    (λ (found : Bool). IsTrue found ↔ Finds (pages_in c.args.image.now) c.args.entry.now
    (first_page c.args.pages.now))
    (λ (found : Bool) same. found_below c.args.image.now.size (pages_in c.args.image.now)
    c.args.entry.now c.args.pages.now c.in-Some.next.now c.child_for-child.result found goes_down
    same) c.is_found_from.result
    (rw (c.from_page.ensures, c.as_slice.ensures) at c.is_found_from.ensures)
