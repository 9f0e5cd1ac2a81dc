use Rattle.std.proofs.Common.{◌≡◌, ◌<◌, ◌∙◌, ◌+◌, refl, sym, subst, ap, suc, ℕ, List, length, arith}
use Rattle.mg_node_writing.specs.NewNodes.{CopiesNode}
use Rattle.mg_btree.specs.Halves.{names_in}
use Rattle.mg_btree.specs.AboveLaws.{fence_short}
use Rattle.mg_btree.proofs.GrowingLemmas.{copy_full, fence_not_least, grown_root, halves_at}
use Rattle.mg_node.specs.NodePage.{IsNodePage}
use Rattle.mg_node_writing.specs.NodeChanges.{IsSized, most_need, room_in}
use Rattle.mg_btree.proofs.WrittenLemmas.{sized_same}
use Rattle.mg_btree.proofs.growing.grow.Goals as goal

pub halve-requires-clause-full : goal.halve-requires-clause-full
halve-requires-clause-full c = copy_full c.as_slice.result.now c.in_ok-copy.copy.bytes c.args.at.first.0
    c.in_ok-copy.ensures.bytes c.in_ok-copy.ensures.copies
    (subst (λ (b : List ℕ). room_in b < most_need b) (sym c.as_slice.ensures) c.requires.full)

pub root_with-requires-clause-second : goal.root_with-requires-clause-second
root_with-requires-clause-second c = fence_not_least c.in_ok-copy.copy.bytes c.in_ok-copy.copy.page.0
    c.args.at.second.0 c.in_ok-halves.halves c.in_ok-copy.ensures.copies.lawful c.in_ok-halves.ensures

pub root_with-requires-clause-short : goal.root_with-requires-clause-short
root_with-requires-clause-short c =
    let is = c.in_ok-halves.ensures in
    fence_short c.len-size.result c.in_ok-copy.copy.bytes c.in_ok-halves.halves.left.bytes
    c.in_ok-halves.halves.right.bytes c.in_ok-halves.halves.fence is.pair.right_lawful is.fence
    (is.pair.splits.right_size ∙ (c.in_ok-copy.ensures.copies.size
    ∙ (ap (λ b. length b) c.as_slice.ensures ∙ sym c.len-size.ensures)))

pub returns : goal.returns
returns c =
    let is = halves_at c.in_ok-copy.copy.bytes c.in_ok-copy.copy.page.0 c.args.at.first.0
    c.args.at.second.0 c.in_ok-halves.halves (ap (λ p. p.0) c.in_ok-copy.ensures.page)
    c.in_ok-halves.ensures in
    let up : c.args.level + 1 ≡ suc c.args.level = omega arith in
    record {
      copy = c.in_ok-copy.copy.bytes;
      copies = subst (λ (b : List ℕ). CopiesNode b c.in_ok-copy.copy.bytes c.args.at.first.0)
          c.as_slice.ensures c.in_ok-copy.ensures.copies;
      halves = is;
      names = c.in_ok-names.ensures ∙ ap names_in c.as_slice-2.ensures;
      own = ap (λ p. p.0) c.in_ok-root.ensures.page;
      len = c.in_ok-root.ensures.names.len ∙ c.len-size.ensures;
      grown = grown_root c.len-size.result c.args.owner c.args.full.page.0 c.args.level c.args.at.first.0
          c.args.at.second.0 (c.args.level + 1) c.least_entry-first.result
          c.in_ok-halves.halves.fence c.in_ok-root.root.bytes c.in_ok-halves.halves.left.bytes
          c.in_ok-halves.halves.right.bytes c.in_ok-copy.copy.bytes c.in_ok-halves.halves is up
          c.in_ok-root.ensures.names (ap (λ e. e.child.0) c.least_entry-first.ensures) refl;
    }

pub copy_to-requires-clause-sized : goal.copy_to-requires-clause-sized
copy_to-requires-clause-sized c = subst IsSized (sym c.as_slice.ensures) c.requires.sized

pub copy_to-requires-clause-lawful : goal.copy_to-requires-clause-lawful
copy_to-requires-clause-lawful c = subst IsNodePage (sym c.as_slice.ensures) c.requires.lawful

pub halve-requires-clause-sized : goal.halve-requires-clause-sized
halve-requires-clause-sized c = sized_same c.args.full.bytes c.in_ok-copy.copy.bytes
    (c.in_ok-copy.ensures.copies.size ∙ ap (λ b. length b) c.as_slice.ensures) c.requires.sized

pub halve-requires-clause-lawful : goal.halve-requires-clause-lawful
halve-requires-clause-lawful c = c.in_ok-copy.ensures.copies.lawful

pub names_of-requires-clause-sized : goal.names_of-requires-clause-sized
names_of-requires-clause-sized c = sized_same c.args.full.bytes c.as_slice-2.result.now
    (ap (λ b. length b) c.as_slice-2.ensures ∙ (c.in_ok-halves.ensures.pair.splits.left_size
    ∙ (c.in_ok-copy.ensures.copies.size ∙ ap (λ b. length b) c.as_slice.ensures))) c.requires.sized

pub names_of-requires-clause-lawful : goal.names_of-requires-clause-lawful
names_of-requires-clause-lawful c = subst IsNodePage (sym c.as_slice-2.ensures)
    c.in_ok-halves.ensures.pair.left_lawful
