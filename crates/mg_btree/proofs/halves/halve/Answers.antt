use Rattle.std.proofs.Common.{◌∙◌, ap, refl, sym, subst, ℕ, length}
use Rattle.std.proofs.lemmas.List.{length-replicate}
use Rattle.mg_node.specs.NodePage.{IsNodePage, low_of}
use Rattle.mg_node_writing.specs.Moves.{as_fence}
use Rattle.mg_btree.specs.Halves.{names_in}
use Rattle.mg_btree.proofs.WrittenLemmas.{low_there, sized_same}
use Rattle.mg_btree.proofs.halves.halve.Goals as goal

pub split_pair-left-requires-clause-sizes : goal.split_pair-left-requires-clause-sizes
split_pair-left-requires-clause-sizes c = ap (length {A = ℕ}) c.in_ok-blank.ensures
    ∙ (length-replicate c.len.result 0 ∙ c.len.ensures)

pub fence_of-requires-clause-sized : goal.fence_of-requires-clause-sized
fence_of-requires-clause-sized c = sized_same c.args.full.bytes c.as_slice.result.now
    (ap (length {A = ℕ}) c.as_slice.ensures ∙ c.split_pair-left.ensures.splits.right_size) c.requires.sized

pub fence_of-requires-clause-lawful : goal.fence_of-requires-clause-lawful
fence_of-requires-clause-lawful c = subst IsNodePage (sym c.as_slice.ensures) c.split_pair-left.ensures.right_lawful

pub fence_of-requires-clause-there : goal.fence_of-requires-clause-there
fence_of-requires-clause-there c = low_there c.as_slice.result.now (as_fence c.split_pair-left.ensures.splits.given)
    (ap low_of c.as_slice.ensures ∙ c.split_pair-left.ensures.splits.fence)

pub names_of-requires-clause-sized : goal.names_of-requires-clause-sized
names_of-requires-clause-sized c = sized_same c.args.full.bytes c.as_slice-2.result.now
    (ap (length {A = ℕ}) c.as_slice-2.ensures ∙ c.split_pair-left.ensures.splits.right_size) c.requires.sized

pub names_of-requires-clause-lawful : goal.names_of-requires-clause-lawful
names_of-requires-clause-lawful c = subst IsNodePage (sym c.as_slice-2.ensures)
    c.split_pair-left.ensures.right_lawful

pub returns : goal.returns
returns c = record {
  left_own = refl;
  right_own = refl;
  pair = c.split_pair-left.ensures;
  fence = ap low_of (sym c.as_slice.ensures) ∙ c.in_ok-fence.ensures.fence;
  child = ap (λ p. p.0) c.in_ok-fence.ensures.child;
  names = c.in_ok-names.ensures ∙ ap names_in c.as_slice-2.ensures;
}
