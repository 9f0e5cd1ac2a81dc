use Rattle.std.proofs.Common.{ap, sym, subst, ◌≡◌, ◌<◌, ◌∙◌, ℕ, List, length}
use Rattle.mg_btree.specs.ChangeLaws.{written_back}
use Rattle.mg_btree.proofs.HalvesLemmas.{pair_as}
use Rattle.mg_node.specs.NodePage.{IsNodePage}
use Rattle.mg_node_writing.specs.NodeChanges.{IsSized, most_need, room_in}
use Rattle.mg_btree.proofs.halves.split_pair.Goals as goal

pub returns : goal.returns
returns c =
    let left = c.split.ensures.splits.left_size in
    let right = c.split.ensures.splits.right_size in
    let left_len : c.into_vec-left.result.len ≡ length c.split.new.left =
    sym (left ∙ c.deref_mut.ensures.len) in
    let right_len : c.into_vec-right.result.len ≡ length c.split.new.right =
    sym (right ∙ (ap (length {A = ℕ}) (c.deref_mut.ensures.value ∙ c.into_vec-left.ensures)
    ∙ (sym c.requires.sizes ∙ (sym (ap (length {A = ℕ})
    (c.deref_mut-2.ensures.value ∙ c.into_vec-right.ensures)) ∙ c.deref_mut-2.ensures.len)))) in
    pair_as c.args.left c.deref_mut.result.now c.split.new.left c.split.new.right c.new.result
    c.new-2.result c.args.at.0 (c.deref_mut.ensures.value ∙ c.into_vec-left.ensures)
    (c.new.ensures ∙ written_back c.split.new.left c.into_vec-left.result.items
    c.into_vec-left.result.len left_len)
    (c.new-2.ensures ∙ written_back c.split.new.right c.into_vec-right.result.items
    c.into_vec-right.result.len right_len)
    (record {
      splits = c.split.ensures.splits;
      left_lawful = c.split.ensures.left_lawful;
      right_lawful = c.split.ensures.right_lawful;
      left_two = c.split.ensures.left_two;
      right_two = c.split.ensures.right_two;
      left_room = c.split.ensures.left_room;
      right_room = c.split.ensures.right_room;
    })

pub split-requires-clause-sized : goal.split-requires-clause-sized
split-requires-clause-sized c = subst IsSized
    (sym (c.deref_mut.ensures.value ∙ c.into_vec-left.ensures)) c.requires.sized

pub split-requires-clause-lawful : goal.split-requires-clause-lawful
split-requires-clause-lawful c = subst IsNodePage
    (sym (c.deref_mut.ensures.value ∙ c.into_vec-left.ensures)) c.requires.lawful

pub split-requires-clause-sizes : goal.split-requires-clause-sizes
split-requires-clause-sizes c = ap (length {A = ℕ}) (c.deref_mut-2.ensures.value ∙ c.into_vec-right.ensures)
    ∙ (c.requires.sizes ∙ sym (ap (length {A = ℕ}) (c.deref_mut.ensures.value ∙ c.into_vec-left.ensures)))

pub split-requires-clause-full : goal.split-requires-clause-full
split-requires-clause-full c = subst (λ (b : List ℕ). room_in b < most_need b)
    (sym (c.deref_mut.ensures.value ∙ c.into_vec-left.ensures)) c.requires.full
