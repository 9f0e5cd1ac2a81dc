use Rattle.std.proofs.Common.{◌∙◌, refl, sym, subst, ℕ, List}
use Rattle.mg_node_writing.specs.NewNodes.{CopiesNode}
use Rattle.mg_btree.proofs.WrittenLemmas.{written}
use Rattle.mg_btree.proofs.growing.copy_to.Goals as goal

pub copy_node-requires-clause-sizes : goal.copy_node-requires-clause-sizes
copy_node-requires-clause-sizes c = c.deref_mut.ensures.len ∙ c.in_ok-bytes.ensures.len

pub returns-clause-page : goal.returns-clause-page
returns-clause-page c = refl

pub returns-clause-bytes : goal.returns-clause-bytes
returns-clause-bytes c =
    let copies = c.copy_node.ensures.copies c.requires.lawful in
    let sizes = c.deref_mut.ensures.len ∙ c.in_ok-bytes.ensures.len in
    written c.in_ok-bytes.bytes.len c.deref_mut.result.now c.copy_node.new.to c.in_ok-bytes.bytes.items
    c.new.result c.deref_mut.ensures.len (copies.size ∙ sym sizes) c.new.ensures
    ∙ c.copy_node.ensures.bytes

pub returns-clause-copies : goal.returns-clause-copies
returns-clause-copies c =
    let copies = c.copy_node.ensures.copies c.requires.lawful in
    let sizes = c.deref_mut.ensures.len ∙ c.in_ok-bytes.ensures.len in
    subst (λ (b : List ℕ). CopiesNode c.args.from.now b c.args.page.0)
    (sym (written c.in_ok-bytes.bytes.len c.deref_mut.result.now c.copy_node.new.to
    c.in_ok-bytes.bytes.items c.new.result c.deref_mut.ensures.len (copies.size ∙ sym sizes)
    c.new.ensures)) copies
