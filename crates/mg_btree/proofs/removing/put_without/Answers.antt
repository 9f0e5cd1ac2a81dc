use Rattle.std.proofs.Common.{sym, subst, ◌≡◌, ◌∙◌, length}
use Rattle.mg_btree.specs.ChangeLaws.{puts_without, written_back}
use Rattle.mg_node.specs.NodePage.{IsNodePage}
use Rattle.mg_node_writing.specs.NodeChanges.{IsSized}
use Rattle.mg_btree.proofs.removing.put_without.Goals as goal

pub returns-clause-puts : goal.returns-clause-puts
returns-clause-puts c =
    let len : c.into_vec-bytes.result.len ≡ length c.remove.new.b =
    sym (c.remove.ensures.keeps.size ∙ c.deref_mut.ensures.len) in
    puts_without c.args.batch.now c.put.new.self c.args.read c.args.e.now
    c.deref_mut.result.now c.remove.new.b c.deref.result.now (c.deref_mut.ensures.value ∙ c.into_vec-bytes.ensures)
    (c.remove.ensures.when.0 c.if-not-remove.false) (c.remove.ensures.removes c.if-not-remove.false)
    c.remove.ensures.lawful c.requires.leaf
    (c.deref.ensures.value ∙ written_back c.remove.new.b c.into_vec-bytes.result.items
    c.into_vec-bytes.result.len len) c.in_ok-put.ensures.puts

pub remove-requires-clause-sized : goal.remove-requires-clause-sized
remove-requires-clause-sized c = subst IsSized
    (sym (c.deref_mut.ensures.value ∙ c.into_vec-bytes.ensures)) c.requires.sized

pub remove-requires-clause-lawful : goal.remove-requires-clause-lawful
remove-requires-clause-lawful c = subst IsNodePage
    (sym (c.deref_mut.ensures.value ∙ c.into_vec-bytes.ensures)) c.requires.lawful
