use Rattle.std.proofs.Common.{ap, sym, subst, ◌≡◌, ◌≤◌, ◌/◌, ◌∙◌, ℕ, List, length}
use Rattle.mg_btree.specs.ChangeLaws.{written_back}
use Rattle.mg_btree.proofs.InsertingLemmas.{puts_with}
use Rattle.mg_btree.proofs.PutLemmas.{on_ok_as}
use Rattle.mg_node.specs.NodePage.{IsNodePage, level_in}
use Rattle.mg_node_writing.specs.NodeChanges.{IsSized}
use Rattle.mg_btree.specs.Halves.{CoversBy, HasRoom}
use Rattle.mg_btree.proofs.inserting.put_with.Goals as goal

pub returns-clause-puts : goal.returns-clause-puts
returns-clause-puts c =
    let len : c.into_vec-bytes.result.len ≡ length c.put_entry.new.b =
    sym (c.put_entry.ensures.len ∙ c.deref_mut.ensures.len) in
    on_ok_as c.put.result c.put.ensures.puts (λ puts. puts_with c.args.batch.now c.put.new.self
    c.args.page c.args.e.now c.deref_mut.result.now c.put_entry.new.b c.deref.result.now
    (c.deref_mut.ensures.value ∙ c.into_vec-bytes.ensures) c.put_entry.ensures.inserts
    c.put_entry.ensures.lawful c.put_entry.ensures.len
    (c.deref.ensures.value ∙ written_back c.put_entry.new.b c.into_vec-bytes.result.items
    c.into_vec-bytes.result.len len) puts)

pub put_entry-requires-clause-sized : goal.put_entry-requires-clause-sized
put_entry-requires-clause-sized c = subst IsSized
    (sym (c.deref_mut.ensures.value ∙ c.into_vec-bytes.ensures)) c.requires.sized

pub put_entry-requires-clause-lawful : goal.put_entry-requires-clause-lawful
put_entry-requires-clause-lawful c = subst IsNodePage
    (sym (c.deref_mut.ensures.value ∙ c.into_vec-bytes.ensures)) c.requires.lawful

pub put_entry-requires-clause-leaf : goal.put_entry-requires-clause-leaf
put_entry-requires-clause-leaf c = ap level_in (c.deref_mut.ensures.value ∙ c.into_vec-bytes.ensures)
    ∙ c.requires.leaf

pub put_entry-requires-clause-short : goal.put_entry-requires-clause-short
put_entry-requires-clause-short c = subst (λ (b : List ℕ). length c.args.e.now.key ≤ length b / 8)
    (sym (c.deref_mut.ensures.value ∙ c.into_vec-bytes.ensures)) c.requires.short

pub put_entry-requires-clause-covers : goal.put_entry-requires-clause-covers
put_entry-requires-clause-covers c = subst (λ (b : List ℕ). CoversBy b c.args.e.now)
    (sym (c.deref_mut.ensures.value ∙ c.into_vec-bytes.ensures)) c.requires.covers

pub put_entry-requires-clause-room : goal.put_entry-requires-clause-room
put_entry-requires-clause-room c = subst (λ (b : List ℕ). HasRoom b c.args.e.now)
    (sym (c.deref_mut.ensures.value ∙ c.into_vec-bytes.ensures)) c.requires.room
