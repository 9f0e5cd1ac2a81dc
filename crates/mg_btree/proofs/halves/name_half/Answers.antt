use Rattle.std.proofs.Common.{◌≡◌, ◌<◌, ◌≤◌, ◌/◌, ◌∙◌, List, ap, sym, subst, length, ℕ}
use Rattle.mg_node.specs.NodePage.{IsNodePage, count_in, entries_of, is_inner}
use Rattle.mg_btree.specs.ChangeLaws.{written_back}
use Rattle.mg_btree.proofs.HalvesLemmas.{names_as, some_of}
use Rattle.mg_node_writing.specs.NodeChanges.{IsSized}
use Rattle.mg_btree.specs.Halves.{CoversBy, HasPlace, HasRoom}
use Rattle.mg_btree.proofs.halves.name_half.Goals as goal

pub put_name-requires-clause-some : goal.put_name-requires-clause-some
put_name-requires-clause-some c = subst (λ (b : List ℕ). 0 < count_in b)
    (sym (c.deref_mut.ensures.value ∙ c.into_vec-bytes.ensures))
    (some_of c.args.above.bytes c.requires.inner c.requires.enough)

pub returns-clause-names : goal.returns-clause-names
returns-clause-names c =
    let len : c.into_vec-bytes.result.len ≡ length c.put_name.new.b =
    sym (c.put_name.ensures.keeps.size ∙ c.deref_mut.ensures.len) in
    names_as c.args.above.bytes c.deref_mut.result.now c.put_name.new.b c.new.result c.args.fence.now
    (c.deref_mut.ensures.value ∙ c.into_vec-bytes.ensures)
    (c.new.ensures ∙ written_back c.put_name.new.b c.into_vec-bytes.result.items
    c.into_vec-bytes.result.len len) c.put_name.ensures

pub check_free-requires-clause-sized : goal.check_free-requires-clause-sized
check_free-requires-clause-sized c = subst IsSized (sym c.as_slice.ensures) c.requires.sized

pub check_free-requires-clause-lawful : goal.check_free-requires-clause-lawful
check_free-requires-clause-lawful c = subst IsNodePage (sym c.as_slice.ensures) c.requires.lawful

pub put_name-requires-clause-sized : goal.put_name-requires-clause-sized
put_name-requires-clause-sized c = subst IsSized
    (sym (c.deref_mut.ensures.value ∙ c.into_vec-bytes.ensures)) c.requires.sized

pub put_name-requires-clause-lawful : goal.put_name-requires-clause-lawful
put_name-requires-clause-lawful c = subst IsNodePage
    (sym (c.deref_mut.ensures.value ∙ c.into_vec-bytes.ensures)) c.requires.lawful

pub put_name-requires-clause-inner : goal.put_name-requires-clause-inner
put_name-requires-clause-inner c = ap is_inner (c.deref_mut.ensures.value ∙ c.into_vec-bytes.ensures)
    ∙ c.requires.inner

pub put_name-requires-clause-short : goal.put_name-requires-clause-short
put_name-requires-clause-short c = subst (λ (b : List ℕ). length c.args.fence.now.key ≤ length b / 8)
    (sym (c.deref_mut.ensures.value ∙ c.into_vec-bytes.ensures)) c.requires.short

pub put_name-requires-clause-covers : goal.put_name-requires-clause-covers
put_name-requires-clause-covers c = subst (λ (b : List ℕ). CoversBy b c.args.fence.now)
    (sym (c.deref_mut.ensures.value ∙ c.into_vec-bytes.ensures)) c.requires.covers

pub put_name-requires-clause-room : goal.put_name-requires-clause-room
put_name-requires-clause-room c = subst (λ (b : List ℕ). HasRoom b c.args.fence.now)
    (sym (c.deref_mut.ensures.value ∙ c.into_vec-bytes.ensures)) c.requires.room

pub put_name-requires-clause-free : goal.put_name-requires-clause-free
put_name-requires-clause-free c = subst (λ (b : List ℕ). HasPlace (entries_of b) c.args.fence.now → ⊥)
    (c.as_slice.ensures ∙ sym (c.deref_mut.ensures.value ∙ c.into_vec-bytes.ensures))
    c.in_ok-check_free.ensures
