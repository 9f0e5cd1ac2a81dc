use Rattle.std.proofs.Common.{◌≡◌, ◌∙◌, ◌+◌, sym, ap, length, None, rules, arith, vec_len, false}
use Rattle.std.proofs.lemmas.List.{length-set, length_push, length-replicate}
use Rattle.mg_pool.specs.DirtyPage.{DirtyPage}
use Rattle.mg_pool.specs.Dirty.{content_of, bytes_of, DirtyPages}
use Rattle.mg_pool.proofs.DirtyLemmas.{whole_at, table-set, table-push, no_entry, put_again, put_new, spare-less, marks_at}
use Rattle.mg_pool.proofs.dirty.DirtyTable.put.Goals as goal

pub overwrite-requires : goal.overwrite-requires
overwrite-requires g c =
    let size_is : c.self.inside.size ≡ c.args.self.now.size = ap (λ (t : DirtyPages). t.size) c.self.view_is in
    let whole = whole_at c.self.inside.size c.self.inside.pages.items c.in-Some.place c.index_mut-entry.result.now c.self.invariant.0 c.in-Some.ensures.found.0 in
    c.requires.whole ∙ (sym size_is ∙ (sym whole ∙ sym (ap (λ (d : DirtyPage). length d.bytes) c.index_mut-entry.ensures.value)))

pub invariant_of-self : goal.invariant_of-self
invariant_of-self g c =
    let size_is : c.self.inside.size ≡ c.args.self.now.size = ap (λ (t : DirtyPages). t.size) c.self.view_is in
    let long : length c.overwrite.new.self.bytes ≡ c.self.inside.size = ap (λ (d : DirtyPage). length d.bytes) c.overwrite.ensures ∙ (c.requires.whole ∙ sym size_is) in
    (rw c.overwrite.ensures (table-set c.self.inside.size c.self.inside.pages.items c.in-Some.place _ c.index_mut-entry.result.now c.self.invariant.0 (sym (ap (λ (d : DirtyPage). d.page) c.index_mut-entry.ensures.value)) (c.requires.whole ∙ sym size_is) (ap (λ (d : DirtyPage). length d.marks) c.index_mut-entry.ensures.value ∙ marks_at c.self.inside.size c.self.inside.pages.items c.in-Some.place c.index_mut-entry.result.now c.self.invariant.0 c.in-Some.ensures.found.0)), c.self.invariant.1, rw length-set c.self.invariant.2, c.self.invariant.3, c.self.invariant.4)

pub returns-in-Some : goal.returns-in-Some
returns-in-Some g c =
    let size_is : c.self.inside.size ≡ c.args.self.now.size = ap (λ (t : DirtyPages). t.size) c.self.view_is in
    let long : length c.overwrite.new.self.bytes ≡ c.self.inside.size = ap (λ (d : DirtyPage). length d.bytes) c.overwrite.ensures ∙ (c.requires.whole ∙ sym size_is) in
    let here = c.in-Some.ensures.found.1 c.index_mut-entry.result.now in
    rw (← c.self.view_is, c.overwrite.ensures) (put_again c.self.inside.size c.self.inside.room c.self.inside.pages.items c.self.invariant.0 c.in-Some.place c.args.page c.index_mut-entry.result.now c.in-Some.ensures.found.0 here _ (ap (λ (d : DirtyPage). d.page) c.index_mut-entry.ensures.value ∙ here) (ap (λ (d : DirtyPage). d.marks) c.index_mut-entry.ensures.value) (c.requires.whole ∙ sym size_is))

pub invariant_of-self-in-Some-pop : goal.invariant_of-self-in-Some-pop
invariant_of-self-in-Some-pop g c =
    let size_is : c.self.inside.size ≡ c.args.self.now.size = ap (λ (t : DirtyPages). t.size) c.self.view_is in
    let long : length c.overwrite-in-Some-pop.new.self ≡ c.self.inside.size = ap length c.overwrite-in-Some-pop.ensures ∙ (c.requires.whole ∙ sym size_is) in
    let none = no_entry c.self.inside.pages.items c.args.page c.in_default.ensures.absent in
    let left = spare-less c.self.inside.size c.self.inside.spare.items c.pop.new.self.items c.in-Some-pop.buffer c.self.invariant.1 c.in-Some-pop.ensures.items in
    let more : length c.append.new.list.items ≡ length c.self.inside.pages.items + 1 = ap length c.append.ensures.items ∙ length_push c.self.inside.pages.items c.new.result in
    let less : length c.self.inside.spare.items ≡ length c.pop.new.self.items + 1 = ap length c.in-Some-pop.ensures.items ∙ length_push c.pop.new.self.items c.in-Some-pop.buffer in
    (rw (c.append.ensures.items, c.new.ensures) (table-push c.self.inside.size c.self.inside.pages.items _ c.self.invariant.0 none long (length-replicate 32 false)), left.0, omega (arith, more, less, c.self.invariant.2), omega (arith, c.append.ensures.capacity, c.self.invariant.3), omega (arith, c.pop.ensures.capacity, c.self.invariant.4))

pub returns-in-Some-pop : goal.returns-in-Some-pop
returns-in-Some-pop g c =
    let none = no_entry c.self.inside.pages.items c.args.page c.in_default.ensures.absent in
    rw (← c.self.view_is, c.append.ensures.items, c.new.ensures, c.overwrite-in-Some-pop.ensures) (put_new c.self.inside.size c.self.inside.room c.self.inside.pages.items c.args.page c.args.bytes.now none)

-- there is room, so a buffer waits
pub returns-in_default-pop : goal.returns-in_default-pop
unfolding content_of
returns-in_default-pop g c =
    let none = no_entry c.self.inside.pages.items c.args.page c.in_default.ensures.absent in
    let out : content_of c.args.self.now c.args.page ≡ None = rw (← c.self.view_is) (ap bytes_of none) in
    let room = rw (← c.self.view_is) at (c.requires.room out) in
    let none_waits : vec_len c.self.inside.spare ≡ 0 = c.in_default-pop.ensures.cases.0 in
    let no_buffer : length c.self.inside.spare.items ≡ 0 = search rules in
    absurd (omega (arith, room, no_buffer, c.self.invariant.2))
