use Rattle.std.proofs.Common.{◌≡◌, ◌∙◌, ◌+◌, ap, refl, length, false, arith, List}
use Rattle.std.proofs.lemmas.List.{length_push}
use Rattle.std.proofs.lemmas.Bool.{both_ways}
use Rattle.mg_pool.specs.DirtyPage.{DirtyPage}
use Rattle.mg_pool.specs.Dirty.{is_dirty, content_of}
use Rattle.mg_pool.proofs.DirtyLemmas.{table-remove, no_entry, take_changes, whole_at, spare-more, length-remove}
use Rattle.mg_pool.proofs.dirty.DirtyTable.take_out.Goals as goal

pub invariant_of-self : goal.invariant_of-self
invariant_of-self g c =
    let long : length c.remove-entry.result.bytes ≡ c.self.inside.size = ap (λ (d : DirtyPage). length d.bytes) c.remove-entry.ensures.value ∙ whole_at c.self.inside.size c.self.inside.pages.items c.in-Some.place c.remove-entry.result c.self.invariant.0 c.in-Some.ensures.found.0 in
    let less : length c.remove-entry.new.self.items + 1 ≡ length c.self.inside.pages.items = ap (λ (xs : List DirtyPage). length xs + 1) c.remove-entry.ensures.items ∙ length-remove c.self.inside.pages.items c.in-Some.place c.in-Some.ensures.found.0 in
    let more : length c.append.new.list.items ≡ length c.self.inside.spare.items + 1 = ap length c.append.ensures.items ∙ length_push c.self.inside.spare.items c.into_bytes.result in
    (rw c.remove-entry.ensures.items (table-remove c.self.inside.size c.self.inside.pages.items c.in-Some.place c.self.invariant.0), rw (c.append.ensures.items, c.into_bytes.ensures) (spare-more c.self.inside.size c.self.inside.spare.items c.remove-entry.result.bytes c.self.invariant.1 long), omega (arith, less, more, c.self.invariant.2), omega (arith, c.remove-entry.ensures.capacity, c.self.invariant.3), omega (arith, c.append.ensures.capacity, c.self.invariant.4))

pub returns-in-Some-clause-taken : goal.returns-in-Some-clause-taken
returns-in-Some-clause-taken g c =
    rw (← c.self.view_is, c.remove-entry.ensures.items) (take_changes c.self.inside.size c.self.inside.room c.self.inside.pages.items c.self.invariant.0 c.in-Some.place c.args.page c.remove-entry.result c.in-Some.ensures.found.0 (c.in-Some.ensures.found.1 c.remove-entry.result))

pub returns-in_default-clause-taken : goal.returns-in_default-clause-taken
unfolding content_of
returns-in_default-clause-taken g c =
    let none : is_dirty c.args.self.now c.args.page ≡ false = rw (← c.self.view_is, no_entry c.self.inside.pages.items c.args.page c.in_default.ensures.absent) refl in
    absurd (both_ways _ none c.requires)

pub returns-in_default-clause-room : goal.returns-in_default-clause-room
unfolding content_of
returns-in_default-clause-room g c =
    let none : is_dirty c.args.self.now c.args.page ≡ false =
    rw (← c.self.view_is, no_entry c.self.inside.pages.items c.args.page c.in_default.ensures.absent) refl
    in
    absurd (both_ways _ none c.requires)
