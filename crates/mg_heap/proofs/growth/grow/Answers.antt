use Rattle.std.proofs.Common.{◌∙◌, ◌+◌, refl, subst, List, inl, sym, ℕ}
use Rattle.mg_heap.specs.Growth.{HasEntryRoom, RefusesGrowth}
use Rattle.mg_space.specs.HandedLaws.{fault_same}
use Rattle.mg_space.specs.ViewLaws.{tells_on, fault_on, keeps_on}
use Rattle.mg_space.specs.View.{pool_answer}
use Rattle.mg_heap.proofs.TableLemmas.{below_later, whole_before, geometry_later, handed_on, whole_later}
use Rattle.mg_heap.proofs.GrowthLemmas.{grows_in_last, grows_in_new, no_room}
use Rattle.mg_pointer.specs.PointerPage.{IsPointerPage}
use Rattle.mg_heap.proofs.HandedLemmas.{alone_read, length_as}
use Rattle.mg_heap.proofs.growth.grow.Goals as goal

pub returns-then-has_entry_room-clause-grows : goal.returns-then-has_entry_room-clause-grows
returns-then-has_entry_room-clause-grows g c = λ image tells.
    grows_in_last g.D.Disk.meaning c.args.store.now c.pointer_page.new.store image
    c.in_ok-pointer_page.ensures.keeps c.list_in_last.new.store c.args.batch.now c.list_in_last.new.batch
    c.args.owner.0 c.args.at.data c.args.at.pointer c.args.q.0 c.args.q c.deref_mut.result.now
    c.in_ok-pointer_page.field-0 c.list_in_last.result
    (c.deref_mut.ensures.value ∙ c.into_vec-pointer.ensures)
    (subst HasEntryRoom (c.deref.ensures.value ∙ c.into_vec-pointer.ensures)
    (c.has_entry_room.ensures.0 c.if-has_entry_room.true))
    (c.in_ok-pointer_page.ensures.seen image tells)
    (c.list_in_last.ensures.lists image (tells_on g.D.Disk.meaning c.args.store.now
    c.pointer_page.new.store image c.in_ok-pointer_page.ensures.keeps tells))

pub returns-clause-grows : goal.returns-clause-grows
returns-clause-grows g c = λ image tells.
    grows_in_new g.D.Disk.meaning c.args.store.now c.pointer_page.new.store image
    c.in_ok-pointer_page.ensures.keeps c.list_in_new.new.store c.args.batch.now c.list_in_new.new.batch
    c.args.owner.0 c.args.at.data c.args.at.pointer (c.args.at.pointer + 1) c.args.q.0 c.args.q
    c.deref_mut-else-has_entry_room.result.now
    c.in_ok-pointer_page.field-0 c.list_in_new.result
    (c.deref_mut-else-has_entry_room.ensures.value ∙ c.into_vec-pointer.ensures) refl
    (no_room c.deref.result.now c.in_ok-pointer_page.field-0 c.has_entry_room.result
    (c.deref.ensures.value ∙ c.into_vec-pointer.ensures) c.if-has_entry_room.false
    c.has_entry_room.ensures.1)
    (c.in_ok-pointer_page.ensures.seen image tells)
    (c.list_in_new.ensures.lists image (tells_on g.D.Disk.meaning c.args.store.now
    c.pointer_page.new.store image c.in_ok-pointer_page.ensures.keeps tells))

pub returns-then-has_entry_room-clause-keeps : goal.returns-then-has_entry_room-clause-keeps
returns-then-has_entry_room-clause-keeps g c = keeps_on g.D.Disk.meaning g.met.D.Disk.counts_now c.args.store.now
    c.pointer_page.new.store c.list_in_last.new.store c.in_ok-pointer_page.ensures.keeps c.list_in_last.ensures.keeps

pub returns-then-has_entry_room-clause-fault : goal.returns-then-has_entry_room-clause-fault
returns-then-has_entry_room-clause-fault g c = fault_on g.D.Disk.meaning c.args.store.now c.pointer_page.new.store
    c.list_in_last.new.store (pool_answer c.list_in_last.result) c.in_ok-pointer_page.ensures.keeps
    c.in_ok-pointer_page.ensures.fault.2 c.list_in_last.ensures.fault

pub returns-then-has_entry_room-clause-whole : goal.returns-then-has_entry_room-clause-whole
returns-then-has_entry_room-clause-whole g c = whole_before g.D.Disk.meaning c.args.store.now c.pointer_page.new.store
    c.in_ok-pointer_page.ensures.keeps c.list_in_last.new.batch.pages c.list_in_last.ensures.whole

pub returns-clause-keeps : goal.returns-clause-keeps
returns-clause-keeps g c = keeps_on g.D.Disk.meaning g.met.D.Disk.counts_now c.args.store.now
    c.pointer_page.new.store c.list_in_new.new.store c.in_ok-pointer_page.ensures.keeps c.list_in_new.ensures.keeps

pub returns-clause-fault : goal.returns-clause-fault
returns-clause-fault g c = fault_on g.D.Disk.meaning c.args.store.now c.pointer_page.new.store
    c.list_in_new.new.store (pool_answer c.list_in_new.result) c.in_ok-pointer_page.ensures.keeps
    c.in_ok-pointer_page.ensures.fault.2 c.list_in_new.ensures.fault

pub returns-clause-whole : goal.returns-clause-whole
returns-clause-whole g c = whole_before g.D.Disk.meaning c.args.store.now c.pointer_page.new.store
    c.in_ok-pointer_page.ensures.keeps c.list_in_new.new.batch.pages c.list_in_new.ensures.whole

pub returns-in_err-pointer_page-clause-keeps : goal.returns-in_err-pointer_page-clause-keeps
returns-in_err-pointer_page-clause-keeps g c = c.in_err-pointer_page.ensures.keeps

pub returns-in_err-pointer_page-clause-fault : goal.returns-in_err-pointer_page-clause-fault
returns-in_err-pointer_page-clause-fault g c = fault_same (List ℕ) g.D.Disk.meaning c.args.store.now
    c.pointer_page.new.store c.from_residual.result c.in_err-pointer_page.field-0.0
    c.from_residual.ensures.0 c.from_residual.ensures.1 c.in_err-pointer_page.ensures.fault

pub returns-in_err-pointer_page-clause-own : goal.returns-in_err-pointer_page-clause-own
returns-in_err-pointer_page-clause-own g c = alone_read (List ℕ) c.from_residual.result
    c.in_err-pointer_page.field-0.0 c.from_residual.ensures.0 c.from_residual.ensures.1
    c.in_err-pointer_page.ensures.own

pub returns-in_err-pointer_page-clause-whole : goal.returns-in_err-pointer_page-clause-whole
returns-in_err-pointer_page-clause-whole g c = c.requires.whole

pub returns-in_err-pointer_page-clause-grows : goal.returns-in_err-pointer_page-clause-grows
returns-in_err-pointer_page-clause-grows g c = λ image tells. handed_on c.from_residual.result
    c.in_err-pointer_page.field-0.0 _ (RefusesGrowth g.D.Disk.meaning c.args.store.now
    c.pointer_page.new.store image c.args.batch.now c.args.owner.0 c.args.at.pointer c.args.q)
    c.from_residual.ensures.0 c.from_residual.ensures.1 (inl (c.in_err-pointer_page.ensures.seen image
    tells))

pub returns-then-has_entry_room-clause-own : goal.returns-then-has_entry_room-clause-own
returns-then-has_entry_room-clause-own g c = c.list_in_last.ensures.own

pub returns-clause-own : goal.returns-clause-own
returns-clause-own g c = c.list_in_new.ensures.own

pub has_entry_room-requires : goal.has_entry_room-requires
has_entry_room-requires g c = subst IsPointerPage (sym (c.deref.ensures.value ∙ c.into_vec-pointer.ensures))
    c.in_ok-pointer_page.ensures.lawful

pub list_in_last-requires-clause-pool : goal.list_in_last-requires-clause-pool
list_in_last-requires-clause-pool g c = c.in_ok-pointer_page.ensures.keeps.pool

pub list_in_last-requires-clause-geometry : goal.list_in_last-requires-clause-geometry
list_in_last-requires-clause-geometry g c = geometry_later g.D.Disk.meaning c.args.store.now
    c.pointer_page.new.store c.in_ok-pointer_page.ensures.keeps c.requires.geometry

pub list_in_last-requires-clause-whole : goal.list_in_last-requires-clause-whole
list_in_last-requires-clause-whole g c = whole_later g.D.Disk.meaning c.args.store.now
    c.pointer_page.new.store c.in_ok-pointer_page.ensures.keeps c.args.batch.now.pages c.requires.whole

pub list_in_last-requires-clause-lawful : goal.list_in_last-requires-clause-lawful
list_in_last-requires-clause-lawful g c = subst IsPointerPage (sym (c.deref_mut.ensures.value ∙
    c.into_vec-pointer.ensures)) c.in_ok-pointer_page.ensures.lawful

pub list_in_last-requires-clause-len : goal.list_in_last-requires-clause-len
list_in_last-requires-clause-len g c = length_as c.deref_mut.result.now c.in_ok-pointer_page.field-0
    c.args.store.now.geometry c.pointer_page.new.store.geometry (c.deref_mut.ensures.value ∙
    c.into_vec-pointer.ensures) c.in_ok-pointer_page.ensures.len c.in_ok-pointer_page.ensures.keeps.geometry

pub list_in_new-requires-clause-pool : goal.list_in_new-requires-clause-pool
list_in_new-requires-clause-pool g c = c.in_ok-pointer_page.ensures.keeps.pool

pub list_in_new-requires-clause-geometry : goal.list_in_new-requires-clause-geometry
list_in_new-requires-clause-geometry g c = geometry_later g.D.Disk.meaning c.args.store.now
    c.pointer_page.new.store c.in_ok-pointer_page.ensures.keeps c.requires.geometry

pub list_in_new-requires-clause-whole : goal.list_in_new-requires-clause-whole
list_in_new-requires-clause-whole g c = whole_later g.D.Disk.meaning c.args.store.now
    c.pointer_page.new.store c.in_ok-pointer_page.ensures.keeps c.args.batch.now.pages c.requires.whole

pub list_in_new-requires-clause-lawful : goal.list_in_new-requires-clause-lawful
list_in_new-requires-clause-lawful g c = subst IsPointerPage (sym
    (c.deref_mut-else-has_entry_room.ensures.value ∙ c.into_vec-pointer.ensures))
    c.in_ok-pointer_page.ensures.lawful

pub list_in_new-requires-clause-len : goal.list_in_new-requires-clause-len
list_in_new-requires-clause-len g c = length_as c.deref_mut-else-has_entry_room.result.now
    c.in_ok-pointer_page.field-0 c.args.store.now.geometry c.pointer_page.new.store.geometry
    (c.deref_mut-else-has_entry_room.ensures.value ∙ c.into_vec-pointer.ensures)
    c.in_ok-pointer_page.ensures.len c.in_ok-pointer_page.ensures.keeps.geometry

pub list_in_last-requires-clause-room : goal.list_in_last-requires-clause-room
list_in_last-requires-clause-room g c = subst HasEntryRoom (c.deref.ensures.value ∙ sym
    c.deref_mut.ensures.value) (c.has_entry_room.ensures.0 c.if-has_entry_room.true)

pub list_in_last-requires-clause-below : goal.list_in_last-requires-clause-below
list_in_last-requires-clause-below g c = below_later g.D.Disk.meaning c.args.store.now
    c.pointer_page.new.store c.in_ok-pointer_page.ensures.keeps c.args.q.0 c.in_ok-pointer_page.ensures.below

pub list_in_new-requires-clause-below : goal.list_in_new-requires-clause-below
list_in_new-requires-clause-below g c = below_later g.D.Disk.meaning c.args.store.now
    c.pointer_page.new.store c.in_ok-pointer_page.ensures.keeps c.args.q.0 c.in_ok-pointer_page.ensures.below
