use Rattle.std.proofs.Common.{◌≡◌, ◌∙◌, ap, arith, inr, refl}
use Rattle.mg_base.specs.declared.geometry.Geometry.{Geometry}
use Rattle.mg_image.specs.Form.{Pages}
use Rattle.mg_space.specs.HandedLaws.{fault_memory, fault_same, no_answer, out_of_memory}
use Rattle.mg_space.specs.declared.fault.SpaceFault.TheVariants as faults
use Rattle.mg_space.specs.View.{viewed}
use Rattle.mg_heap.specs.HandedLaws.{reads_same}
use Rattle.mg_heap.specs.Table.{RefusesPointer}
use Rattle.mg_heap.proofs.LookupLemmas.{count_fits, here_passes, looks_here, looks_past, past_passes}
use Rattle.mg_heap.proofs.TableLemmas.{as_started, handed_on, link_refused, page_refused, whole_later}
use Rattle.mg_heap.proofs.HoldingLemmas.{pointer_lawful, pointer_tested}
use Rattle.mg_heap.proofs.HandedLemmas.{fault_damage, reads_damage, reads_memory}
use Rattle.mg_heap.proofs.lookup.look_up.Goals as goal

pub returns-in_err-hold_pointer-clause-looks : goal.returns-in_err-hold_pointer-clause-looks
returns-in_err-hold_pointer-clause-looks g c = λ image tells. handed_on c.from_residual.result
    c.in_err-hold_pointer.field-0.0 _
    (RefusesPointer g.D.Disk.meaning c.hold_pointer.new.store c.args.batch.now.pages
    (viewed c.args.store.now image c.args.batch.now) c.args.owner.0 c.args.pointers.now.items c.args.n)
    c.from_residual.ensures.0 c.from_residual.ensures.1
    (page_refused g.D.Disk.meaning c.hold_pointer.new.store c.args.batch.now.pages
    (viewed c.args.store.now image c.args.batch.now) c.args.owner.0 c.len.result
    c.args.pointers.now.items c.args.n c.in_err-hold_pointer.field-0.0 (omega arith)
    (c.in_err-hold_pointer.ensures.seen image tells))

pub returns-in_err-hold_pointer-clause-keeps : goal.returns-in_err-hold_pointer-clause-keeps
returns-in_err-hold_pointer-clause-keeps g c = c.in_err-hold_pointer.ensures.keeps

pub returns-in_err-hold_pointer-clause-fault : goal.returns-in_err-hold_pointer-clause-fault
returns-in_err-hold_pointer-clause-fault g c = fault_same (Unit {0}) g.D.Disk.meaning c.args.store.now
    c.hold_pointer.new.store c.from_residual.result c.in_err-hold_pointer.field-0.0
    c.from_residual.ensures.0
    c.from_residual.ensures.1 c.in_err-hold_pointer.ensures.fault

pub returns-in_err-hold_pointer-clause-own : goal.returns-in_err-hold_pointer-clause-own
returns-in_err-hold_pointer-clause-own g c = reads_same (Unit {0}) c.from_residual.result
    c.in_err-hold_pointer.field-0.0
    c.from_residual.ensures.0 c.from_residual.ensures.1 c.in_err-hold_pointer.ensures.own

pub returns-in_err-hold_pointer-clause-passes : goal.returns-in_err-hold_pointer-clause-passes
returns-in_err-hold_pointer-clause-passes g c = no_answer _ c.from_residual.result c.from_residual.ensures.0

pub returns-in_err-push-clause-keeps : goal.returns-in_err-push-clause-keeps
returns-in_err-push-clause-keeps g c = c.in_ok-hold_pointer.ensures.keeps

pub returns-in_err-push-clause-passes : goal.returns-in_err-push-clause-passes
returns-in_err-push-clause-passes g c = no_answer _ c.from_residual-in_err-push.result
    c.from_residual-in_err-push.ensures.0

pub returns-in_err-push-clause-fault : goal.returns-in_err-push-clause-fault
returns-in_err-push-clause-fault g c = fault_memory g.D.Disk.meaning c.args.store.now
    c.hold_pointer.new.store c.from_residual-in_err-push.result c.from_residual-in_err-push.ensures.0
    c.from_residual-in_err-push.ensures.1 c.in_ok-hold_pointer.ensures.fault

pub returns-in_err-push-clause-own : goal.returns-in_err-push-clause-own
returns-in_err-push-clause-own g c = reads_memory c.from_residual-in_err-push.result
    c.from_residual-in_err-push.ensures.1

pub returns-in_err-push-clause-looks : goal.returns-in_err-push-clause-looks
returns-in_err-push-clause-looks g c = λ image tells. handed_on c.from_residual-in_err-push.result
    out_of_memory _ (RefusesPointer g.D.Disk.meaning c.hold_pointer.new.store c.args.batch.now.pages (viewed
    c.args.store.now image c.args.batch.now) c.args.owner.0 c.args.pointers.now.items c.args.n)
    c.from_residual-in_err-push.ensures.0 c.from_residual-in_err-push.ensures.1 tt

pub returns-in_err-next-clause-looks : goal.returns-in_err-next-clause-looks
returns-in_err-next-clause-looks g c = λ image tells. handed_on c.from_residual-in_err-next.result
    (faults.Damaged c.in_err-next.field-0.0) _
    (RefusesPointer g.D.Disk.meaning c.hold_pointer.new.store c.args.batch.now.pages
    (viewed c.args.store.now image c.args.batch.now) c.args.owner.0 c.args.pointers.now.items c.args.n)
    c.from_residual-in_err-next.ensures.0 c.from_residual-in_err-next.ensures.1
    (inr (link_refused (viewed c.args.store.now image c.args.batch.now) c.args.owner.0 c.len.result
    c.args.pointers.now.items c.push.new.self.items c.args.n c.lent-page.result.now
    c.in_err-next.field-0.0 (omega arith) (as_started g.D.Disk.meaning c.args.store.now
    c.hold_pointer.new.store image
    c.args.batch.now c.in_ok-hold_pointer.ensures.keeps tells
    (λ (pages : Pages). c.lent-page.result.now ≡ pages c.args.n.0) (c.lent-page.ensures.seen image))
    (pointer_tested c.hold_pointer.new.store c.args.batch.now.pages c.args.owner.0 c.len.result
    c.args.n c.lent-page.result.now c.lent-page.ensures.read c.in_ok-hold_pointer.ensures.held)
    c.in_ok-push.ensures.items
    c.in_err-next.ensures))

pub returns-in_err-next-clause-keeps : goal.returns-in_err-next-clause-keeps
returns-in_err-next-clause-keeps g c = c.in_ok-hold_pointer.ensures.keeps

pub returns-in_err-next-clause-passes : goal.returns-in_err-next-clause-passes
returns-in_err-next-clause-passes g c = no_answer _ c.from_residual-in_err-next.result
    c.from_residual-in_err-next.ensures.0

pub returns-in_err-next-clause-fault : goal.returns-in_err-next-clause-fault
returns-in_err-next-clause-fault g c = fault_damage g.D.Disk.meaning c.args.store.now
    c.hold_pointer.new.store c.from_residual-in_err-next.result c.in_err-next.field-0.0
    c.from_residual-in_err-next.ensures.0 c.from_residual-in_err-next.ensures.1
    c.in_ok-hold_pointer.ensures.fault

pub returns-in_err-next-clause-own : goal.returns-in_err-next-clause-own
returns-in_err-next-clause-own g c = reads_damage c.from_residual-in_err-next.result
    c.in_err-next.field-0.0 c.from_residual-in_err-next.ensures.1

pub returns-in-Some-clause-keeps : goal.returns-in-Some-clause-keeps
returns-in-Some-clause-keeps g c = c.in_ok-hold_pointer.ensures.keeps

pub returns-in-Some-clause-fault : goal.returns-in-Some-clause-fault
returns-in-Some-clause-fault g c = c.in_ok-hold_pointer.ensures.fault

pub returns-in-Some-clause-passes : goal.returns-in-Some-clause-passes
returns-in-Some-clause-passes g c = here_passes c.args.pointers.now.items c.args.pointers.now.items
    c.args.n.0 c.args.rest c.args.store.now.geometry.size c.lent-page.result.now c.lent-page.result.now
    c.requires.geometry.size (c.lent-page.ensures.len
    ∙ ap (λ (k : Geometry). k.size) c.in_ok-hold_pointer.ensures.keeps.geometry) (pointer_lawful
    c.hold_pointer.new.store c.args.batch.now.pages c.args.owner.0 c.len.result
    c.args.n c.lent-page.result.now c.lent-page.ensures.read c.in_ok-hold_pointer.ensures.held) refl
    c.in-Some.found refl c.in-Some.ensures.0

pub returns-in-Some-clause-looks : goal.returns-in-Some-clause-looks
returns-in-Some-clause-looks g c = λ image tells. looks_here
    (viewed c.args.store.now image c.args.batch.now) c.args.owner.0 c.len.result
    c.args.pointers.now.items c.args.n.0 c.args.rest c.lent-page.result.now (omega arith)
    (as_started g.D.Disk.meaning c.args.store.now c.hold_pointer.new.store image
    c.args.batch.now c.in_ok-hold_pointer.ensures.keeps tells
    (λ (pages : Pages). c.lent-page.result.now ≡ pages c.args.n.0) (c.lent-page.ensures.seen image))
    (pointer_tested c.hold_pointer.new.store c.args.batch.now.pages c.args.owner.0 c.len.result
    c.args.n c.lent-page.result.now c.lent-page.ensures.read c.in_ok-hold_pointer.ensures.held)
    c.lent-page.result.now
    c.in-Some.found refl c.in-Some.ensures

pub returns-clause-keeps : goal.returns-clause-keeps
returns-clause-keeps g c = c.in_ok-hold_pointer.ensures.keeps

pub returns-clause-fault : goal.returns-clause-fault
returns-clause-fault g c = c.in_ok-hold_pointer.ensures.fault

pub returns-clause-passes : goal.returns-clause-passes
returns-clause-passes g c = past_passes c.args.pointers.now.items c.push.new.self.items
    c.args.n.0 c.args.rest c.args.store.now.geometry.size c.lent-page.result.now c.lent-page.result.now
    c.requires.geometry.size (c.lent-page.ensures.len
    ∙ ap (λ (k : Geometry). k.size) c.in_ok-hold_pointer.ensures.keeps.geometry) (pointer_lawful
    c.hold_pointer.new.store c.args.batch.now.pages c.args.owner.0 c.len.result
    c.args.n c.lent-page.result.now c.lent-page.ensures.read c.in_ok-hold_pointer.ensures.held) refl
    c.entry_count.result c.in_ok-next.next c.in_ok-push.ensures.items
    c.in_ok-next.ensures c.entry_count.ensures.is

pub returns-clause-looks : goal.returns-clause-looks
returns-clause-looks g c = λ image tells. looks_past
    (viewed c.args.store.now image c.args.batch.now) c.args.owner.0 c.len.result
    c.args.pointers.now.items c.args.n.0 c.args.rest c.lent-page.result.now (omega arith)
    (as_started g.D.Disk.meaning c.args.store.now c.hold_pointer.new.store image
    c.args.batch.now c.in_ok-hold_pointer.ensures.keeps tells
    (λ (pages : Pages). c.lent-page.result.now ≡ pages c.args.n.0) (c.lent-page.ensures.seen image))
    (pointer_tested c.hold_pointer.new.store c.args.batch.now.pages c.args.owner.0 c.len.result
    c.args.n c.lent-page.result.now c.lent-page.ensures.read c.in_ok-hold_pointer.ensures.held)
    c.lent-page.result.now
    c.lent-page.result.now c.push.new.self.items c.entry_count.result c.in_ok-next.next
    refl refl c.in_default.ensures c.entry_count.ensures.is
    c.in_ok-next.ensures

pub overflow_sub-left : goal.overflow_sub-left
overflow_sub-left g c = count_fits c.lent-page.result.now c.lent-page.result.now c.lent-page.result.now
    c.entry_count.result c.args.rest refl refl c.in_default.ensures
    c.entry_count.ensures.is

pub lent-page-requires-clause-whole : goal.lent-page-requires-clause-whole
lent-page-requires-clause-whole g c = whole_later g.D.Disk.meaning c.args.store.now
    c.hold_pointer.new.store c.in_ok-hold_pointer.ensures.keeps c.args.batch.now.pages c.requires.whole

pub entry_at-requires : goal.entry_at-requires
entry_at-requires g c = pointer_lawful c.hold_pointer.new.store c.args.batch.now.pages c.args.owner.0
    c.len.result c.args.n c.lent-page.result.now c.lent-page.ensures.read
    c.in_ok-hold_pointer.ensures.held

pub linked-requires : goal.linked-requires
linked-requires g c = pointer_lawful c.hold_pointer.new.store c.args.batch.now.pages c.args.owner.0
    c.len.result c.args.n c.lent-page.result.now c.lent-page.ensures.read
    c.in_ok-hold_pointer.ensures.held

pub entry_count-requires : goal.entry_count-requires
entry_count-requires g c = pointer_lawful c.hold_pointer.new.store c.args.batch.now.pages c.args.owner.0
    c.len.result c.args.n c.lent-page.result.now c.lent-page.ensures.read
    c.in_ok-hold_pointer.ensures.held
