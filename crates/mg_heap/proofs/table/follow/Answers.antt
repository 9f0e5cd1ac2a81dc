use Rattle.std.proofs.Common.{◌≡◌, ◌∙◌, ap, arith, inr}
use Rattle.mg_base.specs.declared.geometry.Geometry.{Geometry}
use Rattle.mg_image.specs.Form.{Pages}
use Rattle.mg_space.specs.HandedLaws.{fault_memory, fault_same, no_answer, out_of_memory}
use Rattle.mg_space.specs.declared.fault.SpaceFault.TheVariants as faults
use Rattle.mg_space.specs.View.{viewed}
use Rattle.mg_heap.specs.HandedLaws.{reads_same}
use Rattle.mg_heap.specs.Table.{RefusesPointer}
use Rattle.mg_heap.proofs.TableLemmas.{as_started, entries_few, handed_on, link_refused, page_refused, follows_page, lists_page, whole_later}
use Rattle.mg_heap.proofs.HoldingLemmas.{pointer_lawful, pointer_tested}
use Rattle.mg_heap.proofs.HandedLemmas.{fault_damage, reads_damage, reads_memory}
use Rattle.mg_heap.proofs.table.follow.Goals as goal

pub returns-in_err-hold_pointer-clause-follows : goal.returns-in_err-hold_pointer-clause-follows
returns-in_err-hold_pointer-clause-follows g c = λ image tells. handed_on c.from_residual.result
    c.in_err-hold_pointer.field-0.0 _
    (RefusesPointer g.D.Disk.meaning c.hold_pointer.new.store c.args.batch.now.pages
    (viewed c.args.store.now image c.args.batch.now) c.args.owner.0 c.args.pointers.now.items c.args.n)
    c.from_residual.ensures.0 c.from_residual.ensures.1
    (page_refused g.D.Disk.meaning c.hold_pointer.new.store c.args.batch.now.pages
    (viewed c.args.store.now image c.args.batch.now) c.args.owner.0 c.len.result
    c.args.pointers.now.items c.args.n c.in_err-hold_pointer.field-0.0 (omega arith)
    (c.in_err-hold_pointer.ensures.seen image tells))

pub returns-in_err-linked-clause-follows : goal.returns-in_err-linked-clause-follows
returns-in_err-linked-clause-follows g c = λ image tells. handed_on c.from_residual-in_err-linked.result
    (faults.Damaged c.in_err-linked.field-0.0) _
    (RefusesPointer g.D.Disk.meaning c.hold_pointer.new.store c.args.batch.now.pages
    (viewed c.args.store.now image c.args.batch.now) c.args.owner.0 c.args.pointers.now.items c.args.n)
    c.from_residual-in_err-linked.ensures.0 c.from_residual-in_err-linked.ensures.1
    (inr (link_refused (viewed c.args.store.now image c.args.batch.now) c.args.owner.0 c.len.result
    c.args.pointers.now.items c.push.new.self.items c.args.n c.lent-page.result.now
    c.in_err-linked.field-0.0 (omega arith) (as_started g.D.Disk.meaning c.args.store.now
    c.hold_pointer.new.store image
    c.args.batch.now c.in_ok-hold_pointer.ensures.keeps tells
    (λ (pages : Pages). c.lent-page.result.now ≡ pages c.args.n.0) (c.lent-page.ensures.seen image))
    (pointer_tested c.hold_pointer.new.store c.args.batch.now.pages c.args.owner.0 c.len.result
    c.args.n c.lent-page.result.now c.lent-page.ensures.read c.in_ok-hold_pointer.ensures.held)
    c.in_ok-push.ensures.items
    c.in_err-linked.ensures))

pub returns-clause-few : goal.returns-clause-few
returns-clause-few g c = entries_few c.lent-page.result.now c.args.data_pages.now.items
    c.add_entries.new.data_pages.items c.args.store.now.geometry.size c.requires.geometry.size
    (c.lent-page.ensures.len
    ∙ ap (λ (k : Geometry). k.size) c.in_ok-hold_pointer.ensures.keeps.geometry) (pointer_lawful
    c.hold_pointer.new.store c.args.batch.now.pages c.args.owner.0 c.len.result
    c.args.n c.lent-page.result.now c.lent-page.ensures.read c.in_ok-hold_pointer.ensures.held)
    c.in_ok-add_entries.ensures

pub returns-clause-lists : goal.returns-clause-lists
returns-clause-lists g c = lists_page c.args.pointers.now.items c.push.new.self.items c.args.n.0
    c.lent-page.result.now c.in_ok-linked.field-0.0 c.in_ok-push.ensures.items
    c.in_ok-linked.ensures

pub returns-clause-follows : goal.returns-clause-follows
returns-clause-follows g c = λ image tells. follows_page
    (viewed c.args.store.now image c.args.batch.now) c.args.owner.0 c.len.result
    c.args.pointers.now.items c.push.new.self.items c.args.n.0 c.lent-page.result.now
    c.args.data_pages.now.items c.add_entries.new.data_pages.items c.in_ok-linked.field-0.0
    (omega arith) (as_started g.D.Disk.meaning c.args.store.now c.hold_pointer.new.store image
    c.args.batch.now c.in_ok-hold_pointer.ensures.keeps tells
    (λ (pages : Pages). c.lent-page.result.now ≡ pages c.args.n.0) (c.lent-page.ensures.seen image))
    (pointer_tested c.hold_pointer.new.store c.args.batch.now.pages c.args.owner.0 c.len.result
    c.args.n c.lent-page.result.now c.lent-page.ensures.read c.in_ok-hold_pointer.ensures.held)
    c.in_ok-add_entries.ensures
    c.in_ok-linked.ensures

pub returns-in_err-hold_pointer-clause-keeps : goal.returns-in_err-hold_pointer-clause-keeps
returns-in_err-hold_pointer-clause-keeps g c = c.in_err-hold_pointer.ensures.keeps

pub returns-in_err-hold_pointer-clause-fault : goal.returns-in_err-hold_pointer-clause-fault
returns-in_err-hold_pointer-clause-fault g c = fault_same (Unit {0}) g.D.Disk.meaning c.args.store.now
    c.hold_pointer.new.store c.from_residual.result c.in_err-hold_pointer.field-0.0
    c.from_residual.ensures.0
    c.from_residual.ensures.1 c.in_err-hold_pointer.ensures.fault

pub returns-in_err-hold_pointer-clause-own : goal.returns-in_err-hold_pointer-clause-own
returns-in_err-hold_pointer-clause-own g c = reads_same (Unit {0}) c.from_residual.result
    c.in_err-hold_pointer.field-0.0
    c.from_residual.ensures.0 c.from_residual.ensures.1 c.in_err-hold_pointer.ensures.own

pub returns-in_err-hold_pointer-clause-few : goal.returns-in_err-hold_pointer-clause-few
returns-in_err-hold_pointer-clause-few g c = no_answer _ c.from_residual.result c.from_residual.ensures.0

pub returns-in_err-hold_pointer-clause-lists : goal.returns-in_err-hold_pointer-clause-lists
returns-in_err-hold_pointer-clause-lists g c = no_answer _ c.from_residual.result c.from_residual.ensures.0

pub returns-in_err-hold_pointer-clause-reads : goal.returns-in_err-hold_pointer-clause-reads
returns-in_err-hold_pointer-clause-reads g c = c.in_err-hold_pointer.ensures.reads

pub returns-in_err-add_entries-clause-keeps : goal.returns-in_err-add_entries-clause-keeps
returns-in_err-add_entries-clause-keeps g c = c.in_ok-hold_pointer.ensures.keeps

pub returns-in_err-add_entries-clause-few : goal.returns-in_err-add_entries-clause-few
returns-in_err-add_entries-clause-few g c = no_answer _ c.from_residual-in_err-add_entries.result
    c.from_residual-in_err-add_entries.ensures.0

pub returns-in_err-add_entries-clause-lists : goal.returns-in_err-add_entries-clause-lists
returns-in_err-add_entries-clause-lists g c = no_answer _ c.from_residual-in_err-add_entries.result
    c.from_residual-in_err-add_entries.ensures.0

pub returns-in_err-add_entries-clause-reads : goal.returns-in_err-add_entries-clause-reads
returns-in_err-add_entries-clause-reads g c = c.in_ok-hold_pointer.ensures.reads

pub returns-in_err-add_entries-clause-fault : goal.returns-in_err-add_entries-clause-fault
returns-in_err-add_entries-clause-fault g c = fault_memory g.D.Disk.meaning c.args.store.now
    c.hold_pointer.new.store c.from_residual-in_err-add_entries.result
    c.from_residual-in_err-add_entries.ensures.0 c.from_residual-in_err-add_entries.ensures.1
    c.in_ok-hold_pointer.ensures.fault

pub returns-in_err-add_entries-clause-own : goal.returns-in_err-add_entries-clause-own
returns-in_err-add_entries-clause-own g c = reads_memory c.from_residual-in_err-add_entries.result
    c.from_residual-in_err-add_entries.ensures.1

pub returns-in_err-add_entries-clause-follows : goal.returns-in_err-add_entries-clause-follows
returns-in_err-add_entries-clause-follows g c = λ image tells. handed_on
    c.from_residual-in_err-add_entries.result out_of_memory _ (RefusesPointer g.D.Disk.meaning
    c.hold_pointer.new.store c.args.batch.now.pages (viewed c.args.store.now image c.args.batch.now)
    c.args.owner.0 c.args.pointers.now.items c.args.n) c.from_residual-in_err-add_entries.ensures.0
    c.from_residual-in_err-add_entries.ensures.1 tt

pub returns-in_err-push-clause-keeps : goal.returns-in_err-push-clause-keeps
returns-in_err-push-clause-keeps g c = c.in_ok-hold_pointer.ensures.keeps

pub returns-in_err-push-clause-few : goal.returns-in_err-push-clause-few
returns-in_err-push-clause-few g c = no_answer _ c.from_residual-in_err-push.result
    c.from_residual-in_err-push.ensures.0

pub returns-in_err-push-clause-lists : goal.returns-in_err-push-clause-lists
returns-in_err-push-clause-lists g c = no_answer _ c.from_residual-in_err-push.result
    c.from_residual-in_err-push.ensures.0

pub returns-in_err-push-clause-reads : goal.returns-in_err-push-clause-reads
returns-in_err-push-clause-reads g c = c.in_ok-hold_pointer.ensures.reads

pub returns-in_err-push-clause-fault : goal.returns-in_err-push-clause-fault
returns-in_err-push-clause-fault g c = fault_memory g.D.Disk.meaning c.args.store.now
    c.hold_pointer.new.store c.from_residual-in_err-push.result c.from_residual-in_err-push.ensures.0
    c.from_residual-in_err-push.ensures.1 c.in_ok-hold_pointer.ensures.fault

pub returns-in_err-push-clause-own : goal.returns-in_err-push-clause-own
returns-in_err-push-clause-own g c = reads_memory c.from_residual-in_err-push.result
    c.from_residual-in_err-push.ensures.1

pub returns-in_err-push-clause-follows : goal.returns-in_err-push-clause-follows
returns-in_err-push-clause-follows g c = λ image tells. handed_on c.from_residual-in_err-push.result
    out_of_memory _ (RefusesPointer g.D.Disk.meaning c.hold_pointer.new.store c.args.batch.now.pages (viewed
    c.args.store.now image c.args.batch.now) c.args.owner.0 c.args.pointers.now.items c.args.n)
    c.from_residual-in_err-push.ensures.0 c.from_residual-in_err-push.ensures.1 tt

pub returns-in_err-linked-clause-keeps : goal.returns-in_err-linked-clause-keeps
returns-in_err-linked-clause-keeps g c = c.in_ok-hold_pointer.ensures.keeps

pub returns-in_err-linked-clause-few : goal.returns-in_err-linked-clause-few
returns-in_err-linked-clause-few g c = no_answer _ c.from_residual-in_err-linked.result
    c.from_residual-in_err-linked.ensures.0

pub returns-in_err-linked-clause-lists : goal.returns-in_err-linked-clause-lists
returns-in_err-linked-clause-lists g c = no_answer _ c.from_residual-in_err-linked.result
    c.from_residual-in_err-linked.ensures.0

pub returns-in_err-linked-clause-reads : goal.returns-in_err-linked-clause-reads
returns-in_err-linked-clause-reads g c = c.in_ok-hold_pointer.ensures.reads

pub returns-in_err-linked-clause-fault : goal.returns-in_err-linked-clause-fault
returns-in_err-linked-clause-fault g c = fault_damage g.D.Disk.meaning c.args.store.now
    c.hold_pointer.new.store c.from_residual-in_err-linked.result c.in_err-linked.field-0.0
    c.from_residual-in_err-linked.ensures.0 c.from_residual-in_err-linked.ensures.1
    c.in_ok-hold_pointer.ensures.fault

pub returns-in_err-linked-clause-own : goal.returns-in_err-linked-clause-own
returns-in_err-linked-clause-own g c = reads_damage c.from_residual-in_err-linked.result
    c.in_err-linked.field-0.0 c.from_residual-in_err-linked.ensures.1

pub returns-clause-keeps : goal.returns-clause-keeps
returns-clause-keeps g c = c.in_ok-hold_pointer.ensures.keeps

pub returns-clause-fault : goal.returns-clause-fault
returns-clause-fault g c = c.in_ok-hold_pointer.ensures.fault

pub returns-clause-reads : goal.returns-clause-reads
returns-clause-reads g c = c.in_ok-hold_pointer.ensures.reads

pub lent-page-requires-clause-whole : goal.lent-page-requires-clause-whole
lent-page-requires-clause-whole g c = whole_later g.D.Disk.meaning c.args.store.now
    c.hold_pointer.new.store c.in_ok-hold_pointer.ensures.keeps c.args.batch.now.pages c.requires.whole

pub add_entries-requires : goal.add_entries-requires
add_entries-requires g c = pointer_lawful c.hold_pointer.new.store c.args.batch.now.pages c.args.owner.0
    c.len.result c.args.n c.lent-page.result.now c.lent-page.ensures.read
    c.in_ok-hold_pointer.ensures.held

pub linked-requires : goal.linked-requires
linked-requires g c = pointer_lawful c.hold_pointer.new.store c.args.batch.now.pages c.args.owner.0
    c.len.result c.args.n c.lent-page.result.now c.lent-page.ensures.read
    c.in_ok-hold_pointer.ensures.held
