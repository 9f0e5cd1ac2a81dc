use Rattle.std.proofs.Common.{◌≡◌, ◌∙◌, List, ap, length, subst, sym, ℕ}
use Rattle.mg_base.specs.Checks.{PassesAll}
use Rattle.mg_base.specs.declared.geometry.Geometry.{Geometry}
use Rattle.mg_image.specs.Form.{Pages}
use Rattle.mg_pointer.specs.PointerPage.{IsPointerPage, pointer_checks}
use Rattle.mg_heap.specs.HandedLaws.{reads_same}
use Rattle.mg_heap.specs.Table.{RefusesPointerPage}
use Rattle.mg_heap.proofs.HandedLemmas.{no_answer_on, reads_memory}
use Rattle.mg_heap.proofs.HoldingLemmas.{pointer_lawful, pointer_tested}
use Rattle.mg_heap.proofs.TableLemmas.{as_started, below_before, handed_on, whole_later}
use Rattle.mg_space.specs.HandedLaws.{fault_memory, fault_same, no_answer, out_of_memory}
use Rattle.mg_space.specs.View.{viewed}
use Rattle.mg_heap.proofs.table.pointer_page.Goals as goal

pub returns-in_err-hold_pointer-clause-keeps : goal.returns-in_err-hold_pointer-clause-keeps
returns-in_err-hold_pointer-clause-keeps g c = c.in_err-hold_pointer.ensures.keeps

pub returns-in_err-hold_pointer-clause-fault : goal.returns-in_err-hold_pointer-clause-fault
returns-in_err-hold_pointer-clause-fault g c = fault_same (Unit {0}) g.D.Disk.meaning c.args.store.now
    c.hold_pointer.new.store c.from_residual.result c.in_err-hold_pointer.field-0.0
    c.from_residual.ensures.0 c.from_residual.ensures.1 c.in_err-hold_pointer.ensures.fault

pub returns-in_err-hold_pointer-clause-own : goal.returns-in_err-hold_pointer-clause-own
returns-in_err-hold_pointer-clause-own g c = reads_same (Unit {0}) c.from_residual.result
    c.in_err-hold_pointer.field-0.0 c.from_residual.ensures.0 c.from_residual.ensures.1
    c.in_err-hold_pointer.ensures.own

pub returns-in_err-hold_pointer-clause-seen : goal.returns-in_err-hold_pointer-clause-seen
returns-in_err-hold_pointer-clause-seen g c = λ image tells. handed_on c.from_residual.result
    c.in_err-hold_pointer.field-0.0 _ (RefusesPointerPage g.D.Disk.meaning c.hold_pointer.new.store
    c.args.batch.now.pages (viewed c.args.store.now image c.args.batch.now c.args.n.0) c.args.owner.0
    c.args.at c.args.n) c.from_residual.ensures.0 c.from_residual.ensures.1
    (c.in_err-hold_pointer.ensures.seen image tells)

pub returns-in_err-hold_pointer-clause-reads : goal.returns-in_err-hold_pointer-clause-reads
returns-in_err-hold_pointer-clause-reads g c = c.in_err-hold_pointer.ensures.reads

pub returns-in_err-hold_pointer-clause-len : goal.returns-in_err-hold_pointer-clause-len
returns-in_err-hold_pointer-clause-len g c = no_answer _ c.from_residual.result c.from_residual.ensures.0

pub returns-in_err-hold_pointer-clause-below : goal.returns-in_err-hold_pointer-clause-below
returns-in_err-hold_pointer-clause-below g c = no_answer_on _ c.from_residual.result
    c.from_residual.ensures.0

pub returns-in_err-hold_pointer-clause-tested : goal.returns-in_err-hold_pointer-clause-tested
returns-in_err-hold_pointer-clause-tested g c = no_answer _ c.from_residual.result
    c.from_residual.ensures.0

pub returns-in_err-hold_pointer-clause-lawful : goal.returns-in_err-hold_pointer-clause-lawful
returns-in_err-hold_pointer-clause-lawful g c = no_answer _ c.from_residual.result
    c.from_residual.ensures.0

pub lent-bytes-requires-clause-whole : goal.lent-bytes-requires-clause-whole
lent-bytes-requires-clause-whole g c = whole_later g.D.Disk.meaning c.args.store.now
    c.hold_pointer.new.store c.in_ok-hold_pointer.ensures.keeps c.args.batch.now.pages c.requires.whole

pub returns-in_err-from_slice-clause-keeps : goal.returns-in_err-from_slice-clause-keeps
returns-in_err-from_slice-clause-keeps g c = c.in_ok-hold_pointer.ensures.keeps

pub returns-in_err-from_slice-clause-fault : goal.returns-in_err-from_slice-clause-fault
returns-in_err-from_slice-clause-fault g c = fault_memory g.D.Disk.meaning c.args.store.now
    c.hold_pointer.new.store c.from_residual-in_err-from_slice.result
    c.from_residual-in_err-from_slice.ensures.0 c.from_residual-in_err-from_slice.ensures.1
    c.in_ok-hold_pointer.ensures.fault

pub returns-in_err-from_slice-clause-own : goal.returns-in_err-from_slice-clause-own
returns-in_err-from_slice-clause-own g c = reads_memory c.from_residual-in_err-from_slice.result
    c.from_residual-in_err-from_slice.ensures.1

pub returns-in_err-from_slice-clause-seen : goal.returns-in_err-from_slice-clause-seen
returns-in_err-from_slice-clause-seen g c = λ image tells. handed_on
    c.from_residual-in_err-from_slice.result out_of_memory _ (RefusesPointerPage g.D.Disk.meaning
    c.hold_pointer.new.store c.args.batch.now.pages (viewed c.args.store.now image c.args.batch.now
    c.args.n.0) c.args.owner.0 c.args.at c.args.n) c.from_residual-in_err-from_slice.ensures.0
    c.from_residual-in_err-from_slice.ensures.1 tt

pub returns-in_err-from_slice-clause-reads : goal.returns-in_err-from_slice-clause-reads
returns-in_err-from_slice-clause-reads g c = c.in_ok-hold_pointer.ensures.reads

pub returns-in_err-from_slice-clause-len : goal.returns-in_err-from_slice-clause-len
returns-in_err-from_slice-clause-len g c = no_answer _ c.from_residual-in_err-from_slice.result
    c.from_residual-in_err-from_slice.ensures.0

pub returns-in_err-from_slice-clause-below : goal.returns-in_err-from_slice-clause-below
returns-in_err-from_slice-clause-below g c = no_answer_on _ c.from_residual-in_err-from_slice.result
    c.from_residual-in_err-from_slice.ensures.0

pub returns-in_err-from_slice-clause-tested : goal.returns-in_err-from_slice-clause-tested
returns-in_err-from_slice-clause-tested g c = no_answer _ c.from_residual-in_err-from_slice.result
    c.from_residual-in_err-from_slice.ensures.0

pub returns-in_err-from_slice-clause-lawful : goal.returns-in_err-from_slice-clause-lawful
returns-in_err-from_slice-clause-lawful g c = no_answer _ c.from_residual-in_err-from_slice.result
    c.from_residual-in_err-from_slice.ensures.0

pub returns-clause-keeps : goal.returns-clause-keeps
returns-clause-keeps g c = c.in_ok-hold_pointer.ensures.keeps

pub returns-clause-fault : goal.returns-clause-fault
returns-clause-fault g c = c.in_ok-hold_pointer.ensures.fault

pub returns-clause-reads : goal.returns-clause-reads
returns-clause-reads g c = c.in_ok-hold_pointer.ensures.reads

pub returns-clause-len : goal.returns-clause-len
returns-clause-len g c = ap (length {A = ℕ}) (c.new.ensures ∙ c.in_ok-from_slice.ensures.items)
    ∙ (c.lent-bytes.ensures.len
    ∙ ap (λ (k : Geometry). k.size) c.in_ok-hold_pointer.ensures.keeps.geometry)

pub returns-clause-below : goal.returns-clause-below
returns-clause-below g c = below_before g.D.Disk.meaning c.args.store.now c.hold_pointer.new.store
    c.in_ok-hold_pointer.ensures.keeps c.args.n.0 c.lent-bytes.ensures.below

pub returns-clause-tested : goal.returns-clause-tested
returns-clause-tested g c = subst (λ (b : List ℕ). PassesAll (pointer_checks b c.args.n.0 c.args.owner.0
    c.args.at)) (sym (c.new.ensures ∙ c.in_ok-from_slice.ensures.items))
    (pointer_tested c.hold_pointer.new.store c.args.batch.now.pages c.args.owner.0 c.args.at c.args.n
    c.lent-bytes.result.now c.lent-bytes.ensures.read c.in_ok-hold_pointer.ensures.held)

pub returns-clause-lawful : goal.returns-clause-lawful
returns-clause-lawful g c = subst IsPointerPage (sym (c.new.ensures
    ∙ c.in_ok-from_slice.ensures.items))
    (pointer_lawful c.hold_pointer.new.store c.args.batch.now.pages c.args.owner.0 c.args.at c.args.n
    c.lent-bytes.result.now c.lent-bytes.ensures.read c.in_ok-hold_pointer.ensures.held)

pub returns-clause-seen : goal.returns-clause-seen
returns-clause-seen g c = λ image tells. (c.new.ensures ∙ c.in_ok-from_slice.ensures.items)
    ∙ as_started g.D.Disk.meaning c.args.store.now c.hold_pointer.new.store image c.args.batch.now
    c.in_ok-hold_pointer.ensures.keeps tells (λ (pages : Pages). c.lent-bytes.result.now ≡ pages
    c.args.n.0) (c.lent-bytes.ensures.seen image)
