use Rattle.std.proofs.Common.{◌≡◌, ◌∙◌, ℕ, ap, arith, drop, length, List, inl, subst, sym}
use Rattle.mg_space.specs.View.{viewed}
use Rattle.mg_space.specs.ViewLaws.{whole_on}
use Rattle.mg_space.specs.declared.fault.SpaceFault.TheVariants as faults
use Rattle.mg_heap.specs.Apart.{RefusesPutApart}
use Rattle.mg_heap.proofs.ApartLemmas.{no_room_beside, puts_apart}
use Rattle.mg_heap.proofs.ChangingLemmas.{written_back}
use Rattle.mg_heap.proofs.TableLemmas.{handed_on}
use Rattle.mg_pool.specs.Batch.{Changed}
use Rattle.mg_slots.specs.DataPage.{IsDataPage}
use Rattle.mg_space.specs.HandedLaws.{fault_memory, fault_same, no_answer, out_of_memory}
use Rattle.mg_heap.specs.HandedLaws.{reads_same}
use Rattle.mg_heap.proofs.HandedLemmas.{fault_damage, reads_damage, reads_memory}
use Rattle.mg_heap.specs.GrowthLaws.{whole_same}
use Rattle.mg_heap.proofs.apart.put_apart.Goals as goal

pub returns-clause-puts : goal.returns-clause-puts
returns-clause-puts g c = λ image tells.
    let len : c.into_vec-bytes.result.len ≡ length c.put_beside.new.b =
    omega (arith, c.put_beside.ensures.len, c.deref_mut.ensures.len) in
    puts_apart c.args.store.now image c.args.batch.now c.put.new.self c.args.page c.args.place
    c.in_ok-slot.slot c.kept_on.result c.args.cell.now c.in_ok-data_page.field-0
    c.deref_mut.result.now c.put_beside.new.b c.deref.result.now
    c.in_ok-data_page.ensures.data_page (c.in_ok-data_page.ensures.seen image tells)
    (c.deref_mut.ensures.value ∙ c.into_vec-bytes.ensures)
    (written_back c.into_vec-bytes.result.len c.put_beside.new.b
    (drop (length c.put_beside.new.b) c.into_vec-bytes.result.items) c.deref.result.now len
    c.deref.ensures.value) c.in_ok-put.ensures.puts c.kept_on.ensures c.in_ok-slot.ensures.put

pub returns-in_err-slot-clause-puts : goal.returns-in_err-slot-clause-puts
returns-in_err-slot-clause-puts g c = λ image tells. handed_on c.from_residual-in_err-slot.result
    (faults.Damaged c.in_err-slot.field-0.0) _
    (RefusesPutApart g.D.Disk.meaning c.data_page.new.store c.args.batch.now
    (viewed c.args.store.now image c.args.batch.now c.args.page.0) c.args.page c.args.place
    c.args.cell.now)
    c.from_residual-in_err-slot.ensures.0 c.from_residual-in_err-slot.ensures.1
    (no_room_beside g.D.Disk.meaning c.data_page.new.store c.args.batch.now c.args.page c.args.place
    c.kept_on.result c.args.cell.now
    (viewed c.args.store.now image c.args.batch.now c.args.page.0) c.in_ok-data_page.field-0
    c.deref_mut.result.now c.in_err-slot.field-0.0 c.in_ok-data_page.ensures.data_page
    (c.in_ok-data_page.ensures.seen image tells)
    (c.deref_mut.ensures.value ∙ c.into_vec-bytes.ensures) c.kept_on.ensures
    c.in_err-slot.ensures.no_room)

pub returns-clause-whole : goal.returns-clause-whole
returns-clause-whole g c =
    let len : c.into_vec-bytes.result.len ≡ length c.put_beside.new.b =
    omega (arith, c.put_beside.ensures.len, c.deref_mut.ensures.len) in
    let long : length c.deref.result.now ≡ c.args.store.now.geometry.size =
    ap (length {A = ℕ}) (written_back c.into_vec-bytes.result.len c.put_beside.new.b
    (drop (length c.put_beside.new.b) c.into_vec-bytes.result.items) c.deref.result.now len
    c.deref.ensures.value) ∙ (c.put_beside.ensures.len
    ∙ (ap (length {A = ℕ}) (c.deref_mut.ensures.value ∙ c.into_vec-bytes.ensures)
    ∙ c.in_ok-data_page.ensures.len)) in
    whole_on c.args.store.now.geometry c.args.batch.now c.put.new.self c.args.page.0
    c.deref.result.now c.requires.whole long c.in_ok-data_page.ensures.below c.in_ok-put.ensures.puts

pub returns-clause-changes : goal.returns-clause-changes
returns-clause-changes g c =
    let len : c.into_vec-bytes.result.len ≡ length c.put_beside.new.b =
    omega (arith, c.put_beside.ensures.len, c.deref_mut.ensures.len) in
    record {
      bytes = c.deref.result.now;
      len = ap (length {A = ℕ}) (written_back c.into_vec-bytes.result.len c.put_beside.new.b
          (drop (length c.put_beside.new.b) c.into_vec-bytes.result.items) c.deref.result.now len
          c.deref.ensures.value) ∙ (c.put_beside.ensures.len
          ∙ (ap (length {A = ℕ}) (c.deref_mut.ensures.value ∙ c.into_vec-bytes.ensures)
          ∙ c.in_ok-data_page.ensures.len));
      puts = c.in_ok-put.ensures.puts;
    }

pub returns-in_err-data_page-clause-keeps : goal.returns-in_err-data_page-clause-keeps
returns-in_err-data_page-clause-keeps g c = c.in_err-data_page.ensures.keeps

pub returns-in_err-data_page-clause-fault : goal.returns-in_err-data_page-clause-fault
returns-in_err-data_page-clause-fault g c = fault_same (List ℕ) g.D.Disk.meaning c.args.store.now
    c.data_page.new.store c.from_residual.result c.in_err-data_page.field-0.0 c.from_residual.ensures.0
    c.from_residual.ensures.1 c.in_err-data_page.ensures.fault

pub returns-in_err-data_page-clause-own : goal.returns-in_err-data_page-clause-own
returns-in_err-data_page-clause-own g c = reads_same (List ℕ) c.from_residual.result
    c.in_err-data_page.field-0.0 c.from_residual.ensures.0 c.from_residual.ensures.1
    c.in_err-data_page.ensures.own

pub returns-in_err-data_page-clause-whole : goal.returns-in_err-data_page-clause-whole
returns-in_err-data_page-clause-whole g c = c.requires.whole

pub returns-in_err-data_page-clause-changes : goal.returns-in_err-data_page-clause-changes
returns-in_err-data_page-clause-changes g c = no_answer _ c.from_residual.result c.from_residual.ensures.0

pub returns-in_err-data_page-clause-puts : goal.returns-in_err-data_page-clause-puts
returns-in_err-data_page-clause-puts g c = λ image tells. handed_on c.from_residual.result
    c.in_err-data_page.field-0.0 _ (RefusesPutApart g.D.Disk.meaning c.data_page.new.store c.args.batch.now
    (viewed c.args.store.now image c.args.batch.now c.args.page.0) c.args.page c.args.place c.args.cell.now)
    c.from_residual.ensures.0 c.from_residual.ensures.1 (inl (c.in_err-data_page.ensures.seen image tells))

pub returns-in_err-slot-clause-keeps : goal.returns-in_err-slot-clause-keeps
returns-in_err-slot-clause-keeps g c = c.in_ok-data_page.ensures.keeps

pub returns-in_err-slot-clause-fault : goal.returns-in_err-slot-clause-fault
returns-in_err-slot-clause-fault g c = fault_damage g.D.Disk.meaning c.args.store.now c.data_page.new.store
    c.from_residual-in_err-slot.result c.in_err-slot.field-0.0 c.from_residual-in_err-slot.ensures.0
    c.from_residual-in_err-slot.ensures.1 c.in_ok-data_page.ensures.fault

pub returns-in_err-slot-clause-own : goal.returns-in_err-slot-clause-own
returns-in_err-slot-clause-own g c = reads_damage c.from_residual-in_err-slot.result c.in_err-slot.field-0.0
    c.from_residual-in_err-slot.ensures.1

pub returns-in_err-slot-clause-whole : goal.returns-in_err-slot-clause-whole
returns-in_err-slot-clause-whole g c = c.requires.whole

pub returns-in_err-slot-clause-changes : goal.returns-in_err-slot-clause-changes
returns-in_err-slot-clause-changes g c = no_answer _ c.from_residual-in_err-slot.result
    c.from_residual-in_err-slot.ensures.0

pub returns-in_err-put-clause-keeps : goal.returns-in_err-put-clause-keeps
returns-in_err-put-clause-keeps g c = c.in_ok-data_page.ensures.keeps

pub returns-in_err-put-clause-fault : goal.returns-in_err-put-clause-fault
returns-in_err-put-clause-fault g c = fault_memory g.D.Disk.meaning c.args.store.now c.data_page.new.store
    c.from_residual-in_err-put.result c.from_residual-in_err-put.ensures.0
    c.from_residual-in_err-put.ensures.1 c.in_ok-data_page.ensures.fault

pub returns-in_err-put-clause-own : goal.returns-in_err-put-clause-own
returns-in_err-put-clause-own g c = reads_memory c.from_residual-in_err-put.result
    c.from_residual-in_err-put.ensures.1

pub returns-in_err-put-clause-whole : goal.returns-in_err-put-clause-whole
returns-in_err-put-clause-whole g c = whole_same c.args.store.now.geometry c.args.batch.now
    c.put.new.self c.requires.whole (ap (λ (b : Changed). b.pages) c.in_err-put.ensures.same)

pub returns-in_err-put-clause-changes : goal.returns-in_err-put-clause-changes
returns-in_err-put-clause-changes g c = no_answer _ c.from_residual-in_err-put.result
    c.from_residual-in_err-put.ensures.0

pub returns-in_err-put-clause-puts : goal.returns-in_err-put-clause-puts
returns-in_err-put-clause-puts g c = λ image tells. handed_on c.from_residual-in_err-put.result
    out_of_memory _ (RefusesPutApart g.D.Disk.meaning c.data_page.new.store c.args.batch.now (viewed
    c.args.store.now image c.args.batch.now c.args.page.0) c.args.page c.args.place c.args.cell.now)
    c.from_residual-in_err-put.ensures.0 c.from_residual-in_err-put.ensures.1 (inl tt)

pub returns-in_err-data_page-clause-page : goal.returns-in_err-data_page-clause-page
returns-in_err-data_page-clause-page g c = no_answer _ c.from_residual.result c.from_residual.ensures.0

pub returns-in_err-slot-clause-page : goal.returns-in_err-slot-clause-page
returns-in_err-slot-clause-page g c = no_answer _ c.from_residual-in_err-slot.result
    c.from_residual-in_err-slot.ensures.0

pub returns-in_err-put-clause-page : goal.returns-in_err-put-clause-page
returns-in_err-put-clause-page g c = no_answer _ c.from_residual-in_err-put.result
    c.from_residual-in_err-put.ensures.0

pub returns-clause-keeps : goal.returns-clause-keeps
returns-clause-keeps g c = c.in_ok-data_page.ensures.keeps

pub returns-clause-fault : goal.returns-clause-fault
returns-clause-fault g c = c.in_ok-data_page.ensures.fault

pub put_beside-requires-clause-lawful : goal.put_beside-requires-clause-lawful
put_beside-requires-clause-lawful g c = subst IsDataPage (sym (c.deref_mut.ensures.value ∙
    c.into_vec-bytes.ensures)) c.in_ok-data_page.ensures.data_page.lawful
