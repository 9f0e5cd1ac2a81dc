use Rattle.std.proofs.Common.{◌≡◌, ◌∙◌, ℕ, ap, arith, drop, length, refl, List, subst, sym}
use Rattle.mg_space.specs.HandedLaws.{fault_memory, fault_same, no_answer, out_of_memory}
use Rattle.mg_space.specs.View.{viewed}
use Rattle.mg_heap.proofs.ChangingLemmas.{not_placed, places_at, written_back}
use Rattle.mg_slots.specs.DataPage.{IsDataPage}
use Rattle.mg_heap.specs.HandedLaws.{reads_same}
use Rattle.mg_heap.specs.Reading.{RefusesData}
use Rattle.mg_heap.proofs.HandedLemmas.{on_err, reads_memory}
use Rattle.mg_heap.proofs.TableLemmas.{handed_on}
use Rattle.mg_heap.proofs.changing.place.Goals as goal

pub returns-clause-places : goal.returns-clause-places
returns-clause-places g c = λ image tells.
    let len : c.into_vec-page.result.len ≡ length c.replaced.new.b =
    omega (arith, c.replaced.ensures.len, c.deref_mut.ensures.len) in
    places_at c.args.store.now image c.args.batch.now c.put.new.self c.args.at
    c.in_ok-data_page.field-0 c.deref_mut.result.now c.replaced.new.b c.deref.result.now
    c.in_ok-data_page.ensures.data_page (c.in_ok-data_page.ensures.seen image tells)
    (c.deref_mut.ensures.value ∙ c.into_vec-page.ensures) (written_back c.into_vec-page.result.len c.replaced.new.b
    (drop (length c.replaced.new.b) c.into_vec-page.result.items) c.deref.result.now len
    c.deref.ensures.value) c.in_ok-put.ensures.puts
    c.args.cell.now (c.if-not-replaced.ensures.when.0 refl) c.if-not-replaced.ensures.put

pub returns-clause-changes : goal.returns-clause-changes
returns-clause-changes g c =
    let len : c.into_vec-page.result.len ≡ length c.replaced.new.b =
    omega (arith, c.replaced.ensures.len, c.deref_mut.ensures.len) in
    record {
      bytes = c.deref.result.now;
      len = ap (length {A = ℕ}) (written_back c.into_vec-page.result.len c.replaced.new.b
          (drop (length c.replaced.new.b) c.into_vec-page.result.items) c.deref.result.now len
          c.deref.ensures.value) ∙ (c.replaced.ensures.len
          ∙ (ap (length {A = ℕ}) (c.deref_mut.ensures.value ∙ c.into_vec-page.ensures)
          ∙ c.in_ok-data_page.ensures.len));
      puts = c.in_ok-put.ensures.puts;
    }

pub returns-then-not-replaced-clause-places : goal.returns-then-not-replaced-clause-places
returns-then-not-replaced-clause-places g c = λ image tells. not_placed
    (viewed c.args.store.now image c.args.batch.now) (viewed c.args.store.now image c.args.batch.now)
    c.args.at c.args.cell.now c.in_ok-data_page.field-0 c.deref_mut.result.now
    c.in_ok-data_page.ensures.data_page (c.in_ok-data_page.ensures.seen image tells)
    (c.deref_mut.ensures.value ∙ c.into_vec-page.ensures) c.if-not-replaced.ensures.when.1

pub returns-in_err-data_page-clause-keeps : goal.returns-in_err-data_page-clause-keeps
returns-in_err-data_page-clause-keeps g c = c.in_err-data_page.ensures.keeps

pub returns-in_err-data_page-clause-fault : goal.returns-in_err-data_page-clause-fault
returns-in_err-data_page-clause-fault g c = fault_same (List ℕ) g.D.Disk.meaning c.args.store.now
    c.data_page.new.store c.from_residual.result c.in_err-data_page.field-0.0 c.from_residual.ensures.0
    c.from_residual.ensures.1 c.in_err-data_page.ensures.fault

pub returns-in_err-data_page-clause-own : goal.returns-in_err-data_page-clause-own
returns-in_err-data_page-clause-own g c = reads_same (List ℕ) c.from_residual.result
    c.in_err-data_page.field-0.0 c.from_residual.ensures.0 c.from_residual.ensures.1
    c.in_err-data_page.ensures.own

pub returns-in_err-data_page-clause-changes : goal.returns-in_err-data_page-clause-changes
returns-in_err-data_page-clause-changes g c = no_answer _ c.from_residual.result c.from_residual.ensures.0

pub returns-in_err-data_page-clause-places : goal.returns-in_err-data_page-clause-places
returns-in_err-data_page-clause-places g c = λ image tells. handed_on c.from_residual.result
    c.in_err-data_page.field-0.0 _ (RefusesData g.D.Disk.meaning c.data_page.new.store
    c.args.batch.now.pages c.args.at.page (viewed c.args.store.now image c.args.batch.now c.args.at.page.0))
    c.from_residual.ensures.0 c.from_residual.ensures.1 (c.in_err-data_page.ensures.seen image tells)

pub returns-in_err-put-clause-keeps : goal.returns-in_err-put-clause-keeps
returns-in_err-put-clause-keeps g c = c.in_ok-data_page.ensures.keeps

pub returns-in_err-put-clause-fault : goal.returns-in_err-put-clause-fault
returns-in_err-put-clause-fault g c = fault_memory g.D.Disk.meaning c.args.store.now c.data_page.new.store
    c.from_residual-in_err-put.result c.from_residual-in_err-put.ensures.0
    c.from_residual-in_err-put.ensures.1 c.in_ok-data_page.ensures.fault

pub returns-in_err-put-clause-own : goal.returns-in_err-put-clause-own
returns-in_err-put-clause-own g c = reads_memory c.from_residual-in_err-put.result
    c.from_residual-in_err-put.ensures.1

pub returns-in_err-put-clause-changes : goal.returns-in_err-put-clause-changes
returns-in_err-put-clause-changes g c = no_answer _ c.from_residual-in_err-put.result
    c.from_residual-in_err-put.ensures.0

pub returns-in_err-put-clause-same : goal.returns-in_err-put-clause-same
returns-in_err-put-clause-same g c = on_err _ c.from_residual-in_err-put.result c.in_err-put.ensures.same

pub returns-in_err-put-clause-places : goal.returns-in_err-put-clause-places
returns-in_err-put-clause-places g c = λ image tells. handed_on c.from_residual-in_err-put.result
    out_of_memory _ (RefusesData g.D.Disk.meaning c.data_page.new.store c.args.batch.now.pages
    c.args.at.page (viewed c.args.store.now image c.args.batch.now c.args.at.page.0))
    c.from_residual-in_err-put.ensures.0 c.from_residual-in_err-put.ensures.1 tt

pub returns-clause-keeps : goal.returns-clause-keeps
returns-clause-keeps g c = c.in_ok-data_page.ensures.keeps

pub returns-clause-fault : goal.returns-clause-fault
returns-clause-fault g c = c.in_ok-data_page.ensures.fault

pub returns-then-not-replaced-clause-keeps : goal.returns-then-not-replaced-clause-keeps
returns-then-not-replaced-clause-keeps g c = c.in_ok-data_page.ensures.keeps

pub returns-then-not-replaced-clause-fault : goal.returns-then-not-replaced-clause-fault
returns-then-not-replaced-clause-fault g c = c.in_ok-data_page.ensures.fault

pub replaced-requires-clause-lawful : goal.replaced-requires-clause-lawful
replaced-requires-clause-lawful g c = subst IsDataPage (sym (c.deref_mut.ensures.value ∙
    c.into_vec-page.ensures)) c.in_ok-data_page.ensures.data_page.lawful
