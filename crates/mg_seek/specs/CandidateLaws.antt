-- Laws of candidates: where they are enough, who speaks for a key among them speaks for it in the table.
use Rattle.std.specs.Prelude.{◌≡◌, ◌⊎◌, ℕ, zero, suc, Bool, true, false, List, [], ◌∷◌, Option, None, Some, Result, Ok, Err, MatchResult}
use Rattle.std.proofs.Common.{cond, inl, inr, refl, sym, subst}
use Rattle.mg_base.specs.Disk.{Meaning}
use Rattle.mg_base.specs.declared.damage.Damaged.{Damaged}
use Rattle.mg_base.specs.declared.numbers.RecId.{RecId}
use Rattle.mg_base.specs.declared.transaction.TxState.{TxState}
use Rattle.mg_heap.specs.Listed.{IsRecordOf}
use Rattle.mg_heap.specs.ListedLaws.{page_of_record}
use Rattle.mg_heap.specs.Walk.{is_primary}
use Rattle.mg_image.specs.Form.{Pages}
use Rattle.mg_model.specs.declared.table.Table.{Table}
use Rattle.mg_pool.specs.declared.batch.BatchPage.{BatchPage}
use Rattle.mg_pool.specs.declared.pool.Pool.{Pool}
use Rattle.mg_slots.specs.DataPage.{cell_of, slot_count}
use Rattle.mg_snap.specs.Live.{State}
use Rattle.mg_space.specs.declared.fault.SpaceFault.{SpaceFault}
use Rattle.mg_space.specs.declared.fault.SpaceFault.TheVariants as faults
use Rattle.mg_value.specs.declared.value.Value.{Value}
use Rattle.mg_seek.specs.AmongLaws.{among_either, among_pages, below_page}
use Rattle.mg_seek.specs.Candidates.{AreEnough, FoundAmong, RefusesCandidate, RefusesCandidates}
use Rattle.mg_seek.specs.Speaking.{IsSpeaker, IsTableDamage, RefusesTableRows, Speaks, bad_among, no_walk}
use Rattle.mg_seek.specs.TableRecords.{AreTableRecords, EachRecord, IsAmong, rec_at, record_at, records_below, records_in, records_on}

-- ---- the records of a table

here_primary : (b : List ℕ) (n slot : ℕ) (rec : RecId) → IsAmong (record_at b n slot) rec
    → is_primary (cell_of b rec.slot) ≡ true
here_primary b n slot rec = at (is_primary (cell_of b slot)) refl
  where
    at : (p : Bool) → is_primary (cell_of b slot) ≡ p → IsAmong (cond p (rec_at n slot ∷ []) []) rec
        → is_primary (cell_of b rec.slot) ≡ true
    at true is (inl same) = subst (λ (x : RecId). is_primary (cell_of b x.slot) ≡ true) same is
    at true is (inr nothing) = absurd nothing
    at false is there = absurd there

below_primary : (b : List ℕ) (n k : ℕ) (rec : RecId) → IsAmong (records_below b n k) rec
    → is_primary (cell_of b rec.slot) ≡ true
below_primary b n zero rec is = absurd is
below_primary b n (suc k) rec is = at (among_either (records_below b n k) (record_at b n k) rec is)
    (λ earlier. below_primary b n k rec earlier)
  where
    at : IsAmong (records_below b n k) rec ⊎ IsAmong (record_at b n k) rec
        → (IsAmong (records_below b n k) rec → is_primary (cell_of b rec.slot) ≡ true)
        → is_primary (cell_of b rec.slot) ≡ true
    at (inl is_) earlier = earlier is_
    at (inr is_) earlier = here_primary b n k rec is_

-- each record of some pages stands in a primary slot
pub primary_among : (view : Pages) (ds : List ℕ) (rec : RecId) → IsAmong (records_in view ds) rec
    → is_primary (cell_of (view rec.page.0) rec.slot) ≡ true
primary_among view [] rec is = absurd is
primary_among view (d ∷ ds) rec is =
    at (among_either (records_on (view d) d) (records_in view ds) rec is)
    (λ later. primary_among view ds rec later)
  where
    at : IsAmong (records_on (view d) d) rec ⊎ IsAmong (records_in view ds) rec
        → (IsAmong (records_in view ds) rec → is_primary (cell_of (view rec.page.0) rec.slot) ≡ true)
        → is_primary (cell_of (view rec.page.0) rec.slot) ≡ true
    at (inl here_) further = subst (λ (n : ℕ). is_primary (cell_of (view n) rec.slot) ≡ true)
        (below_page (view d) d (slot_count (view d)) rec here_)
        (below_primary (view d) d (slot_count (view d)) rec here_)
    at (inr later) further = further later

-- what is told a record of a table is one of its records
pub its_record : (view : Pages) (owner : ℕ) (records : List RecId) → AreTableRecords view owner records
    → (rec : RecId) → IsRecordOf view owner rec → IsAmong records rec
its_record view owner records are rec is =
    subst (λ (recs : List RecId). IsAmong recs rec) (sym are.are)
    (among_pages view are.data_pages rec
    (page_of_record view owner are.pointers are.data_pages are.table rec is) is.stands.primary)

each_record : (P : RecId → Type 0) (records : List RecId)
    → ((rec : RecId) → IsAmong records rec → P rec) → EachRecord P records
each_record P [] every = tt
each_record P (rec ∷ records) every =
    (every rec (inl refl), each_record P records (λ other among. every other (inr among)))

module _ (state : ℕ → TxState) (live : State) (view : Pages) (table : Table) (key : Value)
    (candidates : List RecId) (enough : AreEnough state live view table key candidates) where
  pub speaker_is_found : (found : Option RecId) → FoundAmong state live view table key candidates found
      → IsSpeaker state live view table key found
  speaker_is_found None none = record {
    records = enough.records;
    of_table = enough.of_table;
    speaks = each_record (λ rec. Speaks state live view table key rec → ⊥) enough.records
        (λ rec among speaks. none rec (enough.whole rec among speaks)
        (record { its = enough.told rec among; speaks = speaks }));
  }
  speaker_is_found (Some rec) found = record {
    records = enough.records;
    of_table = enough.of_table;
    speaks = (
      its_record view table.pointer.0 enough.records enough.of_table rec found.1.its,
      found.1.speaks,
    );
  }

  module _ {D L : Type 0} (m : Meaning D) (store : Pool D L) (pages : List BatchPage)
      (takes : ℕ → Bool) where
    damaged_is_told : (it : Damaged) (rec : RecId)
        → RefusesCandidate m store pages view takes table rec (faults.Damaged it)
        → IsTableDamage m store pages view takes table it
    damaged_is_told it rec (inl (at, broken)) = no_walk it (inl (record {
      pointers = broken.pointers;
      page = broken.page;
      leads = broken.leads;
      some = broken.some;
      refused = broken.refused;
    }))
    damaged_is_told it rec (inr (its, damaged)) = bad_among enough.records it enough.of_table (record {
      rec = rec;
      among = its_record view table.pointer.0 enough.records enough.of_table rec its;
      damaged = damaged;
    })

    pub refusal_is_told : (fault : SpaceFault)
        → RefusesCandidates m store pages view takes table candidates fault
        → RefusesTableRows m store pages view takes table fault
    refusal_is_told (faults.Full most) refused = refused
    refusal_is_told (faults.Damaged it) refused = damaged_is_told it refused.rec refused.refused
    refusal_is_told (faults.Pool fault) refused = tt

    -- so the answer of a search among them is that of a search in the table
    pub answer_is_told : (result : Result (Option RecId) SpaceFault)
        → MatchResult result (FoundAmong state live view table key candidates)
        (RefusesCandidates m store pages view takes table candidates)
        → MatchResult result (IsSpeaker state live view table key)
        (RefusesTableRows m store pages view takes table)
    answer_is_told (Ok found) gives = speaker_is_found found gives
    answer_is_told (Err fault) refused = refusal_is_told fault refused
