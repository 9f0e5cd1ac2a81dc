-- Lemmas of the search among candidates.
use Rattle.std.proofs.Common.{◌≡◌, ◌⊎◌, ◌∙◌, ℕ, Bool, true, false, List, ◌∷◌, Option, None, Some, inl, inr, subst, sym}
use Rattle.std.specs.Prelude.{◌↔◌, IsTrue, Result, Ok, Err, MatchResult}
use Rattle.mg_base.specs.Disk.{Meaning}
use Rattle.mg_base.specs.declared.numbers.RecId.{RecId}
use Rattle.mg_base.specs.declared.transaction.TxState.{TxState}
use Rattle.mg_heap.specs.Listed.{IsRecordOf, RefusesRecordOf}
use Rattle.mg_image.specs.Form.{Pages}
use Rattle.mg_model.specs.declared.table.Table.{Table}
use Rattle.mg_pool.specs.declared.batch.BatchPage.{BatchPage}
use Rattle.mg_pool.specs.declared.pool.Pool.{Pool}
use Rattle.mg_snap.specs.Live.{State}
use Rattle.mg_space.specs.declared.fault.SpaceFault.{SpaceFault}
use Rattle.mg_space.specs.declared.fault.SpaceFault.TheVariants as faults
use Rattle.mg_value.specs.declared.value.Value.{Value}
use Rattle.mg_seek.specs.Candidates.{FoundAmong, RefusesCandidate, RefusesCandidates, SpeaksOf}
use Rattle.mg_seek.specs.Refusals.{RefusesRecord}
use Rattle.mg_seek.specs.Speaking.{Speaks}
use Rattle.mg_seek.specs.TableRecords.{IsAmong}

module _ {D L : Type 0} (m : Meaning D) (store : Pool D L) (pages : List BatchPage)
    (view : Pages) (takes : ℕ → Bool) (table : Table) where
  pub candidate_refuses : (candidates : List RecId) (rec : RecId) (fault : SpaceFault)
      → IsAmong candidates rec → RefusesCandidate m store pages view takes table rec fault
      → RefusesCandidates m store pages view takes table candidates fault
  candidate_refuses candidates rec (faults.Full most) among refused = refused
  candidate_refuses candidates rec (faults.Damaged it) among refused =
      record { rec = rec; among = among; refused = refused }
  candidate_refuses candidates rec (faults.Pool fault) among refused = tt

  -- it is not told whether the candidate is a record of the table
  pub not_told : (rec : RecId) (fault : SpaceFault)
      → RefusesRecordOf m store pages view table.pointer.0 rec fault
      → RefusesCandidate m store pages view takes table rec fault
  not_told rec (faults.Full most) refused = refused
  not_told rec (faults.Damaged it) refused = inl refused
  not_told rec (faults.Pool fault) refused = tt

  -- it is one, and is damaged
  pub is_damaged : (rec : RecId) (fault : SpaceFault) → IsRecordOf view table.pointer.0 rec
      → RefusesRecord m store pages view takes table rec fault
      → RefusesCandidate m store pages view takes table rec fault
  is_damaged rec (faults.Full most) its refused = refused
  is_damaged rec (faults.Damaged it) its refused = inr (its, refused)
  is_damaged rec (faults.Pool fault) its refused = tt

module _ (state : ℕ → TxState) (live : State) (view : Pages) (table : Table) (key : Value) where
  -- a candidate that is no record of the table, or does not speak, is passed over
  pub candidate_passed : (rec : RecId) (later : List RecId) (found : Option RecId)
      → (SpeaksOf state live view table key rec → ⊥) → FoundAmong state live view table key later found
      → FoundAmong state live view table key (rec ∷ later) found
  candidate_passed rec later (Some speaker) silent found = (inr found.0, found.1)
  candidate_passed rec later None silent others = λ other among. at other among
    where
      at : (other : RecId) → (rec ≡ other) ⊎ IsAmong later other
          → SpeaksOf state live view table key other → ⊥
      at other (inl same) speaks =
          silent (subst (SpeaksOf state live view table key) (sym same) speaks)
      at other (inr among) speaks = others other among speaks

  pub other_silent : (its : Bool) (rec : RecId) → its ≡ false
      → IsTrue its ↔ IsRecordOf view table.pointer.0 rec
      → IsTrue false ↔ SpeaksOf state live view table key rec
  other_silent its rec isnt tells =
      (λ yes_. absurd cc, λ is. let both : false ≡ true = sym isnt ∙ tells.1 is.its in absurd cc)

  module _ {D L : Type 0} (m : Meaning D) (store : Pool D L) (pages : List BatchPage)
      (takes : ℕ → Bool) where
    -- the candidate is a record of the table, so what is told of the record is told of it
    pub as_record : (rec : RecId) (its : Bool) (result : Result Bool SpaceFault) → its ≡ true
        → IsTrue its ↔ IsRecordOf view table.pointer.0 rec
        → MatchResult result (λ does. IsTrue does ↔ Speaks state live view table key rec)
        (RefusesRecord m store pages view takes table rec)
        → MatchResult result (λ does. IsTrue does ↔ SpeaksOf state live view table key rec)
        (RefusesCandidate m store pages view takes table rec)
    as_record rec its (Ok does) yes_ tells gives = (
      (λ true_. record { its = tells.0 yes_; speaks = gives.0 true_ }),
      (λ is. gives.1 is.speaks),
    )
    as_record rec its (Err fault) yes_ tells refused =
        is_damaged m store pages view takes table rec fault (tells.0 yes_) refused
