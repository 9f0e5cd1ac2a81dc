-- The record that speaks for a key is found by the entries of a primary index; and what that needs lasts.
use Rattle.std.proofs.Common.{◌≡◌, inl, inr, refl, sym, ◌∙◌, subst, ℕ, Bool, true, false, List, [], ◌∷◌, None, Some}
use Rattle.mg_base.specs.declared.numbers.RecId.{RecId}
use Rattle.mg_base.specs.declared.transaction.TxState.{TxState}
use Rattle.mg_chain.specs.Views.{first_entry, is_dead}
use Rattle.mg_image.specs.Indexes.{Finds}
use Rattle.mg_image.specs.Records.{record_key, writer}
use Rattle.mg_image.specs.declared.entry.Entry.{Entry}
use Rattle.mg_model.specs.Answers.{is_committed}
use Rattle.mg_snap.specs.Live.{State, all_see}
use Rattle.mg_value.specs.declared.value.Value.{Value}
use Rattle.mg_seek.specs.declared.whose.Wanted.TheVariants.{Living}
use Rattle.mg_seek.specs.Readings.{SpeakIn, SpeakersOfReadings}
use Rattle.mg_seek.specs.Speaking.{Speaks, is_erased_for_all}
use Rattle.mg_seek.specs.TableRecords.{EachRecord, IsAmong}
use Rattle.mg_seek.specs.Versions.{wants}
use Rattle.mg_key_entry_laws.specs.KeyEntries.{Ends, HoldsUnlessErased, entry_of_key}
use Rattle.mg_key_entry_laws.specs.Laws.{EntriesTellSpeakers, KeysStayFound, PushedKeysStayFound, SpeakersAreFound}

-- ---- the record that speaks

each_record : (P : RecId → Type 0) (records : List RecId) → ((p : RecId) → IsAmong records p → P p) → EachRecord P records
each_record P [] every = tt
each_record P (p ∷ records) every = (every p (inl refl), each_record P records (λ q among. every q (inr among)))

pub entries_tell_speakers : EntriesTellSpeakers
entries_tell_speakers state live view table key root records candidates None are have all_ none =
    record {
      records = records;
      of_table = are;
      speaks = each_record (λ p. Speaks state live view table key p → ⊥) records
          (λ p among speaks. none p (all_ p (have p among speaks)) among speaks);
    }
entries_tell_speakers state live view table key root records candidates (Some p) are have all_ found =
    record { records = records; of_table = are; speaks = found }

pub speakers_are_found : SpeakersOfReadings → SpeakersAreFound
speakers_are_found of_readings state live view table root key p f r read found speaks =
    let in_ : SpeakIn state live table key (r p) = (of_readings state live view table key p f r read).0 speaks in
    subst (λ (k : Value). Finds view (entry_of_key k p) root) in_.keyed (found in_.newest in_.first in_.stays)

-- ---- what that needs lasts

module _ (state state' : ℕ → TxState) (live live' : State) (ends : Ends state state' live live') (P : Type 0) where
  erased_still : (e : Entry) → is_erased_for_all state' live' e.version ≡ false → is_erased_for_all state live e.version ≡ false
  erased_still e not_ = at e.version.deleted (is_committed (state (writer e))) (all_see live (writer e)) refl refl refl not_
    where
      at : (d c s : Bool) → e.version.deleted ≡ d → is_committed (state (writer e)) ≡ c → all_see live (writer e) ≡ s
          → is_erased_for_all state' live' e.version ≡ false → is_erased_for_all state live e.version ≡ false
      at false c s in_d in_c in_s isnt = rw in_d refl
      at true false s in_d in_c in_s isnt = rw in_d (rw in_c refl)
      at true true false in_d in_c in_s isnt = rw in_d (rw in_c in_s)
      at true true true in_d in_c in_s isnt =
          let is_c = ends.committed (writer e) in_c in
          let is_s = ends.seen (writer e) in_s in
          let erased : is_erased_for_all state' live' e.version ≡ true = rw in_d (rw is_c is_s) in
          let both_ : true ≡ false = sym erased ∙ isnt in absurd cc

  -- so it lasts while transactions end
  pub ends_keep : (es : List Entry) → HoldsUnlessErased state live es P → HoldsUnlessErased state' live' es P
  ends_keep [] holds newest first stays = let none_ : None ≡ Some newest = first in absurd cc
  ends_keep (e ∷ es) holds newest first stays =
      at (is_dead (state (writer e))) (is_dead (state' (writer e))) refl refl first
      (λ holds_ first_. ends_keep es holds_ newest first_ stays)
    where
      was_living : is_dead (state (writer e)) ≡ false → first_entry (wants state live Living) (e ∷ es) ≡ Some e
      was_living living = rw living refl

      at : (d d' : Bool) → is_dead (state (writer e)) ≡ d → is_dead (state' (writer e)) ≡ d'
          → first_entry (wants state' live' Living) (e ∷ es) ≡ Some newest
          → (HoldsUnlessErased state live es P → first_entry (wants state' live' Living) es ≡ Some newest → P) → P
      at false false was now_ first_ more =
          let same : Some e ≡ Some newest = sym (rw now_ refl) ∙ first_ in
          let e_is : e ≡ newest = cc in
          holds e (was_living was) (erased_still e (subst (λ (x : Entry). is_erased_for_all state' live' x.version ≡ false)
          (sym e_is) stays))
      at false true was now_ first_ more =
          let uncommitted = ends.fresh (writer e) was now_ in
          holds e (was_living was) (not_erased e uncommitted)
        where
          not_erased : (e : Entry) → is_committed (state (writer e)) ≡ false → is_erased_for_all state live e.version ≡ false
          not_erased e isnt = by e.version.deleted refl
            where
              by : (d : Bool) → e.version.deleted ≡ d → is_erased_for_all state live e.version ≡ false
              by false in_d = rw in_d refl
              by true in_d = rw in_d (rw isnt refl)
      at true false was now_ first_ more =
          let also = ends.dead (writer e) was in
          let both_ : true ≡ false = sym also ∙ now_ in absurd cc
      at true true was now_ first_ more = more (λ n first_n stays_n. holds n (was_dead ∙ first_n) stays_n)
          (sym now_dead ∙ first_)
        where
          was_dead : first_entry (wants state live Living) (e ∷ es) ≡ first_entry (wants state live Living) es
          was_dead = rw was refl

          now_dead : first_entry (wants state' live' Living) (e ∷ es) ≡ first_entry (wants state' live' Living) es
          now_dead = rw now_ refl

pub keys_stay_found : KeysStayFound
keys_stay_found state now live since view table root p es ends found =
    ends_keep state now live since ends (Finds view (entry_of_key (record_key table es) p) root) es found

pub pushed_keys_stay_found : PushedKeysStayFound
pushed_keys_stay_found state live view table root p e es newest first stays same found newer first_ stays_ =
    subst (λ (k : Value). Finds view (entry_of_key k p) root) (sym same) (found newest first stays)
