-- Candidates tell who speaks for a key where each record that speaks is one of them: those of a complete directory do.
use Rattle.std.proofs.Common.{◌≡◌, ◌≢◌, ◌∙◌, inl, inr, refl, sym, ap, subst, ℕ, Bool, List, [], ◌∷◌, Option, None, Some}
use Rattle.mg_base.specs.declared.numbers.RecId.{RecId}
use Rattle.mg_base.specs.declared.transaction.TxState.{TxState}
use Rattle.mg_chain.specs.Views.{first_entry}
use Rattle.mg_directory.specs.Candidates.{ByKey, IsCandidate}
use Rattle.mg_image.specs.Form.{Pages, packed_coding}
use Rattle.mg_image.specs.RecordRules.{AreRecords, Facts, table_in}
use Rattle.mg_image.specs.Records.{Reading, cells_of, record_key}
use Rattle.mg_image.specs.declared.entry.Entry.{Entry}
use Rattle.mg_model.specs.declared.table.Table.{Table}
use Rattle.mg_sortkey.specs.KeyBytes.{key_bytes}
use Rattle.mg_snap.specs.Live.{State}
use Rattle.mg_value.specs.declared.value.Value.{Value}
use Rattle.mg_seek.specs.declared.whose.Wanted.TheVariants.{Living}
use Rattle.mg_seek.specs.Readings.{IsReadAt, KeysOfReadings, SpeakIn, SpeakersOfReadings, key_in}
use Rattle.mg_seek.specs.Speaking.{IsSpeaker, Speaks}
use Rattle.mg_seek.specs.TableRecords.{AreTableRecords, EachRecord, IsAmong}
use Rattle.mg_seek.specs.Versions.{wants}
use Rattle.mg_seek.specs.Views.{IsKeyOf}
use Rattle.mg_noted_laws.specs.Noted.{IsNoted}
use Rattle.mg_noted_laws.specs.Speaking.{FoundAmong, IsBuilt}

each_record : (P : RecId → Type 0) (records : List RecId) → ((p : RecId) → IsAmong records p → P p) → EachRecord P records
each_record P [] every = tt
each_record P (p ∷ records) every = (every p (inl refl), each_record P records (λ q among. every q (inr among)))

-- where each that speaks is a candidate, the candidates tell who speaks
pub speaker_by_candidates : (state : ℕ → TxState) (live : State) (view : Pages) (table : Table) (key : Value)
    (records candidates : List RecId) (found : Option RecId) → AreTableRecords view table.pointer.0 records
    → ((p : RecId) → IsAmong records p → Speaks state live view table key p → IsCandidate candidates p)
    → FoundAmong state live view table key records candidates found → IsSpeaker state live view table key found
speaker_by_candidates state live view table key records candidates None are all_ none =
    record {
      records = records;
      of_table = are;
      speaks = each_record (λ p. Speaks state live view table key p → ⊥) records
          (λ p among speaks. none p (all_ p among speaks) among speaks);
    }
speaker_by_candidates state live view table key records candidates (Some p) are all_ found =
    record { records = records; of_table = are; speaks = found }

-- a list of versions of which one counts is not empty
some_there : (takes : ℕ → Bool) (es : List Entry) (e : Entry) → first_entry takes es ≡ Some e → es ≢ []
some_there takes [] e is none = let no : None ≡ Some e = is in absurd cc
some_there takes (d ∷ ds) e is none = absurd cc

-- a record that speaks for a key is in the directory, under the key
pub speaks_noted : SpeakersOfReadings → (state : ℕ → TxState) (live : State) (view : Pages) (table : Table)
    (key : Value) (p : RecId) (f : Facts) (r : Reading) (dir : ByKey) → IsReadAt view f r table p
    → IsNoted f r table.pointer.0 dir → Speaks state live view table key p → IsCandidate (dir (key_bytes key)) p
speaks_noted of_readings state live view table key p f r dir read noted speaks =
    let in_ : SpeakIn state live table key (r p) = (of_readings state live view table key p f r read).0 speaks in
    subst (λ (k : Value). IsCandidate (dir (key_bytes k)) p) in_.keyed
    (noted p table read.of_table refl (some_there (wants state live Living) (r p) in_.newest in_.first))

-- so the directory tells who speaks for a key
pub speaker_by_directory : SpeakersOfReadings → (state : ℕ → TxState) (live : State) (view : Pages) (table : Table)
    (key : Value) (records : List RecId) (f : Facts) (r : Reading) (dir : ByKey) (found : Option RecId)
    → AreRecords packed_coding f (cells_of view) r → AreTableRecords view table.pointer.0 records
    → ((p : RecId) → IsAmong records p → table_in f p ≡ Some table) → IsNoted f r table.pointer.0 dir
    → FoundAmong state live view table key records (dir (key_bytes key)) found
    → IsSpeaker state live view table key found
speaker_by_directory of_readings state live view table key records f r dir found lawful are its noted among =
    speaker_by_candidates state live view table key records (dir (key_bytes key)) found are
    (λ p there speaks. speaks_noted of_readings state live view table key p f r dir
    (record { lawful = lawful; of_table = its p there }) noted speaks) among

-- ---- how it is made

-- a directory that was built so has each record, where the table's name tells it
pub built_noted : KeysOfReadings → (state : ℕ → TxState) (live : State) (view : Pages) (table : Table)
    (records : List RecId) (f : Facts) (r : Reading) (dir : ByKey)
    → AreRecords packed_coding f (cells_of view) r
    → ((p : RecId) (other : Table) → table_in f p ≡ Some other → other.pointer.0 ≡ table.pointer.0 → r p ≢ []
    → (other ≡ table) × IsAmong records p)
    → IsBuilt state live view table records dir → IsNoted f r table.pointer.0 dir
built_noted of_readings state live view table records f r dir lawful its built p other of first some =
    by (its p other of first some).0 (built p (its p other of first some).1) (r p) refl some
  where
    by : other ≡ table → (key : Option Value) × IsKeyOf state live view table p key
        × ((k : Value) → key ≡ Some k → IsCandidate (dir (key_bytes k)) p)
        → (es : List Entry) → r p ≡ es → es ≢ [] → IsCandidate (dir (key_bytes (record_key other (r p)))) p
    by same (key, is_key, has) [] are some_ = absurd (some_ refl)
    by same (key, is_key, has) (e ∷ es) are some_ =
        subst (λ (t : Table). IsCandidate (dir (key_bytes (record_key t (r p)))) p) (sym same)
        (has (record_key table (r p)) (of_readings state live view table p key f r
        (record { lawful = lawful; of_table = of ∙ ap Some same }) is_key
        ∙ (ap (key_in table) are ∙ ap (λ (xs : List Entry). Some (record_key table xs)) (sym are))))
