-- A row is written once the keys of its table are noted.
use Rattle.std.proofs.Common.{◌≡◌, inl, inr, None, Some, Result, Ok, Err, sym, ap, ◌∙◌, subst, arith}
use Rattle.std.specs.Prelude.{MatchResult}
use Rattle.mg_base.specs.Disk.{Meaning}
use Rattle.mg_base.specs.declared.numbers.TxNo.{TxNo}
use Rattle.mg_core.specs.Cores.{IsCore}
use Rattle.mg_core.specs.Noting.{WhyNotMade}
use Rattle.mg_core.specs.declared.parts.Core.{Core}
use Rattle.mg_core.specs.declared.scanning.Place.{Place}
use Rattle.mg_engine.proofs.BehindLemmas.{gives_behind, room_behind, told_behind, undamaged_behind}
use Rattle.mg_engine.proofs.NotingLemmas.{noted_apart, noting_whole}
use Rattle.mg_engine.proofs.UnreadLemmas.{unread_looks}
use Rattle.mg_engine.specs.Changing.{ChangesGoOn, GivesWrite, WritesFirst}
use Rattle.mg_engine.specs.Keyed.{NotesGoOn}
use Rattle.mg_engine.specs.Noting.{HasNoted, NotesKeys, OnlyLooks}
use Rattle.mg_engine_change_laws.specs.memory.Notes.{AreCounts}
use Rattle.mg_engine_change_laws.specs.rows.Refusals.{RefusesStill}
use Rattle.mg_engine_change_laws.specs.rows.Steps.{NotedFailsApart, NotedFailsGive, NotedWritesApart, NotedWritesGive}
use Rattle.mg_engine_change_laws.specs.faults.Told.{WritesTell, disk_count}
use Rattle.mg_engine_change_laws.specs.rows.Unread.{LeavesUnread, UnreadWritesGive}
use Rattle.mg_engine_meaning_laws.specs.Counts.{HasCounts}
use Rattle.mg_engine_meaning_laws.specs.Frames.{GivesEvent}
use Rattle.mg_engine_meaning_laws.specs.Meaning.{Places}
use Rattle.mg_engine_meaning_laws.specs.Steps.{ReadsGoOn}
use Rattle.mg_model.specs.declared.refusal.Refusal.{Refusal}
use Rattle.mg_model.specs.declared.table.Table.{Table}
use Rattle.mg_no_damage_laws.specs.Calls.{WritesMeetNone}
use Rattle.mg_no_damage_laws.specs.CoreReads.{KeysAreNoted}
use Rattle.mg_no_damage_laws.specs.FewPages.{CoreTakes}
use Rattle.mg_no_damage_laws.specs.FewPagesCalls.{WritesTakeFew}
use Rattle.mg_no_damage_laws.specs.FewPagesLaws.{room_up}
use Rattle.mg_no_damage_laws.specs.Sound.{SoundRecordsAreLawful, SoundTablesStand}
use Rattle.mg_records.specs.Adding.{fine_or}
use Rattle.mg_records.specs.Keeping.{refusal_in}
use Rattle.mg_records.specs.Room.{pages_of_row}
use Rattle.mg_records.specs.Writing.{FitsShape, event_of}
use Rattle.mg_records.specs.declared.write.Write.{Write}
use Rattle.mg_taking_back.specs.Noting.{FailsNoted, WritesNoted}
use Rattle.mg_works.specs.Works.{AreApart, MayBeGiven, given_to}

-- What is known of engines that write a row.
pub record ChangeParts {D : Type 0} (m : Meaning D) : Type 0 where
  pub reads : ReadsGoOn D Place m
  pub notes : NotesGoOn D m
  pub noted : KeysAreNoted m
  pub records : SoundRecordsAreLawful
  pub stand : SoundTablesStand
  pub unread : UnreadWritesGive D Place m
  pub writes : NotedWritesGive D Place m
  pub fails : NotedFailsGive D Place m
  pub writes_apart : NotedWritesApart D m
  pub fails_apart : NotedFailsApart D Place m
  pub told : WritesTell D m
  pub whole : WritesMeetNone D m
  pub few : WritesTakeFew D m

counts_fit : {D : Type 0} (core : Core D) → HasCounts core → AreCounts core
counts_fit core counts = record {
  damage = let most = counts.damage in omega (arith, most);
  shortages = let most = counts.shortages in omega (arith, most);
}

module _ {D : Type 0} (m : Meaning D) (parts : ChangeParts m) (places : Places Place) (t : TxNo) (table : Table)
    (write : Write) (may : MayBeGiven table) (fits : FitsShape table.shape write) where
  -- ---- the row is written

  written : (old new : Core D) → IsCore m old → HasCounts old → AreApart old.works
      → given_to old.works t.0 table.name ≡ Some table → (result : Result (Unit {0}) Refusal)
      → MatchResult result (λ _. WritesNoted m old new t table write) (FailsNoted m old new t table write)
      → GivesWrite m places old new t table write result
  written old new core counts apart given result is = record {
    gives = gives result is;
    told = parts.told old new t table write result is;
    undamaged = parts.whole old new t table write result core given fits is;
    room = parts.few old new t table write result core given fits is;
    apart = sessions result is;
  }
    where
      gives : (result : Result (Unit {0}) Refusal)
          → MatchResult result (λ _. WritesNoted m old new t table write) (FailsNoted m old new t table write)
          → GivesEvent m places old new (event_of t table.name write) (fine_or result) (refusal_in result) None
          (Some t.0) None None
      gives (Ok x) is = parts.writes places old new t table write core given fits is
      gives (Err refusal) is = parts.fails places old new t table write refusal core (counts_fit old counts) given fits is

      sessions : (result : Result (Unit {0}) Refusal)
          → MatchResult result (λ _. WritesNoted m old new t table write) (FailsNoted m old new t table write)
          → AreApart new.works
      sessions (Ok x) is = parts.writes_apart old new t table write core given may apart is
      sessions (Err refusal) is = parts.fails_apart places old new t table write refusal core (counts_fit old counts)
          given fits may apart is

  -- ---- once the keys of its table are noted

  module _ (old new : Core D) (counts : HasCounts old) (apart : AreApart old.works)
      (given : given_to old.works t.0 table.name ≡ Some table) where
    behind : (mid : Core D) (result : Result (Unit {0}) Refusal) → OnlyLooks m places old mid None
        → GivesWrite m places mid new t table write result → GivesWrite m places old new t table write result
    behind mid result first second = record {
      gives = gives_behind m places old mid new first (event_of t table.name write) (fine_or result)
          (refusal_in result) None (Some t.0) None None second.gives;
      told = told_behind m places old mid new first (refusal_in result) second.told;
      undamaged = undamaged_behind m places old mid new first second.undamaged;
      room = room_behind m places old mid new first (refusal_in result) pages_of_row second.room;
      apart = second.apart;
    }

    noted_written : (result : Result (Unit {0}) Refusal)
        → HasNoted m old t.0 table (λ noted. MatchResult result (λ _. WritesNoted m noted new t table write)
        (FailsNoted m noted new t table write)) → GivesWrite m places old new t table write result
    noted_written result has = at has.notes
      where
        its_apart : AreApart has.noted.works
        its_apart = noted_apart m old has.noted t.0 table has.notes apart

        at : NotesKeys m old has.noted t.0 table → GivesWrite m places old new t table write result
        at (inl same) = subst (λ (c : Core D). GivesWrite m places c new t table write result) same
            (written has.noted new has.core (subst (HasCounts {D = D}) (sym same) counts) its_apart
            (ap (λ (c : Core D). given_to c.works t.0 table.name) same ∙ given) result has.goes)
        at (inr (continues, makes)) = behind has.noted result
            (parts.notes places old has.noted t table given continues makes)
            (written has.noted new has.core (subst (HasCounts {D = D}) (sym makes.same)
            (record { damage = counts.damage; shortages = counts.shortages })) its_apart
            (ap (λ (c : Core D). given_to c.works t.0 table.name) makes.same ∙ given) result has.goes)

    -- ---- its table's rows were not read for that

    unread : IsCore m old → (refusal : Refusal) → LeavesUnread m old new t.0 (WhyNotMade m old table) refusal
        → GivesWrite m places old new t table write (Err refusal)
    unread core refusal is = record {
      gives = still.gives;
      told = λ k quiet. ap (λ (c : Core D). disk_count m k c.store.disk) is.ends.same ∙ looks.told k quiet;
      undamaged = λ o h stands told. ap (λ (c : Core D). c.damage) is.ends.same ∙ looks.undamaged o h stands told;
      room = λ o h stands told. room_up m old new (Some refusal) 0 pages_of_row (omega arith)
          (subst (λ (c : Core D). CoreTakes m old c (Some refusal) 0) (sym is.ends.same)
          (let takes = looks.room o h stands told in record { left = takes.left; enough = takes.enough }));
      apart = subst AreApart (sym still.works) apart;
    }
      where
        still : RefusesStill m places old new (event_of t table.name write) refusal t.0
        still = parts.unread places old new t table write refusal core (counts_fit old counts) is

        looks : OnlyLooks m places old is.read (Some refusal)
        looks = unread_looks m parts.reads places old is.read t (WhyNotMade m old table) refusal is.continues counts is.fails
            (noting_whole m parts.noted parts.records parts.stand places old is.read t table refusal given is.continues
            is.fails)

pub changes_go_on : {D : Type 0} (m : Meaning D) → ChangeParts m → ChangesGoOn D m
changes_go_on m parts places old new t table write (Ok x) core counts apart may given fits has =
    noted_written m parts places t table write may fits old new counts apart given (Ok x)
    (record { noted = has.noted; core = has.core; notes = has.notes; goes = has.goes })
changes_go_on m parts places old new t table write (Err refusal) core counts apart may given fits (inr has) =
    noted_written m parts places t table write may fits old new counts apart given (Err refusal)
    (record { noted = has.noted; core = has.core; notes = has.notes; goes = has.goes })
changes_go_on m parts places old new t table write (Err refusal) core counts apart may given fits (inl is) =
    unread m parts places t table write may fits old new counts apart given core refusal is

-- ---- the row was written from there

pub noted_writes : {D : Type 0} (m : Meaning D) (old noted new : Core D) (t : TxNo) (table : Table) (write : Write)
    (result : Result (Unit {0}) Refusal) → IsCore m noted → NotesKeys m old noted t.0 table
    → MatchResult result (λ _. WritesNoted m noted new t table write) (FailsNoted m noted new t table write)
    → WritesFirst m old new t table write result
noted_writes m old noted new t table write (Ok x) core notes writes =
    record { noted = noted; core = core; notes = notes; goes = writes }
noted_writes m old noted new t table write (Err refusal) core notes fails =
    inr (record { noted = noted; core = core; notes = notes; goes = fails })
