-- The keys of a table are noted: nothing comes of it but a reading.
use Rattle.std.proofs.Common.{◌≡◌, inl, inr, ℕ, true, Option, None, Some, Result, Ok, Err, refl, sym, ap, ◌∙◌, subst, arith}
use Rattle.mg_base.specs.Disk.{Meaning}
use Rattle.mg_base.specs.declared.numbers.TxNo.{TxNo}
use Rattle.mg_core.specs.Cores.{Continues, IsCore}
use Rattle.mg_core.specs.Noting.{MakesDirectory, WhyNotMade}
use Rattle.mg_core.specs.Reading.{FailsReading}
use Rattle.mg_core.specs.declared.parts.Core.{Core}
use Rattle.mg_core.specs.declared.scanning.Place.{Place}
use Rattle.mg_engine.proofs.GivenLemmas.{given_begins_elsewhere, given_there}
use Rattle.mg_engine.specs.Keyed.{AnswersKey, AnswersNoted, NotesGoOn}
use Rattle.mg_engine.specs.Noting.{NotesKeys, OnlyLooks}
use Rattle.mg_engine_change_laws.specs.faults.FaultCoreLaws.{only_read}
use Rattle.mg_engine_meaning_laws.specs.DirectoryLaws.{made_stands}
use Rattle.mg_engine_meaning_laws.specs.FrameLaws.{sessions_of, works_same}
use Rattle.mg_engine_meaning_laws.specs.Meaning.{AreNext, Places, means, place_at}
use Rattle.mg_engine_meaning_laws.specs.Standings.{ShowsIt, StandsFor, standing_of}
use Rattle.mg_engine_meaning_laws.specs.StepLaws.{as_standing, shows_of}
use Rattle.mg_engine_meaning_laws.specs.Steps.{ReadsGoOn}
use Rattle.mg_engine_step_laws.specs.writes.Batches.{ReadsLast}
use Rattle.mg_engine_step_laws.specs.standing.Standing.{Standing}
use Rattle.mg_engine_step_laws.specs.reads.Walking.{WalkPlace}
use Rattle.mg_heap.specs.Stands.{TablesAreWalked}
use Rattle.mg_image.specs.Form.{packed_form}
use Rattle.mg_image_overlay_laws.specs.tables.OneLayout.{StandsOneWay}
use Rattle.mg_model.specs.Changes.{Cells, KeyedRows}
use Rattle.mg_model.specs.History.{Entries}
use Rattle.mg_model.specs.Laws.{OpeningsBegin}
use Rattle.mg_model.specs.declared.opening.Opening.{Opening}
use Rattle.mg_model.specs.declared.refusal.Refusal.{Refusal}
use Rattle.mg_model.specs.declared.table.Table.{Table}
use Rattle.mg_no_damage_laws.specs.CoreReads.{KeysAreNoted}
use Rattle.mg_no_damage_laws.specs.FewPagesLaws.{room_alike}
use Rattle.mg_no_damage_laws.specs.ShownLaws.{shown_table}
use Rattle.mg_no_damage_laws.specs.Sound.{SoundRecordsAreLawful, SoundTablesStand}
use Rattle.mg_no_damage_laws.specs.Stands.{TellsNone}
use Rattle.mg_pool.specs.Dirty.{DirtyPages}
use Rattle.mg_pool.specs.Pool.{shown}
use Rattle.mg_records.specs.Crashing.{LeavesQuietly}
use Rattle.mg_records.specs.Keeping.{Reads, WalksStay}
use Rattle.mg_seek.specs.Readings.{KeysOfReadings}
use Rattle.mg_space.specs.declared.links.FireLinks.{FireLinks}
use Rattle.mg_value.specs.declared.value.Value.{Value}
use Rattle.mg_works.specs.Works.{AreApart, given_to}

-- What is known of engines that note the keys of a table.
pub record NoteParts {D : Type 0} (m : Meaning D) : Type 0 where
  pub reads : ReadsGoOn D Place m
  pub begin : OpeningsBegin
  pub last : ReadsLast D FireLinks m packed_form
  pub walked : TablesAreWalked
  pub keys : KeysOfReadings
  pub one_way : StandsOneWay packed_form

module _ {D : Type 0} (m : Meaning D) (parts : NoteParts m) (places : Places Place) (old : Core D) (t : TxNo)
    (table : Table) (given : given_to old.works t.0 table.name ≡ Some table) where
  -- ---- a directory may have been made

  module _ (new : Core D) (continues : Continues old t.0) (makes : MakesDirectory m old new table) where
    now_stands : (o : Opening) (h : Entries) → StandsFor m old o h
        → StandsFor m (record old { store = new.store; directories = new.directories }) o h
    now_stands o h stands = subst (λ (c : Core D). StandsFor m c o h) makes.same
        (made_stands m places parts.begin parts.last parts.walked parts.keys parts.one_way old new table makes
        (given_begins_elsewhere m places old t table given o h stands continues
        (shows_of m old o h stands continues.0)) o h stands
        (given_there m places old t table given o h stands continues))

    both : Reads (means m places) old (record old { store = new.store }) None None
        × LeavesQuietly (means m places) old (record old { store = new.store })
    both = parts.reads places old new.store old.damage old.shortages None None makes.keeps (omega arith) (omega arith)
        (record { cause = tt; offline = rw continues.0 tt; down = makes.keeps.offline })

    -- the rows to come are known by the cache alone
    next_now : (s s_now : Standing) (u : ℕ) (walked : Table) (after : Option WalkPlace) (rows : KeyedRows)
        (off : Option ℕ) → s.state ≡ s_now.state → s.live ≡ s_now.live
        → AreNext m (record old { store = new.store }) s u walked after rows off
        → AreNext m (record old { store = new.store; directories = new.directories }) s_now u walked after rows off
    next_now s s_now u walked after rows None state live (i, held, next) = (
      i,
      held,
      as_standing new.store.geometry.size s s_now (shown new.store.dirty i) u walked after rows state live next,
    )
    next_now s s_now u walked after rows (Some faults) state live next = tt

    walks_now : WalksStay (means m places) old (record old { store = new.store; directories = new.directories }) None
    walks_now u walked after rows not_ comes =
        let was = both.0.walks_stay u walked after rows not_ comes in
        let stands_now : StandsFor m (record old { store = new.store; directories = new.directories }) comes.opening
        comes.entries = now_stands comes.opening comes.entries comes.stands in record {
          opening = comes.opening;
          entries = comes.entries;
          stands = stands_now;
          active = comes.active;
          seen = comes.seen;
          next = next_now (standing_of (record old { store = new.store }) was.stands.numbers was.stands.tables)
              (standing_of (record old { store = new.store; directories = new.directories }) stands_now.numbers
              stands_now.tables) u walked (place_at places after) rows new.store.offline refl refl was.next;
        }

    now_looks : OnlyLooks m places old (record old { store = new.store; directories = new.directories }) None
    now_looks = record {
      reads = record {
        stays = now_stands;
        keeps = record {
          faults = both.0.keeps.faults;
          damage = omega arith;
          shortages = omega arith;
          cause = tt;
          offline = both.0.keeps.offline;
          down = both.0.keeps.down;
          tells = both.0.keeps.tells;
          most_writes = both.0.keeps.most_writes;
          page_limit = both.0.keeps.page_limit;
          time = λ told. let time = both.0.keeps.time told in record { later = time.later; keeps = time.keeps };
          sizes = both.0.keeps.sizes;
          holds = both.0.keeps.holds;
          given = both.0.keeps.given;
          places = both.0.keeps.places;
        };
        tables = both.0.tables;
        walks_stay = walks_now;
        commits = record {
          asked = both.0.commits.asked;
          written = λ u not_ was. let w = both.0.commits.written u not_ was in record { asked = w.asked; none = w.none };
        };
      };
      crash = λ o h stands told. let quiet = both.1 o h stands told in
          record { each = quiet.each; before = quiet.before };
      sessions = sessions_of m places old (record old { store = new.store; directories = new.directories }) t.0
          (works_same old.works t.0);
      told = λ k quiet. only_read m k old (record old { store = new.store })
          (record { keeps = makes.keeps; online = makes.online; same = refl });
      undamaged = λ o h stands told. refl;
      room = λ o h stands told. room_alike m old (record old { store = new.store; directories = new.directories }) None
          (λ i tells. record {
            told = sym makes.keeps.disk.tells ∙ tells.told;
            held = sym makes.keeps.disk.held ∙ tells.held;
          }) makes.keeps.geometry (λ i n. ap (λ (d : DirtyPages). shown d i n) makes.keeps.dirty) tt;
      unwritten = makes.keeps.disk.asked;
    }

    made_looks : OnlyLooks m places old new None
    made_looks = subst (λ (c : Core D). OnlyLooks m places old c None) (sym makes.same) now_looks

pub notes_go_on : {D : Type 0} (m : Meaning D) → NoteParts m → NotesGoOn D m
notes_go_on m parts places old new t table given continues makes =
    made_looks m parts places old t table given new continues makes

-- ---- or its rows were not read

-- no damage is met over a sound image
pub noting_whole : {D : Type 0} (m : Meaning D) → KeysAreNoted m → SoundRecordsAreLawful → SoundTablesStand
    → (places : Places Place) (old new : Core D) (t : TxNo) (table : Table) (refusal : Refusal)
    → given_to old.works t.0 table.name ≡ Some table → Continues old t.0
    → FailsReading m old new (WhyNotMade m old table) refusal → (o : Opening) (h : Entries) → StandsFor m old o h
    → m.tells old.store.disk ≡ true → TellsNone refusal
noting_whole {D} m noted records stand places old new t table refusal given continues fails o h stands told page field a b
    same =
    let shows : ShowsIt m old o h (standing_of old stands.numbers stands.tables) = shows_of m old o h stands continues.0 in
    noted old new shows.image table
    (shown_table records stand m old o h (standing_of old stands.numbers stands.tables) shows told table
    (given_there m places old t table given o h stands continues shows)) page field a b
    (subst (FailsReading m old new (WhyNotMade m old table)) same fails)

-- ---- works are as they were

pub noted_apart : {D : Type 0} (m : Meaning D) (old noted : Core D) (t : ℕ) (table : Table)
    → NotesKeys m old noted t table → AreApart old.works → AreApart noted.works
noted_apart {D} m old noted t table (inl same) apart = subst AreApart (sym (ap (λ (c : Core D). c.works) same)) apart
noted_apart {D} m old noted t table (inr (continues, makes)) apart =
    subst AreApart (sym (ap (λ (c : Core D). c.works) makes.same)) apart

-- ---- the row was looked for from there

pub noted_answers : {D : Type 0} (m : Meaning D) (old noted new : Core D) (t : TxNo) (table : Table) (key : Value)
    (result : Result (Option Cells) Refusal) → IsCore m noted → NotesKeys m old noted t.0 table
    → AnswersKey m noted new t table key result → AnswersNoted m old new t table key result
noted_answers m old noted new t table key (Ok row) core notes answers =
    record { noted = noted; core = core; notes = notes; goes = answers }
noted_answers m old noted new t table key (Err refusal) core notes answers =
    inr (record { noted = noted; core = core; notes = notes; goes = answers })
