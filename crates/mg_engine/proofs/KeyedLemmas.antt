-- A row that was asked for by its key is the one that the history tells, and nothing else comes of the call.
use Rattle.std.proofs.Common.{◌≡◌, inl, inr, ◌<◌, ◌^◌, ℕ, Bool, true, false, List, [], ◌∷◌, Option, None, Some, Result, Ok, Err, refl, sym, ap, ◌∙◌, subst, arith}
use Rattle.std.specs.Prelude.{IfOk, OnOk, get_or, if◌then◌else◌}
use Rattle.mg_engine_meaning_laws.specs.DirectoryLaws.{knows_key}
use Rattle.mg_heap.specs.Stands.{TablesAreWalked}
use Rattle.mg_seek.specs.Readings.{SpeakersOfReadings}
use Rattle.mg_base.specs.Disk.{Meaning}
use Rattle.mg_base.specs.declared.numbers.RecId.{RecId}
use Rattle.mg_base.specs.declared.numbers.TxNo.{TxNo}
use Rattle.mg_base.specs.declared.transaction.TxState.{TxState}
use Rattle.mg_base.specs.declared.transaction.TxState.TheVariants.{Active}
use Rattle.mg_core.specs.declared.parts.Core.{Core}
use Rattle.mg_core.specs.declared.scanning.Place.{Place}
use Rattle.mg_core.specs.Cores.{Continues, RefusesCall}
use Rattle.mg_core.specs.Reading.{FailsReading}
use Rattle.mg_core.specs.Writing.{KnowsKey, WhyOfKnown, row_unread}
use Rattle.mg_core.specs.Noting.{WhyNotMade}
use Rattle.mg_engine.proofs.BehindLemmas.{looks_behind}
use Rattle.mg_engine.proofs.GivenLemmas.{given_no_catalog, given_there, its_active}
use Rattle.mg_engine.proofs.NotingLemmas.{noted_apart, noting_whole}
use Rattle.mg_engine.proofs.UnreadLemmas.{unread_looks, unread_refused}
use Rattle.mg_engine.specs.Keyed.{AnswersKey, AnswersNoted, FailsKey, GivesRow, KeysGoOn, NotesGoOn, ReadsKey}
use Rattle.mg_engine.specs.Noting.{HasNoted, NotesKeys, OnlyLooks}
use Rattle.mg_engine.specs.Places.{places as core_places}
use Rattle.mg_engine_change_laws.specs.faults.FaultCoreLaws.{only_read}
use Rattle.mg_engine_meaning_laws.specs.Counts.{HasCounts}
use Rattle.mg_engine_meaning_laws.specs.FrameLaws.{sessions_of, works_same}
use Rattle.mg_engine_meaning_laws.specs.LawfulLaws.{memory_of}
use Rattle.mg_engine_meaning_laws.specs.Meaning.{Places, means}
use Rattle.mg_engine_meaning_laws.specs.Standings.{ShowsIt, StandsFor, standing_of}
use Rattle.mg_engine_meaning_laws.specs.StepLaws.{refused_none, shows_of}
use Rattle.mg_engine_meaning_laws.specs.Steps.{AddsNone, ReadsGoOn}
use Rattle.mg_engine_step_laws.specs.reads.AnswersLaws.{NothingAtKeys, RowsAtKeys, SpeakersAreTold, TellsSpeaker}
use Rattle.mg_engine_step_laws.specs.reads.KeyAnswers.{has_speaker}
use Rattle.mg_engine_step_laws.specs.standing.Known.{IsShown, KnowsPages, facts_shown, speaker_of}
use Rattle.mg_engine_step_laws.specs.standing.Standing.{Standing}
use Rattle.mg_generation_laws.specs.Generations.{sees, shown_by}
use Rattle.mg_generation_laws.specs.Laws.{ChainsShowViews}
use Rattle.mg_image.specs.declared.entry.Entry.{Entry}
use Rattle.mg_image.specs.Form.{Pages, Row, packed_coding}
use Rattle.mg_image.specs.Held.{told_row}
use Rattle.mg_image.specs.RecordRules.{Each, Facts, IsVersion}
use Rattle.mg_image.specs.Records.{key_of, record_key, writer}
use Rattle.mg_image_overlay_laws.specs.records.Fronts.{is_dead, living}
use Rattle.mg_model.specs.declared.opening.Opening.{Opening}
use Rattle.mg_model.specs.declared.refusal.Refusal.{Refusal}
use Rattle.mg_model.specs.declared.table.Table.{Table}
use Rattle.mg_model.specs.Answers.{is_active, told}
use Rattle.mg_model.specs.Catalog.{catalog_name}
use Rattle.mg_model.specs.Changes.{Cells, row_at, same_name}
use Rattle.mg_model.specs.History.{Entries}
use Rattle.mg_model.specs.Laws.{OpeningsBegin}
use Rattle.mg_model.specs.Machine.{state_of, view}
use Rattle.mg_no_damage_laws.specs.CoreReads.{KeysAreNoted, RowsAreFound, ShowsTable}
use Rattle.mg_no_damage_laws.specs.CoreSpendingLaws.{refused_by}
use Rattle.mg_no_damage_laws.specs.FewPagesLaws.{room_alike, room_kept}
use Rattle.mg_no_damage_laws.specs.ShownLaws.{shown_table}
use Rattle.mg_no_damage_laws.specs.Stands.{TellsNone}
use Rattle.mg_no_damage_laws.specs.Sound.{SoundRecordsAreLawful, SoundTablesStand}
use Rattle.mg_pool.specs.Dirty.{DirtyPages}
use Rattle.mg_pool.specs.Pool.{shown}
use Rattle.mg_records.specs.Crashing.{LeavesQuietly}
use Rattle.mg_records.specs.Adding.{IsRefused}
use Rattle.mg_records.specs.Keeping.{Reads, refusal_in}
use Rattle.mg_records.specs.Meaning.{Means}
use Rattle.mg_records.specs.Needed.{with_room}
use Rattle.mg_records.specs.declared.write.Write.TheVariants as writes
use Rattle.mg_row_writes.specs.Finding.{IsRowAt, IsSeenIn}
use Rattle.mg_row_writes.specs.declared.finding.RowAt.{RowAt}
use Rattle.mg_seek.specs.Histories.{HasSpeaker, told_all, told_if, told_versions}
use Rattle.mg_tending.specs.Keyed.{HaveTheirKeys, IsSeenAt}
use Rattle.mg_txlist.specs.TxList.{said}
use Rattle.mg_value.specs.declared.shape.Shape.{Shape}
use Rattle.mg_value.specs.declared.value.Value.{Value}
use Rattle.mg_value.specs.declared.value.Value.TheVariants.{Null}
use Rattle.mg_works.specs.Works.{AreApart, given_to}

-- What is known of engines of which a row is asked for.
pub record KeyParts {D : Type 0} (m : Meaning D) : Type 0 where
  pub reads : ReadsGoOn D Place m
  pub speakers : SpeakersAreTold
  pub rows : RowsAtKeys
  pub nothing : NothingAtKeys
  pub views : ChainsShowViews
  pub begin : OpeningsBegin
  pub found : RowsAreFound m
  pub records : SoundRecordsAreLawful
  pub stand : SoundTablesStand
  pub walked : TablesAreWalked
  pub speaks : SpeakersOfReadings
  pub notes : NotesGoOn D m
  pub noted : KeysAreNoted m

-- the rows of a table that is not the catalog are told as they are stored
told_same : (table : Table) (row : Option Row) → same_name table.name catalog_name ≡ false → told_if table row ≡ row
told_same table None apart = refl
told_same table (Some row) apart = rw apart refl

-- ---- rows have their keys

-- the key of a row that versions of a record show is the record's
key_told : (f : Facts) (counts : ℕ → Bool) (table : Table) (key : Value) (es : List Entry) (row : Row)
    → same_name table.name catalog_name ≡ false → Each (IsVersion packed_coding f table key) es
    → shown_by counts (told_all table es) ≡ Some row → key_of table row ≡ key
key_told f counts table key [] row apart each is = absurd cc
key_told f counts table key (e ∷ es) row apart each is = at (counts (writer e)) e.version.deleted is
    (λ more. key_told f counts table key es row apart each.1 more)
  where
    plain : told_row table e.row ≡ e.row
    plain = rw apart refl

    at : (b d : Bool) → (if b then (if d then None else Some (told_row table e.row))
        else shown_by counts (told_all table es)) ≡ Some row
        → (shown_by counts (told_all table es) ≡ Some row → key_of table row ≡ key) → key_of table row ≡ key
    at true true none more = absurd cc
    at true false some more =
        let same : told_row table e.row ≡ row = cc in ap (key_of table) (sym same ∙ plain) ∙ each.0.keyed
    at false d later more = more later

each_living : (P : Entry → Type 0) (state : ℕ → TxState) (es : List Entry) → Each P es → Each P (living state es)
each_living P state [] each = tt
each_living P state (e ∷ es) each = at (is_dead (state (writer e)))
  where
    at : (b : Bool) → Each P (if b then es else e ∷ es)
    at true = each.1
    at false = each

-- pages were not read for the call
unread_gives : {D : Type 0} (m : Meaning D) (places : Places Place) (old new : Core D) (t : TxNo) (table : Table)
    (key : Value) (refusal : Refusal) → OnlyLooks m places old new (Some refusal)
    → ((o : Opening) (h : Entries) → IsRefused o h t.0 refusal) → GivesRow m places old new t table key (Err refusal)
unread_gives m places old new t table key refusal looks refused = record {
  finds = tt;
  keyed = tt;
  answers = λ o h stands. refused o h;
  reads = looks.reads;
  crash = looks.crash;
  sessions = looks.sessions;
  told = looks.told;
  undamaged = looks.undamaged;
  room = looks.room;
  unwritten = looks.unwritten;
}

module _ {D : Type 0} (m : Meaning D) (parts : KeyParts m) (places : Places Place) (old : Core D) (t : TxNo)
    (table : Table) (key : Value) (given : given_to old.works t.0 table.name ≡ Some table) where
  -- ---- one history

  module _ (o : Opening) (h : Entries) (stands : StandsFor m old o h) (continues : Continues old t.0) where
    abbrev shows : ShowsIt m old o h (standing_of old stands.numbers stands.tables)
    shows = shows_of m old o h stands continues.0

    active : state_of o h t.0 ≡ Active
    active = its_active m places old t table given o h stands continues

    not_catalog : same_name table.name catalog_name ≡ false
    not_catalog = given_no_catalog m places old t table given o h stands continues

    table_there : IsShown shows.stands.shows.layout table
    table_there = given_there m places old t table given o h stands continues shows

    -- the candidates that directories have for the key are enough
    known : KnowsKey old table key (shown old.store.dirty shows.image)
    known = knows_key m old o h stands.numbers stands.tables shows parts.walked table table_there parts.speaks key

    abbrev knows : KnowsPages old.store.geometry.size o h (standing_of old stands.numbers stands.tables)
        (shown old.store.dirty shows.image)
    knows = record { memory = shows.stands.memory; shows = shows.stands.shows }

    row_is : (found : RowAt)
        → IsRowAt (said old.list) old.live t (shown old.store.dirty shows.image) table key found
        → found.row ≡ row_at (view o h t.0) table.name key
    row_is found at_key = at found.rec found.row at_key.seen
        (parts.speakers old.store.geometry.size o h (standing_of old stands.numbers stands.tables)
        (shown old.store.dirty shows.image) knows table key found.rec table_there at_key.spoken)
      where
        at : (r : Option RecId) (row : Option Row)
            → IsSeenIn (said old.list) old.live t (shown old.store.dirty shows.image) table r row
            → TellsSpeaker old.store.geometry.size o h (standing_of old stands.numbers stands.tables)
            (shown old.store.dirty shows.image) knows table.name key r
            → row ≡ row_at (view o h t.0) table.name key
        at None row none (chain, silent) = none ∙ sym (parts.nothing o h table.name key t.0
            (parts.begin o shows.stands.opening) shows.stands.legal chain active).0
        at (Some r) row is speaks = sym (parts.rows old.store.geometry.size o h
            (standing_of old stands.numbers stands.tables) (shown old.store.dirty shows.image) knows table key r t row
            table_there speaks active is ∙ told_same table row not_catalog)

    -- ---- each row stands under the key that it has

    abbrev size : ℕ
    size = old.store.geometry.size

    abbrev standing : Standing
    standing = standing_of old stands.numbers stands.tables

    abbrev pages : Pages
    pages = shown old.store.dirty shows.image

    abbrev its : Table
    its = table_there.its

    abbrev f : Facts
    f = facts_shown size o h standing pages knows

    apart : same_name its.name catalog_name ≡ false
    apart = ap (λ (n : List ℕ). same_name n catalog_name) table_there.same.name ∙ not_catalog

    -- the record that speaks for a key has the key, and so has the row that is seen of it
    own_of : (k : Value) (row : Cells) (x : Option RecId)
        → HasSpeaker o h f knows.shows.reading its k x
        → row_at (view o h t.0) its.name k ≡ Some row → get_or row its.shape.key Null ≡ k
    own_of k row None has is =
        let nothing : None ≡ Some row = sym (parts.views o h its.name k [] t.0 (has.none refl) (ap is_active active)) ∙ is in
        absurd cc
    own_of k row (Some rec) has is =
        let spoken = has.some rec refl in
        key_told f (sees (told o h) t.0) its (record_key its (knows.shows.reading rec))
        (living f.state (knows.shows.reading rec)) row apart
        (each_living (IsVersion packed_coding f its (record_key its (knows.shows.reading rec))) f.state
        (knows.shows.reading rec) (knows.shows.sound.records.each rec its spoken.0).each)
        (sym (parts.views o h its.name k (told_versions f.state its (knows.shows.reading rec)) t.0 spoken.2
        (ap is_active active)) ∙ is) ∙ spoken.1

    own_key : (k : Value) (row : Cells) → row_at (view o h t.0) table.name k ≡ Some row
        → get_or row table.shape.key Null ≡ k
    own_key k row is =
        ap (λ (s : Shape). get_or row s.key Null) (sym table_there.same.shape)
        ∙ own_of k row (speaker_of size o h standing pages knows its.name k)
        (has_speaker size o h standing pages knows its table_there.stands k)
        (ap (λ (n : List ℕ). row_at (view o h t.0) n k) table_there.same.name ∙ is)

    tables : m.tells old.store.disk ≡ true → ShowsTable m old shows.image table
    tables told_ = shown_table parts.records parts.stand m old o h
        (standing_of old stands.numbers stands.tables) shows told_ table table_there

  -- ---- the call

  read : (new : Core D) (row : Option Cells) → ReadsKey m old new t table key row
      → GivesRow m places old new t table key (Ok row)
  read new row is = subst (λ (c : Core D). GivesRow m places old c t table key (Ok row)) (sym is.reads.reads.same)
      (record {
        finds = λ o h stands active_. is.is ∙ row_is o h stands is.continues is.found (is.reads.told
            (shows o h stands is.continues).image
            (record { told = stands.tells; held = (shows o h stands is.continues).held })
            (known o h stands is.continues));
        keyed = λ o h stands active_ k row there. own_key o h stands is.continues k row there;
        answers = λ o h stands. sym ((memory_of m old o h stands).state t.0) ∙ is.continues.1;
        reads = both.0;
        crash = both.1;
        sessions = sessions_of m places old (record old { store = new.store }) t.0 (works_same old.works t.0);
        told = λ k quiet. only_read m k old new is.reads.reads;
        undamaged = λ o h stands told_. refl;
        room = λ o h stands told_. room_alike m old (record old { store = new.store }) None
            (λ i tells. record {
              told = sym is.reads.reads.keeps.disk.tells ∙ tells.told;
              held = sym is.reads.reads.keeps.disk.held ∙ tells.held;
            }) is.reads.reads.keeps.geometry
            (λ i n. ap (λ (d : DirtyPages). shown d i n) is.reads.reads.keeps.dirty) tt;
        unwritten = is.reads.reads.keeps.disk.asked;
      })
    where
      both : Reads (means m places) old (record old { store = new.store }) None None
          × LeavesQuietly (means m places) old (record old { store = new.store })
      both = parts.reads places old new.store old.damage old.shortages None None is.reads.reads.keeps (omega arith)
          (omega arith)
          (record { cause = tt; offline = rw is.continues.0 tt; down = is.reads.reads.keeps.offline })

  refused : (refusal : Refusal) → RefusesCall old t.0 refusal
      → GivesRow m places old old t table key (Err refusal)
  refused refusal refuses =
      let none : AddsNone {T = Option Cells} m places old old t.0 (Err refusal) None =
      refused_none m places old t.0 refusal None refuses in
      record {
        finds = tt;
        keyed = tt;
        answers = none.answers;
        reads = none.reads;
        crash = none.crash;
        sessions = none.sessions;
        told = λ k quiet. refl;
        undamaged = λ o h stands told_. refl;
        room = λ o h stands told_. room_kept m old old (Some refusal) refl
            (refused_by old.store.offline (said old.list t.0) refusal refuses);
        unwritten = refl;
      }

  fails : HasCounts old → (new : Core D) (refusal : Refusal) → FailsKey m old new t table key refusal
      → GivesRow m places old new t table key (Err refusal)
  fails counts new refusal is = unread_gives m places old new t table key refusal
      (unread_looks m parts.reads places old new t (WhyOfKnown m old t table key) refusal is.continues counts is.fails whole)
      (unread_refused m parts.reads places old new t (WhyOfKnown m old t table key) refusal is.continues counts is.fails
      whole)
    where
      whole : (o : Opening) (h : Entries) → StandsFor m old o h → m.tells old.store.disk ≡ true → TellsNone refusal
      whole o h stands told_ page field a b same = parts.found old new (shows o h stands is.continues).image table
          (tables o h stands is.continues told_) t key (writes.Erase key) (known o h stands is.continues) page field a b
          (row_unread (subst (FailsReading m old new (WhyOfKnown m old t table key)) same is.fails))

-- ---- the row is looked for

keys_answered : {D : Type 0} (m : Meaning D) → KeyParts m → (places : Places Place) (old new : Core D) (t : TxNo)
    (table : Table) (key : Value) (result : Result (Option Cells) Refusal) → HasCounts old
    → given_to old.works t.0 table.name ≡ Some table → AnswersKey m old new t table key result
    → GivesRow m places old new t table key result
keys_answered m parts places old new t table key (Ok row) counts given is = read m parts places old t table key given new
    row is
keys_answered {D} m parts places old new t table key (Err refusal) counts given (inl (refuses, same)) =
    subst (λ (c : Core D). GivesRow m places old c t table key (Err refusal)) (sym same)
    (refused m parts places old t table key given refusal refuses)
keys_answered m parts places old new t table key (Err refusal) counts given (inr is) =
    fails m parts places old t table key given counts new refusal is

-- ---- once the keys of its table are noted

-- behind a call that only looked
row_behind : {D : Type 0} (m : Meaning D) (places : Places Place) (old mid new : Core D) (t : TxNo) (table : Table)
    (key : Value) (result : Result (Option Cells) Refusal) → OnlyLooks m places old mid None
    → GivesRow m places mid new t table key result → GivesRow m places old new t table key result
row_behind m places old mid new t table key result first second = record {
  finds = finds result second.finds;
  keyed = keyed result second.keyed;
  answers = λ o h stands. second.answers o h (first.reads.stays o h stands);
  reads = looks.reads;
  crash = looks.crash;
  sessions = looks.sessions;
  told = looks.told;
  undamaged = looks.undamaged;
  room = looks.room;
  unwritten = looks.unwritten;
}
  where
    looks : OnlyLooks m places old new (refusal_in result)
    looks = looks_behind m places old mid new first (refusal_in result) (record {
      reads = second.reads;
      crash = second.crash;
      sessions = second.sessions;
      told = second.told;
      undamaged = second.undamaged;
      room = second.room;
      unwritten = second.unwritten;
    })

    finds : (result : Result (Option Cells) Refusal) → IfOk result (IsSeenAt (means m places) mid t.0 table.name key)
        → IfOk result (IsSeenAt (means m places) old t.0 table.name key)
    finds (Ok row) seen = λ o h stands active. seen o h (first.reads.stays o h stands) active
    finds (Err refusal) seen = tt

    keyed : (result : Result (Option Cells) Refusal) → OnOk result (HaveTheirKeys (means m places) mid t.0 table)
        → OnOk result (HaveTheirKeys (means m places) old t.0 table)
    keyed (Ok row) have = λ o h stands active. have o h (first.reads.stays o h stands) active
    keyed (Err refusal) have = tt

noted_answered : {D : Type 0} (m : Meaning D) → KeyParts m → (places : Places Place) (old new : Core D) (t : TxNo)
    (table : Table) (key : Value) (result : Result (Option Cells) Refusal) → HasCounts old
    → given_to old.works t.0 table.name ≡ Some table
    → HasNoted m old t.0 table (λ noted. AnswersKey m noted new t table key result)
    → GivesRow m places old new t table key result
noted_answered {D} m parts places old new t table key result counts given has = at has.notes
  where
    at : NotesKeys m old has.noted t.0 table → GivesRow m places old new t table key result
    at (inl same) = subst (λ (c : Core D). GivesRow m places c new t table key result) same
        (keys_answered m parts places has.noted new t table key result
        (subst (HasCounts {D = D}) (sym same) counts)
        (ap (λ (c : Core D). given_to c.works t.0 table.name) same ∙ given) has.goes)
    at (inr (continues, makes)) = row_behind m places old has.noted new t table key result
        (parts.notes places old has.noted t table given continues makes)
        (keys_answered m parts places has.noted new t table key result
        (subst (HasCounts {D = D}) (sym makes.same) (record { damage = counts.damage; shortages = counts.shortages }))
        (ap (λ (c : Core D). given_to c.works t.0 table.name) makes.same ∙ given) has.goes)

pub keys_go_on : {D : Type 0} (m : Meaning D) → KeyParts m → KeysGoOn D m
keys_go_on m parts places old new t table key (Ok row) counts given has =
    noted_answered m parts places old new t table key (Ok row) counts given has
keys_go_on m parts places old new t table key (Err refusal) counts given (inr has) =
    noted_answered m parts places old new t table key (Err refusal) counts given has
keys_go_on m parts places old new t table key (Err refusal) counts given (inl is) =
    unread_gives m places old new t table key refusal
    (unread_looks m parts.reads places old new t (WhyNotMade m old table) refusal is.continues counts is.fails whole)
    (unread_refused m parts.reads places old new t (WhyNotMade m old table) refusal is.continues counts is.fails whole)
  where
    whole : (o : Opening) (h : Entries) → StandsFor m old o h → m.tells old.store.disk ≡ true → TellsNone refusal
    whole = noting_whole m parts.noted parts.records parts.stand places old new t table refusal given is.continues is.fails

-- ---- the engine

-- its core is its value
pub gives_as : {D : Type 0} (m : Meaning D) (inside old new : Core D) → inside ≡ old → inside.damage < 2 ^ 64
    → inside.shortages < 2 ^ 64 → KeysGoOn D m → (t : TxNo) (table : Table) (key : Value)
    (result : Result (Option Cells) Refusal) → given_to old.works t.0 table.name ≡ Some table
    → AnswersNoted m inside new t table key result → GivesRow m core_places old new t table key result
gives_as {D} m inside old new same damage shortages law t table key result given answers =
    subst (λ (c : Core D). GivesRow m core_places c new t table key result) same
    (law core_places inside new t table key result (record { damage = damage; shortages = shortages })
    (subst (λ (c : Core D). given_to c.works t.0 table.name ≡ Some table) (sym same) given) answers)

-- each session has one active transaction at most
answered_apart : {D : Type 0} (m : Meaning D) (old new : Core D) (t : TxNo) (table : Table) (key : Value)
    (result : Result (Option Cells) Refusal) → AnswersKey m old new t table key result → AreApart old.works
    → AreApart new.works
answered_apart {D} m old new t table key (Ok row) is apart =
    subst AreApart (sym (ap (λ (c : Core D). c.works) is.reads.reads.same)) apart
answered_apart {D} m old new t table key (Err refusal) (inl (refuses, same)) apart =
    subst AreApart (sym (ap (λ (c : Core D). c.works) same)) apart
answered_apart {D} m old new t table key (Err refusal) (inr is) apart =
    subst AreApart (sym (ap (λ (c : Core D). c.works) is.fails.same)) apart

pub keys_apart : {D : Type 0} (m : Meaning D) (old new : Core D) (t : TxNo) (table : Table) (key : Value)
    (result : Result (Option Cells) Refusal) → AnswersNoted m old new t table key result → AreApart old.works
    → AreApart new.works
keys_apart m old new t table key (Ok row) has apart = answered_apart m has.noted new t table key (Ok row) has.goes
    (noted_apart m old has.noted t.0 table has.notes apart)
keys_apart {D} m old new t table key (Err refusal) (inl is) apart =
    subst AreApart (sym (ap (λ (c : Core D). c.works) is.fails.same)) apart
keys_apart m old new t table key (Err refusal) (inr has) apart = answered_apart m has.noted new t table key (Err refusal)
    has.goes (noted_apart m old has.noted t.0 table has.notes apart)

-- ---- with the room that openings promise

pub finds_with : {R P : Type 0} (m : Means R P) (old : R) (t : ℕ) (name : List ℕ) (key : Value)
    (result : Result (Option Cells) Refusal) → IfOk result (IsSeenAt m old t name key)
    → IfOk result (IsSeenAt (with_room m) old t name key)
finds_with m old t name key (Ok row) finds = λ o h has active. finds o h has.stands active
finds_with m old t name key (Err refusal) finds = tt

pub keyed_with : {R P : Type 0} (m : Means R P) (old : R) (t : ℕ) (table : Table)
    (result : Result (Option Cells) Refusal) → OnOk result (HaveTheirKeys m old t table)
    → OnOk result (HaveTheirKeys (with_room m) old t table)
keyed_with m old t table (Ok row) keyed = λ o h has active. keyed o h has.stands active
keyed_with m old t table (Err refusal) keyed = tt
