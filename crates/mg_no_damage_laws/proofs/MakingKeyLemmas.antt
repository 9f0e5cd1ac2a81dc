-- Nobody speaks for the keys of a new table where its own row is not seen and nobody is in the way there, or where nobody
-- speaks for its own row.
use Rattle.std.proofs.Common.{◌≡◌, ◌≢◌, ◌∙◌, ◌⊎◌, ◌==◌, ◌&&◌, ◌||◌, cond, not, ℕ, Bool, true, false, List, [], ◌∷◌, Option, None, Some, inl, inr, refl, sym, ap, subst}
use Rattle.std.specs.Prelude.{IsSome}
use Rattle.std.proofs.lemmas.Bool.{false≢true}
use Rattle.mg_base.specs.declared.numbers.RecId.{RecId}
use Rattle.mg_base.specs.declared.numbers.TxNo.{TxNo}
use Rattle.mg_base.specs.declared.transaction.TxState.{TxState}
use Rattle.mg_base.specs.declared.transaction.TxState.TheVariants.{Active, Committed, Dead, Limbo}
use Rattle.mg_catalog.specs.KeyLaws.{column_key_equal, index_not_column, table_not_column}
use Rattle.mg_chain.specs.Views.{is_dead as dead_version}
use Rattle.mg_engine_step_laws.specs.standing.Known.{IsSilent, KnowsPages, bases_see_all, facts_shown, speaker_of}
use Rattle.mg_engine_step_laws.specs.reads.KeyAnswers.{has_speaker}
use Rattle.mg_engine_step_laws.specs.standing.Standing.{Standing}
use Rattle.mg_engine_step_laws.specs.standing.StandingLaws.{IsChainOf}
use Rattle.mg_generation_laws.specs.Generations.{sees, shown_by}
use Rattle.mg_generation_laws.specs.Kept.{IsErasedForAll, StandFor}
use Rattle.mg_generation_laws.specs.KeptShowLaws.{chain_shows_view, chain_tells_obstacle}
use Rattle.mg_grown_catalog_laws.specs.Grown.{CatalogGrows, CommittedRowsStay, OwnRowsAreNew}
use Rattle.mg_image.specs.Catalog.{CatalogNames, committed_with}
use Rattle.mg_image.specs.Form.{Pages, Row, packed_coding}
use Rattle.mg_image.specs.Held.{Shows, told_row}
use Rattle.mg_image.specs.RecordRules.{Facts, IsVersion, table_in}
use Rattle.mg_image.specs.Records.{Reading, key_of, record_key, writer}
use Rattle.mg_image.specs.declared.entry.Entry.{Entry}
use Rattle.mg_image_overlay_laws.specs.records.Fronts.{is_dead}
use Rattle.mg_model.specs.Answers.{can_hinder, is_active, is_committed, is_open, obstacle, told}
use Rattle.mg_model.specs.Catalog.{catalog_name, column_key, table_key}
use Rattle.mg_model.specs.CatalogRules.{IsCatalogRow}
use Rattle.mg_model.specs.Changes.{Cells, row_at}
use Rattle.mg_model.specs.History.{Entries}
use Rattle.mg_model.specs.Legal.{IsLegal, MayBegin, is_limbo}
use Rattle.mg_model.specs.Machine.{state_of, view}
use Rattle.mg_model.specs.Openings.{everyone}
use Rattle.mg_model.specs.declared.opening.Opening.{Opening}
use Rattle.mg_model.specs.declared.table.Table.{Table}
use Rattle.mg_overlay_laws.specs.Overlays.{left_by, left_state}
use Rattle.mg_seek.specs.Histories.{told_all, told_given, told_versions}
use Rattle.mg_seek.specs.Readings.{SpeakIn, SpeakersOfReadings}
use Rattle.mg_seek.specs.Speaking.{IsSpeaker, is_erased_for_all}
use Rattle.mg_snap.specs.Live.{all_see}
use Rattle.mg_image_overlay_laws.specs.tables.Growing.{IsTableOf}
use Rattle.mg_image_overlay_laws.specs.tables.OneTable.{stands_in}
use Rattle.mg_value.specs.declared.value.Value.{Value}
use Rattle.mg_no_damage_laws.proofs.GrownLemmas.{gives_row}
use Rattle.mg_no_damage_laws.proofs.LivingLemmas.{CountsFirst, GivesFirst, first_counts, first_has, first_shown, shows_first}

-- ---- small facts

none_of : (a b : Bool) → (a || b) ≡ false → (a ≡ false) × (b ≡ false)
none_of true b is = absurd (false≢true (sym is))
none_of false b is = (refl, is)

some_kept : (b : Bool) (x : Cells) → IsSome (cond b None (Some x)) → b ≡ false
some_kept true x some = absurd (false≢true some)
some_kept false x some = refl

none_gone : (b : Bool) (x : Cells) → cond b None (Some x) ≡ None → b ≡ true
none_gone true x none = refl
none_gone false x none = absurd cc

-- another one that has not ended, or that was not seen, can be in the way
in_way : (x : TxState) (its saw : Bool) → x ≢ Dead → its ≡ false → saw ≡ false
    → (not its && (is_open x || (is_committed x && not saw))) ≡ true
in_way Active its saw lives other unseen = ap (λ (b : Bool). not b && true) other
in_way Limbo its saw lives other unseen = ap (λ (b : Bool). not b && true) other
in_way Dead its saw lives other unseen = absurd (lives refl)
in_way Committed its saw lives other unseen = ap (λ (b : Bool). not b && not saw) other
    ∙ ap (λ (b : Bool). not b) unseen

-- all that are not dead count as committed where all in limbo do
counted_with : (x : TxState) → (is_committed (left_by true x) || (is_limbo (left_by true x) && true))
    ≡ not (is_dead (left_by true x))
counted_with Active = refl
counted_with Limbo = refl
counted_with Dead = refl
counted_with Committed = refl

-- ---- the catalog of an engine that stands for a history

module _ (stay : CommittedRowsStay) (new : OwnRowsAreNew) (speak : SpeakersOfReadings) (size : ℕ) (o : Opening)
    (h : Entries) (s : Standing) (pages : Pages) (knows : KnowsPages size o h s pages) (opening : MayBegin o)
    (legal : IsLegal o h) (grows : CatalogGrows o h) where
  abbrev f : Facts
  f = facts_shown size o h s pages knows

  abbrev r : Reading
  r = knows.shows.reading

  abbrev catalog : Table
  catalog = knows.shows.layout.catalog.table

  stands : IsTableOf knows.shows.layout knows.shows.layout.catalog.table
  stands = stands_in knows.shows.layout knows.shows.layout.catalog.table (inl refl)

  named : knows.shows.layout.catalog.table.name ≡ catalog_name
  named = ap (λ (x : Table). x.name) knows.shows.sound.catalog

  alike : (u : ℕ) → dead_version (s.state u) ≡ is_dead (left_state everyone s.state u)
  alike u = at (s.state u)
    where
      at : (x : TxState) → dead_version x ≡ is_dead (left_by true x)
      at Active = refl
      at Limbo = refl
      at Dead = refl
      at Committed = refl

  -- A record speaks for a key of the catalog: its newest version that counts gives a row.
  pub record SpeaksWith (key : Value) (rec : RecId) : Type 0 where
    pub of_table : table_in f rec ≡ Some catalog
    pub keyed : record_key catalog (r rec) ≡ key
    pub e : Entry
    pub counts : CountsFirst (left_state everyone s.state) (r rec) e
    pub kept : e.version.deleted ≡ false
    pub stand : StandFor o h catalog_name key
        (record { writer = writer e; row = Some (told_row catalog e.row) } ∷ told_all catalog counts.later)

  pub speaks_with : (key : Value) (rec : RecId)
      → IsSpeaker s.state s.live pages knows.shows.layout.catalog.table key (Some rec)
      → speaker_of size o h s pages knows knows.shows.layout.catalog.table.name key ≡ Some rec → SpeaksWith key rec
  speaks_with key rec is spoken = record {
    of_table = three.0;
    keyed = three.1;
    e = in_reading.newest;
    counts = counts;
    kept = kept;
    stand = subst (λ (b : Bool). StandFor o h catalog_name key (record {
      writer = writer in_reading.newest;
      row = cond b None (Some (told_row catalog in_reading.newest.row));
    } ∷ told_all catalog counts.later)) kept its_stand;
  }
    where
      three : (table_in f rec ≡ Some catalog) × (record_key catalog (r rec) ≡ key)
          × StandFor o h catalog.name key (told_versions f.state catalog (r rec))
      three = (has_speaker size o h s pages knows catalog stands key).some rec spoken

      in_reading : SpeakIn s.state s.live catalog key (r rec)
      in_reading = (speak s.state s.live pages catalog key rec f r
          (record { lawful = knows.shows.sound.records; of_table = three.0 })).0 is.speaks.1

      counts : CountsFirst (left_state everyone s.state) (r rec) in_reading.newest
      counts = first_counts (left_state everyone s.state) s.state s.live alike (r rec)
          (knows.shows.sound.records.each rec catalog three.0).backs in_reading.newest in_reading.first

      its_stand : StandFor o h catalog_name key (record {
        writer = writer in_reading.newest;
        row = told_given catalog in_reading.newest;
      } ∷ told_all catalog counts.later)
      its_stand = subst (λ (n : List ℕ). StandFor o h n key (record {
        writer = writer in_reading.newest;
        row = told_given catalog in_reading.newest;
      } ∷ told_all catalog counts.later)) named (subst (λ (es : List Entry). StandFor o h catalog.name key
          (told_all catalog es)) counts.is_ three.2)

      not_erased : IsErasedForAll o h (record {
        writer = writer in_reading.newest;
        row = told_given catalog in_reading.newest;
      } ∷ told_all catalog counts.later) → ⊥
      not_erased (seen, none) = false≢true (sym in_reading.stays ∙ gone)
        where
          gone : is_erased_for_all s.state s.live in_reading.newest.version ≡ true
          gone = ap (λ (b : Bool). b && (is_committed (s.state (writer in_reading.newest))
              && all_see s.live (writer in_reading.newest))) (none_gone in_reading.newest.version.deleted
              (told_row catalog in_reading.newest.row) none)
              ∙ (ap (λ (x : TxState). is_committed x && all_see s.live (writer in_reading.newest))
              (knows.memory.state (writer in_reading.newest) ∙ seen.committed)
              ∙ bases_see_all size o h s pages knows (writer in_reading.newest) seen)

      kept : in_reading.newest.version.deleted ≡ false
      kept = some_kept in_reading.newest.version.deleted (told_row catalog in_reading.newest.row)
          (gives_row stay new o opening h legal grows key (record {
            writer = writer in_reading.newest;
            row = told_given catalog in_reading.newest;
          }) (told_all catalog counts.later) its_stand not_erased)

  -- ---- the key of the table's own row

  -- it is seen, or its maker is in the way
  pub own_refuted : (t : TxNo) (key : Value) (rec : RecId) → SpeaksWith key rec → state_of o h t.0 ≡ Active
      → row_at (view o h t.0) catalog_name key ≡ None → obstacle (told o h) t.0 catalog_name key ≡ None → ⊥
  own_refuted t key rec with_ active unseen free = at (sees (told o h) t.0 (writer with_.e)) refl
    where
      lives : state_of o h (writer with_.e) ≢ Dead
      lives gone = false≢true (sym with_.counts.lives
          ∙ ap (λ (x : TxState). is_dead (left_by true x)) (knows.memory.state (writer with_.e) ∙ gone))

      hinders : (sees (told o h) t.0 (writer with_.e)) ≡ false → can_hinder (told o h) t.0 (writer with_.e) ≡ true
      hinders off =
          let both = none_of (writer with_.e == t.0) ((told o h).saw t.0 (writer with_.e)) off in
          in_way (state_of o h (writer with_.e)) (writer with_.e == t.0) ((told o h).saw t.0 (writer with_.e)) lives
          both.0 both.1

      at : (b : Bool) → sees (told o h) t.0 (writer with_.e) ≡ b → ⊥
      at true on =
          let shown : row_at (view o h t.0) catalog_name key ≡ Some (told_row catalog with_.e.row) =
          chain_shows_view o h catalog_name key _ with_.stand t.0 (ap is_active active)
          ∙ ap (λ (b : Bool). cond b (Some (told_row catalog with_.e.row))
          (shown_by (sees (told o h) t.0) (told_all catalog with_.counts.later))) on in
          let both : ◌≡◌ {A = Option Cells} None (Some (told_row catalog with_.e.row)) = sym unseen ∙ shown in
          absurd cc
      at false off =
          let way : obstacle (told o h) t.0 catalog_name key ≡ Some (writer with_.e) =
          chain_tells_obstacle o h catalog_name key _ with_.stand opening legal t.0 (ap is_active active)
          ∙ ap (λ (b : Bool). cond b (Some (writer with_.e)) None) (hinders off) in
          let both : ◌≡◌ {A = Option ℕ} None (Some (writer with_.e)) = sym free ∙ way in absurd cc

  -- ---- the key of a column's row

  -- a column's row has its table's row beside it
  pub column_refuted : (name : List ℕ) (place : ℕ) (rec : RecId) → SpeaksWith (column_key name place) rec
      → IsSilent size o h s pages knows knows.shows.layout.catalog.table.name (table_key name) → ⊥
  column_refuted name place rec with_ silent =
      found (names.are_tables.lawful (column_key name place) with_.e.row at_key)
    where
      fits : (u : ℕ) → committed_with f (λ v. true) u ≡ not (is_dead (left_state everyone s.state u))
      fits u = counted_with (s.state u)

      names : CatalogNames size f (committed_with f (λ u. true)) r catalog
          (knows.shows.sound.names.named (λ u. true))
      names = knows.shows.sound.names.lawful (λ u. true)

      -- the newest version that counts has the key of its record
      keyed : (p : RecId) (of : table_in f p ≡ Some catalog) (e : Entry)
          → CountsFirst (left_state everyone s.state) (r p) e → key_of catalog e.row ≡ record_key catalog (r p)
      keyed p of e counts = (first_has (left_state everyone s.state)
          (IsVersion packed_coding f catalog (record_key catalog (r p))) (r p)
          (knows.shows.sound.records.each p catalog of).each e counts).keyed

      at_key : names.rows (column_key name place) ≡ Some with_.e.row
      at_key = subst (λ (k : Value). names.rows k ≡ Some with_.e.row)
          (keyed rec with_.of_table with_.e with_.counts ∙ with_.keyed) (names.are_rows.there rec with_.e.row (record {
            of_table = with_.of_table;
            row_shown = shows_first (left_state everyone s.state) (committed_with f (λ u. true)) fits (r rec)
                (knows.shows.sound.records.each rec catalog with_.of_table).backs with_.e with_.counts with_.kept;
          }))

      -- a record that shows the table's row would speak for it
      spoken : (row : Row) (p : RecId) → Shows f (committed_with f (λ u. true)) r p catalog row
          → key_of catalog row ≡ table_key name → ⊥
      spoken row p shows at_table = others (knows.shows.versions.others p catalog shows.of_table)
        where
          first : GivesFirst (left_state everyone s.state) (r p) row
          first = first_shown (left_state everyone s.state) (committed_with f (λ u. true)) fits (r p)
              (knows.shows.sound.records.each p catalog shows.of_table).backs row shows.row_shown

          key_is : record_key catalog (r p) ≡ table_key name
          key_is = sym (keyed p shows.of_table first.e first.counts) ∙ (ap (key_of catalog) first.row_is ∙ at_table)

          chain_is : told_versions (left_state everyone s.state) catalog (r p)
              ≡ record { writer = writer first.e; row = Some (told_row catalog first.e.row) }
              ∷ told_all catalog first.counts.later
          chain_is = ap (told_all catalog) first.counts.is_ ∙ ap (λ (b : Bool). record {
            writer = writer first.e;
            row = cond b None (Some (told_row catalog first.e.row));
          } ∷ told_all catalog first.counts.later) first.kept

          counts_not : (told_versions (left_state everyone s.state) catalog (r p) ≡ [])
              ⊎ IsErasedForAll o h (told_versions (left_state everyone s.state) catalog (r p)) → ⊥
          counts_not (inl empty) =
              let both : record { writer = writer first.e; row = Some (told_row catalog first.e.row) }
              ∷ told_all catalog first.counts.later ≡ [] = sym chain_is ∙ empty in absurd cc
          counts_not (inr gone) =
              let none = (subst (IsErasedForAll o h) chain_is gone).1 in
              let both : ◌≡◌ {A = Option Cells} (Some (told_row catalog first.e.row)) None = none in absurd cc

          some_read : r p ≢ []
          some_read none = counts_not (inl (ap (told_versions (left_state everyone s.state) catalog) none))

          others : (told_versions (left_state everyone s.state) catalog (r p) ≡ [])
              ⊎ (IsErasedForAll o h (told_versions (left_state everyone s.state) catalog (r p)))
              ⊎ (knows.shows.versions.speaker catalog.name (record_key catalog (r p)) ≡ Some p) → ⊥
          others (inl empty) = counts_not (inl empty)
          others (inr (inl gone)) = counts_not (inr gone)
          others (inr (inr speaks)) = counts_not (silent
              (told_versions (left_state everyone s.state) catalog (r p))
              (subst (λ (x : Option RecId). IsChainOf f r catalog.name (table_key name) x
              (told_versions (left_state everyone s.state) catalog (r p)))
              (sym (ap (knows.shows.versions.speaker catalog.name) (sym key_is) ∙ speaks)) (
                record { table = catalog; of_table = shows.of_table; named = refl; some = some_read; keyed = key_is },
                refl,
              )))

      table_there : (row : Row) → names.rows (table_key name) ≡ Some row → ⊥
      table_there row is =
          let (p, shows, at_table) = names.are_rows.whole (table_key name) row is in spoken row p shows at_table

      found : IsCatalogRow names.rows (column_key name place) with_.e.row → ⊥
      found (inl (n, is, row)) = table_not_column n name place (sym is)
      found (inr (inl (n, at, is, row))) = table_there row.of_table.0
          (subst (λ (x : List ℕ). names.rows (table_key x) ≡ Some row.of_table.0)
          (sym (column_key_equal name n place at is).0) row.of_table.1)
      found (inr (inr (n, is, row))) = index_not_column n name place (sym is)
