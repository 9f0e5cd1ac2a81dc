-- A dead transaction's version that is taken out of a record leaves the engine with the same history.
use Rattle.mg_base.specs.Disk.{Meaning}
use Rattle.mg_base.specs.Image.{Image}
use Rattle.mg_base.specs.declared.numbers.RecId.{RecId}
use Rattle.mg_base.specs.declared.transaction.TxState.{TxState}
use Rattle.mg_base.specs.declared.transaction.TxState.TheVariants.{Active, Committed, Dead}
use Rattle.mg_chain.specs.Writing.{TakesOut}
use Rattle.mg_tie_laws.specs.BackTies.{has_slot, orders_out, pages}
use Rattle.mg_tie_laws.specs.Newest.{newest_found, newest_placed}
use Rattle.mg_tie_laws.specs.Rows.{ForEach}
use Rattle.mg_engine_step_laws.specs.standing.Bare.{IsBare}
use Rattle.mg_engine_step_laws.specs.standing.BareLaws.{bare_grown, bare_has_found}
use Rattle.mg_engine_step_laws.specs.writes.Batches.{RowsLastStill}
use Rattle.mg_engine_step_laws.specs.writes.GoesOnLaws.{taking_out_is_read}
use Rattle.mg_engine_step_laws.specs.writes.Writes.{ReadsAfter}
use Rattle.mg_engine_step_laws.specs.writes.WritesLaws.{finds_on}
use Rattle.mg_engine_step_laws.specs.writes.Caches.{kept_now, pool_later, row_changed}
use Rattle.mg_engine_step_laws.specs.standing.Choices.{placed}
use Rattle.mg_engine_step_laws.specs.writes.Knowing.{WasChanged}
use Rattle.mg_engine_step_laws.specs.writes.Rows.{DeadsGo, HasStayed}
use Rattle.mg_generation_laws.specs.Generations.{Generation}
use Rattle.mg_generation_laws.specs.Kept.{IsErasedForAll, StandFor}
use Rattle.mg_image_overlay_laws.specs.tables.Growing.{IsTableOf}
use Rattle.mg_image.specs.Form.{Form, Pages}
use Rattle.mg_image.specs.ReadingLaws.{RowsAreOne}
use Rattle.mg_image.specs.RecordRules.{Each, EachBack, Facts, IsVersion, table_in}
use Rattle.mg_image.specs.Records.{Reading, record_key, writer}
use Rattle.mg_image.specs.Sound.{IsSoundBy, facts_by}
use Rattle.mg_image.specs.StepLaws.{cases_place, same_place}
use Rattle.mg_image.specs.Tables.{Layout, stands_of, table_at}
use Rattle.mg_image.specs.declared.entry.Entry.{Entry}
use Rattle.mg_image_overlay_laws.specs.records.Fronts.{is_dead, living}
use Rattle.mg_image_overlay_laws.specs.pages.Kinds.{HasNoSequences}
use Rattle.mg_image_overlay_laws.specs.kept.KeptImages.{IsKept}
use Rattle.mg_lasting_laws.specs.Crashes.{HoldsAcknowledged, LeavesSince}
use Rattle.mg_lasting_laws.specs.Lasting.{LastsOn}
use Rattle.mg_model.specs.History.{Entries}
use Rattle.mg_model.specs.Laws.{OpeningsBegin}
use Rattle.mg_model.specs.Openings.{everyone}
use Rattle.mg_model.specs.declared.opening.Opening.{Opening}
use Rattle.mg_model.specs.declared.table.Table.{Table}
use Rattle.mg_overlay_laws.specs.Overlays.{left_by, left_state}
use Rattle.mg_image_overlay_laws.specs.records.BackEvery.{dead_out_every}
use Rattle.mg_image_overlay_laws.specs.records.BackPart.{TakesOutPages}
use Rattle.mg_image_overlay_laws.specs.records.OwnVersion.{FindsNewest}
use Rattle.mg_image_overlay_laws.specs.names.Whose.{IsTableFor}
use Rattle.mg_pool.specs.Batch.{Changed, content_in, lists}
use Rattle.mg_pool.specs.Pool.{shown}
use Rattle.mg_pool.specs.declared.pool.Pool.{Pool}
use Rattle.mg_pool_overlay_laws.specs.Needs.{Asked, Sessions}
use Rattle.mg_seek.specs.Histories.{told_all, told_versions}
use Rattle.mg_space.specs.View.{viewed}
use Rattle.mg_tie_laws.specs.Changed.{BatchIsChanged, KeptIn, cache_over, changed_fresh, fresh, needs_in}
use Rattle.mg_engine_step_laws.specs.standing.StandingLaws.{IsChainOf}
use Rattle.mg_engine_step_laws.specs.standing.Standing.{ShowsHistory, Standing, Stands}
use Rattle.mg_engine_step_laws.specs.standing.Versions.{HaveVersions, SpeaksFor, SpeaksOrSilent}
use Rattle.mg_engine_step_laws.specs.standing.Writing.{Silenced}
use Rattle.mg_engine_step_laws.specs.standing.WritingLaws.{erased_may_be_silent}
use Rattle.mg_image_overlay_laws.specs.pages.DataKept.{KeepsBits}
use Rattle.mg_value.specs.declared.value.Value.{Value}
use Rattle.mg_version.specs.declared.cell.Version.{Version}
use Rattle.std.proofs.Common.{Bool, List, None, Option, Some, [], ap, false, inl, inr, refl, subst, sym, true, ℕ, ◌∙◌, ◌∷◌, ◌≡◌, ◌≢◌, ◌⊎◌}

-- ---- records, where a dead version is gone from one

module _ (form : Form) (size : ℕ) (o : Opening) (h : Entries) (s : Standing) (pages later : Pages)
    (shows : ShowsHistory form size o h s pages) (table : Table) (rec : RecId) (d : Entry) (older : List Entry)
    (of : table_at (stands_of shows.layout) rec.page.0 ≡ Some table) (first : shows.reading rec ≡ d ∷ older)
    (dead : s.state (writer d) ≡ Dead)
    (reads : ReadsAfter form size (left_state everyone s.state) pages later shows.layout shows.reading rec older)
  where
    abbrev f : Facts
    f = facts_by (left_state everyone s.state) pages shows.layout

    abbrev g : Facts
    g = facts_by (left_state everyone s.state) later reads.layout

    gone : is_dead (f.state (writer d)) ≡ true
    gone = ap (λ (x : TxState). is_dead (left_by true x)) dead

    -- the versions behind are committed, so they count as they are
    counts : (es : List Entry) → Each (λ e. f.state (writer e) ≡ Committed) es → living f.state es ≡ es
    counts [] each = refl
    counts (e ∷ es) each = rw (ap is_dead each.0) refl

    backs : Each (λ e. f.state (writer e) ≡ Committed) older
    backs = subst (EachBack (λ e. f.state (writer e) ≡ Committed)) first
        (shows.sound.records.each rec table of).backs

    same_told : (its : Table) → told_versions f.state its (shows.reading rec) ≡ told_versions g.state its older
    same_told its = ap (told_versions f.state its) first
        ∙ ap (told_all its) (rw gone refl ∙ sym (counts older backs))

    other_table : (p : RecId) (its : Table) → table_in g p ≡ Some its
        → (table_in f p ≡ Some its) ⊎ (shows.reading p ≡ [])
    other_table p its is = at (reads.grown.new p.page.0 its is)
      where
        at : (table_at (stands_of shows.layout) p.page.0 ≡ Some its)
            ⊎ ((q : RecId) → q.page.0 ≡ p.page.0 → shows.reading q ≡ [])
            → (table_in f p ≡ Some its) ⊎ (shows.reading p ≡ [])
        at (inl was) = inl was
        at (inr none) = inr (none p refl)

    one_of : (its : Table) → table_in f rec ≡ Some its → its ≡ table
    one_of its is = let both : Some its ≡ Some table = sym is ∙ of in cc

    -- the key under which the record stands is that of the versions behind
    key_of_older : older ≢ [] → record_key table older ≡ record_key table (shows.reading rec)
    key_of_older some = at older refl some
      where
        each : Each (IsVersion form.coding f table (record_key table (shows.reading rec))) (d ∷ older)
        each = subst (Each (IsVersion form.coding f table (record_key table (shows.reading rec)))) first
            (shows.sound.records.each rec table of).each

        at : (es : List Entry) → older ≡ es → es ≢ []
            → record_key table es ≡ record_key table (shows.reading rec)
        at [] is none = absurd (none refl)
        at (e ∷ es) is none = (subst (Each (IsVersion form.coding f table (record_key table (shows.reading rec))))
            is each.1).0.keyed

    -- by whoever speaks for keys, where this record speaks for none unless a version is left in it
    module _ (have : HaveVersions o h f shows.reading)
        (left : (name : List ℕ) (key : Value) → have.speaker name key ≡ Some rec → older ≢ []) where
      speaks_at : (name : List ℕ) (key : Value) (p : RecId) → have.speaker name key ≡ Some p
          → (p ≡ rec) ⊎ (p ≢ rec) → SpeaksFor o h f shows.reading name key (Some p)
          → SpeaksFor o h g reads.reading name key (Some p)
      speaks_at name key p spoken (inr ne) (its, versions) = (
        record {
          table = its.table;
          of_table = reads.grown.stays p.page.0 its.table its.of_table;
          named = its.named;
          some = λ none. its.some (sym (reads.others p ne) ∙ none);
          keyed = ap (record_key its.table) (reads.others p ne) ∙ its.keyed;
        },
        subst (λ (es : List Entry). StandFor o h name key (told_versions f.state its.table es))
            (sym (reads.others p ne)) versions,
      )
      speaks_at name key p spoken (inl same) (its, versions) = (
        record {
          table = its.table;
          of_table = reads.grown.stays p.page.0 its.table its.of_table;
          named = its.named;
          some = λ none. some_left (sym (ap reads.reading same ∙ reads.here) ∙ none);
          keyed = ap (record_key its.table) (ap reads.reading same ∙ reads.here)
              ∙ (ap (λ (x : Table). record_key x older) its_table
              ∙ (key_of_older some_left ∙ (ap (λ (x : Table). record_key x (shows.reading rec)) (sym its_table)
              ∙ (ap (λ (q : RecId). record_key its.table (shows.reading q)) (sym same) ∙ its.keyed))));
        },
        subst (StandFor o h name key) (ap (λ (q : RecId). told_versions f.state its.table (shows.reading q)) same
            ∙ (same_told its.table ∙ ap (told_versions g.state its.table) (sym (ap reads.reading same ∙ reads.here))))
            versions,
      )
        where
          its_table : its.table ≡ table
          its_table = one_of its.table (ap (λ (q : RecId). table_in f q) (sym same) ∙ its.of_table)

          some_left : older ≢ []
          some_left = left name key (spoken ∙ ap Some same)

      speaks_after : (name : List ℕ) (key : Value) (speaker : Option RecId) → have.speaker name key ≡ speaker
          → SpeaksFor o h f shows.reading name key speaker → SpeaksFor o h g reads.reading name key speaker
      speaks_after name key None is none = none
      speaks_after name key (Some p) is speaks = speaks_at name key p is (same_or p) speaks
        where
          same_or : (q : RecId) → (q ≡ rec) ⊎ (q ≢ rec)
          same_or q = at (cases_place q rec)
            where
              at : ((q ≡ rec) × (same_place q rec ≡ true)) ⊎ ((q ≢ rec) × (same_place q rec ≡ false))
                  → (q ≡ rec) ⊎ (q ≢ rec)
              at (inl (same, yes_)) = inl same
              at (inr (ne, no_)) = inr ne

      others_after : (p : RecId) (its : Table) → table_in g p ≡ Some its
          → SpeaksOrSilent o h g reads.reading have.speaker p its
      others_after p its is = at (cases_place p rec) (other_table p its is)
        where
          -- a record that is as it was
          still : reads.reading p ≡ shows.reading p → (table_in f p ≡ Some its) ⊎ (shows.reading p ≡ [])
              → SpeaksOrSilent o h g reads.reading have.speaker p its
          still same (inr empty) = inl (ap (told_versions g.state its) (same ∙ empty))
          still same (inl was) = by (have.others p its was)
            where
              by : SpeaksOrSilent o h f shows.reading have.speaker p its
                  → SpeaksOrSilent o h g reads.reading have.speaker p its
              by (inl empty) = inl (ap (told_versions g.state its) same ∙ empty)
              by (inr (inl erased)) = inr (inl (subst (λ (es : List Entry).
                  IsErasedForAll o h (told_versions g.state its es)) (sym same) erased))
              by (inr (inr speaks)) = inr (inr (ap (λ (es : List Entry). have.speaker its.name
                  (record_key its es)) same ∙ speaks))

          here : p ≡ rec → (table_in f p ≡ Some its) ⊎ (shows.reading p ≡ [])
              → SpeaksOrSilent o h g reads.reading have.speaker p its
          here same (inr empty) = let both : [] ≡ d ∷ older = sym empty ∙ (ap shows.reading same ∙ first) in
              absurd cc
          here same (inl was) = by (have.others p its was)
            where
              told_same : told_versions f.state its (shows.reading p) ≡ told_versions g.state its (reads.reading p)
              told_same = ap (λ (q : RecId). told_versions f.state its (shows.reading q)) same
                  ∙ (same_told its ∙ ap (told_versions g.state its) (sym (ap reads.reading same ∙ reads.here)))

              its_table : its ≡ table
              its_table = one_of its (ap (λ (q : RecId). table_in f q) (sym same) ∙ was)

              keyed : older ≢ [] → record_key its (reads.reading p) ≡ record_key its (shows.reading p)
              keyed some = ap (record_key its) (ap reads.reading same ∙ reads.here)
                  ∙ (ap (λ (x : Table). record_key x older) its_table
                  ∙ (key_of_older some
                  ∙ (ap (λ (x : Table). record_key x (shows.reading rec)) (sym its_table)
                  ∙ ap (λ (q : RecId). record_key its (shows.reading q)) (sym same))))

              by : SpeaksOrSilent o h f shows.reading have.speaker p its
                  → SpeaksOrSilent o h g reads.reading have.speaker p its
              by (inl empty) = inl (sym told_same ∙ empty)
              by (inr (inl erased)) = inr (inl (subst (IsErasedForAll o h) told_same erased))
              by (inr (inr speaks)) = inr (inr (ap (have.speaker its.name)
                  (keyed (left its.name (record_key its (shows.reading p)) (speaks ∙ ap Some same))) ∙ speaks))

          at : ((p ≡ rec) × (same_place p rec ≡ true)) ⊎ ((p ≢ rec) × (same_place p rec ≡ false))
              → (table_in f p ≡ Some its) ⊎ (shows.reading p ≡ [])
              → SpeaksOrSilent o h g reads.reading have.speaker p its
          at (inl (same, yes_)) where_ = here same where_
          at (inr (ne, no_)) where_ = still (reads.others p ne) where_

      versions_after : HaveVersions o h g reads.reading
      versions_after = record {
        speaker = have.speaker;
        speaks = λ name key. speaks_after name key (have.speaker name key) refl (have.speaks name key);
        others = others_after;
      }

    -- ---- who speaks then

    abbrev its_key : Value
    its_key = record_key table (shows.reading rec)

    -- where this record speaks for a key, that is its own
    own_key : (have : HaveVersions o h f shows.reading) (name : List ℕ) (key : Value)
        → have.speaker name key ≡ Some rec → (name ≡ table.name) × (key ≡ its_key)
    own_key have name key is = at (subst (SpeaksFor o h f shows.reading name key) is (have.speaks name key))
      where
        at : SpeaksFor o h f shows.reading name key (Some rec) → (name ≡ table.name) × (key ≡ its_key)
        at (its, versions) =
            let same : its.table ≡ table = one_of its.table its.of_table in (
              sym its.named ∙ ap (λ (x : Table). x.name) same,
              sym its.keyed ∙ ap (λ (x : Table). record_key x (shows.reading rec)) same,
            )

    quiet : (chain : List Generation) → IsChainOf f shows.reading table.name its_key (Some rec) chain
        → older ≡ [] → chain ≡ []
    quiet chain (its, is) empty = is ∙ (ap (λ (x : Table). told_versions f.state x (shows.reading rec))
        (one_of its.table its.of_table) ∙ (same_told table ∙ ap (told_versions g.state table) empty))

    -- with none left in it, it is silent
    pub dead_versions : HaveVersions o h g reads.reading
    dead_versions = by older refl (shows.versions.speaker table.name its_key) refl
      where
        plain : ((name : List ℕ) (key : Value) → shows.versions.speaker name key ≡ Some rec → older ≢ [])
            → HaveVersions o h g reads.reading
        plain left = versions_after shows.versions left

        other_speaks : (speaker : Option RecId) → shows.versions.speaker table.name its_key ≡ speaker
            → (speaker ≡ Some rec → ⊥) → HaveVersions o h g reads.reading
        other_speaks speaker is not = plain (λ name key spoken. absurd (not (sym is
            ∙ (ap (λ (n : List ℕ). shows.versions.speaker n its_key) (sym (own_key shows.versions name key spoken).0)
            ∙ (ap (shows.versions.speaker name) (sym (own_key shows.versions name key spoken).1) ∙ spoken)))))

        silenced_one : older ≡ [] → shows.versions.speaker table.name its_key ≡ Some rec
            → HaveVersions o h g reads.reading
        silenced_one empty spoken = versions_after it.now (λ name key speaks.
            let both : None ≡ Some rec = sym it.none ∙ (ap (λ (n : List ℕ). it.now.speaker n its_key)
            (sym (own_key it.now name key speaks).0) ∙ (ap (it.now.speaker name)
            (sym (own_key it.now name key speaks).1) ∙ speaks)) in absurd cc)
          where
            it : Silenced o h f shows.reading shows.versions table.name its_key
            it = erased_may_be_silent o h f shows.reading shows.versions table.name its_key
                (λ chain is. inl (quiet chain (subst (λ (x : Option RecId).
                IsChainOf f shows.reading table.name its_key x chain) spoken is) empty))

        by : (es : List Entry) → older ≡ es → (speaker : Option RecId)
            → shows.versions.speaker table.name its_key ≡ speaker → HaveVersions o h g reads.reading
        by (e ∷ es) are speaker is = plain (λ name key spoken none.
            let both : e ∷ es ≡ [] = sym are ∙ none in absurd cc)
        by [] are None is = other_speaks None is (λ same. absurd cc)
        by [] are (Some p) is = at (cases_place p rec)
          where
            at : ((p ≡ rec) × (same_place p rec ≡ true)) ⊎ ((p ≢ rec) × (same_place p rec ≡ false))
                → HaveVersions o h g reads.reading
            at (inl (same, yes_)) = silenced_one are (is ∙ ap Some same)
            at (inr (ne, no_)) = other_speaks (Some p) is (λ same. ne cc)

-- ---- the law

module _ (D L : Type 0) (m : Meaning D) (form : Form) (one : RowsAreOne form.coding)
    (none : HasNoSequences form) (no_primary : form.in_primary ≡ false) (begins : OpeningsBegin)
    (last : RowsLastStill D L m form) (o : Opening) (h : Entries) (s : Standing) (before after : Pool D L)
    (i j : Image) (batch : Changed) (asked : Asked) (session : Sessions)
    (stands : Stands form before.geometry.size o h s (Some (shown before.dirty i))) (t : ℕ)
    (table : Table) (rec : RecId) (lasts : LastsOn m form o h before asked session)
    (was : WasChanged m before after i j batch) (takes : TakesOut before i fresh batch rec)
    (active : s.state t ≡ Active) (dead : s.state takes.was.tx.0 ≡ Dead)
    (each : ForEach form before.geometry.size s.state (shown before.dirty i)
    (λ state layout r. IsTableOf layout table))
    (no_catalog : table ≢ stands.shows.layout.catalog.table)
    (of : table_at (stands_of stands.shows.layout) rec.page.0 ≡ Some table) where
  abbrev size : ℕ
  size = before.geometry.size

  abbrev pool : Pages
  pool = shown before.dirty i

  abbrev state : ℕ → TxState
  state = left_state everyone s.state

  abbrev shows : ShowsHistory form size o h s pool
  shows = stands.shows

  every : KeptIn form size o h s.state asked session before i
  every = kept_now m form o h s before after i j batch asked session stands.memory was lasts

  placed_here : ForEach form size s.state pool
      (λ st layout r. IsTableOf layout table → table_at (stands_of layout) rec.page.0 ≡ Some table)
  placed_here chosen layout r sound its = placed form one size s.state pool shows.layout shows.reading
      shows.sound chosen layout r sound table (each everyone shows.layout shows.reading shows.sound) its
      rec.page.0 of

  whose : IsTableFor form size t s.state pool table
  whose chosen layout r sound = inl (each chosen layout r sound)

  found : (chosen : ℕ → Bool) (layout : Layout) (r : Reading)
      → IsSoundBy form size (left_state chosen s.state) pool layout r
      → FindsNewest (facts_by (left_state chosen s.state) pool layout) r rec table takes.newest.rec takes.was
  found chosen layout r sound = newest_found form size (left_state chosen s.state) pool layout r sound rec table
      (placed_here chosen layout r sound (each chosen layout r sound)) takes.newest takes.its.head.slot takes.was
      takes.its.meets.cell

  changed : BatchIsChanged before after i j batch asked session
  changed = changed_fresh m before after i j batch asked session was.changes

  taken : TakesOutPages form.in_primary pool (viewed before i takes.taken.swings.turned) (shown after.dirty j) rec
      takes.newest.rec takes.was takes.newest
  taken = pages form one none no_primary m before after i j batch asked session o h t s.state rec table was.changes
      takes active whose placed_here every

  kept : KeptIn form size o h s.state asked session after j
  kept = dead_out_every form one none size o h s.state (cache_over before i) (cache_over after j)
      (viewed before i takes.taken.swings.turned) changed.gone (content_in batch.pages) (lists batch.orders)
      (needs_in asked session before) (needs_in asked session after) rec takes.newest.rec table takes.was
      takes.newest changed.changes dead changed.left taken
      (has_slot form one none no_primary m before after i j batch asked session o h t s.state rec table was.changes
      takes active whose placed_here every)
      (orders_out form one none no_primary m before after i j batch asked session o h t s.state rec table
      was.changes takes active whose placed_here every)
      found every

  it : FindsNewest (facts_by state pool shows.layout) shows.reading rec table takes.newest.rec takes.was
  it = found everyone shows.layout shows.reading shows.sound

  later : IsKept form size o h state (shown after.dirty j) (shown after.dirty j)
  later = pool_later m form o h s before after i j batch asked session stands.memory was lasts h kept

  reads : ReadsAfter form size state pool (shown after.dirty j) shows.layout shows.reading rec it.older
      × KeepsBits size pool (shown after.dirty j)
  reads = taking_out_is_read form one none size state pool (viewed before i takes.taken.swings.turned)
      (shown after.dirty j) shows.layout shows.reading table rec takes.newest.rec takes.was it.newest it.older
      takes.newest later.layout later.reading shows.sound taken it.first it.at it.version of
      (newest_placed form size state pool shows.layout shows.reading shows.sound rec table of takes.newest
      takes.its.head.slot)
      no_catalog later.sound

  cache : LastsOn m form o h after asked session
      × LeavesSince m before.disk after.disk (HoldsAcknowledged form before.dirty.size o h)
  cache = last o h before after i j batch asked session (begins o stands.opening) stands.legal lasts
      (row_changed m form o h s before after i j batch asked session stands.memory was lasts h reads.1 kept)

  bare_on : IsBare reads.0.layout
  bare_on = bare_grown shows.layout reads.0.layout shows.reading reads.0.grown shows.bare

  pub dead_goes : HasStayed m form size o h s before after j asked session
  dead_goes = record {
    stands = record {
      opening = stands.opening;
      legal = stands.legal;
      memory = stands.memory;
      shows = record {
        layout = reads.0.layout;
        reading = reads.0.reading;
        sound = reads.0.sound;
        next = reads.1.next ∙ shows.next;
        versions = dead_versions form size o h s pool (shown after.dirty j) shows table rec it.newest it.older of
            it.first (ap (λ (w : Version). s.state w.tx.0) it.version ∙ dead) reads.0;
        tables = λ u is. finds_on o h s shows.layout reads.0.layout shows.reading u reads.0.grown
            (shows.tables u is);
        found = bare_has_found form size state (shown after.dirty j) reads.0.layout reads.0.reading reads.0.sound bare_on
            s.state s.live;
        bare = bare_on;
      };
    };
    lasts = cache.0;
    leaves = cache.1;
  }

pub deads_go : (form : Form) (D L : Type 0) (m : Meaning D) → RowsAreOne form.coding → HasNoSequences form
    → form.in_primary ≡ false → OpeningsBegin → RowsLastStill D L m form → DeadsGo form D L m
deads_go form D L m one none no_primary begins last o h s before after i j batch asked session stands t table rec
    lasts was takes active dead each no_catalog of =
    dead_goes D L m form one none no_primary begins last o h s before after i j batch asked session stands t
    table rec lasts was takes active dead each no_catalog of
