-- Who speaks for a key, who is in the way there, and which row is seen: by the records of the pages.
use Rattle.std.proofs.Common.{◌≡◌, ◌⊎◌, inl, inr, refl, sym, ap, ◌∙◌, subst, ℕ, Bool, true, false, not, ◌&&◌, List, [], ◌∷◌, Option, None, Some, cond}
use Rattle.std.specs.Prelude.{map}
use Rattle.std.proofs.lemmas.Bool.{false≢true}
use Rattle.mg_base.specs.declared.numbers.RecId.{RecId}
use Rattle.mg_base.specs.declared.transaction.TxState.{TxState}
use Rattle.mg_base.specs.declared.transaction.TxState.TheVariants.{Active, Committed, Dead, Limbo}
use Rattle.mg_value.specs.declared.value.Value.{Value}
use Rattle.mg_model.specs.declared.opening.Opening.{Opening}
use Rattle.mg_model.specs.declared.table.Table.{Table}
use Rattle.mg_model.specs.Answers.{is_active, is_committed, obstacle, told}
use Rattle.mg_model.specs.Changes.{row_at, same_row}
use Rattle.mg_model.specs.History.{Entries}
use Rattle.mg_model.specs.Machine.{state_of, view}
use Rattle.mg_generation_laws.specs.Generations.{Generation, generation}
use Rattle.mg_generation_laws.specs.Kept.{IsErasedForAll, IsSeenByAll, StandFor}
use Rattle.mg_chain.specs.Bases.{StandsFor}
use Rattle.mg_chain.specs.Views.{first_entry, is_dead as dead_version}
use Rattle.mg_heap.specs.Table.{IsTable}
use Rattle.mg_heap.specs.TableLaws.{table_once}
use Rattle.mg_chain.specs.Chains.{newest_link}
use Rattle.mg_snap.specs.Live.{AllSee, State, all_see, sees}
use Rattle.mg_image.specs.declared.entry.Entry.{Entry}
use Rattle.mg_image.specs.Form.{Pages, Row, packed_form}
use Rattle.mg_image.specs.Held.{told_row}
use Rattle.mg_image.specs.RecordRules.{Each, EachBack, Facts, table_in}
use Rattle.mg_image.specs.Records.{Chain, Reading, cells_of, record_key, writer}
use Rattle.mg_image_overlay_laws.specs.records.Fronts.{is_dead, living}
use Rattle.mg_overlay_laws.specs.Overlays.{left_state}
use Rattle.mg_model.specs.Openings.{everyone}
use Rattle.mg_image_overlay_laws.specs.tables.Growing.{IsTableOf}
use Rattle.mg_image_overlay_laws.specs.tables.OneTable.{one_table, table_at_stands}
use Rattle.mg_seek.specs.declared.whose.Wanted.TheVariants.{Living}
use Rattle.mg_seek.specs.Histories.{AreItsPages, HasSpeaker, NothingIsThere, ObstaclesAreTold, RowsAreOfViews, SpeakersStand, IsStateTold, by_of, told_given, told_if, told_versions, versions_spoken}
use Rattle.mg_seek.specs.Readings.{IsReadAt, SpeakersOfReadings}
use Rattle.mg_seek.specs.Speaking.{IsSpeaker, Speaks, is_erased_for_all}
use Rattle.mg_seek.specs.TableRecords.{EachRecord, IsAmong, records_in}
use Rattle.mg_seek.specs.Versions.{wants}
use Rattle.mg_seek.specs.Views.{IsObstacle, IsRowSeen}
use Rattle.mg_engine_step_laws.specs.standing.StandingLaws.{IsChainOf}
use Rattle.mg_engine_step_laws.specs.standing.Standing.{Standing}
use Rattle.mg_engine_step_laws.specs.standing.Versions.{SpeaksFor, SpeaksOrSilent}
use Rattle.mg_engine_step_laws.specs.standing.Known.{IsSilent, KnowsPages, bases_see_all, base_is_told, die_alike, facts_shown, is_at_work, lawful_shown, speaker_of, states_are}
use Rattle.mg_engine_step_laws.specs.standing.Listed.{is_listed}
use Rattle.mg_engine_step_laws.specs.tables.TablePages.{data_there, table_there}
use Rattle.mg_engine_step_laws.specs.tables_back.OtherIndexes.{as_first, as_other, row_seen_on, speaker_on}
use Rattle.mg_engine_step_laws.specs.reads.AnswersLaws.{NothingAtKeys, ObstaclesAtKeys, RowsAtKeys, SpeakersAreTold, TellsSpeaker}

-- ---- one record speaks for a key

module _ (size : ℕ) (o : Opening) (h : Entries) (s : Standing) (pages : Pages)
    (knows : KnowsPages size o h s pages) where
  abbrev f : Facts
  f = facts_shown size o h s pages knows

  abbrev r : Reading
  r = knows.shows.reading

  abbrev state : ℕ → TxState
  state = left_state everyone s.state

  -- a record's table is that of its name
  one_of : (its : Table) → IsTableOf knows.shows.layout its → (rec : RecId) (other : Table)
      → table_in f rec ≡ Some other → other.name ≡ its.name → other ≡ its
  one_of its stands rec other of named = one_table packed_form size state pages knows.shows.layout r
      knows.shows.sound other its (table_at_stands knows.shows.layout rec.page.0 other of) stands named

  pub has_speaker : (its : Table) → IsTableOf knows.shows.layout its → (key : Value)
      → HasSpeaker o h f r its key (speaker_of size o h s pages knows its.name key)
  has_speaker its stands key = record { none = none; some = some; others = others }
    where
      spoken : Option RecId
      spoken = speaker_of size o h s pages knows its.name key

      none : spoken ≡ None → StandFor o h its.name key []
      none is = subst (SpeaksFor o h f r its.name key) is (knows.shows.versions.speaks its.name key)

      some : (rec : RecId) → spoken ≡ Some rec → (table_in f rec ≡ Some its)
          × (record_key its (r rec) ≡ key) × StandFor o h its.name key (told_versions f.state its (r rec))
      some rec is = at (subst (SpeaksFor o h f r its.name key) is (knows.shows.versions.speaks its.name key))
        where
          at : SpeaksFor o h f r its.name key (Some rec) → (table_in f rec ≡ Some its)
              × (record_key its (r rec) ≡ key)
              × StandFor o h its.name key (told_versions f.state its (r rec))
          at (it, stand) =
              let same : it.table ≡ its = one_of its stands rec it.table it.of_table it.named in (
                it.of_table ∙ ap Some same,
                ap (λ (x : Table). record_key x (r rec)) (sym same) ∙ it.keyed,
                subst (λ (x : Table). StandFor o h its.name key (told_versions f.state x (r rec))) same stand,
              )

      others : (rec : RecId) → table_in f rec ≡ Some its → record_key its (r rec) ≡ key
          → (told_versions f.state its (r rec) ≡ [])
          ⊎ IsErasedForAll o h (told_versions f.state its (r rec)) ⊎ (spoken ≡ Some rec)
      others rec of keyed = at (knows.shows.versions.others rec its of)
        where
          at : SpeaksOrSilent o h f r knows.shows.versions.speaker rec its
              → (told_versions f.state its (r rec) ≡ [])
              ⊎ IsErasedForAll o h (told_versions f.state its (r rec)) ⊎ (spoken ≡ Some rec)
          at (inl empty) = inl empty
          at (inr (inl erased)) = inr (inl erased)
          at (inr (inr speaks)) = inr (inr
              (ap (knows.shows.versions.speaker its.name) (sym keyed) ∙ speaks))

  pub read_at : (its : Table) (rec : RecId) → table_in f rec ≡ Some its → IsReadAt pages f r its rec
  read_at its rec of = record { lawful = lawful_shown size o h s pages knows; of_table = of }

  -- ---- the pages of a table

  pub is_table : (its : Table) (stands : IsTableOf knows.shows.layout its)
      → IsTable pages its.pointer.0 stands.stand.pointers stands.stand.data_pages
  is_table its stands = table_there size state pages knows.shows.layout r knows.shows.sound its stands

  pub are_its_pages : (its : Table) (stands : IsTableOf knows.shows.layout its)
      → AreItsPages f its stands.stand.data_pages
  are_its_pages its stands = data_there size state pages knows.shows.layout r knows.shows.sound its stands

-- ---- who speaks

-- every active one's base sees whom all bases see
seen_by_all : AllSee → (o : Opening) (h : Entries) (live : State) (u : ℕ) → StandsFor o h live
    → state_of o h u ≡ Committed → all_see live u ≡ true → IsSeenByAll o h u
seen_by_all law o h live u stands committed all = record {
  committed = committed;
  saw = λ t active. sym (stands.base t u (is_active_one (state_of o h t) active))
      ∙ ap (λ b. b && sees live t u) (ap is_committed committed)
      ∙ law live t u all (stands.based t (is_active_one (state_of o h t) active));
}
  where
    is_active_one : (x : TxState) → is_active x ≡ true → x ≡ Active
    is_active_one Active is = refl
    is_active_one Limbo is = absurd (false≢true is)
    is_active_one Dead is = absurd (false≢true is)
    is_active_one Committed is = absurd (false≢true is)

-- the newest version that lives is found, and every base sees its writer where all do
module _ (o : Opening) (h : Entries) (live : State) (f : Facts)
    (alike : (u : ℕ) → is_dead (f.state u) ≡ is_dead (state_of o h u)) where
  takes_living : (u : ℕ) (b : Bool) → is_dead (f.state u) ≡ b
      → wants (state_of o h) live Living u ≡ not b
  takes_living u b is = ap not (dead_same (state_of o h u) ∙ (sym (alike u) ∙ is))
    where
      dead_same : (x : TxState) → dead_version x ≡ is_dead x
      dead_same Active = refl
      dead_same Limbo = refl
      dead_same Dead = refl
      dead_same Committed = refl

  lives : (x : TxState) → x ≡ Committed → is_dead x ≡ false
  lives x is = ap is_dead is

  first_lives : (es : List Entry) (e : Entry) (later : List Entry)
      → EachBack (λ d. f.state (writer d) ≡ Committed) es → living f.state es ≡ e ∷ later
      → first_entry (wants (state_of o h) live Living) es ≡ Some e
  first_lives [] e later backs is = absurd cc
  first_lives (d ∷ ds) e later backs is = at (is_dead (f.state (writer d))) refl ds backs is
    where
      at : (b : Bool) → is_dead (f.state (writer d)) ≡ b → (xs : List Entry)
          → Each (λ c. f.state (writer c) ≡ Committed) xs → cond b xs (d ∷ xs) ≡ e ∷ later
          → first_entry (wants (state_of o h) live Living) (d ∷ xs) ≡ Some e
      at false alive xs each same =
          let one : d ≡ e = cc in
          ap (λ b. cond b (Some d) (first_entry (wants (state_of o h) live Living) xs))
          (takes_living (writer d) false alive) ∙ ap Some one
      at true gone [] each same = absurd cc
      at true gone (c ∷ xs) each same =
          let one : c ≡ e = cc in
          ap (λ b. cond b (Some d) (first_entry (wants (state_of o h) live Living) (c ∷ xs)))
          (takes_living (writer d) true gone)
          ∙ (ap (λ b. cond b (Some c) (first_entry (wants (state_of o h) live Living) xs))
          (takes_living (writer c) false (lives (f.state (writer c)) each.0)) ∙ ap Some one)

both_true : (a b : Bool) → (a && b) ≡ true → (a ≡ true) × (b ≡ true)
both_true true b is = (refl, is)
both_true false b is = absurd (false≢true is)

committed_one : (x : TxState) → is_committed x ≡ true → x ≡ Committed
committed_one Active is = absurd (false≢true is)
committed_one Limbo is = absurd (false≢true is)
committed_one Dead is = absurd (false≢true is)
committed_one Committed is = refl

-- a record that does not speak for its key has nothing that counts, or was erased for all
module _ (see : AllSee) (speak : SpeakersOfReadings) (size : ℕ) (o : Opening) (h : Entries)
    (s : Standing) (pages : Pages) (knows : KnowsPages size o h s pages) where
  not_speaking : (its : Table) (key : Value) (rec : RecId)
      → table_in (f size o h s pages knows) rec ≡ Some its
      → record_key its (r size o h s pages knows rec) ≡ key
      → (Speaks (state_of o h) s.live pages its key rec → ⊥)
      → (told_versions (f size o h s pages knows).state its (r size o h s pages knows rec) ≡ [])
      ⊎ IsErasedForAll o h
      (told_versions (f size o h s pages knows).state its (r size o h s pages knows rec))
  not_speaking its key rec of keyed silent =
      at (living facts.state (knows.shows.reading rec)) refl
    where
      facts : Facts
      facts = f size o h s pages knows

      at : (es : List Entry) → living facts.state (knows.shows.reading rec) ≡ es
          → (told_versions facts.state its (knows.shows.reading rec) ≡ [])
          ⊎ IsErasedForAll o h (told_versions facts.state its (knows.shows.reading rec))
      at [] is = inl (ap (map (λ e. generation (writer e) (told_given its e))) is)
      at (e ∷ later) is = decide (is_erased_for_all (state_of o h) s.live e.version) refl
        where
          first : first_entry (wants (state_of o h) s.live Living) (knows.shows.reading rec) ≡ Some e
          first = first_lives o h s.live facts (die_alike size o h s pages knows) (knows.shows.reading rec) e
              later (knows.shows.sound.records.each rec its of).backs is

          decide : (b : Bool) → is_erased_for_all (state_of o h) s.live e.version ≡ b
              → (told_versions facts.state its (knows.shows.reading rec) ≡ [])
              ⊎ IsErasedForAll o h (told_versions facts.state its (knows.shows.reading rec))
          decide false stays = absurd (silent
              ((speak (state_of o h) s.live pages its key rec facts knows.shows.reading
              (read_at size o h s pages knows its rec of)).1
              (record { newest = e; first = first; stays = stays; keyed = keyed })))
          decide true erased =
              let parts = both_true e.version.deleted (is_committed (state_of o h (writer e))
              && all_see s.live (writer e)) erased in
              let more = both_true (is_committed (state_of o h (writer e))) (all_see s.live (writer e))
              parts.1 in
              inr (subst (λ (es : List Entry). IsErasedForAll o h
              (map (λ d. generation (writer d) (told_given its d)) es)) (sym is) (
                seen_by_all see o h s.live (writer e) knows.memory.live
                    (committed_one (state_of o h (writer e)) more.0) more.1,
                ap (λ (b : Bool). cond b None (Some (told_row its e.row))) parts.0,
              ))

  each_among : (P : RecId → Type 0) (recs : List RecId) (p : RecId) → EachRecord P recs
      → IsAmong recs p → P p
  each_among P [] p each among = absurd among
  each_among P (x ∷ recs) p each (inl same) = subst P same each.0
  each_among P (x ∷ recs) p each (inr later) = each_among P recs p each.1 later

pub speakers_told : AllSee → SpeakersOfReadings → SpeakersStand → SpeakersAreTold
speakers_told see speak stand size o h s pages knows table key found shown is =
    as_told found is
  where
    facts : Facts
    facts = f size o h s pages knows

    its : Table
    its = shown.its

    named : its.name ≡ table.name
    named = shown.same.name

    spoken : Option RecId
    spoken = speaker_of size o h s pages knows its.name key

    has : HasSpeaker o h facts knows.shows.reading its key spoken
    has = has_speaker size o h s pages knows its shown.stands key

    -- what was found, of the table that is shown
    is_its : (x : Option RecId) → IsSpeaker s.state s.live pages table key x
        → IsSpeaker (state_of o h) s.live pages its key x
    is_its x speaks = subst (λ (state : ℕ → TxState). IsSpeaker state s.live pages its key x)
        (states_are size o h s pages knows) (as_other its table shown.same
        (λ t. IsSpeaker s.state s.live pages t key x)
        (speaker_on table its.indexes s.state s.live pages key x speaks))

    stands_for : (x : Option RecId) → IsSpeaker s.state s.live pages table key x
        → StandFor o h its.name key (versions_spoken facts.state its knows.shows.reading x)
        × ((rec : RecId) → x ≡ Some rec → (table_in facts rec ≡ Some its) × (spoken ≡ Some rec))
    stands_for x speaks = stand o h s.live pages its key shown.stands.stand.pointers
        shown.stands.stand.data_pages facts knows.shows.reading spoken x
        (lawful_shown size o h s pages knows) (die_alike size o h s pages knows)
        (is_table size o h s pages knows its shown.stands)
        (are_its_pages size o h s pages knows its shown.stands) knows.memory.live
        (bases_see_all size o h s pages knows) has (is_its x speaks)

    as_told : (x : Option RecId) → IsSpeaker s.state s.live pages table key x
        → TellsSpeaker size o h s pages knows table.name key x
    as_told (Some rec) speaks =
        ap (λ (n : List ℕ). speaker_of size o h s pages knows n key) (sym named)
        ∙ ((stands_for (Some rec) speaks).1 rec refl).1
    as_told None speaks = (
      subst (λ (n : List ℕ). StandFor o h n key []) named (stands_for None speaks).0,
      subst (λ (n : List ℕ). IsSilent size o h s pages knows n key) named
          (λ chain is_chain. silent spoken refl chain is_chain),
    )
      where
        -- the records among which none was found
        none_there : IsSpeaker (state_of o h) s.live pages its key None
        none_there = is_its None speaks

        listed : none_there.records ≡ records_in pages shown.stands.stand.data_pages
        listed = none_there.of_table.are ∙ ap (records_in pages) (table_once pages its.pointer.0
            none_there.of_table.pointers none_there.of_table.data_pages shown.stands.stand.pointers
            shown.stands.stand.data_pages none_there.of_table.table
            (is_table size o h s pages knows its shown.stands))

        none_speaks : (rec : RecId) → table_in facts rec ≡ Some its → (e : Entry) (es : List Entry)
            → knows.shows.reading rec ≡ e ∷ es
            → Speaks (state_of o h) s.live pages its key rec → ⊥
        none_speaks rec of e es some = each_among see speak size o h s pages knows
            (λ x. Speaks (state_of o h) s.live pages its key x → ⊥) none_there.records rec
            none_there.speaks (subst (λ (xs : List RecId). IsAmong xs rec) (sym listed)
            (is_listed pages shown.stands.stand.data_pages rec e es
            ((are_its_pages size o h s pages knows its shown.stands rec.page.0).0 of)
            (subst (Chain (cells_of pages) (newest_link pages rec)) some
            (knows.shows.sound.records.reads rec its of))))

        silent : (x : Option RecId) → spoken ≡ x → (chain : List Generation)
            → IsChainOf facts knows.shows.reading its.name key spoken chain
            → (chain ≡ []) ⊎ IsErasedForAll o h chain
        silent None is_none chain is_chain = inl (subst
            (λ (y : Option RecId). IsChainOf facts knows.shows.reading its.name key y chain) is_none is_chain)
        silent (Some rec) is_some chain is_chain = by (subst
            (λ (y : Option RecId). IsChainOf facts knows.shows.reading its.name key y chain) is_some is_chain)
          where
            of_rec : table_in facts rec ≡ Some its
            of_rec = (has.some rec is_some).0

            counts : (es : List Entry) → knows.shows.reading rec ≡ es
                → (told_versions facts.state its (knows.shows.reading rec) ≡ [])
                ⊎ IsErasedForAll o h (told_versions facts.state its (knows.shows.reading rec))
            counts [] empty = inl (ap (told_versions facts.state its) empty)
            counts (e ∷ es) some = not_speaking see speak size o h s pages knows its key rec of_rec
                (has.some rec is_some).1 (none_speaks rec of_rec e es some)

            by : IsChainOf facts knows.shows.reading its.name key (Some rec) chain
                → (chain ≡ []) ⊎ IsErasedForAll o h chain
            by (it, is_told) =
                let same : it.table ≡ its = one_of size o h s pages knows its shown.stands rec it.table
                it.of_table it.named in
                let told_is : chain ≡ told_versions facts.state its (knows.shows.reading rec) =
                is_told ∙ ap (λ (x : Table). told_versions facts.state x (knows.shows.reading rec)) same in
                at told_is (counts (knows.shows.reading rec) refl)
              where
                at : chain ≡ told_versions facts.state its (knows.shows.reading rec)
                    → (told_versions facts.state its (knows.shows.reading rec) ≡ [])
                    ⊎ IsErasedForAll o h (told_versions facts.state its (knows.shows.reading rec))
                    → (chain ≡ []) ⊎ IsErasedForAll o h chain
                at told_is (inl empty) = inl (told_is ∙ empty)
                at told_is (inr erased) = inr (subst (IsErasedForAll o h) (sym told_is) erased)

-- ---- who is in the way, and which row is seen

pub obstacles_at_keys : ObstaclesAreTold → ObstaclesAtKeys
obstacles_at_keys tell size o h s pages knows table key rec t found opening legal shown spoken active is =
    subst (λ (n : List ℕ). (by_of found ≡ obstacle (told o h) t n key) × IsStateTold o h found)
    shown.same.name (tell o h s.live t pages shown.its key rec found (f size o h s pages knows)
    knows.shows.reading opening legal (read_at size o h s pages knows shown.its rec its.0)
    (die_alike size o h s pages knows) its.2 (is_at_work size o h s pages knows t active)
    (base_is_told size o h s pages knows t active)
    (subst (λ (state : ℕ → TxState). IsObstacle state s.live t pages rec found)
    (states_are size o h s pages knows) is))
  where
    its : (table_in (f size o h s pages knows) rec ≡ Some shown.its)
        × (record_key shown.its (knows.shows.reading rec) ≡ key)
        × StandFor o h shown.its.name key
        (told_versions (f size o h s pages knows).state shown.its (knows.shows.reading rec))
    its = (has_speaker size o h s pages knows shown.its shown.stands key).some rec
        (ap (λ (n : List ℕ). speaker_of size o h s pages knows n key) shown.same.name ∙ spoken)

pub rows_at_keys : RowsAreOfViews → RowsAtKeys
rows_at_keys tell size o h s pages knows table key rec t row shown spoken active is =
    at row (as_first shown.its table shown.same (λ x. same_row (row_at (view o h t.0) x.name key)
    (told_if x row)) (tell o h s.live t pages shown.its key rec row (f size o h s pages knows)
    knows.shows.reading (read_at size o h s pages knows shown.its rec its.0)
    (die_alike size o h s pages knows) its.2 (is_at_work size o h s pages knows t.0 active)
    (base_is_told size o h s pages knows t.0 active)
    (subst (λ (state : ℕ → TxState). IsRowSeen state s.live t pages shown.its rec row)
    (states_are size o h s pages knows) (as_other shown.its table shown.same
    (λ x. IsRowSeen s.state s.live t pages x rec row)
    (row_seen_on table shown.its.indexes s.state s.live pages t rec row is)))))
  where
    its : (table_in (f size o h s pages knows) rec ≡ Some shown.its)
        × (record_key shown.its (knows.shows.reading rec) ≡ key)
        × StandFor o h shown.its.name key
        (told_versions (f size o h s pages knows).state shown.its (knows.shows.reading rec))
    its = (has_speaker size o h s pages knows shown.its shown.stands key).some rec
        (ap (λ (n : List ℕ). speaker_of size o h s pages knows n key) shown.same.name ∙ spoken)

    at : (x : Option Row) → same_row (row_at (view o h t.0) table.name key)
        (told_if (record table { indexes = shown.its.indexes }) x)
        → same_row (row_at (view o h t.0) table.name key) (told_if table x)
    at None same = same
    at (Some its_row) same = same

pub nothing_at_keys : NothingIsThere → NothingAtKeys
nothing_at_keys tell o h name key t opening legal none active =
    tell o h t name key opening legal none (ap is_active active)
