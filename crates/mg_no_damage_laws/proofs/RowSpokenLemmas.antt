-- The row of the catalog at which a way back stops is there to be taken out: the record that spoke for its key at first has the
-- transaction's own version and no other, and no other record speaks for the key.
use Rattle.std.proofs.Common.{◌≡◌, ◌≢◌, ◌≤◌, ◌⊎◌, ◌∙◌, ◌&&◌, ap, arith, inl, inr, refl, subst, sym, ℕ, Bool, true, false, List, [], ◌∷◌, Option, None, Some}
use Rattle.std.proofs.Math.Path.{fun_ext}
use Rattle.std.proofs.lemmas.Bool.{eqb-true, false≢true}
use Rattle.std.specs.Prelude.{◌==◌, if◌then◌else◌, not}
use Rattle.mg_base.specs.declared.numbers.RecId.{RecId}
use Rattle.mg_base.specs.declared.transaction.TxState.{TxState}
use Rattle.mg_base.specs.declared.transaction.TxState.TheVariants.{Active, Committed, Limbo}
use Rattle.mg_chain.specs.Views.{first_entry}
use Rattle.mg_engine_meaning_laws.specs.LoneRows.{AreLone, IsLone}
use Rattle.mg_engine_meaning_laws.specs.LoneRowsLaws.{lone_newest}
use Rattle.mg_engine_step_laws.specs.standing.BasedLaws.{tests_all}
use Rattle.mg_engine_step_laws.specs.tables_back.CatalogPages.{catalog_page_named}
use Rattle.mg_engine_step_laws.specs.tables_back.Outs.{GoesWhole, ReadsWithout, is_among}
use Rattle.mg_engine_step_laws.specs.standing.OwnChains.{own_told}
use Rattle.mg_engine_step_laws.specs.tables.SameRecords.{catalog_stands, same_catalog, same_record}
use Rattle.mg_engine_step_laws.specs.backs.Shown.{ShowsMidway}
use Rattle.mg_engine_step_laws.specs.standing.Standing.{Remembers, ShowsHistory, Standing}
use Rattle.mg_engine_step_laws.specs.standing.Versions.{SpeaksFor}
use Rattle.mg_generation_laws.specs.Kept.{IsErasedForAll, IsSeenByAll}
use Rattle.mg_image.specs.Form.{Pages, packed_coding, packed_form}
use Rattle.mg_image.specs.Held.{told_row}
use Rattle.mg_image.specs.Histories.{newest_at}
use Rattle.mg_image.specs.ReadingLaws.{RowsAreOne}
use Rattle.mg_image.specs.RecordRules.{Each, EachBack, Facts}
use Rattle.mg_image.specs.Records as records
use Rattle.mg_image.specs.Records.{Reading, record_key, writer}
use Rattle.mg_image.specs.Sound.{IsSoundBy, facts_by}
use Rattle.mg_image.specs.Tables.{Layout, Stand, has, stands_of, table_at}
use Rattle.mg_image.specs.declared.entry.Entry.{Entry as Read}
use Rattle.mg_image_overlay_laws.specs.records.Fronts.{is_dead, living}
use Rattle.mg_image_overlay_laws.specs.tables.Growing.{IsTableOf}
use Rattle.mg_image_overlay_laws.specs.tables.OneChain.{same_stand}
use Rattle.mg_model.specs.Answers.{is_active, is_committed}
use Rattle.mg_model.specs.Catalog.{catalog_name}
use Rattle.mg_model.specs.Changes.{has_change}
use Rattle.mg_model.specs.History.{Effect, Begins, Ends, Entries, Entry, Gives, Looks, Makes, Marks, Nothing, Saves, TakesBack, effect_of}
use Rattle.mg_model.specs.Legal.{IsLegal}
use Rattle.mg_model.specs.LegalLaws.{IsAllowed, lawful_is_allowed}
use Rattle.mg_model.specs.Machine.{next_number, opening_state, own, state_after, state_of}
use Rattle.mg_model.specs.NumberLaws.{next_number_grows}
use Rattle.mg_model.specs.Openings.{everyone}
use Rattle.mg_model.specs.declared.change.Change.{Change}
use Rattle.mg_model.specs.declared.opening.Opening.{Opening}
use Rattle.mg_model.specs.declared.table.Table.{Table}
use Rattle.mg_overlay_laws.specs.Overlays.{left_by, left_state, nobody}
use Rattle.mg_seek.specs.Histories.{BasesSeeAll, DieAlike, told_all, told_given, told_versions}
use Rattle.mg_seek.specs.HistoryLaws.{committed_lives, dead_alike}
use Rattle.mg_seek.specs.Readings.{SpeakIn}
use Rattle.mg_seek.specs.SpeakerLaws.{same_some}
use Rattle.mg_seek.specs.Speaking.{is_erased_for_all}
use Rattle.mg_seek.specs.Versions.{wants}
use Rattle.mg_seek.specs.declared.whose.Wanted.TheVariants.{Living}
use Rattle.mg_snap.specs.Live.{State as Bases}
use Rattle.mg_value.specs.declared.value.Value.{Value}
use Rattle.mg_no_damage_laws.proofs.BackKeyLemmas.{left_dead, own_first}
use Rattle.mg_no_damage_laws.proofs.RowThereLemmas.{ReadsRow}
use Rattle.mg_no_damage_laws.proofs.SilentLemmas.{others_silent}

-- ---- an active transaction was drawn since the history began

numbers_grow : (o : Opening) (h : Entries) → o.next.0 ≤ next_number o h
numbers_grow o [] = omega arith
numbers_grow o (e ∷ h) =
    let before : o.next.0 ≤ next_number o h = numbers_grow o h in
    let more : next_number o h ≤ next_number o (e ∷ h) = next_number_grows o h e in omega (arith, before, more)

still_active : (o : Opening) (h : Entries) (t : ℕ) → (state_of o h t ≡ Active → o.next.0 ≤ t) → (f : Effect)
    → IsAllowed o h f → state_after f t (state_of o h t) ≡ Active → o.next.0 ≤ t
still_active o h t before (Begins u mode) allowed is = by (u == t) refl is
  where
    by : (b : Bool) → (u == t) ≡ b → (if b then Active else state_of o h t) ≡ Active → o.next.0 ≤ t
    by true here is_ =
        let same : u ≡ t = eqb-true u t here in
        let drawn : u ≡ next_number o h = allowed in
        let grown : o.next.0 ≤ next_number o h = numbers_grow o h in omega (arith, same, drawn, grown)
    by false other is_ = before is_
still_active o h t before (Looks u) allowed is = before is
still_active o h t before (Makes u table row) allowed is = before is
still_active o h t before (Gives u table key row) allowed is = before is
still_active o h t before (Marks u) allowed is = before is
still_active o h t before (Saves u name) allowed is = before is
still_active o h t before (TakesBack u point) allowed is = before is
still_active o h t before (Ends u end) allowed is = by (u == t) is
  where
    by : (b : Bool) → (if b then end else state_of o h t) ≡ Active → o.next.0 ≤ t
    by true is_ = absurd (false≢true (sym allowed.1 ∙ ap is_active is_))
    by false is_ = before is_
still_active o h t before Nothing allowed is = before is

pub active_since : (o : Opening) (h : Entries) → ((t : ℕ) → opening_state o t ≢ Active) → IsLegal o h → (t : ℕ)
    → state_of o h t ≡ Active → o.next.0 ≤ t
active_since o [] ended legal t active = absurd (ended t active)
active_since o (e ∷ h) ended legal t active = still_active o h t (active_since o h ended legal.1 t) (effect_of e)
    (lawful_is_allowed o h e legal.0) active

-- ---- who speaks by what is read

module _ (o : Opening) (h : Entries) (live : Bases) (f : Facts) (alike : DieAlike o h f)
    (bases : BasesSeeAll o h live) where
  abbrev takes : ℕ → Bool
  takes = wants (state_of o h) live Living

  -- what is left of versions whose newest is dead, or not; and the first that counts
  abbrev left_if : Bool → Read → List Read → List Read
  left_if dead e es = if dead then es else e ∷ es

  abbrev first_if : Bool → Read → Option Read → Option Read
  first_if counts e behind = if counts then Some e else behind

  wanted : (u : ℕ) (b : Bool) → is_dead (f.state u) ≡ b → wants (state_of o h) live Living u ≡ not b
  wanted u b is = ap not (dead_alike (state_of o h u) ∙ (sym (alike u) ∙ is))

  at_head : (e : Read) (es : List Read) → is_dead (f.state (writer e)) ≡ false
      → first_entry (wants (state_of o h) live Living) (e ∷ es) ≡ Some e
  at_head e es alive = ap (λ (b : Bool). first_if b e (first_entry takes es)) (wanted (writer e) false alive)

  behind_head : (e : Read) (es : List Read) → is_dead (f.state (writer e)) ≡ true
      → first_entry (wants (state_of o h) live Living) (e ∷ es) ≡ first_entry (wants (state_of o h) live Living) es
  behind_head e es dead = ap (λ (b : Bool). first_if b e (first_entry takes es)) (wanted (writer e) true dead)

  -- the first version that counts is the newest of those that do
  first_counts : (es : List Read) → EachBack (λ x. f.state (writer x) ≡ Committed) es → (newest : Read)
      → first_entry (wants (state_of o h) live Living) es ≡ Some newest
      → (later : List Read) × (living f.state es ≡ newest ∷ later)
  first_counts [] backs newest first = let none : None ≡ Some newest = first in absurd cc
  first_counts (e ∷ es) backs newest first = at (is_dead (f.state (writer e))) refl es backs first
    where
      at : (b : Bool) → is_dead (f.state (writer e)) ≡ b → (es : List Read)
          → Each (λ x. f.state (writer x) ≡ Committed) es
          → first_entry (wants (state_of o h) live Living) (e ∷ es) ≡ Some newest
          → (later : List Read) × (left_if (is_dead (f.state (writer e))) e es ≡ newest ∷ later)
      at false alive es each first_ =
          let same : e ≡ newest = same_some e newest (sym (at_head e es alive) ∙ first_) in
          (es, ap (λ (b : Bool). left_if b e es) alive ∙ ap (λ (x : Read). x ∷ es) same)
      at true dead [] each first_ =
          let none : None ≡ Some newest = sym (behind_head e [] dead) ∙ first_ in absurd cc
      at true dead (d ∷ es) each first_ =
          let here : first_entry takes (d ∷ es) ≡ Some d =
          at_head d es (committed_lives (f.state (writer d)) each.0) in
          let same : d ≡ newest = same_some d newest (sym here ∙ (sym (behind_head e (d ∷ es) dead) ∙ first_)) in
          (es, ap (λ (b : Bool). left_if b e (d ∷ es)) dead ∙ ap (λ (x : Read). x ∷ es) same)

  is_deletion : (table : Table) (e : Read) → told_given table e ≡ None → e.version.deleted ≡ true
  is_deletion table e is = at e.version.deleted is
    where
      at : (b : Bool) → (if b then None else Some (told_row table e.row)) ≡ None → b ≡ true
      at true none = refl
      at false none = let both : Some (told_row table e.row) ≡ None = none in absurd cc

  erased : (table : Table) (e : Read) → IsSeenByAll o h (writer e) → told_given table e ≡ None
      → is_erased_for_all (state_of o h) live e.version ≡ true
  erased table e seen none = rw (is_deletion table e none, ap is_committed seen.committed, bases (writer e) seen) refl

  -- a record that speaks is the one whose versions count
  pub speaks_once : (table : Table) (key : Value) (es : List Read) (p rec : RecId)
      → EachBack (λ x. f.state (writer x) ≡ Committed) es
      → (told_versions f.state table es ≡ []) ⊎ IsErasedForAll o h (told_versions f.state table es)
      ⊎ (Some p ≡ Some rec) → SpeakIn (state_of o h) live table key es → rec ≡ p
  speaks_once table key es p rec backs silent speak =
      let (later, is) = first_counts es backs speak.newest speak.first in at later is silent
    where
      at : (later : List Read) → living f.state es ≡ speak.newest ∷ later
          → (told_versions f.state table es ≡ []) ⊎ IsErasedForAll o h (told_versions f.state table es)
          ⊎ (Some p ≡ Some rec) → rec ≡ p
      at later is (inl empty) =
          let none : told_all table (speak.newest ∷ later) ≡ [] = sym (ap (told_all table) is) ∙ empty in absurd cc
      at later is (inr (inl gone)) =
          let its : IsErasedForAll o h (told_all table (speak.newest ∷ later)) =
          subst (λ (xs : List Read). IsErasedForAll o h (told_all table xs)) is gone in
          absurd (false≢true (sym speak.stays ∙ erased table speak.newest its.0 its.1))
      at later is (inr (inr same)) = sym (same_some p rec same)

-- ---- the row

module _ (one : RowsAreOne packed_coding) (size : ℕ) (o : Opening) (h : Entries) (e : Entry) (t : ℕ)
    (whole left : List Change) (s : Standing) (begun pages : Pages) (first : ShowsHistory packed_form size o h s begun)
    (midway : ShowsMidway packed_form size o h e t whole left s begun first pages) (memory : Remembers o h s)
    (active : s.state t ≡ Active) (key : Value) (c : records.Change)
    (to_take : newest_at left catalog_name key ≡ Some c) (changed : has_change (own o h t) catalog_name key ≡ true)
    (from : ℕ) (lone : AreLone from first.layout first.reading) (above : from ≤ t) where
  abbrev cat : Table
  cat = midway.layout.catalog.table

  abbrev f : Facts
  f = facts_by (left_state everyone s.state) pages midway.layout

  abbrev f0 : Facts
  f0 = facts_by (left_state everyone s.state) begun first.layout

  abbrev r : Reading
  r = midway.reading

  named : midway.layout.catalog.table.name ≡ catalog_name
  named = ap (λ (x : Table). x.name) midway.sound.catalog

  active_told : state_of o h t ≡ Active
  active_told = sym (memory.state t) ∙ active

  in_limbo : left_state everyone s.state t ≡ Limbo
  in_limbo = ap (λ (x : TxState). left_by true x) active

  -- the record that spoke for the key at first
  record SpokeAlone : Type 0 where
    p : RecId
    spoke : first.versions.speaker catalog_name key ≡ Some p
    of : table_at (stands_of midway.layout) p.page.0 ≡ Some midway.layout.catalog.table
    keyed : record_key midway.layout.catalog.table (midway.reading p) ≡ key
    version : Read
    alone : midway.reading p ≡ version ∷ []
    its : writer version ≡ t

  spoke_alone : SpokeAlone
  spoke_alone = at (first.versions.speaker catalog_name key) refl (first.versions.speaks catalog_name key)
    where
      at : (x : Option RecId) → first.versions.speaker catalog_name key ≡ x
          → SpeaksFor o h f0 first.reading catalog_name key x → SpokeAlone
      at None is stand_ = absurd (false≢true (sym (own_told o h t catalog_name key [] active_told stand_).has_ ∙ changed))
      at (Some p) is (it, stand_) =
          let in_first : first.layout.catalog.table ≡ it.table = (catalog_page_named packed_form size
          (left_state everyone s.state) begun first.layout first.reading first.sound p.page.0 it.table it.of_table
          it.named).1 in
          let now_of : table_at (stands_of midway.layout) p.page.0 ≡ Some it.table = midway.stays p it.table it.of_table in
          let in_mid : midway.layout.catalog.table ≡ it.table = (catalog_page_named packed_form size
          (left_state everyone s.state) pages midway.layout midway.reading midway.sound p.page.0 it.table now_of
          it.named).1 in
          let same : midway.reading p ≡ first.reading p = midway.not_yet catalog_name key c to_take p is in
          let (d, ds, are, by) = own_first (left_state everyone s.state) t in_limbo it.table (first.reading p)
          (first.sound.records.each p it.table it.of_table).backs
          (sym (own_told o h t catalog_name key (told_versions (left_state everyone s.state) it.table (first.reading p))
          active_told stand_).has_ ∙ changed) in
          let none : ds ≡ [] = lone_newest from d ds
          (subst (IsLone from) are (lone p (it.of_table ∙ ap Some (sym in_first))))
          (subst (λ (n : ℕ). from ≤ n) (sym by) above) in record {
            p = p;
            spoke = is;
            of = now_of ∙ ap Some (sym in_mid);
            keyed = ap (λ (x : Table). record_key x (midway.reading p)) in_mid
                ∙ (ap (record_key it.table) same ∙ it.keyed);
            version = d;
            alone = same ∙ (are ∙ ap (λ (es : List Read). d ∷ es) none);
            its = by;
          }

  alike : DieAlike o h f
  alike u = left_dead (s.state u) ∙ ap is_dead (memory.state u)

  bases : BasesSeeAll o h s.live
  bases u seen = tests_all o h s.live u memory.live memory.based seen

  -- another record of the catalog speaks for the key nowhere
  only_it : (rec : RecId) → table_at (stands_of midway.layout) rec.page.0 ≡ Some midway.layout.catalog.table
      → SpeakIn s.state s.live midway.layout.catalog.table key (midway.reading rec) → rec ≡ spoke_alone.p
  only_it rec of speak = speaks_once o h s.live f alike bases cat key (midway.reading rec) spoke_alone.p rec
      (midway.sound.records.each rec midway.layout.catalog.table of).backs
      (others_silent size o h e t whole left s begun pages first midway midway.layout.catalog.table key spoke_alone.p
      (ap (λ (n : List ℕ). first.versions.speaker n key) named ∙ spoke_alone.spoke) rec of speak.keyed)
      (subst (λ (x : ℕ → TxState). SpeakIn x s.live midway.layout.catalog.table key (midway.reading rec))
      (fun_ext memory.state) speak)

  -- ---- once others have gone, where the transaction counts as dead

  module _ (a : Layout) (z : Reading) (dead : IsSoundBy packed_form size (left_state nobody s.state) pages a z) (q : Reading)
      (keys : List Value) (without_ : ReadsWithout t keys a z q) (other : is_among keys key ≡ false) where
    one_table : midway.layout.catalog.table ≡ a.catalog.table
    one_table = same_catalog packed_form size (left_state everyone s.state) (left_state nobody s.state) pages
        midway.layout a midway.reading z midway.sound dead

    one_stand : midway.layout.catalog ≡ a.catalog
    one_stand = same_stand packed_form.in_primary size pages midway.layout.catalog a.catalog midway.sound.tables.0
        dead.tables.0 one_table

    in_a : IsTableOf a midway.layout.catalog.table
    in_a = subst (IsTableOf a) (sym one_table) (catalog_stands a)

    of_a : (n : ℕ) → table_at (stands_of midway.layout) n ≡ Some midway.layout.catalog.table
        → table_at (stands_of a) n ≡ Some midway.layout.catalog.table
    of_a n of =
        let here : has a.catalog.data_pages n ≡ true = ap (λ (x : Stand). has x.data_pages n) (sym one_stand)
        ∙ (catalog_page_named packed_form size (left_state everyone s.state) pages midway.layout midway.reading
        midway.sound n midway.layout.catalog.table of named).0 in
        rw here (ap Some (sym one_table))

    of_mid : (n : ℕ) → table_at (stands_of a) n ≡ Some midway.layout.catalog.table
        → table_at (stands_of midway.layout) n ≡ Some midway.layout.catalog.table
    of_mid n of =
        let here : has midway.layout.catalog.data_pages n ≡ true = ap (λ (x : Stand). has x.data_pages n) one_stand
        ∙ (catalog_page_named packed_form size (left_state nobody s.state) pages a z dead n midway.layout.catalog.table of
        named).0 in
        rw here refl

    same_versions : (p : RecId) → table_at (stands_of midway.layout) p.page.0 ≡ Some midway.layout.catalog.table
        → midway.reading p ≡ z p
    same_versions p of = same_record packed_form one size (left_state everyone s.state) (left_state nobody s.state) pages
        midway.layout a midway.reading z midway.sound dead midway.layout.catalog.table (catalog_stands midway.layout) in_a p
        of

    -- it has not gone
    stays : q spoke_alone.p ≡ midway.reading spoke_alone.p
    stays = at (without_.each spoke_alone.p)
      where
        its_key : record_key a.catalog.table (z spoke_alone.p) ≡ key
        its_key = ap (λ (x : Table). record_key x (z spoke_alone.p)) (sym one_table)
            ∙ (ap (record_key midway.layout.catalog.table) (sym (same_versions spoke_alone.p spoke_alone.of))
            ∙ spoke_alone.keyed)

        at : (q spoke_alone.p ≡ z spoke_alone.p) ⊎ (GoesWhole t (z spoke_alone.p) (q spoke_alone.p)
            × (is_among keys (record_key a.catalog.table (z spoke_alone.p)) ≡ true))
            → q spoke_alone.p ≡ midway.reading spoke_alone.p
        at (inl same) = same ∙ sym (same_versions spoke_alone.p spoke_alone.of)
        at (inr (went, among)) = absurd (false≢true (sym other ∙ (sym (ap (is_among keys) its_key) ∙ among)))

    only_still : (rec : RecId) → table_at (stands_of a) rec.page.0 ≡ Some midway.layout.catalog.table
        → SpeakIn s.state s.live midway.layout.catalog.table key (q rec) → rec ≡ spoke_alone.p
    only_still rec of speak = at (without_.each rec)
      where
        at : (q rec ≡ z rec) ⊎ (GoesWhole t (z rec) (q rec)
            × (is_among keys (record_key a.catalog.table (z rec)) ≡ true)) → rec ≡ spoke_alone.p
        at (inl same) = only_it rec (of_mid rec.page.0 of)
            (subst (λ (es : List Read). SpeakIn s.state s.live midway.layout.catalog.table key es)
            (same ∙ sym (same_versions rec (of_mid rec.page.0 of))) speak)
        at (inr (went, among)) =
            let none : None ≡ Some speak.newest =
            sym (ap (first_entry (wants s.state s.live Living)) went.none) ∙ speak.first in absurd cc

    pub reads_row : ReadsRow s.state s.live t a q midway.layout.catalog.table key
    reads_row = record {
      p = spoke_alone.p;
      of = of_a spoke_alone.p.page.0 spoke_alone.of;
      version = spoke_alone.version;
      alone = stays ∙ spoke_alone.alone;
      its = spoke_alone.its;
      keyed = ap (record_key midway.layout.catalog.table) stays ∙ spoke_alone.keyed;
      only = only_still;
    }
