-- An engine on whose pages a record was written stands for the history with the entry.
use Rattle.std.proofs.Common.{◌≡◌, ◌≢◌, ◌⊎◌, inl, inr, refl, sym, ap, ◌∙◌, subst, ℕ, Bool, true, false, ◌&&◌, ◌==◌, List, [], ◌∷◌, ◌++◌, Option, None, Some, cond}
use Rattle.std.specs.Prelude.{map}
use Rattle.std.specs.Cmp.Lexicographic.{same_text}
use Rattle.std.proofs.Math.Path.{fun_ext}
use Rattle.std.proofs.lemmas.Bool.{cases_eq, eq-eqb, false≢true, ne_eqb}
use Rattle.mg_base.specs.declared.numbers.RecId.{RecId}
use Rattle.mg_base.specs.declared.transaction.TxState.{TxState}
use Rattle.mg_base.specs.declared.transaction.TxState.TheVariants.{Active, Committed, Limbo}
use Rattle.mg_value.specs.declared.value.Value.{Value}
use Rattle.mg_model.specs.declared.change.Change.{Change}
use Rattle.mg_model.specs.declared.opening.Opening.{Opening}
use Rattle.mg_model.specs.declared.table.Table.{Table}
use Rattle.mg_model.specs.Answers.{catalog_of, told}
use Rattle.mg_model.specs.Changes.{Cells, has_change, same_key, same_name}
use Rattle.mg_model.specs.DeedLaws.{deeds_after, deeds_after_entry}
use Rattle.mg_model.specs.Effects.{doer, is_its}
use Rattle.mg_model.specs.History.{Effect, Entries, Entry as Event, Gives, Makes, effect_of}
use Rattle.mg_model.specs.Laws.{OpeningsBegin}
use Rattle.mg_model.specs.Legal.{IsLegal, MayBegin}
use Rattle.mg_model.specs.Machine.{changes_in, deeds_by, is_of, next_after, own, state_after, steps}
use Rattle.mg_model.specs.Openings.{everyone}
use Rattle.mg_model.specs.ReadLaws.{same_name_itself}
use Rattle.mg_generation_laws.specs.Generations.{Generation, generation, put, without_newest_by}
use Rattle.mg_image.specs.declared.entry.Entry.{Entry}
use Rattle.mg_image.specs.Form.{Form, Pages}
use Rattle.mg_image.specs.RecordRules.{Facts, table_in}
use Rattle.mg_image.specs.Records.{Reading, record_key, writer}
use Rattle.mg_image.specs.Sound.{IsSoundBy, facts_by}
use Rattle.mg_image.specs.Tables.{Layout, Stand, stands_of}
use Rattle.mg_image_overlay_laws.specs.records.Fronts.{is_dead, living}
use Rattle.mg_overlay_laws.specs.Overlays.{left_by, left_state}
use Rattle.mg_image_overlay_laws.specs.tables.Growing.{HasGrown, IsTableOf}
use Rattle.mg_engine_step_laws.specs.standing.BareLaws.{bare_grown}
use Rattle.mg_engine_step_laws.specs.standing.EndingLaws.{writes_show}
use Rattle.mg_engine_step_laws.specs.standing.Following.{FollowsEntry, StandsOn}
use Rattle.mg_engine_step_laws.specs.standing.StandingLaws.{IsChainOf}
use Rattle.mg_engine_step_laws.specs.standing.MemoryLaws.{others_keep_tables}
use Rattle.mg_engine_step_laws.specs.standing.ShowsLaws.{tables_kept}
use Rattle.mg_engine_step_laws.specs.standing.Standing.{FindsTables, HasFirstPage, ShowsHistory, Standing}
use Rattle.mg_seek.specs.Histories.{told_versions}
use Rattle.mg_engine_step_laws.specs.standing.Versions.{HaveVersions, told_version}
use Rattle.mg_engine_step_laws.specs.standing.Writing.{WritesKey, WritesRecord}
use Rattle.mg_engine_step_laws.specs.standing.WritingLaws.{erased_may_be_silent}
use Rattle.mg_image_overlay_laws.specs.tables.OneTable.{table_at_stands}
use Rattle.mg_image_overlay_laws.specs.tables.TableOwners.{IsOneOf}
use Rattle.mg_engine_step_laws.specs.writes.Writes.{StaysBehind, WritesShow, WritesStand, WritesVersion, made, pushed, replaced}

-- ---- tables, where a layout has grown

first_on : (before after : List Stand) (name : List ℕ) (page : ℕ)
    → map (λ stand. stand.table) after ≡ map (λ stand. stand.table) before
    → HasFirstPage before name page → HasFirstPage after name page
first_on [] after name page same has = absurd has
first_on (b ∷ bs) [] name page same has = absurd cc
first_on (b ∷ bs) (a ∷ as_) name page same (inl (named, first)) =
    let head : a.table ≡ b.table = cc in
    inl (ap (λ (t : Table). t.name) head ∙ named, ap (λ (t : Table). t.pointer.0) head ∙ first)
first_on (b ∷ bs) (a ∷ as_) name page same (inr more) =
    let tail : map (λ stand. stand.table) as_ ≡ map (λ stand. stand.table) bs = cc in
    inr (first_on bs as_ name page tail more)

grown_tables : (before after : Layout) (r : Reading) → HasGrown before after r
    → map (λ stand. stand.table) (stands_of after) ≡ map (λ stand. stand.table) (stands_of before)
grown_tables before after r grown = λ i. grown.catalog i ∷ grown.names i

-- who finds its tables goes on to
pub finds_on : (o : Opening) (h : Entries) (s : Standing) (before after : Layout) (r : Reading) (t : ℕ)
    → HasGrown before after r → FindsTables o h s before t → FindsTables o h s after t
finds_on o h s before after r t grown finds = record {
  seen = λ name table is. subst (λ (ts : List Table). IsOneOf ts table) (sym grown.names)
      (finds.seen name table is);
  changed = λ name key has. first_on (stands_of before) (stands_of after) name (s.number t name)
      (grown_tables before after r grown) (finds.changed name key has);
}

-- a table that stands there has its first page
first_stands : (before after : List Stand) (stand : Stand)
    → HasFirstPage (before ++ (stand ∷ after)) stand.table.name stand.table.pointer.0
first_stands [] after stand = inl (refl, refl)
first_stands (s ∷ before) after stand = inr (first_stands before after stand)

first_of : (layout : Layout) (table : Table) → IsTableOf layout table
    → HasFirstPage (stands_of layout) table.name table.pointer.0
first_of layout table its = subst (λ (x : Table). HasFirstPage (stands_of layout) x.name x.pointer.0)
    its.table_is (subst (λ (ss : List Stand). HasFirstPage ss its.stand.table.name its.stand.table.pointer.0)
    (sym its.is_) (first_stands its.before its.after its.stand))

-- ---- what an effect at a key leaves

module _ (o : Opening) (h : Entries) (e : Event) (t : ℕ) (name : List ℕ) (key : Value)
    (row : Option Cells) (entry : WritesKey o h e t name key row) where
  pub states_stay : (u : ℕ) (old : TxState) → state_after (effect_of e) u old ≡ old
  states_stay u old = at entry
    where
      at : WritesKey o h e t name key row → state_after (effect_of e) u old ≡ old
      at (inl is) = ap (λ (f : Effect). state_after f u old) is
      at (inr (cells, some, is, its)) = ap (λ (f : Effect). state_after f u old) is

  pub next_stays : (old : ℕ) → next_after (effect_of e) old ≡ old
  next_stays old = at entry
    where
      at : WritesKey o h e t name key row → next_after (effect_of e) old ≡ old
      at (inl is) = ap (λ (f : Effect). next_after f old) is
      at (inr (cells, some, is, its)) = ap (λ (f : Effect). next_after f old) is

  pub others_entry : (u : ℕ) → u ≢ t → is_its u e ≡ false
  others_entry u ne = at entry
    where
      by : (f : Effect) → effect_of e ≡ f → doer f ≡ Some t → is_its u e ≡ false
      by f is its = ap (λ (g : Effect). is_of u (doer g)) is
          ∙ (ap (is_of u) its ∙ ne_eqb t u (λ same. ne (sym same)))

      at : WritesKey o h e t name key row → is_its u e ≡ false
      at (inl is) = by (Gives t name key row) is refl
      at (inr (cells, some, is, its)) = by (Makes t name cells) is refl

  -- its own changes have that one more
  pub own_more : own o (e ∷ h) t ≡ record { table = name; key = key; row = row } ∷ own o h t
  own_more = ap changes_in (deeds_after_entry o h e t) ∙ at entry
    where
      at : WritesKey o h e t name key row
          → changes_in (deeds_after (effect_of e) t (catalog_of (told o h) t) (deeds_by t (steps o h)))
          ≡ record { table = name; key = key; row = row } ∷ own o h t
      at (inl is) = ap (λ (f : Effect). changes_in
          (deeds_after f t (catalog_of (told o h) t) (deeds_by t (steps o h)))) is ∙ rw (eq-eqb t t refl) refl
      at (inr (cells, some, is, its)) = ap (λ (f : Effect). changes_in
          (deeds_after f t (catalog_of (told o h) t) (deeds_by t (steps o h)))) is
          ∙ (rw (eq-eqb t t refl) refl ∙ (λ i. record { table = name; key = its i; row = (sym some) i } ∷ own o h t))

  has_one : (other : List ℕ) (k : Value) → has_change (own o (e ∷ h) t) other k ≡ true
      → (other ≡ name) ⊎ ((other ≢ name) × (has_change (own o h t) other k ≡ true))
  has_one other k has = at (same_name name other) refl
      (subst (λ (cs : List Change). has_change cs other k ≡ true) own_more has)
    where
      at : (b : Bool) → same_name name other ≡ b
          → has_change (record { table = name; key = key; row = row } ∷ own o h t) other k ≡ true
          → (other ≡ name) ⊎ ((other ≢ name) × (has_change (own o h t) other k ≡ true))
      at true is has_ = inl (sym (same_text name other (sym is)))
      at false is has_ = inr (
        (λ same. false≢true (sym is ∙ (ap (same_name name) same ∙ same_name_itself name))),
        subst (λ (b : Bool). cond (b && same_key key k) true (has_change (own o h t) other k) ≡ true) is has_,
      )

-- ---- the versions of the record

-- a version that counts is the newest of those that do
living_head : (state : ℕ → TxState) (e : Entry) (es : List Entry) → is_dead (state (writer e)) ≡ false
    → living state (e ∷ es) ≡ e ∷ es
living_head state e es alive = rw alive refl

put_first : (t : ℕ) (row : Option Cells) (g : Generation) (gs : List Generation) (b : Bool)
    → (g.writer == t) ≡ b
    → put t row (g ∷ gs) ≡ generation t row ∷ cond b gs (g ∷ gs)
put_first t row g gs b is = rw is refl

module _ (form : Form) (size : ℕ) (o : Opening) (h : Entries) (e : Event) (s new : Standing)
    (pages later : Pages) (shows : ShowsHistory form size o h s pages) (t : ℕ) (name : List ℕ)
    (key : Value) (row : Option Cells) (p : RecId) (n : Entry) (older : List Entry) (table : Table)
    (states_same : (u : ℕ) → new.state u ≡ s.state u)
    (written : WritesVersion form size o h e s new pages later shows t name key row p n older table) where
  abbrev state : ℕ → TxState
  state = left_state everyone s.state

  abbrev f : Facts
  f = facts_by state pages shows.layout

  abbrev g : Facts
  g = facts_by (left_state everyone new.state) later written.reads.layout

  state_is : left_state everyone new.state ≡ state
  state_is = fun_ext (λ u. ap (left_by true) (states_same u))

  sound_new : IsSoundBy form size (left_state everyone new.state) later written.reads.layout
      written.reads.reading
  sound_new = subst (λ (x : ℕ → TxState). IsSoundBy form size x later written.reads.layout
      written.reads.reading) (sym state_is) written.reads.sound

  its_limbo : state (writer n) ≡ Limbo
  its_limbo = ap state written.its ∙ ap (left_by true) written.active

  told_new : told_versions g.state table (written.reads.reading p)
      ≡ generation t row ∷ map (told_version table) older
  told_new = ap (told_versions g.state table) written.reads.here
      ∙ (ap (λ (x : ℕ → TxState). told_versions x table (n ∷ older)) state_is
      ∙ (ap (map (told_version table)) (living_head state n older (ap is_dead its_limbo))
      ∙ (λ i. record { writer = written.its i; row = written.given i } ∷ map (told_version table) older)))

  of_new : table_in g p ≡ Some table
  of_new = written.reads.grown.stays p.page.0 table written.of_table

  -- the record was of the table, where it had versions
  was_its : (other : Table) → table_in f p ≡ Some other → other ≡ table
  was_its other of =
      let both : Some other ≡ Some table = sym of ∙ written.of_table in cc

  still_its : (q : RecId) → shows.reading q ≢ [] → table_in g q ≡ table_in f q
  still_its q some = at (table_in f q) refl
    where
      at : (x : Option Table) → table_in f q ≡ x → table_in g q ≡ table_in f q
      at None none = absurd (some (shows.sound.records.outside q none))
      at (Some other) is = written.reads.grown.stays q.page.0 other is ∙ sym is

  -- the record with its new version, by whoever spoke for the key
  record_by : (have : HaveVersions o h f shows.reading)
      → (have.speaker name key ≡ Some p) ⊎ ((have.speaker name key ≡ None) × (shows.reading p ≡ []))
      → ((chain : List Generation) → IsChainOf f shows.reading name key (have.speaker name key) chain
      → without_newest_by t chain ≡ map (told_version table) older)
      → WritesRecord f g shows.reading written.reads.reading have.speaker t name key row p
  record_by have spoke rest = record {
    state = λ u. ap (left_by true) (states_same u);
    table = table;
    of_table = of_new;
    named = written.named;
    some = λ none. let both : n ∷ older ≡ [] = sym written.reads.here ∙ none in absurd cc;
    keyed = ap (record_key table) written.reads.here ∙ written.keyed;
    spoke = spoke;
    versions = λ chain is. told_new ∙ ap (λ (gs : List Generation). generation t row ∷ gs)
        (sym (rest chain is));
    others = written.reads.others;
    tables = λ q ne some. still_its q some;
  }

  -- ---- the chain that the record had

  chain_told : (es : List Entry) → shows.versions.speaker name key ≡ Some p → shows.reading p ≡ es
      → (chain : List Generation)
      → IsChainOf f shows.reading name key (shows.versions.speaker name key) chain
      → chain ≡ told_versions state table es
  chain_told es spoken are chain is = by (subst (λ (x : Option RecId). IsChainOf f shows.reading name key x chain)
      spoken is)
    where
      by : IsChainOf f shows.reading name key (Some p) chain → chain ≡ told_versions state table es
      by (it, told_is) = told_is ∙ (ap (λ (x : Table). told_versions state x (shows.reading p))
          (was_its it.table it.of_table) ∙ ap (told_versions state table) are)

  active_not : (u : ℕ) → s.state u ≡ Committed → (u == t) ≡ false
  active_not u committed = ne_eqb u t (λ same.
      let both : Committed ≡ Active = sym committed ∙ (ap s.state same ∙ written.active) in absurd cc)

  rest_pushed : (d : Entry) (ds : List Entry) → s.state (writer d) ≡ Committed
      → (chain : List Generation) → chain ≡ told_versions state table (d ∷ ds)
      → without_newest_by t chain ≡ map (told_version table) (d ∷ ds)
  rest_pushed d ds committed chain is =
      let counts : living state (d ∷ ds) ≡ d ∷ ds =
      living_head state d ds (ap is_dead (ap (left_by true) committed)) in
      let told_is : chain ≡ map (told_version table) (d ∷ ds) = is ∙ ap (map (told_version table)) counts in
      ap (without_newest_by t) told_is ∙ rw (active_not (writer d) committed) refl

  rest_replaced : (d : Entry) (ds : List Entry) → writer d ≡ t → (chain : List Generation)
      → chain ≡ told_versions state table (d ∷ ds)
      → without_newest_by t chain ≡ map (told_version table) ds
  rest_replaced d ds its chain is =
      let counts : living state (d ∷ ds) ≡ d ∷ ds =
      living_head state d ds (ap is_dead (ap state its ∙ ap (left_by true) written.active)) in
      let told_is : chain ≡ map (told_version table) (d ∷ ds) = is ∙ ap (map (told_version table)) counts in
      ap (without_newest_by t) told_is ∙ rw (eq-eqb (writer d) t its) refl

  -- ---- the tables that are found

  its_finds : IsLegal o (e ∷ h) → FindsTables o h s shows.layout t
      → FindsTables o (e ∷ h) new written.reads.layout t
  its_finds legal finds = record {
    seen = λ other seen is. (finds_on o h s shows.layout written.reads.layout shows.reading t
        written.reads.grown finds).seen other seen (sym (written.seen other) ∙ is);
    changed = λ other k has. at other k (has_one o h e t name key row written.entry other k has);
  }
    where
      at : (other : List ℕ) (k : Value)
          → (other ≡ name) ⊎ ((other ≢ name) × (has_change (own o h t) other k ≡ true))
          → HasFirstPage (stands_of written.reads.layout) other (new.number t other)
      at other k (inl same) = subst (λ (x : List ℕ). HasFirstPage (stands_of written.reads.layout) x
          (new.number t x)) (sym same) (subst (λ (page : ℕ). HasFirstPage (stands_of written.reads.layout) name
          page) (sym written.number) (subst (λ (x : List ℕ). HasFirstPage (stands_of written.reads.layout) x
          table.pointer.0) written.named (first_of written.reads.layout table
          (table_at_stands written.reads.layout p.page.0 table of_new))))
      at other k (inr (ne, had)) = subst (λ (page : ℕ). HasFirstPage (stands_of written.reads.layout) other page)
          (sym (written.other_numbers other ne))
          ((finds_on o h s shows.layout written.reads.layout shows.reading t written.reads.grown
          finds).changed other k had)

  finds_after : IsLegal o (e ∷ h) → FollowsEntry o h e s new → (u : ℕ) → new.state u ≡ Active
      → FindsTables o (e ∷ h) new written.reads.layout u
  finds_after legal follows u active = at (cases_eq u t)
    where
      was : s.state u ≡ Active
      was = sym (states_same u) ∙ active

      at : (u ≡ t) ⊎ (u ≢ t) → FindsTables o (e ∷ h) new written.reads.layout u
      at (inl same) = subst (FindsTables o (e ∷ h) new written.reads.layout) (sym same)
          (its_finds legal (shows.tables t written.active))
      at (inr ne) = tables_kept o h e s new written.reads.layout u
          (others_keep_tables o h e s new follows u
          (others_entry o h e t name key row written.entry u ne) active)
          (finds_on o h s shows.layout written.reads.layout shows.reading u written.reads.grown
          (shows.tables u was))

  -- ---- the whole

  pages_written : (have : HaveVersions o h f shows.reading) → MayBegin o → IsLegal o (e ∷ h)
      → FollowsEntry o h e s new → new.next ≡ s.next
      → (have.speaker name key ≡ Some p) ⊎ ((have.speaker name key ≡ None) × (shows.reading p ≡ []))
      → ((chain : List Generation) → IsChainOf f shows.reading name key (have.speaker name key) chain
      → without_newest_by t chain ≡ map (told_version table) older)
      → ShowsHistory form size o (e ∷ h) new later
  pages_written have opening legal follows next spoke rest =
      writes_show form size o h e s new pages later (record shows { versions = have }) t name key row opening
      legal (record {
        layout = written.reads.layout;
        reading = written.reads.reading;
        sound = sound_new;
        writes = written.entry;
        place = p;
        record_ = record_by have spoke rest;
        next = written.next ∙ sym next;
        tables = λ u active. finds_after legal follows u active;
        bare = bare_grown shows.layout written.reads.layout shows.reading written.reads.grown shows.bare;
      })

  pub shows_written : MayBegin o → IsLegal o (e ∷ h) → FollowsEntry o h e s new → new.next ≡ s.next
      → ShowsHistory form size o (e ∷ h) new later
  shows_written opening legal follows next = by older written.behind
      (λ have spoke rest. pages_written have opening legal follows next spoke rest)
    where
      by : (es : List Entry) → StaysBehind form size o h s pages shows t name key p es
          → ((have : HaveVersions o h f shows.reading)
          → (have.speaker name key ≡ Some p) ⊎ ((have.speaker name key ≡ None) × (shows.reading p ≡ []))
          → ((chain : List Generation)
          → IsChainOf f shows.reading name key (have.speaker name key) chain
          → without_newest_by t chain ≡ map (told_version table) es)
          → ShowsHistory form size o (e ∷ h) new later) → ShowsHistory form size o (e ∷ h) new later
      by es (made silent empty) done =
          let quiet = erased_may_be_silent o h f shows.reading shows.versions name key silent in
          done quiet.now (inr (quiet.none, empty)) (λ chain is.
          let none : chain ≡ [] = subst (λ (x : Option RecId). IsChainOf f shows.reading name key x chain)
          quiet.none is in ap (without_newest_by t) none)
      by es (pushed d ds spoken are committed) done = done shows.versions (inl spoken)
          (λ chain is. rest_pushed d ds committed chain (chain_told (d ∷ ds) spoken are chain is))
      by es (replaced d ds spoken are its) done = done shows.versions (inl spoken)
          (λ chain is. rest_replaced d ds its chain (chain_told (d ∷ ds) spoken are chain is))

-- ---- the law

pub writes_show_on : (form : Form) → OpeningsBegin → WritesShow form
writes_show_on form begins size o h e s new pages later stands t name key row p n older table lawful follows
    written = shows_written form size o h e s new pages later stands.shows t name key row p n older table
    states_same written (begins o stands.opening) (lawful, stands.legal) follows
    (follows.next ∙ next_stays o h e t name key row written.entry s.next)
  where
    states_same : (u : ℕ) → new.state u ≡ s.state u
    states_same u = follows.state u ∙ states_stay o h e t name key row written.entry u (s.state u)

pub writes_stand : (form : Form) → OpeningsBegin → StandsOn form → WritesStand form
writes_stand form begins on size o h e s new pages later stands t name key row p n older table lawful follows
    written = on size o h e s new (Some pages) (Some later) stands lawful follows
    (writes_show_on form begins size o h e s new pages later stands t name key row p n older table lawful
    follows written)
