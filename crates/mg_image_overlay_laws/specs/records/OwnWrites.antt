-- A writer in limbo changes its own version of a record, on the pool's own image: it comes, it is
-- replaced, or it goes. What is held stays, and its change is that of the new version.
use Rattle.std.proofs.Common.{◌≡◌, ◌≢◌, ◌⊎◌, inl, inr, refl, sym, ap, ◌∙◌, subst, ℕ, true, false, List, [], ◌∷◌, Option, None, Some}
use Rattle.std.specs.Prelude.{if◌then◌else◌, map}
use Rattle.mg_base.specs.declared.numbers.RecId.{RecId}
use Rattle.mg_base.specs.declared.transaction.TxState.{TxState}
use Rattle.mg_base.specs.declared.transaction.TxState.TheVariants.{Active, Limbo, Dead, Committed}
use Rattle.mg_value.specs.declared.value.Value.{Value}
use Rattle.mg_model.specs.declared.opening.Opening.{Opening}
use Rattle.mg_model.specs.declared.table.Table.{Table}
use Rattle.mg_model.specs.Changes.{row_at}
use Rattle.mg_model.specs.History.{Entries, Entry as Event}
use Rattle.mg_model.specs.Legal.{is_limbo}
use Rattle.mg_model.specs.Machine.{database, own}
use Rattle.mg_image.specs.declared.entry.Entry.{Entry}
use Rattle.mg_image.specs.Catalog.{HasNames, HasOwnTables, MayStandIn, committed_with}
use Rattle.mg_image.specs.FactLaws.{same_names}
use Rattle.mg_image.specs.Form.{Form, Pages, Row}
use Rattle.mg_image.specs.Held.{AreChanges, Changes, Database, HasLimbo, IsChangedAt, IsHeld, Shows, told_change}
use Rattle.mg_image.specs.HeldLaws.{same_held}
use Rattle.mg_image.specs.Histories.{newest_at}
use Rattle.mg_image.specs.Indexes.{IsFoundIn}
use Rattle.mg_image.specs.RecordRules.{AreRecords, Each, Facts, IsInLimbo, TakesKey, committed_in, table_in}
use Rattle.mg_image.specs.Records.{Change, Reading, cells_of, change_in, key_of, record_key, shown, writer}
use Rattle.mg_image.specs.Sound.{IsIndexed, facts_by}
use Rattle.mg_image.specs.StepLaws.{cases_place, put_cases, put_reading, same_place}
use Rattle.mg_image_overlay_laws.specs.pages.DataPages.{ChangesData}
use Rattle.mg_image_overlay_laws.specs.pages.DataSound.{data_sound_with, facts_same}
use Rattle.mg_image_overlay_laws.specs.kept.Rest.{LeavesRest}
use Rattle.mg_image_overlay_laws.specs.tables.TableOwners.{CatalogStays, names_stay, one_of_name, own_tables_stay}
use Rattle.mg_image_overlay_laws.specs.kept.KeptImages.{IsKept}
use Rattle.mg_image_overlay_laws.specs.kept.StartLaws.{kept_by_itself}

-- the change that the newest of these versions makes, where it is of a transaction in limbo
abbrev pub limbo_change : Facts → Table → List Entry → Option Change
limbo_change f table [] = None
limbo_change f table (e ∷ es) =
    if is_limbo (f.state (writer e)) then Some (told_change table (change_in e)) else None

-- Versions have one key, and where the newest is of a transaction in limbo it is of this one.
pub record AreOwn (f : Facts) (table : Table) (t : ℕ) (key : Value) (es : List Entry) : Type 0 where
  pub keyed : Each (λ e. key_of table e.row ≡ key) es
  pub its : (e : Entry) (older : List Entry) → es ≡ e ∷ older → f.state (writer e) ≡ Limbo
      → writer e ≡ t

-- A record comes to have these versions by a writer in limbo: the same committed row is shown, and
-- nobody else takes the key.
pub record WritesOwn (f : Facts) (r : Reading) (p : RecId) (table : Table) (t : ℕ) (key : Value)
    (es : List Entry) : Type 0 where
  pub of : table_in f p ≡ Some table
  pub was : AreOwn f table t key (r p)
  pub is_ : AreOwn f table t key es
  pub shows : shown (committed_in f) es ≡ shown (committed_in f) (r p)
  pub free : (q : RecId) → q ≢ p → table_in f q ≡ Some table → TakesKey f (r q)
      → record_key table (r q) ≡ key → ⊥

-- this transaction, this table and this key
abbrev pub IsThere : ℕ → Table → Value → ℕ → List ℕ → Value → Type 0
IsThere t table key u name k = (u ≡ t) × ((name ≡ table.name) × (k ≡ key))

-- The changes after it: there that of the new version, and elsewhere as before.
pub record ChangesOwn (f : Facts) (table : Table) (t : ℕ) (key : Value) (es : List Entry)
    (changes after : Changes) : Type 0 where
  pub here : after t table.name key ≡ limbo_change f table es
  pub others : (u : ℕ) (name : List ℕ) (k : Value) → IsThere t table key u name k
      ⊎ ((IsThere t table key u name k → ⊥) × (after u name k ≡ changes u name k))

-- ---- what is held, and the changes

module _ (f : Facts) (r : Reading) (p : RecId) (table : Table) (t : ℕ) (key : Value)
    (es : List Entry) (writes : WritesOwn f r p table t key es) where
  abbrev pub now : Reading
  now = put_reading r p es

  here_is : now p ≡ es
  here_is = by (cases_place p p)
    where
      by : ((p ≡ p) × (same_place p p ≡ true)) ⊎ ((p ≢ p) × (same_place p p ≡ false)) → now p ≡ es
      by (inl (_, yes_)) = rw yes_ refl
      by (inr (ne, _)) = absurd (ne refl)

  stays : (q : RecId) → q ≢ p → now q ≡ r q
  stays = put_cases r p es (λ q fs. q ≢ p → fs ≡ r q) (λ none. absurd (none refl)) (λ q ne also. refl)

  pub own_shows : (q : RecId) → shown (committed_in f) (now q) ≡ shown (committed_in f) (r q)
  own_shows = put_cases r p es (λ q fs. shown (committed_in f) fs ≡ shown (committed_in f) (r q))
      writes.shows (λ q ne. refl)

  pub own_held : (db : Database) → IsHeld f (committed_in f) r db → IsHeld f (committed_in f) now db
  own_held db held = same_held f f (committed_in f) (committed_in f) r now db (record {
    tables = λ q. refl;
    rows = own_shows;
  }) held

  one_table_at : (q : RecId) (other : Table) → q ≡ p → table_in f q ≡ Some other → table ≡ other
  one_table_at q other same of =
      let both : Some table ≡ Some other = sym writes.of ∙ (ap (table_in f) (sym same) ∙ of) in cc

  -- a limbo version is the new one, or it was there
  pub limbo_at : (q : RecId) (other : Table) (d : Entry) → (has : HasLimbo f now q other d)
      → ((q ≡ p) × (es ≡ d ∷ has.older)) ⊎ ((q ≢ p) × HasLimbo f r q other d)
  limbo_at q other d has = by (cases_place q p)
    where
      by : ((q ≡ p) × (same_place q p ≡ true)) ⊎ ((q ≢ p) × (same_place q p ≡ false))
          → ((q ≡ p) × (es ≡ d ∷ has.older)) ⊎ ((q ≢ p) × HasLimbo f r q other d)
      by (inl (same, _)) = inl (same, sym here_is ∙ (ap now (sym same) ∙ has.newest))
      by (inr (ne, _)) = inr (
        ne,
        record {
          of_table = has.of_table;
          older = has.older;
          newest = sym (stays q ne) ∙ has.newest;
          limbo = has.limbo;
        },
      )

  module _ (changes after : Changes) (made : AreChanges f r changes)
      (turns : ChangesOwn f table t key es changes after)
      (names : (q : RecId) (other : Table) → table_in f q ≡ Some other → other.name ≡ table.name
      → other ≡ table) where
    there : (q : RecId) (other : Table) (d : Entry) → HasLimbo f now q other d
        → after (writer d) other.name (key_of other d.row) ≡ Some (told_change other (change_in d))
    there q other d has = by (limbo_at q other d has)
      where
        by : ((q ≡ p) × (es ≡ d ∷ has.older)) ⊎ ((q ≢ p) × HasLimbo f r q other d)
            → after (writer d) other.name (key_of other d.row) ≡ Some (told_change other (change_in d))
        by (inl (same, first)) =
            let own_writer : writer d ≡ t = writes.is_.its d has.older first has.limbo in
            let keyed : key_of table d.row ≡ key =
            (subst (Each (λ e. key_of table e.row ≡ key)) first writes.is_.keyed).0 in
            let change : limbo_change f table es ≡ Some (told_change table (change_in d)) =
            ap (limbo_change f table) first ∙ rw has.limbo refl in
            subst (λ (x : Table). after (writer d) x.name (key_of x d.row)
            ≡ Some (told_change x (change_in d))) (one_table_at q other same has.of_table)
            (ap (λ (u : ℕ). after u table.name (key_of table d.row)) own_writer
            ∙ (ap (after t table.name) keyed ∙ (turns.here ∙ change)))
        by (inr (ne, was)) = at (turns.others (writer d) other.name (key_of other d.row))
          where
            at : IsThere t table key (writer d) other.name (key_of other d.row)
                ⊎ ((IsThere t table key (writer d) other.name (key_of other d.row) → ⊥)
                × (after (writer d) other.name (key_of other d.row)
                ≡ changes (writer d) other.name (key_of other d.row)))
                → after (writer d) other.name (key_of other d.row)
                ≡ Some (told_change other (change_in d))
            at (inl same) =
                let is : other ≡ table = names q other was.of_table same.1.0 in
                absurd (writes.free q ne (was.of_table ∙ ap Some is)
                (inr (subst (IsInLimbo f) (sym was.newest) was.limbo))
                (ap (record_key table) was.newest ∙ (ap (λ (x : Table). key_of x d.row) (sym is)
                ∙ same.1.1)))
            at (inr same) = same.1 ∙ made.there q other d was

    whole : (u : ℕ) (name : List ℕ) (k : Value) (c : Change) → after u name k ≡ Some c
        → IsChangedAt f now u name k c
    whole u name k c is = by (turns.others u name k)
      where
        by : IsThere t table key u name k
            ⊎ ((IsThere t table key u name k → ⊥) × (after u name k ≡ changes u name k))
            → IsChangedAt f now u name k c
        by (inl same) = by_list es refl gives
          where
            gives : limbo_change f table es ≡ Some c
            gives = sym turns.here ∙ (ap (λ (w : ℕ). after w table.name key) (sym same.0)
                ∙ (ap (λ (m : List ℕ). after u m key) (sym same.1.0) ∙ (ap (after u name) (sym same.1.1)
                ∙ is)))

            by_list : (fs : List Entry) → es ≡ fs → limbo_change f table fs ≡ Some c
                → IsChangedAt f now u name k c
            by_list [] empty some_ = absurd cc
            by_list (e ∷ older) first some_ = by_state (f.state (writer e)) refl some_
              where
                by_state : (s : TxState) → f.state (writer e) ≡ s
                    → (if is_limbo (f.state (writer e)) then Some (told_change table (change_in e)) else None)
                    ≡ Some c → IsChangedAt f now u name k c
                by_state Limbo state some_ =
                    let both : Some (told_change table (change_in e)) ≡ Some c = sym (rw state refl) ∙ some_ in
                    let told : told_change table (change_in e) ≡ c = cc in
                    record {
                      place = p;
                      table = table;
                      version = e;
                      limbo = record {
                        of_table = writes.of;
                        older = older;
                        newest = here_is ∙ first;
                        limbo = state;
                      };
                      its_own = writes.is_.its e older first state ∙ sym same.0;
                      named = sym same.1.0;
                      keyed = (subst (Each (λ d. key_of table d.row ≡ key)) first writes.is_.keyed).0
                          ∙ sym same.1.1;
                      told = told;
                    }
                by_state Active state some_ =
                    let both : None ≡ Some c = sym (rw state refl) ∙ some_ in absurd cc
                by_state Dead state some_ =
                    let both : None ≡ Some c = sym (rw state refl) ∙ some_ in absurd cc
                by_state Committed state some_ =
                    let both : None ≡ Some c = sym (rw state refl) ∙ some_ in absurd cc
        by (inr (not_there, same)) = at (made.whole u name k c (sym same ∙ is))
          where
            at : IsChangedAt f r u name k c → IsChangedAt f now u name k c
            at it = record {
              place = it.place;
              table = it.table;
              version = it.version;
              limbo = record {
                of_table = it.limbo.of_table;
                older = it.limbo.older;
                newest = stays it.place elsewhere ∙ it.limbo.newest;
                limbo = it.limbo.limbo;
              };
              its_own = it.its_own;
              named = it.named;
              keyed = it.keyed;
              told = it.told;
            }
              where
                elsewhere : it.place ≢ p
                elsewhere on =
                    let first : r p ≡ it.version ∷ it.limbo.older = ap r (sym on) ∙ it.limbo.newest in
                    let its : writer it.version ≡ t =
                    writes.was.its it.version it.limbo.older first it.limbo.limbo in
                    let is_table : table ≡ it.table = one_table_at it.place it.table on it.limbo.of_table in
                    let keyed : key_of table it.version.row ≡ key =
                    (subst (Each (λ d. key_of table d.row ≡ key)) first writes.was.keyed).0 in
                    not_there (
                      sym it.its_own ∙ its,
                      (
                        sym it.named ∙ ap (λ (x : Table). x.name) (sym is_table),
                        sym it.keyed ∙ (ap (λ (x : Table). key_of x it.version.row) (sym is_table) ∙ keyed),
                      ),
                    )

    pub own_changes_are : AreChanges f now after
    own_changes_are = record { there = there; whole = whole }

-- ---- the pool's own image

module _ (form : Form) (size : ℕ) (o : Opening) (h : Entries) (event : Event) (state : ℕ → TxState)
    (pool changed : Pages) (b : ℕ) (p : RecId) (table : Table) (t : ℕ) (key : Value) (es : List Entry)
    (kept : IsKept form size o h state pool pool) (after : Changes) where
  abbrev g : Facts
  g = facts_by state pool kept.layout

  abbrev then_ : Reading
  then_ = put_reading kept.reading p es

  -- What is known: the page, the records, the history, and the statement.
  pub record WritesKept : Type 0 where
    pub page : ChangesData form.in_primary pool changed b
    pub rest : LeavesRest form size pool changed kept.layout
    pub records : AreRecords form.coding g (cells_of changed) then_
    pub writes : WritesOwn g kept.reading p table t key es
    pub turns : ChangesOwn g table t key es kept.changes after
    pub rows : (name : List ℕ) (k : Value) → row_at (database o (event ∷ h)) name k
        ≡ row_at (database o h) name k
    pub after_are : (u : ℕ) (name : List ℕ) (k : Value) → state u ≡ Limbo
        → after u name k ≡ newest_at (own o (event ∷ h) u) name k
    pub no_catalog : table ≢ kept.layout.catalog.table
    pub stands : Each (MayStandIn g kept.reading kept.layout.catalog.table table) es
    pub found : (e : Entry) (older : List Entry) → es ≡ e ∷ older → state (writer e) ≡ Limbo
        → e.version.deleted ≡ false → IsFoundIn changed table.indexes p e.row

  module _ (w : WritesKept) where
    other_slot : (q : RecId) → table_in g q ≡ Some kept.layout.catalog.table → q ≢ p
    other_slot q of same = w.no_catalog (one_table_at g kept.reading p table t key es w.writes q
        kept.layout.catalog.table same of)

    stays_there : (q : RecId) → q ≢ p → then_ q ≡ kept.reading q
    stays_there = stays g kept.reading p table t key es w.writes

    pub facts_are : facts_by state changed kept.layout ≡ g
    facts_are = facts_same form size state pool changed b kept.layout kept.reading then_ kept.sound w.page
        w.rest.trees

    pub names_now : HasNames size g then_ kept.layout.catalog.table
        (map (λ stand. stand.table) kept.layout.tables)
    names_now = same_names size g g kept.reading then_ kept.layout.catalog.table
        (map (λ stand. stand.table) kept.layout.tables) (λ chosen. record {
          tables = λ q. refl;
          rows = λ q of. ap (shown (committed_with g chosen)) (stays_there q (other_slot q of));
        }) kept.sound.names

    catalog_stays : CatalogStays g g kept.reading then_ kept.layout.catalog.table
    catalog_stays = record {
      shows = λ q row shows. record {
        of_table = shows.of_table;
        row_shown = ap (shown (committed_in g)) (stays_there q (other_slot q shows.of_table))
            ∙ shows.row_shown;
      };
      limbo = λ q d has. record {
        of_table = has.of_table;
        older = has.older;
        newest = stays_there q (other_slot q has.of_table) ∙ has.newest;
        limbo = has.limbo;
      };
      dead = λ u is. is;
    }

    pub owns_now : HasOwnTables g then_ kept.layout.catalog.table
    owns_now = own_tables_stay g g kept.reading then_ kept.layout.catalog.table
        (names_stay g g kept.reading then_ kept.layout.catalog.table catalog_stays)
        (put_cases kept.reading p es (λ q fs. (other : Table) → table_in g q ≡ Some other
        → Each (MayStandIn g kept.reading kept.layout.catalog.table other) fs)
        (λ other of. subst (λ (x : Table). Each (MayStandIn g kept.reading kept.layout.catalog.table x) es)
        (one_table_at g kept.reading p table t key es w.writes p other refl of) w.stands)
        (λ q ne other of. kept.sound.own_tables q other of))

    pub indexed_now : IsIndexed g changed then_
    indexed_now = record { committed = committed; limbo = limbo }
      where
        committed : (q : RecId) (other : Table) (row : Row) → Shows g (committed_in g) then_ q other row
            → IsFoundIn changed other.indexes q row
        committed q other row shows = w.rest.trees.found other q row shows.of_table
            (kept.sound.indexed.committed q other row (record {
              of_table = shows.of_table;
              row_shown = sym (own_shows g kept.reading p table t key es w.writes q) ∙ shows.row_shown;
            }))

        limbo : (q : RecId) (other : Table) (d : Entry) → HasLimbo g then_ q other d
            → d.version.deleted ≡ false → IsFoundIn changed other.indexes q d.row
        limbo q other d has alive = by (limbo_at g kept.reading p table t key es w.writes q other d has)
          where
            by : ((q ≡ p) × (es ≡ d ∷ has.older)) ⊎ ((q ≢ p) × HasLimbo g kept.reading q other d)
                → IsFoundIn changed other.indexes q d.row
            by (inr (ne, was)) = w.rest.trees.found other q d.row was.of_table
                (kept.sound.indexed.limbo q other d was alive)
            by (inl (same, first)) = subst (λ (k : RecId). IsFoundIn changed other.indexes k d.row)
                (sym same) (subst (λ (x : Table). IsFoundIn changed x.indexes p d.row)
                (one_table_at g kept.reading p table t key es w.writes q other same has.of_table)
                (w.found d has.older first has.limbo alive))

    unfoldable pub own_kept : IsKept form size o (event ∷ h) state changed changed
    own_kept = kept_by_itself form size o (event ∷ h) state changed kept.layout then_ kept.rows after
        (data_sound_with form size state pool changed b kept.layout kept.reading then_ kept.sound w.page
        w.rest.trees w.records names_now owns_now indexed_now w.rest.sequences)
        (subst (λ (e : Facts). IsHeld e (committed_in e) then_ kept.rows) (sym facts_are)
        (own_held g kept.reading p table t key es w.writes kept.rows kept.held))
        (λ name k. kept.rows_are name k ∙ sym (w.rows name k))
        (subst (λ (e : Facts). AreChanges e then_ after) (sym facts_are)
        (own_changes_are g kept.reading p table t key es w.writes kept.changes after kept.changed w.turns
        (λ q other of name. one_of_name form size state pool kept.layout kept.reading kept.sound q p other
        table of w.writes.of name)))
        w.after_are

    -- and this is read then
    pub own_reading : own_kept.reading ≡ then_
    unfolding own_kept kept_by_itself
    own_reading = refl

    pub own_in_pool : own_kept.in_pool ≡ then_
    unfolding own_kept kept_by_itself
    own_in_pool = refl

-- What a statement knows of a version that its transaction writes, as the pool has all versions: nobody
-- else takes the key, the writer's changes are those of the longer history, its table may have the
-- version, and the row's entries were laid.
pub record WritesRow (form : Form) (size : ℕ) (o : Opening) (h : Entries) (event : Event)
    (state : ℕ → TxState) (pages changed : Pages) (p : RecId) (table : Table) (n : Entry)
    (kept : IsKept form size o h state pages pages) : Type 0 where
  pub free : (q : RecId) → q ≢ p → table_in (facts_by state pages kept.layout) q ≡ Some table
      → TakesKey (facts_by state pages kept.layout) (kept.reading q)
      → record_key table (kept.reading q) ≡ key_of table n.row → ⊥
  pub after : Changes
  pub turns : ChangesOwn (facts_by state pages kept.layout) table (writer n) (key_of table n.row)
      (n ∷ []) kept.changes after
  pub after_are : (u : ℕ) (name : List ℕ) (k : Value) → state u ≡ Limbo
      → after u name k ≡ newest_at (own o (event ∷ h) u) name k
  pub no_catalog : table ≢ kept.layout.catalog.table
  pub may : MayStandIn (facts_by state pages kept.layout) kept.reading kept.layout.catalog.table table n
  pub found : n.version.deleted ≡ false → IsFoundIn changed table.indexes p n.row
