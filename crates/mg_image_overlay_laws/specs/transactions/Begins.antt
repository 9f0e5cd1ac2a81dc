-- A transaction without versions comes to count as in limbo: a sound image stays sound, and what it holds
-- stays.
use Rattle.std.proofs.Common.{◌≡◌, ◌≢◌, ◌⊎◌, inl, inr, refl, sym, ap, ◌∙◌, subst, arith, ◌<◌, ◌≤◌, ◌&&◌, ◌||◌, ℕ, Bool, List, [], ◌∷◌, ◌++◌, Option, None, Some}
use Rattle.std.specs.Prelude.{map}
use Rattle.std.proofs.lemmas.Bool.{cases_eq}
use Rattle.mg_base.specs.Checks.{Check, PassesAll, common_checks}
use Rattle.mg_base.specs.declared.numbers.RecId.{RecId}
use Rattle.mg_base.specs.declared.transaction.TxState.{TxState}
use Rattle.mg_base.specs.declared.transaction.TxState.TheVariants.{Limbo, Dead, Committed}
use Rattle.mg_header.specs.declared.header.TheConstants.{HEADER_KIND}
use Rattle.mg_header.specs.HeaderPage.{marker_checks}
use Rattle.mg_header.specs.HeaderPageLaws.{markers_from_passes}
use Rattle.mg_value.specs.declared.value.Value.{Value}
use Rattle.mg_model.specs.declared.table.Table.{Table}
use Rattle.mg_model.specs.Answers.{is_committed}
use Rattle.mg_model.specs.Legal.{is_limbo}
use Rattle.mg_image.specs.declared.entry.Entry.{Entry}
use Rattle.mg_image.specs.Catalog.{HasOwnTables, IsNamed, MayStandIn, committed_with}
use Rattle.mg_image.specs.FactLaws.{KeysOnce, each_has, records_under, same_names, shown_alike}
use Rattle.mg_image.specs.Form.{Form, Pages}
use Rattle.mg_image.specs.Held.{AreChanges, Changes, Database, HasLimbo, IsChangedAt, IsHeld}
use Rattle.mg_image.specs.HeldLaws.{same_held}
use Rattle.mg_image.specs.Inventory.{next_of, oldest_active_of}
use Rattle.mg_image.specs.RecordRules.{Each, Facts, IsVersion, TakesKey, committed_in, table_in}
use Rattle.mg_image.specs.Records.{Change, Reading, cells_of, record_key, shown, writer}
use Rattle.mg_image.specs.Sound.{HasHeader, IsSoundBy, facts_by}
use Rattle.mg_image.specs.Tables.{Layout}

-- one comes to count as in limbo
pub record Raises (state now : ℕ → TxState) (t : ℕ) : Type 0 where
  pub dead : state t ≡ Dead
  pub limbo : now t ≡ Limbo
  pub others : (u : ℕ) → u ≢ t → now u ≡ state u

module _ (state now : ℕ → TxState) (t : ℕ) (raises : Raises state now t) where
  pub committed_same : (u : ℕ) → is_committed (now u) ≡ is_committed (state u)
  committed_same u = at (cases_eq u t)
    where
      at : (u ≡ t) ⊎ (u ≢ t) → is_committed (now u) ≡ is_committed (state u)
      at (inl e) = ap is_committed (ap now e ∙ raises.limbo)
          ∙ sym (ap is_committed (ap state e ∙ raises.dead))
      at (inr ne) = ap is_committed (raises.others u ne)

  pub dead_before : (u : ℕ) → now u ≡ Dead → state u ≡ Dead
  dead_before u is = at (cases_eq u t)
    where
      at : (u ≡ t) ⊎ (u ≢ t) → state u ≡ Dead
      at (inl e) = ap state e ∙ raises.dead
      at (inr ne) = sym (raises.others u ne) ∙ is

  pub committed_still : (u : ℕ) → state u ≡ Committed → now u ≡ Committed
  committed_still u is = at (cases_eq u t)
    where
      at : (u ≡ t) ⊎ (u ≢ t) → now u ≡ Committed
      at (inl e) =
          let both : Dead ≡ Committed = sym raises.dead ∙ (ap state (sym e) ∙ is) in absurd cc
      at (inr ne) = raises.others u ne ∙ is

  pub limbo_before : (u : ℕ) → u ≢ t → now u ≡ Limbo → state u ≡ Limbo
  limbo_before u ne is = sym (raises.others u ne) ∙ is

-- ---- the header's numbers are in order

passes_back : (first rest : List Check) → PassesAll (first ++ rest) → PassesAll rest
passes_back [] rest passes = passes
passes_back (check ∷ checks) rest passes = passes_back checks rest passes.1

pub markers_are : (size : ℕ) (pages : Pages) → HasHeader size pages
    → (1 ≤ next_of pages) × (oldest_active_of pages ≤ next_of pages)
markers_are size pages header =
    let are = markers_from_passes (pages 0) (passes_back (common_checks (pages 0) 0 HEADER_KIND 0 0)
    (marker_checks (pages 0)) header.fields) in
    let least = are.least in let a = are.oit_ost in let b = are.ost_oat in let c = are.oat_next in
    (omega (arith, least, a, b, c), c)

-- ---- a transaction that has written nothing

module _ (form : Form) (size : ℕ) (state now : ℕ → TxState) (t : ℕ) (raises : Raises state now t)
    (pages : Pages) (layout : Layout) (r : Reading) (sound : IsSoundBy form size state pages layout r)
    -- its number was not drawn before
    (fresh : next_of pages ≤ t) where
  abbrev f : Facts
  f = facts_by state pages layout

  abbrev g : Facts
  g = facts_by now pages layout

  -- no version is its
  not_its : (p : RecId) → Each (λ e. writer e ≢ t) (r p)
  not_its p = at (table_in f p) refl
    where
      at : (table : Option Table) → table_in f p ≡ table → Each (λ e. writer e ≢ t) (r p)
      at None out = subst (Each (λ e. writer e ≢ t)) (sym (sound.records.outside p out)) tt
      at (Some table) of = each_has (IsVersion form.coding f table (record_key table (r p)))
          (λ e. writer e ≢ t) (λ e is same.
          let drawn = is.drawn in omega (arith, drawn, fresh, same)) (r p)
          (sound.records.each p table of).each

  -- so whoever counts, the same is shown
  same_shown : (old new : ℕ → Bool) → ((u : ℕ) → u ≢ t → new u ≡ old u) → (p : RecId)
      → shown new (r p) ≡ shown old (r p)
  same_shown old new others p = shown_alike old new (r p) (each_has (λ e. writer e ≢ t)
      (λ e. new (writer e) ≡ old (writer e)) (λ e ne. others (writer e) ne) (r p) (not_its p))

  counts_same : (chosen : ℕ → Bool) (u : ℕ) → u ≢ t
      → committed_with g chosen u ≡ committed_with f chosen u
  counts_same chosen u ne = ap (λ (s : TxState). is_committed s || (is_limbo s && chosen u))
      (raises.others u ne)

  shown_same : (p : RecId) → shown (committed_in g) (r p) ≡ shown (committed_in f) (r p)
  shown_same = same_shown (committed_in f) (committed_in g)
      (λ u ne. ap is_committed (raises.others u ne))

  -- the newest version of a record is not its
  head_not : (p : RecId) (e : Entry) (older : List Entry) → r p ≡ e ∷ older → writer e ≢ t
  head_not p e older first = (subst (Each (λ d. writer d ≢ t)) first (not_its p)).0

  pub limbo_same : (p : RecId) (table : Table) (e : Entry) → HasLimbo g r p table e
      → HasLimbo f r p table e
  limbo_same p table e has_ = record {
    of_table = has_.of_table;
    older = has_.older;
    newest = has_.newest;
    limbo = sym (raises.others (writer e) (head_not p e has_.older has_.newest)) ∙ has_.limbo;
  }

  limbo_still : (p : RecId) (table : Table) (e : Entry) → HasLimbo f r p table e
      → HasLimbo g r p table e
  limbo_still p table e has_ = record {
    of_table = has_.of_table;
    older = has_.older;
    newest = has_.newest;
    limbo = raises.others (writer e) (head_not p e has_.older has_.newest) ∙ has_.limbo;
  }

  keys : KeysOnce g r
  keys p q table of_p of_q takes_p takes_q = sound.records.keys p q table of_p of_q
      (takes (r p) (not_its p) takes_p) (takes (r q) (not_its q) takes_q)
    where
      takes : (es : List Entry) → Each (λ e. writer e ≢ t) es → TakesKey g es → TakesKey f es
      takes es each (inl (row, is)) = inl (
        row,
        sym (shown_alike (committed_in f) (committed_in g) es
            (each_has (λ e. writer e ≢ t) (λ e. committed_in g (writer e) ≡ committed_in f (writer e))
            (λ e ne. ap is_committed (raises.others (writer e) ne)) es each)) ∙ is,
      )
      takes [] each (inr none) = absurd none
      takes (e ∷ es) each (inr is) = inr (sym (raises.others (writer e) each.0) ∙ is)

  owns : HasOwnTables g r layout.catalog.table
  owns p table of = stands (r p) (not_its p) (sound.own_tables p table of)
    where
      named : (name : List ℕ) → IsNamed f r layout.catalog.table name
          → IsNamed g r layout.catalog.table name
      named name is = record {
        place = is.place;
        row = is.row;
        shows = record {
          of_table = is.shows.of_table;
          row_shown = shown_same is.place ∙ is.shows.row_shown;
        };
        keyed = is.keyed;
      }

      may : (e : Entry) → writer e ≢ t → MayStandIn f r layout.catalog.table table e
          → MayStandIn g r layout.catalog.table table e
      may e ne (inl is) = inl is
      may e ne (inr (inl is)) = inr (inl (named table.name is))
      may e ne (inr (inr (inl dead))) = inr (inr (inl (raises.others (writer e) ne ∙ dead)))
      may e ne (inr (inr (inr is))) = inr (inr (inr (record {
        place = is.place;
        version = is.version;
        limbo = limbo_still is.place layout.catalog.table is.version is.limbo;
        its_own = is.its_own;
        alive = is.alive;
        keyed = is.keyed;
      })))

      stands : (es : List Entry) → Each (λ e. writer e ≢ t) es
          → Each (MayStandIn f r layout.catalog.table table) es
          → Each (MayStandIn g r layout.catalog.table table) es
      stands [] others each = tt
      stands (e ∷ es) others each = (may e others.0 each.0, stands es others.1 each.1)

  pub begin_sound : IsSoundBy form size now pages layout r
  begin_sound = record {
    header = sound.header;
    transactions = sound.transactions;
    inventory = sound.inventory;
    catalog = sound.catalog;
    tables = sound.tables;
    sequences = sound.sequences;
    names = same_names size f g r r layout.catalog.table (map (λ stand. stand.table) layout.tables)
        (λ chosen. record {
          tables = λ p. refl;
          rows = λ p of. same_shown (committed_with f chosen) (committed_with g chosen)
              (counts_same chosen) p;
        }) sound.names;
    once = sound.once;
    records = records_under form.coding f g (cells_of pages) r (record {
      tables = λ n table is. is;
      next = omega arith;
      oldest = λ u dead above. above;
      dead = dead_before state now t raises;
      committed = committed_still state now t raises;
    }) (λ p table none of. let both : None ≡ Some table = sym none ∙ of in absurd cc) keys
        sound.records;
    limbo = λ u below is. none_old u below is (cases_eq u t);
    own_tables = owns;
    indexed = record {
      committed = λ p table row shows. sound.indexed.committed p table row (record {
        of_table = shows.of_table;
        row_shown = sym (shown_same p) ∙ shows.row_shown;
      });
      limbo = λ p table e has_ alive. sound.indexed.limbo p table e (limbo_same p table e has_) alive;
    };
  }
    where
      none_old : (u : ℕ) → u < oldest_active_of pages → now u ≡ Limbo → (u ≡ t) ⊎ (u ≢ t) → ⊥
      none_old u below is (inl e) =
          let ordered : oldest_active_of pages ≤ next_of pages = (markers_are size pages sound.header).1 in
          omega (arith, below, e, fresh, ordered)
      none_old u below is (inr ne) = sound.limbo u below (limbo_before state now t raises u ne is)

  pub begin_held : (db : Database) → IsHeld f (committed_in f) r db → IsHeld g (committed_in g) r db
  begin_held db held = same_held f g (committed_in f) (committed_in g) r r db (record {
    tables = λ p. refl;
    rows = shown_same;
  }) held

  pub begin_changes : (changes : Changes) → AreChanges f r changes → AreChanges g r changes
  begin_changes changes are = record {
    there = λ p table e has_. are.there p table e (limbo_same p table e has_);
    whole = λ u name key change is. at u name key change (are.whole u name key change is);
  }
    where
      at : (u : ℕ) (name : List ℕ) (key : Value) (change : Change) → IsChangedAt f r u name key change
          → IsChangedAt g r u name key change
      at u name key change it = record {
        place = it.place;
        table = it.table;
        version = it.version;
        limbo = limbo_still it.place it.table it.version it.limbo;
        its_own = it.its_own;
        named = it.named;
        keyed = it.keyed;
        told = it.told;
      }

  -- it has no changes
  pub begin_none : (changes : Changes) → AreChanges f r changes → (name : List ℕ) (key : Value)
      → changes t name key ≡ None
  begin_none changes are name key = at (changes t name key) refl
    where
      at : (c : Option Change) → changes t name key ≡ c → changes t name key ≡ None
      at None is = is
      at (Some c) is = absurd (its_not (are.whole t name key c is))
        where
          its_not : IsChangedAt f r t name key c → ⊥
          its_not it = head_not it.place it.version it.limbo.older it.limbo.newest it.its_own
