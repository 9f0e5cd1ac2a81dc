-- What is left of what is shown, of what is in limbo, and of what is found, once versions are skipped.
use Rattle.mg_base.specs.declared.numbers.RecId.{RecId}
use Rattle.mg_base.specs.declared.transaction.TxState.TheVariants.{Committed, Dead, Limbo}
use Rattle.mg_image.specs.Catalog.{HasMade, HasOwnTables, IsNamed, MayStandIn, committed_with}
use Rattle.mg_model.specs.Catalog.{catalog_name}
use Rattle.mg_image.specs.Form.{Pages, Row}
use Rattle.mg_image.specs.Held.{AreChanges, Changes, Database, HasLimbo, IsChangedAt, IsHeld}
use Rattle.mg_image.specs.HeldLaws.{same_held}
use Rattle.mg_image.specs.Indexes.{IsFoundIn}
use Rattle.mg_image.specs.RecordRules.{AreOnce, Each, Facts, committed_in, table_in}
use Rattle.mg_image.specs.Records.{Change, Reading, Stands, shown, writer}
use Rattle.mg_image.specs.Sound.{IsIndexed}
use Rattle.mg_image.specs.StepLaws.{cases_place, put_cases, put_reading, same_place}
use Rattle.mg_image.specs.declared.entry.Entry.{Entry}
use Rattle.mg_image_overlay_laws.specs.records.Fronts.{IsLike}
use Rattle.mg_image_overlay_laws.specs.records.Skips.{IsCommittedAt, from, skip_at, skip_front, skip_settled, stands_of_committed, with_back}
use Rattle.mg_image_overlay_laws.specs.records.Thins.{front_shown, front_thin, thin_each}
use Rattle.mg_image_overlay_laws.specs.tables.TableOwners.{names_stay, own_tables_stay}
use Rattle.mg_model.specs.declared.table.Table.{Table}
use Rattle.mg_value.specs.declared.value.Value.{Value}
use Rattle.std.proofs.Common.{Bool, List, Option, Some, [], ap, false, inl, inr, refl, subst, sym, true, ℕ, ◌∙◌, ◌∷◌, ◌≡◌, ◌≢◌, ◌⊎◌}
use Rattle.std.specs.Prelude.{if◌then◌else◌}
use Rattle.mg_model.specs.Answers.{is_committed}
use Rattle.mg_version.specs.declared.cell.Link.{Link}
use Rattle.mg_version.specs.declared.cell.Version.{Version}

-- ---- what is left of what is in limbo

-- a limbo version stays the newest, and none else comes to be it
skip_head : (f : Facts) (x : RecId) (back : Option Link) (e : Entry) (es : List Entry) → AreOnce (e ∷ es)
    → IsCommittedAt f x (e ∷ es) → f.state (writer e) ≡ Limbo
    → skip_at x back (e ∷ es) ≡ e ∷ skip_at x back es
skip_head f x back e es once is limbo = by (cases_place e.at x) is
  where
    by : ((e.at ≡ x) × (same_place e.at x ≡ true)) ⊎ ((e.at ≢ x) × (same_place e.at x ≡ false))
        → ((e.at ≡ x) × (f.state (writer e) ≡ Committed)) ⊎ IsCommittedAt f x es
        → skip_at x back (e ∷ es) ≡ e ∷ skip_at x back es
    by (inr (ne, no_)) is = rw no_ refl
    by (inl (at, yes_)) (inl (_, committed)) =
        let both : Limbo ≡ Committed = sym limbo ∙ committed in absurd cc
    by (inl (at, yes_)) (inr more) =
        absurd (once.0 (subst (Stands es) (sym at) (stands_of_committed f x es more)))

-- the writer of the newest one stays
skip_writer : (x : RecId) (back : Option Link) (e : Entry) (es : List Entry) (d : Entry) (ds : List Entry)
    → skip_at x back (e ∷ es) ≡ d ∷ ds → writer d ≡ writer e
skip_writer x back e es d ds is = by (same_place e.at x) is
  where
    by : (c : Bool) → (if c then with_back back e ∷ from back es else e ∷ skip_at x back es) ≡ d ∷ ds
        → writer d ≡ writer e
    by true same = let head : with_back back e ≡ d = cc in ap writer (sym head)
    by false same = let head : e ≡ d = cc in ap writer (sym head)

module _ (f : Facts) (s : Reading) (p x : RecId) (back : Option Link) (once : AreOnce (s p))
    (is : IsCommittedAt f x (s p)) where
  abbrev pub skipped : Reading
  skipped = put_reading s p (skip_at x back (s p))

  shown_still : (counts : ℕ → Bool) → ((u : ℕ) → f.state u ≡ Committed → counts u ≡ true)
      → shown counts (skip_at x back (s p)) ≡ shown counts (s p)
  shown_still counts counted = front_shown f.state counts counted (skip_at x back (s p)) (s p)
      (skip_front f x back (s p) is once) (skip_settled f x back (s p) is once)

  counted : (chosen : ℕ → Bool) (u : ℕ) → f.state u ≡ Committed → committed_with f chosen u ≡ true
  counted chosen u at = rw at refl

  pub skip_shows_with : (chosen : ℕ → Bool) (q : RecId)
      → shown (committed_with f chosen) (skipped q) ≡ shown (committed_with f chosen) (s q)
  skip_shows_with chosen = put_cases s p (skip_at x back (s p))
      (λ q es. shown (committed_with f chosen) es ≡ shown (committed_with f chosen) (s q))
      (shown_still (committed_with f chosen) (counted chosen)) (λ q ne. refl)

  pub skip_shows_now : (q : RecId) → shown (committed_in f) (skipped q) ≡ shown (committed_in f) (s q)
  skip_shows_now = put_cases s p (skip_at x back (s p))
      (λ q es. shown (committed_in f) es ≡ shown (committed_in f) (s q))
      (shown_still (committed_in f) (λ u at. ap is_committed at)) (λ q ne. refl)

  -- limbo versions are the same
  pub limbo_before : (q : RecId) (table : Table) (e : Entry) → HasLimbo f skipped q table e
      → HasLimbo f s q table e
  limbo_before q table e has = by (cases_place q p) has.newest
    where
      by : ((q ≡ p) × (same_place q p ≡ true)) ⊎ ((q ≢ p) × (same_place q p ≡ false))
          → skipped q ≡ e ∷ has.older → HasLimbo f s q table e
      by (inr (ne, no_)) first = record {
        of_table = has.of_table;
        older = has.older;
        newest = sym (rw no_ refl) ∙ first;
        limbo = has.limbo;
      }
      by (inl (same, yes_)) first = at (s p) refl
        where
          here : skip_at x back (s p) ≡ e ∷ has.older
          here = sym (rw yes_ refl) ∙ first

          at : (es : List Entry) → s p ≡ es → HasLimbo f s q table e
          at [] none = absurd (subst (IsCommittedAt f x) none is)
          at (d ∷ ds) first_ =
              let skip_is : skip_at x back (d ∷ ds) ≡ e ∷ has.older = ap (skip_at x back) (sym first_) ∙ here in
              let limbo : f.state (writer d) ≡ Limbo =
              ap f.state (sym (skip_writer x back d ds e has.older skip_is)) ∙ has.limbo in
              let heads : d ∷ skip_at x back ds ≡ e ∷ has.older =
              sym (skip_head f x back d ds (subst AreOnce first_ once) (subst (IsCommittedAt f x) first_ is)
              limbo) ∙ skip_is in
              let head : d ≡ e = cc in
              record {
                of_table = has.of_table;
                older = ds;
                newest = ap s same ∙ (first_ ∙ ap (λ (c : Entry). c ∷ ds) head);
                limbo = has.limbo;
              }

  pub limbo_after : (q : RecId) (table : Table) (e : Entry) → HasLimbo f s q table e
      → HasLimbo f skipped q table e
  limbo_after q table e has = by (cases_place q p)
    where
      by : ((q ≡ p) × (same_place q p ≡ true)) ⊎ ((q ≢ p) × (same_place q p ≡ false))
          → HasLimbo f skipped q table e
      by (inr (ne, no_)) = record {
        of_table = has.of_table;
        older = has.older;
        newest = rw no_ has.newest;
        limbo = has.limbo;
      }
      by (inl (same, yes_)) =
          let first_ : s p ≡ e ∷ has.older = ap s (sym same) ∙ has.newest in
          record {
            of_table = has.of_table;
            older = skip_at x back has.older;
            newest = rw yes_ (ap (skip_at x back) first_ ∙ skip_head f x back e has.older
                (subst AreOnce first_ once) (subst (IsCommittedAt f x) first_ is) has.limbo);
            limbo = has.limbo;
          }

  pub skip_indexed : (new old : Pages)
      → ((table : Table) (q : RecId) (row : Row) → table_in f q ≡ Some table
      → IsFoundIn old table.indexes q row → IsFoundIn new table.indexes q row)
      → IsIndexed f old s → IsIndexed f new skipped
  skip_indexed new old found indexed = record {
    committed = λ q table row shows. found table q row shows.of_table (indexed.committed q table row (record {
      of_table = shows.of_table;
      row_shown = sym (skip_shows_now q) ∙ shows.row_shown;
    }));
    limbo = λ q table e has alive. found table q e.row has.of_table
        (indexed.limbo q table e (limbo_before q table e has) alive);
  }

  pub skip_held : (db : Database) → IsHeld f (committed_in f) s db → IsHeld f (committed_in f) skipped db
  skip_held db held = same_held f f (committed_in f) (committed_in f) s skipped db (record {
    tables = λ q. refl;
    rows = skip_shows_now;
  }) held

  pub skip_changes : (changes : Changes) → AreChanges f s changes → AreChanges f skipped changes
  skip_changes changes are = record {
    there = λ q table e has. are.there q table e (limbo_before q table e has);
    whole = λ t name key change is_. moved t name key change (are.whole t name key change is_);
  }
    where
      moved : (t : ℕ) (name : List ℕ) (key : Value) (change : Change) → IsChangedAt f s t name key change
          → IsChangedAt f skipped t name key change
      moved t name key change it = record {
        place = it.place;
        table = it.table;
        version = it.version;
        limbo = limbo_after it.place it.table it.version it.limbo;
        its_own = it.its_own;
        named = it.named;
        keyed = it.keyed;
        told = it.told;
      }

  pub skip_owns : (catalog : Table) → HasOwnTables f s catalog → HasOwnTables f skipped catalog
  skip_owns catalog owns = own_tables_stay f f s skipped catalog (names_stay f f s skipped catalog (record {
    shows = λ q row shows. record {
      of_table = shows.of_table;
      row_shown = skip_shows_now q ∙ shows.row_shown;
    };
    limbo = λ q e has. limbo_after q catalog e has;
    dead = λ t is_. is_;
  })) each
    where
      as_like : (table : Table) (d e : Entry) → IsLike d e → MayStandIn f s catalog table e
          → MayStandIn f s catalog table d
      as_like table d e like may = subst (λ (w : Version). (table.name ≡ catalog_name)
          ⊎ IsNamed f s catalog table.name ⊎ (f.state w.tx.0 ≡ Dead) ⊎ HasMade f s catalog w.tx.0 table.name)
          like.version may

      each : (q : RecId) (table : Table) → table_in f q ≡ Some table
          → Each (MayStandIn f s catalog table) (skipped q)
      each = put_cases s p (skip_at x back (s p)) (λ q es. (table : Table) → table_in f q ≡ Some table
          → Each (MayStandIn f s catalog table) es)
          (λ table of. thin_each (MayStandIn f s catalog table) (as_like table) (skip_at x back (s p)) (s p)
          (front_thin f.state (skip_at x back (s p)) (s p) (skip_front f x back (s p) is once))
          (owns p table of)) (λ q ne table of. owns q table of)
