-- Each active transaction finds its tables once one has taken back tables that it had made: nobody else sees these.
use Rattle.std.proofs.Common.{◌≡◌, ◌≢◌, ◌⊎◌, inl, inr, refl, sym, ap, ◌∙◌, subst, ℕ, Bool, true, false, List, [], ◌∷◌, Option, None, Some}
use Rattle.std.specs.Prelude.{IsSome, if◌then◌else◌, is_some, map}
use Rattle.std.proofs.lemmas.Bool.{eq-eqb, false≢true}
use Rattle.mg_base.specs.declared.transaction.TxState.TheVariants.{Active}
use Rattle.mg_value.specs.declared.value.Value.{Value}
use Rattle.mg_engine_step_laws.specs.standing.Following.{FollowsEntry}
use Rattle.mg_engine_step_laws.specs.standing.Standing.{FindsTables, HasFirstPage, IsSeenAs, Remembers, Standing}
use Rattle.mg_engine_step_laws.specs.backs.Again.{AreTaken}
use Rattle.mg_engine_step_laws.specs.standing.OwnChains.{change_there, none_second}
use Rattle.mg_grown_catalog_laws.specs.Grown.{BasesAreWithin, CatalogGrows, OwnRowsAreNew, SeenIsNotMade}
use Rattle.mg_image.specs.Form.{Form, Pages}
use Rattle.mg_image.specs.Histories.{newest_at}
use Rattle.mg_image.specs.Records.{Reading}
use Rattle.mg_image.specs.Records as records
use Rattle.mg_image.specs.Sound.{IsSoundBy}
use Rattle.mg_image.specs.Tables.{Layout, Stand, stands_of}
use Rattle.mg_model.specs.Answers.{catalog_of, is_open, told}
use Rattle.mg_model.specs.Catalog.{CatalogRows, catalog_name, shape_said, table_key}
use Rattle.mg_model.specs.CatalogRules.{EachTable}
use Rattle.mg_model.specs.Changes.{Cells, has_change, row_at, same_name}
use Rattle.mg_model.specs.Effects.{doer, is_its}
use Rattle.mg_model.specs.History.{Effect, Entries, Entry, TakesBack, effect_of}
use Rattle.mg_model.specs.Legal.{IsLegal, MayBegin}
use Rattle.mg_model.specs.Machine.{base, database, is_of, mode_of, own, state_after, state_of, takes_base, view}
use Rattle.mg_model.specs.Openings.{everyone}
use Rattle.mg_model.specs.RowLaws.{row_at-append}
use Rattle.mg_model.specs.declared.change.Change.{Change}
use Rattle.mg_model.specs.declared.change.Point.{Point}
use Rattle.mg_model.specs.declared.opening.Opening.{Opening}
use Rattle.mg_model.specs.declared.table.Table.{Table}
use Rattle.mg_overlay_laws.specs.Overlays.{left_state}
use Rattle.mg_records.specs.Reading.{shape_seen}
use Rattle.mg_engine_step_laws.specs.tables_back.ChangedTables.{ChangedAreThere, NoneOfGone}
use Rattle.mg_engine_step_laws.specs.tables_back.LeftShown.{TakesTables}
use Rattle.mg_engine_step_laws.specs.tables_back.Taken.{layout_left, stands_left}
use Rattle.mg_image_overlay_laws.specs.tables.TableOwners.{IsOneOf}
use Rattle.mg_engine_step_laws.specs.tables_back.TakenNames.{one_left, others_named, tables_of_left}

-- ---- stands

-- a table that is left has its first page
first_left : (gone : Value → Bool) (ss : List Stand) (name : List ℕ) (page : ℕ) → gone (table_key name) ≡ false
    → HasFirstPage ss name page → HasFirstPage (stands_left gone ss) name page
first_left gone [] name page off has_ = absurd has_
first_left gone (x ∷ xs) name page off (inl (named, is)) = at (gone (table_key x.table.name)) refl
  where
    at : (b : Bool) → gone (table_key x.table.name) ≡ b
        → HasFirstPage (if b then stands_left gone xs else x ∷ stands_left gone xs) name page
    at true lost = absurd (false≢true (sym off ∙ (ap (λ (n : List ℕ). gone (table_key n)) (sym named) ∙ lost)))
    at false its = inl (named, is)
first_left gone (x ∷ xs) name page off (inr more) =
    at (gone (table_key x.table.name)) (first_left gone xs name page off more)
  where
    at : (b : Bool) → HasFirstPage (stands_left gone xs) name page
        → HasFirstPage (if b then stands_left gone xs else x ∷ stands_left gone xs) name page
    at true there = there
    at false there = inr there

-- a table of the catalog's name is none of these
no_catalog : (ss : List Stand) (name : List ℕ) (page : ℕ)
    → EachTable (λ x. x.name ≢ catalog_name) (map (λ x. x.table) ss) → HasFirstPage ss name page → name ≢ catalog_name
no_catalog [] name page each has_ same = absurd has_
no_catalog (x ∷ xs) name page each (inl (named, is)) same = each.0 (named ∙ same)
no_catalog (x ∷ xs) name page each (inr more) same = no_catalog xs name page each.1 more same

-- ---- what a transaction sees

-- Who sees a table sees a row of it.
pub record SeesRow (rows : CatalogRows) (name : List ℕ) (table : Table) : Type 0 where
  pub named : table.name ≡ name
  pub row : Cells
  pub there : rows (table_key name) ≡ Some row

pub sees_row : (o : Opening) (h : Entries) (u : ℕ) (name : List ℕ) (table : Table)
    → IsSeenAs name (shape_seen o h u name) (Some table) → SeesRow (row_at (view o h u) catalog_name) name table
sees_row o h u name table seen = at (same_name name catalog_name) seen
  where
    by : (x : Option Cells) → row_at (view o h u) catalog_name (table_key name) ≡ x
        → IsSeenAs name (shape_said (catalog_of (told o h) u) name x) (Some table)
        → SeesRow (row_at (view o h u) catalog_name) name table
    by None is seen_ = absurd seen_
    by (Some row) is seen_ = record { named = seen_.0; row = row; there = is }

    at : (b : Bool) → IsSeenAs name (if b then None else shape_said (catalog_of (told o h) u) name
        (catalog_of (told o h) u (table_key name))) (Some table) → SeesRow (row_at (view o h u) catalog_name) name table
    at true seen_ = absurd seen_
    at false seen_ = by (row_at (view o h u) catalog_name (table_key name)) refl seen_

-- a row that is seen was made by who sees it, or is in its base
row_cases : (o : Opening) (h : Entries) (u : ℕ) (key : Value) (row : Cells)
    → row_at (view o h u) catalog_name key ≡ Some row
    → (has_change (own o h u) catalog_name key ≡ true) ⊎ (row_at (base o h u) catalog_name key ≡ Some row)
row_cases o h u key row is = at (has_change (own o h u) catalog_name key) refl
  where
    at : (b : Bool) → has_change (own o h u) catalog_name key ≡ b
        → (has_change (own o h u) catalog_name key ≡ true) ⊎ (row_at (base o h u) catalog_name key ≡ Some row)
    at true has_ = inl has_
    at false has_ = inr (sym (row_at-append (own o h u) (base o h u) catalog_name key ∙ rw has_ refl) ∙ is)

module _ (form : Form) (size : ℕ) (o : Opening) (h : Entries) (e : Entry) (point : Point) (t : ℕ)
    (whole left : List Change) (s new : Standing) (a : Layout) (r : Reading) (pages later : Pages) (gone : Value → Bool)
    (opening : MayBegin o) (legal : IsLegal o (e ∷ h)) (grows : CatalogGrows o h)
    (back : effect_of e ≡ TakesBack t point) (memory : Remembers o h s) (active : s.state t ≡ Active)
    (taken : AreTaken o h e t whole) (follows : FollowsEntry o h e s new)
    (before : IsSoundBy form size (left_state everyone s.state) pages a r)
    (it : TakesTables form size o h e t left s a r pages later gone) (within : BasesAreWithin) (fresh : OwnRowsAreNew)
    (not_seen : SeenIsNotMade) (there : ChangedAreThere) (none_left : NoneOfGone) where
  abbrev after : Layout
  after = layout_left gone a it.c

  is_active_t : state_of o h t ≡ Active
  is_active_t = sym (memory.state t) ∙ active

  -- the database has no row under a key that goes
  none_there : (key : Value) → gone key ≡ true → row_at (database o h) catalog_name key ≡ None
  none_there key lost = (fresh o h t key opening legal.1 grows (ap is_open is_active_t) (it.made key lost)).1

  has_none : (key : Value) → gone key ≡ true → has_change (own o (e ∷ h) t) catalog_name key ≡ false
  has_none key lost = change_there (own o (e ∷ h) t) catalog_name key ∙ ap is_some (it.none key lost)

  -- ---- the others

  -- nobody else sees a row that goes
  other_sees : (u : ℕ) → u ≢ t → state_of o h u ≡ Active → (key : Value) (row : Cells)
      → row_at (view o h u) catalog_name key ≡ Some row → gone key ≡ false
  other_sees u ne active_u key row is = at (gone key) refl
    where
      at : (b : Bool) → gone key ≡ b → gone key ≡ false
      at false stays = stays
      at true lost = absurd (false≢true (sym (not_seen o h t u key row opening legal.1 grows (ap is_open is_active_t)
          active_u (λ same. ne (sym same)) is) ∙ it.made key lost))

  -- nor has it changed a table that goes
  other_changed : (u : ℕ) → u ≢ t → state_of o h u ≡ Active → (name : List ℕ) (key : Value) → name ≢ catalog_name
      → has_change (own o h u) name key ≡ true → gone (table_key name) ≡ false
  other_changed u ne active_u name key other has_ =
      at (there o h u name key opening legal.1 grows active_u other has_)
    where
      some : (x : Option Cells) → row_at (own o h u) catalog_name (table_key name) ≡ x → IsSome x
          → has_change (own o h u) catalog_name (table_key name) ≡ true → gone (table_key name) ≡ false
      some None is some_ made = absurd (false≢true some_)
      some (Some row) is some_ made = other_sees u ne active_u (table_key name) row
          (row_at-append (own o h u) (base o h u) catalog_name (table_key name) ∙ rw made is)

      by : (b : Bool) → gone (table_key name) ≡ b → IsSome (row_at (database o h) catalog_name (table_key name))
          → gone (table_key name) ≡ false
      by false stays in_database = stays
      by true lost in_database =
          absurd (false≢true (sym (ap is_some (none_there (table_key name) lost)) ∙ in_database))

      at : (has_change (own o h u) catalog_name (table_key name) ≡ true)
          ⊎ IsSome (row_at (database o h) catalog_name (table_key name)) → gone (table_key name) ≡ false
      at (inl made) = some (row_at (own o h u) catalog_name (table_key name)) refl
          (fresh o h u (table_key name) opening legal.1 grows (ap is_open active_u) made).0 made
      at (inr in_database) = by (gone (table_key name)) refl in_database

  -- ---- layouts

  each_other : EachTable (λ x. x.name ≢ catalog_name) (map (λ x. x.table) a.tables)
  each_other = others_named before.names.all.rows before.names.all.are_tables.lawful (map (λ x. x.table) a.tables)
      before.names.all.are_tables.each

  stays_there : (table : Table) → gone (table_key table.name) ≡ false → IsOneOf (map (λ x. x.table) a.tables) table
      → IsOneOf (map (λ x. x.table) (layout_left gone a it.c).tables) table
  stays_there table off stands = subst (λ (ts : List Table). IsOneOf ts table) (sym (tables_of_left gone a.tables))
      (one_left gone (map (λ x. x.table) a.tables) table off stands)

  first_there : (name : List ℕ) (page : ℕ) → (name ≢ catalog_name → gone (table_key name) ≡ false)
      → HasFirstPage (stands_of a) name page → HasFirstPage (stands_of (layout_left gone a it.c)) name page
  first_there name page off (inl (named, is)) = inl (
    ap (λ (x : Stand). x.table.name) it.leaves.catalog ∙ named,
    ap (λ (x : Stand). x.table.pointer.0) it.leaves.catalog ∙ is,
  )
  first_there name page off (inr more) =
      inr (first_left gone a.tables name page (off (no_catalog a.tables name page each_other more)) more)

  pub finds_other : (u : ℕ) → u ≢ t → s.state u ≡ Active → FindsTables o h s a u
      → FindsTables o h s (layout_left gone a it.c) u
  finds_other u ne runs finds = record {
    seen = λ name table is. stays_there table (sees name table is) (finds.seen name table is);
    changed = λ name key has_. first_there name (s.number u name)
        (λ other. other_changed u ne active_u name key other has_) (finds.changed name key has_);
  }
    where
      active_u : state_of o h u ≡ Active
      active_u = sym (memory.state u) ∙ runs

      sees : (name : List ℕ) (table : Table) → s.table u name ≡ Some table → gone (table_key table.name) ≡ false
      sees name table is =
          let its : SeesRow (row_at (view o h u) catalog_name) name table = sees_row o h u name table
          (subst (IsSeenAs name (shape_seen o h u name)) is ((memory.active u active_u).table name)) in
          ap (λ (n : List ℕ). gone (table_key n)) its.named
          ∙ other_sees u ne active_u (table_key name) its.row its.there

  -- ---- its own

  states_same : (u : ℕ) → new.state u ≡ s.state u
  states_same u = follows.state u ∙ ap (λ (x : Effect). state_after x u (s.state u)) back

  its_entry : is_its t e ≡ true
  its_entry = ap (λ (x : Effect). is_of t (doer x)) back ∙ eq-eqb t t refl

  base_same : base o (e ∷ h) t ≡ base o h t
  base_same = ap (λ (x : Effect). if takes_base x t (mode_of h t).snapshot then database o h else base o h t) back

  -- it sees no row any more that goes
  its_sees : (name : List ℕ) (row : Cells) → row_at (view o (e ∷ h) t) catalog_name (table_key name) ≡ Some row
      → gone (table_key name) ≡ false
  its_sees name row is = at (gone (table_key name)) refl (row_cases o (e ∷ h) t (table_key name) row is)
    where
      at : (b : Bool) → gone (table_key name) ≡ b
          → (has_change (own o (e ∷ h) t) catalog_name (table_key name) ≡ true)
          ⊎ (row_at (base o (e ∷ h) t) catalog_name (table_key name) ≡ Some row) → gone (table_key name) ≡ false
      at false stays whose_ = stays
      at true lost (inl made) = absurd (false≢true (sym (has_none (table_key name) lost) ∙ made))
      at true lost (inr in_base) =
          let both : None ≡ Some row = sym (none_there (table_key name) lost)
          ∙ within o h t (table_key name) row opening legal.1 grows
          (ap (λ (cs : List Change). row_at cs catalog_name (table_key name)) (sym base_same) ∙ in_base) in absurd cc

  -- a transaction that has a change left had one before
  had_before : (name : List ℕ) (key : Value) → has_change (own o (e ∷ h) t) name key ≡ true
      → has_change (own o h t) name key ≡ true
  had_before name key has_ = at (newest_at (own o h t) name key) refl
    where
      at : (x : Option records.Change) → newest_at (own o h t) name key ≡ x → has_change (own o h t) name key ≡ true
      at (Some c) is = change_there (own o h t) name key ∙ ap is_some is
      at None none =
          let lost : newest_at (own o (e ∷ h) t) name key ≡ None =
          none_second whole (own o (e ∷ h) t) name key (taken name key ∙ none) in
          absurd (false≢true (sym (change_there (own o (e ∷ h) t) name key ∙ ap is_some lost) ∙ has_))

  pub none_changed : (name : List ℕ) (key : Value) → name ≢ catalog_name → gone (table_key name) ≡ true
      → has_change (own o (e ∷ h) t) name key ≡ false
  none_changed name key other lost = none_left o h e t point name key back opening legal grows is_active_t other
      (it.made (table_key name) lost) (has_none (table_key name) lost)

  pub finds_its : new.number t ≡ s.number t
      → ((name : List ℕ) (table : Table) → new.table t name ≡ Some table → s.table t name ≡ Some table)
      → FindsTables o h s a t → FindsTables o (e ∷ h) new (layout_left gone a it.c) t
  finds_its number fewer finds = record {
    seen = λ name table is. stays_there table (sees name table is) (finds.seen name table (fewer name table is));
    changed = λ name key has_. subst (λ (n : List ℕ → ℕ).
        HasFirstPage (stands_of (layout_left gone a it.c)) name (n name)) (sym number)
        (first_there name (s.number t name) (λ other. stays name key other has_)
        (finds.changed name key (had_before name key has_)));
  }
    where
      sees : (name : List ℕ) (table : Table) → new.table t name ≡ Some table → gone (table_key table.name) ≡ false
      sees name table is =
          let its : SeesRow (row_at (view o (e ∷ h) t) catalog_name) name table = sees_row o (e ∷ h) t name table
          (subst (IsSeenAs name (shape_seen o (e ∷ h) t name)) is
          ((follows.its t its_entry (states_same t ∙ active)).table name)) in
          ap (λ (n : List ℕ). gone (table_key n)) its.named ∙ its_sees name its.row its.there

      stays : (name : List ℕ) (key : Value) → name ≢ catalog_name → has_change (own o (e ∷ h) t) name key ≡ true
          → gone (table_key name) ≡ false
      stays name key other has_ = at (gone (table_key name)) refl
        where
          at : (b : Bool) → gone (table_key name) ≡ b → gone (table_key name) ≡ false
          at false is = is
          at true lost = absurd (false≢true (sym (none_changed name key other lost) ∙ has_))
