-- A walk over a table that stays comes to the same rows.
use Rattle.std.proofs.Common.{◌≡◌, ◌≢◌, ◌⊎◌, inl, inr, ◌∙◌, ◌++◌, ◌∷◌, ℕ, Bool, true, false, List, [], Option, Some, ap, refl, subst, sym}
use Rattle.std.specs.Prelude.{if◌then◌else◌, map}
use Rattle.std.proofs.Math.Path.{fun_ext}
use Rattle.std.proofs.lemmas.Bool.{ne_eqb}
use Rattle.mg_base.specs.declared.numbers.RecId.{RecId}
use Rattle.mg_base.specs.declared.transaction.TxState.{TxState}
use Rattle.mg_base.specs.declared.transaction.TxState.TheVariants.{Active}
use Rattle.mg_value.specs.declared.value.Value.{Value}
use Rattle.mg_chain.specs.Chains.{takes_version}
use Rattle.mg_model.specs.declared.change.Change.{Change}
use Rattle.mg_model.specs.declared.opening.Opening.{Opening}
use Rattle.mg_model.specs.declared.table.Table.{Table}
use Rattle.mg_model.specs.Catalog.{catalog_name, table_key}
use Rattle.mg_model.specs.CatalogRules.{EachTable}
use Rattle.mg_model.specs.Changes.{KeyedRows}
use Rattle.mg_model.specs.History.{Entries, Entry}
use Rattle.mg_model.specs.Openings.{everyone}
use Rattle.mg_image.specs.declared.entry.Entry.{Entry as Read}
use Rattle.mg_image.specs.Form.{Pages, packed_form}
use Rattle.mg_image.specs.Records.{Reading, shown, writer}
use Rattle.mg_image.specs.Sound.{IsSoundBy, facts_by}
use Rattle.mg_image.specs.Tables.{Has, Layout, Stand, has, stands_of, table_at}
use Rattle.mg_overlay_laws.specs.Overlays.{left_by, left_state}
use Rattle.mg_seek.specs.Walks.{keyed}
use Rattle.mg_image_overlay_laws.specs.tables.Growing.{IsTableOf}
use Rattle.mg_image_overlay_laws.specs.tables.OneLayout.{StandsOneWay}
use Rattle.mg_image_overlay_laws.specs.tables.OneTable.{its_data}
use Rattle.mg_engine_step_laws.specs.standing.Known.{IsShown}
use Rattle.mg_engine_step_laws.specs.standing.Standing.{Standing}
use Rattle.mg_engine_step_laws.specs.reads.Walking.{AreToCome, WalkPlace}
use Rattle.mg_engine_step_laws.specs.tables_back.LeftShown.{TakesTables}
use Rattle.mg_engine_step_laws.specs.tables_back.Taken.{HasGone, IsLeft, layout_left, read_of, reading_left, stands_left}
use Rattle.mg_engine_step_laws.specs.tables_back.TakenNames.{others_named}
use Rattle.mg_engine_change_laws.specs.keys.BackWalks.{WalksBeside}
use Rattle.mg_engine_change_laws.specs.rows.RowWalks.{RowWalksGoOn, ShowsOn, row_at_record}
use Rattle.mg_engine_change_laws.specs.tables_back.TablesWalks.{TablesWalksGoOn}

-- ---- stands

none_behind : (ns : List ℕ) → ns ≡ ns ++ []
none_behind [] = refl
none_behind (n ∷ ns) = ap (λ (ms : List ℕ). n ∷ ms) (none_behind ns)

-- what stands before and behind a table that stays is left of it
left_split : (gone : Value → Bool) (before : List Stand) (stand : Stand) (after : List Stand)
    → gone (table_key stand.table.name) ≡ false
    → stands_left gone (before ++ stand ∷ after) ≡ stands_left gone before ++ stand ∷ stands_left gone after
left_split gone [] stand after stays =
    ap (λ (b : Bool). if b then stands_left gone after else stand ∷ stands_left gone after) stays
left_split gone (x ∷ before) stand after stays =
    at (gone (table_key x.table.name)) (left_split gone before stand after stays)
  where
    at : (b : Bool)
        → stands_left gone (before ++ stand ∷ after) ≡ stands_left gone before ++ stand ∷ stands_left gone after
        → (if b then stands_left gone (before ++ stand ∷ after) else x ∷ stands_left gone (before ++ stand ∷ after))
        ≡ (if b then stands_left gone before else x ∷ stands_left gone before) ++ stand ∷ stands_left gone after
    at true more = more
    at false more = ap (λ (ss : List Stand). x ∷ ss) more

-- each table behind the first one has the property that all have
each_behind : (P : Table → Type 0) (before : List Stand) (stand : Stand) (after : List Stand)
    → EachTable P (map (λ x. x.table) (before ++ stand ∷ after)) → P stand.table
each_behind P [] stand after each = each.0
each_behind P (x ∷ before) stand after each = each_behind P before stand after each.1

-- ---- versions that others do not take

-- an active transaction takes no version of another active one
not_taken : (s : Standing) (t u : ℕ) → s.state t ≡ Active → u ≢ t → takes_version s.state s.live u t ≡ false
not_taken s t u active apart = rw (ne_eqb t u (λ same. apart (sym same)), active) refl

module _ (one_way : StandsOneWay packed_form) (go : RowWalksGoOn) (size : ℕ) (o : Opening) (h : Entries) (e : Entry)
    (t u : ℕ) (left : List Change) (s new : Standing) (a : Layout) (r : Reading) (pages later : Pages)
    (gone : Value → Bool) (sound : IsSoundBy packed_form size (left_state everyone s.state) pages a r)
    (takes : TakesTables packed_form size o h e t left s a r pages later gone) (beside : WalksBeside s new t u)
    (states : (v : ℕ) → new.state v ≡ s.state v) (table : Table)
    (stays : table.name ≢ catalog_name → gone (table_key table.name) ≡ false) where
  abbrev b : Layout
  b = layout_left gone a takes.c

  abbrev q : Reading
  q = reading_left gone a takes.c r takes.rc

  counts_are : takes_version new.state new.live u ≡ takes_version s.state s.live u
  counts_are = fun_ext beside.takes

  sound_now : IsSoundBy packed_form size (left_state everyone new.state) later (layout_left gone a takes.c)
      (reading_left gone a takes.c r takes.rc)
  sound_now = subst (λ (x : ℕ → TxState). IsSoundBy packed_form size x later (layout_left gone a takes.c)
      (reading_left gone a takes.c r takes.rc)) (sym (fun_ext (λ v. ap (left_by true) (states v)))) takes.sound

  each_other : EachTable (λ x. x.name ≢ catalog_name) (map (λ x. x.table) a.tables)
  each_other = others_named sound.names.all.rows sound.names.all.are_tables.lawful (map (λ x. x.table) a.tables)
      sound.names.all.are_tables.each

  -- ---- the table stands as it did

  record StandsThere (was : IsShown a table) : Type 0 where
    stands : IsTableOf (layout_left gone a takes.c) was.its
    pages_are : stands.stand.data_pages ≡ was.stands.stand.data_pages

  there : (was : IsShown a table) → StandsThere was
  there was = at was.stands.before was.stands.is_
    where
      at : (before : List Stand) → stands_of a ≡ before ++ was.stands.stand ∷ was.stands.after → StandsThere was
      at [] is =
          let its : a.catalog ≡ was.stands.stand = cc in record {
            stands = record {
              before = [];
              stand = takes.c.catalog;
              after = stands_left gone a.tables;
              is_ = refl;
              table_is = ap (λ (x : Stand). x.table) (takes.leaves.catalog ∙ its) ∙ was.stands.table_is;
            };
            pages_are = ap (λ (x : Stand). x.data_pages) (takes.leaves.catalog ∙ its);
          }
      at (x ∷ before) is =
          let tables_are : a.tables ≡ before ++ was.stands.stand ∷ was.stands.after = cc in
          let other : was.stands.stand.table.name ≢ catalog_name = each_behind (λ x. x.name ≢ catalog_name) before
          was.stands.stand was.stands.after (subst (λ (ss : List Stand). EachTable (λ x. x.name ≢ catalog_name)
          (map (λ x. x.table) ss)) tables_are each_other) in
          let named : table.name ≡ was.stands.stand.table.name =
          sym was.same.name ∙ sym (ap (λ (x : Table). x.name) was.stands.table_is) in
          let kept : gone (table_key was.stands.stand.table.name) ≡ false =
          ap (λ (n : List ℕ). gone (table_key n)) (sym named) ∙ stays (λ same. other (sym named ∙ same)) in record {
            stands = record {
              before = takes.c.catalog ∷ stands_left gone before;
              stand = was.stands.stand;
              after = stands_left gone was.stands.after;
              is_ = ap (λ (ss : List Stand). takes.c.catalog ∷ ss) (ap (stands_left gone) tables_are
                  ∙ left_split gone before was.stands.stand was.stands.after kept);
              table_is = was.stands.table_is;
            };
            pages_are = refl;
          }

  -- ---- its records show the same

  -- what is not taken shows nothing
  none_shown : (version : Read) → writer version ≡ t
      → keyed table (shown (takes_version s.state s.live u) (version ∷ [])) [] ≡ keyed table (shown (takes_version s.state s.live u) []) []
  none_shown version its = rw (ap (takes_version s.state s.live u) its ∙ not_taken s t u beside.back beside.apart) refl

  row_there : (was : IsShown a table) (p : RecId) → Has was.stands.stand.data_pages p.page.0
      → row_at_record (takes_version s.state s.live u) table (reading_left gone a takes.c r takes.rc) p
      ≡ row_at_record (takes_version s.state s.live u) table r p
  row_there was p has_ = at (has takes.c.catalog.data_pages p.page.0) refl
    where
      of_now : table_at (stands_of (layout_left gone a takes.c)) p.page.0 ≡ Some was.its
      of_now = (its_data packed_form size (left_state everyone s.state) later (layout_left gone a takes.c)
          (reading_left gone a takes.c r takes.rc) takes.sound was.its (there was).stands p.page.0).1
          (subst (λ (ns : List ℕ). Has ns p.page.0) (sym (there was).pages_are) has_)

      same_catalog : has a.catalog.data_pages p.page.0 ≡ has takes.c.catalog.data_pages p.page.0
      same_catalog = ap (λ (x : Stand). has x.data_pages p.page.0) (sym takes.leaves.catalog)

      out_or_left : HasGone gone a.catalog.table t (r p) (takes.rc p)
          ⊎ IsLeft gone (facts_by (left_state everyone s.state) pages a) a.catalog.table (r p) (takes.rc p)
          → row_at_record (takes_version s.state s.live u) table takes.rc p
          ≡ row_at_record (takes_version s.state s.live u) table r p
      out_or_left (inr left_) = ap (λ (es : List Read). keyed table (shown (takes_version s.state s.live u) es) []) left_.same
      out_or_left (inl lost) = ap (λ (es : List Read). keyed table (shown (takes_version s.state s.live u) es) []) lost.none
          ∙ (sym (none_shown lost.version lost.its)
          ∙ sym (ap (λ (es : List Read). keyed table (shown (takes_version s.state s.live u) es) []) lost.alone))

      at : (x : Bool) → has takes.c.catalog.data_pages p.page.0 ≡ x
          → row_at_record (takes_version s.state s.live u) table (reading_left gone a takes.c r takes.rc) p
          ≡ row_at_record (takes_version s.state s.live u) table r p
      at true in_catalog = ap (λ (x : Bool). keyed table (shown (takes_version s.state s.live u)
          (if x then takes.rc p else read_of (table_at (stands_left gone a.tables) p.page.0) (r p))) []) in_catalog
          ∙ out_or_left (takes.takes.each p (same_catalog ∙ in_catalog))
      at false off = ap (λ (x : Bool). keyed table (shown (takes_version s.state s.live u)
          (if x then takes.rc p else read_of (table_at (stands_left gone a.tables) p.page.0) (r p))) []) off
          ∙ ap (λ (x : Option Table). keyed table (shown (takes_version s.state s.live u) (read_of x (r p))) [])
          (sym (ap (λ (x : Bool). if x then Some takes.c.catalog.table else table_at (stands_left gone a.tables) p.page.0) off)
          ∙ of_now)

  pub shows_on : (was : IsShown a table) → ShowsOn size s new later u table a r was
  shows_on was = record {
    layout = layout_left gone a takes.c;
    reading = reading_left gone a takes.c r takes.rc;
    sound = sound_now;
    is_ = record { its = was.its; stands = (there was).stands; same = was.same };
    same = record {
      more = [];
      data_pages = (there was).pages_are ∙ none_behind was.stands.stand.data_pages;
      rows = λ p has_. ap (λ (c : ℕ → Bool). row_at_record c table (reading_left gone a takes.c r takes.rc) p) counts_are
          ∙ row_there was p has_;
      none = λ p has_. absurd has_;
    };
  }

  everywhere : (layout : Layout) (x : Reading) → IsSoundBy packed_form size (left_state everyone s.state) pages layout x
      → (was : IsShown layout table) → ShowsOn size s new later u table layout x was
  everywhere layout x sound_ =
      let once : (a ≡ layout) × (r ≡ x) =
      one_way size (left_state everyone s.state) pages a layout r x sound sound_ in
      subst (λ (y : Reading). (was : IsShown layout table) → ShowsOn size s new later u table layout y was) once.1
      (subst (λ (l : Layout). (was : IsShown l table) → ShowsOn size s new later u table l r was) once.0 shows_on)

  pub walks_on : (after : Option WalkPlace) (rows : KeyedRows) → AreToCome size s pages u table after rows
      → AreToCome size new later u table after rows
  walks_on after rows = go size s new pages later u table after rows everywhere

pub tables_walks_go_on : StandsOneWay packed_form → RowWalksGoOn → TablesWalksGoOn
tables_walks_go_on one_way go size o h e t u left s new a r pages later gone sound takes beside states table stays after
    rows = walks_on one_way go size o h e t u left s new a r pages later gone sound takes beside states table stays after
    rows
