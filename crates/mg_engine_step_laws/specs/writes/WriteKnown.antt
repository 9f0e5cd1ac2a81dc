-- What the laws on overlays ask of a statement that writes a version, from what its engine knows.
use Rattle.mg_base.specs.Checks.{Check, PassesAll, common_checks}
use Rattle.mg_base.specs.declared.numbers.RecId.{RecId}
use Rattle.mg_base.specs.declared.transaction.TxState.{TxState}
use Rattle.mg_base.specs.declared.transaction.TxState.TheVariants.{Active, Limbo}
use Rattle.mg_tie_laws.specs.PushTies.{written}
use Rattle.mg_tie_laws.specs.Rows.{ForEach}
use Rattle.mg_engine_step_laws.specs.writes.WritesLaws.{others_entry, own_more}
use Rattle.mg_engine_step_laws.specs.writes.ChangeKnown.{after_are, changes_after, turns_to}
use Rattle.mg_engine_step_laws.specs.standing.Choices.{placed, placed_back, read, rows_too, takes_too}
use Rattle.mg_engine_step_laws.specs.writes.Knowing.{CodesRow, HasEntries, HasRowsOf, MayWriteInto, NoneTakes}
use Rattle.mg_engine_step_laws.specs.tables.SameRecords.{same_catalog}
use Rattle.mg_image_overlay_laws.specs.tables.Growing.{IsTableOf, MayBeWritten}
use Rattle.mg_header.specs.HeaderPage.{AreMarkers, marker_checks}
use Rattle.mg_header.specs.HeaderPageLaws.{markers_from_passes}
use Rattle.mg_header.specs.declared.header.TheConstants.{HEADER_KIND}
use Rattle.mg_image.specs.Catalog.{HasMade, MayStandIn}
use Rattle.mg_image.specs.Form.{Form, Pages, Row}
use Rattle.mg_image.specs.Held.{Changes, told_change, told_row}
use Rattle.mg_image.specs.Histories.{newest_at, row_change}
use Rattle.mg_image.specs.Inventory.{header_of, next_of, oldest_active_of, oldest_of}
use Rattle.mg_image.specs.ReadingLaws.{RowsAreOne}
use Rattle.mg_image.specs.RecordRules.{Facts}
use Rattle.mg_image.specs.Records.{Erases, Puts, Reading, key_of, record_key}
use Rattle.mg_image.specs.Sound.{IsSoundBy, facts_by}
use Rattle.mg_image.specs.Tables.{Layout, stands_of, table_at}
use Rattle.mg_image.specs.declared.entry.Entry.{Entry}
use Rattle.mg_image_overlay_laws.specs.transactions.CommitLaws.{LeavesOthers}
use Rattle.mg_image_overlay_laws.specs.kept.KeptImages.{IsKept}
use Rattle.mg_lasting_laws.specs.Entries.{leaves_others}
use Rattle.mg_model.specs.Changes.{Cells, same_key, same_name}
use Rattle.mg_model.specs.Effects.{commits}
use Rattle.mg_model.specs.History.{Entries, Entry as Event, effect_of}
use Rattle.mg_model.specs.Machine.{own}
use Rattle.mg_model.specs.Openings.{everyone}
use Rattle.mg_model.specs.ReadLaws.{is_at_itself}
use Rattle.mg_model.specs.declared.change.Change.{Change}
use Rattle.mg_model.specs.declared.opening.Opening.{Opening}
use Rattle.mg_model.specs.declared.table.Table.{Table}
use Rattle.mg_overlay_laws.specs.Overlays.{left_state}
use Rattle.mg_image_overlay_laws.specs.records.OwnVersion.{RewritesRow}
use Rattle.mg_image_overlay_laws.specs.names.Whose.{maker_has}
use Rattle.mg_image_overlay_laws.specs.records.OwnWrites.{ChangesOwn, WritesRow, limbo_change}
use Rattle.mg_engine_step_laws.specs.standing.Writing.{WritesKey}
use Rattle.mg_value.specs.declared.value.Value.{Value}
use Rattle.mg_version.specs.declared.cell.Link.{Link}
use Rattle.mg_version.specs.declared.cell.Version.{Version}
use Rattle.std.proofs.Common.{Bool, List, None, Option, Some, [], ap, arith, false, if◌then◌else◌, inl, inr, refl, subst, sym, true, ℕ, ◌&&◌, ◌++◌, ◌<◌, ◌∙◌, ◌∷◌, ◌≡◌, ◌≢◌, ◌≤◌, ◌⊎◌}
use Rattle.std.proofs.lemmas.Bool.{cases_lt}

passes_back : (first rest : List Check) → PassesAll (first ++ rest) → PassesAll rest
passes_back [] rest passes = passes
passes_back (check ∷ checks) rest passes = passes_back checks rest passes.1

module _ (form : Form) (one : RowsAreOne form.coding) (size : ℕ) (o : Opening) (h : Entries) (e : Event)
    (state : ℕ → TxState) (pages : Pages) (all : Layout) (r : Reading)
    (whole : IsSoundBy form size (left_state everyone state) pages all r) (t : ℕ) (name : List ℕ)
    (key : Value) (row : Option Cells) (table : Table) (v : Version) (stored : Row)
    (entry : WritesKey o h e t name key row) (active : state t ≡ Active) (number : t < next_of pages)
    (named : table.name ≡ name) (may : MayWriteInto form size state pages all r t table)
    (codes : CodesRow form.coding table v stored t key row) where
  abbrev entry_at : RecId → Option Link → Entry
  entry_at at back = written at v back stored

  -- ---- the history

  pub brings : LeavesOthers o h e t
  brings = leaves_others o h e t (λ u ne. others_entry o h e t name key row entry u ne) none
    where
      none : commits (effect_of e) ≡ None
      none = at entry
        where
          at : WritesKey o h e t name key row → commits (effect_of e) ≡ None
          at (inl is) = ap commits is
          at (inr (cells, some, is, its)) = ap commits is

  limbo_by : (chosen : ℕ → Bool) → chosen t ≡ true → left_state chosen state t ≡ Limbo
  limbo_by chosen is = rw (is, active) refl

  -- ---- the transaction is interesting

  interesting : oldest_of pages ≤ t
  interesting = at (cases_lt t (oldest_active_of pages))
    where
      are : AreMarkers (oldest_of pages) (header_of pages).ost.0 (oldest_active_of pages) (next_of pages)
      are = markers_from_passes (pages 0) (passes_back (common_checks (pages 0) 0 HEADER_KIND 0 0)
          (marker_checks (pages 0)) whole.header.fields)

      at : (t < oldest_active_of pages) ⊎ (oldest_active_of pages ≤ t) → oldest_of pages ≤ t
      at (inl below) = absurd (whole.limbo t below (limbo_by everyone refl))
      at (inr above) = let a = are.oit_ost in let b = are.ost_oat in omega (arith, a, b, above)

  -- ---- the version may be written

  pub may_be : (st : ℕ → TxState) (layout : Layout) (its_key : Value) → its_key ≡ key → (at : RecId)
      (back : Option Link)
      → MayBeWritten form.coding (facts_by st pages layout) table its_key (entry_at at back)
  may_be st layout its_key same at back = record {
    drawn = subst (λ (n : ℕ). n < next_of pages) (sym codes.its) number;
    dead = λ dead. subst (λ (n : ℕ). oldest_of pages ≤ n) (sym codes.its) interesting;
    format = codes.format;
    spelled = codes.spelled;
    storable = codes.storable;
    erased = codes.erased;
    keyed = codes.keyed ∙ sym same;
  }

  -- ---- its change

  told_is : told_change table (if v.deleted then Erases else Puts stored) ≡ row_change row
  told_is = at v.deleted codes.given
    where
      at : (b : Bool) → (if b then None else Some (told_row table stored)) ≡ row
          → told_change table (if b then Erases else Puts stored) ≡ row_change row
      at true is = ap row_change is
      at false is = ap row_change is

  own_now : own o (e ∷ h) t ≡ record { table = name; key = key; row = row } ∷ own o h t
  own_now = own_more o h e t name key row entry

  here_now : newest_at (own o (e ∷ h) t) name key ≡ Some (row_change row)
  here_now = ap (λ (cs : List Change). newest_at cs name key) own_now ∙ rw (is_at_itself name key row) refl

  -- at another key it has the change that it had
  else_now : (other : List ℕ) (k : Value) → (same_name name other && same_key key k) ≡ false
      → newest_at (own o (e ∷ h) t) other k ≡ newest_at (own o h t) other k
  else_now other k off = ap (λ (cs : List Change). newest_at cs other k) own_now ∙ rw off refl

  module _ (chosen : ℕ → Bool) (is : chosen t ≡ true)
      (kept : IsKept form size o h (left_state chosen state) pages pages) where
    abbrev g : Facts
    g = facts_by (left_state chosen state) pages kept.layout

    abbrev after : Changes
    after = changes_after o h e t kept.changes

    its_limbo : left_state chosen state t ≡ Limbo
    its_limbo = limbo_by chosen is

    its : IsTableOf kept.layout table
    its = maker_has form size t state pages table active may.whose chosen is kept.layout kept.reading
        kept.sound

    changed : (at : RecId) (back : Option Link)
        → limbo_change g table (entry_at at back ∷ []) ≡ Some (row_change row)
    changed at back = rw (ap (left_state chosen state) codes.its ∙ its_limbo) (ap Some told_is)

    turns : (at : RecId) (back : Option Link)
        → ChangesOwn g table v.tx.0 (key_of table stored) (entry_at at back ∷ []) kept.changes after
    turns at back = turns_to o h e (left_state chosen state) t name key (Some (row_change row)) here_now else_now
        brings its_limbo kept.changes kept.changes_are g table v.tx.0 (key_of table stored)
        (entry_at at back ∷ []) named codes.its codes.keyed (changed at back)

    its_after : (u : ℕ) (other : List ℕ) (k : Value) → left_state chosen state u ≡ Limbo
        → after u other k ≡ newest_at (own o (e ∷ h) u) other k
    its_after = after_are o h e (left_state chosen state) t name key (Some (row_change row)) here_now else_now
        brings its_limbo kept.changes kept.changes_are

    no_catalog : table ≢ kept.layout.catalog.table
    no_catalog same = may.no_catalog (same ∙ same_catalog form size (left_state chosen state)
        (left_state everyone state) pages kept.layout all kept.reading r kept.sound
        whole)

    may_stand : (at : RecId) (back : Option Link)
        → MayStandIn g kept.reading kept.layout.catalog.table table (entry_at at back)
    may_stand at back = by (rows_too form one size state pages all r whole chosen
        kept.layout kept.reading kept.sound t table.name its_limbo may.rows)
      where
        by : HasRowsOf g kept.reading kept.layout.catalog.table t table.name
            → MayStandIn g kept.reading kept.layout.catalog.table table (entry_at at back)
        by (inl named) = inr (inl named)
        by (inr made) = inr (inr (inr (subst (λ (u : ℕ). HasMade g kept.reading kept.layout.catalog.table u
            table.name) (sym codes.its) made)))

    -- what the laws on versions that come or go over others ask
    pub writes_row : (rec at : RecId) (back : Option Link)
        → NoneTakes (facts_by (left_state everyone state) pages all) r table key rec
        → HasEntries pages table rec v stored
        → WritesRow form size o h e (left_state chosen state) pages pages rec table (entry_at at back) kept
    writes_row rec at back free laid = record {
      free = λ q ne of takes keyed. free q ne (back_of q of)
          (ap (record_key table) (read_of q (back_of q of)) ∙ (keyed ∙ codes.keyed))
          (takes_too form one size state pages all r whole chosen kept.layout
          kept.reading kept.sound table may.stands its q of takes);
      after = after;
      turns = turns at back;
      after_are = its_after;
      no_catalog = no_catalog;
      may = may_stand at back;
      found = laid;
    }
      where
        back_of : (q : RecId) → table_at (stands_of kept.layout) q.page.0 ≡ Some table
            → table_at (stands_of all) q.page.0 ≡ Some table
        back_of q of = placed_back form one size state pages all r whole chosen
            kept.layout kept.reading kept.sound table may.stands its q.page.0 of

        read_of : (q : RecId) → table_at (stands_of all) q.page.0 ≡ Some table
            → r q ≡ kept.reading q
        read_of q of = read form one size state pages all r whole chosen kept.layout
            kept.reading kept.sound table may.stands its q of

    -- and those on an own version that is replaced
    pub rewrites_row : (rec at : RecId) (back : Option Link) → HasEntries pages table rec v stored
        → RewritesRow form size o h e (left_state chosen state) pages pages rec table (entry_at at back) kept
    rewrites_row rec at back laid = record {
      after = after;
      turns = turns at back;
      after_are = its_after;
      no_catalog = no_catalog;
      found = laid;
    }

  -- ---- the record's page and its key, under each choice

  module _ (rec : RecId) (of : table_at (stands_of all) rec.page.0 ≡ Some table) where
    pub placed_each : ForEach form size state pages
        (λ st layout rs. IsTableOf layout table → table_at (stands_of layout) rec.page.0 ≡ Some table)
    placed_each chosen layout rs sound its = placed form one size state pages all r whole chosen layout rs sound
        table may.stands its rec.page.0 of

    pub may_each : record_key table (r rec) ≡ key → (at : RecId) (back : Option Link)
        → ForEach form size state pages (λ st layout rs. IsTableOf layout table
        → MayBeWritten form.coding (facts_by st pages layout) table (record_key table (rs rec))
        (entry_at at back))
    may_each keyed at back chosen layout rs sound its = may_be (left_state chosen state) layout
        (record_key table (rs rec)) (ap (record_key table) (sym (read form one size state pages all r whole chosen
        layout rs sound table may.stands its rec of)) ∙ keyed) at back
