-- What the list of a transaction gives to take back, over a history: the changes of other tables, and the rows of the
-- catalog.
use Rattle.std.proofs.Common.{◌≡◌, ◌∙◌, ◌∷◌, ◌==◌, [], ℕ, Bool, List, ap, false, inl, refl, sym, true}
use Rattle.std.proofs.lemmas.Bool.{eq-eqb, false≢true, ne_eqb}
use Rattle.std.specs.Cmp.Lexicographic.{same_text}
use Rattle.std.specs.Prelude.{if◌then◌else◌, map}
use Rattle.mg_base.specs.Disk.{Meaning}
use Rattle.mg_base.specs.declared.transaction.TxState.TheVariants.{Active}
use Rattle.mg_value.specs.declared.value.Value.{Value}
use Rattle.mg_image.specs.Form.{Pages, packed_form}
use Rattle.mg_image.specs.Tables.{stands_of}
use Rattle.mg_model.specs.Catalog.{catalog_name}
use Rattle.mg_model.specs.Changes.{has_change, same_name}
use Rattle.mg_model.specs.History.{Entries, Entry, TakesBack, effect_of}
use Rattle.mg_model.specs.Machine.{deeds_by, own, steps}
use Rattle.mg_model.specs.Openings.{everyone}
use Rattle.mg_model.specs.ReadLaws.{same_name_itself}
use Rattle.mg_model.specs.declared.change.Change.{Change}
use Rattle.mg_model.specs.declared.change.Point.{Point}
use Rattle.mg_model.specs.declared.opening.Opening.{Opening}
use Rattle.mg_model.specs.declared.table.Table.{Table}
use Rattle.mg_overlay_laws.specs.Overlays.{left_state}
use Rattle.mg_pool.specs.Pool.{shown}
use Rattle.mg_image_overlay_laws.specs.tables.OneTable.{one_table, stands_in}
use Rattle.mg_txlist.specs.TxList.{said}
use Rattle.mg_undo.specs.Machine.{GivesWhatWas, first_of, given_from, going_to}
use Rattle.mg_undo.specs.Undo.{State as Undo, TakesBack as GivesAll}
use Rattle.mg_undo.specs.declared.changes.Change.{Change as Kept}
use Rattle.mg_core.specs.declared.parts.Core.{Core}
use Rattle.mg_engine_meaning_laws.specs.Standings.{ShowsIt, StandsFor, standing_of}
use Rattle.mg_engine_step_laws.specs.standing.Known.{catalog_is_shown}
use Rattle.mg_engine_step_laws.specs.standing.Standing.{Standing}
use Rattle.mg_engine_change_laws.specs.backs.GivenLaws.{FirstShown, each_as, first_shown, first_some, since_own, what_is_given}
use Rattle.mg_engine_change_laws.specs.keys.Keys.{IsOfTable}
use Rattle.mg_engine_change_laws.specs.backs.Memory.{MayGoTo}
use Rattle.mg_engine_change_laws.specs.backs.ToTake.{EachChange, KeysAreTaken, since_point}
use Rattle.mg_engine_change_laws.specs.keys.WrittenLaws.{first_named}
use Rattle.mg_table_takings.specs.Keys.{keys_of, others_of}
use Rattle.mg_engine_change_laws.specs.tables_back.RowsGiven.{GivenApart, TellsCatalog, of_catalog, of_others}

-- those of other tables are of tables
others_of_tables : (o : Opening) (h : Entries) (t : ℕ) (cs : List Change)
    → EachChange (λ c. has_change (own o h t) c.table c.key ≡ true) cs → EachChange (IsOfTable o h t) (of_others cs)
others_of_tables o h t [] each = tt
others_of_tables o h t (c ∷ cs) each = at (same_name c.table catalog_name) refl (others_of_tables o h t cs each.1)
  where
    at : (b : Bool) → same_name c.table catalog_name ≡ b → EachChange (IsOfTable o h t) (of_others cs)
        → EachChange (IsOfTable o h t) (if b then of_others cs else c ∷ of_others cs)
    at true is more = more
    at false off more = (
      record {
        other = λ same. false≢true (sym off ∙ (ap (λ (n : List ℕ). same_name n catalog_name) same
            ∙ same_name_itself catalog_name));
        made = each.0;
      },
      more,
    )

module _ {D : Type 0} (m : Meaning D) (what_was : GivesWhatWas) (keys_law : KeysAreTaken) (apart : GivenApart)
    (old : Core D) (t : ℕ) (point : Point) (o : Opening) (h : Entries) (e : Entry) (stands : StandsFor m old o h)
    (shows : ShowsIt m old o h (standing_of old stands.numbers stands.tables)) (active : said old.list t ≡ Active)
    (back : effect_of e ≡ TakesBack t point) (may : MayGoTo point (deeds_by t (steps o h))) (given : List Kept)
    (end : Undo) (gave : GivesAll (going_to ((standing_of old stands.numbers stands.tables).undo t) point) given end)
  where
    abbrev s : Standing
    s = standing_of old stands.numbers stands.tables

    abbrev pages : Pages
    pages = shown old.store.dirty shows.image

    abbrev size : ℕ
    size = old.store.geometry.size

    abbrev page : ℕ
    page = old.catalog.pointer.0

    abbrev firsts : List Change
    firsts = first_of (since_point point (deeds_by t (steps o h)))

    pub given_is : given ≡ map (given_from (stands.numbers t) (own o (e ∷ h) t))
        (first_of (since_point point (deeds_by t (steps o h))))
    given_is = what_is_given what_was keys_law size (left_state everyone s.state) pages shows.stands.shows.layout
        shows.stands.shows.reading shows.stands.shows.sound o h e point t s given end shows.stands.memory active
        (shows.stands.shows.tables t active) back may gave

    -- each is one of its own
    pub each_own : EachChange (λ c. has_change (own o h t) c.table c.key ≡ true)
        (first_of (since_point point (deeds_by t (steps o h))))
    each_own = first_some (λ c. has_change (own o h t) c.table c.key ≡ true) (since_point point (deeds_by t (steps o h)))
        (since_own what_was keys_law size (left_state everyone s.state) pages shows.stands.shows.layout
        shows.stands.shows.reading shows.stands.shows.sound o h e point t s given end shows.stands.memory active
        (shows.stands.shows.tables t active) back may gave)

    pub each_of_table : EachChange (IsOfTable o h t) (of_others (first_of (since_point point (deeds_by t (steps o h)))))
    each_of_table = others_of_tables o h t firsts each_own

    -- the catalog's number is its first page
    pub number_is : (key : Value) → has_change (own o h t) catalog_name key ≡ true
        → stands.numbers t catalog_name ≡ old.catalog.pointer.0
    number_is key has_ = sym it.first ∙ (ap (λ (x : Table). x.pointer.0) same
        ∙ (ap (λ (x : Table). x.pointer.0) shows.stands.shows.sound.catalog ∙ sym shows.catalog))
      where
        it : FirstShown (stands_of shows.stands.shows.layout) catalog_name (s.number t catalog_name)
        it = first_shown (stands_of shows.stands.shows.layout) catalog_name (s.number t catalog_name)
            ((shows.stands.shows.tables t active).changed catalog_name key has_)

        same : it.its ≡ shows.stands.shows.layout.catalog.table
        same = one_table packed_form size (left_state everyone s.state) pages shows.stands.shows.layout
            shows.stands.shows.reading shows.stands.shows.sound it.its shows.stands.shows.layout.catalog.table
            (stands_in shows.stands.shows.layout it.its it.one)
            (stands_in shows.stands.shows.layout shows.stands.shows.layout.catalog.table (inl refl))
            (it.named ∙ sym (ap (λ (x : Table). x.name) shows.stands.shows.sound.catalog))

    tells_one : (c : Change) → has_change (own o h t) c.table c.key ≡ true
        → (s.number t c.table == page) ≡ same_name c.table catalog_name
    tells_one c has_ = at (same_name c.table catalog_name) refl
      where
        at : (b : Bool) → same_name c.table catalog_name ≡ b → (s.number t c.table == page) ≡ b
        at true named =
            let table : c.table ≡ catalog_name = same_text c.table catalog_name (sym named) in
            eq-eqb (s.number t c.table) page (ap (s.number t) table
            ∙ number_is c.key (ap (λ (n : List ℕ). has_change (own o h t) n c.key) (sym table) ∙ has_))
        at false off = ne_eqb (s.number t c.table) page (λ same.
            let named : shows.stands.shows.layout.catalog.table.name ≡ c.table = first_named size (left_state everyone s.state)
            pages shows.stands.shows.layout shows.stands.shows.reading shows.stands.shows.sound c.table
            (s.number t c.table) shows.stands.shows.layout.catalog.table
            ((shows.stands.shows.tables t active).changed c.table c.key has_)
            (catalog_is_shown shows.stands.shows.layout)
            (ap (λ (x : Table). x.pointer.0) shows.stands.shows.sound.catalog ∙ (sym shows.catalog ∙ sym same)) in
            false≢true (sym off ∙ (ap (λ (n : List ℕ). same_name n catalog_name)
            (sym named ∙ ap (λ (x : Table). x.name) shows.stands.shows.sound.catalog) ∙ same_name_itself catalog_name)))

    -- the first page of the catalog tells its changes from the others
    pub tells : TellsCatalog (stands.numbers t) old.catalog.pointer.0
        (first_of (since_point point (deeds_by t (steps o h))))
    tells = each_as (λ c. has_change (own o h t) c.table c.key ≡ true)
        (λ c. (s.number t c.table == page) ≡ same_name c.table catalog_name) tells_one firsts each_own

    pub others_are : others_of old.catalog.pointer.0 given ≡ map (given_from (stands.numbers t) (own o (e ∷ h) t))
        (of_others (first_of (since_point point (deeds_by t (steps o h)))))
    others_are = ap (others_of page) given_is ∙ apart.others (s.number t) page (own o (e ∷ h) t) firsts tells

    pub keys_are : keys_of old.catalog.pointer.0 given ≡ map (λ c. c.key)
        (of_catalog (first_of (since_point point (deeds_by t (steps o h)))))
    keys_are = ap (keys_of page) given_is ∙ apart.rows (s.number t) page (own o (e ∷ h) t) firsts tells
