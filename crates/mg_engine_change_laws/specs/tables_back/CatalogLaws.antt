-- Where no change that is given is of the catalog, no change since the point is.
use Rattle.std.proofs.Common.{◌≡◌, ◌∙◌, ◌∷◌, ◌||◌, ◌==◌, [], ℕ, Bool, List, ap, false, inl, refl, subst, sym, true}
use Rattle.std.proofs.lemmas.Bool.{and_parts, eq-eqb, false≢true}
use Rattle.std.specs.Cmp.Lexicographic.{same_text}
use Rattle.std.specs.Prelude.{if◌then◌else◌, map}
use Rattle.mg_base.specs.Disk.{Meaning}
use Rattle.mg_base.specs.declared.numbers.TxNo.{TxNo}
use Rattle.mg_core.specs.declared.parts.Core.{Core}
use Rattle.mg_engine_change_laws.specs.backs.Events.{may_go, takes_back}
use Rattle.mg_engine_change_laws.specs.backs.Known.{KnownOfBacks}
use Rattle.mg_engine_change_laws.specs.backs.Outcomes.{LeavesTheCatalog, back_event}
use Rattle.mg_engine_meaning_laws.specs.Standings.{ShowsIt, StandsFor, standing_of, undo_kept}
use Rattle.mg_engine_meaning_laws.specs.StepLaws.{shows_of}
use Rattle.mg_engine_step_laws.specs.standing.Standing.{Standing}
use Rattle.mg_engine_change_laws.specs.backs.GivenLaws.{FirstShown, first_shown, since_own, what_is_given}
use Rattle.mg_engine_change_laws.specs.backs.Memory.{LeavesCatalog, MayGoTo}
use Rattle.mg_engine_change_laws.specs.backs.ToTake.{EachChange, since_point}
use Rattle.mg_image.specs.Form.{Pages, packed_form}
use Rattle.mg_image.specs.Tables.{Layout, stands_of}
use Rattle.mg_model.specs.Catalog.{catalog_name}
use Rattle.mg_model.specs.Changes.{has_change, is_at, same_key, same_name}
use Rattle.mg_model.specs.History.{Entries, entry}
use Rattle.mg_model.specs.Machine.{deeds_by, own, steps}
use Rattle.mg_model.specs.Openings.{everyone}
use Rattle.mg_model.specs.RowLaws.{same_from_same_key}
use Rattle.mg_model.specs.declared.answer.Answer.TheVariants.{Fine}
use Rattle.mg_model.specs.declared.change.Change.{Change}
use Rattle.mg_model.specs.declared.change.Point.{Point}
use Rattle.mg_model.specs.declared.opening.Opening.{Opening}
use Rattle.mg_model.specs.declared.table.Table.{Table}
use Rattle.mg_overlay_laws.specs.Overlays.{left_state}
use Rattle.mg_pool.specs.Pool.{shown}
use Rattle.mg_image_overlay_laws.specs.tables.OneTable.{one_table, stands_in}
use Rattle.mg_taking_back.specs.Tables.{TellsTables}
use Rattle.mg_taking_back.specs.Taking.{HasBegun, MayReach}
use Rattle.mg_undo.specs.Machine.{first_of, given_from, going_to}
use Rattle.mg_undo.specs.Undo.{TakesBack as GivesAll, State as Undo, has_table}
use Rattle.mg_undo.specs.declared.changes.Change.{Change as Kept}
use Rattle.mg_value.specs.declared.value.Value.{Value}

-- ---- lists of changes

-- what is changed in some of them is changed in all
in_all : (all cs : List Change) (name : List ℕ) (key : Value)
    → EachChange (λ c. has_change all c.table c.key ≡ true) cs → has_change cs name key ≡ true
    → has_change all name key ≡ true
in_all all [] name key each is = absurd (false≢true is)
in_all all (c ∷ cs) name key each is = at (is_at c name key) refl is (in_all all cs name key each.1)
  where
    at : (b : Bool) → is_at c name key ≡ b → (if b then true else has_change cs name key) ≡ true
        → (has_change cs name key ≡ true → has_change all name key ≡ true) → has_change all name key ≡ true
    at true here is more =
        let parts = and_parts (same_name c.table name) (same_key c.key key) here in
        let named : c.table ≡ name = same_text c.table name (sym parts.0) in
        let keyed : c.key ≡ key = same_from_same_key c.key key parts.1 in
        ap (λ (n : List ℕ). has_change all n key) (sym named)
        ∙ (ap (λ (k : Value). has_change all c.table k) (sym keyed) ∙ each.0)
    at false off is more = more is

-- if none is given of the table of a number, none is of the name that has it
none_of : (number : List ℕ → ℕ) (left : List Change) (page : ℕ) (name : List ℕ) (key : Value) → number name ≡ page
    → (cs : List Change) → has_table page (map (given_from number left) cs) ≡ false → has_change cs name key ≡ false
none_of number left page name key first [] none = refl
none_of number left page name key first (c ∷ cs) none =
    at (is_at c name key) refl (none_of number left page name key first cs)
  where
    or_left : (a b : Bool) → (a || b) ≡ false → a ≡ false
    or_left true b is = is
    or_left false b is = refl

    or_right : (a b : Bool) → (a || b) ≡ false → b ≡ false
    or_right true b is = absurd (false≢true (sym is))
    or_right false b is = is

    at : (b : Bool) → is_at c name key ≡ b
        → (has_table page (map (given_from number left) cs) ≡ false → has_change cs name key ≡ false)
        → (if b then true else has_change cs name key) ≡ false
    at true here more =
        let named : c.table ≡ name = same_text c.table name
        (sym (and_parts (same_name c.table name) (same_key c.key key) here).0) in
        let its : (number c.table == page) ≡ true = eq-eqb (number c.table) page (ap number named ∙ first) in
        absurd (false≢true (sym (or_left (number c.table == page) (has_table page (map (given_from number left) cs))
        none) ∙ its))
    at false off more = more (or_right (number c.table == page) (has_table page (map (given_from number left) cs)) none)

-- ---- the engine

module _ {D P : Type 0} (m : Meaning D) (known : KnownOfBacks D P m) (old begun : Core D) (t : TxNo) (point : Point)
    (undo : Undo) (has_begun : HasBegun old begun t.0 undo) (reaches : MayReach undo point)
    (none : TellsTables old t.0 point false) where
  module _ (o : Opening) (h : Entries) (stands : StandsFor m old o h) where
    abbrev s : Standing
    s = standing_of old stands.numbers stands.tables

    shows : ShowsIt m old o h (standing_of old stands.numbers stands.tables)
    shows = shows_of m old o h stands has_begun.continues.0

    abbrev size : ℕ
    size = old.store.geometry.size

    abbrev pages : Pages
    pages = shown old.store.dirty shows.image

    abbrev its_layout : Layout
    its_layout = shows.stands.shows.layout

    abbrev whole : List Change
    whole = since_point point (deeds_by t.0 (steps o h))

    undo_same : undo ≡ s.undo t.0
    undo_same = sym has_begun.its.2 ∙ sym (ap undo_kept has_begun.its.1)

    all : (given : List Kept) × (end : Undo) × GivesAll (going_to undo point) given end
    all = known.to_end (going_to undo point)

    all_then : GivesAll (going_to (s.undo t.0) point) all.0 all.1
    all_then = subst (λ (u : Undo). GivesAll (going_to u point) all.0 all.1) undo_same all.2

    may : MayGoTo point (deeds_by t.0 (steps o h))
    may = may_go m old t point undo has_begun.continues has_begun.its o h stands known.notes point reaches

    given_is : all.0 ≡ map (given_from (s.number t.0) (own o (entry (back_event t point) Fine ∷ h) t.0)) (first_of whole)
    given_is = what_is_given known.what_was known.keys size (left_state everyone s.state) pages its_layout
        shows.stands.shows.reading shows.stands.shows.sound o h (entry (back_event t point) Fine) point t.0 s all.0 all.1
        shows.stands.memory has_begun.continues.1 (shows.stands.shows.tables t.0 has_begun.continues.1)
        (takes_back t point) may all_then

    made : EachChange (λ c. has_change (own o h t.0) c.table c.key ≡ true) whole
    made = since_own known.what_was known.keys size (left_state everyone s.state) pages its_layout
        shows.stands.shows.reading shows.stands.shows.sound o h (entry (back_event t point) Fine) point t.0 s all.0 all.1
        shows.stands.memory has_begun.continues.1 (shows.stands.shows.tables t.0 has_begun.continues.1)
        (takes_back t point) may all_then

    none_given : has_table old.catalog.pointer.0
        (map (given_from (s.number t.0) (own o (entry (back_event t point) Fine ∷ h) t.0)) (first_of whole)) ≡ false
    none_given = ap (has_table old.catalog.pointer.0) (sym given_is)
        ∙ sym (none undo has_begun.its reaches all.0 all.1 all.2)

    -- the catalog's number is its first page
    number_is : (key : Value) → has_change (own o h t.0) catalog_name key ≡ true
        → s.number t.0 catalog_name ≡ old.catalog.pointer.0
    number_is key has_ = sym it.first ∙ (ap (λ (x : Table). x.pointer.0) same
        ∙ (ap (λ (x : Table). x.pointer.0) shows.stands.shows.sound.catalog ∙ sym shows.catalog))
      where
        it : FirstShown (stands_of its_layout) catalog_name (s.number t.0 catalog_name)
        it = first_shown (stands_of its_layout) catalog_name (s.number t.0 catalog_name)
            ((shows.stands.shows.tables t.0 has_begun.continues.1).changed catalog_name key has_)

        same : it.its ≡ its_layout.catalog.table
        same = one_table packed_form size (left_state everyone s.state) pages its_layout shows.stands.shows.reading
            shows.stands.shows.sound it.its its_layout.catalog.table (stands_in its_layout it.its it.one)
            (stands_in its_layout its_layout.catalog.table (inl refl))
            (it.named ∙ sym (ap (λ (x : Table). x.name) shows.stands.shows.sound.catalog))

    pub leaves_here : LeavesCatalog point (deeds_by t.0 (steps o h))
    leaves_here key = at (has_change whole catalog_name key) refl
      where
        at : (b : Bool) → has_change whole catalog_name key ≡ b → b ≡ false
        at false is = refl
        at true is =
            let page : s.number t.0 catalog_name ≡ old.catalog.pointer.0 =
            number_is key (in_all (own o h t.0) whole catalog_name key made is) in
            let off : has_change (first_of whole) catalog_name key ≡ false =
            none_of (s.number t.0) (own o (entry (back_event t point) Fine ∷ h) t.0) old.catalog.pointer.0 catalog_name
            key page (first_of whole) none_given in
            sym ((known.keys.first whole).whole catalog_name key is) ∙ off

  pub leaves_the_catalog : LeavesTheCatalog m old t.0 point
  leaves_the_catalog o h stands = leaves_here o h stands
