-- What is known of a pool before a batch is known after its first steps: what a statement knows of its
-- row, and what the orders of a batch tell of the pages of cells.
use Rattle.std.proofs.Common.{◌≡◌, ◌≢◌, ◌⊎◌, inl, inr, ap, sym, subst, ◌∙◌, refl, arith, suc, ℕ, Bool, true, false, List, [], ◌∷◌, ◌++◌, Option, None, Some, ◌<◌, ◌≤◌}
use Rattle.std.specs.Prelude.{if◌then◌else◌}
use Rattle.std.specs.List.{flat_map}
use Rattle.mg_base.specs.Fields.{byte}
use Rattle.mg_base.specs.declared.numbers.RecId.{RecId}
use Rattle.mg_base.specs.declared.transaction.TxState.{TxState}
use Rattle.mg_header.specs.HeaderPage.{header_in}
use Rattle.mg_model.specs.declared.opening.Opening.{Opening}
use Rattle.mg_model.specs.declared.table.Table.{Table}
use Rattle.mg_model.specs.History.{Entries, Entry as Event}
use Rattle.mg_value.specs.declared.value.Value.{Value}
use Rattle.mg_version.specs.declared.cell.Cell.TheVariants as cells
use Rattle.mg_version.specs.declared.cell.Version.{Version}
use Rattle.mg_pointer.specs.PointerPage.{entries_of, next_in, pointer_checks}
use Rattle.mg_image.specs.Catalog.{MayStandIn}
use Rattle.mg_image.specs.declared.entry.Entry.{Entry}
use Rattle.mg_image.specs.Form.{Coding, Form, Pages}
use Rattle.mg_image.specs.Held.{AreChanges, Changes, HasLimbo, IsChangedAt}
use Rattle.mg_image.specs.RecordRules.{Facts, IsVersion, TakesKey, table_in}
use Rattle.mg_image.specs.Records.{Change, Changes as CellChanges, Reading, cells_of, key_of, record_key, writer}
use Rattle.mg_image.specs.Reached.{tips_of}
use Rattle.mg_image.specs.Sound.{HasTablePages, IsSoundBy, IsTablePointer, facts_by}
use Rattle.mg_image.specs.Tables.{EachFrom, EachStand, Has, IsOnce, Layout, LinkChain, Stand, ended, entries_in, goes, has, pages_of, stands_of, table_at}
use Rattle.mg_image_overlay_laws.specs.pages.DataPages.{ChangesData, kind_of}
use Rattle.mg_image_overlay_laws.specs.pages.DataSound.{data_sound}
use Rattle.mg_image_overlay_laws.specs.pages.Growth.{has_back, has_front}
use Rattle.mg_image_overlay_laws.specs.records.Push.{put_sound}
use Rattle.mg_image_overlay_laws.specs.kept.Rest.{LeavesRest, LeavesRests}
use Rattle.mg_image_overlay_laws.specs.tables.TableOwners.{may_stand_still, names_stay}
use Rattle.mg_image_overlay_laws.specs.kept.KeptImages.{IsKept}
use Rattle.mg_image_overlay_laws.specs.pages.Reach.{IsEntered, data_there, has_it, has_so, here, later, once_apart, once_back, once_front}
use Rattle.mg_image_overlay_laws.specs.tables.OneLayout.{StandsOneWay}
use Rattle.mg_image_overlay_laws.specs.records.OwnVersion.{RewritesRow}
use Rattle.mg_image_overlay_laws.specs.pages.GrowPages.{in_mid, trees_mid}
use Rattle.mg_image_overlay_laws.specs.records.OwnWrites.{ChangesOwn, IsThere, WritesRow}
use Rattle.mg_image_overlay_laws.specs.pages.Entries.{StaysFound}
use Rattle.mg_image_overlay_laws.specs.tables.Growing.{HasGrown, IsTableOf, MayBeWritten}

-- ---- whose page it is

-- a page among the data pages of a stand is that table's
pub owner_is : (before after : List Stand) (stand : Stand) (n : ℕ)
    → IsOnce (flat_map pages_of (before ++ (stand ∷ after))) → Has stand.data_pages n
    → table_at (before ++ (stand ∷ after)) n ≡ Some stand.table
owner_is [] after stand n once is = rw (has_so stand.data_pages n is) refl
owner_is (other ∷ before) after stand n once is =
    at (has other.data_pages n) refl
    (owner_is before after stand n
    (once_back (pages_of other) (flat_map pages_of (before ++ (stand ∷ after))) once) is)
  where
    at : (c : Bool) → has other.data_pages n ≡ c
        → table_at (before ++ (stand ∷ after)) n ≡ Some stand.table
        → (if has other.data_pages n then Some other.table else table_at (before ++ (stand ∷ after)) n)
        ≡ Some stand.table
    at true in_it more = absurd (once_apart (pages_of other)
        (flat_map pages_of (before ++ (stand ∷ after))) n once
        (data_there other n (has_it other.data_pages n in_it))
        (in_mid before after stand n (data_there stand n is)))
    at false out more = rw out more

-- a walk over pointer pages goes along the chain of another view that has these pages
entered_along : (P : ℕ → Type 0) (old new : Pages) (n m : ℕ) → IsEntered P new n m → (ns : List ℕ)
    → LinkChain (λ k. next_in (old k)) m ns → ((k : ℕ) → Has ns k → new k ≡ old k)
    → Has (entries_in old ns) n
entered_along P old new n m (here k some is has_) ns ended same = absurd (some refl)
entered_along P old new n m (here k some is has_) ns (goes j js ne more) same =
    has_front (entries_of (old k)) (entries_in old js) n
    (subst (λ (page : List ℕ). Has (entries_of page) n) (same k (inl refl)) has_)
entered_along P old new n m (later k some is entered) ns ended same = absurd (some refl)
entered_along P old new n m (later k some is entered) ns (goes j js ne more) same =
    has_back (entries_of (old k)) (entries_in old js) n
    (entered_along P old new n (next_in (new k)) entered js
    (subst (λ (next : ℕ). LinkChain (λ i. next_in (old i)) next js) (sym (ap next_in (same k (inl refl))))
    more) (λ i is_. same i (inr is_)))

module _ (form : Form) (size : ℕ) (state : ℕ → TxState) (view : Pages) (layout : Layout) (r : Reading)
    (sound : IsSoundBy form size state view layout r) (table : Table) (its : IsTableOf layout table)
  where
    pub its_pages : HasTablePages form.in_primary size view its.stand
    its_pages = (trees_mid (HasTablePages form.in_primary size view) its.before its.after its.stand
        (subst (EachStand (HasTablePages form.in_primary size view)) its.is_ sound.tables)).1

    pub its_once : IsOnce (flat_map pages_of (its.before ++ (its.stand ∷ its.after)))
    its_once = subst (λ (ss : List Stand). IsOnce (flat_map pages_of ss)) its.is_
        (once_back (tips_of size view) (flat_map pages_of (stands_of layout))
        (once_front (tips_of size view ++ flat_map pages_of (stands_of layout)) layout.sequences sound.once))

    -- a data page of the table's stand is the table's
    pub of_table : (n : ℕ) → Has its.stand.data_pages n → table_at (stands_of layout) n ≡ Some table
    of_table n is = ap (λ (ss : List Stand). table_at ss n) its.is_
        ∙ (owner_is its.before its.after its.stand n its_once is ∙ ap Some its.table_is)

    -- a page to which a walk leads is the table's: in a view that has the pointer pages of this one
    pub entered_of : (P : ℕ → Type 0) (other : Pages)
        → ((k : ℕ) → Has its.stand.pointers k → other k ≡ view k) → (n : ℕ)
        → IsEntered P other n table.pointer.0 → table_at (stands_of layout) n ≡ Some table
    entered_of P other same n entered = of_table n (subst (λ (ns : List ℕ). Has ns n) (sym its_pages.entries)
        (entered_along P view other n its.stand.table.pointer.0
        (subst (λ (t : Table). IsEntered P other n t.pointer.0) (sym its.table_is) entered)
        its.stand.pointers its_pages.chain same))

    -- a pointer page of the table is none of the data pages that change
    pub pointers_keep : (other : Pages) (b : ℕ) → ((m : ℕ) → m ≢ b → other m ≡ view m)
        → byte (view b) 0 ≡ 5 → (k : ℕ) → Has its.stand.pointers k → other k ≡ view k
    unfolding pointer_checks
    pointers_keep other b others five k is = others k (λ e.
        let four : byte (view k) 0 ≡ 4 = each_four 0 its.stand.pointers its_pages.pointers is in
        let also : byte (view k) 0 ≡ 5 = ap (λ (m : ℕ). byte (view m) 0) e ∙ five in
        omega (arith, four, also))
      where
        each_four : (at : ℕ) (ns : List ℕ)
            → EachFrom (IsTablePointer size view its.stand.table.pointer.0) at ns → Has ns k
            → byte (view k) 0 ≡ 4
        each_four at [] each is_ = absurd is_
        each_four at (m ∷ ms) each (inl e) = rw e (kind_of (view m) m 4 its.stand.table.pointer.0 at _
            each.0.fields)
        each_four at (m ∷ ms) each (inr more) = each_four (suc at) ms each.1 more

    -- ---- a version's cell comes to a free slot, which no record reads

    pub put_still : (next : Pages) (x : RecId) (v : Version) → LeavesRests form size x.page.0
        → ChangesData form.in_primary view next x.page.0
        → CellChanges (cells_of view) (cells_of next) x (Some (cells.Version v))
        → cells_of view x ≡ None → v.primary ≡ false → IsSoundBy form size state next layout r
    put_still next x v rests page put free apart = data_sound form size state view next x.page.0 layout r r
        sound page rest.trees (put_sound form.coding (facts_by state view layout) (cells_of view)
        (cells_of next) r x v sound.records free apart put) (λ chosen p. refl) sound.own_tables (record {
          committed = λ p t row shows. rest.trees.found t p row shows.of_table
              (sound.indexed.committed p t row shows);
          limbo = λ p t e has alive. rest.trees.found t p e.row has.of_table
              (sound.indexed.limbo p t e has alive);
        }) rest.sequences
      where
        rest : LeavesRest form size view next layout
        rest = rests state view next layout r sound page

-- ---- a version that may be written is lawful where its cell has come to stand

pub lawful_there : (coding : Coding) (state : ℕ → TxState) (old new : Pages) (before after : Layout)
    (table : Table) (key : Value) (e : Entry) → new 0 ≡ old 0
    → MayBeWritten coding (facts_by state old before) table key e
    → table_in (facts_by state new after) e.at ≡ Some table
    → IsVersion coding (facts_by state new after) table key e
lawful_there coding state old new before after table key e header may placed = record {
  placed = placed;
  drawn = subst (λ (bytes : List ℕ). writer e < (header_in bytes).next.0) (sym header) may.drawn;
  dead = λ is. subst (λ (bytes : List ℕ). (header_in bytes).oit.0 ≤ writer e) (sym header) (may.dead is);
  format = may.format;
  spelled = may.spelled;
  storable = may.storable;
  erased = may.erased;
  keyed = may.keyed;
}

-- ---- what a statement knows

module _ (f g : Facts) (r : Reading)
    (stays_in : (p : RecId) (t : Table) → table_in f p ≡ Some t → table_in g p ≡ Some t)
    (new_in : (p : RecId) (t : Table) → table_in g p ≡ Some t → (table_in f p ≡ Some t) ⊎ (r p ≡ []))
    (states : g.state ≡ f.state) where
  limbo_on : (p : RecId) (t : Table) (e : Entry) → HasLimbo f r p t e → HasLimbo g r p t e
  limbo_on p t e is = record {
    of_table = stays_in p t is.of_table;
    older = is.older;
    newest = is.newest;
    limbo = ap (λ (s : ℕ → TxState). s (writer e)) states ∙ is.limbo;
  }

  limbo_back : (p : RecId) (t : Table) (e : Entry) → HasLimbo g r p t e → HasLimbo f r p t e
  limbo_back p t e is = at (new_in p t is.of_table)
    where
      at : (table_in f p ≡ Some t) ⊎ (r p ≡ []) → HasLimbo f r p t e
      at (inr none) = let both : [] ≡ e ∷ is.older = sym none ∙ is.newest in absurd cc
      at (inl of) = record {
        of_table = of;
        older = is.older;
        newest = is.newest;
        limbo = ap (λ (s : ℕ → TxState). s (writer e)) (sym states) ∙ is.limbo;
      }

  told : (changes others : Changes) → AreChanges f r changes → AreChanges g r others → (t : ℕ)
      (name : List ℕ) (key : Value) (c : Change) → changes t name key ≡ Some c
      → others t name key ≡ Some c
  told changes others first second t name key c is = at (first.whole t name key c is)
    where
      at : IsChangedAt f r t name key c → others t name key ≡ Some c
      at it = sym (ap (λ (u : ℕ). others u name key) it.its_own)
          ∙ (sym (ap (λ (m : List ℕ). others (writer it.version) m key) it.named)
          ∙ (sym (ap (others (writer it.version) it.table.name) it.keyed)
          ∙ (second.there it.place it.table it.version (limbo_on it.place it.table it.version it.limbo)
          ∙ ap Some it.told)))

  told_back : (changes others : Changes) → AreChanges f r changes → AreChanges g r others → (t : ℕ)
      (name : List ℕ) (key : Value) (c : Change) → others t name key ≡ Some c
      → changes t name key ≡ Some c
  told_back changes others first second t name key c is = at (second.whole t name key c is)
    where
      at : IsChangedAt g r t name key c → changes t name key ≡ Some c
      at it = sym (ap (λ (u : ℕ). changes u name key) it.its_own)
          ∙ (sym (ap (λ (m : List ℕ). changes (writer it.version) m key) it.named)
          ∙ (sym (ap (changes (writer it.version) it.table.name) it.keyed)
          ∙ (first.there it.place it.table it.version (limbo_back it.place it.table it.version it.limbo)
          ∙ ap Some it.told)))

  -- a reading has one list of changes
  pub changes_once : (changes others : Changes) → AreChanges f r changes → AreChanges g r others
      → (t : ℕ) (name : List ℕ) (key : Value) → others t name key ≡ changes t name key
  changes_once changes others first second t name key =
      at (changes t name key) (others t name key) refl refl
    where
      at : (a b : Option Change) → changes t name key ≡ a → others t name key ≡ b
          → others t name key ≡ changes t name key
      at (Some c) b is also = told changes others first second t name key c is ∙ sym is
      at None (Some c) is also =
          let both : None ≡ Some c = sym is ∙ told_back changes others first second t name key c also in
          absurd cc
      at None None is also = also ∙ sym is

module _ (form : Form) (one : StandsOneWay form) (size : ℕ) (o : Opening) (h : Entries) (event : Event)
    (state : ℕ → TxState) (old mid : Pages) (table : Table) (p : RecId) (n : Entry)
    (before : IsKept form size o h state old old) (layout : Layout)
    (sound : IsSoundBy form size state mid layout before.reading)
    (grown : HasGrown before.layout layout before.reading) (kept : IsKept form size o h state mid mid)
  where
    abbrev f : Facts
    f = facts_by state old before.layout

    abbrev g : Facts
    g = facts_by state mid layout

    same : (layout ≡ kept.layout) × (before.reading ≡ kept.reading)
    same = one size state mid layout kept.layout before.reading kept.reading sound kept.sound

    new_in : (q : RecId) (t : Table) → table_in g q ≡ Some t
        → (table_in f q ≡ Some t) ⊎ (before.reading q ≡ [])
    new_in q t of = at (grown.new q.page.0 t of)
      where
        at : (table_at (stands_of before.layout) q.page.0 ≡ Some t)
            ⊎ ((k : RecId) → k.page.0 ≡ q.page.0 → before.reading k ≡ [])
            → (table_in f q ≡ Some t) ⊎ (before.reading q ≡ [])
        at (inl is) = inl is
        at (inr none) = inr (none q refl)

    changed_there : AreChanges g before.reading kept.changes
    changed_there = subst (λ (y : Layout). AreChanges (facts_by state mid y) before.reading kept.changes)
        (sym same.0) (subst (λ (s : Reading). AreChanges (facts_by state mid kept.layout) s kept.changes)
        (sym same.1) kept.changed)

    one_change : (u : ℕ) (name : List ℕ) (k : Value) → kept.changes u name k ≡ before.changes u name k
    one_change = changes_once f g before.reading (λ q t of. grown.stays q.page.0 t of) new_in refl
        before.changes kept.changes before.changed changed_there

    turns_there : (after : Changes) (es : List Entry) (t : ℕ) (key : Value)
        → ChangesOwn f table t key es before.changes after
        → ChangesOwn (facts_by state mid kept.layout) table t key es kept.changes after
    turns_there after es t key turns = record { here = turns.here; others = others }
      where
        at : (u : ℕ) (name : List ℕ) (k : Value) → IsThere t table key u name k
            ⊎ ((IsThere t table key u name k → ⊥) × (after u name k ≡ before.changes u name k))
            → IsThere t table key u name k
            ⊎ ((IsThere t table key u name k → ⊥) × (after u name k ≡ kept.changes u name k))
        at u name k (inl is) = inl is
        at u name k (inr (off, is)) = inr (off, is ∙ sym (one_change u name k))

        others : (u : ℕ) (name : List ℕ) (k : Value) → IsThere t table key u name k
            ⊎ ((IsThere t table key u name k → ⊥) × (after u name k ≡ kept.changes u name k))
        others u name k = at u name k (turns.others u name k)

    no_catalog_there : table ≢ before.layout.catalog.table → table ≢ kept.layout.catalog.table
    no_catalog_there differs is = differs (is ∙ (ap (λ (y : Layout). y.catalog.table) (sym same.0) ∙ grown.catalog))

    pub rewrites_there : (changed : Pages) → StaysFound table old changed
        → RewritesRow form size o h event state old old p table n before
        → RewritesRow form size o h event state mid changed p table n kept
    rewrites_there changed finds row = record {
      after = row.after;
      turns = turns_there row.after (n ∷ []) (writer n) (key_of table n.row) row.turns;
      after_are = row.after_are;
      no_catalog = no_catalog_there row.no_catalog;
      found = λ alive. finds p n.row (row.found alive);
    }

    pub writes_there : (changed : Pages) → StaysFound table old changed
        → WritesRow form size o h event state old old p table n before
        → WritesRow form size o h event state mid changed p table n kept
    writes_there changed finds row = record {
      free = free_there;
      after = row.after;
      turns = turns_there row.after (n ∷ []) (writer n) (key_of table n.row) row.turns;
      after_are = row.after_are;
      no_catalog = no_catalog_there row.no_catalog;
      may = may_there;
      found = λ alive. finds p n.row (row.found alive);
    }
      where
        free_here : (q : RecId) → q ≢ p → table_in g q ≡ Some table
            → TakesKey g (before.reading q) → record_key table (before.reading q) ≡ key_of table n.row → ⊥
        free_here q ne of takes keyed = at (new_in q table of)
          where
            takes_none : TakesKey g [] → ⊥
            takes_none (inl (row_, shows)) = let is = shows in absurd cc
            takes_none (inr limbo) = limbo

            at : (table_in f q ≡ Some table) ⊎ (before.reading q ≡ []) → ⊥
            at (inl was) = row.free q ne was takes keyed
            at (inr none) = takes_none (subst (TakesKey g) none takes)

        free_there : (q : RecId) → q ≢ p → table_in (facts_by state mid kept.layout) q ≡ Some table
            → TakesKey (facts_by state mid kept.layout) (kept.reading q)
            → record_key table (kept.reading q) ≡ key_of table n.row → ⊥
        free_there = subst (λ (s : Reading). (q : RecId) → q ≢ p
            → table_in (facts_by state mid kept.layout) q ≡ Some table
            → TakesKey (facts_by state mid kept.layout) (s q)
            → record_key table (s q) ≡ key_of table n.row → ⊥) same.1
            (subst (λ (y : Layout). (q : RecId) → q ≢ p → table_in (facts_by state mid y) q ≡ Some table
            → TakesKey (facts_by state mid y) (before.reading q)
            → record_key table (before.reading q) ≡ key_of table n.row → ⊥) same.0 free_here)

        may_here : MayStandIn g before.reading layout.catalog.table table n
        may_here = subst (λ (t : Table). MayStandIn g before.reading t table n) (sym grown.catalog)
            (may_stand_still f g before.reading before.reading before.layout.catalog.table
            (names_stay f g before.reading before.reading before.layout.catalog.table (record {
              shows = λ q row_ shows. record {
                of_table = grown.stays q.page.0 before.layout.catalog.table shows.of_table;
                row_shown = shows.row_shown;
              };
              limbo = λ q e has. record {
                of_table = grown.stays q.page.0 before.layout.catalog.table has.of_table;
                older = has.older;
                newest = has.newest;
                limbo = has.limbo;
              };
              dead = λ t is. is;
            })) table n row.may)

        may_there : MayStandIn (facts_by state mid kept.layout) kept.reading kept.layout.catalog.table table n
        may_there = subst (λ (s : Reading). MayStandIn (facts_by state mid kept.layout) s
            kept.layout.catalog.table table n) same.1
            (subst (λ (y : Layout). MayStandIn (facts_by state mid y) before.reading y.catalog.table table n)
            same.0 may_here)
