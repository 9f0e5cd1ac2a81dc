-- The catalog's rows with those of the tables that a transaction has made, under every choice.
use Rattle.std.proofs.Common.{◌≡◌, ◌≢◌, ◌⊎◌, inl, inr, ap, sym, subst, ◌∙◌, refl, ◌&&◌, ◌||◌, ℕ, Bool, true, false, List, [], ◌∷◌, Option, None, Some}
use Rattle.std.proofs.lemmas.Bool.{cases_eq}
use Rattle.std.specs.Cmp.Lexicographic.{slice_cmp}
use Rattle.std.specs.Ordering.{nat_cmp}
use Rattle.std.specs.Prelude.{if◌then◌else◌}
use Rattle.std.specs.declared.cmp.Ordering.{Ordering}
use Rattle.std.specs.declared.cmp.Ordering.TheVariants.{Less, Equal, Greater}
use Rattle.mg_base.specs.declared.numbers.RecId.{RecId}
use Rattle.mg_base.specs.declared.transaction.TxState.{TxState}
use Rattle.mg_base.specs.declared.transaction.TxState.TheVariants.{Committed, Dead}
use Rattle.mg_value.specs.declared.value.Value.{Value}
use Rattle.mg_model.specs.Answers.{is_committed}
use Rattle.mg_model.specs.Catalog.{table_key}
use Rattle.mg_model.specs.CatalogRules.{AreTables, EachTable}
use Rattle.mg_model.specs.Changes.{by_order}
use Rattle.mg_model.specs.Legal.{is_limbo}
use Rattle.mg_model.specs.declared.table.Table.{Table}
use Rattle.mg_image.specs.declared.entry.Entry.{Entry}
use Rattle.mg_image.specs.Catalog.{CatalogNames, FitsPages, HasNames, IsSameTable, IsWithin, StaysAmong, committed_with}
use Rattle.mg_image.specs.FactLaws.{shown_alike}
use Rattle.mg_image.specs.Form.{Coding, Row, Rows}
use Rattle.mg_image.specs.Held.{AreRows, HasLimbo, Shows}
use Rattle.mg_image.specs.RecordRules.{AreRecords, Each, EachBack, Facts, table_in}
use Rattle.mg_image.specs.Records.{Cells as AllCells, Reading, key_of, shown, writer}
use Rattle.mg_image_overlay_laws.specs.transactions.Begins.{Raises}
use Rattle.mg_image_overlay_laws.specs.names.Creating.{NamesMore}
use Rattle.mg_image_overlay_laws.specs.names.JoinedRows.{each_of_all, join_names, with_table, with_tables}

-- ---- rows together

-- the first of two
abbrev pub row_either : Option Row → Option Row → Option Row
row_either None b = b
row_either (Some a) b = Some a

abbrev pub joined_rows : Rows → Rows → Rows
joined_rows x y key = row_either (x key) (y key)

-- What a transaction's own rows of the catalog are: first versions of records, which alone say tables.
pub record MakesRows (size : ℕ) (f g : Facts) (t : ℕ) (r : Reading) (catalog : Table) (made : List Table)
    (named : (ℕ → Bool) → Rows) : Type 0 where
  pub rows : Rows
  -- each of its versions has a row of these, and with it away its record shows nothing
  pub newest : (p : RecId) (e : Entry) → HasLimbo g r p catalog e → writer e ≡ t
      → (e.version.deleted ≡ false) × (rows (key_of catalog e.row) ≡ Some e.row)
  pub first : (p : RecId) (e : Entry) → HasLimbo g r p catalog e → writer e ≡ t → (chosen : ℕ → Bool)
      → shown (committed_with f chosen) (r p) ≡ None
  pub whole : (key : Value) (row : Row) → rows key ≡ Some row
      → (p : RecId) × (e : Entry) × HasLimbo g r p catalog e × (writer e ≡ t) × (e.row ≡ row)
      × (key_of catalog row ≡ key)
  -- alone they are lawful, and say these tables, each of which fits the pages
  pub alone : AreTables rows made
  pub fits : EachTable (FitsPages size) made
  -- whichever transactions in limbo come to be committed, none of their keys is taken, and no table has
  -- the name
  pub free : (chosen : ℕ → Bool) (key : Value) (row : Row) → rows key ≡ Some row
      → named chosen key ≡ None

-- Other facts, in which one transaction more is in limbo.
pub record RaisesFacts (f g : Facts) (t : ℕ) : Type 0 where
  pub tables : (p : RecId) → table_in g p ≡ table_in f p
  pub raises : Raises f.state g.state t

-- ---- who stays among more tables

stays_itself : (made : Table) (ts : List Table) → StaysAmong (with_table made ts) made
stays_itself made [] = inl (record { name = refl; shape = refl; pointer = refl })
stays_itself made (u ∷ us) = at (slice_cmp nat_cmp made.name u.name) (stays_itself made us)
  where
    at : (o : Ordering) → StaysAmong (with_table made us) made
        → StaysAmong (by_order o (made ∷ u ∷ us) (made ∷ u ∷ us) (u ∷ with_table made us)) made
    at Less more = inl (record { name = refl; shape = refl; pointer = refl })
    at Equal more = inl (record { name = refl; shape = refl; pointer = refl })
    at Greater more = inr more

stays_in : (made : Table) (ts : List Table) (v : Table) → StaysAmong ts v
    → StaysAmong (with_table made ts) v
stays_in made [] v stays = absurd stays
stays_in made (u ∷ us) v stays = at (slice_cmp nat_cmp made.name u.name) stays (stays_in made us v)
  where
    at : (o : Ordering) → IsSameTable u v ⊎ StaysAmong us v
        → (StaysAmong us v → StaysAmong (with_table made us) v)
        → StaysAmong (by_order o (made ∷ u ∷ us) (made ∷ u ∷ us) (u ∷ with_table made us)) v
    at Less is more = inr is
    at Equal is more = inr is
    at Greater (inl is) more = inl is
    at Greater (inr there) more = inr (more there)

each_stays : (made : Table) (ts us : List Table) → EachTable (StaysAmong ts) us
    → EachTable (StaysAmong (with_table made ts)) us
each_stays made ts [] each = tt
each_stays made ts (u ∷ us) each = (stays_in made ts u each.0, each_stays made ts us each.1)

pub all_stay : (made ts us : List Table) → EachTable (StaysAmong ts) us
    → EachTable (StaysAmong (with_tables made ts)) us
all_stay [] ts us each = each
all_stay (m ∷ made) ts us each = each_stays m (with_tables made ts) us (all_stay made ts us each)

pub made_stay : (made ts : List Table) → EachTable (StaysAmong (with_tables made ts)) made
made_stay [] ts = tt
made_stay (m ∷ made) ts = (
  stays_itself m (with_tables made ts),
  each_stays m (with_tables made ts) made (made_stay made ts),
)

module _ (coding : Coding) (size : ℕ) (f g : Facts) (h : AllCells) (t : ℕ) (r : Reading)
    (catalog : Table) (made tables : List Table) (raised : RaisesFacts f g t)
    (records : AreRecords coding f h r) (names : HasNames size f r catalog tables)
    (makes : MakesRows size f g t r catalog made (λ chosen. (names.lawful chosen).rows)) where
  -- ---- who counts

  alike : (chosen : ℕ → Bool) (u : ℕ) → u ≢ t → committed_with g chosen u ≡ committed_with f chosen u
  alike chosen u ne =
      ap (λ (s : TxState). is_committed s || (is_limbo s && chosen u)) (raised.raises.others u ne)

  its_out : (chosen : ℕ → Bool) → committed_with f chosen t ≡ false
  its_out chosen = rw raised.raises.dead refl

  backs_alike : (chosen : ℕ → Bool) (es : List Entry) → Each (λ d. f.state (writer d) ≡ Committed) es
      → Each (λ d. committed_with g chosen (writer d) ≡ committed_with f chosen (writer d)) es
  backs_alike chosen [] backs = tt
  backs_alike chosen (d ∷ ds) backs = (
    alike chosen (writer d) (λ is. let both : Dead ≡ Committed = sym raised.raises.dead
        ∙ (ap f.state (sym is) ∙ backs.0) in absurd cc),
    backs_alike chosen ds backs.1,
  )

  -- A record's newest version is the transaction's.
  record IsNewest (p : RecId) : Type 0 where
    e : Entry
    has : HasLimbo g r p catalog e
    its : writer e ≡ t

  -- otherwise it shows what it showed
  newest_or_not : (chosen : ℕ → Bool) (p : RecId) → table_in f p ≡ Some catalog
      → IsNewest p ⊎ (shown (committed_with g chosen) (r p) ≡ shown (committed_with f chosen) (r p))
  newest_or_not chosen p of = by (r p) refl (records.each p catalog of).backs
    where
      by : (es : List Entry) → r p ≡ es → EachBack (λ d. f.state (writer d) ≡ Committed) es
          → IsNewest p ⊎ (shown (committed_with g chosen) es ≡ shown (committed_with f chosen) es)
      by [] is backs = inr refl
      by (e ∷ es) is backs = at (cases_eq (writer e) t)
        where
          at : (writer e ≡ t) ⊎ (writer e ≢ t) → IsNewest p
              ⊎ (shown (committed_with g chosen) (e ∷ es) ≡ shown (committed_with f chosen) (e ∷ es))
          at (inl its) = inl (record {
            e = e;
            has = record {
              of_table = raised.tables p ∙ of;
              older = es;
              newest = is;
              limbo = ap g.state its ∙ raised.raises.limbo;
            };
            its = its;
          })
          at (inr ne) = inr (shown_alike (committed_with f chosen) (committed_with g chosen) (e ∷ es)
              (alike chosen (writer e) ne, backs_alike chosen es backs))

  -- ---- the rows of a choice

  module _ (chosen : ℕ → Bool) (old : Rows) (are : AreRows f (committed_with f chosen) r catalog old)
      (free : (key : Value) (row : Row) → makes.rows key ≡ Some row → old key ≡ None)
      (with_it : chosen t ≡ true) where
    abbrev new : Rows
    new = joined_rows old makes.rows

    new_of_old : (key : Value) (row : Row) → old key ≡ Some row → new key ≡ Some row
    new_of_old key row is = ap (λ (x : Option Row). row_either x (makes.rows key)) is

    new_of_made : (key : Value) (row : Row) → makes.rows key ≡ Some row → new key ≡ Some row
    new_of_made key row is = ap (λ (x : Option Row). row_either x (makes.rows key)) (free key row is) ∙ is

    of_new : (key : Value) (row : Row) → new key ≡ Some row
        → (old key ≡ Some row) ⊎ (makes.rows key ≡ Some row)
    of_new key row is = at (old key) refl is
      where
        at : (x : Option Row) → old key ≡ x → row_either x (makes.rows key) ≡ Some row
            → (old key ≡ Some row) ⊎ (makes.rows key ≡ Some row)
        at None none is_ = inr is_
        at (Some a) here is_ = inl (here ∙ is_)

    its_row : (p : RecId) (e : Entry) → HasLimbo g r p catalog e → writer e ≡ t
        → shown (committed_with g chosen) (r p) ≡ Some e.row
    its_row p e has its = ap (shown (committed_with g chosen)) has.newest
        ∙ rw (counts, (makes.newest p e has its).0) refl
      where
        counts : committed_with g chosen (writer e) ≡ true
        counts = ap (committed_with g chosen) its ∙ rw (raised.raises.limbo, with_it) refl

    pub rows_with : AreRows g (committed_with g chosen) r catalog new
    rows_with = record {
      there = λ p row shows. there p row shows
          (newest_or_not chosen p (sym (raised.tables p) ∙ shows.of_table));
      whole = λ key row is. whole key row (of_new key row is);
    }
      where
        there : (p : RecId) (row : Row) → Shows g (committed_with g chosen) r p catalog row
            → IsNewest p ⊎ (shown (committed_with g chosen) (r p) ≡ shown (committed_with f chosen) (r p))
            → new (key_of catalog row) ≡ Some row
        there p row shows (inl it) =
            let same : Some it.e.row ≡ Some row = sym (its_row p it.e it.has it.its) ∙ shows.row_shown in
            let is : it.e.row ≡ row = cc in
            new_of_made (key_of catalog row) row (subst (λ (x : Row). makes.rows (key_of catalog x) ≡ Some x)
            is (makes.newest p it.e it.has it.its).1)
        there p row shows (inr same) = new_of_old (key_of catalog row) row (are.there p row (record {
          of_table = sym (raised.tables p) ∙ shows.of_table;
          row_shown = sym same ∙ shows.row_shown;
        }))

        from_old : (key : Value) (row : Row) (p : RecId) → Shows f (committed_with f chosen) r p catalog row
            → key_of catalog row ≡ key
            → IsNewest p ⊎ (shown (committed_with g chosen) (r p) ≡ shown (committed_with f chosen) (r p))
            → (q : RecId) × Shows g (committed_with g chosen) r q catalog row × (key_of catalog row ≡ key)
        from_old key row p shows keyed (inl it) =
            let both : None ≡ Some row = sym (makes.first p it.e it.has it.its chosen) ∙ shows.row_shown in
            absurd cc
        from_old key row p shows keyed (inr same) = (
          p,
          record { of_table = raised.tables p ∙ shows.of_table; row_shown = same ∙ shows.row_shown },
          keyed,
        )

        whole : (key : Value) (row : Row) → (old key ≡ Some row) ⊎ (makes.rows key ≡ Some row)
            → (p : RecId) × Shows g (committed_with g chosen) r p catalog row × (key_of catalog row ≡ key)
        whole key row (inl is) = on (are.whole key row is)
          where
            on : (p : RecId) × Shows f (committed_with f chosen) r p catalog row
                × (key_of catalog row ≡ key)
                → (q : RecId) × Shows g (committed_with g chosen) r q catalog row
                × (key_of catalog row ≡ key)
            on (p, shows, keyed) = from_old key row p shows keyed (newest_or_not chosen p shows.of_table)
        whole key row (inr is) = on (makes.whole key row is)
          where
            on : (p : RecId) × (e : Entry) × HasLimbo g r p catalog e × (writer e ≡ t) × (e.row ≡ row)
                × (key_of catalog row ≡ key)
                → (q : RecId) × Shows g (committed_with g chosen) r q catalog row
                × (key_of catalog row ≡ key)
            on (p, e, has, its, same, keyed) = (
              p,
              record {
                of_table = has.of_table;
                row_shown = its_row p e has its ∙ ap (λ (x : Row). Some x) same;
              },
              keyed,
            )

    pub names_with : (ts : List Table) → AreTables old ts → EachTable (FitsPages size) ts
        → CatalogNames size g (committed_with g chosen) r catalog (with_tables made ts)
    names_with ts are_tables fit = record {
      rows = new;
      are_rows = rows_with;
      are_tables = join_names old makes.rows new ts made (record {
        first = new_of_old;
        second = new_of_made;
        whole = of_new;
        lawful = are_tables.lawful;
        also = makes.alone.lawful;
        apart = λ name a b is other.
            let both : None ≡ Some a = sym (free (table_key name) b other) ∙ is in absurd cc;
      }) are_tables makes.alone;
      fit = each_of_all (FitsPages size) made ts makes.fits fit;
    }

  -- ---- every choice

  abbrev pub named_more : (ℕ → Bool) → List Table
  named_more chosen = if chosen t then with_tables made (names.named chosen) else names.named chosen

  all_free : (key : Value) (row : Row) → makes.rows key ≡ Some row → names.all.rows key ≡ None
  all_free key row is = at (names.all.rows key) refl
    where
      everyone : ℕ → Bool
      everyone u = true

      never : (other : Row)
          → (p : RecId) × Shows f (committed_with f everyone) r p catalog other
          × (key_of catalog other ≡ key) → ⊥
      never other (p, shows, keyed) =
          let there : (names.lawful everyone).rows (key_of catalog other) ≡ Some other =
          (names.lawful everyone).are_rows.there p other shows in
          let both : None ≡ Some other = sym (makes.free everyone key row is)
          ∙ (ap (names.lawful everyone).rows (sym keyed) ∙ there) in absurd cc

      at : (x : Option Row) → names.all.rows key ≡ x → names.all.rows key ≡ None
      at None none = none
      at (Some other) some = absurd (never other (names.all.are_rows.whole key other some))

  pub names_more : NamesMore size g t r catalog names.named (with_tables made tables)
  names_more = record {
    named = named_more;
    same = λ chosen off. off_is chosen (chosen t) off;
    lawful = λ chosen on. subst (CatalogNames size g (committed_with g chosen) r catalog)
        (sym (on_is chosen (chosen t) on))
        (names_with chosen (names.lawful chosen).rows (names.lawful chosen).are_rows (makes.free chosen) on
        (names.named chosen) (names.lawful chosen).are_tables (names.lawful chosen).fit);
    all = names_with (λ u. true) names.all.rows names.all.are_rows all_free refl tables names.all.are_tables
        names.all.fit;
    stay = λ chosen more within. stay chosen more (chosen t) refl (more t) refl within
        (names.stay chosen more within);
  }
    where
      off_is : (chosen : ℕ → Bool) (b : Bool) → b ≡ false
          → (if b then with_tables made (names.named chosen) else names.named chosen) ≡ names.named chosen
      off_is chosen true is = absurd cc
      off_is chosen false is = refl

      on_is : (chosen : ℕ → Bool) (b : Bool) → b ≡ true
          → (if b then with_tables made (names.named chosen) else names.named chosen)
          ≡ with_tables made (names.named chosen)
      on_is chosen true is = refl
      on_is chosen false is = absurd cc

      stay : (chosen more : ℕ → Bool) (a : Bool) → chosen t ≡ a → (b : Bool) → more t ≡ b
          → IsWithin chosen more
          → EachTable (StaysAmong (names.named more)) (names.named chosen)
          → EachTable (StaysAmong (if b then with_tables made (names.named more) else names.named more))
          (if a then with_tables made (names.named chosen) else names.named chosen)
      stay chosen more true on false off within each =
          let both : true ≡ false = sym (within t on) ∙ off in absurd cc
      stay chosen more true on true is within each = each_of_all
          (StaysAmong (with_tables made (names.named more))) made (names.named chosen)
          (made_stay made (names.named more)) (all_stay made (names.named more) (names.named chosen) each)
      stay chosen more false off true is within each =
          all_stay made (names.named more) (names.named chosen) each
      stay chosen more false off false is within each = each

-- ---- the law

-- Where a transaction's own rows of the catalog say tables, and it comes to be in limbo, the catalog
-- names them under each choice that has it, each in its place.
abbrev pub MakersName : Coding → Type 0
MakersName coding = (size : ℕ) (f g : Facts) (h : AllCells) (t : ℕ) (r : Reading) (catalog : Table)
    (made tables : List Table) → RaisesFacts f g t → AreRecords coding f h r
    → (names : HasNames size f r catalog tables)
    → MakesRows size f g t r catalog made (λ chosen. (names.lawful chosen).rows)
    → NamesMore size g t r catalog names.named (with_tables made tables)

pub makers_name : (coding : Coding) → MakersName coding
makers_name coding size f g h t r catalog made tables raised records names makes =
    names_more coding size f g h t r catalog made tables raised records names makes
