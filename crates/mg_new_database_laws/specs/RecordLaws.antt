-- What is read of a new database: its records are lawful.
use Rattle.std.proofs.Common.{◌≡◌, ◌≢◌, ◌⊎◌, ◌<◌, ◌-◌, ◌==◌, inl, inr, refl, sym, ap, subst, ◌∙◌, lit<, arith, ℕ, zero, suc, List, [], ◌∷◌, Option, None, Some}
use Rattle.std.specs.Int.{w64}
use Rattle.std.specs.Prelude.{FitsSigned, ◌^◌, pos, if◌then◌else◌}
use Rattle.std.proofs.lemmas.Bool.{cases_eq, ne_eqb}
use Rattle.mg_base.specs.Fields.{byte}
use Rattle.mg_base.specs.declared.numbers.RecId.{RecId}
use Rattle.mg_base.specs.declared.transaction.TxState.TheVariants.{Committed}
use Rattle.mg_value.specs.Values.{bytes_of}
use Rattle.mg_value.specs.declared.value.Value.{Value}
use Rattle.mg_rowcode.specs.Storable.{AreStorable}
use Rattle.mg_model.specs.declared.table.Table.{Table}
use Rattle.mg_image.specs.Catalog.{catalog_table}
use Rattle.mg_image.specs.Form.{Row, packed_coding}
use Rattle.mg_image.specs.NewDatabase.{IsCatalogBody, key_row, table_row, value_row}
use Rattle.mg_image.specs.RecordRules.{AreRecords, Facts, IsRecord, IsVersion, TakesKey, table_in}
use Rattle.mg_image.specs.Records.{Cells, Chain, Stands, ended, goes, key_of, newest_of, record_key}
use Rattle.mg_image.specs.Tables.{stands_of, table_at}
use Rattle.mg_new_database_laws.specs.NewDatabase.{AreCoded, Bodies, catalog_entries, catalog_slot, cell_at, new_layout, new_reading, system_entry, system_link}

-- What the records of a new database need to know of its pages, and the cells that it has.
pub record IsNewImage (b : Bodies) (f : Facts) (h : Cells) : Type 0 where
  pub coded : AreCoded b
  pub system : f.state 0 ≡ Committed
  pub next : f.next ≡ 1
  pub tables : (n : ℕ) → f.table_of n ≡ table_at (stands_of new_layout) n
  pub catalog : (slot : ℕ) → h (catalog_slot slot) ≡ cell_at b slot
  pub kv : (p : RecId) → p.page.0 ≡ 6 → h p ≡ None

-- ---- places

abbrev pub cat : Table
cat = catalog_table 3

-- a place is a slot of the catalog's data page, or is read as no record
pub by_place : (b : Bodies) (P : RecId → Type 0) → ((slot : ℕ) → P (catalog_slot slot))
    → ((p : RecId) → p.page.0 ≢ 4 → new_reading b p ≡ [] → P p) → (p : RecId) → P p
by_place b P here elsewhere p = at (cases_eq p.page.0 4)
  where
    at : (p.page.0 ≡ 4) ⊎ (p.page.0 ≢ 4) → P p
    at (inl e) = subst P (ap (λ (n : ℕ). place n p.slot) (sym e)) (here p.slot)
      where
        place : ℕ → ℕ → RecId
        place n slot = record { page = record { 0 = n }; slot = slot }
    at (inr ne) = elsewhere p ne (rw (ne_eqb p.page.0 4 ne) refl)

abbrev some : Table → Option Table
some table = Some table

one_of : (a b : Table) → some a ≡ some b → b ≡ a
one_of a b e = ap (value cat) (sym e)
  where
    value : Table → Option Table → Table
    value table None = table
    value table (Some other) = other

-- ---- rows

small : (n : ℕ) → n < 2 ^ 16 → FitsSigned w64 (pos n)
small n below = record { sfits = omega arith }

table_row_storable : AreStorable table_row
table_row_storable = (
  lit< tt,
  (tt, (small 5 (lit< tt), (small 2 (lit< tt), (small 0 (lit< tt), (small 0 (lit< tt), tt))))),
)

key_row_storable : AreStorable key_row
key_row_storable = (
  lit< tt,
  (lit< tt, (small 0 (lit< tt), (small 3 (lit< tt), (small 1 (lit< tt), (small 0 (lit< tt), tt))))),
)

value_row_storable : AreStorable value_row
value_row_storable = (
  lit< tt,
  (lit< tt, (small 0 (lit< tt), (small 0 (lit< tt), (small 1 (lit< tt), (small 1 (lit< tt), tt))))),
)

-- the slot of the record with a key
abbrev slot_of_key : Value → ℕ
slot_of_key key =
    if byte (bytes_of key) 0 == 84 then 0 else (if byte (bytes_of key) 5 == 48 then 2 else 4)

module _ (b : Bodies) (f : Facts) (h : Cells) (new : IsNewImage b f h) where
  -- the table of a slot of the catalog's data page is the catalog
  pub catalog_of : (slot : ℕ) (table : Table) → table_in f (catalog_slot slot) ≡ Some table → table ≡ cat
  catalog_of slot table is = one_of cat table (sym (new.tables 4) ∙ is)

  -- and that of no other page
  not_catalog : (p : RecId) → p.page.0 ≢ 4 → (p.page.0 ≡ 6) ⊎ (table_in f p ≡ None)
  not_catalog p other = at (cases_eq p.page.0 6)
    where
      at : (p.page.0 ≡ 6) ⊎ (p.page.0 ≢ 6) → (p.page.0 ≡ 6) ⊎ (table_in f p ≡ None)
      at (inl e) = inl e
      at (inr ne) = inr (new.tables p.page.0 ∙ rw (ne_eqb p.page.0 4 other, ne_eqb p.page.0 6 ne) refl)

  -- ---- chains

  reads_catalog : (slot : ℕ) → Chain h (newest_of (catalog_slot slot) (cell_at b slot)) (catalog_entries b slot)
  reads_catalog zero =
      goes (system_link 1) (system_entry 1 b.table table_row) [] refl (new.catalog 1) refl ended
  reads_catalog (suc zero) = ended
  reads_catalog (suc (suc zero)) =
      goes (system_link 3) (system_entry 3 b.key key_row) [] refl (new.catalog 3) refl ended
  reads_catalog (suc (suc (suc zero))) = ended
  reads_catalog (suc (suc (suc (suc zero)))) =
      goes (system_link 5) (system_entry 5 b.value value_row) [] refl (new.catalog 5) refl ended
  reads_catalog (suc (suc (suc (suc (suc zero))))) = ended
  reads_catalog (suc (suc (suc (suc (suc (suc slot)))))) = ended

  new_reads : (p : RecId) (table : Table) → table_in f p ≡ Some table
      → Chain h (newest_of p (h p)) (new_reading b p)
  new_reads = by_place b (λ p. (table : Table) → table_in f p ≡ Some table
      → Chain h (newest_of p (h p)) (new_reading b p)) here elsewhere
    where
      here : (slot : ℕ) (table : Table) → table_in f (catalog_slot slot) ≡ Some table
          → Chain h (newest_of (catalog_slot slot) (h (catalog_slot slot))) (catalog_entries b slot)
      here slot table is = rw (new.catalog slot) (reads_catalog slot)

      elsewhere : (p : RecId) → p.page.0 ≢ 4 → new_reading b p ≡ [] → (table : Table)
          → table_in f p ≡ Some table → Chain h (newest_of p (h p)) (new_reading b p)
      elsewhere p other none table is = at (not_catalog p other)
        where
          at : (p.page.0 ≡ 6) ⊎ (table_in f p ≡ None) → Chain h (newest_of p (h p)) (new_reading b p)
          at (inl e) = rw (new.kv p e, none) ended
          at (inr no_table) = absurd cc

  -- ---- records

  -- the one version of a record of the catalog
  is_version : (slot : ℕ) (body : List ℕ) (row : Row) → IsCatalogBody packed_coding row body → AreStorable row
      → IsVersion packed_coding f cat (key_of cat row) (system_entry slot body row)
  is_version slot body row coded storable = record {
    placed = new.tables 4;
    drawn = rw new.next (lit< tt);
    dead = λ dead. absurd (let live = new.system in cc);
    format = refl;
    spelled = coded;
    storable = storable;
    erased = λ deleted. absurd cc;
    keyed = refl;
  }

  one_version : (slot : ℕ) (body : List ℕ) (row : Row) → IsCatalogBody packed_coding row body → AreStorable row
      → IsRecord packed_coding f cat (system_entry slot body row ∷ [])
  one_version slot body row coded storable = record {
    once = ((λ none. none), tt);
    each = (is_version slot body row coded storable, tt);
    backs = tt;
  }

  no_version : (table : Table) → IsRecord packed_coding f table []
  no_version table = record { once = tt; each = tt; backs = tt }

  catalog_records : (slot : ℕ) → IsRecord packed_coding f cat (catalog_entries b slot)
  catalog_records zero = one_version 1 b.table table_row new.coded.table table_row_storable
  catalog_records (suc zero) = no_version cat
  catalog_records (suc (suc zero)) = one_version 3 b.key key_row new.coded.key key_row_storable
  catalog_records (suc (suc (suc zero))) = no_version cat
  catalog_records (suc (suc (suc (suc zero)))) =
      one_version 5 b.value value_row new.coded.value value_row_storable
  catalog_records (suc (suc (suc (suc (suc slot))))) = no_version cat

  new_each : (p : RecId) (table : Table) → table_in f p ≡ Some table
      → IsRecord packed_coding f table (new_reading b p)
  new_each = by_place b (λ p. (table : Table) → table_in f p ≡ Some table
      → IsRecord packed_coding f table (new_reading b p))
      (λ slot table is. rw (catalog_of slot table is) (catalog_records slot))
      (λ p other none table is. rw none (no_version table))

  new_outside : (p : RecId) → table_in f p ≡ None → new_reading b p ≡ []
  new_outside = by_place b (λ p. table_in f p ≡ None → new_reading b p ≡ [])
      (λ slot none. absurd (let there = new.tables 4 in cc)) (λ p other none no_table. none)

  -- ---- which record is which

  -- the record that a cell belongs to
  owner_is : (x p : RecId) → Stands (new_reading b p) x → p ≡ catalog_slot (x.slot - 1)
  owner_is x = by_place b (λ p. Stands (new_reading b p) x → p ≡ catalog_slot (x.slot - 1)) here
      (λ p other none stands. absurd (rw none at stands))
    where
      before : (slot : ℕ) → catalog_slot slot ≡ x → catalog_slot (slot - 1) ≡ catalog_slot (x.slot - 1)
      before slot e = ap (λ (y : RecId). catalog_slot (y.slot - 1)) e

      here : (slot : ℕ) → Stands (catalog_entries b slot) x → catalog_slot slot ≡ catalog_slot (x.slot - 1)
      here zero (inl e) = before 1 e
      here zero (inr none) = absurd none
      here (suc zero) none = absurd none
      here (suc (suc zero)) (inl e) = before 3 e
      here (suc (suc zero)) (inr none) = absurd none
      here (suc (suc (suc zero))) none = absurd none
      here (suc (suc (suc (suc zero)))) (inl e) = before 5 e
      here (suc (suc (suc (suc zero)))) (inr none) = absurd none
      here (suc (suc (suc (suc (suc slot))))) none = absurd none

  takes_none : TakesKey f [] → ⊥
  takes_none (inl shows) = absurd (let none = shows.1 in cc)
  takes_none (inr limbo) = limbo

  key_place : (p : RecId) (table : Table) → table_in f p ≡ Some table → TakesKey f (new_reading b p)
      → p ≡ catalog_slot (slot_of_key (record_key table (new_reading b p)))
  key_place = by_place b (λ p. (table : Table) → table_in f p ≡ Some table → TakesKey f (new_reading b p)
      → p ≡ catalog_slot (slot_of_key (record_key table (new_reading b p))))
      (λ slot table is takes. rw (catalog_of slot table is) (here slot takes))
      (λ p other none table is takes. absurd (takes_none (rw none at takes)))
    where
      here : (slot : ℕ) → TakesKey f (catalog_entries b slot)
          → catalog_slot slot ≡ catalog_slot (slot_of_key (record_key cat (catalog_entries b slot)))
      here zero takes = refl
      here (suc zero) takes = absurd (takes_none takes)
      here (suc (suc zero)) takes = refl
      here (suc (suc (suc zero))) takes = absurd (takes_none takes)
      here (suc (suc (suc (suc zero)))) takes = refl
      here (suc (suc (suc (suc (suc slot))))) takes = absurd (takes_none takes)

  -- the records that are read are lawful
  pub new_records : AreRecords packed_coding f h (new_reading b)
  new_records = record {
    reads = new_reads;
    outside = new_outside;
    each = new_each;
    apart = λ p q x first second. owner_is x p first ∙ sym (owner_is x q second);
    keys = λ p q table of_p of_q takes also same. key_place p table of_p takes ∙
        (ap (λ (key : Value). catalog_slot (slot_of_key key)) same ∙ sym (key_place q table of_q also));
  }
