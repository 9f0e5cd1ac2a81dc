-- The pages of a new database: its transactions, the cells of its records, and that no page is reached twice.
use Rattle.std.proofs.Common.{◌≡◌, ◌≢◌, ◌⊎◌, ◌<◌, ◌≤◌, ◌+◌, ◌-◌, ◌/◌, ◌==◌, ◌||◌, inl, inr, refl, sym, ap, subst, ◌∙◌, lit<, arith, ℕ, zero, suc, Bool, true, false, List, [], ◌∷◌, ◌++◌, get_or, Option, None, Some}
use Rattle.std.proofs.Math.Nat.{zero-div}
use Rattle.std.proofs.lemmas.Bool.{cases_eq, cases_lt, eq-eqb, le-ltb, ne_eqb}
use Rattle.std.specs.List.{flat_map}
use Rattle.std.specs.Prelude.{if◌then◌else◌, nat_lt}
use Rattle.mg_base.specs.Fields.{u32_at}
use Rattle.mg_base.specs.Geometry.{is_page_size}
use Rattle.mg_base.specs.Image.{Image, page_at}
use Rattle.mg_base.specs.declared.transaction.TxState.{TxState}
use Rattle.mg_base.specs.declared.transaction.TxState.TheVariants.{Committed, Dead, Limbo}
use Rattle.mg_format.specs.Format.{IsMade}
use Rattle.mg_image.specs.Form.{Pages, packed_coding}
use Rattle.mg_image.specs.Inventory.{bits_state, header_of, last_sequence, next_of, settled, state_at, tip_before, tip_page}
use Rattle.mg_image.specs.NewDatabase.{IsNewCatalogPage, first_data_page, new_header_page, record_cells}
use Rattle.mg_image.specs.Reached.{linked_pages, tips_below, tips_of}
use Rattle.mg_image.specs.Records.{cells_of, slot_cell}
use Rattle.mg_image.specs.Sound.{facts_of}
use Rattle.mg_image.specs.Tables.{Has, IsOnce, has, pages_of, stands_of}
use Rattle.mg_slots.specs.DataPage.{cell_of}
use Rattle.mg_space.specs.TakingLaws.{page_sizes}
use Rattle.mg_tip.specs.TipPage.{places}
use Rattle.mg_version.specs.Cells.{cell_bytes}
use Rattle.mg_new_database_laws.specs.CatalogCellLaws.{catalog_cell, catalog_past}
use Rattle.mg_new_database_laws.specs.EmptyLaws.{new_are_empty}
use Rattle.mg_new_database_laws.specs.RowCellLaws.{key_body_is, table_body_is, value_body_is}
use Rattle.mg_new_database_laws.specs.HeaderLaws.{catalog_is, last_tip_is, next_is}
use Rattle.mg_new_database_laws.specs.NewDatabase.{Bodies, catalog_slot, cell_at, new_layout}
use Rattle.mg_new_database_laws.specs.RecordLaws.{IsNewImage}

-- ---- cells

abbrev cells_said : Bodies → List (List ℕ)
cells_said b = record_cells 0 b.table ++ record_cells 2 b.key ++ record_cells 4 b.value

said_again : (b : Bodies) (slot : ℕ) → slot < 6
    → slot_cell (Some (get_or (cells_said b) slot [])) ≡ cell_at b slot
unfolding cell_bytes
said_again b zero low = refl
said_again b (suc zero) low = refl
said_again b (suc (suc zero)) low = refl
said_again b (suc (suc (suc zero))) low = refl
said_again b (suc (suc (suc (suc zero)))) low = refl
said_again b (suc (suc (suc (suc (suc zero))))) low = refl
said_again b (suc (suc (suc (suc (suc (suc slot)))))) low = absurd (omega (arith, low))

none_at : (b : Bodies) (slot : ℕ) → 6 ≤ slot → slot_cell None ≡ cell_at b slot
none_at b zero past = absurd (omega (arith, past))
none_at b (suc zero) past = absurd (omega (arith, past))
none_at b (suc (suc zero)) past = absurd (omega (arith, past))
none_at b (suc (suc (suc zero))) past = absurd (omega (arith, past))
none_at b (suc (suc (suc (suc zero)))) past = absurd (omega (arith, past))
none_at b (suc (suc (suc (suc (suc zero))))) past = absurd (omega (arith, past))
none_at b (suc (suc (suc (suc (suc (suc slot)))))) past = refl

-- ---- which numbers are among others

not_has : (ns : List ℕ) (n : ℕ) → has ns n ≡ false → Has ns n → ⊥
not_has [] n no_ there = there
not_has (m ∷ ms) n no_ (inl e) = clash (n == m) (has ms n) (eq-eqb n m e) no_
  where
    clash : (a b : Bool) → a ≡ true → (a || b) ≡ false → ⊥
    clash true b i e = absurd cc
    clash false b i e = absurd cc
not_has (m ∷ ms) n no_ (inr there) = not_has ms n (behind (n == m) (has ms n) no_) there
  where
    behind : (a b : Bool) → (a || b) ≡ false → b ≡ false
    behind true b e = absurd cc
    behind false b e = e

module _ (size : ℕ) (image : Image) (lawful : is_page_size size ≡ true) (made : IsMade size image) where
  abbrev pages : Pages
  pages = page_at size image

  pub least : 1024 ≤ size
  least = (page_sizes size lawful).0

  most : size ≤ 16384
  most = (page_sizes size lawful).1

  abbrev pub catalog_page : IsNewCatalogPage packed_coding size (page_at size image 4)
  catalog_page = made 4 (lit< tt)

  abbrev pub bodies : Bodies
  bodies = record { table = catalog_page.table; key = catalog_page.key; value = catalog_page.value }

  -- ---- the header's numbers

  header : pages 0 ≡ new_header_page size
  header = made 0 (lit< tt)

  pub next : next_of pages ≡ 1
  next = ap (λ (b : List ℕ). u32_at b 28) header ∙ next_is size least most

  pub catalog_at : (header_of pages).catalog.0 ≡ 3
  catalog_at = ap (λ (b : List ℕ). u32_at b 52) header ∙ catalog_is size least most

  last : last_sequence size pages ≡ 0
  last = ap (λ (n : ℕ). (n - 1) / places size) next ∙ zero-div (places size)

  last_tip : (header_of pages).last_tip.0 ≡ 2
  last_tip = ap (λ (b : List ℕ). u32_at b 44) header ∙ last_tip_is size least most

  tip_is : tip_page size pages 0 ≡ 2
  tip_is = ap (λ (n : ℕ). tip_before pages (header_of pages).last_tip.0 (n - 0)) last ∙ last_tip

  -- ---- what has become of transactions

  pub system_committed : state_at size pages 0 ≡ Committed
  unfolding state_at
  system_committed = refl

  pub others_dead : (t : ℕ) → t ≢ 0 → state_at size pages t ≡ Dead
  unfolding state_at
  others_dead t other =
      dead (t == 0) (nat_lt t (next_of pages)) (settled (bits_state size pages t)) (ne_eqb t 0 other)
      (le-ltb t (next_of pages) (omega (arith, next, other)))
    where
      dead : (zero_ below : Bool) (state : TxState) → zero_ ≡ false → below ≡ false
          → (if zero_ then Committed else (if below then state else Dead)) ≡ Dead
      dead zero_ below state i j = rw (i, j) refl

  pub none_in_limbo : (t : ℕ) → state_at size pages t ≡ Limbo → ⊥
  none_in_limbo t limbo = at (cases_eq t 0)
    where
      at : (t ≡ 0) ⊎ (t ≢ 0) → ⊥
      at (inl e) = let is : state_at size pages t ≡ Committed = ap (state_at size pages) e ∙ system_committed in
          absurd cc
      at (inr ne) = let is = others_dead t ne in absurd cc

  -- ---- no page is reached twice

  pub new_once : IsOnce (linked_pages size pages new_layout)
  new_once = subst (λ (first : List ℕ).
      IsOnce (first ++ flat_map pages_of (stands_of new_layout) ++ new_layout.sequences)) (sym tips) once
    where
      one : ℕ → List ℕ
      one n = n ∷ []

      tips : tips_of size pages ≡ 2 ∷ []
      tips = ap (λ (n : ℕ). tips_below size pages (n + 1)) last ∙ ap one tip_is

      once : IsOnce (2 ∷ 3 ∷ 4 ∷ 5 ∷ 6 ∷ [])
      once = (
        not_has (3 ∷ 4 ∷ 5 ∷ 6 ∷ []) 2 refl,
        (
          not_has (4 ∷ 5 ∷ 6 ∷ []) 3 refl,
          (not_has (5 ∷ 6 ∷ []) 4 refl, (not_has (6 ∷ []) 5 refl, (not_has [] 6 refl, tt))),
        ),
      )

  -- ---- the cells of records

  catalog_cells : (slot : ℕ) → cells_of pages (catalog_slot slot) ≡ cell_at bodies slot
  catalog_cells slot = at (cases_lt slot 6)
    where
      here : (x : Option (List ℕ))
          → cell_of (first_data_page size 4 3 (cells_said bodies)) slot ≡ x → slot_cell x ≡ cell_at bodies slot
          → cells_of pages (catalog_slot slot) ≡ cell_at bodies slot
      here x is said = ap (λ (b : List ℕ). slot_cell (cell_of b slot)) catalog_page.bytes
          ∙ (ap slot_cell is ∙ said)

      at : (slot < 6) ⊎ (6 ≤ slot) → cells_of pages (catalog_slot slot) ≡ cell_at bodies slot
      at (inl low) = here (Some (get_or (cells_said bodies) slot []))
          (catalog_cell size catalog_page.table catalog_page.key catalog_page.value least most
          (table_body_is catalog_page.table catalog_page.codes_table)
          (key_body_is catalog_page.key catalog_page.codes_key)
          (value_body_is catalog_page.value catalog_page.codes_value) slot low)
          (said_again bodies slot low)
      at (inr past) = here None
          (catalog_past size catalog_page.table catalog_page.key catalog_page.value least most
          (table_body_is catalog_page.table catalog_page.codes_table)
          (key_body_is catalog_page.key catalog_page.codes_key)
          (value_body_is catalog_page.value catalog_page.codes_value) slot past)
          (none_at bodies slot past)

  -- what the records of a new database need to know
  pub new_image : IsNewImage bodies (facts_of size pages new_layout) (cells_of pages)
  new_image = record {
    coded = record {
      table = catalog_page.codes_table;
      key = catalog_page.codes_key;
      value = catalog_page.codes_value;
    };
    system = system_committed;
    next = next;
    tables = λ n. refl;
    catalog = catalog_cells;
    kv = λ p e. ap slot_cell (ap (λ (n : ℕ). cell_of (pages n) p.slot) e
        ∙ (new_are_empty size image lawful made).none p.slot);
  }
