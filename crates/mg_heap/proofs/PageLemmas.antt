-- A page that is read, or made: how long it is, and why it is not had.
use Rattle.std.proofs.Common.{◌≡◌, ◌≤◌, ◌<◌, ◌+◌, ◌++◌, ◌∙◌, ◌^◌, ℕ, true, List, Option, None, Some, ap, arith, drop, inl, inr, length, subst, sym, take}
use Rattle.std.proofs.lemmas.List.{length-replicate}
use Rattle.std.specs.Prelude.{Result, Ok, Err, IfSome, IsErrAnd}
use Rattle.mg_base.specs.Disk.{Meaning}
use Rattle.mg_base.specs.Geometry.{is_page_size}
use Rattle.mg_base.specs.Image.{blank}
use Rattle.mg_base.specs.declared.damage.Damaged.{Damaged}
use Rattle.mg_base.specs.declared.numbers.PageNo.{PageNo}
use Rattle.mg_base.specs.declared.numbers.RecId.{RecId}
use Rattle.mg_pointer.specs.PointerPage.{AddsEntry, new_pointer_page}
use Rattle.mg_pointer.specs.PointerPageLaws.{length-new_pointer_page}
use Rattle.mg_pool.specs.Batch.{Changed, PutsPage}
use Rattle.mg_pool.specs.declared.batch.BatchPage.{BatchPage}
use Rattle.mg_pool.specs.declared.pool.Pool.{Pool}
use Rattle.mg_slots.specs.Damage.{IsFirstDamage}
use Rattle.mg_slots.specs.DataPage.{IsNewPage, cell_of}
use Rattle.mg_space.specs.TakingLaws.{page_sizes}
use Rattle.mg_space.specs.View.{RefusesRead}
use Rattle.mg_space.specs.declared.fault.SpaceFault.{SpaceFault}
use Rattle.mg_space.specs.declared.fault.SpaceFault.TheVariants as faults
use Rattle.mg_heap.specs.Growth.{MakesData, MakesPointer}
use Rattle.mg_heap.specs.Reading.{GivesCell, IsNoData, IsSomeData, ReadsData, RefusesData}
use Rattle.mg_heap.specs.Table.{RefusesPointerPage}
use Rattle.mg_heap.specs.Walk.{RefusesTableData}
use Rattle.mg_heap.proofs.ChangingLemmas.{written_back}

-- ---- a page is not read

module _ {D L : Type 0} (m : Meaning D) (store : Pool D L) (pages : List BatchPage) (page : PageNo) where
  reads_refused_as : (A T : Type 0) (fault : SpaceFault) → RefusesRead {T = A} m store pages page (Err fault)
      → ReadsData {T = T} (Err fault)
  reads_refused_as A T (faults.Full limit) refused = refused
  reads_refused_as A T (faults.Damaged damage) refused = tt
  reads_refused_as A T (faults.Pool fault) refused = refused

  pub reads_refused : {T : Type 0} (A : Type 0) (result : Result T SpaceFault) (fault : SpaceFault)
      → IsErrAnd result (λ given. given ≡ fault) → RefusesRead {T = A} m store pages page (Err fault)
      → ReadsData result
  reads_refused A (Ok x) fault is refused = tt
  reads_refused {T = T} A (Err e) fault is refused =
      subst (λ (f : SpaceFault). ReadsData {T = T} (Err f)) (sym is) (reads_refused_as A T fault refused)

  pub data_refused : (A : Type 0) (b : List ℕ) (fault : SpaceFault)
      → RefusesRead {T = A} m store pages page (Err fault) → RefusesData m store pages page b fault
  data_refused A b (faults.Full limit) refused = refused
  data_refused A b (faults.Damaged damage) refused = inl refused
  data_refused A b (faults.Pool fault) refused = tt

  pub pointer_refused : (A : Type 0) (b : List ℕ) (owner at : ℕ) (fault : SpaceFault)
      → RefusesRead {T = A} m store pages page (Err fault)
      → RefusesPointerPage m store pages b owner at page fault
  pointer_refused A b owner at (faults.Full limit) refused = refused
  pointer_refused A b owner at (faults.Damaged damage) refused = inl refused
  pointer_refused A b owner at (faults.Pool fault) refused = tt

  pub table_data_refused : (A : Type 0) (b : List ℕ) (owner at : ℕ) (fault : SpaceFault)
      → RefusesRead {T = A} m store pages page (Err fault)
      → RefusesTableData m store pages b owner at page fault
  table_data_refused A b owner at (faults.Full limit) refused = refused
  table_data_refused A b owner at (faults.Damaged damage) refused = inl refused
  table_data_refused A b owner at (faults.Pool fault) refused = tt

  -- a page that was read is not as wanted
  pub no_data_seen : (slice read b : List ℕ) (damage : Damaged) → slice ≡ read → read ≡ b
      → IsNoData page slice damage → RefusesData m store pages page b (faults.Damaged damage)
  no_data_seen slice read b damage same seen none =
      inr (subst (λ (x : List ℕ). IsNoData page x damage) (same ∙ seen) none)

  pub no_table_data_seen : (slice read b : List ℕ) (owner at : ℕ) (damage : Damaged) → slice ≡ read → read ≡ b
      → IsFirstDamage slice page owner at damage
      → RefusesTableData m store pages b owner at page (faults.Damaged damage)
  no_table_data_seen slice read b owner at damage same seen first =
      inr (subst (λ (x : List ℕ). IsFirstDamage x page owner at damage) (same ∙ seen) first)

-- ---- how long a page is

pub least_long : (slice read : List ℕ) (size : ℕ) → slice ≡ read → length read ≡ size
    → is_page_size size ≡ true → 1024 ≤ length slice
least_long slice read size same len lawful =
    let sizes = page_sizes size lawful in
    let least = sizes.0 in
    omega (arith, ap (length {A = ℕ}) same)

pub most_long : (slice read : List ℕ) (size : ℕ) → slice ≡ read → length read ≡ size
    → is_page_size size ≡ true → length slice ≤ 16384
most_long slice read size same len lawful =
    let sizes = page_sizes size lawful in
    let most = sizes.1 in
    omega (arith, ap (length {A = ℕ}) same)

pub some_long : (slice read : List ℕ) (size : ℕ) → slice ≡ read → length read ≡ size
    → is_page_size size ≡ true → 24 ≤ length slice
some_long slice read size same len lawful =
    let least = least_long slice read size same len lawful in omega (arith, least)

pub few_long : (slice read : List ℕ) (size : ℕ) → slice ≡ read → length read ≡ size
    → is_page_size size ≡ true → length slice ≤ 2 ^ 16
few_long slice read size same len lawful =
    let most = most_long slice read size same len lawful in omega (arith, most)

pub blank_len : (read : List ℕ) (size : ℕ) → read ≡ blank size → length read ≡ size
blank_len read size is = ap (length {A = ℕ}) is ∙ length-replicate {A = ℕ} size 0

-- ---- a cell that was read

pub short_cell : (found : Option (List ℕ)) (slice read : List ℕ) (size : ℕ) → slice ≡ read
    → length read ≡ size → is_page_size size ≡ true → IfSome found (λ c. length c ≤ length slice)
    → IfSome found (λ c. length c ≤ 16384)
short_cell None slice read size same len lawful short = tt
short_cell (Some c) slice read size same len lawful short =
    let most = most_long slice read size same len lawful in omega (arith, most, short)

pub cell_given : (at : RecId) (slice read b : List ℕ) (found : Option (List ℕ)) → IsSomeData at.page read
    → read ≡ b → slice ≡ read → found ≡ cell_of slice at.slot → GivesCell at b found
cell_given at slice read b found some seen same is = record {
  data_page = subst (IsSomeData at.page) seen some;
  is_cell = is ∙ ap (λ (x : List ℕ). cell_of x at.slot) (same ∙ seen);
}

-- a cell that fits a page is far shorter than any slice
pub fits_page : (len size : ℕ) → is_page_size size ≡ true → len + 24 ≤ size → len < 2 ^ 31
fits_page len size lawful fits =
    let sizes = page_sizes size lawful in
    let most = sizes.1 in
    omega (arith, most, fits)

-- ---- a page that was made in a buffer of zeros

module _ (size len : ℕ) (old new : Changed) (vec slice made put : List ℕ) (sliced : slice ≡ vec)
    (zeros : vec ≡ blank size) (back : put ≡ take len (made ++ drop (length made) vec)) where
  long : length slice ≡ size
  long = ap (length {A = ℕ}) sliced ∙ blank_len vec size zeros

  pub data_made : (owner place n : ℕ) (bytes : List ℕ) → len ≡ length made → bytes ≡ put
      → IsNewPage made (length slice) n owner place → PutsPage old new n put
      → MakesData size old new owner place n bytes
  data_made owner place n bytes same is made_is puts = record {
    made = subst (λ (b : List ℕ). IsNewPage b size n owner place)
        (sym (is ∙ written_back len made (drop (length made) vec) put same back))
        (subst (λ (k : ℕ). IsNewPage made k n owner place) long made_is);
    puts = subst (λ (b : List ℕ). PutsPage old new n b) (sym is) puts;
  }

  pub pointer_made : (owner at p n : ℕ) → len ≡ length slice
      → AddsEntry (new_pointer_page (length slice) p owner at) made n → PutsPage old new p put
      → MakesPointer size old new owner at p n
  pointer_made owner at p n same adds puts = record {
    page = put;
    adds = subst (λ (b : List ℕ). AddsEntry (new_pointer_page size p owner at) b n)
        (sym (written_back len made (drop (length made) vec) put
        (same ∙ sym (adds.len ∙ length-new_pointer_page (length slice) p owner at)) back))
        (subst (λ (k : ℕ). AddsEntry (new_pointer_page k p owner at) made n) long adds);
    puts = puts;
  }
