-- What stands on pages that stay as they are.
use Rattle.std.proofs.Common.{◌≡◌, inl, inr, refl, sym, ap, ◌∙◌, ℕ, suc, Bool, true, List, [], ◌∷◌}
use Rattle.mg_image.specs.Form.{Pages}
use Rattle.mg_image.specs.Indexes.{AreTrees}
use Rattle.mg_image.specs.Inventory.{is_used}
use Rattle.mg_image.specs.Reached.{IsAsWanted}
use Rattle.mg_image.specs.Sound.{HasTablePages, IsTableData, IsTablePointer}
use Rattle.mg_image.specs.Tables.{EachFrom, Has, LinkChain, Stand, ended, entries_in, goes}
use Rattle.mg_base.specs.Checks.{Check, common_checks}
use Rattle.mg_pointer.specs.PointerPage.{next_in, pointer_checks}
use Rattle.mg_slots.specs.declared.page.TheConstants.{DATA_KIND}

-- a chain of pages that name the same next ones
pub link_chain_kept : (old new : ℕ → ℕ) (first : ℕ) (ns : List ℕ)
    → ((n : ℕ) → Has ns n → new n ≡ old n) → LinkChain old first ns → LinkChain new first ns
link_chain_kept old new first ns same ended = ended
link_chain_kept old new first ns same (goes n ms some more) =
    goes n ms some (rw (same n (inl refl))
    (link_chain_kept old new (old n) ms (λ m has. same m (inr has)) more))

-- the entries of pages that are the same
pub entries_kept : (old new : Pages) (ns : List ℕ) → ((n : ℕ) → Has ns n → new n ≡ old n)
    → entries_in new ns ≡ entries_in old ns
entries_kept old new [] same = refl
entries_kept old new (n ∷ ns) same =
    rw (same n (inl refl), entries_kept old new ns (λ m has. same m (inr has))) refl

-- each page of a list that has one property has another
pub each_from_has : (P Q : ℕ → ℕ → Type 0) (at : ℕ) (ns : List ℕ)
    → ((k n : ℕ) → Has ns n → P k n → Q k n) → EachFrom P at ns → EachFrom Q at ns
each_from_has P Q at [] gives each = tt
each_from_has P Q at (n ∷ ns) gives each = (
  gives at n (inl refl) each.0,
  each_from_has P Q (suc at) ns (λ k m has. gives k m (inr has)) each.1,
)

-- a page that is as wanted, and used still
pub wanted_kept : (size : ℕ) (old new : Pages) (n : ℕ) (before after : List Check)
    → (is_used size old n ≡ true → is_used size new n ≡ true) → after ≡ before
    → IsAsWanted size old n before → IsAsWanted size new n after
wanted_kept size old new n before after used same is = record {
  below = is.below;
  used = used is.used;
  fields = rw same is.fields;
}

-- The pages of a table stay, and what was used is used still.
pub record KeepsTablePages (size : ℕ) (old new : Pages) (stand : Stand) : Type 0 where
  pub pointers : (n : ℕ) → Has stand.pointers n → new n ≡ old n
  pub data_pages : (n : ℕ) → Has stand.data_pages n → new n ≡ old n
  pub used : (n : ℕ) → is_used size old n ≡ true → is_used size new n ≡ true
  pub trees : AreTrees size new stand.table.pointer.0 stand.table.indexes stand.trees

-- they are the table's still
pub table_pages_kept : (in_primary : Bool) (size : ℕ) (old new : Pages) (stand : Stand)
    → KeepsTablePages size old new stand → HasTablePages in_primary size old stand
    → HasTablePages in_primary size new stand
table_pages_kept in_primary size old new stand keeps has = record {
  first = has.first;
  chain = link_chain_kept _ _ stand.table.pointer.0 stand.pointers
      (λ n is. ap next_in (keeps.pointers n is)) has.chain;
  entries = has.entries ∙ sym (entries_kept old new stand.pointers keeps.pointers);
  pointers = each_from_has (IsTablePointer size old stand.table.pointer.0)
      (IsTablePointer size new stand.table.pointer.0) 0 stand.pointers pointer_kept has.pointers;
  data_pages = each_from_has (IsTableData in_primary size old stand.table.pointer.0)
      (IsTableData in_primary size new stand.table.pointer.0) 0 stand.data_pages data_kept
      has.data_pages;
  trees = keeps.trees;
}
  where
    pointer_kept : (k n : ℕ) → Has stand.pointers n
        → IsTablePointer size old stand.table.pointer.0 k n
        → IsTablePointer size new stand.table.pointer.0 k n
    pointer_kept k n is = wanted_kept size old new n
        (pointer_checks (old n) n stand.table.pointer.0 k)
        (pointer_checks (new n) n stand.table.pointer.0 k)
        (keeps.used n) (ap (λ (b : List ℕ). pointer_checks b n stand.table.pointer.0 k)
        (keeps.pointers n is))

    data_kept : (k n : ℕ) → Has stand.data_pages n
        → IsTableData in_primary size old stand.table.pointer.0 k n
        → IsTableData in_primary size new stand.table.pointer.0 k n
    data_kept k n is of = record {
      wanted = wanted_kept size old new n
          (common_checks (old n) n DATA_KIND stand.table.pointer.0 k)
          (common_checks (new n) n DATA_KIND stand.table.pointer.0 k)
          (keeps.used n)
          (ap (λ (b : List ℕ). common_checks b n DATA_KIND stand.table.pointer.0 k)
          (keeps.data_pages n is)) of.wanted;
      lawful = rw (keeps.data_pages n is) of.lawful;
      cells = rw (keeps.data_pages n is) of.cells;
    }
