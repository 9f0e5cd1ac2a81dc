-- Which pages a table that grows, and one whose data pages change, leave as they were: all that are in use by
-- others.
use Rattle.mg_base.specs.Checks.{Check, PassesAll, common_checks}
use Rattle.mg_base.specs.Fields.{byte}
use Rattle.mg_base.specs.declared.transaction.TxState.{TxState}
use Rattle.mg_careful.specs.Precedence.{Orders}
use Rattle.mg_image_overlay_laws.specs.tables.Growing.{EndsAt, Grows, TableEnd, entered_end, enters, linked_end, links, stays}
use Rattle.mg_image_overlay_laws.specs.tables.GrowingLaws.{enters_to, links_to, taken_sound}
use Rattle.mg_image_overlay_laws.specs.kept.Knowing.{its_pages}
use Rattle.mg_heap.specs.Reading.{owner_in}
use Rattle.mg_image.specs.Form.{Form, Pages}
use Rattle.mg_image.specs.Inventory.{is_used}
use Rattle.mg_image.specs.ReadingLaws.{RowsAreOne}
use Rattle.mg_image.specs.Records.{Reading}
use Rattle.mg_image.specs.Sound.{IsSoundBy, IsTablePointer}
use Rattle.mg_image.specs.Tables.{EachFrom, Has, Layout}
use Rattle.mg_image_overlay_laws.specs.pages.DataPages.{ChangesData, used_kept}
use Rattle.mg_image_overlay_laws.specs.pages.Growth.{has_back}
use Rattle.mg_image_overlay_laws.specs.pages.Kinds.{HasNoSequences}
use Rattle.mg_image_overlay_laws.specs.pages.Trees.{trees_stay}
use Rattle.mg_model.specs.declared.table.Table.{Table}
use Rattle.mg_image_overlay_laws.specs.tables.OneLayout.{sound_once}
use Rattle.mg_pointer.specs.PointerPage.{pointer_checks}
use Rattle.mg_image_overlay_laws.specs.pages.PointerPage.{ChangesPointer, used_on}
use Rattle.mg_image_overlay_laws.specs.pages.TakePart.{OccupiesPage}
use Rattle.std.proofs.Common.{List, Option, [], ap, arith, false, inl, inr, refl, subst, suc, sym, true, ℕ, ◌++◌, ◌<◌, ◌∙◌, ◌∷◌, ◌≡◌, ◌≢◌, ◌≤◌}

-- A page in use, of another owner than a table, which is neither the header's nor of the page inventory.
pub record IsOther (size : ℕ) (view : Pages) (owner m : ℕ) : Type 0 where
  pub used : is_used size view m ≡ true
  pub kind : 3 ≤ byte (view m) 0
  pub owned : owner_in (view m) ≢ owner

-- It is as it was, and such a page still.
pub record IsLeft (size : ℕ) (old new : Pages) (owner m : ℕ) : Type 0 where
  pub same : new m ≡ old m
  pub other : IsOther size new owner m

left_as : (size : ℕ) (old new : Pages) (owner m : ℕ) → IsOther size old owner m → new m ≡ old m
    → is_used size new m ≡ true → IsLeft size old new owner m
left_as size old new owner m other same used = record {
  same = same;
  other = record {
    used = used;
    kind = subst (λ (page : List ℕ). 3 ≤ byte page 0) (sym same) other.kind;
    owned = subst (λ (page : List ℕ). owner_in page ≢ owner) (sym same) other.owned;
  };
}

pub left_then : (size : ℕ) (a b c : Pages) (owner m : ℕ) → IsLeft size a b owner m → IsLeft size b c owner m
    → IsLeft size a c owner m
left_then size a b c owner m first second =
    record { same = second.same ∙ first.same; other = second.other }

-- what the common part says of the owner
owner_with : (page : List ℕ) (n kind owner seq : ℕ) (rest : List Check)
    → PassesAll (common_checks page n kind owner seq ++ rest) → owner_in page ≡ owner
unfolding common_checks
owner_with page n kind owner seq rest passes = passes.1.1.1.1.0

-- ---- the steps

pub occupied_leaves : (size : ℕ) (old new : Pages) (i n owner m : ℕ) → OccupiesPage size old new i n
    → IsOther size old owner m → IsLeft size old new owner m
occupied_leaves size old new i n owner m takes other = left_as size old new owner m other
    (takes.others m off_bits off_page) (takes.used m other.used)
  where
    off_bits : m ≢ i
    off_bits e =
        let few : byte (old m) 0 < 3 = subst (λ (k : ℕ). byte (old k) 0 < 3) (sym e) takes.was_region in
        let kind = other.kind in omega (arith, few, kind)

    off_page : m ≢ n
    off_page e =
        let both : true ≡ false = sym other.used ∙ (ap (is_used size old) e ∙ takes.fresh) in absurd cc

module _ (form : Form) (none : HasNoSequences form) (size : ℕ) (state : ℕ → TxState) (old new : Pages)
    (layout : Layout) (r : Reading) (sound : IsSoundBy form size state old layout r) (owner m q : ℕ)
    (its : owner_in (old q) ≡ owner) (other : IsOther size old owner m) where
  off : m ≢ q
  off e = other.owned (ap (λ (k : ℕ). owner_in (old k)) e ∙ its)

  pointer_leaves : ChangesPointer old new q → IsLeft size old new owner m
  pointer_leaves change = left_as size old new owner m other (change.others m off)
      (used_on form size state old new q layout r none (trees_stay form size) sound change m other.used)

  pub data_leaves_it : ChangesData form.in_primary old new q → IsLeft size old new owner m
  data_leaves_it change = left_as size old new owner m other (change.others m off)
      (used_kept form.in_primary size old new q change sound.header sound.inventory sound.transactions m
      ∙ other.used)

-- a table's last pointer page says whose it is
last_owned : (form : Form) (size : ℕ) (state : ℕ → TxState) (view : Pages) (layout : Layout) (r : Reading)
    → IsSoundBy form size state view layout r → (table : Table) (end : TableEnd)
    → EndsAt layout table end → owner_in (view end.last) ≡ table.pointer.0
unfolding pointer_checks
last_owned form size state view layout r sound table end ends =
    at 0 ends.stand.pointers (its_pages form size state view layout r sound table (record {
      before = ends.before;
      stand = ends.stand;
      after = ends.after;
      is_ = ends.is_;
      table_is = ends.table_is;
    })).pointers
    (subst (λ (ns : List ℕ). Has ns end.last) (sym ends.pointers_are)
    (has_back ends.front (end.last ∷ []) end.last (inl refl)))
  where
    at : (k : ℕ) (ns : List ℕ) → EachFrom (IsTablePointer size view ends.stand.table.pointer.0) k ns
        → Has ns end.last → owner_in (view end.last) ≡ table.pointer.0
    at k [] each there = absurd there
    at k (n ∷ ns) each (inl e) = ap (λ (j : ℕ). owner_in (view j)) e
        ∙ (owner_with (view n) n 4 ends.stand.table.pointer.0 k _ each.0.fields
        ∙ ap (λ (t : Table). t.pointer.0) ends.table_is)
    at k (n ∷ ns) each (inr more) = at (suc k) ns each.1 more

-- a table that grows leaves the pages of others
module _ (form : Form) (one : RowsAreOne form.coding) (none : HasNoSequences form) (size : ℕ)
    (state : ℕ → TxState) (table : Table) (m : ℕ) where
  pub growth_leaves : (orders : Orders) (batch : ℕ → Option (List ℕ)) (view last : Pages) (end final : TableEnd)
      → Grows form.in_primary size table.pointer.0 orders batch view end last final
      → (layout : Layout) (r : Reading) → IsSoundBy form size state view layout r
      → EndsAt layout table end → IsOther size view table.pointer.0 m
      → IsLeft size view last table.pointer.0 m
  growth_leaves orders batch view last end final (stays v e) layout r sound ends other =
      record { same = refl; other = other }
  growth_leaves orders batch view last end final (links v taken next l e f i n takes names order in_batch more)
      layout r sound ends other =
      let first = links_to form (sound_once form one none) none size (trees_stay form size) state table view
      taken next end i n takes layout r sound ends names in
      let mid = taken_sound form (sound_once form one none) none size (trees_stay form size) state table view
      taken i n takes layout r sound in
      let a = occupied_leaves size view taken i n table.pointer.0 m takes other in
      let b = pointer_leaves form none size state taken next layout r mid table.pointer.0 m end.last
      (last_owned form size state taken layout r mid table end ends) a.other names.change in
      left_then size view next last table.pointer.0 m (left_then size view taken next table.pointer.0 m a b)
      (growth_leaves orders batch next last (linked_end end n) final more first.layout r first.sound
      first.ends b.other)
  growth_leaves orders batch view last end final
      (enters v taken next l e f i n takes names order in_batch more) layout r sound ends other =
      let first = enters_to form (sound_once form one none) none size (trees_stay form size) state table view
      taken next end i n takes layout r sound ends names in
      let mid = taken_sound form (sound_once form one none) none size (trees_stay form size) state table view
      taken i n takes layout r sound in
      let a = occupied_leaves size view taken i n table.pointer.0 m takes other in
      let b = pointer_leaves form none size state taken next layout r mid table.pointer.0 m end.last
      (last_owned form size state taken layout r mid table end ends) a.other names.change in
      left_then size view next last table.pointer.0 m (left_then size view taken next table.pointer.0 m a b)
      (growth_leaves orders batch next last (entered_end end) final more first.layout r first.sound
      first.ends b.other)
