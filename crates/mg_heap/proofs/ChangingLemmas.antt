-- Lemmas of changes of one data page.
use Rattle.std.proofs.Common.{◌≡◌, ◌<◌, ◌+◌, ◌++◌, ◌∙◌, ℕ, Bool, true, false, List, Option, None, Some, take, length, refl, sym, ap, subst, arith}
use Rattle.std.proofs.Math.Seq.{take-append_seam}
use Rattle.std.proofs.lemmas.Bool.{false≢true}
use Rattle.std.specs.Prelude.{IsTrue, is_some}
use Rattle.mg_base.specs.Image.{Image}
use Rattle.mg_base.specs.declared.numbers.PageNo.{PageNo}
use Rattle.mg_base.specs.declared.numbers.RecId.{RecId}
use Rattle.mg_image.specs.Form.{Pages}
use Rattle.mg_pool.specs.Batch.{Changed, PutsPage}
use Rattle.mg_pool.specs.declared.pool.Pool.{Pool}
use Rattle.mg_slots.specs.Changes.{FreesCell, PutsCell}
use Rattle.mg_slots.specs.DataPage.{cell_of, slot_count}
use Rattle.mg_slots.specs.Room.{first_without, least_free}
use Rattle.mg_slots.specs.RoomLaws.{first_without_found, first_without_more}
use Rattle.mg_space.specs.View.{viewed}
use Rattle.mg_space.specs.ViewLaws.{viewed_else, viewed_here}
use Rattle.mg_heap.specs.Changing.{FreesCellAt, IsLeastSlot, MayHave, PlacesCell}
use Rattle.mg_heap.specs.Reading.{IsSomeData}

-- bytes that were written through a slice
pub written_back : (len : ℕ) (made rest put : List ℕ) → len ≡ length made
    → put ≡ take len (made ++ rest) → put ≡ made
written_back len made rest put same is = is
    ∙ (ap (λ (n : ℕ). take n (made ++ rest)) same ∙ take-append_seam made rest)

pub is_none : (x : Option (List ℕ)) (some : Bool) → some ≡ is_some x → some ≡ false → x ≡ None
is_none None some is no_ = refl
is_none (Some bytes) some is no_ = absurd cc

pub least_here : (b : List ℕ) (slot : ℕ) (some : Bool) → slot < slot_count b
    → first_without (cell_of b) slot ≡ slot → some ≡ is_some (cell_of b slot) → some ≡ false
    → slot ≡ least_free b
least_here b slot some below before is no_ = sym (first_without_found (cell_of b) slot (slot_count b)
    (omega arith) before (is_none (cell_of b slot) some is no_))

pub least_on : (b : List ℕ) (slot : ℕ) (some : Bool) → first_without (cell_of b) slot ≡ slot
    → some ≡ is_some (cell_of b slot) → some ≡ true
    → first_without (cell_of b) (slot + 1) ≡ slot + 1
least_on b slot some before is yes_ = first_without_more (cell_of b) slot before cc

module _ {D L : Type 0} (store : Pool D L) (image : Image) (old new : Changed) (at : RecId)
    (read slice after put : List ℕ)
    (some_read : IsSomeData at.page read)
    (seen : read ≡ viewed store image old at.page.0)
    (sliced : slice ≡ read) (written : put ≡ after)
    (puts : PutsPage old new at.page.0 put) where
  some_old : IsSomeData at.page (viewed store image old at.page.0)
  some_old = subst (IsSomeData at.page) seen some_read

  slice_is : slice ≡ viewed store image old at.page.0
  slice_is = sliced ∙ seen

  after_is : after ≡ viewed store image new at.page.0
  after_is = sym written ∙ sym (viewed_here store image old new at.page.0 put puts)

  pub frees_at : true ≡ is_some (cell_of slice at.slot) → FreesCell slice after at.slot
      → FreesCellAt (viewed store image old) (viewed store image new) at
  frees_at had frees = record {
    data_page = some_old;
    used = λ some. subst (λ (b : List ℕ). FreesCell (viewed store image old at.page.0) b at.slot) after_is
        (subst (λ (b : List ℕ). FreesCell b after at.slot) slice_is frees);
    unused = λ none. absurd (empty (cell_of (viewed store image old at.page.0) at.slot)
        (had ∙ ap (λ (b : List ℕ). is_some (cell_of b at.slot)) slice_is) none);
    others = viewed_else store image old new at.page.0 put puts;
  }
    where
      empty : (x : Option (List ℕ)) → true ≡ is_some x → x ≡ None → ⊥
      empty None had none = cc
      empty (Some bytes) had none = cc

  pub places_at : (cell : List ℕ) → MayHave slice at.slot cell → PutsCell slice after at.slot cell
      → PlacesCell (viewed store image old) (viewed store image new) at cell true
  places_at cell may puts_cell = (
    record {
      data_page = some_old;
      puts = subst (λ (b : List ℕ). PutsCell (viewed store image old at.page.0) b at.slot cell) after_is
          (subst (λ (b : List ℕ). PutsCell b after at.slot cell) slice_is puts_cell);
      others = viewed_else store image old new at.page.0 put puts;
    },
    subst (λ (b : List ℕ). MayHave b at.slot cell) slice_is may,
  )

-- a cell that may not stand in a slot
pub not_placed : (old new : Pages) (at : RecId) (cell read slice : List ℕ) → IsSomeData at.page read
    → read ≡ old at.page.0 → slice ≡ read → (MayHave slice at.slot cell → IsTrue false)
    → PlacesCell old new at cell false
not_placed old new at cell read slice some seen same none = (
  subst (IsSomeData at.page) seen some,
  (λ may. false≢true (none (subst (λ (b : List ℕ). MayHave b at.slot cell) (sym (same ∙ seen)) may))),
)

-- a slot that is free already
pub not_freed : (pages : Pages) (at : RecId) (read slice : List ℕ) → IsSomeData at.page read
    → read ≡ pages at.page.0 → slice ≡ read → false ≡ is_some (cell_of slice at.slot)
    → FreesCellAt pages pages at
not_freed pages at read slice some seen same had = record {
  data_page = subst (IsSomeData at.page) seen some;
  used = λ has. absurd (false≢true (had
      ∙ (ap (λ (b : List ℕ). is_some (cell_of b at.slot)) (same ∙ seen) ∙ has)));
  unused = λ none. refl;
  others = λ n ne. refl;
}

pub least_seen : (page : PageNo) (b read slice : List ℕ) (slot : ℕ) → IsSomeData page read → read ≡ b
    → slice ≡ read → slot ≡ least_free slice → IsLeastSlot page.0 b slot
least_seen page b read slice slot some seen same is = record {
  data_page = subst (IsSomeData page) seen some;
  is_least = is ∙ ap least_free (same ∙ seen);
}
