-- A page with room is given to a table that a layout does not have: the pages of it are none of that
-- layout's.
use Rattle.mg_base.specs.Image.{Image}
use Rattle.mg_base.specs.declared.numbers.PageNo.{PageNo}
use Rattle.mg_base.specs.declared.transaction.TxState.{TxState}
use Rattle.mg_image_overlay_laws.specs.tables.Growing.{IsTableOf}
use Rattle.mg_heap.specs.Room.{FindsOrGrows, GivesRoom, looked_at}
use Rattle.mg_tie_laws.specs.GivenTies.{has_at, looked_within}
use Rattle.mg_tie_laws.specs.RoomTies.{last_there}
use Rattle.mg_image.specs.Form.{Form, Pages}
use Rattle.mg_image.specs.Inventory.{is_used}
use Rattle.mg_image.specs.Records.{Reading}
use Rattle.mg_image.specs.Sound.{IsSoundBy}
use Rattle.mg_image.specs.Tables.{Has, Layout, stands_of, table_at}
use Rattle.mg_image_overlay_laws.specs.pages.Kinds.{HasNoSequences, pointers_of}
use Rattle.mg_model.specs.declared.table.Table.{Table}
use Rattle.mg_image_overlay_laws.specs.names.NotThere.{HasNoneOf, IsOutOf}
use Rattle.mg_image_overlay_laws.specs.names.Whose.{page_beyond, unused_none}
use Rattle.mg_pool.specs.Batch.{Changed}
use Rattle.mg_pool.specs.declared.pool.Pool.{Pool}
use Rattle.mg_space.specs.Taking.{IsGeometry, TakesPage}
use Rattle.mg_space.specs.TakingLaws.{takes_keeps}
use Rattle.mg_space.specs.View.{viewed}
use Rattle.std.proofs.Common.{Bool, List, None, Some, [], ap, false, inl, inr, length, refl, subst, sym, true, ℕ, ◌-◌, ◌∙◌, ◌∷◌, ◌≡◌}
use Rattle.std.specs.Prelude.{slice_index}

module _ (form : Form) (none : HasNoSequences form) {D L : Type 0} (store : Pool D L) (image : Image)
    (old new : Changed) (table : Table) (need : ℕ) (n : PageNo) (lawful : IsGeometry store.geometry)
    (gives : GivesRoom store image old new table.pointer.0 need n)
    -- one layout of what was there before has the table, and another one does not
    (with_ : ℕ → TxState) (there : Layout) (r : Reading)
    (sound : IsSoundBy form store.geometry.size with_ (viewed store image old) there r)
    (its : IsTableOf there table) (without_ : ℕ → TxState) (layout : Layout) (s : Reading)
    (sound_out : IsSoundBy form store.geometry.size without_ (viewed store image old) layout s)
    (out : IsOutOf (viewed store image old) layout table.pointer.0) where
  -- its last pointer page is none of the layout's
  pub last_beyond : Has (pointers_of (stands_of layout))
      (slice_index gives.pointers (length gives.pointers - 1)) → ⊥
  last_beyond = out.pointers gives.pointers gives.table.chain
      (slice_index gives.pointers (length gives.pointers - 1))
      (last_there form store.geometry.size with_ (viewed store image old) there r sound table its
      gives.pointers gives.data_pages gives.table)

  unused : (m : ℕ) → is_used store.geometry.size (viewed store image old) m ≡ false
      → table_at (stands_of layout) m ≡ None
  unused = unused_none form store.geometry.size without_ (viewed store image old) layout s none sound_out

  -- and the page that is given none of its data pages
  pub given_beyond : table_at (stands_of layout) n.0 ≡ None
  given_beyond = subst (λ (k : PageNo). table_at (stands_of layout) k.0 ≡ None) gives.page_is
      (by gives.found)
    where
      -- one that is free after another was taken was free before
      free_before : (mid : Pages) (p m : ℕ)
          → TakesPage store.geometry (viewed store image old) mid p
          → is_used store.geometry.size mid m ≡ false
          → is_used store.geometry.size (viewed store image old) m ≡ false
      free_before mid p m takes free =
          at (is_used store.geometry.size (viewed store image old) m) refl
        where
          at : (c : Bool) → is_used store.geometry.size (viewed store image old) m ≡ c
              → is_used store.geometry.size (viewed store image old) m ≡ false
          at false is = is
          at true is =
              let used : is_used store.geometry.size mid m ≡ true =
              takes_keeps store.geometry (viewed store image old) mid p lawful takes m is in
              let both : true ≡ false = sym used ∙ free in absurd cc

      by : FindsOrGrows store image old new table.pointer.0 gives.pointers gives.data_pages need gives.it
          → table_at (stands_of layout) gives.it.page.0 ≡ None
      by (inl (same, first)) = out.data_pages gives.pointers gives.table.chain gives.it.page.0
          (subst (λ (ns : List ℕ). Has ns gives.it.page.0) gives.table.entries
          (subst (Has gives.data_pages) (sym first.page_is)
          (has_at gives.data_pages (looked_at first.after (length gives.data_pages))
          (looked_within first.after (length gives.data_pages) first.inside))))
      by (inr (none_, inl (room, it))) = unused gives.it.page.0 it.takes.free.unused
      by (inr (none_, inr (full, (p, it)))) = unused gives.it.page.0
          (free_before (viewed store image it.with_bit) p gives.it.page.0 it.takes_pointer
          it.takes.free.unused)

  -- together with other data pages of the table
  beyond : (m : ℕ) → table_at (stands_of there) m ≡ Some table → table_at (stands_of layout) m ≡ None
  beyond = page_beyond form store.geometry.size with_ (viewed store image old) there r sound table its layout
      out

  pub beyond_two : (a : ℕ) → table_at (stands_of there) a ≡ Some table
      → HasNoneOf layout (slice_index gives.pointers (length gives.pointers - 1)) (n.0 ∷ a ∷ [])
  beyond_two a of = record { pointer = last_beyond; data_pages = at }
    where
      at : (m : ℕ) → Has (n.0 ∷ a ∷ []) m → table_at (stands_of layout) m ≡ None
      at m (inl e) = ap (table_at (stands_of layout)) e ∙ given_beyond
      at m (inr (inl e)) = ap (table_at (stands_of layout)) e ∙ beyond a of
      at m (inr (inr none_)) = absurd none_

  pub beyond_three : (a b : ℕ) → table_at (stands_of there) a ≡ Some table
      → table_at (stands_of there) b ≡ Some table
      → HasNoneOf layout (slice_index gives.pointers (length gives.pointers - 1)) (n.0 ∷ a ∷ b ∷ [])
  beyond_three a b of also = record { pointer = last_beyond; data_pages = at }
    where
      at : (m : ℕ) → Has (n.0 ∷ a ∷ b ∷ []) m → table_at (stands_of layout) m ≡ None
      at m (inl e) = ap (table_at (stands_of layout)) e ∙ given_beyond
      at m (inr (inl e)) = ap (table_at (stands_of layout)) e ∙ beyond a of
      at m (inr (inr (inl e))) = ap (table_at (stands_of layout)) e ∙ beyond b also
      at m (inr (inr (inr none_))) = absurd none_
