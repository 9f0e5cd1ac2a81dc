-- What a batch has at one of its steps, it has in the end.
use Rattle.mg_base.specs.Image.{Image}
use Rattle.mg_base.specs.declared.numbers.PageNo.{PageNo}
use Rattle.mg_base.specs.declared.numbers.RecId.{RecId}
use Rattle.mg_careful.specs.Precedence.{Orders}
use Rattle.mg_tie_laws.specs.Filling.{Fills, NewRow, TakesAndMakes, filled, makes, orders_more, takes}
use Rattle.mg_chain.specs.Orders.{first_orders}
use Rattle.mg_chain.specs.Writing.{MakesRecord}
use Rattle.mg_tie_laws.specs.Rows.{within_orders, within_put}
use Rattle.mg_heap.specs.Apart.{need_with_anchor}
use Rattle.mg_heap.specs.Growth.{orders_to}
use Rattle.mg_heap.specs.Room.{FindsOrGrows, GivesRoom}
use Rattle.mg_tie_laws.specs.Batches.{IsWithin}
use Rattle.mg_image.specs.Inventory.{inventory_page}
use Rattle.mg_pool.specs.Batch.{Changed}
use Rattle.mg_pool.specs.declared.pool.Pool.{Pool}
use Rattle.mg_space.specs.Taking.{region_of}
use Rattle.mg_version.specs.declared.cell.TheConstants.{ANCHOR_LEN}
use Rattle.mg_version.specs.declared.cell.Version.{Version}
use Rattle.std.proofs.Common.{List, Option, inl, inr, length, subst, ℕ, ◌++◌, ◌-◌}
use Rattle.std.specs.Prelude.{slice_index}

module _ {D L : Type 0} (store : Pool D L) (image : Image) (contents : ℕ → Option (List ℕ))
    (orders : Orders) where
  -- before a page was given to a table
  pub given_within : (owner need : ℕ) (old new : Changed) (n : PageNo)
      → GivesRoom store image old new owner need n → IsWithin contents orders new
      → IsWithin contents orders old
  given_within owner need old new n gives within = at gives.found
    where
      at : FindsOrGrows store image old new owner gives.pointers gives.data_pages need gives.it
          → IsWithin contents orders old
      at (inl (same, first)) = subst (IsWithin contents orders) same within
      at (inr (none_, inl (room, it))) =
          within_put contents orders old it.taken
          (inventory_page store.geometry.size (region_of store.geometry.size gives.it.page.0)) it.bit.bytes
          it.bit.puts (within_put contents orders it.taken it.made gives.it.page.0 gives.it.bytes
          it.makes.puts (within_put contents orders it.made it.listed
          (slice_index gives.pointers (length gives.pointers - 1)) it.page it.puts
          (within_orders contents orders it.listed new
          (orders_to store.geometry.size gives.it.page.0
          (slice_index gives.pointers (length gives.pointers - 1))) it.orders within)))
      at (inr (none_, inr (full, (p, it)))) =
          within_put contents orders old it.with_bit
          (inventory_page store.geometry.size (region_of store.geometry.size p)) it.bit_pointer.bytes
          it.bit_pointer.puts (within_put contents orders it.with_bit it.taken
          (inventory_page store.geometry.size (region_of store.geometry.size gives.it.page.0)) it.bit.bytes
          it.bit.puts (within_put contents orders it.taken it.made gives.it.page.0 gives.it.bytes
          it.makes.puts (within_put contents orders it.made it.begun p it.page it.puts
          (within_put contents orders it.begun it.linked
          (slice_index gives.pointers (length gives.pointers - 1)) it.link it.puts_link
          (within_orders contents orders it.linked new
          (orders_to store.geometry.size gives.it.page.0 p ++ orders_to store.geometry.size p
          (slice_index gives.pointers (length gives.pointers - 1))) it.orders within)))))

  -- before a record was made
  pub made_within : (owner : ℕ) (old new : Changed) (rec : RecId) (v : Version)
      → MakesRecord store image old new owner rec v → IsWithin contents orders new
      → IsWithin contents orders old
  made_within owner old new rec v it within =
      given_within owner (need_with_anchor it.bytes) old it.makes.adds.given it.makes.at.page
      it.makes.adds.gives (within_put contents orders it.makes.adds.given it.makes.put it.makes.at.page.0
      it.makes.adds.one.bytes it.makes.adds.one.puts (within_put contents orders it.makes.put it.makes.turned
      rec.page.0 it.makes.turns.puts.one.bytes it.makes.turns.puts.one.puts
      (within_orders contents orders it.makes.turned new
      (first_orders it.makes.turned.pages it.makes.at.page.0 rec.page.0 it.makes.pointers
      it.makes.slot_pointers) it.makes.ordered within)))

  -- before a page was taken and made
  pub taken_within : (old new : Changed) (n : ℕ) (bytes : List ℕ)
      → TakesAndMakes store image old new n bytes → IsWithin contents orders new
      → IsWithin contents orders old
  taken_within old new n bytes it within =
      within_put contents orders old it.taken
      (inventory_page store.geometry.size (region_of store.geometry.size n)) it.bit.bytes it.bit.puts
      (within_put contents orders it.taken new n bytes it.puts within)

  -- before all of it
  pub fills_within : (owner : ℕ) (P : NewRow → Type 0) (old new : Changed)
      → Fills store image owner P old new → IsWithin contents orders new → IsWithin contents orders old
  fills_within owner P old new (filled b) within = within
  fills_within owner P old new (takes a b c n bytes taken more) within =
      taken_within old b n bytes taken (fills_within owner P b new more within)
  fills_within owner P old new (orders_more a b c os adds more) within =
      within_orders contents orders old b os adds (fills_within owner P b new more within)
  fills_within owner P old new (makes a b c d row is spot record_ more) within =
      given_within owner ANCHOR_LEN old b row.at.page spot.gives
      (made_within owner b c row.at row.version record_ (fills_within owner P c new more within))
