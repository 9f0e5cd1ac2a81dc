-- The version behind another one is dropped: what the steps come to, and their refusals.
use Rattle.std.proofs.Common.{◌≡◌, ◌+◌, ◌∷◌, [], inl, inr, ℕ, Bool, true, false, List, Option, sym, subst}
use Rattle.mg_base.specs.Disk.{Meaning}
use Rattle.mg_base.specs.Image.{Image}
use Rattle.mg_base.specs.declared.damage.Damaged.{Damaged}
use Rattle.mg_base.specs.declared.damage.Field.TheVariants.{Count}
use Rattle.mg_base.specs.declared.numbers.RecId.{RecId}
use Rattle.mg_heap.specs.Changing.{ChangesAtMost, ChangesWhere, FreesCellAt, PlacesCell}
use Rattle.mg_heap.specs.Growth.{AddsOrders}
use Rattle.mg_heap.specs.Reading.{RefusesData}
use Rattle.mg_image.specs.Form.{Pages}
use Rattle.mg_image.specs.Records.{cells_of}
use Rattle.mg_pool.specs.Batch.{Changed}
use Rattle.mg_pool.specs.declared.batch.BatchPage.{BatchPage}
use Rattle.mg_pool.specs.declared.pool.Pool.{Pool}
use Rattle.mg_space.specs.View.{KeepsStore, viewed}
use Rattle.mg_space.specs.ViewLaws.{viewed_on}
use Rattle.mg_space.specs.declared.fault.SpaceFault.{SpaceFault}
use Rattle.mg_space.specs.declared.fault.SpaceFault.TheVariants as faults
use Rattle.mg_version.specs.Cells.{IsSpelling}
use Rattle.mg_version.specs.declared.cell.Cell.TheVariants as cells
use Rattle.mg_version.specs.declared.cell.Link.{Link}
use Rattle.mg_version.specs.declared.cell.Version.{Version}
use Rattle.mg_chain.specs.Chains.{Meets}
use Rattle.mg_chain.specs.Dropping.{LeadsPast, PutsOver, RefusesLeadPast, RefusesPutOver, lead_frees}
use Rattle.mg_chain.specs.Orders.{before_page}
use Rattle.mg_chain.specs.Refusals.{damage}
use Rattle.mg_chain.specs.Writing.{leading_to}
use Rattle.mg_chain.proofs.TurnLemmas.{puts_where}
use Rattle.mg_chain.proofs.WritingLemmas.{frees_at_on, puts_at_on}

-- ---- a version is put over a cell

module _ {D L : Type 0} (m : Meaning D) (store : Pool D L) (pages : List BatchPage) (view : Pages) (at : RecId)
    (v : Version) (back : Option Link) where
  pub put_data : (fault : SpaceFault) → RefusesData m store pages at.page (view at.page.0) fault
      → RefusesPutOver m store pages view at v back fault
  put_data (faults.Full most) refused = refused
  put_data (faults.Damaged it) refused = inl refused
  put_data (faults.Pool fault) refused = tt

  pub no_put : (new : Pages) (cell bytes : List ℕ) (placed : Bool) (it : Damaged) → placed ≡ false → cell ≡ bytes
      → IsSpelling bytes (cells.Version (leading_to v back)) → PlacesCell view new at cell placed
      → it ≡ damage at.page.0 Count at.slot (at.slot + 1)
      → RefusesPutOver m store pages view at v back (faults.Damaged it)
  no_put new cell bytes true it is same spells places told = absurd cc
  no_put new cell bytes false it is same spells places told = inr record {
    page_is = places.0;
    bytes = cell;
    spells = subst (λ (b : List ℕ). IsSpelling b (cells.Version (leading_to v back))) (sym same) spells;
    none = places.1;
    is = told;
  }

-- ---- one step after another

module _ {D L : Type 0} (m : Meaning D) (a b : Pool D L) (kept : KeepsStore m a b) (image : Image) where
  pub put_over_on : (old new : Changed) (at : RecId) (v : Version) (back : Option Link)
      → PutsOver b image old new at v back → PutsOver a image old new at v back
  put_over_on old new at v back it = record {
    bytes = it.bytes;
    spells = it.spells;
    puts = puts_at_on m a b kept image old new at it.bytes it.puts;
  }

  pub leads_refused : (after : Pool D L) (old put : Changed) (at gone : RecId) (v : Version) (back : Option Link)
      (fault : SpaceFault) → PutsOver a image old put at v back
      → RefusesData m after put.pages gone.page (viewed b image put gone.page.0) fault
      → RefusesLeadPast m a after image old at gone v back fault
  leads_refused after old put at gone v back fault puts refused = lead_frees put puts
      (subst (λ (pages : Pages). RefusesData m after put.pages gone.page (pages gone.page.0) fault)
      (viewed_on m a b image put kept) refused)

  pub leads_past : (old put freed new : Changed) (at gone : RecId) (v : Version) (back : Option Link)
      → PutsOver a image old put at v back → ChangesAtMost b.geometry.size put freed gone.page.0
      → FreesCellAt (viewed b image put) (viewed b image freed) gone
      → AddsOrders freed new (before_page (at.page.0 ∷ []) gone.page.0)
      → LeadsPast a image old new at gone v back
  leads_past old put freed new at gone v back puts changes frees ordered = record {
    put = put;
    puts = puts;
    freed = freed;
    frees = frees_at_on m a b kept image put freed gone (record { at_most = changes; frees = frees });
    ordered = ordered;
  }

  pub leads_on : (old new : Changed) (at gone : RecId) (v : Version) (back : Option Link)
      → LeadsPast b image old new at gone v back → LeadsPast a image old new at gone v back
  leads_on old new at gone v back it = record {
    put = it.put;
    puts = put_over_on old it.put at v back it.puts;
    freed = it.freed;
    frees = frees_at_on m a b kept image it.put it.freed gone it.frees;
    ordered = it.ordered;
  }

  pub meets_on : (batch : Changed) (l : Link) (v : Version) → Meets (cells_of (viewed b image batch)) l v
      → Meets (cells_of (viewed a image batch)) l v
  meets_on batch l v it = subst (λ (pages : Pages). Meets (cells_of pages) l v) (viewed_on m a b image batch kept) it
