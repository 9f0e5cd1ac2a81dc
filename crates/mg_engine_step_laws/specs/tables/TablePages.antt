-- The pages of a table that stands in a sound image, as the layers read them.
use Rattle.std.proofs.Common.{subst, ℕ, suc, List, [], ◌∷◌, ◌++◌}
use Rattle.mg_base.specs.declared.transaction.TxState.{TxState}
use Rattle.mg_model.specs.declared.table.Table.{Table}
use Rattle.mg_heap.specs.Table.{IsPointerAt, IsTable}
use Rattle.mg_image.specs.Form.{Pages, packed_form}
use Rattle.mg_image.specs.Records.{Reading}
use Rattle.mg_image.specs.Sound.{HasTablePages, IsSoundBy, IsTablePointer, facts_by}
use Rattle.mg_image.specs.Tables.{EachFrom, IsOnce, Layout, tree_pages}
use Rattle.mg_image_overlay_laws.specs.pages.Reach.{once_back, once_front}
use Rattle.mg_image_overlay_laws.specs.pages.GrowPages.{once_mid}
use Rattle.mg_image_overlay_laws.specs.tables.Growing.{IsTableOf}
use Rattle.mg_image_overlay_laws.specs.kept.Knowing.{its_once, its_pages}
use Rattle.mg_image_overlay_laws.specs.tables.OneTable.{its_data}
use Rattle.mg_seek.specs.Histories.{AreItsPages}

module _ (size : ℕ) (state : ℕ → TxState) (pages : Pages) (layout : Layout) (r : Reading)
    (sound : IsSoundBy packed_form size state pages layout r) (its : Table)
    (stands : IsTableOf layout its) where
  pub table_there : IsTable pages its.pointer.0 stands.stand.pointers stands.stand.data_pages
  table_there = subst (λ (t : Table). IsTable pages t.pointer.0 stands.stand.pointers
      stands.stand.data_pages) stands.table_is (record {
        chain = has_.chain;
        tested = each 0 stands.stand.pointers has_.pointers;
        entries = has_.entries;
      })
    where
      has_ : HasTablePages packed_form.in_primary size pages stands.stand
      has_ = its_pages packed_form size state pages layout r sound its stands

      each : (at : ℕ) (ns : List ℕ)
          → EachFrom (IsTablePointer size pages stands.stand.table.pointer.0) at ns
          → EachFrom (IsPointerAt pages stands.stand.table.pointer.0) at ns
      each at [] all = tt
      each at (n ∷ ns) all = (all.0.fields, each (suc at) ns all.1)

  pub data_there : AreItsPages (facts_by state pages layout) its stands.stand.data_pages
  data_there n = its_data packed_form size state pages layout r sound its stands n

  pub data_once : IsOnce stands.stand.data_pages
  data_once = once_back stands.stand.pointers stands.stand.data_pages
      (once_front (stands.stand.pointers ++ stands.stand.data_pages) (tree_pages stands.stand.trees)
      (once_mid stands.before stands.after stands.stand
      (its_once packed_form size state pages layout r sound its stands)))
