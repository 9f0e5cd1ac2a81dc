-- Tables and their data pages stand where they stood.
use Rattle.std.proofs.Common.{◌≡◌, sym, subst, ℕ, List, Some}
use Rattle.std.specs.Prelude.{map}
use Rattle.mg_base.specs.declared.transaction.TxState.{TxState}
use Rattle.mg_image.specs.Form.{Pages, packed_form}
use Rattle.mg_image.specs.Records.{Reading}
use Rattle.mg_image.specs.Sound.{IsSoundBy}
use Rattle.mg_image.specs.Tables.{Layout, Stand, stands_of, table_at}
use Rattle.mg_image_overlay_laws.specs.tables.Growing.{HasGrown}
use Rattle.mg_image_overlay_laws.specs.tables.OneLayout.{StandsOneWay}
use Rattle.mg_image_overlay_laws.specs.tables.TableOwners.{IsOneOf}
use Rattle.mg_model.specs.Openings.{everyone}
use Rattle.mg_model.specs.declared.table.Table.{Table}
use Rattle.mg_overlay_laws.specs.Overlays.{left_state}

-- a table beside the catalog stands in pages, wherever they are sound
abbrev pub IsTableIn : ℕ → (ℕ → TxState) → Pages → Table → Type 0
IsTableIn size state pages table = (layout : Layout) (r : Reading)
    → IsSoundBy packed_form size (left_state everyone state) pages layout r
    → IsOneOf (map (λ stand. stand.table) layout.tables) table

-- a page is one of a table's data pages there
abbrev pub IsPageIn : ℕ → (ℕ → TxState) → Pages → ℕ → Table → Type 0
IsPageIn size state pages n table = (layout : Layout) (r : Reading)
    → IsSoundBy packed_form size (left_state everyone state) pages layout r
    → table_at (stands_of layout) n ≡ Some table

-- Each table stands on as it stood, and has the data pages that it had.
pub record StandStill (size : ℕ) (state : ℕ → TxState) (was now : Pages) : Type 0 where
  pub tables : (table : Table) → IsTableIn size state was table → IsTableIn size state now table
  pub pages : (n : ℕ) (table : Table) → IsPageIn size state was n table → IsPageIn size state now n table

pub still_here : (size : ℕ) (state : ℕ → TxState) (pages : Pages) → StandStill size state pages pages
still_here size state pages = record { tables = λ table is. is; pages = λ n table is. is }

pub still_then : (size : ℕ) (state : ℕ → TxState) (was mid now : Pages) → StandStill size state was mid
    → StandStill size state mid now → StandStill size state was now
still_then size state was mid now first next = record {
  tables = λ table is. next.tables table (first.tables table is);
  pages = λ n table is. next.pages n table (first.pages n table is);
}

-- so it is where a layout has grown
pub grown_still : StandsOneWay packed_form → (size : ℕ) (state : ℕ → TxState) (was now : Pages) (a b : Layout)
    (r q : Reading) → IsSoundBy packed_form size (left_state everyone state) was a r
    → IsSoundBy packed_form size (left_state everyone state) now b q → HasGrown a b r → StandStill size state was now
grown_still one_way size state was now a b r q first second grown = record {
  tables = λ table is c v sound. subst (λ (l : Layout). IsOneOf (map (λ (stand : Stand). stand.table) l.tables) table)
      (one_way size (left_state everyone state) now b c q v second sound).0
      (subst (λ (ts : List Table). IsOneOf ts table) (sym grown.names) (is a r first));
  pages = λ n table is c v sound. subst (λ (l : Layout). table_at (stands_of l) n ≡ Some table)
      (one_way size (left_state everyone state) now b c q v second sound).0
      (grown.stays n table (is a r first));
}
