-- The first data page of a table, made for these cells.
use Rattle.std.proofs.Common.{◌≡◌, ◌<◌, ◌≤◌, ◌+◌, ◌*◌, ℕ, List, length, sym, subst, arith, lit<}
use Rattle.std.specs.Prelude.{◌^◌}
use Rattle.mg_base.specs.CheckLaws.{front_checks, new_passes}
use Rattle.mg_base.specs.Checks.{PassesAll, common_checks}
use Rattle.mg_base.specs.Fields.{length-new_page, new_page}
use Rattle.mg_image.specs.NewDatabase.{first_data_page, with_cells}
use Rattle.mg_slots.specs.DataPage.{IsDataPage}
use Rattle.mg_slots.specs.declared.page.TheConstants.{DATA_KIND}
use Rattle.mg_new_database_laws.specs.CellLaws.{HasCells, cells_stand, total}
use Rattle.mg_new_database_laws.specs.DataLaws.{AreTall, data_page}

module _ (size page owner : ℕ) (cells : List (List ℕ)) (smallest : 1024 ≤ size) (greatest : size ≤ 16384)
    (room : 20 + 4 * length cells + total cells ≤ size) where
  abbrev pub fresh : List ℕ
  fresh = new_page size page DATA_KIND owner 0

  pub long_fresh : length fresh ≡ size
  long_fresh = length-new_page size page DATA_KIND owner 0

  pub first_has : HasCells fresh 0 (length fresh) cells (first_data_page size page owner cells)
  first_has = subst (λ (end : ℕ). HasCells fresh 0 (length fresh) cells (with_cells fresh 0 end cells)) long_fresh
      (cells_stand fresh 0 (length fresh) cells (omega (arith, long_fresh, greatest)) (omega arith)
      (omega (arith, long_fresh, room)))

  pub first_is_lawful : AreTall cells → IsDataPage (first_data_page size page owner cells)
  first_is_lawful tall = data_page fresh cells (first_data_page size page owner cells)
      (omega (arith, long_fresh, smallest)) (omega (arith, long_fresh, greatest)) tall
      (omega (arith, long_fresh, room)) first_has

  pub first_passes : page < 2 ^ 32 → owner < 2 ^ 32
      → PassesAll (common_checks (first_data_page size page owner cells) page DATA_KIND owner 0)
  first_passes small small_owner =
      subst PassesAll (sym (front_checks (first_data_page size page owner cells) fresh page DATA_KIND owner 0
      (first_has.front))) (new_passes size page DATA_KIND owner 0 (omega (arith, smallest)) small small_owner (lit< tt))
