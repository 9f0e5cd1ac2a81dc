-- A cell that has no room on the page that was given is refused by the damage of that page, and so is told for want of
-- pages nowhere.
use Rattle.std.proofs.Common.{◌≡◌, inl, inr}
use Rattle.mg_base.specs.Disk.{Meaning}
use Rattle.mg_space.specs.declared.fault.SpaceFault.TheVariants as faults
use Rattle.mg_free_page_laws.specs.CellRefusals.{PutsApartAreOther, PutsAreOther}

module _ {D : Type 0} (m : Meaning D) where
  -- a cell that is put into the least free slot
  pub puts_are_other : PutsAreOther m
  puts_are_other store batch b page cell (faults.Full most) (inl never) limit is = absurd never
  puts_are_other store batch b page cell (faults.Full most) (inr none) limit is =
      let both : faults.Full most ≡ faults.Damaged _ = none.is in absurd cc
  puts_are_other store batch b page cell (faults.Damaged it) refused limit is = absurd cc
  puts_are_other store batch b page cell (faults.Pool fault) refused limit is = absurd cc

  -- a cell that is put apart from a place
  pub puts_apart_are_other : PutsApartAreOther m
  puts_apart_are_other store batch b page place cell (faults.Full most) (inl never) limit is = absurd never
  puts_apart_are_other store batch b page place cell (faults.Full most) (inr none) limit is =
      let both : faults.Full most ≡ faults.Damaged none.damage = none.is in absurd cc
  puts_apart_are_other store batch b page place cell (faults.Damaged it) refused limit is = absurd cc
  puts_apart_are_other store batch b page place cell (faults.Pool fault) refused limit is = absurd cc
