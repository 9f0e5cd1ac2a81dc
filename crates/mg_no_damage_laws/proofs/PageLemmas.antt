-- The pages of tables, as one sees them who sees lawful records.
use Rattle.std.proofs.Common.{inl, inr, ℕ, suc, false, List, [], ◌∷◌, sym, subst}
use Rattle.mg_base.specs.Disk.{Meaning}
use Rattle.mg_heap.specs.Stands.{WalksMeetNoDamage}
use Rattle.mg_image.specs.Form.{Pages}
use Rattle.mg_image.specs.Sound.{IsTableData}
use Rattle.mg_image.specs.Tables.{EachFrom, Has}
use Rattle.mg_model.specs.declared.table.Table.{Table}
use Rattle.mg_space.specs.View.{viewed}
use Rattle.mg_no_damage_laws.specs.Sees.{IsPageOf, PagesAreThere}
use Rattle.mg_no_damage_laws.proofs.LaidLemmas.{listed_there}

each_has : (P : ℕ → ℕ → Type 0) (at : ℕ) (ns : List ℕ) (n : ℕ) → EachFrom P at ns → Has ns n
    → (k : ℕ) × P k n
each_has P at [] n each listed = absurd listed
each_has P at (x ∷ xs) n each (inl same) = (at, subst (P at) (sym same) each.0)
each_has P at (x ∷ xs) n each (inr later) = each_has P (suc at) xs n each.1 later

-- a data page of a table is one at its place
pub data_at : (size : ℕ) (pages : Pages) (n : ℕ) (table : Table) (is : IsPageOf size pages n table)
    → (k : ℕ) × IsTableData false size pages is.stand.table.pointer.0 k n
data_at size pages n table is = each_has (IsTableData false size pages is.stand.table.pointer.0) 0
    is.stand.data_pages n is.has.data_pages is.listed

pub page_there : {D : Type 0} (m : Meaning D) → WalksMeetNoDamage m → PagesAreThere m
page_there m walks store image batch f r sees n table of it refused =
    let is : IsPageOf store.geometry.size (viewed store image batch) n.0 table =
    sees.lawful.data_pages n.0 table of in
    listed_there m store image batch walks sees.tells store.geometry.size is.stand is.has n is.listed it refused
