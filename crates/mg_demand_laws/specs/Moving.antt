-- What is known where a version is moved to another cell.
use Rattle.std.specs.Prelude.{◌≡◌, ◌≢◌, true, false, Some}
use Rattle.mg_base.specs.Image.{Image}
use Rattle.mg_base.specs.declared.numbers.RecId.{RecId}
use Rattle.mg_careful.specs.declared.links.Demand.{Demand}
use Rattle.mg_careful.specs.CarefulWrite.{DemandSet, Has, IsIn}
use Rattle.mg_chain.specs.Writing.{Moves, Replaces}
use Rattle.mg_demand_laws.specs.CellDemands.{want_by}
use Rattle.mg_demand_laws.specs.Runs.{IsLasting, Lasting}
use Rattle.mg_pool.specs.Batch.{Changed}
use Rattle.mg_pool.specs.declared.pool.Pool.{Pool}
use Rattle.mg_space.specs.Demands.{demands_of}
use Rattle.mg_space.specs.View.{viewed}
use Rattle.mg_version.specs.declared.cell.Link.{Link}
use Rattle.mg_version.specs.declared.cell.Version.{Version}
use Rattle.mg_demand_laws.specs.CellTies.{KnowsWrite}
use Rattle.mg_demand_laws.specs.Wants.{IsDataOf}

-- What is known where a version is moved: what is known where one is written; the version is wanted, and so is
-- its page; no version of its transaction lasts yet, and that of the version behind is settled; and with the
-- slot turned, nothing that was wanted leads to it.
pub record KnowsMove {D L : Type 0} (store : Pool D L) (image : Image) (old new : Changed) (rec : RecId) (v : Version)
    (replaces : Replaces store image old new rec v)
    (moves : Moves store image old new rec replaces.newest replaces.owner replaces.bytes v.tx replaces.was.back)
    (it : Lasting) (on_disk wanted : DemandSet) : Type 0 where
  pub write : KnowsWrite store image old rec replaces.owner v.tx it.settled on_disk wanted
  pub page : IsDataOf store.geometry.size wanted replaces.newest.rec.page.0
  pub version : IsIn wanted (want_by replaces.newest)
  pub moved : replaces.was.primary ≡ false
  pub lasting : IsLasting it
  pub young : (d : Demand) → it.lasts d ≡ true → d.b ≢ v.tx.0
  pub behind : (link : Link) → replaces.was.back ≡ Some link → it.settled link.tx.0 ≡ true
  pub unled : (d : Demand) → IsIn wanted d
      → Has (demands_of (viewed store image moves.swings.turned d.target) d) (want_by replaces.newest) → ⊥
