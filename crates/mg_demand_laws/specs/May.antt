-- What a caller has to know of an own version that is moved or taken out, where the versions that are wanted are chained.
use Rattle.std.specs.Prelude.{◌≡◌, ◌≢◌, true, false, ℕ, Bool, Some}
use Rattle.mg_base.specs.Image.{Image}
use Rattle.mg_base.specs.declared.numbers.RecId.{RecId}
use Rattle.mg_careful.specs.declared.links.Demand.{Demand}
use Rattle.mg_careful.specs.CarefulWrite.{DemandSet, IsIn}
use Rattle.mg_chain.specs.Writing.{Moves, Replaces, TakesOut}
use Rattle.mg_demand_laws.specs.Runs.{IsLasting, Lasting}
use Rattle.mg_pool.specs.Batch.{Changed}
use Rattle.mg_pool.specs.declared.pool.Pool.{Pool}
use Rattle.mg_space.specs.View.{viewed}
use Rattle.mg_space.specs.declared.links.TheConstants.{HEADER, VERSION}
use Rattle.mg_version.specs.declared.cell.Link.{Link}
use Rattle.mg_version.specs.declared.cell.Version.{Version}
use Rattle.mg_demand_laws.specs.Wanting.{IsWanting, want_of}
use Rattle.mg_demand_laws.specs.CellTies.{KnowsWrite}
use Rattle.mg_demand_laws.specs.Wants.{IsDataOf}

-- A version may be moved: what is known where one is written; no version of its transaction lasts yet, and that of the
-- version behind is settled.
pub record MayMove {D L : Type 0} (store : Pool D L) (image : Image) (old new : Changed) (rec : RecId) (v : Version)
    (replaces : Replaces store image old new rec v) (it : Lasting) (on_disk wanted : DemandSet) : Type 0 where
  pub write : KnowsWrite store image old rec replaces.owner v.tx it.settled on_disk wanted
  pub lasting : IsLasting it
  pub young : (d : Demand) → it.lasts d ≡ true → d.b ≢ v.tx.0
  pub behind : (link : Link) → replaces.was.back ≡ Some link → it.settled link.tx.0 ≡ true

-- A version may be taken out: its record's page is wanted as a data page; its transaction is not settled, and that of
-- the version behind is; and the disk has the versions of those that are.
pub record MayTakeOut {D L : Type 0} (store : Pool D L) (image : Image) (old new : Changed) (rec : RecId)
    (takes : TakesOut store image old new rec) (settled : ℕ → Bool) (on_disk wanted : DemandSet) : Type 0 where
  pub wants : IsWanting store.geometry.size (viewed store image old) wanted
  pub header : IsIn wanted (want_of 0 HEADER 0 0)
  pub record_ : IsDataOf store.geometry.size wanted rec.page.0
  pub unsettled : settled takes.newest.tx.0 ≡ false
  pub behind : (link : Link) → takes.was.back ≡ Some link → settled link.tx.0 ≡ true
  pub lasting : (d : Demand) → IsIn wanted d → d.what ≡ VERSION → settled d.b ≡ true → IsIn on_disk d
