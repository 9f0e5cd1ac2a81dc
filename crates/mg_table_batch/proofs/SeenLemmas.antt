-- What a row of calls tells of a cache that was read before it is the same of the cache before that reading.
use Rattle.std.proofs.Common.{◌≡◌, ℕ, List, [], ◌∷◌, subst, sym, Result, Ok, Err}
use Rattle.std.specs.Prelude.{IsErr, IsErrAnd, MatchResult}
use Rattle.mg_base.specs.Disk.{Meaning}
use Rattle.mg_base.specs.Image.{Image}
use Rattle.mg_base.specs.declared.geometry.Geometry.{Geometry}
use Rattle.mg_base.specs.declared.numbers.RecId.{RecId}
use Rattle.mg_base.specs.declared.numbers.TxNo.{TxNo}
use Rattle.mg_chain.specs.Chains.{newest_link}
use Rattle.mg_chain.specs.Writing.{GivesSpot, MakesCell, MakesRecord, PutsAt, TurnsTo, link_to}
use Rattle.mg_heap.specs.Apart.{AddsApart, PutsApart, need_with_anchor}
use Rattle.mg_heap.specs.Changing.{ChangesOne, IsLeastSlot, PutsCellAt}
use Rattle.mg_heap.specs.Growth.{AddsOrders, orders_to}
use Rattle.mg_heap.specs.Reach.{IsReached}
use Rattle.mg_heap.specs.RoomLaws.{room_on}
use Rattle.mg_image.specs.Form.{Pages, Row}
use Rattle.mg_model.specs.declared.table.Table.{Table}
use Rattle.mg_pool.specs.Batch.{Changed}
use Rattle.mg_pool.specs.declared.pool.Pool.{Pool}
use Rattle.mg_space.specs.View.{KeepsStore, Tells, viewed}
use Rattle.mg_space.specs.ViewLaws.{tells_on, viewed_on}
use Rattle.mg_space.specs.declared.fault.SpaceFault.{SpaceFault}
use Rattle.mg_version.specs.declared.cell.Link.{Link}
use Rattle.mg_version.specs.declared.cell.TheConstants.{ANCHOR_LEN}
use Rattle.mg_version.specs.declared.cell.Version.{Version}
use Rattle.mg_table_batch.specs.Filling.{PutsNaming, PutsRow, PutsRows, StoresRow, page_of_version, puts_more, puts_none}

-- a fault that a call met is handed on
pub handed_on : {T : Type 0} (result : Result T SpaceFault) (fault : SpaceFault)
    (P : T → Type 0) (Q : SpaceFault → Type 0) → IsErr result
    → IsErrAnd result (λ given. given ≡ fault) → Q fault → MatchResult result P Q
handed_on (Ok x) fault P Q err is holds = absurd cc
handed_on (Err e) fault P Q err is holds = subst Q (sym is) holds

-- what a later call tells of the pages as it saw them is told of the pages before it
pub seen_before : {D L : Type 0} (m : Meaning D) (a b : Pool D L) (image : Image) (batch : Changed)
    → KeepsStore m a b → Tells m a.disk image → (P : Pages → Type 0)
    → ((image : Image) → Tells m b.disk image → P (viewed b image batch)) → P (viewed a image batch)
seen_before m a b image batch kept tells P gives =
    subst P (viewed_on m a b image batch kept) (gives image (tells_on m a b image kept tells))

module _ {D L : Type 0} (m : Meaning D) (a b : Pool D L) (kept : KeepsStore m a b) (image : Image) where
  seen_on : (batch : Changed) → viewed b image batch ≡ viewed a image batch
  seen_on batch = viewed_on m a b image batch kept

  -- a place was given
  pub spot_on : (old new : Changed) (owner : ℕ) (at : RecId) → GivesSpot b image old new owner at
      → GivesSpot a image old new owner at
  spot_on old new owner at it = record {
    gives = room_on m a b kept image old new owner ANCHOR_LEN at.page it.gives;
    least = subst (λ (pages : Pages). IsLeastSlot at.page.0 (pages at.page.0) at.slot) (seen_on new) it.least;
  }

  -- a record was made
  apart_on : (old new : Changed) (owner : ℕ) (place : RecId) (cell : List ℕ) (at : RecId)
      → AddsApart b image old new owner place cell at → AddsApart a image old new owner place cell at
  apart_on old new owner place cell at it = record {
    given = it.given;
    gives = room_on m a b kept image old it.given owner (need_with_anchor cell) at.page it.gives;
    one = subst (λ (g : Geometry). ChangesOne g.size it.given new at.page.0) kept.geometry it.one;
    puts = subst (λ (pages : Pages). PutsApart (viewed a image it.given) pages place at cell) (seen_on new)
        (subst (λ (pages : Pages). PutsApart pages (viewed b image new) place at cell) (seen_on it.given) it.puts);
  }

  puts_at_on : (old new : Changed) (at : RecId) (bytes : List ℕ) → PutsAt b image old new at bytes
      → PutsAt a image old new at bytes
  puts_at_on old new at bytes it = record {
    one = subst (λ (g : Geometry). ChangesOne g.size old new at.page.0) kept.geometry it.one;
    puts = subst (λ (pages : Pages). PutsCellAt (viewed a image old) pages at bytes) (seen_on new)
        (subst (λ (pages : Pages). PutsCellAt pages (viewed b image new) at bytes) (seen_on old) it.puts);
  }

  turns_on : (old new : Changed) (rec : RecId) (link : Link) → TurnsTo b image old new rec link
      → TurnsTo a image old new rec link
  turns_on old new rec link it = record {
    bytes = it.bytes;
    spells = it.spells;
    puts = puts_at_on old new rec it.bytes it.puts;
  }

  cell_on : (old new : Changed) (owner : ℕ) (rec : RecId) (bytes : List ℕ) (tx : TxNo)
      → MakesCell b image old new owner rec bytes tx → MakesCell a image old new owner rec bytes tx
  cell_on old new owner rec bytes tx it = record {
    at = it.at;
    put = it.put;
    adds = apart_on old it.put owner rec bytes it.at it.adds;
    pointers = it.pointers;
    reached = subst (λ (pages : Pages). IsReached pages owner it.at.page.0 it.pointers) (seen_on it.put) it.reached;
    slot_pointers = it.slot_pointers;
    slot_reached = subst (λ (pages : Pages). IsReached pages owner rec.page.0 it.slot_pointers) (seen_on it.put)
        it.slot_reached;
    turned = it.turned;
    turns = turns_on it.put it.turned rec (link_to it.at tx) it.turns;
    ordered = it.ordered;
  }

  pub record_on : (old new : Changed) (owner : ℕ) (rec : RecId) (v : Version)
      → MakesRecord b image old new owner rec v → MakesRecord a image old new owner rec v
  record_on old new owner rec v it = record {
    bytes = it.bytes;
    spells = it.spells;
    makes = cell_on old new owner rec it.bytes v.tx it.makes;
  }

  -- rows of the catalog were put
  pub row_on : (catalog : Table) (t : ℕ) (old new : Changed) (row : Row) (at : RecId)
      → PutsRow b image catalog t old new row at → PutsRow a image catalog t old new row at
  row_on catalog t old new row at it = record {
    given = it.given;
    spot = spot_on old it.given catalog.pointer.0 at it.spot;
    version = it.version;
    stores = subst (λ (g : Geometry). StoresRow g.size catalog t row it.version) kept.geometry it.stores;
    makes = record_on it.given new catalog.pointer.0 at it.version it.makes;
  }

  pub rows_on : (catalog : Table) (t : ℕ) (rows : List Row) (old new : Changed)
      → PutsRows b image catalog t rows old new → PutsRows a image catalog t rows old new
  rows_on catalog t [] old new (puts_none same) = puts_none same
  rows_on catalog t (row ∷ rows) old new (puts_more first others before mid after at it more) =
      puts_more first others before mid after at (row_on catalog t before mid first at it)
      (rows_on catalog t others mid after more)

  pub naming_on : (catalog : Table) (t : ℕ) (old new : Changed) (row : Row) (page : ℕ)
      → PutsNaming b image catalog t old new row page → PutsNaming a image catalog t old new row page
  naming_on catalog t old new row page it = record {
    at = it.at;
    put = it.put;
    puts = row_on catalog t old it.put row it.at it.puts;
    ordered = subst (λ (pages : Pages). AddsOrders it.put new
        (orders_to a.geometry.size page (page_of_version it.at (newest_link pages it.at)))) (seen_on it.put)
        (subst (λ (g : Geometry). AddsOrders it.put new
        (orders_to g.size page (page_of_version it.at (newest_link (viewed b image it.put) it.at)))) kept.geometry
        it.ordered);
  }
