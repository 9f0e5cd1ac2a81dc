-- What the pages of a database are wanted for, and what a change of pages pays.
use Rattle.std.specs.Prelude.{◌≡◌, ◌≢◌, ◌⊎◌, ◌==◌, ◌&&◌, ℕ, Bool, true, false, not, length}
use Rattle.mg_base.specs.Fields.{byte}
use Rattle.mg_base.specs.Geometry.{is_page_size}
use Rattle.mg_careful.specs.declared.links.Demand.{Demand}
use Rattle.mg_careful.specs.Precedence.{Orders}
use Rattle.mg_careful.specs.CarefulWrite.{DemandSet, Has, IsIn, KeepsDemands, either}
use Rattle.mg_demand_laws.specs.Bearing.{IsPaid, PaysDemands}
use Rattle.mg_demand_laws.specs.Freeing.{DropsDemands, KeepsLinks, Which, without}
use Rattle.mg_image.specs.Form.{Pages}
use Rattle.mg_image.specs.Inventory.{is_used}
use Rattle.mg_slots.specs.declared.page.TheConstants.{DATA_KIND}
use Rattle.mg_space.specs.Demands.{demands_of, meets_of}
use Rattle.mg_space.specs.declared.links.TheConstants.{VERSION}

-- one demand: of a page, what, and two numbers
abbrev pub want_of : ℕ → ℕ → ℕ → ℕ → Demand
want_of target what a b = record { target = target; what = what; a = a; b = b }

-- The pages of a database are wanted so: what is wanted is met, and wanted in turn; a page of which
-- something is wanted is marked as used; and versions are wanted of data pages alone.
pub record IsWanting (size : ℕ) (pages : Pages) (wanted : DemandSet) : Type 0 where
  pub lawful : is_page_size size ≡ true
  pub whole : (n : ℕ) → length (pages n) ≡ size
  pub keeps : KeepsDemands demands_of meets_of pages wanted
  pub used : (d : Demand) → IsIn wanted d → is_used size pages d.target ≡ true
  pub on_data : (d : Demand) → IsIn wanted d → d.what ≡ VERSION
      → byte (pages d.target) 0 ≡ DATA_KIND

-- What may be dropped: the versions of transactions that are not settled, as one is once it has committed
-- and all of its versions are on the disk.
abbrev pub may_go : (ℕ → Bool) → Which
may_go settled d = d.what == VERSION && not (settled d.b)

-- nothing is dropped
abbrev pub nothing : Which
nothing d = false

-- A change of pages pays for what it newly wants, and then the pages are wanted for that, too. A link to what
-- may be dropped stays, or its page is ordered first.
pub record Pays (size : ℕ) (old new : Pages) (orders : Orders) (settled : ℕ → Bool)
    (on_disk wanted more : DemandSet) : Type 0 where
  pub pays : PaysDemands demands_of meets_of old new orders on_disk wanted more
  pub wants : IsWanting size new (either wanted more)
  pub leaves : KeepsLinks demands_of old new orders wanted nothing (may_go settled)

-- A change of pages drops what was wanted: the rest is wanted still, and leads to none of it.
pub record Drops (size : ℕ) (old new : Pages) (orders : Orders) (settled : ℕ → Bool)
    (wanted : DemandSet) (dropped : Which) : Type 0 where
  pub drops : DropsDemands demands_of meets_of old new wanted dropped
  pub wants : IsWanting size new (without dropped wanted)
  pub leaves : KeepsLinks demands_of old new orders wanted dropped (may_go settled)
  pub may : (d : Demand) → dropped d ≡ true → may_go settled d ≡ true

-- What a change of one page owes: what was wanted of the page is met still, and its new links are paid
-- for; so it is with what is newly wanted; and its links to what may be dropped stay, or it is ordered
-- first.
pub record OwesPage (size : ℕ) (old new : Pages) (b : ℕ) (orders : Orders) (settled : ℕ → Bool)
    (on_disk wanted more : DemandSet) : Type 0 where
  pub others : (n : ℕ) → n ≢ b → new n ≡ old n
  pub len : length (new b) ≡ size
  pub used : (n : ℕ) → is_used size old n ≡ true → is_used size new n ≡ true
  pub still : (d : Demand) → IsIn wanted d → d.target ≡ b → meets_of (new b) d ≡ true
  pub links : (d e : Demand) → IsIn wanted d → d.target ≡ b → Has (demands_of (new b) d) e
      → Has (demands_of (old b) d) e ⊎ IsPaid orders on_disk wanted more d e
  pub kept_data : (d : Demand) → IsIn wanted d → d.target ≡ b → d.what ≡ VERSION
      → byte (new b) 0 ≡ DATA_KIND
  pub leaves : (d e : Demand) → IsIn wanted d → d.target ≡ b → Has (demands_of (old b) d) e
      → may_go settled e ≡ true → e.target ≢ b
      → Has (demands_of (new b) d) e ⊎ (orders b e.target ≡ true)
  pub met : (d : Demand) → IsIn more d → meets_of (new d.target) d ≡ true
  pub new_links : (d e : Demand) → IsIn more d → Has (demands_of (new d.target) d) e
      → IsPaid orders on_disk wanted more d e
  pub new_used : (d : Demand) → IsIn more d → is_used size new d.target ≡ true
  pub new_data : (d : Demand) → IsIn more d → d.what ≡ VERSION
      → byte (new d.target) 0 ≡ DATA_KIND
