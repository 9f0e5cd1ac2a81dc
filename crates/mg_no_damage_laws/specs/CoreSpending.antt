-- What a call of the engine takes of the free pages, and that it says DATABASE FULL only where fewer are free.
use Rattle.std.specs.Prelude.{◌≡◌, ℕ, Option, Some}
use Rattle.mg_base.specs.Disk.{Meaning}
use Rattle.mg_base.specs.Image.{Image}
use Rattle.mg_core.specs.declared.parts.Core.{Core}
use Rattle.mg_model.specs.declared.refusal.Refusal.{Refusal}
use Rattle.mg_model.specs.declared.refusal.Refusal.TheVariants.{DatabaseFull}
use Rattle.mg_pool.specs.Pool.{shown}
use Rattle.mg_space.specs.View.{Tells}
use Rattle.mg_space.specs.FreePages.{HasRegions}
use Rattle.mg_space.specs.FreePages.{HasFree}
use Rattle.mg_free_page_laws.specs.Spending.{SpendsAtMost}

-- a refusal is another one than DATABASE FULL
abbrev pub IsNoWant : Refusal → Type 0
IsNoWant refusal = (limit : ℕ) → refusal ≡ DatabaseFull limit → ⊥

-- the cache of an engine shows lawful inventory pages, and this many free pages
pub record ShowsFree {D : Type 0} (m : Meaning D) (core : Core D) (i : Image) (count : ℕ) : Type 0 where
  pub tells : Tells m core.store.disk i
  pub regions : HasRegions core.store.geometry (shown core.store.dirty i)
  pub free : HasFree core.store.geometry (shown core.store.dirty i) count

-- A call takes at most so many pages, and where so many are free a refusal of it is no DATABASE FULL.
pub record TakesPages {D : Type 0} (m : Meaning D) (old new : Core D) (refusal : Option Refusal) (most : ℕ)
    : Type 0 where
  pub spends : SpendsAtMost m old.store new.store most
  pub enough : (i : Image) → ShowsFree m old i most → (limit : ℕ) → refusal ≡ Some (DatabaseFull limit) → ⊥
