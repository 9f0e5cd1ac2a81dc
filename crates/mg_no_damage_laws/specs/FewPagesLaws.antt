-- What a call takes of the free pages is what it takes at an engine; and calls that only read, or change nothing.
use Rattle.std.proofs.Common.{◌≡◌, ◌≤◌, ◌+◌, ℕ, true, Option, Some, None, sym, ap, subst, arith}
use Rattle.mg_base.specs.Disk.{Meaning}
use Rattle.mg_base.specs.Image.{Image}
use Rattle.mg_base.specs.declared.geometry.Geometry.{Geometry}
use Rattle.mg_core.specs.declared.parts.Core.{Core}
use Rattle.mg_core.specs.Cores.{IsCore}
use Rattle.mg_engine_meaning_laws.specs.FreePages.{CoreHasFree}
use Rattle.mg_space.specs.FreePages.{TellsFree}
use Rattle.mg_entry_tie_laws.specs.Laws.{InsertionsAreThere, InsertionsTakeEighteen}
use Rattle.mg_model.specs.declared.refusal.Refusal.{Refusal}
use Rattle.mg_model.specs.declared.refusal.Refusal.TheVariants.{DatabaseFull}
use Rattle.mg_pool.specs.Pool.{shown}
use Rattle.mg_pool.specs.declared.pool.Pool.{Pool}
use Rattle.mg_space.specs.View.{Tells}
use Rattle.mg_space.specs.ViewLaws.{CountsNow}
use Rattle.mg_space.specs.declared.links.FireLinks.{FireLinks}
use Rattle.mg_no_damage_laws.specs.CoreSpending.{IsNoWant, TakesPages}
use Rattle.mg_free_page_laws.specs.FreeLaws.{fewer, same_taken}
use Rattle.mg_no_damage_laws.specs.FewPages.{CoreTakes}
use Rattle.mg_free_page_laws.specs.RowSpending.{BatchLaws}
use Rattle.mg_free_page_laws.specs.Spending.{SpendsAtMost, ToldAreHeld}

-- What the laws on the calls of an engine rest on.
pub record KnowsRoom {D : Type 0} (m : Meaning D) : Type 0 where
  pub holds : ToldAreHeld m
  pub batches : BatchLaws m
  pub counts_now : CountsNow m
  pub eighteen : InsertionsTakeEighteen
  pub there : InsertionsAreThere

-- ---- refusals

-- a refusal is another one than DATABASE FULL, where there is one
abbrev pub WantsNone : Option Refusal → Type 0
WantsNone None = Unit {0}
WantsNone (Some refusal) = IsNoWant refusal

no_want : (refusal : Option Refusal) → WantsNone refusal → (limit : ℕ) → refusal ≡ Some (DatabaseFull limit) → ⊥
no_want None wants limit is = absurd cc
no_want (Some refusal) wants limit is = wants limit (cc is)

-- ---- by what the caches show before the call and after it

-- where so many pages are free, fewer are
pub has_fewer : {D : Type 0} (m : Meaning D) (core : Core D) (many few : ℕ) → few ≤ many → CoreHasFree m core many
    → CoreHasFree m core few
has_fewer m core many few less has image tells = record {
  regions = (has image tells).regions;
  free = fewer core.store.geometry (shown core.store.dirty image) many few less (has image tells).free;
}

module _ {D : Type 0} (m : Meaning D) (old new : Core D) (refusal : Option Refusal) where
  -- the cache shows the pages that it showed, whatever the disk tells
  pub room_alike : ((i : Image) → Tells m new.store.disk i → Tells m old.store.disk i)
      → new.store.geometry ≡ old.store.geometry
      → ((i : Image) (n : ℕ) → shown new.store.dirty i n ≡ shown old.store.dirty i n) → WantsNone refusal
      → CoreTakes m old new refusal 0
  room_alike told geometry same wants = record {
    left = λ count has image tells. subst (λ (g : Geometry). TellsFree g (shown new.store.dirty image) count)
        (sym geometry) (over count image (has image (told image tells)));
    enough = λ has. no_want refusal wants;
  }
    where
      over : (count : ℕ) (image : Image) → TellsFree old.store.geometry (shown old.store.dirty image) (count + 0)
          → TellsFree old.store.geometry (shown new.store.dirty image) count
      over count image had =
          let took = same_taken old.store.geometry (shown old.store.dirty image) (shown new.store.dirty image)
          (same image) in record {
            regions = took.regions had.regions;
            free = took.left had.regions count had.free;
          }

  -- what is in memory has changed alone
  pub room_kept : new.store ≡ old.store → WantsNone refusal → CoreTakes m old new refusal 0
  room_kept same wants = room_alike (λ i tells. subst (λ (s : Pool D FireLinks). Tells m s.disk i) same tells)
      (ap (λ (s : Pool D FireLinks). s.geometry) same)
      (λ i n. ap (λ (s : Pool D FireLinks). shown s.dirty i n) same) wants

  -- what takes few pages takes at most more of them
  pub room_up : (few many : ℕ) → few ≤ many → CoreTakes m old new refusal few → CoreTakes m old new refusal many
  room_up few many less takes = record {
    left = λ count has. takes.left count (has_fewer m old (count + many) (count + few) (omega (arith, less)) has);
    enough = λ has. takes.enough (has_fewer m old many few less has);
  }

-- ---- where a disk that tells what a crash may leave holds what it tells

module _ {D : Type 0} (m : Meaning D) (holds : ToldAreHeld m) (old new : Core D) (core : IsCore m old)
    (told : m.tells old.store.disk ≡ true) where
  -- the image that the disk of the engine before the call tells
  held : (image : Image) × Tells m old.store.disk image
  held = let it = holds old.store.disk told in (it.0, record { told = told; held = it.1 })

  left_of : (most : ℕ) → SpendsAtMost m old.store new.store most → (count : ℕ) → CoreHasFree m old (count + most)
      → CoreHasFree m new count
  left_of most spends count has image tells =
      let took = spends.takes core.geometry held.0 image held.1 tells.held in
      let had = has held.0 held.1 in
      subst (λ (g : Geometry). TellsFree g (shown new.store.dirty image) count) (sym spends.geometry) (record {
        regions = took.regions had.regions;
        free = took.left had.regions count had.free;
      })

  pub room_of : (refusal : Option Refusal) (most : ℕ) → TakesPages m old new refusal most
      → CoreTakes m old new refusal most
  room_of refusal most takes = record {
    left = left_of most takes.spends;
    enough = λ has limit is. takes.enough held.0 (record {
      tells = held.1;
      regions = (has held.0 held.1).regions;
      free = (has held.0 held.1).free;
    }) limit is;
  }

  -- a call that takes none, and is not refused for want of them
  pub room_none : (refusal : Option Refusal) → SpendsAtMost m old.store new.store 0 → WantsNone refusal
      → CoreTakes m old new refusal 0
  room_none refusal spends wants = record { left = left_of 0 spends; enough = λ has. no_want refusal wants }

  -- a call that changes no page
  pub room_same : (refusal : Option Refusal) → new.store ≡ old.store → WantsNone refusal
      → CoreTakes m old new refusal 0
  room_same refusal same wants = room_kept m old new refusal same wants

  -- what takes few pages takes at most more of them
  pub room_more : (refusal : Option Refusal) (few many : ℕ) → few ≤ many → CoreTakes m old new refusal few
      → CoreTakes m old new refusal many
  room_more refusal few many less takes = room_up m old new refusal few many less takes
