-- The page cache gives what the laws of overlays take.
use Rattle.std.proofs.Common.{◌≡◌, ◌⊎◌, inl, inr, refl, sym, ◌∙◌, ℕ, Bool, true, false, not, ◌&&◌, ◌||◌, List, Option, None, Some}
use Rattle.std.specs.Prelude.{is_some, unwrap_or}
use Rattle.mg_base.specs.Disk.{Meaning}
use Rattle.mg_base.specs.Image.{Image, page_at}
use Rattle.mg_pool.specs.Dirty.{DirtyPages, content_of, is_dirty, is_marked}
use Rattle.mg_pool.specs.Pool.{shown, taken_out}
use Rattle.mg_pool_overlay_laws.specs.Laws.{ChangesAre, ChangesKeepNeeds, NoneMarkedNone, NotAskedNeedsAll, RunsAre, RunsKeepNeeds}
use Rattle.mg_pool_overlay_laws.specs.Needs.{Asked, Sessions, needs_by}

pub runs_are : (D L : Type 0) (m : Meaning D) → RunsAre D L m
runs_are D L m old new i j run tells held_old held_new =
    let out = run.out tells i j held_old held_new in
    record { pool = out.shown_same; closed = out.closed; overlays = out.overlays }

-- a page that is not dirty is shown as on the disk
clean_shown : (dirty : DirtyPages) (image : Image) (p : ℕ) → is_dirty dirty p ≡ false
    → shown dirty image p ≡ page_at dirty.size image p
clean_shown dirty image p clean = at (content_of dirty p) clean
  where
    at : (c : Option (List ℕ)) → is_some c ≡ false
        → unwrap_or c (page_at dirty.size image p) ≡ page_at dirty.size image p
    at None none = refl
    at (Some bytes) none = absurd cc

pub changes_are : (D L : Type 0) → ChangesAre D L
changes_are D L old new i j gone batch orders changes = record {
  pool = changes.shown_new;
  closed = changes.closed;
  overlays = changes.overlays;
  together = changes.together;
  is_laid = changes.is_laid;
  was_clean = λ p clean. clean_shown old.dirty i p clean;
  is_clean = λ p clean. clean_shown new.dirty j p clean;
}

-- ---- what transactions need

first_part : (a b : Bool) → (a && b) ≡ true → a ≡ true
first_part true b is = refl
first_part false b is = absurd cc

second_part : (a b : Bool) → (a && b) ≡ true → b ≡ true
second_part true b is = is
second_part false b is = absurd cc

-- a page that was needed is needed still where it is dirty, and marked as it was
still_needed : (asked : Asked) (session : Sessions) (old new : DirtyPages) (t p : ℕ)
    → needs_by asked session old t p ≡ true → is_dirty new p ≡ true
    → is_marked new p (session t) ≡ is_marked old p (session t)
    → needs_by asked session new t p ≡ true
still_needed asked session old new t p needed dirty marked =
    let either : (not (asked t) || is_marked old p (session t)) ≡ true =
    second_part (is_dirty old p) (not (asked t) || is_marked old p (session t)) needed in
    rw (dirty, marked) either

pub runs_keep_needs : (D L : Type 0) (m : Meaning D) → RunsKeepNeeds D L m
runs_keep_needs D L m old new asked session run t p needed = by (is_dirty new.dirty p) refl
  where
    was : is_dirty old.dirty p ≡ true
    was = first_part (is_dirty old.dirty p) (not (asked t) || is_marked old.dirty p (session t)) needed

    by : (b : Bool) → is_dirty new.dirty p ≡ b → (taken_out old.dirty new.dirty p ≡ true)
        ⊎ (needs_by asked session new.dirty t p ≡ true)
    by true dirty = inr (still_needed asked session old.dirty new.dirty t p needed dirty
        (run.marks p (session t) dirty))
    by false clean = inl (rw (was, clean) refl)

pub changes_keep_needs : (D L : Type 0) → ChangesKeepNeeds D L
changes_keep_needs D L old new i j gone batch orders asked session changes t p needed =
    (was, by (gone p) refl)
  where
    was : is_dirty old.dirty p ≡ true
    was = first_part (is_dirty old.dirty p) (not (asked t) || is_marked old.dirty p (session t)) needed

    some : (bytes : List ℕ) → batch p ≡ Some bytes → batch p ≡ None → ⊥
    some bytes is none = let both = sym is ∙ none in absurd cc

    dirty_now : (c : Option (List ℕ)) → batch p ≡ c → gone p ≡ false → is_dirty new.dirty p ≡ true
    dirty_now None none here = changes.dirty_else p none ∙ rw (was, here) refl
    dirty_now (Some bytes) is here = changes.is_laid p (some bytes is)

    same_mark : (b : Bool) → gone p ≡ false → is_marked old.dirty p (session t) ≡ b
        → (b && not (gone p)) ≡ b
    same_mark true here is = rw here refl
    same_mark false here is = refl

    by : (b : Bool) → gone p ≡ b → (gone p ≡ true) ⊎ (needs_by asked session new.dirty t p ≡ true)
    by true out = inl out
    by false here = inr (still_needed asked session old.dirty new.dirty t p needed
        (dirty_now (batch p) refl here)
        (changes.marks p (session t) ∙ same_mark (is_marked old.dirty p (session t)) here refl))

pub not_asked_needs_all : NotAskedNeedsAll
not_asked_needs_all dirty graph image asked session t none p is = rw (is, none) refl

pub none_marked_none : NoneMarkedNone
none_marked_none dirty asked session t is none p = rw is (none p)
