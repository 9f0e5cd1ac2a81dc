-- What a crash leaves over pages that were written out and the page write that failed then.
use Rattle.std.proofs.Common.{◌≡◌, ◌⊎◌, ◌∙◌, ◌||◌, ◌<◌, ℕ, Bool, Some, ap, arith, false, inl, inr, length, refl, sym, true}
use Rattle.std.proofs.lemmas.Bool.{false≢true}
use Rattle.mg_base.specs.Disk.{MayLeave, Meaning}
use Rattle.mg_base.specs.Image.{Image, page_at}
use Rattle.mg_base.specs.Moments.{LeavesOnly, joined, leaves_as}
use Rattle.mg_lasting_laws.specs.PoolLaws.{HoldsOne}
use Rattle.mg_pool.specs.Pool.{IsClosedOverlay, IsOverlay, LeavesClosed, LeavesOverlays, WritesSet, taken_out}
use Rattle.mg_pool.specs.Run.{HasWritten}
use Rattle.mg_pool.specs.declared.pool.Pool.{Pool}
use Rattle.mg_space.specs.ViewLaws.{CountsNow}

-- an overlay of a closed set after pages were written out is one from before
module _ {D L : Type 0} (m : Meaning D) (counts_now : CountsNow m) (holds : HoldsOne D m) (a b c : Pool D L)
    (run : HasWritten m a b) (crash : LeavesOverlays m b c) where
  module _ (told : m.tells a.disk ≡ true) (image : Image) (held : m.held a.disk ≡ Some image) (k : Image)
      (held_then : m.held b.disk ≡ Some k) where
    abbrev May : Image → Type 0
    May x = MayLeave m a.disk x ⊎ IsClosedOverlay a.dirty a.graph image x

    tells_then : m.tells b.disk ≡ true
    tells_then = run.tells ∙ told

    first : LeavesOnly m a.disk b.disk May
    first = run.crash told image held

    out : WritesSet a.dirty b.dirty a.graph b.graph image k (taken_out a.dirty b.dirty)
    out = run.out told image k held held_then

    overlaid : (x : Image) → IsClosedOverlay b.dirty b.graph k x → IsClosedOverlay a.dirty a.graph image x
    overlaid x is = record {
      set_ = λ p. taken_out a.dirty b.dirty p || is.set_ p;
      closed = out.closed is.set_ is.closed;
      is = both;
    }
      where
        or_true : (v w : Bool) → (v || w) ≡ true → (v ≡ true) ⊎ (w ≡ true)
        or_true true w is = inl refl
        or_true false w is = inr is

        reached_by : (p : ℕ) → (taken_out a.dirty b.dirty p ≡ true) ⊎ (is.set_ p ≡ true) → p < length x
        reached_by p (inl gone) = let long = is.is.as_long in let at = out.image.reached p gone in omega (arith, long, at)
        reached_by p (inr in_it) = is.is.reached p in_it

        first_none : (v w : Bool) → (v || w) ≡ false → v ≡ false
        first_none true w is = is
        first_none false w is = refl

        later_none : (v w : Bool) → (v || w) ≡ false → w ≡ false
        later_none true w is = absurd (false≢true (sym is))
        later_none false w is = is

        both : IsOverlay a.dirty a.graph image (λ p. taken_out a.dirty b.dirty p || is.set_ p) x
        both = record {
          pages = λ p. ap (λ (n : ℕ). page_at n x p) (sym run.size)
              ∙ (is.is.pages p ∙ out.overlays is.set_ is.closed p);
          as_long = let one = out.image.as_long in let more = is.is.as_long in omega (arith, one, more);
          reached = λ p in_it. reached_by p (or_true (taken_out a.dirty b.dirty p) (is.set_ p) in_it);
          no_longer = λ end past none. is.is.no_longer end
              (out.image.no_longer end past
              (λ p high. first_none (taken_out a.dirty b.dirty p) (is.set_ p) (none p high)))
              (λ p high. later_none (taken_out a.dirty b.dirty p) (is.set_ p) (none p high));
        }

    turn : (x : Image) → MayLeave m b.disk x ⊎ IsClosedOverlay b.dirty b.graph k x → May x
    turn x (inl may) = first.each x (counts_now b.disk (m.moment a.disk) x tells_then first.later may)
    turn x (inr is) = inr (overlaid x is)

    whole : LeavesOnly m a.disk c.disk May
    whole = joined m a.disk b.disk c.disk May first (leaves_as m b.disk c.disk
        (λ x. MayLeave m b.disk x ⊎ IsClosedOverlay b.dirty b.graph k x) May turn (crash tells_then k held_then))

  pub overlays_then : LeavesOverlays m a c
  overlays_then told image held = at (holds b.disk (run.tells ∙ told))
    where
      at : (k : Image) × (m.held b.disk ≡ Some k) × MayLeave m b.disk k
          → LeavesClosed m a.disk c.disk a.dirty a.graph image
      at (k, held_then, may) = whole told image held k held_then
