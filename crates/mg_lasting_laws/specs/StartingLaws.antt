-- A cache over a disk with nothing pending lasts with the history that begins with the disk's image.
use Rattle.std.proofs.Common.{◌≡◌, ℕ, false, [], Some, refl, sym, subst}
use Rattle.std.proofs.Math.Path.{fun_ext}
use Rattle.std.proofs.lemmas.Bool.{false≢true}
use Rattle.mg_base.specs.Disk.{MayLeave, Meaning}
use Rattle.mg_base.specs.Image.{Image, page_at}
use Rattle.mg_careful.specs.CarefulWrite.{IsClosed, Pages}
use Rattle.mg_model.specs.declared.opening.Opening.{Opening}
use Rattle.mg_model.specs.Laws.{OpeningsBegin}
use Rattle.mg_model.specs.Openings.{IsOpening}
use Rattle.mg_image.specs.Form.{Form}
use Rattle.mg_image.specs.Histories.{Begins}
use Rattle.mg_image.specs.Opening.{IsOpened, Opened}
use Rattle.mg_pool.specs.Dirty.{is_dirty}
use Rattle.mg_pool.specs.Pool.{cache_of, shown}
use Rattle.mg_pool.specs.declared.pool.Pool.{Pool}
use Rattle.mg_pool_overlay_laws.specs.Needs.{Asked, Sessions, needs_by}
use Rattle.mg_lasting_laws.specs.CrashLaws.{overlays_hold_from}
use Rattle.mg_lasting_laws.specs.Crashes.{HoldsAcknowledged}
use Rattle.mg_lasting_laws.specs.Lasting.{Lasts, LastsOn}
use Rattle.mg_lasting_laws.specs.PoolLaws.{needs_are}
use Rattle.mg_lasting_laws.specs.StartLaws.{start_lasts}

-- no page is dirty, and a crash now leaves the image that the disk holds and no other
abbrev pub StartsOn : (D L : Type 0) → Meaning D → Form → Type 0
StartsOn D L m form = (o : Opening) (pool : Pool D L) (image : Image) (opened : Opened)
    (has_asked : Asked) (session : Sessions) → m.held pool.disk ≡ Some image
    → ((p : ℕ) → is_dirty pool.dirty p ≡ false)
    → ((c : Image) → MayLeave m pool.disk c → c ≡ image)
    → IsOpened form pool.dirty.size (page_at pool.dirty.size image) opened → Begins opened o
    → IsOpening o → LastsOn m form o [] pool has_asked session

pub starts_on : (D L : Type 0) (m : Meaning D) (form : Form) → OpeningsBegin → StartsOn D L m form
starts_on D L m form begin o pool image opened has_asked session held none only is begins whole = record {
  image = image;
  held = held;
  lasts = lasting;
  settled = refl;
  left = λ c may. subst (HoldsAcknowledged form pool.dirty.size o []) (sym (only c may)) holds;
}
  where
    same : page_at pool.dirty.size image ≡ shown pool.dirty image
    same = fun_ext (λ p. sym ((needs_are pool.dirty pool.graph image has_asked session).clean p (none p)))

    no_needs : (t p : ℕ) → needs_by has_asked session pool.dirty t p ≡ false
    no_needs t p = rw (none p) refl

    lasting : Lasts form pool.dirty.size o [] (cache_of pool.dirty pool.graph image) has_asked
        (needs_by has_asked session pool.dirty)
    lasting = start_lasts form begin pool.dirty.size o (cache_of pool.dirty pool.graph image) has_asked
        (needs_by has_asked session pool.dirty) opened
        (subst (λ (pages : Pages). IsOpened form pool.dirty.size pages opened) same is) begins whole none
        (needs_are pool.dirty pool.graph image has_asked session).clean no_needs

    none_closed : IsClosed (cache_of pool.dirty pool.graph image) (λ p. false)
    none_closed = record {
      only_dirty = λ p in_it. absurd (false≢true in_it);
      before = λ p q precedes dirty in_it. absurd (false≢true in_it);
    }

    holds : HoldsAcknowledged form pool.dirty.size o [] image
    holds = overlays_hold_from form pool.dirty.size o [] (cache_of pool.dirty pool.graph image) has_asked
        (needs_by has_asked session pool.dirty) (λ p. false) image (begin o whole) tt lasting none_closed
        (λ p. refl)
