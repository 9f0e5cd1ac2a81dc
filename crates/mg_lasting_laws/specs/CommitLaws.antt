-- A commit's bits are changed and written: the cache lasts with the longer history in the end.
use Rattle.std.proofs.Common.{◌≡◌, ◌≢◌, ◌<◌, ◌||◌, ℕ, Bool, true, false, List, ◌∷◌, Option, None, refl, sym, ap, ◌∙◌, subst}
use Rattle.std.specs.Prelude.{if◌then◌else◌, unwrap_or}
use Rattle.std.proofs.Math.Path.{fun_ext}
use Rattle.std.proofs.lemmas.Bool.{cases_eq, false≢true}
use Rattle.std.proofs.Common.{◌⊎◌, inl, inr}
use Rattle.mg_base.specs.declared.transaction.TxState.TheVariants.{Committed}
use Rattle.mg_careful.specs.CarefulWrite.{Cache, IsClosed, PageSet, Pages, overlay}
use Rattle.mg_careful.specs.Precedence.{Orders}
use Rattle.mg_model.specs.declared.opening.Opening.{Opening}
use Rattle.mg_model.specs.History.{Entries, Entry}
use Rattle.mg_model.specs.Machine.{state_of}
use Rattle.mg_image.specs.Form.{Form}
use Rattle.mg_image.specs.Inventory.{next_of, state_at}
use Rattle.mg_image_overlay_laws.specs.pages.Kinds.{HasNoSequences}
use Rattle.mg_image_overlay_laws.specs.kept.KeptImages.{IsKept, keeping}
use Rattle.mg_overlay_laws.specs.BatchLaws.{lays, overlay_is}
use Rattle.mg_overlay_laws.specs.Overlays.{ChangesCache, before, left_state, nobody}
use Rattle.mg_image_overlay_laws.specs.pages.OnePage.{IsOnePage}
use Rattle.mg_image_overlay_laws.specs.transactions.Midway.{EveryMidway}
use Rattle.mg_image_overlay_laws.specs.transactions.MidwayLaws.{commit_changes_every, midway_writes, midway_written}
use Rattle.mg_lasting_laws.specs.Bits.{IsSettled, bits_behind, settled_drawn}
use Rattle.mg_lasting_laws.specs.CommitStatements.{CommitGoesMidway, MidwayIsWritten, MidwayWritesLast}
use Rattle.mg_lasting_laws.specs.Entries.{brings_changes, end_here, end_next, end_others}
use Rattle.mg_lasting_laws.specs.Laws.{ArePoolBits}
use Rattle.mg_lasting_laws.specs.StepLaws.{first_drawn, settled_left}

module _ (form : Form) (size : ℕ) (o : Opening) (h : Entries) (e : Entry) (old new : Cache)
    (gone : PageSet) (batch : ℕ → Option (List ℕ)) (orders : Orders) (needs later : ℕ → PageSet)
    (page : ℕ) (before_ : Pages) (changes : ChangesCache old new gone batch orders)
    (one : IsOnePage batch new.pool page) (ordered : orders 0 page ≡ true)
    (midway : EveryMidway (keeping form size o h) (keeping form size o (e ∷ h)) page before_
    (state_of o h) (state_of o (e ∷ h)) new later)
    (bits : ArePoolBits size new.pool (state_of o (e ∷ h)))
    (was : (set_ : PageSet) → IsClosed old set_ → (t : ℕ)
    → state_at size (overlay old set_) t ≡ left_state nobody (state_of o h) t)
    (set_ : PageSet) (closed : IsClosed new set_) where
  -- without the page of the bits the overlay is one from before
  without_page : set_ page ≡ false → overlay new set_ ≡ overlay old (before old gone set_)
  without_page out = fun_ext (λ p. changes.overlays set_ closed p ∙ at p (cases_eq p page))
    where
      at : (p : ℕ) → (p ≡ page) ⊎ (p ≢ page)
          → unwrap_or (if set_ p then batch p else None) (overlay old (before old gone set_) p)
          ≡ overlay old (before old gone set_) p
      at p (inl same) = let off : set_ p ≡ false = ap set_ same ∙ out in rw off refl
      at p (inr ne) = by (set_ p) (batch p) (one.others p ne)
        where
          by : (c : Bool) (bytes : Option (List ℕ)) → bytes ≡ None
              → unwrap_or (if c then bytes else None) (overlay old (before old gone set_) p)
              ≡ overlay old (before old gone set_) p
          by true bytes none = rw none refl
          by false bytes none = refl

  -- with it the header is the pool's
  same_next : set_ page ≡ true → next_of (overlay new set_) ≡ next_of new.pool
  same_next in_set = ap (λ (bytes : List ℕ). next_of (λ (n : ℕ). bytes)) (ap (λ (image : Pages). image 0)
      (overlay_is old new gone batch orders changes set_ closed)
      ∙ (lays old new gone batch orders changes set_ closed).first 0 page ordered in_set)

  with_page : set_ page ≡ true → (t : ℕ)
      → state_at size (overlay new set_) t ≡ left_state nobody (state_of o (e ∷ h)) t
  with_page in_set = bits_behind size new.pool (overlay new set_) kept.of_pool kept.layout
      (state_of o (e ∷ h)) kept.behind
      (first_drawn form size o (e ∷ h) (left_state nobody (state_of o (e ∷ h))) new.pool
      (overlay new set_) kept) bits drawn
    where
      kept : IsKept form size o (e ∷ h) (left_state nobody (state_of o (e ∷ h))) new.pool
          (overlay new set_)
      kept = midway.within nobody set_ closed (λ t p is active needed. absurd (false≢true is)) in_set

      drawn : (t : ℕ) → t ≢ 0 → IsSettled (state_of o (e ∷ h) t) → t < next_of (overlay new set_)
      drawn t some_ is = subst (λ (n : ℕ). t < n) (sym (same_next in_set))
          (settled_drawn size new.pool t some_
          (subst IsSettled (sym (bits t)) (settled_left (state_of o (e ∷ h) t) is)))

  pub change_bits : (t : ℕ)
      → ((set_ page ≡ false → state_at size (overlay new set_) t ≡ left_state nobody (state_of o h) t)
      × (set_ page ≡ true
      → state_at size (overlay new set_) t ≡ left_state nobody (state_of o (e ∷ h)) t))
  change_bits t = (
    λ out. ap (λ (image : Pages). state_at size image t) (without_page out)
        ∙ was (before old gone set_) (changes.closed set_ closed) t,
    λ in_set. with_page in_set t,
  )

pub goes_midway : (form : Form) → HasNoSequences form → CommitGoesMidway form
goes_midway form none size o h e t old new gone batch orders has_asked needs later page place changes is
    active ready left one tip drawn ordered apart bits are lasts = record {
      every = every;
      bits = λ set_ closed. change_bits form size o h e old new gone batch orders needs later page old.pool
          changes one ordered every bits lasts.bits set_ closed;
      next = ap (λ (bytes : List ℕ). next_of (λ (n : ℕ). bytes)) (tip.others 0 (λ same. apart (sym same)))
          ∙ (lasts.next ∙ sym (end_next o h e t Committed is));
      clean = are.clean;
      dirty = are.dirty;
      all = are.all;
    }
  where
    every : EveryMidway (keeping form size o h) (keeping form size o (e ∷ h)) page old.pool
        (state_of o h) (state_of o (e ∷ h)) new later
    every = commit_changes_every form none size o h e (state_of o h) (state_of o (e ∷ h)) t old new gone
        batch orders needs later page place changes active (end_here o h e t Committed is)
        (end_others o h e t Committed is) ready left (brings_changes o h e t is) one tip drawn ordered
        lasts.every

either : (c : Bool) → (c || true) ≡ true
either true = refl
either false = refl

pub midway_goes_on : (form : Form) → MidwayWritesLast form
midway_goes_on form size o h e page before_ old new gone has_asked needs later writes stays left are lasts =
    record {
      every = midway_writes (keeping form size o h) (keeping form size o (e ∷ h)) page before_
          (state_of o h) (state_of o (e ∷ h)) old new gone needs later writes left lasts.every stays;
      bits = λ set_ closed t. (
        λ out. same set_ closed t ∙ (lasts.bits (λ p. gone p || set_ p) (writes.closed set_ closed) t).0
            (rw (stays, out) refl),
        λ in_set. same set_ closed t ∙ (lasts.bits (λ p. gone p || set_ p) (writes.closed set_ closed) t).1
            (rw in_set (either (gone page))),
      );
      next = ap next_of (fun_ext writes.pool) ∙ lasts.next;
      clean = are.clean;
      dirty = are.dirty;
      all = are.all;
    }
  where
    same : (set_ : PageSet) → IsClosed new set_ → (t : ℕ)
        → state_at size (overlay new set_) t ≡ state_at size (overlay old (λ p. gone p || set_ p)) t
    same set_ closed t = ap (λ (image : Pages). state_at size image t)
        (fun_ext (writes.overlays set_ closed))

pub midway_is_written : (form : Form) → MidwayIsWritten form
midway_is_written form size o h e page before_ old new gone has_asked needs later writes out left are lasts =
    record {
      every = midway_written (keeping form size o h) (keeping form size o (e ∷ h)) page before_
          (state_of o h) (state_of o (e ∷ h)) old new gone needs later writes left lasts.every out;
      bits = λ set_ closed t. ap (λ (image : Pages). state_at size image t)
          (fun_ext (writes.overlays set_ closed))
          ∙ (lasts.bits (λ p. gone p || set_ p) (writes.closed set_ closed) t).1 (rw out refl);
      next = ap next_of (fun_ext writes.pool) ∙ lasts.next;
      clean = are.clean;
      dirty = are.dirty;
      all = are.all;
    }
