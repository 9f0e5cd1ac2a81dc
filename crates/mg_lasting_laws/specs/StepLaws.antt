-- Entries without pages, page writes and batches keep a cache lasting with a history.
use Rattle.std.proofs.Common.{◌≡◌, ◌≢◌, ◌⊎◌, inl, inr, ◌<◌, ◌≤◌, ◌||◌, ℕ, Bool, true, false, List, [], ◌∷◌, Option, None, Some, refl, sym, ap, ◌∙◌, subst, arith}
use Rattle.std.specs.Prelude.{if◌then◌else◌, unwrap_or}
use Rattle.std.proofs.Math.Path.{fun_ext}
use Rattle.std.proofs.lemmas.Bool.{cases_eq, eq-eqb, false≢true, ne_eqb}
use Rattle.mg_base.specs.declared.transaction.TxState.{TxState}
use Rattle.mg_base.specs.declared.transaction.TxState.TheVariants.{Active, Committed, Dead, Limbo}
use Rattle.mg_careful.specs.CarefulWrite.{Cache, IsClosed, PageSet, Pages, overlay}
use Rattle.mg_careful.specs.Precedence.{Orders}
use Rattle.mg_model.specs.declared.change.Change.{Change}
use Rattle.mg_model.specs.declared.opening.Opening.{Opening}
use Rattle.mg_model.specs.Changes.{row_at}
use Rattle.mg_model.specs.Effects.{commits, doer, is_its}
use Rattle.mg_model.specs.History.{Begins, Effect, Ends, Entries, Entry, effect_of}
use Rattle.mg_model.specs.LegalLaws.{IsAllowed, lawful_is_allowed}
use Rattle.mg_model.specs.Machine.{changes_in, deeds_by, is_of, next_number, own, state_after, state_of, steps}
use Rattle.mg_model.specs.Answers.{catalog_of, told}
use Rattle.mg_model.specs.DeedLaws.{deeds_after, deeds_after_entry}
use Rattle.mg_model.specs.NumberLaws.{undrawn_has_no_deeds, undrawn_is_dead}
use Rattle.mg_image.specs.Form.{Form}
use Rattle.mg_image.specs.Inventory.{next_of, state_at}
use Rattle.mg_image_overlay_laws.specs.transactions.Begins.{markers_are}
use Rattle.mg_image_overlay_laws.specs.transactions.CommitLaws.{longer_kept}
use Rattle.mg_image_overlay_laws.specs.transactions.EndLaws.{begin_every, rollback_every}
use Rattle.mg_image_overlay_laws.specs.kept.HoldLaws.{AreBits}
use Rattle.mg_image_overlay_laws.specs.kept.KeptImages.{IsKept, keeping}
use Rattle.mg_overlay_laws.specs.BatchLaws.{writes_keep}
use Rattle.mg_overlay_laws.specs.Overlays.{ChangesCache, EveryOverlay, OthersStay, before, left_by, left_state, nobody}
use Rattle.mg_lasting_laws.specs.Bits.{IsSettled, bits_behind, settled_drawn}
use Rattle.mg_lasting_laws.specs.Entries.{end_here, end_next, end_others, idle_database, idle_next, idle_own, idle_state, leaves_others}
use Rattle.mg_lasting_laws.specs.Laws.{ArePoolBits, AskingLasts, BatchLasts, BeginsFirst, IdleLasts, RollbackLasts, WritesLast}

-- ---- entries without pages

pub idle_lasts : (form : Form) → IdleLasts form
idle_lasts form size o h e cache has_asked needs idle lasts = record {
  every = every;
  bits = λ set_ closed t. lasts.bits set_ closed t ∙ ap (left_by false) (sym (idle_state o h e idle t));
  next = lasts.next ∙ sym (idle_next o h e idle);
  clean = lasts.clean;
  dirty = lasts.dirty;
  all = lasts.all;
}
  where
    states : state_of o h ≡ state_of o (e ∷ h)
    states = fun_ext (λ t. sym (idle_state o h e idle t))

    every : EveryOverlay (keeping form size o (e ∷ h)) (state_of o (e ∷ h)) cache needs
    every = subst (λ (state : ℕ → TxState). EveryOverlay (keeping form size o (e ∷ h)) state cache needs)
        states (λ chosen set_ closed has. longer_kept form size o h e (left_state chosen (state_of o h))
        cache.pool (overlay cache set_)
        (λ name key. ap (λ (cs : List Change). row_at cs name key) (idle_database o h e idle))
        (λ u limbo. idle_own o h e idle u) (lasts.every chosen set_ closed has))

-- who is another one's entry's is not this one's
others_of : (e : Entry) (f : Effect) (t : ℕ) → effect_of e ≡ f → doer f ≡ Some t
    → (u : ℕ) → u ≢ t → is_its u e ≡ false
others_of e f t is its u ne = ap (λ (g : Effect). is_of u (doer g)) is
    ∙ (ap (is_of u) its ∙ ne_eqb t u (λ same. ne (sym same)))

pub rollback_lasts : (form : Form) → RollbackLasts form
rollback_lasts form size o h e t cache has_asked needs is active lasts = record {
  every = rollback_every form size o h e (state_of o h) (state_of o (e ∷ h)) t cache needs active here
      others (leaves_others o h e t (others_of e (Ends t Dead) t is refl)
      (ap commits is)) lasts.every;
  bits = λ set_ closed u. lasts.bits set_ closed u ∙ left u (cases_eq u t);
  next = lasts.next ∙ sym (end_next o h e t Dead is);
  clean = lasts.clean;
  dirty = lasts.dirty;
  all = lasts.all;
}
  where
    here : state_of o (e ∷ h) t ≡ Dead
    here = end_here o h e t Dead is

    others : OthersStay (state_of o h) (state_of o (e ∷ h)) t
    others = end_others o h e t Dead is

    left : (u : ℕ) → (u ≡ t) ⊎ (u ≢ t)
        → left_by false (state_of o h u) ≡ left_by false (state_of o (e ∷ h) u)
    left u (inl same) = ap (λ (n : ℕ). left_by false (state_of o h n)) same
        ∙ (ap (left_by false) active ∙ (sym (ap (left_by false) here)
        ∙ ap (λ (n : ℕ). left_by false (state_of o (e ∷ h) n)) (sym same)))
    left u (inr ne) = ap (left_by false) (sym (others u ne))

pub asking_lasts : (form : Form) → AskingLasts form
asking_lasts form size o h cache has_asked now_asked needs now are more lasts = record {
  every = λ chosen set_ closed has. lasts.every chosen set_ closed
      (λ t p is active needed. has t p is active (more t p active needed));
  bits = lasts.bits;
  next = lasts.next;
  clean = are.clean;
  dirty = are.dirty;
  all = are.all;
}

pub begins_first : (form : Form) → BeginsFirst form
begins_first form size o h e t mode cache has_asked needs opening legal is not_asked lasts =
    begin_every form size o h e (state_of o h) (state_of o (e ∷ h)) t cache needs dead active others
    (leaves_others o h e t (others_of e (Begins t mode) t is refl) (ap commits is)) nothing fresh
    (lasts.all t not_asked) lasts.clean lasts.every
  where
    number : t ≡ next_number o h
    number = subst (IsAllowed o h) is (lawful_is_allowed o h e legal.0)

    drawn : next_number o h ≤ t
    drawn = omega (arith, number)

    dead : state_of o h t ≡ Dead
    dead = undrawn_is_dead o opening h legal.1 t drawn

    active : state_of o (e ∷ h) t ≡ Active
    active = ap (λ (f : Effect). state_after f t (state_of o h t)) is ∙ rw (eq-eqb t t refl) refl

    others : OthersStay (state_of o h) (state_of o (e ∷ h)) t
    others u ne = ap (λ (f : Effect). state_after f u (state_of o h u)) is
        ∙ rw (ne_eqb t u (λ same. ne (sym same))) refl

    fresh : next_of cache.pool ≤ t
    fresh = let next = lasts.next in omega (arith, next, number)

    nothing : own o (e ∷ h) t ≡ []
    nothing = ap changes_in (deeds_after_entry o h e t
        ∙ (ap (λ (f : Effect). deeds_after f t (catalog_of (told o h) t) (deeds_by t (steps o h))) is
        ∙ undrawn_has_no_deeds o opening h legal.1 t drawn))

-- ---- pages

pub writes_last : (form : Form) → WritesLast form
writes_last form size o h old new gone has_asked needs now writes left are lasts = record {
  every = writes_keep (keeping form size o h) (state_of o h) old new gone needs now writes left lasts.every;
  bits = λ set_ closed t. ap (λ (image : Pages). state_at size image t)
      (fun_ext (writes.overlays set_ closed))
      ∙ lasts.bits (λ p. gone p || set_ p) (writes.closed set_ closed) t;
  next = ap next_of (fun_ext writes.pool) ∙ lasts.next;
  clean = are.clean;
  dirty = are.dirty;
  all = are.all;
}

-- the first number that is drawn next in a sound image is not 0
pub first_drawn : (form : Form) (size : ℕ) (o : Opening) (h : Entries) (state : ℕ → TxState)
    (pool image : Pages) → IsKept form size o h state pool image → 1 ≤ next_of image
first_drawn form size o h state pool image kept = (markers_are size image kept.sound.header).0

pub settled_left : (s : TxState) → IsSettled s → IsSettled (left_by false s)
settled_left Active is = is
settled_left Limbo is = is
settled_left Dead is = is
settled_left Committed is = is

module _ (form : Form) (size : ℕ) (o : Opening) (h later : Entries) (old new : Cache) (gone : PageSet)
    (batch : ℕ → Option (List ℕ)) (orders : Orders) (needs now : ℕ → PageSet)
    (changes : ChangesCache old new gone batch orders) (was : AreBits size (state_of o h) old)
    (every : EveryOverlay (keeping form size o later) (state_of o later) new now)
    (stay : (t : ℕ) → IsSettled (state_of o later t) → state_of o later t ≡ state_of o h t)
    (bits : ArePoolBits size new.pool (state_of o later)) where
  module _ (set_ : PageSet) (closed : IsClosed new set_) where
    kept : IsKept form size o later (left_state nobody (state_of o later)) new.pool (overlay new set_)
    kept = every nobody set_ closed (λ t p is active needed. absurd (false≢true is))

    without_it : set_ 0 ≡ false
        → unwrap_or (if set_ 0 then batch 0 else None) (overlay old (before old gone set_) 0)
        ≡ overlay old (before old gone set_) 0
    without_it out = rw out refl

    header_is : (next_of (overlay new set_) ≡ next_of new.pool)
        ⊎ (next_of (overlay new set_) ≡ next_of (overlay old (before old gone set_)))
    header_is = at (set_ 0) refl
      where
        at : (b : Bool) → set_ 0 ≡ b → (next_of (overlay new set_) ≡ next_of new.pool)
            ⊎ (next_of (overlay new set_) ≡ next_of (overlay old (before old gone set_)))
        at true in_set = inl (ap (λ (b : Bool). next_of (λ (n : ℕ). if b then new.pool 0 else new.disk 0)) in_set)
        at false out = inr (ap (λ (page : List ℕ). next_of (λ (n : ℕ). page))
            (changes.overlays set_ closed 0 ∙ without_it out))

    drawn : (t : ℕ) → t ≢ 0 → IsSettled (state_of o later t) → t < next_of (overlay new set_)
    drawn t some_ is = at header_is
      where
        in_pool : t < next_of new.pool
        in_pool = settled_drawn size new.pool t some_
            (subst IsSettled (sym (bits t)) (settled_left (state_of o later t) is))

        in_old : t < next_of (overlay old (before old gone set_))
        in_old = settled_drawn size (overlay old (before old gone set_)) t some_
            (subst IsSettled (sym (was (before old gone set_) (changes.closed set_ closed) t))
            (settled_left (state_of o h t) (subst IsSettled (stay t is) is)))

        at : (next_of (overlay new set_) ≡ next_of new.pool)
            ⊎ (next_of (overlay new set_) ≡ next_of (overlay old (before old gone set_)))
            → t < next_of (overlay new set_)
        at (inl same) = subst (λ (n : ℕ). t < n) (sym same) in_pool
        at (inr same) = subst (λ (n : ℕ). t < n) (sym same) in_old

  pub batch_bits : AreBits size (state_of o later) new
  batch_bits set_ closed = bits_behind size new.pool (overlay new set_) (kept set_ closed).of_pool
      (kept set_ closed).layout (state_of o later) (kept set_ closed).behind
      (first_drawn form size o later (left_state nobody (state_of o later)) new.pool (overlay new set_)
      (kept set_ closed)) bits (drawn set_ closed)

pub batch_lasts : (form : Form) → BatchLasts form
batch_lasts form size o h later old new gone batch orders has_asked now_asked needs now changes lasts
    every stay bits next are = record {
      every = every;
      bits = batch_bits form size o h later old new gone batch orders needs now changes lasts.bits every stay
          bits;
      next = next;
      clean = are.clean;
      dirty = are.dirty;
      all = are.all;
    }
