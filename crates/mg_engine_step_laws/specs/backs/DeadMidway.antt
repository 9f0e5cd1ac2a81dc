-- In the middle of a way back the pages are what they have to be where the transaction counts as dead, for each history in
-- which it gives some changes again: these count for nobody then.
use Rattle.mg_base.specs.Disk.{Meaning}
use Rattle.mg_base.specs.Image.{Image}
use Rattle.mg_base.specs.declared.transaction.TxState.{TxState}
use Rattle.mg_base.specs.declared.transaction.TxState.TheVariants.{Active, Dead, Limbo}
use Rattle.mg_careful.specs.CarefulWrite.{IsClosed, PageSet, overlay}
use Rattle.mg_engine_step_laws.specs.backs.Again.{again, rolling}
use Rattle.mg_engine_step_laws.specs.writes.Claims.{SameClaims, kept_as}
use Rattle.mg_engine_step_laws.specs.writes.GoesOnLaws.{pool_is_kept}
use Rattle.mg_engine_step_laws.specs.backs.Midway.{GoesBack}
use Rattle.mg_engine_step_laws.specs.backs.MidwayLaws.{dead, others, others_given, rows_given}
use Rattle.mg_engine_step_laws.specs.standing.Standing.{Remembers, Standing}
use Rattle.mg_image.specs.Form.{Form}
use Rattle.mg_image.specs.Histories.{newest_at}
use Rattle.mg_image_overlay_laws.specs.kept.KeptImages.{IsKept}
use Rattle.mg_lasting_laws.specs.Lasting.{LastsOn}
use Rattle.mg_model.specs.History.{Entries, Entry}
use Rattle.mg_model.specs.Machine.{own, state_of}
use Rattle.mg_model.specs.declared.change.Change.{Change}
use Rattle.mg_model.specs.declared.change.Point.{Point}
use Rattle.mg_model.specs.declared.opening.Opening.{Opening}
use Rattle.mg_overlay_laws.specs.Overlays.{HasNeeds, left_by, left_state}
use Rattle.mg_pool.specs.Pool.{IsPool, shown}
use Rattle.mg_pool.specs.declared.pool.Pool.{Pool}
use Rattle.mg_pool_overlay_laws.specs.Needs.{Asked, Sessions}
use Rattle.mg_lasting_laws.specs.PoolLaws.{needs_are}
use Rattle.mg_tie_laws.specs.Changed.{KeptIn, cache_over, needs_all, needs_in}
use Rattle.mg_value.specs.declared.value.Value.{Value}
use Rattle.std.proofs.Common.{Bool, List, Some, ap, false, inl, inr, refl, subst, sym, true, ℕ, ◌∙◌, ◌∷◌, ◌≡◌, ◌≢◌, ◌⊎◌}
use Rattle.std.proofs.Math.Path.{fun_ext}
use Rattle.std.proofs.lemmas.Bool.{cases_eq, false≢true}

-- every overlay that the cache of a history has, by the image that its disk holds
pub every_from : {D L : Type 0} (m : Meaning D) (form : Form) (o : Opening) (h : Entries) (store : Pool D L) (i : Image)
    (asked : Asked) (session : Sessions) → IsPool m store → m.held store.disk ≡ Some i
    → LastsOn m form o h store asked session
    → KeptIn form store.geometry.size o h (state_of o h) asked session store i
every_from m form o h store i asked session pool held lasts =
    subst (λ (size : ℕ). KeptIn form size o h (state_of o h) asked session store i)
    pool.page_size (subst (λ (k : Image). KeptIn form store.dirty.size o h (state_of o h) asked session store k)
    same lasts.lasts.every)
  where
    same : lasts.image ≡ i
    same = let both : Some lasts.image ≡ Some i = sym lasts.held ∙ held in cc

module _ (o : Opening) (h : Entries) (e : Entry) (point : Point) (s : Standing) (asked : Asked) (t : ℕ)
    (memory : Remembers o h s) (goes : GoesBack o h e point s asked t) where
  -- without the transaction a choice says the same of all
  pub as_active : (chosen : ℕ → Bool) → chosen t ≡ false
      → left_state chosen (state_of o (rolling t ∷ h)) ≡ left_state chosen s.state
  as_active chosen off = fun_ext (λ u. at u (cases_eq u t))
    where
      at : (u : ℕ) → (u ≡ t) ⊎ (u ≢ t)
          → left_state chosen (state_of o (rolling t ∷ h)) u ≡ left_state chosen s.state u
      at u (inl same) =
          let gone : state_of o (rolling t ∷ h) u ≡ Dead = ap (state_of o (rolling t ∷ h)) same
          ∙ dead o h e point s asked t memory goes in
          let runs : s.state u ≡ Active = ap s.state same ∙ goes.active in
          let out : chosen u ≡ false = ap chosen same ∙ off in
          rw (out, gone, runs) refl
      at u (inr ne) = ap (left_by (chosen u)) (others o h e point s asked t memory goes u ne)

  -- it counts as dead then
  pub dead_then : (chosen : ℕ → Bool) → chosen t ≡ false → left_state chosen s.state t ≡ Dead
  dead_then chosen off = rw (off, goes.active) refl

  pub same_then : (chosen : ℕ → Bool) → chosen t ≡ false → (cs : List Change)
      → SameClaims o (rolling t ∷ h) (again t cs (e ∷ h)) (left_state chosen s.state)
  same_then chosen off cs = record {
    rows = λ name key. rows_given o h e point s asked t memory goes cs name key;
    changes = λ u name key limbo. at u name key limbo (cases_eq u t);
  }
    where
      at : (u : ℕ) (name : List ℕ) (key : Value) → left_state chosen s.state u ≡ Limbo → (u ≡ t) ⊎ (u ≢ t)
          → newest_at (own o (again t cs (e ∷ h)) u) name key ≡ newest_at (own o (rolling t ∷ h) u) name key
      at u name key limbo (inl same) =
          let both : Limbo ≡ Dead = sym limbo ∙ (ap (left_state chosen s.state) same ∙ dead_then chosen off) in absurd cc
      at u name key limbo (inr ne) = ap (λ (cs : List Change). newest_at cs name key)
          (others_given o h e point s asked t memory goes cs u ne)

  -- so the pool's own image is what it has to be
  pub dead_pool : {D L : Type 0} (form : Form) (size : ℕ) (store : Pool D L) (i : Image) (session : Sessions)
      (cs : List Change)
      → KeptIn form size o (rolling t ∷ h) (state_of o (rolling t ∷ h)) asked session store i
      → (chosen : ℕ → Bool) → chosen t ≡ false
      → IsKept form size o (again t cs (e ∷ h)) (left_state chosen s.state) (shown store.dirty i) (shown store.dirty i)
  dead_pool {D} {L} form size store i session cs every chosen off =
      kept_as form size o (rolling t ∷ h) (again t cs (e ∷ h)) (left_state chosen s.state) (shown store.dirty i)
      (shown store.dirty i) (same_then chosen off cs)
      (subst (λ (st : ℕ → TxState). IsKept form size o (rolling t ∷ h) st (shown store.dirty i) (shown store.dirty i))
      (as_active chosen off)
      (pool_is_kept form D L size o (rolling t ∷ h) (state_of o (rolling t ∷ h)) asked session store i chosen every))

  -- and every overlay is, once the pool's own image is also with the transaction in limbo
  module _ {D L : Type 0} (form : Form) (size : ℕ) (store : Pool D L) (i : Image) (session : Sessions)
      (cs : List Change)
      (every : KeptIn form size o (rolling t ∷ h) (state_of o (rolling t ∷ h)) asked session store i)
      (whole : (chosen : ℕ → Bool) → chosen t ≡ true
      → IsKept form size o (again t cs (e ∷ h)) (left_state chosen s.state) (shown store.dirty i) (shown store.dirty i))
    where
      module _ (chosen : ℕ → Bool) (set_ : PageSet) (closed : IsClosed (cache_over store i) set_)
          (has : HasNeeds s.state chosen (needs_in asked session store) set_) where
        fewer : HasNeeds (state_of o (rolling t ∷ h)) chosen (needs_in asked session store) set_
        fewer u p is active needed = at (cases_eq u t)
          where
            at : (u ≡ t) ⊎ (u ≢ t) → set_ p ≡ true
            at (inl same) =
                let both : Active ≡ Dead = sym active ∙ (ap (state_of o (rolling t ∷ h)) same
                ∙ dead o h e point s asked t memory goes) in absurd cc
            at (inr ne) = has u p is (sym (others o h e point s asked t memory goes u ne) ∙ active) needed

        -- with the transaction all that is dirty is in the set
        all_there : chosen t ≡ true → overlay (cache_over store i) set_ ≡ shown store.dirty i
        all_there on = fun_ext (λ p. at p (set_ p) refl)
          where
            clean : (p : ℕ) → set_ p ≡ false → (b : Bool) → (cache_over store i).dirty p ≡ b
                → (cache_over store i).disk p ≡ shown store.dirty i p
            clean p out true dirty = absurd (false≢true (sym out
                ∙ has t p on goes.active (needs_all store i asked session t goes.not_asked p dirty)))
            clean p out false is = sym ((needs_are store.dirty store.graph i asked session).clean p is)

            at : (p : ℕ) (b : Bool) → set_ p ≡ b → overlay (cache_over store i) set_ p ≡ shown store.dirty i p
            at p true is = rw is refl
            at p false is = rw is (clean p is ((cache_over store i).dirty p) refl)

        good : IsKept form size o (again t cs (e ∷ h)) (left_state chosen s.state) (shown store.dirty i)
            (overlay (cache_over store i) set_)
        good = at (chosen t) refl
          where
            at : (b : Bool) → chosen t ≡ b → IsKept form size o (again t cs (e ∷ h)) (left_state chosen s.state)
                (shown store.dirty i) (overlay (cache_over store i) set_)
            at true on = subst (IsKept form size o (again t cs (e ∷ h)) (left_state chosen s.state) (shown store.dirty i))
                (sym (all_there on)) (whole chosen on)
            at false off = kept_as form size o (rolling t ∷ h) (again t cs (e ∷ h)) (left_state chosen s.state)
                (shown store.dirty i) (overlay (cache_over store i) set_) (same_then chosen off cs)
                (subst (λ (st : ℕ → TxState). IsKept form size o (rolling t ∷ h) st (shown store.dirty i)
                (overlay (cache_over store i) set_)) (as_active chosen off) (every chosen set_ closed fewer))

      pub raised : KeptIn form size o (again t cs (e ∷ h)) s.state asked session store i
      raised chosen set_ closed has = good chosen set_ closed has
