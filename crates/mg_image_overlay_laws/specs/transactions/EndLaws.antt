-- A transaction begins, or is rolled back: what every overlay has to be it is, for the longer history.
use Rattle.std.proofs.Common.{◌≡◌, ◌≢◌, ◌⊎◌, inl, inr, refl, sym, ap, ◌∙◌, subst, ◌≤◌, ℕ, Bool, true, false, List, [], ◌∷◌}
use Rattle.std.proofs.Math.Path.{fun_ext}
use Rattle.std.proofs.lemmas.Bool.{cases_eq}
use Rattle.mg_base.specs.declared.transaction.TxState.{TxState}
use Rattle.mg_base.specs.declared.transaction.TxState.TheVariants.{Active, Limbo, Dead}
use Rattle.mg_careful.specs.CarefulWrite.{Cache, PageSet}
use Rattle.mg_value.specs.declared.value.Value.{Value}
use Rattle.mg_model.specs.declared.opening.Opening.{Opening}
use Rattle.mg_model.specs.History.{Entries, Entry}
use Rattle.mg_model.specs.Machine.{own}
use Rattle.mg_image.specs.Form.{Form, Pages}
use Rattle.mg_image.specs.Histories.{newest_at}
use Rattle.mg_image.specs.Inventory.{next_of}
use Rattle.mg_overlay_laws.specs.Overlays.{EveryOverlay, IsCleanAsDisk, NeedsAllDirty, OthersStay, left_by, left_state}
use Rattle.mg_overlay_laws.specs.StateLaws.{begin_keeps, rollback_keeps}
use Rattle.mg_image_overlay_laws.specs.transactions.Begins.{Raises, begin_changes, begin_held, begin_none, begin_sound}
use Rattle.mg_image_overlay_laws.specs.transactions.CommitLaws.{LeavesOthers, longer_kept}
use Rattle.mg_image_overlay_laws.specs.kept.KeptImages.{IsKept, keeping}
use Rattle.mg_image_overlay_laws.specs.kept.StartLaws.{kept_by_itself}

-- where a transaction does not count as in limbo, an entry of it leaves what is kept
pub longer_for : (form : Form) (size : ℕ) (o : Opening) (h : Entries) (e : Entry) (t : ℕ)
    (state : ℕ → TxState) (pool image : Pages) → LeavesOthers o h e t → state t ≢ Limbo
    → IsKept form size o h state pool image → IsKept form size o (e ∷ h) state pool image
longer_for form size o h e t state pool image leaves out kept =
    longer_kept form size o h e state pool image leaves.rows
    (λ u is. leaves.others u (λ same. out (ap state (sym same) ∙ is))) kept

dead_left : (chosen : ℕ → Bool) (state : ℕ → TxState) (t : ℕ) → state t ≡ Dead
    → left_state chosen state t ≡ Dead
dead_left chosen state t dead = rw dead (by (chosen t))
  where
    by : (b : Bool) → left_by b Dead ≡ Dead
    by true = refl
    by false = refl

not_limbo : (s : TxState) → s ≡ Dead → s ≢ Limbo
not_limbo s dead limbo = let both : Dead ≡ Limbo = sym dead ∙ limbo in absurd cc

-- a transaction is rolled back
pub rollback_every : (form : Form) (size : ℕ) (o : Opening) (h : Entries) (e : Entry)
    (state now : ℕ → TxState) (t : ℕ) (cache : Cache) (needs : ℕ → PageSet) → state t ≡ Active
    → now t ≡ Dead → OthersStay state now t → LeavesOthers o h e t
    → EveryOverlay (keeping form size o h) state cache needs
    → EveryOverlay (keeping form size o (e ∷ h)) now cache needs
rollback_every form size o h e state now t cache needs active dead others leaves every =
    rollback_keeps (keeping form size o h) (keeping form size o (e ∷ h)) state now t cache needs active
    dead others (λ chosen image out kept. longer_for form size o h e t (left_state chosen state)
    cache.pool image leaves (not_limbo (left_state chosen state t) (rw (out, active) refl)) kept) every

-- a transaction begins, whose number is not below the pool's Next
pub begin_every : (form : Form) (size : ℕ) (o : Opening) (h : Entries) (e : Entry)
    (state now : ℕ → TxState) (t : ℕ) (cache : Cache) (needs : ℕ → PageSet) → state t ≡ Dead
    → now t ≡ Active → OthersStay state now t → LeavesOthers o h e t → own o (e ∷ h) t ≡ []
    → next_of cache.pool ≤ t → NeedsAllDirty cache needs t → IsCleanAsDisk cache
    → EveryOverlay (keeping form size o h) state cache needs
    → EveryOverlay (keeping form size o (e ∷ h)) now cache needs
begin_every form size o h e state now t cache needs dead active others leaves nothing fresh all clean
    every = begin_keeps (keeping form size o h) (keeping form size o (e ∷ h)) state now t cache needs dead
    active others starts (λ chosen image out kept. longer_for form size o h e t (left_state chosen state)
    cache.pool image leaves (not_limbo (left_state chosen state t) (dead_left chosen state t dead)) kept)
    all clean every
  where
    starts : (chosen : ℕ → Bool) → IsKept form size o h (left_state chosen state) cache.pool cache.pool
        → IsKept form size o (e ∷ h) (left_state chosen now) cache.pool cache.pool
    starts chosen kept = at (chosen t) refl
      where
        before : ℕ → TxState
        before = left_state chosen state

        longer : IsKept form size o (e ∷ h) (left_state chosen state) cache.pool cache.pool
        longer = longer_for form size o h e t (left_state chosen state) cache.pool cache.pool leaves
            (not_limbo (left_state chosen state t) (dead_left chosen state t dead)) kept

        at : (b : Bool) → chosen t ≡ b
            → IsKept form size o (e ∷ h) (left_state chosen now) cache.pool cache.pool
        at false out = subst (λ (s : ℕ → TxState). IsKept form size o (e ∷ h) s cache.pool cache.pool)
            same longer
          where
            same : left_state chosen state ≡ left_state chosen now
            same = fun_ext (λ u. by u (cases_eq u t))
              where
                by : (u : ℕ) → (u ≡ t) ⊎ (u ≢ t) → left_state chosen state u ≡ left_state chosen now u
                by u (inl same) = rw (same, out, dead, active) refl
                by u (inr ne) = rw (others u ne) refl
        at true is = kept_by_itself form size o (e ∷ h) (left_state chosen now) cache.pool longer.layout
            longer.reading longer.rows longer.changes
            (begin_sound form size (left_state chosen state) (left_state chosen now) t raises cache.pool
            longer.layout longer.reading longer.sound fresh)
            (begin_held form size (left_state chosen state) (left_state chosen now) t raises cache.pool
            longer.layout longer.reading longer.sound fresh longer.rows longer.held)
            longer.rows_are
            (begin_changes form size (left_state chosen state) (left_state chosen now) t raises cache.pool
            longer.layout longer.reading longer.sound fresh longer.changes longer.changed)
            (λ u name key limbo. changes_are u name key limbo (cases_eq u t))
          where
            raises : Raises (left_state chosen state) (left_state chosen now) t
            raises = record {
              dead = dead_left chosen state t dead;
              limbo = rw (is, active) refl;
              others = λ u ne. ap (left_by (chosen u)) (others u ne);
            }

            changes_are : (u : ℕ) (name : List ℕ) (key : Value) → left_state chosen now u ≡ Limbo
                → (u ≡ t) ⊎ (u ≢ t)
                → longer.changes u name key ≡ newest_at (own o (e ∷ h) u) name key
            changes_are u name key limbo (inl same) =
                ap (λ (w : ℕ). longer.changes w name key) same
                ∙ (begin_none form size (left_state chosen state) (left_state chosen now) t raises
                cache.pool longer.layout longer.reading longer.sound fresh longer.changes longer.changed
                name key ∙ sym (ap (λ cs. newest_at cs name key) (ap (own o (e ∷ h)) same ∙ nothing)))
            changes_are u name key limbo (inr ne) = longer.changes_are u name key
                (sym (ap (left_by (chosen u)) (others u ne)) ∙ limbo)
