-- A transaction in limbo is committed: what an overlay has to be it is, for the longer history.
use Rattle.mg_base.specs.declared.transaction.TxState.{TxState}
use Rattle.mg_base.specs.declared.transaction.TxState.TheVariants.{Active, Committed, Limbo}
use Rattle.mg_careful.specs.CarefulWrite.{Cache, PageSet}
use Rattle.mg_image.specs.FactLaws.{CommitsFacts}
use Rattle.mg_image.specs.Form.{Form, Pages}
use Rattle.mg_image.specs.Histories.{newest_at}
use Rattle.mg_image.specs.Records.{cells_of, writer}
use Rattle.mg_image.specs.Sound.{facts_by}
use Rattle.mg_image.specs.Tables.{Layout}
use Rattle.mg_image.specs.declared.entry.Entry.{Entry as Read}
use Rattle.mg_image_overlay_laws.specs.transactions.CommitHeld.{after_change, changed_by, changes_without, commit_changes, commit_held}
use Rattle.mg_image_overlay_laws.specs.transactions.CommitSound.{commit_sound, committing}
use Rattle.mg_image_overlay_laws.specs.records.Fronts.{IsFront, is_dead, living}
use Rattle.mg_image_overlay_laws.specs.records.Thins.{front_later}
use Rattle.mg_image_overlay_laws.specs.tables.TableOwners.{one_of_name, owned}
use Rattle.mg_image_overlay_laws.specs.kept.KeptImages.{IsKept, keeping}
use Rattle.mg_model.specs.Changes.{row_at}
use Rattle.mg_model.specs.History.{Entries, Entry}
use Rattle.mg_model.specs.Machine.{database, own}
use Rattle.mg_model.specs.declared.opening.Opening.{Opening}
use Rattle.mg_overlay_laws.specs.Overlays.{EveryOverlay, OthersStay, left_state}
use Rattle.mg_overlay_laws.specs.StateLaws.{ends_keep}
use Rattle.mg_value.specs.declared.value.Value.{Value}
use Rattle.std.proofs.Common.{Bool, List, [], ap, false, inl, inr, refl, subst, sym, true, ℕ, ◌∙◌, ◌∷◌, ◌≡◌, ◌≢◌, ◌⊎◌}
use Rattle.std.proofs.Math.Path.{fun_ext}
use Rattle.std.proofs.lemmas.Bool.{cases_eq, eq-eqb, ne_eqb}
use Rattle.std.specs.Prelude.{if◌then◌else◌}

-- What an entry of a transaction that goes on leaves: the database, and the changes of the others.
pub record LeavesOthers (o : Opening) (h : Entries) (e : Entry) (t : ℕ) : Type 0 where
  pub rows : (name : List ℕ) (key : Value) → row_at (database o (e ∷ h)) name key
      ≡ row_at (database o h) name key
  pub others : (u : ℕ) → u ≢ t → own o (e ∷ h) u ≡ own o h u

-- the entry brings a transaction's own changes to the database, and leaves those of the others
pub record BringsChanges (o : Opening) (h : Entries) (e : Entry) (t : ℕ) : Type 0 where
  pub rows : (name : List ℕ) (key : Value) → row_at (database o (e ∷ h)) name key
      ≡ after_change (newest_at (own o h t) name key) (row_at (database o h) name key)
  pub others : (u : ℕ) → u ≢ t → own o (e ∷ h) u ≡ own o h u

module _ (form : Form) (size : ℕ) (o : Opening) (h : Entries) (e : Entry) (state : ℕ → TxState)
    (t : ℕ) (limbo : state t ≡ Limbo) (brings : BringsChanges o h e t) where
  dead_same : (u : ℕ) → is_dead (committing t state u) ≡ is_dead (state u)
  dead_same u = at (cases_eq u t)
    where
      at : (u ≡ t) ⊎ (u ≢ t) → is_dead (committing t state u) ≡ is_dead (state u)
      at (inl same) =
          let here : committing t state u ≡ Committed = rw (eq-eqb u t same) refl in
          ap is_dead here ∙ sym (ap is_dead (ap state same ∙ limbo))
      at (inr ne) = rw (ne_eqb u t ne) refl

  living_same : (es : List Read) → living (committing t state) es ≡ living state es
  living_same [] = refl
  living_same (d ∷ ds) = ap (λ (b : Bool). if b then ds else d ∷ ds) (dead_same (writer d))

  -- once one is committed the others are
  stays : (u : ℕ) → state u ≡ Committed → committing t state u ≡ Committed
  stays u is = at (cases_eq u t)
    where
      at : (u ≡ t) ⊎ (u ≢ t) → committing t state u ≡ Committed
      at (inl same) = rw (eq-eqb u t same) refl
      at (inr ne) = rw (ne_eqb u t ne) is

  commits : (pages : Pages) (layout : Layout)
      → CommitsFacts (facts_by state pages layout) (facts_by (committing t state) pages layout) t
  commits pages layout = record {
    tables = λ n. refl;
    next = refl;
    oldest = refl;
    state = rw (eq-eqb t t refl) refl;
    others = λ u ne. rw (ne_eqb u t ne) refl;
  }

  pub commit_kept : (pool image : Pages) → IsKept form size o h state pool image
      → IsKept form size o (e ∷ h) (committing t state) pool image
  commit_kept pool image kept = record {
    of_pool = kept.of_pool;
    in_pool = kept.in_pool;
    layout = kept.layout;
    reading = kept.reading;
    sound = commit_sound state t limbo form size image kept.layout kept.reading kept.sound;
    pool_sound = commit_sound state t limbo form size pool kept.of_pool kept.in_pool kept.pool_sound;
    behind = kept.behind;
    fronts = record {
      state = λ u. refl;
      fronts = λ p. subst (λ (ds : List Read). IsFront (committing t state) ds
          (living (committing t state) (kept.reading p))) (sym (living_same (kept.in_pool p)))
          (subst (IsFront (committing t state) (living state (kept.in_pool p)))
          (sym (living_same (kept.reading p)))
          (front_later state (committing t state) stays (living state (kept.in_pool p))
          (living state (kept.reading p)) (kept.fronts.fronts p)));
    };
    rows = changed_by t kept.changes kept.rows;
    held = commit_held form.coding (facts_by state image kept.layout)
        (facts_by (committing t state) image kept.layout) (cells_of image) kept.reading t kept.rows kept.changes
        kept.sound.records limbo (commits image kept.layout) kept.held kept.changed (owned form size state image kept.layout
        kept.reading kept.sound kept.rows kept.changes kept.held kept.changed)
        (one_of_name form size state image kept.layout kept.reading kept.sound);
    rows_are = λ name key. ap (λ c. after_change c (kept.rows name key))
        (kept.changes_are t name key limbo)
        ∙ (ap (after_change (newest_at (own o h t) name key)) (kept.rows_are name key)
        ∙ sym (brings.rows name key));
    changes = changes_without t kept.changes;
    changed = commit_changes form.coding (facts_by state image kept.layout)
        (facts_by (committing t state) image kept.layout) (cells_of image) kept.reading t kept.rows kept.changes
        kept.sound.records limbo (commits image kept.layout) kept.held kept.changed (owned form size state image kept.layout
        kept.reading kept.sound kept.rows kept.changes kept.held kept.changed)
        (one_of_name form size state image kept.layout kept.reading kept.sound);
    changes_are = λ u name key is. others u name key is (cases_eq u t);
  }
    where
      others : (u : ℕ) (name : List ℕ) (key : Value) → committing t state u ≡ Limbo
          → (u ≡ t) ⊎ (u ≢ t)
          → changes_without t kept.changes u name key ≡ newest_at (own o (e ∷ h) u) name key
      others u name key is (inl same) =
          let here : committing t state u ≡ Committed = rw (eq-eqb u t same) refl in
          let both : Committed ≡ Limbo = sym here ∙ is in absurd cc
      others u name key is (inr ne) =
          let was : state u ≡ Limbo = sym (rw (ne_eqb u t ne) refl) ∙ is in
          let out : changes_without t kept.changes u name key ≡ kept.changes u name key =
          rw (ne_eqb u t ne) refl in
          out ∙ (kept.changes_are u name key was
          ∙ ap (λ cs. newest_at cs name key) (sym (brings.others u ne)))

-- an entry that brings nothing to the database, and changes nothing of those who count as in limbo
pub longer_kept : (form : Form) (size : ℕ) (o : Opening) (h : Entries) (e : Entry)
    (state : ℕ → TxState) (pool image : Pages)
    → ((name : List ℕ) (key : Value) → row_at (database o (e ∷ h)) name key
    ≡ row_at (database o h) name key)
    → ((u : ℕ) → state u ≡ Limbo → own o (e ∷ h) u ≡ own o h u)
    → IsKept form size o h state pool image → IsKept form size o (e ∷ h) state pool image
longer_kept form size o h e state pool image rows others kept = record {
  of_pool = kept.of_pool;
  in_pool = kept.in_pool;
  layout = kept.layout;
  reading = kept.reading;
  sound = kept.sound;
  pool_sound = kept.pool_sound;
  behind = kept.behind;
  fronts = kept.fronts;
  rows = kept.rows;
  held = kept.held;
  rows_are = λ name key. kept.rows_are name key ∙ sym (rows name key);
  changes = kept.changes;
  changed = kept.changed;
  changes_are = λ u name key is. kept.changes_are u name key is
      ∙ ap (λ cs. newest_at cs name key) (sym (others u is));
}

-- the commit of a transaction whose pages are all on the disk: every overlay holds the longer
-- history
pub commit_every : (form : Form) (size : ℕ) (o : Opening) (h : Entries) (e : Entry)
    (state now : ℕ → TxState) (t : ℕ) (cache : Cache) (needs : ℕ → PageSet)
    → state t ≡ Active → now t ≡ Committed → OthersStay state now t
    → ((p : ℕ) → needs t p ≡ false) → BringsChanges o h e t
    → EveryOverlay (keeping form size o h) state cache needs
    → EveryOverlay (keeping form size o (e ∷ h)) now cache needs
commit_every form size o h e state now t cache needs active committed others none brings every =
    ends_keep (keeping form size o h) (keeping form size o (e ∷ h)) state now t cache needs active none
    others ended settles every
  where
    ended : now t ≢ Active
    ended is = let both : Committed ≡ Active = sym committed ∙ is in absurd cc

    settles : (chosen : ℕ → Bool) (image : Pages) → chosen t ≡ true
        → IsKept form size o h (left_state chosen state) cache.pool image
        → IsKept form size o (e ∷ h) (left_state chosen now) cache.pool image
    settles chosen image is kept =
        subst (λ (s : ℕ → TxState). IsKept form size o (e ∷ h) s cache.pool image) same
        (commit_kept form size o h e (left_state chosen state) t limbo brings cache.pool image kept)
      where
        limbo : left_state chosen state t ≡ Limbo
        limbo = rw (is, active) refl

        same : committing t (left_state chosen state) ≡ left_state chosen now
        same = fun_ext (λ u. at u (cases_eq u t))
          where
            at : (u : ℕ) → (u ≡ t) ⊎ (u ≢ t)
                → committing t (left_state chosen state) u ≡ left_state chosen now u
            at u (inl eq) = rw (eq, eq-eqb t t refl, is, committed) refl
            at u (inr ne) = rw (ne_eqb u t ne, others u ne) refl
