-- What an overlay has to be is told by the database and by what each transaction in limbo has changed: two
-- histories that say the same of these ask the same.
use Rattle.mg_base.specs.Image.{Image}
use Rattle.mg_base.specs.declared.transaction.TxState.{TxState}
use Rattle.mg_base.specs.declared.transaction.TxState.TheVariants.{Active, Dead, Limbo}
use Rattle.mg_careful.specs.CarefulWrite.{overlay}
use Rattle.mg_image.specs.Form.{Form, Pages}
use Rattle.mg_image.specs.Histories.{newest_at}
use Rattle.mg_image_overlay_laws.specs.kept.KeptImages.{IsKept}
use Rattle.mg_model.specs.Changes.{row_at}
use Rattle.mg_model.specs.History.{Entries}
use Rattle.mg_model.specs.Machine.{database, own}
use Rattle.mg_model.specs.declared.change.Change.{Change}
use Rattle.mg_model.specs.declared.opening.Opening.{Opening}
use Rattle.mg_overlay_laws.specs.Overlays.{HasNeeds, left_by, left_state, without}
use Rattle.mg_pool.specs.declared.pool.Pool.{Pool}
use Rattle.mg_pool_overlay_laws.specs.Needs.{Asked, Sessions}
use Rattle.mg_tie_laws.specs.Changed.{KeptIn, cache_over, needs_in}
use Rattle.mg_value.specs.declared.value.Value.{Value}
use Rattle.std.proofs.Common.{Bool, List, ap, false, inl, inr, refl, subst, sym, true, ℕ, ◌∙◌, ◌≡◌, ◌≢◌, ◌⊎◌}
use Rattle.std.proofs.Math.Path.{fun_ext}
use Rattle.std.proofs.lemmas.Bool.{cases_eq, eq-eqb, false≢true, ne_eqb}

-- Of two histories the second has the same rows, and the same changes of the transactions that count.
pub record SameClaims (o : Opening) (h g : Entries) (state : ℕ → TxState) : Type 0 where
  pub rows : (name : List ℕ) (key : Value)
      → row_at (database o g) name key ≡ row_at (database o h) name key
  pub changes : (u : ℕ) (name : List ℕ) (key : Value) → state u ≡ Limbo
      → newest_at (own o g u) name key ≡ newest_at (own o h u) name key

pub kept_as : (form : Form) (size : ℕ) (o : Opening) (h g : Entries) (state : ℕ → TxState) (pool image : Pages)
    → SameClaims o h g state → IsKept form size o h state pool image → IsKept form size o g state pool image
kept_as form size o h g state pool image same kept = record {
  of_pool = kept.of_pool;
  in_pool = kept.in_pool;
  layout = kept.layout;
  reading = kept.reading;
  sound = kept.sound;
  pool_sound = kept.pool_sound;
  behind = kept.behind;
  fronts = kept.fronts;
  rows = kept.rows;
  held = kept.held;
  rows_are = λ name key. kept.rows_are name key ∙ sym (same.rows name key);
  changes = kept.changes;
  changed = kept.changed;
  changes_are = λ u name key limbo. kept.changes_are u name key limbo ∙ sym (same.changes u name key limbo);
}

pub every_as : {D L : Type 0} (form : Form) (size : ℕ) (o : Opening) (h g : Entries) (state : ℕ → TxState)
    (asked : Asked) (session : Sessions) (store : Pool D L) (image : Image)
    → ((chosen : ℕ → Bool) → SameClaims o h g (left_state chosen state))
    → KeptIn form size o h state asked session store image → KeptIn form size o g state asked session store image
every_as form size o h g state asked session store image same every chosen set_ closed has =
    kept_as form size o h g (left_state chosen state) (cache_over store image).pool
    (overlay (cache_over store image) set_) (same chosen) (every chosen set_ closed has)

-- who is dead is so whether he is chosen or not
pub left_dead : (c : Bool) → left_by c Dead ≡ Dead
left_dead true = refl
left_dead false = refl

-- where one transaction is dead, it is as if nobody had chosen it: then its changes do not count
module _ (t : ℕ) (state now : ℕ → TxState) (dead : now t ≡ Dead) (others : (u : ℕ) → u ≢ t → now u ≡ state u)
    (was : state t ≡ Active) where
  pub left_same : (chosen : ℕ → Bool) (u : ℕ)
      → left_state (without t chosen) state u ≡ left_state chosen now u
  left_same chosen u = at (cases_eq u t)
    where
      at : (u ≡ t) ⊎ (u ≢ t) → left_state (without t chosen) state u ≡ left_state chosen now u
      at (inl same) =
          let off : without t chosen u ≡ false = rw (eq-eqb u t same) refl in
          let here : state u ≡ Active = ap state same ∙ was in
          let there : now u ≡ Dead = ap now same ∙ dead in
          rw (off, here, there) (sym (left_dead (chosen u)))
      at (inr ne) =
          let on : without t chosen u ≡ chosen u = rw (ne_eqb u t ne) refl in
          rw (on, others u ne) refl

  pub dead_every : {D L : Type 0} (form : Form) (size : ℕ) (o : Opening) (h g : Entries) (asked : Asked)
      (session : Sessions) (store : Pool D L) (image : Image)
      → ((name : List ℕ) (key : Value) → row_at (database o g) name key ≡ row_at (database o h) name key)
      → ((u : ℕ) → u ≢ t → own o g u ≡ own o h u)
      → KeptIn form size o h state asked session store image
      → KeptIn form size o g now asked session store image
  dead_every form size o h g asked session store image rows own_same every chosen set_ closed has =
      kept_as form size o h g (left_state chosen now) (cache_over store image).pool
      (overlay (cache_over store image) set_) (record {
        rows = rows;
        changes = λ u name key limbo. ap (λ (cs : List Change). newest_at cs name key)
            (own_same u (λ same. let both : Limbo ≡ Dead = sym limbo ∙ (ap (left_state chosen now) same
            ∙ rw dead (left_dead (chosen t))) in absurd cc));
      }) (subst (λ (s : ℕ → TxState). IsKept form size o h s (cache_over store image).pool
      (overlay (cache_over store image) set_)) (fun_ext (left_same chosen))
      (every (without t chosen) set_ closed needs))
    where
      needs : HasNeeds state (without t chosen) (needs_in asked session store) set_
      needs u p is active needed = at (cases_eq u t)
        where
          at : (u ≡ t) ⊎ (u ≢ t) → set_ p ≡ true
          at (inl same) = absurd (false≢true (sym (rw (eq-eqb u t same) refl) ∙ is))
          at (inr ne) = has u p (sym (rw (ne_eqb u t ne) refl) ∙ is) (others u ne ∙ active) needed
