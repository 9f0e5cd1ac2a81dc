-- Entries without pages take the engine on.
use Rattle.std.proofs.Common.{◌≡◌, refl, ap, ◌∙◌, ℕ, true, false, ◌∷◌, Some}
use Rattle.mg_base.specs.Disk.{Meaning}
use Rattle.mg_base.specs.Image.{Image}
use Rattle.mg_base.specs.declared.transaction.TxState.{TxState}
use Rattle.mg_model.specs.declared.opening.Opening.{Opening}
use Rattle.mg_model.specs.History.{Begins, Effect, Ends, Entries, Entry, Gives, Looks, Makes, Marks, Nothing, Saves, TakesBack, effect_of}
use Rattle.mg_model.specs.Laws.{OpeningsBegin}
use Rattle.mg_model.specs.Legal.{is_durable}
use Rattle.mg_model.specs.Machine.{next_after, state_after}
use Rattle.mg_generation_laws.specs.After.{leaves_versions}
use Rattle.mg_image.specs.Form.{Form}
use Rattle.mg_pool.specs.Pool.{cache_of, shown}
use Rattle.mg_pool.specs.declared.pool.Pool.{Pool}
use Rattle.mg_pool_overlay_laws.specs.Needs.{Asked, Sessions, needs_by}
use Rattle.mg_lasting_laws.specs.Changing.{QuietHolds}
use Rattle.mg_lasting_laws.specs.CrashLaws.{asked_quiet}
use Rattle.mg_lasting_laws.specs.Crashes.{may_last}
use Rattle.mg_lasting_laws.specs.Entries.{is_idle}
use Rattle.mg_lasting_laws.specs.Lasting.{Lasts, LastsOn}
use Rattle.mg_lasting_laws.specs.Laws.{IdleLasts, RollbackLasts}
use Rattle.mg_engine_step_laws.specs.standing.Following.{StandsOn}
use Rattle.mg_engine_step_laws.specs.standing.QuietPages.{IdleShows}
use Rattle.mg_engine_step_laws.specs.commits.Idle.{IdleGoesOn, RollbackLastsOn}

-- what an idle effect leaves
idle_state : (f : Effect) → is_idle f ≡ true → (t : ℕ) (old : TxState) → state_after f t old ≡ old
idle_state (Begins u mode) is t old = absurd cc
idle_state (Looks u) is t old = refl
idle_state (Makes u table row) is t old = absurd cc
idle_state (Gives u table key row) is t old = absurd cc
idle_state (Marks u) is t old = refl
idle_state (Saves u name) is t old = refl
idle_state (TakesBack u point) is t old = absurd cc
idle_state (Ends u end) is t old = absurd cc
idle_state Nothing is t old = refl

idle_number : (f : Effect) → is_idle f ≡ true → (old : ℕ) → next_after f old ≡ old
idle_number (Begins u mode) is old = absurd cc
idle_number (Looks u) is old = refl
idle_number (Makes u table row) is old = absurd cc
idle_number (Gives u table key row) is old = absurd cc
idle_number (Marks u) is old = refl
idle_number (Saves u name) is old = refl
idle_number (TakesBack u point) is old = absurd cc
idle_number (Ends u end) is old = absurd cc
idle_number Nothing is old = refl

idle_versions : (f : Effect) → is_idle f ≡ true → leaves_versions f ≡ true
idle_versions (Begins u mode) is = absurd cc
idle_versions (Looks u) is = refl
idle_versions (Makes u table row) is = absurd cc
idle_versions (Gives u table key row) is = absurd cc
idle_versions (Marks u) is = refl
idle_versions (Saves u name) is = refl
idle_versions (TakesBack u point) is = absurd cc
idle_versions (Ends u end) is = absurd cc
idle_versions Nothing is = refl

-- an entry without pages, of which the cache itself is known to last on
lasts_with : (D L : Type 0) (m : Meaning D) (form : Form) → QuietHolds form → (o : Opening) (h : Entries)
    (e : Entry) (pool : Pool D L) (asked : Asked) (session : Sessions) → is_durable e ≡ false
    → may_last e ≡ false
    → ((image : Image) → Lasts form pool.dirty.size o h (cache_of pool.dirty pool.graph image) asked
    (needs_by asked session pool.dirty) → Lasts form pool.dirty.size o (e ∷ h)
    (cache_of pool.dirty pool.graph image) asked (needs_by asked session pool.dirty))
    → LastsOn m form o h pool asked session → LastsOn m form o (e ∷ h) pool asked session
lasts_with D L m form quiet o h e pool asked session passing no_failure on lasts = record {
  image = lasts.image;
  held = lasts.held;
  lasts = on lasts.image lasts.lasts;
  settled = asked_quiet h e no_failure ∙ ap (λ (x : Entries). e ∷ x) lasts.settled;
  left = λ c may. quiet pool.dirty.size o h e c passing no_failure (lasts.left c may);
}

pub rollback_lasts_on : (D L : Type 0) (m : Meaning D) (form : Form) → RollbackLasts form → QuietHolds form
    → RollbackLastsOn D L m form
rollback_lasts_on D L m form rollback quiet o h e t pool asked session passing no_failure is active lasts =
    lasts_with D L m form quiet o h e pool asked session passing no_failure
    (λ image was. rollback pool.dirty.size o h e t (cache_of pool.dirty pool.graph image) asked
    (needs_by asked session pool.dirty) is active was) lasts

pub idle_goes_on : (D L : Type 0) (m : Meaning D) (form : Form) → OpeningsBegin → IdleLasts form
    → QuietHolds form → IdleShows form → StandsOn form → IdleGoesOn D L m form
idle_goes_on D L m form begins idle quiet shows on size o h e s new pool i asked session stands lasts lawful
    passing no_failure is follows finds = (
      on size o h e s new (Some (shown pool.dirty i)) (Some (shown pool.dirty i)) stands lawful follows
          (shows size o h e s new (shown pool.dirty i) (begins o stands.opening) (lawful, stands.legal)
          (idle_versions (effect_of e) is)
          (λ t. follows.state t ∙ idle_state (effect_of e) is t (s.state t))
          (follows.next ∙ idle_number (effect_of e) is s.next) finds stands.shows),
      lasts_with D L m form quiet o h e pool asked session passing no_failure
          (λ image was. idle pool.dirty.size o h e (cache_of pool.dirty pool.graph image) asked
          (needs_by asked session pool.dirty) is was) lasts,
    )
