-- What is given up in the middle is rolled back.
use Rattle.mg_base.specs.Disk.{Meaning}
use Rattle.mg_base.specs.declared.transaction.TxState.{TxState}
use Rattle.mg_base.specs.declared.transaction.TxState.TheVariants.{Dead}
use Rattle.mg_engine_step_laws.specs.backs.Again.{rolling}
use Rattle.mg_engine_step_laws.specs.writes.Claims.{SameClaims, every_as}
use Rattle.mg_engine_step_laws.specs.backs.Midway.{MidwaysAreGivenUp}
use Rattle.mg_engine_step_laws.specs.backs.MidwayLaws.{holds_back}
use Rattle.mg_image.specs.Form.{Form}
use Rattle.mg_image.specs.Histories.{newest_at}
use Rattle.mg_lasting_laws.specs.ChangingLaws.{quiet_holds}
use Rattle.mg_lasting_laws.specs.CrashLaws.{asked_quiet}
use Rattle.mg_lasting_laws.specs.Crashes.{asked}
use Rattle.mg_lasting_laws.specs.Entries.{idle_database, idle_next, idle_own, idle_state}
use Rattle.mg_model.specs.Changes.{row_at}
use Rattle.mg_model.specs.History.{Entries}
use Rattle.mg_model.specs.Machine.{state_of}
use Rattle.mg_model.specs.declared.change.Change.{Change}
use Rattle.mg_overlay_laws.specs.Overlays.{left_state, nobody}
use Rattle.mg_tie_laws.specs.Changed.{KeptIn}
use Rattle.std.proofs.Common.{Bool, List, ap, if◌then◌else◌, refl, subst, sym, ℕ, ◌==◌, ◌∙◌, ◌∷◌, ◌≡◌}
use Rattle.std.proofs.Math.Path.{fun_ext}

pub midways_are_given_up : (form : Form) (D L : Type 0) (m : Meaning D) → MidwaysAreGivenUp form D L m
midways_are_given_up form D L m o h refused start pool has_asked session t idle passing no_failure midway = (
  record {
    image = midway.lasts.image;
    held = midway.lasts.held;
    lasts = record {
      every = subst (λ (st : ℕ → TxState). KeptIn form pool.dirty.size o (rolling t ∷ refused ∷ h) st has_asked
          session pool midway.lasts.image) state_same
          (every_as form pool.dirty.size o (rolling t ∷ h) (rolling t ∷ refused ∷ h) (state_of o (rolling t ∷ h))
          has_asked session pool midway.lasts.image (λ chosen. same_claims chosen) midway.lasts.lasts.every);
      bits = λ set_ closed u. midway.lasts.lasts.bits set_ closed u
          ∙ ap (λ (st : ℕ → TxState). left_state nobody st u) state_same;
      next = midway.lasts.lasts.next ∙ sym (idle_next o h refused idle);
      clean = midway.lasts.lasts.clean;
      dirty = midway.lasts.lasts.dirty;
      all = midway.lasts.lasts.all;
    };
    settled = ap (λ (x : Entries). rolling t ∷ x)
        (asked_quiet h refused no_failure ∙ ap (λ (x : Entries). refused ∷ x) settled_was);
    left = λ c may. quiet_holds form pool.dirty.size o (refused ∷ h) (rolling t) c refl refl
        (quiet_holds form pool.dirty.size o h refused c passing no_failure
        (holds_back form pool.dirty.size o h t c (midway.lasts.left c may)));
  },
  midway.leaves,
)
  where
    state_same : state_of o (rolling t ∷ h) ≡ state_of o (rolling t ∷ refused ∷ h)
    state_same = fun_ext (λ u. ap (λ (x : TxState). if t == u then Dead else x) (sym (idle_state o h refused idle u)))

    same_claims : (chosen : ℕ → Bool) → SameClaims o (rolling t ∷ h) (rolling t ∷ refused ∷ h)
        (left_state chosen (state_of o (rolling t ∷ h)))
    same_claims chosen = record {
      rows = λ name key. ap (λ (cs : List Change). row_at cs name key) (idle_database o h refused idle);
      changes = λ u name key limbo. ap (λ (cs : List Change). newest_at cs name key) (idle_own o h refused idle u);
    }

    settled_was : asked h ≡ h
    settled_was = let heads : rolling t ∷ asked h ≡ rolling t ∷ h = midway.lasts.settled in cc
