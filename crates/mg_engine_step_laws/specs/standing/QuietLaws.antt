-- Idle entries, beginnings and commits keep the pages showing the history.
use Rattle.std.proofs.Common.{◌≡◌, ◌≢◌, ◌⊎◌, inl, inr, ◌≤◌, ℕ, true, refl, sym, ap, ◌∙◌, subst, arith}
use Rattle.std.proofs.Math.Path.{fun_ext}
use Rattle.std.proofs.lemmas.Bool.{cases_eq, eq-eqb, ne_eqb}
use Rattle.mg_base.specs.declared.transaction.TxState.{TxState}
use Rattle.mg_base.specs.declared.transaction.TxState.TheVariants.{Active, Committed, Dead, Limbo}
use Rattle.mg_model.specs.History.{Effect}
use Rattle.mg_model.specs.LegalLaws.{IsAllowed, lawful_is_allowed}
use Rattle.mg_model.specs.Machine.{next_number, state_after}
use Rattle.mg_model.specs.NumberLaws.{undrawn_is_dead}
use Rattle.mg_model.specs.Openings.{everyone}
use Rattle.mg_generation_laws.specs.After.{leaves_versions}
use Rattle.mg_image.specs.Form.{Form}
use Rattle.mg_image.specs.Inventory.{next_of}
use Rattle.mg_image.specs.Sound.{IsSoundBy}
use Rattle.mg_image_overlay_laws.specs.transactions.Begins.{Raises, begin_sound}
use Rattle.mg_image_overlay_laws.specs.transactions.CommitSound.{commit_sound, committing}
use Rattle.mg_image_overlay_laws.specs.records.Fronts.{is_dead}
use Rattle.mg_overlay_laws.specs.Overlays.{left_by, left_state}
use Rattle.mg_engine_step_laws.specs.standing.QuietPages.{BeginShows, CommitShows, IdleShows}
use Rattle.mg_engine_step_laws.specs.standing.ShowsLaws.{shows_on}

pub idle_shows : (form : Form) → IdleShows form
idle_shows form size o h e s new pages opening legal quiet states next finds shows =
    shows_on form size o h e s new pages pages opening legal (record {
      quiet = quiet;
      sound = λ layout r sound. subst (λ (x : ℕ → TxState). IsSoundBy form size x pages layout r) same sound;
      alive = λ t drawn. ap is_dead (states t);
      next = shows.next ∙ sym next;
      tables = finds;
    }) shows
  where
    same : left_state everyone s.state ≡ left_state everyone new.state
    same = fun_ext (λ t. ap (left_by true) (sym (states t)))

pub begin_shows : (form : Form) → BeginShows form
begin_shows form size o h e t mode s new pages later opening legal is memory follows stays next finds shows =
    shows_on form size o h e s new pages later opening legal (record {
      quiet = ap leaves_versions is;
      sound = λ layout r sound. stays layout r (begin_sound form size (left_state everyone s.state)
          (left_state everyone new.state) t raises pages layout r sound fresh);
      alive = λ u drawn. ap is_dead (others u (λ same. absurd (omega (arith, drawn, same, fresh))));
      next = next;
      tables = finds;
    }) shows
  where
    number : t ≡ next_number o h
    number = subst (IsAllowed o h) is (lawful_is_allowed o h e legal.0)

    fresh : next_of pages ≤ t
    fresh = let shown = shows.next in let said = memory.next in omega (arith, shown, said, number)

    dead : s.state t ≡ Dead
    dead = memory.state t ∙ undrawn_is_dead o opening h legal.1 t (omega (arith, number))

    active : new.state t ≡ Active
    active = follows.state t ∙ (ap (λ (f : Effect). state_after f t (s.state t)) is
        ∙ rw (eq-eqb t t refl) refl)

    others : (u : ℕ) → u ≢ t → new.state u ≡ s.state u
    others u ne = follows.state u ∙ (ap (λ (f : Effect). state_after f u (s.state u)) is
        ∙ rw (ne_eqb t u (λ same. ne (sym same))) refl)

    raises : Raises (left_state everyone s.state) (left_state everyone new.state) t
    raises = record {
      dead = ap (left_by true) dead;
      limbo = ap (left_by true) active;
      others = λ u ne. ap (left_by true) (others u ne);
    }

pub commit_shows : (form : Form) → CommitShows form
commit_shows form size o h e t s new pages later opening legal is active follows stays next finds shows =
    shows_on form size o h e s new pages later opening legal (record {
      quiet = ap leaves_versions is;
      sound = λ layout r sound. stays layout r (subst (λ (x : ℕ → TxState). IsSoundBy form size x pages layout r)
          same (commit_sound (left_state everyone s.state) t limbo form size pages layout r sound));
      alive = λ u drawn. alive u (cases_eq u t);
      next = next;
      tables = finds;
    }) shows
  where
    limbo : left_state everyone s.state t ≡ Limbo
    limbo = ap (left_by true) active

    committed : new.state t ≡ Committed
    committed = follows.state t ∙ (ap (λ (f : Effect). state_after f t (s.state t)) is
        ∙ rw (eq-eqb t t refl) refl)

    others : (u : ℕ) → u ≢ t → new.state u ≡ s.state u
    others u ne = follows.state u ∙ (ap (λ (f : Effect). state_after f u (s.state u)) is
        ∙ rw (ne_eqb t u (λ eq. ne (sym eq))) refl)

    alive : (u : ℕ) → (u ≡ t) ⊎ (u ≢ t) → is_dead (new.state u) ≡ is_dead (s.state u)
    alive u (inl eq) = ap (λ (n : ℕ). is_dead (new.state n)) eq
        ∙ (ap is_dead committed ∙ (sym (ap is_dead active)
        ∙ ap (λ (n : ℕ). is_dead (s.state n)) (sym eq)))
    alive u (inr ne) = ap is_dead (others u ne)

    same : committing t (left_state everyone s.state) ≡ left_state everyone new.state
    same = fun_ext (λ u. at u (cases_eq u t))
      where
        at : (u : ℕ) → (u ≡ t) ⊎ (u ≢ t)
            → committing t (left_state everyone s.state) u ≡ left_state everyone new.state u
        at u (inl eq) = rw (eq, eq-eqb t t refl, committed) refl
        at u (inr ne) = rw (ne_eqb u t ne, others u ne) refl
