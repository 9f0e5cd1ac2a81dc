-- Each session has one active transaction at most, after each call.
use Rattle.std.proofs.Common.{◌≡◌, inl, inr, ℕ, Bool, true, false, List, Option, Result, Ok, Err, refl, sym, ap, ◌∙◌, subst}
use Rattle.std.specs.Prelude.{MatchResult}
use Rattle.mg_base.specs.Disk.{Meaning}
use Rattle.mg_model.specs.declared.refusal.Refusal.{Refusal}
use Rattle.mg_model.specs.declared.refusal.Refusal.TheVariants.{DiskWrite, Memory}
use Rattle.mg_works.specs.Works.{AreApart, has_asked, with_point, without_tables}
use Rattle.mg_works.specs.WorksLaws.{with_apart, without_apart}
use Rattle.mg_core.specs.declared.parts.Core.{Core}
use Rattle.mg_core.specs.Committing.{AsksCommit, StepsCommit}
use Rattle.mg_core.specs.Ending.{Commits, RefusesCommit}
use Rattle.mg_core.specs.Events.{EndsWait, IsRefused, Looks, RollsBack, SetsPoint, keeps_base, with_base_if}

pub ended_apart : {D : Type 0} (old new : Core D) (t : ℕ) → EndsWait old new t → AreApart old.works
    → AreApart new.works
ended_apart {D} old new t wait apart = subst AreApart (sym (ap (λ (c : Core D). c.works) wait.same)) apart

pub points_apart : {D : Type 0} (old new : Core D) (t : ℕ) (name : Option (List ℕ))
    (result : Result (Unit {0}) Refusal) → SetsPoint old new t name result → AreApart old.works
    → AreApart new.works
points_apart {D} old new t name (Ok x) sets apart = subst AreApart (sym (ap (λ (c : Core D). c.works) sets.1.same))
    (with_apart t (with_point name) (λ w. refl) (λ w. refl)
    (λ w is. record { session_below = is.session_below; lawful = is.lawful; written_lawful = is.written_lawful }) old.works apart)
points_apart old new t name (Err Memory) sets apart = ended_apart old new t sets.1 apart
points_apart old new t name (Err refusal) sets apart = ended_apart old new t sets.wait apart

pub looks_apart : {D : Type 0} (old new : Core D) (t : ℕ) (result : Result (Unit {0}) Refusal)
    → MatchResult result (λ _. Looks old new t) (IsRefused old new t) → AreApart old.works
    → AreApart new.works
looks_apart {D} old new t (Err refusal) refused apart = ended_apart old new t refused.wait apart
looks_apart {D} old new t (Ok x) looks apart = at (keeps_base looks.ended.works t) refl
  where
    ended : AreApart looks.ended.works
    ended = ended_apart old looks.ended t looks.wait apart

    at : (b : Bool) → keeps_base looks.ended.works t ≡ b → AreApart new.works
    at true is = subst AreApart (sym (ap (λ (c : Core D). c.works) looks.base
        ∙ ap (λ (b : Bool). (with_base_if b t looks.ended).works) is)) ended
    at false is = subst AreApart (sym (ap (λ (c : Core D). c.works) looks.base
        ∙ ap (λ (b : Bool). (with_base_if b t looks.ended).works) is))
        (with_apart t without_tables (λ w. refl) (λ w. refl)
        (λ w is_. record { session_below = is_.session_below; lawful = tt; written_lawful = is_.written_lawful }) looks.ended.works ended)

pub asks_apart : {D : Type 0} (old new : Core D) (t : ℕ) (result : Result (Unit {0}) Refusal)
    → AsksCommit old new t result → AreApart old.works → AreApart new.works
asks_apart {D} old new t (Ok x) asks apart = subst AreApart (sym (ap (λ (c : Core D). c.works) asks.same))
    (with_apart t has_asked (λ w. refl) (λ w. refl)
    (λ w is. record { session_below = is.session_below; lawful = is.lawful; written_lawful = is.written_lawful }) old.works apart)
asks_apart {D} old new t (Err refusal) refused apart =
    subst AreApart (sym (ap (λ (c : Core D). c.works) refused.1)) apart

pub steps_apart : {D : Type 0} (m : Meaning D) (old new : Core D) (t : ℕ) (result : Result Bool Refusal)
    → StepsCommit m old new t result → AreApart old.works → AreApart new.works
steps_apart {D} m old new t (Ok true) steps apart =
    subst AreApart (sym (ap (λ (c : Core D). c.works) steps.2.0)) apart
steps_apart {D} m old new t (Ok false) steps apart =
    subst AreApart (sym (ap (λ (c : Core D). c.works) steps.2.3.others)) apart
steps_apart {D} m old new t (Err (DiskWrite count)) steps apart =
    subst AreApart (sym (ap (λ (c : Core D). c.works) steps.others)) apart
steps_apart {D} m old new t (Err refusal) steps apart =
    subst AreApart (sym (ap (λ (c : Core D). c.works) steps.1)) apart

pub rollbacks_apart : {D : Type 0} (old new : Core D) (t : ℕ) (result : Result (Unit {0}) Refusal)
    → MatchResult result (λ _. RollsBack old new t) (IsRefused old new t) → AreApart old.works
    → AreApart new.works
rollbacks_apart old new t (Err refusal) refused apart = ended_apart old new t refused.wait apart
rollbacks_apart {D} old new t (Ok x) rolls apart =
    subst AreApart (sym (ap (λ (c : Core D). c.works) rolls.same)) (without_apart old.works t apart)

pub commits_apart : {D : Type 0} (m : Meaning D) (old new : Core D) (t : ℕ)
    (result : Result (Unit {0}) Refusal)
    → MatchResult result (λ _. Commits m old new t) (RefusesCommit m old new t) → AreApart old.works
    → AreApart new.works
commits_apart {D} m old new t (Ok x) commits apart =
    subst AreApart (sym (ap (λ (c : Core D). c.works) commits.same)) (without_apart old.works t apart)
commits_apart m old new t (Err refusal) (inl refused) apart = ended_apart old new t refused.wait apart
commits_apart {D} m old new t (Err refusal) (inr fails) apart =
    subst AreApart (sym (ap (λ (c : Core D). c.works) fails.same)) apart
