-- Each outcome of a table's making, as a keeper of records owes it, and that each session has one active transaction at
-- most after it too.
use Rattle.std.proofs.Common.{◌≡◌, ◌⊎◌, inl, inr, refl, sym, subst, ℕ, zero, suc, List, [], ◌∷◌, None, Some}
use Rattle.mg_base.specs.Disk.{Meaning}
use Rattle.mg_base.specs.declared.numbers.TxNo.{TxNo}
use Rattle.mg_value.specs.declared.shape.Shape.{Shape}
use Rattle.mg_value.specs.declared.value.Value.{Value}
use Rattle.mg_model.specs.declared.answer.Answer.TheVariants.{No}
use Rattle.mg_model.specs.declared.refusal.Refusal.{Refusal}
use Rattle.mg_image.specs.Form.{packed_form}
use Rattle.mg_space.specs.declared.links.FireLinks.{FireLinks}
use Rattle.mg_table_making.specs.Keeping.{kept_each, retracted, works_made}
use Rattle.mg_table_making.specs.Keys.{keys_made}
use Rattle.mg_undo.specs.Undo.{RetractTakesKeepBack}
use Rattle.mg_undo.specs.declared.changes.Was.TheVariants.{Untouched}
use Rattle.mg_works.specs.Works.{AreApart, Working, unasked, with_change, with_work, without_change, without_tables}
use Rattle.mg_works.specs.WorksLaws.{with_apart}
use Rattle.mg_core.specs.declared.parts.Core.{Core}
use Rattle.mg_engine_change_laws.specs.tables.MakingRefusals.{CreationsAreRefused, IsNotPut, own_event}
use Rattle.mg_engine_step_laws.specs.standing.Following.{StandsOn}
use Rattle.mg_engine_step_laws.specs.commits.Idle.{IdleGoesOn}
use Rattle.mg_engine_step_laws.specs.commits.PageWrites.{PageWritesFail}
use Rattle.mg_engine_meaning_laws.specs.Frames.{GivesEvent}
use Rattle.mg_engine_meaning_laws.specs.Meaning.{Places}
use Rattle.mg_engine_change_laws.specs.tables.MakingLaws.{KnownOfTables, made_works}
use Rattle.mg_engine_change_laws.specs.tables.RefusedLaws.{not_put_gives, not_put_works}
use Rattle.mg_engine_change_laws.specs.tables.MakingSteps.{CreationsKeepApart, GivesTable, RefusalsKeepApart, TablesAreRefused}

-- ---- a refusal

-- the first row is refused
first_refused : {D P : Type 0} (m : Meaning D) (places : Places P) (old new : Core D) (t : TxNo) (name : List ℕ)
    (shape : Shape) (refusal : Refusal)
    → GivesEvent m places old new (own_event t name shape) (No refusal) (Some refusal) (Some t.0) (Some t.0) None None
    → GivesTable m places old new t name shape (Some refusal)
first_refused m places old new t name shape refusal gives = record {
  makes = λ o h stands. let both = gives.adds o h stands in inr (refusal, refl, both.0, both.1);
  leaves = gives.leaves;
  crash = gives.crash;
  sessions = gives.sessions;
}

module _ {D P : Type 0} (m : Meaning D) (known : KnownOfTables D m) (retract : RetractTakesKeepBack)
    (idle_goes : IdleGoesOn D FireLinks m packed_form) (on : StandsOn packed_form)
    (failing : PageWritesFail D FireLinks m packed_form) (early : CreationsAreRefused D P m) where
  pub tables_are_refused : TablesAreRefused D P m
  tables_are_refused places old new t name shape refusal core counted failed =
      at (early places old new t name shape refusal core counted failed)
    where
      at : (GivesEvent m places old new (own_event t name shape) (No refusal) (Some refusal) (Some t.0) (Some t.0) None
          None × (new.works ≡ old.works)) ⊎ IsNotPut m old new t name shape refusal
          → GivesTable m places old new t name shape (Some refusal)
      at (inl given) = first_refused m places old new t name shape refusal given.0
      at (inr not_put) = first_refused m places old new t name shape refusal
          (not_put_gives retract m known places idle_goes on failing old new core counted t name shape refusal
          not_put.free not_put.may not_put.fails)

-- ---- sessions

each_apart : (t owner : ℕ) (keys : List Value) (works : List Working) → AreApart works
    → AreApart (kept_each t owner keys works)
each_apart t owner [] works apart = apart
each_apart t owner (key ∷ keys) works apart = each_apart t owner keys
    (with_work t (with_change owner key Untouched) works)
    (with_apart t (with_change owner key Untouched) (λ w. refl) (λ w. refl)
    (λ w is. record { session_below = is.session_below; lawful = is.lawful; written_lawful = is.written_lawful })
    works apart)

unasked_apart : (t : ℕ) (works : List Working) → AreApart works → AreApart (with_work t unasked works)
unasked_apart t works apart = with_apart t unasked (λ w. refl) (λ w. refl)
    (λ w is. record { session_below = is.session_below; lawful = is.lawful; written_lawful = is.written_lawful })
    works apart

made_apart : (t owner : ℕ) (keys : List Value) (works : List Working) → AreApart works
    → AreApart (works_made t owner keys works)
made_apart t owner keys works apart = with_apart t without_tables (λ w. refl) (λ w. refl)
    (λ w is. record { session_below = is.session_below; lawful = tt; written_lawful = is.written_lawful })
    (with_work t unasked (kept_each t owner keys works))
    (unasked_apart t (kept_each t owner keys works) (each_apart t owner keys works apart))

back_apart : (t n : ℕ) (works : List Working) → AreApart works → AreApart (retracted t n works)
back_apart t zero works apart = apart
back_apart t (suc n) works apart = back_apart t n (with_work t without_change works)
    (with_apart t without_change (λ w. refl) (λ w. refl)
    (λ w is. record { session_below = is.session_below; lawful = is.lawful; written_lawful = is.written_lawful })
    works apart)

module _ {D P : Type 0} (m : Meaning D) (known : KnownOfTables D m) where
  pub creations_keep_apart : CreationsKeepApart D P m
  creations_keep_apart places old new t name shape core may apart created =
      subst AreApart (sym (made_works m known places old new t name shape core may created))
      (made_apart t.0 old.catalog.pointer.0 (keys_made old.catalog.shape name shape) old.works apart)

  module _ (retract : RetractTakesKeepBack) (idle_goes : IdleGoesOn D FireLinks m packed_form)
      (on : StandsOn packed_form) (failing : PageWritesFail D FireLinks m packed_form)
      (early : CreationsAreRefused D P m) where
    pub refusals_keep_apart : RefusalsKeepApart D P m
    refusals_keep_apart places old new t name shape refusal core counted apart failed =
        at (early places old new t name shape refusal core counted failed)
      where
        works_apart : (ks : List Value) (works : List Working)
            → (works ≡ kept_each t.0 old.catalog.pointer.0 ks old.works)
            ⊎ (works ≡ with_work t.0 unasked (kept_each t.0 old.catalog.pointer.0 ks old.works)) → AreApart works
        works_apart ks works (inl is) = subst AreApart (sym is)
            (each_apart t.0 old.catalog.pointer.0 ks old.works apart)
        works_apart ks works (inr is) = subst AreApart (sym is)
            (unasked_apart t.0 (kept_each t.0 old.catalog.pointer.0 ks old.works)
            (each_apart t.0 old.catalog.pointer.0 ks old.works apart))

        at : (GivesEvent m places old new (own_event t name shape) (No refusal) (Some refusal) (Some t.0) (Some t.0)
            None None × (new.works ≡ old.works)) ⊎ IsNotPut m old new t name shape refusal → AreApart new.works
        at (inl given) = subst AreApart (sym given.1) apart
        at (inr not_put) =
            let its = not_put_works retract m known places idle_goes on failing old new core counted t name shape refusal
            not_put.free not_put.may not_put.fails in
            subst AreApart (sym its.is) (back_apart t.0 its.count its.works (works_apart its.keys its.works its.are))
