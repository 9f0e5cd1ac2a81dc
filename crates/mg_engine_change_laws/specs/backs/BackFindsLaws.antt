-- Each active transaction finds its tables after one has taken back to a point.
use Rattle.std.proofs.Common.{◌≡◌, ◌⊎◌, inl, inr, ap, sym, subst, ◌∙◌, ℕ, Bool, true, false, List, [], ◌∷◌, Option, None, Some, refl}
use Rattle.std.specs.Prelude.{is_some}
use Rattle.std.proofs.Math.Path.{fun_ext}
use Rattle.std.proofs.lemmas.Bool.{eqb-true, false≢true}
use Rattle.mg_base.specs.declared.transaction.TxState.{TxState}
use Rattle.mg_base.specs.declared.transaction.TxState.TheVariants.{Active}
use Rattle.mg_engine_step_laws.specs.backs.Again.{AreTaken}
use Rattle.mg_engine_step_laws.specs.standing.OwnChains.{change_there, none_second}
use Rattle.mg_engine_step_laws.specs.backs.Shown.{ShowsMidway}
use Rattle.mg_engine_change_laws.specs.backs.BackFinds.{BackFinds}
use Rattle.mg_image.specs.Form.{Pages, packed_form}
use Rattle.mg_image.specs.Histories.{newest_at}
use Rattle.mg_image.specs.Records as records
use Rattle.mg_image.specs.Sound.{IsSoundBy}
use Rattle.mg_image.specs.Tables.{Layout, stands_of}
use Rattle.mg_model.specs.Changes.{has_change}
use Rattle.mg_model.specs.Effects.{doer, is_its}
use Rattle.mg_model.specs.History.{Effect, Entries, Entry, TakesBack, effect_of}
use Rattle.mg_model.specs.Machine.{is_of, own, state_after}
use Rattle.mg_model.specs.Openings.{everyone}
use Rattle.mg_model.specs.declared.change.Change.{Change}
use Rattle.mg_model.specs.declared.change.Point.{Point}
use Rattle.mg_model.specs.declared.opening.Opening.{Opening}
use Rattle.mg_model.specs.declared.table.Table.{Table}
use Rattle.mg_image_overlay_laws.specs.tables.OneLayout.{StandsOneWay}
use Rattle.mg_overlay_laws.specs.Overlays.{left_by, left_state}
use Rattle.mg_engine_step_laws.specs.standing.Following.{FollowsEntry, KeepsTables, OthersKeepTables}
use Rattle.mg_engine_step_laws.specs.standing.Standing.{FindsTables, HasFirstPage, ShowsHistory, Standing}
use Rattle.mg_value.specs.declared.value.Value.{Value}

-- a transaction that has a change left after it took back had one before
pub change_before : (o : Opening) (h : Entries) (e : Entry) (t : ℕ) (whole : List Change) (name : List ℕ)
    (key : Value) → AreTaken o h e t whole → has_change (own o (e ∷ h) t) name key ≡ true
    → has_change (own o h t) name key ≡ true
change_before o h e t whole name key taken left = at (newest_at (own o h t) name key) refl
  where
    at : (x : Option records.Change) → newest_at (own o h t) name key ≡ x → has_change (own o h t) name key ≡ true
    at (Some c) is = change_there (own o h t) name key ∙ ap is_some is
    at None none =
        let gone : newest_at (own o (e ∷ h) t) name key ≡ None =
        none_second whole (own o (e ∷ h) t) name key (taken name key ∙ none) in
        absurd (false≢true (sym (change_there (own o (e ∷ h) t) name key ∙ ap is_some gone) ∙ left))

module _ (one_way : StandsOneWay packed_form) (others : OthersKeepTables) (size : ℕ) (o : Opening) (h : Entries)
    (e : Entry) (point : Point) (t : ℕ) (whole : List Change) (s new : Standing) (begun pages : Pages)
    (first : ShowsHistory packed_form size o h s begun) (back : effect_of e ≡ TakesBack t point)
    (active : s.state t ≡ Active) (taken : AreTaken o h e t whole) (follows : FollowsEntry o h e s new)
    (number : new.number t ≡ s.number t)
    (fewer : (name : List ℕ) (table : Table) → new.table t name ≡ Some table → s.table t name ≡ Some table)
    (shown_ : ShowsMidway packed_form size o h e t whole [] s begun first pages) where
  states_same : (u : ℕ) → new.state u ≡ s.state u
  states_same u = follows.state u ∙ ap (λ (x : Effect). state_after x u (s.state u)) back

  state_is : left_state everyone new.state ≡ left_state everyone s.state
  state_is = fun_ext (λ u. ap (left_by true) (states_same u))

  sound_now : IsSoundBy packed_form size (left_state everyone new.state) pages shown_.layout shown_.reading
  sound_now = subst (λ (x : ℕ → TxState). IsSoundBy packed_form size x pages shown_.layout shown_.reading)
      (sym state_is) shown_.sound

  found : FindsTables o h s shown_.layout t
  found = shown_.tables t active

  its : FindsTables o (e ∷ h) new shown_.layout t
  its = record {
    seen = λ name table some. found.seen name table (fewer name table some);
    changed = λ name key has_. subst (λ (n : List ℕ → ℕ). HasFirstPage (stands_of shown_.layout) name (n name))
        (sym number) (found.changed name key (change_before o h e t whole name key taken has_));
  }

  its_is : (u : ℕ) → is_its u e ≡ true → t ≡ u
  its_is u is = eqb-true t u (sym (ap (λ (f : Effect). is_of u (doer f)) back) ∙ is)

  pub finds_back : (layout : Layout) (r : records.Reading)
      → IsSoundBy packed_form size (left_state everyone new.state) pages layout r → (u : ℕ)
      → new.state u ≡ Active → KeepsTables o h e s new u ⊎ FindsTables o (e ∷ h) new layout u
  finds_back layout r also u runs = at (is_its u e) refl
    where
      at : (b : Bool) → is_its u e ≡ b → KeepsTables o h e s new u ⊎ FindsTables o (e ∷ h) new layout u
      at false off = inl (others o h e s new follows u off runs)
      at true on = inr (subst (FindsTables o (e ∷ h) new layout) (its_is u on)
          (subst (λ (l : Layout). FindsTables o (e ∷ h) new l t)
          (one_way size (left_state everyone new.state) pages shown_.layout layout shown_.reading r sound_now also).0
          its))

pub back_finds : StandsOneWay packed_form → OthersKeepTables → BackFinds
back_finds one_way others size o h e point t whole s new begun pages first back active taken follows number fewer
    shown_ layout r also u runs = finds_back one_way others size o h e point t whole s new begun pages first back
    active taken follows number fewer shown_ layout r also u runs
