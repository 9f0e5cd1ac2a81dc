-- Nothing is found exactly where the versions are as a sound image asks it.
use Rattle.std.specs.Prelude.{◌≡◌, ◌↔◌, ◌++◌, ℕ, Bool, true, false, List, [], ◌∷◌}
use Rattle.std.proofs.Common.{refl, sym, ap, ◌∙◌}
use Rattle.mg_base.specs.declared.transaction.TxState.{TxState}
use Rattle.mg_base.specs.declared.transaction.TxState.TheVariants.{Active, Limbo, Dead, Committed}
use Rattle.mg_check_states.specs.States.{BacksLaw, DrawnLaw, drawn_of, is_committed, later_backs, may_stand, state_finding, unless}
use Rattle.mg_check_states.specs.declared.states.Bounds.{Bounds}
use Rattle.mg_findings.specs.declared.finding.Finding.{Finding}
use Rattle.mg_image.specs.RecordRules.{Each}
use Rattle.mg_image.specs.Records.{writer}
use Rattle.mg_image.specs.declared.entry.Entry.{Entry}

none_more : (well : Bool) (f : Finding) (fs : List Finding) → unless well f ++ fs ≡ []
    → (well ≡ true) × (fs ≡ [])
none_more true f fs none = (refl, none)
none_more false f fs none = absurd cc

more_none : (well : Bool) (f : Finding) (fs : List Finding) → well ≡ true → fs ≡ []
    → unless well f ++ fs ≡ []
more_none true f fs is none = none
more_none false f fs is none = absurd cc

pub drawn_law : DrawnLaw
drawn_law state b [] = (λ none. tt, λ each. refl)
drawn_law state b (e ∷ es) = let rest = drawn_law state b es in (
  λ none. (let both = none_more (may_stand b (writer e) (state (writer e))) (state_finding e.at (state (writer e)))
      (drawn_of state b es) none in (both.0, rest.0 both.1)),
  λ each. more_none (may_stand b (writer e) (state (writer e))) (state_finding e.at (state (writer e)))
      (drawn_of state b es) each.0 (rest.1 each.1),
)

committed_from : (state : TxState) → is_committed state ≡ true → state ≡ Committed
committed_from Active is = absurd cc
committed_from Limbo is = absurd cc
committed_from Dead is = absurd cc
committed_from Committed is = refl

later_law : (state : ℕ → TxState) (es : List Entry) → (later_backs state es ≡ [])
    ↔ Each (λ e. state (writer e) ≡ Committed) es
later_law state [] = (λ none. tt, λ each. refl)
later_law state (e ∷ es) = let rest = later_law state es in (
  λ none. (let both = none_more (is_committed (state (writer e))) (state_finding e.at (state (writer e)))
      (later_backs state es) none in (committed_from (state (writer e)) both.0, rest.0 both.1)),
  λ each. more_none (is_committed (state (writer e))) (state_finding e.at (state (writer e)))
      (later_backs state es) (ap is_committed each.0) (rest.1 each.1),
)

pub backs_law : BacksLaw
backs_law state [] = (λ none. tt, λ each. refl)
backs_law state (e ∷ es) = later_law state es
