-- A list of demands as a set.
use Rattle.std.specs.Prelude.{◌≡◌, ℕ, ◌==◌, true, List, [], ◌∷◌}
use Rattle.std.proofs.Common.{inl, inr, refl, sym, ◌∙◌, ap}
use Rattle.std.proofs.lemmas.Bool.{and_parts, and_from, or_cases, or_left, or_right, eqb-true, eq-eqb}
use Rattle.mg_careful.specs.declared.links.Demand.{Demand}
use Rattle.mg_careful.specs.CarefulWrite.{Has, is_same, listed, ListsAreSets}

same_itself : (d : Demand) → is_same d d ≡ true
same_itself d = and_from _ _ (eq-eqb d.target d.target refl) (and_from _ _ (eq-eqb d.what d.what refl) (and_from _ _ (eq-eqb d.a d.a refl) (eq-eqb d.b d.b refl)))

demand_of : ℕ → ℕ → ℕ → ℕ → Demand
demand_of target what a b = record { target = target; what = what; a = a; b = b }

same_demand : (d e : Demand) → is_same d e ≡ true → d ≡ e
unfolding demand_of
same_demand d e same =
    let one = and_parts (d.target == e.target) _ same in
    let two = and_parts (d.what == e.what) _ one.1 in
    let three = and_parts (d.a == e.a) _ two.1 in
    ap (λ (x : ℕ). demand_of x d.what d.a d.b) (eqb-true d.target e.target one.0)
    ∙ (ap (λ (x : ℕ). demand_of e.target x d.a d.b) (eqb-true d.what e.what two.0)
    ∙ (ap (λ (x : ℕ). demand_of e.target e.what x d.b) (eqb-true d.a e.a three.0) ∙ ap (λ (x : ℕ). demand_of e.target e.what e.a x) (eqb-true d.b e.b three.1)))

in_set : (list : List Demand) (d : Demand) → Has list d → (w : List ℕ) → listed list d w ≡ true
in_set [] d h w = absurd h
in_set (x ∷ xs) d (inl e) w = or_left _ _ (ap (is_same d) (sym e) ∙ same_itself d)
in_set (x ∷ xs) d (inr h) w = or_right (is_same d x) _ (in_set xs d h w)

in_list : (list : List Demand) (d : Demand) (w : List ℕ) → listed list d w ≡ true → Has list d
in_list [] d w h = absurd cc
in_list (x ∷ xs) d w h = elim (or_cases (is_same d x) _ h) [ inl same ↦ inl (same_demand d x same) | inr more ↦ inr (in_list xs d w more) ]

pub lists_are_sets : ListsAreSets
lists_are_sets = λ list d. (λ h. ([], in_set list d h []), λ h. in_list list d h.0 h.1)
