-- Whose step is the newest that passes: the step at a place, and those behind it.
use Rattle.std.proofs.Common.{◌≡◌, ◌<◌, ◌≤◌, ◌+◌, ℕ, Bool, true, false, List, ◌∷◌, Some, None, drop, get_or, length, refl, sym, ap, ◌∙◌}
use Rattle.std.proofs.lemmas.List.{at_drop_more, at_drop_all}
use Rattle.mg_model.specs.declared.change.Deed.{Deed}
use Rattle.mg_model.specs.declared.change.Step.{Step}
use Rattle.mg_model.specs.Answers.{newest_by}

at_front : (who : ℕ → Bool) (what : Deed → Bool) (steps : List Step) (i : ℕ) (s : Step)
    → i < length steps → s ≡ get_or steps i s
    → newest_by who what (drop i steps) ≡ newest_by who what (s ∷ drop (i + 1) steps)
at_front who what steps i s lt is = at_drop_more (newest_by who what) steps i s lt
    ∙ ap (λ (x : Step). newest_by who what (x ∷ drop (i + 1) steps)) (sym is)

pub newest_here : (who : ℕ → Bool) (what : Deed → Bool) (steps : List Step) (i : ℕ) (s : Step)
    → i < length steps → s ≡ get_or steps i s → who s.by.0 ≡ true → what s.deed ≡ true
    → newest_by who what (drop i steps) ≡ Some s.by.0
newest_here who what steps i s lt is can does = at_front who what steps i s lt is ∙ rw (can, does) refl

pub newest_unable : (who : ℕ → Bool) (what : Deed → Bool) (steps : List Step) (i : ℕ) (s : Step)
    → i < length steps → s ≡ get_or steps i s → who s.by.0 ≡ false
    → newest_by who what (drop (i + 1) steps) ≡ newest_by who what (drop i steps)
newest_unable who what steps i s lt is can = sym (at_front who what steps i s lt is ∙ rw can refl)

pub newest_idle : (who : ℕ → Bool) (what : Deed → Bool) (steps : List Step) (i : ℕ) (s : Step)
    → i < length steps → s ≡ get_or steps i s → who s.by.0 ≡ true → what s.deed ≡ false
    → newest_by who what (drop (i + 1) steps) ≡ newest_by who what (drop i steps)
newest_idle who what steps i s lt is can does = sym (at_front who what steps i s lt is ∙ rw (can, does) refl)

pub newest_end : (who : ℕ → Bool) (what : Deed → Bool) (steps : List Step) (i : ℕ) → length steps ≤ i
    → newest_by who what (drop i steps) ≡ None
newest_end who what steps i past = at_drop_all (newest_by who what) steps i past
