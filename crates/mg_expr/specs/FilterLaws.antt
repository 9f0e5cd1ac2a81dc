-- A row passes a filter exactly where it is TRUE.
use Rattle.std.proofs.Common.{◌≡◌, Bool, true, List, [], ◌∷◌, Option, Some, None, refl, sym, ap, ◌∙◌}
use Rattle.mg_value.specs.declared.truth.Truth.{Truth}
use Rattle.mg_value.specs.declared.truth.Truth.TheVariants.{False, Unknown, True}
use Rattle.mg_value.specs.declared.value.Value.{Value}
use Rattle.mg_expr.specs.Trees.{Tree, Or, And, Not, Compare, IsNull, IsNotNull, Sum, Product, Minus, Integer, Text, Null, Name, Column, tree_of}
use Rattle.mg_expr.specs.Meaning.{Says, truth_in, holds, and_then, all_of, says, says_each, is_true}
use Rattle.mg_expr.specs.Filters.{and_passes, passes_all, passes, is_passed, PassesWhereTrue}

held : (o : Option Truth) → truth_in (holds o) ≡ o
held None = refl
held (Some truth) = refl

one_part : (o : Option Truth) (later : Option Bool) (rest : Option Truth)
    → is_passed later ≡ is_true rest → is_passed (and_passes o later) ≡ is_true (and_then o rest)
one_part None later rest same = refl
one_part (Some False) later rest same = refl
one_part (Some Unknown) later None same = refl
one_part (Some Unknown) later (Some False) same = refl
one_part (Some Unknown) later (Some Unknown) same = refl
one_part (Some Unknown) later (Some True) same = refl
one_part (Some True) later rest same = same

all_parts : (ss : List Says) → is_passed (passes_all ss) ≡ is_true (all_of ss)
all_parts [] = refl
all_parts (s ∷ ss) = one_part (truth_in s) (passes_all ss) (all_of ss) (all_parts ss)

alone : (o : Option Truth) → is_passed (and_passes o (Some true)) ≡ is_true o
alone None = refl
alone (Some False) = refl
alone (Some Unknown) = refl
alone (Some True) = refl

pub tree_passes : (t : Tree) (row : List Value)
    → is_passed (passes t row) ≡ is_true (truth_in (says t row))
tree_passes (Or ts) row = alone (truth_in (says (Or ts) row))
tree_passes (And ts) row =
    all_parts (says_each ts row) ∙ ap is_true (sym (held (all_of (says_each ts row))))
tree_passes (Not t) row = alone (truth_in (says (Not t) row))
tree_passes (Compare a sign b) row = alone (truth_in (says (Compare a sign b) row))
tree_passes (IsNull t) row = alone (truth_in (says (IsNull t) row))
tree_passes (IsNotNull t) row = alone (truth_in (says (IsNotNull t) row))
tree_passes (Sum t ps) row = alone (truth_in (says (Sum t ps) row))
tree_passes (Product t ps) row = alone (truth_in (says (Product t ps) row))
tree_passes (Minus t) row = alone (truth_in (says (Minus t) row))
tree_passes (Integer n) row = refl
tree_passes (Text text) row = refl
tree_passes Null row = refl
tree_passes (Name name) row = refl
tree_passes (Column place) row = refl

pub passes_where_true : PassesWhereTrue
passes_where_true e row = tree_passes (tree_of e) row
