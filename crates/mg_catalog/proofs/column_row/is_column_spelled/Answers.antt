use Rattle.std.proofs.Common.{◌∙◌, sym, subst, List, ℕ}
use Rattle.std.proofs.lemmas.Bool.{both_ways, false≢true}
use Rattle.mg_value.specs.Names.{IsName}
use Rattle.mg_catalog.proofs.column_row.is_column_spelled.Goals.{then-not-is_spelled-via-then-not-is_spelled, then-not-is_spelled-via-else-not-is_spelled+then-not-has_text, then-not-is_spelled-via-else-not-is_spelled+else-not-has_text+then-number_at-place}
use Rattle.mg_catalog.proofs.column_row.is_column_spelled.Goals as goal

pub returns-then-is_some : goal.returns-then-is_some
returns-then-is_some c = (
  λ passed. (
    c.is_spelled.ensures.0 c.if-not-is_spelled.false,
    c.has_text.ensures.0 c.if-not-has_text.false,
    sym c.number_at.ensures ∙ c.if-number_at-place.false,
    subst (λ (n : List ℕ). IsName n) c.name_of.ensures
        (c.new.ensures.named.0 (sym c.is_some.ensures ∙ c.if-is_some.true)),
    c.has_lawful_numbers.ensures.0 passed,
  ),
  λ spelled. c.has_lawful_numbers.ensures.1 spelled.4,
)

pub returns-else-is_some : goal.returns-else-is_some
returns-else-is_some c = (
  λ passed. absurd (both_ways c.is_some.result c.if-is_some.false passed),
  λ spelled. c.is_some.ensures
      ∙ c.new.ensures.named.1 (subst (λ (n : List ℕ). IsName n) (sym c.name_of.ensures) spelled.3),
)

pub returns-then-not-is_spelled : goal.returns-then-not-is_spelled
returns-then-not-is_spelled c = (
  λ passed. absurd (false≢true passed),
  λ spelled. absurd (elim c.then-not-is_spelled.branch [
    | then-not-is_spelled-via-then-not-is_spelled w ↦
        both_ways c.is_spelled.result w.if-not-is_spelled.true (c.is_spelled.ensures.1 spelled.0)
    | then-not-is_spelled-via-else-not-is_spelled+then-not-has_text w ↦
        both_ways w.has_text.result w.if-not-has_text.true (w.has_text.ensures.1 spelled.1)
    | then-not-is_spelled-via-else-not-is_spelled+else-not-has_text+then-number_at-place w ↦
        w.if-number_at-place.true (w.number_at.ensures ∙ spelled.2)
  ]),
)
