-- The widths of columns, one after the other.
use Rattle.std.proofs.Common.{◌≡◌, ℕ, ◌+◌, ◌<◌, ◌≤◌, List, length, get_or, subst, ap, ◌∙◌, sym, arith, inl, inr, take}
use Rattle.std.specs.List.{sum_by}
use Rattle.std.proofs.lemmas.Bool.{cases_lt}
use Rattle.std.proofs.lemmas.List.{get_or_read}
use Rattle.std.proofs.lemmas.List.Sums.{sum_by_more}
use Rattle.mg_value.specs.declared.shape.Column.{Column}
use Rattle.mg_value.specs.Rows.{width_of}

pub widths_more : (columns : List Column) (i : ℕ) (x : Column) → i < length columns → x ≡ get_or columns i x → sum_by (λ column. width_of column.kind) (take (i + 1) columns) ≡ sum_by (λ column. width_of column.kind) (take i columns) + width_of x.kind
widths_more columns i x lt is = sum_by_more (λ column. width_of column.kind) columns i x lt ∙ ap (λ (c : Column). sum_by (λ column. width_of column.kind) (take i columns) + width_of c.kind) (sym is)

pub kinds_more : (columns : List Column) (i : ℕ) (x : Column) → i < length columns → x ≡ get_or columns i x → width_of x.kind ≤ 65537
    → ((k : ℕ) (d : Column) → k < i → width_of (get_or columns k d).kind ≤ 65537) → (k : ℕ) (d : Column) → k < i + 1 → width_of (get_or columns k d).kind ≤ 65537
kinds_more columns i x lt is fits so_far k d below =
    elim (cases_lt k i) [
      | inl before ↦ so_far k d before
      | inr le ↦ (
          let same : i ≡ k = omega arith in
          let element : x ≡ get_or columns k d = get_or_read columns i x lt is d ∙ ap (λ (n : ℕ). get_or columns n d) same in
          subst (λ (c : Column). width_of c.kind ≤ 65537) element fits)
    ]
