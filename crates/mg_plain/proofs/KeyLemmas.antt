-- The place of the primary key, one column on; the least transaction, one step on.
use Rattle.std.proofs.Common.{◌≡◌, ℕ, zero, suc, ◌+◌, ◌-◌, ◌<◌, ◌≤◌, length, append_assoc, length-append, None, Bool, true, false, List, [], ◌∷◌, ◌++◌, Option, Some, refl, sym, ◌∙◌, ap, cond, arith, ◌&&◌}
use Rattle.std.proofs.lemmas.List.{append-nil}
use Rattle.mg_model.specs.declared.change.Deed.{Deed}
use Rattle.mg_model.specs.declared.change.Step.{Step}
use Rattle.mg_model.specs.Catalog.{CatalogRows, column_key, column_said, columns_said, is_key_row, key_said, with_column}
use Rattle.mg_model.specs.Changes.{Cells}
use Rattle.mg_value.specs.declared.shape.Column.{Column}
use Rattle.mg_model.specs.Answers.{least_from, lesser}

pub key_here : (rows : CatalogRows) (table : List ℕ) (place end : ℕ) → place < end
    → is_key_row (rows (column_key table place)) ≡ true → key_said rows table place (end - place) ≡ place
key_here rows table place end below is =
    let more : end - place ≡ suc (end - (place + 1)) = omega arith in
    ap (key_said rows table place) more ∙ rw is refl

pub key_behind : (rows : CatalogRows) (table : List ℕ) (place end : ℕ) → place < end
    → is_key_row (rows (column_key table place)) ≡ false
    → key_said rows table place (end - place) ≡ key_said rows table (place + 1) (end - (place + 1))
key_behind rows table place end below other =
    let more : end - place ≡ suc (end - (place + 1)) = omega arith in
    ap (key_said rows table place) more ∙ rw other refl

pub key_small : (rows : CatalogRows) (table : List ℕ) (place count : ℕ)
    → key_said rows table place count ≤ place + count
key_small rows table place zero = omega arith
key_small rows table place (suc count) =
    at (is_key_row (rows (column_key table place))) (key_small rows table (place + 1) count)
  where
    at : (b : Bool) → key_said rows table (place + 1) count ≤ place + 1 + count
        → cond b place (key_said rows table (place + 1) count) ≤ place + suc count
    at true more = omega arith
    at false more = omega arith

pub columns_behind : (rows : CatalogRows) (table : List ℕ) (place end : ℕ) (so_far : List Column) → place < end
    → (so_far ++ with_column (rows (column_key table place)) []) ++ columns_said rows table (place + 1) (end - (place + 1))
    ≡ so_far ++ columns_said rows table place (end - place)
columns_behind rows table place end so_far below =
    let more : end - place ≡ suc (end - (place + 1)) = omega arith in
    at (rows (column_key table place)) ∙ ap (λ (n : ℕ). so_far ++ columns_said rows table place n) (sym more)
  where
    at : (row : Option Cells)
        → (so_far ++ with_column row []) ++ columns_said rows table (place + 1) (end - (place + 1))
        ≡ so_far ++ with_column row (columns_said rows table (place + 1) (end - (place + 1)))
    at None = rw append-nil refl
    at (Some row) = append_assoc so_far (column_said row ∷ []) (columns_said rows table (place + 1) (end - (place + 1)))

pub few_behind : (row : Option Cells) (so_far : List Column) (place : ℕ) → length so_far ≤ place
    → length (so_far ++ with_column row []) ≤ place + 1
few_behind None so_far place few = simp length-append (omega arith)
few_behind (Some row) so_far place few = simp length-append (omega arith)

pub least_from-append : (who : ℕ → Bool) (what : Deed → Bool) (least : Option ℕ) (a b : List Step)
    → least_from who what least (a ++ b) ≡ least_from who what (least_from who what least b) a
least_from-append who what least [] b = refl
least_from-append who what least (s ∷ a) b =
    at (who s.by.0 && what s.deed) (least_from-append who what least a b)
  where
    at : (counts : Bool)
        → least_from who what least (a ++ b) ≡ least_from who what (least_from who what least b) a
        → cond counts (Some (lesser s.by.0 (least_from who what least (a ++ b)))) (least_from who what least (a ++ b))
        ≡ cond counts (Some (lesser s.by.0 (least_from who what (least_from who what least b) a))) (least_from who what (least_from who what least b) a)
    at true more = ap (λ (x : Option ℕ). Some (lesser s.by.0 x)) more
    at false more = more

pub least_left : (who : ℕ → Bool) (what : Deed → Bool) (least : Option ℕ) (all before : List Step) (last : Step)
    → all ≡ before ++ last ∷ []
    → least_from who what (least_from who what least (last ∷ [])) before ≡ least_from who what least all
least_left who what least all before last is =
    rw is (sym (least_from-append who what least before (last ∷ [])))
