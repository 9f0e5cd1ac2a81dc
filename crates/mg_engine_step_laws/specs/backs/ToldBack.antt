-- What the versions of a record are as a history has them, once the newest one is taken back.
use Rattle.mg_base.specs.declared.transaction.TxState.{TxState}
use Rattle.mg_base.specs.declared.transaction.TxState.TheVariants.{Committed}
use Rattle.mg_engine_step_laws.specs.standing.OwnChains.{change_there, row_back, row_of, row_there}
use Rattle.mg_generation_laws.specs.After.{generations_back}
use Rattle.mg_generation_laws.specs.Generations.{Generation, generation, without_newest_by}
use Rattle.mg_image.specs.Histories.{newest_at, row_change}
use Rattle.mg_image.specs.RecordRules.{Each}
use Rattle.mg_image.specs.Records.{writer}
use Rattle.mg_image.specs.declared.entry.Entry.{Entry as Read}
use Rattle.mg_image_overlay_laws.specs.records.Fronts.{is_dead, living}
use Rattle.mg_model.specs.Changes.{Cells, has_change, row_at}
use Rattle.mg_model.specs.declared.change.Change.{Change}
use Rattle.mg_model.specs.declared.table.Table.{Table}
use Rattle.mg_seek.specs.Histories.{told_all, told_given, told_versions}
use Rattle.mg_value.specs.declared.value.Value.{Value}
use Rattle.std.proofs.Common.{List, None, Option, Some, [], ap, false, is_some, refl, sym, true, ℕ, ◌==◌, ◌∙◌, ◌∷◌, ◌≡◌}
use Rattle.std.proofs.lemmas.Bool.{eq-eqb}

module _ (state : ℕ → TxState) (table : Table) (t : ℕ) (left : List Change) (name : List ℕ) (key : Value)
    (d : Read) (older : List Read) (its : writer d ≡ t) (alive : is_dead (state (writer d)) ≡ false)
    (backs : Each (λ x. state (writer x) ≡ Committed) older) where
  counts : (es : List Read) → Each (λ x. state (writer x) ≡ Committed) es → living state es ≡ es
  counts [] each = refl
  counts (x ∷ xs) each = rw (ap is_dead each.0) refl

  pub told_older : told_versions state table older ≡ told_all table older
  told_older = ap (told_all table) (counts older backs)

  told_both : told_versions state table (d ∷ older)
      ≡ generation (writer d) (told_given table d) ∷ told_all table older
  told_both =
      let living_is : living state (d ∷ older) ≡ d ∷ older = rw alive refl in ap (told_all table) living_is

  its_test : (writer d == t) ≡ true
  its_test = eq-eqb (writer d) t its

  without_it : without_newest_by t (told_versions state table (d ∷ older)) ≡ told_all table older
  without_it = ap (without_newest_by t) told_both ∙ rw its_test refl

  -- no change is left
  pub told_out : newest_at left name key ≡ None
      → told_versions state table older
      ≡ generations_back left t name key (told_versions state table (d ∷ older))
  told_out none =
      let has_none : has_change left name key ≡ false = change_there left name key ∙ ap is_some none in
      told_older ∙ sym (rw has_none without_it)

  -- one is, and its version stands in front
  pub told_former : (n : Read) (row : Option Cells) → newest_at left name key ≡ Some (row_change row)
      → writer n ≡ t → told_given table n ≡ row → is_dead (state (writer n)) ≡ false
      → told_versions state table (n ∷ older)
      ≡ generations_back left t name key (told_versions state table (d ∷ older))
  told_former n row former by given alive_n =
      let has_one : has_change left name key ≡ true = change_there left name key ∙ ap is_some former in
      let row_is : row_at left name key ≡ row = row_there left name key ∙ (ap row_of former ∙ row_back row) in
      let living_is : living state (n ∷ older) ≡ n ∷ older = rw alive_n refl in
      let told_n : told_versions state table (n ∷ older)
      ≡ generation (writer n) (told_given table n) ∷ told_all table older =
      ap (told_all table) living_is in
      told_n ∙ ((λ i. record { writer = by i; row = (given ∙ sym row_is) i } ∷ told_all table older)
      ∙ sym (rw has_one (ap (λ (gs : List Generation). generation t (row_at left name key) ∷ gs) without_it)))
