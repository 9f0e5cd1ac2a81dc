-- What is counted of a record where a transaction counts as dead that counted as in limbo: all but its own newest
-- version, whatever was made of that.
use Rattle.std.proofs.Common.{◌≡◌, ◌≢◌, ◌⊎◌, inl, inr, ℕ, Bool, true, false, List, [], ◌∷◌, refl, sym, ap, ◌∙◌}
use Rattle.std.specs.Prelude.{if◌then◌else◌, map}
use Rattle.std.proofs.lemmas.Bool.{cases_eq, eq-eqb, ne_eqb}
use Rattle.mg_base.specs.declared.transaction.TxState.{TxState}
use Rattle.mg_base.specs.declared.transaction.TxState.TheVariants.{Committed, Dead, Limbo}
use Rattle.mg_generation_laws.specs.After.{generations_back}
use Rattle.mg_generation_laws.specs.Generations.{Generation, is_newest_by, put, without_newest_by}
use Rattle.mg_image.specs.declared.entry.Entry.{Entry as Read}
use Rattle.mg_image.specs.RecordRules.{Each, EachBack}
use Rattle.mg_image.specs.Records.{writer}
use Rattle.mg_image_overlay_laws.specs.records.Fronts.{is_dead}
use Rattle.mg_model.specs.Changes.{has_change, row_at}
use Rattle.mg_model.specs.declared.change.Change.{Change}
use Rattle.mg_model.specs.declared.table.Table.{Table}
use Rattle.mg_seek.specs.Histories.{told_versions}
use Rattle.mg_engine_step_laws.specs.standing.Versions.{told_version}
use Rattle.mg_value.specs.declared.value.Value.{Value}

-- a list that does not begin with the transaction's version stays
pub without_none : (t : ℕ) (gs : List Generation) → is_newest_by t gs ≡ false → without_newest_by t gs ≡ gs
without_none t [] off = refl
without_none t (g ∷ gs) off = rw off refl

module _ (state : ℕ → TxState) (t : ℕ) (limbo : state t ≡ Limbo) where
  not_committed : (e : Read) → state (writer e) ≡ Committed → writer e ≢ t
  not_committed e committed its =
      let both : Limbo ≡ Committed = sym limbo ∙ (ap state (sym its) ∙ committed) in absurd cc

  -- committed versions are not the transaction's
  older_kept : (table : Table) (es : List Read) → Each (λ e. state (writer e) ≡ Committed) es
      → without_newest_by t (map (told_version table) es) ≡ map (told_version table) es
  older_kept table [] each = refl
  older_kept table (e ∷ es) each = rw (ne_eqb (writer e) t (not_committed e each.0)) refl

  older_none : (table : Table) (es : List Read) → Each (λ e. state (writer e) ≡ Committed) es
      → is_newest_by t (map (told_version table) es) ≡ false
  older_none table [] each = refl
  older_none table (e ∷ es) each = ne_eqb (writer e) t (not_committed e each.0)

  -- behind its newest version none is the transaction's
  pub behind_none : (table : Table) (es : List Read) → EachBack (λ e. state (writer e) ≡ Committed) es
      → is_newest_by t (without_newest_by t (told_versions state table es)) ≡ false
  behind_none table [] backs = refl
  behind_none table (e ∷ es) backs = at (is_dead (state (writer e))) (cases_eq (writer e) t)
    where
      at : (b : Bool) → (writer e ≡ t) ⊎ (writer e ≢ t)
          → is_newest_by t (without_newest_by t (map (told_version table) (if b then es else e ∷ es))) ≡ false
      at true which = ap (is_newest_by t) (older_kept table es backs) ∙ older_none table es backs
      at false (inl same) = ap (λ (b : Bool). is_newest_by t (if b then map (told_version table) es
          else told_version table e ∷ map (told_version table) es)) (eq-eqb (writer e) t same)
          ∙ older_none table es backs
      at false (inr ne) = ap (λ (b : Bool). is_newest_by t (if b then map (told_version table) es
          else told_version table e ∷ map (told_version table) es)) (ne_eqb (writer e) t ne)
          ∙ ne_eqb (writer e) t ne

  -- what a transaction has taken back at a key is nothing to the others
  pub back_without : (left : List Change) (name : List ℕ) (key : Value) (table : Table) (es : List Read)
      → EachBack (λ e. state (writer e) ≡ Committed) es
      → without_newest_by t (generations_back left t name key (told_versions state table es))
      ≡ without_newest_by t (told_versions state table es)
  back_without left name key table es backs = at (has_change left name key)
    where
      at : (b : Bool) → without_newest_by t (if b then put t (row_at left name key) (told_versions state table es)
          else without_newest_by t (told_versions state table es))
          ≡ without_newest_by t (told_versions state table es)
      at true = ap (λ (b : Bool). if b then without_newest_by t (told_versions state table es)
          else put t (row_at left name key) (told_versions state table es)) (eq-eqb t t refl)
      at false = without_none t (without_newest_by t (told_versions state table es)) (behind_none table es backs)

  -- where it counts as dead, and the others as they did, all but its newest version count
  module _ (now : ℕ → TxState) (dead : now t ≡ Dead) (others : (u : ℕ) → u ≢ t → now u ≡ state u) where
    pub told_dead : (table : Table) (es : List Read) → EachBack (λ e. state (writer e) ≡ Committed) es
        → told_versions now table es ≡ without_newest_by t (told_versions state table es)
    told_dead table [] backs = refl
    told_dead table (e ∷ es) backs = at (cases_eq (writer e) t)
      where
        older : without_newest_by t (map (told_version table) es) ≡ map (told_version table) es
        older = older_kept table es backs

        by_its : writer e ≡ t → (b : Bool) → map (told_version table) es
            ≡ without_newest_by t (map (told_version table) (if b then es else e ∷ es))
        by_its same true = sym older
        by_its same false = sym (ap (λ (b : Bool). if b then map (told_version table) es
            else told_version table e ∷ map (told_version table) es) (eq-eqb (writer e) t same))

        by_other : writer e ≢ t → (b : Bool) → map (told_version table) (if b then es else e ∷ es)
            ≡ without_newest_by t (map (told_version table) (if b then es else e ∷ es))
        by_other ne true = sym older
        by_other ne false = sym (ap (λ (b : Bool). if b then map (told_version table) es
            else told_version table e ∷ map (told_version table) es) (ne_eqb (writer e) t ne))

        at : (writer e ≡ t) ⊎ (writer e ≢ t)
            → map (told_version table) (if is_dead (now (writer e)) then es else e ∷ es)
            ≡ without_newest_by t (map (told_version table) (if is_dead (state (writer e)) then es else e ∷ es))
        at (inl same) =
            let gone : is_dead (now (writer e)) ≡ true = ap (λ (u : ℕ). is_dead (now u)) same ∙ ap is_dead dead in
            ap (λ (b : Bool). map (told_version table) (if b then es else e ∷ es)) gone
            ∙ by_its same (is_dead (state (writer e)))
        at (inr ne) =
            let alike : is_dead (now (writer e)) ≡ is_dead (state (writer e)) =
            ap is_dead (others (writer e) ne) in
            ap (λ (b : Bool). map (told_version table) (if b then es else e ∷ es)) alike
            ∙ by_other ne (is_dead (state (writer e)))
