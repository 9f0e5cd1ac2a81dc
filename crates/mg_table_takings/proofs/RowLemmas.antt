-- The rows of the catalog, one after another.
use Rattle.std.proofs.Common.{◌≡◌, ◌∙◌, ◌∷◌, arith, length, refl, subst, sym, List, [], ℕ}
use Rattle.mg_base.specs.Disk.{Meaning}
use Rattle.mg_core.specs.Cores.{IsCore}
use Rattle.mg_core.specs.declared.parts.Core.{Core}
use Rattle.mg_model.specs.declared.refusal.Refusal.{Refusal}
use Rattle.mg_table_takings.specs.Takings.{FailsRows, FailsTheRow, TakesRows, TakesTheRow, later_row, no_row, one_row, row_stands}
use Rattle.mg_value.specs.declared.value.Value.{Value}

-- What comes of the keys that are left comes of all; and what is known of the core in between.
pub record GoesOn {D : Type 0} (m : Meaning D) (t : ℕ) (keys : List Value) (old : Core D) (left : List Value)
    (now : Core D) : Type 0 where
  pub on : (new : Core D) → TakesRows m t left now new → TakesRows m t keys old new
  pub off : (refusal : Refusal) (new : Core D) → FailsRows m t refusal left now new → FailsRows m t refusal keys old new
  pub core : IsCore m now
  pub list : now.list ≡ old.list
  pub works : now.works ≡ old.works

pub goes_first : {D : Type 0} (m : Meaning D) (t : ℕ) (keys : List Value) (old : Core D) → IsCore m old
    → GoesOn m t keys old keys old
goes_first m t keys old core =
    record { on = λ new takes. takes; off = λ refusal new fails. fails; core = core; list = refl; works = refl }

module _ {D : Type 0} (m : Meaning D) (t : ℕ) (keys left later : List Value) (key : Value) (old now : Core D)
    (are : left ≡ key ∷ later) (so : GoesOn m t keys old left now) where
  -- one row goes
  pub goes_on : (new : Core D) → TakesTheRow m now new t key → IsCore m new → new.list ≡ now.list
      → new.works ≡ now.works → GoesOn m t keys old later new
  goes_on new takes core list works = record {
    on = λ end more. so.on end (subst (λ (ks : List Value). TakesRows m t ks now end) (sym are)
        (one_row key later now new end takes more));
    off = λ refusal end fails. so.off refusal end (subst (λ (ks : List Value). FailsRows m t refusal ks now end) (sym are)
        (later_row key later now new end takes fails));
    core = core;
    list = list ∙ so.list;
    works = works ∙ so.works;
  }

  -- or it stands
  pub ends_there : (refusal : Refusal) (new : Core D) → FailsTheRow m now new t key refusal
      → FailsRows m t refusal keys old new
  ends_there refusal new fails = so.off refusal new (subst (λ (ks : List Value). FailsRows m t refusal ks now new) (sym are)
      (row_stands key later now new fails))

nothing_left : (keys : List Value) → length keys ≡ 0 → keys ≡ []
nothing_left [] none = refl
nothing_left (key ∷ keys) none = absurd (omega (arith, none))

-- no key is left
pub all_gone : {D : Type 0} (m : Meaning D) (t : ℕ) (keys left : List Value) (old now : Core D) → length left ≡ 0
    → GoesOn m t keys old left now → TakesRows m t keys old now
all_gone m t keys left old now none so =
    so.on now (subst (λ (ks : List Value). TakesRows m t ks now now) (sym (nothing_left left none)) (no_row now))
