-- What a table's directory is, once it may have been made.
use Rattle.std.proofs.Common.{◌≡◌, ◌≢◌, ◌⊎◌, ◌∙◌, inl, inr, ℕ, List, Option, None, Some, ap, refl, subst, sym}
use Rattle.std.proofs.lemmas.Bool.{cases_eq}
use Rattle.mg_base.specs.declared.transaction.TxState.{TxState}
use Rattle.mg_directory.specs.Candidates.{ByKey, Kept, Noted, Stays, by_table, under}
use Rattle.mg_image.specs.Form.{Pages}
use Rattle.mg_model.specs.declared.table.Table.{Table}
use Rattle.mg_snap.specs.Live.{State}
use Rattle.mg_noting.specs.Making.{IsBuiltOf, KeepsMade, Makes, left_so, made, not_made}

module _ (state : ℕ → TxState) (live : State) (view : Pages) (table : Table) (old new : Kept) where
  -- a directory was there before, or it is the table's, and was made
  abbrev pub WasOrIsMade : ℕ → ByKey → Type 0
  WasOrIsMade at dir = (by_table old.dirs at ≡ Some dir)
      ⊎ ((at ≡ table.pointer.0) × IsBuiltOf state live view table dir)

  as_before : new.dirs ≡ old.dirs → (at : ℕ) (dir : ByKey) → by_table new.dirs at ≡ Some dir → WasOrIsMade at dir
  as_before same at dir is = inl (sym (ap (λ (ds : List Noted). by_table ds at) same) ∙ is)

  stayed : (at : ℕ) (dir : ByKey) (was now : Option ByKey) → was ≡ by_table old.dirs at → Stays was now
      → now ≡ Some dir → WasOrIsMade at dir
  stayed at dir was now is (inl same) some = inl (sym is ∙ (sym same ∙ some))
  stayed at dir was now is (inr gone) some = let no : None ≡ Some dir = sym gone ∙ some in absurd cc

  kept_so : KeepsMade state live view table old new → (at : ℕ) (dir : ByKey) → by_table new.dirs at ≡ Some dir
      → WasOrIsMade at dir
  kept_so kept at dir is = by (cases_eq at kept.dir.first)
    where
      its : (now : Option ByKey) → now ≡ Some dir → (now ≡ Some (under kept.dir)) ⊎ (now ≡ None)
          → at ≡ kept.dir.first → WasOrIsMade at dir
      its now some (inl has) same = inr (
        same ∙ kept.its,
        let one : under kept.dir ≡ dir = one_of (under kept.dir) dir (sym has ∙ some) in
            subst (IsBuiltOf state live view table) one kept.built,
      )
        where
          one_of : (a b : ByKey) → Some a ≡ Some b → a ≡ b
          one_of a b both = cc
      its now some (inr none) same = let no : None ≡ Some dir = sym none ∙ some in absurd cc

      by : (at ≡ kept.dir.first) ⊎ (at ≢ kept.dir.first) → WasOrIsMade at dir
      by (inl same) = its (by_table new.dirs kept.dir.first) (ap (by_table new.dirs) (sym same) ∙ is) kept.kept.keeps.its same
      by (inr off) = stayed at dir (by_table old.dirs at) (by_table new.dirs at) refl (kept.kept.keeps.others at off) is

  pub was_or_is_made : Makes state live view table old new → (at : ℕ) (dir : ByKey)
      → by_table new.dirs at ≡ Some dir → WasOrIsMade at dir
  was_or_is_made (not_made same) at dir is = as_before (ap (λ (k : Kept). k.dirs) same) at dir is
  was_or_is_made (left_so left) at dir is = as_before left.dirs at dir is
  was_or_is_made (made kept) at dir is = kept_so kept at dir is
