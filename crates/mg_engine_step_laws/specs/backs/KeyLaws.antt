-- One key's change is taken back: its version is taken out, or replaced by the former one.
use Rattle.mg_base.specs.declared.transaction.TxState.{TxState}
use Rattle.mg_engine_step_laws.specs.backs.Again.{again, giving, leaves_by, leaves_giving, marking, others_again, own_again, own_giving, own_marked, own_unmarked, rows_again, unmarking, without_else, without_here, without_key}
use Rattle.mg_engine_step_laws.specs.writes.Claims.{SameClaims}
use Rattle.mg_engine_step_laws.specs.backs.Midway.{GoesBack}
use Rattle.mg_image.specs.Histories.{newest_at, row_change}
use Rattle.mg_image_overlay_laws.specs.transactions.CommitLaws.{LeavesOthers}
use Rattle.mg_model.specs.Changes.{Cells, is_at, row_at, same_key, same_name}
use Rattle.mg_model.specs.History.{Entries, Entry}
use Rattle.mg_model.specs.Machine.{database, own}
use Rattle.mg_model.specs.ReadLaws.{is_at_itself}
use Rattle.mg_model.specs.RowLaws.{same_from_same_key}
use Rattle.mg_model.specs.declared.change.Change.{Change}
use Rattle.mg_model.specs.declared.change.Point.{Point}
use Rattle.mg_model.specs.declared.opening.Opening.{Opening}
use Rattle.mg_pool_overlay_laws.specs.Needs.{Asked}
use Rattle.mg_engine_step_laws.specs.standing.Standing.{Remembers, Standing}
use Rattle.mg_value.specs.declared.value.Value.{Value}
use Rattle.std.proofs.Common.{Bool, List, None, Option, Some, [], ap, false, if◌then◌else◌, inl, inr, refl, subst, sym, true, ℕ, ◌&&◌, ◌++◌, ◌∙◌, ◌∷◌, ◌≡◌, ◌≢◌, ◌⊎◌}
use Rattle.std.proofs.lemmas.Bool.{and_parts, cases_eq}
use Rattle.std.specs.Cmp.Lexicographic.{same_text}
use Rattle.mg_image.specs.Records as records

-- what is found in the first of two lists is found in both
pub newest_first : (cs rest : List Change) (name : List ℕ) (key : Value) (c : records.Change)
    → newest_at cs name key ≡ Some c → newest_at (cs ++ rest) name key ≡ Some c
newest_first [] rest name key c is = absurd cc
newest_first (d ∷ ds) rest name key c is = at (is_at d name key) is (newest_first ds rest name key c)
  where
    at : (b : Bool) → (if b then Some (row_change d.row) else newest_at ds name key) ≡ Some c
        → (newest_at ds name key ≡ Some c → newest_at (ds ++ rest) name key ≡ Some c)
        → (if b then Some (row_change d.row) else newest_at (ds ++ rest) name key) ≡ Some c
    at true is_ more = is_
    at false is_ more = more is_

module _ (o : Opening) (h : Entries) (e : Entry) (point : Point) (s : Standing) (has_asked : Asked) (t : ℕ)
    (memory : Remembers o h s) (goes : GoesBack o h e point s has_asked t) (name : List ℕ) (key : Value)
    (cs : List Change) where
  abbrev left : List Change
  left = without_key name key cs

  abbrev own_left : List Change
  own_left = own o (e ∷ h) t

  abbrev now_ : Entries
  now_ = again t cs (e ∷ h)

  abbrev then_ : Entries
  then_ = again t left (e ∷ h)

  -- two histories of these changes say the same of all others
  same_by : (g k : Entries) (state : ℕ → TxState)
      → ((n : List ℕ) (j : Value) → row_at (database o k) n j ≡ row_at (database o g) n j)
      → ((u : ℕ) → u ≢ t → own o k u ≡ own o g u)
      → ((n : List ℕ) (j : Value) → newest_at (own o k t) n j ≡ newest_at (own o g t) n j)
      → SameClaims o g k state
  same_by g k state rows others mine = record {
    rows = rows;
    changes = λ u n j limbo. at u n j (cases_eq u t);
  }
    where
      at : (u : ℕ) (n : List ℕ) (j : Value) → (u ≡ t) ⊎ (u ≢ t)
          → newest_at (own o k u) n j ≡ newest_at (own o g u) n j
      at u n j (inl same) = ap (λ (w : ℕ). newest_at (own o k w) n j) same
          ∙ (mine n j ∙ ap (λ (w : ℕ). newest_at (own o g w) n j) (sym same))
      at u n j (inr ne) = ap (λ (ds : List Change). newest_at ds n j) (others u ne)

  -- a key is this one, or its change is another's
  module _ (P : List ℕ → Value → Type 0) (here_ : P name key)
      (else_ : (n : List ℕ) (j : Value) → (same_name name n && same_key key j) ≡ false → P n j) where
    each_key : (n : List ℕ) (j : Value) → P n j
    each_key n j = at (same_name name n && same_key key j) refl
      where
        at : (b : Bool) → (same_name name n && same_key key j) ≡ b → P n j
        at true is =
            let parts = and_parts (same_name name n) (same_key key j) is in
            subst (λ (m : List ℕ). P m j) (same_text name n (sym parts.0))
            (subst (P name) (same_from_same_key key j parts.1) here_)
        at false off = else_ n j off

  -- ---- the key had no change before

  module _ (change : Option Cells) (to_take : newest_at cs name key ≡ Some (row_change change))
      (none_left : newest_at own_left name key ≡ None) where
    abbrev marked : Entries
    marked = marking t ∷ then_

    abbrev given : Entries
    given = giving t name key change ∷ marked

    own_given : own o given t ≡ record { table = name; key = key; row = change } ∷ (left ++ own_left)
    own_given = own_giving o marked t name key change ∙ ap (λ (ds : List Change).
        record { table = name; key = key; row = change } ∷ ds) (own_marked o then_ t ∙ own_again o (e ∷ h) t left)

    marked_leaves : LeavesOthers o then_ (marking t) t
    marked_leaves = leaves_by o then_ (marking t) t refl refl

    rows_of_given : (n : List ℕ) (j : Value) → row_at (database o given) n j ≡ row_at (database o now_) n j
    rows_of_given n j = (leaves_giving o marked t name key change).rows n j ∙ (marked_leaves.rows n j
        ∙ (rows_again o (e ∷ h) t left n j ∙ sym (rows_again o (e ∷ h) t cs n j)))

    others_of_given : (u : ℕ) → u ≢ t → own o given u ≡ own o now_ u
    others_of_given u ne = (leaves_giving o marked t name key change).others u ne ∙ (marked_leaves.others u ne
        ∙ (others_again o (e ∷ h) t left u ne ∙ sym (others_again o (e ∷ h) t cs u ne)))

    pub given_claims : (state : ℕ → TxState) → SameClaims o now_ given state
    given_claims state = same_by now_ given state rows_of_given others_of_given (each_key
        (λ n j. newest_at (own o given t) n j ≡ newest_at (own o now_ t) n j)
        (ap (λ (ds : List Change). newest_at ds name key) own_given ∙ (rw (is_at_itself name key change) refl
        ∙ sym (ap (λ (ds : List Change). newest_at ds name key) (own_again o (e ∷ h) t cs)
        ∙ newest_first cs own_left name key (row_change change) to_take)))
        (λ n j off. ap (λ (ds : List Change). newest_at ds n j) own_given ∙ (rw off refl
        ∙ (without_else name key cs own_left n j off
        ∙ sym (ap (λ (ds : List Change). newest_at ds n j) (own_again o (e ∷ h) t cs))))))

    pub unmarked_leaves : LeavesOthers o given (unmarking t) t
    unmarked_leaves = leaves_by o given (unmarking t) t refl refl

    own_after : own o (unmarking t ∷ given) t ≡ left ++ own_left
    own_after = own_unmarked o then_ t name key change ∙ own_again o (e ∷ h) t left

    pub out_here : newest_at (own o (unmarking t ∷ given) t) name key ≡ None
    out_here = ap (λ (ds : List Change). newest_at ds name key) own_after
        ∙ (without_here name key cs own_left ∙ none_left)

    pub out_else : (n : List ℕ) (j : Value) → (same_name name n && same_key key j) ≡ false
        → newest_at (own o (unmarking t ∷ given) t) n j ≡ newest_at (own o given t) n j
    out_else n j off = ap (λ (ds : List Change). newest_at ds n j) own_after
        ∙ sym (ap (λ (ds : List Change). newest_at ds n j) own_given ∙ rw off refl)

    pub out_claims : (state : ℕ → TxState) → SameClaims o (unmarking t ∷ given) then_ state
    out_claims state = same_by (unmarking t ∷ given) then_ state
        (λ n j. sym (unmarked_leaves.rows n j ∙ (rows_of_given n j
        ∙ (rows_again o (e ∷ h) t cs n j ∙ sym (rows_again o (e ∷ h) t left n j)))))
        (λ u ne. sym (unmarked_leaves.others u ne ∙ (others_of_given u ne
        ∙ (others_again o (e ∷ h) t cs u ne ∙ sym (others_again o (e ∷ h) t left u ne)))))
        (λ n j. ap (λ (ds : List Change). newest_at ds n j) (sym (own_unmarked o then_ t name key change)))

  -- ---- it had one

  module _ (row : Option Cells) (was : newest_at own_left name key ≡ Some (row_change row)) where
    abbrev with_former : Entries
    with_former = giving t name key row ∷ now_

    own_former : own o with_former t ≡ record { table = name; key = key; row = row } ∷ (cs ++ own_left)
    own_former = own_giving o now_ t name key row ∙ ap (λ (ds : List Change).
        record { table = name; key = key; row = row } ∷ ds) (own_again o (e ∷ h) t cs)

    pub back_claims : (state : ℕ → TxState) → SameClaims o with_former then_ state
    back_claims state = same_by with_former then_ state
        (λ n j. sym ((leaves_giving o now_ t name key row).rows n j
        ∙ (rows_again o (e ∷ h) t cs n j ∙ sym (rows_again o (e ∷ h) t left n j))))
        (λ u ne. sym ((leaves_giving o now_ t name key row).others u ne
        ∙ (others_again o (e ∷ h) t cs u ne ∙ sym (others_again o (e ∷ h) t left u ne))))
        (each_key (λ n j. newest_at (own o then_ t) n j ≡ newest_at (own o with_former t) n j)
        (ap (λ (ds : List Change). newest_at ds name key) (own_again o (e ∷ h) t left)
        ∙ (without_here name key cs own_left ∙ (was
        ∙ sym (ap (λ (ds : List Change). newest_at ds name key) own_former ∙ rw (is_at_itself name key row) refl))))
        (λ n j off. ap (λ (ds : List Change). newest_at ds n j) (own_again o (e ∷ h) t left)
        ∙ (without_else name key cs own_left n j off
        ∙ sym (ap (λ (ds : List Change). newest_at ds n j) own_former ∙ rw off refl))))
