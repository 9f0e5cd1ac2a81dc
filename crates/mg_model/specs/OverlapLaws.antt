-- In a legal history two transactions whose changes of one key stand did not overlap: one was
-- committed when the other took its base.
use Rattle.std.specs.Prelude.{◌≡◌, ◌⊎◌, ℕ, ◌==◌, ◌≤◌, not, Bool, true, false, List, [], ◌∷◌, ◌++◌, Option, Some, None, cond, refl}
use Rattle.std.proofs.Common.{sym, ◌∙◌, ap, inl, inr, arith}
use Rattle.std.proofs.lemmas.Bool.{false≢true, both_ways, eqb-true, ne_eqb, eq-eqb}
use Rattle.std.specs.Cmp.Lexicographic.{same_text}
use Rattle.mg_base.specs.declared.transaction.TxState.TheVariants.{Active}
use Rattle.mg_value.specs.declared.value.Value.{Value}
use Rattle.mg_model.specs.declared.change.Deed.{Deed}
use Rattle.mg_model.specs.declared.change.Deed.TheVariants.{Marked, Saved}
use Rattle.mg_model.specs.declared.opening.Opening.{Opening}
use Rattle.mg_model.specs.Changes.{Cells, same_name, same_key, has_change, row_at}
use Rattle.mg_model.specs.Catalog.{CatalogRows, catalog_name, key_in}
use Rattle.mg_model.specs.History.{Entry, Entries, Effect, Begins, Looks, Makes, Gives, Marks, Saves, TakesBack, Ends, Nothing, effect_of}
use Rattle.mg_model.specs.Machine.{next_number, state_after, state_of, is_of, deeds_by, changes_in, changes_by, changed, step, steps_after, takes_base, mode_of, steps, base, own, cut_at_base}
use Rattle.mg_model.specs.Answers.{told, is_committed, is_open, can_hinder, obstacle}
use Rattle.mg_model.specs.Legal.{MayBegin, IsLegal}
use Rattle.mg_model.specs.Effects.{doer, is_its}
use Rattle.mg_model.specs.EntryLaws.{own_others_entry}
use Rattle.mg_model.specs.RowLaws.{same_from_same_key}
use Rattle.mg_model.specs.LegalLaws.{IsAllowed, lawful_is_allowed}
use Rattle.mg_model.specs.HinderLaws.{stands, none_hinders, saw_from_unhindered, back_had}
use Rattle.mg_model.specs.NumberLaws.{undrawn_has_no_deeds, committed_stays}

-- two transactions stand, and the own changes of both have a key
pub record BothChange (o : Opening) (h : Entries) (t u : ℕ) (table : List ℕ) (key : Value)
    : Type 0 where
  pub apart : (t == u) ≡ false
  pub first_stands : stands (state_of o h t) ≡ true
  pub second_stands : stands (state_of o h u) ≡ true
  pub first_changes : has_change (own o h t) table key ≡ true
  pub second_changes : has_change (own o h u) table key ≡ true

-- one of them was committed when the other took its base
abbrev pub AreInTurn : Opening → Entries → ℕ → ℕ → Type 0
AreInTurn o h t u = ((told o h).saw t u ≡ true) ⊎ ((told o h).saw u t ≡ true)

-- ---- one entry

module _ (o : Opening) (opening : MayBegin o) (h : Entries) (legal : IsLegal o h) where
  abbrev catalog : ℕ → CatalogRows
  catalog u = row_at (changes_by u (steps o h) ++ base o h u) catalog_name

  -- a transaction that stands with a change after an effect stood before it
  stood : (f : Effect) (t : ℕ) (table : List ℕ) (key : Value) → IsAllowed o h f
      → stands (state_after f t (state_of o h t)) ≡ true
      → has_change (changes_by t (steps_after f (catalog) (steps o h))) table key ≡ true
      → stands (state_of o h t) ≡ true
  stood (Begins u mode) t table key allowed standing has = at (u == t) refl standing
    where
      at : (b : Bool) → (u == t) ≡ b → stands (cond b Active (state_of o h t)) ≡ true
          → stands (state_of o h t) ≡ true
      at true its standing =
          let same : u ≡ t = eqb-true u t its in
          let above : next_number o h ≤ t = omega arith in
          let none : deeds_by t (steps o h) ≡ [] =
          undrawn_has_no_deeds o opening h legal t above in
          absurd (false≢true
          (sym (ap (λ deeds. has_change (changes_in deeds) table key) none) ∙ has))
      at false other standing = standing
  stood (Ends u end) t table key allowed standing has = at (u == t) refl standing
    where
      at : (b : Bool) → (u == t) ≡ b → stands (cond b end (state_of o h t)) ≡ true
          → stands (state_of o h t) ≡ true
      at true its standing =
          let same : u ≡ t = eqb-true u t its in
          let was_open : is_open (state_of o h t) ≡ true =
          ap (λ n. is_open (state_of o h n)) (sym same) ∙ allowed.0 in
          rw was_open refl
      at false other standing = standing
  stood f t table key allowed standing has = standing

  -- what an effect writes has no obstacle
  abbrev Writes : Effect → ℕ → List ℕ → Value → Type 0
  Writes f t table key =
      (is_of t (doer f) ≡ true) × (obstacle (told o h) t table key ≡ None)

  -- a write of a key, or of another one
  wrote : (u t : ℕ) (table' table : List ℕ) (key' key : Value) (row : Option Cells)
      → obstacle (told o h) u table' key' ≡ None
      → has_change (changes_by t (step u (changed table' key' row) ∷ steps o h)) table key ≡ true
      → (has_change (own o h t) table key ≡ true)
      ⊎ (((u == t) ≡ true) × (obstacle (told o h) t table key ≡ None))
  wrote u t table' table key' key row none has =
      at (u == t) refl (same_name table' table) refl (same_key key' key) refl has
    where
      at : (its : Bool) → (u == t) ≡ its → (named : Bool) → same_name table' table ≡ named
          → (keyed : Bool) → same_key key' key ≡ keyed
          → has_change (changes_in (cond its (changed table' key' row ∷ deeds_by t (steps o h))
          (deeds_by t (steps o h)))) table key ≡ true
          → (has_change (own o h t) table key ≡ true)
          ⊎ ((its ≡ true) × (obstacle (told o h) t table key ≡ None))
      at false other named is_named keyed is_keyed has = inl has
      at true its true is_named true is_keyed has =
          let same : u ≡ t = eqb-true u t its in
          let name : table' ≡ table = same_text table' table (sym is_named) in
          let same_keys : key' ≡ key = same_from_same_key key' key is_keyed in
          inr (
            refl,
            ap (λ n. obstacle (told o h) n table key) (sym same)
                ∙ ap (λ n. obstacle (told o h) u n key) (sym name)
                ∙ ap (λ k. obstacle (told o h) u table' k) (sym same_keys) ∙ none,
          )
      at true its true is_named false is_keyed has =
          inl (sym (rw is_named (rw is_keyed refl)) ∙ has)
      at true its false is_named keyed is_keyed has = inl (sym (rw is_named refl) ∙ has)

  same_by : (u t : ℕ) (d : Deed) (table : List ℕ) (key : Value)
      → changes_in (d ∷ deeds_by t (steps o h)) ≡ own o h t
      → has_change (changes_by t (step u d ∷ steps o h)) table key ≡ true
      → has_change (own o h t) table key ≡ true
  same_by u t d table key same has = at (u == t) has
    where
      at : (b : Bool) → has_change (changes_in (cond b (d ∷ deeds_by t (steps o h))
          (deeds_by t (steps o h)))) table key ≡ true
          → has_change (own o h t) table key ≡ true
      at true has = sym (ap (λ cs. has_change cs table key) same) ∙ has
      at false has = has

  -- a key that own changes have after an effect, they had before it, or it was written
  had : (f : Effect) (t : ℕ) (table : List ℕ) (key : Value) → IsAllowed o h f
      → has_change (changes_by t (steps_after f catalog (steps o h))) table key ≡ true
      → (has_change (own o h t) table key ≡ true) ⊎ Writes f t table key
  had (Begins u mode) t table key allowed has = inl has
  had (Looks u) t table key allowed has = inl has
  had (Makes u table' row) t table key allowed has =
      wrote u t table' table (key_in (catalog u) table' row) key (Some row) allowed.1 has
  had (Gives u table' key' row) t table key allowed has =
      wrote u t table' table key' key row allowed.1 has
  had (Marks u) t table key allowed has = inl (same_by u t Marked table key refl has)
  had (Saves u name) t table key allowed has = inl (same_by u t (Saved name) table key refl has)
  had (TakesBack u point) t table key allowed has =
      inl (back_had t u point (steps o h) table key has)
  had (Ends u end) t table key allowed has = inl has
  had Nothing t table key allowed has = inl has

  -- who writes a key saw the end of each other one that stands with a change of it
  saw_when_writing : (t u : ℕ) (table : List ℕ) (key : Value) → (u == t) ≡ false
      → obstacle (told o h) t table key ≡ None → stands (state_of o h u) ≡ true
      → has_change (own o h u) table key ≡ true → (told o h).saw t u ≡ true
  saw_when_writing t u table key apart none standing has =
      saw_from_unhindered (state_of o h u) (not (u == t)) ((told o h).saw t u)
      (ap not apart) standing
      (none_hinders (can_hinder (told o h) t) table key (steps o h) u none has)

-- ---- all entries

other_way : (t u : ℕ) → (t == u) ≡ false → (u == t) ≡ false
other_way t u apart = ne_eqb u t (λ same. both_ways (t == u) apart (eq-eqb t u (sym same)))

other_doer : (t u : ℕ) (it : Option ℕ) → (t == u) ≡ false → is_of t it ≡ true
    → is_of u it ≡ false
other_doer t u None apart its = refl
other_doer t u (Some v) apart its = ap (λ n. n == u) (eqb-true v t its) ∙ apart

module _ (o : Opening) (opening : MayBegin o) where
  -- what a transaction saw committed is committed
  pub saw_is_committed : (h : Entries) → IsLegal o h → (t u : ℕ) → (told o h).saw t u ≡ true
      → is_committed (state_of o h u) ≡ true
  saw_is_committed [] legal t u saw = saw
  saw_is_committed (e ∷ h) legal t u saw =
      at (takes_base (effect_of e) t (mode_of h t).snapshot) (saw_is_committed h legal.1 t u) saw
    where
      goes_on : is_committed (state_of o h u) ≡ true → is_committed (state_of o (e ∷ h) u) ≡ true
      goes_on was = ap is_committed (committed_stays o opening h e legal u was) ∙ was

      at : (b : Bool) → ((told o h).saw t u ≡ true → is_committed (state_of o h u) ≡ true)
          → is_committed (state_of o (cond b h (cut_at_base h t)) u) ≡ true
          → is_committed (state_of o (e ∷ h) u) ≡ true
      at true more saw = goes_on saw
      at false more saw = goes_on (more saw)

  -- and what it saw it goes on to have seen
  pub saw_goes_on : (h : Entries) (e : Entry) → IsLegal o h → (t u : ℕ)
      → (told o h).saw t u ≡ true → (told o (e ∷ h)).saw t u ≡ true
  saw_goes_on h e legal t u saw = at (takes_base (effect_of e) t (mode_of h t).snapshot)
    where
      at : (b : Bool) → is_committed (state_of o (cond b h (cut_at_base h t)) u) ≡ true
      at true = saw_is_committed h legal t u saw
      at false = saw

  -- a write whose key another transaction has changed that stands
  write_in_turn : (h : Entries) (e : Entry) → IsLegal o (e ∷ h) → (t u : ℕ) (table : List ℕ)
      (key : Value) → (t == u) ≡ false → is_of t (doer (effect_of e)) ≡ true
      → obstacle (told o h) t table key ≡ None → stands (state_of o h u) ≡ true
      → has_change (own o (e ∷ h) u) table key ≡ true → (told o (e ∷ h)).saw t u ≡ true
  write_in_turn h e legal t u table key apart its none standing has =
      let others : is_its u e ≡ false = other_doer t u (doer (effect_of e)) apart its in
      let before : has_change (own o h u) table key ≡ true =
      sym (ap (λ cs. has_change cs table key) (own_others_entry o h e u others)) ∙ has in
      saw_goes_on h e legal.1 t u
      (saw_when_writing o opening h legal.1 t u table key (other_way t u apart) none standing
      before)

  pub writers_in_turn : (h : Entries) → IsLegal o h → (t u : ℕ) (table : List ℕ) (key : Value)
      → BothChange o h t u table key → AreInTurn o h t u
  writers_in_turn [] legal t u table key both =
      absurd (both_ways (t == u) both.apart
      (eq-eqb t u (opening.one_writer t u table key both.first_changes both.second_changes)))
  writers_in_turn (e ∷ h) legal t u table key both =
      let allowed : IsAllowed o h (effect_of e) = lawful_is_allowed o h e legal.0 in
      let first : stands (state_of o h t) ≡ true =
      stood o opening h legal.1 (effect_of e) t table key allowed both.first_stands
      both.first_changes in
      let second : stands (state_of o h u) ≡ true =
      stood o opening h legal.1 (effect_of e) u table key allowed both.second_stands
      both.second_changes in
      elim (had o opening h legal.1 (effect_of e) t table key allowed both.first_changes) [
        | inr w ↦ inl (write_in_turn h e legal t u table key both.apart w.0 w.1 second
            both.second_changes)
        | inl a ↦ elim (had o opening h legal.1 (effect_of e) u table key allowed
            both.second_changes) [
              | inr w ↦ inr (write_in_turn h e legal u t table key (other_way t u both.apart)
                  w.0 w.1
                  first both.first_changes)
              | inl b ↦ elim (writers_in_turn h legal.1 t u table key (record {
                apart = both.apart;
                first_stands = first;
                second_stands = second;
                first_changes = a;
                second_changes = b;
              })) [
                | inl saw ↦ inl (saw_goes_on h e legal.1 t u saw)
                | inr saw ↦ inr (saw_goes_on h e legal.1 u t saw)
              ]
            ]
      ]
