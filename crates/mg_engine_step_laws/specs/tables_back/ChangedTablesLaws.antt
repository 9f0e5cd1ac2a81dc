-- A transaction changes tables alone whose row it has made itself, or which the database has.
use Rattle.std.proofs.Common.{◌≡◌, ◌⊎◌, inl, inr, refl, sym, ap, ◌∙◌, subst, ◌==◌, ◌&&◌, ℕ, Bool, true, false, List, [], ◌∷◌, Option, None, Some, arith}
use Rattle.std.specs.Prelude.{IsSome, cond, is_some}
use Rattle.std.specs.Cmp.Lexicographic.{same_text}
use Rattle.std.proofs.lemmas.Bool.{eqb-true, false≢true}
use Rattle.mg_base.specs.declared.transaction.TxState.TheVariants.{Active, Limbo}
use Rattle.mg_value.specs.declared.value.Value.{Value}
use Rattle.mg_grown_catalog_laws.specs.Grown.{BasesAreWithin, CatalogGrows, CommittedRowsStay, OwnRowsAreNew, makes_alone}
use Rattle.mg_model.specs.declared.answer.Answer.{Answer}
use Rattle.mg_model.specs.declared.answer.Answer.TheVariants.{Fine, Tx, Rows, No}
use Rattle.mg_model.specs.declared.change.Change.{Change as AnyChange}
use Rattle.mg_model.specs.declared.change.Deed.{Deed}
use Rattle.mg_model.specs.declared.change.Deed.TheVariants.{Changed, Marked, Saved}
use Rattle.mg_model.specs.declared.event.Event.{Event}
use Rattle.mg_model.specs.declared.event.Event.TheVariants.{Begin, Look, Find, Claim, Insert, Change, Erase, Mark, UndoMark, Savepoint, BackTo, Prepare, Commit, Rollback, Decide}
use Rattle.mg_model.specs.declared.opening.Opening.{Opening}
use Rattle.mg_model.specs.declared.refusal.Refusal.{Refusal}
use Rattle.mg_model.specs.Answers.{answer, catalog_of, has_table, is_active, is_open, told}
use Rattle.mg_model.specs.Catalog.{CatalogRows, catalog_name, catalog_shape, shape_said, table_key, key_in}
use Rattle.mg_model.specs.Changes.{Cells, has_change, is_at, row_at, same_key, same_name}
use Rattle.mg_model.specs.DeedLaws.{deeds_after, deeds_after_entry}
use Rattle.mg_model.specs.Effects.{deeds_back, deeds_left, doer, from_point, has_deed}
use Rattle.mg_model.specs.History.{Begins, Effect, Ends, Entries, Gives, Looks, Makes, Marks, Nothing, Saves, TakesBack, deed_of, effect_of, effect_with}
use Rattle.mg_model.specs.declared.change.Point.{Point}
use Rattle.mg_model.specs.declared.change.Point.TheVariants.{LastMark, SavepointNamed}
use Rattle.mg_model.specs.Legal.{IsLegal, MayBegin, is_outer}
use Rattle.mg_model.specs.LegalLaws.{IsAllowed, active_from_fine, fine_by_true, lawful_is_allowed}
use Rattle.mg_model.specs.Machine.{base, changed, changes_in, database, database_after, deeds_by, is_point, next_number, own, state_after, state_of, steps, view}
use Rattle.mg_model.specs.NumberLaws.{undrawn_has_no_deeds}
use Rattle.mg_model.specs.RowLaws.{row_at-append}
use Rattle.mg_engine_step_laws.specs.tables_back.ChangedTables.{ChangedAreThere, NoneOfGone}

-- ---- deeds over tables

-- a table is the catalog, or these deeds have made its row, or it is there otherwise
abbrev IsOver : (Value → Type 0) → List Deed → List ℕ → Type 0
IsOver There ds name = (name ≡ catalog_name)
    ⊎ ((has_change (changes_in ds) catalog_name (table_key name) ≡ true) ⊎ There (table_key name))

-- each change is of such a table, by the deeds before it
abbrev AreOver : (Value → Type 0) → List Deed → Type 0
AreOver There [] = Unit {0}
AreOver There (Changed c ∷ ds) = IsOver There ds c.table × AreOver There ds
AreOver There (Marked ∷ ds) = AreOver There ds
AreOver There (Saved name ∷ ds) = AreOver There ds

over_rest : (There : Value → Type 0) (d : Deed) (ds : List Deed) → AreOver There (d ∷ ds) → AreOver There ds
over_rest There (Changed c) ds over = over.1
over_rest There Marked ds over = over
over_rest There (Saved name) ds over = over

over_more : (There Then : Value → Type 0) → ((key : Value) → There key → Then key) → (ds : List Deed)
    → AreOver There ds → AreOver Then ds
over_more There Then gives [] over = tt
over_more There Then gives (Changed c ∷ ds) over = (at over.0, over_more There Then gives ds over.1)
  where
    at : IsOver There ds c.table → IsOver Then ds c.table
    at (inl same) = inl same
    at (inr (inl made)) = inr (inl made)
    at (inr (inr there)) = inr (inr (gives (table_key c.table) there))
over_more There Then gives (Marked ∷ ds) over = over_more There Then gives ds over
over_more There Then gives (Saved name ∷ ds) over = over_more There Then gives ds over

over_from : (There : Value → Type 0) (point : Point) (d : Deed) (ds : List Deed) → AreOver There (d ∷ ds)
    → AreOver There (from_point point d ds)
over_from There LastMark d ds over = over_rest There d ds over
over_from There (SavepointNamed name) d ds over = over

over_back : (There : Value → Type 0) (point : Point) (ds : List Deed) → AreOver There ds
    → AreOver There (deeds_back point ds)
over_back There point [] over = tt
over_back There point (d ∷ ds) over = at (is_point point d)
    (over_back There point ds (over_rest There d ds over))
  where
    at : (b : Bool) → AreOver There (deeds_back point ds)
        → AreOver There (cond b (from_point point d ds) (deeds_back point ds))
    at true more = over_from There point d ds over
    at false more = more

over_left : (There : Value → Type 0) (point : Point) (ds : List Deed) → AreOver There ds
    → AreOver There (deeds_left point ds)
over_left There point ds over = at (has_deed point ds)
  where
    at : (b : Bool) → AreOver There (cond b (deeds_back point ds) ds)
    at true = over_back There point ds over
    at false = over

-- the table that an effect writes into
abbrev written : Effect → Option (List ℕ)
written (Makes t table row) = Some table
written (Gives t table key row) = Some table
written (Begins t mode) = None
written (Looks t) = None
written (Marks t) = None
written (Saves t name) = None
written (TakesBack t point) = None
written (Ends t end) = None
written Nothing = None

over_after : (There : Value → Type 0) (f : Effect) (t : ℕ) (catalog : CatalogRows) (old : List Deed)
    → ((table : List ℕ) → written f ≡ Some table → doer f ≡ Some t → IsOver There old table) → AreOver There old
    → AreOver There (deeds_after f t catalog old)
over_after There (Begins u mode) t catalog old tables over = over
over_after There (Looks u) t catalog old tables over = over
over_after There (Makes u table row) t catalog old tables over = at (u == t) refl
  where
    at : (b : Bool) → (u == t) ≡ b
        → AreOver There (cond b (changed table (key_in catalog table row) (Some row) ∷ old) old)
    at true its = (tables table refl (ap (λ (v : ℕ). Some v) (eqb-true u t its)), over)
    at false its = over
over_after There (Gives u table key row) t catalog old tables over = at (u == t) refl
  where
    at : (b : Bool) → (u == t) ≡ b → AreOver There (cond b (changed table key row ∷ old) old)
    at true its = (tables table refl (ap (λ (v : ℕ). Some v) (eqb-true u t its)), over)
    at false its = over
over_after There (Marks u) t catalog old tables over = at (u == t)
  where
    at : (b : Bool) → AreOver There (cond b (Marked ∷ old) old)
    at true = over
    at false = over
over_after There (Saves u name) t catalog old tables over = at (u == t)
  where
    at : (b : Bool) → AreOver There (cond b (Saved name ∷ old) old)
    at true = over
    at false = over
over_after There (TakesBack u point) t catalog old tables over = at (u == t)
  where
    at : (b : Bool) → AreOver There (cond b (deeds_left point old) old)
    at true = over_left There point old over
    at false = over
over_after There (Ends u end) t catalog old tables over = over
over_after There Nothing t catalog old tables over = over

had_more : (c : AnyChange) (cs : List AnyChange) (name : List ℕ) (key : Value) → has_change cs name key ≡ true
    → has_change (c ∷ cs) name key ≡ true
had_more c cs name key has_ = at (is_at c name key)
  where
    at : (b : Bool) → cond b true (has_change cs name key) ≡ true
    at true = refl
    at false = has_

-- so the table of each of their changes is
over_change : (There : Value → Type 0) (ds : List Deed) (name : List ℕ) (key : Value) → AreOver There ds
    → has_change (changes_in ds) name key ≡ true → IsOver There ds name
over_change There [] name key over has_ = absurd (false≢true has_)
over_change There (Changed c ∷ ds) name key over has_ =
    at (same_name c.table name) refl (same_key c.key key) has_
    (λ more. over_change There ds name key over.1 more)
  where
    later : IsOver There ds name → IsOver There (Changed c ∷ ds) name
    later (inl same) = inl same
    later (inr (inl made)) = inr (inl (had_more c (changes_in ds) catalog_name (table_key name) made))
    later (inr (inr there)) = inr (inr there)

    at : (a : Bool) → same_name c.table name ≡ a → (b : Bool)
        → cond (a && b) true (has_change (changes_in ds) name key) ≡ true
        → (has_change (changes_in ds) name key ≡ true → IsOver There ds name) → IsOver There (Changed c ∷ ds) name
    at true is true has_ more =
        later (subst (IsOver There ds) (same_text c.table name (sym is)) over.0)
    at true is false has_ more = later (more has_)
    at false is b has_ more = later (more has_)
over_change There (Marked ∷ ds) name key over has_ = over_change There ds name key over has_
over_change There (Saved name_ ∷ ds) name key over has_ = over_change There ds name key over has_

-- ---- what an answer tells

fine_true : (b : Bool) (next : Answer) (r : Refusal) → Fine ≡ cond b next (No r) → b ≡ true
fine_true true next r is = refl
fine_true false next r is = absurd cc

module _ (o : Opening) (h : Entries) where
  -- a table that is written into is seen
  abbrev IsSeen : Option ℕ → List ℕ → Type 0
  IsSeen whose table = (t : ℕ) × (whose ≡ Some t) × (has_table (told o h) t table ≡ true)

  writes_fine : (event : Event) (table : List ℕ) → Fine ≡ answer o h event → written (deed_of event) ≡ Some table
      → IsSeen (doer (deed_of event)) table
  writes_fine (Insert u named row) table fine is =
      let same : named ≡ table = cc in (
        u.0,
        refl,
        ap (has_table (told o h) u.0) (sym same) ∙ fine_true (has_table (told o h) u.0 named) _ _
            (fine_by_true ((told o h).mode u.0).read_only _ _ (active_from_fine (state_of o h u.0) _ fine).1),
      )
  writes_fine (Change u named key row) table fine is =
      let same : named ≡ table = cc in (
        u.0,
        refl,
        ap (has_table (told o h) u.0) (sym same) ∙ fine_true (has_table (told o h) u.0 named) _ _
            (fine_by_true ((told o h).mode u.0).read_only _ _ (active_from_fine (state_of o h u.0) _ fine).1),
      )
  writes_fine (Erase u named key) table fine is =
      let same : named ≡ table = cc in (
        u.0,
        refl,
        ap (has_table (told o h) u.0) (sym same) ∙ fine_true (has_table (told o h) u.0 named) _ _
            (fine_by_true ((told o h).mode u.0).read_only _ _ (active_from_fine (state_of o h u.0) _ fine).1),
      )
  writes_fine (Begin session mode) table fine is = absurd cc
  writes_fine (Look u) table fine is = absurd cc
  writes_fine (Find u named test) table fine is = absurd cc
  writes_fine (Claim u named) table fine is = absurd cc
  writes_fine (Mark u) table fine is = absurd cc
  writes_fine (UndoMark u) table fine is = absurd cc
  writes_fine (Savepoint u name) table fine is = absurd cc
  writes_fine (BackTo u name) table fine is = absurd cc
  writes_fine (Prepare u) table fine is = absurd cc
  writes_fine (Commit u) table fine is = absurd cc
  writes_fine (Rollback u) table fine is = absurd cc
  writes_fine (Decide u commit) table fine is = absurd cc

  writes_said : (event : Event) (said : Answer) (table : List ℕ)
      → (said ≡ answer o h event) ⊎ (is_outer said ≡ true) → written (effect_with event said) ≡ Some table
      → IsSeen (doer (effect_with event said)) table
  writes_said event Fine table (inl lawful) is = writes_fine event table lawful is
  writes_said event Fine table (inr outer) is = absurd (false≢true outer)
  writes_said (Begin session mode) (Tx n) table outer is = absurd cc
  writes_said (Look u) (Tx n) table outer is = absurd cc
  writes_said (Find u named test) (Tx n) table outer is = absurd cc
  writes_said (Claim u named) (Tx n) table outer is = absurd cc
  writes_said (Mark u) (Tx n) table outer is = absurd cc
  writes_said (UndoMark u) (Tx n) table outer is = absurd cc
  writes_said (Savepoint u name) (Tx n) table outer is = absurd cc
  writes_said (BackTo u name) (Tx n) table outer is = absurd cc
  writes_said (Prepare u) (Tx n) table outer is = absurd cc
  writes_said (Commit u) (Tx n) table outer is = absurd cc
  writes_said (Rollback u) (Tx n) table outer is = absurd cc
  writes_said (Decide u commit) (Tx n) table outer is = absurd cc
  writes_said (Insert u named row) (Tx n) table outer is = absurd cc
  writes_said (Change u named key row) (Tx n) table outer is = absurd cc
  writes_said (Erase u named key) (Tx n) table outer is = absurd cc
  writes_said event (Rows rows) table outer is = absurd cc
  writes_said event (No refusal) table outer is = absurd cc

  -- a table that is seen is the catalog, or its row was made by who sees it, or is in its base
  seen_row : (t : ℕ) (table : List ℕ) → has_table (told o h) t table ≡ true
      → (table ≡ catalog_name) ⊎ ((has_change (own o h t) catalog_name (table_key table) ≡ true)
      ⊎ ((row : Cells) × (row_at (base o h t) catalog_name (table_key table) ≡ Some row)))
  seen_row t table seen = at (same_name table catalog_name) refl seen
    where
      by_row : (x : Option Cells) → row_at (view o h t) catalog_name (table_key table) ≡ x
          → is_some (shape_said (catalog_of (told o h) t) table x) ≡ true
          → (has_change (own o h t) catalog_name (table_key table) ≡ true)
          ⊎ ((row : Cells) × (row_at (base o h t) catalog_name (table_key table) ≡ Some row))
      by_row None is seen_ = absurd (false≢true seen_)
      by_row (Some row) is seen_ = whose (has_change (own o h t) catalog_name (table_key table)) refl
        where
          whose : (b : Bool) → has_change (own o h t) catalog_name (table_key table) ≡ b
              → (has_change (own o h t) catalog_name (table_key table) ≡ true)
              ⊎ ((r : Cells) × (row_at (base o h t) catalog_name (table_key table) ≡ Some r))
          whose true has_ = inl has_
          whose false has_ = inr (
            row,
            sym (row_at-append (own o h t) (base o h t) catalog_name (table_key table)
                ∙ rw has_ refl) ∙ is,
          )

      at : (b : Bool) → same_name table catalog_name ≡ b
          → is_some (cond b (Some catalog_shape) (shape_said (catalog_of (told o h) t) table
          (catalog_of (told o h) t (table_key table)))) ≡ true
          → (table ≡ catalog_name) ⊎ ((has_change (own o h t) catalog_name (table_key table) ≡ true)
          ⊎ ((row : Cells) × (row_at (base o h t) catalog_name (table_key table) ≡ Some row)))
      at true same seen_ = inl (same_text table catalog_name (sym same))
      at false other seen_ = inr (by_row (row_at (view o h t) catalog_name (table_key table)) refl seen_)

  -- who runs after an effect ran before, or has just begun
  was_active : (f : Effect) (t : ℕ) → IsAllowed o h f → state_after f t (state_of o h t) ≡ Active
      → (state_of o h t ≡ Active) ⊎ (next_number o h ≡ t)
  was_active (Begins u mode) t allowed now = at (u == t) refl now
    where
      at : (b : Bool) → (u == t) ≡ b → cond b Active (state_of o h t) ≡ Active
          → (state_of o h t ≡ Active) ⊎ (next_number o h ≡ t)
      at true its now_ = inr (sym allowed ∙ eqb-true u t its)
      at false its now_ = inl now_
  was_active (Ends u end) t allowed now = at (u == t) refl now
    where
      at : (b : Bool) → (u == t) ≡ b → cond b end (state_of o h t) ≡ Active
          → (state_of o h t ≡ Active) ⊎ (next_number o h ≡ t)
      at true its now_ = absurd (false≢true (sym allowed.1 ∙ ap is_active now_))
      at false its now_ = inl now_
  was_active (Looks u) t allowed now = inl now
  was_active (Makes u table row) t allowed now = inl now
  was_active (Gives u table key row) t allowed now = inl now
  was_active (Marks u) t allowed now = inl now
  was_active (Saves u name) t allowed now = inl now
  was_active (TakesBack u point) t allowed now = inl now
  was_active Nothing t allowed now = inl now

-- ---- the law

module _ (stay : CommittedRowsStay) (within : BasesAreWithin) (o : Opening) (opening : MayBegin o) where
  abbrev InDatabase : Entries → Value → Type 0
  InDatabase h key = IsSome (row_at (database o h) catalog_name key)

  some_is : (x : Option Cells) (row : Cells) → x ≡ Some row → IsSome x
  some_is None row is = absurd cc
  some_is (Some r) row is = refl

  overs : (h : Entries) → IsLegal o h → CatalogGrows o h → (t : ℕ) → state_of o h t ≡ Active
      → AreOver (InDatabase h) (deeds_by t (steps o h))
  overs [] legal grows t active = subst (AreOver (InDatabase [])) (sym (opening.in_limbo t (λ limbo.
      let both : Active ≡ Limbo = sym active ∙ limbo in absurd cc))) tt
  overs (e ∷ h) legal grows t active = subst (AreOver (InDatabase (e ∷ h))) (sym (deeds_after_entry o h e t))
      (over_after (InDatabase (e ∷ h)) (effect_of e) t (catalog_of (told o h) t) (deeds_by t (steps o h)) tables
      (over_more (InDatabase h) (InDatabase (e ∷ h)) more (deeds_by t (steps o h))
      (before (was_active o h (effect_of e) t (lawful_is_allowed o h e legal.0) active)
      (λ was. overs h legal.1 fewer t was))))
    where
      fewer : CatalogGrows o h
      fewer = record { limbo = grows.limbo; entries = grows.entries.1 }

      before : (state_of o h t ≡ Active) ⊎ (next_number o h ≡ t)
          → (state_of o h t ≡ Active → AreOver (InDatabase h) (deeds_by t (steps o h)))
          → AreOver (InDatabase h) (deeds_by t (steps o h))
      before (inl was) over = over was
      before (inr next) over = subst (AreOver (InDatabase h)) (sym (undrawn_has_no_deeds o opening h legal.1 t
          (omega (arith, next)))) tt

      more : (key : Value) → InDatabase h key → InDatabase (e ∷ h) key
      more key there = at (row_at (database o h) catalog_name key) refl there
        where
          at : (x : Option Cells) → row_at (database o h) catalog_name key ≡ x → IsSome x → InDatabase (e ∷ h) key
          at None is some = absurd (false≢true some)
          at (Some row) is some = some_is (row_at (database o (e ∷ h)) catalog_name key) row
              (stay o h e key row opening legal fewer is)

      tables : (table : List ℕ) → written (effect_of e) ≡ Some table → doer (effect_of e) ≡ Some t
          → IsOver (InDatabase (e ∷ h)) (deeds_by t (steps o h)) table
      tables table is its = at (writes_said o h e.event e.answer table legal.0 is)
        where
          at : (u : ℕ) × (doer (effect_of e) ≡ Some u) × (has_table (told o h) u table ≡ true)
              → IsOver (InDatabase (e ∷ h)) (deeds_by t (steps o h)) table
          at (u, whose, seen) =
              let both : Some u ≡ Some t = sym whose ∙ its in
              let one : u ≡ t = cc in
              by (seen_row o h t table (subst (λ (v : ℕ). has_table (told o h) v table ≡ true) one seen))
            where
              by : (table ≡ catalog_name) ⊎ ((has_change (own o h t) catalog_name (table_key table) ≡ true)
                  ⊎ ((row : Cells) × (row_at (base o h t) catalog_name (table_key table) ≡ Some row)))
                  → IsOver (InDatabase (e ∷ h)) (deeds_by t (steps o h)) table
              by (inl same) = inl same
              by (inr (inl made)) = inr (inl made)
              by (inr (inr (row, there))) = inr (inr (more (table_key table)
                  (some_is (row_at (database o h) catalog_name (table_key table)) row
                  (within o h t (table_key table) row opening legal.1 fewer there))))

pub changed_are_there : CommittedRowsStay → BasesAreWithin → ChangedAreThere
changed_are_there stay within o h t name key opening legal grows active other has_ =
    at (over_change (λ k. IsSome (row_at (database o h) catalog_name k)) (deeds_by t (steps o h)) name key
    (overs stay within o opening h legal grows t active) has_)
  where
    at : (name ≡ catalog_name) ⊎ ((has_change (own o h t) catalog_name (table_key name) ≡ true)
        ⊎ IsSome (row_at (database o h) catalog_name (table_key name)))
        → (has_change (own o h t) catalog_name (table_key name) ≡ true)
        ⊎ IsSome (row_at (database o h) catalog_name (table_key name))
    at (inl same) = absurd (other same)
    at (inr there) = there

pub none_of_gone : CommittedRowsStay → BasesAreWithin → OwnRowsAreNew → NoneOfGone
none_of_gone stay within new o h e t point name key back opening legal grows active other was gone =
    at (has_change (own o (e ∷ h) t) name key) refl
  where
    now : state_of o (e ∷ h) t ≡ Active
    now = ap (λ (f : Effect). state_after f t (state_of o h t)) back ∙ active

    same : database o (e ∷ h) ≡ database o h
    same = ap (λ (f : Effect). database_after f (λ u. own o h u) (database o h)) back

    nothing : row_at (database o h) catalog_name (table_key name) ≡ None
    nothing = (new o h t (table_key name) opening legal.1 grows (ap is_open active) was).1

    refuted : (has_change (own o (e ∷ h) t) catalog_name (table_key name) ≡ true)
        ⊎ IsSome (row_at (database o (e ∷ h)) catalog_name (table_key name)) → ⊥
    refuted (inl made) = false≢true (sym gone ∙ made)
    refuted (inr there) = false≢true (sym (ap is_some (ap (λ (cs : List AnyChange).
        row_at cs catalog_name (table_key name)) same ∙ nothing)) ∙ there)

    at : (b : Bool) → has_change (own o (e ∷ h) t) name key ≡ b → b ≡ false
    at false is = refl
    at true is = absurd (refuted (changed_are_there stay within o (e ∷ h) t name key opening legal (record {
      limbo = grows.limbo;
      entries = (ap (makes_alone h) back, grows.entries);
    }) now other is))
