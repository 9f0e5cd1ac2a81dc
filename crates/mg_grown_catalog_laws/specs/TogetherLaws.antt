-- A transaction makes the rows of a table together.
use Rattle.std.specs.Prelude.{◌≡◌, ◌≢◌, ◌⊎◌, ℕ, ◌==◌, ◌&&◌, ◌||◌, ◌<◌, ◌≤◌, not, Bool, true, false, List, [], ◌∷◌, Option, Some, cond, refl}
use Rattle.std.proofs.Common.{sym, ◌∙◌, ap, arith, inl, inr, subst}
use Rattle.std.proofs.lemmas.Bool.{eq-eqb, eqb-true, false≢true}
use Rattle.std.specs.Cmp.Lexicographic.{same_text}
use Rattle.mg_base.specs.declared.transaction.TxState.{TxState}
use Rattle.mg_base.specs.declared.transaction.TxState.TheVariants.{Active, Dead, Limbo}
use Rattle.mg_value.specs.declared.shape.Shape.{Shape}
use Rattle.mg_value.specs.declared.value.Value.{Value}
use Rattle.mg_value.specs.declared.value.Value.TheVariants.{Null, Int, Text}
use Rattle.mg_model.specs.declared.change.Change.{Change}
use Rattle.mg_model.specs.declared.change.Deed.{Deed}
use Rattle.mg_model.specs.declared.change.Deed.TheVariants.{Changed, Marked, Saved}
use Rattle.mg_model.specs.declared.change.Point.{Point}
use Rattle.mg_model.specs.declared.change.Point.TheVariants.{LastMark, SavepointNamed}
use Rattle.mg_model.specs.declared.opening.Opening.{Opening}
use Rattle.mg_model.specs.Answers.{catalog_of, is_active, told}
use Rattle.mg_model.specs.Catalog.{CatalogRows, catalog_name, catalog_shape, key_by, key_in, key_of, shape_in, shape_said, table_key, text_of}
use Rattle.mg_model.specs.Changes.{Cells, has_change, is_at, same_name}
use Rattle.mg_model.specs.DeedLaws.{deeds_after, deeds_after_entry}
use Rattle.mg_model.specs.Effects.{deeds_back, deeds_left, from_point, has_deed}
use Rattle.mg_model.specs.History.{Begins, Effect, Ends, Entries, Entry, Gives, Looks, Makes, Marks, Nothing, Saves, TakesBack, effect_of}
use Rattle.mg_model.specs.Legal.{IsLegal, MayBegin}
use Rattle.mg_model.specs.LegalLaws.{IsAllowed, lawful_is_allowed}
use Rattle.mg_model.specs.Machine.{changed, deeds_by, is_point, next_number, opening_state, state_after, state_of, steps}
use Rattle.mg_model.specs.NumberLaws.{drawn_from_state, next_number_grows}
use Rattle.mg_model.specs.Openings.{IsOpening}
use Rattle.mg_model.specs.ReadLaws.{is_at_itself, same_name_itself}
use Rattle.mg_grown_catalog_laws.specs.Grown.{CatalogGrows, columns_table, comes_with_table, key_text, last_makes, makes_alone, makes_of, says_of}
use Rattle.mg_grown_catalog_laws.specs.Together.{AreTogether, ComesWith, RowsAreTogether, since_last}

-- ---- what an entry makes of deeds

together_tail : (d : Deed) (ds : List Deed) → AreTogether (d ∷ ds) → AreTogether ds
together_tail (Changed c) ds are = are.1
together_tail Marked ds are = are
together_tail (Saved name) ds are = are

pub together_back : (point : Point) (ds : List Deed) → AreTogether ds → AreTogether (deeds_back point ds)
together_back point [] are = tt
together_back point (d ∷ ds) are = at (is_point point d) point (together_back point ds (together_tail d ds are))
  where
    at : (b : Bool) (p : Point) → AreTogether (deeds_back point ds)
        → AreTogether (cond b (from_point p d ds) (deeds_back point ds))
    at true LastMark more = together_tail d ds are
    at true (SavepointNamed name) more = are
    at false p more = more

together_left : (point : Point) (ds : List Deed) → AreTogether ds → AreTogether (deeds_left point ds)
together_left point ds are = at (has_deed point ds)
  where
    at : (b : Bool) → AreTogether (cond b (deeds_back point ds) ds)
    at true = together_back point ds are
    at false = are

together_after : (h : Entries) (f : Effect) (t : ℕ) (catalog : CatalogRows) (old : List Deed) → makes_alone h f ≡ true
    → ((table : List ℕ) (row : Cells) → f ≡ Makes t table row → table ≡ catalog_name
    → ComesWith (since_last old) (text_of (key_in catalog table row)))
    → AreTogether old → AreTogether (deeds_after f t catalog old)
together_after h (Begins u mode) t catalog old alone new are = are
together_after h (Looks u) t catalog old alone new are = are
together_after h (Makes u table row) t catalog old alone new are = at (u == t) refl
  where
    at : (b : Bool) → (u == t) ≡ b
        → AreTogether (cond b (changed table (key_in catalog table row) (Some row) ∷ old) old)
    at true its = ((λ is. new table row (ap (λ (v : ℕ). Makes v table row) (eqb-true u t its)) is), are)
    at false other = are
together_after h (Gives u table key row) t catalog old alone new are = at (u == t)
  where
    at : (b : Bool) → AreTogether (cond b (changed table key row ∷ old) old)
    at true = (
      (λ is. absurd (false≢true (sym (ap not (ap (λ (n : List ℕ). same_name n catalog_name) is
          ∙ same_name_itself catalog_name)) ∙ alone))),
      are,
    )
    at false = are
together_after h (Marks u) t catalog old alone new are = at (u == t)
  where
    at : (b : Bool) → AreTogether (cond b (Marked ∷ old) old)
    at true = are
    at false = are
together_after h (Saves u name) t catalog old alone new are = at (u == t)
  where
    at : (b : Bool) → AreTogether (cond b (Saved name ∷ old) old)
    at true = are
    at false = are
together_after h (TakesBack u point) t catalog old alone new are = at (u == t)
  where
    at : (b : Bool) → AreTogether (cond b (deeds_left point old) old)
    at true = together_left point old are
    at false = are
together_after h (Ends u end) t catalog old alone new are = are
together_after h Nothing t catalog old alone new are = are

-- ---- the row that was made last

both_true : (a b : Bool) → (a && b) ≡ true → (a ≡ true) × (b ≡ true)
both_true true true is = (refl, refl)
both_true true false is = absurd cc
both_true false b is = absurd cc

text_key : (key : Value) (letter : ℕ) (rest : List ℕ) → text_of key ≡ letter ∷ rest → key ≡ Text (letter ∷ rest)
text_key Null letter rest is = absurd cc
text_key (Int number) letter rest is = absurd cc
text_key (Text text) letter rest is = ap Text is

-- An effect makes a row of the catalog that says the table of a name, or a column of it.
record MakesOf (t : ℕ) (name : List ℕ) (f : Effect) : Type 0 where
  table : List ℕ
  row : Cells
  is : f ≡ Makes t table row
  named : table ≡ catalog_name
  says : says_of name (key_text row) ≡ true

makes_is : (t : ℕ) (name : List ℕ) (f : Effect) → makes_of t name f ≡ true → MakesOf t name f
makes_is t name (Makes u table row) it =
    let parts = both_true (u == t) (same_name table catalog_name && says_of name (key_text row)) it in
    let more = both_true (same_name table catalog_name) (says_of name (key_text row)) parts.1 in record {
      table = table;
      row = row;
      is = ap (λ (v : ℕ). Makes v table row) (eqb-true u t parts.0);
      named = same_text table catalog_name (sym more.0);
      says = more.1;
    }
makes_is t name (Begins u mode) it = absurd cc
makes_is t name (Looks u) it = absurd cc
makes_is t name (Gives u table key row) it = absurd cc
makes_is t name (Marks u) it = absurd cc
makes_is t name (Saves u saved) it = absurd cc
makes_is t name (TakesBack u point) it = absurd cc
makes_is t name (Ends u end) it = absurd cc
makes_is t name Nothing it = absurd cc

-- the key of a row of the catalog is told by the row
catalog_key : (rows : CatalogRows) (table : List ℕ) (row : Cells) → table ≡ catalog_name
    → key_in rows table row ≡ key_of catalog_shape row
catalog_key rows table row is = ap (λ (n : List ℕ). key_in rows n row) is
    ∙ ap (λ (shape : Option Shape). key_by shape row) its_shape
  where
    its_shape : shape_in rows catalog_name ≡ Some catalog_shape
    its_shape = ap (λ (b : Bool).
        cond b (Some catalog_shape) (shape_said rows catalog_name (rows (table_key catalog_name))))
        (same_name_itself catalog_name)

-- the change by which it is made
abbrev made_change : CatalogRows → List ℕ → Cells → Change
made_change rows table row = record { table = table; key = key_in rows table row; row = Some row }

-- the changes since the last point have that of the table, where a row of it came last
has_table : (c : Change) (old : List Deed) (name text : List ℕ) → c.table ≡ catalog_name → text_of c.key ≡ text
    → says_of name text ≡ true → (c.table ≡ catalog_name → ComesWith (since_last old) (text_of c.key))
    → has_change (c ∷ since_last old) catalog_name (table_key name) ≡ true
has_table c old name [] named is says comes = absurd cc
has_table c old name (letter ∷ rest) named is says comes = at (letter == 84) refl says
  where
    later : (b : Bool) → has_change (since_last old) catalog_name (table_key name) ≡ true
        → cond b true (has_change (since_last old) catalog_name (table_key name)) ≡ true
    later true there = refl
    later false there = there

    itself : letter ≡ 84 → rest ≡ name → c.key ≡ table_key name
    itself t_is same = text_key c.key letter rest is
        ∙ (ap (λ (n : ℕ). Text (n ∷ rest)) t_is ∙ ap (λ (xs : List ℕ). Text (84 ∷ xs)) same)

    here : letter ≡ 84 → rest ≡ name → is_at c catalog_name (table_key name) ≡ true
    here t_is same = subst (λ (n : List ℕ). is_at c n (table_key name) ≡ true) named
        (subst (λ (k : Value). is_at c c.table k ≡ true) (itself t_is same) (is_at_itself c.table c.key c.row))

    column : ComesWith (since_last old) (letter ∷ rest) → letter ≡ 67 → columns_table rest ≡ name
        → has_change (since_last old) catalog_name (table_key name) ≡ true
    column (inl t_is) c_is same = absurd (omega (arith, t_is, c_is))
    column (inr (c_is_, there)) c_is same =
        subst (λ (n : List ℕ). has_change (since_last old) catalog_name (table_key n) ≡ true) same there

    at : (b : Bool) → (letter == 84) ≡ b
        → cond b (same_name rest name) (letter == 67 && same_name (columns_table rest) name) ≡ true
        → has_change (c ∷ since_last old) catalog_name (table_key name) ≡ true
    at true t_is same = ap (λ (b : Bool). cond b true (has_change (since_last old) catalog_name (table_key name)))
        (here (eqb-true letter 84 t_is) (same_text rest name (sym same)))
    at false off both =
        let parts = both_true (letter == 67) (same_name (columns_table rest) name) both in
        later (is_at c catalog_name (table_key name)) (column (subst (ComesWith (since_last old)) is (comes named))
        (eqb-true letter 67 parts.0) (same_text (columns_table rest) name (sym parts.1)))

module _ (o : Opening) (t : ℕ) where
  behind : (h : Entries) (name : List ℕ) → AreTogether (deeds_by t (steps o h)) → last_makes t name h ≡ true
      → has_change (since_last (deeds_by t (steps o h))) catalog_name (table_key name) ≡ true
  behind [] name are last = absurd (false≢true last)
  behind (e ∷ h) name are last =
      subst (λ (ds : List Deed). has_change (since_last ds) catalog_name (table_key name) ≡ true) (sym deeds_is)
      (has_table (made_change (catalog_of (told o h) t) made.table made.row) (deeds_by t (steps o h)) name (key_text made.row) made.named
      (ap text_of (catalog_key (catalog_of (told o h) t) made.table made.row made.named)) made.says
      (subst AreTogether deeds_is are).0)
    where
      made : MakesOf t name (effect_of e)
      made = makes_is t name (effect_of e) last

      deeds_is : deeds_by t (steps o (e ∷ h)) ≡ Changed (made_change (catalog_of (told o h) t) made.table made.row) ∷ deeds_by t (steps o h)
      deeds_is = deeds_after_entry o h e t
          ∙ (ap (λ (f : Effect). deeds_after f t (catalog_of (told o h) t) (deeds_by t (steps o h))) made.is
          ∙ rw (eq-eqb t t refl) refl)

  -- ---- a row that is made

  made_with : (h : Entries) (e : Entry) (table : List ℕ) (row : Cells) → makes_alone h (effect_of e) ≡ true
      → AreTogether (deeds_by t (steps o h)) → effect_of e ≡ Makes t table row → table ≡ catalog_name
      → ComesWith (since_last (deeds_by t (steps o h))) (text_of (key_in (catalog_of (told o h) t) table row))
  made_with h e table row alone are is named = subst (ComesWith (since_last (deeds_by t (steps o h))))
      (sym (ap text_of (catalog_key (catalog_of (told o h) t) table row named))) (by (key_text row) comes)
    where
      comes : comes_with_table t (key_text row) h ≡ true
      comes = sym (ap (λ (b : Bool). not b || comes_with_table t (key_text row) h)
          (ap (λ (n : List ℕ). same_name n catalog_name) named ∙ same_name_itself catalog_name))
          ∙ (sym (ap (makes_alone h) is) ∙ alone)

      by : (text : List ℕ) → comes_with_table t text h ≡ true → ComesWith (since_last (deeds_by t (steps o h))) text
      by [] it = absurd (false≢true it)
      by (letter ∷ rest) it = at (letter == 84) refl it
        where
          on : (b : Bool) → (letter == 67) ≡ b → (b && last_makes t (columns_table rest) h) ≡ true
              → ComesWith (since_last (deeds_by t (steps o h))) (letter ∷ rest)
          on true c_is last = inr (eqb-true letter 67 c_is, behind h (columns_table rest) are last)
          on false off last = absurd (false≢true last)

          at : (b : Bool) → (letter == 84) ≡ b → (b || (letter == 67 && last_makes t (columns_table rest) h)) ≡ true
              → ComesWith (since_last (deeds_by t (steps o h))) (letter ∷ rest)
          at true t_is it_ = inl (eqb-true letter 84 t_is)
          at false off it_ = on (letter == 67) refl it_

  all : (h : Entries) → CatalogGrows o h → deeds_by t (steps o []) ≡ [] → AreTogether (deeds_by t (steps o h))
  all [] grows none = subst AreTogether (sym none) tt
  all (e ∷ h) grows none = subst AreTogether (sym (deeds_after_entry o h e t))
      (together_after h (effect_of e) t (catalog_of (told o h) t) (deeds_by t (steps o h)) grows.entries.0
      (λ table row is named. made_with h e table row grows.entries.0 (all h fewer none) is named) (all h fewer none))
    where
      fewer : CatalogGrows o h
      fewer = record { limbo = grows.limbo; entries = grows.entries.1 }

-- ---- who is active was not in limbo

module _ (o : Opening) (begins : MayBegin o) (t : ℕ) where
  was_active : (h : Entries) (e : Entry) → IsLegal o (e ∷ h) → t < next_number o h → state_of o (e ∷ h) t ≡ Active
      → state_of o h t ≡ Active
  was_active h e legal below is = at (effect_of e) (lawful_is_allowed o h e legal.0) is
    where
      at : (f : Effect) → IsAllowed o h f → state_after f t (state_of o h t) ≡ Active → state_of o h t ≡ Active
      at (Begins u mode) allowed now = by (u == t) refl now
        where
          by : (b : Bool) → (u == t) ≡ b → cond b Active (state_of o h t) ≡ Active → state_of o h t ≡ Active
          by true its now_ = absurd (let same = eqb-true u t its in omega (arith, below, allowed, same))
          by false other now_ = now_
      at (Ends u end) allowed now = by (u == t) now
        where
          by : (b : Bool) → cond b end (state_of o h t) ≡ Active → state_of o h t ≡ Active
          by true now_ = absurd (false≢true (sym allowed.1 ∙ ap is_active now_))
          by false now_ = now_
      at (Looks u) allowed now = now
      at (Makes u table row) allowed now = now
      at (Gives u table key row) allowed now = now
      at (Marks u) allowed now = now
      at (Saves u name) allowed now = now
      at (TakesBack u point) allowed now = now
      at Nothing allowed now = now

  drawn_still : (h : Entries) → t < o.next.0 → t < next_number o h
  drawn_still [] below = below
  drawn_still (e ∷ h) below = let before = drawn_still h below in omega (arith, before, next_number_grows o h e)

  was_at_first : (h : Entries) → IsLegal o h → t < o.next.0 → state_of o h t ≡ Active → opening_state o t ≡ Active
  was_at_first [] legal below is = is
  was_at_first (e ∷ h) legal below is =
      was_at_first h legal.1 below (was_active h e legal (drawn_still h below) is)

  -- so nothing stood of it when the history began
  none_at_first : (h : Entries) → IsOpening o → IsLegal o h → state_of o h t ≡ Active → deeds_by t (steps o []) ≡ []
  none_at_first h opening legal is = begins.in_limbo t (λ limbo. opening.ended t (was_at_first h legal
      (drawn_from_state o begins [] tt t (λ dead. limbo_dead (opening_state o t) limbo dead)) is))
    where
      limbo_dead : (s : TxState) → s ≡ Limbo → s ≡ Dead → ⊥
      limbo_dead s limbo dead = let both : Limbo ≡ Dead = sym limbo ∙ dead in absurd cc

pub rows_are_together : RowsAreTogether
rows_are_together o h t opening begins legal grows active =
    all o t h grows (none_at_first o begins t h opening legal active)
