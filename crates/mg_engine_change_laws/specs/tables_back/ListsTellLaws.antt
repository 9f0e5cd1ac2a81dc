-- The rows of the catalog that a transaction takes back are those of whole tables: it made those of a table together, and
-- none twice.
use Rattle.std.proofs.Common.{◌≡◌, ◌⊎◌, inl, inr, ◌∙◌, ◌&&◌, ◌||◌, ◌++◌, ◌∷◌, ℕ, Bool, true, false, List, [], ap, arith, cond, map, refl, subst, sym}
use Rattle.std.specs.Cmp.Lexicographic.{same_text}
use Rattle.std.proofs.lemmas.Bool.{false≢true}
use Rattle.mg_value.specs.declared.value.Value.{Value}
use Rattle.mg_grown_catalog_laws.specs.MadeOnce.{AreMadeOnce}
use Rattle.mg_grown_catalog_laws.specs.Together.{AreTogether, ComesWith, since_last}
use Rattle.mg_grown_catalog_laws.specs.TogetherLaws.{together_back}
use Rattle.mg_model.specs.declared.change.Change.{Change}
use Rattle.mg_model.specs.declared.change.Deed.{Deed}
use Rattle.mg_model.specs.declared.change.Deed.TheVariants.{Changed, Marked, Saved}
use Rattle.mg_model.specs.declared.change.Point.{Point}
use Rattle.mg_model.specs.declared.change.Point.TheVariants.{LastMark, SavepointNamed}
use Rattle.mg_model.specs.Catalog.{catalog_name, column_key, index_key, table_key, text_of, two_digits}
use Rattle.mg_model.specs.Changes.{has_change, is_at, same_key, same_name}
use Rattle.mg_model.specs.Effects.{deeds_back, from_point, has_deed}
use Rattle.mg_model.specs.Machine.{changes_in, is_point}
use Rattle.mg_model.specs.RowLaws.{same_from_same_key}
use Rattle.mg_undo.specs.Machine.{changes_since, first_of}
use Rattle.mg_undo.specs.Whole.{is_one_of}
use Rattle.mg_engine_step_laws.specs.tables_back.Outs.{is_among}
use Rattle.mg_engine_change_laws.specs.tables_back.ListsTell.{KeysGoWhole}
use Rattle.mg_engine_change_laws.specs.tables_back.MadeSinceLaws.{IsNewTo, since_new}
use Rattle.mg_engine_change_laws.specs.tables_back.RowsGiven.{of_catalog}
use Rattle.mg_engine_change_laws.specs.tables_back.RowsGivenLaws.{one_test}
use Rattle.mg_engine_change_laws.specs.tables.TextLaws.{column_table}
use Rattle.mg_engine_change_laws.specs.backs.ToTake.{AreKeysOf, EachChange, since_if, since_point}

both_true : (a b : Bool) → (a && b) ≡ true → (a ≡ true) × (b ≡ true)
both_true true true is = (refl, refl)
both_true true false is = absurd cc
both_true false b is = absurd cc

same_tests : (a b : Bool) → (a ≡ true → b ≡ true) → (b ≡ true → a ≡ true) → a ≡ b
same_tests true b to from = sym (to refl)
same_tests false true to from = from refl
same_tests false false to from = refl

-- ---- a change at a key, first or later

later : (b c : Bool) → c ≡ true → cond b true c ≡ true
later true c is = refl
later false c is = is

more_there : (b c d : Bool) → (c ≡ true → d ≡ true) → cond b true c ≡ true → cond b true d ≡ true
more_there true c d more is = refl
more_there false c d more is = more is

at_key : (c : Change) (key : Value) → is_at c catalog_name key ≡ true → (c.table ≡ catalog_name) × (c.key ≡ key)
at_key c key is =
    let parts = both_true (same_name c.table catalog_name) (same_key c.key key) is in
    (same_text c.table catalog_name (sym parts.0), same_from_same_key c.key key parts.1)

last_in : (ds : List Deed) (key : Value) → has_change (since_last ds) catalog_name key ≡ true
    → has_change (changes_in ds) catalog_name key ≡ true
last_in [] key has = has
last_in (Changed c ∷ ds) key has = more_there (is_at c catalog_name key) (has_change (since_last ds) catalog_name key)
    (has_change (changes_in ds) catalog_name key) (last_in ds key) has
last_in (Marked ∷ ds) key has = absurd (false≢true has)
last_in (Saved name ∷ ds) key has = absurd (false≢true has)

last_since : (point : Point) (ds : List Deed) (key : Value) → has_change (since_last ds) catalog_name key ≡ true
    → has_change (changes_since point ds) catalog_name key ≡ true
last_since point [] key has = has
last_since point (Changed c ∷ ds) key has = more_there (is_at c catalog_name key)
    (has_change (since_last ds) catalog_name key) (has_change (changes_since point ds) catalog_name key)
    (last_since point ds key) has
last_since point (Marked ∷ ds) key has = absurd (false≢true has)
last_since point (Saved name ∷ ds) key has = absurd (false≢true has)

-- a change is one since the point, or it was before
since_or_back : (point : Point) (ds : List Deed) (key : Value) → has_change (changes_in ds) catalog_name key ≡ true
    → (has_change (changes_since point ds) catalog_name key ≡ true)
    ⊎ (has_change (changes_in (deeds_back point ds)) catalog_name key ≡ true)
since_or_back point [] key has = inl has
since_or_back LastMark (Changed c ∷ ds) key has = at (is_at c catalog_name key) has (since_or_back LastMark ds key)
  where
    on : (b : Bool) → (has_change (changes_since LastMark ds) catalog_name key ≡ true)
        ⊎ (has_change (changes_in (deeds_back LastMark ds)) catalog_name key ≡ true)
        → (cond b true (has_change (changes_since LastMark ds) catalog_name key) ≡ true)
        ⊎ (has_change (changes_in (deeds_back LastMark ds)) catalog_name key ≡ true)
    on b (inl since) = inl (later b (has_change (changes_since LastMark ds) catalog_name key) since)
    on b (inr back) = inr back

    at : (b : Bool) → cond b true (has_change (changes_in ds) catalog_name key) ≡ true
        → (has_change (changes_in ds) catalog_name key ≡ true
        → (has_change (changes_since LastMark ds) catalog_name key ≡ true)
        ⊎ (has_change (changes_in (deeds_back LastMark ds)) catalog_name key ≡ true))
        → (cond b true (has_change (changes_since LastMark ds) catalog_name key) ≡ true)
        ⊎ (has_change (changes_in (deeds_back LastMark ds)) catalog_name key ≡ true)
    at true has_ more = inl refl
    at false has_ more = on false (more has_)
since_or_back LastMark (Marked ∷ ds) key has = inr has
since_or_back LastMark (Saved name ∷ ds) key has = since_or_back LastMark ds key has
since_or_back (SavepointNamed its) (Changed c ∷ ds) key has =
    at (is_at c catalog_name key) has (since_or_back (SavepointNamed its) ds key)
  where
    on : (b : Bool) → (has_change (changes_since (SavepointNamed its) ds) catalog_name key ≡ true)
        ⊎ (has_change (changes_in (deeds_back (SavepointNamed its) ds)) catalog_name key ≡ true)
        → (cond b true (has_change (changes_since (SavepointNamed its) ds) catalog_name key) ≡ true)
        ⊎ (has_change (changes_in (deeds_back (SavepointNamed its) ds)) catalog_name key ≡ true)
    on b (inl since) = inl (later b (has_change (changes_since (SavepointNamed its) ds) catalog_name key) since)
    on b (inr back) = inr back

    at : (b : Bool) → cond b true (has_change (changes_in ds) catalog_name key) ≡ true
        → (has_change (changes_in ds) catalog_name key ≡ true
        → (has_change (changes_since (SavepointNamed its) ds) catalog_name key ≡ true)
        ⊎ (has_change (changes_in (deeds_back (SavepointNamed its) ds)) catalog_name key ≡ true))
        → (cond b true (has_change (changes_since (SavepointNamed its) ds) catalog_name key) ≡ true)
        ⊎ (has_change (changes_in (deeds_back (SavepointNamed its) ds)) catalog_name key ≡ true)
    at true has_ more = inl refl
    at false has_ more = on false (more has_)
since_or_back (SavepointNamed its) (Marked ∷ ds) key has = since_or_back (SavepointNamed its) ds key has
since_or_back (SavepointNamed its) (Saved name ∷ ds) key has =
    at (same_name its name) (since_or_back (SavepointNamed its) ds key has)
  where
    at : (b : Bool) → (has_change (changes_since (SavepointNamed its) ds) catalog_name key ≡ true)
        ⊎ (has_change (changes_in (deeds_back (SavepointNamed its) ds)) catalog_name key ≡ true)
        → (has_change (cond b [] (changes_since (SavepointNamed its) ds)) catalog_name key ≡ true)
        ⊎ (has_change (changes_in (cond b (Saved name ∷ ds) (deeds_back (SavepointNamed its) ds))) catalog_name key ≡ true)
    at true more = inr has
    at false more = more

-- what is new to these changes is at no key of theirs
new_off : (left cs : List Change) (key : Value) → EachChange (IsNewTo left) cs
    → has_change cs catalog_name key ≡ true → has_change left catalog_name key ≡ false
new_off left [] key each has = absurd (false≢true has)
new_off left (c ∷ cs) key each has = at (new_off left cs key each.1) (is_at c catalog_name key) refl has
  where
    at : (has_change cs catalog_name key ≡ true → has_change left catalog_name key ≡ false)
        → (b : Bool) → is_at c catalog_name key ≡ b → cond b true (has_change cs catalog_name key) ≡ true
        → has_change left catalog_name key ≡ false
    at behind true is has_ =
        let its = at_key c key is in
        subst (λ (k : Value). has_change left catalog_name k ≡ false) its.1 (each.0 its.0)
    at behind false off_ has_ = behind has_

-- ---- the key of a column

module _ (name : List ℕ) (place : ℕ) where
  its_table : (cs : List Change) (key : Value) → key ≡ column_key name place → ComesWith cs (text_of key)
      → has_change cs catalog_name (table_key name) ≡ true
  its_table cs key is comes = at (subst (λ (k : Value). ComesWith cs (text_of k)) is comes)
    where
      at : ComesWith cs (text_of (column_key name place)) → has_change cs catalog_name (table_key name) ≡ true
      at (inl t_is) = absurd (omega (arith, t_is))
      at (inr (c_is, there)) =
          subst (λ (n : List ℕ). has_change cs catalog_name (table_key n) ≡ true) (column_table name place) there

  column_in : (ds : List Deed) → AreTogether ds → has_change (changes_in ds) catalog_name (column_key name place) ≡ true
      → has_change (changes_in ds) catalog_name (table_key name) ≡ true
  column_in [] are has = absurd (false≢true has)
  column_in (Changed c ∷ ds) are has = later (is_at c catalog_name (table_key name))
      (has_change (changes_in ds) catalog_name (table_key name))
      (at (column_in ds are.1) (is_at c catalog_name (column_key name place)) refl has)
    where
      at : (has_change (changes_in ds) catalog_name (column_key name place) ≡ true
          → has_change (changes_in ds) catalog_name (table_key name) ≡ true) → (b : Bool) → is_at c catalog_name (column_key name place) ≡ b
          → cond b true (has_change (changes_in ds) catalog_name (column_key name place)) ≡ true
          → has_change (changes_in ds) catalog_name (table_key name) ≡ true
      at behind true is has_ =
          let its = at_key c (column_key name place) is in
          last_in ds (table_key name) (its_table (since_last ds) c.key its.1 (are.0 its.0))
      at behind false off_ has_ = behind has_
  column_in (Marked ∷ ds) are has = column_in ds are has
  column_in (Saved saved ∷ ds) are has = column_in ds are has

  column_since : (point : Point) (ds : List Deed) → AreTogether ds
      → has_change (changes_since point ds) catalog_name (column_key name place) ≡ true
      → has_change (changes_since point ds) catalog_name (table_key name) ≡ true
  column_since point [] are has = absurd (false≢true has)
  column_since point (Changed c ∷ ds) are has = later (is_at c catalog_name (table_key name))
      (has_change (changes_since point ds) catalog_name (table_key name))
      (at (column_since point ds are.1) (is_at c catalog_name (column_key name place)) refl has)
    where
      at : (has_change (changes_since point ds) catalog_name (column_key name place) ≡ true
          → has_change (changes_since point ds) catalog_name (table_key name) ≡ true) → (b : Bool) → is_at c catalog_name (column_key name place) ≡ b
          → cond b true (has_change (changes_since point ds) catalog_name (column_key name place)) ≡ true
          → has_change (changes_since point ds) catalog_name (table_key name) ≡ true
      at behind true is has_ =
          let its = at_key c (column_key name place) is in
          last_since point ds (table_key name) (its_table (since_last ds) c.key its.1 (are.0 its.0))
      at behind false off_ has_ = behind has_
  column_since point (Marked ∷ ds) are has = at (is_point point Marked) has (column_since point ds are)
    where
      at : (b : Bool) → has_change (cond b [] (changes_since point ds)) catalog_name (column_key name place) ≡ true
          → (has_change (changes_since point ds) catalog_name (column_key name place) ≡ true
          → has_change (changes_since point ds) catalog_name (table_key name) ≡ true)
          → has_change (cond b [] (changes_since point ds)) catalog_name (table_key name) ≡ true
      at true has_ more = absurd (false≢true has_)
      at false has_ more = more has_
  column_since point (Saved saved ∷ ds) are has = at (is_point point (Saved saved)) has (column_since point ds are)
    where
      at : (b : Bool) → has_change (cond b [] (changes_since point ds)) catalog_name (column_key name place) ≡ true
          → (has_change (changes_since point ds) catalog_name (column_key name place) ≡ true
          → has_change (changes_since point ds) catalog_name (table_key name) ≡ true)
          → has_change (cond b [] (changes_since point ds)) catalog_name (table_key name) ≡ true
      at true has_ more = absurd (false≢true has_)
      at false has_ more = more has_

  -- it goes with that of its table
  column_goes : (point : Point) (ds : List Deed) → AreTogether ds → AreMadeOnce (changes_in ds)
      → has_change (changes_in ds) catalog_name (column_key name place) ≡ true
      → has_change (since_point point ds) catalog_name (column_key name place)
      ≡ has_change (since_point point ds) catalog_name (table_key name)
  column_goes point ds are once has = at (has_deed point ds)
    where
      -- where that of the table goes, none of it was before: nor was the column's
      back : has_change (changes_since point ds) catalog_name (table_key name) ≡ true
          → has_change (changes_since point ds) catalog_name (column_key name place) ≡ true
      back table = on (since_or_back point ds (column_key name place) has)
        where
          on : (has_change (changes_since point ds) catalog_name (column_key name place) ≡ true)
              ⊎ (has_change (changes_in (deeds_back point ds)) catalog_name (column_key name place) ≡ true)
              → has_change (changes_since point ds) catalog_name (column_key name place) ≡ true
          on (inl since) = since
          on (inr before) = absurd (false≢true (sym (new_off (changes_in (deeds_back point ds)) (changes_since point ds)
              (table_key name) (since_new point ds once) table)
              ∙ column_in (deeds_back point ds) (together_back point ds are) before))

      at : (b : Bool) → has_change (since_if b point ds) catalog_name (column_key name place)
          ≡ has_change (since_if b point ds) catalog_name (table_key name)
      at true = same_tests (has_change (changes_since point ds) catalog_name (column_key name place))
          (has_change (changes_since point ds) catalog_name (table_key name)) (column_since point ds are) back
      at false = refl

-- ---- the key of an index

index_never : (name : List ℕ) (ds : List Deed) → AreTogether ds
    → has_change (changes_in ds) catalog_name (index_key name) ≡ false
index_never name [] are = refl
index_never name (Changed c ∷ ds) are = at (is_at c catalog_name (index_key name)) refl (index_never name ds are.1)
  where
    never : ComesWith (since_last ds) (text_of (index_key name)) → ⊥
    never (inl t_is) = omega (arith, t_is)
    never (inr (c_is, there)) = omega (arith, c_is)

    at : (b : Bool) → is_at c catalog_name (index_key name) ≡ b
        → has_change (changes_in ds) catalog_name (index_key name) ≡ false
        → cond b true (has_change (changes_in ds) catalog_name (index_key name)) ≡ false
    at true is more =
        let its = at_key c (index_key name) is in
        absurd (never (subst (λ (k : Value). ComesWith (since_last ds) (text_of k)) its.1 (are.0 its.0)))
    at false off more = more
index_never name (Marked ∷ ds) are = index_never name ds are
index_never name (Saved saved ∷ ds) are = index_never name ds are

-- ---- the keys that go

among_has : (keys : List Change) (key : Value)
    → is_among (map (λ c. c.key) (of_catalog keys)) key ≡ has_change keys catalog_name key
among_has [] key = refl
among_has (c ∷ cs) key = at (same_name c.table catalog_name) (same_key c.key key) (among_has cs key)
  where
    on : (b : Bool) → is_among (map (λ c. c.key) (of_catalog cs)) key ≡ has_change cs catalog_name key
        → (b || is_among (map (λ c. c.key) (of_catalog cs)) key) ≡ cond b true (has_change cs catalog_name key)
    on true more = refl
    on false more = more

    at : (a b : Bool) → is_among (map (λ c. c.key) (of_catalog cs)) key ≡ has_change cs catalog_name key
        → is_among (map (λ c. c.key) (cond a (c ∷ of_catalog cs) (of_catalog cs))) key
        ≡ cond (a && same_key c.key key) true (has_change cs catalog_name key)
    at true b more = on (same_key c.key key) more
    at false b more = more

each_has : (left cs : List Change) (key : Value) → EachChange (λ c. has_change left c.table c.key ≡ true) cs
    → has_change cs catalog_name key ≡ true → has_change left catalog_name key ≡ true
each_has left [] key each has = absurd (false≢true has)
each_has left (c ∷ cs) key each has = at (each_has left cs key each.1) (is_at c catalog_name key) refl has
  where
    at : (has_change cs catalog_name key ≡ true → has_change left catalog_name key ≡ true) → (b : Bool) → is_at c catalog_name key ≡ b → cond b true (has_change cs catalog_name key) ≡ true
        → has_change left catalog_name key ≡ true
    at behind true is has_ =
        let its = at_key c key is in
        subst (λ (n : List ℕ). has_change left n key ≡ true) its.0
        (subst (λ (k : Value). has_change left c.table k ≡ true) its.1 each.0)
    at behind false off_ has_ = behind has_

-- what a transaction takes back to a point, the first change of each key
pub keys_go_whole : (point : Point) (ds : List Deed) → AreTogether ds → AreMadeOnce (changes_in ds)
    → AreKeysOf (first_of (since_point point ds)) (since_point point ds)
    → KeysGoWhole (changes_in ds) (map (λ c. c.key) (of_catalog (first_of (since_point point ds))))
keys_go_whole point ds are once first = record {
  columns = λ name place has. goes (column_key name place)
      ∙ (column_goes name place point ds are once has ∙ sym (goes (table_key name)));
  indexes = λ name. index_never name ds are;
}
  where
    goes : (key : Value) → is_one_of (map (λ c. c.key) (of_catalog (first_of (since_point point ds)))) key
        ≡ has_change (since_point point ds) catalog_name key
    goes key = one_test (map (λ c. c.key) (of_catalog (first_of (since_point point ds)))) key
        ∙ (among_has (first_of (since_point point ds)) key
        ∙ same_tests (has_change (first_of (since_point point ds)) catalog_name key)
        (has_change (since_point point ds) catalog_name key)
        (each_has (since_point point ds) (first_of (since_point point ds)) key first.each)
        (first.whole catalog_name key))
