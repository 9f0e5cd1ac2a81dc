-- The changes of other tables and the rows of the catalog, apart.
use Rattle.std.proofs.Common.{◌≡◌, ◌≢◌, ◌⊎◌, inl, inr, ◌∙◌, ◌&&◌, ◌||◌, ◌++◌, ◌∷◌, ℕ, Bool, true, false, List, [], Option, None, Some, ap, cond, map, refl, subst, sym}
use Rattle.std.specs.Prelude.{is_some}
use Rattle.std.specs.Cmp.Lexicographic.{same_text}
use Rattle.std.proofs.lemmas.Bool.{false≢true}
use Rattle.mg_value.specs.declared.value.Value.{Value}
use Rattle.mg_model.specs.declared.change.Change.{Change}
use Rattle.mg_model.specs.declared.opening.Opening.{Opening}
use Rattle.mg_model.specs.Catalog.{catalog_name, column_key, index_key, table_key}
use Rattle.mg_model.specs.Changes.{has_change, is_at, same_key, same_name}
use Rattle.mg_model.specs.History.{Entries, Entry}
use Rattle.mg_model.specs.Machine.{own}
use Rattle.mg_model.specs.ReadLaws.{same_name_itself}
use Rattle.mg_model.specs.RowLaws.{same_from_same_key}
use Rattle.mg_image.specs.Histories.{newest_at, row_change}
use Rattle.mg_image.specs.Records as records
use Rattle.mg_undo.specs.Machine.{given_from, has_same}
use Rattle.mg_undo.specs.Whole.{is_one_of}
use Rattle.mg_undo.specs.declared.changes.Change.{Change as Kept}
use Rattle.mg_engine_step_laws.specs.backs.Again.{AreTaken}
use Rattle.mg_engine_step_laws.specs.standing.OwnChains.{change_there, newest_second, none_second}
use Rattle.mg_engine_step_laws.specs.tables_back.Outs.{is_among}
use Rattle.mg_engine_step_laws.specs.tables_back.TablesBack.{AreRowsLeft}
use Rattle.mg_engine_step_laws.specs.tables_back.Whole.{GoWhole}
use Rattle.mg_engine_change_laws.specs.backs.ToTake.{AreKeysOf, AreOfOtherKeys, EachChange}
use Rattle.mg_table_takings.specs.Keys.{keys_of, others_of}
use Rattle.mg_engine_change_laws.specs.tables_back.ListsTell.{KeysGoWhole}
use Rattle.mg_engine_change_laws.specs.tables_back.RowsGiven.{GivenApart, RowsAreLeft, TellsCatalog, of_catalog, of_others}

and_true : (a b : Bool) → (a && b) ≡ true → (a ≡ true) × (b ≡ true)
and_true true true is = (refl, refl)
and_true true false is = absurd cc
and_true false b is = absurd cc

is_catalog : (name : List ℕ) → same_name name catalog_name ≡ true → name ≡ catalog_name
is_catalog name is = same_text name catalog_name (sym is)

-- ---- what is given

module _ (number : List ℕ → ℕ) (catalog : ℕ) (left : List Change) where
  others_given : (cs : List Change) → TellsCatalog number catalog cs
      → others_of catalog (map (given_from number left) cs) ≡ map (given_from number left) (of_others cs)
  others_given [] tells = refl
  others_given (c ∷ cs) tells = ap (λ (b : Bool). cond b
      (others_of catalog (map (given_from number left) cs))
      (given_from number left c ∷ others_of catalog (map (given_from number left) cs)))
      tells.0 ∙ at (same_name c.table catalog_name) (others_given cs tells.1)
    where
      at : (b : Bool)
          → others_of catalog (map (given_from number left) cs) ≡ map (given_from number left) (of_others cs)
          → cond b (others_of catalog (map (given_from number left) cs))
          (given_from number left c ∷ others_of catalog (map (given_from number left) cs))
          ≡ map (given_from number left) (cond b (of_others cs) (c ∷ of_others cs))
      at true more = more
      at false more = ap (λ (ks : List Kept). given_from number left c ∷ ks) more

  rows_given : (cs : List Change) → TellsCatalog number catalog cs
      → keys_of catalog (map (given_from number left) cs) ≡ map (λ c. c.key) (of_catalog cs)
  rows_given [] tells = refl
  rows_given (c ∷ cs) tells = ap (λ (b : Bool). cond b
      (c.key ∷ keys_of catalog (map (given_from number left) cs))
      (keys_of catalog (map (given_from number left) cs)))
      tells.0 ∙ at (same_name c.table catalog_name) (rows_given cs tells.1)
    where
      at : (b : Bool)
          → keys_of catalog (map (given_from number left) cs) ≡ map (λ c. c.key) (of_catalog cs)
          → cond b (c.key ∷ keys_of catalog (map (given_from number left) cs))
          (keys_of catalog (map (given_from number left) cs))
          ≡ map (λ c. c.key) (cond b (c ∷ of_catalog cs) (of_catalog cs))
      at true more = ap (λ (ks : List Value). c.key ∷ ks) more
      at false more = more

-- ---- they are all

-- what each has, each of the two parts has
each_both : (P : Change → Type 0) (keys : List Change) → EachChange P keys
    → EachChange P (of_others keys) × EachChange P (of_catalog keys)
each_both P [] each = (tt, tt)
each_both P (c ∷ cs) each = at (same_name c.table catalog_name) (each_both P cs each.1)
  where
    at : (b : Bool) → EachChange P (of_others cs) × EachChange P (of_catalog cs)
        → EachChange P (cond b (of_others cs) (c ∷ of_others cs))
        × EachChange P (cond b (c ∷ of_catalog cs) (of_catalog cs))
    at true more = (more.0, (each.0, more.1))
    at false more = ((each.0, more.0), more.1)

each_append : (P : Change → Type 0) (xs ys : List Change) → EachChange P xs → EachChange P ys → EachChange P (xs ++ ys)
each_append P [] ys first second = second
each_append P (x ∷ xs) ys first second = (first.0, each_append P xs ys first.1 second)

-- one that is the same as none of them is the same as none of a part
fewer_same : (c : Change) (keys : List Change) → has_same c keys ≡ false
    → (has_same c (of_others keys) ≡ false) × (has_same c (of_catalog keys) ≡ false)
fewer_same c [] none = (refl, refl)
fewer_same c (d ∷ ds) none = at (is_at d c.table c.key) refl none (same_name d.table catalog_name) (fewer_same c ds)
  where
    at : (b : Bool) → is_at d c.table c.key ≡ b → (b || has_same c ds) ≡ false → (n : Bool)
        → (has_same c ds ≡ false → (has_same c (of_others ds) ≡ false) × (has_same c (of_catalog ds) ≡ false))
        → (has_same c (cond n (of_others ds) (d ∷ of_others ds)) ≡ false)
        × (has_same c (cond n (d ∷ of_catalog ds) (of_catalog ds)) ≡ false)
    at true is none_ n more = absurd cc
    at false off none_ true more = (
      (more none_).0,
      ap (λ (b : Bool). b || has_same c (of_catalog ds)) off ∙ (more none_).1,
    )
    at false off none_ false more = (
      ap (λ (b : Bool). b || has_same c (of_others ds)) off ∙ (more none_).0,
      (more none_).1,
    )

apart_both : (keys : List Change) → AreOfOtherKeys keys
    → AreOfOtherKeys (of_others keys) × AreOfOtherKeys (of_catalog keys)
apart_both [] apart = (tt, tt)
apart_both (c ∷ cs) apart = at (same_name c.table catalog_name) (apart_both cs apart.1)
  where
    at : (b : Bool) → AreOfOtherKeys (of_others cs) × AreOfOtherKeys (of_catalog cs)
        → AreOfOtherKeys (cond b (of_others cs) (c ∷ of_others cs))
        × AreOfOtherKeys (cond b (c ∷ of_catalog cs) (of_catalog cs))
    at true more = (more.0, ((fewer_same c cs apart.0).1, more.1))
    at false more = (((fewer_same c cs apart.0).0, more.0), more.1)

-- one of another table is none of the catalog's
none_of_catalog : (c : Change) (keys : List Change) → same_name c.table catalog_name ≡ false
    → has_same c (of_catalog keys) ≡ false
none_of_catalog c [] other = refl
none_of_catalog c (d ∷ ds) other = at (same_name d.table catalog_name) refl (none_of_catalog c ds other)
  where
    at : (b : Bool) → same_name d.table catalog_name ≡ b → has_same c (of_catalog ds) ≡ false
        → has_same c (cond b (d ∷ of_catalog ds) (of_catalog ds)) ≡ false
    at false off more = more
    at true is more = apart (is_at d c.table c.key) refl more
      where
        apart : (b : Bool) → is_at d c.table c.key ≡ b → has_same c (of_catalog ds) ≡ false
            → (is_at d c.table c.key || has_same c (of_catalog ds)) ≡ false
        apart false off_ more_ = ap (λ (b : Bool). b || has_same c (of_catalog ds)) off_ ∙ more_
        apart true is_ more_ =
            let named : d.table ≡ c.table = same_text d.table c.table
            (sym (and_true (same_name d.table c.table) (same_key d.key c.key) is_).0) in
            absurd (false≢true (sym other ∙ (ap (λ (n : List ℕ). same_name n catalog_name) (sym named) ∙ is)))

same_append : (c : Change) (xs ys : List Change) → has_same c xs ≡ false → has_same c ys ≡ false
    → has_same c (xs ++ ys) ≡ false
same_append c [] ys first second = second
same_append c (x ∷ xs) ys first second =
    at (is_at x c.table c.key) refl first (λ none. same_append c xs ys none second)
  where
    at : (b : Bool) → is_at x c.table c.key ≡ b → (b || has_same c xs) ≡ false
        → (has_same c xs ≡ false → has_same c (xs ++ ys) ≡ false)
        → (is_at x c.table c.key || has_same c (xs ++ ys)) ≡ false
    at true is none more = absurd cc
    at false off none more = ap (λ (b : Bool). b || has_same c (xs ++ ys)) off ∙ more none

apart_append : (xs ys : List Change) → AreOfOtherKeys xs → AreOfOtherKeys ys
    → EachChange (λ c. has_same c ys ≡ false) xs → AreOfOtherKeys (xs ++ ys)
apart_append [] ys first second each = second
apart_append (x ∷ xs) ys first second each =
    (same_append x xs ys first.0 each.0, apart_append xs ys first.1 second each.1)

others_are_other : (keys more : List Change) → EachChange (λ c. has_same c (of_catalog more) ≡ false) (of_others keys)
others_are_other [] more = tt
others_are_other (c ∷ cs) more = at (same_name c.table catalog_name) refl (others_are_other cs more)
  where
    at : (b : Bool) → same_name c.table catalog_name ≡ b
        → EachChange (λ c. has_same c (of_catalog more) ≡ false) (of_others cs)
        → EachChange (λ c. has_same c (of_catalog more) ≡ false) (cond b (of_others cs) (c ∷ of_others cs))
    at true is rest = rest
    at false off rest = (none_of_catalog c more off, rest)

-- what is at a key is in one of the parts
or_true : (b x : Bool) → x ≡ true → cond b true x ≡ true
or_true true x is = refl
or_true false x is = is

has_first : (xs ys : List Change) (name : List ℕ) (key : Value) → has_change xs name key ≡ true
    → has_change (xs ++ ys) name key ≡ true
has_first [] ys name key has = absurd cc
has_first (x ∷ xs) ys name key has = at (is_at x name key) has (has_first xs ys name key)
  where
    at : (b : Bool) → cond b true (has_change xs name key) ≡ true
        → (has_change xs name key ≡ true → has_change (xs ++ ys) name key ≡ true)
        → cond b true (has_change (xs ++ ys) name key) ≡ true
    at true has_ more = refl
    at false has_ more = more has_

has_second : (xs ys : List Change) (name : List ℕ) (key : Value) → has_change ys name key ≡ true
    → has_change (xs ++ ys) name key ≡ true
has_second [] ys name key has = has
has_second (x ∷ xs) ys name key has = or_true (is_at x name key) (has_change (xs ++ ys) name key)
    (has_second xs ys name key has)

has_part : (keys : List Change) (name : List ℕ) (key : Value) → has_change keys name key ≡ true
    → (has_change (of_others keys) name key ≡ true) ⊎ (has_change (of_catalog keys) name key ≡ true)
has_part [] name key has = absurd cc
has_part (c ∷ cs) name key has = at (is_at c name key) refl has (same_name c.table catalog_name) (has_part cs name key)
  where
    at : (b : Bool) → is_at c name key ≡ b → cond b true (has_change cs name key) ≡ true → (n : Bool)
        → (has_change cs name key ≡ true
        → (has_change (of_others cs) name key ≡ true) ⊎ (has_change (of_catalog cs) name key ≡ true))
        → (has_change (cond n (of_others cs) (c ∷ of_others cs)) name key ≡ true)
        ⊎ (has_change (cond n (c ∷ of_catalog cs) (of_catalog cs)) name key ≡ true)
    at true is has_ true more = inr (ap (λ (b : Bool). cond b true (has_change (of_catalog cs) name key)) is)
    at true is has_ false more = inl (ap (λ (b : Bool). cond b true (has_change (of_others cs) name key)) is)
    at false off has_ true more = elim (more has_) [
      | inl first ↦ inl first
      | inr second ↦ inr (or_true (is_at c name key) (has_change (of_catalog cs) name key) second)
    ]
    at false off has_ false more = elim (more has_) [
      | inl first ↦ inl (or_true (is_at c name key) (has_change (of_others cs) name key) first)
      | inr second ↦ inr second
    ]

all_keys : (keys left : List Change) → AreKeysOf keys left → AreKeysOf (of_others keys ++ of_catalog keys) left
all_keys keys left are = record {
  each = let both = each_both (λ c. has_change left c.table c.key ≡ true) keys are.each in
      each_append (λ c. has_change left c.table c.key ≡ true) (of_others keys) (of_catalog keys) both.0 both.1;
  apart = let both = apart_both keys are.apart in
      apart_append (of_others keys) (of_catalog keys) both.0 both.1 (others_are_other keys keys);
  whole = λ name key has. elim (has_part keys name key (are.whole name key has)) [
    | inl first ↦ has_first (of_others keys) (of_catalog keys) name key first
    | inr second ↦ has_second (of_others keys) (of_catalog keys) name key second
  ];
}

-- ---- the rows that are left

-- a key is among those of the rows where one of these is at it
among_is : (keys : List Change) (key : Value)
    → is_among (map (λ c. c.key) (of_catalog keys)) key ≡ has_change (of_catalog keys) catalog_name key
among_is [] key = refl
among_is (c ∷ cs) key = at (same_name c.table catalog_name) refl (among_is cs key)
  where
    or_is : (a x : Bool) → (a || x) ≡ cond a true x
    or_is true x = refl
    or_is false x = refl

    at : (b : Bool) → same_name c.table catalog_name ≡ b
        → is_among (map (λ c. c.key) (of_catalog cs)) key ≡ has_change (of_catalog cs) catalog_name key
        → is_among (map (λ c. c.key) (cond b (c ∷ of_catalog cs) (of_catalog cs))) key
        ≡ has_change (cond b (c ∷ of_catalog cs) (of_catalog cs)) catalog_name key
    at false off more = more
    at true is more = ap (λ (x : Bool). same_key c.key key || x) more
        ∙ (or_is (same_key c.key key) (has_change (of_catalog cs) catalog_name key)
        ∙ ap (λ (b : Bool). cond (b && same_key c.key key) true (has_change (of_catalog cs) catalog_name key)) (sym is))

-- one that is among all keys and of the catalog is among the rows
catalog_part : (keys : List Change) (key : Value) → has_change keys catalog_name key ≡ true
    → has_change (of_catalog keys) catalog_name key ≡ true
catalog_part [] key has = has
catalog_part (c ∷ cs) key has = at (same_name c.table catalog_name) refl has (catalog_part cs key)
  where
    at : (b : Bool) → same_name c.table catalog_name ≡ b
        → cond (same_name c.table catalog_name && same_key c.key key) true (has_change cs catalog_name key) ≡ true
        → (has_change cs catalog_name key ≡ true → has_change (of_catalog cs) catalog_name key ≡ true)
        → has_change (cond b (c ∷ of_catalog cs) (of_catalog cs)) catalog_name key ≡ true
    at false off has_ more = more (sym (ap (λ (n : Bool). cond (n && same_key c.key key) true
        (has_change cs catalog_name key)) off) ∙ has_)
    at true is has_ more = ap (λ (n : Bool). cond (n && same_key c.key key) true (has_change (of_catalog cs) catalog_name key)) is
        ∙ by (same_key c.key key) (sym (ap (λ (n : Bool). cond (n && same_key c.key key) true
        (has_change cs catalog_name key)) is) ∙ has_)
      where
        by : (k : Bool) → cond k true (has_change cs catalog_name key) ≡ true
            → cond k true (has_change (of_catalog cs) catalog_name key) ≡ true
        by true has__ = refl
        by false has__ = more has__

no_row : (keys left : List Change) → AreKeysOf keys left → (key : Value)
    → is_among (map (λ c. c.key) (of_catalog keys)) key ≡ false → newest_at left catalog_name key ≡ None
no_row keys left are key off = at (newest_at left catalog_name key) refl
  where
    at : (x : Option records.Change) → newest_at left catalog_name key ≡ x → newest_at left catalog_name key ≡ None
    at None none = none
    at (Some c) is =
        let has : has_change left catalog_name key ≡ true = change_there left catalog_name key ∙ ap is_some is in
        absurd (false≢true (sym (sym (among_is keys key) ∙ off)
        ∙ catalog_part keys key (are.whole catalog_name key has)))

pub given_apart : GivenApart
given_apart = record {
  others = λ number catalog left cs tells. others_given number catalog left cs tells;
  rows = λ number catalog left cs tells. rows_given number catalog left cs tells;
  all = all_keys;
  none = no_row;
}

-- none of them is of another table
only_catalog : (keys : List Change) (name : List ℕ) (key : Value) → has_change (of_catalog keys) name key ≡ true
    → name ≡ catalog_name
only_catalog [] name key has = absurd cc
only_catalog (c ∷ cs) name key has = at (same_name c.table catalog_name) refl has (only_catalog cs name key)
  where
    at : (b : Bool) → same_name c.table catalog_name ≡ b
        → has_change (cond b (c ∷ of_catalog cs) (of_catalog cs)) name key ≡ true
        → (has_change (of_catalog cs) name key ≡ true → name ≡ catalog_name) → name ≡ catalog_name
    at false off has_ more = more has_
    at true is has_ more = here (is_at c name key) refl has_
      where
        here : (b : Bool) → is_at c name key ≡ b → cond b true (has_change (of_catalog cs) name key) ≡ true
            → name ≡ catalog_name
        here false off has__ = more has__
        here true is_ has__ =
            let named : c.table ≡ name = same_text c.table name
            (sym (and_true (same_name c.table name) (same_key c.key key) is_).0) in
            sym named ∙ is_catalog c.table is

-- one that is among the rows is one of the keys
row_is_key : (P : Value → Type 0) (keys : List Change) → EachChange (λ c. c.table ≡ catalog_name → P c.key) keys
    → (key : Value) → is_among (map (λ c. c.key) (of_catalog keys)) key ≡ true → P key
row_is_key P [] each key there = absurd cc
row_is_key P (c ∷ cs) each key there = at (same_name c.table catalog_name) refl there (row_is_key P cs each.1 key)
  where
    at : (b : Bool) → same_name c.table catalog_name ≡ b
        → is_among (map (λ c. c.key) (cond b (c ∷ of_catalog cs) (of_catalog cs))) key ≡ true
        → (is_among (map (λ c. c.key) (of_catalog cs)) key ≡ true → P key) → P key
    at false off there_ more = more there_
    at true is there_ more = here (same_key c.key key) refl there_
      where
        here : (b : Bool) → same_key c.key key ≡ b → (b || is_among (map (λ c. c.key) (of_catalog cs)) key) ≡ true
            → P key
        here false off there__ = more there__
        here true same there__ = subst P (same_from_same_key c.key key same) (each.0 (is_catalog c.table is))

-- the two tests of keys are one
pub one_test : (keys : List Value) (key : Value) → is_one_of keys key ≡ is_among keys key
one_test [] key = refl
one_test (k ∷ keys) key = ap (λ (b : Bool). same_key k key || b) (one_test keys key)

each_made : (own_ keys : List Change) → EachChange (λ c. has_change own_ c.table c.key ≡ true) keys
    → EachChange (λ c. c.table ≡ catalog_name → has_change own_ catalog_name c.key ≡ true) keys
each_made own_ [] each = tt
each_made own_ (c ∷ cs) each = (
  λ is. ap (λ (n : List ℕ). has_change own_ n c.key) (sym is) ∙ each.0,
  each_made own_ cs each.1,
)

same_tests : (a b : Bool) → (a ≡ true → b ≡ true) → (b ≡ true → a ≡ true) → a ≡ b
same_tests true b to from = sym (to refl)
same_tests false true to from = from refl
same_tests false false to from = refl

module _ (o : Opening) (h : Entries) (e : Entry) (t : ℕ) (keys whole left : List Change) (taken : AreTaken o h e t whole)
    (within : (name : List ℕ) (key : Value) → has_change left name key ≡ true → has_change whole name key ≡ true)
    (are : AreKeysOf (of_catalog keys) left)
    (made : EachChange (λ c. has_change (own o h t) c.table c.key ≡ true) keys)
    (new : EachChange (λ c. c.table ≡ catalog_name → newest_at (own o (e ∷ h) t) catalog_name c.key ≡ None) keys)
    (goes : KeysGoWhole (own o h t) (map (λ c. c.key) (of_catalog keys))) where
  abbrev gone : Value → Bool
  gone = is_among (map (λ c. c.key) (of_catalog keys))

  some_change : (name : List ℕ) (key : Value) (c : records.Change) → newest_at left name key ≡ Some c
      → has_change left name key ≡ true
  some_change name key c is = change_there left name key ∙ ap is_some is

  -- what is left is at a key that goes
  there : (name : List ℕ) (key : Value) → has_change left name key ≡ true
      → has_change (of_catalog keys) name key ≡ true
  there name key has = are.whole name key has

  back_there : (cs : List Change) → EachChange (λ c. has_change left c.table c.key ≡ true) cs → (name : List ℕ)
      (key : Value) → has_change cs name key ≡ true → has_change left name key ≡ true
  back_there [] each name key has = absurd cc
  back_there (c ∷ cs) each name key has = at (is_at c name key) refl has (back_there cs each.1 name key)
    where
      at : (b : Bool) → is_at c name key ≡ b → cond b true (has_change cs name key) ≡ true
          → (has_change cs name key ≡ true → has_change left name key ≡ true) → has_change left name key ≡ true
      at false off has_ more = more has_
      at true is has_ more =
          let parts = and_true (same_name c.table name) (same_key c.key key) is in
          let named : c.table ≡ name = same_text c.table name (sym parts.0) in
          let keyed : c.key ≡ key = same_from_same_key c.key key parts.1 in
          subst (λ (n : List ℕ). has_change left n key ≡ true) named
          (subst (λ (k : Value). has_change left c.table k ≡ true) keyed each.0)

  keys_are : (key : Value) → gone key ≡ is_some (newest_at left catalog_name key)
  keys_are key = among_is keys key
      ∙ (same_tests (has_change (of_catalog keys) catalog_name key) (has_change left catalog_name key)
      (back_there (of_catalog keys) are.each catalog_name key) (there catalog_name key)
      ∙ change_there left catalog_name key)

  -- a change of what is left and of what the transaction keeps is one that it had made
  some_own : (key : Value) (c : records.Change) → newest_at (left ++ own o (e ∷ h) t) catalog_name key ≡ Some c
      → has_change (own o h t) catalog_name key ≡ true
  some_own key c is = at (newest_at (own o h t) catalog_name key) refl
    where
      left_none : newest_at (own o h t) catalog_name key ≡ None → newest_at left catalog_name key ≡ None
      left_none none = by (has_change left catalog_name key) refl
        where
          by : (b : Bool) → has_change left catalog_name key ≡ b → newest_at left catalog_name key ≡ None
          by false off = nothing (newest_at left catalog_name key) refl
            where
              nothing : (x : Option records.Change) → newest_at left catalog_name key ≡ x
                  → newest_at left catalog_name key ≡ None
              nothing None is_ = is_
              nothing (Some d) is_ = absurd (false≢true (sym off ∙ some_change catalog_name key d is_))
          by true on =
              let there_ : has_change (own o h t) catalog_name key ≡ true =
              row_is_key (λ k. has_change (own o h t) catalog_name k ≡ true) keys (each_made (own o h t) keys made) key
              (among_is keys key ∙ there catalog_name key on) in
              absurd (false≢true (sym (change_there (own o h t) catalog_name key ∙ ap is_some none) ∙ there_))

      at : (x : Option records.Change) → newest_at (own o h t) catalog_name key ≡ x
          → has_change (own o h t) catalog_name key ≡ true
      at (Some d) is_ = change_there (own o h t) catalog_name key ∙ ap is_some is_
      at None none =
          let kept : newest_at (own o (e ∷ h) t) catalog_name key ≡ None =
          none_second whole (own o (e ∷ h) t) catalog_name key (taken catalog_name key ∙ none) in
          let both : None ≡ Some c = sym (newest_second left (own o (e ∷ h) t) catalog_name key (left_none none) ∙ kept)
          ∙ is in absurd cc

  first_change : (key : Value) (c : records.Change) → newest_at left catalog_name key ≡ Some c
      → newest_at (left ++ own o (e ∷ h) t) catalog_name key ≡ Some c
  first_change key c is = over left is
    where
      over : (cs : List Change) → newest_at cs catalog_name key ≡ Some c
          → newest_at (cs ++ own o (e ∷ h) t) catalog_name key ≡ Some c
      over [] is_ = absurd cc
      over (d ∷ ds) is_ = at (is_at d catalog_name key) is_ (over ds)
        where
          at : (b : Bool) → cond b (Some (row_change d.row)) (newest_at ds catalog_name key) ≡ Some c
              → (newest_at ds catalog_name key ≡ Some c → newest_at (ds ++ own o (e ∷ h) t) catalog_name key ≡ Some c)
              → cond b (Some (row_change d.row)) (newest_at (ds ++ own o (e ∷ h) t) catalog_name key) ≡ Some c
          at true is__ more = is__
          at false is__ more = more is__

  goes_whole : GoWhole (left ++ own o (e ∷ h) t) (is_among (map (λ c. c.key) (of_catalog keys)))
  goes_whole = record {
    changed = λ key is. changed key is;
    columns = λ name place c is. sym (one_test (map (λ c. c.key) (of_catalog keys)) (column_key name place))
        ∙ (goes.columns name place (some_own (column_key name place) c is)
        ∙ one_test (map (λ c. c.key) (of_catalog keys)) (table_key name));
    indexes = λ name. none_at name (newest_at (left ++ own o (e ∷ h) t) catalog_name (index_key name)) refl;
  }
    where
      changed : (key : Value) → gone key ≡ true
          → (c : records.Change) × (newest_at (left ++ own o (e ∷ h) t) catalog_name key ≡ Some c)
      changed key is = at (newest_at left catalog_name key) refl
        where
          at : (x : Option records.Change) → newest_at left catalog_name key ≡ x
              → (c : records.Change) × (newest_at (left ++ own o (e ∷ h) t) catalog_name key ≡ Some c)
          at (Some c) some = (c, first_change key c some)
          at None none = absurd (false≢true (sym (keys_are key ∙ ap is_some none) ∙ is))

      none_at : (name : List ℕ) (x : Option records.Change)
          → newest_at (left ++ own o (e ∷ h) t) catalog_name (index_key name) ≡ x
          → newest_at (left ++ own o (e ∷ h) t) catalog_name (index_key name) ≡ None
      none_at name None none = none
      none_at name (Some c) is =
          absurd (false≢true (sym (goes.indexes name) ∙ some_own (index_key name) c is))

  pub rows_left : AreRowsLeft o h e t left (map (λ c. c.key) (of_catalog keys))
  rows_left = record {
    rows = λ name key c is. only_catalog keys name key (there name key (some_change name key c is));
    keys_are = keys_are;
    made = row_is_key (λ k. has_change (own o h t) catalog_name k ≡ true) keys (each_made (own o h t) keys made);
    none = row_is_key (λ k. newest_at (own o (e ∷ h) t) catalog_name k ≡ None) keys new;
    whole = goes_whole;
  }

pub rows_are_left : RowsAreLeft
rows_are_left o h e t keys whole left taken within are made new goes =
    rows_left o h e t keys whole left taken within are made new goes
