-- A transaction's place is set to another work.
use Rattle.std.proofs.Common.{◌≡◌, ◌<◌, ◌==◌, not, ℕ, zero, suc, Bool, true, false, List, [], ◌∷◌, arith, Bor, cond, Option, None, Some, Result, Ok, Err, get_or, set, length, sym, ◌∙◌, ap, refl, subst}
use Rattle.std.specs.Option.{option_copied}
use Rattle.std.specs.Prelude.{IfSome, OnErr, OnOk}
use Rattle.mg_model.specs.Catalog.{table_key}
use Rattle.mg_model.specs.Changes.{same_name}
use Rattle.mg_base.specs.declared.memory.Memory.{Memory}
use Rattle.mg_model.specs.declared.table.Table.{Table}
use Rattle.mg_value.specs.declared.value.Value.{Value}
use Rattle.mg_undo.specs.Undo.{State as Undo}
use Rattle.mg_undo.specs.Whole.{is_one_of}
use Rattle.mg_undo.specs.declared.changes.Was.{Was}
use Rattle.mg_works.specs.Works.{AllMayBeGiven, AreApart, IsNowhere, IsPlaceOf, IsWork, MayBeGiven, Working, given_in, has_asked, going_back_to, tables_left, with_change, with_point, with_step_back, with_table, with_undo, with_work, with_written, unasked, without_change, without_tables, without_written, written_in}
use Rattle.mg_works.specs.WorksLaws.{none_untouched, nowhere_none, set_is_with, with_apart}

-- what a call makes of a work keeps its number and its session, and is lawful
pub record Keeps (made : Working → Working) : Type 0 where
  pub number : (w : Working) → (made w).number ≡ w.number
  pub session : (w : Working) → (made w).session ≡ w.session
  pub lawful : (w : Working) → IsWork w → IsWork (made w)

pub asking_keeps : Keeps has_asked
asking_keeps = record {
  number = λ w. refl;
  session = λ w. refl;
  lawful = λ w is. record { session_below = is.session_below; lawful = is.lawful; written_lawful = is.written_lawful };
}

pub forgetting_keeps : Keeps without_tables
forgetting_keeps = record {
  number = λ w. refl;
  session = λ w. refl;
  lawful = λ w is. record { session_below = is.session_below; lawful = tt; written_lawful = is.written_lawful };
}

pub point_keeps : (name : Option (List ℕ)) → Keeps (with_point name)
point_keeps name = record {
  number = λ w. refl;
  session = λ w. refl;
  lawful = λ w is. record { session_below = is.session_below; lawful = is.lawful; written_lawful = is.written_lawful };
}

pub changing_keeps : (table : ℕ) (key : Value) (was : Was) → Keeps (with_change table key was)
changing_keeps table key was = record {
  number = λ w. refl;
  session = λ w. refl;
  lawful = λ w is. record { session_below = is.session_below; lawful = is.lawful; written_lawful = is.written_lawful };
}

pub unasking_keeps : Keeps unasked
unasking_keeps = record {
  number = λ w. refl;
  session = λ w. refl;
  lawful = λ w is. record { session_below = is.session_below; lawful = is.lawful; written_lawful = is.written_lawful };
}

pub retracting_keeps : Keeps without_change
retracting_keeps = record {
  number = λ w. refl;
  session = λ w. refl;
  lawful = λ w is. record { session_below = is.session_below; lawful = is.lawful; written_lawful = is.written_lawful };
}

pub going_back_keeps : (name : List ℕ) → Keeps (going_back_to name)
going_back_keeps name = record {
  number = λ w. refl;
  session = λ w. refl;
  lawful = λ w is. record { session_below = is.session_below; lawful = is.lawful; written_lawful = is.written_lawful };
}

pub stepping_keeps : Keeps with_step_back
stepping_keeps = record {
  number = λ w. refl;
  session = λ w. refl;
  lawful = λ w is. record { session_below = is.session_below; lawful = is.lawful; written_lawful = is.written_lawful };
}

pub undo_keeps : (undo : Undo) → Keeps (with_undo undo)
undo_keeps undo = record {
  number = λ w. refl;
  session = λ w. refl;
  lawful = λ w is. record { session_below = is.session_below; lawful = is.lawful; written_lawful = is.written_lawful };
}

pub giving_keeps : (table : Table) → MayBeGiven table → Keeps (with_table table)
giving_keeps table may = record {
  number = λ w. refl;
  session = λ w. refl;
  lawful = λ w is. record { session_below = is.session_below; lawful = (may, is.lawful); written_lawful = is.written_lawful };
}

pub writing_keeps : (table : Table) → MayBeGiven table → Keeps (with_written table)
writing_keeps table may = record {
  number = λ w. refl;
  session = λ w. refl;
  lawful = λ w is. record { session_below = is.session_below; lawful = is.lawful; written_lawful = (may, is.written_lawful) };
}

-- of lawful tables those that are left are so
lawful_left : (keys : List Value) (tables : List Table) → AllMayBeGiven tables → AllMayBeGiven (tables_left keys tables)
lawful_left keys [] all = tt
lawful_left keys (table ∷ tables) all = at (not (is_one_of keys (table_key table.name))) (lawful_left keys tables all.1)
  where
    at : (b : Bool) → AllMayBeGiven (tables_left keys tables)
        → AllMayBeGiven (cond b (table ∷ tables_left keys tables) (tables_left keys tables))
    at true more = (all.0, more)
    at false more = more

pub dropping_keeps : (keys : List Value) → Keeps (without_written keys)
dropping_keeps keys = record {
  number = λ w. refl;
  session = λ w. refl;
  lawful = λ w is. record {
    session_below = is.session_below;
    lawful = is.lawful;
    written_lawful = lawful_left keys w.written is.written_lawful;
  };
}

nothing_keeps : Keeps (λ w. w)
nothing_keeps = record { number = λ w. refl; session = λ w. refl; lawful = λ w is. is }

module _ (works : List Working) (t place : ℕ) (made : Working → Working) (keeps : Keeps made)
    (was now : Working) (apart : AreApart works) (is : IsPlaceOf works t place)
    (value : was ≡ get_or works place was) where
  pub place_set : now ≡ made was → set works place now ≡ with_work t made works
  place_set made_is = ap (set works place) (made_is ∙ ap made value) ∙ set_is_with works t place made was apart is

  pub set_is_apart : now ≡ made was → AreApart (set works place now)
  set_is_apart made_is = subst AreApart (sym (place_set made_is))
      (with_apart t made keeps.number keeps.session keeps.lawful works apart)

-- the same where the call may want memory
module _ (works : List Working) (t place : ℕ) (made : Working → Working) (keeps : Keeps made)
    (was now : Working) (apart : AreApart works) (is : IsPlaceOf works t place)
    (value : was ≡ get_or works place was) where
  pub maybe_set : (result : Result (Unit {0}) Memory) → OnOk result (now ≡ made was)
      → OnOk result (set works place now ≡ with_work t made works)
  maybe_set (Ok x) ok = place_set works t place made keeps was now apart is value ok
  maybe_set (Err e) ok = tt

  pub maybe_apart : (result : Result (Unit {0}) Memory) → OnOk result (now ≡ made was)
      → OnErr result (now ≡ was) → AreApart (set works place now)
  maybe_apart (Ok x) ok err = set_is_apart works t place made keeps was now apart is value ok
  maybe_apart (Err e) ok err = set_is_apart works t place (λ w. w) nothing_keeps was now apart is value err

-- it has no place
pub untouched : (works view : List Working) (t : ℕ) (made : Working → Working) → works ≡ view
    → IsNowhere works t → view ≡ with_work t made view
untouched works view t made same nowhere = subst (λ (ws : List Working). ws ≡ with_work t made ws) same
    (sym (none_untouched works t made (nowhere_none works t nowhere)))

-- what a call made of the fields, said of the view
pub on_view : (result : Result (Unit {0}) Memory) (new works view : List Working) (t : ℕ)
    (made : Working → Working) → works ≡ view → OnOk result (new ≡ with_work t made works)
    → OnOk result (new ≡ with_work t made view)
on_view result new works view t made same ok =
    subst (λ (ws : List Working). OnOk result (new ≡ with_work t made ws)) same ok

-- what stands at a place is lawful
pub lawful_at : (works : List Working) (place : ℕ) (d : Working) → AreApart works → place < length works
    → IsWork (get_or works place d)
lawful_at [] place d apart inside = absurd (omega (arith, inside))
lawful_at (w ∷ works) zero d apart inside = apart.2
lawful_at (w ∷ works) (suc place) d apart inside = lawful_at works place d apart.3 (omega (arith, inside))

-- a table that was given is lawful
given_lawful : (tables : List Table) (name : List ℕ) (table : Table) → AllMayBeGiven tables
    → given_in tables name ≡ Some table → MayBeGiven table
given_lawful [] name table all is = absurd cc
given_lawful (x ∷ tables) name table all is = at (same_name name x.name) is (given_lawful tables name table all.1)
  where
    some : (a b : Table) → Some a ≡ Some b → a ≡ b
    some a b e = cc

    at : (b : Bool) → cond b (Some x) (given_in tables name) ≡ Some table
        → (given_in tables name ≡ Some table → MayBeGiven table) → MayBeGiven table
    at true is more = subst MayBeGiven (some x table is) all.0
    at false is more = more is

-- and so is one that a work tells
pub told_lawful : (w : Working) (name : List ℕ) (found : Option (Bor Table)) → IsWork w
    → option_copied found ≡ given_in w.tables name → IfSome found (λ table. MayBeGiven table.now)
told_lawful w name None is told = tt
told_lawful w name (Some table) is told = given_lawful w.tables name table.now is.lawful (sym told)

-- a table that was written into is lawful
written_table : (tables : List Table) (number : ℕ) (table : Table) → AllMayBeGiven tables
    → written_in tables number ≡ Some table → MayBeGiven table
written_table [] number table all is = absurd cc
written_table (x ∷ tables) number table all is = at (x.pointer.0 == number) is (written_table tables number table all.1)
  where
    some : (a b : Table) → Some a ≡ Some b → a ≡ b
    some a b e = cc

    at : (b : Bool) → cond b (Some x) (written_in tables number) ≡ Some table
        → (written_in tables number ≡ Some table → MayBeGiven table) → MayBeGiven table
    at true is more = subst MayBeGiven (some x table is) all.0
    at false is more = more is

-- and so is one that a work tells
pub written_lawful : (w : Working) (number : ℕ) (found : Option (Bor Table)) → IsWork w
    → option_copied found ≡ written_in w.written number → IfSome found (λ table. MayBeGiven table.now)
written_lawful w number None is told = tt
written_lawful w number (Some table) is told = written_table w.written number table.now is.written_lawful (sym told)
