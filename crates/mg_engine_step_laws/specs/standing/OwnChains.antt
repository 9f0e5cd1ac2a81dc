-- What the versions of a key tell of a transaction's own change: where it has one, its version is the newest, and
-- gives the row of that.
use Rattle.mg_base.specs.declared.transaction.TxState.TheVariants.{Active, Committed}
use Rattle.mg_generation_laws.specs.GarbageLaws.{BeginAlike, begin_alike, begins_so, both_empty, erased_all}
use Rattle.mg_generation_laws.specs.Generations.{AreGenerations, Generation, is_newest_by, newest_row}
use Rattle.mg_generation_laws.specs.Kept.{IsErasedForAll, StandFor}
use Rattle.mg_image.specs.Histories.{newest_at, row_change}
use Rattle.mg_model.specs.Answers.{is_open}
use Rattle.mg_model.specs.Changes.{Cells, has_change, is_at, row_at}
use Rattle.mg_model.specs.History.{Entries}
use Rattle.mg_model.specs.Machine.{own, state_of}
use Rattle.mg_model.specs.declared.change.Change.{Change}
use Rattle.mg_model.specs.declared.opening.Opening.{Opening}
use Rattle.mg_value.specs.declared.value.Value.{Value}
use Rattle.std.proofs.Common.{Bool, List, None, Option, Some, [], ap, false, if◌then◌else◌, is_some, refl, sym, true, ℕ, ◌++◌, ◌∙◌, ◌∷◌, ◌≡◌}
use Rattle.std.proofs.lemmas.Bool.{false≢true, ne_eqb}
use Rattle.mg_image.specs.Records as records

-- a deletion that all see is of a committed transaction
not_own : (o : Opening) (h : Entries) (t : ℕ) (gs : List Generation) → state_of o h t ≡ Active
    → IsErasedForAll o h gs → is_newest_by t gs ≡ false
not_own o h t [] active none = absurd none
not_own o h t (g ∷ gs) active (seen, none) = ne_eqb g.writer t (λ same.
    let both : Active ≡ Committed = sym active ∙ (ap (state_of o h) (sym same) ∙ seen.committed) in absurd cc)

-- The own change at a key, by its versions.
pub record IsOwnTold (o : Opening) (h : Entries) (t : ℕ) (name : List ℕ) (key : Value) (chain : List Generation)
    : Type 0 where
  pub has_ : has_change (own o h t) name key ≡ is_newest_by t chain
  pub gives : is_newest_by t chain ≡ true → row_at (own o h t) name key ≡ newest_row chain

pub own_told : (o : Opening) (h : Entries) (t : ℕ) (name : List ℕ) (key : Value) (chain : List Generation)
    → state_of o h t ≡ Active → StandFor o h name key chain → IsOwnTold o h t name key chain
own_told o h t name key chain active stand = by stand.are (begin_alike o h stand.all chain stand.thinned)
  where
    open_one : is_open (state_of o h t) ≡ true
    open_one = ap is_open active

    nothing_own : is_newest_by t stand.all ≡ false → is_newest_by t chain ≡ false
        → AreGenerations o h name key stand.all → IsOwnTold o h t name key chain
    nothing_own all_none chain_none are = record {
      has_ = are.open_ t open_one ∙ (all_none ∙ sym chain_none);
      gives = λ newest. absurd (false≢true (sym chain_none ∙ newest));
    }

    by : AreGenerations o h name key stand.all → BeginAlike o h stand.all chain → IsOwnTold o h t name key chain
    by are (begins_so g gs cs all_is chain_is) = record {
      has_ = are.open_ t open_one ∙ (ap (is_newest_by t) all_is ∙ sym (ap (is_newest_by t) chain_is));
      gives = λ newest. are.gives t open_one
          (ap (is_newest_by t) all_is ∙ (sym (ap (is_newest_by t) chain_is) ∙ newest))
          ∙ (ap newest_row all_is ∙ sym (ap newest_row chain_is));
    }
    by are (both_empty all_is chain_is) = nothing_own (ap (is_newest_by t) all_is) (ap (is_newest_by t) chain_is) are
    by are (erased_all gone chain_is) =
        nothing_own (not_own o h t stand.all active gone) (ap (is_newest_by t) chain_is) are

-- ---- changes, as what is newest at a key

-- a list has a change at a key where the newest there is one
pub change_there : (cs : List Change) (name : List ℕ) (key : Value)
    → has_change cs name key ≡ is_some (newest_at cs name key)
change_there [] name key = refl
change_there (c ∷ cs) name key = at (is_at c name key) (change_there cs name key)
  where
    at : (b : Bool) → has_change cs name key ≡ is_some (newest_at cs name key)
        → (if b then true else has_change cs name key)
        ≡ is_some (if b then Some (row_change c.row) else newest_at cs name key)
    at true more = refl
    at false more = more

-- the row that a change gives
abbrev pub row_of : Option records.Change → Option Cells
row_of None = None
row_of (Some (records.Puts row)) = Some row
row_of (Some records.Erases) = None

pub row_back : (row : Option Cells) → row_of (Some (row_change row)) ≡ row
row_back None = refl
row_back (Some row) = refl

pub row_there : (cs : List Change) (name : List ℕ) (key : Value)
    → row_at cs name key ≡ row_of (newest_at cs name key)
row_there [] name key = refl
row_there (c ∷ cs) name key = at (is_at c name key) (row_there cs name key)
  where
    at : (b : Bool) → row_at cs name key ≡ row_of (newest_at cs name key)
        → (if b then c.row else row_at cs name key)
        ≡ row_of (if b then Some (row_change c.row) else newest_at cs name key)
    at true more = sym (row_back c.row)
    at false more = more

-- the newest of two lists is that of the second, where the first has none
pub newest_second : (cs rest : List Change) (name : List ℕ) (key : Value) → newest_at cs name key ≡ None
    → newest_at (cs ++ rest) name key ≡ newest_at rest name key
newest_second [] rest name key none = refl
newest_second (c ∷ cs) rest name key none = at (is_at c name key) none (newest_second cs rest name key)
  where
    at : (b : Bool) → (if b then Some (row_change c.row) else newest_at cs name key) ≡ None
        → (newest_at cs name key ≡ None → newest_at (cs ++ rest) name key ≡ newest_at rest name key)
        → (if b then Some (row_change c.row) else newest_at (cs ++ rest) name key) ≡ newest_at rest name key
    at true is more = absurd cc
    at false is more = more is

-- and none is left where both have none
pub none_second : (cs rest : List Change) (name : List ℕ) (key : Value)
    → newest_at (cs ++ rest) name key ≡ None → newest_at rest name key ≡ None
none_second [] rest name key none = none
none_second (c ∷ cs) rest name key none = at (is_at c name key) none (none_second cs rest name key)
  where
    at : (b : Bool) → (if b then Some (row_change c.row) else newest_at (cs ++ rest) name key) ≡ None
        → (newest_at (cs ++ rest) name key ≡ None → newest_at rest name key ≡ None)
        → newest_at rest name key ≡ None
    at true is more = absurd cc
    at false is more = more is
