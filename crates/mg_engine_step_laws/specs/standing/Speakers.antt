-- Which record speaks for a key when a history begins: the one that takes it.
use Rattle.std.proofs.Common.{◌≡◌, ◌≢◌, ◌⊎◌, inl, inr, ◌&&◌, ◌||◌, ℕ, Bool, true, false, List, [], ◌∷◌, Option, None, Some, refl, sym, ap, ◌∙◌, subst}
use Rattle.std.proofs.lemmas.Bool.{false≢true}
use Rattle.std.specs.Cmp.Lexicographic.{same_text}
use Rattle.std.specs.Prelude.{if◌then◌else◌, is_some}
use Rattle.mg_base.specs.declared.numbers.RecId.{RecId}
use Rattle.mg_base.specs.declared.transaction.TxState.{TxState}
use Rattle.mg_value.specs.declared.value.Value.{Value}
use Rattle.mg_model.specs.Changes.{same_key, same_name}
use Rattle.mg_model.specs.Legal.{is_limbo}
use Rattle.mg_model.specs.ReadLaws.{same_name_itself}
use Rattle.mg_model.specs.declared.table.Table.{Table}
use Rattle.mg_catalog.specs.KeyLaws.{keys_equal, same_key_self}
use Rattle.mg_image_overlay_laws.specs.kept.HeldSome.{limbo_true}
use Rattle.mg_image_overlay_laws.specs.records.Places.{HasPlace, has_place, places_of}
use Rattle.mg_image.specs.declared.entry.Entry.{Entry}
use Rattle.mg_image.specs.Form.{Form, Pages, Row}
use Rattle.mg_image.specs.RecordRules.{Facts, IsInLimbo, TakesKey, committed_in, table_in}
use Rattle.mg_image.specs.Records.{Reading, record_key, shown, writer}
use Rattle.mg_image.specs.Sound.{IsSoundBy, facts_by}
use Rattle.mg_image.specs.Tables.{Layout, stands_of}
use Rattle.mg_image_overlay_laws.specs.tables.TableOwners.{one_of_name}

-- ---- a record that takes a key

-- whether the newest of these versions is of a transaction in limbo
abbrev pub is_in_limbo : (ℕ → TxState) → List Entry → Bool
is_in_limbo state [] = false
is_in_limbo state (e ∷ es) = is_limbo (state (writer e))

-- whether a record with these versions takes its key
abbrev pub takes_key : Facts → List Entry → Bool
takes_key f es = is_some (shown (committed_in f) es) || is_in_limbo f.state es

-- whether a record of this table does so under a name and a key
abbrev pub takes_under : Facts → List ℕ → Value → List Entry → Option Table → Bool
takes_under f name key es None = false
takes_under f name key es (Some table) =
    same_name table.name name && (same_key (record_key table es) key && takes_key f es)

abbrev pub takes_here : Facts → Reading → List ℕ → Value → RecId → Bool
takes_here f r name key p = takes_under f name key (r p) (table_in f p)

-- A record of a table of this name takes this key.
pub record TakesHere (f : Facts) (r : Reading) (name : List ℕ) (key : Value) (p : RecId) : Type 0 where
  pub table : Table
  pub of_table : table_in f p ≡ Some table
  pub named : table.name ≡ name
  pub keyed : record_key table (r p) ≡ key
  pub takes : TakesKey f (r p)

both_true : (a b : Bool) → (a && b) ≡ true → (a ≡ true) × (b ≡ true)
both_true true b is = (refl, is)
both_true false b is = absurd (false≢true is)

takes_from : (f : Facts) (es : List Entry) → takes_key f es ≡ true → TakesKey f es
takes_from f es is = at (shown (committed_in f) es) refl is
  where
    limbo : (es : List Entry) → is_in_limbo f.state es ≡ true → IsInLimbo f es
    limbo [] none = absurd (false≢true none)
    limbo (e ∷ es) its = limbo_true (f.state (writer e)) its

    at : (x : Option Row) → shown (committed_in f) es ≡ x
        → (is_some x || is_in_limbo f.state es) ≡ true → TakesKey f es
    at (Some row) shows is_ = inl (row, shows)
    at None shows is_ = inr (limbo es is_)

takes_to : (f : Facts) (es : List Entry) → TakesKey f es → takes_key f es ≡ true
takes_to f es (inl (row, shows)) = rw shows refl
takes_to f [] (inr limbo) = absurd limbo
takes_to f (e ∷ es) (inr limbo) =
    let its : is_limbo (f.state (writer e)) ≡ true = ap is_limbo limbo in
    rw its (either (is_some (shown (committed_in f) (e ∷ es))))
  where
    either : (c : Bool) → (c || true) ≡ true
    either true = refl
    either false = refl

-- a record that takes no key shows nothing, and has no newest version in limbo
pub takes_not : (f : Facts) (es : List Entry) → takes_key f es ≡ false
    → (shown (committed_in f) es ≡ None) × (is_in_limbo f.state es ≡ false)
takes_not f es is = at (shown (committed_in f) es) refl is
  where
    at : (x : Option Row) → shown (committed_in f) es ≡ x
        → (is_some x || is_in_limbo f.state es) ≡ false
        → (shown (committed_in f) es ≡ None) × (is_in_limbo f.state es ≡ false)
    at (Some row) shows is_ = absurd (false≢true (sym is_))
    at None shows is_ = (shows, is_)

pub here_from : (f : Facts) (r : Reading) (name : List ℕ) (key : Value) (p : RecId)
    → takes_here f r name key p ≡ true → TakesHere f r name key p
here_from f r name key p is = at (table_in f p) refl is
  where
    at : (t : Option Table) → table_in f p ≡ t → takes_under f name key (r p) t ≡ true
        → TakesHere f r name key p
    at None of is_ = absurd (false≢true is_)
    at (Some table) of is_ =
        let tests = both_true (same_name table.name name)
        (same_key (record_key table (r p)) key && takes_key f (r p)) is_ in
        let more = both_true (same_key (record_key table (r p)) key) (takes_key f (r p)) tests.1 in
        record {
          table = table;
          of_table = of;
          named = same_text table.name name (sym tests.0);
          keyed = keys_equal (record_key table (r p)) key more.0;
          takes = takes_from f (r p) more.1;
        }

pub here_to : (f : Facts) (r : Reading) (p : RecId) (table : Table) → table_in f p ≡ Some table
    → takes_key f (r p) ≡ true → takes_here f r table.name (record_key table (r p)) p ≡ true
here_to f r p table of takes =
    ap (takes_under f table.name (record_key table (r p)) (r p)) of
    ∙ rw (same_name_itself table.name, same_key_self (record_key table (r p)), takes) refl

pub here_is : (f : Facts) (r : Reading) (name : List ℕ) (key : Value) (p : RecId)
    → TakesHere f r name key p → takes_here f r name key p ≡ true
here_is f r name key p here =
    subst (λ (n : List ℕ). takes_here f r n key p ≡ true) here.named
    (subst (λ (k : Value). takes_here f r here.table.name k p ≡ true) here.keyed
    (here_to f r p here.table here.of_table (takes_to f (r p) here.takes)))

-- it has versions
pub takes_some : (f : Facts) (r : Reading) (name : List ℕ) (key : Value) (p : RecId)
    → TakesHere f r name key p → r p ≢ []
takes_some f r name key p here is = not_none (r p) is here.takes
  where
    not_none : (es : List Entry) → es ≡ [] → TakesKey f es → ⊥
    not_none [] none (inl (row, shows)) = cc
    not_none [] none (inr limbo) = limbo
    not_none (e ∷ es) none takes = cc

-- ---- the first of some places that passes a test

abbrev pub find_place : (RecId → Bool) → List RecId → Option RecId
find_place test [] = None
find_place test (p ∷ ps) = if test p then Some p else find_place test ps

pub found_passes : (test : RecId → Bool) (ps : List RecId) (p : RecId) → find_place test ps ≡ Some p
    → test p ≡ true
found_passes test [] p is = absurd cc
found_passes test (q ∷ ps) p is = at (test q) refl is (found_passes test ps p)
  where
    at : (b : Bool) → test q ≡ b → (if b then Some q else find_place test ps) ≡ Some p
        → (find_place test ps ≡ Some p → test p ≡ true) → test p ≡ true
    at true passes is_ more = let same : q ≡ p = cc in ap test (sym same) ∙ passes
    at false fails is_ more = more is_

pub none_passes : (test : RecId → Bool) (ps : List RecId) (p : RecId) → find_place test ps ≡ None
    → HasPlace ps p → test p ≡ false
none_passes test [] p is has = absurd has
none_passes test (q ∷ ps) p is has = at (test q) refl is has (none_passes test ps p)
  where
    at : (b : Bool) → test q ≡ b → (if b then Some q else find_place test ps) ≡ None
        → (q ≡ p) ⊎ HasPlace ps p
        → (find_place test ps ≡ None → HasPlace ps p → test p ≡ false) → test p ≡ false
    at true passes is_ has_ more = absurd cc
    at false fails is_ (inl same) more = ap test (sym same) ∙ fails
    at false fails is_ (inr later) more = more is_ later

-- ---- one record takes a key

module _ (form : Form) (size : ℕ) (state : ℕ → TxState) (pages : Pages) (layout : Layout) (r : Reading)
    (sound : IsSoundBy form size state pages layout r) where
  abbrev f : Facts
  f = facts_by state pages layout

  pub one_here : (name : List ℕ) (key : Value) (p q : RecId) → TakesHere f r name key p
      → TakesHere f r name key q → p ≡ q
  one_here name key p q first second =
      let same : first.table ≡ second.table = one_of_name form size state pages layout r sound p q
      first.table second.table first.of_table second.of_table (first.named ∙ sym second.named) in
      let of_q : table_in f q ≡ Some first.table = second.of_table ∙ ap Some (sym same) in
      sound.records.keys p q first.table first.of_table of_q first.takes second.takes
      (first.keyed ∙ (sym second.keyed ∙ ap (λ (t : Table). record_key t (r q)) (sym same)))

  -- it begins at one of the places
  pub here_placed : (name : List ℕ) (key : Value) (p : RecId) → TakesHere f r name key p
      → HasPlace (places_of pages (stands_of layout)) p
  here_placed name key p here = has_place form.coding f pages (stands_of layout) r sound.records
      (λ n. refl) p here.table here.of_table (takes_some f r name key p here)

  -- the speaker of a key is the record that takes it
  abbrev pub speaker : List ℕ → Value → Option RecId
  speaker name key = find_place (takes_here f r name key) (places_of pages (stands_of layout))

  pub speaker_takes : (name : List ℕ) (key : Value) (p : RecId) → speaker name key ≡ Some p
      → TakesHere f r name key p
  speaker_takes name key p is = here_from f r name key p
      (found_passes (takes_here f r name key) (places_of pages (stands_of layout)) p is)

  -- where there is none, none takes it
  pub none_takes : (name : List ℕ) (key : Value) (p : RecId) → speaker name key ≡ None
      → TakesHere f r name key p → ⊥
  none_takes name key p is here = false≢true (sym (none_passes (takes_here f r name key)
      (places_of pages (stands_of layout)) p is (here_placed name key p here))
      ∙ here_is f r name key p here)

  -- whoever takes it is the speaker
  pub taker_speaks : (name : List ℕ) (key : Value) (p : RecId) → TakesHere f r name key p
      → speaker name key ≡ Some p
  taker_speaks name key p here = at (speaker name key) refl
    where
      at : (x : Option RecId) → speaker name key ≡ x → speaker name key ≡ Some p
      at None is = absurd (none_takes name key p is here)
      at (Some q) is = is ∙ ap Some (one_here name key q p (speaker_takes name key q is) here)
