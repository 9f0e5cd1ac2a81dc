-- Keys of rows, and records that speak for them, one after another.
use Rattle.std.proofs.Common.{◌≡◌, ◌≢◌, ◌∙◌, ℕ, Bool, true, false, Option, None, is_some, not, arith, List, [], ◌∷◌, ◌++◌, ◌+◌, Result, Ok, Err, ap, refl, subst, sym}
use Rattle.std.specs.Prelude.{MatchResult, length, map}
use Rattle.mg_base.specs.Disk.{Meaning}
use Rattle.mg_base.specs.declared.numbers.RecId.{RecId}
use Rattle.mg_base.specs.declared.numbers.TxNo.{TxNo}
use Rattle.mg_core.specs.declared.parts.Core.{Core}
use Rattle.mg_catalog.specs.RowsSaid.{column_rows}
use Rattle.mg_image.specs.Form.{Row}
use Rattle.mg_model.specs.Catalog.{catalog_shape}
use Rattle.mg_model.specs.declared.refusal.Refusal.{Refusal}
use Rattle.mg_table_batch.specs.Filling.{rows_at}
use Rattle.mg_value.specs.declared.shape.Column.{Column}
use Rattle.mg_value.specs.declared.shape.Shape.{Shape}
use Rattle.mg_value.specs.declared.value.Value.{Value}
use Rattle.mg_table_making.specs.Keys.{AreFree, AreFreeKeys, FailsColumnKey, FailsColumnKeys, FailsFree, FailsOwnKey, HaveKeys, IsFreeKey, column_taken, first_taken, free_more, free_none, later_taken, own_taken}
use Rattle.mg_table_making.proofs.KeepLemmas.{append_none, append_one}

-- ---- the keys of rows

pub keys_more : (f : Row → Value) (rows rest later : List Row) (row : Row) (had new : List Value) (key : Value)
    → map f rows ≡ had ++ map f rest → rest ≡ row ∷ later → key ≡ f row → new ≡ had ++ key ∷ []
    → map f rows ≡ new ++ map f later
keys_more f rows rest later row had new key further is keyed more = further
    ∙ (ap (λ (rs : List Row). had ++ map f rs) is
    ∙ (ap (λ (k : Value). had ++ k ∷ map f later) (sym keyed)
    ∙ (sym (append_one had (map f later) key) ∙ ap (λ (ks : List Value). ks ++ map f later) (sym more))))

pub keys_all : (f : Row → Value) (rows rest : List Row) (had : List Value) → map f rows ≡ had ++ map f rest
    → rest ≡ [] → had ≡ map f rows
keys_all f rows rest had further none =
    sym (further ∙ (ap (λ (rs : List Row). had ++ map f rs) none ∙ append_none had))

pub no_rows_left : (rows : List Row) → length rows ≡ 0 → rows ≡ []
no_rows_left [] none = refl
no_rows_left (row ∷ rows) none = absurd (omega (arith, none))

-- each row that says a table has its key
columns_have : (name : List ℕ) (key place : ℕ) (columns : List Column)
    → HaveKeys catalog_shape (column_rows name key place columns)
columns_have name key place [] = tt
columns_have name key place (column ∷ columns) =
    ((λ same. absurd cc), columns_have name key (place + 1) columns)

pub rows_have : (name : List ℕ) (shape : Shape) (page : ℕ) → HaveKeys catalog_shape (rows_at name shape page)
rows_have name shape page = ((λ same. absurd cc), columns_have name shape.key 0 shape.columns)

pub first_has : (shape : Shape) (rest later : List Row) (row : Row) → rest ≡ row ∷ later → HaveKeys shape rest
    → HaveKeys shape (row ∷ later)
first_has shape rest later row is have = subst (HaveKeys shape) is have

-- ---- keys, one after another

module _ {D : Type 0} (m : Meaning D) (t : TxNo) (count : ℕ) (all rest later : List Value) (key : Value)
    (a b : Core D) (is : rest ≡ key ∷ later) where
  pub free_step : (c : Core D) → IsFreeKey m b c t key
      → ((new : Core D) → AreFreeKeys m t rest b new → AreFreeKeys m t all a new)
      → (new : Core D) → AreFreeKeys m t later c new → AreFreeKeys m t all a new
  free_step c free further new more = further new (subst (λ (ks : List Value). AreFreeKeys m t ks b new) (sym is)
      (free_more key later b c new free more))

  pub fails_step : (place next : ℕ) (c : Core D) → next ≡ place + 1 → IsFreeKey m b c t key
      → ((new : Core D) (refusal : Refusal) → FailsColumnKeys m t count new refusal place rest b
      → FailsColumnKeys m t count new refusal 1 all a)
      → (new : Core D) (refusal : Refusal) → FailsColumnKeys m t count new refusal next later c
      → FailsColumnKeys m t count new refusal 1 all a
  fails_step place next c up free further new refusal more = further new refusal
      (subst (λ (ks : List Value). FailsColumnKeys m t count new refusal place ks b) (sym is)
      (later_taken place key later b c free
      (subst (λ (n : ℕ). FailsColumnKeys m t count new refusal n later c) up more)))

  pub fails_here : (place : ℕ) (new : Core D) (refusal : Refusal)
      → ((new : Core D) (refusal : Refusal) → FailsColumnKeys m t count new refusal place rest b
      → FailsColumnKeys m t count new refusal 1 all a)
      → FailsColumnKey m b new t place count key refusal → FailsColumnKeys m t count new refusal 1 all a
  fails_here place new refusal further fails = further new refusal
      (subst (λ (ks : List Value). FailsColumnKeys m t count new refusal place ks b) (sym is)
      (first_taken place key later b fails))

pub free_all : {D : Type 0} (m : Meaning D) (t : TxNo) (all rest : List Value) (a b : Core D) → rest ≡ []
    → ((new : Core D) → AreFreeKeys m t rest b new → AreFreeKeys m t all a new) → AreFreeKeys m t all a b
free_all m t all rest a b none further =
    further b (subst (λ (ks : List Value). AreFreeKeys m t ks b b) (sym none) (free_none b))

-- ---- the table's own key, and those of its columns

pub own_fails : {D : Type 0} (m : Meaning D) (old new : Core D) (t : TxNo) (wait : Bool) (count : ℕ)
    (keys columns : List Value) (own : Value) (refusal : Refusal) → keys ≡ own ∷ columns
    → FailsOwnKey m old new t wait count own refusal → count ≡ length keys
    → FailsFree m old new t wait (length keys) refusal keys
own_fails m old new t wait count keys columns own refusal is fails many =
    subst (λ (n : ℕ). FailsFree m old new t wait n refusal keys) many
    (subst (λ (ks : List Value). FailsFree m old new t wait count refusal ks) (sym is) (own_taken own columns fails))

pub columns_then : {D : Type 0} (m : Meaning D) (old read new : Core D) (t : TxNo) (wait : Bool) (count : ℕ)
    (keys columns : List Value) (own : Value) (result : Result (Unit {0}) Refusal) → keys ≡ own ∷ columns
    → IsFreeKey m old read t own → count ≡ length keys
    → MatchResult result (λ _. AreFreeKeys m t columns read new)
    (λ refusal. FailsColumnKeys m t count new refusal 1 columns read)
    → MatchResult result (λ _. AreFree m t keys old new)
    (λ refusal. FailsFree m old new t wait (length keys) refusal keys)
columns_then m old read new t wait count keys columns own (Ok x) is free many more =
    subst (λ (ks : List Value). AreFree m t ks old new) (sym is) (free_more own columns old read new free more)
columns_then m old read new t wait count keys columns own (Err refusal) is free many fails =
    subst (λ (n : ℕ). FailsFree m old new t wait n refusal keys) many
    (subst (λ (ks : List Value). FailsFree m old new t wait count refusal ks) (sym is)
    (column_taken own columns (record { read = read; free = free; fails = fails })))

-- a record speaks
pub some_spoken : (rec : Option RecId) (answer : Bool) → is_some rec ≡ not answer → answer ≡ false → rec ≢ None
some_spoken rec answer is told none =
    let h : false ≡ true = sym (ap (λ (r : Option RecId). is_some r) none) ∙ (is ∙ ap not told) in absurd cc

-- no key is left
pub none_free : {D : Type 0} (m : Meaning D) (t : TxNo) (keys : List Value) (core : Core D) → length keys ≡ 0
    → AreFree m t keys core core
none_free m t [] core none = free_none core
none_free m t (key ∷ keys) core none = absurd (omega (arith, none))
