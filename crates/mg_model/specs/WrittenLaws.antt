-- What a transaction wrote it reads until it writes the key again or is taken back.
use Rattle.std.specs.Prelude.{◌≡◌, ℕ, ◌==◌, ◌||◌, not, Bool, true, false, List, [], ◌∷◌, ◌++◌, Option, Some, None, cond, refl}
use Rattle.std.proofs.Common.{sym, ◌∙◌, ap}
use Rattle.std.proofs.lemmas.Bool.{both_ways, false_from_ne_true}
use Rattle.mg_value.specs.declared.value.Value.{Value}
use Rattle.mg_model.specs.declared.change.Change.{Change}
use Rattle.mg_model.specs.declared.change.Deed.{Deed}
use Rattle.mg_model.specs.declared.change.Deed.TheVariants.{Changed, Marked, Saved}
use Rattle.mg_model.specs.declared.opening.Opening.{Opening}
use Rattle.mg_model.specs.Catalog.{CatalogRows, key_in}
use Rattle.mg_model.specs.Changes.{is_at, has_change, row_at}
use Rattle.mg_model.specs.History.{Entry, Entries, Point, Effect, Begins, Looks, Makes, Gives, Marks, Saves, TakesBack, Ends, Nothing, effect_of}
use Rattle.mg_model.specs.Machine.{deeds_by, changes_in, steps, own, view}
use Rattle.mg_model.specs.Answers.{told, catalog_of}
use Rattle.mg_model.specs.Effects.{has_deed, deeds_back, deeds_left, points_after, points_since, goes_within, StaysWithin}
use Rattle.mg_model.specs.RowLaws.{row_at-append, has_change-append}
use Rattle.mg_model.specs.ReadLaws.{reads_own, is_at_itself}
use Rattle.mg_model.specs.BackLaws.{points_of, has_deed-points_of, points_of-back, deeds_left-append}
use Rattle.mg_model.specs.DeedLaws.{deeds_after, deeds_after_entry}
use Rattle.mg_model.specs.HinderLaws.{left_had}

-- the change that an effect makes of a transaction, if it makes one; `catalog` is what it sees of
-- the catalog
abbrev pub change_by : Effect → ℕ → CatalogRows → Option Change
change_by (Begins u mode) t catalog = None
change_by (Looks u) t catalog = None
change_by (Makes u table row) t catalog =
    cond (u == t)
    (Some (record { table = table; key = key_in catalog table row; row = Some row })) None
change_by (Gives u table key row) t catalog =
    cond (u == t) (Some (record { table = table; key = key; row = row })) None
change_by (Marks u) t catalog = None
change_by (Saves u name) t catalog = None
change_by (TakesBack u point) t catalog = None
change_by (Ends u end) t catalog = None
change_by Nothing t catalog = None

-- a change, if there is one, is of this key
abbrev pub is_maybe_at : Option Change → List ℕ → Value → Bool
is_maybe_at None table key = false
is_maybe_at (Some c) table key = is_at c table key

-- in entries after a history a transaction doesn't write a key
abbrev pub LeavesKey : Opening → Entries → ℕ → List ℕ → Value → Entries → Type 0
LeavesKey o h t table key [] = Unit {0}
LeavesKey o h t table key (e ∷ since) =
    (is_maybe_at (change_by (effect_of e) t (catalog_of (told o (since ++ h)) t)) table key ≡ false)
    × LeavesKey o h t table key since

-- deeds stand above older ones, with these points and no change of a key
record Above (now olds points : List Deed) (table : List ℕ) (key : Value) : Type 0 where
  news : List Deed
  front : now ≡ news ++ olds
  set_since : points_of news ≡ points
  free : has_change (changes_in news) table key ≡ false

left_free : (point : Point) (deeds : List Deed) (table : List ℕ) (key : Value)
    → has_change (changes_in deeds) table key ≡ false
    → has_change (changes_in (deeds_back point deeds)) table key ≡ false
left_free point deeds table key free =
    false_from_ne_true (has_change (changes_in (deeds_back point deeds)) table key)
    (λ has. both_ways (has_change (changes_in deeds) table key) free
    (left_had point deeds table key has))

module _ (olds : List Deed) (table : List ℕ) (key : Value) where
  above_change : (b : Bool) (c : Change) (now points : List Deed)
      → is_maybe_at (cond b (Some c) None) table key ≡ false → Above now olds points table key
      → Above (cond b (Changed c ∷ now) now) olds points table key
  above_change true c now points other it = record {
    news = Changed c ∷ it.news;
    front = ap (λ deeds. Changed c ∷ deeds) it.front;
    set_since = it.set_since;
    free = rw other it.free;
  }
  above_change false c now points other it = it

  above_back : (b : Bool) (point : Point) (now points : List Deed)
      → (not b || has_deed point points) ≡ true → Above now olds points table key
      → Above (cond b (deeds_left point now) now) olds (cond b (deeds_back point points) points)
      table key
  above_back true point now points has it =
      let has_new : has_deed point it.news ≡ true =
      sym (has_deed-points_of point it.news) ∙ ap (has_deed point) it.set_since ∙ has in
      record {
        news = deeds_back point it.news;
        front = ap (deeds_left point) it.front ∙ deeds_left-append point it.news olds has_new;
        set_since = points_of-back point it.news ∙ ap (deeds_back point) it.set_since;
        free = left_free point it.news table key it.free;
      }
  above_back false point now points has it = it

  above_mark : (b : Bool) (now points : List Deed) → Above now olds points table key
      → Above (cond b (Marked ∷ now) now) olds (cond b (Marked ∷ points) points) table key
  above_mark true now points it = record {
    news = Marked ∷ it.news;
    front = ap (λ deeds. Marked ∷ deeds) it.front;
    set_since = ap (λ deeds. Marked ∷ deeds) it.set_since;
    free = it.free;
  }
  above_mark false now points it = it

  above_save : (b : Bool) (name : List ℕ) (now points : List Deed)
      → Above now olds points table key
      → Above (cond b (Saved name ∷ now) now) olds (cond b (Saved name ∷ points) points) table key
  above_save true name now points it = record {
    news = Saved name ∷ it.news;
    front = ap (λ deeds. Saved name ∷ deeds) it.front;
    set_since = ap (λ deeds. Saved name ∷ deeds) it.set_since;
    free = it.free;
  }
  above_save false name now points it = it

  above_effect : (f : Effect) (t : ℕ) (catalog : CatalogRows) (now points : List Deed)
      → goes_within t f points ≡ true → is_maybe_at (change_by f t catalog) table key ≡ false
      → Above now olds points table key
      → Above (deeds_after f t catalog now) olds (points_after t f points) table key
  above_effect (Begins u mode) t catalog now points within other it = it
  above_effect (Looks u) t catalog now points within other it = it
  above_effect (Makes u named row) t catalog now points within other it =
      above_change (u == t) _ now points other it
  above_effect (Gives u named given row) t catalog now points within other it =
      above_change (u == t) _ now points other it
  above_effect (Marks u) t catalog now points within other it = above_mark (u == t) now points it
  above_effect (Saves u name) t catalog now points within other it =
      above_save (u == t) name now points it
  above_effect (TakesBack u point) t catalog now points within other it =
      above_back (u == t) point now points within it
  above_effect (Ends u end) t catalog now points within other it = it
  above_effect Nothing t catalog now points within other it = it

above_entries : (o : Opening) (h : Entries) (t : ℕ) (table : List ℕ) (key : Value)
    (since : Entries) → StaysWithin t since → LeavesKey o h t table key since
    → Above (deeds_by t (steps o (since ++ h))) (deeds_by t (steps o h)) (points_since t since)
    table key
above_entries o h t table key [] within leaves =
    record { news = []; front = refl; set_since = refl; free = refl }
above_entries o h t table key (e ∷ since) within leaves =
    let it = above_effect (deeds_by t (steps o h)) table key (effect_of e) t
    (catalog_of (told o (since ++ h)) t) (deeds_by t (steps o (since ++ h)))
    (points_since t since) within.0 leaves.0
    (above_entries o h t table key since within.1 leaves.1) in
    record {
      news = it.news;
      front = deeds_after_entry o (since ++ h) e t ∙ it.front;
      set_since = it.set_since;
      free = it.free;
    }

changes_in-append : (xs ys : List Deed) → changes_in (xs ++ ys) ≡ changes_in xs ++ changes_in ys
changes_in-append [] ys = refl
changes_in-append (Changed c ∷ xs) ys = ap (λ cs. c ∷ cs) (changes_in-append xs ys)
changes_in-append (Marked ∷ xs) ys = changes_in-append xs ys
changes_in-append (Saved name ∷ xs) ys = changes_in-append xs ys

deeds_after_change : (f : Effect) (t : ℕ) (catalog : CatalogRows) (old : List Deed) (c : Change)
    → change_by f t catalog ≡ Some c → deeds_after f t catalog old ≡ Changed c ∷ old
deeds_after_change (Makes u table row) t catalog old c is = at (u == t) is
  where
    made : Change
    made = record { table = table; key = key_in catalog table row; row = Some row }

    at : (b : Bool) → cond b (Some made) None ≡ Some c
        → cond b (Changed made ∷ old) old ≡ Changed c ∷ old
    at true is = let same : made ≡ c = cc in ap (λ x. Changed x ∷ old) same
    at false is = absurd cc
deeds_after_change (Gives u table key row) t catalog old c is = at (u == t) is
  where
    made : Change
    made = record { table = table; key = key; row = row }

    at : (b : Bool) → cond b (Some made) None ≡ Some c
        → cond b (Changed made ∷ old) old ≡ Changed c ∷ old
    at true is = let same : made ≡ c = cc in ap (λ x. Changed x ∷ old) same
    at false is = absurd cc
deeds_after_change f t catalog old c is = absurd cc

-- what a transaction wrote it reads after any events in which it is not taken back to before the
-- write and doesn't write the key again
pub reads_written : (o : Opening) (h : Entries) (e : Entry) (t : ℕ) (c : Change) (since : Entries)
    → change_by (effect_of e) t (catalog_of (told o h) t) ≡ Some c → StaysWithin t since
    → LeavesKey o (e ∷ h) t c.table c.key since
    → row_at (view o (since ++ (e ∷ h)) t) c.table c.key ≡ c.row
reads_written o h e t c since is within leaves =
    let it = above_entries o (e ∷ h) t c.table c.key since within leaves in
    let here : is_at c c.table c.key ≡ true = is_at_itself c.table c.key c.row in
    let written : deeds_by t (steps o (e ∷ h)) ≡ Changed c ∷ deeds_by t (steps o h) =
    deeds_after_entry o h e t
    ∙ deeds_after_change (effect_of e) t (catalog_of (told o h) t) (deeds_by t (steps o h)) c is in
    let all : own o (since ++ (e ∷ h)) t
    ≡ changes_in it.news ++ (c ∷ changes_in (deeds_by t (steps o h))) =
    ap changes_in (it.front ∙ ap (λ deeds. it.news ++ deeds) written)
    ∙ changes_in-append it.news (Changed c ∷ deeds_by t (steps o h)) in
    let has : has_change (own o (since ++ (e ∷ h)) t) c.table c.key ≡ true =
    ap (λ cs. has_change cs c.table c.key) all
    ∙ has_change-append (changes_in it.news) (c ∷ changes_in (deeds_by t (steps o h)))
    c.table c.key ∙ rw it.free (rw here refl) in
    reads_own o (since ++ (e ∷ h)) t c.table c.key has
    ∙ ap (λ cs. row_at cs c.table c.key) all
    ∙ row_at-append (changes_in it.news) (c ∷ changes_in (deeds_by t (steps o h))) c.table c.key
    ∙ rw it.free (rw here refl)
