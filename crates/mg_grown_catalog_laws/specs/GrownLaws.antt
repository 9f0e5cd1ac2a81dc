-- What is committed of a catalog that grows stays as it is.
use Rattle.std.specs.Prelude.{◌≡◌, ◌≢◌, ◌⊎◌, ℕ, ◌<◌, ◌≤◌, ◌==◌, ◌&&◌, ◌++◌, not, Bool, true, false, List, [], ◌∷◌, map, Option, None, Some, IsSome, cond, refl}
use Rattle.std.proofs.Common.{sym, ◌∙◌, ap, inl, inr, subst}
use Rattle.std.proofs.lemmas.Bool.{cases_lt, eq-eqb, eqb-true, false≢true, ne_eqb}
use Rattle.std.specs.Cmp.Lexicographic.{same_text}
use Rattle.mg_base.specs.declared.transaction.TxState.{TxState}
use Rattle.mg_base.specs.declared.transaction.TxState.TheVariants.{Active, Committed, Dead, Limbo}
use Rattle.mg_value.specs.declared.value.Value.{Value}
use Rattle.mg_model.specs.declared.answer.Answer.{Answer}
use Rattle.mg_model.specs.declared.answer.Answer.TheVariants.{Fine, No, Rows, Tx}
use Rattle.mg_model.specs.declared.change.Change.{Change as AnyChange}
use Rattle.mg_model.specs.declared.change.Deed.{Deed}
use Rattle.mg_model.specs.declared.change.Deed.TheVariants.{Changed, Marked, Saved}
use Rattle.mg_model.specs.declared.change.Point.{Point}
use Rattle.mg_model.specs.declared.change.Point.TheVariants.{LastMark, SavepointNamed}
use Rattle.mg_model.specs.declared.event.Event.{Event}
use Rattle.mg_model.specs.declared.event.Event.TheVariants.{BackTo, Begin, Change, Claim, Commit, Decide, Erase, Find, Insert, Look, Mark, Prepare, Rollback, Savepoint, UndoMark}
use Rattle.mg_model.specs.declared.opening.LimboChange.{LimboChange}
use Rattle.mg_model.specs.declared.opening.Opening.{Opening}
use Rattle.mg_model.specs.Answers.{answer, catalog_of, is_committed, is_open, number, told}
use Rattle.mg_model.specs.Catalog.{CatalogRows, catalog_name, key_in}
use Rattle.mg_model.specs.Changes.{Cells, has_change, row_at, same_key, same_name}
use Rattle.mg_model.specs.DeedLaws.{deeds_after, deeds_after_entry}
use Rattle.mg_model.specs.Effects.{changes_of, commits, deeds_back, deeds_left, from_point, has_deed}
use Rattle.mg_model.specs.EntryLaws.{base_is_cut, database_after_entry, state_others_entry}
use Rattle.mg_model.specs.HinderLaws.{left_had, stands}
use Rattle.mg_model.specs.History.{Begins, Effect, Ends, Entries, Entry, Gives, Looks, Makes, Marks, Nothing, Saves, TakesBack, effect_of, effect_with}
use Rattle.mg_model.specs.Legal.{IsLawful, IsLegal, MayBegin, is_outer}
use Rattle.mg_model.specs.LegalLaws.{IsAllowed, lawful_is_allowed}
use Rattle.mg_model.specs.Machine.{base, changed, changes_in, cut_at_base, database, deeds_by, is_point, limbo_step, mode_of, next_number, own, state_after, state_of, steps, takes_base, view}
use Rattle.mg_model.specs.NumberLaws.{committed_keeps, committed_stays, ended_others, undrawn_has_no_deeds}
use Rattle.mg_model.specs.Openings.{Each, opening_catalog}
use Rattle.mg_model.specs.OverlapLaws.{AreInTurn, saw_is_committed, writers_in_turn}
use Rattle.mg_model.specs.Promises.{InsertIsFine, MayWrite}
use Rattle.mg_model.specs.RowLaws.{row_at-append, same_from_same_key}
use Rattle.mg_grown_catalog_laws.specs.Grown.{BasesAreWithin, CatalogGrows, CommittedRowsStay, IsMaking, OwnRowsAreNew, SeenIsNotMade, makes_alone}

-- ---- what an entry makes of a transaction's own changes

-- each change of the catalog among these deeds is a row
abbrev AreMade : List Deed → Type 0
AreMade [] = Unit {0}
AreMade (Changed c ∷ ds) = (same_name c.table catalog_name ≡ true → IsSome c.row) × AreMade ds
AreMade (Marked ∷ ds) = AreMade ds
AreMade (Saved name ∷ ds) = AreMade ds

made_tail : (d : Deed) (ds : List Deed) → AreMade (d ∷ ds) → AreMade ds
made_tail (Changed c) ds made = made.1
made_tail Marked ds made = made
made_tail (Saved name) ds made = made

made_back : (point : Point) (ds : List Deed) → AreMade ds → AreMade (deeds_back point ds)
made_back point [] made = tt
made_back point (d ∷ ds) made = at (is_point point d) point (made_back point ds (made_tail d ds made))
  where
    at : (b : Bool) (p : Point) → AreMade (deeds_back point ds)
        → AreMade (cond b (from_point p d ds) (deeds_back point ds))
    at true LastMark more = made_tail d ds made
    at true (SavepointNamed name) more = made
    at false p more = more

made_left : (point : Point) (ds : List Deed) → AreMade ds → AreMade (deeds_left point ds)
made_left point ds made = at (has_deed point ds)
  where
    at : (b : Bool) → AreMade (cond b (deeds_back point ds) ds)
    at true = made_back point ds made
    at false = made

and_is : (x y a b : Bool) → x ≡ a → y ≡ b → (x && y) ≡ (a && b)
and_is x y a b first second = ap (λ (z : Bool). z && y) first ∙ ap (λ (z : Bool). a && z) second

made_after : (h : Entries) (f : Effect) (t : ℕ) (catalog : CatalogRows) (old : List Deed) → makes_alone h f ≡ true
    → AreMade old → AreMade (deeds_after f t catalog old)
made_after h (Begins u mode) t catalog old alone made = made
made_after h (Looks u) t catalog old alone made = made
made_after h (Makes u table row) t catalog old alone made = at (u == t)
  where
    at : (b : Bool) → AreMade (cond b (changed table (key_in catalog table row) (Some row) ∷ old) old)
    at true = ((λ here. refl), made)
    at false = made
made_after h (Gives u table key row) t catalog old alone made = at (u == t)
  where
    at : (b : Bool) → AreMade (cond b (changed table key row ∷ old) old)
    at true = ((λ here. absurd (false≢true (sym (ap not here) ∙ alone))), made)
    at false = made
made_after h (Marks u) t catalog old alone made = at (u == t)
  where
    at : (b : Bool) → AreMade (cond b (Marked ∷ old) old)
    at true = made
    at false = made
made_after h (Saves u name) t catalog old alone made = at (u == t)
  where
    at : (b : Bool) → AreMade (cond b (Saved name ∷ old) old)
    at true = made
    at false = made
made_after h (TakesBack u point) t catalog old alone made = at (u == t)
  where
    at : (b : Bool) → AreMade (cond b (deeds_left point old) old)
    at true = made_left point old made
    at false = made
made_after h (Ends u end) t catalog old alone made = made
made_after h Nothing t catalog old alone made = made

-- a key of the catalog that they change has a row
made_row : (ds : List Deed) (key : Value) → AreMade ds
    → has_change (changes_in ds) catalog_name key ≡ true
    → IsSome (row_at (changes_in ds) catalog_name key)
made_row [] key made has = absurd (false≢true has)
made_row (Changed c ∷ ds) key made has =
    at (same_name c.table catalog_name) refl (same_key c.key key) has (λ more. made_row ds key made.1 more)
  where
    at : (a : Bool) → same_name c.table catalog_name ≡ a → (b : Bool)
        → cond (a && b) true (has_change (changes_in ds) catalog_name key) ≡ true
        → (has_change (changes_in ds) catalog_name key ≡ true
        → IsSome (row_at (changes_in ds) catalog_name key))
        → IsSome (cond (a && b) c.row (row_at (changes_in ds) catalog_name key))
    at true is true has more = made.0 is
    at true is false has more = more has
    at false is b has more = more has
made_row (Marked ∷ ds) key made has = made_row ds key made has
made_row (Saved name ∷ ds) key made has = made_row ds key made has

-- A transaction makes the row of a key of the catalog.
record Made (f : Effect) (t : ℕ) (catalog : CatalogRows) (key : Value) : Type 0 where
  table : List ℕ
  row : Cells
  is : f ≡ Makes t table row
  in_catalog : same_name table catalog_name ≡ true
  at_key : same_key (key_in catalog table row) key ≡ true

-- a key of the catalog that own changes have they had before, or its row was made just now
had : (h : Entries) (f : Effect) (t : ℕ) (catalog : CatalogRows) (old : List Deed) (key : Value)
    → makes_alone h f ≡ true
    → has_change (changes_in (deeds_after f t catalog old)) catalog_name key ≡ true
    → (has_change (changes_in old) catalog_name key ≡ true) ⊎ Made f t catalog key
had h (Begins u mode) t catalog old key alone has = inl has
had h (Looks u) t catalog old key alone has = inl has
had h (Makes u table row) t catalog old key alone has =
    at (u == t) refl (same_name table catalog_name) refl (same_key (key_in catalog table row) key) refl has
  where
    both : (a b : Bool) → same_name table catalog_name ≡ a → same_key (key_in catalog table row) key ≡ b
        → (same_name table catalog_name && same_key (key_in catalog table row) key) ≡ (a && b)
    both a b is keyed = and_is (same_name table catalog_name) (same_key (key_in catalog table row) key) a b
        is keyed

    at : (c : Bool) → (u == t) ≡ c → (a : Bool) → same_name table catalog_name ≡ a → (b : Bool)
        → same_key (key_in catalog table row) key ≡ b
        → has_change (changes_in (cond c (changed table (key_in catalog table row) (Some row) ∷ old) old))
        catalog_name key ≡ true
        → (has_change (changes_in old) catalog_name key ≡ true) ⊎ Made (Makes u table row) t catalog key
    at false other a is b keyed has = inl has
    at true its true is true keyed has = inr (record {
      table = table;
      row = row;
      is = ap (λ (v : ℕ). Makes v table row) (eqb-true u t its);
      in_catalog = is;
      at_key = keyed;
    })
    at true its true is false keyed has =
        inl (subst (λ (x : Bool). cond x true (has_change (changes_in old) catalog_name key) ≡ true)
        (both true false is keyed) has)
    at true its false is b keyed has =
        inl (subst (λ (x : Bool). cond x true (has_change (changes_in old) catalog_name key) ≡ true)
        (both false b is keyed) has)
had h (Gives u table given row) t catalog old key alone has = at (u == t) has
  where
    other : same_name table catalog_name ≡ false
    other = by (same_name table catalog_name) alone
      where
        by : (b : Bool) → not b ≡ true → b ≡ false
        by true is = absurd (false≢true is)
        by false is = refl

    at : (c : Bool) → has_change (changes_in (cond c (changed table given row ∷ old) old)) catalog_name key ≡ true
        → (has_change (changes_in old) catalog_name key ≡ true) ⊎ Made (Gives u table given row) t catalog key
    at false has = inl has
    at true has = inl (subst (λ (x : Bool). cond (x && same_key given key) true
        (has_change (changes_in old) catalog_name key) ≡ true) other has)
had h (Marks u) t catalog old key alone has = at (u == t) has
  where
    at : (c : Bool) → has_change (changes_in (cond c (Marked ∷ old) old)) catalog_name key ≡ true
        → (has_change (changes_in old) catalog_name key ≡ true) ⊎ Made (Marks u) t catalog key
    at true has = inl has
    at false has = inl has
had h (Saves u name) t catalog old key alone has = at (u == t) has
  where
    at : (c : Bool) → has_change (changes_in (cond c (Saved name ∷ old) old)) catalog_name key ≡ true
        → (has_change (changes_in old) catalog_name key ≡ true) ⊎ Made (Saves u name) t catalog key
    at true has = inl has
    at false has = inl has
had h (TakesBack u point) t catalog old key alone has = at (u == t) (has_deed point old) has
  where
    at : (c d : Bool) → has_change (changes_in (cond c (cond d (deeds_back point old) old) old)) catalog_name key
        ≡ true → (has_change (changes_in old) catalog_name key ≡ true) ⊎ Made (TakesBack u point) t catalog key
    at true true has = inl (left_had point old catalog_name key has)
    at true false has = inl has
    at false d has = inl has
had h (Ends u end) t catalog old key alone has = inl has
had h Nothing t catalog old key alone has = inl has

-- ---- a row that is made

-- A row is made by an event that asks for it, and is answered Fine.
pub record IsInsert (event : Event) (said : Answer) (t : ℕ) (table : List ℕ) (row : Cells) : Type 0 where
  pub fine : said ≡ Fine
  pub event_is : event ≡ Insert (number t) table row

pub insert_of : (event : Event) (said : Answer) (t : ℕ) (table : List ℕ) (row : Cells)
    → effect_with event said ≡ Makes t table row → IsInsert event said t table row
insert_of (Insert v named given) Fine t table row is =
    let by : v.0 ≡ t = cc in
    let in_table : named ≡ table = cc in
    let of : given ≡ row = cc in
    record { fine = refl; event_is = λ i. Insert (number (by i)) (in_table i) (of i) }
insert_of (Begin session mode) Fine t table row is = absurd cc
insert_of (Look u) Fine t table row is = absurd cc
insert_of (Find u named test) Fine t table row is = absurd cc
insert_of (Claim u named) Fine t table row is = absurd cc
insert_of (Change u named key given) Fine t table row is = absurd cc
insert_of (Erase u named key) Fine t table row is = absurd cc
insert_of (Mark u) Fine t table row is = absurd cc
insert_of (UndoMark u) Fine t table row is = absurd cc
insert_of (Savepoint u name) Fine t table row is = absurd cc
insert_of (BackTo u name) Fine t table row is = absurd cc
insert_of (Prepare u) Fine t table row is = absurd cc
insert_of (Commit u) Fine t table row is = absurd cc
insert_of (Rollback u) Fine t table row is = absurd cc
insert_of (Decide u commit) Fine t table row is = absurd cc
insert_of (Begin session mode) (Tx n) t table row is = absurd cc
insert_of (Look u) (Tx n) t table row is = absurd cc
insert_of (Find u named test) (Tx n) t table row is = absurd cc
insert_of (Claim u named) (Tx n) t table row is = absurd cc
insert_of (Insert u named given) (Tx n) t table row is = absurd cc
insert_of (Change u named key given) (Tx n) t table row is = absurd cc
insert_of (Erase u named key) (Tx n) t table row is = absurd cc
insert_of (Mark u) (Tx n) t table row is = absurd cc
insert_of (UndoMark u) (Tx n) t table row is = absurd cc
insert_of (Savepoint u name) (Tx n) t table row is = absurd cc
insert_of (BackTo u name) (Tx n) t table row is = absurd cc
insert_of (Prepare u) (Tx n) t table row is = absurd cc
insert_of (Commit u) (Tx n) t table row is = absurd cc
insert_of (Rollback u) (Tx n) t table row is = absurd cc
insert_of (Decide u commit) (Tx n) t table row is = absurd cc
insert_of event (Rows rows) t table row is = absurd cc
insert_of event (No refusal) t table row is = absurd cc

pub fine_answer : (o : Opening) (h : Entries) (e : Entry) (event : Event) → IsLawful o h e → e.answer ≡ Fine
    → e.event ≡ event → answer o h event ≡ Fine
fine_answer o h e event (inl lawful) fine is = sym (ap (answer o h) is) ∙ (sym lawful ∙ fine)
fine_answer o h e event (inr outer) fine is = absurd (false≢true (sym (ap is_outer fine) ∙ outer))

-- ---- who commits

ends_by : (f : Effect) (u : ℕ) → commits f ≡ Some u → f ≡ Ends u Committed
ends_by (Ends v Committed) u is = let same : v ≡ u = cc in ap (λ (w : ℕ). Ends w Committed) same
ends_by (Ends v Active) u is = absurd cc
ends_by (Ends v Limbo) u is = absurd cc
ends_by (Ends v Dead) u is = absurd cc
ends_by (Begins v mode) u is = absurd cc
ends_by (Looks v) u is = absurd cc
ends_by (Makes v table row) u is = absurd cc
ends_by (Gives v table key row) u is = absurd cc
ends_by (Marks v) u is = absurd cc
ends_by (Saves v name) u is = absurd cc
ends_by (TakesBack v point) u is = absurd cc
ends_by Nothing u is = absurd cc

base_commits_none : (f : Effect) (t : ℕ) (snapshot : Bool) → takes_base f t snapshot ≡ true → commits f ≡ None
base_commits_none (Begins v mode) t snapshot is = refl
base_commits_none (Looks v) t snapshot is = refl
base_commits_none (Makes v table row) t snapshot is = absurd (false≢true is)
base_commits_none (Gives v table key row) t snapshot is = absurd (false≢true is)
base_commits_none (Marks v) t snapshot is = absurd (false≢true is)
base_commits_none (Saves v name) t snapshot is = absurd (false≢true is)
base_commits_none (TakesBack v point) t snapshot is = absurd (false≢true is)
base_commits_none (Ends v end) t snapshot is = absurd (false≢true is)
base_commits_none Nothing t snapshot is = absurd (false≢true is)

open_not_committed : (s : TxState) → is_open s ≡ true → is_committed s ≡ true → ⊥
open_not_committed Active open_ committed = false≢true committed
open_not_committed Limbo open_ committed = false≢true committed
open_not_committed Dead open_ committed = false≢true open_
open_not_committed Committed open_ committed = false≢true open_

open_stands : (s : TxState) → is_open s ≡ true → stands s ≡ true
open_stands Active is = refl
open_stands Limbo is = refl
open_stands Dead is = absurd (false≢true is)
open_stands Committed is = absurd (false≢true is)

module _ (o : Opening) (opening : MayBegin o) (h : Entries) (e : Entry) (legal : IsLegal o (e ∷ h)) where
  -- who is committed by an entry was open before it, and its own changes stay
  was_open : (u : ℕ) → commits (effect_of e) ≡ Some u → is_open (state_of o h u) ≡ true
  was_open u is = (subst (IsAllowed o h) (ends_by (effect_of e) u is) (lawful_is_allowed o h e legal.0)).0

  now_committed : (u : ℕ) → commits (effect_of e) ≡ Some u → is_committed (state_of o (e ∷ h) u) ≡ true
  now_committed u is =
      let now : state_of o (e ∷ h) u ≡ Committed =
      ap (λ (f : Effect). state_after f u (state_of o h u)) (ends_by (effect_of e) u is)
      ∙ rw (eq-eqb u u refl) refl in
      ap is_committed now

  own_same : (u : ℕ) → commits (effect_of e) ≡ Some u → own o (e ∷ h) u ≡ own o h u
  own_same u is = ap changes_in (deeds_after_entry o h e u
      ∙ ap (λ (f : Effect). deeds_after f u (catalog_of (told o h) u) (deeds_by u (steps o h)))
      (ends_by (effect_of e) u is))

  -- a key that who is committed has not changed keeps its row
  key_stays : (table : List ℕ) (key : Value)
      → ((u : ℕ) → commits (effect_of e) ≡ Some u → has_change (own o h u) table key ≡ false)
      → row_at (database o (e ∷ h)) table key ≡ row_at (database o h) table key
  key_stays table key none = ap (λ (cs : List AnyChange). row_at cs table key) (database_after_entry o h e)
      ∙ at (commits (effect_of e)) refl
    where
      at : (x : Option ℕ) → commits (effect_of e) ≡ x
          → row_at (changes_of x (own o h) ++ database o h) table key ≡ row_at (database o h) table key
      at None is = refl
      at (Some u) is = row_at-append (own o h u) (database o h) table key ∙ rw (none u is) refl

-- ---- since a base was taken

-- nobody else who was committed since has changed a key
abbrev NoneSince : Opening → Entries → ℕ → List ℕ → Value → Type 0
NoneSince o h t table key = (u : ℕ) → u ≢ t → has_change (own o h u) table key ≡ true
    → is_committed (state_of o h u) ≡ true → is_committed (state_of o (cut_at_base h t) u) ≡ true

-- so it has the row that it had then
same_since : (o : Opening) → MayBegin o → (h : Entries) → IsLegal o h → (t : ℕ) (table : List ℕ) (key : Value)
    → NoneSince o h t table key → (is_committed (state_of o h t) ≡ true → ⊥)
    → row_at (database o h) table key ≡ row_at (database o (cut_at_base h t)) table key
same_since o opening [] legal t table key none open_ = refl
same_since o opening (e ∷ h) legal t table key none open_ =
    at (takes_base (effect_of e) t (mode_of h t).snapshot) refl (same_since o opening h legal.1 t table key)
  where
    at : (b : Bool) → takes_base (effect_of e) t (mode_of h t).snapshot ≡ b
        → (NoneSince o h t table key → (is_committed (state_of o h t) ≡ true → ⊥)
        → row_at (database o h) table key ≡ row_at (database o (cut_at_base h t)) table key)
        → row_at (database o (e ∷ h)) table key
        ≡ row_at (database o (cond b h (cut_at_base h t))) table key
    at true takes more = key_stays o opening h e legal table key (λ u is.
        let both = sym (base_commits_none (effect_of e) t (mode_of h t).snapshot takes) ∙ is in absurd cc)
    at false keeps more = key_stays o opening h e legal table key unchanged ∙ more before
        (λ was. open_ (ap is_committed (committed_stays o opening h e legal t was) ∙ was))
      where
        cut_same : cut_at_base (e ∷ h) t ≡ cut_at_base h t
        cut_same = rw keeps refl

        was_then : (u : ℕ) → is_committed (state_of o (cut_at_base (e ∷ h) t) u) ≡ true
            → is_committed (state_of o (cut_at_base h t) u) ≡ true
        was_then u is = ap (λ (x : Entries). is_committed (state_of o x u)) (sym cut_same) ∙ is

        before : NoneSince o h t table key
        before u apart has committed = was_then u (none u apart
            (ap (λ (cs : List AnyChange). has_change cs table key)
            (committed_keeps o opening h e legal u committed) ∙ has)
            (ap is_committed (committed_stays o opening h e legal u committed) ∙ committed))

        unchanged : (u : ℕ) → commits (effect_of e) ≡ Some u → has_change (own o h u) table key ≡ false
        unchanged u is = by (has_change (own o h u) table key) refl
          where
            apart : u ≢ t
            apart same = open_ (ap (λ (v : ℕ). is_committed (state_of o (e ∷ h) v)) (sym same)
                ∙ now_committed o opening h e legal u is)

            by : (b : Bool) → has_change (own o h u) table key ≡ b → b ≡ false
            by false has = refl
            by true has = absurd (open_not_committed (state_of o h u) (was_open o opening h e legal u is)
                (saw_is_committed o opening h legal.1 t u (was_then u (none u apart
                (ap (λ (cs : List AnyChange). has_change cs table key) (own_same o opening h e legal u is) ∙ has)
                (now_committed o opening h e legal u is)))))

-- ---- at the opening

limbo_made : (o : Opening) (cs : List LimboChange) (t : ℕ) → Each (IsMaking o) cs
    → AreMade (deeds_by t (map limbo_step cs))
limbo_made o [] t each = tt
limbo_made o (c ∷ cs) t each = at (c.by.0 == t) (limbo_made o cs t each.1)
  where
    at : (b : Bool) → AreMade (deeds_by t (map limbo_step cs)) → AreMade (cond b (changed c.table c.key c.row ∷ deeds_by t (map limbo_step cs))
        (deeds_by t (map limbo_step cs)))
    at true more = ((λ is. (each.0 is).0), more)
    at false more = more

limbo_new : (o : Opening) (cs : List LimboChange) (t : ℕ) (key : Value) → Each (IsMaking o) cs
    → has_change (changes_in (deeds_by t (map limbo_step cs))) catalog_name key ≡ true
    → opening_catalog o key ≡ None
limbo_new o [] t key each has = absurd (false≢true has)
limbo_new o (c ∷ cs) t key each has =
    at (c.by.0 == t) (same_name c.table catalog_name) refl (same_key c.key key) refl
    (limbo_new o cs t key each.1) has
  where
    both : (a k : Bool) → same_name c.table catalog_name ≡ a → same_key c.key key ≡ k
        → (same_name c.table catalog_name && same_key c.key key) ≡ (a && k)
    both a k is keyed = and_is (same_name c.table catalog_name) (same_key c.key key) a k is keyed

    at : (b a : Bool) → same_name c.table catalog_name ≡ a → (k : Bool) → same_key c.key key ≡ k
        → (has_change (changes_in (deeds_by t (map limbo_step cs))) catalog_name key ≡ true
        → opening_catalog o key ≡ None)
        → has_change (changes_in (cond b (changed c.table c.key c.row ∷ deeds_by t (map limbo_step cs))
        (deeds_by t (map limbo_step cs)))) catalog_name key ≡ true → opening_catalog o key ≡ None
    at false a is k keyed more has = more has
    at true true is true keyed more has = ap (opening_catalog o) (sym (same_from_same_key c.key key keyed))
        ∙ (each.0 is).1
    at true true is false keyed more has = more
        (subst (λ (x : Bool). cond x true (has_change (changes_in (deeds_by t (map limbo_step cs)))
        catalog_name key) ≡ true) (both true false is keyed) has)
    at true false is k keyed more has = more
        (subst (λ (x : Bool). cond x true (has_change (changes_in (deeds_by t (map limbo_step cs)))
        catalog_name key) ≡ true) (both false k is keyed) has)

-- ---- own rows

own_made : (o : Opening) (h : Entries) (t : ℕ) → CatalogGrows o h → AreMade (deeds_by t (steps o h))
own_made o [] t grows = limbo_made o o.limbo t grows.limbo
own_made o (e ∷ h) t grows = subst AreMade (sym (deeds_after_entry o h e t))
    (made_after h (effect_of e) t (catalog_of (told o h) t) (deeds_by t (steps o h)) grows.entries.0
    (own_made o h t (record { limbo = grows.limbo; entries = grows.entries.1 })))

module _ (fine : InsertIsFine) (o : Opening) (opening : MayBegin o) where
  -- no two that have not ended have changed one key
  not_both : (h : Entries) → IsLegal o h → (t u : ℕ) (key : Value) → t ≢ u
      → is_open (state_of o h t) ≡ true → is_open (state_of o h u) ≡ true
      → has_change (own o h t) catalog_name key ≡ true → has_change (own o h u) catalog_name key ≡ true → ⊥
  not_both h legal t u key apart open_t open_u has_t has_u = at (writers_in_turn o opening h legal t u
      catalog_name key (record {
        apart = ne_eqb t u apart;
        first_stands = open_stands (state_of o h t) open_t;
        second_stands = open_stands (state_of o h u) open_u;
        first_changes = has_t;
        second_changes = has_u;
      }))
    where
      at : AreInTurn o h t u → ⊥
      at (inl saw) = open_not_committed (state_of o h u) open_u (saw_is_committed o opening h legal t u saw)
      at (inr saw) = open_not_committed (state_of o h t) open_t (saw_is_committed o opening h legal u t saw)

  own_new : (h : Entries) → IsLegal o h → CatalogGrows o h → (t : ℕ) (key : Value)
      → is_open (state_of o h t) ≡ true → has_change (own o h t) catalog_name key ≡ true
      → row_at (database o h) catalog_name key ≡ None
  own_new [] legal grows t key open_ has = limbo_new o o.limbo t key grows.limbo has
  own_new (e ∷ h) legal grows t key open_ has = at (had h (effect_of e) t (catalog_of (told o h) t)
      (deeds_by t (steps o h)) key grows.entries.0 (sym (ap (λ (ds : List Deed).
      has_change (changes_in ds) catalog_name key) (deeds_after_entry o h e t)) ∙ has))
      (own_new h legal.1 fewer t key)
    where
      fewer : CatalogGrows o h
      fewer = record { limbo = grows.limbo; entries = grows.entries.1 }

      -- it had the change before: then it was open, and who is committed has not changed the key
      open_before : has_change (own o h t) catalog_name key ≡ true → is_open (state_of o h t) ≡ true
      open_before was = by (is_open (state_of o h t)) refl (cases_lt t (next_number o h))
        where
          by : (b : Bool) → is_open (state_of o h t) ≡ b
              → (t < next_number o h) ⊎ (next_number o h ≤ t) → b ≡ true
          by true is where_ = refl
          by false is (inl below) = absurd (false≢true (sym is ∙ (sym (ap is_open
              (state_others_entry o h e t (ended_others o opening h e legal t below is))) ∙ open_)))
          by false is (inr above) = absurd (false≢true (sym (ap (λ (ds : List Deed).
              has_change (changes_in ds) catalog_name key)
              (undrawn_has_no_deeds o opening h legal.1 t above)) ∙ was))

      still : has_change (own o h t) catalog_name key ≡ true
          → row_at (database o (e ∷ h)) catalog_name key ≡ row_at (database o h) catalog_name key
      still was = key_stays o opening h e legal catalog_name key (λ u is. by u is (has_change (own o h u)
          catalog_name key) refl)
        where
          apart : (u : ℕ) → commits (effect_of e) ≡ Some u → t ≢ u
          apart u is same = open_not_committed (state_of o (e ∷ h) t) open_
              (ap (λ (v : ℕ). is_committed (state_of o (e ∷ h) v)) same
              ∙ now_committed o opening h e legal u is)

          by : (u : ℕ) → commits (effect_of e) ≡ Some u → (b : Bool)
              → has_change (own o h u) catalog_name key ≡ b → b ≡ false
          by u is false has_u = refl
          by u is true has_u = absurd (not_both h legal.1 t u key (apart u is) (open_before was)
              (was_open o opening h e legal u is) was has_u)

      -- its row was made just now: the key had none that it saw, and nobody else stood in the way
      made_now : Made (effect_of e) t (catalog_of (told o h) t) key
          → row_at (database o (e ∷ h)) catalog_name key ≡ None
      made_now made = key_stays o opening h e legal catalog_name key none_committed ∙ (subst (λ (k : Value).
          row_at (database o h) catalog_name k ≡ None) at_key (subst (λ (n : List ℕ).
          row_at (database o h) n (key_in (catalog_of (told o h) t) made.table made.row) ≡ None) in_catalog
          nothing))
        where
          in_catalog : made.table ≡ catalog_name
          in_catalog = same_text made.table catalog_name (sym made.in_catalog)

          at_key : key_in (catalog_of (told o h) t) made.table made.row ≡ key
          at_key = same_from_same_key (key_in (catalog_of (told o h) t) made.table made.row) key made.at_key

          none_committed : (u : ℕ) → commits (effect_of e) ≡ Some u → has_change (own o h u) catalog_name key ≡ false
          none_committed u is =
              let both : None ≡ Some u = sym (ap commits made.is) ∙ is in absurd cc

          its : IsInsert e.event e.answer t made.table made.row
          its = insert_of e.event e.answer t made.table made.row made.is

          may : MayWrite o h t made.table (key_in (catalog_of (told o h) t) made.table made.row)
              × (row_at (view o h t) made.table (key_in (catalog_of (told o h) t) made.table made.row) ≡ None)
          may = (fine o h t made.table made.row opening legal.1).0
              (fine_answer o h e (Insert (number t) made.table made.row) legal.0 its.fine its.event_is)

          active : state_of o h t ≡ Active
          active = may.0.active

          nothing : row_at (database o h) made.table
              (key_in (catalog_of (told o h) t) made.table made.row) ≡ None
          nothing = same_since o opening h legal.1 t made.table
              (key_in (catalog_of (told o h) t) made.table made.row) free
              (λ committed. false≢true (sym (ap is_committed active) ∙ committed))
              ∙ (ap (λ (cs : List AnyChange). row_at cs made.table
              (key_in (catalog_of (told o h) t) made.table made.row)) (sym (base_is_cut o h t))
              ∙ base_none (has_change (own o h t) made.table
              (key_in (catalog_of (told o h) t) made.table made.row)) refl)
            where
              free : NoneSince o h t made.table (key_in (catalog_of (told o h) t) made.table made.row)
              free u apart has_u committed = on (may.0.key_free u apart has_u)
                where
                  on : (state_of o h u ≡ Dead) ⊎ (state_of o (cut_at_base h t) u ≡ Committed)
                      → is_committed (state_of o (cut_at_base h t) u) ≡ true
                  on (inl dead) = absurd (false≢true (sym (ap is_committed dead) ∙ committed))
                  on (inr was) = ap is_committed was

              laid : row_at (view o h t) made.table (key_in (catalog_of (told o h) t) made.table made.row) ≡ None
              laid = may.1

              base_none : (b : Bool)
                  → has_change (own o h t) made.table (key_in (catalog_of (told o h) t) made.table made.row) ≡ b
                  → row_at (base o h t) made.table (key_in (catalog_of (told o h) t) made.table made.row) ≡ None
              base_none false has_not = sym (row_at-append (own o h t) (base o h t) made.table
                  (key_in (catalog_of (told o h) t) made.table made.row) ∙ rw has_not refl) ∙ laid
              base_none true has_it = absurd (some_none (row_at (own o h t) made.table
                  (key_in (catalog_of (told o h) t) made.table made.row)) there
                  (sym (row_at-append (own o h t) (base o h t) made.table
                  (key_in (catalog_of (told o h) t) made.table made.row) ∙ rw has_it refl) ∙ laid))
                where
                  some_none : (x : Option Cells) → IsSome x → x ≡ None → ⊥
                  some_none None is none = absurd (false≢true is)
                  some_none (Some row) is none = absurd cc

                  there : IsSome (row_at (own o h t) made.table
                      (key_in (catalog_of (told o h) t) made.table made.row))
                  there = subst (λ (n : List ℕ). has_change (own o h t) n
                      (key_in (catalog_of (told o h) t) made.table made.row) ≡ true
                      → IsSome (row_at (own o h t) n (key_in (catalog_of (told o h) t) made.table made.row)))
                      (sym in_catalog) (made_row (deeds_by t (steps o h))
                      (key_in (catalog_of (told o h) t) made.table made.row) (own_made o h t fewer)) has_it

      at : (has_change (own o h t) catalog_name key ≡ true) ⊎ Made (effect_of e) t (catalog_of (told o h) t) key
          → (is_open (state_of o h t) ≡ true → has_change (own o h t) catalog_name key ≡ true
          → row_at (database o h) catalog_name key ≡ None)
          → row_at (database o (e ∷ h)) catalog_name key ≡ None
      at (inl was) more = still was ∙ more (open_before was) was
      at (inr made) more = made_now made

  -- ---- what is committed stays

  row_stays : (h : Entries) (e : Entry) → IsLegal o (e ∷ h) → CatalogGrows o h → (key : Value) (row : Cells)
      → row_at (database o h) catalog_name key ≡ Some row
      → row_at (database o (e ∷ h)) catalog_name key ≡ Some row
  row_stays h e legal grows key row is =
      key_stays o opening h e legal catalog_name key
      (λ u commits_u. at u commits_u (has_change (own o h u) catalog_name key) refl) ∙ is
    where
      at : (u : ℕ) → commits (effect_of e) ≡ Some u → (b : Bool)
          → has_change (own o h u) catalog_name key ≡ b → b ≡ false
      at u commits_u false has = refl
      at u commits_u true has =
          let none = own_new h legal.1 grows u key (was_open o opening h e legal u commits_u) has in
          let both : None ≡ Some row = sym none ∙ is in absurd cc

  within : (h : Entries) → IsLegal o h → CatalogGrows o h → (t : ℕ) (key : Value) (row : Cells)
      → row_at (base o h t) catalog_name key ≡ Some row → row_at (database o h) catalog_name key ≡ Some row
  within [] legal grows t key row is = is
  within (e ∷ h) legal grows t key row is = row_stays h e legal fewer key row
      (at (takes_base (effect_of e) t (mode_of h t).snapshot) is (within h legal.1 fewer t key row))
    where
      fewer : CatalogGrows o h
      fewer = record { limbo = grows.limbo; entries = grows.entries.1 }

      at : (b : Bool) → row_at (cond b (database o h) (base o h t)) catalog_name key ≡ Some row
          → (row_at (base o h t) catalog_name key ≡ Some row
          → row_at (database o h) catalog_name key ≡ Some row)
          → row_at (database o h) catalog_name key ≡ Some row
      at true is more = is
      at false is more = more is

  not_made : (h : Entries) → IsLegal o h → CatalogGrows o h → (t u : ℕ) (key : Value) (row : Cells)
      → is_open (state_of o h t) ≡ true → state_of o h u ≡ Active → t ≢ u
      → row_at (view o h u) catalog_name key ≡ Some row → has_change (own o h t) catalog_name key ≡ false
  not_made h legal grows t u key row open_ active apart sees =
      at (has_change (own o h t) catalog_name key) refl (has_change (own o h u) catalog_name key) refl
    where
      at : (b : Bool) → has_change (own o h t) catalog_name key ≡ b → (c : Bool)
          → has_change (own o h u) catalog_name key ≡ c → b ≡ false
      at false has c has_u = refl
      at true has true has_u = absurd (not_both h legal t u key apart open_ (ap is_open active) has has_u)
      at true has false has_u =
          let none = own_new h legal grows t key open_ has in
          let based : row_at (base o h u) catalog_name key ≡ Some row =
          sym (row_at-append (own o h u) (base o h u) catalog_name key ∙ rw has_u refl) ∙ sees in
          let there = within h legal grows u key row based in
          let both : None ≡ Some row = sym none ∙ there in absurd cc

-- ---- the laws

pub committed_rows_stay : InsertIsFine → CommittedRowsStay
committed_rows_stay fine o h e key row opening legal grows is = row_stays fine o opening h e legal grows key row is

pub bases_are_within : InsertIsFine → BasesAreWithin
bases_are_within fine o h t key row opening legal grows is = within fine o opening h legal grows t key row is

pub own_rows_are_new : InsertIsFine → OwnRowsAreNew
own_rows_are_new fine o h t key opening legal grows open_ has = (
  made_row (deeds_by t (steps o h)) key (own_made o h t grows) has,
  own_new fine o opening h legal grows t key open_ has,
)

pub seen_is_not_made : InsertIsFine → SeenIsNotMade
seen_is_not_made fine o h t u key row opening legal grows open_ active apart sees =
    not_made fine o opening h legal grows t u key row open_ active apart sees
