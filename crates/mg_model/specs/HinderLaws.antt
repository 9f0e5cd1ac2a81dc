-- What is no obstacle to a write, and what taking back leaves of own changes.
use Rattle.std.specs.Prelude.{◌≡◌, ℕ, ◌==◌, ◌&&◌, ◌||◌, not, Bool, true, false, List, [], ◌∷◌, Option, Some, None, cond, refl}
use Rattle.std.proofs.Common.{sym, ◌∙◌, ap}
use Rattle.std.proofs.lemmas.Bool.{false≢true, eqb-true, not-false}
use Rattle.mg_base.specs.declared.transaction.TxState.{TxState}
use Rattle.mg_base.specs.declared.transaction.TxState.TheVariants.{Active, Limbo, Dead, Committed}
use Rattle.mg_value.specs.declared.value.Value.{Value}
use Rattle.mg_model.specs.declared.change.Deed.{Deed}
use Rattle.mg_model.specs.declared.change.Deed.TheVariants.{Changed, Marked, Saved}
use Rattle.mg_model.specs.declared.change.Step.{Step}
use Rattle.mg_model.specs.Changes.{is_at, has_change}
use Rattle.mg_model.specs.History.{Point, LastMark, SavepointNamed}
use Rattle.mg_model.specs.Machine.{deeds_by, changes_in, changes_by, is_point, taken_back}
use Rattle.mg_model.specs.Answers.{is_committed, is_open, changes_key, newest_by}
use Rattle.mg_model.specs.Effects.{has_deed, from_point, deeds_back, deeds_left}
use Rattle.mg_model.specs.EntryLaws.{deeds_by-taken_back, deeds_by-taken_back_other}

-- a transaction is active, in limbo or committed
abbrev pub stands : TxState → Bool
stands s = is_open s || is_committed s

-- ---- what is no obstacle

pub none_hinders : (who : ℕ → Bool) (table : List ℕ) (key : Value) (all : List Step) (u : ℕ)
    → newest_by who (changes_key table key) all ≡ None
    → has_change (changes_by u all) table key ≡ true → who u ≡ false
none_hinders who table key [] u none has = absurd (false≢true has)
none_hinders who table key (s ∷ all) u none has =
    at s.deed (s.by.0 == u) refl (who s.by.0) refl (none_hinders who table key all u) none has
  where
    newest : Option ℕ
    newest = newest_by who (changes_key table key) all

    found : (a b : Bool) → cond (a && b) (Some s.by.0) newest ≡ None
        → ((a && b) ≡ false) × (newest ≡ None)
    found true true none = absurd cc
    found true false none = (refl, none)
    found false b none = (refl, none)

    its : (c : Bool) (w : Bool) → (s.by.0 == u) ≡ true → who s.by.0 ≡ w
        → (has_change (changes_by u all) table key ≡ true → who u ≡ false)
        → (w && c) ≡ false → cond c true (has_change (changes_by u all) table key) ≡ true
        → who u ≡ false
    its true true same is more free has = absurd (false≢true (sym free))
    its true false same is more free has =
        let here : s.by.0 ≡ u = eqb-true s.by.0 u same in ap who (sym here) ∙ is
    its false w same is more free has = more has

    at : (d : Deed) (b : Bool) → (s.by.0 == u) ≡ b → (w : Bool) → who s.by.0 ≡ w
        → (newest ≡ None → has_change (changes_by u all) table key ≡ true → who u ≡ false)
        → cond (w && changes_key table key d) (Some s.by.0) newest ≡ None
        → has_change (changes_in (cond b (d ∷ deeds_by u all) (deeds_by u all))) table key ≡ true
        → who u ≡ false
    at d false same w is more none has = more (found w (changes_key table key d) none).1 has
    at (Changed c) true same w is more none has =
        let parts = found w (is_at c table key) none in
        its (is_at c table key) w same is (more parts.1) parts.0 has
    at Marked true same w is more none has = more (found w false none).1 has
    at (Saved name) true same w is more none has = more (found w false none).1 has

pub saw_from_unhindered : (s : TxState) (apart saw : Bool) → apart ≡ true → stands s ≡ true
    → (apart && (is_open s || (is_committed s && not saw))) ≡ false → saw ≡ true
saw_from_unhindered s false saw apart standing free = absurd (false≢true apart)
saw_from_unhindered Active true saw apart standing free = absurd (false≢true (sym free))
saw_from_unhindered Limbo true saw apart standing free = absurd (false≢true (sym free))
saw_from_unhindered Dead true saw apart standing free = absurd (false≢true standing)
saw_from_unhindered Committed true saw apart standing free = not-false saw free

-- ---- what an entry does to the own changes

more_changes : (d : Deed) (deeds : List Deed) (table : List ℕ) (key : Value)
    → has_change (changes_in deeds) table key ≡ true
    → has_change (changes_in (d ∷ deeds)) table key ≡ true
more_changes (Changed c) deeds table key has = at (is_at c table key)
  where
    at : (b : Bool) → cond b true (has_change (changes_in deeds) table key) ≡ true
    at true = refl
    at false = has
more_changes Marked deeds table key has = has
more_changes (Saved name) deeds table key has = has

pub left_had : (point : Point) (deeds : List Deed) (table : List ℕ) (key : Value)
    → has_change (changes_in (deeds_back point deeds)) table key ≡ true
    → has_change (changes_in deeds) table key ≡ true
left_had point [] table key has = has
left_had point (d ∷ deeds) table key has =
    at (is_point point d) point (left_had point deeds table key) has
  where
    at : (b : Bool) (p : Point)
        → (has_change (changes_in (deeds_back point deeds)) table key ≡ true
        → has_change (changes_in deeds) table key ≡ true)
        → has_change (changes_in (cond b (from_point p d deeds) (deeds_back point deeds))) table key
        ≡ true → has_change (changes_in (d ∷ deeds)) table key ≡ true
    at true LastMark more has = more_changes d deeds table key has
    at true (SavepointNamed name) more has = has
    at false p more has = more_changes d deeds table key (more has)

pub back_had : (t u : ℕ) (point : Point) (all : List Step) (table : List ℕ) (key : Value)
    → has_change (changes_by t (taken_back u point all)) table key ≡ true
    → has_change (changes_by t all) table key ≡ true
back_had t u point all table key has = at (u == t) refl
  where
    here : (b : Bool)
        → has_change
        (changes_in (cond b (deeds_back point (deeds_by t all)) (deeds_by t all))) table key
        ≡ true → has_change (changes_by t all) table key ≡ true
    here true has = left_had point (deeds_by t all) table key has
    here false has = has

    at : (b : Bool) → (u == t) ≡ b → has_change (changes_by t all) table key ≡ true
    at true its =
        let same : u ≡ t = eqb-true u t its in
        let left : deeds_by t (taken_back u point all) ≡ deeds_left point (deeds_by t all) =
        ap (λ v. deeds_by t (taken_back v point all)) same ∙ deeds_by-taken_back t point all in
        here (has_deed point (deeds_by t all))
        (sym (ap (λ deeds. has_change (changes_in deeds) table key) left) ∙ has)
    at false other =
        sym (ap (λ deeds. has_change (changes_in deeds) table key)
        (deeds_by-taken_back_other t u point all other)) ∙ has
