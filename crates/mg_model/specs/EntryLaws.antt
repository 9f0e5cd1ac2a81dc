-- What one entry changes of a history's database, bases, views and states.
use Rattle.std.specs.Prelude.{◌≡◌, ℕ, ◌==◌, ◌&&◌, ◌||◌, Bool, true, false, List, [], ◌∷◌, ◌++◌, cond, refl}
use Rattle.std.proofs.Common.{sym, ◌∙◌, ap}
use Rattle.std.proofs.lemmas.Bool.{eqb-true}
use Rattle.mg_base.specs.declared.transaction.TxState.{TxState}
use Rattle.mg_base.specs.declared.transaction.TxState.TheVariants.{Active, Limbo, Dead, Committed}
use Rattle.mg_model.specs.declared.answer.Answer.{Answer}
use Rattle.mg_model.specs.declared.answer.Answer.TheVariants.{Fine, Tx, Rows, No}
use Rattle.mg_model.specs.declared.event.Event.{Event}
use Rattle.mg_model.specs.declared.event.Event.TheVariants.{Begin, Find, Claim}
use Rattle.mg_model.specs.declared.event.Mode.{Mode}
use Rattle.mg_model.specs.declared.change.Change.{Change as AnyChange}
use Rattle.mg_model.specs.declared.change.Step.{Step}
use Rattle.mg_model.specs.declared.opening.Opening.{Opening}
use Rattle.mg_model.specs.Catalog.{CatalogRows, catalog_name}
use Rattle.mg_model.specs.Changes.{row_at}
use Rattle.mg_model.specs.History.{Entry, Entries, transaction_of, Point, LastMark, SavepointNamed, Effect, Begins, Looks, Makes, Gives, Marks, Saves, TakesBack, Ends, Nothing, deed_of, beginning_of, effect_with, effect_of}
use Rattle.mg_model.specs.Machine.{mode_after, mode_of, state_after, state_of, is_of, deeds_by, changes_in, changes_by, is_point, has_point, at_point, back_to, taken_back, steps_after, database_after, takes_base, steps, database, base, own, view, cut_at_base}
use Rattle.mg_model.specs.Effects.{doer, drawn, commits, changes_of, is_its, has_deed, from_point, deeds_back, deeds_left}

-- ---- the database, and the base

-- the database after an effect: that before it, with the changes of the transaction that it commits
database_after_effect : (f : Effect) (own : ℕ → List AnyChange) (old : List AnyChange)
    → database_after f own old ≡ changes_of (commits f) own ++ old
database_after_effect (Ends t Active) own old = refl
database_after_effect (Ends t Limbo) own old = refl
database_after_effect (Ends t Dead) own old = refl
database_after_effect (Ends t Committed) own old = refl
database_after_effect (Begins t mode) own old = refl
database_after_effect (Looks t) own old = refl
database_after_effect (Makes t table row) own old = refl
database_after_effect (Gives t table key row) own old = refl
database_after_effect (Marks t) own old = refl
database_after_effect (Saves t name) own old = refl
database_after_effect (TakesBack t point) own old = refl
database_after_effect Nothing own old = refl

-- the database after an entry: that before it, with the changes of the transaction it commits
pub database_after_entry : (o : Opening) (h : Entries) (e : Entry)
    → database o (e ∷ h) ≡ changes_of (commits (effect_of e)) (own o h) ++ database o h
database_after_entry o h e = database_after_effect (effect_of e) (own o h) (database o h)

-- the base of a transaction is the database of the history cut where it took it
pub base_is_cut : (o : Opening) (h : Entries) (t : ℕ) → base o h t ≡ database o (cut_at_base h t)
base_is_cut o [] t = refl
base_is_cut o (e ∷ h) t =
    at (takes_base (effect_of e) t (mode_of h t).snapshot) (base_is_cut o h t)
  where
    at : (b : Bool) → base o h t ≡ database o (cut_at_base h t)
        → cond b (database o h) (base o h t) ≡ database o (cond b h (cut_at_base h t))
    at true before = refl
    at false before = before

-- ---- deeds, and what is taken back

has_deed-deeds_by : (t : ℕ) (point : Point) (all : List Step)
    → has_deed point (deeds_by t all) ≡ has_point t point all
has_deed-deeds_by t point [] = refl
has_deed-deeds_by t point (s ∷ all) = at (s.by.0 == t) (has_deed-deeds_by t point all)
  where
    at : (b : Bool) → has_deed point (deeds_by t all) ≡ has_point t point all
        → has_deed point (cond b (s.deed ∷ deeds_by t all) (deeds_by t all))
        ≡ ((b && is_point point s.deed) || has_point t point all)
    at true more = ap (λ (b : Bool). is_point point s.deed || b) more
    at false more = more

deeds_by-at_point : (t : ℕ) (point : Point) (s : Step) (all : List Step) → (s.by.0 == t) ≡ true
    → deeds_by t (at_point point s all) ≡ from_point point s.deed (deeds_by t all)
deeds_by-at_point t LastMark s all its = refl
deeds_by-at_point t (SavepointNamed name) s all its = rw its refl

deeds_by-back : (t : ℕ) (point : Point) (all : List Step)
    → deeds_by t (back_to t point all) ≡ deeds_back point (deeds_by t all)
deeds_by-back t point [] = refl
deeds_by-back t point (s ∷ all) =
    at (s.by.0 == t) refl (is_point point s.deed) refl (deeds_by-back t point all)
  where
    at : (its : Bool) → (s.by.0 == t) ≡ its → (here : Bool) → is_point point s.deed ≡ here
        → deeds_by t (back_to t point all) ≡ deeds_back point (deeds_by t all)
        → deeds_by t (cond its (cond here (at_point point s all) (back_to t point all))
        (s ∷ back_to t point all))
        ≡ deeds_back point (cond its (s.deed ∷ deeds_by t all) (deeds_by t all))
    at true eq true there more = rw there (deeds_by-at_point t point s all eq)
    at true eq false there more = rw there more
    at false eq here there more = rw eq more

-- another transaction's deeds stay
deeds_by-at_point_other : (t : ℕ) (point : Point) (s : Step) (all : List Step)
    → (s.by.0 == t) ≡ false → deeds_by t (at_point point s all) ≡ deeds_by t all
deeds_by-at_point_other t LastMark s all other = refl
deeds_by-at_point_other t (SavepointNamed name) s all other = rw other refl

not_both : (n t u : ℕ) → (u == t) ≡ false → (n == u) ≡ true → (n == t) ≡ false
not_both n t u apart same =
    let is : n ≡ u = eqb-true n u same in
    ap (λ m. m == t) is ∙ apart

deeds_by-back_other : (t u : ℕ) (point : Point) (all : List Step) → (u == t) ≡ false
    → deeds_by t (back_to u point all) ≡ deeds_by t all
deeds_by-back_other t u point [] apart = refl
deeds_by-back_other t u point (s ∷ all) apart =
    at (s.by.0 == u) refl (is_point point s.deed) (deeds_by-back_other t u point all apart)
  where
    at : (its : Bool) → (s.by.0 == u) ≡ its → (here : Bool)
        → deeds_by t (back_to u point all) ≡ deeds_by t all
        → deeds_by t (cond its (cond here (at_point point s all) (back_to u point all))
        (s ∷ back_to u point all))
        ≡ deeds_by t (s ∷ all)
    at true eq true more =
        let other : (s.by.0 == t) ≡ false = not_both s.by.0 t u apart eq in
        rw other (deeds_by-at_point_other t point s all other)
    at true eq false more =
        let other : (s.by.0 == t) ≡ false = not_both s.by.0 t u apart eq in rw other more
    at false eq here more = ap (λ deeds. cond (s.by.0 == t) (s.deed ∷ deeds) deeds) more

-- taking a transaction back takes back its deeds, and no other's
pub deeds_by-taken_back : (t : ℕ) (point : Point) (all : List Step)
    → deeds_by t (taken_back t point all) ≡ deeds_left point (deeds_by t all)
deeds_by-taken_back t point all =
    at (has_point t point all)
    ∙ ap (λ b. cond b (deeds_back point (deeds_by t all)) (deeds_by t all))
    (sym (has_deed-deeds_by t point all))
  where
    at : (b : Bool) → deeds_by t (cond b (back_to t point all) all)
        ≡ cond b (deeds_back point (deeds_by t all)) (deeds_by t all)
    at true = deeds_by-back t point all
    at false = refl

pub deeds_by-taken_back_other : (t u : ℕ) (point : Point) (all : List Step) → (u == t) ≡ false
    → deeds_by t (taken_back u point all) ≡ deeds_by t all
deeds_by-taken_back_other t u point all apart = at (has_point u point all)
  where
    at : (b : Bool) → deeds_by t (cond b (back_to u point all) all) ≡ deeds_by t all
    at true = deeds_by-back_other t u point all apart
    at false = refl

-- ---- an entry that is not a transaction's changes nothing of it

deeds_by_others : (f : Effect) (t : ℕ) (catalog : ℕ → CatalogRows) (old : List Step)
    → is_of t (doer f) ≡ false → deeds_by t (steps_after f catalog old) ≡ deeds_by t old
deeds_by_others (Begins u mode) t catalog old apart = refl
deeds_by_others (Looks u) t catalog old apart = refl
deeds_by_others (Makes u table row) t catalog old apart = rw apart refl
deeds_by_others (Gives u table key row) t catalog old apart = rw apart refl
deeds_by_others (Marks u) t catalog old apart = rw apart refl
deeds_by_others (Saves u name) t catalog old apart = rw apart refl
deeds_by_others (TakesBack u point) t catalog old apart =
    deeds_by-taken_back_other t u point old apart
deeds_by_others (Ends u end) t catalog old apart = refl
deeds_by_others Nothing t catalog old apart = refl

takes_base_others : (f : Effect) (t : ℕ) (snapshot : Bool) → is_of t (doer f) ≡ false
    → takes_base f t snapshot ≡ false
takes_base_others (Begins u mode) t snapshot apart = apart
takes_base_others (Looks u) t snapshot apart = rw apart refl
takes_base_others f t snapshot apart = refl

state_after_others : (f : Effect) (t : ℕ) (old : TxState) → is_of t (doer f) ≡ false
    → state_after f t old ≡ old
state_after_others (Begins u mode) t old apart = rw apart refl
state_after_others (Ends u end) t old apart = rw apart refl
state_after_others f t old apart = refl

mode_after_others : (f : Effect) (t : ℕ) (old : Mode) → is_of t (doer f) ≡ false
    → mode_after f t old ≡ old
mode_after_others (Begins u mode) t old apart = rw apart refl
mode_after_others f t old apart = refl

module _ (o : Opening) (h : Entries) (e : Entry) (t : ℕ) (others : is_its t e ≡ false) where
  pub deeds_by_others_entry : deeds_by t (steps o (e ∷ h)) ≡ deeds_by t (steps o h)
  deeds_by_others_entry = deeds_by_others (effect_of e) t
      (λ u. row_at (changes_by u (steps o h) ++ base o h u) catalog_name) (steps o h) others

  pub own_others_entry : own o (e ∷ h) t ≡ own o h t
  own_others_entry = ap changes_in deeds_by_others_entry

  pub state_others_entry : state_of o (e ∷ h) t ≡ state_of o h t
  state_others_entry = state_after_others (effect_of e) t (state_of o h t) others

  pub mode_others_entry : mode_of (e ∷ h) t ≡ mode_of h t
  mode_others_entry = mode_after_others (effect_of e) t (mode_of h t) others

  no_base : takes_base (effect_of e) t (mode_of h t).snapshot ≡ false
  no_base = takes_base_others (effect_of e) t (mode_of h t).snapshot others

  pub base_others_entry : base o (e ∷ h) t ≡ base o h t
  base_others_entry = rw no_base refl

  pub cut_others_entry : cut_at_base (e ∷ h) t ≡ cut_at_base h t
  cut_others_entry = rw no_base refl

  pub view_others_entry : view o (e ∷ h) t ≡ view o h t
  view_others_entry = cc (own_others_entry, base_others_entry)

-- ---- an event of another transaction, which draws no number of this one, is not its own

deed_doer : (t : ℕ) (event : Event) → is_of t (transaction_of event) ≡ false
    → is_of t (doer (deed_of event)) ≡ false
deed_doer t (Begin session mode) apart = refl
deed_doer t (Find u table filter) apart = refl
deed_doer t (Claim u table) apart = refl
deed_doer t event apart = apart

beginning_doer : (t : ℕ) (event : Event) (u : ℕ)
    → is_of t (drawn (beginning_of event u)) ≡ false
    → is_of t (doer (beginning_of event u)) ≡ false
beginning_doer t event u apart = at event apart
  where
    at : (event : Event) → is_of t (drawn (beginning_of event u)) ≡ false
        → is_of t (doer (beginning_of event u)) ≡ false
    at (Begin session mode) apart = apart
    at event apart = refl

pub others_by_event : (t : ℕ) (e : Entry) → is_of t (transaction_of e.event) ≡ false
    → is_of t (drawn (effect_of e)) ≡ false → is_its t e ≡ false
others_by_event t e apart undrawn = at e.answer undrawn
  where
    at : (answer : Answer) → is_of t (drawn (effect_with e.event answer)) ≡ false
        → is_of t (doer (effect_with e.event answer)) ≡ false
    at Fine undrawn = deed_doer t e.event apart
    at (Tx u) undrawn = beginning_doer t e.event u.0 undrawn
    at (Rows rows) undrawn = refl
    at (No refusal) undrawn = refl
