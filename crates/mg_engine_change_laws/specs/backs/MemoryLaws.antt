-- Memory follows the entry by which a transaction is taken back.
use Rattle.std.proofs.Common.{◌≡◌, ◌≢◌, inl, inr, ◌==◌, ◌++◌, ◌<◌, ap, refl, sym, subst, ◌∙◌, ℕ, Bool, true, false, List, [], ◌∷◌, Option, None, Some}
use Rattle.std.specs.Prelude.{if◌then◌else◌, is_some}
use Rattle.std.proofs.Math.Path.{fun_ext}
use Rattle.std.proofs.lemmas.Bool.{eq-eqb, eqb-true, false≢true}
use Rattle.mg_base.specs.declared.transaction.TxState.TheVariants.{Active}
use Rattle.mg_chain.specs.Bases.{live_after}
use Rattle.mg_engine_step_laws.specs.standing.OwnChains.{change_there, newest_second, row_of, row_there}
use Rattle.mg_engine_change_laws.specs.backs.Memory.{BacksFollow, IsBackInMemory, LeavesCatalog, MayGoTo}
use Rattle.mg_engine_change_laws.specs.backs.ToTake.{SinceAreTaken, since_point}
use Rattle.mg_image.specs.Histories.{newest_at, row_change}
use Rattle.mg_image.specs.Records as records
use Rattle.mg_model.specs.Answers.{catalog_of, told}
use Rattle.mg_model.specs.Catalog.{CatalogRows, catalog_name}
use Rattle.mg_model.specs.Changes.{is_at, row_at}
use Rattle.mg_model.specs.DeedLaws.{deeds_after, deeds_after_entry}
use Rattle.mg_model.specs.Effects.{deeds_back, deeds_left, doer, has_deed, is_its}
use Rattle.mg_model.specs.History.{Effect, Entries, Entry, TakesBack, effect_of, transaction_of}
use Rattle.mg_model.specs.Machine.{base, database, deeds_by, is_of, mode_after, mode_of, next_after, own, state_after, state_of, steps, takes_base, waited_on}
use Rattle.mg_model.specs.declared.change.Change.{Change}
use Rattle.mg_model.specs.declared.change.Deed.{Deed}
use Rattle.mg_model.specs.declared.change.Deed.TheVariants.{Changed, Marked, Saved}
use Rattle.mg_model.specs.declared.change.Point.{Point}
use Rattle.mg_model.specs.declared.change.Point.TheVariants.{LastMark, SavepointNamed}
use Rattle.mg_model.specs.declared.opening.Opening.{Opening}
use Rattle.mg_records.specs.Reading.{shape_named, shape_seen}
use Rattle.mg_engine_step_laws.specs.standing.Following.{FollowsEntry, Notes}
use Rattle.mg_engine_step_laws.specs.standing.Standing.{IsSeenAs, Remembers, RemembersOne, Standing}
use Rattle.mg_undo.specs.Machine.{GoesBackAsTheMachine, going_to, points_of, undo_of}
use Rattle.mg_undo.specs.Undo.{State as Undo, Taken, TakesBack as GivesAll, ends, from_goal, gives, take_back, take_to}
use Rattle.mg_undo.specs.declared.changes.Change.{Change as Kept}
use Rattle.mg_value.specs.declared.shape.Shape.{Shape}
use Rattle.mg_value.specs.declared.value.Value.{Value}
use Rattle.mg_waits.specs.Waits.{NowWaits}

-- ---- without a mark nothing is given

no_mark : (deeds : List Deed) → has_deed LastMark deeds ≡ false → from_goal None (points_of deeds) ≡ []
no_mark [] none = refl
no_mark (Changed c ∷ deeds) none = no_mark deeds none
no_mark (Marked ∷ deeds) none = absurd cc
no_mark (Saved name ∷ deeds) none = no_mark deeds none

pub nothing_given : (number : List ℕ → ℕ) (deeds : List Deed) → has_deed LastMark deeds ≡ false
    → take_back (undo_of number deeds) ≡ record { given = None; after = undo_of number deeds }
nothing_given number deeds none = ap (take_to (undo_of number deeds)) (no_mark deeds none)

pub none_left : (old new : Undo) (given : List Kept) → take_back old ≡ record { given = None; after = old }
    → GivesAll old given new → new ≡ old
none_left old new given is (ends none after) = sym after ∙ ap (λ (x : Taken). x.after) is
none_left old new given is (gives c some more) =
    let both : Some c ≡ None = sym some ∙ ap (λ (x : Taken). x.given) is in absurd cc

-- ---- the newest change of two lists

abbrev or_else : Option records.Change → Option records.Change → Option records.Change
or_else None y = y
or_else (Some c) y = Some c

newest_of_both : (xs rest : List Change) (name : List ℕ) (key : Value)
    → newest_at (xs ++ rest) name key ≡ or_else (newest_at xs name key) (newest_at rest name key)
newest_of_both [] rest name key = refl
newest_of_both (x ∷ xs) rest name key = at (is_at x name key) (newest_of_both xs rest name key)
  where
    at : (b : Bool) → newest_at (xs ++ rest) name key ≡ or_else (newest_at xs name key) (newest_at rest name key)
        → (if b then Some (row_change x.row) else newest_at (xs ++ rest) name key)
        ≡ or_else (if b then Some (row_change x.row) else newest_at xs name key) (newest_at rest name key)
    at true more = refl
    at false more = more

newest_over : (cs ds rest : List Change) (name : List ℕ) (key : Value) → newest_at cs name key ≡ newest_at ds name key
    → newest_at (cs ++ rest) name key ≡ newest_at (ds ++ rest) name key
newest_over cs ds rest name key same = newest_of_both cs rest name key
    ∙ (ap (λ (x : Option records.Change). or_else x (newest_at rest name key)) same
    ∙ sym (newest_of_both ds rest name key))

module _ (machine : GoesBackAsTheMachine) (since : SinceAreTaken) (o : Opening) (h : Entries) (e : Entry)
    (point : Point) (t : ℕ) (given : List Kept) (s new : Standing) (back : effect_of e ≡ TakesBack t point)
    (whose : transaction_of e.event ≡ Some t) (answered : waited_on e.answer ≡ None) (memory : Remembers o h s)
    (active : s.state t ≡ Active) (may : MayGoTo point (deeds_by t (steps o h)))
    (leaves : LeavesCatalog point (deeds_by t (steps o h))) (is : IsBackInMemory t point given s new) where
  active_told : state_of o h t ≡ Active
  active_told = sym (memory.state t) ∙ active

  one : RemembersOne o h s t
  one = memory.active t active_told

  abbrev deeds : List Deed
  deeds = deeds_by t (steps o h)

  -- ---- what it has to take back

  deeds_are : deeds_by t (steps o (e ∷ h)) ≡ deeds_left point (deeds_by t (steps o h))
  deeds_are = deeds_after_entry o h e t
      ∙ (ap (λ (f : Effect). deeds_after f t (catalog_of (told o h) t) (deeds_by t (steps o h))) back
      ∙ rw (eq-eqb t t refl) refl)

  gave : GivesAll (going_to (undo_of (s.number t) (deeds_by t (steps o h))) point) given (new.undo t)
  gave = subst (λ (u : Undo). GivesAll (going_to u point) given (new.undo t)) one.undo is.gave

  left_by_point : (p : Point) → p ≡ point → MayGoTo p (deeds_by t (steps o h)) → (b : Bool)
      → has_deed p (deeds_by t (steps o h)) ≡ b
      → GivesAll (going_to (undo_of (s.number t) (deeds_by t (steps o h))) p) given (new.undo t)
      → new.undo t ≡ undo_of (s.number t) (deeds_left p (deeds_by t (steps o h)))
  left_by_point p same may_ true has all = machine (s.number t) (deeds_by t (steps o h)) p (new.undo t) given has all
  left_by_point (SavepointNamed name) same (inl has_) false none all = absurd (false≢true (sym none ∙ has_))
  left_by_point (SavepointNamed name) same (inr mark) false none all = absurd cc
  left_by_point LastMark same may_ false none all =
      none_left (undo_of (s.number t) (deeds_by t (steps o h))) (new.undo t) given
      (nothing_given (s.number t) (deeds_by t (steps o h)) none) all
      ∙ ap (λ (b : Bool). undo_of (s.number t) (if b then deeds_back LastMark (deeds_by t (steps o h))
      else deeds_by t (steps o h))) (sym none)

  undo_is : new.undo t ≡ undo_of (new.number t) (deeds_by t (steps o (e ∷ h)))
  undo_is = left_by_point point refl may (has_deed point (deeds_by t (steps o h))) refl gave
      ∙ (ap (undo_of (s.number t)) (sym deeds_are)
      ∙ ap (λ (n : List ℕ → ℕ). undo_of n (deeds_by t (steps o (e ∷ h)))) (sym is.number))

  -- ---- what it sees

  mode_same : (u : ℕ) → mode_of (e ∷ h) u ≡ mode_of h u
  mode_same u = ap (λ (f : Effect). mode_after f u (mode_of h u)) back

  base_same : (u : ℕ) → base o (e ∷ h) u ≡ base o h u
  base_same u = ap (λ (f : Effect). if takes_base f u (mode_of h u).snapshot then database o h else base o h u) back

  not_since : (key : Value) → newest_at (since_point point (deeds_by t (steps o h))) catalog_name key ≡ None
  not_since key = at (newest_at (since_point point (deeds_by t (steps o h))) catalog_name key) refl
    where
      at : (x : Option records.Change) → newest_at (since_point point (deeds_by t (steps o h))) catalog_name key ≡ x
          → newest_at (since_point point (deeds_by t (steps o h))) catalog_name key ≡ None
      at None none = none
      at (Some c) some = absurd (false≢true (sym (leaves key)
          ∙ (change_there (since_point point (deeds_by t (steps o h))) catalog_name key ∙ ap is_some some)))

  own_newest : (key : Value) → newest_at (own o (e ∷ h) t) catalog_name key ≡ newest_at (own o h t) catalog_name key
  own_newest key = sym (newest_second (since_point point (deeds_by t (steps o h))) (own o (e ∷ h) t) catalog_name key
      (not_since key)) ∙ since o h e t point back catalog_name key

  view_rows : (key : Value)
      → row_at (own o (e ∷ h) t ++ base o (e ∷ h) t) catalog_name key
      ≡ row_at (own o h t ++ base o h t) catalog_name key
  view_rows key = ap (λ (cs : List Change). row_at (own o (e ∷ h) t ++ cs) catalog_name key) (base_same t)
      ∙ (row_there (own o (e ∷ h) t ++ base o h t) catalog_name key
      ∙ (ap row_of (newest_over (own o (e ∷ h) t) (own o h t) (base o h t) catalog_name key (own_newest key))
      ∙ sym (row_there (own o h t ++ base o h t) catalog_name key)))

  seen_same : (name : List ℕ) → shape_seen o h t name ≡ shape_seen o (e ∷ h) t name
  seen_same name = ap (λ (rows : CatalogRows). shape_named rows name) (fun_ext (λ key. sym (view_rows key)))

  -- ---- the whole

  its_own : RemembersOne o (e ∷ h) new t
  its_own = record {
    mode = is.mode ∙ (one.mode ∙ sym (mode_same t));
    session = subst (λ (n : ℕ). n < 32) (sym is.session) one.session;
    undo = undo_is;
    table = λ name. subst (λ (shape : Option Shape). IsSeenAs name shape (new.table t name)) (seen_same name)
        (subst (IsSeenAs name (shape_seen o h t name)) (sym (is.table name)) (one.table name));
  }

  its_is : (u : ℕ) → is_its u e ≡ true → t ≡ u
  its_is u on = eqb-true t u (sym (ap (λ (f : Effect). is_of u (doer f)) back) ∙ on)

  other_is : (u : ℕ) → is_its u e ≡ false → u ≢ t
  other_is u off same = false≢true (sym off ∙ (ap (λ (f : Effect). is_of u (doer f)) back ∙ eq-eqb t u (sym same)))

  sessions_same : (u : ℕ) → new.session u ≡ s.session u
  sessions_same u = at (t == u) refl
    where
      at : (b : Bool) → (t == u) ≡ b → new.session u ≡ s.session u
      at true on = subst (λ (n : ℕ). new.session n ≡ s.session n) (eqb-true t u on) is.session
      at false off = (is.others u (λ same. false≢true (sym off ∙ eq-eqb t u (sym same)))).session

  told_active : (u : ℕ) → new.state u ≡ Active → state_of o h u ≡ Active
  told_active u runs = sym (memory.state u) ∙ (sym (is.state u) ∙ runs)

  pub back_follows : FollowsEntry o h e s new
  back_follows = record {
    limit = is.limit;
    next = is.next ∙ sym (ap (λ (f : Effect). next_after f s.next) back);
    state = λ u. is.state u ∙ sym (ap (λ (f : Effect). state_after f u (s.state u)) back);
    live = is.live ∙ sym (ap (λ (f : Effect). live_after f (λ u. (s.mode u).snapshot) s.live) back);
    waits = subst (λ (who : Option ℕ). Notes who e.answer s.waits new.waits) (sym whose)
        (subst (NowWaits s.waits new.waits t) (sym answered) is.over);
    others = λ u off runs. is.others u (other_is u off);
    its = λ u on runs. subst (RemembersOne o (e ∷ h) new) (its_is u on) its_own;
    apart = λ u v on off runs also same.
        let one_ : u ≡ v = memory.apart u v (told_active u runs) (told_active v also)
        (sym (sessions_same u) ∙ (same ∙ sessions_same v)) in
        false≢true (sym off ∙ (ap (λ (n : ℕ). is_its n e) (sym one_) ∙ on));
  }

pub backs_follow : GoesBackAsTheMachine → SinceAreTaken → BacksFollow
backs_follow machine since o h e point t given s new back whose answered memory active may leaves is =
    back_follows machine since o h e point t given s new back whose answered memory active may leaves is
