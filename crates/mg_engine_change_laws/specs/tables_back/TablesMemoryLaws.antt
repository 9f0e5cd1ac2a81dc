-- Memory follows the entry by which a transaction is taken back, with tables that it had made.
use Rattle.std.proofs.Common.{◌≡◌, ◌≢◌, inl, inr, ◌==◌, ◌<◌, ap, refl, sym, subst, ◌∙◌, ℕ, Bool, true, false, List, ◌∷◌, Option, None, Some}
use Rattle.std.specs.Prelude.{if◌then◌else◌}
use Rattle.std.proofs.lemmas.Bool.{eq-eqb, eqb-true, false≢true}
use Rattle.mg_base.specs.declared.transaction.TxState.TheVariants.{Active}
use Rattle.mg_chain.specs.Bases.{live_after}
use Rattle.mg_engine_change_laws.specs.backs.Memory.{MayGoTo}
use Rattle.mg_engine_change_laws.specs.backs.MemoryLaws.{none_left, nothing_given}
use Rattle.mg_engine_change_laws.specs.tables_back.TablesMemory.{IsBackOverTables, TablesFollow}
use Rattle.mg_engine_step_laws.specs.tables_back.Outs.{is_among}
use Rattle.mg_engine_step_laws.specs.tables_back.ShapesLeft.{ShapesLeft, table_left}
use Rattle.mg_engine_step_laws.specs.tables_back.TablesBack.{AreRowsLeft}
use Rattle.mg_grown_catalog_laws.specs.Grown.{CatalogGrows}
use Rattle.mg_image.specs.Histories.{newest_at}
use Rattle.mg_model.specs.Answers.{catalog_of, told}
use Rattle.mg_model.specs.Catalog.{catalog_name}
use Rattle.mg_model.specs.DeedLaws.{deeds_after, deeds_after_entry}
use Rattle.mg_model.specs.Effects.{deeds_back, deeds_left, doer, has_deed, is_its}
use Rattle.mg_model.specs.Legal.{IsLegal, MayBegin}
use Rattle.mg_model.specs.History.{Effect, Entries, Entry, TakesBack, effect_of, transaction_of}
use Rattle.mg_model.specs.Machine.{deeds_by, is_of, mode_after, mode_of, next_after, own, state_after, state_of, steps, waited_on}
use Rattle.mg_model.specs.declared.change.Change.{Change}
use Rattle.mg_model.specs.declared.change.Deed.{Deed}
use Rattle.mg_model.specs.declared.change.Point.{Point}
use Rattle.mg_model.specs.declared.change.Point.TheVariants.{LastMark, SavepointNamed}
use Rattle.mg_model.specs.declared.opening.Opening.{Opening}
use Rattle.mg_records.specs.Reading.{shape_seen}
use Rattle.mg_engine_step_laws.specs.standing.Following.{FollowsEntry, Notes}
use Rattle.mg_engine_step_laws.specs.standing.Standing.{IsSeenAs, Remembers, RemembersOne, Standing}
use Rattle.mg_undo.specs.Machine.{GoesBackAsTheMachine, going_to, undo_of}
use Rattle.mg_undo.specs.Undo.{State as Undo, TakesBack as GivesAll}
use Rattle.mg_undo.specs.declared.changes.Change.{Change as Kept}
use Rattle.mg_value.specs.declared.value.Value.{Value}
use Rattle.mg_waits.specs.Waits.{NowWaits}

module _ (machine : GoesBackAsTheMachine) (shapes : ShapesLeft) (o : Opening) (h : Entries) (e : Entry)
    (point : Point) (t : ℕ) (given : List Kept) (left : List Change) (keys : List Value) (s new : Standing)
    (back : effect_of e ≡ TakesBack t point) (whose : transaction_of e.event ≡ Some t)
    (answered : waited_on e.answer ≡ None) (opening : MayBegin o) (legal : IsLegal o (e ∷ h)) (grows : CatalogGrows o h)
    (memory : Remembers o h s) (active : s.state t ≡ Active) (may : MayGoTo point (deeds_by t (steps o h)))
    (rows : AreRowsLeft o h e t left keys)
    (same : (key : Value) → is_among keys key ≡ false
    → newest_at (own o (e ∷ h) t) catalog_name key ≡ newest_at (own o h t) catalog_name key)
    (is : IsBackOverTables t point given keys s new) where
  active_told : state_of o h t ≡ Active
  active_told = sym (memory.state t) ∙ active

  one : RemembersOne o h s t
  one = memory.active t active_told

  abbrev deeds : List Deed
  deeds = deeds_by t (steps o h)

  -- ---- what it has to take back

  deeds_are : deeds_by t (steps o (e ∷ h)) ≡ deeds_left point (deeds_by t (steps o h))
  deeds_are = deeds_after_entry o h e t
      ∙ (ap (λ (f : Effect). deeds_after f t (catalog_of (told o h) t) (deeds_by t (steps o h))) back
      ∙ rw (eq-eqb t t refl) refl)

  gave : GivesAll (going_to (undo_of (s.number t) (deeds_by t (steps o h))) point) given (new.undo t)
  gave = subst (λ (u : Undo). GivesAll (going_to u point) given (new.undo t)) one.undo is.gave

  left_by_point : (p : Point) → p ≡ point → MayGoTo p (deeds_by t (steps o h)) → (b : Bool)
      → has_deed p (deeds_by t (steps o h)) ≡ b
      → GivesAll (going_to (undo_of (s.number t) (deeds_by t (steps o h))) p) given (new.undo t)
      → new.undo t ≡ undo_of (s.number t) (deeds_left p (deeds_by t (steps o h)))
  left_by_point p same may_ true has all = machine (s.number t) (deeds_by t (steps o h)) p (new.undo t) given has all
  left_by_point (SavepointNamed name) same (inl has_) false none all = absurd (false≢true (sym none ∙ has_))
  left_by_point (SavepointNamed name) same (inr mark) false none all = absurd cc
  left_by_point LastMark same may_ false none all =
      none_left (undo_of (s.number t) (deeds_by t (steps o h))) (new.undo t) given
      (nothing_given (s.number t) (deeds_by t (steps o h)) none) all
      ∙ ap (λ (b : Bool). undo_of (s.number t) (if b then deeds_back LastMark (deeds_by t (steps o h))
      else deeds_by t (steps o h))) (sym none)

  undo_is : new.undo t ≡ undo_of (new.number t) (deeds_by t (steps o (e ∷ h)))
  undo_is = left_by_point point refl may (has_deed point (deeds_by t (steps o h))) refl gave
      ∙ (ap (undo_of (s.number t)) (sym deeds_are)
      ∙ ap (λ (n : List ℕ → ℕ). undo_of n (deeds_by t (steps o (e ∷ h)))) (sym is.number))

  -- ---- what it sees

  mode_same : (u : ℕ) → mode_of (e ∷ h) u ≡ mode_of h u
  mode_same u = ap (λ (f : Effect). mode_after f u (mode_of h u)) back

  seen_now : (name : List ℕ) → IsSeenAs name (shape_seen o (e ∷ h) t name) (table_left (is_among keys) (s.table t) name)
  seen_now = shapes o h e t point left keys (s.table t) back opening legal grows active_told rows same one.table

  -- ---- the whole

  its_own : RemembersOne o (e ∷ h) new t
  its_own = record {
    mode = is.mode ∙ (one.mode ∙ sym (mode_same t));
    session = subst (λ (n : ℕ). n < 32) (sym is.session) one.session;
    undo = undo_is;
    table = λ name. subst (IsSeenAs name (shape_seen o (e ∷ h) t name)) (sym (is.table name)) (seen_now name);
  }

  its_is : (u : ℕ) → is_its u e ≡ true → t ≡ u
  its_is u on = eqb-true t u (sym (ap (λ (f : Effect). is_of u (doer f)) back) ∙ on)

  other_is : (u : ℕ) → is_its u e ≡ false → u ≢ t
  other_is u off same = false≢true (sym off ∙ (ap (λ (f : Effect). is_of u (doer f)) back ∙ eq-eqb t u (sym same)))

  sessions_same : (u : ℕ) → new.session u ≡ s.session u
  sessions_same u = at (t == u) refl
    where
      at : (b : Bool) → (t == u) ≡ b → new.session u ≡ s.session u
      at true on = subst (λ (n : ℕ). new.session n ≡ s.session n) (eqb-true t u on) is.session
      at false off = (is.others u (λ same. false≢true (sym off ∙ eq-eqb t u (sym same)))).session

  told_active : (u : ℕ) → new.state u ≡ Active → state_of o h u ≡ Active
  told_active u runs = sym (memory.state u) ∙ (sym (is.state u) ∙ runs)

  pub back_follows : FollowsEntry o h e s new
  back_follows = record {
    limit = is.limit;
    next = is.next ∙ sym (ap (λ (f : Effect). next_after f s.next) back);
    state = λ u. is.state u ∙ sym (ap (λ (f : Effect). state_after f u (s.state u)) back);
    live = is.live ∙ sym (ap (λ (f : Effect). live_after f (λ u. (s.mode u).snapshot) s.live) back);
    waits = subst (λ (who : Option ℕ). Notes who e.answer s.waits new.waits) (sym whose)
        (subst (NowWaits s.waits new.waits t) (sym answered) is.over);
    others = λ u off runs. is.others u (other_is u off);
    its = λ u on runs. subst (RemembersOne o (e ∷ h) new) (its_is u on) its_own;
    apart = λ u v on off runs also same.
        let one_ : u ≡ v = memory.apart u v (told_active u runs) (told_active v also)
        (sym (sessions_same u) ∙ (same ∙ sessions_same v)) in
        false≢true (sym off ∙ (ap (λ (n : ℕ). is_its n e) (sym one_) ∙ on));
  }

pub tables_follow : GoesBackAsTheMachine → ShapesLeft → TablesFollow
tables_follow machine shapes o h e point t given left keys s new back whose answered opening legal grows memory active may
    rows same is = back_follows machine shapes o h e point t given left keys s new back whose answered opening legal grows
    memory active may rows same is
