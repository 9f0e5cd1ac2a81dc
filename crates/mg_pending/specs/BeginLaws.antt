-- What stays where a session begins a transaction, and where nothing comes of a call.
use Rattle.std.specs.Prelude.{◌≡◌, ◌≢◌, ◌<◌, ◌+◌, ◌==◌, ℕ, Bool, true, false, not, List, [], ◌∷◌, length, set, Option, Some, None, refl, if◌then◌else◌}
use Rattle.std.proofs.Common.{sym, ap, ◌∙◌, subst, arith}
use Rattle.std.proofs.lemmas.Bool.{eqb-true, eq-eqb, ne_eqb}
use Rattle.std.proofs.lemmas.List.{length-set}
use Rattle.mg_base.specs.declared.numbers.TxNo.{TxNo}
use Rattle.mg_base.specs.declared.transaction.TxState.{TxState}
use Rattle.mg_base.specs.declared.transaction.TxState.TheVariants.{Active}
use Rattle.mg_model.specs.declared.answer.Answer.TheVariants.{Tx, No}
use Rattle.mg_model.specs.declared.event.Event.TheVariants.{Begin}
use Rattle.mg_model.specs.declared.event.Mode.{Mode}
use Rattle.mg_model.specs.declared.opening.Opening.{Opening}
use Rattle.mg_model.specs.declared.refusal.Refusal.{Refusal}
use Rattle.mg_model.specs.Answers.{is_active}
use Rattle.mg_model.specs.EntryLaws.{state_others_entry, mode_others_entry}
use Rattle.mg_model.specs.History.{Entries, Entry, entry}
use Rattle.mg_model.specs.Legal.{IsLawful, IsLegal}
use Rattle.mg_model.specs.Machine.{is_of, state_of, mode_of}
use Rattle.mg_records.specs.Meaning.{Means}
use Rattle.mg_records.specs.Sessions.{SessionsAreOne, SessionsStay}
use Rattle.mg_calls.specs.Frames.{Frames}
use Rattle.mg_transcript.specs.Sessions.{Unfinished, last_begun, while_active, transaction_of}
use Rattle.mg_transcript.specs.SessionLaws.{begun_below, drawn_next}
use Rattle.mg_courses.specs.BesideLaws.{WorksStayReady, WorksStayAt}
use Rattle.mg_courses.specs.Running.{RunMeans, GoesOnBeside, as_before, one_beside}
use Rattle.mg_pending.specs.declared.pending.Pending.{Pending}
use Rattle.mg_pending.specs.declared.transactions.Transaction.{Transaction}
use Rattle.mg_pending.specs.declared.transactions.TheConstants.{PLACES}
use Rattle.mg_pending.specs.Transactions.{transaction_at, number_in, number_at, is_number, has_number}
use Rattle.mg_pending.specs.TransactionLaws.{placed_same, placed_other, has_other, place_has}
use Rattle.mg_pending.specs.StandingLaws.{ne_from}
use Rattle.mg_pending.specs.Standing.{Agree, IsOf, StandAt, CanGoOn, AllCanGoOn, AreReady}

-- ---- entries beside a transaction

state_beside : (o : Opening) (u : ℕ) {h after : Entries} → GoesOnBeside u h after
    → state_of o after u ≡ state_of o h u
state_beside o u as_before = refl
state_beside o u (one_beside {after = mid} e apart more) =
    state_others_entry o mid e u apart ∙ state_beside o u more

mode_beside : (o : Opening) (u : ℕ) {h after : Entries} → GoesOnBeside u h after
    → mode_of after u ≡ mode_of h u
mode_beside o u as_before = refl
mode_beside o u (one_beside {after = mid} e apart more) =
    mode_others_entry o mid e u apart ∙ mode_beside o u more

-- ---- nothing comes of it

-- a history goes on by nothing of any transaction, and no session begins one
pub record GoesOnAlone (h after : Entries) : Type 0 where
  pub beside_all : (u : ℕ) → GoesOnBeside u h after
  pub begun : (s : ℕ) → last_begun after s ≡ last_begun h s

pub alone_at_all : (h : Entries) → GoesOnAlone h h
alone_at_all h = record { beside_all = λ u. as_before; begun = λ s. refl }

pub alone_refused : (h : Entries) (session : ℕ) (mode : Mode) (refusal : Refusal)
    → GoesOnAlone h (entry (Begin session mode) (No refusal) ∷ h)
alone_refused h session mode refusal = record {
  beside_all = λ u. one_beside (entry (Begin session mode) (No refusal)) refl as_before;
  begun = λ s. refl;
}

another : (n : ℕ) → (n + 1 == n) ≡ false
another n = ne_eqb (n + 1) n (λ same. absurd (omega (arith, same)))

module _ {R P Run : Type 0} (m : Means R P) (runs : RunMeans R Run) (old new : R)
    (all : List (Option Transaction)) (refusal : Option Refusal)
    (frames : (n : ℕ) → Frames m old new n refusal) where
  abbrev number : ℕ → TxNo
  number n = record { 0 = n }

  all_can_still : WorksStayReady m runs → (ps : List (Pending Run)) → AllCanGoOn m runs old all ps
      → AllCanGoOn m runs new all ps
  all_can_still stay [] can = tt
  all_can_still stay (p ∷ ps) can = (
    record {
      lettered = can.0.lettered;
      its = can.0.its;
      ready = stay old new (number (p.transaction.0 + 1)) p.transaction refusal p.work (another p.transaction.0)
          (frames (p.transaction.0 + 1)) can.0.ready;
    },
    all_can_still stay ps can.1,
  )

  pub stays_ready : (ps : List (Pending Run)) → WorksStayReady m runs → SessionsStay m old new None None
      → AreReady m runs old all ps → AreReady m runs new all ps
  stays_ready ps works stay ready = record {
    places = ready.places;
    free = λ k none. stay.free k refl (ready.free k none);
    works = λ k t is. stay.works t.0 k refl (ready.works k t is);
    ready = all_can_still works ps ready.ready;
    apart = ready.apart;
  }

  all_agree_still : WorksStayAt m runs → (o : Opening) (h after : Entries) → GoesOnAlone h after
      → (ps : List (Pending Run)) (us : List Unfinished) → Agree runs old o h ps us
      → Agree runs new o after ps us
  all_agree_still stay o h after alone [] [] agree = tt
  all_agree_still stay o h after alone [] (u ∷ us) agree = absurd agree
  all_agree_still stay o h after alone (p ∷ ps) [] agree = absurd agree
  all_agree_still stay o h after alone (p ∷ ps) (u ∷ us) agree = (
    record {
      session = agree.0.session;
      transaction = agree.0.transaction;
      waits_on = agree.0.waits_on;
      at_course = stay old new o h after (number (p.transaction.0 + 1)) p.transaction refusal p.work u.course
          (another p.transaction.0) (frames (p.transaction.0 + 1)) (alone.beside_all p.transaction.0)
          agree.0.at_course;
    },
    all_agree_still stay o h after alone ps us agree.1,
  )

  while_still : (o : Opening) (h after : Entries) → GoesOnAlone h after → (last : Option TxNo)
      → while_active o after last ≡ while_active o h last
  while_still o h after alone None = refl
  while_still o h after alone (Some u) =
      ap (λ (state : TxState). if is_active state then Some u else None)
      (state_beside o u.0 (alone.beside_all u.0))

  pub stays_stand : (o : Opening) (h after : Entries) (ps : List (Pending Run)) (us : List Unfinished)
      → WorksStayAt m runs → GoesOnAlone h after → m.stands new o after → IsLegal o after
      → StandAt m runs old o h all ps us → StandAt m runs new o after all ps us
  stays_stand o h after ps us works alone stands legal stand = record {
    stands = stands;
    legal = legal;
    its = λ k. ap (while_active o after) (alone.begun k)
        ∙ while_still o h after alone (last_begun h k) ∙ stand.its k;
    modes = λ k x is. ap (λ (mode : Mode). mode.read_only)
        (mode_beside o x.number.0 (alone.beside_all x.number.0)) ∙ stand.modes k x is;
    active = λ u. ap is_active (state_beside o u (alone.beside_all u)) ∙ stand.active u;
    agree = all_agree_still works o h after alone ps us stand.agree;
  }

-- ---- a session begins a transaction

abbrev pub begun_one : TxNo → Bool → Transaction
begun_one t read_only = record { number = t; read_only = read_only }

module _ {R P Run : Type 0} (m : Means R P) (runs : RunMeans R Run) (old new : R) (s : ℕ) (t : TxNo)
    (mode : Mode) (all : List (Option Transaction)) (inside : s < PLACES)
    (none : number_at all s ≡ None) (one : SessionsAreOne m) (works : m.works new t.0 s)
    (stay : SessionsStay m old new (Some s) None) (frames : Frames m old new t.0 None) where
  abbrev after_all : List (Option Transaction)
  after_all = set all s (Some (begun_one t mode.read_only))

  not_of : (k : ℕ) → (k == s) ≡ false → (s == k) ≡ false
  not_of k apart = ne_eqb s k (λ same. ne_from k s apart (sym same))

  elsewhere : (k : ℕ) (u : TxNo) → number_at all k ≡ Some u → k ≢ s
  elsewhere k u is same = absurd (cc (none, ap (number_at all) (sym same) ∙ is))

  -- the number is none of theirs
  fresh : (k : ℕ) (u : TxNo) → number_at all k ≡ Some u → m.works old u.0 k → (t.0 == u.0) ≡ false
  fresh k u is was = ne_eqb t.0 u.0 (λ same. elsewhere k u is
      (one new u.0 k s (stay.works u.0 k refl was) (subst (λ (n : ℕ). m.works new n s) same works)))

  begun_can : WorksStayReady m runs
      → ((k : ℕ) (u : TxNo) → number_at all k ≡ Some u → m.works old u.0 k) → length all ≡ PLACES
      → (ps : List (Pending Run)) → AllCanGoOn m runs old all ps → AllCanGoOn m runs new after_all ps
  begun_can still were places [] can = tt
  begun_can still were places (p ∷ ps) can = (
    record {
      lettered = can.0.lettered;
      its = ap number_in (placed_other all s p.session.0 (Some (begun_one t mode.read_only))
          (elsewhere p.session.0 p.transaction can.0.its)) ∙ can.0.its;
      ready = still old new t p.transaction None p.work
          (fresh p.session.0 p.transaction can.0.its (were p.session.0 p.transaction can.0.its)) frames can.0.ready;
    },
    begun_can still were places ps can.1,
  )

  pub begun_ready : (ps : List (Pending Run)) → WorksStayReady m runs → AreReady m runs old all ps
      → AreReady m runs new after_all ps
  begun_ready ps still ready = record {
    places = length-set all s (Some (begun_one t mode.read_only)) ∙ ready.places;
    free = λ k is. free_at k is (k == s) refl;
    works = λ k u is. works_at k u is (k == s) refl;
    ready = begun_can still ready.works ready.places ps ready.ready;
    apart = ready.apart;
  }
    where
      within : s < length all
      within = let places = ready.places in omega (arith, inside, places)

      free_at : (k : ℕ) → number_at after_all k ≡ None → (b : Bool) → (k == s) ≡ b → m.is_free new k
      free_at k is true same = absurd (cc (
        ap number_in (placed_same all s (Some (begun_one t mode.read_only)) within),
        ap (number_at after_all) (sym (eqb-true k s same)) ∙ is,
      ))
      free_at k is false apart = stay.free k (not_of k apart) (ready.free k
          (ap number_in (sym (placed_other all s k (Some (begun_one t mode.read_only)) (ne_from k s apart))) ∙ is))

      works_at : (k : ℕ) (u : TxNo) → number_at after_all k ≡ Some u → (b : Bool) → (k == s) ≡ b
          → m.works new u.0 k
      works_at k u is true same =
          let both : Some t ≡ Some u = ap number_in (sym (placed_same all s (Some (begun_one t mode.read_only)) within))
          ∙ ap (number_at after_all) (sym (eqb-true k s same)) ∙ is in
          let number : t ≡ u = cc both in
          subst (λ (n : ℕ). m.works new u.0 n) (sym (eqb-true k s same))
          (subst (λ (n : TxNo). m.works new n.0 s) number works)
      works_at k u is false apart = stay.works u.0 k refl (ready.works k u
          (ap number_in (sym (placed_other all s k (Some (begun_one t mode.read_only)) (ne_from k s apart))) ∙ is))

  module _ (o : Opening) (h : Entries) (ps : List (Pending Run)) (us : List Unfinished)
      (ready : AreReady m runs old all ps) (stand : StandAt m runs old o h all ps us)
      (lawful : IsLawful o h (entry (Begin s mode) (Tx t))) where
    abbrev longer : Entries
    longer = entry (Begin s mode) (Tx t) ∷ h

    room : s < length all
    room = let places = ready.places in omega (arith, inside, places)

    begun_agree : WorksStayAt m runs → (qs : List (Pending Run)) (vs : List Unfinished)
        → AllCanGoOn m runs old all qs → Agree runs old o h qs vs → Agree runs new o longer qs vs
    begun_agree still [] [] can agree = tt
    begun_agree still [] (v ∷ vs) can agree = absurd agree
    begun_agree still (p ∷ qs) [] can agree = absurd agree
    begun_agree still (p ∷ qs) (v ∷ vs) can agree =
        let apart = fresh p.session.0 p.transaction can.0.its
        (ready.works p.session.0 p.transaction can.0.its) in (
          record {
            session = agree.0.session;
            transaction = agree.0.transaction;
            waits_on = agree.0.waits_on;
            at_course = still old new o h longer t p.transaction None p.work v.course apart frames
                (one_beside (entry (Begin s mode) (Tx t)) apart as_before) agree.0.at_course;
          },
          begun_agree still qs vs can.1 agree.1,
        )

    -- what another session began has another number
    other_last : (k : ℕ) (u : TxNo) → last_begun h k ≡ Some u → (t.0 == u.0) ≡ false
    other_last k u is = ne_eqb t.0 u.0 (λ same. absurd (omega (
      arith,
      same,
      begun_below o h k u stand.legal is,
      drawn_next o h s mode t lawful,
    )))

    while_longer : (k : ℕ) (last : Option TxNo) → last_begun h k ≡ last
        → while_active o longer last ≡ while_active o h last
    while_longer k None is = refl
    while_longer k (Some u) is =
        let apart = other_last k u is in
        ap (λ (b : Bool). if is_active (if b then Active else state_of o h u.0) then Some u else None) apart

    its_longer : (k : ℕ) (b : Bool) → (k == s) ≡ b → transaction_of o longer k ≡ number_at after_all k
    its_longer k true same =
        let here : s ≡ k = sym (eqb-true k s same) in
        subst (λ (n : ℕ). transaction_of o longer n ≡ number_at after_all n) here
        (ap (λ (b : Bool). while_active o longer (if b then Some t else last_begun h s)) (eq-eqb s s refl)
        ∙ ap (λ (b : Bool). if is_active (if b then Active else state_of o h t.0) then Some t else None)
        (eq-eqb t.0 t.0 refl)
        ∙ sym (ap number_in (placed_same all s (Some (begun_one t mode.read_only)) room)))
    its_longer k false apart =
        ap (λ (b : Bool). while_active o longer (if b then Some t else last_begun h k)) (not_of k apart)
        ∙ while_longer k (last_begun h k) refl ∙ stand.its k
        ∙ sym (ap number_in (placed_other all s k (Some (begun_one t mode.read_only)) (ne_from k s apart)))

    modes_longer : (k : ℕ) (x : Transaction) → transaction_at after_all k ≡ Some x → (b : Bool) → (k == s) ≡ b
        → (mode_of longer x.number.0).read_only ≡ x.read_only
    modes_longer k x is true same =
        let both : Some (begun_one t mode.read_only) ≡ Some x =
        sym (placed_same all s (Some (begun_one t mode.read_only)) room)
        ∙ ap (transaction_at after_all) (sym (eqb-true k s same)) ∙ is in
        let this : begun_one t mode.read_only ≡ x = cc both in
        subst (λ (y : Transaction). (mode_of longer y.number.0).read_only ≡ y.read_only) this
        (ap (λ (b : Bool). (if b then mode else mode_of h t.0).read_only) (eq-eqb t.0 t.0 refl))
    modes_longer k x is false apart =
        let was : transaction_at all k ≡ Some x =
        sym (placed_other all s k (Some (begun_one t mode.read_only)) (ne_from k s apart)) ∙ is in
        let other = fresh k x.number (ap number_in was) (ready.works k x.number (ap number_in was)) in
        ap (λ (b : Bool). (if b then mode else mode_of h x.number.0).read_only) other ∙ stand.modes k x was

    active_longer : (u : ℕ) (b : Bool) → (t.0 == u) ≡ b
        → is_active (state_of o longer u) ≡ has_number after_all u
    active_longer u true same =
        ap (λ (c : Bool). is_active (if c then Active else state_of o h u)) same
        ∙ sym (place_has after_all u s t
        (ap number_in (placed_same all s (Some (begun_one t mode.read_only)) room)) (eqb-true t.0 u same))
    active_longer u false apart =
        ap (λ (c : Bool). is_active (if c then Active else state_of o h u)) apart ∙ stand.active u
        ∙ sym (has_other all s room (Some (begun_one t mode.read_only)) u (not_there (transaction_at all s) none)
        apart)
      where
        not_there : (x : Option Transaction) → number_in x ≡ None → is_number u x ≡ false
        not_there None is = refl
        not_there (Some x) is = absurd cc

    pub begun_stands : WorksStayAt m runs → m.stands new o longer → StandAt m runs new o longer after_all ps us
    begun_stands still stands = record {
      stands = stands;
      legal = (lawful, stand.legal);
      its = λ k. its_longer k (k == s) refl;
      modes = λ k x is. modes_longer k x is (k == s) refl;
      active = λ u. active_longer u (t.0 == u) refl;
      agree = begun_agree still ps us ready.ready stand.agree;
    }
