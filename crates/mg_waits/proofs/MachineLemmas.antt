-- The verdicts by the noted waits, and the machine's.
use Rattle.std.specs.Prelude.{◌≡◌, ◌⊎◌, ℕ, ◌<◌, ◌==◌, Bool, true, false, [], ◌∷◌, Option, Some, None, cond, refl}
use Rattle.std.proofs.Common.{sym, ◌∙◌, ap, inl, inr}
use Rattle.std.proofs.lemmas.Bool.{false≢true, both_ways, eqb-true, cases_eq, eq-eqb, ne_eqb, false_from_ne_true}
use Rattle.mg_base.specs.declared.transaction.TxState.{TxState}
use Rattle.mg_base.specs.declared.transaction.TxState.TheVariants.{Active, Limbo, Dead, Committed}
use Rattle.mg_model.specs.declared.answer.Answer.{Answer}
use Rattle.mg_model.specs.declared.answer.Answer.TheVariants.{Fine, Tx, Rows, No}
use Rattle.mg_model.specs.declared.refusal.Refusal.TheVariants.{Waits}
use Rattle.mg_model.specs.declared.event.Event.{Event}
use Rattle.mg_model.specs.declared.event.Event.TheVariants.{Begin, Look, Find, Claim, Insert, Change, Erase, Mark, UndoMark, Savepoint, BackTo, Prepare, Commit, Rollback, Decide}
use Rattle.mg_model.specs.declared.opening.Opening.{Opening}
use Rattle.mg_model.specs.History.{Entry, Entries, transaction_of, Nothing, effect_with}
use Rattle.mg_model.specs.Machine.{next_number, mode_of, state_after, state_of, waited_on, is_of, last_wait}
use Rattle.mg_model.specs.Answers.{told, is_active, while_active, waits_on, closes, number, if_active, if_limbo, verdict_by, verdict, answer_active, answer, answer_of as answer_by_state}
use Rattle.mg_model.specs.Legal.{MayBegin, IsLawful, IsLegal, is_outer}
use Rattle.mg_model.specs.NumberLaws.{drawn_from_state}
use Rattle.mg_model.specs.WaitLaws.{Leads, arrived, goes_on, leads_from_test, leads_in_more, test_from_leads}
use Rattle.mg_waits.specs.declared.verdict.Verdict.{Verdict}
use Rattle.mg_waits.specs.Waits.{Edges, IsVerdict, WaitsUnlessClosed}
use Rattle.mg_waits.specs.Machine.{answer_of, AreNoted, NotesLast, NotesFollow, OthersNote}

-- ---- who waits is active

waited_is : (said : Answer) (v : ℕ) → waited_on said ≡ Some v → said ≡ No (Waits (number v))
waited_is (No (Waits on)) v is =
    let same : on.0 ≡ v = cc in ap (λ n. No (Waits (number n))) same
waited_is (No refusal) v is = absurd cc
waited_is Fine v is = absurd cc
waited_is (Tx t) v is = absurd cc
waited_is (Rows rows) v is = absurd cc

from_active : (s : TxState) (next : Answer) (v : ℕ) → waited_on (if_active s next) ≡ Some v
    → is_active s ≡ true
from_active Active next v waits = refl
from_active Limbo next v waits = absurd cc
from_active Dead next v waits = absurd cc
from_active Committed next v waits = absurd cc

no_wait_of_limbo : (s : TxState) (v : ℕ) → waited_on (if_limbo s) ≡ Some v → ⊥
no_wait_of_limbo Active v waits = cc
no_wait_of_limbo Limbo v waits = cc
no_wait_of_limbo Dead v waits = cc
no_wait_of_limbo Committed v waits = cc

module _ (o : Opening) (h : Entries) where
  of_active : (event : Event) (u t v : ℕ) → Some u ≡ Some t
      → waited_on (answer_by_state (told o h) u event) ≡ Some v → is_active (state_of o h t) ≡ true
  of_active event u t v is waits =
      let same : u ≡ t = cc in
      ap (λ n. is_active (state_of o h n)) (sym same)
      ∙ from_active (state_of o h u) (answer_active (told o h) u event) v waits

  -- an event is answered by a wait only where its transaction is active
  asker_is_active : (event : Event) (t v : ℕ) → transaction_of event ≡ Some t
      → waited_on (answer o h event) ≡ Some v → is_active (state_of o h t) ≡ true
  asker_is_active (Begin session mode) t v is waits = absurd cc
  asker_is_active (Decide u commit) t v is waits =
      absurd (no_wait_of_limbo (state_of o h u.0) v waits)
  asker_is_active (Look u) t v is waits = of_active (Look u) u.0 t v is waits
  asker_is_active (Find u table test) t v is waits =
      of_active (Find u table test) u.0 t v is waits
  asker_is_active (Claim u table) t v is waits = of_active (Claim u table) u.0 t v is waits
  asker_is_active (Insert u table row) t v is waits =
      of_active (Insert u table row) u.0 t v is waits
  asker_is_active (Change u table key row) t v is waits =
      of_active (Change u table key row) u.0 t v is waits
  asker_is_active (Erase u table key) t v is waits =
      of_active (Erase u table key) u.0 t v is waits
  asker_is_active (Mark u) t v is waits = of_active (Mark u) u.0 t v is waits
  asker_is_active (UndoMark u) t v is waits = of_active (UndoMark u) u.0 t v is waits
  asker_is_active (Savepoint u name) t v is waits =
      of_active (Savepoint u name) u.0 t v is waits
  asker_is_active (BackTo u name) t v is waits = of_active (BackTo u name) u.0 t v is waits
  asker_is_active (Prepare u) t v is waits = of_active (Prepare u) u.0 t v is waits
  asker_is_active (Commit u) t v is waits = of_active (Commit u) u.0 t v is waits
  asker_is_active (Rollback u) t v is waits = of_active (Rollback u) u.0 t v is waits

  lawful_asker : (e : Entry) → IsLawful o h e → (t v : ℕ) → transaction_of e.event ≡ Some t
      → waited_on e.answer ≡ Some v → is_active (state_of o h t) ≡ true
  lawful_asker e lawful t v is waits = at lawful
    where
      at : (e.answer ≡ answer o h e.event) ⊎ (is_outer e.answer ≡ true)
          → is_active (state_of o h t) ≡ true
      at (inl by_machine) =
          asker_is_active e.event t v is (ap waited_on (sym by_machine) ∙ waits)
      at (inr outer) =
          absurd (false≢true (sym (ap is_outer (waited_is e.answer v waits)) ∙ outer))

-- an event that is answered by a wait does nothing
wait_does_nothing : (event : Event) (said : Answer) (v : ℕ) → waited_on said ≡ Some v
    → effect_with event said ≡ Nothing
wait_does_nothing event Fine v waits = absurd cc
wait_does_nothing event (Tx t) v waits = absurd cc
wait_does_nothing event (Rows rows) v waits = absurd cc
wait_does_nothing event (No refusal) v waits = refl

-- who is active stays so by the events of others
stays_active : (t : ℕ) (old : TxState) (event : Event) (said : Answer)
    → is_of t (transaction_of event) ≡ false → is_active old ≡ true
    → is_active (state_after (effect_with event said) t old) ≡ true
stays_active t old event (Rows rows) apart active = active
stays_active t old event (No refusal) apart active = active
stays_active t old event (Tx u) apart active = at event
  where
    begun : (b : Bool) → is_active (cond b Active old) ≡ true
    begun true = refl
    begun false = active

    at : (event : Event) → is_active (state_after (effect_with event (Tx u)) t old) ≡ true
    at (Begin session mode) = begun (u.0 == t)
    at event = active
stays_active t old event Fine apart active = at event apart
  where
    ended : (u : ℕ) (end : TxState) → (u == t) ≡ false
        → is_active (cond (u == t) end old) ≡ true
    ended u end apart = rw apart active

    at : (event : Event) → is_of t (transaction_of event) ≡ false
        → is_active (state_after (effect_with event Fine) t old) ≡ true
    at (Prepare u) apart = ended u.0 Limbo apart
    at (Commit u) apart = ended u.0 Committed apart
    at (Rollback u) apart = ended u.0 Dead apart
    at (Decide u true) apart = ended u.0 Committed apart
    at (Decide u false) apart = ended u.0 Dead apart
    at event apart = active

is_of_its : (t : ℕ) (it : Option ℕ) → is_of t it ≡ true → it ≡ Some t
is_of_its t None its = absurd (false≢true its)
is_of_its t (Some u) its = ap Some (eqb-true u t its)

-- whose last event was answered by a wait is active
waiter_is_active : (o : Opening) (h : Entries) → IsLegal o h → (t v : ℕ) → last_wait h t ≡ Some v
    → is_active (state_of o h t) ≡ true
waiter_is_active o [] legal t v waits = absurd cc
waiter_is_active o (e ∷ h) legal t v waits =
    at (is_of t (transaction_of e.event)) refl (waiter_is_active o h legal.1 t v) waits
  where
    at : (b : Bool) → is_of t (transaction_of e.event) ≡ b
        → (last_wait h t ≡ Some v → is_active (state_of o h t) ≡ true)
        → cond b (waited_on e.answer) (last_wait h t) ≡ Some v
        → is_active (state_of o (e ∷ h) t) ≡ true
    at true its more waits =
        ap (λ f. is_active (state_after f t (state_of o h t)))
        (wait_does_nothing e.event e.answer v waits)
        ∙ lawful_asker o h e legal.0 t v (is_of_its t (transaction_of e.event) its) waits
    at false apart more waits =
        stays_active t (state_of o h t) e.event e.answer apart (more waits)

-- ---- ways by what is noted, and by the machine

while_parts : (state : ℕ → TxState) (it : Option ℕ) (v : ℕ) → while_active state it ≡ Some v
    → (it ≡ Some v) × (is_active (state v) ≡ true)
while_parts state None v is = absurd cc
while_parts state (Some u) v is = at (is_active (state u)) refl is
  where
    at : (b : Bool) → is_active (state u) ≡ b → cond b (Some u) None ≡ Some v
        → (Some u ≡ Some v) × (is_active (state v) ≡ true)
    at true active is =
        let same : u ≡ v = cc in (is, ap (λ n. is_active (state n)) (sym same) ∙ active)
    at false closed is = absurd cc

while_from : (state : ℕ → TxState) (it : Option ℕ) (v : ℕ) → it ≡ Some v
    → is_active (state v) ≡ true → while_active state it ≡ Some v
while_from state it v is active = rw is (rw active refl)

module _ (o : Opening) (opening : MayBegin o) (h : Entries) (legal : IsLegal o h) (noted : Edges)
    (are_noted : AreNoted o h noted) (t : ℕ) (active : state_of o h t ≡ Active) where
  -- each one on a noted way to t is active: it is t, or it waits itself
  on_way_is_active : (v : ℕ) → Leads noted t v → is_active (state_of o h v) ≡ true
  on_way_is_active v (arrived same) =
      ap (λ n. is_active (state_of o h n)) same ∙ ap is_active active
  on_way_is_active v (goes_on w next rest) =
      waiter_is_active o h legal v w (are_noted.none_else v w next)

  to_machine : (u : ℕ) → Leads noted t u → Leads (waits_on (told o h)) t u
  to_machine u (arrived same) = arrived same
  to_machine u (goes_on v next rest) =
      goes_on v (while_from (state_of o h) (last_wait h u) v (are_noted.none_else u v next)
      (on_way_is_active v rest)) (to_machine v rest)

  active_is_drawn : (v : ℕ) → is_active (state_of o h v) ≡ true → v < next_number o h
  active_is_drawn v is =
      drawn_from_state o opening h legal v
      (λ dead. both_ways (is_active (state_of o h v)) (ap is_active dead) is)

  closes_where_noted : (u : ℕ) → state_of o h u ≡ Active → Leads noted t u
      → closes (told o h) t u ≡ true
  closes_where_noted u is leads =
      test_from_leads (waits_on (told o h)) t (next_number o h) u
      (λ x v edge. active_is_drawn v (while_parts (state_of o h) (last_wait h x) v edge).1)
      (active_is_drawn u (ap is_active is)) (to_machine u leads)

  noted_where_closes : (u : ℕ) → closes (told o h) t u ≡ true → Leads noted t u
  noted_where_closes u is =
      leads_in_more noted (waits_on (told o h)) (λ x v edge. are_noted.all x v edge) t u
      (leads_from_test (waits_on (told o h)) t (next_number o h) u is)

  pub verdict_is_the_machines : (by : ℕ) (given : Option Verdict)
      → IsVerdict noted t by (state_of o h by) (mode_of h t).wait given
      → answer_of by given ≡ verdict (told o h) t by
  verdict_is_the_machines by given is = at (state_of o h by) refl (mode_of h t).wait is
    where
      waiting : state_of o h by ≡ Active → WaitsUnlessClosed noted t by given
          → answer_of by given ≡ verdict_by Active true (closes (told o h) t by) by
      waiting other (inl both) =
          let closing : closes (told o h) t by ≡ true = closes_where_noted by other both.1 in
          ap (answer_of by) both.0 ∙ rw closing refl
      waiting other (inr both) =
          let closing : closes (told o h) t by ≡ false =
          false_from_ne_true (closes (told o h) t by) (λ yes. both.1 (noted_where_closes by yes)) in
          ap (answer_of by) both.0 ∙ rw closing refl

      at : (s : TxState) → state_of o h by ≡ s → (wait : Bool)
          → IsVerdict noted t by s wait given
          → answer_of by given ≡ verdict_by s wait (closes (told o h) t by) by
      at Committed other wait is = ap (answer_of by) is
      at Limbo other wait is = ap (answer_of by) is
      at Dead other wait is = ap (answer_of by) is
      at Active other false is = ap (answer_of by) is
      at Active other true is = waiting other is

-- ---- the notes

pub notes_follow : NotesFollow
notes_follow h e t old new is noted notes u = at (cases_eq u t)
  where
    at : (u ≡ t) ⊎ (u ≡ t → ⊥) → new u ≡ last_wait (e ∷ h) u
    at (inl same) =
        let its : is_of u (transaction_of e.event) ≡ true =
        ap (is_of u) is ∙ eq-eqb t u (sym same) in
        let last : last_wait (e ∷ h) u ≡ waited_on e.answer = rw its refl in
        ap new same ∙ notes.its ∙ sym last
    at (inr apart) =
        let other : is_of u (transaction_of e.event) ≡ false =
        ap (is_of u) is ∙ ne_eqb t u (λ same. apart (sym same)) in
        let last : last_wait (e ∷ h) u ≡ last_wait h u = rw other refl in
        notes.others u apart ∙ noted u ∙ sym last

pub others_note : OthersNote
others_note h e noted is notes u =
    let other : is_of u (transaction_of e.event) ≡ false = ap (is_of u) is in
    let last : last_wait (e ∷ h) u ≡ last_wait h u = rw other refl in
    notes u ∙ sym last

pub last_is_enough : (o : Opening) (h : Entries) (noted : Edges) → NotesLast h noted
    → AreNoted o h noted
last_is_enough o h noted notes = record {
  all = λ t u edge. notes t ∙ (while_parts (state_of o h) (last_wait h t) u edge).0;
  none_else = λ t u edge. sym (notes t) ∙ edge;
}
