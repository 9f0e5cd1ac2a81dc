-- In a legal history no transaction waits for itself, over others.
use Rattle.std.specs.Prelude.{◌≡◌, ◌⊎◌, ℕ, ◌<◌, ◌==◌, Bool, true, false, [], ◌∷◌, Option, Some, None, cond, refl}
use Rattle.std.proofs.Common.{sym, ◌∙◌, ap, inl, inr, arith}
use Rattle.std.proofs.lemmas.Bool.{false≢true, both_ways, eqb-true, eq-eqb, false_from_ne_true}
use Rattle.mg_base.specs.declared.transaction.TxState.{TxState}
use Rattle.mg_base.specs.declared.transaction.TxState.TheVariants.{Active}
use Rattle.mg_model.specs.declared.opening.Opening.{Opening}
use Rattle.mg_model.specs.History.{Entry, Entries, transaction_of, Effect, Begins, Ends, effect_of}
use Rattle.mg_model.specs.Machine.{next_number, state_after, state_of, waited_on, is_of, last_wait}
use Rattle.mg_model.specs.Answers.{told, is_active, while_active, waits_on, leads_to, closes}
use Rattle.mg_model.specs.Legal.{MayBegin, IsLegal}
use Rattle.mg_model.specs.LegalLaws.{IsAllowed, lawful_is_allowed}
use Rattle.mg_model.specs.NumberLaws.{next_number_grows, drawn_from_state}
use Rattle.mg_model.specs.AnswerWaitLaws.{entry_waits}
use Rattle.mg_model.specs.WaitLaws.{IsAcyclic, leads_from_test, test_from_leads, acyclic_with_fewer, GainsEdge, acyclic_with_edge}

-- ---- one entry

while_parts : (state : ℕ → TxState) (it : Option ℕ) (v : ℕ) → while_active state it ≡ Some v
    → (it ≡ Some v) × (is_active (state v) ≡ true)
while_parts state None v is = absurd cc
while_parts state (Some u) v is = at (is_active (state u)) refl is
  where
    at : (b : Bool) → is_active (state u) ≡ b → cond b (Some u) None ≡ Some v
        → (Some u ≡ Some v) × (is_active (state v) ≡ true)
    at true active is =
        let same : u ≡ v = cc in (is, ap (λ n. is_active (state n)) (sym same) ∙ active)
    at false closed is = absurd cc

while_from : (state : ℕ → TxState) (it : Option ℕ) (v : ℕ) → it ≡ Some v
    → is_active (state v) ≡ true → while_active state it ≡ Some v
while_from state it v is active = rw is (rw active refl)

-- who is active after an entry, and was drawn before it, was active before it
was_active : (o : Opening) (h : Entries) (f : Effect) (v : ℕ) → IsAllowed o h f
    → v < next_number o h → is_active (state_after f v (state_of o h v)) ≡ true
    → is_active (state_of o h v) ≡ true
was_active o h (Begins u mode) v allowed below active = at (u == v) refl active
  where
    at : (b : Bool) → (u == v) ≡ b → is_active (cond b Active (state_of o h v)) ≡ true
        → is_active (state_of o h v) ≡ true
    at true same active = let is : u ≡ v = eqb-true u v same in absurd (omega arith)
    at false apart active = active
was_active o h (Ends u end) v allowed below active = at (u == v) active
  where
    at : (b : Bool) → is_active (cond b end (state_of o h v)) ≡ true
        → is_active (state_of o h v) ≡ true
    at true active = absurd (both_ways (is_active end) allowed.1 active)
    at false active = active
was_active o h f v allowed below active = active

is_of_its : (t : ℕ) (it : Option ℕ) → is_of t it ≡ true → it ≡ Some t
is_of_its t None its = absurd (false≢true its)
is_of_its t (Some u) its = ap Some (eqb-true u t its)

module _ (o : Opening) (opening : MayBegin o) where
  active_is_drawn : (h : Entries) → IsLegal o h → (v : ℕ) → is_active (state_of o h v) ≡ true
      → v < next_number o h
  active_is_drawn h legal v active =
      drawn_from_state o opening h legal v
      (λ dead. both_ways (is_active (state_of o h v)) (ap is_active dead) active)

  -- whom a transaction was told to wait for has a number that is drawn
  last_wait_is_drawn : (h : Entries) → IsLegal o h → (x v : ℕ) → last_wait h x ≡ Some v
      → v < next_number o h
  last_wait_is_drawn [] legal x v waits = absurd cc
  last_wait_is_drawn (e ∷ h) legal x v waits =
      at (is_of x (transaction_of e.event)) refl (last_wait_is_drawn h legal.1 x v) waits
    where
      at : (b : Bool) → is_of x (transaction_of e.event) ≡ b
          → (last_wait h x ≡ Some v → v < next_number o h)
          → cond b (waited_on e.answer) (last_wait h x) ≡ Some v → v < next_number o (e ∷ h)
      at true its more waits =
          let told_so = entry_waits o h e legal.0 x v (is_of_its x _ its) waits in
          let below : v < next_number o h = active_is_drawn h legal.1 v told_so.0 in
          omega (arith, next_number_grows o h e)
      at false other more waits =
          let below : v < next_number o h = more waits in omega (arith, next_number_grows o h e)

  -- an edge after an entry that is none of the entry's transaction is one before it
  old_edge : (h : Entries) (e : Entry) → IsLegal o (e ∷ h) → (x v : ℕ)
      → while_active (state_of o (e ∷ h)) (last_wait h x) ≡ Some v
      → waits_on (told o h) x ≡ Some v
  old_edge h e legal x v is =
      let parts = while_parts (state_of o (e ∷ h)) (last_wait h x) v is in
      while_from (state_of o h) (last_wait h x) v parts.0
      (was_active o h (effect_of e) v (lawful_is_allowed o h e legal.0)
      (last_wait_is_drawn h legal.1 x v parts.0) parts.1)

  -- an entry that lets nobody wait
  fewer_edges : (h : Entries) (e : Entry) → IsLegal o (e ∷ h) → (it : Option ℕ)
      → ((x : ℕ) → (is_of x it ≡ false) ⊎ (waited_on e.answer ≡ None)) → (x v : ℕ)
      → while_active (state_of o (e ∷ h)) (cond (is_of x it) (waited_on e.answer) (last_wait h x))
      ≡ Some v → waits_on (told o h) x ≡ Some v
  fewer_edges h e legal it nobody x v is = at (is_of x it) refl (nobody x) is
    where
      at : (b : Bool) → is_of x it ≡ b → (is_of x it ≡ false) ⊎ (waited_on e.answer ≡ None)
          → while_active (state_of o (e ∷ h)) (cond b (waited_on e.answer) (last_wait h x)) ≡ Some v
          → waits_on (told o h) x ≡ Some v
      at true its (inl other) is = absurd (both_ways (is_of x it) other its)
      at true its (inr none) is =
          let parts = while_parts (state_of o (e ∷ h)) (waited_on e.answer) v is in
          let found : waited_on e.answer ≡ Some v = parts.0 in absurd cc
      at false other nobody is = old_edge h e legal x v is

  -- an entry by which t waits on u
  one_edge : (h : Entries) (e : Entry) → IsLegal o (e ∷ h) → (t u : ℕ)
      → transaction_of e.event ≡ Some t → waited_on e.answer ≡ Some u
      → GainsEdge (waits_on (told o h)) (waits_on (told o (e ∷ h))) t u
  one_edge h e legal t u is_of_t waits = record {
    others = λ x v apart is. old_edge h e legal x v (without x v apart is);
    only = λ v is. same v (while_parts (state_of o (e ∷ h)) (last_wait (e ∷ h) t) v is).0;
  }
    where
      without : (x v : ℕ) → (t == x) ≡ false → waits_on (told o (e ∷ h)) x ≡ Some v
          → while_active (state_of o (e ∷ h)) (last_wait h x) ≡ Some v
      without x v apart is =
          let other : is_of x (transaction_of e.event) ≡ false = ap (is_of x) is_of_t ∙ apart in
          let last : last_wait (e ∷ h) x ≡ last_wait h x = rw other refl in
          ap (while_active (state_of o (e ∷ h))) (sym last) ∙ is

      same : (v : ℕ) → last_wait (e ∷ h) t ≡ Some v → v ≡ u
      same v is =
          let its : is_of t (transaction_of e.event) ≡ true =
          ap (is_of t) is_of_t ∙ eq-eqb t t refl in
          let last : last_wait (e ∷ h) t ≡ waited_on e.answer = rw its refl in
          let both : Some v ≡ Some u = sym is ∙ last ∙ waits in cc

  pub waits_are_acyclic : (h : Entries) → IsLegal o h → IsAcyclic (waits_on (told o h))
  waits_are_acyclic [] legal = λ t u next leads. no_edge t u next
    where
      no_edge : (t u : ℕ) → waits_on (told o []) t ≡ Some u → ⊥
      no_edge t u next = cc
  waits_are_acyclic (e ∷ h) legal =
      at (transaction_of e.event) refl (waited_on e.answer) refl (waits_are_acyclic h legal.1)
    where
      fewer : ((x : ℕ) → (is_of x (transaction_of e.event) ≡ false) ⊎ (waited_on e.answer ≡ None))
          → IsAcyclic (waits_on (told o h)) → IsAcyclic (waits_on (told o (e ∷ h)))
      fewer nobody acyclic =
          acyclic_with_fewer (waits_on (told o h)) (waits_on (told o (e ∷ h)))
          (fewer_edges h e legal (transaction_of e.event) nobody) acyclic

      at : (its : Option ℕ) → transaction_of e.event ≡ its → (on : Option ℕ)
          → waited_on e.answer ≡ on → IsAcyclic (waits_on (told o h))
          → IsAcyclic (waits_on (told o (e ∷ h)))
      at its is None none acyclic = fewer (λ x. inr none) acyclic
      at None is (Some u) waits acyclic = fewer (λ x. inl (ap (is_of x) is)) acyclic
      at (Some t) is (Some u) waits acyclic =
          let told_so = entry_waits o h e legal.0 t u is waits in
          acyclic_with_edge (waits_on (told o h)) (waits_on (told o (e ∷ h))) t u
          (one_edge h e legal t u is waits)
          (λ leads. both_ways (closes (told o h) t u) told_so.1
          (test_from_leads (waits_on (told o h)) t (next_number o h) u
          (λ x v edge. last_wait_is_drawn h legal.1 x v
          (while_parts (state_of o h) (last_wait h x) v edge).0)
          (active_is_drawn h legal.1 u told_so.0) leads)) acyclic

  -- so following who waits for whom from whom a transaction waits for never comes to it
  pub no_way_back : (h : Entries) → IsLegal o h → (t u most : ℕ)
      → waits_on (told o h) t ≡ Some u → leads_to (waits_on (told o h)) most u t ≡ false
  no_way_back h legal t u most waits =
      false_from_ne_true (leads_to (waits_on (told o h)) most u t)
      (λ leads. waits_are_acyclic h legal t u waits
      (leads_from_test (waits_on (told o h)) t most u leads))
