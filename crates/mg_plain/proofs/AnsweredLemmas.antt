-- What is kept after an event with its answer stands for the history after it.
use Rattle.std.proofs.Common.{◌≡◌, ℕ, zero, suc, ◌+◌, ◌-◌, ◌<◌, ◌≤◌, ◌==◌, ◌&&◌, nat_le, Bool, true, false, List, [], ◌∷◌, length, drop, Option, Some, None, inl, inr, refl, sym, ◌∙◌, ap, subst, cond, get_or, arith, length-append}
use Rattle.std.proofs.lemmas.Bool.{cases_eq, cases_lt, eq-eqb, ne_eqb}
use Rattle.std.proofs.lemmas.List.{get_or_past, length-set}
use Rattle.std.proofs.Math.ListN.{set}
use Rattle.mg_base.specs.declared.numbers.TxNo.{TxNo}
use Rattle.mg_base.specs.declared.transaction.TxState.{TxState}
use Rattle.mg_base.specs.declared.transaction.TxState.TheVariants.{Active, Limbo, Dead, Committed}
use Rattle.mg_model.specs.declared.answer.Answer.{Answer}
use Rattle.mg_model.specs.declared.answer.Answer.TheVariants.{Fine, Tx, Rows, No}
use Rattle.mg_model.specs.declared.refusal.Refusal.TheVariants.{Waits, TransactionLimit, Memory}
use Rattle.mg_model.specs.declared.event.Event.{Event}
use Rattle.mg_model.specs.declared.event.Event.TheVariants.{Begin, Look, Find, Claim, Insert, Change, Erase, Mark, UndoMark, Savepoint, BackTo, Prepare, Commit, Rollback, Decide}
use Rattle.mg_model.specs.declared.event.Mode.{Mode}
use Rattle.mg_plain.specs.declared.known.Known.{Known}
use Rattle.mg_model.specs.declared.opening.Opening.{Opening}
use Rattle.mg_model.specs.History.{Entries, entry, transaction_of, effect_with, Effect, Begins, Looks, Makes, Gives, Marks, Saves, TakesBack, Ends, Nothing}
use Rattle.mg_model.specs.Machine.{waited_on, is_of, last_wait}
use Rattle.mg_model.specs.Answers.{answer_by, if_active, if_limbo, is_open, is_committed}
use Rattle.mg_plain.specs.Keeping.{Keeping, unknown, known_of, number_in, told_in, StandsFor, with_known, noted_in, waits_by, kept_by, kept_after}
use Rattle.mg_plain.proofs.StandsLemmas.{IsAllowed, Follows, follows, known_set, known_begun, drawn}

-- ---- a legal answer allows its effect

pub allowed : (k : Keeping) (e : Event) (a : Answer) → a ≡ answer_by (told_in k) e
    → IsAllowed k (effect_with e a)
allowed k e a is = subst (λ (x : Answer). IsAllowed k (effect_with e x)) (sym is) (at e)
  where
    looks : (t : TxNo) (state : TxState) → (known_of k t.0).state ≡ state
        → IsAllowed k (effect_with (Look t) (if_active state Fine))
    looks t Active is = ap is_open is
    looks t Limbo is = tt
    looks t Dead is = tt
    looks t Committed is = tt

    prepares : (t : TxNo) (state : TxState) → (known_of k t.0).state ≡ state
        → IsAllowed k (effect_with (Prepare t) (if_active state Fine))
    prepares t Active is = ap is_open is
    prepares t Limbo is = tt
    prepares t Dead is = tt
    prepares t Committed is = tt

    commits : (t : TxNo) (state : TxState) → (known_of k t.0).state ≡ state
        → IsAllowed k (effect_with (Commit t) (if_active state Fine))
    commits t Active is = ap is_open is
    commits t Limbo is = tt
    commits t Dead is = tt
    commits t Committed is = tt

    rolls : (t : TxNo) (state : TxState) → (known_of k t.0).state ≡ state
        → IsAllowed k (effect_with (Rollback t) (if_active state Fine))
    rolls t Active is = ap is_open is
    rolls t Limbo is = tt
    rolls t Dead is = tt
    rolls t Committed is = tt

    decides : (t : TxNo) (commit : Bool) (state : TxState) → (known_of k t.0).state ≡ state
        → IsAllowed k (effect_with (Decide t commit) (if_limbo state))
    decides t commit Active is = tt
    decides t commit Limbo is = ap is_open is
    decides t commit Dead is = tt
    decides t commit Committed is = tt

    begins : (session : ℕ) (mode : Mode) (full : Bool)
        → IsAllowed k (effect_with (Begin session mode) (cond full (No TransactionLimit) (Tx (record { 0 = length k.known }))))
    begins session mode true = tt
    begins session mode false = refl

    finds : (t : TxNo) (table : List ℕ) (test : _) (a : Answer) → IsAllowed k (effect_with (Find t table test) a)
    finds t table test Fine = tt
    finds t table test (Tx u) = tt
    finds t table test (Rows rows) = tt
    finds t table test (No refusal) = tt

    claims : (t : TxNo) (table : List ℕ) (a : Answer) → IsAllowed k (effect_with (Claim t table) a)
    claims t table Fine = tt
    claims t table (Tx u) = tt
    claims t table (Rows rows) = tt
    claims t table (No refusal) = tt

    inserts : (t : TxNo) (table : List ℕ) (row : _) (a : Answer) → IsAllowed k (effect_with (Insert t table row) a)
    inserts t table row Fine = tt
    inserts t table row (Tx u) = tt
    inserts t table row (Rows rows) = tt
    inserts t table row (No refusal) = tt

    changes : (t : TxNo) (table : List ℕ) (key : _) (row : _) (a : Answer) → IsAllowed k (effect_with (Change t table key row) a)
    changes t table key row Fine = tt
    changes t table key row (Tx u) = tt
    changes t table key row (Rows rows) = tt
    changes t table key row (No refusal) = tt

    erases : (t : TxNo) (table : List ℕ) (key : _) (a : Answer) → IsAllowed k (effect_with (Erase t table key) a)
    erases t table key Fine = tt
    erases t table key (Tx u) = tt
    erases t table key (Rows rows) = tt
    erases t table key (No refusal) = tt

    marks : (t : TxNo) (a : Answer) → IsAllowed k (effect_with (Mark t) a)
    marks t Fine = tt
    marks t (Tx u) = tt
    marks t (Rows rows) = tt
    marks t (No refusal) = tt

    undoes : (t : TxNo) (a : Answer) → IsAllowed k (effect_with (UndoMark t) a)
    undoes t Fine = tt
    undoes t (Tx u) = tt
    undoes t (Rows rows) = tt
    undoes t (No refusal) = tt

    saves : (t : TxNo) (name : List ℕ) (a : Answer) → IsAllowed k (effect_with (Savepoint t name) a)
    saves t name Fine = tt
    saves t name (Tx u) = tt
    saves t name (Rows rows) = tt
    saves t name (No refusal) = tt

    backs : (t : TxNo) (name : List ℕ) (a : Answer) → IsAllowed k (effect_with (BackTo t name) a)
    backs t name Fine = tt
    backs t name (Tx u) = tt
    backs t name (Rows rows) = tt
    backs t name (No refusal) = tt

    at : (e : Event) → IsAllowed k (effect_with e (answer_by (told_in k) e))
    at (Begin session mode) = begins session mode (length k.known == k.limit)
    at (Look t) = looks t (known_of k t.0).state refl
    at (Find t table test) = finds t table test (answer_by (told_in k) (Find t table test))
    at (Claim t table) = claims t table (answer_by (told_in k) (Claim t table))
    at (Insert t table row) = inserts t table row (answer_by (told_in k) (Insert t table row))
    at (Change t table key row) = changes t table key row (answer_by (told_in k) (Change t table key row))
    at (Erase t table key) = erases t table key (answer_by (told_in k) (Erase t table key))
    at (Mark t) = marks t (answer_by (told_in k) (Mark t))
    at (UndoMark t) = undoes t (answer_by (told_in k) (UndoMark t))
    at (Savepoint t name) = saves t name (answer_by (told_in k) (Savepoint t name))
    at (BackTo t name) = backs t name (answer_by (told_in k) (BackTo t name))
    at (Prepare t) = prepares t (known_of k t.0).state refl
    at (Commit t) = commits t (known_of k t.0).state refl
    at (Rollback t) = rolls t (known_of k t.0).state refl
    at (Decide t commit) = decides t commit (known_of k t.0).state refl

-- ---- what transactions wait on

-- a number that was not drawn waits on none
pub undrawn_waits : (k : Keeping) (e : Event) (u : ℕ) → transaction_of e ≡ Some u → length k.known ≤ u
    → waited_on (answer_by (told_in k) e) ≡ None
undrawn_waits k e u of past = at e of
  where
    dead : (t : ℕ) → Some t ≡ Some u → (known_of k t).state ≡ Dead
    dead t is =
        let same : t ≡ u = cc in
        ap (λ (y : Known). y.state) (ap (known_of k) same ∙ get_or_past k.known u (unknown k.opened) past)

    at : (e : Event) → transaction_of e ≡ Some u → waited_on (answer_by (told_in k) e) ≡ None
    at (Begin session mode) is = absurd cc
    at (Look t) is = rw (dead t.0 is) refl
    at (Find t table test) is = rw (dead t.0 is) refl
    at (Claim t table) is = rw (dead t.0 is) refl
    at (Insert t table row) is = rw (dead t.0 is) refl
    at (Change t table key row) is = rw (dead t.0 is) refl
    at (Erase t table key) is = rw (dead t.0 is) refl
    at (Mark t) is = rw (dead t.0 is) refl
    at (UndoMark t) is = rw (dead t.0 is) refl
    at (Savepoint t name) is = rw (dead t.0 is) refl
    at (BackTo t name) is = rw (dead t.0 is) refl
    at (Prepare t) is = rw (dead t.0 is) refl
    at (Commit t) is = rw (dead t.0 is) refl
    at (Rollback t) is = rw (dead t.0 is) refl
    at (Decide t commit) is = rw (dead t.0 is) refl

waits_same : (a : Answer) → number_in (waits_by a) ≡ waited_on a
waits_same Fine = refl
waits_same (Tx t) = refl
waits_same (Rows rows) = refl
waits_same (No (Waits on)) = refl
waits_same (No refusal) = refl

-- where one transaction is known otherwise, but waits on the same
set_waits : (k : Keeping) (u : ℕ) (x : Known) (t : ℕ) → u < length k.known
    → x.waits ≡ (known_of k u).waits → (known_of (with_known k u x) t).waits ≡ (known_of k t).waits
set_waits k u x t inside same = elim (cases_eq t u) [
  | inl e ↦ rw e (ap (λ (y : Known). y.waits) (known_set k u x inside).here ∙ same)
  | inr apart ↦ ap (λ (y : Known). y.waits) ((known_set k u x inside).others t apart)
]

-- an effect changes nothing of it
waits_kept : (k : Keeping) (eff : Effect) → IsAllowed k eff → (t : ℕ)
    → (known_of (kept_by eff k) t).waits ≡ (known_of k t).waits
waits_kept k (Begins u mode) is t = elim (cases_eq t (length k.known)) [
  | inl e ↦ rw e (ap (λ (y : Known). y.waits) (known_begun k mode).here ∙ sym (ap (λ (y : Known). y.waits) (get_or_past k.known (length k.known) (unknown k.opened) (omega arith))))
  | inr apart ↦ ap (λ (y : Known). y.waits) ((known_begun k mode).others t apart)
]
waits_kept k (Looks u) lives t = by_mode (known_of k u).mode.snapshot
  where
    by_mode : (b : Bool) → (known_of (cond b k (with_known k u (record (known_of k u) { base = length k.database; saw = length k.committed }))) t).waits ≡ (known_of k t).waits
    by_mode true = refl
    by_mode false = set_waits k u _ t (drawn k u lives) refl
waits_kept k (Makes u table row) is t = refl
waits_kept k (Gives u table key row) is t = refl
waits_kept k (Marks u) is t = refl
waits_kept k (Saves u name) is t = refl
waits_kept k (TakesBack u point) is t = refl
waits_kept k (Ends u Active) lives t = set_waits k u _ t (drawn k u lives) refl
waits_kept k (Ends u Limbo) lives t = set_waits k u _ t (drawn k u lives) refl
waits_kept k (Ends u Dead) lives t = set_waits k u _ t (drawn k u lives) refl
waits_kept k (Ends u Committed) lives t = set_waits k u _ t (drawn k u lives) refl
waits_kept k Nothing is t = refl

-- ---- noting what a transaction waits on

pub set_past : (xs : List Known) (n : ℕ) (x : Known) → length xs ≤ n → set xs n x ≡ xs
set_past [] n x past = refl
set_past (y ∷ xs) zero x past = absurd (omega arith)
set_past (y ∷ xs) (suc n) x past = ap (λ (z : List Known). y ∷ z) (set_past xs n x (omega arith))

-- all but the waits of a transaction is known as before
pub record SameButWaits (x y : Known) : Type 0 where
  pub state : x.state ≡ y.state
  pub mode : x.mode ≡ y.mode
  pub base : x.base ≡ y.base
  pub saw : x.saw ≡ y.saw
  pub place : x.place ≡ y.place

same_known : (x y : Known) → x ≡ y → SameButWaits x y
same_known x y is = record {
  state = ap (λ (z : Known). z.state) is;
  mode = ap (λ (z : Known). z.mode) is;
  base = ap (λ (z : Known). z.base) is;
  saw = ap (λ (z : Known). z.saw) is;
  place = ap (λ (z : Known). z.place) is;
}

pub noted_same : (k : Keeping) (of : Option ℕ) (on : Option TxNo) (t : ℕ)
    → SameButWaits (known_of (noted_in of on k) t) (known_of k t)
noted_same k None on t = same_known _ _ refl
noted_same k (Some u) on t = elim (cases_lt u (length k.known)) [
  | inl inside ↦ elim (cases_eq t u) [
    | inl e ↦ rw e (same_known_but (known_set k u (record (known_of k u) { waits = on }) inside).here)
    | inr apart ↦ same_known _ _ ((known_set k u (record (known_of k u) { waits = on }) inside).others t apart)
  ]
  | inr past ↦ same_known _ _ (ap (λ (z : List Known). get_or z t (unknown k.opened)) (set_past k.known u (record (known_of k u) { waits = on }) past))
]
  where
    same_known_but : {x : Known} → x ≡ record (known_of k u) { waits = on } → SameButWaits x (known_of k u)
    same_known_but is = record {
      state = ap (λ (z : Known). z.state) is;
      mode = ap (λ (z : Known). z.mode) is;
      base = ap (λ (z : Known). z.base) is;
      saw = ap (λ (z : Known). z.saw) is;
      place = ap (λ (z : Known). z.place) is;
    }

noted_waits : (k : Keeping) (h : Entries) (e : Event) (a : Answer)
    → ((t : ℕ) → number_in (known_of k t).waits ≡ last_wait h t)
    → ((u : ℕ) → transaction_of e ≡ Some u → length k.known ≤ u → waited_on a ≡ None)
    → (t : ℕ) → number_in (known_of (noted_in (transaction_of e) (waits_by a) k) t).waits
    ≡ last_wait (entry e a ∷ h) t
noted_waits k h e a old undrawn t = at (transaction_of e) undrawn
  where
    at : (of : Option ℕ) → ((u : ℕ) → of ≡ Some u → length k.known ≤ u → waited_on a ≡ None)
        → number_in (known_of (noted_in of (waits_by a) k) t).waits ≡ cond (is_of t of) (waited_on a) (last_wait h t)
    at None none = old t
    at (Some u) none = elim (cases_eq t u) [
      | inl e ↦ elim (cases_lt u (length k.known)) [
        | inl inside ↦ rw (e, eq-eqb u u refl) (ap (λ (z : Known). number_in z.waits) (known_set k u (record (known_of k u) { waits = waits_by a }) inside).here ∙ waits_same a)
        | inr past ↦ rw (e, eq-eqb u u refl)
            (ap (λ (z : List Known). number_in (get_or z u (unknown k.opened)).waits) (set_past k.known u (record (known_of k u) { waits = waits_by a }) past)
            ∙ (ap (λ (z : Known). number_in z.waits) (get_or_past k.known u (unknown k.opened) past) ∙ sym (none u refl past)))
      ]
      | inr apart ↦ rw (ne_eqb u t (λ e. apart (sym e))) (elim (cases_lt u (length k.known)) [
        | inl inside ↦ ap (λ (z : Known). number_in z.waits) ((known_set k u (record (known_of k u) { waits = waits_by a }) inside).others t apart) ∙ old t
        | inr past ↦ ap (λ (z : List Known). number_in (get_or z t (unknown k.opened)).waits) (set_past k.known u (record (known_of k u) { waits = waits_by a }) past) ∙ old t
      ])
    ]

pub noted_length : (k : Keeping) (of : Option ℕ) (on : Option TxNo) → length (noted_in of on k).known ≡ length k.known
noted_length k None on = refl
noted_length k (Some u) on = length-set k.known u _

-- what else is kept is as before
pub noted_rest : (k : Keeping) (of : Option ℕ) (on : Option TxNo)
    → ((noted_in of on k).limit ≡ k.limit) × ((noted_in of on k).opened ≡ k.opened) × ((noted_in of on k).committed ≡ k.committed)
    × ((noted_in of on k).steps ≡ k.steps) × ((noted_in of on k).database ≡ k.database)
noted_rest k None on = (refl, refl, refl, refl, refl)
noted_rest k (Some u) on = (refl, refl, refl, refl, refl)

limit_kept : (k : Keeping) (eff : Effect) → (kept_by eff k).limit ≡ k.limit
limit_kept k (Begins u mode) = refl
limit_kept k (Looks u) = at (known_of k u).mode.snapshot
  where
    at : (b : Bool) → (cond b k (with_known k u (record (known_of k u) { base = length k.database; saw = length k.committed }))).limit ≡ k.limit
    at true = refl
    at false = refl
limit_kept k (Makes u table row) = refl
limit_kept k (Gives u table key row) = refl
limit_kept k (Marks u) = refl
limit_kept k (Saves u name) = refl
limit_kept k (TakesBack u point) = refl
limit_kept k (Ends u Active) = refl
limit_kept k (Ends u Limbo) = refl
limit_kept k (Ends u Dead) = refl
limit_kept k (Ends u Committed) = refl
limit_kept k Nothing = refl

-- no transaction is forgotten
pub longer : (k : Keeping) (eff : Effect) → length k.known ≤ length (kept_by eff k).known
longer k (Begins u mode) =
    omega (arith, length-append k.known (record { state = Active; mode = mode; base = length k.database; saw = length k.committed; place = 0; waits = None } ∷ []))
longer k (Looks u) = at (known_of k u).mode.snapshot
  where
    at : (b : Bool) → length k.known ≤ length (cond b k (with_known k u (record (known_of k u) { base = length k.database; saw = length k.committed }))).known
    at true = omega arith
    at false = omega (arith, length-set k.known u (record (known_of k u) { base = length k.database; saw = length k.committed }))
longer k (Makes u table row) = omega arith
longer k (Gives u table key row) = omega arith
longer k (Marks u) = omega arith
longer k (Saves u name) = omega arith
longer k (TakesBack u point) = omega arith
longer k (Ends u Active) = omega (arith, length-set k.known u (record (known_of k u) { state = Active }))
longer k (Ends u Limbo) = omega (arith, length-set k.known u (record (known_of k u) { state = Limbo }))
longer k (Ends u Dead) = omega (arith, length-set k.known u (record (known_of k u) { state = Dead }))
longer k (Ends u Committed) = omega (arith, length-set k.known u (record (known_of k u) { state = Committed; place = length k.committed + 1 }))
longer k Nothing = omega arith

-- ---- an event with its answer

-- an effect that is allowed, with what is noted of waits
pub stands_noted : (o : Opening) (h : Entries) (e : Event) (a : Answer) (k : Keeping) → StandsFor o h k
    → IsAllowed k (effect_with e a)
    → ((u : ℕ) → transaction_of e ≡ Some u → length k.known ≤ u → waited_on a ≡ None)
    → StandsFor o (entry e a ∷ h) (kept_after e a k)
stands_noted o h e a k s allows undrawn =
    let eff : Effect = effect_with e a in
    let k' : Keeping = kept_by eff k in
    let f : Follows o h eff k' = follows o h eff k s allows in
    let of : Option ℕ = transaction_of e in
    let on : Option TxNo = waits_by a in
    let same : (t : ℕ) → SameButWaits (known_of (noted_in of on k') t) (known_of k' t) = noted_same k' of on in
    let rest = noted_rest k' of on in
    let none : (u : ℕ) → of ≡ Some u → length k'.known ≤ u → waited_on a ≡ None =
    λ u its past. undrawn u its (let l = longer k eff in omega arith) in
    record {
      limit = rest.0 ∙ (limit_kept k eff ∙ s.limit);
      next = noted_length k' of on ∙ f.next;
      mode = λ t. (same t).mode ∙ f.mode t;
      state = λ t. (same t).state ∙ f.state t;
      saw = λ t u. (λ i. is_committed ((same u).state i) && nat_le ((same u).place i) ((same t).saw i)) ∙ f.saw t u;
      last_wait = noted_waits k' h e a (λ t. ap number_in (waits_kept k eff allows t) ∙ s.last_wait t) none;
      steps_are = rest.3 ∙ f.steps_are;
      database_is = rest.4 ∙ f.database_is;
      base = λ t. (λ i. drop (length (rest.4 i) - (same t).base i) (rest.4 i)) ∙ f.base t;
      opened = rw (rest.1, rest.4) f.opened;
      bases = λ t. rw ((same t).base, rest.4) (f.bases t);
      sights = λ t. rw ((same t).saw, rest.2) (f.sights t);
      places = λ t. rw ((same t).place, rest.2) (f.places t);
      first = rw (noted_length k' of on) f.first;
    }

pub stands_after : (o : Opening) (h : Entries) (e : Event) (a : Answer) (k : Keeping) → StandsFor o h k
    → a ≡ answer_by (told_in k) e → StandsFor o (entry e a ∷ h) (kept_after e a k)
stands_after o h e a k s is =
    stands_noted o h e a k s (allowed k e a is)
    (λ u its past. ap waited_on is ∙ undrawn_waits k e u its past)

-- an event that is refused for want of memory does nothing, and waits on none
pub stands_refused : (o : Opening) (h : Entries) (e : Event) (k : Keeping) → StandsFor o h k
    → StandsFor o (entry e (No Memory) ∷ h) (noted_in (transaction_of e) None k)
stands_refused o h e k s = stands_noted o h e (No Memory) k s tt (λ u its past. refl)
