-- What is kept after an effect stands for the history after it.
use Rattle.std.proofs.Common.{◌≡◌, ◌≢◌, ℕ, zero, suc, ◌+◌, ◌-◌, ◌<◌, ◌≤◌, ◌==◌, ◌&&◌, not, nat_le, Bool, true, false, List, [], ◌∷◌, ◌++◌, length, drop, Some, None, inl, inr, refl, sym, ◌∙◌, ap, subst, cond, get_or, arith, length-append}
use Rattle.std.proofs.lemmas.Bool.{cases_eq, eq-eqb, ne_eqb, le-leb}
use Rattle.std.proofs.lemmas.Bool.Decides.{leb_tells}
use Rattle.std.proofs.Math.Bool.{and-true}
use Rattle.std.proofs.Math.Seq.{drop-append-add}
use Rattle.std.proofs.lemmas.List.{get_or-set_same, get_or-set_other, get_or_past, length-set}
use Rattle.mg_base.specs.declared.transaction.TxState.{TxState}
use Rattle.mg_base.specs.declared.transaction.TxState.TheVariants.{Active, Limbo, Dead, Committed}
use Rattle.mg_model.specs.declared.change.Change.{Change}
use Rattle.mg_model.specs.declared.change.Step.{Step}
use Rattle.mg_model.specs.declared.change.Deed.TheVariants.{Marked, Saved}
use Rattle.mg_model.specs.declared.event.Mode.{Mode}
use Rattle.mg_plain.specs.declared.known.Known.{Known}
use Rattle.mg_model.specs.declared.opening.Opening.{Opening}
use Rattle.mg_model.specs.Changes.{row_at}
use Rattle.mg_model.specs.Catalog.{catalog_name, key_in}
use Rattle.mg_model.specs.History.{Entries, Effect, Begins, Looks, Makes, Gives, Marks, Saves, TakesBack, Ends, Nothing}
use Rattle.mg_model.specs.Machine.{next_number, next_after, mode_of, mode_after, state_of, state_after, steps, steps_after, database, database_after, base, takes_base, changes_by, cut_at_base, step, changed, taken_back}
use Rattle.mg_model.specs.Answers.{told, is_open, is_committed}
use Rattle.mg_plain.specs.Keeping.{Keeping, unknown, known_of, base_in, saw_in, told_in, StandsFor, with_known, rebased, looked, ended, begun, kept_by}

-- what is kept tells what the history tells
pub told_same : (o : Opening) (h : Entries) (k : Keeping) → StandsFor o h k → told_in k ≡ told o h
told_same o h k s = λ i. record {
  next = s.next i;
  limit = s.limit i;
  mode = λ t. s.mode t i;
  state = λ t. s.state t i;
  saw = λ t u. s.saw t u i;
  last_wait = λ t. s.last_wait t i;
  steps = s.steps_are i;
  view = λ t. changes_by t (s.steps_are i) ++ s.base t i;
}

-- an effect that a legal answer allows
abbrev pub IsAllowed : Keeping → Effect → Type 0
IsAllowed k (Begins t mode) = t ≡ length k.known
IsAllowed k (Looks t) = is_open (known_of k t).state ≡ true
IsAllowed k (Makes t table row) = Unit {0}
IsAllowed k (Gives t table key row) = Unit {0}
IsAllowed k (Marks t) = Unit {0}
IsAllowed k (Saves t name) = Unit {0}
IsAllowed k (TakesBack t point) = Unit {0}
IsAllowed k (Ends t end) = is_open (known_of k t).state ≡ true
IsAllowed k Nothing = Unit {0}

-- what is kept stands for the history after an effect, but for what transactions wait on
pub record Follows (o : Opening) (h : Entries) (eff : Effect) (k : Keeping) : Type 0 where
  pub next : length k.known ≡ next_after eff (next_number o h)
  pub mode : (t : ℕ) → (known_of k t).mode ≡ mode_after eff t (mode_of h t)
  pub state : (t : ℕ) → (known_of k t).state ≡ state_after eff t (state_of o h t)
  pub saw : (t u : ℕ) → saw_in k t u ≡ is_committed
      (state_of o (cond (takes_base eff t (mode_of h t).snapshot) h (cut_at_base h t)) u)
  pub steps_are : k.steps ≡ steps_after eff
      (λ t. row_at (changes_by t (steps o h) ++ base o h t) catalog_name) (steps o h)
  pub database_is : k.database
      ≡ database_after eff (λ t. changes_by t (steps o h)) (database o h)
  pub base : (t : ℕ) → base_in k t
      ≡ cond (takes_base eff t (mode_of h t).snapshot) (database o h) (base o h t)
  pub opened : k.opened ≤ length k.database
  pub bases : (t : ℕ) → (known_of k t).base ≤ length k.database
  pub sights : (t : ℕ) → (known_of k t).saw ≤ length k.committed
  pub places : (t : ℕ) → (known_of k t).place ≤ length k.committed
  pub first : 0 < length k.known

-- ---- one transaction is known otherwise, and no other

pub record KnownAt (old new : Keeping) (u : ℕ) (x : Known) : Type 0 where
  pub here : known_of new u ≡ x
  pub others : (t : ℕ) → t ≢ u → known_of new t ≡ known_of old t

-- a transaction that is active or in limbo was drawn
pub drawn : (k : Keeping) (u : ℕ) → is_open (known_of k u).state ≡ true → u < length k.known
drawn k u lives = at k.known u lives
  where
    at : (known : List Known) (n : ℕ) → is_open (get_or known n (unknown k.opened)).state ≡ true → n < length known
    at [] n none = absurd cc
    at (x ∷ known) zero is = omega arith
    at (x ∷ known) (suc n) is = let more = at known n is in omega arith

pub known_set : (k : Keeping) (u : ℕ) (x : Known) → u < length k.known → KnownAt k (with_known k u x) u x
known_set k u x inside = record {
  here = get_or-set_same k.known u x (unknown k.opened) inside;
  others = λ t apart. get_or-set_other k.known u t x (unknown k.opened) apart;
}

get_or_pushed : (xs : List Known) (x d : Known) → get_or (xs ++ x ∷ []) (length xs) d ≡ x
get_or_pushed [] x d = refl
get_or_pushed (y ∷ xs) x d = get_or_pushed xs x d

get_or_before : (xs : List Known) (x d : Known) (t : ℕ) → t ≢ length xs → get_or (xs ++ x ∷ []) t d ≡ get_or xs t d
get_or_before [] x d zero apart = absurd (apart refl)
get_or_before [] x d (suc t) apart = refl
get_or_before (y ∷ xs) x d zero apart = refl
get_or_before (y ∷ xs) x d (suc t) apart = get_or_before xs x d t (λ e. apart (ap suc e))

pub known_begun : (k : Keeping) (mode : Mode) → KnownAt k (begun mode k) (length k.known)
    (record { state = Active; mode = mode; base = length k.database; saw = length k.committed; place = 0; waits = None })
known_begun k mode = record {
  here = get_or_pushed k.known _ (unknown k.opened);
  others = λ t apart. get_or_before k.known _ (unknown k.opened) t apart;
}

-- a number that was not drawn is unknown
pub not_drawn : (k : Keeping) → known_of k (length k.known) ≡ unknown k.opened
not_drawn k = get_or_past k.known (length k.known) (unknown k.opened) (omega arith)

-- a test of two numbers, each way
pub same_test : (u t : ℕ) → t ≡ u → (u == t) ≡ true
same_test u t is = eq-eqb u t (sym is)

other_test : (u t : ℕ) → t ≢ u → (u == t) ≡ false
other_test u t apart = ne_eqb u t (λ e. apart (sym e))

-- what holds at the one and at all others holds at each
at_each : (P : ℕ → Type 0) (u : ℕ) → P u → ((t : ℕ) → t ≢ u → P t) → (t : ℕ) → P t
at_each P u here others t = elim (cases_eq t u) [
  | inl e ↦ subst P (sym e) here
  | inr apart ↦ others t apart
]

-- what is seen, by its three parts
saw_terms : (k : Keeping) (t v : ℕ) (x : TxState) (p w : ℕ) → (known_of k v).state ≡ x
    → (known_of k v).place ≡ p → (known_of k t).saw ≡ w → saw_in k t v ≡ (is_committed x && nat_le p w)
saw_terms k t v x p w state place saw = λ i. is_committed (state i) && nat_le (place i) (saw i)

-- a transaction that isn't committed was not when others took their bases
unseen_now : (k : Keeping) (t v : ℕ) → is_committed (known_of k v).state ≡ false → saw_in k t v ≡ false
unseen_now k t v not_yet = rw not_yet refl

open_not_committed : (x : TxState) → is_open x ≡ true → is_committed x ≡ false
open_not_committed Active lives = refl
open_not_committed Limbo lives = refl
open_not_committed Dead lives = refl
open_not_committed Committed lives = absurd cc

-- one that is committed after a base was taken was not committed then
too_late : (n saw : ℕ) → saw ≤ n → (is_committed Committed && nat_le (n + 1) saw) ≡ false
too_late n saw within = elim (leb_tells (n + 1) saw) [
  | inl le ↦ absurd (let l = le.1 in omega arith)
  | inr gt ↦ gt.0
]

-- ---- effects that change the steps alone

restepped : (o : Opening) (h : Entries) (eff : Effect) (k : Keeping) (s : List Step)
    → StandsFor o h k
    → ((n : ℕ) → next_after eff n ≡ n) → ((t : ℕ) (m : Mode) → mode_after eff t m ≡ m)
    → ((t : ℕ) (x : TxState) → state_after eff t x ≡ x) → ((t : ℕ) (b : Bool) → takes_base eff t b ≡ false)
    → ((f : ℕ → List Change) (d : List Change) → database_after eff f d ≡ d)
    → s ≡ steps_after eff (λ t. row_at (changes_by t (steps o h) ++ base o h t) catalog_name) (steps o h)
    → Follows o h eff (record k { steps = s })
restepped o h eff k s stands next mode state takes data_ is = record {
  next = stands.next ∙ sym (next _);
  mode = λ t. stands.mode t ∙ sym (mode t _);
  state = λ t. stands.state t ∙ sym (state t _);
  saw = λ t u. stands.saw t u ∙ rw (takes t (mode_of h t).snapshot) refl;
  steps_are = is;
  database_is = stands.database_is ∙ sym (data_ _ _);
  base = λ t. stands.base t ∙ rw (takes t (mode_of h t).snapshot) refl;
  opened = stands.opened;
  bases = stands.bases;
  sights = stands.sights;
  places = stands.places;
  first = stands.first;
}

-- what a transaction sees of the catalog
seen_catalog : (o : Opening) (h : Entries) (k : Keeping) → StandsFor o h k → (t : ℕ)
    → row_at (changes_by t k.steps ++ base_in k t) catalog_name
    ≡ row_at (changes_by t (steps o h) ++ base o h t) catalog_name
seen_catalog o h k s t = λ i. row_at (changes_by t (s.steps_are i) ++ s.base t i) catalog_name

-- ---- a transaction takes a new base

looked_at : (o : Opening) (h : Entries) (u : ℕ) (k : Keeping) → StandsFor o h k
    → is_open (known_of k u).state ≡ true → Follows o h (Looks u) (looked u k)
looked_at o h u k s lives = by_mode (known_of k u).mode.snapshot refl
  where
    no_look : (mode_of h u).snapshot ≡ true → (t : ℕ) → (u == t && not (mode_of h t).snapshot) ≡ false
    no_look snap = at_each (λ t. (u == t && not (mode_of h t).snapshot) ≡ false) u
        (rw snap (and_false (u == u))) (λ t apart. rw (other_test u t apart) refl)
      where
        and_false : (b : Bool) → (b && false) ≡ false
        and_false true = refl
        and_false false = refl

    its_look : (mode_of h u).snapshot ≡ false → (u == u && not (mode_of h u).snapshot) ≡ true
    its_look snap = rw (snap, same_test u u refl) refl

    other_look : (t : ℕ) → t ≢ u → (u == t && not (mode_of h t).snapshot) ≡ false
    other_look t apart = rw (other_test u t apart) refl

    by_mode : (b : Bool) → (known_of k u).mode.snapshot ≡ b → Follows o h (Looks u) (cond b k (rebased u k))
    by_mode true snap =
        let none = no_look (sym (ap (λ (m : Mode). m.snapshot) (s.mode u)) ∙ snap) in
        record {
          next = s.next;
          mode = s.mode;
          state = s.state;
          saw = λ t v. s.saw t v ∙ rw (none t) refl;
          steps_are = s.steps_are;
          database_is = s.database_is;
          base = λ t. s.base t ∙ rw (none t) refl;
          opened = s.opened;
          bases = s.bases;
          sights = s.sights;
          places = s.places;
          first = s.first;
        }
    by_mode false snap =
        let old = known_of k u in
        let x : Known = record old { base = length k.database; saw = length k.committed } in
        let known = known_set k u x (drawn k u lives) in
        let its = its_look (sym (ap (λ (m : Mode). m.snapshot) (s.mode u)) ∙ snap) in
        let same_state : (v : ℕ) → (known_of (rebased u k) v).state ≡ (known_of k v).state =
        at_each _ u (ap (λ (y : Known). y.state) known.here) (λ v apart. ap (λ (y : Known). y.state) (known.others v apart)) in
        let same_place : (v : ℕ) → (known_of (rebased u k) v).place ≡ (known_of k v).place =
        at_each _ u (ap (λ (y : Known). y.place) known.here) (λ v apart. ap (λ (y : Known). y.place) (known.others v apart)) in
        let saw_here : (v : ℕ) → saw_in (rebased u k) u v ≡ is_committed (state_of o h v) =
        λ v. saw_terms (rebased u k) u v _ _ _ (same_state v) (same_place v) (ap (λ (y : Known). y.saw) known.here)
        ∙ (rw (le-leb (known_of k v).place (length k.committed) (s.places v)) (and-true (is_committed (known_of k v).state))
        ∙ ap is_committed (s.state v)) in
        let saw_other : (t : ℕ) → t ≢ u → (v : ℕ) → saw_in (rebased u k) t v ≡ is_committed (state_of o (cut_at_base h t) v) =
        λ t apart v. saw_terms (rebased u k) t v _ _ _ (same_state v) (same_place v) (ap (λ (y : Known). y.saw) (known.others t apart)) ∙ s.saw t v in
        let none : length k.database - length k.database ≡ 0 = omega arith in
        record {
          next = length-set k.known u x ∙ s.next;
          mode = at_each _ u (ap (λ (y : Known). y.mode) known.here ∙ s.mode u) (λ t apart. ap (λ (y : Known). y.mode) (known.others t apart) ∙ s.mode t);
          state = λ t. same_state t ∙ s.state t;
          saw = at_each _ u (λ v. saw_here v ∙ rw its refl) (λ t apart v. saw_other t apart v ∙ rw (other_look t apart) refl);
          steps_are = s.steps_are;
          database_is = s.database_is;
          base = at_each _ u
              (ap (λ (y : Known). drop (length k.database - y.base) k.database) known.here
              ∙ (ap (λ (n : ℕ). drop n k.database) none ∙ (s.database_is ∙ rw its refl)))
              (λ t apart. ap (λ (y : Known). drop (length k.database - y.base) k.database) (known.others t apart)
              ∙ (s.base t ∙ rw (other_look t apart) refl));
          opened = s.opened;
          bases = at_each _ u (rw known.here (omega arith)) (λ t apart. rw (known.others t apart) (s.bases t));
          sights = at_each _ u (rw known.here (omega arith)) (λ t apart. rw (known.others t apart) (s.sights t));
          places = λ t. rw (same_place t) (s.places t);
          first = rw (length-set k.known u x) s.first;
        }

-- ---- a transaction comes to limbo, or is rolled back

unended : (o : Opening) (h : Entries) (u : ℕ) (end : TxState) (k : Keeping) → StandsFor o h k
    → is_open (known_of k u).state ≡ true → is_committed end ≡ false
    → ((f : ℕ → List Change) (d : List Change) → database_after (Ends u end) f d ≡ d)
    → Follows o h (Ends u end) (with_known k u (record (known_of k u) { state = end }))
unended o h u end k s lives open_end data_ =
    let x : Known = record (known_of k u) { state = end } in
    let k' : Keeping = with_known k u x in
    let known = known_set k u x (drawn k u lives) in
    let same_place : (v : ℕ) → (known_of k' v).place ≡ (known_of k v).place =
    at_each _ u (ap (λ (y : Known). y.place) known.here) (λ v apart. ap (λ (y : Known). y.place) (known.others v apart)) in
    let same_saw : (v : ℕ) → (known_of k' v).saw ≡ (known_of k v).saw =
    at_each _ u (ap (λ (y : Known). y.saw) known.here) (λ v apart. ap (λ (y : Known). y.saw) (known.others v apart)) in
    let same_base : (v : ℕ) → (known_of k' v).base ≡ (known_of k v).base =
    at_each _ u (ap (λ (y : Known). y.base) known.here) (λ v apart. ap (λ (y : Known). y.base) (known.others v apart)) in
    record {
      next = length-set k.known u x ∙ s.next;
      mode = at_each _ u (ap (λ (y : Known). y.mode) known.here ∙ s.mode u) (λ t apart. ap (λ (y : Known). y.mode) (known.others t apart) ∙ s.mode t);
      state = at_each _ u
          (ap (λ (y : Known). y.state) known.here ∙ rw (same_test u u refl) refl)
          (λ t apart. ap (λ (y : Known). y.state) (known.others t apart) ∙ (s.state t ∙ rw (other_test u t apart) refl));
      saw = λ t. at_each _ u
          (unseen_now k' t u (ap is_committed (ap (λ (y : Known). y.state) known.here) ∙ open_end)
          ∙ (sym (unseen_now k t u (open_not_committed (known_of k u).state lives)) ∙ s.saw t u))
          (λ v apart. saw_terms k' t v _ _ _ (ap (λ (y : Known). y.state) (known.others v apart)) (same_place v) (same_saw t) ∙ s.saw t v);
      steps_are = s.steps_are;
      database_is = s.database_is ∙ sym (data_ _ _);
      base = λ t. ap (λ (n : ℕ). drop (length k.database - n) k.database) (same_base t) ∙ s.base t;
      opened = s.opened;
      bases = λ t. rw (same_base t) (s.bases t);
      sights = λ t. rw (same_saw t) (s.sights t);
      places = λ t. rw (same_place t) (s.places t);
      first = rw (length-set k.known u x) s.first;
    }

-- ---- a transaction is committed

committed_now : (o : Opening) (h : Entries) (u : ℕ) (k : Keeping) → StandsFor o h k
    → is_open (known_of k u).state ≡ true → Follows o h (Ends u Committed) (ended u Committed k)
committed_now o h u k s lives =
    let x : Known = record (known_of k u) { state = Committed; place = length k.committed + 1 } in
    let k' : Keeping = ended u Committed k in
    let own : List Change = changes_by u k.steps in
    let known = known_set k u x (drawn k u lives) in
    let same_saw : (v : ℕ) → (known_of k' v).saw ≡ (known_of k v).saw =
    at_each _ u (ap (λ (y : Known). y.saw) known.here) (λ v apart. ap (λ (y : Known). y.saw) (known.others v apart)) in
    let same_base : (v : ℕ) → (known_of k' v).base ≡ (known_of k v).base =
    at_each _ u (ap (λ (y : Known). y.base) known.here) (λ v apart. ap (λ (y : Known). y.base) (known.others v apart)) in
    let more : length k'.committed ≡ length k.committed + 1 = omega (arith, length-append k.committed (record { 0 = u } ∷ [])) in
    let longer : length k'.database ≡ length own + length k.database = length-append own k.database in
    record {
      next = length-set k.known u x ∙ s.next;
      mode = at_each _ u (ap (λ (y : Known). y.mode) known.here ∙ s.mode u) (λ t apart. ap (λ (y : Known). y.mode) (known.others t apart) ∙ s.mode t);
      state = at_each _ u
          (ap (λ (y : Known). y.state) known.here ∙ rw (same_test u u refl) refl)
          (λ t apart. ap (λ (y : Known). y.state) (known.others t apart) ∙ (s.state t ∙ rw (other_test u t apart) refl));
      saw = λ t. at_each _ u
          (saw_terms k' t u _ _ _ (ap (λ (y : Known). y.state) known.here) (ap (λ (y : Known). y.place) known.here) (same_saw t)
          ∙ (too_late (length k.committed) (known_of k t).saw (s.sights t)
          ∙ (sym (unseen_now k t u (open_not_committed (known_of k u).state lives)) ∙ s.saw t u)))
          (λ v apart. saw_terms k' t v _ _ _ (ap (λ (y : Known). y.state) (known.others v apart)) (ap (λ (y : Known). y.place) (known.others v apart)) (same_saw t) ∙ s.saw t v);
      steps_are = s.steps_are;
      database_is = λ i. changes_by u (s.steps_are i) ++ s.database_is i;
      base = λ t.
          let old = s.bases t in
          let behind : length k'.database - (known_of k' t).base ≡ length own + (length k.database - (known_of k t).base) =
          ap (λ (n : ℕ). length k'.database - n) (same_base t) ∙ omega (arith, longer) in
          ap (λ (n : ℕ). drop n k'.database) behind
          ∙ (drop-append-add own k.database (length k.database - (known_of k t).base) ∙ s.base t);
      opened = let old = s.opened in omega (arith, longer);
      bases = λ t. let old = s.bases t in rw (same_base t) (omega (arith, longer));
      sights = λ t. let old = s.sights t in rw (same_saw t) (omega (arith, more));
      places = at_each _ u
          (rw known.here (omega (arith, more)))
          (λ t apart. let old = s.places t in rw (known.others t apart) (omega (arith, more)));
      first = rw (length-set k.known u x) s.first;
    }

-- ---- a transaction begins

begun_now : (o : Opening) (h : Entries) (mode : Mode) (k : Keeping) → StandsFor o h k
    → Follows o h (Begins (length k.known) mode) (begun mode k)
begun_now o h mode k s =
    let u = length k.known in
    let x : Known = record { state = Active; mode = mode; base = length k.database; saw = length k.committed; place = 0; waits = None } in
    let k' : Keeping = begun mode k in
    let known = known_begun k mode in
    let fresh = not_drawn k in
    let more : length k'.known ≡ length k.known + 1 = omega (arith, length-append k.known (x ∷ [])) in
    let none : length k.database - length k.database ≡ 0 = omega arith in
    let its = same_test u u refl in
    let unseen : (t : ℕ) → saw_in k t u ≡ false = λ t. unseen_now k t u (ap (λ (y : Known). is_committed y.state) fresh) in
    let unseen' : (t : ℕ) → saw_in k' t u ≡ false = λ t. unseen_now k' t u (ap (λ (y : Known). is_committed y.state) known.here) in
    let dead : is_committed (state_of o h u) ≡ false =
    ap is_committed (sym (s.state u)) ∙ ap (λ (y : Known). is_committed y.state) fresh in
    let saw_here : (v : ℕ) → saw_in k' u v ≡ is_committed (state_of o h v) =
    at_each _ u
    (unseen' u ∙ sym dead)
    (λ v apart. saw_terms k' u v _ _ _ (ap (λ (y : Known). y.state) (known.others v apart)) (ap (λ (y : Known). y.place) (known.others v apart)) (ap (λ (y : Known). y.saw) known.here)
    ∙ (rw (le-leb (known_of k v).place (length k.committed) (s.places v)) (and-true (is_committed (known_of k v).state))
    ∙ ap is_committed (s.state v))) in
    let saw_other : (t : ℕ) → t ≢ u → (v : ℕ) → saw_in k' t v ≡ is_committed (state_of o (cut_at_base h t) v) =
    λ t far. at_each _ u
    (unseen' t ∙ (sym (unseen t) ∙ s.saw t u))
    (λ v apart. saw_terms k' t v _ _ _ (ap (λ (y : Known). y.state) (known.others v apart)) (ap (λ (y : Known). y.place) (known.others v apart)) (ap (λ (y : Known). y.saw) (known.others t far)) ∙ s.saw t v) in
    record {
      next = more ∙ ap (λ (n : ℕ). n + 1) s.next;
      mode = at_each _ u
          (ap (λ (y : Known). y.mode) known.here ∙ rw its refl)
          (λ t apart. ap (λ (y : Known). y.mode) (known.others t apart) ∙ (s.mode t ∙ rw (other_test u t apart) refl));
      state = at_each _ u
          (ap (λ (y : Known). y.state) known.here ∙ rw its refl)
          (λ t apart. ap (λ (y : Known). y.state) (known.others t apart) ∙ (s.state t ∙ rw (other_test u t apart) refl));
      saw = at_each _ u (λ v. saw_here v ∙ rw its refl) (λ t apart v. saw_other t apart v ∙ rw (other_test u t apart) refl);
      steps_are = s.steps_are;
      database_is = s.database_is;
      base = at_each _ u
          (ap (λ (y : Known). drop (length k.database - y.base) k.database) known.here
          ∙ (ap (λ (n : ℕ). drop n k.database) none ∙ (s.database_is ∙ rw its refl)))
          (λ t apart. ap (λ (y : Known). drop (length k.database - y.base) k.database) (known.others t apart)
          ∙ (s.base t ∙ rw (other_test u t apart) refl));
      opened = s.opened;
      bases = at_each _ u (rw known.here (omega arith)) (λ t apart. rw (known.others t apart) (s.bases t));
      sights = at_each _ u (rw known.here (omega arith)) (λ t apart. rw (known.others t apart) (s.sights t));
      places = at_each _ u (rw known.here (omega arith)) (λ t apart. rw (known.others t apart) (s.places t));
      first = omega (arith, more);
    }

-- ---- every effect

pub follows : (o : Opening) (h : Entries) (eff : Effect) (k : Keeping) → StandsFor o h k
    → IsAllowed k eff → Follows o h eff (kept_by eff k)
follows o h (Begins t mode) k s is =
    subst (λ (n : ℕ). Follows o h (Begins n mode) (begun mode k)) (sym is) (begun_now o h mode k s)
follows o h (Looks t) k s lives = looked_at o h t k s lives
follows o h (Makes t table row) k s tt =
    restepped o h (Makes t table row) k _ s (λ n. refl) (λ t m. refl) (λ t x. refl) (λ t b. refl) (λ f d. refl)
    (λ i. step t (changed table (key_in (seen_catalog o h k s t i) table row) (Some row)) ∷ s.steps_are i)
follows o h (Gives t table key row) k s tt =
    restepped o h (Gives t table key row) k _ s (λ n. refl) (λ t m. refl) (λ t x. refl) (λ t b. refl) (λ f d. refl)
    (λ i. step t (changed table key row) ∷ s.steps_are i)
follows o h (Marks t) k s tt =
    restepped o h (Marks t) k _ s (λ n. refl) (λ t m. refl) (λ t x. refl) (λ t b. refl) (λ f d. refl)
    (λ i. step t Marked ∷ s.steps_are i)
follows o h (Saves t name) k s tt =
    restepped o h (Saves t name) k _ s (λ n. refl) (λ t m. refl) (λ t x. refl) (λ t b. refl) (λ f d. refl)
    (λ i. step t (Saved name) ∷ s.steps_are i)
follows o h (TakesBack t point) k s tt =
    restepped o h (TakesBack t point) k _ s (λ n. refl) (λ t m. refl) (λ t x. refl) (λ t b. refl) (λ f d. refl)
    (λ i. taken_back t point (s.steps_are i))
follows o h (Ends t Active) k s lives = unended o h t Active k s lives refl (λ f d. refl)
follows o h (Ends t Limbo) k s lives = unended o h t Limbo k s lives refl (λ f d. refl)
follows o h (Ends t Dead) k s lives = unended o h t Dead k s lives refl (λ f d. refl)
follows o h (Ends t Committed) k s lives = committed_now o h t k s lives
follows o h Nothing k s tt =
    restepped o h Nothing k _ s (λ n. refl) (λ t m. refl) (λ t x. refl) (λ t b. refl) (λ f d. refl) s.steps_are
