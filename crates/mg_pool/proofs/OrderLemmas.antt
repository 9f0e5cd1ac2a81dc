-- What leads to a goal by the orders of a graph and by those of a list, taken together.
use Rattle.std.proofs.Common.{◌≡◌, ◌≢◌, ◌<◌, ◌≤◌, ℕ, suc, zero, ◌+◌, Bool, true, false, ◌||◌, ◌&&◌, ◌==◌, ◌⊎◌, inl, inr, List, [], ◌∷◌, ◌++◌, length, get_or, set, take, arith, sym, ◌∙◌, ap, refl, subst}
use Rattle.std.proofs.lemmas.Bool.{cases_eq, both_ways, eqb-true, eq-eqb, ne_eqb, or_cases, or_left, or_right, and_parts, and_from, false_from_ne_true}
use Rattle.std.proofs.lemmas.List.{take_more, get_or-set_same, get_or-set_other}
use Rattle.mg_base.specs.declared.numbers.PageNo.{PageNo}
use Rattle.mg_careful.specs.declared.graph.Order.{Order}
use Rattle.mg_careful.specs.Precedence.{Precedes, directly, through}
use Rattle.mg_careful.specs.PrecedenceLaws.{precedes_in}
use Rattle.mg_careful.specs.Graph.{PageGraph, is_ordered}
use Rattle.mg_pool.specs.declared.pool.Pool.{Pool}
use Rattle.mg_base.specs.Disk.{Meaning}
use Rattle.mg_pool.specs.Batch.{IsOrPrecedes, LeadsToDue, Leads, IsDue, lists, joint, order_at}
use Rattle.mg_pool.specs.Dirty.{DirtyPages, is_dirty}
use Rattle.mg_pool.specs.Pool.{IsPool, taken_out}
use Rattle.mg_pool.specs.Change.{IsOpen, WritesDue, SettlesOrder}
use Rattle.mg_pool.specs.Run.{HasWritten, WritesWith}
use Rattle.mg_pool.proofs.PoolLemmas.{Holds}
use Rattle.mg_pool.proofs.RunLemmas.{CountsNow, chain_before, chain_ready, taken_cases, run_starts, run_then, run_precedes, none_taken_out}

-- an order of a list stands at some place
pub listed_at : (orders : List Order) (a b : ℕ) → lists orders a b ≡ true → (i : ℕ) × (i < length orders) × ((order_at orders i).first ≡ a) × ((order_at orders i).later ≡ b)
listed_at [] a b listed = absurd cc
listed_at (o ∷ os) a b listed = elim (or_cases (o.first == a && o.later == b) (lists os a b) listed) [
  | inl here ↦ let both = and_parts (o.first == a) _ here in (0, omega arith, eqb-true o.first a both.0, eqb-true o.later b both.1)
  | inr there ↦ let found = listed_at os a b there in (suc found.0, omega (arith, found.1), found.2, found.3)
]

-- the order at a place is listed
pub at_listed : (orders : List Order) (i : ℕ) → i < length orders → lists orders (order_at orders i).first (order_at orders i).later ≡ true
at_listed [] i inside = absurd (omega arith)
at_listed (o ∷ os) zero inside = or_left _ _ (and_from _ _ (eq-eqb o.first o.first refl) (eq-eqb o.later o.later refl))
at_listed (o ∷ os) (suc i) inside = or_right (o.first == (order_at os i).first && o.later == (order_at os i).later) _ (at_listed os i (omega arith))

-- the first orders of a list are listed in it
pub take_listed : (orders : List Order) (k a b : ℕ) → lists (take k orders) a b ≡ true → lists orders a b ≡ true
take_listed [] zero a b listed = listed
take_listed [] (suc k) a b listed = listed
take_listed (o ∷ os) zero a b listed = absurd cc
take_listed (o ∷ os) (suc k) a b listed = elim (or_cases (o.first == a && o.later == b) _ listed) [
  | inl here ↦ or_left _ _ here
  | inr there ↦ or_right (o.first == a && o.later == b) _ (take_listed os k a b there)
]

-- the order at a place below is among the first ones
pub at_taken : (orders : List Order) (k i : ℕ) → i < k → i < length orders → lists (take k orders) (order_at orders i).first (order_at orders i).later ≡ true
at_taken [] k i low inside = absurd (omega arith)
at_taken (o ∷ os) zero i low inside = absurd (omega arith)
at_taken (o ∷ os) (suc k) zero low inside = or_left _ _ (and_from _ _ (eq-eqb o.first o.first refl) (eq-eqb o.later o.later refl))
at_taken (o ∷ os) (suc k) (suc i) low inside = or_right (o.first == (order_at os i).first && o.later == (order_at os i).later) _ (at_taken os k i (omega arith) (omega arith))

-- an order among the first ones stands at a place below
pub taken_at : (orders : List Order) (k a b : ℕ) → lists (take k orders) a b ≡ true → (i : ℕ) × (i < k) × (i < length orders) × ((order_at orders i).first ≡ a) × ((order_at orders i).later ≡ b)
taken_at [] zero a b listed = absurd cc
taken_at [] (suc k) a b listed = absurd cc
taken_at (o ∷ os) zero a b listed = absurd cc
taken_at (o ∷ os) (suc k) a b listed = elim (or_cases (o.first == a && o.later == b) _ listed) [
  | inl here ↦ let both = and_parts (o.first == a) _ here in (0, omega arith, omega arith, eqb-true o.first a both.0, eqb-true o.later b both.1)
  | inr there ↦ let found = taken_at os k a b there in (suc found.0, omega (arith, found.1), omega (arith, found.2), found.3, found.4)
]

-- one order more is among the first ones
pub lists_more : (orders : List Order) (k a b : ℕ) → k < length orders → lists (take (k + 1) orders) a b ≡ (lists (take k orders) a b || ((order_at orders k).first == a && (order_at orders k).later == b))
lists_more orders k a b inside = ap (λ (os : List Order). lists os a b) (take_more orders k (record { first = 0; later = 0 }) inside) ∙ push (take k orders) (order_at orders k)
  where
    regroup : (x y z : Bool) → (x || (y || z)) ≡ ((x || y) || z)
    regroup true y z = refl
    regroup false y z = refl

    last : (x : Bool) → (x || false) ≡ x
    last true = refl
    last false = refl

    push : (os : List Order) (o : Order) → lists (os ++ o ∷ []) a b ≡ (lists os a b || (o.first == a && o.later == b))
    push [] o = last (o.first == a && o.later == b)
    push (x ∷ os) o = ap (λ (t : Bool). (x.first == a && x.later == b) || t) (push os o) ∙ regroup (x.first == a && x.later == b) (lists os a b) (o.first == a && o.later == b)

-- what precedes by the orders of a graph or a list precedes by both taken together
pub graph_in_joint : (graph : PageGraph) (orders : List Order) (p q : ℕ) → Precedes (is_ordered graph) p q → Precedes (joint graph orders) p q
graph_in_joint graph orders p q chain = precedes_in (is_ordered graph) (joint graph orders) (λ a b o. or_left _ _ o) p q chain

-- Orders that are due: what they say of chains.
module _ (graph : PageGraph) (orders : List Order) (count goal : ℕ) (due : List Bool) (is : IsDue graph orders count goal due) (few : count ≤ length orders) where
  -- what is or precedes a page that leads leads too
  pub leads_by : (p q : ℕ) → Precedes (joint graph (take count orders)) p q → Leads graph orders due q goal → Precedes (is_ordered graph) p goal ⊎ LeadsToDue graph orders due p
  leads_by p q (directly o) leads = elim (or_cases (is_ordered graph p q) _ o) [
    | inl own ↦ elim leads [
      | inl to_goal ↦ inl (on to_goal own)
      | inr to_due ↦ inr (record { place = to_due.place; inside = to_due.inside; is_due = to_due.is_due; leads = inr (on to_due.leads own) })
    ]
    | inr listed ↦
        let found = taken_at orders count p q listed in
        let here = is.all found.0 found.1 (subst (λ (x : ℕ). Leads graph orders due x goal) (sym found.4) leads) in
        inr (record { place = found.0; inside = found.2; is_due = here; leads = inl (sym found.3) })
  ]
    where
      on : {r : ℕ} → IsOrPrecedes (is_ordered graph) q r → is_ordered graph p q ≡ true → Precedes (is_ordered graph) p r
      on {r} (inl e) own = directly (ap (is_ordered graph p) (sym e) ∙ own)
      on {r} (inr chain) own = through (directly own) chain
  leads_by p r (through {b = q} x y) leads = leads_by p q x (weaker (leads_by q r y leads))
    where
      weaker : Precedes (is_ordered graph) q goal ⊎ LeadsToDue graph orders due q → Leads graph orders due q goal
      weaker (inl chain) = inl (inr chain)
      weaker (inr to_due) = inr to_due

  -- what precedes the goal leads to it
  pub leads_to_goal : (p : ℕ) → Precedes (joint graph (take count orders)) p goal → Precedes (is_ordered graph) p goal ⊎ LeadsToDue graph orders due p
  leads_to_goal p chain = leads_by p goal chain (inl (inl refl))

  -- what leads to the goal precedes it
  pub goal_from_leads : (p : ℕ) → Precedes (is_ordered graph) p goal ⊎ LeadsToDue graph orders due p → Precedes (joint graph (take count orders)) p goal
  goal_from_leads p (inl chain) = graph_in_joint graph (take count orders) p goal chain
  goal_from_leads p (inr to_due) = at to_due.leads
    where
      first_to_goal : Precedes (joint graph (take count orders)) (order_at orders to_due.place).first goal
      first_to_goal = (is.sound to_due.place to_due.is_due).1

      at : IsOrPrecedes (is_ordered graph) p (order_at orders to_due.place).first → Precedes (joint graph (take count orders)) p goal
      at (inl e) = subst (λ (x : ℕ). Precedes (joint graph (take count orders)) x goal) (sym e) first_to_goal
      at (inr chain) = through (graph_in_joint graph (take count orders) p _ chain) first_to_goal

-- What was written towards a goal, in the terms of chains.
module _ {D L : Type 0} (m : Meaning D) (old new : Pool D L) (run : HasWritten m old new) (orders : List Order) (count goal : ℕ) (due : List Bool) (is : IsDue old.graph orders count goal due) (few : count ≤ length orders) (writes : WritesDue m orders due goal old new) where
  -- everything that precedes the goal is written
  pub goal_written : (p : ℕ) → Precedes (joint old.graph (take count orders)) p goal → is_dirty new.dirty p ≡ false
  goal_written p chain = elim (leads_to_goal old.graph orders count goal due is few p chain) [
    | inl own ↦ chain_ready m old new run goal writes.ready p goal refl own
    | inr to_due ↦ at to_due
  ]
    where
      at : LeadsToDue old.graph orders due p → is_dirty new.dirty p ≡ false
      at to_due = elim to_due.leads [
        | inl e ↦ ap (is_dirty new.dirty) e ∙ writes.due_out to_due.place to_due.inside to_due.is_due
        | inr chain ↦ chain_before m old new run p _ chain (writes.due_out to_due.place to_due.inside to_due.is_due)
      ]

  -- and nothing else is
  pub only_goal : (p : ℕ) → taken_out old.dirty new.dirty p ≡ true → Precedes (joint old.graph (take count orders)) p goal
  only_goal p out = goal_from_leads old.graph orders count goal due is few p (writes.no_other p out)

-- what precedes in the orders that are left preceded in those that there were
pub joint_less : {D L : Type 0} (m : Meaning D) (old new : Pool D L) → HasWritten m old new → (orders : List Order) (p q : ℕ) → Precedes (joint new.graph orders) p q → Precedes (joint old.graph orders) p q
joint_less m old new run orders p q chain = precedes_in (joint new.graph orders) (joint old.graph orders) (λ a b o. elim (or_cases (is_ordered new.graph a b) _ o) [
  | inl own ↦ or_left _ _ (and_parts (is_ordered old.graph a b) _ (sym (run.orders a b) ∙ own)).0
  | inr listed ↦ or_right (is_ordered old.graph a b) _ listed
]) p q chain

-- Where every page that precedes the goal is written, a chain to the goal is one of listed orders.
module _ {D L : Type 0} (m : Meaning D) (old new : Pool D L) (run : HasWritten m old new) (earlier : List Order) (goal : ℕ) (written : (p : ℕ) → Precedes (joint old.graph earlier) p goal → is_dirty new.dirty p ≡ false) where
  listed_to : (p q : ℕ) → IsOrPrecedes (joint old.graph earlier) q goal → Precedes (joint new.graph earlier) p q → Precedes (lists earlier) p q
  listed_to p q on (directly o) = elim (or_cases (is_ordered new.graph p q) _ o) [
    | inl own ↦
        let parts = and_parts (is_ordered old.graph p q) _ (sym (run.orders p q) ∙ own) in
        let first : Precedes (joint old.graph earlier) p q = directly (or_left _ _ parts.0) in
        absurd (both_ways _ (written p (elim on [ inl e ↦ subst (λ (x : ℕ). Precedes (joint old.graph earlier) p x) e first | inr chain ↦ through first chain ])) (and_parts (is_dirty new.dirty p) _ parts.1).0)
    | inr listed ↦ directly listed
  ]
  listed_to p r on (through {b = q} x y) =
      let back = joint_less m old new run earlier q r y in
      let on_q : IsOrPrecedes (joint old.graph earlier) q goal = inr (elim on [ inl e ↦ subst (λ (t : ℕ). Precedes (joint old.graph earlier) q t) e back | inr chain ↦ through back chain ]) in
      through (listed_to p q on_q x) (listed_to q r on y)

  pub listed_chain : (p : ℕ) → Precedes (joint new.graph earlier) p goal → Precedes (lists earlier) p goal
  listed_chain p chain = listed_to p goal (inl refl) chain

-- an order of a list without a cycle doesn't lead back
pub no_way_back : (orders : List Order) (k : ℕ) → k < length orders → ((page : ℕ) → Precedes (lists orders) page page → ⊥) → Precedes (lists (take k orders)) (order_at orders k).later (order_at orders k).first → ⊥
no_way_back orders k inside acyclic chain = acyclic (order_at orders k).later (through (precedes_in (lists (take k orders)) (lists orders) (λ a b o. take_listed orders k a b o) _ _ chain) (directly (at_listed orders k inside)))

pub apart_at : (orders : List Order) (k : ℕ) → k < length orders → ((page : ℕ) → Precedes (lists orders) page page → ⊥) → (order_at orders k).later ≢ (order_at orders k).first
apart_at orders k inside acyclic e = acyclic (order_at orders k).later (directly (subst (λ (x : ℕ). lists orders x (order_at orders k).later ≡ true) (sym e) (at_listed orders k inside)))

-- the same, where the pages of the order were read
pub apart_read : (orders : List Order) (k first later : ℕ) → k < length orders → ((page : ℕ) → Precedes (lists orders) page page → ⊥) → first ≡ (order_at orders k).first → later ≡ (order_at orders k).later → first ≢ later
apart_read orders k first later inside acyclic at_first at_later e = apart_at orders k inside acyclic (sym at_later ∙ (sym e ∙ at_first))

pub later_dirty : (old now : DirtyPages) (orders : List Order) (k later : ℕ) → k < length orders → now ≡ old → ((a b : ℕ) → lists orders a b ≡ true → is_dirty old b ≡ true) → later ≡ (order_at orders k).later → is_dirty now later ≡ true
later_dirty old now orders k later inside same dirty at_later =
    ap (is_dirty now) at_later ∙ (ap (λ (d : DirtyPages). is_dirty d (order_at orders k).later) same ∙ dirty _ _ (at_listed orders k inside))

-- an order stays open as pages are written
pub open_still : {D L : Type 0} (m : Meaning D) (old new : Pool D L) → HasWritten m old new → (orders : List Order) (k : ℕ) → IsOpen old.graph orders k → IsOpen new.graph orders k
open_still m old new run orders k open_ chain = open_ (joint_less m old new run (take k orders) _ _ chain)

-- Marks of orders.
pub due_set : (due : List Bool) (i k : ℕ) → i < length due → get_or (set due i true) k false ≡ (k == i || get_or due k false)
due_set due i k inside = elim (cases_eq k i) [
  | inl e ↦ rw (e, eq-eqb i i refl) (get_or-set_same due i true false inside)
  | inr apart ↦ rw (ne_eqb k i apart) (get_or-set_other due i k true false apart)
]

-- Marks that are sound: a page that leads is or precedes the goal.
module _ (graph : PageGraph) (orders : List Order) (count goal : ℕ) (due : List Bool) (few : count ≤ length orders) (sound : (i : ℕ) → get_or due i false ≡ true → (i < count) × Precedes (joint graph (take count orders)) (order_at orders i).first goal) where
  leads_sound : (q : ℕ) → Leads graph orders due q goal → IsOrPrecedes (joint graph (take count orders)) q goal
  leads_sound q (inl (inl e)) = inl e
  leads_sound q (inl (inr chain)) = inr (graph_in_joint graph (take count orders) q goal chain)
  leads_sound q (inr to_due) = inr (at to_due.leads)
    where
      to_goal : Precedes (joint graph (take count orders)) (order_at orders to_due.place).first goal
      to_goal = (sound to_due.place to_due.is_due).1

      at : IsOrPrecedes (is_ordered graph) q (order_at orders to_due.place).first → Precedes (joint graph (take count orders)) q goal
      at (inl e) = subst (λ (x : ℕ). Precedes (joint graph (take count orders)) x goal) (sym e) to_goal
      at (inr chain) = through (graph_in_joint graph (take count orders) q _ chain) to_goal

  -- one mark more
  pub marks_sound : (p : ℕ) → p < count → length due ≡ length orders → Leads graph orders due (order_at orders p).later goal → (i : ℕ) → get_or (set due p true) i false ≡ true → (i < count) × Precedes (joint graph (take count orders)) (order_at orders i).first goal
  marks_sound p low long leads i marked = elim (cases_eq i p) [
    | inl e ↦ (omega arith, subst (λ (k : ℕ). Precedes (joint graph (take count orders)) (order_at orders k).first goal) (sym e) here)
    | inr apart ↦ sound i (sym (get_or-set_other due p i true false apart) ∙ marked)
  ]
    where
      step : joint graph (take count orders) (order_at orders p).first (order_at orders p).later ≡ true
      step = or_right (is_ordered graph (order_at orders p).first (order_at orders p).later) _ (at_taken orders count p low (omega arith))

      here : Precedes (joint graph (take count orders)) (order_at orders p).first goal
      here = elim (leads_sound (order_at orders p).later leads) [
        | inl e ↦ directly (subst (λ (x : ℕ). joint graph (take count orders) (order_at orders p).first x ≡ true) e step)
        | inr chain ↦ through (directly step) chain
      ]

-- Writing towards a goal: what has been written before a place of the orders.
pub record DueSoFar {D L : Type 0} (m : Meaning D) (orders : List Order) (due : List Bool) (goal : ℕ) (start : Pool D L) (place : ℕ) (now : Pool D L) : Type 0 where
  pub run : HasWritten m start now
  pub ready : (q : ℕ) → is_ordered now.graph q goal ≡ false
  pub due_out : (i : ℕ) → i < place → get_or due i false ≡ true → is_dirty now.dirty (order_at orders i).first ≡ false
  pub no_other : (page : ℕ) → taken_out start.dirty now.dirty page ≡ true → Precedes (is_ordered start.graph) page goal ⊎ LeadsToDue start.graph orders due page

pub due_skip : {D L : Type 0} (m : Meaning D) (orders : List Order) (due : List Bool) (goal : ℕ) (start now : Pool D L) (place : ℕ) → DueSoFar m orders due goal start place now → get_or due place false ≡ false → DueSoFar m orders due goal start (place + 1) now
due_skip m orders due goal start now place before out = record {
  run = before.run;
  ready = before.ready;
  due_out = λ i low marked. elim (cases_eq i place) [
    | inl e ↦ absurd (both_ways _ out (ap (λ (k : ℕ). get_or due k false) (sym e) ∙ marked))
    | inr apart ↦ before.due_out i (omega arith) marked
  ];
  no_other = before.no_other;
}

pub due_more : {D L : Type 0} (m : Meaning D) → Holds m → CountsNow m → (orders : List Order) (due : List Bool) (goal : ℕ) (start now next : Pool D L) (place first : ℕ) → DueSoFar m orders due goal start place now → get_or due place false ≡ true → place < length orders → first ≡ (order_at orders place).first → WritesWith m first now next → DueSoFar m orders due goal start (place + 1) next
due_more m holds counts orders due goal start now next place first before marked inside is with_ = record {
  run = run_then m holds counts start now next before.run with_.run;
  ready = λ q. with_.run.orders q goal ∙ rw (before.ready q) refl;
  due_out = λ i low there. elim (cases_eq i place) [
    | inl e ↦ rw (e, ← is) with_.goal_out
    | inr apart ↦ false_from_ne_true _ (λ back. both_ways _ (before.due_out i (omega arith) there) (with_.run.fewer _ back))
  ];
  no_other = λ page out. elim (taken_cases m start now next page out) [
    | inl was ↦ before.no_other page was
    | inr fresh ↦ inr (record {
      place = place;
      inside = inside;
      is_due = marked;
      leads = subst (λ (x : ℕ). IsOrPrecedes (is_ordered start.graph) page x) is (from page (with_.no_other page fresh));
    })
  ];
}
  where
    from : (page : ℕ) → IsOrPrecedes (is_ordered now.graph) page first → IsOrPrecedes (is_ordered start.graph) page first
    from page (inl e) = inl e
    from page (inr chain) = inr (run_precedes m start now before.run page first chain)

-- What one order wants, once it is marked which earlier orders are due.
module _ {D L : Type 0} (m : Meaning D) (old : Pool D L) (orders : List Order) (k : ℕ) (due : List Bool) (inside : k < length orders) (acyclic : (page : ℕ) → Precedes (lists orders) page page → ⊥) (is : IsDue old.graph orders k (order_at orders k).first due) where
  low : k ≤ length orders
  low = omega arith

  closes_from : Leads old.graph orders due (order_at orders k).later (order_at orders k).first → Precedes (joint old.graph (take k orders)) (order_at orders k).later (order_at orders k).first
  closes_from leads = elim (leads_sound old.graph orders k (order_at orders k).first due low is.sound (order_at orders k).later leads) [
    | inl e ↦ absurd (apart_at orders k inside acyclic e)
    | inr chain ↦ chain
  ]

  leads_from : Precedes (joint old.graph (take k orders)) (order_at orders k).later (order_at orders k).first → Leads old.graph orders due (order_at orders k).later (order_at orders k).first
  leads_from chain = elim (leads_to_goal old.graph orders k (order_at orders k).first due is low (order_at orders k).later chain) [
    | inl own ↦ inl (inr own)
    | inr to_due ↦ inr to_due
  ]

  pub settles_some : (new : Pool D L) → WritesDue m orders due (order_at orders k).first old new → Leads old.graph orders due (order_at orders k).later (order_at orders k).first → SettlesOrder m (take k orders) (order_at orders k) old new
  settles_some new writes leads = record {
    run = writes.run;
    written = λ closes p chain. goal_written m old new writes.run orders k (order_at orders k).first due is low writes p chain;
    no_other = λ p out. (closes_from leads, only_goal m old new writes.run orders k (order_at orders k).first due is low writes p out);
  }

  pub open_some : (new : Pool D L) → WritesDue m orders due (order_at orders k).first old new → IsOpen new.graph orders k
  open_some new writes chain = no_way_back orders k inside acyclic (listed_chain m old new writes.run (take k orders) (order_at orders k).first (goal_written m old new writes.run orders k (order_at orders k).first due is low writes) (order_at orders k).later chain)

  pub settles_no : IsPool m old → (Leads old.graph orders due (order_at orders k).later (order_at orders k).first → ⊥) → SettlesOrder m (take k orders) (order_at orders k) old old
  settles_no pool not_leads = record {
    run = run_starts m old pool;
    written = λ closes p chain. absurd (not_leads (leads_from closes));
    no_other = λ p out. absurd (none_taken_out old.dirty p out);
  }

  pub open_no : (Leads old.graph orders due (order_at orders k).later (order_at orders k).first → ⊥) → IsOpen old.graph orders k
  open_no not_leads chain = not_leads (leads_from chain)

-- The same, where the pages of the order were read.
module _ {D L : Type 0} (m : Meaning D) (old : Pool D L) (orders : List Order) (k : ℕ) (due : List Bool) (inside : k < length orders) (acyclic : (page : ℕ) → Precedes (lists orders) page page → ⊥) (first later : ℕ) (at_first : first ≡ (order_at orders k).first) (at_later : later ≡ (order_at orders k).later) (is : IsDue old.graph orders k first due) where
  is_at : IsDue old.graph orders k (order_at orders k).first due
  is_at = subst (λ (x : ℕ). IsDue old.graph orders k x due) at_first is

  leads_at : Leads old.graph orders due later first → Leads old.graph orders due (order_at orders k).later (order_at orders k).first
  leads_at leads = subst (λ (x : ℕ). Leads old.graph orders due x (order_at orders k).first) at_later (subst (λ (x : ℕ). Leads old.graph orders due later x) at_first leads)

  leads_read : Leads old.graph orders due (order_at orders k).later (order_at orders k).first → Leads old.graph orders due later first
  leads_read leads = subst (λ (x : ℕ). Leads old.graph orders due later x) (sym at_first) (subst (λ (x : ℕ). Leads old.graph orders due x (order_at orders k).first) (sym at_later) leads)

  writes_at : (new : Pool D L) → WritesDue m orders due first old new → WritesDue m orders due (order_at orders k).first old new
  writes_at new writes = subst (λ (x : ℕ). WritesDue m orders due x old new) at_first writes

  pub settled_some : (new : Pool D L) → WritesDue m orders due first old new → Leads old.graph orders due later first → SettlesOrder m (take k orders) (order_at orders k) old new
  settled_some new writes leads = settles_some m old orders k due inside acyclic is_at new (writes_at new writes) (leads_at leads)

  pub opened_some : (new : Pool D L) → WritesDue m orders due first old new → IsOpen new.graph orders k
  opened_some new writes = open_some m old orders k due inside acyclic is_at new (writes_at new writes)

  pub settled_no : IsPool m old → (Leads old.graph orders due later first → ⊥) → SettlesOrder m (take k orders) (order_at orders k) old old
  settled_no pool not_leads = settles_no m old orders k due inside acyclic is_at pool (λ leads. not_leads (leads_read leads))

  pub opened_no : (Leads old.graph orders due later first → ⊥) → IsOpen old.graph orders k
  opened_no not_leads = open_no m old orders k due inside acyclic is_at (λ leads. not_leads (leads_read leads))

-- One order alone.

nothing_listed : (graph : PageGraph) (p q : ℕ) → Precedes (joint graph []) p q → Precedes (is_ordered graph) p q
nothing_listed graph p q chain = precedes_in (joint graph []) (is_ordered graph) (λ a b o. at (is_ordered graph a b) o) p q chain
  where
    at : (x : Bool) → (x || false) ≡ true → x ≡ true
    at true o = refl
    at false o = o

pub one_settled : {D L : Type 0} (m : Meaning D) (old new : Pool D L) (first later : ℕ) → HasWritten m old new → later ≢ first → ((later ≡ first) ⊎ Precedes (is_ordered old.graph) later first) → ((q : ℕ) → is_ordered new.graph q first ≡ false) → ((p : ℕ) → taken_out old.dirty new.dirty p ≡ true → Precedes (is_ordered old.graph) p first) → SettlesOrder m [] (record { first = first; later = later }) old new
one_settled m old new first later run apart closes ready only = record {
  run = run;
  written = λ closing p chain. chain_ready m old new run first ready p first refl (nothing_listed old.graph p first chain);
  no_other = λ p out. (elim closes [ inl e ↦ absurd (apart e) | inr chain ↦ graph_in_joint old.graph [] later first chain ], graph_in_joint old.graph [] p first (only p out));
}

pub one_open : {D L : Type 0} (m : Meaning D) (old : Pool D L) (first later : ℕ) → IsPool m old → (Precedes (is_ordered old.graph) later first → ⊥) → SettlesOrder m [] (record { first = first; later = later }) old old
one_open m old first later pool not_closing = record {
  run = run_starts m old pool;
  written = λ closing p chain. absurd (not_closing (nothing_listed old.graph later first closing));
  no_other = λ p out. absurd (none_taken_out old.dirty p out);
}

-- a page number is its number
pub same_page : (a b : PageNo) → a.0 ≡ b.0 → a ≡ b
same_page a b e = ap page_no e
  where
    page_no : ℕ → PageNo
    page_no n = record { 0 = n }
