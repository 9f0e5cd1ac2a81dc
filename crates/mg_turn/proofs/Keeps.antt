-- The rule after a step of one seat which changes no family.
use Rattle.std.proofs.Common.{◌≡◌, ◌≢◌, ◌⊎◌, ℕ, ◌+◌, ◌<◌, ◌≤◌, List, length, set, slice_index, sym, refl, ap, ◌∙◌, subst, inl, inr, ⊎_elim, length-set, arith}
use mathlib.Core.Option.{some, some-injective, some-ne-none}
use mathlib.Core.Option as maybe
use mathlib.Core.Logic.{dite}
use native.Mathlib.Decide.{ℕ_discrete}
use lib.ListN.{get_elem?}
use lib.Seq.{set-get_or}
use Rattle.atomic_table.specs.Table.{State}
use Rattle.atomic_table.proofs.Lists.{at_set, set_here, set_else, set_again}
use Rattle.mg_turn.specs.declared.rule.Entry.{Entry}
use Rattle.mg_turn.specs.declared.rule.Slot.{Slot}
use Rattle.mg_turn.specs.declared.rule.View.{View}
use Rattle.mg_turn.specs.declared.served.End.{End}
use Rattle.mg_turn.specs.Histories.{Has, calls_by, EndIn, Leads}
use Rattle.mg_turn.specs.Keeping.{Shows, Lives, IsTied, FitsIn, Kept}
use Rattle.mg_turn.proofs.Lists.{at_in, same_at, Begins, begins_on, end_later}
use Rattle.mg_turn.proofs.Families.{children_same, lives_still, gathered_still, covered_still}

module _ {V C R : Type 0} (answers : V → C → R → V → Type 0) (ends : C → R → ℕ → End → Type 0) (from : V) (start : ℕ) where
  abbrev S : Type 0
  S = Slot V C R

  abbrev W : Type 0
  W = View V C R

  abbrev E : Type 0
  E = Entry C R

  abbrev St : Type 0
  St = State S W

  abbrev pub Rule : St → Type 0
  Rule = Kept answers ends from start

  abbrev pub Fits : List ℕ → List E → ℕ → W → Type 0
  Fits = FitsIn answers ends from start

  -- what another seat knows after a step
  pub fits_on : (words words' : List ℕ) (log log' : List E) (j : ℕ) (u : W) → Fits words log j u
      → (0 < u.phase → (slice_index words' 1 ≤ u.number) × (u.number < slice_index words' 0))
      → (u.phase ≡ 2 → (u.number ≡ slice_index words' 1) × (u.seen ≡ log'))
      → Begins log' log → calls_by (j + 1) log' ≡ calls_by (j + 1) log
      → ((t : ℕ) (end : End) → Shows words start t end → Shows words' start t end)
      → Fits words' log' j u
  fits_on words words' log log' j u f waits has begins own shows = record {
    opening = f.opening;
    start_is = f.start_is;
    name = f.name;
    seen = begins_on log' log u.seen begins f.seen;
    own = own ∙ f.own;
    waits = waits;
    has = has;
    known = λ t end k. let q = f.known t end k in (q.0, shows t end q.1, end_later ends log' log t end begins q.2);
  }

  pub tied_on : (vs : List W) (id : ℕ) (v w : W) (log log' : List E) (j : ℕ) (u : W) → get_elem? vs id ≡ some v → 0 < v.live → 0 < w.live → w.parent ≡ v.parent
      → ((n : ℕ) → n ≢ id → calls_by (n + 1) log' ≡ calls_by (n + 1) log) → IsTied vs log j u → IsTied (set vs id w) log' j u
  tied_on vs id v w log log' j u at live lives same others it = record {
    gathered = λ g h. gathered_still vs id v w log log' g at live others (it.gathered g h);
    children = it.children ∙ sym (children_same (j + 1) vs id v w at same);
    parent = ⊎_elim (λ (r : (j ≡ 0) × (u.parent ≡ 0)). inl r)
        (λ (r : (p : ℕ) × (u.parent ≡ p + 1) × (p < j) × Lives vs p). inr (r.0, r.1, r.2, lives_still vs id w r.0 (at_in vs id v at) lives r.3)) it.parent;
  }

  -- the rule after a step of the seat id
  pub build : (s : St) (h : Rule s) (id : ℕ) (v w : W) → get_elem? s.views id ≡ some v → 0 < v.live → w.live ≡ v.live → w.parent ≡ v.parent → w.children ≡ v.children → w.gathered ≡ v.gathered
      → (words' : List ℕ) (homes' : List (maybe.Option S)) (log' : List E)
      → length words' ≡ 65538 → slice_index words' 1 ≤ slice_index words' 0
      → ((x : S) → get_elem? homes' 0 ≡ some (some x) → Leads answers from log' x.value)
      → (((x : S) × (get_elem? homes' 0 ≡ some (some x))) ⊎ ((j : ℕ) × (u : W) × (get_elem? (set s.views id w) j ≡ some u) × (u.phase ≡ 2)))
      → ((j : ℕ) (u : W) → j ≢ id → get_elem? s.views j ≡ some u → 0 < u.live → Fits words' log' j u)
      → Fits words' log' id w
      → ((j : ℕ) (u : W) → j ≢ id → get_elem? s.views j ≡ some u → 0 < u.phase → 0 < w.phase → w.number ≢ u.number)
      → ((n : ℕ) → n ≢ id → calls_by (n + 1) log' ≡ calls_by (n + 1) h.log)
      → ((e : E) → Has e log' → Has e h.log ⊎ (e.by ≡ id + 1))
      → ((j : ℕ) × (u : W) × (get_elem? (set s.views id w) j ≡ some u) × (0 < u.live) × (u.seen ≡ log'))
      → ((t : ℕ) (end : End) → start ≤ t → Shows words' start t end → EndIn ends log' t end)
      → Rule record { words = words'; homes = homes'; views = set s.views id w }
  build s h id v w at live lives parent children gathered words' homes' log' size order home out others mine apart own fresh latest shown =
      let lives' : 0 < w.live = omega arith in record {
        log = log';
        size = size;
        order = order;
        home = home;
        out = out;
        fits = λ j u e l. ⊎_elim
            (λ (x : (j ≡ id) × (w ≡ u)). subst (λ (y : ℕ × W). Fits words' log' y.0 y.1) (λ i. (sym x.0 i, x.1 i)) mine)
            (λ (x : (j ≢ id) × (get_elem? s.views j ≡ some u)). others j u x.0 x.1 l)
            (at_set s.views id j w u e);
        tied = λ j u e l. ⊎_elim
            (λ (x : (j ≡ id) × (w ≡ u)).
            let it : IsTied s.views h.log id v = h.tied id v at live in
            let own_tie : IsTied (set s.views id w) log' id w = let q = tied_on s.views id v w h.log log' id v at live lives' parent own it in record {
              gathered = λ g k. q.gathered g (subst (Has g) gathered k);
              children = children ∙ q.children;
              parent = ⊎_elim (λ (r : (id ≡ 0) × (v.parent ≡ 0)). inl (r.0, parent ∙ r.1))
                  (λ (r : (p : ℕ) × (v.parent ≡ p + 1) × (p < id) × Lives (set s.views id w) p). inr (r.0, parent ∙ r.1, r.2, r.3)) q.parent;
            } in
            subst (λ (y : ℕ × W). IsTied (set s.views id w) log' y.0 y.1) (λ i. (sym x.0 i, x.1 i)) own_tie)
            (λ (x : (j ≢ id) × (get_elem? s.views j ≡ some u)). tied_on s.views id v w h.log log' j u at live lives' parent own (h.tied j u x.1 l))
            (at_set s.views id j w u e);
        apart = λ i j u y e f ne pu py. ⊎_elim
            (λ (a : (i ≡ id) × (w ≡ u)). ⊎_elim
            (λ (b : (j ≡ id) × (w ≡ y)). absurd (ne (a.0 ∙ sym b.0)))
            (λ (b : (j ≢ id) × (get_elem? s.views j ≡ some y)). subst (λ (z : W). z.number ≢ y.number) a.1 (apart j y b.0 b.1 py (subst (λ (z : W). 0 < z.phase) (sym a.1) pu)))
            (at_set s.views id j w y f))
            (λ (a : (i ≢ id) × (get_elem? s.views i ≡ some u)). ⊎_elim
            (λ (b : (j ≡ id) × (w ≡ y)). λ q. apart i u a.0 a.1 pu (subst (λ (z : W). 0 < z.phase) (sym b.1) py) (ap (λ (z : W). z.number) b.1 ∙ sym q))
            (λ (b : (j ≢ id) × (get_elem? s.views j ≡ some y)). h.apart i j u y a.1 b.1 ne pu py)
            (at_set s.views id j w y f))
            (at_set s.views id i w u e);
        spent = λ j u e gone. ⊎_elim
            (λ (x : (j ≡ id) × (w ≡ u)). absurd (let q = ap (λ (z : W). z.live) x.1 in omega arith))
            (λ (x : (j ≢ id) × (get_elem? s.views j ≡ some u)). h.spent j u x.1 gone)
            (at_set s.views id j w u e);
        latest = latest;
        covered = λ e k. ⊎_elim
            (λ (x : Has e h.log). covered_still s.views id v w e.by at lives' gathered (h.covered e x))
            (λ (x : e.by ≡ id + 1). (id, w, set_here s.views id w (at_in s.views id v at), lives', inl x))
            (fresh e k);
        strangers = λ j l.
            let l' : length s.views ≤ j = subst (λ (k : ℕ). k ≤ j) (length-set s.views id w) l in
            own j (λ e. (let q = at_in s.views id v at in omega arith)) ∙ h.strangers j l';
        shown = shown;
      }

  -- a step that leaves the words as they are
  pub again : (s : St) (i id : ℕ) (homes' : List (maybe.Option S)) (w : W) → Rule record { words = s.words; homes = homes'; views = set s.views id w }
      → Rule record { words = set s.words i (slice_index s.words i); homes = homes'; views = set s.views id w }
  again s i id homes' w r = subst (λ (ws : List ℕ). Rule record { words = ws; homes = homes'; views = set s.views id w }) (sym (set-get_or s.words i 0)) r

  -- a step that changes nothing
  pub unmoved : (s : St) (h : Rule s) (i id : ℕ) (v : W) → get_elem? s.views id ≡ some v
      → Rule record { words = set s.words i (slice_index s.words i); homes = s.homes; views = set s.views id v }
  unmoved s h i id v at = again s i id s.homes v (subst (λ (vs : List W). Rule record { words = s.words; homes = s.homes; views = vs }) (sym (set_again s.views id v at)) h)

  -- the seat with the value is another than one at rest
  pub out_still : (s : St) (id : ℕ) (v w : W) → get_elem? s.views id ≡ some v → v.phase ≡ 0
      → (((x : S) × (get_elem? s.homes 0 ≡ some (some x))) ⊎ ((j : ℕ) × (u : W) × (get_elem? s.views j ≡ some u) × (u.phase ≡ 2)))
      → (((x : S) × (get_elem? s.homes 0 ≡ some (some x))) ⊎ ((j : ℕ) × (u : W) × (get_elem? (set s.views id w) j ≡ some u) × (u.phase ≡ 2)))
  out_still s id v w at rest out = ⊎_elim (λ (x : (x : S) × (get_elem? s.homes 0 ≡ some (some x))). inl x)
      (λ (x : (j : ℕ) × (u : W) × (get_elem? s.views j ≡ some u) × (u.phase ≡ 2)).
      let apart : x.0 ≢ id = λ e. (let q = ap (λ (u : W). u.phase) (same_at s.views id v x.1 at (subst (λ (k : ℕ). get_elem? s.views k ≡ some x.1) e x.2)) in let two = x.3 in omega arith) in
      inr (x.0, x.1, set_else s.views id x.0 w apart ∙ x.2, x.3)) out

  -- some seat has seen all, also where one's view changes which has seen as much as before
  pub latest_still : (vs : List W) (log : List E) (id : ℕ) (v w : W) → get_elem? vs id ≡ some v → 0 < w.live → w.seen ≡ v.seen
      → ((j : ℕ) × (u : W) × (get_elem? vs j ≡ some u) × (0 < u.live) × (u.seen ≡ log))
      → ((j : ℕ) × (u : W) × (get_elem? (set vs id w) j ≡ some u) × (0 < u.live) × (u.seen ≡ log))
  latest_still vs log id v w at live same x = dite (ℕ_discrete x.0 id)
      (λ e. (
        id,
        w,
        set_here vs id w (at_in vs id v at),
        live,
        same ∙ ap (λ (u : W). u.seen) (same_at vs id v x.1 at (subst (λ (k : ℕ). get_elem? vs k ≡ some x.1) e x.2)) ∙ x.4,
      ))
      (λ ne. (x.0, x.1, set_else vs id x.0 w ne ∙ x.2, x.3, x.4))

  -- a step at rest that changes only what the seat itself knows
  pub quiet : (s : St) (h : Rule s) (id : ℕ) (v w : W) → get_elem? s.views id ≡ some v → 0 < v.live → w.live ≡ v.live → w.parent ≡ v.parent → w.children ≡ v.children → w.gathered ≡ v.gathered
      → v.phase ≡ 0 → w.phase ≡ 0 → w.seen ≡ v.seen → Fits s.words h.log id w
      → Rule record { words = s.words; homes = s.homes; views = set s.views id w }
  quiet s h id v w at live lives parent children gathered rest rests seen mine = build s h id v w at live lives parent children gathered s.words s.homes h.log h.size h.order h.home
      (out_still s id v w at rest h.out)
      (λ j u ne e l. h.fits j u e l)
      mine
      (λ j u ne e p q. absurd (omega arith))
      (λ n ne. refl)
      (λ e k. inl k)
      (latest_still s.views h.log id v w at (omega arith) seen h.latest)
      h.shown
