-- Each step keeps the rule of the table.
use Rattle.std.proofs.Common.{◌≡◌, ◌≢◌, ◌⊎◌, ℕ, zero, suc, ◌+◌, ◌-◌, ◌<◌, ◌≤◌, eqb, List, [], ◌∷◌, length, set, get_or, slice_index, bit_or, Option, Some, None, IfNone, sym, refl, ap, ◌∙◌, subst, inl, inr, ⊎_elim, length-set, get_or-set_other, get_or-set_same, arith}
use mathlib.Core.Option.{none, some, some-injective, some-ne-none}
use mathlib.Core.Option as maybe
use mathlib.Core.Logic.{dite}
use native.Mathlib.Decide.{ℕ_discrete}
use lib.ListN.{get_elem?}
use prog.Atomic.{either}
use Rattle.std.specs.Int.{bit_at}
use Rattle.atomic_table.specs.Table.{State, Me, step, Act, keeps, takes, gives, stepped, carried_after, Valid, Allows}
use Rattle.atomic_table.proofs.Lists.{set_here, exchanged}
use Rattle.mg_turn.specs.declared.rule.Deed.{Deed}
use Rattle.mg_turn.specs.declared.rule.Entry.{Entry}
use Rattle.mg_turn.specs.declared.rule.Slot.{Slot}
use Rattle.mg_turn.specs.declared.rule.View.{View}
use Rattle.mg_turn.specs.declared.served.End.{End}
use Rattle.mg_turn.specs.Histories.{Has, entry, calls_by, EndIn, Leads}
use Rattle.mg_turn.specs.Keeping.{Shows}
use Rattle.mg_turn.specs.Views.{named, waiting, holding, served_one, knowing}
use Rattle.mg_turn.specs.Tells.{bit_of, mask_of, end_in, Names, Draws, Looks, Passes, Posts, Finds, known_after, IsOpen}
use Rattle.mg_turn.proofs.Bits.{mask_injective, posted_bits, posted_stays, posted_here, told_shows, none_shows}
use Rattle.mg_turn.proofs.Keeps.{Rule, fits_on, build, again, unmoved, out_still, latest_still, quiet}
use Rattle.mg_turn.proofs.Lists.{at_in, same_at, Begins, calls_same, calls_else, end_later}

zero_or : (n : ℕ) → (n ≡ 0) ⊎ (0 < n)
zero_or zero = inl refl
zero_or (suc n) = inr (omega arith)

-- the word of an end stands behind the first two
behind : (i : ℕ) → (2 + i) - 2 ≡ i
behind i = omega arith

module _ {V C R : Type 0} (answers : V → C → R → V → Type 0) (ends : C → R → ℕ → End → Type 0) (from : V) (start : ℕ) where
  abbrev S : Type 0
  S = Slot V C R

  abbrev W : Type 0
  W = View V C R

  abbrev E : Type 0
  E = Entry C R

  abbrev St : Type 0
  St = State S W

  abbrev M : Type 0
  M = Me S W

  abbrev Law : St → Type 0
  Law = Rule answers ends from start

  -- a seat that waits or has the value lives
  alive : (s : St) (h : Law s) (j : ℕ) (u : W) → get_elem? s.views j ≡ some u → 0 < u.phase → 0 < u.live
  alive s h j u at p = ⊎_elim (λ (z : u.live ≡ 0). absurd (let q = (h.spent j u at z).0 in omega arith)) (λ (l : 0 < u.live). l) (zero_or u.live)

  pub names : (id : ℕ) (me : M) → 0 < me.0.live → me.0.name ≡ 0 → me.0.phase ≡ 0 → Allows Law 1 id me 0 (λ n. n) (Names (step 1 0 0 0 none) me)
  names id me live nameless rest s h len at small =
      let v : W = me.0 in
      let w : W = named (id + 1) v in
      let f = h.fits id v at live in (
        w,
        keeps,
        tt,
        again answers ends from start s 0 id s.homes w (quiet answers ends from start s h id v w at live refl refl refl refl rest rest refl
            record { opening = f.opening; start_is = f.start_is; name = λ _. refl; seen = f.seen; own = f.own; waits = f.waits; has = f.has; known = f.known }),
        (id + 1, omega arith, refl),
      )

  -- words of which the first or the second changes
  shows_still : (words : List ℕ) (i x : ℕ) → i < 2 → (t : ℕ) (end : End) → Shows words start t end → Shows (set words i x) start t end
  shows_still words i x l t end h = ap (λ (n : ℕ). bit_at n (bit_of end)) (get_or-set_other words i (2 + (t - start)) x 0 (λ e. omega arith)) ∙ h

  shows_before : (words : List ℕ) (i x : ℕ) → i < 2 → (t : ℕ) (end : End) → Shows (set words i x) start t end → Shows words start t end
  shows_before words i x l t end h = ap (λ (n : ℕ). bit_at n (bit_of end)) (sym (get_or-set_other words i (2 + (t - start)) x 0 (λ e. omega arith))) ∙ h

  pub draws : (id : ℕ) (me : M) → 0 < me.0.live → me.0.phase ≡ 0 → (old : ℕ) → Allows Law 1 id me 0 (λ n. either (eqb n old) (old + 1) n) (Draws (step 1 0 old (old + 1) none) me)
  draws id me live rest old s h len at small =
      let T : ℕ = slice_index s.words 0 in
      let v : W = me.0 in
      let w : W = waiting old v in
      let f = h.fits id v at live in
      exchanged T old (old + 1) (λ x. (w : W) × (a : Act S) × Valid s.homes me.1 a × Law (stepped s 0 x id me.1 w a) × Draws (step 1 0 old (old + 1) none) me T (w, carried_after me.1 a))
      (λ e.
      let words' : List ℕ = set s.words 0 (old + 1) in
      let zeroth : get_or words' 0 0 ≡ old + 1 = get_or-set_same s.words 0 (old + 1) 0 (let q = h.size in omega arith) in
      let first_ : get_or words' 1 0 ≡ get_or s.words 1 0 = get_or-set_other s.words 0 1 (old + 1) 0 (λ q. omega arith) in
      let order : get_or s.words 1 0 ≤ get_or s.words 0 0 = h.order in
      let is : get_or s.words 0 0 ≡ old = e in (
        w,
        keeps,
        tt,
        build answers ends from start s h id v w at live refl refl refl refl words' s.homes h.log
            (length-set s.words 0 (old + 1) ∙ h.size)
            (omega arith)
            h.home
            (out_still answers ends from start s id v w at rest h.out)
            (λ j u ne g l. let k = h.fits j u g l in fits_on answers ends from start s.words words' h.log h.log j u k
            (λ p. let q = k.waits p in let a : get_or s.words 1 0 ≤ u.number = q.0 in let b : u.number < get_or s.words 0 0 = q.1 in (omega arith, omega arith))
            (λ p. let q = k.has p in (q.0 ∙ sym first_, q.1)) ([], refl) refl (shows_still s.words 0 (old + 1) (omega arith)))
            record {
              opening = f.opening;
              start_is = f.start_is;
              name = f.name;
              seen = f.seen;
              own = f.own;
              waits = λ _. (omega arith, omega arith);
              has = λ p. absurd (omega arith);
              known = λ t end k. let q = f.known t end k in (q.0, shows_still s.words 0 (old + 1) (omega arith) t end q.1, q.2);
            }
            (λ j u ne g p _ q. let k = (h.fits j u g (alive s h j u g p)).waits p in let b : u.number < get_or s.words 0 0 = k.1 in omega arith)
            (λ n ne. refl)
            (λ g k. inl k)
            (latest_still answers ends from start s.views h.log id v w at live refl h.latest)
            (λ t end l k. h.shown t end l (shows_before s.words 0 (old + 1) (omega arith) t end k)),
        ((λ _. refl), (λ ne. absurd (ne e))),
      ))
      (λ ne. (v, keeps, tt, unmoved answers ends from start s h 0 id v at, ((λ e. absurd (ne e)), λ _. refl)))

  gone_home : (l : List (maybe.Option S)) (x : S) → get_elem? (set l 0 none) 0 ≡ some (some x) → ⊥
  gone_home [] x e = some-ne-none (some x) (sym e)
  gone_home (y ∷ ys) x e = some-ne-none x (sym (some-injective none (some x) e))

  pub looks : (id : ℕ) (me : M) → 0 < me.0.live → me.0.phase ≡ 1 → Allows Law 1 id me 1 (λ n. n) (Looks answers ends (step 1 1 0 0 none) me)
  looks id me live waiting_ s h len at small =
      let N : ℕ = slice_index s.words 1 in
      let v : W = me.0 in
      let f = h.fits id v at live in
      let one : 0 < v.phase = omega arith in
      dite (ℕ_discrete N v.number)
      (λ e.
      let there : (x : S) × (get_elem? s.homes 0 ≡ some (some x)) = ⊎_elim
      (λ (t : (x : S) × (get_elem? s.homes 0 ≡ some (some x))). t)
      (λ (t : (j : ℕ) × (u : W) × (get_elem? s.views j ≡ some u) × (u.phase ≡ 2)).
      let two = t.3 in
      let p : 0 < t.1.phase = omega arith in
      let apart : t.0 ≢ id = λ q. (let z = ap (λ (r : W). r.phase) (same_at s.views id v t.1 at (subst (λ (k : ℕ). get_elem? s.views k ≡ some t.1) q t.2)) in omega arith) in
      absurd (h.apart id t.0 v t.1 at t.2 (λ q. apart (sym q)) one p (sym e ∙ sym ((h.fits t.0 t.1 t.2 (alive s h t.0 t.1 t.2 p)).has t.3).0)))
      h.out in
      let w : W = holding h.log v in (
        w,
        takes 0 there.0,
        there.1,
        again answers ends from start s 1 id (set s.homes 0 none) w (build answers ends from start s h id v w at live refl refl refl refl s.words (set s.homes 0 none) h.log
            h.size
            h.order
            (λ x g. absurd (gone_home s.homes x g))
            (inr (id, w, set_here s.views id w (at_in s.views id v at), refl))
            (λ j u ne g l. h.fits j u g l)
            record { opening = f.opening; start_is = f.start_is; name = f.name; seen = ([], refl); own = f.own; waits = λ _. f.waits one; has = λ _. (sym e, refl); known = f.known }
            (λ j u ne g p _. h.apart id j v u at g (λ q. ne (sym q)) one p)
            (λ n ne. refl)
            (λ g k. inl k)
            (id, w, set_here s.views id w (at_in s.views id v at), live, refl)
            h.shown),
        ((λ _. (h.log, there.0, refl, record { seen = f.seen; legal = (from, f.opening, h.home there.0 there.1); known = λ t end k. (f.known t end k).2; own = λ p. ap (λ (k : ℕ). calls_by k h.log) (f.name p) ∙ f.own })), λ ne. absurd (ne e)),
      ))
      (λ ne. (v, keeps, tt, unmoved answers ends from start s h 1 id v at, ((λ e. absurd (ne e)), λ _. refl)))

  set_home : (l : List (maybe.Option S)) (x y : S) → 0 < length l → get_elem? (set l 0 (some x)) 0 ≡ some (some y) → x ≡ y
  set_home [] x y l e = absurd (omega arith)
  set_home (z ∷ zs) x y l e = some-injective x y (some-injective (some x) (some y) e)

  set_home_here : (l : List (maybe.Option S)) (x : S) → 0 < length l → get_elem? (set l 0 (some x)) 0 ≡ some (some x)
  set_home_here [] x l = absurd (omega arith)
  set_home_here (z ∷ zs) x l = refl

  some_same : {A : Type 0} (x y : A) → Some x ≡ Some y → x ≡ y
  some_same {A} x y e = ap (λ (o : Option A). or_else o x) e
    where
      or_else : {A : Type 0} → Option A → A → A
      or_else None d = d
      or_else (Some z) d = z

  pub passes : (id : ℕ) (v : W) (x : S) (d : Deed C R) → 0 < v.live → v.phase ≡ 2 → 0 < v.name → x.last ≡ Some d → v.from ≡ Some from
      → Leads answers from (entry v.name d.call.value d.reply.value ∷ v.seen) x.value
      → Allows Law 1 id (v, (0, x) ∷ []) 1 (λ _. v.number + 1) (λ _. Passes (step 1 1 (v.number + 1) 0 none) (v, (0, x) ∷ []) (v.number + 1))
  passes id v x d live two named_ last opening_ leads s h len at small =
      let f = h.fits id v at live in
      let had = f.has two in
      let w : W = served_one d.call.value d.reply.value v in
      let e : E = entry v.name d.call.value d.reply.value in
      let mine : v.name ≡ id + 1 = f.name named_ in
      let p : 0 < v.phase = omega arith in
      let N : ℕ = slice_index s.words 1 in
      let is : v.number ≡ N = had.0 in
      let words' : List ℕ = set s.words 1 (v.number + 1) in
      let zeroth : get_or words' 0 0 ≡ get_or s.words 0 0 = get_or-set_other s.words 1 0 (v.number + 1) 0 (λ q. omega arith) in
      let first_ : get_or words' 1 0 ≡ v.number + 1 = get_or-set_same s.words 1 (v.number + 1) 0 (let q = h.size in omega arith) in
      let less : v.number < get_or s.words 0 0 = (f.waits p).1 in
      let longer_by_one : Begins (e ∷ v.seen) h.log = (e ∷ [], ap (λ l. e ∷ l) had.1) in
      let own : (n : ℕ) → n ≢ id → calls_by (n + 1) (e ∷ v.seen) ≡ calls_by (n + 1) h.log = λ n ne. calls_else (n + 1) e v.seen (λ q. (let z : v.name ≡ n + 1 = q in ne (omega arith))) ∙ ap (calls_by (n + 1)) had.1 in (
        w,
        gives,
        tt,
        build answers ends from start s h id v w at live refl refl refl refl words' (set s.homes 0 (some x)) (e ∷ v.seen)
            (length-set s.words 1 (v.number + 1) ∙ h.size)
            (omega arith)
            (λ y g. subst (λ (z : S). Leads answers from (e ∷ v.seen) z.value) (set_home s.homes x y (omega arith) g) leads)
            (inl (x, set_home_here s.homes x (omega arith)))
            (λ j u ne g l. let k = h.fits j u g l in fits_on answers ends from start s.words words' h.log (e ∷ v.seen) j u k
            (λ q. let r = k.waits q in let a : N ≤ u.number = r.0 in let b : u.number < get_or s.words 0 0 = r.1 in
            let c : v.number ≢ u.number = h.apart id j v u at g (λ z. ne (sym z)) p q in (omega (arith, c), omega arith))
            (λ q. absurd (h.apart id j v u at g (λ z. ne (sym z)) p (let z = q in omega arith) (is ∙ sym (k.has q).0)))
            longer_by_one
            (own j ne)
            (shows_still s.words 1 (v.number + 1) (omega arith)))
            record {
              opening = f.opening;
              start_is = f.start_is;
              name = f.name;
              seen = ([], refl);
              own = calls_same (id + 1) e v.seen mine ∙ ap (λ l. e ∷ calls_by (id + 1) l) had.1 ∙ ap (λ l. e ∷ l) f.own;
              waits = λ q. absurd (omega arith);
              has = λ q. absurd (omega arith);
              known = λ t end k. let q = f.known t end k in (q.0, shows_still s.words 1 (v.number + 1) (omega arith) t end q.1, end_later ends (e ∷ v.seen) h.log t end longer_by_one q.2);
            }
            (λ j u ne g q r. absurd (omega arith))
            own
            (λ g k. ⊎_elim (λ (z : g ≡ e). inr (ap (λ (y : E). y.by) z ∙ mine)) (λ (z : Has g v.seen). inl (subst (Has g) had.1 z)) k)
            (id, w, set_here s.views id w (at_in s.views id v at), live, refl)
            (λ t end l k. end_later ends (e ∷ v.seen) h.log t end longer_by_one (h.shown t end l (shows_before s.words 1 (v.number + 1) (omega arith) t end k))),
        (λ y c one_ last_.
            let same_x : x ≡ y = ap (λ (l : List (ℕ × S)). (head_or l (0, x)).1) one_ in
            let same_d : d ≡ c = some_same d c (sym last ∙ (ap (λ (z : S). z.last) same_x ∙ last_)) in
            ap (λ (z : Deed C R). (served_one z.call.value z.reply.value v, [])) same_d),
      )
    where
      head_or : {A : Type 0} → List A → A → A
      head_or [] a = a
      head_or (b ∷ bs) a = b

  -- the same of a seat with the slot
  pub passes_at : (id : ℕ) (me : M) (x : S) (d : Deed C R) (opened : V) (number : ℕ) → 0 < me.0.live → me.0.phase ≡ 2 → 0 < me.0.name → me.0.number ≡ number → me.1 ≡ (0, x) ∷ [] → x.last ≡ Some d → me.0.from ≡ Some opened
      → Leads answers opened (entry me.0.name d.call.value d.reply.value ∷ me.0.seen) x.value
      → Allows Law 1 id me 1 (λ _. number + 1) (λ _. Passes (step 1 1 (number + 1) 0 none) me (number + 1))
  passes_at id me x d opened number live two named_ is carried last opening_ leads s h len at =
      let f = h.fits id me.0 at live in
      let same : opened ≡ from = some_same opened from (sym opening_ ∙ f.opening) in
      subst (λ (z : ℕ × M). slice_index s.words 1 < 18446744073709551616 → (w : W) × (a : Act S) × Valid s.homes z.1.1 a × Law (stepped s 1 (z.0 + 1) id z.1.1 w a) × Passes (step 1 1 (z.0 + 1) 0 none) z.1 (z.0 + 1) (w, carried_after z.1.1 a)) (λ i. (is i, (me.0, sym carried i)))
      (passes id me.0 x d live two named_ last f.opening (subst (λ (z : V). Leads answers z (entry me.0.name d.call.value d.reply.value ∷ me.0.seen) x.value) same leads) s h len at)

  pub posts : (id : ℕ) (me : M) → 0 < me.0.live → me.0.phase ≡ 0 → (i : ℕ) → i < 65536 → (end : End) → EndIn ends me.0.seen (me.0.start + i) end
      → Allows Law 1 id me (2 + i) (λ n. bit_or n (mask_of end)) (Posts (step 1 (2 + i) (mask_of end) 0 none) me)
  posts id me live rest i inside end ended s h len at small =
      let v : W = me.0 in
      let f = h.fits id v at live in
      let w : W = knowing (v.start + i) end v in
      let n : ℕ = slice_index s.words (2 + i) in
      let words' : List ℕ = set s.words (2 + i) (bit_or n (mask_of end)) in
      let here : get_or words' (2 + i) 0 ≡ bit_or n (mask_of end) = get_or-set_same s.words (2 + i) (bit_or n (mask_of end)) 0 (let q = h.size in omega arith) in
      let zeroth : get_or words' 0 0 ≡ get_or s.words 0 0 = get_or-set_other s.words (2 + i) 0 (bit_or n (mask_of end)) 0 (λ q. omega arith) in
      let first_ : get_or words' 1 0 ≡ get_or s.words 1 0 = get_or-set_other s.words (2 + i) 1 (bit_or n (mask_of end)) 0 (λ q. omega arith) in
      let order : get_or s.words 1 0 ≤ get_or s.words 0 0 = h.order in
      let now : EndIn ends h.log (v.start + i) end = end_later ends h.log v.seen (v.start + i) end f.seen ended in
      let shows : (t : ℕ) (other : End) → Shows s.words start t other → Shows words' start t other = λ t other k. dite (ℕ_discrete (t - start) i)
      (λ e. ap (λ (j : ℕ). bit_at (get_or words' (2 + j) 0) (bit_of other)) e ∙ (ap (λ (m : ℕ). bit_at m (bit_of other)) here ∙ posted_stays n end other (ap (λ (j : ℕ). bit_at (get_or s.words (2 + j) 0) (bit_of other)) (sym e) ∙ k)))
      (λ ne. ap (λ (m : ℕ). bit_at m (bit_of other)) (get_or-set_other s.words (2 + i) (2 + (t - start)) (bit_or n (mask_of end)) 0 (λ q. ne (omega arith))) ∙ k) in (
        w,
        keeps,
        tt,
        build answers ends from start s h id v w at live refl refl refl refl words' s.homes h.log
            (length-set s.words (2 + i) (bit_or n (mask_of end)) ∙ h.size)
            (omega arith)
            h.home
            (out_still answers ends from start s id v w at rest h.out)
            (λ j u ne g l. let k = h.fits j u g l in fits_on answers ends from start s.words words' h.log h.log j u k
            (λ p. let q = k.waits p in let a : get_or s.words 1 0 ≤ u.number = q.0 in let b : u.number < get_or s.words 0 0 = q.1 in (omega arith, omega arith))
            (λ p. let q = k.has p in (q.0 ∙ sym first_, q.1)) ([], refl) refl shows)
            record {
              opening = f.opening;
              start_is = f.start_is;
              name = f.name;
              seen = f.seen;
              own = f.own;
              waits = λ p. absurd (omega arith);
              has = λ p. absurd (omega arith);
              known = λ t other k. ⊎_elim
                  (λ (z : (t, other) ≡ (v.start + i, end)).
                  let st : v.start ≡ start = f.start_is in
                  let is : t ≡ v.start + i = ap (λ (y : ℕ × End). y.0) z in
                  let off : t - start ≡ i = omega arith in (
                    omega arith,
                    subst (λ (y : End). Shows words' start t y) (sym (ap (λ (y : ℕ × End). y.1) z)) (ap (λ (j : ℕ). bit_at (get_or words' (2 + j) 0) (bit_of end)) off ∙ (ap (λ (m : ℕ). bit_at m (bit_of end)) here ∙ posted_here n end)),
                    subst (λ (y : ℕ × End). EndIn ends h.log y.0 y.1) (sym z) now,
                  ))
                  (λ (z : Has (t, other) v.known). let q = f.known t other z in (q.0, shows t other q.1, q.2)) k;
            }
            (λ j u ne g p q. absurd (omega arith))
            (λ m ne. refl)
            (λ g k. inl k)
            (latest_still answers ends from start s.views h.log id v w at live refl h.latest)
            (λ t other l k. dite (ℕ_discrete (t - start) i)
            (λ e.
            let st : v.start ≡ start = f.start_is in
            let is : t ≡ v.start + i = omega arith in
            ⊎_elim (λ (z : end ≡ other). subst (λ (y : ℕ × End). EndIn ends h.log y.0 y.1) (λ c. (sym is c, z c)) now)
            (λ (z : bit_at n (bit_of other) ≡ 1). h.shown t other l (ap (λ (j : ℕ). bit_at (get_or s.words (2 + j) 0) (bit_of other)) e ∙ z))
            (posted_bits n end other (sym (ap (λ (m : ℕ). bit_at m (bit_of other)) here) ∙ (ap (λ (j : ℕ). bit_at (get_or words' (2 + j) 0) (bit_of other)) (sym e) ∙ k))))
            (λ ne. h.shown t other l (ap (λ (m : ℕ). bit_at m (bit_of other)) (sym (get_or-set_other s.words (2 + i) (2 + (t - start)) (bit_or n (mask_of end)) 0 (λ q. ne (omega arith)))) ∙ k))),
        (λ other same. ap (λ (y : ℕ × End). (knowing y.0 y.1 v, me.1)) (λ c. (v.start + sym (behind i) c, mask_injective end other same c))),
      )

  pub none_open : (r : Option End) (n : ℕ) → r ≡ end_in n → (u t : ℕ) → u ≡ t → (v : W) → (end_in n ≡ None → IsOpen u v) → IfNone r (IsOpen t v)
  none_open None n e u t same v h = subst (λ (k : ℕ). IsOpen k v) same (h (sym e))
  none_open (Some x) n e u t same v h = tt

  pub finds : (id : ℕ) (me : M) → 0 < me.0.live → me.0.phase ≡ 0 → (i : ℕ) → i < 65536 → Allows Law 1 id me (2 + i) (λ n. n) (Finds (step 1 (2 + i) 0 0 none) me)
  finds id me live rest i inside s h len at small =
      let n : ℕ = slice_index s.words (2 + i) in
      by_end (end_in n) refl
    where
      v : W
      v = me.0

      n : ℕ
      n = slice_index s.words (2 + i)

      by_end : (r : Option End) → end_in n ≡ r → (w : W) × (a : Act S) × Valid s.homes me.1 a × Law (stepped s (2 + i) n id me.1 w a) × Finds (step 1 (2 + i) 0 0 none) me n (w, carried_after me.1 a)
      by_end None e = (
        v,
        keeps,
        tt,
        unmoved answers ends from start s h (2 + i) id v at,
        (
          sym (ap (λ (r : Option End). (known_after (v.start + ((2 + i) - 2)) r v, me.1)) e),
          λ _ end k. let f = h.fits id v at live in let q = f.known (v.start + ((2 + i) - 2)) end k in let st : v.start ≡ start = f.start_is in let b = behind i in
              none_shows n end e (ap (λ (j : ℕ). bit_at (get_or s.words (2 + j) 0) (bit_of end)) (let z : i ≡ (v.start + ((2 + i) - 2)) - start = omega arith in z) ∙ q.1),
        ),
      )
      by_end (Some end) e =
          let f = h.fits id v at live in
          let t : ℕ = v.start + ((2 + i) - 2) in
          let w : W = knowing t end v in
          let st : v.start ≡ start = f.start_is in
          let b = behind i in
          let off : t - start ≡ i = omega arith in
          let shows : Shows s.words start t end = ap (λ (j : ℕ). bit_at (get_or s.words (2 + j) 0) (bit_of end)) off ∙ told_shows n end e in (
            w,
            keeps,
            tt,
            again answers ends from start s (2 + i) id s.homes w (quiet answers ends from start s h id v w at live refl refl refl refl rest rest refl
                record {
                  opening = f.opening;
                  start_is = f.start_is;
                  name = f.name;
                  seen = f.seen;
                  own = f.own;
                  waits = f.waits;
                  has = f.has;
                  known = λ u other k. ⊎_elim
                      (λ (z : (u, other) ≡ (t, end)). subst (λ (y : ℕ × End). (start ≤ y.0) × Shows s.words start y.0 y.1 × EndIn ends h.log y.0 y.1) (sym z) (omega arith, shows, h.shown t end (omega arith) shows))
                      (λ (z : Has (u, other) v.known). f.known u other z) k;
                }),
            (sym (ap (λ (r : Option End). (known_after t r v, me.1)) e), λ none_. absurd (let z = sym e ∙ none_ in cc)),
          )
