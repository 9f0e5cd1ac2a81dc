-- A new table, seats that are split and joined, and the end, under the rule of the table.
use Rattle.std.proofs.Common.{◌≡◌, ◌≢◌, ◌⊎◌, ℕ, zero, suc, ◌+◌, ◌-◌, ◌<◌, List, [], ◌∷◌, ◌++◌, length, set, get_or, replicate, sym, refl, ap, ◌∙◌, subst, inl, inr, ⊎_elim, length-set, length-append, arith}
use mathlib.Core.Option.{some, some-injective, some-ne-none}
use mathlib.Core.Logic.{dite}
use native.Mathlib.Decide.{ℕ_discrete}
use lib.ListN.{get_elem?, length-replicate}
use Rattle.std.specs.Int.{bit_at}
use Rattle.std.proofs.lemmas.Nat.Bits.{bit_at-zero}
use Rattle.atomic_table.specs.Table.{State, Splits, Joins, opening}
use Rattle.atomic_table.proofs.Lists.{at_set, set_here, set_else, at_longer, at_last}
use Rattle.mg_turn.specs.declared.rule.Entry.{Entry}
use Rattle.mg_turn.specs.declared.rule.Gathered.{Gathered}
use Rattle.mg_turn.specs.declared.rule.Slot.{Slot}
use Rattle.mg_turn.specs.declared.rule.View.{View}
use Rattle.mg_turn.specs.declared.served.End.{End}
use Rattle.mg_turn.specs.Histories.{Has, calls_by, Leads}
use Rattle.mg_turn.specs.Keeping.{Shows, Lives, IsGathered, IsTied, is_child, children_of, FitsIn}
use Rattle.mg_turn.specs.Views.{newcomer, with_child, child_of, calls_of, joined_with, gone}
use Rattle.mg_turn.specs.Tells.{bit_of}
use Rattle.mg_turn.specs.Promises.{Stands, IsWhole}
use Rattle.mg_turn.proofs.Families.{child_here, child_else, children_set, children_same, children_snoc, child_counts, no_children}
use Rattle.mg_turn.proofs.Keeps.{Rule}
use Rattle.mg_turn.proofs.Lists.{at_in, same_at, at_snoc, has_split, has_left, has_right, longer_begins, longer_left, longer_right, zeros}

zero_or : (n : ℕ) → (n ≡ 0) ⊎ (0 < n)
zero_or zero = inl refl
zero_or (suc n) = inr (omega arith)

module _ {V C R : Type 0} (answers : V → C → R → V → Type 0) (ends : C → R → ℕ → End → Type 0) (from : V) (start : ℕ) where
  abbrev S : Type 0
  S = Slot V C R

  abbrev W : Type 0
  W = View V C R

  abbrev E : Type 0
  E = Entry C R

  abbrev St : Type 0
  St = State S W

  abbrev Law : St → Type 0
  Law = Rule answers ends from start

  no_zeros : (n t : ℕ) (end : End) → Shows (replicate n 0) start t end → ⊥
  no_zeros n t end h = (let a : bit_at (get_or (replicate n 0) (2 + (t - start)) 0) (bit_of end) ≡ 0 = ap (λ (m : ℕ). bit_at m (bit_of end)) (zeros n (2 + (t - start))) ∙ bit_at-zero (bit_of end) in let b : 1 ≡ 0 = sym h ∙ a in omega arith)

  only_one : (j : ℕ) (a u : W) → get_elem? (a ∷ []) j ≡ some u → (j ≡ 0) × (a ≡ u)
  only_one zero a u e = (refl, some-injective a u e)
  only_one (suc j) a u e = absurd (some-ne-none u (sym e))

  -- the rule holds of a new table
  pub starts : (x : S) (ws : List ℕ) → ws ≡ replicate 65538 0 → x.value ≡ from → Law (opening ws (x ∷ []) (newcomer from start))
  starts x ws is same =
      let v : W = newcomer from start in
      let zero_at : (i : ℕ) → get_or ws i 0 ≡ 0 = λ i. ap (λ (l : List ℕ). get_or l i 0) is ∙ zeros 65538 i in
      record {
        log = [];
        size = ap length is ∙ length-replicate {A = ℕ} 65538 0;
        order = let a = zero_at 0 in let b = zero_at 1 in omega arith;
        home = λ y e. subst (λ (z : S). z.value ≡ from) (some-injective x y (some-injective (some x) (some y) e)) same;
        out = inl (x, refl);
        fits = λ j u e l. let q = only_one j v u e in subst (λ (y : ℕ × W). FitsIn answers ends from start ws [] y.0 y.1) (λ i. (sym q.0 i, q.1 i))
            record { opening = refl; start_is = refl; name = λ p. absurd (omega arith); seen = ([], refl); own = refl; waits = λ p. absurd (omega arith); has = λ p. absurd (omega arith); known = λ t end k. absurd k };
        tied = λ j u e l. let q = only_one j v u e in subst (λ (y : ℕ × W). IsTied (v ∷ []) [] y.0 y.1) (λ i. (sym q.0 i, q.1 i))
            record { gathered = λ g k. absurd k; children = refl; parent = inl (refl, refl) };
        apart = λ i j u y e f ne pu py. absurd (ne ((only_one i v u e).0 ∙ sym (only_one j v y f).0));
        spent = λ j u e gone_. absurd (let q = ap (λ (z : W). z.live) (only_one j v u e).1 in omega arith);
        latest = (0, v, refl, omega arith, refl);
        covered = λ e k. absurd k;
        strangers = λ j l. refl;
        shown = λ t end l k. absurd (no_zeros 65538 t end (subst (λ (l : List ℕ). Shows l start t end) is k));
      }

  -- a place of the views after a split
  pub data Sat (s : St) (id : ℕ) (left right : W) (j : ℕ) (u : W) : Type 0 where
    splitter : j ≡ id → left ≡ u → Sat s id left right j u
    newest : j ≡ length s.views → right ≡ u → Sat s id left right j u
    older : j ≢ id → j < length s.views → get_elem? s.views j ≡ some u → Sat s id left right j u

  after_split : (s : St) (id : ℕ) (left right : W) (j : ℕ) (u : W) → get_elem? (set s.views id left ++ right ∷ []) j ≡ some u → Sat s id left right j u
  after_split s id left right j u e = ⊎_elim
      (λ (t : get_elem? (set s.views id left) j ≡ some u). ⊎_elim
      (λ (x : (j ≡ id) × (left ≡ u)). splitter x.0 x.1)
      (λ (x : (j ≢ id) × (get_elem? s.views j ≡ some u)). older x.0 (at_in s.views j u x.1) x.1)
      (at_set s.views id j left u t))
      (λ (t : (j ≡ length (set s.views id left)) × (right ≡ u)). newest (t.0 ∙ length-set s.views id left) t.1)
      (at_snoc (set s.views id left) right u j e)

  pub splits : (id : ℕ) (v : W) → 0 < v.live → 0 < v.name → v.phase ≡ 0 → Splits Law id v (with_child v) (child_of v)
  splits id v live named_ rest s h at =
      let left : W = with_child v in
      let right : W = child_of v in
      let L : ℕ = length s.views in
      let views' : List W = set s.views id left ++ right ∷ [] in
      let inside : id < L = at_in s.views id v at in
      let f = h.fits id v at live in
      let tie = h.tied id v at live in
      let mine : v.name ≡ id + 1 = f.name named_ in
      let left_at : get_elem? views' id ≡ some left = at_longer (set s.views id left) (right ∷ []) id left (set_here s.views id left inside) in
      let right_at : get_elem? views' L ≡ some right = at_last (set s.views id left) right L (length-set s.views id left) in
      let else_at : (j : ℕ) (u : W) → j ≢ id → get_elem? s.views j ≡ some u → get_elem? views' j ≡ some u = λ j u ne e. at_longer (set s.views id left) (right ∷ []) j u (set_else s.views id j left ne ∙ e) in
      let long : length views' ≡ L + 1 = (let q = length-append (set s.views id left) (right ∷ []) in let r = length-set s.views id left in omega arith) in
      let counts : (n : ℕ) → children_of n views' ≡ children_of n s.views + is_child n right = λ n. children_snoc n (set s.views id left) right ∙ ap (λ (k : ℕ). k + is_child n right) (children_same n s.views id v left at refl) in
      let lives : (p : ℕ) → Lives s.views p → Lives views' p = λ p it. dite (ℕ_discrete p id)
      (λ e. (left, subst (λ (k : ℕ). get_elem? views' k ≡ some left) (sym e) left_at, live))
      (λ ne. (it.0, else_at p it.0 ne it.1, it.2)) in
      let gathers : (g : Gathered C R) → IsGathered s.views h.log g → IsGathered views' h.log g = λ g it.
      let apart : it.seat ≢ id = λ e. (let q = it.spent v (subst (λ (k : ℕ). get_elem? s.views k ≡ some v) (sym e) at) in omega arith) in record {
        seat = it.seat;
        name = it.name;
        there = (let q = it.there in omega arith);
        spent = λ u e. elim (after_split s id left right it.seat u e) [
          | splitter a b ↦ absurd (apart a)
          | newest a b ↦ absurd (let q = it.there in omega arith)
          | older a b c ↦ it.spent u c
        ];
        own = it.own;
      } in
      let parents : (j : ℕ) (u : W) → IsTied s.views h.log j u → ((j ≡ 0) × (u.parent ≡ 0)) ⊎ ((p : ℕ) × (u.parent ≡ p + 1) × (p < j) × Lives views' p) = λ j u it.
      ⊎_elim (λ (r : (j ≡ 0) × (u.parent ≡ 0)). inl r) (λ (r : (p : ℕ) × (u.parent ≡ p + 1) × (p < j) × Lives s.views p). inr (r.0, r.1, r.2, lives r.0 r.3)) it.parent in
      let low : (i : ℕ) (u : W) → get_elem? s.views i ≡ some u → u.parent ≢ L + 1 = λ i u e q. ⊎_elim
      (λ (z : u.live ≡ 0). (let k = (h.spent i u e z).1 in omega arith))
      (λ (l : 0 < u.live). ⊎_elim (λ (r : (i ≡ 0) × (u.parent ≡ 0)). (let k = r.1 in omega arith))
      (λ (r : (p : ℕ) × (u.parent ≡ p + 1) × (p < i) × Lives s.views p). (let a = r.1 in let b = r.2 in let c = at_in s.views i u e in omega arith)) (h.tied i u e l).parent)
      (zero_or u.live) in
      record {
        log = h.log;
        size = h.size;
        order = h.order;
        home = h.home;
        out = ⊎_elim (λ (x : (x : S) × (get_elem? s.homes 0 ≡ some (some x))). inl x)
            (λ (x : (j : ℕ) × (u : W) × (get_elem? s.views j ≡ some u) × (u.phase ≡ 2)).
            let apart : x.0 ≢ id = λ e. (let q = ap (λ (u : W). u.phase) (same_at s.views id v x.1 at (subst (λ (k : ℕ). get_elem? s.views k ≡ some x.1) e x.2)) in let two = x.3 in omega arith) in
            inr (x.0, x.1, else_at x.0 x.1 apart x.2, x.3)) h.out;
        fits = λ j u e l. elim (after_split s id left right j u e) [
          | splitter a b ↦ subst (λ (y : ℕ × W). FitsIn answers ends from start s.words h.log y.0 y.1) (λ i. (sym a i, b i))
              record { opening = f.opening; start_is = f.start_is; name = f.name; seen = f.seen; own = f.own; waits = f.waits; has = f.has; known = f.known }
          | newest a b ↦ subst (λ (y : ℕ × W). FitsIn answers ends from start s.words h.log y.0 y.1) (λ i. (sym a i, b i))
              record { opening = f.opening; start_is = f.start_is; name = λ p. absurd (omega arith); seen = f.seen; own = h.strangers L (omega arith); waits = λ p. absurd (omega arith); has = λ p. absurd (omega arith); known = f.known }
          | older a b c ↦ h.fits j u c l
        ];
        tied = λ j u e l. elim (after_split s id left right j u e) [
          | splitter a b ↦ subst (λ (y : ℕ × W). IsTied views' h.log y.0 y.1) (λ i. (sym a i, b i))
              record {
                gathered = λ g k. gathers g (tie.gathered g k);
                children = (let q = counts (id + 1) in let r = child_here (id + 1) right mine in let t = tie.children in omega arith);
                parent = parents id v tie;
              }
          | newest a b ↦ subst (λ (y : ℕ × W). IsTied views' h.log y.0 y.1) (λ i. (sym a i, b i))
              record {
                gathered = λ g k. absurd k;
                children = (let q = counts (L + 1) in let r = child_else (L + 1) right (λ z. (let y : v.name ≡ L + 1 = z in omega arith)) in let t = no_children (L + 1) s.views low in omega arith);
                parent = inr (id, mine, inside, (left, left_at, live));
              }
          | older a b c ↦ let it = h.tied j u c l in
              record {
                gathered = λ g k. gathers g (it.gathered g k);
                children = (let q = counts (j + 1) in let r = child_else (j + 1) right (λ z. (let y : v.name ≡ j + 1 = z in a (omega arith))) in let t = it.children in omega arith);
                parent = parents j u it;
              }
        ];
        apart = λ i j u y e g ne pu py. elim (after_split s id left right i u e) [
          | splitter a b ↦ absurd (let q = ap (λ (z : W). z.phase) b in omega arith)
          | newest a b ↦ absurd (let q = ap (λ (z : W). z.phase) b in omega arith)
          | older a b c ↦ elim (after_split s id left right j y g) [
            | splitter a' b' ↦ absurd (let q = ap (λ (z : W). z.phase) b' in omega arith)
            | newest a' b' ↦ absurd (let q = ap (λ (z : W). z.phase) b' in omega arith)
            | older a' b' c' ↦ h.apart i j u y c c' ne pu py
          ]
        ];
        spent = λ j u e z. elim (after_split s id left right j u e) [
          | splitter a b ↦ absurd (let q = ap (λ (z : W). z.live) b in omega arith)
          | newest a b ↦ absurd (let q = ap (λ (z : W). z.live) b in omega arith)
          | older a b c ↦ h.spent j u c z
        ];
        latest = let x = h.latest in dite (ℕ_discrete x.0 id)
            (λ e. (id, left, left_at, live, ap (λ (u : W). u.seen) (same_at s.views id v x.1 at (subst (λ (k : ℕ). get_elem? s.views k ≡ some x.1) e x.2)) ∙ x.4))
            (λ ne. (x.0, x.1, else_at x.0 x.1 ne x.2, x.3, x.4));
        covered = λ e k. let it = h.covered e k in dite (ℕ_discrete it.0 id)
            (λ q. let is : v ≡ it.1 = same_at s.views id v it.1 at (subst (λ (k : ℕ). get_elem? s.views k ≡ some it.1) q it.2) in (
              id,
              left,
              left_at,
              live,
              ⊎_elim (λ (n : e.by ≡ it.0 + 1). inl (n ∙ ap (λ (k : ℕ). k + 1) q))
                  (λ (g : (g : Gathered C R) × Has g it.1.gathered × (g.name ≡ e.by)). inr (g.0, subst (Has g.0) (sym (ap (λ (u : W). u.gathered) is)) g.1, g.2)) it.4,
            ))
            (λ ne. (it.0, it.1, else_at it.0 it.1 ne it.2, it.3, it.4));
        strangers = λ j l. h.strangers j (omega arith);
        shown = h.shown;
      }

  -- a place of the views after a seat was joined to another
  pub data Left (s : St) (id other : ℕ) (both : W) (j : ℕ) (u : W) : Type 0 where
    joiner : j ≡ id → both ≡ u → Left s id other both j u
    spent_one : j ≡ other → gone ≡ u → Left s id other both j u
    third : j ≢ id → j ≢ other → get_elem? s.views j ≡ some u → Left s id other both j u

  after_join : (s : St) (id other : ℕ) (both : W) (j : ℕ) (u : W) → get_elem? (set (set s.views id both) other gone) j ≡ some u → Left s id other both j u
  after_join s id other both j u e = ⊎_elim
      (λ (t : (j ≡ other) × (gone ≡ u)). spent_one t.0 t.1)
      (λ (t : (j ≢ other) × (get_elem? (set s.views id both) j ≡ some u)). ⊎_elim
      (λ (x : (j ≡ id) × (both ≡ u)). joiner x.0 x.1)
      (λ (x : (j ≢ id) × (get_elem? s.views j ≡ some u)). third x.0 t.0 x.1)
      (at_set s.views id j both u t.1))
      (at_set (set s.views id both) other j gone u e)

  pub joins : (id : ℕ) (v : W) (other : ℕ) (w : W) → 0 < v.live → 0 < v.name → v.phase ≡ 0 → 0 < w.live → 0 < w.name → w.phase ≡ 0 → w.parent ≡ v.name → w.children ≡ 0
      → Joins Law id v other w (joined_with v w) gone
  joins id v other w live named_ rest live_ named_w rest_w child childless s h at apart at_w' =
      let both : W = joined_with v w in
      let L : ℕ = length s.views in
      let views1 : List W = set s.views id both in
      let views' : List W = set views1 other gone in
      let at_w : get_elem? s.views other ≡ some w = sym (set_else s.views id other both apart) ∙ at_w' in
      let inside : id < L = at_in s.views id v at in
      let inside_w : other < L = at_in s.views other w at_w in
      let f = h.fits id v at live in
      let fw = h.fits other w at_w live_ in
      let tie = h.tied id v at live in
      let tie_w = h.tied other w at_w live_ in
      let mine : v.name ≡ id + 1 = f.name named_ in
      let mine_w : w.name ≡ other + 1 = fw.name named_w in
      let long : length views' ≡ L = length-set views1 other gone ∙ length-set s.views id both in
      let both_at : get_elem? views' id ≡ some both = set_else views1 other id gone (λ e. apart (sym e)) ∙ set_here s.views id both inside in
      let gone_at : get_elem? views' other ≡ some gone = set_here views1 other gone (let q = length-set s.views id both in omega arith) in
      let else_at : (j : ℕ) (u : W) → j ≢ id → j ≢ other → get_elem? s.views j ≡ some u → get_elem? views' j ≡ some u = λ j u a b e. set_else views1 other j gone b ∙ (set_else s.views id j both a ∙ e) in
      let nobody : W = gone in
      let counts : (n : ℕ) → children_of n views' + is_child n w ≡ children_of n s.views + is_child n nobody = λ n. children_set n views1 other w nobody at_w' ∙ ap (λ (k : ℕ). k + is_child n nobody) (children_same n s.views id v both at refl) in
      let no_parent : (j : ℕ) (u : W) (p : ℕ) → get_elem? s.views j ≡ some u → u.parent ≡ p + 1 → p ≢ other = λ j u p e q z. (let k = child_counts (other + 1) s.views j u e (q ∙ ap (λ (x : ℕ). x + 1) z) in let t = tie_w.children in omega arith) in
      let lives : (p : ℕ) → p ≢ other → Lives s.views p → Lives views' p = λ p b it. dite (ℕ_discrete p id)
      (λ e. (both, subst (λ (k : ℕ). get_elem? views' k ≡ some both) (sym e) both_at, live))
      (λ ne. (it.0, else_at p it.0 ne b it.1, it.2)) in
      let gathers : (g : Gathered C R) → IsGathered s.views h.log g → IsGathered views' h.log g = λ g it.
      let apart_id : it.seat ≢ id = λ e. (let q = it.spent v (subst (λ (k : ℕ). get_elem? s.views k ≡ some v) (sym e) at) in omega arith) in record {
        seat = it.seat;
        name = it.name;
        there = (let q = it.there in omega arith);
        spent = λ u e. elim (after_join s id other both it.seat u e) [
          | joiner a b ↦ absurd (apart_id a)
          | spent_one a b ↦ sym (ap (λ (z : W). z.live) b)
          | third a b c ↦ it.spent u c
        ];
        own = it.own;
      } in
      let gathers_w : IsGathered views' h.log (calls_of w) = record { seat = other; name = mine_w; there = omega arith; spent = λ u e. ap (λ (z : W). z.live) (same_at views' other u gone e gone_at); own = ap (λ (k : ℕ). calls_by k h.log) mine_w ∙ fw.own } in
      let parents : (j : ℕ) (u : W) → get_elem? s.views j ≡ some u → IsTied s.views h.log j u → ((j ≡ 0) × (u.parent ≡ 0)) ⊎ ((p : ℕ) × (u.parent ≡ p + 1) × (p < j) × Lives views' p) = λ j u e it.
      ⊎_elim (λ (r : (j ≡ 0) × (u.parent ≡ 0)). inl r) (λ (r : (p : ℕ) × (u.parent ≡ p + 1) × (p < j) × Lives s.views p). inr (r.0, r.1, r.2, lives r.0 (no_parent j u r.0 e r.1) r.3)) it.parent in
      record {
        log = h.log;
        size = h.size;
        order = h.order;
        home = h.home;
        out = ⊎_elim (λ (x : (x : S) × (get_elem? s.homes 0 ≡ some (some x))). inl x)
            (λ (x : (j : ℕ) × (u : W) × (get_elem? s.views j ≡ some u) × (u.phase ≡ 2)).
            let a : x.0 ≢ id = λ e. (let q = ap (λ (u : W). u.phase) (same_at s.views id v x.1 at (subst (λ (k : ℕ). get_elem? s.views k ≡ some x.1) e x.2)) in let two = x.3 in omega arith) in
            let b : x.0 ≢ other = λ e. (let q = ap (λ (u : W). u.phase) (same_at s.views other w x.1 at_w (subst (λ (k : ℕ). get_elem? s.views k ≡ some x.1) e x.2)) in let two = x.3 in omega arith) in
            inr (x.0, x.1, else_at x.0 x.1 a b x.2, x.3)) h.out;
        fits = λ j u e l. elim (after_join s id other both j u e) [
          | joiner a b ↦ subst (λ (y : ℕ × W). FitsIn answers ends from start s.words h.log y.0 y.1) (λ i. (sym a i, b i))
              record {
                opening = f.opening;
                start_is = f.start_is;
                name = f.name;
                seen = longer_begins h.log v.seen w.seen f.seen fw.seen;
                own = f.own;
                waits = f.waits;
                has = λ p. absurd (omega arith);
                known = λ t end k. ⊎_elim (λ (z : Has (t, end) w.known). fw.known t end z) (λ (z : Has (t, end) v.known). f.known t end z) (has_split (t, end) w.known v.known k);
              }
          | spent_one a b ↦ absurd (let q = ap (λ (z : W). z.live) b in omega arith)
          | third a b c ↦ h.fits j u c l
        ];
        tied = λ j u e l. elim (after_join s id other both j u e) [
          | joiner a b ↦ subst (λ (y : ℕ × W). IsTied views' h.log y.0 y.1) (λ i. (sym a i, b i))
              record {
                gathered = λ g k. ⊎_elim (λ (z : g ≡ calls_of w). subst (IsGathered views' h.log) (sym z) gathers_w)
                    (λ (z : Has g (w.gathered ++ v.gathered)). ⊎_elim (λ (y : Has g w.gathered). gathers g (tie_w.gathered g y)) (λ (y : Has g v.gathered). gathers g (tie.gathered g y)) (has_split g w.gathered v.gathered z)) k;
                children = (let q = counts (id + 1) in let r = child_here (id + 1) w (child ∙ mine) in let o = child_else (id + 1) nobody (λ z. (let y : 0 ≡ id + 1 = z in omega arith)) in let t = tie.children in omega arith);
                parent = parents id v at tie;
              }
          | spent_one a b ↦ absurd (let q = ap (λ (z : W). z.live) b in omega arith)
          | third a b c ↦ let it = h.tied j u c l in
              record {
                gathered = λ g k. gathers g (it.gathered g k);
                children = (let q = counts (j + 1) in let r = child_else (j + 1) w (λ z. (let y : w.parent ≡ j + 1 = z in let x = child ∙ mine in a (omega arith))) in let o = child_else (j + 1) nobody (λ z. (let y : 0 ≡ j + 1 = z in omega arith)) in let t = it.children in omega arith);
                parent = parents j u c it;
              }
        ];
        apart = λ i j u y e g ne pu py. elim (after_join s id other both i u e) [
          | joiner a b ↦ absurd (let q = ap (λ (z : W). z.phase) b in omega arith)
          | spent_one a b ↦ absurd (let q = ap (λ (z : W). z.phase) b in omega arith)
          | third a b c ↦ elim (after_join s id other both j y g) [
            | joiner a' b' ↦ absurd (let q = ap (λ (z : W). z.phase) b' in omega arith)
            | spent_one a' b' ↦ absurd (let q = ap (λ (z : W). z.phase) b' in omega arith)
            | third a' b' c' ↦ h.apart i j u y c c' ne pu py
          ]
        ];
        spent = λ j u e z. elim (after_join s id other both j u e) [
          | joiner a b ↦ absurd (let q = ap (λ (z : W). z.live) b in omega arith)
          | spent_one a b ↦ (sym (ap (λ (z : W). z.phase) b), sym (ap (λ (z : W). z.parent) b))
          | third a b c ↦ h.spent j u c z
        ];
        latest = let x = h.latest in dite (ℕ_discrete x.0 id)
            (λ e. (id, both, both_at, live, longer_left h.log v.seen w.seen (ap (λ (u : W). u.seen) (same_at s.views id v x.1 at (subst (λ (k : ℕ). get_elem? s.views k ≡ some x.1) e x.2)) ∙ x.4) fw.seen))
            (λ ne. dite (ℕ_discrete x.0 other)
            (λ e. (id, both, both_at, live, longer_right h.log v.seen w.seen f.seen (ap (λ (u : W). u.seen) (same_at s.views other w x.1 at_w (subst (λ (k : ℕ). get_elem? s.views k ≡ some x.1) e x.2)) ∙ x.4)))
            (λ ne'. (x.0, x.1, else_at x.0 x.1 ne ne' x.2, x.3, x.4)));
        covered = λ e k. let it = h.covered e k in dite (ℕ_discrete it.0 id)
            (λ q. let is : v ≡ it.1 = same_at s.views id v it.1 at (subst (λ (k : ℕ). get_elem? s.views k ≡ some it.1) q it.2) in (
              id,
              both,
              both_at,
              live,
              ⊎_elim (λ (n : e.by ≡ it.0 + 1). inl (n ∙ ap (λ (k : ℕ). k + 1) q))
                  (λ (g : (g : Gathered C R) × Has g it.1.gathered × (g.name ≡ e.by)). inr (g.0, inr (has_right g.0 w.gathered v.gathered (subst (Has g.0) (sym (ap (λ (u : W). u.gathered) is)) g.1)), g.2)) it.4,
            ))
            (λ ne. dite (ℕ_discrete it.0 other)
            (λ q. let is : w ≡ it.1 = same_at s.views other w it.1 at_w (subst (λ (k : ℕ). get_elem? s.views k ≡ some it.1) q it.2) in (
              id,
              both,
              both_at,
              live,
              ⊎_elim (λ (n : e.by ≡ it.0 + 1). inr (calls_of w, inl refl, mine_w ∙ sym (n ∙ ap (λ (k : ℕ). k + 1) q)))
                  (λ (g : (g : Gathered C R) × Has g it.1.gathered × (g.name ≡ e.by)). inr (g.0, inr (has_left g.0 w.gathered v.gathered (subst (Has g.0) (sym (ap (λ (u : W). u.gathered) is)) g.1)), g.2)) it.4,
            ))
            (λ ne'. (it.0, it.1, else_at it.0 it.1 ne ne' it.2, it.3, it.4)));
        strangers = λ j l. h.strangers j (omega arith);
        shown = h.shown;
      }

  -- with a first seat that has no child, no other seat lives
  alone : (s : St) (h : Law s) (v : W) → get_elem? s.views 0 ≡ some v → 0 < v.live → v.children ≡ 0 → (n j : ℕ) → j < n → (u : W) → get_elem? s.views j ≡ some u → 0 < u.live → j ≢ 0 → ⊥
  alone s h v at live childless zero j less u e l ne = omega arith
  alone s h v at live childless (suc n) j less u e l ne = ⊎_elim
      (λ (r : (j ≡ 0) × (u.parent ≡ 0)). ne r.0)
      (λ (r : (p : ℕ) × (u.parent ≡ p + 1) × (p < j) × Lives s.views p). dite (ℕ_discrete r.0 0)
      (λ z. (let k = child_counts (0 + 1) s.views j u e (r.1 ∙ ap (λ (x : ℕ). x + 1) z) in let t = (h.tied 0 v at live).children in omega arith))
      (λ nz. alone s h v at live childless n r.0 (let q = r.2 in omega arith) r.3.0 r.3.1 r.3.2 nz))
      (h.tied j u e l).parent

  -- the whole history was seen, and the value is the one that it leaves
  pub ends_so : (s : St) (h : Law s) (id : ℕ) (v : W) → get_elem? s.views id ≡ some v → 0 < v.live → 0 < v.name → v.phase ≡ 0 → v.parent ≡ 0 → v.children ≡ 0
      → IsWhole v × ((x : S) × (get_elem? s.homes 0 ≡ some (some x)) × Stands answers v x.value)
  ends_so s h id v at live named_ rest orphan childless =
      let f = h.fits id v at live in
      let first_ : id ≡ 0 = ⊎_elim (λ (r : (id ≡ 0) × (v.parent ≡ 0)). r.0) (λ (r : (p : ℕ) × (v.parent ≡ p + 1) × (p < id) × Lives s.views p). absurd (let q = r.1 in omega arith)) (h.tied id v at live).parent in
      let at_0 : get_elem? s.views 0 ≡ some v = subst (λ (k : ℕ). get_elem? s.views k ≡ some v) first_ at in
      let only : (j : ℕ) (u : W) → get_elem? s.views j ≡ some u → 0 < u.live → v ≡ u = λ j u e l. dite (ℕ_discrete j 0)
      (λ z. same_at s.views 0 v u at_0 (subst (λ (k : ℕ). get_elem? s.views k ≡ some u) z e))
      (λ nz. absurd (alone s h v at_0 live childless (j + 1) j (omega arith) u e l nz)) in
      let x = h.latest in
      let all : v.seen ≡ h.log = ap (λ (u : W). u.seen) (only x.0 x.1 x.2 x.3) ∙ x.4 in
      let mine : v.name ≡ id + 1 = f.name named_ in
      let home : (x : S) × (get_elem? s.homes 0 ≡ some (some x)) = ⊎_elim (λ (t : (x : S) × (get_elem? s.homes 0 ≡ some (some x))). t)
      (λ (t : (j : ℕ) × (u : W) × (get_elem? s.views j ≡ some u) × (u.phase ≡ 2)). absurd (let two = t.3 in
      let q = ap (λ (u : W). u.phase) (only t.0 t.1 t.2 (⊎_elim (λ (z : t.1.live ≡ 0). absurd (let k = (h.spent t.0 t.1 t.2 z).0 in omega arith)) (λ (l : 0 < t.1.live). l) (zero_or t.1.live))) in omega arith)) h.out in (
        record {
          own = ap (λ (k : ℕ). calls_by k v.seen) mine ∙ (ap (calls_by (id + 1)) all ∙ f.own);
          gathered = λ g k. ap (calls_by g.name) all ∙ ((h.tied id v at live).gathered g k).own;
          all = λ e k. let it = h.covered e (subst (Has e) all k) in let is : v ≡ it.1 = only it.0 it.1 it.2 it.3 in
              ⊎_elim (λ (n : e.by ≡ it.0 + 1). inl (n ∙ (ap (λ (k : ℕ). k + 1) (let z : it.0 ≡ id = dite (ℕ_discrete it.0 0) (λ z. z ∙ sym first_) (λ nz. absurd (alone s h v at_0 live childless (it.0 + 1) it.0 (omega arith) it.1 it.2 it.3 nz)) in z) ∙ sym mine)))
              (λ (g : (g : Gathered C R) × Has g it.1.gathered × (g.name ≡ e.by)). inr (g.0, subst (Has g.0) (sym (ap (λ (u : W). u.gathered) is)) g.1, g.2)) it.4;
        },
        (home.0, home.1, (from, f.opening, subst (λ (l : List E). Leads answers from l home.0.value) (sym all) (h.home home.0 home.1))),
      )
