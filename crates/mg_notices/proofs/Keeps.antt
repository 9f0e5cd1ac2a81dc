-- Each call keeps the rule of the queue.
use Rattle.std.proofs.Common.{◌≡◌, ◌≢◌, ◌⊎◌, ℕ, zero, suc, ◌+◌, ◌<◌, ◌≤◌, if◌then◌else◌, ◌==◌, List, [], ◌∷◌, ◌++◌, length, set, sym, refl, ap, ◌∙◌, subst, inl, inr, ⊎_elim, append_assoc, length-append, length-set, eq-eqb, ne_eqb, arith}
use mathlib.Core.Option.{some, some-injective, some-ne-none}
use mathlib.Core.Logic.{dite}
use native.Mathlib.Decide.{ℕ_discrete}
use lib.ListN.{get_elem?}
use Rattle.atomic_table.proofs.Lists.{at_set, set_here, set_else}
use Rattle.crossbeam_queue.specs.Fifo.{Pushes, Pops, Forks, Merges, Learns}
use Rattle.mg_notices.specs.declared.rule.Known.{Known}
use Rattle.mg_notices.specs.Offers.{IsNew, offered_by, noticed, taker, offerer, gone, offered, taken, with_gathered, Offers, Takes, AreOffered, Tells, IsGathered, AreGathered, Fits, Kept}

at_in : {A : Type 0} (l : List A) (i : ℕ) (a : A) → get_elem? l i ≡ some a → i < length l
at_in [] i a e = absurd (some-ne-none a (sym e))
at_in (x ∷ xs) zero a e = omega arith
at_in (x ∷ xs) (suc i) a e = let q = at_in xs i a e in omega arith

at_snoc : {A : Type 0} (l : List A) (a b : A) (j : ℕ) → get_elem? (l ++ a ∷ []) j ≡ some b → (get_elem? l j ≡ some b) ⊎ ((j ≡ length l) × (a ≡ b))
at_snoc [] a b zero e = inr (refl, some-injective a b e)
at_snoc [] a b (suc j) e = absurd (some-ne-none b (sym e))
at_snoc (x ∷ xs) a b zero e = inl e
at_snoc {A} (x ∷ xs) a b (suc j) e = ⊎_elim (λ (t : get_elem? xs j ≡ some b). inl t) (λ (t : (j ≡ length xs) × (a ≡ b)). inr (ap suc t.0, t.1)) (at_snoc xs a b j e)

module _ {T : Type 0} where
  offered_same : (j : ℕ) (all : List (ℕ × T)) (x : T) → offered_by j (all ++ (j, x) ∷ []) ≡ offered_by j all ++ x ∷ []
  offered_same j [] x = ap (λ b. if b then (x ∷ []) else []) (eq-eqb j j refl)
  offered_same j (e ∷ es) x = dite (ℕ_discrete e.0 j)
      (λ p. ap (λ b. if b then (e.1 ∷ offered_by j (es ++ (j, x) ∷ [])) else (offered_by j (es ++ (j, x) ∷ []))) (eq-eqb e.0 j p)
      ∙ (ap (λ l. e.1 ∷ l) (offered_same j es x) ∙ sym (ap (λ b. (if b then (e.1 ∷ offered_by j es) else (offered_by j es)) ++ x ∷ []) (eq-eqb e.0 j p))))
      (λ n. ap (λ b. if b then (e.1 ∷ offered_by j (es ++ (j, x) ∷ [])) else (offered_by j (es ++ (j, x) ∷ []))) (ne_eqb e.0 j n)
      ∙ (offered_same j es x ∙ sym (ap (λ b. (if b then (e.1 ∷ offered_by j es) else (offered_by j es)) ++ x ∷ []) (ne_eqb e.0 j n))))

  offered_else : (i j : ℕ) (all : List (ℕ × T)) (x : T) → i ≢ j → offered_by i (all ++ (j, x) ∷ []) ≡ offered_by i all
  offered_else i j [] x n = ap (λ b. if b then (x ∷ []) else []) (ne_eqb j i (λ e. n (sym e)))
  offered_else i j (e ∷ es) x n = ap (λ l. if e.0 == i then (e.1 ∷ l) else l) (offered_else i j es x n)

  noticed_more : (all : List (ℕ × T)) (j : ℕ) (x : T) → noticed (all ++ (j, x) ∷ []) ≡ noticed all ++ x ∷ []
  noticed_more [] j x = refl
  noticed_more (e ∷ es) j x = ap (λ l. e.1 ∷ l) (noticed_more es j x)

  -- what holds of one that was gathered, after a call as before, holds of all of them
  each_still : (all all' : List (ℕ × T)) (views views' : List (Known T)) → ((put : List T) (name : ℕ) → IsGathered all views put name → IsGathered all' views' put name)
      → (puts : List (List T)) (names : List ℕ) → AreGathered all views puts names → AreGathered all' views' puts names
  each_still all all' views views' still [] [] g = tt
  each_still all all' views views' still [] (name ∷ names) g = g
  each_still all all' views views' still (put ∷ puts) [] g = g
  each_still all all' views views' still (put ∷ puts) (name ∷ names) g = (still put name g.0, g.1, each_still all all' views views' still puts names g.2)

  -- gathered offerers stay gathered, where one that is not goes on
  still : (all all' : List (ℕ × T)) (views : List (Known T)) (j : ℕ) (v w : Known T) → get_elem? views j ≡ some v → (0 < v.offers) ⊎ (0 < v.takes) → ((i : ℕ) → i ≢ j → offered_by i all' ≡ offered_by i all)
      → (put : List T) (name : ℕ) → IsGathered all views put name → IsGathered all' (set views j w) put name
  still all all' views j v w at busy others put name g =
      let apart : name ≢ j = λ e. (let q = g.spent v (subst (λ (k : ℕ). get_elem? views k ≡ some v) (sym e) at) in let a = q.0 in let b = q.1 in ⊎_elim (λ (p : 0 < v.offers). (omega arith)) (λ (p : 0 < v.takes). (omega arith)) busy) in
      record { there = subst (λ (k : ℕ). name < k) (sym (length-set views j w)) g.there; spent = λ u e. g.spent u (sym (set_else views j name w apart) ∙ e); own = others name apart ∙ g.own }

  stay : (all all' : List (ℕ × T)) (views : List (Known T)) (j : ℕ) (v w : Known T) → get_elem? views j ≡ some v → (0 < v.offers) ⊎ (0 < v.takes) → ((i : ℕ) → i ≢ j → offered_by i all' ≡ offered_by i all)
      → (puts : List (List T)) (names : List ℕ) → AreGathered all views puts names → AreGathered all' (set views j w) puts names
  stay all all' views j v w at busy others = each_still all all' views (set views j w) (still all all' views j v w at busy others)

  -- who still offers is none of those that were gathered
  is_new : (all : List (ℕ × T)) (views : List (Known T)) (other : ℕ) (w : Known T) → get_elem? views other ≡ some w → 0 < w.offers → (puts : List (List T)) (names : List ℕ) → AreGathered all views puts names → IsNew other names
  is_new all views other w at may [] [] g = tt
  is_new all views other w at may [] (name ∷ names) g = absurd g
  is_new all views other w at may (put ∷ puts) [] g = tt
  is_new all views other w at may (put ∷ puts) (name ∷ names) g =
      (λ e. (let q = g.0.spent w (subst (λ (k : ℕ). get_elem? views k ≡ some w) e at) in let a = q.0 in omega arith), is_new all views other w at may puts names g.2)

  -- the lists that were gathered are what their names offered
  theirs : (all : List (ℕ × T)) (views : List (Known T)) (puts : List (List T)) (names : List ℕ) → AreGathered all views puts names → AreOffered all puts names
  theirs all views [] [] g = tt
  theirs all views [] (name ∷ names) g = g
  theirs all views (put ∷ puts) [] g = g
  theirs all views (put ∷ puts) (name ∷ names) g = (g.0.own, g.1, theirs all views puts names g.2)

  pub begins : Kept {T = T} [] (taker ∷ [])
  begins = record { all = []; got = []; reader = 0; one = refl; fits = λ j v e. only j v e; strangers = λ j l. refl }
    where
      only : (j : ℕ) (v : Known T) → get_elem? (taker ∷ []) j ≡ some v → Fits [] [] (taker ∷ []) 0 j v
      only zero v e = subst (λ (u : Known T). Fits [] [] (taker ∷ []) 0 0 u) (some-injective taker v e) record { takes = λ p. (refl, refl, refl); offers = λ p. absurd (omega arith); names = []; gathered = tt }
      only (suc j) v e = absurd (some-ne-none v (sym e))

  pub offers : (n j : ℕ) (v : Known T) (x : T) → 0 < v.offers → Pushes Kept n j v x (Offers v x)
  offers n j v x may items views room h at =
      let w : Known T = offered v x in
      let all' = h.all ++ (j, x) ∷ [] in
      let mine = h.fits j v at in
      let others : (i : ℕ) → i ≢ j → offered_by i all' ≡ offered_by i h.all = λ i n. offered_else i j h.all x n in
      let kept = stay h.all all' views j v w at (inl may) others in (
        w,
        record {
          all = all';
          got = h.got;
          reader = h.reader;
          one = noticed_more h.all j x ∙ (ap (λ l. l ++ x ∷ []) h.one ∙ append_assoc h.got items (x ∷ []));
          fits = λ i u e. ⊎_elim
              (λ (t : (i ≡ j) × (w ≡ u)). subst (λ (y : ℕ × Known T). Fits all' h.got (set views j w) h.reader y.0 y.1) (λ c. (sym t.0 c, t.1 c))
              record { takes = λ p. (let q = (mine.takes p).2 in absurd (omega arith)); offers = λ p. offered_same j h.all x ∙ ap (λ l. l ++ x ∷ []) (mine.offers may); names = mine.names; gathered = kept v.gathered mine.names mine.gathered })
              (λ (t : (i ≢ j) × (get_elem? views i ≡ some u)). let f = h.fits i u t.1 in record { takes = f.takes; offers = λ p. others i t.0 ∙ f.offers p; names = f.names; gathered = kept u.gathered f.names f.gathered })
              (at_set views j i w u e);
          strangers = λ i l. let l' : length views ≤ i = subst (λ (k : ℕ). k ≤ i) (length-set views j w) l in others i (λ e. (let q = at_in views j v at in omega arith)) ∙ h.strangers i l';
        },
        refl,
      )

  pub takes : (j : ℕ) (v : Known T) → 0 < v.takes → Pops Kept j v (Takes v)
  takes j v may x items views h at =
      let w : Known T = taken v x in
      let mine = h.fits j v at in
      let own = mine.takes may in
      let got' = h.got ++ x ∷ [] in
      let kept = stay h.all h.all views j v w at (inr may) (λ i n. refl) in (
        w,
        record {
          all = h.all;
          got = got';
          reader = h.reader;
          one = h.one ∙ sym (append_assoc h.got (x ∷ []) items);
          fits = λ i u e. ⊎_elim
              (λ (t : (i ≡ j) × (w ≡ u)). subst (λ (y : ℕ × Known T). Fits h.all got' (set views j w) h.reader y.0 y.1) (λ c. (sym t.0 c, t.1 c))
              record { takes = λ p. (own.0, ap (λ l. l ++ x ∷ []) own.1, own.2); offers = mine.offers; names = mine.names; gathered = kept v.gathered mine.names mine.gathered })
              (λ (t : (i ≢ j) × (get_elem? views i ≡ some u)). let f = h.fits i u t.1 in record { takes = λ p. absurd (t.0 ((f.takes p).0 ∙ sym own.0)); offers = f.offers; names = f.names; gathered = kept u.gathered f.names f.gathered })
              (at_set views j i w u e);
          strangers = λ i l. h.strangers i (subst (λ (k : ℕ). k ≤ i) (length-set views j w) l);
        },
        refl,
      )

  pub forks : (j : ℕ) (v : Known T) → 0 < v.takes → Forks Kept j v v offerer
  forks j v may items views h at =
      let new : Known T = offerer in
      let views1 = set views j v in
      let views' = views1 ++ new ∷ [] in
      let mine = h.fits j v at in
      let long : length views' ≡ length views + 1 = (let a = length-append views1 (new ∷ []) in let b = length-set views j v in omega arith) in
      let one_kept : (put : List T) (name : ℕ) → IsGathered h.all views put name → IsGathered h.all views' put name = λ put name g.
      let s = still h.all h.all views j v v at (inr may) (λ i n. refl) put name g in record {
        there = (let q = s.there in let b = length-set views j v in omega arith);
        spent = λ u e. ⊎_elim (λ (t : get_elem? views1 name ≡ some u). s.spent u t) (λ (t : (name ≡ length views1) × (new ≡ u)). absurd (let q = s.there in let a = t.0 in omega arith)) (at_snoc views1 new u name e);
        own = s.own;
      } in
      let kept = each_still h.all h.all views views' one_kept in
      record {
        all = h.all;
        got = h.got;
        reader = h.reader;
        one = h.one;
        fits = λ i u e. ⊎_elim
            (λ (t : get_elem? views1 i ≡ some u). ⊎_elim
            (λ (s : (i ≡ j) × (v ≡ u)). subst (λ (y : ℕ × Known T). Fits h.all h.got views' h.reader y.0 y.1) (λ c. (sym s.0 c, s.1 c)) record { takes = mine.takes; offers = mine.offers; names = mine.names; gathered = kept v.gathered mine.names mine.gathered })
            (λ (s : (i ≢ j) × (get_elem? views i ≡ some u)). let f = h.fits i u s.1 in record { takes = f.takes; offers = f.offers; names = f.names; gathered = kept u.gathered f.names f.gathered })
            (at_set views j i v u t))
            (λ (t : (i ≡ length views1) × (new ≡ u)). subst (λ (y : ℕ × Known T). Fits h.all h.got views' h.reader y.0 y.1) (λ c. (sym t.0 c, t.1 c))
            record { takes = λ p. absurd (omega arith); offers = λ p. h.strangers (length views1) (let b = length-set views j v in omega arith); names = []; gathered = tt })
            (at_snoc views1 new u i e);
        strangers = λ i l. h.strangers i (omega arith);
      }

  pub merges : (j : ℕ) (v : Known T) (other : ℕ) (w : Known T) → 0 < v.takes → 0 < w.offers → Merges Kept j v other w (with_gathered v w) gone
  merges j v other w may theirs items views h at apart at_w' =
      let both : Known T = with_gathered v w in
      let nobody : Known T = gone in
      let views1 = set views j both in
      let views' = set views1 other nobody in
      let at_w : get_elem? views other ≡ some w = sym (set_else views j other both apart) ∙ at_w' in
      let mine = h.fits j v at in
      let other_fits = h.fits other w at_w in
      let inside = at_in views other w at_w in
      let one_kept : (put : List T) (name : ℕ) → IsGathered h.all views put name → IsGathered h.all views' put name = λ put name g.
      still h.all h.all views1 other w nobody at_w' (inl theirs) (λ i n. refl) put name (still h.all h.all views j v both at (inr may) (λ i n. refl) put name g) in
      let kept = each_still h.all h.all views views' one_kept in
      let new : IsGathered h.all views' w.put other = record {
        there = (let a = length-set views1 other nobody in let b = length-set views j both in omega arith);
        spent = λ u e. let is : nobody ≡ u = some-injective nobody u (sym (set_here views1 other nobody (let b = length-set views j both in omega arith)) ∙ e) in (sym (ap (λ (z : Known T). z.offers) is), sym (ap (λ (z : Known T). z.takes) is));
        own = other_fits.offers theirs;
      } in
      record {
        all = h.all;
        got = h.got;
        reader = h.reader;
        one = h.one;
        fits = λ i u e. ⊎_elim
            (λ (t : (i ≡ other) × (nobody ≡ u)). subst (λ (y : ℕ × Known T). Fits h.all h.got views' h.reader y.0 y.1) (λ c. (sym t.0 c, t.1 c)) record { takes = λ p. absurd (omega arith); offers = λ p. absurd (omega arith); names = []; gathered = tt })
            (λ (t : (i ≢ other) × (get_elem? views1 i ≡ some u)). ⊎_elim
            (λ (s : (i ≡ j) × (both ≡ u)). subst (λ (y : ℕ × Known T). Fits h.all h.got views' h.reader y.0 y.1) (λ c. (sym s.0 c, s.1 c))
            record { takes = mine.takes; offers = mine.offers; names = other ∷ mine.names; gathered = (new, is_new h.all views other w at_w theirs v.gathered mine.names mine.gathered, kept v.gathered mine.names mine.gathered) })
            (λ (s : (i ≢ j) × (get_elem? views i ≡ some u)). let f = h.fits i u s.1 in record { takes = f.takes; offers = f.offers; names = f.names; gathered = kept u.gathered f.names f.gathered })
            (at_set views j i both u t.1))
            (at_set views1 other i nobody u e);
        strangers = λ i l. h.strangers i (let a = length-set views1 other nobody in let b = length-set views j both in omega arith);
      }

  pub tells : (j : ℕ) (v : Known T) → 0 < v.takes → Learns Kept j v (Tells v)
  tells j v may items views h at =
      let mine = h.fits j v at in
      let own = mine.takes may in
      record { all = h.all; names = mine.names; one = h.one ∙ ap (λ l. l ++ items) (sym own.1); theirs = theirs h.all views v.gathered mine.names mine.gathered }
