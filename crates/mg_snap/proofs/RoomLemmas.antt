-- What becomes of entries where one after another is changed, dropped or appended.
use Rattle.std.proofs.Common.{◌≡◌, ℕ, zero, suc, ◌+◌, ◌<◌, ◌≤◌, max, Bool, true, false, not, cond, ◌==◌, List, [], ◌∷◌, ◌++◌, length, map, filter, take, drop, set, slice_index_or, Option, Some, None, inl, inr, ◌⊎◌, refl, sym, ap, subst, ◌∙◌, arith}
use Rattle.std.proofs.lemmas.List.{length-append, length-map, map-append}
use Rattle.std.proofs.lemmas.Bool.{eqb-true, or_cases}
use Rattle.mg_snap.specs.Live.{AreDrawn, Entered, after_enter, is_among, numbers_of, without}
use Rattle.mg_snap.specs.LiveLaws.{among_more, drawn_after_drop, drawn_after_retract, numbers_more}
use Rattle.mg_snap.specs.Room.{AreWide, IsWide, Roomy, Stored, all_entered, entered_of, has_other_number, is_other}

-- ---- room

narrower_base : (m n : ℕ) (o : Option Roomy) → m ≤ n → IsWide n o → IsWide m o
narrower_base m n None le wide = tt
narrower_base m n (Some base) le wide = omega (arith, le, wide)

pub narrower : (m n : ℕ) (es : List Stored) → m ≤ n → AreWide n es → AreWide m es
narrower m n [] le wide = tt
narrower m n (e ∷ es) le wide = (narrower_base m n e.base le wide.0, narrower m n es le wide.1)

-- one entry more
pub wide_more : (n : ℕ) (es : List Stored) (e : Stored) → AreWide n es → IsWide n e.base
    → AreWide n (es ++ e ∷ [])
wide_more n [] e wide one = (one, tt)
wide_more n (x ∷ es) e wide one = (wide.0, wide_more n es e wide.1 one)

-- another entry in a place
pub wide_set : (n : ℕ) (es : List Stored) (i : ℕ) (e : Stored) → AreWide n es → IsWide n e.base
    → AreWide n (set es i e)
wide_set n [] i e wide one = tt
wide_set n (x ∷ es) zero e wide one = (one, wide.1)
wide_set n (x ∷ es) (suc i) e wide one = (wide.0, wide_set n es i e wide.1 one)

-- the entry in a place has room as all have
pub wide_at : (n : ℕ) (es : List Stored) (i : ℕ) (d : Stored) → i < length es → AreWide n es
    → IsWide n (slice_index_or es i d).base
wide_at n [] i d inside wide = absurd (omega (arith, inside))
wide_at n (x ∷ es) zero d inside wide = wide.0
wide_at n (x ∷ es) (suc i) d inside wide = wide_at n es i d (omega (arith, inside)) wide.1

-- the entries that are left
pub wide_left : (n t : ℕ) (es : List Stored) → AreWide n es → AreWide n (filter (has_other_number t) es)
wide_left n t [] wide = tt
wide_left n t (e ∷ es) wide = at (e.number == t) wide.0 (wide_left n t es wide.1)
  where
    at : (p : Bool) → IsWide n e.base → AreWide n (filter (has_other_number t) es)
        → AreWide n (cond (not p) (e ∷ filter (has_other_number t) es) (filter (has_other_number t) es))
    at true one rest = rest
    at false one rest = (one, rest)

pub fewer_left : (t : ℕ) (es : List Stored) → length (filter (has_other_number t) es) ≤ length es
fewer_left t [] = omega arith
fewer_left t (e ∷ es) = at (e.number == t) (fewer_left t es)
  where
    at : (p : Bool) → length (filter (has_other_number t) es) ≤ length es
        → length (cond (not p) (e ∷ filter (has_other_number t) es) (filter (has_other_number t) es))
        ≤ length (e ∷ es)
    at true le = omega (arith, le)
    at false le = omega (arith, le)

-- ---- what is entered

pub entered_left : (t : ℕ) (es : List Stored)
    → all_entered (filter (has_other_number t) es) ≡ without t (all_entered es)
entered_left t [] = refl
entered_left t (e ∷ es) = at (e.number == t) (entered_left t es)
  where
    at : (p : Bool) → all_entered (filter (has_other_number t) es) ≡ without t (all_entered es)
        → all_entered (cond (not p) (e ∷ filter (has_other_number t) es)
        (filter (has_other_number t) es))
        ≡ cond (not p) (entered_of e ∷ without t (all_entered es)) (without t (all_entered es))
    at true same = same
    at false same = ap (λ (xs : List Entered). entered_of e ∷ xs) same

pub numbers_left : (t : ℕ) (es : List Entered)
    → filter (is_other t) (numbers_of es) ≡ numbers_of (without t es)
numbers_left t [] = refl
numbers_left t (e ∷ es) = at (e.number == t) (numbers_left t es)
  where
    at : (p : Bool) → filter (is_other t) (numbers_of es) ≡ numbers_of (without t es)
        → cond (not p) (e.number ∷ filter (is_other t) (numbers_of es)) (filter (is_other t) (numbers_of es))
        ≡ numbers_of (cond (not p) (e ∷ without t es) (without t es))
    at true same = same
    at false same = ap (λ (ns : List ℕ). e.number ∷ ns) same

pub entered_more : (es : List Stored) (e : Stored)
    → all_entered (es ++ e ∷ []) ≡ all_entered es ++ entered_of e ∷ []
entered_more es e = map-append entered_of es (e ∷ [])

-- the entry at the next place is changed as those before it were
pub turn : (f : Entered → Entered) (start : List Entered) (now : List Stored) (i : ℕ) (d e : Stored)
    → i < length start → all_entered now ≡ map f (take i start) ++ drop i start
    → entered_of e ≡ f (entered_of (slice_index_or now i d))
    → all_entered (set now i e) ≡ map f (take (suc i) start) ++ drop (suc i) start
turn f [] now i d e inside is changed = absurd (omega (arith, inside))
turn f (x ∷ start) [] zero d e inside is changed = cc
turn f (x ∷ start) [] (suc i) d e inside is changed = cc
turn f (x ∷ start) (y ∷ now) zero d e inside is changed =
    let here : entered_of y ≡ x = cc in
    let rest : all_entered now ≡ start = cc in
    ap (λ (z : Entered). z ∷ all_entered now) (changed ∙ ap f here)
    ∙ ap (λ (zs : List Entered). f x ∷ zs) rest
turn f (x ∷ start) (y ∷ now) (suc i) d e inside is changed =
    let here : entered_of y ≡ f x = cc in
    let rest : all_entered now ≡ map f (take i start) ++ drop i start = cc in
    ap (λ (z : Entered). z ∷ all_entered (set now i e)) here
    ∙ ap (λ (zs : List Entered). f x ∷ zs) (turn f start now i d e (omega (arith, inside)) rest changed)

-- an entry that is the same without its room
pub same_set : (now : List Stored) (i : ℕ) (d e : Stored) → i < length now
    → entered_of e ≡ entered_of (slice_index_or now i d) → all_entered (set now i e) ≡ all_entered now
same_set [] i d e inside same = absurd (omega (arith, inside))
same_set (x ∷ now) zero d e inside same = ap (λ (z : Entered). z ∷ all_entered now) same
same_set (x ∷ now) (suc i) d e inside same =
    ap (λ (zs : List Entered). entered_of x ∷ zs) (same_set now i d e (omega (arith, inside)) same)

-- the first so many have room for one more, and all for so many
abbrev pub WidenTo : ℕ → ℕ → List Stored → Type 0
WidenTo n i [] = Unit {0}
WidenTo n zero (e ∷ es) = IsWide n e.base × WidenTo n zero es
WidenTo n (suc i) (e ∷ es) = IsWide (n + 1) e.base × WidenTo n i es

pub widen_none : (n : ℕ) (es : List Stored) → AreWide n es → WidenTo n 0 es
widen_none n [] wide = tt
widen_none n (e ∷ es) wide = (wide.0, widen_none n es wide.1)

pub widen_all : (n i : ℕ) (es : List Stored) → length es ≤ i → WidenTo n i es → AreWide (n + 1) es
widen_all n i [] all wide = tt
widen_all n zero (e ∷ es) all wide = absurd (omega (arith, all))
widen_all n (suc i) (e ∷ es) all wide = (wide.0, widen_all n i es (omega (arith, all)) wide.1)

pub widen_some : (n i : ℕ) (es : List Stored) → WidenTo n i es → AreWide n es
widen_some n i [] wide = tt
widen_some n zero (e ∷ es) wide = (wide.0, widen_some n 0 es wide.1)
widen_some n (suc i) (e ∷ es) wide =
    (narrower_base n (n + 1) e.base (omega arith) wide.0, widen_some n i es wide.1)

pub widen_one : (n i : ℕ) (es : List Stored) (d e : Stored) → i < length es → WidenTo n i es
    → (IsWide n (slice_index_or es i d).base → IsWide (n + 1) e.base) → WidenTo n (suc i) (set es i e)
widen_one n i [] d e inside wide one = absurd (omega (arith, inside))
widen_one n zero (x ∷ es) d e inside wide one = (one wide.0, wide.1)
widen_one n (suc i) (x ∷ es) d e inside wide one =
    (wide.0, widen_one n i es d e (omega (arith, inside)) wide.1 one)

-- ---- the same, of the entry that was read at the place

next_place : (i : ℕ) → suc i ≡ i + 1
next_place i = omega arith

pub wide_at_read : (n : ℕ) (es : List Stored) (i : ℕ) (d : Stored) → d ≡ slice_index_or es i d
    → i < length es → AreWide n es → IsWide n d.base
wide_at_read n es i d read inside wide =
    subst (λ (e : Stored). IsWide n e.base) (sym read) (wide_at n es i d inside wide)

pub turn_read : (f : Entered → Entered) (start now : List Stored) (i : ℕ) (d e : Stored)
    → i < length now → length now ≡ length start
    → all_entered now ≡ map f (take i (all_entered start)) ++ drop i (all_entered start)
    → d ≡ slice_index_or now i d → entered_of e ≡ f (entered_of d)
    → all_entered (set now i e) ≡ map f (take (i + 1) (all_entered start)) ++ drop (i + 1) (all_entered start)
turn_read f start now i d e inside count is read changed =
    subst (λ (j : ℕ). all_entered (set now i e)
    ≡ map f (take j (all_entered start)) ++ drop j (all_entered start)) (next_place i) (turn f (all_entered start) now i d e
    (let long : length (all_entered start) ≡ length start = length-map start entered_of in
    omega (arith, inside, count, long)) is
    (changed ∙ ap (λ (x : Stored). f (entered_of x)) read))

pub wide_turn : (n : ℕ) (now : List Stored) (i : ℕ) (d e : Stored) → i < length now
    → d ≡ slice_index_or now i d → AreWide n now → (IsWide n d.base → IsWide n e.base)
    → AreWide n (set now i e)
wide_turn n now i d e inside read wide keeps =
    wide_set n now i e wide (keeps (wide_at_read n now i d read inside wide))

pub same_read : (now : List Stored) (i : ℕ) (d e : Stored) → i < length now
    → d ≡ slice_index_or now i d → entered_of e ≡ entered_of d
    → all_entered (set now i e) ≡ all_entered now
same_read now i d e inside read same =
    same_set now i d e inside (same ∙ ap entered_of read)

pub widen_read : (n : ℕ) (now : List Stored) (i : ℕ) (d e : Stored) → i < length now
    → d ≡ slice_index_or now i d → WidenTo n i now → (IsWide n d.base → IsWide (n + 1) e.base)
    → WidenTo n (i + 1) (set now i e)
widen_read n now i d e inside read wide one =
    subst (λ (j : ℕ). WidenTo n j (set now i e)) (next_place i) (widen_one n i now d e inside wide
    (λ there. one (subst (λ (x : Stored). IsWide n x.base) (sym read) there)))

-- ---- what the table of entries keeps

-- each number was drawn, the numbers are those of the entries, and each base has room for all
abbrev pub IsTable : ℕ → List ℕ → List Stored → Type 0
IsTable next numbers es = AreDrawn (record { next = next; entered = all_entered es })
    × (numbers ≡ numbers_of (all_entered es)) × AreWide (length es) es

same_length : (old new : List Stored) → all_entered new ≡ all_entered old → length new ≡ length old
same_length old new same = sym (length-map new entered_of) ∙ ap length same ∙ length-map old entered_of

-- the bases have more room
pub table_wider : (next : ℕ) (numbers : List ℕ) (old new : List Stored) → IsTable next numbers old
    → all_entered new ≡ all_entered old → ((n : ℕ) → AreWide n old → AreWide n new)
    → IsTable next numbers new
table_wider next numbers old new table same wide = (
  subst (λ (es : List Entered). AreDrawn (record { next = next; entered = es })) (sym same) table.0,
  table.1 ∙ ap numbers_of (sym same),
  subst (λ (k : ℕ). AreWide k new) (sym (same_length old new same)) (wide (length old) table.2),
)

-- other bases, of the same transactions
pub table_changed : (next : ℕ) (numbers : List ℕ) (old new : List Stored) → IsTable next numbers old
    → numbers_of (all_entered new) ≡ numbers_of (all_entered old) → length new ≡ length old
    → ((n : ℕ) → AreWide n old → AreWide n new) → IsTable next numbers new
table_changed next numbers old new table same count wide = (
  λ t among. table.0 t (ap (λ (ns : List ℕ). is_among ns t) (sym same) ∙ among),
  table.1 ∙ sym same,
  subst (λ (k : ℕ). AreWide k new) (sym count) (wide (length old) table.2),
)

-- the entries of a transaction are gone
pub table_left : (next t : ℕ) (numbers : List ℕ) (es : List Stored) → IsTable next numbers es
    → IsTable next (filter (is_other t) numbers) (filter (has_other_number t) es)
table_left next t numbers es table = (
  drawn_after_drop next t (all_entered es) (all_entered (filter (has_other_number t) es))
      (entered_left t es) table.0,
  ap (filter (is_other t)) table.1 ∙ numbers_left t (all_entered es)
      ∙ ap numbers_of (sym (entered_left t es)),
  narrower (length (filter (has_other_number t) es)) (length es) (filter (has_other_number t) es)
      (fewer_left t es) (wide_left (length es) t es table.2),
)

-- a transaction has entered, and each base has room for one more than before
pub table_more : (next now t : ℕ) (numbers : List ℕ) (old wider : List Stored) (e : Stored)
    → IsTable next numbers old → all_entered wider ≡ all_entered old
    → ((n : ℕ) → AreWide n old → AreWide (n + 1) wider) → e.number ≡ t → IsWide (length old + 1) e.base
    → next ≤ now → t < now → IsTable now (numbers ++ t ∷ []) (wider ++ e ∷ [])
table_more next now t numbers old wider e table same wide is room le below = (
  λ u among. at u (or_cases (is_among (numbers_of (all_entered wider)) u) (e.number == u)
      (sym (among_more (numbers_of (all_entered wider)) e.number u)
      ∙ (ap (λ (ns : List ℕ). is_among ns u) (sym all_numbers) ∙ among))),
  ap (λ (ns : List ℕ). ns ++ t ∷ []) (table.1 ∙ ap numbers_of (sym same))
      ∙ ap (λ (n : ℕ). numbers_of (all_entered wider) ++ n ∷ []) (sym is) ∙ sym all_numbers,
  subst (λ (k : ℕ). AreWide k (wider ++ e ∷ [])) (sym count)
      (wide_more (length old + 1) wider e (wide (length old) table.2) room),
)
  where
    all_numbers : numbers_of (all_entered (wider ++ e ∷ []))
        ≡ numbers_of (all_entered wider) ++ e.number ∷ []
    all_numbers = ap numbers_of (entered_more wider e) ∙ numbers_more (all_entered wider) (entered_of e)

    count : length (wider ++ e ∷ []) ≡ length old + 1
    count = length-append wider (e ∷ []) ∙ ap (λ (k : ℕ). k + 1) (same_length old wider same)

    at : (u : ℕ) → (is_among (numbers_of (all_entered wider)) u ≡ true) ⊎ ((e.number == u) ≡ true) → u < now
    at u (inl before) = let early : u < next = table.0 u
        (ap (λ (es : List Entered). is_among (numbers_of es) u) (sym same) ∙ before) in omega arith
    at u (inr new) = let here : e.number ≡ u = eqb-true e.number u new in omega (arith, here, is, below)

-- the one that enters comes last, and its base sees what has ended
pub enters : (next drawn t room : ℕ) (numbers unended : List ℕ) (old wider : List Stored)
    → IsTable next numbers old → all_entered wider ≡ all_entered old → drawn ≡ max next (t + 1)
    → unended ≡ numbers ++ t ∷ []
    → record {
      next = drawn;
      entered = all_entered (wider ++ record {
        number = t;
        base = Some (record { snapshot = record { drawn = drawn; unended = unended }; room = room });
      } ∷ []);
    } ≡ after_enter (record { next = next; entered = all_entered old }) t
enters next drawn t room numbers unended old wider table same is others =
    ap (λ (es : List Entered). record { next = drawn; entered = es }) (entered_more wider _)
    ∙ ap (λ (es : List Entered). record {
      next = drawn;
      entered = es ++ record {
        number = t;
        base = Some (record { drawn = drawn; unended = unended });
      } ∷ [];
    }) same
    ∙ ap (λ (ns : List ℕ). record {
      next = drawn;
      entered = all_entered old ++ record {
        number = t;
        base = Some (record { drawn = drawn; unended = ns });
      } ∷ [];
    }) (others ∙ ap (λ (ns : List ℕ). ns ++ t ∷ []) table.1)
    ∙ ap (λ (k : ℕ). record {
      next = k;
      entered = all_entered old ++ record {
        number = t;
        base = Some (record {
          drawn = k;
          unended = numbers_of (all_entered old) ++ t ∷ [];
        });
      } ∷ [];
    }) is

-- an entry as it is made
abbrev pub entry_of : ℕ → ℕ → List ℕ → Stored
entry_of t drawn unended = record {
  number = t;
  base = Some (record {
    snapshot = record { drawn = drawn; unended = unended };
    room = length unended;
  });
}

-- what `enter` leaves, from what its calls promise
pub entered_table : (next drawn t : ℕ) (numbers more unended : List ℕ) (old wider new : List Stored)
    → IsTable next numbers old → all_entered wider ≡ all_entered old
    → ((n : ℕ) → AreWide n old → AreWide (n + 1) wider) → drawn ≡ max next (t + 1)
    → more ≡ numbers ++ t ∷ [] → unended ≡ numbers ++ t ∷ []
    → new ≡ wider ++ entry_of t drawn unended ∷ [] → IsTable drawn more new
entered_table next drawn t numbers more unended old wider new table same wide is all others made =
    subst (λ (es : List Stored). IsTable drawn more es) (sym made)
    (subst (λ (ns : List ℕ). IsTable drawn ns (wider ++ entry_of t drawn unended ∷ [])) (sym all)
    (table_more next drawn t numbers old wider (entry_of t drawn unended) table same wide refl room
    (omega (arith, is)) (omega (arith, is))))
  where
    room : length old + 1 ≤ length unended
    room =
        let long : length unended ≡ length numbers + 1 =
        ap length others ∙ length-append numbers (t ∷ []) in
        let count : length numbers ≡ length old =
        ap length table.1 ∙ length-map (all_entered old) (λ (e : Entered). e.number)
        ∙ length-map old entered_of in
        omega (arith, long, count)

pub entered_state : (next drawn t : ℕ) (numbers unended : List ℕ) (old wider new : List Stored)
    → IsTable next numbers old → all_entered wider ≡ all_entered old → drawn ≡ max next (t + 1)
    → unended ≡ numbers ++ t ∷ [] → new ≡ wider ++ entry_of t drawn unended ∷ []
    → record { next = drawn; entered = all_entered new }
    ≡ after_enter (record { next = next; entered = all_entered old }) t
entered_state next drawn t numbers unended old wider new table same is others made =
    ap (λ (es : List Stored). record { next = drawn; entered = all_entered es }) made
    ∙ enters next drawn t (length unended) numbers unended old wider table same is others

-- the entry of the last transaction is gone, and it is the next one again
pub table_retracted : (next t : ℕ) (numbers : List ℕ) (es : List Stored) → IsTable next numbers es
    → ((u : ℕ) → is_among (numbers_of (all_entered es)) u ≡ true → u ≤ t)
    → IsTable t (filter (is_other t) numbers) (filter (has_other_number t) es)
table_retracted next t numbers es table last = (
  drawn_after_retract t (all_entered es) (all_entered (filter (has_other_number t) es))
      (entered_left t es) last,
  (table_left next t numbers es table).1,
  (table_left next t numbers es table).2,
)
