-- The directories of several tables: a place among them, without one, and one more.
use Rattle.std.proofs.Common.{◌≡◌, ◌≢◌, ◌≤◌, ◌<◌, ◌⊎◌, inl, inr, ◌∙◌, ◌++◌, ◌+◌, ◌==◌, ◌&&◌, not, ℕ, zero, suc, Bool, true, false, List, [], ◌∷◌, Option, None, Some, arith, ap, cond, get_or, length, refl, set, subst, sym}
use Rattle.std.proofs.lemmas.Bool.{cases_eq, eq-eqb, ne_eqb}
use Rattle.std.proofs.lemmas.List.{length-set, length_push}
use Rattle.mg_base.specs.declared.numbers.RecId.{RecId}
use Rattle.mg_directory.specs.Bounds.{AreFewer, IsBounded, IsNowhere, IsPlaceOf, IsTooLarge, LeavesNoted, LeavesPlace, Places, without}
use Rattle.mg_directory.specs.CandidateLaws.{adds_notes}
use Rattle.mg_directory.specs.Candidates.{Adds, ByKey, Drops, Kept, KeepsOrDrops, MarksFor, Noted, NotesIn, NotesOrDrops, Stays, by_table, is_marked, may_be_made, notes_in, under}
use Rattle.mg_directory.specs.declared.TheConstants.{MOST_NOTED, MOST_TABLES}

-- ---- a place

later : (dir : Noted) (dirs : List Noted) (first place : ℕ) → IsPlaceOf (dir ∷ dirs) first (suc place)
    → IsPlaceOf dirs first place
later dir dirs first place is = record {
  inside = let inside = is.inside in omega (arith, inside);
  its = is.its;
  earlier = λ k d low. is.earlier (suc k) d (omega (arith, low));
}

off_first : (dir : Noted) (dirs : List Noted) (first place : ℕ) → IsPlaceOf (dir ∷ dirs) first (suc place)
    → dir.first ≢ first
off_first dir dirs first place is = is.earlier 0 dir (omega arith)

pub nowhere_none : (dirs : List Noted) (first : ℕ) → IsNowhere dirs first → by_table dirs first ≡ None
nowhere_none [] first nowhere = refl
nowhere_none (dir ∷ dirs) first nowhere = rw (ne_eqb dir.first first (nowhere 0 dir (omega arith)))
    (nowhere_none dirs first (λ k d low. nowhere (suc k) d (omega (arith, low))))

pub place_some : (dirs : List Noted) (first place : ℕ) (d : Noted) → IsPlaceOf dirs first place
    → by_table dirs first ≡ Some (under (get_or dirs place d))
place_some [] first place d is = absurd (let inside = is.inside in omega (arith, inside))
place_some (dir ∷ dirs) first zero d is = rw (eq-eqb dir.first first (is.its dir)) refl
place_some (dir ∷ dirs) first (suc place) d is = rw (ne_eqb dir.first first (off_first dir dirs first place is))
    (place_some dirs first place d (later dir dirs first place is))

-- another one stands there
pub set_some : (dirs : List Noted) (first place : ℕ) (new : Noted) → IsPlaceOf dirs first place
    → new.first ≡ first → by_table (set dirs place new) first ≡ Some (under new)
set_some [] first place new is same = absurd (let inside = is.inside in omega (arith, inside))
set_some (dir ∷ dirs) first zero new is same = rw (eq-eqb new.first first same) refl
set_some (dir ∷ dirs) first (suc place) new is same =
    rw (ne_eqb dir.first first (off_first dir dirs first place is))
    (set_some dirs first place new (later dir dirs first place is) same)

-- ---- without a table's

its_goes : (first : ℕ) (dir : Noted) (dirs : List Noted) → dir.first ≡ first
    → without first (dir ∷ dirs) ≡ without first dirs
its_goes first dir dirs same = rw (eq-eqb dir.first first same) refl

other_stays : (first : ℕ) (dir : Noted) (dirs : List Noted) → dir.first ≢ first
    → without first (dir ∷ dirs) ≡ dir ∷ without first dirs
other_stays first dir dirs off = rw (ne_eqb dir.first first off) refl

pub set_apart : (dirs : List Noted) (first place : ℕ) (new : Noted) → IsPlaceOf dirs first place
    → new.first ≡ first → without first (set dirs place new) ≡ without first dirs
set_apart [] first place new is same = refl
set_apart (dir ∷ dirs) first zero new is same =
    its_goes first new dirs same ∙ sym (its_goes first dir dirs (is.its dir))
set_apart (dir ∷ dirs) first (suc place) new is same =
    other_stays first dir (set dirs place new) (off_first dir dirs first place is)
    ∙ (ap (λ (ds : List Noted). dir ∷ ds) (set_apart dirs first place new (later dir dirs first place is) same)
    ∙ sym (other_stays first dir dirs (off_first dir dirs first place is)))

pub without_none : (dirs : List Noted) (first : ℕ) → by_table (without first dirs) first ≡ None
without_none [] first = refl
without_none (dir ∷ dirs) first = at (cases_eq dir.first first) (without_none dirs first)
  where
    at : (dir.first ≡ first) ⊎ (dir.first ≢ first) → by_table (without first dirs) first ≡ None
        → by_table (without first (dir ∷ dirs)) first ≡ None
    at (inl same) rest = ap (λ (ds : List Noted). by_table ds first) (its_goes first dir dirs same) ∙ rest
    at (inr off) rest = ap (λ (ds : List Noted). by_table ds first) (other_stays first dir dirs off)
        ∙ rw (ne_eqb dir.first first off) rest

pub without_others : (dirs : List Noted) (first other : ℕ) → other ≢ first
    → by_table (without first dirs) other ≡ by_table dirs other
without_others [] first other apart = refl
without_others (dir ∷ dirs) first other apart = at (cases_eq dir.first first) (without_others dirs first other apart)
  where
    at : (dir.first ≡ first) ⊎ (dir.first ≢ first) → by_table (without first dirs) other ≡ by_table dirs other
        → by_table (without first (dir ∷ dirs)) other ≡ by_table (dir ∷ dirs) other
    at (inl same) rest = ap (λ (ds : List Noted). by_table ds other) (its_goes first dir dirs same)
        ∙ rw (ne_eqb dir.first other (λ e. apart (sym e ∙ same))) rest
    at (inr off) rest = ap (λ (ds : List Noted). by_table ds other) (other_stays first dir dirs off)
        ∙ ap (λ (o : Option ByKey). cond (dir.first == other) (Some (under dir)) o) rest

pub without_twice : (dirs : List Noted) (first : ℕ) → without first (without first dirs) ≡ without first dirs
without_twice [] first = refl
without_twice (dir ∷ dirs) first = at (cases_eq dir.first first) (without_twice dirs first)
  where
    at : (dir.first ≡ first) ⊎ (dir.first ≢ first) → without first (without first dirs) ≡ without first dirs
        → without first (without first (dir ∷ dirs)) ≡ without first (dir ∷ dirs)
    at (inl same) rest = ap (without first) (its_goes first dir dirs same)
        ∙ (rest ∙ sym (its_goes first dir dirs same))
    at (inr off) rest = ap (without first) (other_stays first dir dirs off)
        ∙ (other_stays first dir (without first dirs) off
        ∙ (ap (λ (ds : List Noted). dir ∷ ds) rest ∙ sym (other_stays first dir dirs off)))

-- there are no more of them
pub without_notes : (dirs : List Noted) (first : ℕ) → notes_in (without first dirs) ≤ notes_in dirs
without_notes [] first = omega arith
without_notes (dir ∷ dirs) first = at (cases_eq dir.first first) (without_notes dirs first)
  where
    at : (dir.first ≡ first) ⊎ (dir.first ≢ first) → notes_in (without first dirs) ≤ notes_in dirs
        → notes_in (without first (dir ∷ dirs)) ≤ notes_in (dir ∷ dirs)
    at (inl same) rest = subst (λ (ds : List Noted). notes_in ds ≤ notes_in (dir ∷ dirs))
        (sym (its_goes first dir dirs same)) (omega (arith, rest))
    at (inr off) rest = subst (λ (ds : List Noted). notes_in ds ≤ notes_in (dir ∷ dirs))
        (sym (other_stays first dir dirs off)) (omega (arith, rest))

pub without_tables : (dirs : List Noted) (first : ℕ) → length (without first dirs) ≤ length dirs
without_tables [] first = omega arith
without_tables (dir ∷ dirs) first = at (cases_eq dir.first first) (without_tables dirs first)
  where
    at : (dir.first ≡ first) ⊎ (dir.first ≢ first) → length (without first dirs) ≤ length dirs
        → length (without first (dir ∷ dirs)) ≤ length (dir ∷ dirs)
    at (inl same) rest = subst (λ (ds : List Noted). length ds ≤ length (dir ∷ dirs))
        (sym (its_goes first dir dirs same)) (omega (arith, rest))
    at (inr off) rest = subst (λ (ds : List Noted). length ds ≤ length (dir ∷ dirs))
        (sym (other_stays first dir dirs off)) (omega (arith, rest))

-- without the first one there is one less
pub without_first : (dirs : List Noted) (d : Noted) → 0 < length dirs
    → length (without (get_or dirs 0 d).first dirs) < length dirs
without_first [] d some = absurd (omega (arith, some))
without_first (dir ∷ dirs) d some =
    let fewer : length (without dir.first dirs) ≤ length dirs = without_tables dirs dir.first in
    subst (λ (ds : List Noted). length ds < length (dir ∷ dirs)) (sym (its_goes dir.first dir dirs refl))
    (omega (arith, fewer))

without_stay : (dirs : List Noted) (first other : ℕ) → (other ≡ first) ⊎ (other ≢ first)
    → Stays (by_table dirs other) (by_table (without first dirs) other)
without_stay dirs first other (inl same) = inr (ap (by_table (without first dirs)) same ∙ without_none dirs first)
without_stay dirs first other (inr off) = inl (without_others dirs first other off)

pub without_fewer : (dirs : List Noted) (first : ℕ) → AreFewer dirs (without first dirs)
without_fewer dirs first = record {
  stay = λ other. without_stay dirs first other (cases_eq other first);
  notes = without_notes dirs first;
  tables = without_tables dirs first;
}

pub all_fewer : (dirs : List Noted) → AreFewer dirs dirs
all_fewer dirs = record { stay = λ other. inl refl; notes = omega arith; tables = omega arith }

pub drops : (dirs : List Noted) (first : ℕ) → Drops (by_table dirs) (by_table (without first dirs)) first
drops dirs first = record {
  its = without_none dirs first;
  others = λ other off. without_others dirs first other off;
}

pub bounded_without : (most : ℕ) (dirs : List Noted) (first : ℕ) → IsBounded most dirs
    → IsBounded most (without first dirs)
bounded_without most dirs first is =
    let notes : notes_in (without first dirs) ≤ notes_in dirs = without_notes dirs first in
    let tables : length (without first dirs) ≤ length dirs = without_tables dirs first in
    let its_notes : notes_in dirs ≤ most = is.notes in
    let its_tables : length dirs ≤ MOST_TABLES = is.tables in
    record {
      bound = is.bound;
      tables = omega (arith, tables, its_tables);
      notes = omega (arith, notes, its_notes);
    }

-- ---- a note

set_notes : (dirs : List Noted) (place : ℕ) (new d : Noted) → place < length dirs
    → length new.notes ≤ length (get_or dirs place d).notes + 1
    → notes_in (set dirs place new) ≤ notes_in dirs + 1
set_notes [] place new d low more = absurd (omega (arith, low))
set_notes (dir ∷ dirs) zero new d low more = omega (arith, more)
set_notes (dir ∷ dirs) (suc place) new d low more =
    let rest : notes_in (set dirs place new) ≤ notes_in dirs + 1 =
    set_notes dirs place new d (omega (arith, low)) more in
    omega (arith, rest)

adds_first : (old new : Noted) (bytes : List ℕ) (rec : RecId) → Adds old new bytes rec → new.first ≡ old.first
adds_first old new bytes rec (inl (same, there)) = ap (λ (dir : Noted). dir.first) same
adds_first old new bytes rec (inr is) = ap (λ (dir : Noted). dir.first) is

adds_count : (old new : Noted) (bytes : List ℕ) (rec : RecId) → Adds old new bytes rec
    → length new.notes ≤ length old.notes + 1
adds_count old new bytes rec (inl (same, there)) =
    subst (λ (dir : Noted). length dir.notes ≤ length old.notes + 1) (sym same) (omega arith)
adds_count old new bytes rec (inr is) =
    subst (λ (dir : Noted). length dir.notes ≤ length old.notes + 1) (sym is) (omega arith)

pub noted_there : (dirs : List Noted) (first place : ℕ) (bytes : List ℕ) (rec : RecId) (was now : Noted)
    → IsPlaceOf dirs first place → was ≡ get_or dirs place was → Adds was now bytes rec
    → LeavesNoted dirs (set dirs place now) first bytes rec
noted_there dirs first place bytes rec was now is value adds =
    let same : now.first ≡ first = adds_first was now bytes rec adds
    ∙ (ap (λ (dir : Noted). dir.first) value ∙ is.its was) in
    let had : by_table dirs first ≡ Some (under was) = place_some dirs first place was is
    ∙ ap (λ (dir : Noted). Some (under dir)) (sym value) in
    let has : by_table (set dirs place now) first ≡ Some (under now) = set_some dirs first place now is same in
    record {
      its = subst (λ (o : Option ByKey). NotesIn o (by_table (set dirs place now) first) bytes rec) (sym had)
          (subst (λ (o : Option ByKey). NotesIn (Some (under was)) o bytes rec) (sym has)
          (adds_notes was now bytes rec adds));
      others = set_apart dirs first place now is same;
      notes = set_notes dirs place now was is.inside
          (subst (λ (dir : Noted). length now.notes ≤ length dir.notes + 1) value
          (adds_count was now bytes rec adds));
      tables = let same_ : length (set dirs place now) ≡ length dirs = length-set dirs place now in
          omega (arith, same_);
    }

none_noted : (was now : Option ByKey) (bytes : List ℕ) (rec : RecId) → now ≡ None → NotesIn was now bytes rec
none_noted was now bytes rec none = subst (λ (o : Option ByKey). NotesIn was o bytes rec) (sym none) tt

pub noted_nowhere : (dirs : List Noted) (first : ℕ) (bytes : List ℕ) (rec : RecId) → IsNowhere dirs first
    → LeavesNoted dirs dirs first bytes rec
noted_nowhere dirs first bytes rec nowhere = record {
  its = none_noted (by_table dirs first) (by_table dirs first) bytes rec (nowhere_none dirs first nowhere);
  others = refl;
  notes = omega arith;
  tables = omega arith;
}

pub noted_dropped : (dirs mid : List Noted) (first place : ℕ) (bytes : List ℕ) (rec : RecId) (was now : Noted)
    → IsPlaceOf dirs first place → was ≡ get_or dirs place was → now ≡ was
    → mid ≡ without first (set dirs place now) → LeavesNoted dirs mid first bytes rec
noted_dropped dirs mid first place bytes rec was now is value same left =
    let its : now.first ≡ first = ap (λ (dir : Noted). dir.first) (same ∙ value) ∙ is.its was in
    let all_ : mid ≡ without first dirs = left ∙ set_apart dirs first place now is its in
    subst (λ (ds : List Noted). LeavesNoted dirs ds first bytes rec) (sym all_)
    (record {
      its = none_noted (by_table dirs first) (by_table (without first dirs) first) bytes rec (without_none dirs first);
      others = without_twice dirs first;
      notes = let notes_ : notes_in (without first dirs) ≤ notes_in dirs = without_notes dirs first in
          omega (arith, notes_);
      tables = without_tables dirs first;
    })

others_same : (dirs new : List Noted) (first other : ℕ) → without first new ≡ without first dirs → other ≢ first
    → by_table new other ≡ by_table dirs other
others_same dirs new first other same off = sym (without_others new first other off)
    ∙ (ap (λ (ds : List Noted). by_table ds other) same ∙ without_others dirs first other off)

-- what it does where it stays within the bound
pub notes_within : (dirs new : List Noted) (first : ℕ) (bytes : List ℕ) (rec : RecId)
    → LeavesNoted dirs new first bytes rec → NotesOrDrops (by_table dirs) (by_table new) first bytes rec
notes_within dirs new first bytes rec leaves = record {
  its = leaves.its;
  others = λ other off. others_same dirs new first other leaves.others off;
}

-- and where it does not
pub notes_past : (dirs new left : List Noted) (first : ℕ) (bytes : List ℕ) (rec : RecId)
    → LeavesNoted dirs new first bytes rec → left ≡ without first new
    → NotesOrDrops (by_table dirs) (by_table left) first bytes rec
notes_past dirs new left first bytes rec leaves is =
    let all_ : left ≡ without first dirs = is ∙ leaves.others in
    subst (λ (ds : List Noted). NotesOrDrops (by_table dirs) (by_table ds) first bytes rec) (sym all_)
    (record {
      its = none_noted (by_table dirs first) (by_table (without first dirs) first) bytes rec (without_none dirs first);
      others = λ other off. without_others dirs first other off;
    })

pub bounded_past : (most : ℕ) (dirs new left : List Noted) (first : ℕ) (bytes : List ℕ) (rec : RecId)
    → IsBounded most dirs → LeavesNoted dirs new first bytes rec → left ≡ without first new → IsBounded most left
bounded_past most dirs new left first bytes rec is leaves gone =
    subst (IsBounded most) (sym (gone ∙ leaves.others)) (bounded_without most dirs first is)

-- ---- one more

push_its : (dirs : List Noted) (dir : Noted) → by_table dirs dir.first ≡ None
    → by_table (dirs ++ dir ∷ []) dir.first ≡ Some (under dir)
push_its [] dir none = rw (eq-eqb dir.first dir.first refl) refl
push_its (d ∷ dirs) dir none = at (d.first == dir.first) none (push_its dirs dir)
  where
    at : (b : Bool) → cond b (Some (under d)) (by_table dirs dir.first) ≡ None
        → (by_table dirs dir.first ≡ None → by_table (dirs ++ dir ∷ []) dir.first ≡ Some (under dir))
        → cond b (Some (under d)) (by_table (dirs ++ dir ∷ []) dir.first) ≡ Some (under dir)
    at true some more = absurd cc
    at false rest more = more rest

push_other : (dirs : List Noted) (dir : Noted) (other : ℕ) → other ≢ dir.first
    → by_table (dirs ++ dir ∷ []) other ≡ by_table dirs other
push_other [] dir other off = rw (ne_eqb dir.first other (λ e. off (sym e))) refl
push_other (d ∷ dirs) dir other off =
    ap (λ (o : Option ByKey). cond (d.first == other) (Some (under d)) o) (push_other dirs dir other off)

pub push_notes : (dirs : List Noted) (dir : Noted) → notes_in (dirs ++ dir ∷ []) ≡ notes_in dirs + length dir.notes
push_notes [] dir = omega arith
push_notes (d ∷ dirs) dir =
    let rest : notes_in (dirs ++ dir ∷ []) ≡ notes_in dirs + length dir.notes = push_notes dirs dir in
    omega (arith, rest)

stays_none : (was now : Option ByKey) → Stays was now → was ≡ None → now ≡ None
stays_none was now (inl same) none = same ∙ none
stays_none was now (inr gone) none = gone

stays_on : (old was now : Option ByKey) → was ≡ old → Stays was now → Stays old now
stays_on old was now same (inl is) = inl (is ∙ same)
stays_on old was now same (inr gone) = inr gone

-- a directory is kept, where there is no memory for it or no room too
module _ (dirs mid : List Noted) (dir : Noted) (fewer : AreFewer (without dir.first dirs) mid) where
  none_there : by_table mid dir.first ≡ None
  none_there = stays_none (by_table (without dir.first dirs) dir.first) (by_table mid dir.first)
      (fewer.stay dir.first) (without_none dirs dir.first)

  others_stay : (other : ℕ) → other ≢ dir.first → Stays (by_table dirs other) (by_table mid other)
  others_stay other off = stays_on (by_table dirs other) (by_table (without dir.first dirs) other)
      (by_table mid other) (without_others dirs dir.first other off) (fewer.stay other)

  pub keeps_not : KeepsOrDrops (by_table dirs) (by_table mid) dir.first (under dir)
  keeps_not = record { its = inr none_there; others = others_stay }

  pub keeps : KeepsOrDrops (by_table dirs) (by_table (mid ++ dir ∷ [])) dir.first (under dir)
  keeps = record {
    its = inl (push_its mid dir none_there);
    others = λ other off. subst (Stays (by_table dirs other)) (sym (push_other mid dir other off))
        (others_stay other off);
  }

  pub bounded_not : (most : ℕ) → IsBounded most dirs → IsBounded most mid
  bounded_not most is =
      let before : IsBounded most (without dir.first dirs) = bounded_without most dirs dir.first is in
      let notes : notes_in (without dir.first dirs) ≤ most = before.notes in
      let tables : length (without dir.first dirs) ≤ MOST_TABLES = before.tables in
      let less : notes_in mid ≤ notes_in (without dir.first dirs) = fewer.notes in
      let less_ : length mid ≤ length (without dir.first dirs) = fewer.tables in
      record { bound = is.bound; tables = omega (arith, tables, less_); notes = omega (arith, notes, less) }

  pub bounded_with : (most : ℕ) → IsBounded most dirs → length mid < MOST_TABLES
      → notes_in mid + length dir.notes ≤ most → IsBounded most (mid ++ dir ∷ [])
  bounded_with most is place low =
      let notes : notes_in (mid ++ dir ∷ []) ≡ notes_in mid + length dir.notes = push_notes mid dir in
      let count : length (mid ++ dir ∷ []) ≡ length mid + 1 = length_push mid dir in
      record { bound = is.bound; tables = omega (arith, count, place); notes = omega (arith, notes, low) }

  -- so it is kept, or it is not, as its push went
  pub kept_either : (b : Bool) (new : List Noted) → new ≡ cond b (mid ++ dir ∷ []) mid
      → KeepsOrDrops (by_table dirs) (by_table new) dir.first (under dir)
  kept_either true new is =
      subst (λ (ds : List Noted). KeepsOrDrops (by_table dirs) (by_table ds) dir.first (under dir)) (sym is) keeps
  kept_either false new is = subst
      (λ (ds : List Noted). KeepsOrDrops (by_table dirs) (by_table ds) dir.first (under dir)) (sym is) keeps_not

  pub bounded_either : (most : ℕ) (b : Bool) (new : List Noted) → IsBounded most dirs
      → length mid < MOST_TABLES → notes_in mid + length dir.notes ≤ most
      → new ≡ cond b (mid ++ dir ∷ []) mid → IsBounded most new
  bounded_either most true new is place low same =
      subst (IsBounded most) (sym same) (bounded_with most is place low)
  bounded_either most false new is place low same = subst (IsBounded most) (sym same) (bounded_not most is)

-- the notes of bounded directories are not too many
pub bounded_few : (most : ℕ) (dirs : List Noted) → IsBounded most dirs → notes_in dirs ≤ MOST_NOTED
bounded_few most dirs is =
    let bound : most ≤ MOST_NOTED = is.bound in
    let notes : notes_in dirs ≤ most = is.notes in
    omega (arith, bound, notes)

-- what is left where those of another number of the same table go
pub fewer_of : (dirs left mid : List Noted) (first its : ℕ) → left ≡ without its dirs → its ≡ first
    → AreFewer left mid → AreFewer (without first dirs) mid
fewer_of dirs left mid first its is same fewer = subst (λ (ds : List Noted). AreFewer ds mid)
    (is ∙ ap (λ (n : ℕ). without n dirs) same) fewer

-- there is place as it is
pub place_there : (dirs : List Noted) → length dirs < MOST_TABLES → LeavesPlace dirs dirs
place_there dirs low = inl (low, refl)

-- the directory that was kept first is gone
pub oldest_goes : (dirs new : List Noted) (first : ℕ) (d : Noted) → new ≡ without first dirs
    → first ≡ d.first → d ≡ get_or dirs 0 d → MOST_TABLES ≤ length dirs → LeavesPlace dirs new
oldest_goes [] new first d is its oldest many = absurd (omega (arith, many))
oldest_goes (dir ∷ dirs) new first d is its oldest many =
    inr (many, is ∙ ap (λ (n : ℕ). without n (dir ∷ dirs)) (its ∙ ap (λ (x : Noted). x.first) oldest))

-- so some are left, and there is place
pub place_fewer : (dirs new : List Noted) → LeavesPlace dirs new → AreFewer dirs new
place_fewer dirs new (inl (low, same)) = subst (AreFewer dirs) (sym same) (all_fewer dirs)
place_fewer [] new (inr (many, is)) = subst (AreFewer []) (sym is) (all_fewer [])
place_fewer (dir ∷ dirs) new (inr (many, is)) =
    subst (AreFewer (dir ∷ dirs)) (sym is) (without_fewer (dir ∷ dirs) dir.first)

pub place_low : (dirs new : List Noted) → LeavesPlace dirs new → length dirs ≤ MOST_TABLES
    → length new < MOST_TABLES
place_low dirs new (inl (low, same)) few = subst (λ (ds : List Noted). length ds < MOST_TABLES) (sym same) low
place_low [] new (inr (many, is)) few = absurd (omega (arith, many))
place_low (dir ∷ dirs) new (inr (many, is)) few =
    let less : length (without dir.first (dir ∷ dirs)) < length (dir ∷ dirs) =
    without_first (dir ∷ dirs) dir (omega arith) in
    subst (λ (ds : List Noted). length ds < MOST_TABLES) (sym is) (omega (arith, less, few))

-- ---- what is known of a table

pub marked_not : (kept : Kept) (first : ℕ) → is_marked kept.too_large first ≡ true
    → false ≡ may_be_made kept first
marked_not kept first is = rw is refl

pub nowhere_may : (kept : Kept) (first : ℕ) → is_marked kept.too_large first ≡ false
    → IsNowhere kept.dirs first → true ≡ may_be_made kept first
nowhere_may kept first is nowhere = rw (is, nowhere_none kept.dirs first nowhere) refl

pub somewhere_not : (kept : Kept) (first place : ℕ) → IsPlaceOf kept.dirs first place
    → false ≡ may_be_made kept first
somewhere_not kept first place is =
    rw (place_some kept.dirs first place (record { first = 0; room = 0; notes = [] }) is) (neither (is_marked kept.too_large first))
  where
    neither : (b : Bool) → false ≡ (not b && false)
    neither true = refl
    neither false = refl

-- no mark is made
pub marks_none : (cause : Type 0) (old new : Kept) (first : ℕ) → new.most ≡ old.most
    → new.too_large ≡ old.too_large → MarksFor cause old new first
marks_none cause old new first most same = record { most = most; marked = inl same }

-- what is kept, by its parts
abbrev pub kept_of : ℕ → List Noted → List ℕ → Kept
kept_of most dirs too_large = record { most = most; dirs = dirs; too_large = too_large }

-- a mark is made, where there is memory for it
pub marks : {most first its : ℕ} {dirs now : List Noted} {too_large new : List ℕ} {old : Kept} {cause : Type 0}
    → kept_of most dirs too_large ≡ old → cause → (b : Bool) → its ≡ first
    → new ≡ cond b (too_large ++ its ∷ []) too_large → MarksFor cause old (kept_of most now new) first
marks {first = first} {too_large = too_large} seen because true same is = record {
  most = ap (λ (k : Kept). k.most) seen;
  marked = inr (
    is ∙ (ap (λ (n : ℕ). too_large ++ n ∷ []) same ∙ ap (λ (k : Kept). k.too_large ++ first ∷ []) seen),
    because,
  );
}
marks seen because false same is = record {
  most = ap (λ (k : Kept). k.most) seen;
  marked = inl (is ∙ ap (λ (k : Kept). k.too_large) seen);
}

others_of : {most its : ℕ} {dirs left : List Noted} {too_large : List ℕ} {old : Kept} (dir : Noted)
    → kept_of most dirs too_large ≡ old → left ≡ without its dirs → its ≡ dir.first
    → left ≡ without dir.first old.dirs
others_of {dirs = dirs} dir seen is same = is
    ∙ (ap (λ (n : ℕ). without n dirs) same ∙ ap (λ (k : Kept). without dir.first k.dirs) seen)

pub too_large_of : {most its : ℕ} {dirs : List Noted} {too_large : List ℕ} {old : Kept}
    → kept_of most dirs too_large ≡ old → (dir : Noted) (left : List Noted) → left ≡ without its dirs
    → its ≡ dir.first → most < notes_in left + length dir.notes → IsTooLarge old dir
too_large_of {old = old} seen dir left is same over =
    subst (λ (ds : List Noted). old.most < notes_in ds + length dir.notes) (others_of dir seen is same)
    (subst (λ (n : ℕ). n < notes_in left + length dir.notes) (ap (λ (k : Kept). k.most) seen) over)

pub places_not : {most its : ℕ} {dirs : List Noted} {too_large : List ℕ} {old : Kept}
    → kept_of most dirs too_large ≡ old → (new : List ℕ) (dir : Noted) (left : List Noted) → left ≡ without its dirs
    → its ≡ dir.first → most < notes_in left + length dir.notes → Places old (kept_of most left new) dir
places_not seen new dir left is same over =
    inl (too_large_of seen dir left is same over, others_of dir seen is same)

pub places_either : {most its : ℕ} {dirs now : List Noted} {too_large : List ℕ} {old : Kept}
    → kept_of most dirs too_large ≡ old → (new : List ℕ) (dir : Noted) (left mid : List Noted) → left ≡ without its dirs
    → its ≡ dir.first → LeavesPlace left mid → notes_in left + length dir.notes ≤ most → (b : Bool)
    → now ≡ cond b (mid ++ dir ∷ []) mid → Places old (kept_of most now new) dir
places_either {now = now} {old = old} seen new dir left mid is same place within b put = inr (
  subst (λ (ds : List Noted). notes_in ds + length dir.notes ≤ old.most) (others_of dir seen is same)
      (subst (λ (n : ℕ). notes_in left + length dir.notes ≤ n) (ap (λ (k : Kept). k.most) seen) within),
  mid,
  subst (λ (ds : List Noted). LeavesPlace ds mid) (others_of dir seen is same) place,
  at b put,
)
  where
    at : (b : Bool) → now ≡ cond b (mid ++ dir ∷ []) mid → (now ≡ mid ++ dir ∷ []) ⊎ (now ≡ mid)
    at true with_ = inl with_
    at false without_ = inr without_
