-- What may be in front of versions that are kept, which of them may go, and that what is kept stays so as a history goes
-- on.
use Rattle.std.specs.Prelude.{◌≡◌, ◌≢◌, ◌⊎◌, ℕ, ◌==◌, Bool, true, false, List, [], ◌∷◌, ◌++◌, Option, None, cond, refl}
use Rattle.std.proofs.Common.{sym, ◌∙◌, ap, inl, inr, subst}
use Rattle.std.proofs.lemmas.Bool.{both_ways, eqb-true, ne_eqb}
use Rattle.mg_base.specs.declared.transaction.TxState.{TxState}
use Rattle.mg_base.specs.declared.transaction.TxState.TheVariants.{Active, Limbo, Dead, Committed}
use Rattle.mg_value.specs.declared.value.Value.{Value}
use Rattle.mg_model.specs.declared.opening.Opening.{Opening}
use Rattle.mg_model.specs.Changes.{Cells}
use Rattle.mg_model.specs.History.{Entry, Entries, Effect, Begins, Looks, Makes, Gives, Marks, Saves, TakesBack, Ends, Nothing, effect_of}
use Rattle.mg_model.specs.Machine.{cut_at_base, mode_of, state_after, state_of, takes_base}
use Rattle.mg_model.specs.Answers.{is_active, is_committed, told}
use Rattle.mg_model.specs.Legal.{IsLegal, MayBegin}
use Rattle.mg_model.specs.LegalLaws.{IsAllowed, lawful_is_allowed}
use Rattle.mg_model.specs.NumberLaws.{committed_stays}
use Rattle.mg_model.specs.OverlapLaws.{saw_goes_on, saw_is_committed}
use Rattle.mg_generation_laws.specs.Generations.{AreGenerations, Generation, generation, without_newest_by}
use Rattle.mg_generation_laws.specs.Kept.{HasCommitted, HasSeen, IsCovered, IsErasedForAll, IsSeenByAll, IsThinned, StandFor, drops, ends, erases, keeps}

-- ---- what is in front

-- what covers a version in front of one list covers it in front of another
pub record Covers (o : Opening) (h : Entries) (before after : List Generation) : Type 0 where
  pub newer : HasCommitted o h before → HasCommitted o h after
  pub seen : (t : ℕ) → is_active (state_of o h t) ≡ true → HasSeen o h t before → HasSeen o h t after

covers_more : (o : Opening) (h : Entries) (before after : List Generation) (g : Generation)
    → Covers o h before after → Covers o h (g ∷ before) (g ∷ after)
covers_more o h before after g c = record { newer = newer; seen = λ t runs. seen t runs }
  where
    newer : HasCommitted o h (g ∷ before) → HasCommitted o h (g ∷ after)
    newer (inl is) = inl is
    newer (inr more) = inr (c.newer more)

    seen : (t : ℕ) → is_active (state_of o h t) ≡ true → HasSeen o h t (g ∷ before) → HasSeen o h t (g ∷ after)
    seen t runs (inl is) = inl is
    seen t runs (inr more) = inr (c.seen t runs more)

covered_by : (o : Opening) (h : Entries) (before after : List Generation) (g : Generation)
    → Covers o h before after → IsCovered o h before g → IsCovered o h after g
covered_by o h before after g c is = record {
  committed = is.committed;
  newer = c.newer is.newer;
  seen = λ t runs saw. c.seen t runs (is.seen t runs saw);
}

pub thinned_by : (o : Opening) (h : Entries) (before after all_ chain : List Generation)
    → Covers o h before after → IsThinned o h before all_ chain → IsThinned o h after all_ chain
thinned_by o h before after all_ chain c (ends front) = ends after
thinned_by o h before after all_ chain c (keeps front g gs cs more) =
    keeps after g gs cs (thinned_by o h (g ∷ before) (g ∷ after) gs cs (covers_more o h before after g c) more)
thinned_by o h before after all_ chain c (drops front g gs cs is more) =
    drops after g gs cs (covered_by o h before after g c is) (thinned_by o h before after gs cs c more)
thinned_by o h before after all_ chain c (erases front g gs seen row) = erases after g gs seen row

-- all versions are kept, as long as none is collected
pub thinned_self : (o : Opening) (h : Entries) (front gs : List Generation) → IsThinned o h front gs gs
thinned_self o h front [] = ends front
thinned_self o h front (g ∷ gs) = keeps front g gs gs (thinned_self o h (g ∷ front) gs)

pub whole_stand : (o : Opening) (h : Entries) (table : List ℕ) (key : Value) (gs : List Generation)
    → AreGenerations o h table key gs → StandFor o h table key gs
whole_stand o h table key gs are = record { all = gs; are = are; thinned = thinned_self o h [] gs }

-- ---- one goes

-- some versions put in front, so that the last of them is the first
abbrev pub onto : List Generation → List Generation → List Generation
onto [] front = front
onto (g ∷ gs) front = onto gs (g ∷ front)

-- one that is covered by what is kept in front of it goes
pub drop_thinned : (o : Opening) (h : Entries) (front all_ chain : List Generation) → IsThinned o h front all_ chain
    → (newer older : List Generation) (y : Generation) → chain ≡ newer ++ (y ∷ older)
    → IsCovered o h (onto newer front) y → IsThinned o h front all_ (newer ++ older)
drop_thinned o h front all_ chain (ends f) [] older y is covered = absurd cc
drop_thinned o h front all_ chain (ends f) (n ∷ newer) older y is covered = absurd cc
drop_thinned o h front all_ chain (keeps f g gs cs more) [] older y is covered =
    let same : g ≡ y = cc in
    let rest : cs ≡ older = cc in
    let its : IsCovered o h front g = subst (IsCovered o h front) (sym same) covered in
    drops front g gs older its (subst (IsThinned o h front gs) rest
    (thinned_by o h (g ∷ front) front gs cs (record {
      newer = λ has. newer its has;
      seen = λ t runs has. seen its t runs has;
    }) more))
  where
    newer : IsCovered o h front g → HasCommitted o h (g ∷ front) → HasCommitted o h front
    newer its (inl here) = its.newer
    newer its (inr there) = there

    seen : IsCovered o h front g → (t : ℕ) → is_active (state_of o h t) ≡ true → HasSeen o h t (g ∷ front)
        → HasSeen o h t front
    seen its t runs (inl saw) = its.seen t runs saw
    seen its t runs (inr there) = there
drop_thinned o h front all_ chain (keeps f g gs cs more) (n ∷ newer) older y is covered =
    let same : g ≡ n = cc in
    let rest : cs ≡ newer ++ (y ∷ older) = cc in
    subst (λ (x : Generation). IsThinned o h front (g ∷ gs) (x ∷ (newer ++ older))) same
    (keeps front g gs (newer ++ older) (drop_thinned o h (g ∷ front) gs cs more newer older y rest
    (subst (λ (x : Generation). IsCovered o h (onto newer (x ∷ front)) y) (sym same) covered)))
drop_thinned o h front all_ chain (drops f g gs cs cov more) newer older y is covered =
    drops front g gs (newer ++ older) cov (drop_thinned o h front gs cs more newer older y is covered)
drop_thinned o h front all_ chain (erases f g gs seen row) [] older y is covered = absurd cc
drop_thinned o h front all_ chain (erases f g gs seen row) (n ∷ newer) older y is covered = absurd cc

-- all go from a deletion on that all see
pub erase_thinned : (o : Opening) (h : Entries) (front all_ chain : List Generation) → IsThinned o h front all_ chain
    → (d : Generation) (older : List Generation) → chain ≡ d ∷ older → IsSeenByAll o h d.writer → d.row ≡ None
    → IsThinned o h front all_ []
erase_thinned o h front all_ chain (ends f) d older is seen row = absurd cc
erase_thinned o h front all_ chain (keeps f g gs cs more) d older is seen row =
    let same : d ≡ g = cc in
    erases front g gs (subst (λ (x : Generation). IsSeenByAll o h x.writer) same seen)
    (subst (λ (x : Generation). x.row ≡ None) same row)
erase_thinned o h front all_ chain (drops f g gs cs cov more) d older is seen row =
    drops front g gs [] cov (erase_thinned o h front gs cs more d older is seen row)
erase_thinned o h front all_ chain (erases f g gs all_see none) d older is seen row = absurd cc

onto_last : (newer front : List Generation) (a : Generation) → onto (newer ++ (a ∷ [])) front ≡ a ∷ onto newer front
onto_last [] front a = refl
onto_last (g ∷ gs) front a = onto_last gs (g ∷ front) a

append_last : (newer older : List Generation) (a : Generation) → (newer ++ (a ∷ [])) ++ older ≡ newer ++ (a ∷ older)
append_last [] older a = refl
append_last (g ∷ gs) older a = ap (λ (xs : List Generation). g ∷ xs) (append_last gs older a)

-- a committed version may go that lies directly behind another one, which each active transaction saw that saw it
pub drop_stand : (o : Opening) (h : Entries) (table : List ℕ) (key : Value) (newer older : List Generation)
    (a y : Generation) → StandFor o h table key (newer ++ (a ∷ (y ∷ older)))
    → state_of o h a.writer ≡ Committed → state_of o h y.writer ≡ Committed
    → ((t : ℕ) → is_active (state_of o h t) ≡ true → (told o h).saw t y.writer ≡ true
    → (told o h).saw t a.writer ≡ true) → StandFor o h table key (newer ++ (a ∷ older))
drop_stand o h table key newer older a y stand committed its sees = record {
  all = stand.all;
  are = stand.are;
  thinned = subst (IsThinned o h [] stand.all) (append_last newer older a)
      (drop_thinned o h [] stand.all (newer ++ (a ∷ (y ∷ older))) stand.thinned (newer ++ (a ∷ [])) older y
      (sym (append_last newer (y ∷ older) a))
      (subst (λ (front : List Generation). IsCovered o h front y) (sym (onto_last newer [] a)) (record {
        committed = its;
        newer = inl committed;
        seen = λ t runs saw. inl (sees t runs saw);
      })));
}

-- all may go where the newest is a deletion that all see
pub erase_stand : (o : Opening) (h : Entries) (table : List ℕ) (key : Value) (d : Generation) (ds : List Generation)
    → StandFor o h table key (d ∷ ds) → IsSeenByAll o h d.writer → d.row ≡ None → StandFor o h table key []
erase_stand o h table key d ds stand seen none = record {
  all = stand.all;
  are = stand.are;
  thinned = erase_thinned o h [] stand.all (d ∷ ds) stand.thinned d ds refl seen none;
}

-- ---- the newest

-- What is kept begins as all does; or nothing is kept, since there is nothing or all begins with a deletion that all see.
pub data BeginAlike (o : Opening) (h : Entries) (all chain : List Generation) : Type 0 where
  begins_so : (g : Generation) (gs cs : List Generation) → all ≡ g ∷ gs → chain ≡ g ∷ cs → BeginAlike o h all chain
  both_empty : all ≡ [] → chain ≡ [] → BeginAlike o h all chain
  erased_all : IsErasedForAll o h all → chain ≡ [] → BeginAlike o h all chain

pub begin_alike : (o : Opening) (h : Entries) (all_ chain : List Generation) → IsThinned o h [] all_ chain
    → BeginAlike o h all_ chain
begin_alike o h all_ chain (ends f) = both_empty refl refl
begin_alike o h all_ chain (keeps f g gs cs more) = begins_so g gs cs refl refl
begin_alike o h all_ chain (drops f g gs cs cov more) = absurd cov.newer
begin_alike o h all_ chain (erases f g gs seen row) = erased_all (seen, row) refl

-- ---- the history goes on

module _ (o : Opening) (opening : MayBegin o) (h : Entries) (e : Entry) (legal : IsLegal o (e ∷ h))
  where
    -- whom all see, all goes on to see: who begins now takes a base in which it is
    closed : (s : TxState) → is_active s ≡ false → is_active s ≡ true → ⊥
    closed s no_ is = both_ways (is_active s) no_ is

    -- one that was not active before has begun
    begun : (t : ℕ) (f : Effect) → IsAllowed o h f → is_active (state_of o h t) ≡ false
        → is_active (state_after f t (state_of o h t)) ≡ true
        → takes_base f t (mode_of h t).snapshot ≡ true
    begun t (Begins v mode) allowed was now = at (v == t) refl
      where
        at : (b : Bool) → (v == t) ≡ b → (v == t) ≡ true
        at true its = its
        at false other = absurd (closed (state_of o h t) was (sym (ap (λ (b : Bool).
            is_active (cond b Active (state_of o h t))) other) ∙ now))
    begun t (Ends v end) allowed was now = at (v == t) refl
      where
        at : (b : Bool) → (v == t) ≡ b → false ≡ true
        at true its = absurd (closed end allowed.1 (sym (ap (λ (b : Bool).
            is_active (cond b end (state_of o h t))) its) ∙ now))
        at false other = absurd (closed (state_of o h t) was (sym (ap (λ (b : Bool).
            is_active (cond b end (state_of o h t))) other) ∙ now))
    begun t (Looks v) allowed was now = absurd (closed (state_of o h t) was now)
    begun t (Makes v named row) allowed was now = absurd (closed (state_of o h t) was now)
    begun t (Gives v named given row) allowed was now = absurd (closed (state_of o h t) was now)
    begun t (Marks v) allowed was now = absurd (closed (state_of o h t) was now)
    begun t (Saves v name) allowed was now = absurd (closed (state_of o h t) was now)
    begun t (TakesBack v point) allowed was now = absurd (closed (state_of o h t) was now)
    begun t Nothing allowed was now = absurd (closed (state_of o h t) was now)

    -- one that is active now has the base that it had, or takes one now, in which all are that are committed
    data BaseNow (t : ℕ) : Type 0 where
      stays : is_active (state_of o h t) ≡ true
          → ((u : ℕ) → (told o (e ∷ h)).saw t u ≡ true → (told o h).saw t u ≡ true) → BaseNow t
      taken : ((u : ℕ) → state_of o h u ≡ Committed → (told o (e ∷ h)).saw t u ≡ true) → BaseNow t

    base_now : (t : ℕ) → is_active (state_of o (e ∷ h) t) ≡ true → BaseNow t
    base_now t now = at (takes_base (effect_of e) t (mode_of h t).snapshot) refl (is_active (state_of o h t)) refl
      where
        at : (b : Bool) → takes_base (effect_of e) t (mode_of h t).snapshot ≡ b → (was : Bool)
            → is_active (state_of o h t) ≡ was → BaseNow t
        at true takes was is = taken (λ u committed.
            ap (λ (b : Bool). is_committed (state_of o (cond b h (cut_at_base h t)) u)) takes
            ∙ ap is_committed committed)
        at false takes true is = stays is (λ u saw.
            sym (ap (λ (b : Bool). is_committed (state_of o (cond b h (cut_at_base h t)) u)) takes) ∙ saw)
        at false takes false is = absurd (both_ways (takes_base (effect_of e) t (mode_of h t).snapshot) takes
            (begun t (effect_of e) (lawful_is_allowed o h e legal.0) is now))

    pub seen_goes_on : (u : ℕ) → IsSeenByAll o h u → IsSeenByAll o (e ∷ h) u
    seen_goes_on u seen = record {
      committed = committed_stays o opening h e legal u (ap is_committed seen.committed) ∙ seen.committed;
      saw = λ t now. at t (base_now t now);
    }
      where
        at : (t : ℕ) → BaseNow t → (told o (e ∷ h)).saw t u ≡ true
        at t (stays runs same_) = saw_goes_on o opening h e legal.1 t u (seen.saw t runs)
        at t (taken all_) = all_ u seen.committed

    newer_still : (front : List Generation) → HasCommitted o h front → HasCommitted o (e ∷ h) front
    newer_still [] has = absurd has
    newer_still (g ∷ gs) (inl is) = inl (committed_stays o opening h e legal g.writer (ap is_committed is) ∙ is)
    newer_still (g ∷ gs) (inr more) = inr (newer_still gs more)

    seen_still : (t : ℕ) (front : List Generation) → HasSeen o h t front → HasSeen o (e ∷ h) t front
    seen_still t [] has = absurd has
    seen_still t (g ∷ gs) (inl is) = inl (saw_goes_on o opening h e legal.1 t g.writer is)
    seen_still t (g ∷ gs) (inr more) = inr (seen_still t gs more)

    all_seen : (t : ℕ) (front : List Generation)
        → ((u : ℕ) → state_of o h u ≡ Committed → (told o (e ∷ h)).saw t u ≡ true)
        → HasCommitted o h front → HasSeen o (e ∷ h) t front
    all_seen t [] every has = absurd has
    all_seen t (g ∷ gs) every (inl is) = inl (every g.writer is)
    all_seen t (g ∷ gs) every (inr more) = inr (all_seen t gs every more)

    covered_still : (front : List Generation) (g : Generation) → IsCovered o h front g → IsCovered o (e ∷ h) front g
    covered_still front g is = record {
      committed = committed_stays o opening h e legal g.writer (ap is_committed is.committed) ∙ is.committed;
      newer = newer_still front is.newer;
      seen = λ t now saw. at t (base_now t now) saw;
    }
      where
        at : (t : ℕ) → BaseNow t → (told o (e ∷ h)).saw t g.writer ≡ true → HasSeen o (e ∷ h) t front
        at t (stays runs same_) saw = seen_still t front (is.seen t runs (same_ g.writer saw))
        at t (taken all_) saw = all_seen t front all_ is.newer

    -- what is kept stays so
    pub thinned_still : (front all_ chain : List Generation) → IsThinned o h front all_ chain
        → IsThinned o (e ∷ h) front all_ chain
    thinned_still front all_ chain (ends f) = ends front
    thinned_still front all_ chain (keeps f g gs cs more) =
        keeps front g gs cs (thinned_still (g ∷ front) gs cs more)
    thinned_still front all_ chain (drops f g gs cs is more) =
        drops front g gs cs (covered_still front g is) (thinned_still front gs cs more)
    thinned_still front all_ chain (erases f g gs seen row) =
        erases front g gs (seen_goes_on g.writer seen) row

    -- a version that is not committed covers nothing
    pub without_open : (g : Generation) → state_of o h g.writer ≢ Committed → Covers o h (g ∷ []) []
    without_open g open_ = record { newer = newer; seen = λ t runs. seen t }
      where
        newer : HasCommitted o h (g ∷ []) → ⊥
        newer (inl is) = open_ is
        newer (inr none_) = none_

        committed_one : (s : TxState) → is_committed s ≡ true → s ≡ Committed
        committed_one Active is = absurd cc
        committed_one Limbo is = absurd cc
        committed_one Dead is = absurd cc
        committed_one Committed is = refl

        seen : (t : ℕ) → HasSeen o h t (g ∷ []) → ⊥
        seen t (inl saw) = open_ (committed_one (state_of o h g.writer)
            (saw_is_committed o opening h legal.1 t g.writer saw))
        seen t (inr none_) = none_

    -- the newest is taken from the kept ones where it is taken from all
    pub thinned_without : (t : ℕ) (all_ chain : List Generation) → state_of o h t ≢ Committed
        → IsThinned o h [] all_ chain
        → IsThinned o h [] (without_newest_by t all_) (without_newest_by t chain)
    thinned_without t all_ chain open_ (ends f) = ends []
    thinned_without t all_ chain open_ (keeps f g gs cs more) = at (g.writer == t) refl
      where
        at : (b : Bool) → (g.writer == t) ≡ b
            → IsThinned o h [] (cond b gs (g ∷ gs)) (cond b cs (g ∷ cs))
        at true its = thinned_by o h (g ∷ []) [] gs cs (without_open g (λ is.
            open_ (ap (state_of o h) (sym (eqb-true g.writer t its)) ∙ is))) more
        at false other = keeps [] g gs cs more
    thinned_without t all_ chain open_ (drops f g gs cs is more) = absurd is.newer
    thinned_without t all_ chain open_ (erases f g gs seen row) =
        rw (ne_eqb g.writer t (λ is. open_ (ap (state_of o h) (sym is) ∙ seen.committed)))
        (erases [] g gs seen row)

    -- one is put in front of the kept ones where it is put in front of all
    pub thinned_put : (n : Generation) (all_ chain : List Generation) → IsThinned o h [] all_ chain
        → IsThinned o h [] (n ∷ all_) (n ∷ chain)
    thinned_put n all_ chain thin = keeps [] n all_ chain (thinned_by o h [] (n ∷ []) all_ chain (record {
      newer = λ has. absurd has;
      seen = λ t runs has. absurd has;
    }) thin)
