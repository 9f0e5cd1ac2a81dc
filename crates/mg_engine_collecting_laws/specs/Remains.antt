-- What remains of a record's versions stands for the same history of its key: nobody misses what has gone.
use Rattle.std.proofs.Common.{◌≡◌, ◌∙◌, refl, sym, ap, subst, ℕ, ◌&&◌, Bool, true, false, List, [], ◌∷◌, ◌++◌}
use Rattle.std.specs.Prelude.{if◌then◌else◌}
use Rattle.mg_base.specs.declared.transaction.TxState.{TxState}
use Rattle.mg_base.specs.declared.transaction.TxState.TheVariants.{Active, Limbo, Dead, Committed}
use Rattle.mg_chain.specs.Bases.{StandsFor}
use Rattle.mg_chain.specs.Views.{generations_in, is_dead, row_given}
use Rattle.mg_generation_laws.specs.Generations.{Generation, generation}
use Rattle.mg_generation_laws.specs.Kept.{IsSeenByAll, StandFor}
use Rattle.mg_generation_laws.specs.Laws.{CoveredMayGo, ErasedMayGo}
use Rattle.mg_image.specs.Records.{writer}
use Rattle.mg_image.specs.declared.entry.Entry.{Entry}
use Rattle.mg_model.specs.Answers.{is_active, is_committed, told}
use Rattle.mg_model.specs.History.{Entries}
use Rattle.mg_model.specs.Machine.{state_of}
use Rattle.mg_model.specs.declared.opening.Opening.{Opening}
use Rattle.mg_seek.specs.Speaking.{is_erased_for_all}
use Rattle.mg_snap.specs.Live.{State, all_see, needed, sees}
use Rattle.mg_snap.specs.LiveLaws.{all_see_it, unneeded}
use Rattle.mg_value.specs.declared.value.Value.{Value}
use Rattle.mg_collecting.specs.NeededLaws.{unneeded_itself, unneeded_on}
use Rattle.mg_collecting.specs.Remaining.{from_committed, needed_behind, remaining, without_dead, without_erased, without_unneeded}

-- Where the versions of a record stand for those that a history says of a key, so do those that remain of them in a
-- collection, whose bases are those of the history.
abbrev pub RemainsStand : Type 0
RemainsStand = (o : Opening) (h : Entries) (table : List ℕ) (key : Value) (live : State) (es : List Entry)
    → StandsFor o h live → StandFor o h table key (generations_in (state_of o h) es)
    → StandFor o h table key (generations_in (state_of o h) (remaining (state_of o h) live es))

active_is : (s : TxState) → is_active s ≡ true → s ≡ Active
active_is Active is = refl
active_is Limbo is = absurd cc
active_is Dead is = absurd cc
active_is Committed is = absurd cc

committed_is : (s : TxState) → is_committed s ≡ true → s ≡ Committed
committed_is Active is = absurd cc
committed_is Limbo is = absurd cc
committed_is Dead is = absurd cc
committed_is Committed is = refl

lives : (s : TxState) → is_committed s ≡ true → is_dead s ≡ false
lives Active is = refl
lives Limbo is = refl
lives Dead is = absurd cc
lives Committed is = refl

both_of : (a b : Bool) → (a && b) ≡ true → (a ≡ true) × (b ≡ true)
both_of true true is = (refl, refl)
both_of true false is = absurd cc
both_of false b is = absurd cc

module _ (covered : CoveredMayGo) (gone : ErasedMayGo) (o : Opening) (h : Entries) (table : List ℕ) (key : Value)
    (live : State) (stands : StandsFor o h live) where
  abbrev state : ℕ → TxState
  state = state_of o h

  abbrev of : Entry → Generation
  of e = generation (writer e) (row_given e)

  -- whoever works and saw the older one saw the newer one
  pub saw_newer : (newer older : ℕ) → is_committed (state newer) ≡ true → needed live newer older ≡ false → (t : ℕ)
      → is_active (state t) ≡ true → (told o h).saw t older ≡ true → (told o h).saw t newer ≡ true
  saw_newer newer older committed none t active saw =
      let is : state t ≡ Active = active_is (state t) active in
      let sees_older : sees live t older ≡ true =
      (both_of (is_committed (state older)) (sees live t older) (stands.base t older is ∙ saw)).1 in
      let sees_newer : sees live t newer ≡ true = unneeded live t newer older none (stands.based t is) sees_older in
      sym (stands.base t newer is) ∙ (ap (λ (b : Bool). b && sees live t newer) committed ∙ sees_newer)

  counts : (e : Entry) (es : List Entry) → is_committed (state (writer e)) ≡ true
      → generations_in state (e ∷ es) ≡ of e ∷ generations_in state es
  counts e es is = rw (lives (state (writer e)) is) refl

  move_on : (front : List Generation) (a : Generation) (gs : List Generation)
      → front ++ a ∷ gs ≡ (front ++ a ∷ []) ++ gs
  move_on [] a gs = refl
  move_on (g ∷ front) a gs = ap (λ (xs : List Generation). g ∷ xs) (move_on front a gs)

  abbrev Stand : List Generation → Type 0
  Stand gs = StandFor o h table key gs

  -- behind a committed version that stays, whom nobody misses another one for
  abbrev BehindStand : List Entry → Type 0
  BehindStand es = (front : List Generation) (a : Entry) (newer : ℕ) → is_committed (state (writer a)) ≡ true
      → needed live (writer a) newer ≡ false → Stand (front ++ of a ∷ generations_in state es)
      → Stand (front ++ of a ∷ generations_in state (needed_behind state live newer es))

  module _ (e : Entry) (es : List Entry) (further : BehindStand es) (front : List Generation) (a : Entry)
      (kept : is_committed (state (writer a)) ≡ true) (is : is_committed (state (writer e)) ≡ true)
      (given : Stand (front ++ of a ∷ generations_in state (e ∷ es))) where
    stays_behind : Stand (front ++ of a ∷ generations_in state (e ∷ needed_behind state live (writer e) es))
    stays_behind = subst (λ (gs : List Generation). Stand (front ++ of a ∷ gs))
        (sym (counts e (needed_behind state live (writer e) es) is))
        (subst Stand (sym (move_on front (of a) (of e ∷ generations_in state (needed_behind state live (writer e) es))))
        (further (front ++ of a ∷ []) e (writer e) is (unneeded_itself live (writer e))
        (subst Stand (move_on front (of a) (of e ∷ generations_in state es))
        (subst (λ (gs : List Generation). Stand (front ++ of a ∷ gs)) (counts e es is) given))))

    goes_behind : needed live (writer a) (writer e) ≡ false
        → Stand (front ++ of a ∷ generations_in state (needed_behind state live (writer e) es))
    goes_behind covers = further front a (writer e) kept covers
        (covered o h table key front (generations_in state es) (of a) (of e)
        (subst (λ (gs : List Generation). Stand (front ++ of a ∷ gs)) (counts e es is) given)
        (committed_is (state (writer a)) kept) (committed_is (state (writer e)) is)
        (saw_newer (writer a) (writer e) kept covers))

  behind_stands : (es : List Entry) → BehindStand es
  behind_stands [] front a newer kept none given = given
  behind_stands (e ∷ es) front a newer kept none given =
      by (behind_stands es) (is_committed (state (writer e))) refl (needed live newer (writer e)) refl
    where
      by : BehindStand es → (b : Bool) → is_committed (state (writer e)) ≡ b → (c : Bool)
          → needed live newer (writer e) ≡ c
          → Stand (front ++ of a ∷ generations_in state (needed_behind state live newer (e ∷ es)))
      by further true is true need = rw is (rw need (stays_behind e es further front a kept is given))
      by further true is false need = rw is (rw need (goes_behind e es further front a kept is given
          (unneeded_on live (writer a) newer (writer e) none need)))
      by further false is c need = rw is given

  committed_stands : (front : List Generation) (es : List Entry) → Stand (front ++ generations_in state es)
      → Stand (front ++ generations_in state (from_committed state live es))
  committed_stands front [] given = given
  committed_stands front (e ∷ es) given = by (is_committed (state (writer e))) refl
    where
      by : (b : Bool) → is_committed (state (writer e)) ≡ b
          → Stand (front ++ generations_in state (from_committed state live (e ∷ es)))
      by true is = rw is (subst (λ (gs : List Generation). Stand (front ++ gs))
          (sym (counts e (needed_behind state live (writer e) es) is))
          (behind_stands es front e (writer e) is (unneeded_itself live (writer e))
          (subst (λ (gs : List Generation). Stand (front ++ gs)) (counts e es is) given)))
      by false is = rw is given

  unneeded_stand : (es : List Entry) → Stand (generations_in state es)
      → Stand (generations_in state (without_unneeded state live es))
  unneeded_stand [] given = given
  unneeded_stand (e ∷ es) given = by (is_committed (state (writer e))) refl
    where
      -- the newest one does not count, or is open
      when_open : (c : Bool) → is_dead (state (writer e)) ≡ c
          → Stand (generations_in state (e ∷ from_committed state live es))
      when_open true dead = rw dead (committed_stands [] es (subst (λ (b : Bool).
          Stand (if b then generations_in state es else of e ∷ generations_in state es)) dead given))
      when_open false alive = rw alive (committed_stands (of e ∷ []) es (subst (λ (b : Bool).
          Stand (if b then generations_in state es else of e ∷ generations_in state es)) alive given))

      by : (b : Bool) → is_committed (state (writer e)) ≡ b
          → Stand (generations_in state (without_unneeded state live (e ∷ es)))
      by true is = rw is (subst Stand (sym (counts e (needed_behind state live (writer e) es) is))
          (behind_stands es [] e (writer e) is (unneeded_itself live (writer e))
          (subst Stand (counts e es is) given)))
      by false is = rw is (when_open (is_dead (state (writer e))) refl)

  dead_stand : (es : List Entry) → Stand (generations_in state es) → Stand (generations_in state (without_dead state es))
  dead_stand [] given = given
  dead_stand (e ∷ es) given = by (is_dead (state (writer e))) refl
    where
      by : (b : Bool) → is_dead (state (writer e)) ≡ b → Stand (generations_in state (without_dead state (e ∷ es)))
      by true dead = rw dead (subst (λ (b : Bool).
          Stand (if b then generations_in state es else of e ∷ generations_in state es)) dead given)
      by false alive = rw alive given

  -- all bases see it: so whoever works saw it
  pub seen_by_all : (u : ℕ) → is_committed (state u) ≡ true → all_see live u ≡ true → IsSeenByAll o h u
  seen_by_all u committed all = record {
    committed = committed_is (state u) committed;
    saw = λ t active.
        let is : state t ≡ Active = active_is (state t) active in
        sym (stands.base t u is) ∙ (ap (λ (b : Bool). b && sees live t u) committed
        ∙ all_see_it live t u all (stands.based t is));
  }

  erased_stand : (es : List Entry) → Stand (generations_in state es)
      → Stand (generations_in state (without_erased state live es))
  erased_stand [] given = given
  erased_stand (e ∷ []) given = by (is_erased_for_all state live e.version) refl
    where
      by : (b : Bool) → is_erased_for_all state live e.version ≡ b
          → Stand (generations_in state (without_erased state live (e ∷ [])))
      by false is = rw is given
      by true is = rw is
          (let one = both_of e.version.deleted (is_committed (state (writer e)) && all_see live (writer e)) is in
          let two = both_of (is_committed (state (writer e))) (all_see live (writer e)) one.1 in
          gone o h table key (of e) [] (subst Stand (counts e [] two.0) given)
          (seen_by_all (writer e) two.0 two.1) (rw one.0 refl))
  erased_stand (e ∷ d ∷ es) given = given

  pub remains_stand : (es : List Entry) → Stand (generations_in state es)
      → Stand (generations_in state (remaining state live es))
  remains_stand es given = erased_stand (without_unneeded state live (without_dead state es))
      (unneeded_stand (without_dead state es) (dead_stand es given))
