-- What is found of a record, where its versions stand for those that a history says of a key.
use Rattle.std.proofs.Common.{◌≡◌, ◌∙◌, ℕ, Bool, true, false, not, ◌&&◌, ◌||◌, ◌==◌, List, [], ◌∷◌, map, Option, None, Some, refl, sym, ap, subst, cond}
use Rattle.std.proofs.lemmas.Bool.{false≢true, both_ways, ne_eqb}
use Rattle.mg_base.specs.declared.numbers.RecId.{RecId}
use Rattle.mg_base.specs.declared.numbers.TxNo.{TxNo}
use Rattle.mg_base.specs.declared.transaction.TxState.{TxState}
use Rattle.mg_base.specs.declared.transaction.TxState.TheVariants.{Active, Limbo, Dead, Committed}
use Rattle.mg_chain.specs.Chains.{takes_version}
use Rattle.mg_chain.specs.Views.{BaseIsTold, first_entry, is_dead as is_dead_version}
use Rattle.mg_generation_laws.specs.Generations.{Generation, newest_writer_if, shown_by, sees as sees_told}
use Rattle.mg_generation_laws.specs.Laws.{ChainsShowViews, ChainsTellObstacles}
use Rattle.mg_image.specs.Form.{Pages, Row, packed_coding}
use Rattle.mg_image.specs.Held.{told_row}
use Rattle.mg_image.specs.ReadingLaws.{RowsAreOne}
use Rattle.mg_image.specs.RecordRules.{Each, EachBack, Facts}
use Rattle.mg_image.specs.Records.{Reading, shown, writer}
use Rattle.mg_image.specs.declared.entry.Entry.{Entry}
use Rattle.mg_image_overlay_laws.specs.records.Fronts.{is_dead, living}
use Rattle.mg_model.specs.Answers.{can_hinder, is_active, is_committed, is_open, told}
use Rattle.mg_model.specs.History.{Entries}
use Rattle.mg_model.specs.Machine.{state_of}
use Rattle.mg_model.specs.declared.opening.Opening.{Opening}
use Rattle.mg_model.specs.declared.table.Table.{Table}
use Rattle.mg_snap.specs.Live.{State, sees}
use Rattle.mg_value.specs.declared.value.Value.{Value}
use Rattle.mg_seek.specs.declared.views.Obstacle.{Obstacle}
use Rattle.mg_seek.specs.declared.whose.Wanted.TheVariants.{Living}
use Rattle.mg_seek.specs.Histories.{DieAlike, IsStateTold, NothingIsThere, ObstaclesAreTold, RowsAreOfViews, by_of, told_all, told_given, told_if, told_versions}
use Rattle.mg_seek.specs.Readings.{obstacle_by}
use Rattle.mg_seek.specs.Versions.{wants}
use Rattle.mg_seek.specs.Views.{hinders, obstacle_of}
use Rattle.mg_seek.specs.ReadingLaws.{obstacles_of_readings, rows_of_readings}

-- ---- who is dead

pub dead_alike : (s : TxState) → is_dead_version s ≡ is_dead s
dead_alike Active = refl
dead_alike Limbo = refl
dead_alike Dead = refl
dead_alike Committed = refl

dead_uncommitted : (s : TxState) → is_dead s ≡ true → is_committed s ≡ false
dead_uncommitted Active dead = absurd (false≢true dead)
dead_uncommitted Limbo dead = refl
dead_uncommitted Dead dead = refl
dead_uncommitted Committed dead = absurd (false≢true dead)

active_lives : (s : TxState) → is_active s ≡ true → is_dead s ≡ false
active_lives Active is = refl
active_lives Limbo is = absurd (false≢true is)
active_lives Dead is = absurd (false≢true is)
active_lives Committed is = absurd (false≢true is)

pub committed_lives : (s : TxState) → s ≡ Committed → is_dead s ≡ false
committed_lives s is = ap is_dead is

-- ---- rows

module _ (o : Opening) (h : Entries) (live : State) (t : ℕ) (active : is_active (state_of o h t) ≡ true)
    (base : BaseIsTold o h live t) (f : Facts) (alike : DieAlike o h f) (table : Table) where
  abbrev takes : ℕ → Bool
  takes = takes_version (state_of o h) live t

  takes_told : (u : ℕ) → takes u ≡ sees_told (told o h) t u
  takes_told u = ap (λ b. u == t || b) (base u)

  dead_not_taken : (u : ℕ) → is_dead (f.state u) ≡ true → takes u ≡ false
  dead_not_taken u dead_ =
      let dead : is_dead (state_of o h u) ≡ true = sym (alike u) ∙ dead_ in
      let other : (u == t) ≡ false = ne_eqb u t (λ same. both_ways (is_dead (state_of o h u))
      (ap (λ n. is_dead (state_of o h n)) same ∙ active_lives (state_of o h t) active) dead) in
      let none : is_committed (state_of o h u) ≡ false = dead_uncommitted (state_of o h u) dead in
      rw other (rw none refl)

  given_is : (e : Entry) → told_given table e ≡ told_if table (cond e.version.deleted None (Some e.row))
  given_is e = at e.version.deleted
    where
      at : (b : Bool) → cond b None (Some (told_row table e.row))
          ≡ told_if table (cond b None (Some e.row))
      at true = refl
      at false = refl

  all_shown : (es : List Entry) → told_if table (shown takes es)
      ≡ shown_by (sees_told (told o h) t) (told_all table es)
  all_shown [] = refl
  all_shown (e ∷ es) = at (takes (writer e)) refl (all_shown es)
    where
      at : (b : Bool) → takes (writer e) ≡ b
          → told_if table (shown takes es) ≡ shown_by (sees_told (told o h) t) (told_all table es)
          → told_if table (cond b (cond e.version.deleted None (Some e.row)) (shown takes es))
          ≡ cond (sees_told (told o h) t (writer e)) (told_given table e)
          (shown_by (sees_told (told o h) t) (told_all table es))
      at true is more = sym (given_is e)
          ∙ ap (λ c. cond c (told_given table e) (shown_by (sees_told (told o h) t) (told_all table es)))
          (sym is ∙ takes_told (writer e))
      at false is more = more
          ∙ ap (λ c. cond c (told_given table e) (shown_by (sees_told (told o h) t) (told_all table es)))
          (sym is ∙ takes_told (writer e))

  pub living_shown : (es : List Entry) → told_if table (shown takes es)
      ≡ shown_by (sees_told (told o h) t) (told_versions f.state table es)
  living_shown [] = refl
  living_shown (e ∷ es) = at (is_dead (f.state (writer e))) refl
    where
      at : (b : Bool) → is_dead (f.state (writer e)) ≡ b → told_if table (shown takes (e ∷ es))
          ≡ shown_by (sees_told (told o h) t) (told_all table (cond b es (e ∷ es)))
      at true dead = ap (λ c. told_if table (cond c (cond e.version.deleted None (Some e.row)) (shown takes es)))
          (dead_not_taken (writer e) dead) ∙ all_shown es
      at false alive = all_shown (e ∷ es)

pub rows_are_of_views : RowsAreOne packed_coding → ChainsShowViews → RowsAreOfViews
rows_are_of_views one law o h live t pages table key rec row f r read alike stands active base seen =
    law o h table.name key (told_versions f.state table (r rec)) t.0 stands active
    ∙ sym (ap (told_if table) (rows_of_readings one (state_of o h) live t pages table rec row f r read seen)
    ∙ living_shown o h live t.0 active base f alike table (r rec))

-- ---- obstacles

not_seen : (c seen saw : Bool) → (c && seen) ≡ saw → (c && not seen) ≡ (c && not saw)
not_seen true seen saw is = ap not is
not_seen false seen saw is = refl

hinders_told : (o : Opening) (h : Entries) (live : State) (t u : ℕ) → BaseIsTold o h live t
    → hinders (state_of o h) live t u ≡ can_hinder (told o h) t u
hinders_told o h live t u base = ap (λ b. not (u == t) && (is_open (state_of o h u) || b))
    (not_seen (is_committed (state_of o h u)) (sees live t u) ((told o h).saw t u) (base u))

module _ (o : Opening) (h : Entries) (live : State) (t : ℕ) (base : BaseIsTold o h live t) (f : Facts)
    (alike : DieAlike o h f) (table : Table) where
  lives_wanted : (u : ℕ) → is_dead (f.state u) ≡ false → wants (state_of o h) live Living u ≡ true
  lives_wanted u alive = ap not (dead_alike (state_of o h u) ∙ sym (alike u) ∙ alive)

  dead_unwanted : (u : ℕ) → is_dead (f.state u) ≡ true → wants (state_of o h) live Living u ≡ false
  dead_unwanted u dead = ap not (dead_alike (state_of o h u) ∙ sym (alike u) ∙ dead)

  first_living : (e : Entry) (es : List Entry) → is_dead (f.state (writer e)) ≡ false
      → first_entry (wants (state_of o h) live Living) (e ∷ es) ≡ Some e
  first_living e es alive = ap (λ b. cond b (Some e) (first_entry (wants (state_of o h) live Living) es))
      (lives_wanted (writer e) alive)

  its_obstacle : (tx : TxNo) → by_of (obstacle_of (state_of o h) live t tx)
      ≡ cond (can_hinder (told o h) t tx.0) (Some tx.0) None
  its_obstacle tx = at (hinders (state_of o h) live t tx.0) (can_hinder (told o h) t tx.0)
      (hinders_told o h live t tx.0 base)
    where
      at : (b c : Bool) → b ≡ c
          → by_of (cond b (Some (record { by = tx; state = state_of o h tx.0 })) None)
          ≡ cond c (Some tx.0) None
      at true true same = refl
      at false false same = refl
      at true false same = absurd (false≢true (sym same))
      at false true same = absurd (false≢true same)

  head_obstacle : (e : Entry) (es : List Entry) → is_dead (f.state (writer e)) ≡ false
      → by_of (obstacle_by (state_of o h) live t
      (first_entry (wants (state_of o h) live Living) (e ∷ es)))
      ≡ newest_writer_if (can_hinder (told o h) t) (told_all table (e ∷ es))
  head_obstacle e es alive = ap (λ found. by_of (obstacle_by (state_of o h) live t found))
      (first_living e es alive) ∙ its_obstacle e.version.tx

  all_obstacle : (es : List Entry) → Each (λ e. f.state (writer e) ≡ Committed) es
      → by_of (obstacle_by (state_of o h) live t (first_entry (wants (state_of o h) live Living) es))
      ≡ newest_writer_if (can_hinder (told o h) t) (told_all table es)
  all_obstacle [] each = refl
  all_obstacle (e ∷ es) each = head_obstacle e es (committed_lives (f.state (writer e)) each.0)

  living_obstacle : (es : List Entry) → EachBack (λ e. f.state (writer e) ≡ Committed) es
      → by_of (obstacle_by (state_of o h) live t (first_entry (wants (state_of o h) live Living) es))
      ≡ newest_writer_if (can_hinder (told o h) t) (told_versions f.state table es)
  living_obstacle [] backs = refl
  living_obstacle (e ∷ es) backs = at (is_dead (f.state (writer e))) refl
    where
      at : (b : Bool) → is_dead (f.state (writer e)) ≡ b
          → by_of (obstacle_by (state_of o h) live t
          (first_entry (wants (state_of o h) live Living) (e ∷ es)))
          ≡ newest_writer_if (can_hinder (told o h) t) (told_all table (cond b es (e ∷ es)))
      at true dead = ap (λ c. by_of (obstacle_by (state_of o h) live t
          (cond c (Some e) (first_entry (wants (state_of o h) live Living) es))))
          (dead_unwanted (writer e) dead) ∙ all_obstacle es backs
      at false alive = head_obstacle e es alive

state_told : (o : Opening) (h : Entries) (live : State) (t : ℕ) (found : Option Entry)
    → IsStateTold o h (obstacle_by (state_of o h) live t found)
state_told o h live t None = tt
state_told o h live t (Some e) = at (hinders (state_of o h) live t e.version.tx.0)
  where
    at : (b : Bool) → IsStateTold o h
        (cond b (Some (record { by = e.version.tx; state = state_of o h e.version.tx.0 })) None)
    at true = refl
    at false = tt

pub obstacles_are_told : RowsAreOne packed_coding → ChainsTellObstacles → ObstaclesAreTold
obstacles_are_told one law o h live t pages table key rec found f r begins legal read alike stands active
    base is =
    let told_by : found ≡ obstacle_by (state_of o h) live t
    (first_entry (wants (state_of o h) live Living) (r rec)) =
    obstacles_of_readings one (state_of o h) live t pages table rec found f r read is in (
      ap by_of told_by
          ∙ living_obstacle o h live t base f alike table (r rec)
          (read.lawful.each rec table read.of_table).backs
          ∙ sym (law o h t table.name key (told_versions f.state table (r rec)) begins legal stands active),
      subst (IsStateTold o h) (sym told_by) (state_told o h live t
          (first_entry (wants (state_of o h) live Living) (r rec))),
    )

pub nothing_is_there : ChainsShowViews → ChainsTellObstacles → NothingIsThere
nothing_is_there rows obstacles o h t name key begins legal stands active =
    (rows o h name key [] t stands active, obstacles o h t name key [] begins legal stands active)
