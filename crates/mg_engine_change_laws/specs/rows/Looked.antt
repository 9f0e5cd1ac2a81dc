-- What an engine reads of a key for a writer is what the history machine says: who is in the way, whether a row is
-- seen, and what is told of it.
use Rattle.std.proofs.Common.{◌≡◌, ◌≢◌, ◌⊎◌, inl, inr, ℕ, Bool, true, false, not, ◌==◌, ◌&&◌, ◌||◌, Option, None, Some, refl, sym, ap, ◌∙◌, subst}
use Rattle.std.specs.Prelude.{if◌then◌else◌, is_some}
use Rattle.std.proofs.lemmas.Bool.{false≢true}
use Rattle.mg_base.specs.Disk.{Meaning}
use Rattle.mg_base.specs.declared.numbers.RecId.{RecId}
use Rattle.mg_base.specs.declared.numbers.TxNo.{TxNo}
use Rattle.mg_base.specs.declared.transaction.TxState.{TxState}
use Rattle.mg_base.specs.declared.transaction.TxState.TheVariants.{Active, Committed, Dead, Limbo}
use Rattle.mg_value.specs.declared.value.Value.{Value}
use Rattle.mg_model.specs.declared.answer.Answer.{Answer}
use Rattle.mg_model.specs.declared.answer.Answer.TheVariants.{No}
use Rattle.mg_model.specs.declared.opening.Opening.{Opening}
use Rattle.mg_model.specs.declared.refusal.Refusal.{Refusal}
use Rattle.mg_model.specs.declared.refusal.Refusal.TheVariants.{Memory}
use Rattle.mg_model.specs.declared.table.Table.{Table}
use Rattle.mg_model.specs.Answers.{has_row, is_committed, is_open, obstacle, past, told}
use Rattle.mg_model.specs.Changes.{row_at}
use Rattle.mg_model.specs.History.{Entries}
use Rattle.mg_model.specs.Laws.{OpeningsBegin}
use Rattle.mg_model.specs.Machine.{mode_of, state_of, view}
use Rattle.mg_engine_step_laws.specs.standing.Known.{IsShown, KnowsPages}
use Rattle.mg_engine_step_laws.specs.reads.AnswersLaws.{NothingAtKeys, ObstaclesAtKeys, RowsAtKeys, SpeakersAreTold, TellsSpeaker}
use Rattle.mg_image.specs.Form.{Pages, Row}
use Rattle.mg_pool.specs.Pool.{shown}
use Rattle.mg_row_writes.specs.Finding.{IsInWay, IsRowAt, IsSeenIn}
use Rattle.mg_row_writes.specs.declared.finding.RowAt.{RowAt}
use Rattle.mg_seek.specs.Histories.{IsStateTold, by_of, told_if}
use Rattle.mg_seek.specs.Speaking.{IsSpeaker}
use Rattle.mg_seek.specs.Views.{hinders, obstacle_in, obstacle_of}
use Rattle.mg_seek.specs.declared.views.Obstacle.{Obstacle}
use Rattle.mg_seek.specs.declared.walk.Placed.{Placed}
use Rattle.mg_snap.specs.Live.{State, sees}
use Rattle.mg_engine_step_laws.specs.standing.Standing.{Standing}
use Rattle.mg_txlist.specs.TxList.{said}
use Rattle.mg_waits.specs.Machine.{NobodyWaits, VerdictsAreTheMachines, answer_of}
use Rattle.mg_waits.specs.Waits.{Edges, IsVerdict, NowWaits, edges_in}
use Rattle.mg_core.specs.declared.parts.Core.{Core}
use Rattle.mg_core.specs.Obstacles.{Hinders, IsPassed}
use Rattle.mg_engine_meaning_laws.specs.Standings.{ShowsIt, StandsFor, standing_of}
use Rattle.mg_engine_change_laws.specs.rows.Verdicts.{told_answer, verdict_before}

-- ---- one that is in the way is not dead

abbrev found_if : (ℕ → TxState) → TxNo → Bool → Option Obstacle
found_if state by b = if b then Some (record { by = by; state = state by.0 }) else None

not_dead_if : (own : Bool) (x : TxState) (seen : Bool)
    → (not own && (is_open x || (is_committed x && not seen))) ≡ true → x ≢ Dead
not_dead_if own x seen is dead = at own (subst (λ (y : TxState).
    (not own && (is_open y || (is_committed y && not seen))) ≡ true) dead is)
  where
    at : (b : Bool) → (not b && false) ≡ true → ⊥
    at true is_ = false≢true is_
    at false is_ = false≢true is_

in_way_lives : (state : ℕ → TxState) (live : State) (t : ℕ) (by : TxNo) (x : Obstacle)
    → Some x ≡ obstacle_of state live t by → x.state ≢ Dead
in_way_lives state live t by x is dead = at (hinders state live t by.0) refl is
  where
    at : (b : Bool) → hinders state live t by.0 ≡ b → Some x ≡ found_if state by b → ⊥
    at false hinders_ some = absurd cc
    at true hinders_ some =
        let same : x ≡ record { by = by; state = state by.0 } = cc in
        not_dead_if (by.0 == t) (state by.0) (sees live t by.0) hinders_
        (sym (ap (λ (y : Obstacle). y.state) same) ∙ dead)

pub placed_lives : (state : ℕ → TxState) (live : State) (t : ℕ) (newest : Option Placed) (x : Obstacle)
    → Some x ≡ obstacle_in state live t newest → x.state ≢ Dead
placed_lives state live t None x is = absurd cc
placed_lives state live t (Some p) x is = in_way_lives state live t p.version.tx x is

-- ---- what was read

module _ (speakers : SpeakersAreTold) (obstacles : ObstaclesAtKeys) (rows : RowsAtKeys) (nothing : NothingAtKeys)
    (begin : OpeningsBegin) {D : Type 0} (m : Meaning D) (core : Core D) (o : Opening) (h : Entries)
    (stands : StandsFor m core o h) (shows : ShowsIt m core o h (standing_of core stands.numbers stands.tables))
    (t : TxNo) (active : state_of o h t.0 ≡ Active) where
  abbrev s : Standing
  s = standing_of core stands.numbers stands.tables

  abbrev pages : Pages
  pages = shown core.store.dirty shows.image

  abbrev pub knows : KnowsPages core.store.geometry.size o h (standing_of core stands.numbers stands.tables)
      (shown core.store.dirty shows.image)
  knows = record { memory = shows.stands.memory; shows = shows.stands.shows }

  module _ (table : Table) (there : IsShown shows.stands.shows.layout table) (key : Value) where
    -- who is in the way at the record that speaks for the key
    pub way_told : (rec : Option RecId) (found : Option Obstacle)
        → IsSpeaker (said core.list) core.live (shown core.store.dirty shows.image) table key rec
        → IsInWay (said core.list) core.live t.0 (shown core.store.dirty shows.image) rec found
        → (by_of found ≡ obstacle (told o h) t.0 table.name key) × IsStateTold o h found
    way_told rec found spoken way = at rec way (speakers core.store.geometry.size o h s pages knows table key rec there
        spoken)
      where
        at : (r : Option RecId) → IsInWay (said core.list) core.live t.0 (shown core.store.dirty shows.image) r found
            → TellsSpeaker core.store.geometry.size o h s pages knows table.name key r
            → (by_of found ≡ obstacle (told o h) t.0 table.name key) × IsStateTold o h found
        at None none (chain, silent) = subst (λ (f : Option Obstacle).
            (by_of f ≡ obstacle (told o h) t.0 table.name key) × IsStateTold o h f) (sym none)
            (sym (nothing o h table.name key t.0 (begin o shows.stands.opening) shows.stands.legal chain active).1, tt)
        at (Some r) is speaks = obstacles core.store.geometry.size o h s pages knows table key r t.0 found
            (begin o shows.stands.opening) shows.stands.legal there speaks active is

    way_lives : (rec : Option RecId) (x : Obstacle)
        → IsInWay (said core.list) core.live t.0 (shown core.store.dirty shows.image) rec (Some x) → x.state ≢ Dead
    way_lives None x is = absurd cc
    way_lives (Some rec) x is = placed_lives (said core.list) core.live t.0 is.newest x is.is

    -- whether a row is seen
    pub row_told : (found : RowAt)
        → IsRowAt (said core.list) core.live t (shown core.store.dirty shows.image) table key found
        → has_row (told o h) t.0 table.name key ≡ is_some found.row
    row_told found at_key = at found.rec found.row at_key.seen
        (speakers core.store.geometry.size o h s pages knows table key found.rec there at_key.spoken)
      where
        told_some : (row : Option Row) → is_some (told_if table row) ≡ is_some row
        told_some None = refl
        told_some (Some row) = refl

        at : (r : Option RecId) (row : Option Row)
            → IsSeenIn (said core.list) core.live t (shown core.store.dirty shows.image) table r row
            → TellsSpeaker core.store.geometry.size o h s pages knows table.name key r
            → is_some (row_at (view o h t.0) table.name key) ≡ is_some row
        at None row none (chain, silent) = ap is_some
            (nothing o h table.name key t.0 (begin o shows.stands.opening) shows.stands.legal chain active).0
            ∙ ap is_some (sym none)
        at (Some r) row is speaks = ap is_some (rows core.store.geometry.size o h s pages knows table key r t row there
            speaks active is) ∙ told_some row

    -- nobody is in the way: what comes next is answered
    pub passed_next : (rec : Option RecId) (found : Option Obstacle) (waits : Edges) (wait : Bool)
        → IsSpeaker (said core.list) core.live (shown core.store.dirty shows.image) table key rec
        → IsInWay (said core.list) core.live t.0 (shown core.store.dirty shows.image) rec found
        → IsPassed waits t.0 wait found → (next : Answer)
        → past (told o h) t.0 (obstacle (told o h) t.0 table.name key) next ≡ next
    passed_next rec found waits wait spoken way passed next = at found way passed (way_told rec found spoken way).0
      where
        never : (x : Obstacle) (y : TxState) → x.state ≡ y → (w : Bool)
            → IsVerdict waits t.0 x.by.0 y w None → x.state ≢ Dead → ⊥
        never x Committed is w verdict lives = absurd cc
        never x Limbo is w verdict lives = absurd cc
        never x Dead is w verdict lives = lives is
        never x Active is false verdict lives = absurd cc
        never x Active is true (inl (none, leads)) lives = absurd cc
        never x Active is true (inr (none, leads)) lives = absurd cc

        at : (f : Option Obstacle)
            → IsInWay (said core.list) core.live t.0 (shown core.store.dirty shows.image) rec f
            → IsPassed waits t.0 wait f → by_of f ≡ obstacle (told o h) t.0 table.name key
            → past (told o h) t.0 (obstacle (told o h) t.0 table.name key) next ≡ next
        at None is over by = ap (λ (who : Option ℕ). past (told o h) t.0 who next) (sym by)
        at (Some x) is over by = absurd (never x x.state refl wait over (way_lives rec x is))

    -- one is in the way: the verdict is answered, or memory is wanting
    pub hindered_answer : VerdictsAreTheMachines → NobodyWaits → (rec : Option RecId) (x : Obstacle)
        (read new : Core D) (wait : Bool) (refusal : Refusal)
        → NowWaits (edges_in core.waits) (edges_in read.waits) t.0 None → (mode_of h t.0).wait ≡ wait
        → IsSpeaker (said core.list) core.live (shown core.store.dirty shows.image) table key rec
        → IsInWay (said core.list) core.live t.0 (shown core.store.dirty shows.image) rec (Some x)
        → Hinders read new t.0 wait x refusal → (next : Answer)
        → (No refusal ≡ past (told o h) t.0 (obstacle (told o h) t.0 table.name key) next) ⊎ (refusal ≡ Memory)
    hindered_answer verdicts nobody rec x read new wait refusal over mode spoken way hinders next =
        at (told_answer read new t.0 x.by hinders.verdict refusal hinders.told)
      where
        both : (Some x.by.0 ≡ obstacle (told o h) t.0 table.name key) × (x.state ≡ state_of o h x.by.0)
        both = way_told rec (Some x) spoken way

        is : IsVerdict (edges_in core.waits) t.0 x.by.0 (state_of o h x.by.0) (mode_of h t.0).wait
            (Some hinders.verdict)
        is = subst (λ (w : Bool). IsVerdict (edges_in core.waits) t.0 x.by.0 (state_of o h x.by.0) w
            (Some hinders.verdict)) (sym mode)
            (subst (λ (y : TxState). IsVerdict (edges_in core.waits) t.0 x.by.0 y wait (Some hinders.verdict)) both.1
            (verdict_before (edges_in core.waits) (edges_in read.waits) t.0 over x.by.0 x.state wait
            (Some hinders.verdict) hinders.is))

        at : (No refusal ≡ answer_of x.by.0 (Some hinders.verdict)) ⊎ (refusal ≡ Memory)
            → (No refusal ≡ past (told o h) t.0 (obstacle (told o h) t.0 table.name key) next) ⊎ (refusal ≡ Memory)
        at (inr memory) = inr memory
        at (inl same) = inl (same ∙ (verdicts o h (edges_in core.waits) t.0 x.by.0 (Some hinders.verdict)
            (begin o shows.stands.opening) shows.stands.legal
            (nobody.enough o h (edges_in core.waits) shows.stands.memory.waits) active is
            ∙ ap (λ (who : Option ℕ). past (told o h) t.0 who next) both.0))
