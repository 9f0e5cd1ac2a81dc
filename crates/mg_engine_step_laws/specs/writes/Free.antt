-- A record that speaks for a key, where nobody is in the way: its newest version is committed, and so may be
-- pushed over; or the transaction's own, and so may be replaced; or a dead one's, and so has to go first.
use Rattle.mg_base.specs.declared.numbers.RecId.{RecId}
use Rattle.mg_base.specs.declared.numbers.TxNo.{TxNo}
use Rattle.mg_base.specs.declared.transaction.TxState.{TxState}
use Rattle.mg_base.specs.declared.transaction.TxState.TheVariants.{Active, Committed, Dead, Limbo}
use Rattle.mg_chain.specs.Views.{first_entry}
use Rattle.mg_tie_laws.specs.Newest.{BeginsAt, begins}
use Rattle.mg_image.specs.Form.{Pages, packed_form}
use Rattle.mg_image.specs.Records.{cells_of, writer}
use Rattle.mg_image.specs.Sound.{facts_by}
use Rattle.mg_image.specs.Tables.{stands_of, table_at}
use Rattle.mg_image.specs.declared.entry.Entry.{Entry}
use Rattle.mg_model.specs.Answers.{is_committed, is_open}
use Rattle.mg_model.specs.History.{Entries}
use Rattle.mg_model.specs.Openings.{everyone}
use Rattle.mg_model.specs.declared.opening.Opening.{Opening}
use Rattle.mg_model.specs.declared.table.Table.{Table}
use Rattle.mg_overlay_laws.specs.Overlays.{left_state}
use Rattle.mg_seek.specs.Readings.{ObstaclesOfReadings, obstacle_by}
use Rattle.mg_seek.specs.Versions.{wants}
use Rattle.mg_seek.specs.Views.{IsObstacle, hinders, obstacle_of}
use Rattle.mg_seek.specs.declared.views.Obstacle.{Obstacle}
use Rattle.mg_seek.specs.declared.whose.Wanted.TheVariants.{Living}
use Rattle.mg_snap.specs.Live.{State, sees}
use Rattle.mg_engine_step_laws.specs.standing.Standing.{Standing, Stands}
use Rattle.mg_version.specs.declared.cell.Link.{Link}
use Rattle.std.proofs.Common.{Bool, List, None, Option, Some, ap, false, if◌then◌else◌, inl, inr, not, refl, subst, sym, true, ℕ, ◌&&◌, ◌==◌, ◌||◌, ◌∙◌, ◌∷◌, ◌≡◌, ◌⊎◌}
use Rattle.std.proofs.lemmas.Bool.{eqb-true, false≢true}
use Rattle.mg_version.specs.declared.cell.Cell.TheVariants as cells

-- ---- definition

-- nobody is in the way of a transaction at a record, whose slot leads to its newest version
abbrev pub RecordsAreFree : Type 0
RecordsAreFree = (size : ℕ) (o : Opening) (h : Entries) (s : Standing) (pages : Pages)
    (stands : Stands packed_form size o h s (Some pages)) (t : ℕ) (table : Table) (rec : RecId) (newest : Link)
    → table_at (stands_of stands.shows.layout) rec.page.0 ≡ Some table
    → cells_of pages rec ≡ Some (cells.Anchor newest) → IsObstacle s.state s.live t pages rec None
    → (s.state newest.tx.0 ≡ Committed) ⊎ ((newest.tx.0 ≡ t) ⊎ (s.state newest.tx.0 ≡ Dead))

-- ---- its proof

-- a transaction, where it is in the way
abbrev found_if : (ℕ → TxState) → TxNo → Bool → Option Obstacle
found_if state by b = if b then Some (record { by = by; state = state by.0 }) else None

none_there : (state : ℕ → TxState) (live : State) (t : ℕ) (by : TxNo) → None ≡ obstacle_of state live t by
    → hinders state live t by.0 ≡ false
none_there state live t by none = at (hinders state live t by.0) refl (sym none)
  where
    at : (b : Bool) → hinders state live t by.0 ≡ b → found_if state by b ≡ None
        → hinders state live t by.0 ≡ false
    at true is some = absurd cc
    at false is none_ = is

open_own : (b : Bool) (by t : ℕ) → (by == t) ≡ b → not b ≡ false → by ≡ t
open_own true by t is off = eqb-true by t is
open_own false by t is off = absurd (false≢true (sym off))

pub records_are_free : ObstaclesOfReadings → RecordsAreFree
records_are_free obstacles size o h s pages stands t table rec newest of slot none =
    by_state (s.state newest.tx.0) refl
  where
    state : ℕ → TxState
    state = left_state everyone s.state

    it : BeginsAt (cells_of pages) (stands.shows.reading rec) newest
    it = begins packed_form size state pages stands.shows.layout stands.shows.reading stands.shows.sound rec table
        of newest slot

    its : writer it.newest ≡ newest.tx.0
    its = ap (λ (n : TxNo). n.0) it.opens.2

    first : None ≡ obstacle_by s.state s.live t (first_entry (wants s.state s.live Living)
        (it.newest ∷ it.older))
    first = subst (λ (es : List Entry). None ≡ obstacle_by s.state s.live t
        (first_entry (wants s.state s.live Living) es)) it.first
        (obstacles s.state s.live t pages table rec None (facts_by state pages stands.shows.layout)
        stands.shows.reading (record { lawful = stands.shows.sound.records; of_table = of }) none)

    state_its : (x : TxState) → s.state newest.tx.0 ≡ x → s.state (writer it.newest) ≡ x
    state_its x is = ap s.state its ∙ is

    -- one that runs, or is in limbo, would be in the way of all others
    runs : (x : TxState) → is_open x ≡ true → s.state newest.tx.0 ≡ x
        → None ≡ obstacle_of s.state s.live t it.newest.version.tx → newest.tx.0 ≡ t
    runs x open_ is none_ = sym its ∙ open_own (writer it.newest == t) (writer it.newest) t refl
        (off (writer it.newest == t) (none_there s.state s.live t it.newest.version.tx none_))
      where
        off : (b : Bool) → (not b && (is_open (s.state (writer it.newest))
            || (is_committed (s.state (writer it.newest)) && not (sees s.live t (writer it.newest))))) ≡ false
            → not b ≡ false
        off true is_ = refl
        off false is_ =
            let open_is : is_open (s.state (writer it.newest)) ≡ true = ap is_open (state_its x is) ∙ open_ in
            absurd (false≢true (sym is_ ∙ rw open_is refl))

    by_state : (x : TxState) → s.state newest.tx.0 ≡ x
        → (s.state newest.tx.0 ≡ Committed) ⊎ ((newest.tx.0 ≡ t) ⊎ (s.state newest.tx.0 ≡ Dead))
    by_state Committed is = inl is
    by_state Dead is = inr (inr is)
    by_state Active is =
        let found : first_entry (wants s.state s.live Living) (it.newest ∷ it.older) ≡ Some it.newest =
        rw (state_its Active is) refl in
        inr (inl (runs Active refl is (first ∙ ap (obstacle_by s.state s.live t) found)))
    by_state Limbo is =
        let found : first_entry (wants s.state s.live Living) (it.newest ∷ it.older) ≡ Some it.newest =
        rw (state_its Limbo is) refl in
        inr (inl (runs Limbo refl is (first ∙ ap (obstacle_by s.state s.live t) found)))
