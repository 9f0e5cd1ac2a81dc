-- What a transaction sees of a record, and who is in its way there.
use Rattle.std.specs.Prelude.{◌≡◌, ℕ, not, Bool, ◌==◌, ◌&&◌, ◌||◌, Option, None, Some, if◌then◌else◌}
use Rattle.mg_base.specs.declared.numbers.RecId.{RecId}
use Rattle.mg_base.specs.declared.numbers.TxNo.{TxNo}
use Rattle.mg_base.specs.declared.transaction.TxState.{TxState}
use Rattle.mg_heap.specs.Walk.{GivesNext}
use Rattle.mg_image.specs.Form.{Pages, Row}
use Rattle.mg_model.specs.Answers.{is_committed, is_open}
use Rattle.mg_model.specs.declared.table.Table.{Table}
use Rattle.mg_snap.specs.Live.{State, sees}
use Rattle.mg_value.specs.declared.value.Value.{Value}
use Rattle.mg_seek.specs.declared.views.Obstacle.{Obstacle}
use Rattle.mg_seek.specs.declared.views.Visit.{Visit}
use Rattle.mg_seek.specs.declared.walk.Placed.{Placed}
use Rattle.mg_seek.specs.declared.whose.Wanted.TheVariants.{Any, Living, SeenBy}
use Rattle.mg_seek.specs.Rows.{IsKeyFound, IsRowFound}
use Rattle.mg_seek.specs.Versions.{IsFirst, wants}

-- The row that a transaction sees of a record: that of the first version that it sees, none where
-- this is a deletion, or it sees none.
pub record IsRowSeen (state : ℕ → TxState) (live : State) (t : TxNo) (view : Pages) (table : Table)
    (rec : RecId) (row : Option Row) : Type 0 where
  pub found : Option Placed
  pub first : IsFirst view (wants state live (SeenBy t)) rec found
  pub gives : IsRowFound table found row

-- The key of a record: that of its newest version, which may be a deletion; none where the slot is none
-- of a record.
pub record IsKeyOf (state : ℕ → TxState) (live : State) (view : Pages) (table : Table) (rec : RecId)
    (key : Option Value) : Type 0 where
  pub newest : Option Placed
  pub first : IsFirst view (wants state live Any) rec newest
  pub gives : IsKeyFound table newest key

-- a transaction can be in the way of t: it is another one, which is active, in limbo, or committed
-- and not seen by t's base
abbrev pub hinders : (ℕ → TxState) → State → ℕ → ℕ → Bool
hinders state live t by = not (by == t)
    && (is_open (state by) || (is_committed (state by) && not (sees live t by)))

-- a transaction and what has become of it, where it can be in the way of t
abbrev pub obstacle_of : (ℕ → TxState) → State → ℕ → TxNo → Option Obstacle
obstacle_of state live t by =
    if hinders state live t by.0 then Some (record { by = by; state = state by.0 }) else None

-- the writer of a version, where it can be in the way of t
abbrev pub obstacle_in : (ℕ → TxState) → State → ℕ → Option Placed → Option Obstacle
obstacle_in state live t None = None
obstacle_in state live t (Some p) = obstacle_of state live t p.version.tx

-- The obstacle of a record for t: the writer of the newest version that is no dead transaction's,
-- where it can be in t's way.
pub record IsObstacle (state : ℕ → TxState) (live : State) (t : ℕ) (view : Pages) (rec : RecId)
    (obstacle : Option Obstacle) : Type 0 where
  pub newest : Option Placed
  pub first : IsFirst view (wants state live Living) rec newest
  pub is : obstacle ≡ obstacle_in state live t newest

-- a visit comes to the record behind another, or to the first one, with the row that t sees there;
-- it is the end exactly where there is no other
abbrev pub IsVisit : (ℕ → TxState) → State → TxNo → Pages → Table → Option RecId → Option Visit
    → Type 0
IsVisit state live t view table after None = GivesNext view table.pointer.0 after None
IsVisit state live t view table after (Some visit) =
    GivesNext view table.pointer.0 after (Some visit.rec)
    × IsRowSeen state live t view table visit.rec visit.row
