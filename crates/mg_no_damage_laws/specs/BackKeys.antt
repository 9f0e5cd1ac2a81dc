-- A key is taken back without damage.
use Rattle.std.specs.Prelude.{◌≡◌, ℕ, true, List, Some}
use Rattle.mg_base.specs.Disk.{Meaning}
use Rattle.mg_base.specs.Image.{Image}
use Rattle.mg_base.specs.declared.damage.Damaged.{Damaged}
use Rattle.mg_base.specs.declared.transaction.TxState.{TxState}
use Rattle.mg_engine_change_laws.specs.keys.Takings.{KnowsCache}
use Rattle.mg_engine_change_laws.specs.keys.TakingSteps.{StandsMidway}
use Rattle.mg_engine_meaning_laws.specs.Formers.{MayReturn}
use Rattle.mg_engine_meaning_laws.specs.Standings.{KeepsWritten}
use Rattle.mg_engine_step_laws.specs.standing.Standing.{Remembers, ShowsHistory, Standing}
use Rattle.mg_image.specs.Form.{Pages, packed_form}
use Rattle.mg_model.specs.Changes.{has_change}
use Rattle.mg_engine_step_laws.specs.backs.Midway.{GoesBack}
use Rattle.mg_model.specs.Legal.{IsLegal, MayBegin}
use Rattle.mg_model.specs.declared.change.Point.{Point}
use Rattle.mg_model.specs.History.{Entries, Entry}
use Rattle.mg_model.specs.Machine.{own}
use Rattle.mg_model.specs.declared.change.Change.{Change}
use Rattle.mg_model.specs.declared.opening.Opening.{Opening}
use Rattle.mg_model.specs.declared.table.Table.{Table}
use Rattle.mg_pool.specs.declared.fault.PoolFault.TheVariants as pool_faults
use Rattle.mg_pool.specs.declared.pool.Pool.{Pool}
use Rattle.mg_pool_overlay_laws.specs.Needs.{Asked, Sessions}
use Rattle.mg_snap.specs.Live.{State as Bases}
use Rattle.mg_space.specs.declared.fault.SpaceFault.TheVariants as faults
use Rattle.mg_space.specs.declared.links.FireLinks.{FireLinks}
use Rattle.mg_taking_back.specs.Keys.{FailsKey}
use Rattle.mg_undo.specs.declared.changes.Was.{Was}
use Rattle.mg_value.specs.declared.value.Value.{Value}
use Rattle.mg_works.specs.Works.{Working, written_to}

-- in the middle of a way back, the key of a change that is still to be taken back, in a table that the transaction keeps
-- under the number of its name, and to which what was may come back: no page is found damaged, and what was fits
abbrev pub KeysMeetNoDamage : (D : Type 0) → Meaning D → Type 0
KeysMeetNoDamage D m = (size : ℕ) (o : Opening) (h : Entries) (e : Entry) (t : ℕ) (whole left : List Change)
    (s : Standing) (start before after : Pool D FireLinks) (begun : Pages)
    (first : ShowsHistory packed_form size o h s begun) (i : Image) (asked : Asked) (session : Sessions)
    → StandsMidway m size o h e t whole left s start before begun first i asked session → (point : Point) → MayBegin o
    → IsLegal o h → Remembers o h s → GoesBack o h e point s asked t → (catalog : ℕ) (works : List Working) → KeepsWritten catalog works s.table
    → KnowsCache m size s before i → (c : Change) → has_change left c.table c.key ≡ true
    → has_change (own o h t) c.table c.key ≡ true → (table : Table)
    → written_to works t (s.number t c.table) ≡ Some table → (was : Was) → MayReturn table.shape c.key was
    → (it : Damaged)
    → FailsKey m before after s.state s.live t table c.key was (faults.Damaged it) → ⊥

-- and none is wanting in the cache
abbrev pub KeysMissNoPage : (D : Type 0) → Meaning D → Type 0
KeysMissNoPage D m = (before after : Pool D FireLinks) (state : ℕ → TxState) (live : Bases) (t : ℕ) (table : Table)
    (key : Value) (was : Was) (n : ℕ)
    → FailsKey m before after state live t table key was (faults.Pool (pool_faults.Absent n)) → ⊥
