-- A number is drawn, and the bits of a commit are set: what an engine's cache bears then.
use Rattle.std.specs.Prelude.{◌≡◌, ◌≢◌, ◌<◌, ℕ, false, true, Some}
use Rattle.mg_base.specs.Disk.{Meaning}
use Rattle.mg_base.specs.Image.{Image}
use Rattle.mg_base.specs.declared.transaction.TxState.{TxState}
use Rattle.mg_base.specs.declared.transaction.TxState.TheVariants.{Active}
use Rattle.mg_careful.specs.CarefulWrite.{DemandSet}
use Rattle.mg_image.specs.Form.{packed_form}
use Rattle.mg_image.specs.Inventory.{next_of}
use Rattle.mg_image.specs.Records.{Reading}
use Rattle.mg_image.specs.Sound.{IsSoundBy}
use Rattle.mg_image.specs.Tables.{Layout}
use Rattle.mg_model.specs.Answers.{is_committed}
use Rattle.mg_pool.specs.Dirty.{is_marked}
use Rattle.mg_pool.specs.Pool.{shown}
use Rattle.mg_pool.specs.declared.pool.Pool.{Pool}
use Rattle.mg_space.specs.View.{Tells}
use Rattle.mg_txlist.specs.Ending.{CommitsBits}
use Rattle.mg_txlist.specs.TxList.{next_said}
use Rattle.mg_txlist.specs.declared.list.TxList.{TxList}
use Rattle.mg_tie_laws.specs.CommitTies.{ShowsTip}
use Rattle.mg_tie_laws.specs.DrawTies.{DrawsFrom}
use Rattle.mg_engine_demand_laws.specs.Bearing.{Fates, asks}
use Rattle.mg_engine_demand_laws.specs.Fates.{HasCommitted}
use Rattle.mg_engine_demand_laws.specs.Stores.{StoreBears}

-- A transaction has begun that was none before: it is active, and has not asked for its commit; all others are as they
-- were.
pub record HasBegun (old new : Fates) (t : ℕ) : Type 0 where
  pub undrawn : is_committed (old.state t) ≡ false
  pub here : new.state t ≡ Active
  pub not_asked : new.asked t ≡ false
  pub others : (u : ℕ) → u ≢ t → new.state u ≡ old.state u
  pub asking : (u : ℕ) → u ≢ t → asks new u ≡ true → (asks old u ≡ true) × (new.session u ≡ old.session u)

-- a number is drawn, and its transaction has begun
abbrev pub DrawsKeep : (D L : Type 0) → Meaning D → Type 0
DrawsKeep D L m = (old now : TxList) (before after : Pool D L) (i j : Image) (fates begun : Fates) (layout : Layout)
    (r : Reading) (roots : DemandSet) (state : ℕ → TxState) → DrawsFrom m old now before after i j
    → IsSoundBy packed_form before.geometry.size state (shown before.dirty i) layout r
    → HasBegun fates begun (next_said old)
    → StoreBears before i fates layout roots → StoreBears after j begun layout roots

-- The bits of a commit were changed, written and settled; `k` is the image in between. The list had the page as the
-- cache showed it.
pub record CommitsIn {D L : Type 0} (m : Meaning D) (old now : TxList) (before after : Pool D L) (i k j : Image)
    (t : ℕ) : Type 0 where
  pub commits : CommitsBits m old now before after t
  pub tells : Tells m before.disk i
  pub midway : Tells m commits.settles.changed.disk k
  pub held : m.held after.disk ≡ Some j
  pub shows : ShowsTip old before.geometry.size (shown before.dirty i) t
  pub drawn : t < next_of (shown before.dirty i)
  pub small : next_of (shown before.dirty i) < 4294967296

-- it has committed then
abbrev pub CommitsKeep : (D L : Type 0) → Meaning D → Type 0
CommitsKeep D L m = (old now : TxList) (before after : Pool D L) (i k j : Image) (t : ℕ) (fates ended : Fates)
    (layout : Layout) (r : Reading) (roots : DemandSet) (state : ℕ → TxState)
    → CommitsIn m old now before after i k j t
    → IsSoundBy packed_form before.geometry.size state (shown before.dirty i) layout r
    → HasCommitted (is_marked before.dirty) fates ended t
    → StoreBears before i fates layout roots → StoreBears after j ended layout roots
