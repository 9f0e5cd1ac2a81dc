-- An engine at a moment, by what it has in memory.
use Rattle.std.specs.Prelude.{ℕ, Bool, false, Option, None, Some}
use Rattle.mg_base.specs.Image.{Image}
use Rattle.mg_core.specs.declared.parts.Core.{Core}
use Rattle.mg_engine_demand_laws.specs.Bearing.{Fates}
use Rattle.mg_engine_demand_laws.specs.Runs.{Moment}
use Rattle.mg_image.specs.Tables.{Layout}
use Rattle.mg_txlist.specs.TxList.{said}
use Rattle.mg_works.specs.Works.{Working, work_of}

-- whether a transaction has asked for its commit, and its session, by its work
abbrev pub asked_by : Option Working → Bool
asked_by None = false
asked_by (Some work) = work.asked

abbrev pub session_by : Option Working → ℕ
session_by None = 0
session_by (Some work) = work.session

-- what an engine's memory says of its transactions
abbrev pub fates_of : {D : Type 0} → Core D → Fates
fates_of core = record {
  state = said core.list;
  asked = λ t. asked_by (work_of core.works t);
  session = λ t. session_by (work_of core.works t);
}

-- an engine, over the image that its disk tells, with the layout of its pages
abbrev pub moment_of : {D : Type 0} → Core D → Image → Layout → Moment D
moment_of core image layout =
    record { store = core.store; image = image; fates = fates_of core; layout = layout }
