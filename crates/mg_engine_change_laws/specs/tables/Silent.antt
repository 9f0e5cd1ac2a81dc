-- Keys of the catalog for which nobody speaks.
use Rattle.std.specs.Prelude.{◌≡◌, ◌⊎◌, ℕ, List, [], Some}
use Rattle.mg_base.specs.Disk.{Meaning}
use Rattle.mg_base.specs.Image.{Image}
use Rattle.mg_base.specs.declared.transaction.TxState.{TxState}
use Rattle.mg_value.specs.declared.value.Value.{Value}
use Rattle.mg_generation_laws.specs.Generations.{Generation}
use Rattle.mg_generation_laws.specs.Kept.{IsErasedForAll}
use Rattle.mg_model.specs.declared.opening.Opening.{Opening}
use Rattle.mg_model.specs.Catalog.{catalog_name}
use Rattle.mg_model.specs.History.{Entries}
use Rattle.mg_model.specs.Openings.{everyone}
use Rattle.mg_image.specs.Form.{Pages, packed_form}
use Rattle.mg_image.specs.Records.{Reading}
use Rattle.mg_image.specs.Sound.{IsSoundBy, facts_by}
use Rattle.mg_image.specs.Tables.{Layout}
use Rattle.mg_overlay_laws.specs.Overlays.{left_state}
use Rattle.mg_pool.specs.Pool.{shown}
use Rattle.mg_txlist.specs.TxList.{said}
use Rattle.mg_core.specs.declared.parts.Core.{Core}
use Rattle.mg_engine_step_laws.specs.standing.StandingLaws.{IsChainOf}
use Rattle.mg_engine_step_laws.specs.standing.Versions.{HaveVersions}

-- on pages that have the versions of a history no version of a key of the catalog counts, whichever record speaks for it
abbrev pub IsSilentOn : ℕ → Opening → Entries → (ℕ → TxState) → Pages → Value → Type 0
IsSilentOn size o h state pages key = (a : Layout) (r : Reading)
    → IsSoundBy packed_form size (left_state everyone state) pages a r
    → (versions : HaveVersions o h (facts_by (left_state everyone state) pages a) r) → (chain : List Generation)
    → IsChainOf (facts_by (left_state everyone state) pages a) r catalog_name key (versions.speaker catalog_name key) chain
    → (chain ≡ []) ⊎ IsErasedForAll o h chain

-- so it is on the pages of an engine
abbrev pub IsSilentIn : {D : Type 0} → Meaning D → Core D → Opening → Entries → Value → Type 0
IsSilentIn m core o h key = (image : Image) → m.held core.store.disk ≡ Some image
    → IsSilentOn core.store.geometry.size o h (said core.list) (shown core.store.dirty image) key
