-- What a call of the engine asks of the disk.
use Rattle.std.proofs.Common.{◌≡◌, Option, None, Some, OnOk, Result, subst}
use Rattle.mg_base.specs.Disk.{Meaning}
use Rattle.mg_core.specs.declared.parts.Core.{Core}
use Rattle.mg_engine_change_laws.specs.faults.Asked.{AsksNoWrite, AsksOneWrite}
use Rattle.mg_engine_meaning_laws.specs.Meaning.{Places, means_with_room}
use Rattle.mg_model.specs.declared.refusal.Refusal.{Refusal}
use Rattle.mg_model.specs.declared.refusal.Refusal.TheVariants as refusals
use Rattle.mg_records.specs.Asking.{TakesNoPage, TakesNothing, WritesNoPage, WritesOnePage}

pub unwritten_as : {D P : Type 0} (m : Meaning D) (places : Places P) (inside old new : Core D) → inside ≡ old
    → AsksNoWrite m inside new → WritesNoPage (means_with_room m places) old new
unwritten_as {D} m places inside old new same asks = subst (λ (c : Core D). AsksNoWrite m c new) same asks

pub written_as : {D P T : Type 0} (m : Meaning D) (places : Places P) (inside old new : Core D) → inside ≡ old
    → (result : Result T Refusal) → OnOk result (AsksOneWrite m inside new)
    → OnOk result (WritesOnePage (means_with_room m places) old new)
written_as {D} m places inside old new same result asks =
    subst (λ (c : Core D). OnOk result (AsksOneWrite m c new)) same asks

-- what takes nothing takes no page
pub nothing_no_page : (refusal : Option Refusal) → TakesNothing refusal → TakesNoPage refusal
nothing_no_page None takes limit full = absurd cc
nothing_no_page (Some (refusals.NotActive state)) takes limit full = absurd cc
nothing_no_page (Some (refusals.DiskWrite n)) takes limit full = absurd cc
nothing_no_page (Some (refusals.Offline n)) takes limit full = absurd cc
nothing_no_page (Some refusal) takes limit full = absurd takes
