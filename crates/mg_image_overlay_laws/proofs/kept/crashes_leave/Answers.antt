use Rattle.std.proofs.Common.{◌≡◌, ℕ, true, false, sym, ◌∙◌, ap}
use Rattle.std.proofs.lemmas.Bool.{eqb-true}
use Rattle.mg_image.specs.Form.{packed_form}
use Rattle.mg_image_overlay_laws.specs.kept.HoldLaws.{overlays_hold}
use Rattle.mg_image_overlay_laws.specs.kept.KeptLaws.{only}
use Rattle.mg_image_overlay_laws.proofs.kept.crashes_leave.Goals as goal

pub returns-clause-nobody : goal.returns-clause-nobody
returns-clause-nobody c = λ size o h cache needs opening legal bits every set_ closed.
    overlays_hold packed_form size o h cache needs opening legal bits every set_ closed

pub returns-clause-chosen : goal.returns-clause-chosen
returns-clause-chosen c = λ size o h state t cache needs none every set_ closed.
    every (only t) set_ closed (λ u p is active needed.
    let same : u ≡ t = eqb-true u t is in
    let off : needs u p ≡ false = ap (λ (w : ℕ). needs w p) same ∙ none p in
    let both : true ≡ false = sym needed ∙ off in absurd cc)
