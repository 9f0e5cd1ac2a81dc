-- One data page of an image is replaced by one that differs in one slot.
use Rattle.std.proofs.Common.{◌≡◌, ◌≢◌, ◌⊎◌, ◌∙◌, ℕ, ◌==◌, List, eq-eqb, if◌then◌else◌}
use Rattle.mg_base.specs.declared.numbers.RecId.{RecId}
use Rattle.mg_image.specs.Form.{Pages}

-- the pages with another one in the place of one of them
abbrev pub with_page : Pages → ℕ → List ℕ → Pages
with_page pages n page k = if k == n then page else pages k

-- the place of a slot of a page
abbrev pub place : ℕ → ℕ → RecId
place n slot = record { page = record { 0 = n }; slot = slot }
