use Rattle.std.proofs.Common.{◌∷◌}
use Rattle.mg_image.specs.Form.{packed_form}
use Rattle.mg_image_overlay_laws.specs.kept.KeptImages.{keeping}
use Rattle.mg_image_overlay_laws.specs.transactions.MidwayLaws.{midway_writes, midway_written}
use Rattle.mg_image_overlay_laws.proofs.bits.bits_are_written.Goals as goal

pub returns-clause-others : goal.returns-clause-others
returns-clause-others c = λ size o h e state now page before old new gone needs later writes left stays midway.
    midway_writes (keeping packed_form size o h) (keeping packed_form size o (e ∷ h)) page before state now
    old new gone needs later writes left midway stays

pub returns-clause-their_page : goal.returns-clause-their_page
returns-clause-their_page c = λ size o h e state now page before old new gone needs later writes left out midway.
    midway_written (keeping packed_form size o h) (keeping packed_form size o (e ∷ h)) page before state now
    old new gone needs later writes left midway out
