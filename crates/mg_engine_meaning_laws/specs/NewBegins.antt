-- What a new database begins.
use Rattle.std.specs.Prelude.{◌≡◌, ℕ, true}
use Rattle.mg_base.specs.Geometry.{is_page_size}
use Rattle.mg_base.specs.Image.{Image}
use Rattle.mg_engine_meaning_laws.specs.Openings.{BeginsWith, new_history}
use Rattle.mg_format.specs.Format.{IsMade}
use Rattle.mg_new_database_laws.specs.Soundness.{HasWholePages}

-- a history may begin with what a new database holds, however many free pages it is promised
abbrev pub NewBegin : Type 0
NewBegin = (free size : ℕ) (image : Image) → is_page_size size ≡ true → IsMade size image → HasWholePages size image
    → BeginsWith size image (new_history free)
