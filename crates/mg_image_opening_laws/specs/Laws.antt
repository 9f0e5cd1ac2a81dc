-- Each sound image has an opening: what a history may begin with.
use Rattle.std.specs.Prelude.{ℕ}
use Rattle.mg_model.specs.Openings.{IsOpening}
use Rattle.mg_model.specs.declared.opening.Opening.{Opening}
use Rattle.mg_image.specs.Form.{Form, Pages}
use Rattle.mg_image.specs.Histories.{Begins, GivesOpening}
use Rattle.mg_image.specs.Opening.{Holds, Opened}
use Rattle.mg_image.specs.Records.{Reading}
use Rattle.mg_image.specs.Sound.{IsSound}
use Rattle.mg_image.specs.Tables.{Layout}

-- a history may begin with whatever opening an image gives, be the image sound or blank
abbrev pub OpenedBegin : Form → Type 0
OpenedBegin form = (size : ℕ) (pages : Pages) (opened : Opened) → Holds form size pages opened
    → (o : Opening) × Begins opened o × IsOpening o

-- so each sound image has an opening
abbrev pub SoundHaveOpenings : Form → Type 0
SoundHaveOpenings form = (size : ℕ) (pages : Pages) (layout : Layout) (r : Reading)
    → IsSound form size pages layout r → (o : Opening) × GivesOpening form size pages o
