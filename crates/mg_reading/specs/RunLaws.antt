-- Laws of versions as they are read one after another.
use Rattle.std.proofs.Common.{◌≡◌, List, [], ◌∷◌, ◌++◌, append_assoc, append-nil, Option, None, Some}
use Rattle.mg_version.specs.declared.cell.Cell.TheVariants as cells
use Rattle.mg_version.specs.declared.cell.Link.{Link}
use Rattle.mg_image.specs.declared.entry.Entry.{Entry}
use Rattle.mg_image.specs.RecordRules.{Each}
use Rattle.mg_image.specs.Records.{Cells, Chain, ended, goes}

-- what the versions that were read are followed by
pub record IsVersionRun (h : Cells) (first : Option Link) (es : List Entry) (next : Option Link)
    : Type 0 where
  pub go_on : (rest : List Entry) → Chain h next rest → Chain h first (es ++ rest)

pub version_run_none : (h : Cells) (first : Option Link) → IsVersionRun h first [] first
version_run_none h first = record { go_on = λ rest chain. chain }

pub version_run_more : (h : Cells) (first : Option Link) (es : List Entry) (l : Link) (e : Entry)
    → IsVersionRun h first es (Some l) → e.at ≡ l.rec → h e.at ≡ Some (cells.Version e.version)
    → e.version.tx ≡ l.tx → IsVersionRun h first (es ++ e ∷ []) e.version.back
version_run_more h first es l e run at is tx = record {
  go_on = λ rest chain. rw (append_assoc es (e ∷ []) rest)
      (run.go_on (e ∷ rest) (goes l e rest at is tx chain));
}

pub version_run_ends : (h : Cells) (first : Option Link) (es : List Entry) (next : Option Link)
    → IsVersionRun h first es next → next ≡ None → Chain h first es
version_run_ends h first es next run none = rw append-nil at (run.go_on [] (rw none ended))

-- one version more has a property
pub each_version_push : (P : Entry → Type 0) (es : List Entry) (e : Entry) → Each P es → P e
    → Each P (es ++ e ∷ [])
each_version_push P [] e each is = (is, tt)
each_version_push P (d ∷ es) e each is = (each.0, each_version_push P es e each.1 is)
