-- The first version of a record, from the newest on, that is wanted, with its place.
use Rattle.std.specs.Prelude.{◌≡◌, ℕ, not, Bool, true, false, ◌==◌, ◌&&◌, ◌||◌, Option, None, Some}
use Rattle.mg_base.specs.declared.numbers.RecId.{RecId}
use Rattle.mg_base.specs.declared.transaction.TxState.{TxState}
use Rattle.mg_chain.specs.Chains.{Meets, newest_link, takes_version}
use Rattle.mg_chain.specs.Views.{is_dead}
use Rattle.mg_image.specs.Form.{Pages}
use Rattle.mg_image.specs.Records.{Cells, cells_of}
use Rattle.mg_snap.specs.Live.{State}
use Rattle.mg_version.specs.declared.cell.Link.{Link}
use Rattle.mg_version.specs.declared.cell.Version.{Version}
use Rattle.mg_seek.specs.declared.whose.Wanted.{Wanted}
use Rattle.mg_seek.specs.declared.whose.Wanted.TheVariants as wanteds
use Rattle.mg_seek.specs.declared.walk.Placed.{Placed}

-- whose versions are wanted: anybody's; those of all but dead transactions; or those that a
-- transaction sees, its own and those of committed ones that its base sees
abbrev pub wants : (ℕ → TxState) → State → Wanted → ℕ → Bool
wants state live wanteds.Any by = true
wants state live wanteds.Living by = not (is_dead (state by))
wants state live (wanteds.SeenBy t) by = takes_version state live t.0 by

-- a version where it stands
abbrev pub placed : RecId → Version → Placed
placed at version = record { at = at; version = version }

-- from a link on, the first version whose writer passes a test, none where none does
pub data FirstAt (h : Cells) (takes : ℕ → Bool) : Option Link → Option Placed → Type 0 where
  stops : FirstAt h takes None None
  is_it : (l : Link) (v : Version) → Meets h l v → takes v.tx.0 ≡ true
      → FirstAt h takes (Some l) (Some (placed l.rec v))
  is_older : (l : Link) (v : Version) (found : Option Placed) → Meets h l v
      → takes v.tx.0 ≡ false → FirstAt h takes v.back found → FirstAt h takes (Some l) found

-- the first version of a record whose writer passes a test, none where none does
abbrev pub IsFirst : Pages → (ℕ → Bool) → RecId → Option Placed → Type 0
IsFirst view takes rec found = FirstAt (cells_of view) takes (newest_link view rec) found
