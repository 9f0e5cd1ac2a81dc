-- The pages of transactions, and that tables are plain, while a transaction is taken back.
use Rattle.std.specs.Prelude.{ℕ, List}
use Rattle.mg_base.specs.Disk.{Meaning}
use Rattle.mg_base.specs.Image.{Image}
use Rattle.mg_engine_step_laws.specs.backs.Midway.{GoesBack}
use Rattle.mg_engine_meaning_laws.specs.PlainTables.{HasPlainTables}
use Rattle.mg_engine_change_laws.specs.memory.Directories.{StaysKnown}
use Rattle.mg_engine_change_laws.specs.rows.Tips.{KeepsTips}
use Rattle.mg_engine_change_laws.specs.keys.TakingSteps.{StandsMidway, TakesKeysOf}
use Rattle.mg_image.specs.Form.{Pages, packed_form}
use Rattle.mg_model.specs.History.{Entries, Entry}
use Rattle.mg_model.specs.Legal.{IsLegal, MayBegin}
use Rattle.mg_model.specs.declared.change.Change.{Change}
use Rattle.mg_model.specs.declared.change.Point.{Point}
use Rattle.mg_model.specs.declared.opening.Opening.{Opening}
use Rattle.mg_pool.specs.Pool.{shown}
use Rattle.mg_pool.specs.declared.pool.Pool.{Pool}
use Rattle.mg_pool_overlay_laws.specs.Needs.{Asked, Sessions}
use Rattle.mg_engine_step_laws.specs.standing.Standing.{Remembers, ShowsHistory, Standing}

-- Later pages have the pages of transactions where and as they were, the next number and the catalog's first page; and
-- tables that were plain, and directories that were complete, are so.
pub record KeepsLists (size : ℕ) (s : Standing) (pages later : Pages) : Type 0 where
  pub tips : KeepsTips size pages later
  pub plain : HasPlainTables size s.state pages → HasPlainTables size s.state later
  pub known : StaysKnown size s.state pages later

-- over any number of keys
abbrev pub KeysKeepLists : (D L : Type 0) → Meaning D → Type 0
KeysKeepLists D L m = (size : ℕ) (o : Opening) (h : Entries) (e : Entry) (point : Point) (s : Standing)
    (start before after : Pool D L) (begun : Pages) (first : ShowsHistory packed_form size o h s begun) (i j : Image)
    (asked : Asked) (session : Sessions) (t : ℕ) (whole left rest keys : List Change) → MayBegin o → IsLegal o h
    → Remembers o h s → GoesBack o h e point s asked t
    → TakesKeysOf m size o h e t s first.versions.speaker keys left rest before after i j
    → StandsMidway m size o h e t whole left s start before begun first i asked session
    → KeepsLists size s (shown before.dirty i) (shown after.dirty j)
