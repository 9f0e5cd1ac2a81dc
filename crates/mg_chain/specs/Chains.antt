-- The versions of a record from its newest one on, and which of them a transaction sees.
use Rattle.std.specs.Prelude.{◌≡◌, ℕ, ◌+◌, ◌==◌, ◌||◌, ◌&&◌, Bool, List, [], ◌∷◌, Option, None, Some, if◌then◌else◌}
use Rattle.mg_base.specs.declared.transaction.TxState.{TxState}
use Rattle.mg_image.specs.Form.{Pages}
use Rattle.mg_image.specs.Records.{Cells, cells_of, newest_of, writer}
use Rattle.mg_image.specs.declared.entry.Entry.{Entry}
use Rattle.mg_base.specs.declared.numbers.RecId.{RecId}
use Rattle.mg_model.specs.Answers.{is_committed}
use Rattle.mg_snap.specs.Live.{State, sees}
use Rattle.mg_version.specs.declared.cell.Cell.TheVariants as cells
use Rattle.mg_version.specs.declared.cell.Link.{Link}
use Rattle.mg_version.specs.declared.cell.Version.{Version}

-- a link meets a version: at its place stands a version of the transaction that it names
pub record Meets (h : Cells) (l : Link) (v : Version) : Type 0 where
  pub cell : h l.rec ≡ Some (cells.Version v)
  pub by : v.tx ≡ l.tx

-- a transaction sees the versions that it wrote itself, and those of committed ones that its base
-- sees
abbrev pub takes_version : (ℕ → TxState) → State → ℕ → ℕ → Bool
takes_version state live t by = by == t || (is_committed (state by) && sees live t by)

-- where the newest version of a record is
abbrev pub newest_link : Pages → RecId → Option Link
newest_link view rec = newest_of rec (cells_of view rec)

-- following links from the newest version of a record comes to a link after so many steps; `holder`
-- is the page where the link stands
pub data LeadsTo (h : Cells) (start : Option Link) (first : ℕ) : ℕ → ℕ → Link → Type 0 where
  starts : (l : Link) → start ≡ Some l → LeadsTo h start first 0 first l
  goes_on : (n holder : ℕ) (l m : Link) (v : Version) → LeadsTo h start first n holder l
      → Meets h l v → v.back ≡ Some m → LeadsTo h start first (n + 1) l.rec.page.0 m

-- the first of these versions whose writer passes a test
abbrev pub first_taken : (ℕ → Bool) → List Entry → Option Version
first_taken takes [] = None
first_taken takes (e ∷ es) = if takes (writer e) then Some e.version else first_taken takes es
