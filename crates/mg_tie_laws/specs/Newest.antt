-- What the slot of a record tells of its newest version in each reading.
use Rattle.std.proofs.Common.{◌≡◌, ap, sym, subst, ◌∙◌, refl, ℕ, List, [], ◌∷◌, Option, Some}
use Rattle.mg_base.specs.declared.numbers.RecId.{RecId}
use Rattle.mg_base.specs.declared.numbers.TxNo.{TxNo}
use Rattle.mg_base.specs.declared.transaction.TxState.{TxState}
use Rattle.mg_base.specs.declared.transaction.TxState.TheVariants.{Committed}
use Rattle.mg_image.specs.declared.entry.Entry.{Entry}
use Rattle.mg_image.specs.Form.{Form, Pages}
use Rattle.mg_image.specs.ReadingLaws.{Opens, chain_opens}
use Rattle.mg_image.specs.RecordRules.{Each, IsVersion}
use Rattle.mg_image.specs.Records.{Cells, Chain, Reading, cells_of, newest_of, record_key}
use Rattle.mg_image.specs.Sound.{IsSoundBy, facts_by}
use Rattle.mg_image.specs.Tables.{Layout, stands_of, table_at}
use Rattle.mg_model.specs.declared.table.Table.{Table}
use Rattle.mg_image_overlay_laws.specs.records.OwnVersion.{FindsNewest}
use Rattle.mg_version.specs.declared.cell.Cell.{Cell}
use Rattle.mg_version.specs.declared.cell.Cell.TheVariants as cells
use Rattle.mg_version.specs.declared.cell.Link.{Link}
use Rattle.mg_version.specs.declared.cell.Version.{Version}
use Rattle.mg_image_overlay_laws.specs.tables.Growing.{FindsSettled}

-- The versions of a record begin with the one to which a link leads.
pub record BeginsAt (h : Cells) (es : List Entry) (l : Link) : Type 0 where
  pub newest : Entry
  pub older : List Entry
  pub first : es ≡ newest ∷ older
  pub opens : Opens h (Some l) (newest ∷ older)

module _ (form : Form) (size : ℕ) (state : ℕ → TxState) (pages : Pages) (layout : Layout) (r : Reading)
    (sound : IsSoundBy form size state pages layout r) (p : RecId) (table : Table)
    (of : table_at (stands_of layout) p.page.0 ≡ Some table) (l : Link)
    (slot : cells_of pages p ≡ Some (cells.Anchor l)) where
  pub begins : BeginsAt (cells_of pages) (r p) l
  begins = by (r p) refl (subst (λ (c : Option Cell). Chain (cells_of pages) (newest_of p c) (r p)) slot
      (sound.records.reads p table of))
    where
      by : (es : List Entry) → r p ≡ es → Chain (cells_of pages) (Some l) (r p)
          → BeginsAt (cells_of pages) (r p) l
      by [] none chain = absurd (chain_opens (cells_of pages) (Some l) []
          (subst (Chain (cells_of pages) (Some l)) none chain))
      by (e ∷ es) first chain = record {
        newest = e;
        older = es;
        first = first;
        opens = chain_opens (cells_of pages) (Some l) (e ∷ es)
            (subst (Chain (cells_of pages) (Some l)) first chain);
      }

  -- where the transaction of the link is committed, so is the newest version
  pub settled_found : state l.tx.0 ≡ Committed → FindsSettled (facts_by state pages layout) r p table
  settled_found committed = record {
    of = of;
    newest = begins.newest;
    older = begins.older;
    first = begins.first;
    settled = ap (λ (t : TxNo). state t.0) begins.opens.2 ∙ committed;
  }

  -- the newest version is the one that stands where the slot leads
  pub newest_found : (v : Version) → cells_of pages l.rec ≡ Some (cells.Version v)
      → FindsNewest (facts_by state pages layout) r p table l.rec v
  newest_found v cell = record {
    of = of;
    newest = begins.newest;
    older = begins.older;
    first = begins.first;
    at = begins.opens.0;
    version = same begins.newest.version (sym begins.opens.1
        ∙ (ap (cells_of pages) begins.opens.0 ∙ cell));
  }
    where
      same : (w : Version) → Some (cells.Version w) ≡ Some (cells.Version v) → w ≡ v
      same w is = cc

  -- its cell stands in a data page of the table
  pub newest_placed : table_at (stands_of layout) l.rec.page.0 ≡ Some table
  newest_placed = ap (λ (x : RecId). table_at (stands_of layout) x.page.0) (sym begins.opens.0)
      ∙ (subst (Each (IsVersion form.coding (facts_by state pages layout) table
      (record_key table (r p)))) begins.first (sound.records.each p table of).each).0.placed
