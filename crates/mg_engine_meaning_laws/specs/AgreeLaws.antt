-- Whoever comes to be committed, a table of pages that show a history has the same indexes: rows of the catalog are only
-- made.
use Rattle.std.proofs.Common.{◌≡◌, ◌⊎◌, ◌||◌, inl, inr, sym, ap, ◌∙◌, subst, ℕ, Bool, List}
use Rattle.std.specs.Prelude.{map}
use Rattle.mg_grown_catalog_laws.specs.Grown.{CatalogGrows}
use Rattle.mg_image.specs.Form.{Pages, packed_coding, packed_form}
use Rattle.mg_image.specs.ReadingLaws.{RowsAreOne}
use Rattle.mg_image.specs.Records.{Reading}
use Rattle.mg_image.specs.Sound.{IsSoundBy}
use Rattle.mg_image.specs.Tables.{Layout}
use Rattle.mg_image_overlay_laws.specs.tables.Growing.{IsTableOf}
use Rattle.mg_image_overlay_laws.specs.tables.OneTable.{one_standing, one_table, stands_in}
use Rattle.mg_image_overlay_laws.specs.tables.TableOwners.{IsOneOf}
use Rattle.mg_model.specs.Legal.{IsLegal, MayBegin, is_limbo}
use Rattle.mg_model.specs.History.{Entries}
use Rattle.mg_model.specs.Openings.{everyone}
use Rattle.mg_model.specs.declared.opening.Opening.{Opening}
use Rattle.mg_model.specs.declared.table.Table.{Table}
use Rattle.mg_noted_laws.specs.ChoiceTables.{tables_are}
use Rattle.mg_overlay_laws.specs.Overlays.{left_state}
use Rattle.mg_engine_step_laws.specs.tables.ChosenTables.{ChosenTablesStand}
use Rattle.mg_engine_step_laws.specs.standing.Known.{KnowsPages}
use Rattle.mg_engine_step_laws.specs.tables.SameRecords.{catalog_stands}
use Rattle.mg_engine_step_laws.specs.standing.Standing.{Standing}
use Rattle.mg_engine_meaning_laws.specs.PlainTables.{IndexesAgree}

-- where rows of the catalog are only made, tables have the same indexes, whoever is chosen
abbrev pub HistoriesAgree : Type 0
HistoriesAgree = (size : ℕ) (o : Opening) (h : Entries) (s : Standing) (pages : Pages) → KnowsPages size o h s pages
    → MayBegin o → IsLegal o h → CatalogGrows o h → IndexesAgree size s.state pages

module _ (one : RowsAreOne packed_coding) (stand : ChosenTablesStand) (size : ℕ) (o : Opening) (h : Entries)
    (s : Standing) (pages : Pages) (knows : KnowsPages size o h s pages) (opening : MayBegin o) (legal : IsLegal o h)
    (grows : CatalogGrows o h) where
  abbrev layout : Layout
  layout = knows.shows.layout

  -- a table under a choice is one of the layout's
  in_layout : (chosen : ℕ → Bool) (a : Layout) (r : Reading)
      → IsSoundBy packed_form size (left_state chosen s.state) pages a r → (x : Table) → IsTableOf a x
      → IsTableOf knows.shows.layout x
  in_layout chosen a r sound x there = at (one_standing a x there)
    where
      at : (a.catalog.table ≡ x) ⊎ IsOneOf (map (λ stand. stand.table) a.tables) x → IsTableOf knows.shows.layout x
      at (inl same) = subst (IsTableOf knows.shows.layout) (knows.shows.sound.catalog ∙ (sym sound.catalog ∙ same))
          (catalog_stands knows.shows.layout)
      at (inr is) = stands_in knows.shows.layout x (inr (stand size o h s pages knows
          (λ u. chosen u || is_limbo (s.state u)) x opening legal grows
          (subst (λ (ts : List Table). IsOneOf ts x) (tables_are one size s.state pages knows.shows.layout
          knows.shows.reading knows.shows.sound chosen a r sound) is)))

  agree : IndexesAgree size s.state pages
  agree chosen other a b r q first second x y there also same = ap (λ (z : Table). z.indexes)
      (one_table packed_form size (left_state everyone s.state) pages knows.shows.layout knows.shows.reading
      knows.shows.sound x y (in_layout chosen a r first x there) (in_layout other b q second y also) same.name)

pub histories_agree : RowsAreOne packed_coding → ChosenTablesStand → HistoriesAgree
histories_agree one stand size o h s pages knows opening legal grows =
    agree one stand size o h s pages knows opening legal grows
