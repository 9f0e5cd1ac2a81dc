-- Where tables stand, as the program has found it, in the terms of soundness.
use Rattle.std.specs.Prelude.{List, [], map}
use Rattle.mg_image.specs.Tables.{Layout, Stand}
use Rattle.mg_layout.specs.declared.standing.Standing.{Standing}
use Rattle.mg_layout.specs.declared.standing.TableStand.{TableStand}

-- where a table stands
abbrev pub stand_in : TableStand → Stand
stand_in stand = record {
  table = stand.table;
  pointers = stand.pages.pointers.items;
  data_pages = stand.pages.data_pages.items;
  trees = stand.trees.items;
}

-- where these tables stand
abbrev pub stands_in : List TableStand → List Stand
stands_in stands = map stand_in stands

-- where the catalog and the tables stand; there are no sequences yet
abbrev pub layout_in : Standing → Layout
layout_in standing = record {
  catalog = stand_in standing.catalog;
  tables = stands_in standing.tables.items;
  sequences = [];
}
