-- New index pages, and copies of them.
use Rattle.std.specs.Prelude.{◌≡◌, ℕ, List, [], length, None}
use Rattle.mg_base.specs.Checks.{PassesAll}
use Rattle.mg_base.specs.Fields.{new_page, u32_at, with_u16}
use Rattle.mg_base.specs.declared.fields.TheConstants.{OWN_AT}
use Rattle.mg_node.specs.declared.entry.TheConstants.{CONTENT_AT, END_AT, LEVEL_AT, NODE_KIND}
use Rattle.mg_node.specs.NodePage.{IsNodePage, entries_of, high_of, level_in, low_of, node_checks, right_in}

-- the bytes of a new index page: its common part, its level, and the end of no entries
abbrev pub made_node : ℕ → ℕ → ℕ → ℕ → List ℕ
made_node size number owner level =
    with_u16 (with_u16 (new_page size number NODE_KIND owner 0) LEVEL_AT level) END_AT CONTENT_AT

-- an index page without entries, fences and neighbour
pub record IsNewNode (page : List ℕ) (number owner level : ℕ) : Type 0 where
  pub fields : PassesAll (node_checks page number owner)
  pub lawful : IsNodePage page
  pub on_level : level_in page ≡ level
  pub right : right_in page ≡ 0
  pub low : low_of page ≡ None
  pub high : high_of page ≡ None
  pub entries : entries_of page ≡ []

-- a page says what another one says, under a number of its own
pub record CopiesNode (from to : List ℕ) (number : ℕ) : Type 0 where
  pub size : length to ≡ length from
  pub fields : (owner : ℕ) → PassesAll (node_checks from (u32_at from OWN_AT) owner)
      → PassesAll (node_checks to number owner)
  pub lawful : IsNodePage to
  pub level : level_in to ≡ level_in from
  pub right : right_in to ≡ right_in from
  pub low : low_of to ≡ low_of from
  pub high : high_of to ≡ high_of from
  pub entries : entries_of to ≡ entries_of from
