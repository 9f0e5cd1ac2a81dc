-- What an overlay has to be: sound, behind the pool, with the versions that count there, and it holds what
-- the history has.
use Rattle.mg_pointer.specs.PointerPage.{next_in}
use Rattle.mg_image_overlay_laws.specs.pages.Kinds.{pointers_of}
use Rattle.mg_base.specs.declared.transaction.TxState.{TxState}
use Rattle.mg_base.specs.declared.transaction.TxState.TheVariants.{Limbo}
use Rattle.mg_image.specs.Form.{Form, Pages}
use Rattle.mg_image.specs.Held.{AreChanges, Changes, Database, IsHeld}
use Rattle.mg_image.specs.Histories.{newest_at}
use Rattle.mg_image.specs.Inventory.{is_used, last_sequence, next_of, tip_page}
use Rattle.mg_image.specs.RecordRules.{committed_in}
use Rattle.mg_image.specs.Records.{Reading}
use Rattle.mg_image.specs.Sound.{IsSoundBy, facts_by}
use Rattle.mg_image.specs.Tables.{Has, Layout, Stand, stands_of}
use Rattle.mg_image_overlay_laws.specs.records.Fronts.{HasFronts}
use Rattle.mg_model.specs.Changes.{row_at}
use Rattle.mg_model.specs.History.{Entries}
use Rattle.mg_model.specs.Machine.{database, own}
use Rattle.mg_model.specs.declared.opening.Opening.{Opening}
use Rattle.mg_overlay_laws.specs.Overlays.{Keeping}
use Rattle.mg_tree_overlay_laws.specs.TreesBehind.{IsTreeBehind}
use Rattle.mg_value.specs.declared.value.Value.{Value}
use Rattle.std.proofs.Common.{List, [], true, ℕ, ◌∷◌, ◌≡◌, ◌≢◌, ◌≤◌}
use Rattle.std.specs.Prelude.{map}

-- ---- an overlay is behind the pool

-- the first of these are those
abbrev pub IsFrontOf : List ℕ → List ℕ → Type 0
IsFrontOf [] ns = Unit {0}
IsFrontOf (m ∷ ms) [] = ⊥
IsFrontOf (m ∷ ms) (n ∷ ns) = (m ≡ n) × IsFrontOf ms ns

-- a table has the same first pages
pub record IsFrontStand (image pool : Stand) : Type 0 where
  pub table : image.table ≡ pool.table
  pub pointers : IsFrontOf image.pointers pool.pointers
  pub data_pages : IsFrontOf image.data_pages pool.data_pages

abbrev pub AreFrontStands : List Stand → List Stand → Type 0
AreFrontStands [] [] = Unit {0}
AreFrontStands [] (b ∷ bs) = ⊥
AreFrontStands (a ∷ stands) [] = ⊥
AreFrontStands (a ∷ stands) (b ∷ bs) = IsFrontStand a b × AreFrontStands stands bs

-- the levels of a table's index trees, for each table
abbrev pub all_trees : List Stand → List (List (List (List ℕ)))
all_trees stands = map (λ stand. stand.trees) stands

-- each index tree of a table is behind the pool's
abbrev pub EachBehind : Pages → Pages → List (List (List ℕ)) → List (List (List ℕ)) → Type 0
EachBehind pool image [] [] = Unit {0}
EachBehind pool image [] (b ∷ bs) = ⊥
EachBehind pool image (a ∷ trees) [] = ⊥
EachBehind pool image (a ∷ trees) (b ∷ bs) = IsTreeBehind pool image a b × EachBehind pool image trees bs

-- the same of the trees of all tables
abbrev pub AllBehind : Pages → Pages → List (List (List (List ℕ))) → List (List (List (List ℕ))) → Type 0
AllBehind pool image [] [] = Unit {0}
AllBehind pool image [] (b ∷ bs) = ⊥
AllBehind pool image (a ∷ all) [] = ⊥
AllBehind pool image (a ∷ all) (b ∷ bs) = EachBehind pool image a b × AllBehind pool image all bs

-- each index tree of these tables of the pool has behind it that of the image's table in the same place
abbrev pub StandsBehind : Pages → Pages → List Stand → List Stand → Type 0
StandsBehind pool image of_pool of_image = AllBehind pool image (all_trees of_pool) (all_trees of_image)

-- An image is behind the pool's: the pool has grown, each chain of pages that the image has goes on as
-- the pool's, and each index tree of the image is behind the pool's.
pub record IsBehind (size : ℕ) (pool image : Pages) (of_pool of_image : Layout) : Type 0 where
  pub next : next_of image ≤ next_of pool
  pub used : (n : ℕ) → is_used size image n ≡ true → is_used size pool n ≡ true
  pub stands : AreFrontStands (stands_of of_image) (stands_of of_pool)
  -- a pointer page that names a next one is as in the pool, since only a table's last one is changed
  pub chained : (m : ℕ) → Has (pointers_of (stands_of of_image)) m → next_in (image m) ≢ 0
      → image m ≡ pool m
  pub tips : (sequence : ℕ) → sequence ≤ last_sequence size image
      → (tip_page size image sequence ≡ tip_page size pool sequence)
      × (image (tip_page size image sequence) ≡ pool (tip_page size pool sequence))
  pub trees : StandsBehind pool image (stands_of of_pool) (stands_of of_image)

-- What an overlay has to be, as long as a history is under way: sound, behind the pool, with the
-- versions that count there, and it holds the history's database and the own changes of those who
-- count as in limbo.
pub record IsKept (form : Form) (size : ℕ) (o : Opening) (h : Entries) (state : ℕ → TxState)
    (pool image : Pages) : Type 0 where
  pub of_pool : Layout
  pub in_pool : Reading
  pub layout : Layout
  pub reading : Reading
  pub sound : IsSoundBy form size state image layout reading
  pub pool_sound : IsSoundBy form size state pool of_pool in_pool
  pub behind : IsBehind size pool image of_pool layout
  pub fronts : HasFronts (facts_by state pool of_pool) (facts_by state image layout) in_pool reading
  pub rows : Database
  pub held : IsHeld (facts_by state image layout) (committed_in (facts_by state image layout))
      reading rows
  pub rows_are : (name : List ℕ) (key : Value) → rows name key ≡ row_at (database o h) name key
  pub changes : Changes
  pub changed : AreChanges (facts_by state image layout) reading changes
  pub changes_are : (t : ℕ) (name : List ℕ) (key : Value) → state t ≡ Limbo
      → changes t name key ≡ newest_at (own o h t) name key

-- the definition as one of the family
abbrev pub keeping : Form → ℕ → Opening → Entries → Keeping
keeping form size o h = IsKept form size o h
