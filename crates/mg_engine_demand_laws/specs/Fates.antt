-- What an engine's memory says of its transactions changes, and no page does: one asks for its commit, or does not any
-- longer, is rolled back, has committed, or has begun.
use Rattle.std.specs.Prelude.{◌≡◌, ◌≢◌, ◌⊎◌, ℕ, true, false}
use Rattle.mg_base.specs.declared.transaction.TxState.TheVariants.{Active, Committed}
use Rattle.mg_careful.specs.CarefulWrite.{Cache, DemandSet, IsIn}
use Rattle.mg_image.specs.Tables.{Layout}
use Rattle.mg_model.specs.Answers.{is_committed}
use Rattle.mg_model.specs.declared.table.Table.{Table}
use Rattle.mg_space.specs.declared.links.TheConstants.{NEXT}
use Rattle.mg_image_overlay_laws.specs.tables.Growing.{IsTableOf}
use Rattle.mg_demand_laws.specs.Wanting.{want_of}
use Rattle.mg_engine_demand_laws.specs.Bearing.{Fates, IsBorne, Marks, asks}

-- each table of the later layout stood before
abbrev pub StoodBefore : Layout → Layout → Type 0
StoodBefore layout later = (table : Table) → IsTableOf later table → IsTableOf layout table

-- None has come to have committed, and none has come to ask for its commit; one that is active was so, or its number
-- is wanted; each table stood before.
pub record TellsLess (old new : Fates) (layout later : Layout) (of_pool : DemandSet) : Type 0 where
  pub committed : (t : ℕ) → is_committed (new.state t) ≡ is_committed (old.state t)
  pub asking : (t : ℕ) → asks new t ≡ true → (asks old t ≡ true) × (new.session t ≡ old.session t)
  pub active : (t : ℕ) → new.state t ≡ Active → (old.state t ≡ Active) ⊎ IsIn of_pool (want_of 0 NEXT t 0)
  pub tables : StoodBefore layout later

-- the law: all is borne still
abbrev pub TellingKeeps : Type 0
TellingKeeps = (size : ℕ) (cache : Cache) (marks : Marks) (old new : Fates) (layout later : Layout) (roots : DemandSet)
    (borne : IsBorne size cache marks old layout roots) → TellsLess old new layout later borne.of_pool
    → IsBorne size cache marks new later roots

-- A transaction asks for its commit: each dirty page has the mark of its session now, which is no other's that has
-- asked, and no other page has.
pub record AsksNow (cache : Cache) (marks now : Marks) (old new : Fates) (t : ℕ) : Type 0 where
  pub state : (u : ℕ) → new.state u ≡ old.state u
  pub asked : asks new t ≡ true
  pub others : (u : ℕ) → u ≢ t → (asks new u ≡ asks old u) × (new.session u ≡ old.session u)
  pub apart : (u : ℕ) → u ≢ t → asks new u ≡ true → new.session u ≢ new.session t
  pub marked : (page : ℕ) → now page (new.session t) ≡ cache.dirty page
  pub other_marks : (page who : ℕ) → who ≢ new.session t → now page who ≡ marks page who

-- the law: all is borne still
abbrev pub AskingKeeps : Type 0
AskingKeeps = (size : ℕ) (cache : Cache) (marks now : Marks) (old new : Fates) (layout : Layout) (roots : DemandSet)
    (t : ℕ) → IsBorne size cache marks old layout roots → AsksNow cache marks now old new t
    → IsBorne size cache now new layout roots

-- A transaction has committed, which had asked for it, and none of whose pages is marked any longer.
pub record HasCommitted (marks : Marks) (old new : Fates) (t : ℕ) : Type 0 where
  pub asked : asks old t ≡ true
  pub none_marked : (page : ℕ) → marks page (old.session t) ≡ false
  pub here : new.state t ≡ Committed
  pub others : (u : ℕ) → u ≢ t → new.state u ≡ old.state u
  pub asking : (u : ℕ) → u ≢ t → (asks new u ≡ asks old u) × (new.session u ≡ old.session u)

-- the law: all is borne still, and its versions last from now on
abbrev pub CommittingKeeps : Type 0
CommittingKeeps = (size : ℕ) (cache : Cache) (marks : Marks) (old new : Fates) (layout : Layout) (roots : DemandSet)
    (t : ℕ) → IsBorne size cache marks old layout roots → HasCommitted marks old new t
    → IsBorne size cache marks new layout roots
