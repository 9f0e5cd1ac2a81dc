-- What comes of one row after another.
use Rattle.std.proofs.Common.{◌≡◌, ℕ, List, [], ◌∷◌, None, Err, arith, inl, inr, length, refl, subst, sym, ◌∙◌, Result, Ok}
use Rattle.std.specs.Prelude.{MatchResult}
use Rattle.mg_base.specs.Disk.{Meaning}
use Rattle.mg_base.specs.Image.{Image}
use Rattle.mg_base.specs.declared.numbers.RecId.{RecId}
use Rattle.mg_chain.specs.Writing.{GivesSpot, MakesRecord}
use Rattle.mg_image.specs.Form.{Row}
use Rattle.mg_model.specs.declared.table.Table.{Table}
use Rattle.mg_pool.specs.Batch.{Changed}
use Rattle.mg_pool.specs.declared.pool.Pool.{Pool}
use Rattle.mg_pool.specs.Fault.{TellsFault}
use Rattle.mg_space.specs.View.{KeepsStore, ReadsAlone, pool_answer}
use Rattle.mg_space.specs.declared.fault.SpaceFault.{SpaceFault}
use Rattle.mg_version.specs.declared.cell.Version.{Version}
use Rattle.mg_value.specs.declared.shape.Shape.{Shape}
use Rattle.mg_table_batch.specs.Filling.{FillsTable, PutsNaming, PutsRow, PutsRows, PutsTable, StoresRow, TakesFirst, puts_more, rows_at}
use Rattle.mg_table_batch.specs.Refusals.{RefusesNaming, RefusesRow, RefusesRows, RefusesRowsOf, RefusesStoring, RefusesTable, no_memory, rows_first, rows_later, table_rows, too_long, unfit}
use Rattle.mg_table_batch.proofs.SeenLemmas.{naming_on, record_on, row_on, rows_on}

-- a place was given for a row, and its record is made, or not
pub row_made : {D L : Type 0} (m : Meaning D) (a b after : Pool D L) (image : Image) (catalog : Table) (t : ℕ)
    (old given new : Changed) (row : Row) (at : RecId) (v : Version) → StoresRow a.geometry.size catalog t row v
    → KeepsStore m a b → GivesSpot a image old given catalog.pointer.0 at
    → MakesRecord b image given new catalog.pointer.0 at v → PutsRow a image catalog t old new row at
row_made m a b after image catalog t old given new row at v stores keeps spot made = record {
  given = given;
  spot = spot;
  version = v;
  stores = stores;
  makes = record_on m a b keeps image given new catalog.pointer.0 at v made;
}

-- why a row is not stored is no fault of the cache, but for want of memory
pub storing_told : {D L : Type 0} (T : Type 0) (m : Meaning D) (store : Pool D L) (size : ℕ) (catalog : Table) (t : ℕ)
    (row : Row) (fault : SpaceFault) → store.offline ≡ None → RefusesStoring size catalog t row fault
    → TellsFault m store store (pool_answer {T = T} (Err fault))
storing_told {D} {L} T m store size catalog t row fault online (no_memory is) =
    subst (λ (f : SpaceFault). TellsFault m store store (pool_answer {T = T} (Err f))) (sym is) (online, online, refl)
storing_told {D} {L} T m store size catalog t row fault online (unfit none is) =
    subst (λ (f : SpaceFault). TellsFault m store store (pool_answer {T = T} (Err f))) (sym is) (online, online, refl)
storing_told {D} {L} T m store size catalog t row fault online (too_long v stored none is) =
    subst (λ (f : SpaceFault). TellsFault m store store (pool_answer {T = T} (Err f))) (sym is) (online, online, refl)

pub storing_alone : (T : Type 0) (size : ℕ) (catalog : Table) (t : ℕ) (row : Row) (fault : SpaceFault)
    → RefusesStoring size catalog t row fault → ReadsAlone {T = T} (Err fault)
storing_alone T size catalog t row fault (no_memory is) =
    subst (λ (f : SpaceFault). ReadsAlone {T = T} (Err f)) (sym is) tt
storing_alone T size catalog t row fault (unfit none is) =
    subst (λ (f : SpaceFault). ReadsAlone {T = T} (Err f)) (sym is) tt
storing_alone T size catalog t row fault (too_long v stored none is) =
    subst (λ (f : SpaceFault). ReadsAlone {T = T} (Err f)) (sym is) tt

module _ {D L : Type 0} (m : Meaning D) (a b : Pool D L) (image : Image) (catalog : Table) (t : ℕ)
    (all rest later : List Row) (row : Row) (old now mid : Changed) (at : RecId) (is : rest ≡ row ∷ later)
    (keeps : KeepsStore m a b) (put : PutsRow b image catalog t now mid row at) where
  -- one row more is put
  pub puts_step : ((new : Changed) → PutsRows a image catalog t rest now new → PutsRows a image catalog t all old new)
      → (new : Changed) → PutsRows a image catalog t later mid new → PutsRows a image catalog t all old new
  puts_step further new more = further new (subst (λ (rows : List Row). PutsRows a image catalog t rows now new)
      (sym is) (puts_more row later now mid new at (row_on m a b keeps image catalog t now mid row at put) more))

  -- and a later one is not
  pub refuses_step : (c : Pool D L) → KeepsStore m b c
      → ((new : Pool D L) (fault : SpaceFault) → RefusesRows m new image catalog t fault rest b now
      → RefusesRows m new image catalog t fault all a old)
      → (new : Pool D L) (fault : SpaceFault) → RefusesRows m new image catalog t fault later c mid
      → RefusesRows m new image catalog t fault all a old
  refuses_step c reads further new fault more = further new fault
      (subst (λ (rows : List Row). RefusesRows m new image catalog t fault rows b now) (sym is)
      (rows_later row later b c now mid at put reads more))

-- the first of the rows that are left is not put
pub refuses_here : {D L : Type 0} (m : Meaning D) (a b new : Pool D L) (image : Image) (catalog : Table) (t : ℕ)
    (all rest later : List Row) (row : Row) (old now : Changed) (fault : SpaceFault) → rest ≡ row ∷ later
    → ((new : Pool D L) (fault : SpaceFault) → RefusesRows m new image catalog t fault rest b now
    → RefusesRows m new image catalog t fault all a old)
    → RefusesRow m b new image catalog t now row fault → RefusesRows m new image catalog t fault all a old
refuses_here m a b new image catalog t all rest later row old now fault is further refused = further new fault
    (subst (λ (rows : List Row). RefusesRows m new image catalog t fault rows b now) (sym is)
    (rows_first row later b now refused))

pub nothing_left : (rows : List Row) → length rows ≡ 0 → rows ≡ []
nothing_left [] none = refl
nothing_left (row ∷ rows) none = absurd (omega (arith, none))

-- ---- the rows of a table

pub table_on : {D L : Type 0} (m : Meaning D) (a b : Pool D L) (kept : KeepsStore m a b) (image : Image)
    (catalog : Table) (t : ℕ) (rows : List Row) (page : ℕ) (old new : Changed)
    → PutsTable b image catalog t rows page old new → PutsTable a image catalog t rows page old new
table_on m a b kept image catalog t [] page old new same = same
table_on m a b kept image catalog t (own ∷ columns) page old new (named, own_put, more) = (
  named,
  naming_on m a b kept image catalog t old named own page own_put,
  rows_on m a b kept image catalog t columns named new more,
)

-- the first row is put, and then the others are, or not
pub rows_then : {D L : Type 0} (m : Meaning D) (a b after : Pool D L) (image : Image) (catalog : Table) (t : ℕ)
    (rows columns : List Row) (own : Row) (page : ℕ) (old named new : Changed)
    (result : Result (Unit {0}) SpaceFault) → rows ≡ own ∷ columns
    → PutsNaming a image catalog t old named own page → KeepsStore m a b
    → MatchResult result (λ _. PutsRows b image catalog t columns named new)
    (λ fault. RefusesRows m after image catalog t fault columns b named)
    → MatchResult result (λ _. PutsTable a image catalog t rows page old new)
    (RefusesRowsOf m a after image catalog t old rows)
rows_then m a b after image catalog t rows columns own page old named new (Ok x) is puts keeps more =
    subst (λ (rs : List Row). PutsTable a image catalog t rs page old new) (sym is)
    (named, puts, rows_on m a b keeps image catalog t columns named new more)
rows_then m a b after image catalog t rows columns own page old named new (Err fault) is puts keeps refused =
    subst (λ (rs : List Row). RefusesRowsOf m a after image catalog t old rs fault) (sym is) (inr (record {
      page = page;
      named = named;
      ready = b;
      puts = puts;
      keeps = keeps;
      refused = refused;
    }))

pub own_refused : {D L : Type 0} (m : Meaning D) (a after : Pool D L) (image : Image) (catalog : Table) (t : ℕ)
    (rows columns : List Row) (own : Row) (old : Changed) (fault : SpaceFault) → rows ≡ own ∷ columns
    → RefusesNaming m a after image catalog t old own fault
    → RefusesRowsOf m a after image catalog t old rows fault
own_refused m a after image catalog t rows columns own old fault is refused =
    subst (λ (rs : List Row). RefusesRowsOf m a after image catalog t old rs fault) (sym is) (inl refused)

pub none_put : {D L : Type 0} (a : Pool D L) (image : Image) (catalog : Table) (t : ℕ) (rows : List Row) (page : ℕ)
    (batch : Changed) → rows ≡ [] → PutsTable a image catalog t rows page batch batch
none_put a image catalog t rows page batch is =
    subst (λ (rs : List Row). PutsTable a image catalog t rs page batch batch) (sym is) refl

-- the first page is taken, and then the rows are put, or not
pub filled_by : {D L : Type 0} (m : Meaning D) (a b after : Pool D L) (image : Image) (catalog : Table) (t : ℕ)
    (name : List ℕ) (shape : Shape) (slice rows : List Row) (page : ℕ) (old begun new : Changed)
    (result : Result (Unit {0}) SpaceFault) → slice ≡ rows → rows ≡ rows_at name shape page
    → TakesFirst a image old begun page → KeepsStore m a b
    → MatchResult result (λ _. PutsTable b image catalog t slice page begun new)
    (RefusesRowsOf m b after image catalog t begun slice)
    → MatchResult result (λ _. FillsTable a image catalog t name shape old new)
    (RefusesTable m a after image catalog t name shape old)
filled_by m a b after image catalog t name shape slice rows page old begun new (Ok x) same is takes keeps puts = record {
  page = page;
  begun = begun;
  takes = takes;
  rows = subst (λ (rs : List Row). PutsTable a image catalog t rs page begun new) (same ∙ is)
      (table_on m a b keeps image catalog t slice page begun new puts);
}
filled_by m a b after image catalog t name shape slice rows page old begun new (Err fault) same is takes keeps refused =
    table_rows page begun b takes keeps
    (subst (λ (rs : List Row). RefusesRowsOf m b after image catalog t begun rs fault) (same ∙ is) refused)
