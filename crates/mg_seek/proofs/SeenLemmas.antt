-- Lemmas on the rows that a transaction sees of a table's records.
use Rattle.std.proofs.Common.{◌≡◌, ◌∙◌, ◌⊎◌, ◌<◌, ◌≤◌, ◌+◌, inl, inr, ℕ, zero, suc, length, get_or, arith, Bool, List, [], ◌∷◌, ◌++◌, Option, None, Some, refl, sym, ap, subst, append_assoc, Result, Ok, Err}
use Rattle.std.specs.Prelude.{◌≢◌, IsErr, IsErrAnd}
use Rattle.std.proofs.lemmas.Bool.{cases_lt}
use Rattle.mg_base.specs.Disk.{Meaning}
use Rattle.mg_base.specs.declared.numbers.RecId.{RecId}
use Rattle.mg_base.specs.declared.numbers.TxNo.{TxNo}
use Rattle.mg_base.specs.declared.transaction.TxState.{TxState}
use Rattle.mg_heap.specs.Reading.{ReadsData}
use Rattle.mg_image.specs.Form.{Pages, Row}
use Rattle.mg_model.specs.declared.table.Table.{Table}
use Rattle.mg_pool.specs.Fault.{StaysOnline, TellsFault}
use Rattle.mg_pool.specs.declared.batch.BatchPage.{BatchPage}
use Rattle.mg_pool.specs.declared.fault.PoolFault.{PoolFault}
use Rattle.mg_pool.specs.declared.fault.PoolFault.TheVariants as pool_faults
use Rattle.mg_pool.specs.declared.pool.Pool.{Pool}
use Rattle.mg_snap.specs.Live.{State}
use Rattle.mg_space.specs.View.{pool_answer}
use Rattle.mg_space.specs.declared.fault.SpaceFault.{SpaceFault}
use Rattle.mg_space.specs.declared.fault.SpaceFault.TheVariants as faults
use Rattle.mg_seek.specs.declared.whose.Wanted.TheVariants.{SeenBy}
use Rattle.mg_seek.specs.Speaking.{RefusesTableRows}
use Rattle.mg_seek.specs.TableRows.{AddsSeen, AreRowsSeen, AreSeen, FindsNamed, RefusesTable, RefusesTables, with_row}
use Rattle.mg_seek.specs.Versions.{wants}
use Rattle.mg_seek.specs.Views.{IsRowSeen}

module _ (state : ℕ → TxState) (live : State) (t : TxNo) (view : Pages) (table : Table) where
  pub adds_none : (rec : RecId) (found : Option Row) (old : List Row)
      → IsRowSeen state live t view table rec found → found ≡ None
      → AddsSeen state live t view table rec old old
  adds_none rec found old seen is = (found, seen, sym (at found is))
    where
      append_nil : (rows : List Row) → rows ++ [] ≡ rows
      append_nil [] = refl
      append_nil (x ∷ rows) = ap (λ (xs : List Row). x ∷ xs) (append_nil rows)

      at : (found : Option Row) → found ≡ None → old ++ with_row found [] ≡ old
      at None none = append_nil old
      at (Some row) none = absurd cc

  pub adds_row : (rec : RecId) (found : Option Row) (row : Row) (old new : List Row)
      → IsRowSeen state live t view table rec found → found ≡ Some row → new ≡ old ++ row ∷ []
      → AddsSeen state live t view table rec old new
  adds_row rec found row old new seen is pushed = (
    found,
    seen,
    pushed
        ∙ ap (λ (x : Option Row). old ++ with_row x []) (sym is),
  )

  -- what completes the rest completes the whole
  pub seen_on : (rec : RecId) (later records : List RecId) (old new more : List Row)
      → AddsSeen state live t view table rec old new
      → AreSeen state live t view table later more
      → ((rows : List Row) → AreSeen state live t view table (rec ∷ later) rows
      → AreSeen state live t view table records (old ++ rows))
      → AreSeen state live t view table records (new ++ more)
  seen_on rec later records old new more (row, seen, is) are further =
      subst (AreSeen state live t view table records)
      (ap (λ (rows : List Row). old ++ rows) (sym (together row))
      ∙ sym (append_assoc old (with_row row []) more)
      ∙ ap (λ (rows : List Row). rows ++ more) (sym is))
      (further (with_row row more) (row, more, seen, are, refl))
    where
      together : (row : Option Row) → with_row row [] ++ more ≡ with_row row more
      together None = refl
      together (Some row) = refl

  pub seen_all : (records : List RecId) (rows : List Row)
      → AreSeen state live t view table records (rows ++ [])
      → AreSeen state live t view table records rows
  seen_all records rows are = subst (AreSeen state live t view table records) (append_nil rows) are
    where
      append_nil : (rows : List Row) → rows ++ [] ≡ rows
      append_nil [] = refl
      append_nil (x ∷ rows) = ap (λ (xs : List Row). x ∷ xs) (append_nil rows)

-- ---- the table of a name

module _ {D L : Type 0} (m : Meaning D) (store : Pool D L) (pages : List BatchPage)
    (state : ℕ → TxState) (live : State) (t : TxNo) (view : Pages) (catalog : Table) where
  pub rows_refuse : (fault : SpaceFault)
      → RefusesTableRows m store pages view (wants state live (SeenBy t)) catalog fault
      → RefusesTable m store pages state live t view catalog fault
  rows_refuse (faults.Full most) refused = refused
  rows_refuse (faults.Damaged it) refused = inl refused
  rows_refuse (faults.Pool fault) refused = tt

  pub tables_refuse : (rows : List Row) (fault : SpaceFault) → AreRowsSeen state live t view catalog rows
      → RefusesTables catalog.pointer.0 rows fault
      → RefusesTable m store pages state live t view catalog fault
  tables_refuse rows (faults.Full most) seen refused = refused
  tables_refuse rows (faults.Damaged it) seen refused =
      inr (record { rows = rows; seen = seen; refused = refused })
  tables_refuse rows (faults.Pool fault) seen refused = tt

tables_fault_as : (T : Type 0) (page : ℕ) (rows : List Row) (fault : SpaceFault)
    → RefusesTables page rows fault → (pool_answer {T = T} (Err fault) ≡ Ok tt)
    ⊎ (pool_answer {T = T} (Err fault) ≡ Err pool_faults.Memory)
tables_fault_as T page rows (faults.Full most) refuses = absurd refuses
tables_fault_as T page rows (faults.Damaged it) refuses = inl refl
tables_fault_as T page rows (faults.Pool fault) refuses = inr (ap Err refuses)

pub tables_fault : {D L T : Type 0} (m : Meaning D) (a b : Pool D L) (page : ℕ) (rows : List Row)
    (result : Result T SpaceFault) (fault : SpaceFault) → IsErr result
    → IsErrAnd result (λ given. given ≡ fault) → RefusesTables page rows fault → StaysOnline m a b
    → TellsFault m a b (pool_answer result)
tables_fault m a b page rows (Ok x) fault err is refuses stays = absurd cc
tables_fault {T = T} m a b page rows (Err given) fault err is refuses stays =
    at (tables_fault_as T page rows given (subst (RefusesTables page rows) (sym is) refuses))
  where
    at : (pool_answer {T = T} (Err given) ≡ Ok tt)
        ⊎ (pool_answer {T = T} (Err given) ≡ Err pool_faults.Memory)
        → TellsFault m a b (pool_answer {T = T} (Err given))
    at (inl told) = subst (λ (answer : Result (Unit {0}) PoolFault). TellsFault m a b answer) (sym told) stays
    at (inr told) = subst (λ (answer : Result (Unit {0}) PoolFault). TellsFault m a b answer) (sym told) stays

reads_tables : (T : Type 0) (page : ℕ) (rows : List Row) (fault : SpaceFault)
    → RefusesTables page rows fault → ReadsData {T = T} (Err fault)
reads_tables T page rows (faults.Full most) refuses = refuses
reads_tables T page rows (faults.Damaged it) refuses = tt
reads_tables T page rows (faults.Pool fault) refuses =
    subst (λ (f : PoolFault). ReadsData {T = T} (Err (faults.Pool f))) (sym refuses) tt

pub tables_read : {T : Type 0} (page : ℕ) (rows : List Row) (result : Result T SpaceFault)
    (fault : SpaceFault) → IsErr result → IsErrAnd result (λ given. given ≡ fault)
    → RefusesTables page rows fault → ReadsData result
tables_read page rows (Ok x) fault err is refuses = absurd cc
tables_read {T = T} page rows (Err given) fault err is refuses =
    reads_tables T page rows given (subst (RefusesTables page rows) (sym is) refuses)

get_or-default : (tables : List Table) (k : ℕ) (d e : Table) → k < length tables
    → get_or tables k d ≡ get_or tables k e
get_or-default [] k d e below = absurd (omega arith)
get_or-default (x ∷ tables) zero d e below = refl
get_or-default (x ∷ tables) (suc k) d e below = get_or-default tables k d e (omega arith)

-- none of the first tables has a name
abbrev pub NoneNamed : List Table → List ℕ → ℕ → Type 0
NoneNamed tables name count =
    (k : ℕ) (d : Table) → k < count → k < length tables → (get_or tables k d).name ≢ name

pub named_more : (tables : List Table) (name : List ℕ) (count : ℕ) (table : Table)
    → (count < length tables) × (table ≡ get_or tables count table) → NoneNamed tables name count
    → (table.name ≡ name → ⊥) → NoneNamed tables name (count + 1)
named_more tables name count table at none other k d below inside = on (cases_lt k count)
  where
    on : (k < count) ⊎ (count ≤ k) → (get_or tables k d).name ≢ name
    on (inl less) = none k d less inside
    on (inr more) = λ is.
        let same : k ≡ count = omega arith in
        other (ap (λ (x : Table). x.name) (at.1 ∙ get_or-default tables count table d at.0
        ∙ ap (λ (j : ℕ). get_or tables j d) (sym same)) ∙ is)

pub named_here : (tables : List Table) (name : List ℕ) (count : ℕ) (table : Table)
    → (count < length tables) × (table ≡ get_or tables count table) → NoneNamed tables name count
    → table.name ≡ name → FindsNamed tables name (Some table)
named_here [] name count table at none same = absurd (omega (arith, at.0))
named_here (x ∷ tables) name zero table at none same =
    inl (ap (λ (y : Table). y.name) (sym at.1) ∙ same, ap Some at.1)
named_here (x ∷ tables) name (suc count) table at none same =
    inr (
      none 0 x (omega arith) (omega arith),
      named_here tables name count table (omega (arith, at.0), at.1)
          (λ k d below inside. none (suc k) d (omega arith) (omega arith)) same,
    )

pub none_named : (tables : List Table) (name : List ℕ) (count : ℕ) → count ≡ length tables
    → NoneNamed tables name count → FindsNamed tables name None
none_named [] name count all none = refl
none_named (x ∷ tables) name count all none = inr (
  none 0 x (omega (arith, all)) (omega arith),
  none_named tables name (length tables) refl
      (λ k d below inside. none (suc k) d (omega (arith, all)) (omega arith)),
)
