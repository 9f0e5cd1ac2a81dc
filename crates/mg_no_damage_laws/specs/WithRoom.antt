-- A keeper whose calls take few pages stands for its histories with the room that their openings promise.
use Rattle.std.proofs.Common.{◌≡◌, ◌∙◌, inl, inr, ◌⊎◌, ◌<◌, ◌≤◌, ◌+◌, ◌*◌, ◌&&◌, ℕ, Bool, true, false, List, [], ◌∷◌, Option, Some, None, Result, Ok, Err, arith, cond, refl, subst, sym}
use Rattle.std.specs.Prelude.{length, if◌then◌else◌}
use Rattle.std.proofs.Math.Nat.{min-eq_left}
use Rattle.std.proofs.lemmas.Bool.{cases_lt}
use Rattle.mg_base.specs.declared.numbers.TxNo.{TxNo}
use Rattle.mg_expr.specs.declared.expr.Expr.{Expr}
use Rattle.mg_value.specs.declared.shape.Column.{Column}
use Rattle.mg_value.specs.declared.shape.Shape.{Shape}
use Rattle.mg_value.specs.declared.shape.TheConstants.{MOST_COLUMNS}
use Rattle.mg_model.specs.declared.answer.Answer.{Answer}
use Rattle.mg_model.specs.declared.answer.Answer.TheVariants.{Fine, No, Rows}
use Rattle.mg_model.specs.declared.change.Point.{Point}
use Rattle.mg_model.specs.declared.change.Point.TheVariants.{LastMark, SavepointNamed}
use Rattle.mg_model.specs.declared.change.Step.{Step}
use Rattle.mg_model.specs.declared.event.Event.{Event}
use Rattle.mg_model.specs.declared.event.Event.TheVariants.{BackTo, Find, Insert, Rollback, UndoMark}
use Rattle.mg_model.specs.declared.opening.Opening.{Opening}
use Rattle.mg_model.specs.declared.refusal.Refusal.{Refusal}
use Rattle.mg_model.specs.declared.refusal.Refusal.TheVariants.{DatabaseFull}
use Rattle.mg_model.specs.Answers.{is_active}
use Rattle.mg_model.specs.Catalog.{catalog_name, count_said}
use Rattle.mg_model.specs.Changes.{Cells, same_name}
use Rattle.mg_model.specs.History.{Entries, entry}
use Rattle.mg_model.specs.Legal.{is_fine}
use Rattle.mg_model.specs.Machine.{deeds_by, has_point, state_of, steps}
use Rattle.mg_catalog.specs.RowsSaid.{column_rows, table_row}
use Rattle.mg_no_damage_laws.specs.AlikeRoom.{commits_with, keeps_with}
use Rattle.mg_records.specs.Adding.{Adds, fine_or, number_or}
use Rattle.mg_records.specs.Asking.{TakesNoPage}
use Rattle.mg_records.specs.Keeping.{Causes, Keeps, Reads, refusal_in}
use Rattle.mg_records.specs.Meaning.{Means}
use Rattle.mg_records.specs.Needed.{AreFullForCause, IsFullForCause, StandsWithRoom, is_table_row, pages_needed, pages_of, pages_of_catalog, takes_pages, with_room}
use Rattle.mg_records.specs.Reading.{FindAdds}
use Rattle.mg_records.specs.Room.{TakesAtMost, TakesFew, TakesFewBack, pages_of_row, pages_of_table, records_back}
use Rattle.mg_records.specs.TakingBack.{GivesUp, GoesBack, Undoes, is_given_up}
use Rattle.mg_records.specs.Writing.{InsertsEach, MakesTable, event_of, new_table}
use Rattle.mg_records.specs.declared.write.Write.{Write}
use Rattle.mg_records.specs.declared.write.Write.TheVariants as writes
use Rattle.mg_undo.specs.Machine.{changes_since, first_of}

-- ---- refusals

-- an answer that is DATABASE FULL comes of a refusal for want of pages
pub fine_full : (result : Result (Unit {0}) Refusal) (limit : ℕ) → fine_or result ≡ No (DatabaseFull limit)
    → refusal_in result ≡ Some (DatabaseFull limit)
fine_full (Ok x) limit is = absurd cc
fine_full (Err refusal) limit is = let same : refusal ≡ DatabaseFull limit = cc is in cc same

pub number_full : (result : Result TxNo Refusal) (limit : ℕ) → number_or result ≡ No (DatabaseFull limit)
    → refusal_in result ≡ Some (DatabaseFull limit)
number_full (Ok t) limit is = absurd cc
number_full (Err refusal) limit is = let same : refusal ≡ DatabaseFull limit = cc is in cc same

refused_full : (refusal : Refusal) (limit : ℕ) → No refusal ≡ No (DatabaseFull limit)
    → Some refusal ≡ Some (DatabaseFull limit)
refused_full refusal limit is = let same : refusal ≡ DatabaseFull limit = cc is in cc same

-- an event may take pages, or its call was not refused for want of them
abbrev pub TakesPages : Event → Option Refusal → Type 0
TakesPages event refusal = (takes_pages event ≡ true) ⊎ TakesNoPage refusal

-- ---- rows that are written

-- the event of a write may take as much as a row
catalog_least : (fine : Bool) (row : Cells) → pages_of_row ≤ pages_of_catalog fine row
catalog_least true row = at (is_table_row row)
  where
    at : (b : Bool) → pages_of_row ≤ (if b then pages_of_table 0 else pages_of_row)
    at true = omega arith
    at false = omega arith
catalog_least false row = at (is_table_row row)
  where
    at : (b : Bool) → pages_of_row ≤ pages_of_table (if b then count_said row else MOST_COLUMNS)
    at true = omega arith
    at false = omega arith

pub write_least : (o : Opening) (h : Entries) (t : TxNo) (table : List ℕ) (write : Write) (answer : Answer)
    → pages_of_row ≤ pages_of o h (event_of t table write) answer
write_least o h t table (writes.Insert row) answer = at (same_name table catalog_name)
  where
    at : (b : Bool) → pages_of_row ≤ (if b then pages_of_catalog (is_fine answer) row else pages_of_row)
    at true = catalog_least (is_fine answer) row
    at false = omega arith
write_least o h t table (writes.Change key row) answer = omega arith
write_least o h t table (writes.Erase key) answer = omega arith

pub write_takes : (t : TxNo) (table : List ℕ) (write : Write) → takes_pages (event_of t table write) ≡ true
write_takes t table (writes.Insert row) = refl
write_takes t table (writes.Change key row) = refl
write_takes t table (writes.Erase key) = refl

-- ---- the rows of a table that is made

-- a row of the catalog is no table's; none of several rows is
abbrev IsOther : Cells → Type 0
IsOther row = is_table_row row ≡ false

abbrev AreOther : List Cells → Type 0
AreOther [] = Unit {0}
AreOther (row ∷ rows) = IsOther row × AreOther rows

columns_other : (name : List ℕ) (key place : ℕ) (columns : List Column) → AreOther (column_rows name key place columns)
columns_other name key place [] = tt
columns_other name key place (column ∷ columns) = (refl, columns_other name key (place + 1) columns)

columns_many : (name : List ℕ) (key place : ℕ) (columns : List Column)
    → length (column_rows name key place columns) ≡ length columns
columns_many name key place [] = refl
columns_many name key place (column ∷ columns) =
    let rest = columns_many name key (place + 1) columns in omega (arith, rest)

-- the table's own row says how many columns it has
own_says : (name : List ℕ) (shape : Shape) → length shape.columns ≤ MOST_COLUMNS
    → count_said (table_row (new_table name shape)) ≡ length shape.columns
own_says name shape few = min-eq_left few

-- a row that is refused may take as much as its table
refused_other : (o : Opening) (h : Entries) (t : TxNo) (row : Cells) (refusal : Refusal) → IsOther row
    → pages_of_table MOST_COLUMNS ≤ pages_of o h (Insert t catalog_name row) (No refusal)
refused_other o h t row refusal other = at (is_table_row row) other
  where
    at : (b : Bool) → b ≡ false → pages_of_table MOST_COLUMNS ≤ pages_of_table (if b then count_said row else MOST_COLUMNS)
    at true is = absurd cc
    at false is = omega arith

-- where there is no such point no record is taken back
none_back : (t : ℕ) (point : Point) (list : List Step) → has_point t point list ≡ false
    → pages_of_row * records_back t point list ≤ 0
none_back t point list none = at (has_point t point list) none
  where
    many : ℕ
    many = length (first_of (changes_since point (deeds_by t list)))

    at : (b : Bool) → b ≡ false → pages_of_row * (if b then many else 0) ≤ 0
    at true is = absurd cc
    at false is = omega arith

module _ {R P : Type 0} (m : Means R P) (told : (r : R) (o : Opening) (h : Entries) → m.stands r o h → m.tells r ≡ true)
    (fewer : (r : R) (many few : ℕ) → few ≤ many → m.has_free r many → m.has_free r few) where
  -- what is refused for want of pages names the page limit
  names_limit : (old new : R) (refusal : Option Refusal) → Keeps m old new refusal → (limit : ℕ)
      → refusal ≡ Some (DatabaseFull limit) → limit ≡ m.page_limit old
  names_limit old new refusal keeps limit is =
      let cause : Causes m old new (Some (DatabaseFull limit)) = subst (Causes m old new) is keeps.cause in cause.1

  -- ---- one entry more

  module _ (old new : R) (o : Opening) (h : Entries) (has : StandsWithRoom m old o h) where
    -- the page limit stays
    full_on : (refusal : Option Refusal) (entries : Entries) → Keeps m old new refusal
        → AreFullForCause (m.page_limit old) o entries → AreFullForCause (m.page_limit new) o entries
    full_on refusal entries keeps full =
        subst (λ (limit : ℕ). AreFullForCause limit o entries) (sym keeps.page_limit) full

    -- a call adds no entry, and takes no page
    room_stays : (refusal : Option Refusal) (most : ℕ) → Keeps m old new refusal → TakesAtMost m old new refusal most
        → most ≤ 0 → m.stands new o h → StandsWithRoom m new o h
    room_stays refusal most keeps takes none stands = record {
      stands = stands;
      left = λ count within. takes.left count (fewer old count (count + most) (omega (arith, none))
          (has.left count within));
      full = full_on refusal h keeps has.full;
    }

    -- it adds one, and takes no more than that may
    room_grows : (event : Event) (answer : Answer) (refusal : Option Refusal) (most : ℕ) → Keeps m old new refusal
        → TakesAtMost m old new refusal most → most ≤ pages_of o h event answer
        → ((limit : ℕ) → answer ≡ No (DatabaseFull limit) → refusal ≡ Some (DatabaseFull limit))
        → TakesPages event refusal
        → m.stands new o (entry event answer ∷ h) → StandsWithRoom m new o (entry event answer ∷ h)
    room_grows event answer refusal most keeps takes least full kind stands = record {
      stands = stands;
      left = left;
      full = full_on refusal (entry event answer ∷ h) keeps (for_cause kind, has.full);
    }
      where
        left : (count : ℕ) → pages_of o h event answer + pages_needed o h + count ≤ o.free → m.has_free new count
        left count within = takes.left count (fewer old (count + pages_of o h event answer) (count + most)
            (omega (arith, least)) (has.left (count + pages_of o h event answer) (omega (arith, within))))

        needs_more : (limit : ℕ) → answer ≡ No (DatabaseFull limit)
            → (o.free < pages_of o h event answer + pages_needed o h) ⊎ (pages_of o h event answer + pages_needed o h ≤ o.free)
            → o.free < pages_of o h event answer + pages_needed o h
        needs_more limit is (inl more) = more
        needs_more limit is (inr within) = absurd (takes.enough (fewer old (pages_of o h event answer) most least
            (has.left (pages_of o h event answer) (omega (arith, within)))) limit (full limit is))

        for_cause : TakesPages event refusal → IsFullForCause (m.page_limit old) o h event answer
        for_cause (inl may) limit is = (
          names_limit old new refusal keeps limit (full limit is),
          may,
          needs_more limit is (cases_lt o.free (pages_of o h event answer + pages_needed o h)),
        )
        for_cause (inr none) limit is = absurd (none limit (full limit is))

    -- a transaction that was to be taken back, and was refused, may have been rolled back
    room_given_up : (b : Bool) (t : TxNo) (event : Event) (refusal : Refusal) (most : ℕ) → takes_pages event ≡ true
        → Keeps m old new (Some refusal) → TakesAtMost m old new (Some refusal) most → most ≤ pages_of o h event (No refusal)
        → m.stands new o (cond b (entry (Rollback t) Fine ∷ entry event (No refusal) ∷ h) (entry event (No refusal) ∷ h))
        → StandsWithRoom m new o
        (cond b (entry (Rollback t) Fine ∷ entry event (No refusal) ∷ h) (entry event (No refusal) ∷ h))
    room_given_up false t event refusal most may keeps takes least stands =
        room_grows event (No refusal) (Some refusal) most keeps takes least (refused_full refusal) (inl may) stands
    room_given_up true t event refusal most may keeps takes least stands = record {
      stands = stands;
      left = left;
      full = full_on (Some refusal) (entry (Rollback t) Fine ∷ entry event (No refusal) ∷ h) keeps
          (λ limit is. absurd cc, (for_cause, has.full));
    }
      where
        left : (count : ℕ) → 0 + (pages_of o h event (No refusal) + pages_needed o h) + count ≤ o.free
            → m.has_free new count
        left count within = takes.left count (fewer old (count + pages_of o h event (No refusal)) (count + most)
            (omega (arith, least)) (has.left (count + pages_of o h event (No refusal)) (omega (arith, within))))

        needs_more : (limit : ℕ) → No refusal ≡ No (DatabaseFull limit)
            → (o.free < pages_of o h event (No refusal) + pages_needed o h)
            ⊎ (pages_of o h event (No refusal) + pages_needed o h ≤ o.free)
            → o.free < pages_of o h event (No refusal) + pages_needed o h
        needs_more limit is (inl more) = more
        needs_more limit is (inr within) = absurd (takes.enough (fewer old (pages_of o h event (No refusal)) most least
            (has.left (pages_of o h event (No refusal)) (omega (arith, within)))) limit (refused_full refusal limit is))

        for_cause : IsFullForCause (m.page_limit old) o h event (No refusal)
        for_cause limit is = (
          names_limit old new (Some refusal) keeps limit (refused_full refusal limit is),
          may,
          needs_more limit is (cases_lt o.free (pages_of o h event (No refusal) + pages_needed o h)),
        )

  -- ---- calls

  module _ (old new : R) where
    -- it adds an entry
    pub adds_with : (event : Event) (answer : Answer) (refusal : Option Refusal) (most : ℕ)
        → ((o : Opening) (h : Entries) → most ≤ pages_of o h event answer)
        → ((limit : ℕ) → answer ≡ No (DatabaseFull limit) → refusal ≡ Some (DatabaseFull limit))
        → TakesPages event refusal → Keeps m old new refusal → TakesFew m old new refusal most → Adds m old new event answer
        → Adds (with_room m) old new event answer
    adds_with event answer refusal most least full kind keeps takes adds o h has =
        let it = adds o h has.stands in (
          it.0,
          room_grows old new o h has event answer refusal most keeps (takes o h has.stands (told old o h has.stands)) (least o h) full kind
              it.1,
        )

    -- it adds none
    pub reads_with : (refusal : Option Refusal) (walks : Option ℕ) → TakesFew m old new refusal 0
        → Reads m old new refusal walks → Reads (with_room m) old new refusal walks
    reads_with refusal walks takes reads = record {
      stays = λ o h has. room_stays old new o h has refusal 0 reads.keeps (takes o h has.stands (told old o h has.stands))
          (omega arith) (reads.stays o h has.stands);
      keeps = keeps_with m old new refusal reads.keeps;
      tables = reads.tables;
      walks_stay = reads.walks_stay;
      commits = commits_with m old new walks reads.commits;
    }

    -- a statement tells what it found
    pub finds_with : (t : TxNo) (name : List ℕ) (filter : Option Expr) (rows : List Cells)
        (result : Result (Unit {0}) Refusal) → TakesNoPage (refusal_in result) → Keeps m old new (refusal_in result)
        → TakesFew m old new (refusal_in result) 0 → FindAdds m old new t name filter rows result → FindAdds (with_room m) old new t name filter rows result
    finds_with t name filter rows (Ok x) none keeps takes adds = λ o h has is.
        room_grows old new o h has (Find t name filter) (Rows rows) (refusal_in {T = Unit {0}} (Ok x)) 0
        keeps (takes o h has.stands (told old o h has.stands)) (omega arith) (λ limit never. absurd cc) (inr none)
        (adds o h has.stands is)
    finds_with t name filter rows (Err refusal) none keeps takes adds = λ o h has.
        let it = adds o h has.stands in (
          it.0,
          room_grows old new o h has (Find t name filter) (No refusal) (Some refusal) 0
              keeps (takes o h has.stands (told old o h has.stands)) (omega arith) (refused_full refusal) (inr none) it.1,
        )

    -- a transaction was to be taken back, and that was refused
    gives_up_with : (t : TxNo) (event : Event) (refusal : Refusal) → takes_pages event ≡ true
        → Keeps m old new (Some refusal)
        → ((o : Opening) (h : Entries) → m.stands old o h → TakesAtMost m old new (Some refusal) (pages_of o h event (No refusal)))
        → GivesUp m old new t event refusal → GivesUp (with_room m) old new t event refusal
    gives_up_with t event refusal may keeps takes gives o h has =
        let it = gives o h has.stands in (
          it.0,
          room_given_up old new o h has (is_given_up refusal && is_active (state_of o h t.0)) t event refusal
              (pages_of o h event (No refusal)) may keeps (takes o h has.stands) (omega arith) it.1,
        )

    pub undoes_with : (t : TxNo) (result : Result (Unit {0}) Refusal) → Keeps m old new (refusal_in result)
        → TakesFewBack m old new (refusal_in result) t.0 LastMark → Undoes m old new t result
        → Undoes (with_room m) old new t result
    undoes_with t (Ok x) keeps takes adds = λ o h has.
        let it = adds o h has.stands in (
          it.0,
          room_grows old new o h has (UndoMark t) Fine (refusal_in {T = Unit {0}} (Ok x))
              (pages_of_row * records_back t.0 LastMark (steps o h)) keeps (takes o h has.stands (told old o h has.stands))
              (omega arith) (λ limit never. absurd cc) (inl refl) it.1,
        )
    undoes_with t (Err refusal) keeps takes gives = gives_up_with t (UndoMark t) refusal refl keeps
        (λ o h stands. takes o h stands (told old o h stands)) gives

    pub goes_with : (t : TxNo) (name : List ℕ) (result : Result Bool Refusal) → Keeps m old new (refusal_in result)
        → TakesFewBack m old new (refusal_in result) t.0 (SavepointNamed name) → GoesBack m old new t name result
        → GoesBack (with_room m) old new t name result
    goes_with t name (Ok true) keeps takes goes = λ o h has.
        let it = goes o h has.stands in (
          it.0,
          it.1,
          room_grows old new o h has (BackTo t name) Fine (refusal_in {T = Bool} (Ok true))
              (pages_of_row * records_back t.0 (SavepointNamed name) (steps o h))
              keeps (takes o h has.stands (told old o h has.stands)) (omega arith) (λ limit never. absurd cc) (inl refl) it.2,
        )
    goes_with t name (Ok false) keeps takes goes = λ o h has.
        let it = goes o h has.stands in (
          it.0,
          it.1,
          room_stays old new o h has (refusal_in {T = Bool} (Ok false))
              (pages_of_row * records_back t.0 (SavepointNamed name) (steps o h))
              keeps (takes o h has.stands (told old o h has.stands))
              (none_back t.0 (SavepointNamed name) (steps o h) it.1) it.2,
        )
    goes_with t name (Err refusal) keeps takes gives = gives_up_with t (BackTo t name) refusal refl keeps
        (λ o h stands. takes o h stands (told old o h stands)) gives

  -- ---- a table is made

  module _ (old new : R) (o : Opening) (t : TxNo) (start : Entries) (has : StandsWithRoom m old o start) (most : ℕ)
      (refusal : Option Refusal) (keeps : Keeps m old new refusal) (takes : TakesAtMost m old new refusal most) where
    -- behind entries that need as much as the call may take
    behind : (h : Entries) → pages_needed o start + most ≤ pages_needed o h
        → AreFullForCause (m.page_limit old) o h → m.stands new o h → StandsWithRoom m new o h
    behind h needs full stands = record {
      stands = stands;
      left = λ count within. takes.left count (has.left (count + most) (omega (arith, within, needs)));
      full = full_on old new o start has refusal h keeps full;
    }

    -- a row came
    came : (row : Cells) (h : Entries) → AreFullForCause (m.page_limit old) o h
        → AreFullForCause (m.page_limit old) o (entry (Insert t catalog_name row) Fine ∷ h)
    came row h full = (λ limit is. absurd cc, full)

    -- a row was refused
    refused : (row : Cells) (h : Entries) (r : Refusal) → refusal ≡ Some r
        → pages_needed o start + most ≤ pages_of o h (Insert t catalog_name row) (No r) + pages_needed o h
        → AreFullForCause (m.page_limit old) o h
        → AreFullForCause (m.page_limit old) o (entry (Insert t catalog_name row) (No r) ∷ h)
    refused row h r is needs full = (
      λ limit told. (
        names_limit old new refusal keeps limit (is ∙ refused_full r limit told),
        refl,
        needs_more limit told
            (cases_lt o.free (pages_of o h (Insert t catalog_name row) (No r) + pages_needed o h)),
      ),
      full,
    )
      where
        needs_more : (limit : ℕ) → No r ≡ No (DatabaseFull limit)
            → (o.free < pages_of o h (Insert t catalog_name row) (No r) + pages_needed o h)
            ⊎ (pages_of o h (Insert t catalog_name row) (No r) + pages_needed o h ≤ o.free)
            → o.free < pages_of o h (Insert t catalog_name row) (No r) + pages_needed o h
        needs_more limit told (inl more) = more
        needs_more limit told (inr within) = absurd (takes.enough (has.left most (omega (arith, within, needs))) limit
            (is ∙ refused_full r limit told))

  -- its columns
  columns_with : (old new : R) (o : Opening) (t : TxNo) (start : Entries) (has : StandsWithRoom m old o start) (most : ℕ)
      (refusal : Option Refusal) (keeps : Keeps m old new refusal) (takes : TakesAtMost m old new refusal most)
      (rows : List Cells) (h : Entries)
      → AreOther rows → pages_needed o start + most ≤ pages_needed o h + 5 * length rows
      → pages_needed o start + most ≤ pages_needed o h + pages_of_table MOST_COLUMNS
      → AreFullForCause (m.page_limit old) o h
      → InsertsEach m new o t rows h refusal → InsertsEach (with_room m) new o t rows h refusal
  columns_with old new o t start has most None keeps takes [] h others all some full stands =
      behind old new o t start has most None keeps takes h (omega (arith, all)) full stands
  columns_with old new o t start has most (Some r) keeps takes [] h others all some full none = none
  columns_with old new o t start has most refusal keeps takes (row ∷ rows) h others all some full (inl (lawful, more)) =
      let least : pages_of_row ≤ pages_of o h (Insert t catalog_name row) Fine =
      write_least o h t catalog_name (writes.Insert row) Fine in
      inl (
        lawful,
        columns_with old new o t start has most refusal keeps takes rows (entry (Insert t catalog_name row) Fine ∷ h) others.1
            (omega (arith, all, least)) (omega (arith, some))
            (came old new o t start has most refusal keeps takes row h full) more,
      )
  columns_with old new o t start has most refusal keeps takes (row ∷ rows) h others all some full
      (inr (r, is, lawful, stands)) =
      let least : pages_of_table MOST_COLUMNS ≤ pages_of o h (Insert t catalog_name row) (No r) =
      refused_other o h t row r others.0 in
      inr (
        r,
        is,
        lawful,
        behind old new o t start has most refusal keeps takes (entry (Insert t catalog_name row) (No r) ∷ h)
            (omega (arith, some, least))
            (refused old new o t start has most refusal keeps takes row h r is (omega (arith, some, least)) full) stands,
      )

  pub makes_with : (old new : R) (t : TxNo) (name : List ℕ) (shape : Shape) (refusal : Option Refusal)
      → length shape.columns ≤ MOST_COLUMNS → Keeps m old new refusal
      → TakesFew m old new refusal (pages_of_table (length shape.columns))
      → MakesTable m old new t name shape refusal → MakesTable (with_room m) old new t name shape refusal
  makes_with old new t name shape refusal few keeps takes makes o h has = made (makes o h has.stands)
    where
      it : TakesAtMost m old new refusal (pages_of_table (length shape.columns))
      it = takes o h has.stands (told old o h has.stands)

      many : length (column_rows name shape.key 0 shape.columns) ≡ length shape.columns
      many = columns_many name shape.key 0 shape.columns

      own : pages_of_table 0 ≤ pages_of o h (Insert t catalog_name (table_row (new_table name shape))) Fine
      own = omega arith

      all : (r : Refusal) → pages_of_table (length shape.columns)
          ≤ pages_of o h (Insert t catalog_name (table_row (new_table name shape))) (No r)
      all r = let says = own_says name shape few in omega (arith, says)

      made : InsertsEach m new o t (table_row (new_table name shape) ∷ column_rows name shape.key 0 shape.columns) h refusal
          → InsertsEach (with_room m) new o t
          (table_row (new_table name shape) ∷ column_rows name shape.key 0 shape.columns) h refusal
      made (inl (lawful, more)) = inl (
        lawful,
        columns_with old new o t h has (pages_of_table (length shape.columns)) refusal keeps it
            (column_rows name shape.key 0 shape.columns)
            (entry (Insert t catalog_name (table_row (new_table name shape))) Fine ∷ h)
            (columns_other name shape.key 0 shape.columns) (omega (arith, own, many)) (omega (arith, own, few))
            (came old new o t h has (pages_of_table (length shape.columns)) refusal keeps it (table_row (new_table name shape)) h
            has.full) more,
      )
      made (inr (r, is, lawful, stands)) =
          let least = all r in inr (
            r,
            is,
            lawful,
            behind old new o t h has (pages_of_table (length shape.columns)) refusal keeps it
                (entry (Insert t catalog_name (table_row (new_table name shape))) (No r) ∷ h) (omega (arith, least))
                (refused old new o t h has (pages_of_table (length shape.columns)) refusal keeps it
                (table_row (new_table name shape)) h r is (omega (arith, least)) has.full) stands,
          )
