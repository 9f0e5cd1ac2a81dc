-- A record gets a version, or loses its newest one, or a table gets pages: directories stay complete, and rows of the catalog
-- stand alone still.
use Rattle.std.proofs.Common.{◌≡◌, ◌≢◌, ◌∙◌, ◌⊎◌, inl, inr, refl, sym, ap, subst, ℕ, Bool, true, false, List, [], ◌∷◌, Option, None, Some}
use Rattle.mg_base.specs.declared.numbers.RecId.{RecId}
use Rattle.mg_base.specs.declared.transaction.TxState.{TxState}
use Rattle.mg_directory.specs.CandidateLaws.{notes_of}
use Rattle.mg_directory.specs.Candidates.{ByKey, ByTable, IsCandidate, NotesOrDrops}
use Rattle.mg_engine_meaning_laws.specs.KnownRecords.{KnowsRecords}
use Rattle.mg_engine_meaning_laws.specs.LoneRows.{AreLone, HasLoneRows, IsLone}
use Rattle.mg_engine_meaning_laws.specs.LoneRowsLaws.{lone_behind, lone_by, lone_on}
use Rattle.mg_engine_step_laws.specs.tables_back.CatalogPages.{catalog_page_named}
use Rattle.mg_image.specs.Form.{Pages, packed_coding, packed_form}
use Rattle.mg_image.specs.RecordRules.{Facts, table_in}
use Rattle.mg_image.specs.Records.{Reading, cells_of, record_key}
use Rattle.mg_image.specs.Sound.{IsSoundBy, facts_by}
use Rattle.mg_image.specs.Tables.{Layout, Stand, has, stands_of, table_at}
use Rattle.mg_image.specs.declared.entry.Entry.{Entry}
use Rattle.mg_image_overlay_laws.specs.tables.OneLayout.{StandsOneWay}
use Rattle.mg_model.specs.Catalog.{catalog_name}
use Rattle.mg_model.specs.Openings.{everyone}
use Rattle.mg_model.specs.declared.table.Table.{Table}
use Rattle.mg_noted_laws.specs.Coming.{BeginsAs, ComeFrom, NoNew, WasThere}
use Rattle.mg_noted_laws.specs.ComingLaws.{fewer_come, grown_come, left_come, noted_by, noted_stay, written_noted}
use Rattle.mg_noted_laws.specs.Noted.{AreNoted, HasNoted}
use Rattle.mg_overlay_laws.specs.Overlays.{left_state}
use Rattle.mg_sortkey.specs.KeyBytes.{key_bytes}
use Rattle.mg_value.specs.declared.value.Value.{Value}
use Rattle.mg_engine_step_laws.specs.tables_back.Outs.{GoOrStay, GoesWhole}
use Rattle.mg_engine_step_laws.specs.tables_back.Taken.{HasGone, IsLeft, LeavesTables, TakesBack, TakesRows, layout_left, read_of, reading_left, stands_left}
use Rattle.mg_engine_step_laws.specs.tables_back.TakenPages.{takes_back}
use Rattle.mg_engine_step_laws.specs.writes.Writes.{ReadsAfter}
use Rattle.std.proofs.lemmas.Bool.{false≢true}
use Rattle.mg_engine_change_laws.specs.memory.Directories.{KeepsKnown, StaysKnown}
use Rattle.mg_engine_change_laws.specs.tables.Joined.{IsMade, Joins, layout_with, stands_with}
use Rattle.mg_engine_change_laws.specs.tables.JoinedRows.{at_with, cases_made}
use Rattle.mg_engine_change_laws.specs.tables.Rows.{MadeRow, reading_with}
use Rattle.mg_engine_change_laws.specs.rows.WalkLaws.{rec_cases}

begins_self : (es : List Entry) → BeginsAs es es
begins_self [] = tt
begins_self (e ∷ es) = (e, inl refl, refl)

begins_behind : (n : Entry) (es : List Entry) → BeginsAs (n ∷ es) es
begins_behind n [] = tt
begins_behind n (e ∷ es) = (e, inr (inl refl), refl)

none_begins : (es : List Entry) → es ≢ [] → BeginsAs [] es → ⊥
none_begins [] some begins = some refl
none_begins (e ∷ es) some (d, among, row) = among

-- a note makes no directory
pub none_noted : (old new : ByTable) (first : ℕ) (bytes : List ℕ) (rec : RecId) → NotesOrDrops old new first bytes rec
    → (at : ℕ) → old at ≡ None → new at ≡ None
none_noted old new first bytes rec notes at none = by (new at) refl
  where
    by : (found : Option ByKey) → new at ≡ found → new at ≡ None
    by None is = is
    by (Some dir) is =
        let (was, was_is, all_, there) = notes_of old new first bytes rec notes at dir is in
        let both : None ≡ Some was = sym none ∙ was_is in absurd cc

-- a table gets pages, of which no record is read
pub grown_keeps : StandsOneWay packed_form → (size : ℕ) (state : ℕ → TxState) (pages later : Pages) (a b : Layout)
    (r : Reading) → IsSoundBy packed_form size (left_state everyone state) pages a r
    → IsSoundBy packed_form size (left_state everyone state) later b r
    → ((page : ℕ) (x : Table) → table_at (stands_of a) page ≡ Some x → table_at (stands_of b) page ≡ Some x)
    → StaysKnown size state pages later
grown_keeps one size state pages later a b r sound then_ stays from dirs was = record {
  noted = noted_by packed_form one size (left_state everyone state) later dirs b r then_
      (noted_stay (facts_by (left_state everyone state) pages a) (facts_by (left_state everyone state) later b) r r
      dirs dirs (was.noted a r sound)
      (grown_come packed_coding (facts_by (left_state everyone state) pages a)
      (facts_by (left_state everyone state) later b) (cells_of pages) r sound.records
      (λ p table of. stays p.page.0 table of)) (λ first dir is. is));
  lone = lone_by one from size state later b r then_ (lone_on from size (left_state everyone state)
      (left_state everyone state) pages later a b r r sound then_ stood (was.lone a r sound));
}
  where
    stood : (p : RecId) → table_at (stands_of b) p.page.0 ≡ Some b.catalog.table → r p ≢ []
        → (table_at (stands_of a) p.page.0 ≡ Some b.catalog.table) × (IsLone from (r p) → IsLone from (r p))
    stood p of some = (at (table_at (stands_of a) p.page.0) refl, λ it. it)
      where
        at : (x : Option Table) → table_at (stands_of a) p.page.0 ≡ x
            → table_at (stands_of a) p.page.0 ≡ Some b.catalog.table
        at None is = absurd (some (sound.records.outside p is))
        at (Some x) is = is ∙ (sym (stays p.page.0 x is) ∙ of)

module _ (one : StandsOneWay packed_form) (size : ℕ) (state : ℕ → TxState) (pages later : Pages) (a : Layout)
    (r : Reading) (sound : IsSoundBy packed_form size (left_state everyone state) pages a r) (rec : RecId)
    (es : List Entry)
    (reads : ReadsAfter packed_form size (left_state everyone state) pages later a r rec es) where
  abbrev f : Facts
  f = facts_by (left_state everyone state) pages a

  abbrev g : Facts
  g = facts_by (left_state everyone state) later reads.layout

  -- it loses its newest version
  module _ (newest : Entry) (is : r rec ≡ newest ∷ es) where
    begins : (p : RecId) → BeginsAs (r p) (reads.reading p)
    begins p = at (rec_cases p rec)
      where
        at : (p ≡ rec) ⊎ (p ≢ rec) → BeginsAs (r p) (reads.reading p)
        at (inl same) = subst (λ (q : RecId). BeginsAs (r q) (reads.reading q)) (sym same)
            (subst (λ (xs : List Entry). BeginsAs xs (reads.reading rec)) (sym is)
            (subst (λ (xs : List Entry). BeginsAs (newest ∷ es) xs) (sym reads.here) (begins_behind newest es)))
        at (inr ne) = subst (λ (xs : List Entry). BeginsAs (r p) xs) (sym (reads.others p ne)) (begins_self (r p))

    stays : (p : RecId) (table : Table) → table_in g p ≡ Some table → reads.reading p ≢ []
        → table_in f p ≡ Some table
    stays p table of some = at (reads.grown.new p.page.0 table of)
      where
        at : (table_at (stands_of a) p.page.0 ≡ Some table)
            ⊎ ((q : RecId) → q.page.0 ≡ p.page.0 → r q ≡ []) → table_in f p ≡ Some table
        at (inl was) = was
        at (inr none) = absurd (none_begins (reads.reading p) some
            (subst (λ (xs : List Entry). BeginsAs xs (reads.reading p)) (none p refl) (begins p)))

    -- and what stays of it stands alone
    alone_still : (from : ℕ) (p : RecId)
        → table_at (stands_of reads.layout) p.page.0 ≡ Some reads.layout.catalog.table → reads.reading p ≢ []
        → (table_at (stands_of a) p.page.0 ≡ Some reads.layout.catalog.table)
        × (IsLone from (r p) → IsLone from (reads.reading p))
    alone_still from p of some = (stays p reads.layout.catalog.table of some, at (rec_cases p rec))
      where
        at : (p ≡ rec) ⊎ (p ≢ rec) → IsLone from (r p) → IsLone from (reads.reading p)
        at (inl same) lone = subst (IsLone from) (sym (ap reads.reading same ∙ reads.here))
            (lone_behind from newest es (subst (IsLone from) (ap r same ∙ is) lone))
        at (inr ne) lone = subst (IsLone from) (sym (reads.others p ne)) lone

    pub taken_keeps : StaysKnown size state pages later
    taken_keeps from dirs was = record {
      noted = noted_by packed_form one size (left_state everyone state) later dirs reads.layout
          reads.reading reads.sound (noted_stay f g r reads.reading dirs dirs (was.noted a r sound)
          (fewer_come packed_coding f g (cells_of pages) r reads.reading sound.records stays begins)
          (λ first dir is_. is_));
      lone = lone_by one from size state later reads.layout reads.reading reads.sound
          (lone_on from size (left_state everyone state) (left_state everyone state) pages later a reads.layout r
          reads.reading sound reads.sound (alone_still from) (was.lone a r sound));
    }

  -- it is not one of the catalog: the records of that read as they did
  module _ (table : Table) (of : table_at (stands_of a) rec.page.0 ≡ Some table) (off : table ≢ a.catalog.table) where
    beside : (from : ℕ) (p : RecId)
        → table_at (stands_of reads.layout) p.page.0 ≡ Some reads.layout.catalog.table → reads.reading p ≢ []
        → (table_at (stands_of a) p.page.0 ≡ Some reads.layout.catalog.table)
        × (IsLone from (r p) → IsLone from (reads.reading p))
    beside from p on some = at (rec_cases p rec)
      where
        at : (p ≡ rec) ⊎ (p ≢ rec) → (table_at (stands_of a) p.page.0 ≡ Some reads.layout.catalog.table)
            × (IsLone from (r p) → IsLone from (reads.reading p))
        at (inl same) =
            let both : Some table ≡ Some reads.layout.catalog.table = sym (reads.grown.stays rec.page.0 table of)
            ∙ (ap (λ (q : RecId). table_at (stands_of reads.layout) q.page.0) (sym same) ∙ on) in
            let one_table : table ≡ reads.layout.catalog.table = cc in
            absurd (off (one_table ∙ reads.grown.catalog))
        at (inr ne) = (
          was (reads.grown.new p.page.0 reads.layout.catalog.table on),
          λ lone. subst (IsLone from) (sym (reads.others p ne)) lone,
        )
          where
            was : (table_at (stands_of a) p.page.0 ≡ Some reads.layout.catalog.table)
                ⊎ ((q : RecId) → q.page.0 ≡ p.page.0 → r q ≡ [])
                → table_at (stands_of a) p.page.0 ≡ Some reads.layout.catalog.table
            was (inl stood) = stood
            was (inr none) = absurd (some (reads.others p ne ∙ none p refl))

    pub lone_beside_it : (from : ℕ) → HasLoneRows from size state pages → HasLoneRows from size state later
    lone_beside_it from lone = lone_by one from size state later reads.layout reads.reading reads.sound
        (lone_on from size (left_state everyone state) (left_state everyone state) pages later a reads.layout r
        reads.reading sound reads.sound (beside from) (lone a r sound))

  -- its versions keep their key, and it had some
  module _ (table : Table) (of : table_at (stands_of a) rec.page.0 ≡ Some table) (off : table ≢ a.catalog.table)
      (had : r rec ≢ []) (key_stays : es ≢ [] → record_key table es ≡ record_key table (r rec)) where
    come : ComeFrom NoNew f r g reads.reading
    come p x of_x some = at (rec_cases p rec)
      where
        was_in : r p ≢ [] → table_in f p ≡ Some x
        was_in some_ = by (reads.grown.new p.page.0 x of_x)
          where
            by : (table_at (stands_of a) p.page.0 ≡ Some x) ⊎ ((q : RecId) → q.page.0 ≡ p.page.0 → r q ≡ [])
                → table_in f p ≡ Some x
            by (inl was) = was
            by (inr none) = absurd (some_ (none p refl))

        at : (p ≡ rec) ⊎ (p ≢ rec) → WasThere f r x (reads.reading p) p ⊎ ⊥
        at (inr ne) =
            let some_ : r p ≢ [] = λ none. some (reads.others p ne ∙ none) in
            inl (record {
              before = x;
              of_table = was_in some_;
              first = refl;
              some = some_;
              keyed = ap (record_key x) (sym (reads.others p ne));
            })
        at (inl same) =
            let some_ : r p ≢ [] = λ none. had (ap r (sym same) ∙ none) in
            let both : Some x ≡ Some table =
            sym (was_in some_) ∙ (ap (λ (q : RecId). table_at (stands_of a) q.page.0) same ∙ of) in
            let one_ : x ≡ table = cc in
            let here_ : reads.reading p ≡ es = ap reads.reading same ∙ reads.here in
            inl (record {
              before = x;
              of_table = was_in some_;
              first = refl;
              some = some_;
              keyed = ap (λ (t : Table). record_key t (r p)) one_
                  ∙ (ap (λ (q : RecId). record_key table (r q)) same ∙ (sym (key_stays (λ none. some (here_ ∙ none)))
                  ∙ (ap (record_key table) (sym here_)
                  ∙ ap (λ (t : Table). record_key t (reads.reading p)) (sym one_))));
            })

    pub back_known : StaysKnown size state pages later
    back_known from dirs was = record {
      noted = noted_by packed_form one size (left_state everyone state) later dirs reads.layout
          reads.reading reads.sound (noted_stay f g r reads.reading dirs dirs (was.noted a r sound) come
          (λ first dir is. is));
      lone = lone_beside_it table of off from was.lone;
    }

  -- it gets one with this key
  module _ (table : Table) (key : Value) (of : table_at (stands_of a) rec.page.0 ≡ Some table)
      (off : table ≢ a.catalog.table) (keyed : record_key table es ≡ key) where
    keyed_now : record_key table (reads.reading rec) ≡ key
    keyed_now = ap (record_key table) reads.here ∙ keyed

    pub written_keeps : KeepsKnown size state pages later table.pointer.0 key rec
    written_keeps from old new known notes = record {
      noted = noted_by packed_form one size (left_state everyone state) later new
          reads.layout reads.reading reads.sound each;
      lone = lone_beside_it table of off from known.lone;
    }
      where
        each : AreNoted g reads.reading new
        each first dir is =
            let (was, was_is, all_, there) = notes_of old new table.pointer.0 (key_bytes key) rec notes first dir is in
            written_noted packed_coding f g (cells_of pages) r reads.reading rec table key first was dir sound.records
            (λ q its of_. reads.grown.stays q.page.0 its of_) (reads.grown.stays rec.page.0 table of) keyed_now
            reads.others (λ q. rec_cases q rec) (known.noted a r sound first was was_is) all_ there

-- ---- rows of the catalog go, and their tables

module _ (one : StandsOneWay packed_form) (size : ℕ) (state : ℕ → TxState) (t : ℕ) (pages later : Pages)
    (a c : Layout) (r rc : Reading) (gone : Value → Bool)
    (sound : IsSoundBy packed_form size (left_state everyone state) pages a r)
    (leaves : LeavesTables size pages later a c)
    (takes : TakesRows t a (facts_by (left_state everyone state) pages a) r rc gone)
    (then_ : IsSoundBy packed_form size (left_state everyone state) later (layout_left gone a c)
    (reading_left gone a c r rc)) where
  abbrev was_facts : Facts
  was_facts = facts_by (left_state everyone state) pages a

  abbrev now_facts : Facts
  now_facts = facts_by (left_state everyone state) later (layout_left gone a c)

  tables_back : TakesBack packed_form size (left_state everyone state) t pages later a c r rc gone
  tables_back = takes_back packed_form size (left_state everyone state) t pages later a c r rc gone sound leaves takes

  same_pages : (n : ℕ) → has c.catalog.data_pages n ≡ has a.catalog.data_pages n
  same_pages n = ap (λ (x : Stand). has x.data_pages n) leaves.catalog

  catalog_in : (p : RecId) → has a.catalog.data_pages p.page.0 ≡ true
      → table_in now_facts p ≡ Some a.catalog.table
  catalog_in p on = let here : has c.catalog.data_pages p.page.0 ≡ true = same_pages p.page.0 ∙ on in
      rw here (ap (λ (x : Stand). Some x.table) leaves.catalog)

  reads_catalog : (p : RecId) → has a.catalog.data_pages p.page.0 ≡ true → reading_left gone a c r rc p ≡ rc p
  reads_catalog p on = let here : has c.catalog.data_pages p.page.0 ≡ true = same_pages p.page.0 ∙ on in rw here refl

  -- a record that has versions was of its table, and reads as it did
  stood_so : (p : RecId) (table : Table) → table_in now_facts p ≡ Some table → reading_left gone a c r rc p ≢ []
      → (table_in was_facts p ≡ Some table) × (reading_left gone a c r rc p ≡ r p)
  stood_so p table of some = at (has a.catalog.data_pages p.page.0) refl
    where
      at : (b : Bool) → has a.catalog.data_pages p.page.0 ≡ b
          → (table_in was_facts p ≡ Some table) × (reading_left gone a c r rc p ≡ r p)
      at true on =
          let its : Some a.catalog.table ≡ Some table = sym (catalog_in p on) ∙ of in
          (rw on its, reads_catalog p on ∙ by (takes.each p on))
        where
          by : HasGone gone a.catalog.table t (r p) (rc p) ⊎ IsLeft gone was_facts a.catalog.table (r p) (rc p)
              → rc p ≡ r p
          by (inl went) = absurd (some (reads_catalog p on ∙ went.none))
          by (inr left) = left.same
      at false off =
          let out : has c.catalog.data_pages p.page.0 ≡ false = same_pages p.page.0 ∙ off in
          let there : table_at (stands_left gone a.tables) p.page.0 ≡ Some table = sym (rw out refl) ∙ of in (
            rw off (tables_back.stands p.page.0 table there),
            rw out (ap (λ (x : Option Table). read_of x (r p)) there),
          )

  pub left_known : StaysKnown size state pages later
  left_known from dirs was = record {
    noted = noted_by packed_form one size (left_state everyone state) later dirs (layout_left gone a c)
        (reading_left gone a c r rc) then_ (noted_stay was_facts now_facts r (reading_left gone a c r rc) dirs dirs
        (was.noted a r sound) (left_come was_facts now_facts r (reading_left gone a c r rc) stood_so)
        (λ first dir is. is));
    lone = lone_by one from size state later (layout_left gone a c) (reading_left gone a c r rc) then_
        (lone_on from size (left_state everyone state) (left_state everyone state) pages later a (layout_left gone a c) r
        (reading_left gone a c r rc) sound then_ (λ p of some.
        let (stood, same) = stood_so p c.catalog.table of some in
        (stood, λ lone. subst (IsLone from) (sym same) lone)) (was.lone a r sound));
  }

-- ---- records stay, or have gone

-- the layout is the same, and each record reads as it did, or has no version
pub lost_noted : (before after : ℕ → TxState) (pages later : Pages) (a b : Layout) (r q : Reading) (t : ℕ)
    (dirs : ByTable) → a ≡ b → GoOrStay t r q → AreNoted (facts_by before pages a) r dirs
    → AreNoted (facts_by after later b) q dirs
lost_noted before after pages later a b r q t dirs same goes noted =
    noted_stay (facts_by before pages a) (facts_by after later b) r q dirs dirs noted
    (left_come (facts_by before pages a) (facts_by after later b) r q (λ p table of some.
    (ap (λ (l : Layout). table_at (stands_of l) p.page.0) same ∙ of, at p some (goes p))))
    (λ first dir is. is)
  where
    at : (p : RecId) → q p ≢ [] → (q p ≡ r p) ⊎ GoesWhole t (r p) (q p) → q p ≡ r p
    at p some (inl is) = is
    at p some (inr went) = absurd (some went.none)

-- and rows of the catalog that stood alone do, where they have not gone
pub lost_lone : (from : ℕ) (a b : Layout) (r q : Reading) (t : ℕ) → a ≡ b → GoOrStay t r q → AreLone from a r
    → AreLone from b q
lost_lone from a b r q t same goes lone =
    subst (λ (l : Layout). AreLone from l q) same (λ p of. at p (goes p) (lone p of))
  where
    at : (p : RecId) → (q p ≡ r p) ⊎ GoesWhole t (r p) (q p) → IsLone from (r p) → IsLone from (q p)
    at p (inl is) was = subst (IsLone from) (sym is) was
    at p (inr went) was = subst (IsLone from) (sym went.none) tt

-- ---- a table is made

-- the catalog gets rows, each in a record of its own
joined_lone : StandsOneWay packed_form → (size : ℕ) (state : ℕ → TxState) (t : ℕ) (pages later : Pages)
    (a c : Layout) (r rc : Reading) (made : List MadeRow) (stand : Stand)
    → IsSoundBy packed_form size (left_state everyone state) pages a r
    → IsSoundBy packed_form size (left_state everyone state) later (layout_with a c stand) (reading_with made r)
    → Joins packed_form size (left_state everyone state) t pages later a c r rc made stand → (from : ℕ)
    → HasLoneRows from size state pages → HasLoneRows from size state later
joined_lone one size state t pages later a c r rc made stand sound then_ joins from lone =
    lone_by one from size state later (layout_with a c stand) (reading_with made r) then_ each
  where
    named : c.catalog.table.name ≡ catalog_name
    named = ap (λ (x : Table). x.name) then_.catalog

    each : AreLone from (layout_with a c stand) (reading_with made r)
    each p of = at (cases_made made r p)
      where
        on : has c.catalog.data_pages p.page.0 ≡ true
        on = (catalog_page_named packed_form size (left_state everyone state) later (layout_with a c stand)
            (reading_with made r) then_ p.page.0 c.catalog.table of named).0

        before : (has a.catalog.data_pages p.page.0 ≡ true) ⊎ (r p ≡ []) → IsLone from (r p)
        before (inr none) = subst (IsLone from) (sym none) tt
        before (inl here) = lone a r sound p (rw here refl)

        at : ((row : MadeRow) × IsMade made row × (row.at ≡ p) × (reading_with made r p ≡ row.first ∷ []))
            ⊎ (reading_with made r p ≡ r p) → IsLone from (reading_with made r p)
        at (inl (row, is_made, place, reads)) = subst (IsLone from) (sym reads) tt
        at (inr same) = subst (IsLone from) (sym same) (before (joins.fresh p on))

-- and a table with no data page comes: directories of other tables are complete still
joined_noted : StandsOneWay packed_form → (size : ℕ) (state : ℕ → TxState) (t : ℕ) (pages later : Pages)
    (a c : Layout) (r rc : Reading) (made : List MadeRow) (stand : Stand)
    → IsSoundBy packed_form size (left_state everyone state) pages a r
    → IsSoundBy packed_form size (left_state everyone state) later (layout_with a c stand) (reading_with made r)
    → Joins packed_form size (left_state everyone state) t pages later a c r rc made stand → (dirs : ByTable)
    → dirs c.catalog.table.pointer.0 ≡ None → HasNoted packed_form size (left_state everyone state) pages dirs
    → HasNoted packed_form size (left_state everyone state) later dirs
joined_noted one size state t pages later a c r rc made stand sound then_ joins dirs none noted =
    noted_by packed_form one size (left_state everyone state) later dirs (layout_with a c stand) (reading_with made r)
    then_ each
  where
    each : AreNoted (facts_by (left_state everyone state) later (layout_with a c stand)) (reading_with made r) dirs
    each first dir is p table of named some = at (has c.catalog.data_pages p.page.0) refl
      where
        at : (b : Bool) → has c.catalog.data_pages p.page.0 ≡ b
            → IsCandidate (dir (key_bytes (record_key table (reading_with made r p)))) p
        at true on =
            let its : Some c.catalog.table ≡ Some table =
            sym (in_catalog p on) ∙ of in
            let same : c.catalog.table ≡ table = cc in
            let both : None ≡ Some dir =
            sym none ∙ (ap (λ (x : Table). dirs x.pointer.0) same ∙ (ap dirs named ∙ is)) in absurd cc
          where
            in_catalog : (q : RecId) → has c.catalog.data_pages q.page.0 ≡ true
                → table_in (facts_by (left_state everyone state) later (layout_with a c stand)) q
                ≡ Some c.catalog.table
            in_catalog q here = rw here refl
        at false off =
            let there : table_at (stands_with stand a.tables) p.page.0 ≡ Some table = sym (rw off refl) ∙ of in
            let here : table_at a.tables p.page.0 ≡ Some table =
            sym (at_with stand a.tables joins.empty p.page.0) ∙ there in
            let reads : reading_with made r p ≡ r p = still (cases_made made r p) in
            subst (λ (es : List Entry). IsCandidate (dir (key_bytes (record_key table es))) p) (sym reads)
            (noted a r sound first dir is p table (was_in here) named (λ gone. some (reads ∙ gone)))
          where
            off_before : has a.catalog.data_pages p.page.0 ≡ false
            off_before = by (has a.catalog.data_pages p.page.0) refl
              where
                by : (b : Bool) → has a.catalog.data_pages p.page.0 ≡ b → has a.catalog.data_pages p.page.0 ≡ false
                by true on_ = absurd (false≢true (sym off ∙ joins.grown p.page.0 on_))
                by false off_ = off_

            was_in : table_at a.tables p.page.0 ≡ Some table
                → table_in (facts_by (left_state everyone state) pages a) p ≡ Some table
            was_in here = rw off_before here

            still : ((row : MadeRow) × IsMade made row × (row.at ≡ p) × (reading_with made r p ≡ row.first ∷ []))
                ⊎ (reading_with made r p ≡ r p) → reading_with made r p ≡ r p
            still (inr same) = same
            still (inl (row, is_made, place, reads)) = absurd (false≢true (sym off
                ∙ (ap (λ (q : RecId). has c.catalog.data_pages q.page.0) (sym place)
                ∙ (joins.rows row is_made).placed)))

pub joined_known : StandsOneWay packed_form → (size : ℕ) (state : ℕ → TxState) (t : ℕ) (pages later : Pages)
    (a c : Layout) (r rc : Reading) (made : List MadeRow) (stand : Stand)
    → IsSoundBy packed_form size (left_state everyone state) pages a r
    → IsSoundBy packed_form size (left_state everyone state) later (layout_with a c stand) (reading_with made r)
    → Joins packed_form size (left_state everyone state) t pages later a c r rc made stand → (from : ℕ) (dirs : ByTable)
    → dirs c.catalog.table.pointer.0 ≡ None → KnowsRecords from size state pages dirs
    → KnowsRecords from size state later dirs
joined_known one size state t pages later a c r rc made stand sound then_ joins from dirs none was = record {
  noted = joined_noted one size state t pages later a c r rc made stand sound then_ joins dirs none was.noted;
  lone = joined_lone one size state t pages later a c r rc made stand sound then_ joins from was.lone;
}
