-- Rows of the catalog come into new records, one after another.
use Rattle.std.proofs.Common.{◌≡◌, ◌≢◌, ◌⊎◌, inl, inr, refl, sym, ap, ◌∙◌, subst, ◌==◌, ℕ, suc, Bool, true, false, List, [], ◌∷◌, Option, None, Some, get_or}
use Rattle.std.specs.Prelude.{if◌then◌else◌, is_some, map, pos, slice_index_or}
use Rattle.std.proofs.Math.ListN.{set}
use Rattle.mg_base.specs.Fields.{byte}
use Rattle.mg_base.specs.declared.numbers.RecId.{RecId}
use Rattle.mg_base.specs.declared.numbers.TxNo.{TxNo}
use Rattle.mg_base.specs.declared.transaction.TxState.{TxState}
use Rattle.mg_value.specs.declared.value.Value.{Value}
use Rattle.mg_value.specs.declared.value.Value.TheVariants.{Int, Null}
use Rattle.mg_value.specs.Values.{bytes_of}
use Rattle.mg_model.specs.declared.answer.Answer.{Answer}
use Rattle.mg_model.specs.declared.answer.Answer.TheVariants.{Fine, No}
use Rattle.mg_model.specs.declared.opening.Opening.{Opening}
use Rattle.mg_model.specs.declared.refusal.Refusal.TheVariants.{DuplicateKey, ReadOnly}
use Rattle.mg_model.specs.declared.table.Table.{Table}
use Rattle.mg_model.specs.Answers.{if_active, obstacle, past, told}
use Rattle.mg_model.specs.Catalog.{catalog_name, catalog_shape, key_of, told_cells}
use Rattle.mg_model.specs.Changes.{Cells, row_at}
use Rattle.mg_model.specs.History.{Entries, Entry as Event}
use Rattle.mg_model.specs.Legal.{IsLawful, IsLegal, MayBegin}
use Rattle.mg_model.specs.Machine.{mode_of, view}
use Rattle.mg_generation_laws.specs.Generations.{Generation, generation, put}
use Rattle.mg_generation_laws.specs.Kept.{IsErasedForAll, StandFor}
use Rattle.mg_image.specs.declared.entry.Entry.{Entry}
use Rattle.mg_image.specs.Catalog.{catalog_table}
use Rattle.mg_image.specs.RecordRules.{Facts, table_in}
use Rattle.mg_image.specs.Records.{Reading, record_key, writer}
use Rattle.mg_image.specs.StepLaws.{cases_place, put_reading, same_place}
use Rattle.mg_image_overlay_laws.specs.records.Fronts.{is_dead}
use Rattle.mg_seek.specs.Histories.{told_versions}
use Rattle.mg_engine_step_laws.specs.reads.AnswersLaws.{NothingAtKeys}
use Rattle.mg_engine_step_laws.specs.standing.ChainLaws.{erased_still}
use Rattle.mg_engine_step_laws.specs.standing.StandingLaws.{IsChainOf}
use Rattle.mg_engine_step_laws.specs.standing.Versions.{HaveVersions, IsRecordOf, SpeaksFor, SpeaksOrSilent, told_version}
use Rattle.mg_engine_step_laws.specs.standing.Writing.{ErasedMayBeSilent, Silenced, WritesFollow, WritesKey, WritesRecord}
use Rattle.mg_engine_change_laws.specs.tables.Rows.{AreLawful, AreNewRows, AreSilent, AreUnwritten, IsApartFrom, IsNewRow, IsSilentKey, MadeRow, MayMake, RowsFollow, key_at, reading_with, row_entry, row_told, with_rows}

-- ---- keys

pub first_value : (row : List Value) → get_or row 0 Null ≡ slice_index_or row 0 Null
first_value [] = refl
first_value (v ∷ vs) = refl

key_kept : (row : Cells) (n : ℕ) (v : Value)
    → key_of catalog_shape (set row (suc n) v) ≡ key_of catalog_shape row
key_kept [] n v = refl
key_kept (w ∷ ws) n v = refl

-- page numbers are not in a row's key
pub key_as_told : (row : Cells) → key_of catalog_shape (told_cells row) ≡ key_of catalog_shape row
key_as_told row = at (byte (bytes_of (get_or row 0 Null)) 0 == 84) (byte (bytes_of (get_or row 0 Null)) 0 == 73)
  where
    at : (b c : Bool) → key_of catalog_shape (if b then set (set row 2 (Int (pos 0))) 4 (Int (pos 0))
        else (if c then set row 2 (Int (pos 0)) else row)) ≡ key_of catalog_shape row
    at true c = key_kept (set row 2 (Int (pos 0))) 3 (Int (pos 0)) ∙ key_kept row 1 (Int (pos 0))
    at false true = key_kept row 1 (Int (pos 0))
    at false false = refl

-- ---- one entry

-- where no version stands for the key of a row, its entry is lawful
pub row_lawful : NothingAtKeys → (o : Opening) (h : Entries) (t : TxNo) (row : Cells) → MayBegin o → IsLegal o h
    → MayMake o h t → StandFor o h catalog_name (key_of catalog_shape row) [] → IsLawful o h (row_entry t row)
row_lawful nothing o h t row opening legal may none = inl (sym (
    ap (λ (s : TxState). if_active s (if (mode_of h t.0).read_only then No ReadOnly else next)) may.active
    ∙ (ap (λ (b : Bool). if b then No ReadOnly else next) may.writes
    ∙ (ap (λ (x : Option Cells). if is_some x then No DuplicateKey
    else past (told o h) t.0 (obstacle (told o h) t.0 catalog_name (key_of catalog_shape row)) Fine) there.0
    ∙ ap (λ (u : Option ℕ). past (told o h) t.0 u Fine) there.1))))
  where
    next : Answer
    next = if is_some (row_at (view o h t.0) catalog_name (key_of catalog_shape row)) then No DuplicateKey
        else past (told o h) t.0 (obstacle (told o h) t.0 catalog_name (key_of catalog_shape row)) Fine

    there : (row_at (view o h t.0) catalog_name (key_of catalog_shape row) ≡ None)
        × (obstacle (told o h) t.0 catalog_name (key_of catalog_shape row) ≡ None)
    there = nothing o h catalog_name (key_of catalog_shape row) t.0 opening legal none may.active

-- and it may make the next
pub still_may : (o : Opening) (h : Entries) (t : TxNo) (row : Cells) → MayMake o h t → MayMake o (row_entry t row ∷ h) t
still_may o h t row may = record { active = may.active; writes = may.writes }

-- ---- one row

module _ (follow : WritesFollow) (quieter : ErasedMayBeSilent) (nothing : NothingAtKeys) (o : Opening) (h : Entries)
    (f g : Facts) (r : Reading) (t : TxNo) (pointer : ℕ) (row : MadeRow) (have : HaveVersions o h f r)
    (opening : MayBegin o) (legal : IsLegal o h) (may : MayMake o h t)
    (states : (u : ℕ) → g.state u ≡ f.state u) (alive : is_dead (f.state t.0) ≡ false)
    (tables : (q : RecId) → r q ≢ [] → table_in g q ≡ table_in f q) (new : IsNewRow g r t.0 pointer row)
    (silent : IsSilentKey o h f r have.speaker (key_at row)) where
  abbrev later : Reading
  later = put_reading r row.at (row.first ∷ [])

  abbrev e : Event
  e = row_entry t (row_told row)

  quiet : Silenced o h f r have catalog_name (key_at row)
  quiet = quieter o h f r have catalog_name (key_at row) silent

  pub unwritten : StandFor o h catalog_name (key_at row) []
  unwritten = subst (SpeaksFor o h f r catalog_name (key_at row)) quiet.none (quiet.now.speaks catalog_name (key_at row))

  pub lawful : IsLawful o h e
  lawful = row_lawful nothing o h t (row_told row) opening legal may
      (subst (λ (k : Value). StandFor o h catalog_name k []) (sym (key_as_told row.first.row)) unwritten)

  here : later row.at ≡ row.first ∷ []
  here = at (cases_place row.at row.at)
    where
      at : ((row.at ≡ row.at) × (same_place row.at row.at ≡ true)) ⊎ ((row.at ≢ row.at) × (same_place row.at row.at ≡ false))
          → later row.at ≡ row.first ∷ []
      at (inl is) = rw is.1 refl
      at (inr not_) = absurd (not_.0 refl)

  there : (q : RecId) → q ≢ row.at → later q ≡ r q
  there q ne = at (cases_place q row.at)
    where
      at : ((q ≡ row.at) × (same_place q row.at ≡ true)) ⊎ ((q ≢ row.at) × (same_place q row.at ≡ false))
          → later q ≡ r q
      at (inl is) = absurd (ne is.0)
      at (inr not_) = rw not_.1 refl

  lives : is_dead (g.state (writer row.first)) ≡ false
  lives = ap is_dead (states (writer row.first)) ∙ (ap (λ (u : ℕ). is_dead (f.state u)) new.its ∙ alive)

  told_new : told_versions g.state (catalog_table pointer) (later row.at) ≡ generation t.0 (Some (row_told row)) ∷ []
  told_new = ap (told_versions g.state (catalog_table pointer)) here
      ∙ (ap (λ (b : Bool). map (told_version (catalog_table pointer)) (if b then [] else row.first ∷ [])) lives
      ∙ (ap (λ (b : Bool). generation (writer row.first) (if b then None else Some (row_told row)) ∷ []) new.stays
      ∙ ap (λ (u : ℕ). generation u (Some (row_told row)) ∷ []) new.its))

  writes : WritesKey o h e t.0 catalog_name (key_at row) (Some (row_told row))
  writes = inr (row_told row, refl, refl, key_as_told row.first.row)

  writes_record : WritesRecord f g r later quiet.now.speaker t.0 catalog_name (key_at row) (Some (row_told row)) row.at
  writes_record = record {
    state = states;
    table = catalog_table pointer;
    of_table = new.of_table;
    named = refl;
    some = λ none. let both : row.first ∷ [] ≡ [] = sym here ∙ none in absurd cc;
    keyed = ap (record_key (catalog_table pointer)) here ∙ first_value row.first.row;
    spoke = inr (quiet.none, new.empty);
    versions = λ chain is. told_new ∙ ap (put t.0 (Some (row_told row)))
        (sym (subst (λ (x : Option RecId). IsChainOf f r catalog_name (key_at row) x chain) quiet.none is));
    others = there;
    tables = λ q ne some. tables q some;
  }

  pub versions : HaveVersions o (e ∷ h) g later
  versions = follow o h e f g r later t.0 catalog_name (key_at row) (Some (row_told row)) row.at quiet.now opening
      (lawful, legal) writes writes_record

  -- ---- other keys stay silent

  module _ (other : MadeRow) (apart : key_at other ≢ key_at row)
      (was : IsSilentKey o h f r have.speaker (key_at other)) (now : HaveVersions o (e ∷ h) g later) where
    told_same : (table : Table) (q : RecId) → q ≢ row.at
        → told_versions g.state table (later q) ≡ told_versions f.state table (r q)
    told_same table q ne = ap (told_versions g.state table) (there q ne) ∙ by (r q)
      where
        by : (es : List Entry) → told_versions g.state table es ≡ told_versions f.state table es
        by [] = refl
        by (d ∷ ds) = ap (λ (s : TxState). map (told_version table) (if is_dead s then ds else d ∷ ds)) (states (writer d))

    still : (gs : List Generation) → (gs ≡ []) ⊎ IsErasedForAll o h gs → (gs ≡ []) ⊎ IsErasedForAll o (e ∷ h) gs
    still gs (inl none) = inl none
    still gs (inr gone) = inr (erased_still o opening h e (lawful, legal) gs gone)

    -- its speaker is an older record
    older : (q : RecId) → q ≢ row.at → (its : IsRecordOf g later catalog_name (key_at other) q)
        → (told_versions g.state its.table (later q) ≡ []) ⊎ IsErasedForAll o (e ∷ h) (told_versions g.state its.table (later q))
    older q ne its = subst (λ (gs : List Generation). (gs ≡ []) ⊎ IsErasedForAll o (e ∷ h) gs)
        (sym (told_same its.table q ne))
        (still (told_versions f.state its.table (r q)) (at (have.others q its.table of)))
      where
        some : r q ≢ []
        some none = its.some (there q ne ∙ none)

        of : table_in f q ≡ Some its.table
        of = sym (tables q some) ∙ its.of_table

        keyed : record_key its.table (r q) ≡ key_at other
        keyed = ap (record_key its.table) (sym (there q ne)) ∙ its.keyed

        at : SpeaksOrSilent o h f r have.speaker q its.table
            → (told_versions f.state its.table (r q) ≡ []) ⊎ IsErasedForAll o h (told_versions f.state its.table (r q))
        at (inl none) = inl none
        at (inr (inl gone)) = inr gone
        at (inr (inr speaks)) = was (told_versions f.state its.table (r q))
            (subst (λ (x : Option RecId). IsChainOf f r catalog_name (key_at other) x
            (told_versions f.state its.table (r q)))
            (sym (ap (λ (n : List ℕ). have.speaker n (key_at other)) (sym its.named)
            ∙ (ap (have.speaker its.table.name) (sym keyed) ∙ speaks))) (
              record { table = its.table; of_table = of; named = its.named; some = some; keyed = keyed },
              refl,
            ))

    -- and no record that has come now
    no_other : (q : RecId) → q ≡ row.at → IsRecordOf g later catalog_name (key_at other) q → ⊥
    no_other q same its =
        let both : Some its.table ≡ Some (catalog_table pointer) = sym its.of_table
        ∙ (ap (table_in g) same ∙ new.of_table) in
        let table : its.table ≡ catalog_table pointer = cc in
        apart (sym its.keyed ∙ (ap (λ (x : Table). record_key x (later q)) table
        ∙ (ap (λ (x : RecId). record_key (catalog_table pointer) (later x)) same
        ∙ (ap (record_key (catalog_table pointer)) here ∙ first_value row.first.row))))

    pub silent_still : IsSilentKey o (e ∷ h) g later now.speaker (key_at other)
    silent_still chain is = at (now.speaker catalog_name (key_at other)) is
      where
        at : (x : Option RecId) → IsChainOf g later catalog_name (key_at other) x chain
            → (chain ≡ []) ⊎ IsErasedForAll o (e ∷ h) chain
        at None none = inl none
        at (Some q) (its, told_is) = by (cases_place q row.at)
          where
            by : ((q ≡ row.at) × (same_place q row.at ≡ true)) ⊎ ((q ≢ row.at) × (same_place q row.at ≡ false))
                → (chain ≡ []) ⊎ IsErasedForAll o (e ∷ h) chain
            by (inl same) = absurd (no_other q same.0 its)
            by (inr ne) = subst (λ (gs : List Generation). (gs ≡ []) ⊎ IsErasedForAll o (e ∷ h) gs) (sym told_is)
                (older q ne.0 its)

  pub all_silent : (now : HaveVersions o (e ∷ h) g later) (rows : List MadeRow) → IsApartFrom row rows
      → AreSilent o h f r have.speaker rows → AreSilent o (e ∷ h) g later now.speaker rows
  all_silent now [] apart were = tt
  all_silent now (other ∷ rows) apart were =
      (silent_still other apart.1 were.0 now, all_silent now rows apart.2 were.1)

  -- and other rows new
  pub new_still : (other : MadeRow) → other.at ≢ row.at → IsNewRow g r t.0 pointer other
      → IsNewRow g later t.0 pointer other
  new_still other ne is = record {
    of_table = is.of_table;
    empty = there other.at ne ∙ is.empty;
    its = is.its;
    stays = is.stays;
  }

  pub all_new : (rows : List MadeRow) → IsApartFrom row rows → AreNewRows g r t.0 pointer rows
      → AreNewRows g later t.0 pointer rows
  all_new [] apart are = tt
  all_new (other ∷ rows) apart are = (new_still other apart.0 are.0, are.1, all_new rows apart.2 are.2)

-- ---- all of them

module _ (follow : WritesFollow) (quieter : ErasedMayBeSilent) (nothing : NothingAtKeys) (o : Opening) (g : Facts)
    (t : TxNo) (pointer : ℕ) (opening : MayBegin o) where
  more_follow : (h : Entries) (f : Facts) (r : Reading) (row : MadeRow) (rows : List MadeRow)
      (have : HaveVersions o h f r) → IsLegal o h → MayMake o h t
      → ((u : ℕ) → g.state u ≡ f.state u) → is_dead (f.state t.0) ≡ false
      → ((q : RecId) → r q ≢ [] → table_in g q ≡ table_in f q)
      → AreNewRows g r t.0 pointer (row ∷ rows) → AreSilent o h f r have.speaker (row ∷ rows)
      → AreUnwritten o t (row ∷ rows) h × AreLawful o t (map row_told (row ∷ rows)) h
      × HaveVersions o (with_rows t (map row_told (row ∷ rows)) h) g (reading_with (row ∷ rows) r)
  more_follow h f r row [] have legal may states alive tables new silent = (
    (unwritten follow quieter nothing o h f g r t pointer row have opening legal may states alive tables new.0 silent.0, tt),
    (
      lawful follow quieter nothing o h f g r t pointer row have opening legal may states alive tables new.0 silent.0,
      tt,
    ),
    versions follow quieter nothing o h f g r t pointer row have opening legal may states alive tables new.0 silent.0,
  )
  more_follow h f r row (next ∷ rows) have legal may states alive tables new silent =
      let it = unwritten follow quieter nothing o h f g r t pointer row have opening legal may states alive tables new.0
      silent.0 in
      let law = lawful follow quieter nothing o h f g r t pointer row have opening legal may states alive tables new.0
      silent.0 in
      let now = versions follow quieter nothing o h f g r t pointer row have opening legal may states alive tables new.0
      silent.0 in
      let rest = more_follow (row_entry t (row_told row) ∷ h) g (put_reading r row.at (row.first ∷ [])) next rows now
      (law, legal) (still_may o h t (row_told row) may) (λ u. refl) (ap is_dead (states t.0) ∙ alive) (λ q some. refl)
      (all_new follow quieter nothing o h f g r t pointer row have opening legal may states alive tables new.0 silent.0
      (next ∷ rows) new.1 new.2)
      (all_silent follow quieter nothing o h f g r t pointer row have opening legal may states alive tables new.0
      silent.0 now (next ∷ rows) new.1 silent.1) in
      ((it, rest.0), (law, rest.1), rest.2)

pub rows_follow : WritesFollow → ErasedMayBeSilent → NothingAtKeys → RowsFollow
rows_follow follow quieter nothing o h f g r t pointer row rows have opening legal may states alive tables new silent =
    more_follow follow quieter nothing o g t pointer opening h f r row rows have legal may states alive tables new silent
