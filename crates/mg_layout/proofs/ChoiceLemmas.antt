-- Lemmas on choices of limbo transactions.
use Rattle.std.proofs.Common.{◌≡◌, ◌⊎◌, ◌&&◌, ◌||◌, inl, inr, refl, sym, ap, ◌∙◌, subst, ℕ, Bool, true, false, List, [], ◌∷◌, ◌++◌, length, Option, None, Some, arith, if◌then◌else◌}
use Rattle.std.specs.Prelude.{slice_index_or}
use Rattle.mg_base.specs.declared.transaction.TxState.{TxState}
use Rattle.mg_base.specs.declared.transaction.TxState.TheVariants.{Active, Limbo, Dead, Committed}
use Rattle.mg_model.specs.Answers.{is_committed}
use Rattle.mg_model.specs.declared.table.Table.{Table}
use Rattle.mg_model.specs.CatalogRules.{AreTables, EachTable}
use Rattle.mg_catalog.specs.TableLaws.{tables_once}
use Rattle.mg_model.specs.Legal.{is_limbo}
use Rattle.mg_image.specs.declared.entry.Entry.{Entry}
use Rattle.mg_image.specs.Catalog.{FitsPages, IsWithin, StaysAmong, committed_with}
use Rattle.mg_image.specs.Form.{Row}
use Rattle.mg_image.specs.RecordRules.{Each, EachBack, Facts}
use Rattle.mg_image.specs.Records.{shown, writer}
use Rattle.mg_image.specs.Tables.{Has, has}
use Rattle.mg_reading.specs.declared.found.Found.{Found}
use Rattle.mg_reading.specs.HeldTable.{with_row}
use Rattle.mg_catalog.specs.ByKey.{by_key}
use Rattle.mg_layout.specs.Choices.{AreAlwaysLawful, AreDecided, AreLawful, AreLawfulFrom, DoTablesStay, HasWriter, HasWriters, HaveCommittedBacks, IsCatalogFound, IsChoice, IsDecided, RowsName, rows_with}
use Rattle.mg_catalog.specs.FirstBad.{IsFirstBad}
use Rattle.mg_catalog.specs.declared.fault.CatFault.TheVariants.{BadTable}
use Rattle.mg_layout.proofs.HasLemmas.{has_false, has_last, has_more, has_pushed, has_true, has_back}

-- ---- the limbo transactions that wrote newest versions

pub writer_added : (f : Facts) (es rest : List Entry) (e : Entry) (ns ms : List ℕ) → es ≡ e ∷ rest
    → ms ≡ ns ++ writer e ∷ [] → HasWriter f ms es
writer_added f es rest e ns ms is pushed =
    rw (is, pushed) (λ limbo. has_last ns (writer e) (writer e) refl)

-- a longer list has them too
pub writer_grows : (f : Facts) (ns ms : List ℕ) (es : List Entry)
    → ((t : ℕ) → Has ns t → Has ms t) → HasWriter f ns es → HasWriter f ms es
writer_grows f ns ms [] grows is = tt
writer_grows f ns ms (e ∷ es) grows is = λ limbo. grows (writer e) (is limbo)

-- What the loop over the records keeps: a list that has what was found, and the writers of the other
-- records, has those of all records.
abbrev pub GathersWriters : Facts → List ℕ → List Found → List Found → Type 0
GathersWriters f ns rest all = (ms : List ℕ) → ((t : ℕ) → Has ns t → Has ms t)
    → HasWriters f ms rest → HasWriters f ms all

pub writers_more : (f : Facts) (ns ms : List ℕ) (rest later all : List Found) (first : Found)
    → GathersWriters f ns rest all → rest ≡ first ∷ later → HasWriter f ms first.entries.items
    → ((t : ℕ) → Has ns t → Has ms t) → GathersWriters f ms later all
writers_more f ns ms rest later all first before is here grows = λ ks further have.
    before ks (λ t there. further t (grows t there)) (rw is (
      writer_grows f ms ks first.entries.items further here,
      have,
    ))

pub no_writers : (f : Facts) (ns : List ℕ) (rest : List Found) → length rest ≡ 0
    → HasWriters f ns rest
no_writers f ns [] none = tt
no_writers f ns (first ∷ more) none = absurd (omega arith)

-- ---- choices that agree show the same rows

-- two choices agree on the newest of these versions
abbrev pub Agree : Facts → (ℕ → Bool) → (ℕ → Bool) → List Entry → Type 0
Agree f a b [] = Unit {0}
Agree f a b (e ∷ es) = f.state (writer e) ≡ Limbo → a (writer e) ≡ b (writer e)

abbrev pub AllAgree : Facts → (ℕ → Bool) → (ℕ → Bool) → List Found → Type 0
AllAgree f a b [] = Unit {0}
AllAgree f a b (found ∷ more) = Agree f a b found.entries.items × AllAgree f a b more

same_state : (s : TxState) (a b : Bool) → (s ≡ Limbo → a ≡ b)
    → (is_committed s || (is_limbo s && a)) ≡ (is_committed s || (is_limbo s && b))
same_state Active a b same = refl
same_state Limbo a b same = same refl
same_state Dead a b same = refl
same_state Committed a b same = refl

-- where back versions are committed, choices do not matter for them
back_shown : (f : Facts) (a b : ℕ → Bool) (es : List Entry)
    → Each (λ e. f.state (writer e) ≡ Committed) es
    → shown (committed_with f a) es ≡ shown (committed_with f b) es
back_shown f a b [] each = refl
back_shown f a b (e ∷ es) each = rw each.0 refl

pub same_shown : (f : Facts) (a b : ℕ → Bool) (es : List Entry)
    → EachBack (λ e. f.state (writer e) ≡ Committed) es → Agree f a b es
    → shown (committed_with f a) es ≡ shown (committed_with f b) es
same_shown f a b [] backs same = refl
same_shown f a b (e ∷ es) backs same =
    let here : committed_with f a (writer e) ≡ committed_with f b (writer e) =
    same_state (f.state (writer e)) (a (writer e)) (b (writer e)) same in
    rw here (ap (λ (rest : Option Row). if committed_with f b (writer e)
    then (if e.version.deleted then None else Some e.row) else rest)
    (back_shown f a b es backs))

pub same_rows : (f : Facts) (a b : ℕ → Bool) (found : List Found) → HaveCommittedBacks f found
    → AllAgree f a b found → rows_with f found a ≡ rows_with f found b
same_rows f a b [] backs same = refl
same_rows f a b (first ∷ more) backs same =
    rw (same_shown f a b first.entries.items backs.0 same.0)
    (ap (with_row (shown (committed_with f b) first.entries.items))
    (same_rows f a b more backs.1 same.1))

-- so do the tables stay
pub same_stay : (size : ℕ) (f : Facts) (a b c d : ℕ → Bool) (found : List Found)
    → HaveCommittedBacks f found → AllAgree f a b found → AllAgree f c d found
    → DoTablesStay size (rows_with f found b) (rows_with f found d)
    → DoTablesStay size (rows_with f found a) (rows_with f found c)
same_stay size f a b c d found backs same same_more stay =
    rw (same_rows f a b found backs same, same_rows f c d found backs same_more) stay

-- ---- choices as they are made one after another

-- where nothing is open, a choice takes what is taken, and no more
decided_agrees : (f : Facts) (taken : List ℕ) (chosen : ℕ → Bool) (es : List Entry)
    → ((t : ℕ) → Has taken t → chosen t ≡ true) → IsDecided f taken [] chosen es
    → Agree f chosen (has taken) es
decided_agrees f taken chosen [] takes is = tt
decided_agrees f taken chosen (e ∷ es) takes is = λ limbo. at (is limbo)
  where
    at : Has [] (writer e) ⊎ Has taken (writer e) ⊎ (chosen (writer e) ≡ false)
        → chosen (writer e) ≡ has taken (writer e)
    at (inl none) = absurd none
    at (inr (inl there)) = takes (writer e) there ∙ sym (has_true taken (writer e) there)
    at (inr (inr out)) = out ∙ sym (has_false taken (writer e)
        (λ there. let in_ = takes (writer e) there in cc))

pub all_decided : (f : Facts) (taken : List ℕ) (chosen : ℕ → Bool) (found : List Found)
    → ((t : ℕ) → Has taken t → chosen t ≡ true) → AreDecided f taken [] chosen found
    → AllAgree f chosen (has taken) found
all_decided f taken chosen [] takes are = tt
all_decided f taken chosen (first ∷ more) takes are = (
  decided_agrees f taken chosen first.entries.items takes are.0,
  all_decided f taken chosen more takes are.1,
)

pub lawful_at_end : (size : ℕ) (f : Facts) (found : List Found) (taken later open_ : List ℕ)
    → HaveCommittedBacks f found → length open_ ≡ 0
    → DoTablesStay size (rows_with f found (has taken)) (rows_with f found (has later))
    → AreLawfulFrom size f found taken later open_
lawful_at_end size f found taken later [] backs none stay = λ chosen more within choice wide.
    same_stay size f chosen (has taken) more (has later) found backs
    (all_decided f taken chosen found choice.takes choice.decided)
    (all_decided f later more found wide.takes wide.decided) stay
lawful_at_end size f found taken later (t ∷ rest) backs none stay = absurd (omega arith)

-- the next transaction is left out, or taken
left_out : (f : Facts) (taken later : List ℕ) (t : ℕ) (chosen : ℕ → Bool) (found : List Found)
    → chosen t ≡ false → AreDecided f taken (t ∷ later) chosen found
    → AreDecided f taken later chosen found
left_out f taken later t chosen [] out are = tt
left_out f taken later t chosen (first ∷ more) out are =
    (one first.entries.items are.0, left_out f taken later t chosen more out are.1)
  where
    one : (es : List Entry) → IsDecided f taken (t ∷ later) chosen es
        → IsDecided f taken later chosen es
    one [] is = tt
    one (e ∷ es) is = λ limbo. at (is limbo)
      where
        at : Has (t ∷ later) (writer e) ⊎ Has taken (writer e) ⊎ (chosen (writer e) ≡ false)
            → Has later (writer e) ⊎ Has taken (writer e) ⊎ (chosen (writer e) ≡ false)
        at (inl (inl same)) = inr (inr (ap chosen same ∙ out))
        at (inl (inr there)) = inl there
        at (inr rest) = inr rest

taken_next : (f : Facts) (taken later : List ℕ) (t : ℕ) (chosen : ℕ → Bool) (found : List Found)
    → AreDecided f taken (t ∷ later) chosen found
    → AreDecided f (taken ++ t ∷ []) later chosen found
taken_next f taken later t chosen [] are = tt
taken_next f taken later t chosen (first ∷ more) are =
    (one first.entries.items are.0, taken_next f taken later t chosen more are.1)
  where
    one : (es : List Entry) → IsDecided f taken (t ∷ later) chosen es
        → IsDecided f (taken ++ t ∷ []) later chosen es
    one [] is = tt
    one (e ∷ es) is = λ limbo. at (is limbo)
      where
        at : Has (t ∷ later) (writer e) ⊎ Has taken (writer e) ⊎ (chosen (writer e) ≡ false)
            → Has later (writer e) ⊎ Has (taken ++ t ∷ []) (writer e)
            ⊎ (chosen (writer e) ≡ false)
        at (inl (inl same)) = inr (inl (has_last taken t (writer e) same))
        at (inl (inr there)) = inl there
        at (inr (inl there)) = inr (inl (has_more taken t (writer e) there))
        at (inr (inr out)) = inr (inr out)

-- a choice with the next transaction is one that takes it
choice_with : (f : Facts) (found : List Found) (taken more rest : List ℕ) (t : ℕ)
    (chosen : ℕ → Bool) → more ≡ taken ++ t ∷ [] → chosen t ≡ true
    → IsChoice f found taken (t ∷ rest) chosen → IsChoice f found more rest chosen
choice_with f found taken more rest t chosen pushed in_ choice = rw pushed (record {
  takes = λ n there. split n (has_pushed taken t n there);
  decided = taken_next f taken rest t chosen found choice.decided;
})
  where
    split : (n : ℕ) → Has taken n ⊎ (n ≡ t) → chosen n ≡ true
    split n (inl before) = choice.takes n before
    split n (inr same) = ap chosen same ∙ in_

-- and one without it leaves it out
choice_without : (f : Facts) (found : List Found) (taken rest : List ℕ) (t : ℕ)
    (chosen : ℕ → Bool) → chosen t ≡ false → IsChoice f found taken (t ∷ rest) chosen
    → IsChoice f found taken rest chosen
choice_without f found taken rest t chosen out choice = record {
  takes = choice.takes;
  decided = left_out f taken rest t chosen found out choice.decided;
}

pub lawful_from : (size : ℕ) (f : Facts) (found : List Found)
    (taken later both wider open_ rest : List ℕ) (t : ℕ) → both ≡ taken ++ t ∷ []
    → wider ≡ later ++ t ∷ [] → open_ ≡ t ∷ rest → AreLawfulFrom size f found taken later rest
    → AreLawfulFrom size f found taken wider rest → AreLawfulFrom size f found both wider rest
    → AreLawfulFrom size f found taken later open_
lawful_from size f found taken later both wider open_ rest t pushed widened is without with_more
    with_both = λ chosen more within choice wide.
    at chosen more within (rw is at choice) (rw is at wide) (chosen t) refl (more t) refl
  where
    at : (chosen more : ℕ → Bool) → IsWithin chosen more
        → IsChoice f found taken (t ∷ rest) chosen → IsChoice f found later (t ∷ rest) more
        → (b : Bool) → chosen t ≡ b → (d : Bool) → more t ≡ d
        → DoTablesStay size (rows_with f found chosen) (rows_with f found more)
    at chosen more within choice wide true i true j = with_both chosen more within
        (choice_with f found taken both rest t chosen pushed i choice)
        (choice_with f found later wider rest t more widened j wide)
    at chosen more within choice wide true i false j = let also = within t i in absurd cc
    at chosen more within choice wide false i true j = with_more chosen more within
        (choice_without f found taken rest t chosen i choice)
        (choice_with f found later wider rest t more widened j wide)
    at chosen more within choice wide false i false j = without chosen more within
        (choice_without f found taken rest t chosen i choice)
        (choice_without f found later rest t more j wide)

-- every choice is one that takes nothing yet, where all limbo transactions are open
all_open : (f : Facts) (writers : List ℕ) (chosen : ℕ → Bool) (found : List Found)
    → HasWriters f writers found → AreDecided f [] writers chosen found
all_open f writers chosen [] have = tt
all_open f writers chosen (first ∷ more) have =
    (one first.entries.items have.0, all_open f writers chosen more have.1)
  where
    one : (es : List Entry) → HasWriter f writers es → IsDecided f [] writers chosen es
    one [] is = tt
    one (e ∷ es) is = λ limbo. inl (is limbo)

pub always_lawful : (size : ℕ) (f : Facts) (found : List Found) (writers : List ℕ)
    → HasWriters f writers found → AreLawfulFrom size f found [] [] writers
    → AreAlwaysLawful size f found
always_lawful size f found writers have lawful =
    λ chosen more within. lawful chosen more within (nothing chosen) (nothing more)
  where
    nothing : (chosen : ℕ → Bool) → IsChoice f found [] writers chosen
    nothing chosen = record {
      takes = λ t none. absurd none;
      decided = all_open f writers chosen found have;
    }

-- one transaction more in the wider choice, or in both
pub within_more : (taken later more : List ℕ) (t : ℕ) → more ≡ later ++ t ∷ []
    → IsWithin (has taken) (has later) → IsWithin (has taken) (has more)
within_more taken later more t pushed within n there = rw pushed
    (has_true (later ++ t ∷ []) n (has_more later t n (has_back later n (within n there))))

pub within_both : (taken later both more : List ℕ) (t : ℕ) → both ≡ taken ++ t ∷ []
    → more ≡ later ++ t ∷ [] → IsWithin (has taken) (has later) → IsWithin (has both) (has more)
within_both taken later both more t pushed widened within n there =
    split (has_pushed taken t n (has_back (taken ++ t ∷ []) n (rw pushed at there)))
  where
    split : Has taken n ⊎ (n ≡ t) → has more n ≡ true
    split (inl before) =
        within_more taken later more t widened within n (has_true taken n before)
    split (inr same) = rw widened (has_true (later ++ t ∷ []) n (has_last later t n same))

-- ---- two choices

-- rows that are always lawful are so under one choice
pub lawful_choice : (size : ℕ) (f : Facts) (found : List Found) (chosen : ℕ → Bool)
    → AreAlwaysLawful size f found → AreLawful size f found chosen
lawful_choice size f found chosen always =
    let is = always chosen chosen (λ t in_. in_) in (is.tables, is.named)

-- where a table of the one is not one of the other, the tables do not stay
pub stay_refuted : (size : ℕ) (rows others : List Row) (tables more : List Table)
    → RowsName size rows tables → RowsName size others more
    → (EachTable (StaysAmong more) tables → ⊥) → DoTablesStay size rows others → ⊥
stay_refuted size rows others tables more named named_more gone stay =
    gone (subst (λ (ts : List Table). EachTable (StaysAmong more) ts)
    (tables_once (by_key rows) stay.tables tables stay.named.0 named.0)
    (subst (λ (ts : List Table). EachTable (StaysAmong ts) stay.tables)
    (tables_once (by_key others) stay.more more stay.named_more.0 named_more.0) stay.stay))

-- where a table does not fit, the rows name none that all fit
pub fit_refuted : (size : ℕ) (rows : List Row) (tables : List Table)
    → AreTables (by_key rows) tables → (EachTable (FitsPages size) tables → ⊥)
    → (fit : List Table) × RowsName size rows fit → ⊥
fit_refuted size rows tables are long (fit, named) = long (subst
    (λ (ts : List Table). EachTable (FitsPages size) ts)
    (tables_once (by_key rows) fit tables named.0 are) named.1)

-- to take all of those is to take all limbo transactions
pub all_taken : (f : Facts) (found : List Found) (writers : List ℕ) → HasWriters f writers found
    → AllAgree f (λ t. true) (has writers) found
all_taken f [] writers have = tt
all_taken f (first ∷ more) writers have =
    (one first.entries.items have.0, all_taken f more writers have.1)
  where
    one : (es : List Entry) → HasWriter f writers es → Agree f (λ t. true) (has writers) es
    one [] is = tt
    one (e ∷ es) is = λ limbo. sym (has_true writers (writer e) (is limbo))

-- ---- a row that is not lawful

-- where each row is the one of its key, a row that is not lawful leaves the rows without tables
pub bad_row : (size : ℕ) (f : Facts) (found : List Found) (chosen : ℕ → Bool) (rows : List Row) (at : ℕ)
    → IsCatalogFound f found → rows ≡ rows_with f found chosen → IsFirstBad rows (BadTable at)
    → AreLawful size f found chosen → ⊥
bad_row size f found chosen rows at is same bad (tables, named) =
    let own = is.own chosen at (rw same at bad.0) in
    let lawful = named.0.lawful _ (slice_index_or (rows_with f found chosen) at []) own in
    (rw same at bad.1) lawful
