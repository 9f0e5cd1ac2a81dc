-- The newest version of a record is written over in its cell: what is read of the records then.
use Rattle.std.proofs.Common.{◌≡◌, ◌≢◌, ◌⊎◌, inl, inr, refl, sym, ap, ◌∙◌, subst, true, false, List, [], ◌∷◌, Option, None, Some}
use Rattle.std.specs.Prelude.{if◌then◌else◌}
use Rattle.mg_base.specs.declared.numbers.RecId.{RecId}
use Rattle.mg_base.specs.declared.transaction.TxState.{TxState}
use Rattle.mg_base.specs.declared.transaction.TxState.TheVariants.{Active, Committed, Dead, Limbo}
use Rattle.mg_value.specs.declared.value.Value.{Value}
use Rattle.mg_version.specs.declared.cell.Cell.{Cell}
use Rattle.mg_version.specs.declared.cell.Cell.TheVariants as cells
use Rattle.mg_version.specs.declared.cell.Link.{Link}
use Rattle.mg_version.specs.declared.cell.Version.{Version}
use Rattle.mg_model.specs.Answers.{is_committed}
use Rattle.mg_model.specs.declared.table.Table.{Table}
use Rattle.mg_image.specs.Form.{Coding}
use Rattle.mg_image.specs.ReadingLaws.{Opens, chain_opens}
use Rattle.mg_image.specs.RecordRules.{AreRecords, Each, EachBack, Facts, IsRecord, IsVersion, TakesKey, committed_in, table_in}
use Rattle.mg_image.specs.Records.{Cells, Chain, Changes, Reading, Stands, ended, goes, key_of, newest_of, record_key, shown, writer}
use Rattle.mg_image.specs.StepLaws.{cases_place, chain_stays, same_place}
use Rattle.mg_image.specs.declared.entry.Entry.{Entry}
use Rattle.mg_image_overlay_laws.specs.records.Skips.{reads_none}
use Rattle.mg_image_overlay_laws.specs.records.Fronts.{living}
use Rattle.mg_image_overlay_laws.specs.records.QuietVersions.{SameLiving}

-- A version is written over in its cell: by another one of its transaction that leads on as it did.
pub record Overwrites (old new : Cells) (v : Version) (n : Entry) : Type 0 where
  pub was : old n.at ≡ Some (cells.Version v)
  pub change : Changes old new n.at (Some (cells.Version n.version))
  pub tx : n.version.tx ≡ v.tx
  pub back : n.version.back ≡ v.back
  -- neither stands in a primary slot
  pub was_apart : v.primary ≡ false
  pub apart : n.version.primary ≡ false

-- the newest version, where it stands in the cell, is this one then
abbrev pub over_at : Entry → List Entry → List Entry
over_at n [] = []
over_at n (e ∷ es) = if same_place e.at n.at then n ∷ es else e ∷ es

abbrev pub over_reading : Entry → Reading → Reading
over_reading n r q = over_at n (r q)

-- wherever the old version is lawful, the new one is
abbrev pub MayOverwrite : Coding → Facts → Version → Entry → Type 0
MayOverwrite coding f v n = (table : Table) (key : Value) (d : Entry) → d.at ≡ n.at → d.version ≡ v
    → IsVersion coding f table key d → IsVersion coding f table key n

same_version : (v w : Version) → Some (cells.Version v) ≡ Some (cells.Version w) → v ≡ w
same_version v w same = cc

-- a version outside its primary slot begins no record
pub leads_none : (q : RecId) (v : Version) → v.primary ≡ false
    → newest_of q (Some (cells.Version v)) ≡ None
leads_none q v apart = rw apart refl

pub not_committed : (s : TxState) → s ≢ Committed → is_committed s ≡ false
not_committed Active open_ = refl
not_committed Limbo open_ = refl
not_committed Dead open_ = refl
not_committed Committed open_ = absurd (open_ refl)

-- what is not read at a place is not written over
pub over_not : (n : Entry) (es : List Entry) → (Stands es n.at → ⊥) → over_at n es ≡ es
over_not n [] out = refl
over_not n (e ∷ es) out = by (cases_place e.at n.at)
  where
    by : ((e.at ≡ n.at) × (same_place e.at n.at ≡ true)) ⊎ ((e.at ≢ n.at) × (same_place e.at n.at ≡ false))
        → over_at n (e ∷ es) ≡ e ∷ es
    by (inl (same, yes_)) = absurd (out (inl same))
    by (inr (ne, no_)) = rw no_ refl

-- and what is read there, is
pub over_there : (n e : Entry) (es : List Entry) → e.at ≡ n.at → over_at n (e ∷ es) ≡ n ∷ es
over_there n e es at = by (cases_place e.at n.at)
  where
    by : ((e.at ≡ n.at) × (same_place e.at n.at ≡ true)) ⊎ ((e.at ≢ n.at) × (same_place e.at n.at ≡ false))
        → over_at n (e ∷ es) ≡ n ∷ es
    by (inl (same, yes_)) = rw yes_ refl
    by (inr (ne, no_)) = absurd (ne at)

over_stands : (n : Entry) (es : List Entry) (y : RecId) → Stands (over_at n es) y → Stands es y
over_stands n [] y there = there
over_stands n (e ∷ es) y there = by (cases_place e.at n.at) there
  where
    moved : e.at ≡ n.at → (n.at ≡ y) ⊎ Stands es y → (e.at ≡ y) ⊎ Stands es y
    moved same (inl here) = inl (same ∙ here)
    moved same (inr more) = inr more

    by : ((e.at ≡ n.at) × (same_place e.at n.at ≡ true)) ⊎ ((e.at ≢ n.at) × (same_place e.at n.at ≡ false))
        → Stands (over_at n (e ∷ es)) y → Stands (e ∷ es) y
    by (inl (same, yes_)) = rw yes_ (moved same)
    by (inr (ne, no_)) = rw no_ (λ there. there)

module _ (coding : Coding) (f : Facts) (old new : Cells) (r : Reading) (v : Version) (n : Entry)
    (are : AreRecords coding f old r) (over : Overwrites old new v n)
    (open_ : f.state (writer n) ≢ Committed) (may : MayOverwrite coding f v n) where
  writer_is : v.tx.0 ≡ writer n
  writer_is = ap (λ t. t.0) (sym over.tx)

  -- committed versions do not stand there
  committed_off : (l : Option Link) (es : List Entry) → Chain old l es
      → Each (λ e. f.state (writer e) ≡ Committed) es → Stands es n.at → ⊥
  committed_off l es ended all there = there
  committed_off l es (goes m e fs at is tx more) all (inl here) =
      let version : e.version ≡ v = same_version e.version v (sym is ∙ (ap old here ∙ over.was)) in
      let writers : writer e ≡ writer n = ap (λ (w : Version). w.tx.0) version ∙ writer_is in
      open_ (ap f.state (sym writers) ∙ all.0)
  committed_off l es (goes m e fs at is tx more) all (inr there) =
      committed_off e.version.back fs more all.1 there

  head_version : (l : Option Link) (e : Entry) (es : List Entry) → Chain old l (e ∷ es)
      → e.at ≡ n.at → e.version ≡ v
  head_version l e es chain here = by l (chain_opens old l (e ∷ es) chain)
    where
      by : (l : Option Link) → Opens old l (e ∷ es) → e.version ≡ v
      by None o = absurd o
      by (Some m) o = same_version e.version v (sym o.1 ∙ (ap old here ∙ over.was))

  chain_over : (l : Option Link) (es : List Entry) → Chain old l es
      → EachBack (λ e. f.state (writer e) ≡ Committed) es → Chain new l (over_at n es)
  chain_over l es ended backs = ended
  chain_over l es (goes m e fs at is tx more) backs = by (cases_place e.at n.at)
    where
      rest : Chain new e.version.back fs
      rest = chain_stays old new n.at (Some (cells.Version n.version)) over.change e.version.back fs more
          (committed_off e.version.back fs more backs)

      by : ((e.at ≡ n.at) × (same_place e.at n.at ≡ true)) ⊎ ((e.at ≢ n.at) × (same_place e.at n.at ≡ false))
          → Chain new (Some m) (over_at n (e ∷ fs))
      by (inl (same, yes_)) =
          let version : e.version ≡ v = same_version e.version v (sym is ∙ (ap old same ∙ over.was)) in
          let back : e.version.back ≡ n.version.back =
          ap (λ (w : Version). w.back) version ∙ sym over.back in
          rw yes_ (goes m n fs (sym same ∙ at) over.change.here
          (over.tx ∙ (ap (λ (w : Version). w.tx) (sym version) ∙ tx))
          (subst (λ (k : Option Link). Chain new k fs) back rest))
      by (inr (ne, no_)) = rw no_ (goes m e fs at (over.change.others e.at ne ∙ is) tx rest)

  record_over : (table : Table) (l : Option Link) (es : List Entry) → Chain old l es
      → IsRecord coding f table es → IsRecord coding f table (over_at n es)
  record_over table l [] chain lawful = lawful
  record_over table l (e ∷ es) chain lawful = by (cases_place e.at n.at)
    where
      by : ((e.at ≡ n.at) × (same_place e.at n.at ≡ true)) ⊎ ((e.at ≢ n.at) × (same_place e.at n.at ≡ false))
          → IsRecord coding f table (over_at n (e ∷ es))
      by (inl (same, yes_)) = rw yes_ (record {
        once = ((λ there. lawful.once.0 (subst (Stands es) (sym same) there)), lawful.once.1);
        each = subst (λ (k : Value). Each (IsVersion coding f table k) (n ∷ es)) (sym now.keyed)
            (now, lawful.each.1);
        backs = lawful.backs;
      })
        where
          now : IsVersion coding f table (key_of table e.row) n
          now = may table (key_of table e.row) e same (head_version l e es chain same) lawful.each.0
      by (inr (ne, no_)) = rw no_ lawful

  key_over : (table : Table) (l : Option Link) (es : List Entry) → Chain old l es
      → IsRecord coding f table es → record_key table (over_at n es) ≡ record_key table es
  key_over table l [] chain lawful = refl
  key_over table l (e ∷ es) chain lawful = by (cases_place e.at n.at)
    where
      by : ((e.at ≡ n.at) × (same_place e.at n.at ≡ true)) ⊎ ((e.at ≢ n.at) × (same_place e.at n.at ≡ false))
          → record_key table (over_at n (e ∷ es)) ≡ record_key table (e ∷ es)
      by (inl (same, yes_)) = rw yes_ (may table (key_of table e.row) e same
          (head_version l e es chain same) lawful.each.0).keyed
      by (inr (ne, no_)) = rw no_ refl

  takes_over : (l : Option Link) (es : List Entry) → Chain old l es → TakesKey f (over_at n es)
      → TakesKey f es
  takes_over l [] chain takes = takes
  takes_over l (e ∷ es) chain takes = by (cases_place e.at n.at) takes
    where
      by : ((e.at ≡ n.at) × (same_place e.at n.at ≡ true)) ⊎ ((e.at ≢ n.at) × (same_place e.at n.at ≡ false))
          → TakesKey f (over_at n (e ∷ es)) → TakesKey f (e ∷ es)
      by (inl (same, yes_)) = rw yes_ moved
        where
          writers : writer e ≡ writer n
          writers = ap (λ (w : Version). w.tx.0) (head_version l e es chain same) ∙ writer_is

          off_new : committed_in f (writer n) ≡ false
          off_new = not_committed (f.state (writer n)) open_

          off_old : committed_in f (writer e) ≡ false
          off_old = ap (committed_in f) writers ∙ off_new

          moved : TakesKey f (n ∷ es) → TakesKey f (e ∷ es)
          moved (inl (row, shows)) =
              let new_ : shown (committed_in f) (n ∷ es) ≡ shown (committed_in f) es = rw off_new refl in
              let old_ : shown (committed_in f) (e ∷ es) ≡ shown (committed_in f) es = rw off_old refl in
              inl (row, old_ ∙ (sym new_ ∙ shows))
          moved (inr limbo) = inr (ap f.state writers ∙ limbo)
      by (inr (ne, no_)) = rw no_ (λ takes. takes)

  -- the records are lawful then
  pub over_records : AreRecords coding f new (over_reading n r)
  over_records = record {
    reads = λ q table of. reads q table of (cases_place q n.at);
    outside = λ q none. ap (over_at n) (are.outside q none);
    each = λ q table of. record_over table (newest_of q (old q)) (r q) (are.reads q table of)
        (are.each q table of);
    apart = λ a b y here there. are.apart a b y (over_stands n (r a) y here) (over_stands n (r b) y there);
    keys = λ a b table of_a of_b takes also same. are.keys a b table of_a of_b
        (takes_over (newest_of a (old a)) (r a) (are.reads a table of_a) takes)
        (takes_over (newest_of b (old b)) (r b) (are.reads b table of_b) also)
        (sym (key_over table (newest_of a (old a)) (r a) (are.reads a table of_a) (are.each a table of_a))
        ∙ (same ∙ key_over table (newest_of b (old b)) (r b) (are.reads b table of_b)
        (are.each b table of_b)));
  }
    where
      reads : (q : RecId) (table : Table) → table_in f q ≡ Some table
          → ((q ≡ n.at) × (same_place q n.at ≡ true)) ⊎ ((q ≢ n.at) × (same_place q n.at ≡ false))
          → Chain new (newest_of q (new q)) (over_at n (r q))
      reads q table of (inl (same, yes_)) =
          let before : newest_of q (old q) ≡ None =
          ap (newest_of q) (ap old same ∙ over.was) ∙ leads_none q v over.was_apart in
          let after : newest_of q (new q) ≡ None =
          ap (newest_of q) (ap new same ∙ over.change.here) ∙ leads_none q n.version over.apart in
          let empty : r q ≡ [] = reads_none old (r q)
          (subst (λ (l : Option Link). Chain old l (r q)) before (are.reads q table of)) in
          subst (λ (es : List Entry). Chain new (newest_of q (new q)) (over_at n es)) (sym empty)
          (subst (λ (l : Option Link). Chain new l []) (sym after) ended)
      reads q table of (inr (ne, no_)) =
          subst (λ (c : Option Cell). Chain new (newest_of q c) (over_at n (r q)))
          (sym (over.change.others q ne)) (chain_over (newest_of q (old q)) (r q)
          (are.reads q table of) (are.each q table of).backs)

  -- where its transaction counts as dead, of each record the same versions count
  pub over_living : f.state (writer n) ≡ Dead → SameLiving f r (over_reading n r)
  over_living dead q = by_table (table_in f q) refl
    where
      by_list : (l : Option Link) (es : List Entry) → Chain old l es
          → living f.state (over_at n es) ≡ living f.state es
      by_list l [] chain = refl
      by_list l (e ∷ es) chain = by (cases_place e.at n.at)
        where
          by : ((e.at ≡ n.at) × (same_place e.at n.at ≡ true))
              ⊎ ((e.at ≢ n.at) × (same_place e.at n.at ≡ false))
              → living f.state (over_at n (e ∷ es)) ≡ living f.state (e ∷ es)
          by (inl (same, yes_)) =
              let writers : writer e ≡ writer n =
              ap (λ (w : Version). w.tx.0) (head_version l e es chain same) ∙ writer_is in
              let dead_old : f.state (writer e) ≡ Dead = ap f.state writers ∙ dead in
              let old_ : living f.state (e ∷ es) ≡ es = rw dead_old refl in
              let new_ : living f.state (n ∷ es) ≡ es = rw dead refl in
              ap (living f.state) (over_there n e es same) ∙ (new_ ∙ sym old_)
          by (inr (ne, no_)) = rw no_ refl

      by_table : (t : Option Table) → table_in f q ≡ t
          → living f.state (over_at n (r q)) ≡ living f.state (r q)
      by_table None none =
          let empty : r q ≡ [] = are.outside q none in
          ap (λ (es : List Entry). living f.state (over_at n es)) empty
          ∙ sym (ap (living f.state) empty)
      by_table (Some table) of = by_list (newest_of q (old q)) (r q) (are.reads q table of)
