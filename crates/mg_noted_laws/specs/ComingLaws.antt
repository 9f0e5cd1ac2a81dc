-- What keeps a directory of records complete.
use Rattle.std.proofs.Common.{◌≡◌, ◌≢◌, ◌∙◌, ◌⊎◌, inl, inr, refl, sym, ap, subst, ℕ, List, [], ◌∷◌, Option, None, Some}
use Rattle.mg_base.specs.declared.numbers.RecId.{RecId}
use Rattle.mg_base.specs.declared.transaction.TxState.{TxState}
use Rattle.mg_directory.specs.CandidateLaws.{HasAllOf}
use Rattle.mg_directory.specs.Candidates.{ByKey, ByTable, IsCandidate}
use Rattle.mg_image.specs.Form.{Coding, Form, Pages}
use Rattle.mg_image.specs.RecordRules.{AreRecords, Each, Facts, IsVersion, table_in}
use Rattle.mg_image.specs.Records.{Cells, Reading, key_of, record_key}
use Rattle.mg_image.specs.Sound.{IsSoundBy, facts_by}
use Rattle.mg_image.specs.Tables.{Layout}
use Rattle.mg_image.specs.declared.entry.Entry.{Entry}
use Rattle.mg_image_overlay_laws.specs.tables.OneLayout.{StandsOneWay}
use Rattle.mg_model.specs.declared.table.Table.{Table}
use Rattle.mg_sortkey.specs.KeyBytes.{key_bytes}
use Rattle.mg_value.specs.declared.value.Value.{Value}
use Rattle.mg_noted_laws.specs.Coming.{AreFewer, BeginsAs, ComeFrom, IsAmongEntries, NoNew, WasThere}
use Rattle.mg_noted_laws.specs.Noted.{AreNoted, HasNoted, IsNoted}

-- So a directory that loses nothing, and gets those that are new, is complete still.
pub noted_on : (New : RecId → Type 0) (f g : Facts) (r s : Reading) (first : ℕ) (old new : ByKey)
    → IsNoted f r first old → ComeFrom New f r g s → HasAllOf old new
    → ((p : RecId) (table : Table) → table_in g p ≡ Some table → table.pointer.0 ≡ first → s p ≢ [] → New p
    → IsCandidate (new (key_bytes (record_key table (s p)))) p)
    → IsNoted g s first new
noted_on New f g r s first old new noted come all_ fresh p table of is some = at (come p table of some)
  where
    at : WasThere f r table (s p) p ⊎ New p → IsCandidate (new (key_bytes (record_key table (s p)))) p
    at (inl was) = subst (λ (k : Value). IsCandidate (new (key_bytes k)) p) was.keyed
        (all_ (key_bytes (record_key was.before (r p))) p
        (noted p was.before was.of_table (was.first ∙ is) was.some))
    at (inr is_new) = fresh p table of is some is_new

-- where no record is new, the same directories are complete; and they may be dropped
pub noted_stay : (f g : Facts) (r s : Reading) (old new : ByTable) → AreNoted f r old → ComeFrom NoNew f r g s
    → AreFewer old new → AreNoted g s new
noted_stay f g r s old new noted come fewer first dir is =
    noted_on NoNew f g r s first dir dir (noted first dir (fewer first dir is)) come (λ bytes p there. there)
    (λ p table of first_ some none. absurd none)

pub dropped_noted : (f : Facts) (r : Reading) (dirs : ByTable) → ((first : ℕ) → dirs first ≡ None) → AreNoted f r dirs
dropped_noted f r dirs none first dir is =
    let both : None ≡ Some dir = sym (none first) ∙ is in absurd cc

-- ---- the steps of an engine

-- tables get pages, of which no record is read, and records stay: a number drawn, pages taken, a page written
pub grown_come : (coding : Coding) (f g : Facts) (h : Cells) (r : Reading)
    → AreRecords coding f h r
    → ((p : RecId) (table : Table) → table_in f p ≡ Some table → table_in g p ≡ Some table)
    → ComeFrom NoNew f r g r
grown_come coding f g h r lawful stays p table of some = inl (at (table_in f p) refl)
  where
    at : (x : Option Table) → table_in f p ≡ x → WasThere f r table (r p) p
    at None is = absurd (some (lawful.outside p is))
    at (Some before) is =
        let both : Some before ≡ Some table = sym (stays p before is) ∙ of in
        let same : before ≡ table = cc in
        record {
          before = before;
          of_table = is;
          first = ap (λ (t : Table). t.pointer.0) same;
          some = some;
          keyed = ap (λ (t : Table). record_key t (r p)) same;
        }

-- transactions end or begin, or tables go: each record with versions is one of before
pub left_come : (f g : Facts) (r s : Reading)
    → ((p : RecId) (table : Table) → table_in g p ≡ Some table → s p ≢ []
    → (table_in f p ≡ Some table) × (s p ≡ r p))
    → ComeFrom NoNew f r g s
left_come f g r s same p table of some =
    let (was, is) = same p table of some in
    inl (record {
      before = table;
      of_table = was;
      first = refl;
      some = λ none. some (is ∙ none);
      keyed = ap (record_key table) (sym is);
    })

each_at : (P : Entry → Type 0) (es : List Entry) (d : Entry) → Each P es → IsAmongEntries es d → P d
each_at P [] d each among = absurd among
each_at P (e ∷ es) d each (inl same) = subst P same each.0
each_at P (e ∷ es) d each (inr later) = each_at P es d each.1 later

none_among : (es : List Entry) (d : Entry) → IsAmongEntries es d → es ≢ []
none_among [] d among is = absurd among
none_among (e ∷ es) d among is = absurd cc

-- versions go from a record, and each that stays has the row of one that it had: a version taken back, a dead one
-- taken out, old ones collected
pub fewer_come : (coding : Coding) (f g : Facts) (h : Cells) (r s : Reading) → AreRecords coding f h r
    → ((p : RecId) (table : Table) → table_in g p ≡ Some table → s p ≢ [] → table_in f p ≡ Some table)
    → ((p : RecId) → BeginsAs (r p) (s p)) → ComeFrom NoNew f r g s
fewer_come coding f g h r s lawful stays begins p table of some = at (s p) refl (begins p)
  where
    was : table_in f p ≡ Some table
    was = stays p table of some

    at : (es : List Entry) → s p ≡ es → BeginsAs (r p) es → WasThere f r table (s p) p ⊎ ⊥
    at [] none it = absurd (some none)
    at (e ∷ es) is (d, among, row) =
        let keyed : key_of table d.row ≡ record_key table (r p) =
        (each_at (IsVersion coding f table (record_key table (r p))) (r p) d
        (lawful.each p table was).each among).keyed in
        inl (record {
          before = table;
          of_table = was;
          first = refl;
          some = none_among (r p) d among;
          keyed = sym keyed ∙ (ap (key_of table) (sym row) ∙ ap (record_key table) (sym is));
        })

-- A version is laid in one record, which the directory has got under its key, or had; the layout has grown, and all
-- other records are as they were.
pub written_noted : (coding : Coding) (f g : Facts) (h : Cells) (r s : Reading) (p : RecId) (table : Table)
    (key : Value) (first : ℕ) (old new : ByKey) → AreRecords coding f h r
    → ((q : RecId) (its : Table) → table_in f q ≡ Some its → table_in g q ≡ Some its)
    → table_in g p ≡ Some table → record_key table (s p) ≡ key → ((q : RecId) → q ≢ p → s q ≡ r q)
    → ((q : RecId) → (q ≡ p) ⊎ (q ≢ p))
    → IsNoted f r first old → HasAllOf old new
    → (table.pointer.0 ≡ first → IsCandidate (new (key_bytes key)) p) → IsNoted g s first new
written_noted coding f g h r s p table key first old new lawful stays of_p keyed others same_or noted all_ there =
    noted_on (λ q. q ≡ p) f g r s first old new noted come all_ fresh
  where
    come : ComeFrom (λ q. q ≡ p) f r g s
    come q its of some = at (same_or q)
      where
        at : (q ≡ p) ⊎ (q ≢ p) → WasThere f r its (s q) q ⊎ (q ≡ p)
        at (inl same) = inr same
        at (inr ne) = by (grown_come coding f g h r lawful stays q its of (λ none. some (others q ne ∙ none)))
          where
            by : WasThere f r its (r q) q ⊎ ⊥ → WasThere f r its (s q) q ⊎ (q ≡ p)
            by (inl was) = inl (subst (λ (es : List Entry). WasThere f r its es q) (sym (others q ne)) was)
            by (inr none) = absurd none

    fresh : (q : RecId) (its : Table) → table_in g q ≡ Some its → its.pointer.0 ≡ first → s q ≢ [] → q ≡ p
        → IsCandidate (new (key_bytes (record_key its (s q)))) q
    fresh q its of is some same =
        let of_its : table_in g p ≡ Some its = subst (λ (x : RecId). table_in g x ≡ Some its) same of in
        let both : Some table ≡ Some its = sym of_p ∙ of_its in
        let one : table ≡ its = cc in
        subst (λ (x : RecId). IsCandidate (new (key_bytes (record_key its (s x)))) x) (sym same)
        (subst (λ (t : Table). IsCandidate (new (key_bytes (record_key t (s p)))) p) one
        (subst (λ (k : Value). IsCandidate (new (key_bytes k)) p) (sym keyed)
        (there (ap (λ (t : Table). t.pointer.0) one ∙ is))))

-- ---- for pages

-- since an image has one layout and one reading at most, it is enough that they are so by one
pub noted_by : (form : Form) → StandsOneWay form → (size : ℕ) (state : ℕ → TxState) (pages : Pages)
    (dirs : ByTable) (layout : Layout) (r : Reading) → IsSoundBy form size state pages layout r
    → AreNoted (facts_by state pages layout) r dirs → HasNoted form size state pages dirs
noted_by form one size state pages dirs layout r sound noted a s other =
    let (layouts, readings) = one size state pages layout a r s sound other in
    subst (λ (b : Layout). AreNoted (facts_by state pages b) s dirs) layouts
    (subst (λ (q : Reading). AreNoted (facts_by state pages layout) q dirs) readings noted)

-- layout and reading stay, under other states and on other pages
pub stayed_has : (form : Form) → StandsOneWay form → (size : ℕ) (state now : ℕ → TxState) (pages later : Pages)
    (dirs : ByTable) (layout : Layout) (r : Reading) → IsSoundBy form size state pages layout r
    → IsSoundBy form size now later layout r → HasNoted form size state pages dirs → HasNoted form size now later dirs
stayed_has form one size state now pages later dirs layout r sound then_ noted =
    noted_by form one size now later dirs layout r then_
    (noted_stay (facts_by state pages layout) (facts_by now later layout) r r dirs dirs (noted layout r sound)
    (left_come (facts_by state pages layout) (facts_by now later layout) r r (λ p table of some. (of, refl)))
    (λ first dir is. is))

-- there are none
pub none_has : (form : Form) (size : ℕ) (state : ℕ → TxState) (pages : Pages) (dirs : ByTable)
    → ((first : ℕ) → dirs first ≡ None) → HasNoted form size state pages dirs
none_has form size state pages dirs none layout r sound = dropped_noted (facts_by state pages layout) r dirs none
