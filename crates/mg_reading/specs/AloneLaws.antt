-- The records of one table of many, by themselves.
use Rattle.std.proofs.Common.{◌≡◌, refl, Bool, true, false, List, [], ◌∷◌, None}
use Rattle.mg_base.specs.declared.numbers.RecId.{RecId}
use Rattle.mg_value.specs.declared.value.Value.{Value}
use Rattle.mg_image.specs.declared.entry.Entry.{Entry}
use Rattle.mg_image.specs.RecordRules.{AreRecords, Each, IsRecord, IsVersion, table_in}
use Rattle.mg_image.specs.Records.{Reading, Stands, cells_of, record_key}
use Rattle.mg_image.specs.Tables.{Stand, has}
use Rattle.mg_reading.specs.declared.image.Image.{Image}
use Rattle.mg_reading.specs.declared.rows.RowCoding.{RowCoding}
use Rattle.mg_reading.specs.Codings.{coding_of}
use Rattle.mg_reading.specs.ImageView.{pages_in}
use Rattle.mg_reading.specs.OneTable.{stands_facts, table_facts}
use Rattle.mg_reading.specs.StandLaws.{IsOneOf, has_back, page_of_table, restricted, table_at_one}

-- a version that is lawful among all tables is so in its own
versions_on : (coding : RowCoding) (image : Image) (ss : List Stand) (s : Stand)
    → IsOneOf ss s → (key : Value) (es : List Entry)
    → Each (IsVersion (coding_of coding) (stands_facts image ss) s.table key)
    es → Each (IsVersion (coding_of coding) (table_facts image s.table s.data_pages) s.table key) es
versions_on coding image ss s is key [] each = tt
versions_on coding image ss s is key (e ∷ es) each = (
  record {
    placed = table_at_one s.table s.data_pages e.at.page.0
        (has_back s.data_pages e.at.page.0 (is.back e.at each.0.placed));
    drawn = each.0.drawn;
    dead = each.0.dead;
    format = each.0.format;
    spelled = each.0.spelled;
    storable = each.0.storable;
    erased = each.0.erased;
    keyed = each.0.keyed;
  },
  versions_on coding image ss s is key es each.1,
)

record_on : (coding : RowCoding) (image : Image) (ss : List Stand) (s : Stand)
    → IsOneOf ss s → (es : List Entry)
    → IsRecord (coding_of coding) (stands_facts image ss) s.table es
    → IsRecord (coding_of coding) (table_facts image s.table s.data_pages) s.table es
record_on coding image ss s is es lawful = record {
  once = lawful.once;
  each = versions_on coding image ss s is (record_key s.table es) es lawful.each;
  backs = lawful.backs;
}

-- the records of a table of a sound image are lawful by themselves
pub table_alone : (coding : RowCoding) (image : Image) (ss : List Stand) (r : Reading) (s : Stand)
    → IsOneOf ss s
    → AreRecords (coding_of coding) (stands_facts image ss)
    (cells_of (pages_in image)) r
    → AreRecords (coding_of coding) (table_facts image s.table s.data_pages)
    (cells_of (pages_in image)) (restricted s.data_pages r)
table_alone coding image ss r s is are = record {
  reads = λ p t at_p. let known = page_of_table s.table t s.data_pages p.page.0 at_p in
      rw known.1 (are.reads p s.table (is.mine p known.1));
  outside = λ p none. outside p none (has s.data_pages p.page.0) refl;
  each = λ p t at_p. let known = page_of_table s.table t s.data_pages p.page.0 at_p in
      rw (known.0, known.1)
      (record_on coding image ss s is (r p) (are.each p s.table (is.mine p known.1)));
  apart = λ p q x i j. are.apart p q x (whole p x i (has s.data_pages p.page.0) refl)
      (whole q x j (has s.data_pages q.page.0) refl);
  keys = λ p q t at_p at_q i j same.
      let first = page_of_table s.table t s.data_pages p.page.0 at_p in
      let second = page_of_table s.table t s.data_pages q.page.0 at_q in
      are.keys p q s.table (is.mine p first.1) (is.mine q second.1) (rw first.1 at i)
      (rw second.1 at j) (rw (first.0, first.1, second.1) at same);
}
  where
    outside : (p : RecId) → table_in (table_facts image s.table s.data_pages) p ≡ None
        → (b : Bool) → has s.data_pages p.page.0 ≡ b → restricted s.data_pages r p ≡ []
    outside p none true e =
        let some = table_at_one s.table s.data_pages p.page.0 (has_back s.data_pages p.page.0 e) in
        absurd cc
    outside p none false e = rw e refl

    whole : (p x : RecId) → Stands (restricted s.data_pages r p) x → (b : Bool)
        → has s.data_pages p.page.0 ≡ b → Stands (r p) x
    whole p x stands true e = rw e at stands
    whole p x stands false e = let no_ : ⊥ = rw e at stands in absurd no_
