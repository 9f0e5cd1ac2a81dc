-- The parts of the rules of records are the rules of records.
use Rattle.std.proofs.Common.{◌≡◌, inl, inr, refl, List, [], ◌∷◌, Option, None, Some}
use Rattle.mg_value.specs.declared.value.Value.{Value}
use Rattle.mg_model.specs.declared.table.Table.{Table}
use Rattle.mg_image.specs.declared.entry.Entry.{Entry}
use Rattle.mg_image.specs.Form.{Coding}
use Rattle.mg_image.specs.RecordRules.{AreRecords, Each, Facts, IsVersion, TakesKey, table_in}
use Rattle.mg_image.specs.Records.{Cells, Reading, key_of, record_key}
use Rattle.mg_reading.specs.RecordParts.{AreBacks, AreBacksCommitted, AreDrawn, HasVersions, HaveOwnKeys, IsDrawn, IsStored}

-- stored versions of drawn transactions with one key are those of a record
lawful_each : (coding : Coding) (f : Facts) (table : Table) (key : Value) (es : List Entry)
    → Each (IsStored coding f table) es → Each (IsDrawn f) es
    → Each (λ e. key_of table e.row ≡ key) es → Each (IsVersion coding f table key) es
lawful_each coding f table key [] stored drawn keyed = tt
lawful_each coding f table key (e ∷ es) stored drawn keyed = (
  record {
    placed = stored.0.placed;
    drawn = drawn.0.0;
    dead = drawn.0.1;
    format = stored.0.format;
    spelled = stored.0.spelled;
    storable = stored.0.storable;
    erased = stored.0.erased;
    keyed = keyed.0;
  },
  lawful_each coding f table key es stored.1 drawn.1 keyed.1,
)

-- the parts are the whole
pub records_of : (coding : Coding) (f : Facts) (h : Cells) (r : Reading)
    → HasVersions coding f h r → AreDrawn f r → AreBacks f r → HaveOwnKeys f r
    → AreRecords coding f h r
records_of coding f h r versions drawn backs keys = record {
  reads = versions.reads;
  outside = versions.outside;
  each = λ p table is. record {
    once = (versions.each p table is).once;
    each = lawful_each coding f table (record_key table (r p)) (r p)
        ((versions.each p table is).each) (drawn p) (keys.one p table is);
    backs = backs p;
  };
  apart = versions.apart;
  keys = λ p q table at_p at_q i j same. keys.own p q table at_p at_q (i, j, same);
}

stored_each : (coding : Coding) (f : Facts) (table : Table) (key : Value) (es : List Entry)
    → Each (IsVersion coding f table key) es → Each (IsStored coding f table) es
stored_each coding f table key [] each = tt
stored_each coding f table key (e ∷ es) each = (
  record {
    placed = each.0.placed;
    format = each.0.format;
    spelled = each.0.spelled;
    storable = each.0.storable;
    erased = each.0.erased;
  },
  stored_each coding f table key es each.1,
)

drawn_each : (coding : Coding) (f : Facts) (table : Table) (key : Value) (es : List Entry)
    → Each (IsVersion coding f table key) es → Each (IsDrawn f) es
drawn_each coding f table key [] each = tt
drawn_each coding f table key (e ∷ es) each =
    ((each.0.drawn, each.0.dead), drawn_each coding f table key es each.1)

keyed_each : (coding : Coding) (f : Facts) (table : Table) (key : Value) (es : List Entry)
    → Each (IsVersion coding f table key) es → Each (λ e. key_of table e.row ≡ key) es
keyed_each coding f table key [] each = tt
keyed_each coding f table key (e ∷ es) each =
    (each.0.keyed, keyed_each coding f table key es each.1)

-- the whole has each part: the versions
pub versions_of : (coding : Coding) (f : Facts) (h : Cells) (r : Reading)
    → AreRecords coding f h r → HasVersions coding f h r
versions_of coding f h r are = record {
  reads = are.reads;
  outside = are.outside;
  each = λ p table is. record {
    once = (are.each p table is).once;
    each = stored_each coding f table (record_key table (r p)) (r p) ((are.each p table is).each);
  };
  apart = are.apart;
}

-- their transactions
pub drawn_of : (coding : Coding) (f : Facts) (h : Cells) (r : Reading)
    → AreRecords coding f h r → AreDrawn f r
drawn_of coding f h r are p = at (table_in f p) refl
  where
    at : (t : Option Table) → table_in f p ≡ t → Each (IsDrawn f) (r p)
    at None none = rw (are.outside p none) tt
    at (Some table) some = drawn_each coding f table (record_key table (r p)) (r p)
        ((are.each p table some).each)

-- back versions
pub backs_of : (coding : Coding) (f : Facts) (h : Cells) (r : Reading)
    → AreRecords coding f h r → AreBacks f r
backs_of coding f h r are p = at (table_in f p) refl
  where
    at : (t : Option Table) → table_in f p ≡ t → AreBacksCommitted f (r p)
    at None none = rw (are.outside p none) tt
    at (Some table) some = (are.each p table some).backs

-- and keys
pub keys_of : (coding : Coding) (f : Facts) (h : Cells) (r : Reading)
    → AreRecords coding f h r → HaveOwnKeys f r
keys_of coding f h r are = record {
  one = λ p table is. keyed_each coding f table (record_key table (r p)) (r p)
      ((are.each p table is).each);
  own = λ p q table at_p at_q both. are.keys p q table at_p at_q both.0 both.1 both.2;
}

-- nothing takes no key
pub takes_none : (f : Facts) → TakesKey f [] → ⊥
takes_none f (inl (row, is)) = let no_ : None ≡ Some row = is in absurd cc
takes_none f (inr limbo) = limbo
