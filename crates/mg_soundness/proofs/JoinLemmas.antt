-- The records of several tables together.
use Rattle.std.proofs.Common.{◌≡◌, inl, inr, refl, sym, ◌∙◌, ap, subst, Bool, true, false, List, [], ◌∷◌, Option, None, Some}
use Rattle.std.specs.List.{flat_map}
use Rattle.mg_base.specs.declared.numbers.RecId.{RecId}
use Rattle.mg_model.specs.declared.table.Table.{Table}
use Rattle.mg_image.specs.declared.entry.Entry.{Entry}
use Rattle.mg_image.specs.RecordRules.{Each, table_in}
use Rattle.mg_image.specs.Records.{Chain, Reading, Stands, cells_of, newest_of}
use Rattle.mg_image.specs.Sound.{HasTablePages}
use Rattle.mg_image.specs.Tables.{EachStand, HasStand, IsOnce, Stand, has, pages_of, table_at}
use Rattle.mg_reading.specs.declared.found.Found.{Found}
use Rattle.mg_reading.specs.declared.image.Image.{Image}
use Rattle.mg_reading.specs.declared.rows.RowCoding.{RowCoding}
use Rattle.mg_reading.specs.Codings.{coding_of}
use Rattle.mg_reading.specs.Found.{reading_of}
use Rattle.mg_reading.specs.ImageView.{pages_in}
use Rattle.mg_reading.specs.OneTable.{stands_facts, table_facts}
use Rattle.mg_reading.specs.Readable.{HasTableVersions}
use Rattle.mg_reading.specs.RecordParts.{AreVersions, HasVersions, IsStored}
use Rattle.mg_reading.specs.StandLaws.{IsAt, IsOneOf, has_back, has_of_stand, has_true, once_apart, once_back, has_data, one_of, page_of_table, restricted, stand_at, table_at_one}
use Rattle.mg_soundness.specs.Joined.{AreTested, EachTable, IsTableRead, IsTested, joined}

-- the pages of the tables alone
table_pages : (image : Image) (ss : List Stand) → EachStand (IsTested image) ss
    → EachStand (HasTablePages false image.size (pages_in image)) ss
table_pages image [] each = tt
table_pages image (s ∷ ss) each = (each.0.1, table_pages image ss each.1)

pub one_of_tables : (image : Image) (ss : List Stand) → AreTested image ss → (s : Stand)
    → HasStand ss s → IsOneOf ss s
one_of_tables image ss are s one = one_of image.size (pages_in image) ss s are.once
    (table_pages image ss are.each) one

-- a property of each table and what was read of it, where the table is one of these
pub map_tables : (P Q : Stand → List Found → Type 0) (ss : List Stand) (fs : List (List Found))
    → ((s : Stand) (found : List Found) → HasStand ss s → P s found → Q s found)
    → EachTable P ss fs → EachTable Q ss fs
map_tables P Q [] [] gives each = tt
map_tables P Q [] (f ∷ fs) gives each = each
map_tables P Q (s ∷ ss) [] gives each = each
map_tables P Q (s ∷ ss) (f ∷ fs) gives each = (
  gives s f (inl refl) each.0,
  map_tables P Q ss fs (λ t found one. gives t found (inr one)) each.1,
)

-- of each table something was read
pub find_table : (P : Stand → List Found → Type 0) (ss : List Stand) (fs : List (List Found))
    → EachTable P ss fs → (s : Stand) → HasStand ss s → (found : List Found) × P s found
find_table P [] fs each s one = absurd one
find_table P (o ∷ ss) [] each s one = absurd each
find_table P (o ∷ ss) (f ∷ fs) each s (inl is) =
    (f, subst (λ (x : Stand). P x f) (sym is) each.0)
find_table P (o ∷ ss) (f ∷ fs) each s (inr later) = find_table P ss fs each.1 s later

-- what is read of a table's places is what was read of the table
abbrev pub IsPart : Reading → Stand → List Found → Type 0
IsPart j s found = (p : RecId) → has s.data_pages p.page.0 ≡ true → j p ≡ reading_of found p

both_tables : (P Q : Stand → List Found → Type 0) (ss : List Stand) (fs : List (List Found))
    → EachTable P ss fs → EachTable Q ss fs → EachTable (λ s found. P s found × Q s found) ss fs
both_tables P Q [] [] each also = tt
both_tables P Q [] (f ∷ fs) each also = each
both_tables P Q (s ∷ ss) [] each also = each
both_tables P Q (s ∷ ss) (f ∷ fs) each also =
    ((each.0, also.0), both_tables P Q ss fs each.1 also.1)

parts : (P : Stand → List Found → Type 0) (ss : List Stand) (fs : List (List Found))
    → IsOnce (flat_map pages_of ss) → EachTable P ss fs
    → EachTable (IsPart (joined ss fs)) ss fs
parts P [] [] once each = tt
parts P [] (f ∷ fs) once each = each
parts P (s ∷ ss) [] once each = each
parts P (s ∷ ss) (f ∷ fs) once each = (
  (λ p there. rw there refl),
  map_tables (IsPart (joined ss fs)) (IsPart (joined (s ∷ ss) (f ∷ fs))) ss fs later
      (parts P ss fs (once_back (pages_of s) (flat_map pages_of ss) once) each.1),
)
  where
    later : (t : Stand) (found : List Found) → HasStand ss t → IsPart (joined ss fs) t found
        → IsPart (joined (s ∷ ss) (f ∷ fs)) t found
    later t found one part p there = at (has s.data_pages p.page.0) refl
      where
        at : (b : Bool) → has s.data_pages p.page.0 ≡ b
            → joined (s ∷ ss) (f ∷ fs) p ≡ reading_of found p
        at true e = absurd (once_apart (pages_of s) (flat_map pages_of ss) p.page.0 once
            (has_data s p.page.0 (has_back s.data_pages p.page.0 e))
            (has_of_stand ss t p.page.0 one (has_back t.data_pages p.page.0 there)))
        at false e = rw e (part p there)

-- each table's part with what else is known of it
pub parted : (P : Stand → List Found → Type 0) (ss : List Stand) (fs : List (List Found))
    → IsOnce (flat_map pages_of ss) → EachTable P ss fs
    → EachTable (λ s found. P s found × IsPart (joined ss fs) s found) ss fs
parted P ss fs once each = both_tables P (IsPart (joined ss fs)) ss fs each
    (parts P ss fs once each)

-- outside of all tables nothing is read
pub joined_outside : (ss : List Stand) (fs : List (List Found)) (p : RecId)
    → table_at ss p.page.0 ≡ None → joined ss fs p ≡ []
joined_outside [] fs p none = refl
joined_outside (s ∷ ss) [] p none = refl
joined_outside (s ∷ ss) (f ∷ fs) p none = at (has s.data_pages p.page.0) refl none
    (λ rest. joined_outside ss fs p rest)
  where
    at : (b : Bool) → has s.data_pages p.page.0 ≡ b → table_at (s ∷ ss) p.page.0 ≡ None
        → (table_at ss p.page.0 ≡ None → joined ss fs p ≡ [])
        → joined (s ∷ ss) (f ∷ fs) p ≡ []
    at true e none later = let no_ : Some s.table ≡ None = rw e at none in absurd cc
    at false e none later = rw e (later (rw e at none))

-- What is known of a place of a table.
pub record IsIn (P : Stand → List Found → Type 0) (ss : List Stand) (fs : List (List Found))
    (p : RecId) (table : Table) : Type 0 where
  pub stand : Stand
  pub one : HasStand ss stand
  pub same : stand.table ≡ table
  pub there : has stand.data_pages p.page.0 ≡ true
  pub found : List Found
  pub holds : P stand found
  pub part : IsPart (joined ss fs) stand found

pub is_in : (P : Stand → List Found → Type 0) (ss : List Stand) (fs : List (List Found))
    → IsOnce (flat_map pages_of ss) → EachTable P ss fs → (p : RecId) (table : Table)
    → table_at ss p.page.0 ≡ Some table → IsIn P ss fs p table
is_in P ss fs once each p table is = at (stand_at ss p.page.0 table is)
  where
    at : IsAt ss p.page.0 table → IsIn P ss fs p table
    at on = with (find_table (λ s found. P s found × IsPart (joined ss fs) s found) ss fs
        (parted P ss fs once each) on.stand on.one)
      where
        with : (found : List Found) × (P on.stand found × IsPart (joined ss fs) on.stand found)
            → IsIn P ss fs p table
        with (found, both) = record {
          stand = on.stand;
          one = on.one;
          same = on.same;
          there = has_true on.stand.data_pages p.page.0 on.there;
          found = found;
          holds = both.0;
          part = both.1;
        }

-- a version that is stored in a table alone is stored in it among all tables
stored_among : (coding : RowCoding) (image : Image) (ss : List Stand) (s : Stand) → IsOneOf ss s
    → (es : List Entry)
    → Each (IsStored (coding_of coding) (table_facts image s.table s.data_pages) s.table) es
    → Each (IsStored (coding_of coding) (stands_facts image ss) s.table) es
stored_among coding image ss s is [] each = tt
stored_among coding image ss s is (e ∷ es) each = (
  record {
    placed = is.mine e.at
        (page_of_table s.table s.table s.data_pages e.at.page.0 each.0.placed).1;
    format = each.0.format;
    spelled = each.0.spelled;
    storable = each.0.storable;
    erased = each.0.erased;
  },
  stored_among coding image ss s is es each.1,
)

-- and the other way
stored_alone : (coding : RowCoding) (image : Image) (ss : List Stand) (s : Stand) → IsOneOf ss s
    → (es : List Entry) → Each (IsStored (coding_of coding) (stands_facts image ss) s.table) es
    → Each (IsStored (coding_of coding) (table_facts image s.table s.data_pages) s.table) es
stored_alone coding image ss s is [] each = tt
stored_alone coding image ss s is (e ∷ es) each = (
  record {
    placed = table_at_one s.table s.data_pages e.at.page.0
        (has_back s.data_pages e.at.page.0 (is.back e.at each.0.placed));
    format = each.0.format;
    spelled = each.0.spelled;
    storable = each.0.storable;
    erased = each.0.erased;
  },
  stored_alone coding image ss s is es each.1,
)

-- the cell of a version of a table stands in one of its pages
stands_in_table : (coding : RowCoding) (image : Image) (s : Stand) (es : List Entry) (x : RecId)
    → Each (IsStored (coding_of coding) (table_facts image s.table s.data_pages) s.table) es
    → Stands es x → has s.data_pages x.page.0 ≡ true
stands_in_table coding image s [] x each there = absurd there
stands_in_table coding image s (e ∷ es) x each (inl is) =
    subst (λ (y : RecId). has s.data_pages y.page.0 ≡ true) is
    (page_of_table s.table s.table s.data_pages e.at.page.0 each.0.placed).1
stands_in_table coding image s (e ∷ es) x each (inr later) =
    stands_in_table coding image s es x each.1 later

one_table : (t u : Table) → Some t ≡ Some u → t ≡ u
one_table t u same = cc

-- a place of the same table is one of the same pages
also_in : (ss : List Stand) (s : Stand) → IsOneOf ss s → (q : RecId) (t : Table)
    → table_at ss q.page.0 ≡ Some t → s.table ≡ t → has s.data_pages q.page.0 ≡ true
also_in ss s is q t at_q same = is.back q (at_q ∙ ap Some (sym same))

-- the records of all tables have their versions
pub join_versions : (coding : RowCoding) (image : Image) (ss : List Stand)
    (fs : List (List Found)) → AreTested image ss
    → EachTable (IsTableRead coding image) ss fs
    → HasVersions (coding_of coding) (stands_facts image ss) (cells_of (pages_in image))
    (joined ss fs)
join_versions coding image ss fs are read = record {
  reads = λ p t is. reads p t (is_in (IsTableRead coding image) ss fs are.once read p t is);
  outside = λ p none. joined_outside ss fs p none;
  each = λ p t is. each p t (is_in (IsTableRead coding image) ss fs are.once read p t is);
  apart = λ p q x i j. apart p q x i j (table_at ss p.page.0) (table_at ss q.page.0) refl refl;
}
  where
    reads : (p : RecId) (t : Table) → IsIn (IsTableRead coding image) ss fs p t
        → Chain (cells_of (pages_in image)) (newest_of p (cells_of (pages_in image) p))
        (joined ss fs p)
    reads p t on = rw (on.part p on.there) (on.holds.versions.reads p on.stand.table
        (table_at_one on.stand.table on.stand.data_pages p.page.0
        (has_back on.stand.data_pages p.page.0 on.there)))

    versions : (p : RecId) (t : Table) (on : IsIn (IsTableRead coding image) ss fs p t)
        → AreVersions (coding_of coding)
        (table_facts image on.stand.table on.stand.data_pages) on.stand.table
        (reading_of on.found p)
    versions p t on = on.holds.versions.each p on.stand.table
        (table_at_one on.stand.table on.stand.data_pages p.page.0
        (has_back on.stand.data_pages p.page.0 on.there))

    each : (p : RecId) (t : Table) → IsIn (IsTableRead coding image) ss fs p t
        → AreVersions (coding_of coding) (stands_facts image ss) t (joined ss fs p)
    each p t on = subst (λ (x : Table). AreVersions (coding_of coding) (stands_facts image ss) x
        (joined ss fs p)) on.same (rw (on.part p on.there) (record {
          once = (versions p t on).once;
          each = stored_among coding image ss on.stand (one_of_tables image ss are on.stand on.one)
              (reading_of on.found p) (versions p t on).each;
        }))

    both : (p q x : RecId) (t u : Table) → IsIn (IsTableRead coding image) ss fs p t
        → IsIn (IsTableRead coding image) ss fs q u → Stands (joined ss fs p) x
        → Stands (joined ss fs q) x → p ≡ q
    both p q x t u on as_ i j =
        let i_read = rw (on.part p on.there) at i in
        let j_read = rw (as_.part q as_.there) at j in
        let first = stands_in_table coding image on.stand (reading_of on.found p) x
        (versions p t on).each i_read in
        let second = stands_in_table coding image as_.stand (reading_of as_.found q) x
        (versions q u as_).each j_read in
        let is = one_of_tables image ss are on.stand on.one in
        let also = one_of_tables image ss are as_.stand as_.one in
        let same : on.stand.table ≡ as_.stand.table = one_table on.stand.table as_.stand.table
        (sym (is.mine x first) ∙ also.mine x second) in
        let there = also_in ss on.stand is q as_.stand.table (also.mine q as_.there) same in
        on.holds.versions.apart p q x i_read (rw (on.part q there) at j)

    apart : (p q x : RecId) → Stands (joined ss fs p) x → Stands (joined ss fs q) x
        → (t u : Option Table) → table_at ss p.page.0 ≡ t → table_at ss q.page.0 ≡ u → p ≡ q
    apart p q x i j None u at_p at_q =
        let no_ : ⊥ = rw (joined_outside ss fs p at_p) at i in absurd no_
    apart p q x i j (Some t) None at_p at_q =
        let no_ : ⊥ = rw (joined_outside ss fs q at_q) at j in absurd no_
    apart p q x i j (Some t) (Some u) at_p at_q = both p q x t u
        (is_in (IsTableRead coding image) ss fs are.once read p t at_p)
        (is_in (IsTableRead coding image) ss fs are.once read q u at_q) i j

-- the records of one table have their versions, where those of all have
pub alone : (coding : RowCoding) (image : Image) (ss : List Stand) (r : Reading) (s : Stand)
    → IsOneOf ss s
    → HasVersions (coding_of coding) (stands_facts image ss) (cells_of (pages_in image)) r
    → HasTableVersions coding image s.table s.data_pages (restricted s.data_pages r)
alone coding image ss r s is are = record {
  reads = λ p t at_p. let known = page_of_table s.table t s.data_pages p.page.0 at_p in
      rw known.1 (are.reads p s.table (is.mine p known.1));
  outside = λ p none. outside p none (has s.data_pages p.page.0) refl;
  each = λ p t at_p. let known = page_of_table s.table t s.data_pages p.page.0 at_p in
      rw (known.0, known.1) (record {
        once = (are.each p s.table (is.mine p known.1)).once;
        each = stored_alone coding image ss s is (r p) (are.each p s.table (is.mine p known.1)).each;
      });
  apart = λ p q x i j. are.apart p q x (whole p x i (has s.data_pages p.page.0) refl)
      (whole q x j (has s.data_pages q.page.0) refl);
}
  where
    outside : (p : RecId) → table_in (table_facts image s.table s.data_pages) p ≡ None
        → (b : Bool) → has s.data_pages p.page.0 ≡ b → restricted s.data_pages r p ≡ []
    outside p none true e =
        let some = table_at_one s.table s.data_pages p.page.0 (has_back s.data_pages p.page.0 e) in
        absurd cc
    outside p none false e = rw e refl

    whole : (p x : RecId) → Stands (restricted s.data_pages r p) x → (b : Bool)
        → has s.data_pages p.page.0 ≡ b → Stands (r p) x
    whole p x stands true e = rw e at stands
    whole p x stands false e = let no_ : ⊥ = rw e at stands in absurd no_

-- there is one reading of all tables
pub joined_only : (coding : RowCoding) (image : Image) (ss : List Stand)
    (fs : List (List Found)) → AreTested image ss
    → EachTable (IsTableRead coding image) ss fs → (other : Reading)
    → HasVersions (coding_of coding) (stands_facts image ss) (cells_of (pages_in image)) other
    → (p : RecId) → other p ≡ joined ss fs p
joined_only coding image ss fs are read other has_ p = at (table_at ss p.page.0) refl
  where
    on : (t : Table) → IsIn (IsTableRead coding image) ss fs p t → other p ≡ joined ss fs p
    on t in_ =
        let same = in_.holds.only (restricted in_.stand.data_pages other)
        (alone coding image ss other in_.stand (one_of_tables image ss are in_.stand in_.one) has_)
        p in
        (rw in_.there at same) ∙ sym (in_.part p in_.there)

    at : (t : Option Table) → table_at ss p.page.0 ≡ t → other p ≡ joined ss fs p
    at None none = has_.outside p none ∙ sym (joined_outside ss fs p none)
    at (Some t) some = on t (is_in (IsTableRead coding image) ss fs are.once read p t some)
