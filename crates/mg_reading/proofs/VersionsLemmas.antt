-- The versions of a record as they are read one after another.
use Rattle.std.proofs.Common.{◌≡◌, ◌⊎◌, inl, inr, ◌∙◌, ap, refl, sym, subst, ℕ, List, [], ◌∷◌, ◌++◌, append_assoc, append-nil, Option, None, Some}
use Rattle.mg_base.specs.declared.numbers.RecId.{RecId}
use Rattle.mg_model.specs.declared.table.Table.{Table}
use Rattle.mg_version.specs.declared.cell.Link.{Link}
use Rattle.mg_image.specs.declared.entry.Entry.{Entry}
use Rattle.mg_image.specs.Form.{packed_coding, plain_coding}
use Rattle.mg_image.specs.ReadingLaws.{Opens, RowsAreOne, chain_opens}
use Rattle.mg_image.specs.RecordRules.{AreOnce, Each}
use Rattle.mg_image.specs.Records.{Chain, Stands, cells_of}
use Rattle.mg_reading.specs.declared.image.Image.{Image}
use Rattle.mg_reading.specs.declared.rows.RowCoding.{RowCoding}
use Rattle.mg_reading.specs.ImageView.{pages_in}
use Rattle.mg_reading.specs.OneTable.{IsLinked, IsPlaced, IsStoredIn}
use Rattle.mg_reading.specs.Readable.{HasEntry, HasRecord, IsOnlyRecord, IsRecordFrom}
use Rattle.mg_reading.specs.RunLaws.{IsVersionRun, each_version_push, version_run_more, version_run_none}
use Rattle.mg_reading.proofs.OneVersionLemmas.{same_stored}
use Rattle.mg_reading.proofs.RecordLemmas.{stands_push}

-- What the loop over the versions of a record keeps: those read are stored in the table, and any
-- record begins with them.
pub record IsReading (coding : RowCoding) (image : Image) (table : Table) (ns : List ℕ)
    (newest : Option Link) (es : List Entry) (next : Option Link) : Type 0 where
  pub run : IsVersionRun (cells_of (pages_in image)) newest es next
  pub stored : Each (IsStoredIn coding image table ns) es
  pub once : AreOnce es
  pub placed : Each IsPlaced es
  pub begins : (all : List Entry) → IsRecordFrom coding image table ns newest all
      → (rest : List Entry) × (all ≡ es ++ rest) × Chain (cells_of (pages_in image)) next rest

pub reading_none : (coding : RowCoding) (image : Image) (table : Table) (ns : List ℕ)
    (newest : Option Link) → IsReading coding image table ns newest [] newest
reading_none coding image table ns newest = record {
  run = version_run_none (cells_of (pages_in image)) newest;
  stored = tt;
  once = tt;
  placed = tt;
  begins = λ all is. (all, refl, is.chain);
}

once_push : (es : List Entry) (e : Entry) → AreOnce es → (Stands es e.at → ⊥)
    → AreOnce (es ++ e ∷ [])
once_push [] e once none = (λ stands. stands, tt)
once_push (d ∷ es) e once none = (
  λ stands. at (stands_push es e d.at stands),
  once_push es e once.1 (λ later. none (inr later)),
)
  where
    at : Stands es d.at ⊎ (e.at ≡ d.at) → ⊥
    at (inl later) = once.0 later
    at (inr same) = none (inl (sym same))

each_in : (P : Entry → Type 0) (es : List Entry) (d : Entry) (more : List Entry)
    → Each P (es ++ d ∷ more) → P d
each_in P [] d more each = each.0
each_in P (e ∷ es) d more each = each_in P es d more each.1

-- what the version that a link leads to is in a record
record IsNext (coding : RowCoding) (image : Image) (table : Table) (ns : List ℕ) (l : Link)
    (all es : List Entry) : Type 0 where
  d : Entry
  more : List Entry
  whole : all ≡ es ++ d ∷ more
  linked : IsLinked image l d
  stored : IsStoredIn coding image table ns d
  chain : Chain (cells_of (pages_in image)) d.version.back more

next_of_record : (coding : RowCoding) (image : Image) (table : Table) (ns : List ℕ)
    (newest : Option Link) (es : List Entry) (l : Link)
    → IsReading coding image table ns newest es (Some l) → (all : List Entry)
    → IsRecordFrom coding image table ns newest all → IsNext coding image table ns l all es
next_of_record coding image table ns newest es l read all is =
    let begun = read.begins all is in
    at begun.0 begun.1 (chain_opens (cells_of (pages_in image)) (Some l) begun.0 begun.2)
  where
    at : (rest : List Entry) → all ≡ es ++ rest
        → Opens (cells_of (pages_in image)) (Some l) rest
        → IsNext coding image table ns l all es
    at [] whole opens = absurd opens
    at (e ∷ rest) whole opens = record {
      d = e;
      more = rest;
      whole = whole;
      linked = record { at = opens.0; cell = opens.1; tx = opens.2 };
      stored = each_in (IsStoredIn coding image table ns) es e rest
          (subst (Each (IsStoredIn coding image table ns)) whole is.versions.each);
      chain = opens.3;
    }

-- one version more
pub reading_more : (coding : RowCoding) → RowsAreOne plain_coding → RowsAreOne packed_coding
    → (image : Image) (table : Table) (ns : List ℕ) (newest : Option Link) (es : List Entry)
    (l : Link) (e : Entry) → IsReading coding image table ns newest es (Some l)
    → (Stands es l.rec → ⊥) → IsLinked image l e → IsStoredIn coding image table ns e
    → IsPlaced e → IsReading coding image table ns newest (es ++ e ∷ []) e.version.back
reading_more coding plain packed image table ns newest es l e read none linked stored placed =
    record {
      run = version_run_more (cells_of (pages_in image)) newest es l e read.run linked.at
          linked.cell linked.tx;
      stored = each_version_push (IsStoredIn coding image table ns) es e read.stored stored;
      once = once_push es e read.once (λ stands. none (rw linked.at at stands));
      placed = each_version_push IsPlaced es e read.placed placed;
      begins = λ all is.
          goes_on all (next_of_record coding image table ns newest es l read all is);
    }
  where
    goes_on : (all : List Entry) → IsNext coding image table ns l all es
        → (rest : List Entry) × (all ≡ (es ++ e ∷ []) ++ rest)
        × Chain (cells_of (pages_in image)) e.version.back rest
    goes_on all next =
        let same : next.d ≡ e = same_stored coding plain packed image table ns l next.d e
        next.linked linked next.stored stored in (
          next.more,
          next.whole ∙ (ap (λ (x : Entry). es ++ x ∷ next.more) same
              ∙ sym (append_assoc es (e ∷ []) next.more)),
          subst (λ (x : Entry). Chain (cells_of (pages_in image)) x.version.back next.more) same
              next.chain,
        )

stands_mid : (es : List Entry) (d : Entry) (more : List Entry) (x : RecId) → d.at ≡ x
    → Stands (es ++ d ∷ more) x
stands_mid [] d more x same = inl same
stands_mid (e ∷ es) d more x same = inr (stands_mid es d more x same)

once_apart : (es : List Entry) (d : Entry) (more : List Entry) → AreOnce (es ++ d ∷ more)
    → Stands es d.at → ⊥
once_apart [] d more once stands = stands
once_apart (e ∷ es) d more once (inl same) = once.0 (stands_mid es d more e.at (sym same))
once_apart (e ∷ es) d more once (inr later) = once_apart es d more once.1 later

-- where a link comes back to a cell, there is no record
pub reading_twice : (coding : RowCoding) (image : Image) (table : Table) (ns : List ℕ)
    (newest : Option Link) (es : List Entry) (l : Link)
    → IsReading coding image table ns newest es (Some l) → Stands es l.rec
    → HasRecord coding image table ns newest → ⊥
reading_twice coding image table ns newest es l read stands (all, is) =
    let next = next_of_record coding image table ns newest es l read all is in
    once_apart es next.d next.more (subst AreOnce next.whole is.versions.once)
    (rw next.linked.at stands)

-- a record has a version of the table where the link leads
pub reading_entry : (coding : RowCoding) (image : Image) (table : Table) (ns : List ℕ)
    (newest : Option Link) (es : List Entry) (l : Link)
    → IsReading coding image table ns newest es (Some l)
    → HasRecord coding image table ns newest → HasEntry coding image table ns l
reading_entry coding image table ns newest es l read (all, is) =
    let next = next_of_record coding image table ns newest es l read all is in
    (next.d, next.linked, next.stored)

-- at the end the versions are the only ones
pub reading_only : (coding : RowCoding) (image : Image) (table : Table) (ns : List ℕ)
    (newest : Option Link) (es : List Entry) (next : Option Link)
    → IsReading coding image table ns newest es next → next ≡ None
    → IsOnlyRecord coding image table ns newest es
reading_only coding image table ns newest es next read none others is =
    let begun = read.begins others is in
    at begun.0 begun.1 (chain_opens (cells_of (pages_in image)) None begun.0
    (rw none at begun.2))
  where
    at : (rest : List Entry) → others ≡ es ++ rest
        → Opens (cells_of (pages_in image)) None rest → others ≡ es
    at [] whole opens = rw append-nil at whole
    at (e ∷ rest) whole opens = absurd opens
