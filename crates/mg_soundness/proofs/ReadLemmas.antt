-- What the loop over the tables needs.
use Rattle.std.proofs.Common.{◌≡◌, inl, List, [], ◌∷◌, ◌++◌, append-nil, append_assoc, length, arith}
use Rattle.mg_image.specs.Tables.{HasStand, Layout, Stand, stands_of}
use Rattle.mg_layout.specs.declared.standing.TableStand.{TableStand}
use Rattle.mg_layout.specs.Standing.{stand_in, stands_in}
use Rattle.mg_reading.specs.declared.found.Found.{Found}
use Rattle.mg_reading.specs.declared.image.Image.{Image}
use Rattle.mg_reading.specs.declared.rows.RowCoding.{RowCoding}
use Rattle.mg_reading.specs.Readable.{HasVersionReading}
use Rattle.mg_reading.specs.StandLaws.{each_stand, restricted}
use Rattle.mg_soundness.specs.declared.records.TableRecords.{TableRecords}
use Rattle.mg_soundness.specs.Joined.{AreTested, EachTable, IsTested, founds_in}
use Rattle.mg_soundness.specs.Rungs.{HasReadingOf, MeetsLinks}
use Rattle.mg_soundness.proofs.JoinLemmas.{alone, one_of_tables}

-- where all records have their versions, those of each table have
pub table_reading : (coding : RowCoding) (image : Image) (layout : Layout)
    → AreTested image (stands_of layout) → (s : Stand) → HasStand (stands_of layout) s
    → HasReadingOf MeetsLinks coding image layout
    → HasVersionReading coding image s.table s.data_pages
table_reading coding image layout are s one (r, links) = (
  restricted s.data_pages r,
  alone coding image (stands_of layout) r s
      (one_of_tables image (stands_of layout) are s one) links,
)

pub tested_one : (image : Image) (ss : List Stand) → AreTested image ss → (s : Stand)
    → HasStand ss s → IsTested image s
tested_one image ss are s one = each_stand (IsTested image) ss s are.each one

founds_push : (records : List TableRecords) (r : TableRecords)
    → founds_in (records ++ r ∷ []) ≡ founds_in records ++ r.found.items ∷ []
founds_push [] r = λ i. r.found.items ∷ []
founds_push (o ∷ records) r = λ i. o.found.items ∷ founds_push records r i

-- one table more was read
pub read_more : (P : Stand → List Found → Type 0) (all rest : List Stand) (s : Stand)
    (records new : List TableRecords) (r : TableRecords) → P s r.found.items
    → new ≡ records ++ r ∷ []
    → ((more : List (List Found)) → EachTable P (s ∷ rest) more
    → EachTable P all (founds_in records ++ more))
    → (more : List (List Found)) → EachTable P rest more
    → EachTable P all (founds_in new ++ more)
read_more P all rest s records new r is pushed whole more each =
    rw (pushed, founds_push records r, append_assoc (founds_in records) (r.found.items ∷ []) more)
    (whole (r.found.items ∷ more) (is, each))

-- at the end all were read
pub read_all : (P : Stand → List Found → Type 0) (all rest : List Stand)
    (records : List TableRecords) → rest ≡ []
    → ((more : List (List Found)) → EachTable P rest more
    → EachTable P all (founds_in records ++ more))
    → EachTable P all (founds_in records)
read_all P all rest records none whole =
    rw append-nil at (whole [] (rw none tt))

-- no table is left
pub none_left : (stands : List TableStand) → length stands ≡ 0 → stands_in stands ≡ []
none_left [] none = λ i. []
none_left (s ∷ stands) none = absurd (omega arith)

-- the first of these tables is one of them
pub among_first : (rest : List TableStand) (s : TableStand) (later : List TableStand)
    → rest ≡ s ∷ later → HasStand (stands_in rest) (stand_in s)
among_first rest s later is = rw is (inl (λ i. stand_in s))
