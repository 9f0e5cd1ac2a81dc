-- What is found of a record is what every reading has of it.
use Rattle.std.proofs.Common.{◌≡◌, ◌∙◌, ℕ, Bool, true, false, List, [], ◌∷◌, Option, None, Some, refl, sym, ap, subst, cond}
use Rattle.std.specs.Prelude.{◌↔◌}
use Rattle.mg_base.specs.declared.numbers.RecId.{RecId}
use Rattle.mg_base.specs.declared.transaction.TxState.{TxState}
use Rattle.mg_chain.specs.Chains.{newest_link}
use Rattle.mg_chain.specs.Views.{first_entry}
use Rattle.mg_image.specs.Form.{Pages, Row, packed_coding}
use Rattle.mg_image.specs.ReadingLaws.{RowsAreOne}
use Rattle.mg_image.specs.RecordRules.{Each, Facts, IsVersion}
use Rattle.mg_image.specs.Records.{Cells, Chain, Reading, cells_of, ended, goes, key_of, record_key, shown, writer}
use Rattle.mg_image.specs.declared.entry.Entry.{Entry}
use Rattle.mg_model.specs.declared.table.Table.{Table}
use Rattle.mg_snap.specs.Live.{State}
use Rattle.mg_value.specs.declared.value.Value.{Value}
use Rattle.mg_version.specs.declared.cell.Cell.TheVariants as cells
use Rattle.mg_version.specs.declared.cell.Link.{Link}
use Rattle.mg_version.specs.declared.cell.Version.{Version}
use Rattle.mg_seek.specs.declared.walk.Placed.{Placed}
use Rattle.mg_seek.specs.declared.whose.Wanted.TheVariants.{Any, Living, SeenBy}
use Rattle.mg_seek.specs.Readings.{IsReadAt, KeysOfReadings, ObstaclesOfReadings, PlacesOfReadings, RowsOfReadings, SpeakIn, SpeakersOfReadings, key_in, obstacle_by, placed_if}
use Rattle.mg_seek.specs.Rows.{GivesRow, IsKeyFound, IsRowFound, IsRowOr}
use Rattle.mg_seek.specs.Speaking.{Speaks, is_erased_for_all}
use Rattle.mg_seek.specs.Versions.{FirstAt, is_it, is_older, placed, stops, wants}
use Rattle.mg_seek.specs.Views.{IsObstacle, IsRowSeen, obstacle_in, obstacle_of}
use Rattle.mg_seek.specs.RecordLaws.{first_once, row_once}

-- ---- the first version

-- the versions of every reading are found so
found_in : (h : Cells) (takes : ℕ → Bool) (link : Option Link) (es : List Entry) → Chain h link es
    → FirstAt h takes link (placed_if (first_entry takes es))
found_in h takes link es ended = stops
found_in h takes link es (goes l e rest at cell by more) =
    step (takes (writer e)) refl (found_in h takes e.version.back rest more)
  where
    its : h l.rec ≡ Some (cells.Version e.version)
    its = ap h (sym at) ∙ cell

    place : Some (placed l.rec e.version) ≡ Some (placed e.at e.version)
    place = ap (λ (x : RecId). Some (placed x e.version)) (sym at)

    step : (b : Bool) → takes (writer e) ≡ b
        → FirstAt h takes e.version.back (placed_if (first_entry takes rest))
        → FirstAt h takes (Some l) (placed_if (cond b (Some e) (first_entry takes rest)))
    step true taken later = subst (λ (x : Option Placed). FirstAt h takes (Some l) x) place
        (is_it l e.version (record { cell = its; by = by }) taken)
    step false other later = is_older l e.version (placed_if (first_entry takes rest))
        (record { cell = its; by = by }) other later

pub places_of_readings : PlacesOfReadings
places_of_readings h takes link found es first chain =
    first_once h takes link found (placed_if (first_entry takes es)) first (found_in h takes link es chain)

-- ---- rows

each_first : (P : Entry → Type 0) (takes : ℕ → Bool) (es : List Entry) (e : Entry) → Each P es
    → first_entry takes es ≡ Some e → P e
each_first P takes [] e each is = absurd cc
each_first P takes (d ∷ es) e each is = at (takes (writer d)) is (each_first P takes es e each.1)
  where
    at : (b : Bool) → cond b (Some d) (first_entry takes es) ≡ Some e
        → (first_entry takes es ≡ Some e → P e) → P e
    at true first later = let same : d ≡ e = cc in subst P same each.0
    at false first later = later first

some_placed : (found : Option Entry) (p : Placed) → placed_if found ≡ Some p
    → (e : Entry) × (found ≡ Some e) × (placed e.at e.version ≡ p)
some_placed None p is = absurd cc
some_placed (Some e) p is = let same : placed e.at e.version ≡ p = cc in (e, refl, same)

none_placed : (found : Option Entry) → placed_if found ≡ None → found ≡ None
none_placed None is = refl
none_placed (Some e) is = absurd cc

-- what versions show is the row that the first of them gives that counts
shown_first : (takes : ℕ → Bool) (es : List Entry) (e : Entry) → first_entry takes es ≡ Some e
    → shown takes es ≡ cond e.version.deleted None (Some e.row)
shown_first takes [] e is = absurd cc
shown_first takes (d ∷ es) e is = at (takes (writer d)) is (shown_first takes es e)
  where
    at : (b : Bool) → cond b (Some d) (first_entry takes es) ≡ Some e
        → (first_entry takes es ≡ Some e → shown takes es ≡ cond e.version.deleted None (Some e.row))
        → cond b (cond d.version.deleted None (Some d.row)) (shown takes es)
        ≡ cond e.version.deleted None (Some e.row)
    at true first later =
        let same : d ≡ e = cc in ap (λ (x : Entry). cond x.version.deleted None (Some x.row)) same
    at false first later = later first

shown_none : (takes : ℕ → Bool) (es : List Entry) → first_entry takes es ≡ None
    → shown takes es ≡ None
shown_none takes [] is = refl
shown_none takes (d ∷ es) is = at (takes (writer d)) is (shown_none takes es)
  where
    at : (b : Bool) → cond b (Some d) (first_entry takes es) ≡ None
        → (first_entry takes es ≡ None → shown takes es ≡ None)
        → cond b (cond d.version.deleted None (Some d.row)) (shown takes es) ≡ None
    at true first later = absurd cc
    at false first later = later first

module _ (one : RowsAreOne packed_coding) (view : Pages) (table : Table) (rec : RecId) (f : Facts)
    (r : Reading) (read : IsReadAt view f r table rec) where
  chain_read : Chain (cells_of view) (newest_link view rec) (r rec)
  chain_read = read.lawful.reads rec table read.of_table

  gives_read : (takes : ℕ → Bool) (e : Entry) → first_entry takes (r rec) ≡ Some e
      → GivesRow table e.version e.row
  gives_read takes e is =
      let its = each_first (IsVersion packed_coding f table (record_key table (r rec))) takes (r rec) e
      (read.lawful.each rec table read.of_table).each is in
      record { coded = its.spelled; storable = its.storable }

  keyed_read : (takes : ℕ → Bool) (e : Entry) → first_entry takes (r rec) ≡ Some e
      → key_of table e.row ≡ record_key table (r rec)
  keyed_read takes e is =
      (each_first (IsVersion packed_coding f table (record_key table (r rec))) takes (r rec) e
      (read.lawful.each rec table read.of_table).each is).keyed

  places : (takes : ℕ → Bool) (found : Option Placed)
      → FirstAt (cells_of view) takes (newest_link view rec) found
      → placed_if (first_entry takes (r rec)) ≡ found
  places takes found first = sym (places_of_readings (cells_of view) takes (newest_link view rec) found
      (r rec) first chain_read)

  same_row_given : (v w : Version) (a b : Row) → v ≡ w → GivesRow table v a → GivesRow table w b
      → a ≡ b
  same_row_given v w a b same first second =
      row_once one table w a b (subst (λ (x : Version). GivesRow table x a) same first) second

  row_of_first : (takes : ℕ → Bool) (found : Option Placed) (row : Option Row)
      → FirstAt (cells_of view) takes (newest_link view rec) found → IsRowFound table found row
      → row ≡ shown takes (r rec)
  row_of_first takes None row first gives = gives
      ∙ sym (shown_none takes (r rec) (none_placed (first_entry takes (r rec)) (places takes None first)))
  row_of_first takes (Some p) row first gives =
      at (some_placed (first_entry takes (r rec)) p (places takes (Some p) first))
    where
      given : (e : Entry) → first_entry takes (r rec) ≡ Some e → placed e.at e.version ≡ p → (b : Bool)
          → p.version.deleted ≡ b → IsRowOr b table p.version row
          → row ≡ cond e.version.deleted None (Some e.row)
      given e is same true erased none_ = none_ ∙ ap (λ (b : Bool). cond b None (Some e.row))
          (sym (ap (λ (x : Placed). x.version.deleted) same ∙ erased))
      given e is same false alive (its, some, coded) = some
          ∙ ap (λ (x : Row). Some x) (same_row_given p.version e.version its e.row
          (sym (ap (λ (x : Placed). x.version) same)) coded (gives_read takes e is))
          ∙ ap (λ (b : Bool). cond b None (Some e.row))
          (sym (ap (λ (x : Placed). x.version.deleted) same ∙ alive))

      at : (e : Entry) × (first_entry takes (r rec) ≡ Some e) × (placed e.at e.version ≡ p)
          → row ≡ shown takes (r rec)
      at (e, is, same) = given e is same p.version.deleted refl gives
          ∙ sym (shown_first takes (r rec) e is)

  speaks_read : (state : ℕ → TxState) (live : State) (key : Value)
      → Speaks state live view table key rec ↔ SpeakIn state live table key (r rec)
  speaks_read state live key = (there, back)
    where
      there : Speaks state live view table key rec → SpeakIn state live table key (r rec)
      there speaks = at (some_placed (first_entry (wants state live Living) (r rec)) speaks.newest
          (places (wants state live Living) (Some speaks.newest) speaks.living))
        where
          at : (e : Entry) × (first_entry (wants state live Living) (r rec) ≡ Some e)
              × (placed e.at e.version ≡ speaks.newest) → SpeakIn state live table key (r rec)
          at (e, is, same) =
              let version : speaks.newest.version ≡ e.version =
              sym (ap (λ (x : Placed). x.version) same) in
              record {
                newest = e;
                first = is;
                stays = subst (λ (v : Version). is_erased_for_all state live v ≡ false) version
                    speaks.stays;
                keyed = sym (keyed_read (wants state live Living) e is)
                    ∙ ap (key_of table) (sym (same_row_given speaks.newest.version e.version speaks.row
                    e.row version speaks.given (gives_read (wants state live Living) e is)))
                    ∙ speaks.keyed;
              }

      back : SpeakIn state live table key (r rec) → Speaks state live view table key rec
      back speak = record {
        newest = placed speak.newest.at speak.newest.version;
        living = subst (λ (x : Option Placed).
            FirstAt (cells_of view) (wants state live Living) (newest_link view rec) x)
            (ap placed_if speak.first)
            (found_in (cells_of view) (wants state live Living) (newest_link view rec) (r rec) chain_read);
        stays = speak.stays;
        row = speak.newest.row;
        given = gives_read (wants state live Living) speak.newest speak.first;
        keyed = keyed_read (wants state live Living) speak.newest speak.first ∙ speak.keyed;
      }

  key_of_first : (state : ℕ → TxState) (live : State) (found : Option Placed) (key : Option Value)
      → FirstAt (cells_of view) (wants state live Any) (newest_link view rec) found
      → IsKeyFound table found key → key ≡ key_in table (r rec)
  key_of_first state live None key first gives = gives ∙ at (r rec) refl
      (none_placed (first_entry (wants state live Any) (r rec)) (places (wants state live Any) None first))
    where
      at : (es : List Entry) → r rec ≡ es → first_entry (wants state live Any) es ≡ None
          → None ≡ key_in table es
      at [] is none = refl
      at (e ∷ es) is none = absurd cc
  key_of_first state live (Some p) key first gives =
      at (some_placed (first_entry (wants state live Any) (r rec)) p
      (places (wants state live Any) (Some p) first))
    where
      whole : (es : List Entry) (e : Entry) → first_entry (wants state live Any) es ≡ Some e
          → Some (record_key table es) ≡ key_in table es
      whole [] e is = absurd cc
      whole (d ∷ es) e is = refl

      at : (e : Entry) × (first_entry (wants state live Any) (r rec) ≡ Some e)
          × (placed e.at e.version ≡ p) → key ≡ key_in table (r rec)
      at (e, is, same) = gives.2
          ∙ ap (λ (x : Row). Some (key_of table x)) (same_row_given p.version e.version gives.0 e.row
          (sym (ap (λ (x : Placed). x.version) same)) gives.1 (gives_read (wants state live Any) e is))
          ∙ ap (λ (v : Value). Some v) (keyed_read (wants state live Any) e is)
          ∙ whole (r rec) e is

pub keys_of_readings : RowsAreOne packed_coding → KeysOfReadings
keys_of_readings one state live view table rec key f r read is =
    key_of_first one view table rec f r read state live is.newest key is.first is.gives

pub rows_of_readings : RowsAreOne packed_coding → RowsOfReadings
rows_of_readings one state live t view table rec row f r read seen =
    row_of_first one view table rec f r read (wants state live (SeenBy t)) seen.found row seen.first
    seen.gives

pub speakers_of_readings : RowsAreOne packed_coding → SpeakersOfReadings
speakers_of_readings one state live view table key rec f r read =
    speaks_read one view table rec f r read state live key

obstacle_same : (state : ℕ → TxState) (live : State) (t : ℕ) (found : Option Entry)
    → obstacle_in state live t (placed_if found) ≡ obstacle_by state live t found
obstacle_same state live t None = refl
obstacle_same state live t (Some e) = refl

pub obstacles_of_readings : RowsAreOne packed_coding → ObstaclesOfReadings
obstacles_of_readings one state live t view table rec obstacle f r read is = is.is
    ∙ ap (obstacle_in state live t) (sym (places one view table rec f r read (wants state live Living)
    is.newest is.first))
    ∙ obstacle_same state live t (first_entry (wants state live Living) (r rec))
