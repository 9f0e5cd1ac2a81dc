-- Parts of a batch, one after another; a page with room; a record with its first version.
use Rattle.std.specs.Prelude.{◌≡◌, ◌++◌, ℕ, Bool, true, List, [], ◌∷◌, None}
use Rattle.std.proofs.Common.{inl, inr, sym, subst, ap, ◌∙◌}
use Rattle.std.proofs.lemmas.Bool.{both_ways}
use Rattle.mg_base.specs.Image.{Image}
use Rattle.mg_base.specs.declared.numbers.PageNo.{PageNo}
use Rattle.mg_base.specs.declared.numbers.RecId.{RecId}
use Rattle.mg_base.specs.declared.numbers.TxNo.{TxNo}
use Rattle.mg_careful.specs.Precedence.{Orders}
use Rattle.mg_careful.specs.declared.links.Demand.{Demand}
use Rattle.mg_careful.specs.declared.graph.Order.{Order}
use Rattle.mg_careful.specs.CarefulWrite.{DemandSet, Has, IsIn, either, listed}
use Rattle.mg_chain.specs.Writing.{GivesSpot, MakesRecord, Pushes}
use Rattle.mg_heap.specs.Apart.{need_with_anchor}
use Rattle.mg_heap.specs.Growth.{AddsOrders}
use Rattle.mg_heap.specs.Room.{GivesRoom}
use Rattle.mg_image.specs.Form.{Pages}
use Rattle.mg_image.specs.Records.{cells_of}
use Rattle.mg_pool.specs.Batch.{Changed}
use Rattle.mg_pool.specs.declared.pool.Pool.{Pool}
use Rattle.mg_slots.specs.Room.{need_of}
use Rattle.mg_space.specs.View.{viewed}
use Rattle.mg_space.specs.declared.links.TheConstants.{HEADER, NEXT, POINTER, VERSION}
use Rattle.mg_version.specs.declared.cell.TheConstants.{ANCHOR_LEN}
use Rattle.mg_version.specs.declared.cell.Version.{Version}
use Rattle.mg_demand_laws.specs.Met.{has_either, has_front, of_listed}
use Rattle.mg_demand_laws.specs.Wanting.{Pays, want_of}
use Rattle.mg_demand_laws.specs.WantingLaws.{either_cases, in_one, two_listed}
use Rattle.mg_demand_laws.specs.CellTies.{KnowsWrite, first_orderly, first_pays, push_orderly, push_pay, push_wants, write_wants}
use Rattle.mg_demand_laws.specs.GrowthTies.{room_data, room_pays, room_versions, room_wants, same_pays}
use Rattle.mg_demand_laws.specs.Lists.{HaveOrders, viewed_same}
use Rattle.mg_demand_laws.specs.OrderlyTies.{in_parts, orderly_less, room_orderly}
use Rattle.mg_demand_laws.specs.TableTies.{tables_are_wanted}
use Rattle.mg_demand_laws.specs.Wants.{AreOrderly, IsDataOf, WantsTable}
use Rattle.mg_demand_laws.specs.Chained.{IsChained}
use Rattle.mg_demand_laws.specs.ChainedLaws.{chained_within}
use Rattle.mg_demand_laws.specs.RoomChains.{room_chained}
use Rattle.mg_demand_laws.specs.WriteChains.{chained_both, first_chained, push_chained}
use Rattle.mg_demand_laws.specs.Parts.{KnowsTable, PaysPart, PaysRoom}

-- a table's page with room is found, or the table grows
abbrev pub RoomPays : (D L : Type 0) → Type 0
RoomPays D L = (store : Pool D L) (image : Image) (old new : Changed) (owner t need : ℕ) (n : PageNo) (orders : Orders)
    (settled : ℕ → Bool) (on_disk wanted : DemandSet) → KnowsTable store image old owner t settled on_disk wanted
    → GivesRoom store image old new owner need n → HaveOrders orders new
    → PaysRoom store image old new t n.0 orders settled on_disk wanted

-- a place is given for a record
abbrev pub PlacePays : (D L : Type 0) → Type 0
PlacePays D L = (store : Pool D L) (image : Image) (old new : Changed) (owner t : ℕ) (at : RecId) (orders : Orders)
    (settled : ℕ → Bool) (on_disk wanted : DemandSet) → KnowsTable store image old owner t settled on_disk wanted
    → GivesSpot store image old new owner at → HaveOrders orders new
    → PaysRoom store image old new t at.page.0 orders settled on_disk wanted

-- a record is made in a free slot of a page that is wanted, with a first version of the transaction
abbrev pub RecordPays : (D L : Type 0) → Type 0
RecordPays D L = (store : Pool D L) (image : Image) (old new : Changed) (owner t : ℕ) (at : RecId) (v : Version)
    (orders : Orders) (settled : ℕ → Bool) (on_disk wanted : DemandSet)
    → KnowsTable store image old owner t settled on_disk wanted
    → MakesRecord store image old new owner at v → v.tx.0 ≡ t → IsDataOf store.geometry.size wanted at.page.0
    → cells_of (viewed store image old) at ≡ None → HaveOrders orders new
    → PaysPart store image old new t orders settled on_disk wanted

-- a version is pushed over one of a settled transaction
abbrev pub VersionPays : (D L : Type 0) → Type 0
VersionPays D L = (store : Pool D L) (image : Image) (old new : Changed) (t : ℕ) (rec : RecId) (v : Version)
    (pushes : Pushes store image old new rec v) (orders : Orders) (settled : ℕ → Bool) (on_disk wanted : DemandSet)
    → KnowsTable store image old pushes.owner t settled on_disk wanted → v.tx.0 ≡ t
    → IsDataOf store.geometry.size wanted rec.page.0 → settled pushes.newest.tx.0 ≡ true → HaveOrders orders new
    → PaysPart store image old new t orders settled on_disk wanted

-- ---- parts

module _ {D L : Type 0} (store : Pool D L) (image : Image) (t : ℕ) (orders : Orders) (settled : ℕ → Bool) (on_disk : DemandSet) where
  -- what is known of a table is known behind a part
  pub knows_on : (old new : Changed) (owner : ℕ) (wanted : DemandSet)
      → KnowsTable store image old owner t settled on_disk wanted
      → (part : PaysPart store image old new t orders settled on_disk wanted)
      → KnowsTable store image new owner t settled on_disk (either wanted (listed part.more))
  knows_on old new owner wanted knows part = record {
    lawful = knows.lawful;
    wants = part.pays.wants;
    orderly = part.orderly;
    chained = part.chained;
    header = in_one wanted (listed part.more) (want_of 0 HEADER 0 0) knows.header;
    number = in_one wanted (listed part.more) (want_of 0 NEXT t 0) knows.number;
    owns = knows.owns;
    root = record {
      page = in_one wanted (listed part.more) (want_of owner POINTER owner 0) knows.root.page;
      bit = in_one wanted (listed part.more) _ knows.root.bit;
    };
    young = knows.young;
    lasting = λ d h is done. elim (either_cases wanted (listed part.more) d h) [
      | inl stood ↦ knows.lasting d stood is done
      | inr newly ↦ absurd (both_ways _ knows.young (subst (λ (u : ℕ). settled u ≡ true)
          (part.own d (of_listed part.more d newly) is) done))
    ];
  }

  -- two parts are one
  pub two_parts : (old mid new : Changed) (wanted : DemandSet)
      → (first : PaysPart store image old mid t orders settled on_disk wanted)
      → PaysPart store image mid new t orders settled on_disk (either wanted (listed first.more))
      → (both : PaysPart store image old new t orders settled on_disk wanted)
      × ((d : Demand) → Has first.more d → Has both.more d)
  two_parts old mid new wanted first second = (
    record {
      more = first.more ++ second.more;
      pays = two_listed store.geometry.size (viewed store image old) (viewed store image mid) (viewed store image new)
          orders settled on_disk wanted first.more second.more first.pays second.pays;
      orderly = orderly_less store.geometry.size (viewed store image new)
          (either (either wanted (listed first.more)) (listed second.more)) (either wanted (listed (first.more ++ second.more)))
          second.orderly (in_parts wanted first.more second.more);
      chained = chained_both store.geometry.size (viewed store image new) wanted first.more second.more second.chained;
      own = λ d h is. elim (has_either first.more second.more d h) [
        | inl x ↦ first.own d x is
        | inr y ↦ second.own d y is
      ];
    },
    λ d h. has_front first.more second.more d h,
  )

  -- orders that are added change no page
  pub part_ordered : (old mid new : Changed) (os : List Order) (wanted : DemandSet)
      → PaysPart store image old mid t orders settled on_disk wanted → AddsOrders mid new os
      → PaysPart store image old new t orders settled on_disk wanted
  part_ordered old mid new os wanted part adds = record {
    more = part.more;
    pays = subst (λ (pages : Pages). Pays store.geometry.size (viewed store image old) pages orders settled on_disk wanted
        (listed part.more)) (sym (viewed_same store image mid new adds.same_pages)) part.pays;
    orderly = subst (λ (pages : Pages). AreOrderly store.geometry.size pages (either wanted (listed part.more)))
        (sym (viewed_same store image mid new adds.same_pages)) part.orderly;
    chained = subst (λ (pages : Pages). IsChained store.geometry.size pages (either wanted (listed part.more)))
        (sym (viewed_same store image mid new adds.same_pages)) part.chained;
    own = part.own;
  }

  -- nothing is done
  pub no_part : (old : Changed) (owner : ℕ) (wanted : DemandSet) → KnowsTable store image old owner t settled on_disk wanted
      → PaysPart store image old old t orders settled on_disk wanted
  no_part old owner wanted knows = record {
    more = [];
    pays = same_pays store.geometry.size (viewed store image old) orders settled on_disk wanted knows.wants;
    orderly = orderly_less store.geometry.size (viewed store image old) wanted (either wanted (listed [])) knows.orderly
        (within wanted);
    chained = chained_within store.geometry.size (viewed store image old) wanted (either wanted (listed [])) (within wanted)
        (λ d other h. in_one wanted (listed []) d h) knows.chained;
    own = λ d h is. absurd h;
  }
    where
      within : (wanted : DemandSet) (d : Demand) → IsIn (either wanted (listed [])) d → IsIn wanted d
      within wanted d h = elim (either_cases wanted (listed []) d h) [
        | inl x ↦ x
        | inr none ↦ absurd (of_listed [] d none)
      ]

  -- the pages of the table are wanted
  pub its_table : (old : Changed) (owner : ℕ) (wanted : DemandSet) → KnowsTable store image old owner t settled on_disk wanted
      → (need : ℕ) (new : Changed) (n : PageNo) (gives : GivesRoom store image old new owner need n)
      → WantsTable store.geometry.size (viewed store image old) wanted owner gives.pointers gives.data_pages
  its_table old owner wanted knows need new n gives = tables_are_wanted store.geometry.size (viewed store image old) wanted
      owner gives.pointers gives.data_pages knows.wants knows.orderly knows.owns knows.root gives.table

  -- what is known where a version of the transaction is written
  pub knows_write : (old : Changed) (owner : ℕ) (wanted : DemandSet) → KnowsTable store image old owner t settled on_disk wanted
      → (at : RecId) (tx : TxNo) → tx.0 ≡ t → IsDataOf store.geometry.size wanted at.page.0
      → KnowsWrite store image old at owner tx settled on_disk wanted
  knows_write old owner wanted knows at tx its of = record {
    lawful = knows.lawful;
    wants = knows.wants;
    header = knows.header;
    number = subst (λ (u : ℕ). IsIn wanted (want_of 0 NEXT u 0)) (sym its) knows.number;
    record_ = of;
    table = λ pointers data_pages table. tables_are_wanted store.geometry.size (viewed store image old) wanted owner
        pointers data_pages knows.wants knows.orderly knows.owns knows.root table;
    lasting = knows.lasting;
  }

-- ---- room, and records

pub room_part : (D L : Type 0) → RoomPays D L
room_part D L store image old new owner t need n orders settled on_disk wanted knows gives have = record {
  part = record {
    more = room_wants store image old new owner need n gives gives.found;
    pays = room_pays store image old new owner need n gives orders settled on_disk wanted knows.lawful knows.wants
        knows.header its have gives.found;
    orderly = room_orderly store image old new owner need n gives orders settled on_disk wanted knows.lawful knows.wants
        its knows.orderly gives.found;
    chained = room_chained store image old new owner need n gives orders settled on_disk wanted knows.lawful knows.wants
        knows.header its have knows.chained gives.found;
    own = λ d h is. absurd (room_versions store image old new owner need n gives gives.found d h is);
  };
  given = subst (λ (k : ℕ). IsDataOf store.geometry.size
      (either wanted (listed (room_wants store image old new owner need n gives gives.found))) k)
      (ap (λ (p : PageNo). p.0) gives.page_is)
      (room_data store image old new owner need n gives orders settled on_disk wanted knows.lawful knows.wants knows.header
      its have gives.found);
}
  where
    its : WantsTable store.geometry.size (viewed store image old) wanted owner gives.pointers gives.data_pages
    its = its_table store image t orders settled on_disk old owner wanted knows need new n gives

pub place_part : (D L : Type 0) → PlacePays D L
place_part D L store image old new owner t at orders settled on_disk wanted knows spot have =
    room_part D L store image old new owner t ANCHOR_LEN at.page orders settled on_disk wanted knows spot.gives have

pub record_part : (D L : Type 0) → RecordPays D L
record_part D L store image old new owner t at v orders settled on_disk wanted knows makes its of none have = record {
  more = write_wants store image old makes.makes.adds.given owner (need_with_anchor makes.bytes) makes.makes.at v.tx
      makes.makes.adds.gives;
  pays = first_pays D L store image old new owner at v makes orders settled on_disk wanted writes none have;
  orderly = first_orderly store image old new owner at v makes orders settled on_disk wanted writes none have
      knows.orderly;
  chained = first_chained D L store image old new owner at v makes orders settled on_disk wanted writes none have
      knows.chained;
  own = λ d h is. elim (has_either (room_wants store image old makes.makes.adds.given owner
      (need_with_anchor makes.bytes) makes.makes.at.page makes.makes.adds.gives makes.makes.adds.gives.found)
      (want_of makes.makes.at.page.0 VERSION makes.makes.at.slot v.tx.0 ∷ []) d h) [
        | inl x ↦ absurd (room_versions store image old makes.makes.adds.given owner (need_with_anchor makes.bytes)
            makes.makes.at.page makes.makes.adds.gives makes.makes.adds.gives.found d x is)
        | inr y ↦ elim y [
          | inl same ↦ ap (λ (e : Demand). e.b) same ∙ its
          | inr nothing ↦ absurd nothing
        ]
      ];
}
  where
    writes : KnowsWrite store image old at owner v.tx settled on_disk wanted
    writes = knows_write store image t orders settled on_disk old owner wanted knows at v.tx its of

pub version_part : (D L : Type 0) → VersionPays D L
version_part D L store image old new t rec v pushes orders settled on_disk wanted knows its of done have = record {
  more = push_wants store image old new rec v pushes orders settled on_disk wanted writes done have;
  pays = push_pay store image old new rec v pushes orders settled on_disk wanted writes done have;
  orderly = push_orderly store image old new rec v pushes orders settled on_disk wanted writes done have knows.orderly;
  chained = push_chained D L store image old new rec v pushes orders settled on_disk wanted writes have knows.chained;
  own = λ d h is. elim (has_either (room_wants store image old pushes.pushes.puts.adds.given pushes.owner
      (need_of pushes.bytes) pushes.pushes.at.page pushes.pushes.puts.adds.gives pushes.pushes.puts.adds.gives.found)
      (want_of pushes.pushes.at.page.0 VERSION pushes.pushes.at.slot v.tx.0 ∷ []) d h) [
        | inl x ↦ absurd (room_versions store image old pushes.pushes.puts.adds.given pushes.owner (need_of pushes.bytes)
            pushes.pushes.at.page pushes.pushes.puts.adds.gives pushes.pushes.puts.adds.gives.found d x is)
        | inr y ↦ elim y [
          | inl same ↦ ap (λ (e : Demand). e.b) same ∙ its
          | inr nothing ↦ absurd nothing
        ]
      ];
}
  where
    writes : KnowsWrite store image old rec pushes.owner v.tx settled on_disk wanted
    writes = knows_write store image t orders settled on_disk old pushes.owner wanted knows rec v.tx its of
