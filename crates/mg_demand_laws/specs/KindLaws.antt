-- What is wanted of a page, by its kind.
use Rattle.std.specs.Prelude.{◌≡◌, ◌≢◌, ◌⊎◌, ◌<◌, ◌/◌, ◌%◌, ℕ, true, List, length}
use Rattle.std.proofs.Common.{inl, inr, sym, subst, ap, ◌∙◌, arith}
use Rattle.std.proofs.lemmas.Bool.{ltb-true}
use Rattle.mg_base.specs.Checks.{PassesAll, common_checks}
use Rattle.mg_base.specs.Fields.{byte}
use Rattle.mg_careful.specs.declared.links.Demand.{Demand}
use Rattle.mg_careful.specs.CarefulWrite.{DemandSet, IsIn, Has}
use Rattle.mg_header.specs.HeaderPage.{header_in}
use Rattle.mg_image.specs.Form.{Pages}
use Rattle.mg_pip.specs.PipPage.{bits, pip_checks, used_in}
use Rattle.mg_pointer.specs.PointerPage.{pointer_checks}
use Rattle.mg_slots.specs.DataPage.{cell_of}
use Rattle.mg_slots.specs.declared.page.TheConstants.{DATA_KIND}
use Rattle.mg_image.specs.Records.{slot_cell}
use Rattle.mg_space.specs.Demands.{demands_by, demands_of, is_version_of}
use Rattle.mg_space.specs.declared.links.TheConstants.{BIT, DATA, HEADER, NEXT, POINTER, TRANSACTIONS, VERSION}
use Rattle.mg_tip.specs.TipPage.{tip_checks}
use Rattle.mg_demand_laws.specs.Met.{IsMet, is_met, of_bit, of_data, of_header, of_next, of_node, of_pointer, of_tip, of_tree, of_version, opened}
use Rattle.mg_demand_laws.specs.Wanting.{IsWanting, want_of}

pub kind_of : (page : List ℕ) (n kind owner seq : ℕ) → PassesAll (common_checks page n kind owner seq)
    → byte page 0 ≡ kind
unfolding common_checks
kind_of page n kind owner seq passes = passes.0

pub owner_of : (page : List ℕ) (n kind owner seq other next : ℕ)
    → PassesAll (common_checks page n kind owner seq) → PassesAll (common_checks page n kind other next)
    → (owner ≡ other) × (seq ≡ next)
unfolding common_checks
owner_of page n kind owner seq other next one two = (
  sym one.1.1.1.1.0 ∙ two.1.1.1.1.0,
  sym one.1.1.1.1.1.0 ∙ two.1.1.1.1.1.0,
)

pub tip_kind : (page : List ℕ) (n seq : ℕ) → PassesAll (tip_checks page n seq) → byte page 0 ≡ 3
unfolding tip_checks common_checks
tip_kind page n seq passes = passes.0

pub tip_seq : (page : List ℕ) (n seq other : ℕ) → PassesAll (tip_checks page n seq)
    → PassesAll (tip_checks page n other) → seq ≡ other
unfolding tip_checks common_checks
tip_seq page n seq other one two = sym one.1.1.1.1.1.0 ∙ two.1.1.1.1.1.0

pub pointer_kind : (page : List ℕ) (n owner seq : ℕ) → PassesAll (pointer_checks page n owner seq)
    → byte page 0 ≡ 4
unfolding pointer_checks common_checks
pointer_kind page n owner seq passes = passes.0

pub pointer_is : (page : List ℕ) (n owner seq other next : ℕ)
    → PassesAll (pointer_checks page n owner seq) → PassesAll (pointer_checks page n other next)
    → (owner ≡ other) × (seq ≡ next)
unfolding pointer_checks common_checks
pointer_is page n owner seq other next one two = (
  sym one.1.1.1.1.0 ∙ two.1.1.1.1.0,
  sym one.1.1.1.1.1.0 ∙ two.1.1.1.1.1.0,
)

-- the demands of a page, as those of a thing that is wanted of it
pub as_want : (size : ℕ) (pages : Pages) (wanted : DemandSet) → IsWanting size pages wanted
    → (page : List ℕ) → length page ≡ size → (want d e : Demand) → d ≡ want
    → Has (demands_of page d) e → Has (demands_by size page want) e
as_want size pages wanted was page len want d e is made =
    subst (λ (ds : List Demand). Has ds e) (opened size page want was.lawful len)
    (subst (λ (x : Demand). Has (demands_of page x) e) is made)

pub from_want : (size : ℕ) (pages : Pages) (wanted : DemandSet) → IsWanting size pages wanted
    → (page : List ℕ) → length page ≡ size → (want d e : Demand) → d ≡ want
    → Has (demands_by size page want) e → Has (demands_of page d) e
from_want size pages wanted was page len want d e is made =
    subst (λ (x : Demand). Has (demands_of page x) e) (sym is)
    (subst (λ (ds : List Demand). Has ds e) (sym (opened size page want was.lawful len)) made)

module _ (size : ℕ) (pages : Pages) (wanted : DemandSet) (was : IsWanting size pages wanted) (d : Demand) (h : IsIn wanted d) where
  its : IsMet size (pages d.target) d
  its = is_met size (pages d.target) d (was.whole d.target) (was.keeps.met d h)

  abbrev kind : ℕ
  kind = byte (pages d.target) 0

  data_kind : d ≡ want_of d.target VERSION d.a d.b → kind ≡ DATA_KIND
  data_kind is = was.on_data d h (ap (λ (x : Demand). x.what) is)

  -- of a page of the page inventory, or a blank one, bits alone are wanted
  pub bits_alone : d.target ≢ 0 → kind < 3 → (d ≡ want_of d.target BIT d.a d.b)
      × PassesAll (pip_checks (pages d.target) d.target (d.a / bits size))
      × (used_in (pages d.target) (d.a % bits size) ≡ true)
  bits_alone off low = so its
    where
      so : IsMet size (pages d.target) d → (d ≡ want_of d.target BIT d.a d.b)
          × PassesAll (pip_checks (pages d.target) d.target (d.a / bits size))
          × (used_in (pages d.target) (d.a % bits size) ≡ true)
      so (of_header is head) = absurd (off (ap (λ (x : Demand). x.target) is))
      so (of_next is head below) = absurd (off (ap (λ (x : Demand). x.target) is))
      so (of_tip is passes) = absurd (let k = tip_kind _ _ _ passes in omega (arith, k, low))
      so (of_pointer is passes) = absurd (let k = pointer_kind _ _ _ _ passes in omega (arith, k, low))
      so (of_data is passes) = absurd (let k = kind_of _ _ _ _ _ passes in omega (arith, k, low))
      so (of_version is there) = absurd (let k = data_kind is in omega (arith, k, low))
      so (of_tree is passes) = absurd (let k = kind_of _ _ _ _ _ passes in omega (arith, k, low))
      so (of_node is passes level) = absurd (let k = kind_of _ _ _ _ _ passes in omega (arith, k, low))
      so (of_bit is passes used) = (is, passes, used)

  -- of the header page the header is wanted, and that numbers are drawn
  pub header_alone : kind ≡ 1 → (d ≡ want_of 0 HEADER d.a d.b)
      ⊎ ((d ≡ want_of 0 NEXT d.a d.b) × (d.a < (header_in (pages d.target)).next.0))
  header_alone one = so its
    where
      so : IsMet size (pages d.target) d → (d ≡ want_of 0 HEADER d.a d.b)
          ⊎ ((d ≡ want_of 0 NEXT d.a d.b) × (d.a < (header_in (pages d.target)).next.0))
      so (of_header is head) = inl is
      so (of_next is head below) = inr (is, ltb-true d.a (header_in (pages d.target)).next.0 below)
      so (of_tip is passes) = absurd (let k = tip_kind _ _ _ passes in omega (arith, k, one))
      so (of_pointer is passes) = absurd (let k = pointer_kind _ _ _ _ passes in omega (arith, k, one))
      so (of_data is passes) = absurd (let k = kind_of _ _ _ _ _ passes in omega (arith, k, one))
      so (of_version is there) = absurd (let k = data_kind is in omega (arith, k, one))
      so (of_tree is passes) = absurd (let k = kind_of _ _ _ _ _ passes in omega (arith, k, one))
      so (of_node is passes level) = absurd (let k = kind_of _ _ _ _ _ passes in omega (arith, k, one))
      so (of_bit is passes used) = absurd (let k = kind_of _ _ _ _ _ passes in omega (arith, k, one))

  -- of a transaction inventory page that is wanted alone, with its sequence
  pub tip_alone : d.target ≢ 0 → kind ≡ 3 → (d ≡ want_of d.target TRANSACTIONS d.a d.b)
      × PassesAll (tip_checks (pages d.target) d.target d.a)
  tip_alone off three = so its
    where
      so : IsMet size (pages d.target) d → (d ≡ want_of d.target TRANSACTIONS d.a d.b)
          × PassesAll (tip_checks (pages d.target) d.target d.a)
      so (of_header is head) = absurd (off (ap (λ (x : Demand). x.target) is))
      so (of_next is head below) = absurd (off (ap (λ (x : Demand). x.target) is))
      so (of_tip is passes) = (is, passes)
      so (of_pointer is passes) = absurd (let k = pointer_kind _ _ _ _ passes in omega (arith, k, three))
      so (of_data is passes) = absurd (let k = kind_of _ _ _ _ _ passes in omega (arith, k, three))
      so (of_version is there) = absurd (let k = data_kind is in omega (arith, k, three))
      so (of_tree is passes) = absurd (let k = kind_of _ _ _ _ _ passes in omega (arith, k, three))
      so (of_node is passes level) = absurd (let k = kind_of _ _ _ _ _ passes in omega (arith, k, three))
      so (of_bit is passes used) = absurd (let k = kind_of _ _ _ _ _ passes in omega (arith, k, three))

  -- of a pointer page that is wanted alone, with its owner and its place
  pub pointer_alone : d.target ≢ 0 → kind ≡ 4 → (d ≡ want_of d.target POINTER d.a d.b)
      × PassesAll (pointer_checks (pages d.target) d.target d.a d.b)
  pointer_alone off four = so its
    where
      so : IsMet size (pages d.target) d → (d ≡ want_of d.target POINTER d.a d.b)
          × PassesAll (pointer_checks (pages d.target) d.target d.a d.b)
      so (of_header is head) = absurd (off (ap (λ (x : Demand). x.target) is))
      so (of_next is head below) = absurd (off (ap (λ (x : Demand). x.target) is))
      so (of_tip is passes) = absurd (let k = tip_kind _ _ _ passes in omega (arith, k, four))
      so (of_pointer is passes) = (is, passes)
      so (of_data is passes) = absurd (let k = kind_of _ _ _ _ _ passes in omega (arith, k, four))
      so (of_version is there) = absurd (let k = data_kind is in omega (arith, k, four))
      so (of_tree is passes) = absurd (let k = kind_of _ _ _ _ _ passes in omega (arith, k, four))
      so (of_node is passes level) = absurd (let k = kind_of _ _ _ _ _ passes in omega (arith, k, four))
      so (of_bit is passes used) = absurd (let k = kind_of _ _ _ _ _ passes in omega (arith, k, four))

  -- of a data page that is wanted, with its owner and its place, or one of its versions
  pub data_alone : d.target ≢ 0 → kind ≡ 5
      → ((d ≡ want_of d.target DATA d.a d.b)
      × PassesAll (common_checks (pages d.target) d.target DATA_KIND d.a d.b))
      ⊎ ((d ≡ want_of d.target VERSION d.a d.b)
      × (is_version_of d.b (slot_cell (cell_of (pages d.target) d.a)) ≡ true))
  data_alone off five = so its
    where
      so : IsMet size (pages d.target) d
          → ((d ≡ want_of d.target DATA d.a d.b)
          × PassesAll (common_checks (pages d.target) d.target DATA_KIND d.a d.b))
          ⊎ ((d ≡ want_of d.target VERSION d.a d.b)
          × (is_version_of d.b (slot_cell (cell_of (pages d.target) d.a)) ≡ true))
      so (of_header is head) = absurd (off (ap (λ (x : Demand). x.target) is))
      so (of_next is head below) = absurd (off (ap (λ (x : Demand). x.target) is))
      so (of_tip is passes) = absurd (let k = tip_kind _ _ _ passes in omega (arith, k, five))
      so (of_pointer is passes) = absurd (let k = pointer_kind _ _ _ _ passes in omega (arith, k, five))
      so (of_data is passes) = inl (is, passes)
      so (of_version is there) = inr (is, there)
      so (of_tree is passes) = absurd (let k = kind_of _ _ _ _ _ passes in omega (arith, k, five))
      so (of_node is passes level) = absurd (let k = kind_of _ _ _ _ _ passes in omega (arith, k, five))
      so (of_bit is passes used) = absurd (let k = kind_of _ _ _ _ _ passes in omega (arith, k, five))
