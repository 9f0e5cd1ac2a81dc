-- Why a list is not loaded, or no number drawn: what the header page, a transaction inventory page or a
-- page inventory page shows, or that no page is free.
use Rattle.std.specs.Prelude.{◌≡◌, ◌≢◌, ◌⊎◌, ◌<◌, ◌+◌, ◌-◌, ◌/◌, ◌%◌, ℕ, suc, zero, List, [], Ok, Err}
use Rattle.mg_base.specs.Checks.{verdict}
use Rattle.mg_base.specs.Disk.{Meaning}
use Rattle.mg_base.specs.declared.damage.Damaged.{Damaged}
use Rattle.mg_base.specs.declared.damage.Field.{Field}
use Rattle.mg_base.specs.declared.damage.Field.TheVariants.{Link, Magic, Major, Minor, Next}
use Rattle.mg_base.specs.declared.geometry.Geometry.{Geometry}
use Rattle.mg_base.specs.declared.geometry.TheConstants.{GREATEST_LIMIT}
use Rattle.mg_base.specs.declared.numbers.PageNo.{PageNo}
use Rattle.mg_header.specs.HeaderPage.{reading, the_page}
use Rattle.mg_header.specs.declared.header.HeadFault.{HeadFault}
use Rattle.mg_header.specs.declared.header.HeadFault.TheVariants as head_faults
use Rattle.mg_header.specs.declared.header.Header.{Header}
use Rattle.mg_header.specs.declared.header.TheConstants.{MAGIC, MAJOR, OPENED_MINOR}
use Rattle.mg_image.specs.Form.{Pages}
use Rattle.mg_image.specs.Inventory.{tip_before}
use Rattle.mg_pool.specs.declared.pool.Pool.{Pool}
use Rattle.mg_space.specs.Taking.{RefusesTake}
use Rattle.mg_space.specs.View.{IsMissing, absence}
use Rattle.mg_space.specs.declared.fault.SpaceFault.{SpaceFault}
use Rattle.mg_space.specs.declared.fault.SpaceFault.TheVariants as faults
use Rattle.mg_tip.specs.TipPage.{places, tip_checks}

-- what is wanted of a field that tells a database with such pages
abbrev pub wanted_in : ℕ → Field → ℕ
wanted_in size Magic = MAGIC
wanted_in size Major = MAJOR
wanted_in size Minor = OPENED_MINOR
wanted_in size field = size

-- the damage of a header page that is not read: a file of another kind is damage, too
abbrev pub head_damage : ℕ → HeadFault → Damaged
head_damage size (head_faults.Damaged damage) = damage
head_damage size (head_faults.NotADatabase field found) =
    record { page = the_page; field = field; found = found; wanted = wanted_in size field }

-- why the header page is not found, but for faults of the cache: it is missing
abbrev pub LacksHead : {D L : Type 0} → Meaning D → Pool D L → SpaceFault → Type 0
LacksHead m store (faults.Full limit) = ⊥
LacksHead m store (faults.Damaged damage) =
    (count : ℕ) × (damage ≡ absence the_page count) × IsMissing m store [] 0 count
LacksHead m store (faults.Pool fault) = Unit {0}

-- why a header page with these bytes is not read, but for faults of the cache: it is missing, or a
-- field of it differs
abbrev pub RefusesHead : {D L : Type 0} → Meaning D → Pool D L → ℕ → List ℕ → SpaceFault → Type 0
RefusesHead m store size b (faults.Full limit) = ⊥
RefusesHead m store size b (faults.Damaged damage) = LacksHead m store (faults.Damaged damage)
    ⊎ ((fault : HeadFault) × (reading b size ≡ Err fault) × (damage ≡ head_damage size fault))
RefusesHead m store size b (faults.Pool fault) = Unit {0}

-- the page that names the one so many back: the header page, or the one behind it
abbrev pub holder_of : Pages → ℕ → ℕ → PageNo
holder_of pages last zero = the_page
holder_of pages last (suc k) = record { 0 = tip_before pages last k }

-- the damage of a link of the chain that leads to the header page, at the page that has it
abbrev pub link_to_head : PageNo → Damaged
link_to_head holder = record { page = holder; field = Link; found = 0; wanted = GREATEST_LIMIT - 1 }

-- why a page that another one names is not read as the transaction inventory page of a sequence, but for faults of the
-- cache: it is the header page, it is missing, or a field of it differs
abbrev pub RefusesTip : {D L : Type 0} → Meaning D → Pool D L → PageNo → Pages → ℕ → PageNo → SpaceFault
    → Type 0
RefusesTip m store holder pages sequence n (faults.Full most) = ⊥
RefusesTip m store holder pages sequence n (faults.Damaged damage) =
    ((n.0 ≡ 0) × (damage ≡ link_to_head holder))
    ⊎ ((n.0 ≢ 0) × (((count : ℕ) × (damage ≡ absence n count) × IsMissing m store [] n.0 count)
    ⊎ (verdict n (tip_checks (pages n.0) n.0 sequence) ≡ Err damage)))
RefusesTip m store holder pages sequence n (faults.Pool fault) = Unit {0}

-- why so many transaction inventory pages, from one back, are not read: one of them is not
abbrev pub RefusesTips : {D L : Type 0} → Meaning D → Pool D L → Pages → ℕ → ℕ → SpaceFault → Type 0
RefusesTips m store pages last count (faults.Full most) = ⊥
RefusesTips m store pages last count (faults.Damaged damage) = (k : ℕ) × (k < count)
    × RefusesTip m store (holder_of pages last k) pages (count - k - 1) (record { 0 = tip_before pages last k })
    (faults.Damaged damage)
RefusesTips m store pages last count (faults.Pool fault) = Unit {0}

-- why the list is not loaded: the header is not read, or the pages of the numbers that it says are not
abbrev pub RefusesLoad : {D L : Type 0} → Meaning D → Pool D L → Geometry → Pages → SpaceFault → Type 0
RefusesLoad m store g pages (faults.Full limit) = ⊥
RefusesLoad m store g pages (faults.Damaged damage) =
    RefusesHead m store g.size (pages 0) (faults.Damaged damage)
    ⊎ ((header : Header) × (reading (pages 0) g.size ≡ Ok header)
    × RefusesTips m store pages header.last_tip.0
    ((header.next.0 - 1) / places g.size + 1) (faults.Damaged damage))
RefusesLoad m store g pages (faults.Pool fault) = Unit {0}

-- The header has another next number than that of the list.
pub record IsOtherNext (size : ℕ) (b : List ℕ) (t : ℕ) (damage : Damaged) : Type 0 where
  pub header : Header
  pub reads : reading b size ≡ Ok header
  pub other : header.next.0 ≢ t
  pub named : damage
      ≡ record { page = the_page; field = Next; found = header.next.0; wanted = t }

-- why a number is not drawn, but for faults of the cache: the header is not read, or has another next
-- number; or the number is the first of a page, and none is taken
abbrev pub RefusesDraw : {D L : Type 0} → Meaning D → Pool D L → Geometry → ℕ → Pages → SpaceFault
    → Type 0
RefusesDraw m store g t pages (faults.Full limit) =
    (t % places g.size ≡ 0) × RefusesTake g pages (faults.Full limit)
RefusesDraw m store g t pages (faults.Damaged damage) =
    RefusesHead m store g.size (pages 0) (faults.Damaged damage)
    ⊎ (IsOtherNext g.size (pages 0) t damage
    ⊎ ((t % places g.size ≡ 0) × RefusesTake g pages (faults.Damaged damage)))
RefusesDraw m store g t pages (faults.Pool fault) = Unit {0}
