-- A page of a table is made readable, and its bytes are lent: they are those that were tested.
use Rattle.std.proofs.Common.{◌≡◌, ◌∙◌, ℕ, Bool, true, false, List, Option, Some, subst, sym}
use Rattle.std.specs.Bool.{OnTrue}
use Rattle.std.specs.Prelude.{Result, Ok, Err, IfErr, IfSome, IsErrAnd, OnOk}
use Rattle.mg_base.specs.Checks.{PassesAll}
use Rattle.mg_base.specs.declared.damage.Damaged.{Damaged}
use Rattle.mg_base.specs.declared.numbers.PageNo.{PageNo}
use Rattle.mg_pointer.specs.PointerPage.{IsPointerPage, pointer_checks}
use Rattle.mg_pool.specs.declared.batch.BatchPage.{BatchPage}
use Rattle.mg_pool.specs.declared.pool.Pool.{Pool}
use Rattle.mg_slots.specs.Damage.{IsFirstDamage, common}
use Rattle.mg_slots.specs.DataPage.{IsDataPage}
use Rattle.mg_slots.specs.Verdict.{common_verdict}
use Rattle.mg_slots.specs.declared.page.TheConstants.{DATA_KIND}
use Rattle.mg_space.specs.Lawful.{IsLawfulPage, readable}
use Rattle.mg_space.specs.declared.fault.SpaceFault.{SpaceFault}
use Rattle.mg_heap.specs.Reading.{HoldsData, IsSomeData}
use Rattle.mg_heap.specs.Table.{HoldsPointer}
use Rattle.mg_heap.specs.Walk.{HoldsTableData}

-- what is told of a fault is told of the answer that hands it on
pub refused_on : {T : Type 0} (result : Result T SpaceFault) (fault : SpaceFault) (Q : SpaceFault → Type 0)
    → IsErrAnd result (λ given. given ≡ fault) → Q fault → IfErr result Q
refused_on (Ok x) fault Q is holds = tt
refused_on (Err e) fault Q is holds = subst Q (sym is) holds

-- one reading gives the same bytes twice
same_read : (read : Option (List ℕ)) (held lent : List ℕ) → read ≡ Some held → read ≡ Some lent
    → held ≡ lent
same_read read held lent is also =
    let same : Some held ≡ Some lent = sym is ∙ also in
    let bytes : held ≡ lent = cc in
    bytes

pub some_data : {D L : Type 0} (store : Pool D L) (batch : List BatchPage) (page : PageNo)
    (lent : List ℕ) → readable store batch page.0 ≡ Some lent → HoldsData store batch page
    → IsSomeData page lent
some_data store batch page lent read held = subst (IsSomeData page)
    (same_read (readable store batch page.0) held.bytes lent held.read read) held.data_page

module _ {D L : Type 0} (store : Pool D L) (batch : List BatchPage) (owner at : ℕ) (n : PageNo)
    (lent : List ℕ) (read : readable store batch n.0 ≡ Some lent) where
  pub pointer_tested : HoldsPointer store batch owner at n → PassesAll (pointer_checks lent n.0 owner at)
  pointer_tested held = subst (λ (b : List ℕ). PassesAll (pointer_checks b n.0 owner at))
      (same_read (readable store batch n.0) held.bytes lent held.read read) held.tested

  pub pointer_lawful : HoldsPointer store batch owner at n → IsPointerPage lent
  pointer_lawful held = subst IsPointerPage
      (same_read (readable store batch n.0) held.bytes lent held.read read) held.lawful

  pub data_common : HoldsTableData store batch owner at n
      → common_verdict lent n DATA_KIND owner at ≡ Ok tt
  data_common held = subst (λ (b : List ℕ). common_verdict b n DATA_KIND owner at ≡ Ok tt)
      (same_read (readable store batch n.0) held.bytes lent held.read read) held.common

  pub data_lawful : HoldsTableData store batch owner at n → IsDataPage lent
  data_lawful held = subst IsDataPage
      (same_read (readable store batch n.0) held.bytes lent held.read read) held.lawful

-- ---- the data page of an owner at a place, where a mark says that it is one

pub marked_data : (page : ℕ) (read : Option (List ℕ)) (lent : List ℕ) (marked : Bool) → read ≡ Some lent
    → OnTrue marked (IfSome read (λ b. IsLawfulPage page b)) → OnTrue marked (IsDataPage lent)
marked_data page read lent true is holds =
    let some : IsLawfulPage page lent =
    subst (λ (o : Option (List ℕ)). IfSome o (λ b. IsLawfulPage page b)) is holds in
    some.lawful
marked_data page read lent false is holds = tt

pub common_ok : (b : List ℕ) (page : PageNo) (owner at : ℕ) (result : Result (Unit {0}) Damaged)
    → result ≡ common_verdict b page DATA_KIND owner at
    → OnOk result (common_verdict b page DATA_KIND owner at ≡ Ok tt)
common_ok b page owner at (Ok x) is = sym is
common_ok b page owner at (Err damage) is = tt

pub common_damage : (b : List ℕ) (page : PageNo) (owner at : ℕ) (result : Result (Unit {0}) Damaged)
    → result ≡ common_verdict b page DATA_KIND owner at → IfErr result (IsFirstDamage b page owner at)
common_damage b page owner at (Ok x) is = tt
common_damage b page owner at (Err damage) is = common damage (sym is)
