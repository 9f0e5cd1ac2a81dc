-- What is found of the header and the transaction inventory is a damage.
use Rattle.std.specs.Prelude.{◌≡◌, ℕ, zero, suc, Bool, true, false, Some, Result, Ok, Err, List, take, if◌then◌else◌}
use Rattle.std.proofs.Common.{sym, inl, inr, subst}
use Rattle.mg_base.specs.Image.{Image, page_at}
use Rattle.mg_base.specs.declared.damage.Damaged.{Damaged}
use Rattle.mg_base.specs.declared.damage.Field.{Field}
use Rattle.mg_base.specs.declared.geometry.TheConstants.{GREATEST_LIMIT}
use Rattle.mg_base.specs.declared.numbers.PageNo.{PageNo}
use Rattle.mg_base.specs.declared.numbers.TxNo.{TxNo}
use Rattle.mg_base.specs.Disk.{Meaning}
use Rattle.mg_check_inventory.specs.TransactionRung.{IsChainFinding}
use Rattle.mg_findings.specs.Findings.{HasNone, Tells}
use Rattle.mg_findings.specs.declared.finding.Finding.{Finding}
use Rattle.mg_findings.specs.declared.finding.Rule.TheVariants.{Damage}
use Rattle.mg_image.specs.Form.{Pages}
use Rattle.mg_image.specs.Inventory.{state_at}
use Rattle.mg_limbo_list.specs.Limbo.{IsFrontFinding, IsLeast, IsLimboList}
use Rattle.mg_model.specs.declared.refusal.Refusal.{Refusal}
use Rattle.mg_model.specs.declared.refusal.Refusal.TheVariants as refusals
use Rattle.mg_limbo_report.specs.Report.{IsCause, IsDamage, IsRefusedFor, IsToldOf, refusal_by, tells_kind}

-- what a test tells of
told_damage : (test : Result (Unit {0}) Damaged) (f : Finding) → Tells test f → IsDamage f.what
told_damage (Ok _) f told = absurd told
told_damage (Err damage) f told = subst (λ (g : Finding). IsDamage g.what) (sym told) tt

-- of a chain
chain_damage : (size : ℕ) (pages : Pages) (count holder n left : ℕ) (f : Finding)
    → IsChainFinding size pages count holder n left f → IsDamage f.what
chain_damage size pages count holder n zero f found = absurd found
chain_damage size pages count holder n (suc left) f (inl (inl told)) = told_damage _ f told
chain_damage size pages count holder n (suc left) f (inl (inr (_, inl told))) = told_damage _ f told
chain_damage size pages count holder n (suc left) f (inl (inr (_, inr (_, inl told)))) =
    told_damage _ f told
chain_damage size pages count holder n (suc left) f
    (inl (inr (_, inr (_, inr (_, inl first))))) = told_damage _ f first.told
chain_damage size pages count holder n (suc left) f
    (inl (inr (_, inr (_, inr (_, inr later))))) = told_damage _ f later.1
chain_damage size pages count holder n (suc left) f (inr later) =
    chain_damage size pages count n _ left f later.1

front_damage : (size : ℕ) (image : Image) (f : Finding) → IsFrontFinding size image f
    → IsDamage f.what
front_damage size image f (inl told) = told_damage _ f told
front_damage size image f (inr (_, inl told)) = told_damage _ f told
front_damage size image f (inr (_, inr chain)) = chain_damage _ _ _ _ _ _ f chain

pub least_damage : (size : ℕ) (image : Image) (f : Finding) → IsLeast (IsFrontFinding size image) f
    → IsDamage f.what
least_damage size image f least = front_damage size image f least.is

-- the refusal for a damage is one of two
refused_ways : (S : Refusal → Type 0) (field : Field) (f : Finding) (refusal : Refusal)
    → refusal ≡ refusal_by field f
    → ((kind : Field) (found : ℕ) → S (refusals.NotADatabase kind found))
    → ((page : PageNo) (at : Field) (found wanted : ℕ) → S (refusals.Damaged page at found wanted))
    → S refusal
refused_ways S field f refusal is kind damaged = subst S (sym is) (at (tells_kind field))
  where
    at : (b : Bool) → S (if b then refusals.NotADatabase field f.found
        else refusals.Damaged f.page field f.found f.wanted)
    at true = kind field f.found
    at false = damaged f.page field f.found f.wanted

-- a disk that has told this page size, and the pages of its image
pub cause_of : {D : Type 0} (m : Meaning D) (disk : D) (image pages : Image) (size : ℕ) (field : Field)
    (f : Finding) (refusal : Refusal) → m.size disk ≡ Some size → pages ≡ take GREATEST_LIMIT image
    → refusal ≡ refusal_by field f → f.what ≡ Damage field
    → IsLeast (IsFrontFinding size pages) f → IsCause m disk image refusal
cause_of m disk image pages size field f refusal sized same is what least = refused_ways
    (λ r. r ≡ refusal_by field f → IsCause m disk image r) field f refusal is
    (λ kind found by. refused (refusals.NotADatabase kind found) by)
    (λ page at found wanted by. refused (refusals.Damaged page at found wanted) by) is
  where
    refused : (r : Refusal) → r ≡ refusal_by field f → IsRefusedFor m disk image r
    refused r by = record {
      size = size;
      sized = sized;
      finding = f;
      least = subst (λ (p : Image). IsLeast (IsFrontFinding size p) f) same least;
      field = field;
      damage = what;
      is = by;
    }

pub told_of : {D : Type 0} (m : Meaning D) (disk : D) (image pages : Image) (size : ℕ)
    (list : List TxNo) → m.size disk ≡ Some size → pages ≡ take GREATEST_LIMIT image
    → HasNone (IsFrontFinding size pages) → IsLimboList (state_at size (page_at size pages)) list
    → IsToldOf m disk image list
told_of m disk image pages size list sized same none limbo = record {
  size = size;
  sized = sized;
  none = subst (λ (p : Image). HasNone (IsFrontFinding size p)) same none;
  limbo = subst (λ (p : Image). IsLimboList (state_at size (page_at size p)) list) same limbo;
}
