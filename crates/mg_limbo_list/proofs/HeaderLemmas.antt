-- The header page of an image without pages, and the least finding.
use Rattle.std.specs.Prelude.{◌≡◌, ◌⊎◌, ◌≤◌, ℕ, List, [], ◌∷◌, Result, Ok, Err, length}
use Rattle.std.proofs.Common.{refl, sym, ap, ◌∙◌, inl, inr, subst}
use Rattle.std.proofs.lemmas.List.{get_or_past}
use Rattle.std.specs.declared.cmp.Ordering.TheVariants.{Less}
use Rattle.mg_base.specs.Checks.{verdict}
use Rattle.mg_base.specs.CheckLaws.{verdict-append_err}
use Rattle.mg_base.specs.Image.{Image, blank, page_at}
use Rattle.mg_base.specs.declared.damage.Damaged.{Damaged}
use Rattle.mg_base.specs.declared.damage.Field.TheVariants.{Magic}
use Rattle.mg_check_inventory.specs.TransactionRung.{IsTransactionFinding}
use Rattle.mg_check_pages.specs.PageTests.{header_test}
use Rattle.mg_findings.specs.declared.finding.Finding.{Finding}
use Rattle.mg_findings.specs.Findings.{ComesBefore, Has, HasNone, IsListOf, Tells, damage_finding, finding_cmp}
use Rattle.mg_findings.specs.RungLaws.{empty_is_none, none_from_passed, none_of_rungs}
use Rattle.mg_header.specs.declared.header.TheConstants.{MAGIC, MAGIC_AT}
use Rattle.mg_header.specs.HeaderPage.{database_checks, file_checks, page_checks, the_page}
use Rattle.mg_limbo_list.specs.Limbo.{IsFrontFinding, IsHeaderFinding, IsLeast}
use Rattle.mg_limbo_list.proofs.TipsLemmas.{blank_number}

-- what is told of a blank header page, if this is wanted
abbrev told_wanting : ℕ → Result (Unit {0}) Damaged
told_wanting wanted =
    Err (record { page = the_page; field = Magic; found = 0; wanted = wanted })

-- the damage of a blank header page
abbrev no_magic : Damaged
no_magic = record { page = the_page; field = Magic; found = 0; wanted = MAGIC }

blank_header : (size wanted : ℕ) → verdict the_page (database_checks (blank size) wanted) ≡ Err no_magic
unfolding file_checks
blank_header size wanted = rw (blank_number size MAGIC_AT) refl

pub header_absent : (size : ℕ) (image : Image) (wanted : ℕ) → length image ≤ 0 → wanted ≡ MAGIC
    → ◌≡◌ {A = Result (Unit {0}) Damaged}
    (Err (record { page = the_page; field = Magic; found = 0; wanted = wanted }))
    (header_test (page_at size image 0) size)
header_absent size image wanted past is = ap told_wanting is ∙ sym (ap (λ (b : List ℕ). header_test b size) (get_or_past image 0 (blank size) past)
    ∙ verdict-append_err the_page (database_checks (blank size) size) (page_checks (blank size))
    no_magic (blank_header size size))

-- ---- the least finding

-- the first of a list comes before each other one
before_others : (f : Finding) (fs : List Finding) (g : Finding) → ComesBefore f fs → Has fs g
    → finding_cmp f g ≡ Less
before_others f [] g before has = absurd has
before_others f (h ∷ fs) g before (inl is) = ap (finding_cmp f) is ∙ before.0
before_others f (h ∷ fs) g before (inr has) = before_others f fs g before.1 has

least_of_list : (P : Finding → Type 0) (f : Finding) (fs : List Finding) → IsListOf P (f ∷ fs)
    → IsLeast P f
least_of_list P f fs list = record {
  is = (list.members f).0 (inl refl);
  least = λ g is. at g ((list.members g).1 is);
}
  where
    at : (g : Finding) → Has (f ∷ fs) g → (finding_cmp f g ≡ Less) ⊎ (g ≡ f)
    at g (inl same) = inr same
    at g (inr later) = inl (before_others f fs g list.ascend.0 later)

-- what is found of the header alone
pub header_listed : (size : ℕ) (image : Image) (damage : Damaged) (f : Finding)
    (test : Result (Unit {0}) Damaged) → test ≡ Err damage → test ≡ header_test (page_at size image 0) size
    → f ≡ damage_finding damage → IsLeast (IsFrontFinding size image) f
header_listed size image damage f test told is same = record {
  is = inl here;
  least = λ g found. inr (one g found);
}
  where
    tells : (g : Finding) → g ≡ damage_finding damage → IsHeaderFinding size image g
    tells g it = subst (λ (t : Result (Unit {0}) Damaged). Tells t g) (sym told ∙ is) it

    here : IsHeaderFinding size image f
    here = tells f same

    back : (g : Finding) → IsHeaderFinding size image g → g ≡ damage_finding damage
    back g found = subst (λ (t : Result (Unit {0}) Damaged). Tells t g) (sym is ∙ told) found

    one : (g : Finding) → IsFrontFinding size image g → g ≡ f
    one g (inl found) = back g found ∙ sym same
    one g (inr later) = absurd (later.0 f here)

-- or, behind a lawful header, of the transaction inventory
pub later_listed : (size : ℕ) (image : Image) (test : Result (Unit {0}) Damaged) (f : Finding)
    (fs : List Finding) → test ≡ Ok tt → test ≡ header_test (page_at size image 0) size
    → IsListOf (IsTransactionFinding size image) fs → (rest : List Finding) × (fs ≡ f ∷ rest)
    → IsLeast (IsFrontFinding size image) f
later_listed size image test f fs passed is list first = record {
  is = inr (none, least.is);
  least = λ g found. at g found;
}
  where
    none : HasNone (IsHeaderFinding size image)
    none = none_from_passed (header_test (page_at size image 0) size) (sym is ∙ passed)

    least : IsLeast (IsTransactionFinding size image) f
    least = least_of_list (IsTransactionFinding size image) f first.0
        (subst (λ (gs : List Finding). IsListOf (IsTransactionFinding size image) gs) first.1 list)

    at : (g : Finding) → IsFrontFinding size image g → (finding_cmp f g ≡ Less) ⊎ (g ≡ f)
    at g (inl found) = absurd (none g found)
    at g (inr later) = least.least g later.1

-- nothing is found of either
pub nothing_listed : (size : ℕ) (image : Image) (test : Result (Unit {0}) Damaged)
    (fs : List Finding) → test ≡ Ok tt → test ≡ header_test (page_at size image 0) size
    → IsListOf (IsTransactionFinding size image) fs → fs ≡ [] → HasNone (IsFrontFinding size image)
nothing_listed size image test fs passed is list empty =
    (none_of_rungs (IsHeaderFinding size image) (IsTransactionFinding size image)).1 (
      none_from_passed (header_test (page_at size image 0) size) (sym is ∙ passed),
      (empty_is_none (IsTransactionFinding size image) fs list).0 empty,
    )
