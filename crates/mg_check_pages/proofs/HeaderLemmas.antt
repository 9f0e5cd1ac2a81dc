-- What the reading of a header page says of its tests.
use Rattle.std.proofs.Common.{◌≡◌, ◌∙◌, inl, inr, refl, sym, ap, arith, ℕ, List, [], ◌∷◌, ◌++◌, Result, Ok, Err}
use Rattle.std.proofs.lemmas.Bool.{cases_eq, ne_eqb}
use Rattle.mg_base.specs.Checks.{Check, PassesAll, verdict}
use Rattle.mg_base.specs.CheckLaws.{passes-append, passes_from_verdict, verdict-append_err, verdict-append_ok, verdict_from_passes}
use Rattle.mg_base.specs.declared.damage.Damaged.{Damaged}
use Rattle.mg_base.specs.declared.damage.Field.{Field}
use Rattle.mg_base.specs.declared.damage.Field.TheVariants.{Magic, Major, Minor, PageSize}
use Rattle.mg_base.specs.declared.numbers.PageNo.{PageNo}
use Rattle.mg_header.specs.declared.header.Header.{Header}
use Rattle.mg_header.specs.declared.header.HeadFault.{HeadFault}
use Rattle.mg_header.specs.declared.header.HeadFault.TheVariants as faults
use Rattle.mg_header.specs.declared.header.TheConstants.{MAGIC, MAJOR, OPENED_MINOR}
use Rattle.mg_header.specs.HeaderPage.{database_checks, file_checks, page_checks, reading, reading_upto, the_page, told}
use Rattle.mg_header.specs.HeaderPageLaws.{reading_ok}
use Rattle.mg_check_pages.specs.PageTests.{HeaderLaw, header_test}

-- a header that is read passes all tests
pub test_where_read : (b : List ℕ) (size : ℕ) (h : Header) → reading b size ≡ Ok h
    → header_test b size ≡ Ok tt
test_where_read b size h is =
    let tests = reading_ok b size h is in
    verdict_from_passes the_page (database_checks b size ++ page_checks b)
    (passes-append (database_checks b size) (page_checks b) tests.0 tests.1)

-- a damage is that of the fields behind those of the file
told_damage : (file page : Result (Unit {0}) Damaged) (h : Header) (damage : Damaged)
    → told file page h ≡ Err (faults.Damaged damage) → (file ≡ Ok tt) × (page ≡ Err damage)
told_damage (Err e) page h damage is = absurd cc
told_damage (Ok _) (Err e) h damage is = (refl, cc)
told_damage (Ok _) (Ok _) h damage is = absurd cc

pub test_where_damaged : (b : List ℕ) (size : ℕ) (damage : Damaged)
    → reading b size ≡ Err (faults.Damaged damage) → header_test b size ≡ Err damage
unfolding reading_upto
test_where_damaged b size damage is =
    let parts = told_damage _ _ _ damage is in
    verdict-append_ok the_page (database_checks b size) (page_checks b) parts.0 ∙ parts.1

-- a difference of the file is that of its tests
told_other : (file page : Result (Unit {0}) Damaged) (h : Header) (field : Field) (found : ℕ)
    → told file page h ≡ Err (faults.NotADatabase field found)
    → (damage : Damaged) × (file ≡ Err damage) × (damage.field ≡ field) × (damage.found ≡ found)
told_other (Err e) page h field found is = (e, refl, cc, cc)
told_other (Ok _) (Err e) h field found is = absurd cc
told_other (Ok _) (Ok _) h field found is = absurd cc

-- a number is what each of these tests of a field wants
abbrev WantsOf : Field → ℕ → List Check → Type 0
WantsOf field wanted [] = Unit {0}
WantsOf field wanted (check ∷ checks) =
    (field ≡ check.0 → wanted ≡ check.2) × WantsOf field wanted checks

same_damage : (a b : Damaged) → ◌≡◌ {A = Result (Unit {0}) Damaged} (Err a) (Err b) → a ≡ b
same_damage a b is = cc

-- the damage that tests name, where this is wanted of its field
named : (page : PageNo) (checks : List Check) (damage : Damaged) (wanted : ℕ)
    → verdict page checks ≡ Err damage → WantsOf damage.field wanted checks
    → damage ≡ record {
      page = page;
      field = damage.field;
      found = damage.found;
      wanted = wanted;
    }
named page [] damage wanted is wants = absurd cc
named page (check ∷ checks) damage wanted is wants = elim (cases_eq check.1 check.2) [
  | inl same ↦ named page checks damage wanted
      (sym (verdict-append_ok page (check ∷ []) checks
      (verdict_from_passes page (check ∷ []) (same, tt))) ∙ is)
      wants.1
  | inr differs ↦ here differs
]
  where
    one : (check.1 ≡ check.2 → ⊥) → verdict page (check ∷ []) ≡ Err (record {
      page = page;
      field = check.0;
      found = check.1;
      wanted = check.2;
    })
    one differs = rw (ne_eqb check.1 check.2 differs) refl

    here : (check.1 ≡ check.2 → ⊥) → damage ≡ record {
      page = page;
      field = damage.field;
      found = damage.found;
      wanted = wanted;
    }
    here differs =
        let eq = same_damage (record {
          page = page;
          field = check.0;
          found = check.1;
          wanted = check.2;
        }) damage (sym (verdict-append_err page (check ∷ []) checks _ (one differs)) ∙ is) in
        let wants_it = wants.0 (sym (ap (λ (d : Damaged). d.field) eq)) in
        sym eq ∙ (λ i. record {
          page = page;
          field = (eq i).field;
          found = (eq i).found;
          wanted = sym wants_it i;
        })

-- where a file is told to be of another kind, and this is wanted of the field that tells it
pub test_where_other : (b : List ℕ) (size : ℕ) (field : Field) (found wanted : ℕ)
    → reading b size ≡ Err (faults.NotADatabase field found)
    → (field ≡ Magic → wanted ≡ MAGIC) → (field ≡ Major → wanted ≡ MAJOR)
    → (field ≡ Minor → wanted ≡ OPENED_MINOR) → (field ≡ PageSize → wanted ≡ size)
    → header_test b size ≡ Err (record {
      page = the_page;
      field = field;
      found = found;
      wanted = wanted;
    })
unfolding reading_upto file_checks
test_where_other b size field found wanted is magic major minor page_size =
    let parts = told_other _ _ _ field found is in
    let damage = parts.0 in
    let at = parts.2 in
    let is_named = named the_page (database_checks b size) damage wanted parts.1 (
      λ f. magic (sym at ∙ f),
      (
        λ f. major (sym at ∙ f),
        (λ f. omega (arith, minor (sym at ∙ f)), (λ f. page_size (sym at ∙ f), tt)),
      ),
    )
    in
    verdict-append_err the_page (database_checks b size) (page_checks b) damage parts.1
    ∙ ap (λ (d : Damaged). Err d) (is_named ∙ (λ i. record {
      page = the_page;
      field = parts.2 i;
      found = parts.3 i;
      wanted = wanted;
    }))

-- tests one after the other pass where both do
passes_parts : (first others : List Check) → PassesAll (first ++ others)
    → PassesAll first × PassesAll others
passes_parts [] others passes = (tt, passes)
passes_parts (check ∷ checks) others passes =
    let rest = passes_parts checks others passes.1 in ((passes.0, rest.0), rest.1)

pub header_law : HeaderLaw
header_law b size = (
  λ ok. passes_parts (database_checks b size) (page_checks b)
      (passes_from_verdict the_page (database_checks b size ++ page_checks b) ok),
  λ both. verdict_from_passes the_page (database_checks b size ++ page_checks b)
      (passes-append (database_checks b size) (page_checks b) both.0 both.1),
)
