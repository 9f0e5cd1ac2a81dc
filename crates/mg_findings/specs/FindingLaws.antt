-- Laws of findings: their order is total and tells them apart, and the list of a kind is one.
use Rattle.std.specs.Prelude.{◌≡◌, ◌⊎◌, ◌↔◌, ℕ, zero, suc, true, List, [], ◌∷◌, ◌++◌}
use Rattle.std.proofs.Common.{refl, sym, ap, ◌∙◌, inl, inr, arith, get_or}
use Rattle.std.specs.List.{AllByRecursion, Contains}
use Rattle.std.specs.List.Sorted.{IsStrictlySortedBy}
use Rattle.std.specs.Cmp.{IsTotalOrder}
use Rattle.std.specs.Ordering.{nat_cmp, ordering_then, eq_by_cmp, is_eq}
use Rattle.std.specs.declared.cmp.Ordering.{Ordering}
use Rattle.std.specs.declared.cmp.Ordering.TheVariants.{Less, Equal, Greater}
use Rattle.std.proofs.lemmas.Cmp.{then_total, on_total, nat_cmp_total, ranked, tied_itself}
use Rattle.mg_base.specs.declared.damage.Field.TheVariants.{Presence, Kind, Flags, Zero, Own, Owner, Sequence, Magic, Major, Minor, PageSize, Next, Oit, Oat, Ost, Link, Count, Offset, Cell, Row, Run, Target, Entry, Catalog, Bit, Indexed, Fence, State, Key, Level, Format}
use Rattle.mg_findings.specs.declared.finding.Finding.{Finding}
use Rattle.mg_findings.specs.declared.finding.Rule.{Rule}
use Rattle.mg_findings.specs.declared.finding.Rule.TheVariants.{Orphan, Unreached, Dead, Without, Damage}
use Rattle.mg_findings.specs.Findings.{Ascend, ComesBefore, Has, OneList, finding_cmp, rule_place}

pub finding_cmp_total : IsTotalOrder finding_cmp
finding_cmp_total =
    then_total
    (then_total
    (then_total (on_total (λ (f : Finding). f.page.0) nat_cmp_total)
    (on_total (λ (f : Finding). f.slot) nat_cmp_total))
    (on_total (λ (f : Finding). rule_place f.what) nat_cmp_total))
    (then_total (on_total (λ (f : Finding). f.found) nat_cmp_total)
    (on_total (λ (f : Finding). f.wanted) nat_cmp_total))

-- ---- what stands at a place

-- all that can be found, in the order of their places
abbrev all_rules : List Rule
all_rules =
    Orphan ∷ Unreached ∷ Dead ∷ Without
    ∷ Damage Presence
    ∷ Damage Kind
    ∷ Damage Flags
    ∷ Damage Zero
    ∷ Damage Own
    ∷ Damage Owner
    ∷ Damage Sequence
    ∷ Damage Magic
    ∷ Damage Major
    ∷ Damage Minor
    ∷ Damage PageSize
    ∷ Damage Next
    ∷ Damage Oit
    ∷ Damage Oat
    ∷ Damage Ost
    ∷ Damage Link
    ∷ Damage Count
    ∷ Damage Offset
    ∷ Damage Cell
    ∷ Damage Row
    ∷ Damage Run
    ∷ Damage Target
    ∷ Damage Entry
    ∷ Damage Catalog
    ∷ Damage Bit
    ∷ Damage Indexed
    ∷ Damage Fence
    ∷ Damage State
    ∷ Damage Key
    ∷ Damage Level
    ∷ Damage Format
    ∷ []

rule_there : (what : Rule) → get_or all_rules (rule_place what) Orphan ≡ what
rule_there Orphan = refl
rule_there Unreached = refl
rule_there Dead = refl
rule_there Without = refl
rule_there (Damage Presence) = refl
rule_there (Damage Kind) = refl
rule_there (Damage Flags) = refl
rule_there (Damage Zero) = refl
rule_there (Damage Own) = refl
rule_there (Damage Owner) = refl
rule_there (Damage Sequence) = refl
rule_there (Damage Magic) = refl
rule_there (Damage Major) = refl
rule_there (Damage Minor) = refl
rule_there (Damage PageSize) = refl
rule_there (Damage Next) = refl
rule_there (Damage Oit) = refl
rule_there (Damage Oat) = refl
rule_there (Damage Ost) = refl
rule_there (Damage Link) = refl
rule_there (Damage Count) = refl
rule_there (Damage Offset) = refl
rule_there (Damage Cell) = refl
rule_there (Damage Row) = refl
rule_there (Damage Run) = refl
rule_there (Damage Target) = refl
rule_there (Damage Entry) = refl
rule_there (Damage Catalog) = refl
rule_there (Damage Bit) = refl
rule_there (Damage Indexed) = refl
rule_there (Damage Fence) = refl
rule_there (Damage State) = refl
rule_there (Damage Key) = refl
rule_there (Damage Level) = refl
rule_there (Damage Format) = refl

same_rule : (a b : Rule) → rule_place a ≡ rule_place b → a ≡ b
same_rule a b is =
    sym (rule_there a) ∙ (ap (λ (n : ℕ). get_or all_rules n Orphan) is ∙ rule_there b)

-- ---- two findings that tie are one

both_equal : (a b : Ordering) → ordering_then a b ≡ Equal → (a ≡ Equal) × (b ≡ Equal)
both_equal Less b is = absurd cc
both_equal Equal b is = (refl, is)
both_equal Greater b is = absurd cc

same_number : (a b : ℕ) → nat_cmp a b ≡ Equal → a ≡ b
same_number a b is = ranked a b Equal (sym is)

pub same_finding : (a b : Finding) → finding_cmp a b ≡ Equal → a ≡ b
same_finding a b is =
    let parts = both_equal _ _ is in
    let front = both_equal _ _ parts.0 in
    let place = both_equal _ _ front.0 in
    let numbers = both_equal _ _ parts.1 in
    let page = same_number a.page.0 b.page.0 place.0 in
    let slot = same_number a.slot b.slot place.1 in
    let what = same_rule a.what b.what (same_number _ _ front.1) in
    let found = same_number a.found b.found numbers.0 in
    let wanted = same_number a.wanted b.wanted numbers.1 in
    λ i. record {
      page = record { 0 = page i };
      slot = slot i;
      what = what i;
      found = found i;
      wanted = wanted i;
    }

equal_from_test : (order : Ordering) → is_eq order ≡ true → order ≡ Equal
equal_from_test Less is = absurd cc
equal_from_test Equal is = refl
equal_from_test Greater is = absurd cc

pub same_by_cmp : (a b : Finding) → eq_by_cmp finding_cmp a b ≡ true → a ≡ b
same_by_cmp a b is = same_finding a b (equal_from_test (finding_cmp a b) is)

-- ---- members

pub has_from_contains : (fs : List Finding) (f : Finding) → Contains fs f → Has fs f
has_from_contains [] f (k, below, at) = absurd (omega (arith, below))
has_from_contains (g ∷ gs) f (zero, below, at) = inl (sym at)
has_from_contains (g ∷ gs) f (suc k, below, at) =
    inr (has_from_contains gs f (k, omega (arith, below), at))

pub contains_from_has : (fs : List Finding) (f : Finding) → Has fs f → Contains fs f
contains_from_has [] f has = absurd has
contains_from_has (g ∷ gs) f (inl is) = (zero, omega arith, sym is)
contains_from_has (g ∷ gs) f (inr has) =
    let at = contains_from_has gs f has in (suc at.0, omega (arith, at.1), at.2)

-- of two lists one after the other a finding is in the first or in the second
pub has_append : (fs gs : List Finding) (f : Finding) → Has (fs ++ gs) f ↔ (Has fs f ⊎ Has gs f)
has_append [] gs f = (λ has. inr has, λ has. elim has [ inl none ↦ absurd none | inr it ↦ it ])
has_append (h ∷ hs) gs f = (
  λ has. elim has [
    | inl is ↦ inl (inl is)
    | inr more ↦ elim ((has_append hs gs f).0 more) [
      | inl it ↦ inl (inr it)
      | inr it ↦ inr it
    ]
  ],
  λ has. elim has [
    | inl first ↦ elim first [
      | inl is ↦ inl is
      | inr it ↦ inr ((has_append hs gs f).1 (inl it))
    ]
    | inr it ↦ inr ((has_append hs gs f).1 (inr it))
  ],
)

-- ---- a list in order is one

before_all : (f : Finding) (fs : List Finding) → AllByRecursion (λ g. finding_cmp f g ≡ Less) fs
    → ComesBefore f fs
before_all f [] all = tt
before_all f (g ∷ gs) all = (all.0, before_all f gs all.1)

pub ascend_from_sorted : (fs : List Finding) → IsStrictlySortedBy finding_cmp fs → Ascend fs
unfolding IsStrictlySortedBy
ascend_from_sorted [] sorted = tt
ascend_from_sorted (f ∷ fs) sorted =
    (before_all f fs sorted.0, ascend_from_sorted fs sorted.1)

-- a finding that comes before all of a list comes before each
before_member : (f g : Finding) (gs : List Finding) → ComesBefore f gs → Has gs g
    → finding_cmp f g ≡ Less
before_member f g [] before has = absurd has
before_member f g (h ∷ hs) before (inl is) = ap (finding_cmp f) is ∙ before.0
before_member f g (h ∷ hs) before (inr has) = before_member f g hs before.1 has

-- no finding comes before itself
not_before_itself : (f : Finding) → finding_cmp f f ≡ Less → ⊥
not_before_itself f less = let ties = tied_itself finding_cmp_total f in absurd cc

-- of two findings only one comes before the other
not_both : (f g : Finding) → finding_cmp f g ≡ Less → finding_cmp g f ≡ Less → ⊥
not_both f g less more = not_before_itself f (finding_cmp_total.trans f g f less more)

-- the first finding of each list is that of the other
same_first : (f g : Finding) (fs gs : List Finding) → ComesBefore f fs → ComesBefore g gs
    → Has (g ∷ gs) f → Has (f ∷ fs) g → f ≡ g
same_first f g fs gs first second (inl is) other = is
same_first f g fs gs first second (inr there) (inl is) = sym is
same_first f g fs gs first second (inr there) (inr here) = absurd
    (not_both f g (before_member f g fs first here) (before_member g f gs second there))

-- a member of what follows a finding is a member of what follows it in the other list
in_rest : (f g : Finding) (fs gs : List Finding) → ComesBefore f fs → f ≡ g → (h : Finding)
    → Has fs h → Has (g ∷ gs) h → Has gs h
in_rest f g fs gs before same h here (inl is) = absurd
    (not_before_itself f (ap (finding_cmp f) (same ∙ sym is) ∙ before_member f h fs before here))
in_rest f g fs gs before same h here (inr there) = there

pub one_list_law : OneList
one_list_law [] [] first second same = refl
one_list_law [] (g ∷ gs) first second same = absurd ((same g).1 (inl refl))
one_list_law (f ∷ fs) [] first second same = absurd ((same f).0 (inl refl))
one_list_law (f ∷ fs) (g ∷ gs) first second same =
    let is = same_first f g fs gs first.0 second.0 ((same f).0 (inl refl)) ((same g).1 (inl refl))
    in
    let rest = one_list_law fs gs first.1 second.1 (λ h. (
      λ has. in_rest f g fs gs first.0 is h has ((same h).0 (inr has)),
      λ has. in_rest g f gs fs second.0 (sym is) h has ((same h).1 (inr has)),
    ))
    in
    λ i. is i ∷ rest i
