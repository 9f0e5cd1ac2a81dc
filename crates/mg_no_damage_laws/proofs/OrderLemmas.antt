-- The data pages of a table name their places, and a walk goes along them.
use Rattle.std.proofs.Common.{◌≡◌, ◌∙◌, ◌⊎◌, inl, inr, ◌<◌, ◌≤◌, ◌+◌, ◌==◌, ℕ, suc, Bool, true, false, List, [], ◌∷◌, Some, refl, sym, ap, subst, arith, cond}
use Rattle.std.proofs.lemmas.Bool.{eq-eqb, eqb-true, false≢true}
use Rattle.mg_base.specs.Checks.{PassesAll, common_checks}
use Rattle.mg_base.specs.Fields.{u32_at}
use Rattle.mg_base.specs.declared.fields.TheConstants.{SEQUENCE_AT}
use Rattle.mg_base.specs.declared.numbers.RecId.{RecId}
use Rattle.mg_heap.specs.Stands.{TablesAreWalked}
use Rattle.mg_heap.specs.StandsLaws.{data_pages_once}
use Rattle.mg_heap.specs.Walk.{IsNextIn, behind}
use Rattle.mg_heap.specs.WalkLaws.{gives_in_table}
use Rattle.mg_image.specs.Sound.{IsTableData}
use Rattle.mg_image.specs.Tables.{EachFrom, Has}
use Rattle.mg_slots.specs.declared.page.TheConstants.{DATA_KIND}
use Rattle.mg_no_damage_laws.specs.Order.{WalksAscend, rank_in}
use Rattle.mg_no_damage_laws.proofs.TableLemmas.{next_page}

-- what the pages behind one have, from its place on
each_behind : (P : ℕ → ℕ → Type 0) (at : ℕ) (ds : List ℕ) (n : ℕ) → EachFrom P at ds → Has ds n
    → (k : ℕ) × P k n × EachFrom P (suc k) (behind ds n)
each_behind P at [] n each has = absurd has
each_behind P at (d ∷ ds) n each has =
    by (d == n) refl has (λ later. each_behind P (suc at) ds n each.1 later)
  where
    by : (b : Bool) → (d == n) ≡ b → (n ≡ d) ⊎ Has ds n
        → (Has ds n → (k : ℕ) × P k n × EachFrom P (suc k) (behind ds n))
        → (k : ℕ) × P k n × EachFrom P (suc k) (cond b ds (behind ds n))
    by true same is more = (at, subst (P at) (eqb-true d n same) each.0, each.1)
    by false other (inl same) more = absurd (false≢true (sym other ∙ eq-eqb d n (sym same)))
    by false other (inr later) more = more later

-- a page of a list has a place from its begin on
each_later : (P : ℕ → ℕ → Type 0) (at : ℕ) (ns : List ℕ) (n : ℕ) → EachFrom P at ns → Has ns n
    → (k : ℕ) × (at ≤ k) × P k n
each_later P at [] n each has = absurd has
each_later P at (x ∷ xs) n each (inl same) = (at, omega arith, subst (P at) (sym same) each.0)
each_later P at (x ∷ xs) n each (inr later) =
    let found = each_later P (suc at) xs n each.1 later in
    let least = found.1 in (found.0, omega (arith, least), found.2)

-- a data page names its place
names_place : (b : List ℕ) (n owner at : ℕ) → PassesAll (common_checks b n DATA_KIND owner at)
    → u32_at b SEQUENCE_AT ≡ at
unfolding common_checks
names_place b n owner at passes = passes.1.1.1.1.1.0

pub walks_ascend : TablesAreWalked → WalksAscend
walks_ascend walked size pages stand has x y listed small gives =
    at (gives_in_table pages stand.table.pointer.0 stand.pointers stand.data_pages
    (walked false size pages stand has) (Some x) (Some y) (data_pages_once false size pages stand has) gives)
  where
    owner : ℕ
    owner = stand.table.pointer.0

    found : (k : ℕ) × IsTableData false size pages owner k x.page.0
        × EachFrom (IsTableData false size pages owner) (suc k) (behind stand.data_pages x.page.0)
    found = each_behind (IsTableData false size pages owner) 0 stand.data_pages x.page.0 has.data_pages listed

    here : u32_at (pages x.page.0) SEQUENCE_AT ≡ found.0
    here = names_place (pages x.page.0) x.page.0 owner found.0 found.1.wanted.fields

    same_page : y.page.0 ≡ x.page.0 → x.slot + 1 ≤ y.slot → rank_in pages x < rank_in pages y
    same_page same further =
        let sequence : u32_at (pages y.page.0) SEQUENCE_AT ≡ u32_at (pages x.page.0) SEQUENCE_AT =
        ap (λ (n : ℕ). u32_at (pages n) SEQUENCE_AT) same in omega (arith, sequence, further)

    later_page : Has (behind stand.data_pages x.page.0) y.page.0 → rank_in pages x < rank_in pages y
    later_page later =
        let there = each_later (IsTableData false size pages owner) (suc found.0)
        (behind stand.data_pages x.page.0) y.page.0 found.2 later in
        let sequence : u32_at (pages y.page.0) SEQUENCE_AT ≡ there.0 =
        names_place (pages y.page.0) y.page.0 owner there.0 there.2.wanted.fields in
        let least = there.1 in let own = here in omega (arith, sequence, own, least, small)

    at : IsNextIn pages (x.page.0 ∷ behind stand.data_pages x.page.0) (x.slot + 1) (Some y)
        → rank_in pages x < rank_in pages y
    at (inl (z, same, first)) =
        let its : y ≡ z = cc in
        same_page (ap (λ (r : RecId). r.page.0) its ∙ first.page)
        (let further = first.not_before in let slot : y.slot ≡ z.slot = ap (λ (r : RecId). r.slot) its in
        omega (arith, further, slot))
    at (inr (none, later)) = later_page (next_page pages (behind stand.data_pages x.page.0) 0 y later)
