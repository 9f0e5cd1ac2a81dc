-- An insertion is refused for want of pages or of memory alone, and its batch is lawful.
use Rattle.std.proofs.Common.{◌≡◌, ◌≢◌, ◌⊎◌, ◌∙◌, inl, inr, ap, refl, sym, subst, arith, ◌+◌, ◌-◌, ℕ, suc, true, false, List, [], ◌∷◌, length, Option, None, Some}
use Rattle.std.specs.Prelude.{is_some}
use Rattle.mg_base.specs.declared.damage.Damaged.{Damaged}
use Rattle.mg_base.specs.declared.geometry.Geometry.{Geometry}
use Rattle.mg_careful.specs.Precedence.{Precedes, directly, through}
use Rattle.mg_careful.specs.declared.graph.Order.{Order}
use Rattle.mg_image.specs.Form.{Pages}
use Rattle.mg_node.specs.NodePage.{level_in}
use Rattle.mg_pool.specs.Batch.{content_in, lists}
use Rattle.mg_space.specs.FreePages.{TakingKeepsRegions}
use Rattle.mg_space.specs.Taking.{IsGeometry}
use Rattle.mg_space.specs.declared.fault.SpaceFault.{SpaceFault}
use Rattle.mg_space.specs.declared.fault.SpaceFault.TheVariants as faults
use Rattle.mg_tree_overlay_laws.specs.TreeHeightLaws.{trees_are_low}
use Rattle.mg_btree.specs.Climbing.{ClosesNoCycle}
use Rattle.mg_btree.specs.Rooms.{RefusesAfter, RefusesRoom, TakesEach, too_high}
use Rattle.mg_free_page_laws.specs.FreeLaws.{both_taken, fewer, one_taken, same_taken, takes_more}
use Rattle.mg_free_page_laws.specs.FreePages.{IsNotFull, TakesAtMost}
use Rattle.mg_free_page_laws.specs.GrowthLaws.{take_there}
use Rattle.mg_entry_tie_laws.specs.LayLaws.{insertion_leaves}
use Rattle.mg_entry_tie_laws.specs.Laws.{InsertionsAreLawful, InsertionsAreThere, InsertionsMeetNone, no_batch}

-- ---- the batch

-- no order, no precedence
none_leads : (a b : ℕ) → Precedes (lists []) a b → ⊥
none_leads a b (directly is) = let both : false ≡ true = is in absurd cc
none_leads a b (through {b = z} first later) = none_leads a z first

none_listed : (a b : ℕ) → lists [] a b ≡ true → ⊥
none_listed a b is = let both : false ≡ true = is in absurd cc

there_is : (x : Option (List ℕ)) → x ≢ None → is_some x ≡ true
there_is None some = absurd (some refl)
there_is (Some bytes) some = refl

pub insertions_are_lawful : ClosesNoCycle → InsertionsAreLawful
insertions_are_lawful closes g old new batch owner root levels e lawful tree is held whole = record {
  few = let low = (trees_are_low g.size old owner root levels tree).1 in
      let few = is.puts.few in omega (arith, low, few);
  whole = λ page bytes at. ap (length {A = ℕ}) (sym (held page bytes at))
      ∙ (insertion_leaves g old new no_batch batch owner root levels e lawful tree is).whole whole page;
  acyclic = closes g.size old new no_batch batch owner root levels e tree is.puts (λ n leads. none_leads n n leads)
      (λ a b listed. absurd (none_listed a b listed));
  later_in = λ a b listed. there_is (content_in batch.pages b) (is.puts.held a b
      (subst (λ (orders : List Order). lists orders a b ≡ true) is.puts.adds listed));
}

-- ---- refusals

-- pages that were taken, one after another
each_taken : TakingKeepsRegions → (g : Geometry) → IsGeometry g → (taken : List ℕ) (old mid : Pages)
    → TakesEach g old taken mid → TakesAtMost g old mid (length taken)
each_taken keeps g lawful [] old mid same = same_taken g old mid (λ n. ap (λ (pages : Pages). pages n) same)
each_taken keeps g lawful (n ∷ ns) old mid (next, takes, more) = takes_more g old mid (1 + length ns) (length (n ∷ ns))
    (omega arith) (both_taken g old next mid 1 (length ns) (one_taken keeps g old next n lawful takes)
    (each_taken keeps g lawful ns next mid more))

pub insertions_are_there : TakingKeepsRegions → InsertionsAreThere
insertions_are_there keeps g old owner root levels e fault tree lawful refused = by fault refused.refused
  where
    by : (f : SpaceFault) → RefusesRoom g old root 0 f → IsNotFull g old 18 f
    by (faults.Full limit) after regions has named is =
        let low = (trees_are_low g.size old owner root levels tree).1 in
        let few = after.few in
        let took = each_taken keeps g lawful after.taken old after.mid after.takes in
        take_there g after.mid (faults.Full limit) after.refused 1 (omega arith) (took.regions regions)
        (took.left regions 1 (fewer g old 18 (1 + length after.taken) (omega (arith, low, few)) has)) named is
    by (faults.Damaged it) after regions has named is = absurd cc
    by (faults.Pool it) after regions has named is = absurd cc

pub insertions_meet_none : TakingKeepsRegions → InsertionsMeetNone
insertions_meet_none keeps g old owner root levels e it tree lawful regions none refused = by refused.refused
  where
    by : RefusesAfter g old (suc (level_in (old root)) - 0) (faults.Damaged it)
        ⊎ ((level_in (old root) ≡ 65535) × (it ≡ too_high root)) → ⊥
    by (inl after) = none after.mid ((each_taken keeps g lawful after.taken old after.mid after.takes).regions regions)
        after.refused
    by (inr (high, is)) = let low = (trees_are_low g.size old owner root levels tree).1 in
        absurd (omega (arith, low, high))
