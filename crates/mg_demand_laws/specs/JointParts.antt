-- The parts of one batch, for tables and for their index trees, one after another; and a batch that they make up.
use Rattle.std.specs.Prelude.{◌≡◌, ◌≢◌, ◌++◌, ◌||◌, ℕ, Bool, true, false, List, [], ◌∷◌}
use Rattle.std.proofs.Common.{inl, inr, refl, subst}
use Rattle.std.proofs.Math.Path.{fun_ext}
use Rattle.mg_base.specs.Image.{Image}
use Rattle.mg_careful.specs.declared.links.Demand.{Demand}
use Rattle.mg_careful.specs.Precedence.{Orders}
use Rattle.mg_careful.specs.CarefulWrite.{DemandSet, IsIn, either, listed}
use Rattle.mg_careful.specs.CarefulSteps.{Contents}
use Rattle.mg_demand_laws.specs.Freeing.{without}
use Rattle.mg_demand_laws.specs.Runs.{IsLasting, Lasting}
use Rattle.mg_image.specs.Form.{Pages}
use Rattle.mg_pool.specs.Batch.{Changed}
use Rattle.mg_pool.specs.declared.pool.Pool.{Pool}
use Rattle.mg_space.specs.View.{viewed}
use Rattle.mg_demand_laws.specs.Met.{has_either, in_listed, of_listed}
use Rattle.mg_demand_laws.specs.Wanting.{Drops, IsWanting, nothing}
use Rattle.mg_demand_laws.specs.WantingLaws.{either_cases, two_listed, two_pay}
use Rattle.mg_demand_laws.specs.Alone.{drops_nothing}
use Rattle.mg_demand_laws.specs.OrderlyTies.{in_parts, orderly_less}
use Rattle.mg_demand_laws.specs.Wants.{AreOrderly}
use Rattle.mg_demand_laws.specs.Chained.{IsChained}
use Rattle.mg_demand_laws.specs.ChainedLaws.{chained_within}
use Rattle.mg_demand_laws.specs.Keeping.{PaysNewly}
use Rattle.mg_demand_laws.specs.KeepingTies.{chained_all, drops_none, in_wanted}
use Rattle.mg_demand_laws.specs.Parts.{PaysPart}
use Rattle.mg_demand_laws.specs.Calls.{EachStands, EachStays, PaysTrees, TreeAt, grown_to}
use Rattle.mg_demand_laws.specs.CallTies.{each_as, new_free, one_among}
use Rattle.mg_demand_laws.specs.Taken.{PaysTree}
use Rattle.mg_demand_laws.specs.TakenLaws.{from_lists, to_lists}
use Rattle.mg_demand_laws.specs.Joint.{LeavesTables, LeavesTrees, PaysBatch, PaysJointly}
use Rattle.mg_demand_laws.specs.Leaving.{tables_stay, trees_stay, trees_stay_without}

-- the law: a part for a table, which leaves the trees alone
abbrev pub TablePartPays : (D L : Type 0) → Type 0
TablePartPays D L = (store : Pool D L) (image : Image) (old new : Changed) (t : ℕ) (trees : List TreeAt)
    (orders : Orders) (settled : ℕ → Bool) (on_disk wanted : DemandSet)
    → EachStands store.geometry.size (viewed store image old) wanted trees
    → (part : PaysPart store image old new t orders settled on_disk wanted)
    → LeavesTrees store.geometry.size (viewed store image old) (viewed store image new) trees (listed part.more)
    → PaysJointly store.geometry.size (viewed store image old) (viewed store image new) t trees orders settled on_disk
    wanted part.more

-- the law: a part for trees, which leaves tables alone
abbrev pub TreePartPays : Type 0
TreePartPays = (size : ℕ) (old new : Pages) (t : ℕ) (ends : List TreeAt) (orders : Orders) (settled : ℕ → Bool)
    (on_disk wanted : DemandSet) → IsWanting size old wanted → AreOrderly size old wanted → IsChained size old wanted
    → (part : PaysTrees size old new ends orders settled on_disk wanted)
    → LeavesTables size old new (listed part.more)
    → PaysJointly size old new t ends orders settled on_disk wanted part.more

-- the law: a call on one of several trees, which changes no page of the others, and leaves tables alone
abbrev pub OneOfTreesPaysJointly : Type 0
OneOfTreesPaysJointly = (size : ℕ) (old new : Pages) (t : ℕ) (front : List TreeAt) (tree : TreeAt) (back : List TreeAt)
    (ends : List (List ℕ)) (orders : Orders) (settled : ℕ → Bool) (on_disk wanted : DemandSet)
    → IsWanting size old wanted → AreOrderly size old wanted → IsChained size old wanted
    → EachStands size old wanted (front ++ tree ∷ back) → EachStays old new front → EachStays old new back
    → (paid : PaysTree size old new tree.owner tree.root [] ends orders settled on_disk wanted)
    → LeavesTables size old new (listed paid.more)
    → PaysJointly size old new t (front ++ grown_to tree ends ∷ back) orders settled on_disk wanted paid.more

-- the law: two parts, one after the other, are one
abbrev pub JointPartsAreOne : Type 0
JointPartsAreOne = (size : ℕ) (old mid new : Pages) (t : ℕ) (trees ends : List TreeAt) (orders : Orders)
    (settled : ℕ → Bool) (on_disk wanted : DemandSet) (ds es : List Demand)
    → PaysJointly size old mid t trees orders settled on_disk wanted ds
    → PaysJointly size mid new t ends orders settled on_disk (either wanted (listed ds)) es
    → PaysJointly size old new t ends orders settled on_disk wanted (ds ++ es)

-- the law: a part that is a whole batch, of a transaction none of whose versions lasts yet; these things are wanted
-- then
abbrev pub JointPartKeeps : Type 0
JointPartKeeps = (size : ℕ) (old new : Pages) (t : ℕ) (ends : List TreeAt) (batch : Contents) (orders : Orders)
    (it : Lasting) (on_disk wanted news : DemandSet) (more : List Demand) → IsLasting it
    → ((d : Demand) → it.lasts d ≡ true → d.b ≢ t)
    → PaysJointly size old new t ends orders it.settled on_disk wanted more
    → ((d : Demand) → IsIn news d → IsIn (either wanted (listed more)) d)
    → PaysBatch size old new batch orders it ends on_disk wanted news

-- the law: a batch for trees that leaves tables alone
abbrev pub TreeBatchKeeps : Type 0
TreeBatchKeeps = (size : ℕ) (old new : Pages) (ends : List TreeAt) (batch : Contents) (orders : Orders) (it : Lasting)
    (on_disk wanted : DemandSet) → IsLasting it → IsWanting size old wanted → AreOrderly size old wanted
    → IsChained size old wanted → (part : PaysTrees size old new ends orders it.settled on_disk wanted)
    → LeavesTables size old new (listed part.more)
    → PaysBatch size old new batch orders it ends on_disk wanted (listed [])

-- the law: a batch for tables that leaves the trees alone, whatever versions it drops
abbrev pub TableBatchKeeps : Type 0
TableBatchKeeps = (size : ℕ) (old new : Pages) (trees : List TreeAt) (batch : Contents) (orders : Orders) (it : Lasting)
    (on_disk wanted news : DemandSet) → EachStands size old wanted trees
    → (newly : PaysNewly size old new batch orders it on_disk wanted news)
    → LeavesTrees size old new trees newly.pays.paid.more
    → PaysBatch size old new batch orders it trees on_disk wanted news

-- the law: a part that drops nothing, and then a batch from there on, which may drop versions, are one batch
abbrev pub PartThenBatchPays : Type 0
PartThenBatchPays = (size : ℕ) (old mid new : Pages) (t : ℕ) (trees ends : List TreeAt) (batch : Contents)
    (orders : Orders) (it : Lasting) (on_disk wanted news : DemandSet) (more : List Demand) → IsLasting it
    → ((d : Demand) → it.lasts d ≡ true → d.b ≢ t)
    → PaysJointly size old mid t trees orders it.settled on_disk wanted more
    → PaysBatch size mid new batch orders it ends on_disk (either wanted (listed more)) news
    → PaysBatch size old new batch orders it ends on_disk wanted news

pub table_part_pays : (D L : Type 0) → TablePartPays D L
table_part_pays D L store image old new t trees orders settled on_disk wanted stand part leaves = record {
  pays = part.pays;
  orderly = part.orderly;
  chained = part.chained;
  stand = trees_stay store.geometry.size (viewed store image old) (viewed store image new) trees wanted
      (listed part.more) stand leaves;
  own = part.own;
}

pub tree_part_pays : TreePartPays
tree_part_pays size old new t ends orders settled on_disk wanted was orderly chained part leaves =
    let both = tables_stay size old new wanted (listed part.more) was orderly chained leaves in
    record {
      pays = part.pays;
      orderly = both.0;
      chained = both.1;
      stand = part.stand;
      own = λ d h version. absurd ((leaves.none d (in_listed part.more d h)).2 version);
    }

pub one_of_trees_pays_jointly : OneOfTreesPaysJointly
one_of_trees_pays_jointly size old new t front tree back ends orders settled on_disk wanted was orderly chained stand
    before behind paid leaves =
    let both = tables_stay size old new wanted (listed paid.more) was orderly chained leaves in
    record {
      pays = paid.pays;
      orderly = both.0;
      chained = both.1;
      stand = one_among size old new front tree back ends wanted paid.more stand before behind paid.used
          (λ d h node. new_free size old d (paid.own d h) node) paid.stands;
      own = λ d h version. absurd ((leaves.none d (in_listed paid.more d h)).2 version);
    }

pub joint_parts_are_one : JointPartsAreOne
joint_parts_are_one size old mid new t trees ends orders settled on_disk wanted ds es first second = record {
  pays = two_listed size old mid new orders settled on_disk wanted ds es first.pays second.pays;
  orderly = orderly_less size new (either (either wanted (listed ds)) (listed es)) (either wanted (listed (ds ++ es)))
      second.orderly (in_parts wanted ds es);
  chained = chained_within size new (either (either wanted (listed ds)) (listed es)) (either wanted (listed (ds ++ es)))
      (from_lists wanted ds es) (λ d other. to_lists wanted ds es d) second.chained;
  stand = each_as size new ends (either (either wanted (listed ds)) (listed es)) (either wanted (listed (ds ++ es)))
      (to_lists wanted ds es) (from_lists wanted ds es) second.stand;
  own = λ d h version. elim (has_either ds es d h) [
    | inl x ↦ first.own d x version
    | inr y ↦ second.own d y version
  ];
}

-- a part is a whole batch where it newly wants nothing that lasts already
whole : (size : ℕ) (old new : Pages) (t : ℕ) (ends : List TreeAt) (batch : Contents) (orders : Orders) (it : Lasting)
    (on_disk wanted news : DemandSet) (more : List Demand)
    → PaysJointly size old new t ends orders it.settled on_disk wanted more
    → ((d : Demand) → IsIn (listed more) d → it.lasts d ≡ true → IsIn wanted d)
    → ((d : Demand) → IsIn news d → IsIn (either wanted (listed more)) d)
    → PaysBatch size old new batch orders it ends on_disk wanted news
whole size old new t ends batch orders it on_disk wanted news more part fresh newly = record {
  newly = record {
    pays = record {
      paid = record {
        mid = new;
        more = listed more;
        dropped = nothing;
        pays = part.pays;
        fresh = fresh;
        drops = drops_nothing size new orders it.settled (either wanted (listed more)) part.pays.wants;
        own = λ d is. absurd (drops_none d is);
      };
      orderly = orderly_less size new (either wanted (listed more)) (without nothing (either wanted (listed more)))
          part.orderly (in_wanted nothing (either wanted (listed more)));
      chained = chained_all size new (either wanted (listed more)) part.chained;
    };
    newly = newly;
  };
  stand = trees_stay_without size new ends (either wanted (listed more)) it.settled nothing
      (λ d is. absurd (drops_none d is)) part.stand;
}

pub joint_part_keeps : JointPartKeeps
joint_part_keeps size old new t ends batch orders it on_disk wanted news more lasting young part newly =
    whole size old new t ends batch orders it on_disk wanted news more part
    (λ d h is. absurd (young d is (part.own d (of_listed more d h) (lasting.versions d is)))) newly

pub tree_batch_keeps : TreeBatchKeeps
tree_batch_keeps size old new ends batch orders it on_disk wanted lasting was orderly chained part leaves =
    whole size old new 0 ends batch orders it on_disk wanted (listed []) part.more
    (tree_part_pays size old new 0 ends orders it.settled on_disk wanted was orderly chained part leaves)
    (λ d h is. absurd ((leaves.none d h).2 (lasting.versions d is))) (λ d h. absurd (of_listed [] d h))

pub table_batch_keeps : TableBatchKeeps
table_batch_keeps size old new trees batch orders it on_disk wanted news stand newly leaves = record {
  newly = newly;
  stand = trees_stay_without size new trees (either wanted newly.pays.paid.more) it.settled newly.pays.paid.dropped
      newly.pays.paid.drops.may (trees_stay size old new trees wanted newly.pays.paid.more stand leaves);
}

-- three sets are one, whichever two are first
or_three : (a b c : Bool) → ((a || b) || c) ≡ (a || (b || c))
or_three true b c = refl
or_three false b c = refl

either_three : (one two three : DemandSet) → either (either one two) three ≡ either one (either two three)
either_three one two three = fun_ext (λ d. fun_ext (λ w. or_three (one d w) (two d w) (three d w)))

pub part_then_batch_pays : PartThenBatchPays
part_then_batch_pays size old mid new t trees ends batch orders it on_disk wanted news more lasting young first second =
    let paid = second.newly.pays.paid in
    record {
      newly = record {
        pays = record {
          paid = record {
            mid = paid.mid;
            more = either (listed more) paid.more;
            dropped = paid.dropped;
            pays = two_pay size old mid paid.mid orders it.settled on_disk wanted (listed more) paid.more first.pays
                paid.pays;
            fresh = λ d h is. elim (either_cases (listed more) paid.more d h) [
              | inl x ↦ absurd (lasts_not d x is)
              | inr y ↦ elim (either_cases wanted (listed more) d (paid.fresh d y is)) [
                | inl stood ↦ stood
                | inr x ↦ absurd (lasts_not d x is)
              ]
            ];
            drops = subst (λ (all : DemandSet). Drops size paid.mid new orders it.settled all paid.dropped) same paid.drops;
            own = paid.own;
          };
          orderly = subst (λ (all : DemandSet). AreOrderly size new (without paid.dropped all)) same
              second.newly.pays.orderly;
          chained = subst (λ (all : DemandSet). IsChained size new (without paid.dropped all)) same
              second.newly.pays.chained;
        };
        newly = λ d h. subst (λ (all : DemandSet). IsIn all d) same (second.newly.newly d h);
      };
      stand = subst (λ (all : DemandSet). EachStands size new (without paid.dropped all) ends) same second.stand;
    }
  where
    same : either (either wanted (listed more)) second.newly.pays.paid.more
        ≡ either wanted (either (listed more) second.newly.pays.paid.more)
    same = either_three wanted (listed more) second.newly.pays.paid.more

    lasts_not : (d : Demand) → IsIn (listed more) d → it.lasts d ≡ true → ⊥
    lasts_not d x is = young d is (first.own d (of_listed more d x) (lasting.versions d is))
