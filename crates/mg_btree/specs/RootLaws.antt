-- Laws of the root of a tree.
use Rattle.std.proofs.Common.{◌≡◌, sym, subst, ℕ, List, [], Result, Ok, Err}
use Rattle.std.specs.Prelude.{IsErrAnd}
use Rattle.mg_base.specs.Checks.{PassesAll, common_checks}
use Rattle.mg_base.specs.Fields.{u32_at}
use Rattle.mg_base.specs.declared.fields.TheConstants.{OWNER_AT}
use Rattle.mg_node.specs.declared.entry.Entry.{Entry}
use Rattle.mg_node.specs.NodePage.{level_in, node_checks}
use Rattle.mg_image.specs.Form.{Pages}
use Rattle.mg_image.specs.Indexes.{IsTree}
use Rattle.mg_space.specs.declared.fault.SpaceFault.{SpaceFault}
use Rattle.mg_space.specs.declared.fault.SpaceFault.TheVariants.{Full, Pool as OfPool, Damaged as OfPage}
use Rattle.mg_btree.specs.declared.root.Root.{Root}
use Rattle.mg_btree.specs.Reading.{IsNodeOn, RefusesBytes}
use Rattle.mg_btree.specs.ReadingLaws.{blank_is_none}
use Rattle.mg_btree.specs.Roots.{IsRootOf}
use Rattle.mg_btree.specs.SearchLaws.{begins_node, begins_root}

pub owner_is : (bytes : List ℕ) (n owner : ℕ) → PassesAll (node_checks bytes n owner)
    → u32_at bytes OWNER_AT ≡ owner
unfolding common_checks
owner_is bytes n owner passes = passes.1.1.1.1.0

root_node : (size : ℕ) (pages : Pages) (owner root : ℕ) (levels : List (List ℕ)) → Entry
    → IsTree size pages owner root levels → IsNodeOn owner (level_in (pages root)) root (pages root)
root_node size pages owner root levels e tree =
    begins_node size pages owner root levels e (level_in (pages root)) root
    (begins_root size pages owner root levels e tree)

no_entry : Entry
no_entry = record {
  key = [];
  rec = record { page = record { 0 = 0 }; slot = 0 };
  child = record { 0 = 0 };
}

pub root_owner : (size : ℕ) (pages : Pages) (owner root : ℕ) (levels : List (List ℕ))
    → IsTree size pages owner root levels → u32_at (pages root) OWNER_AT ≡ owner
root_owner size pages owner root levels tree =
    owner_is (pages root) root owner (root_node size pages owner root levels no_entry tree).fields

-- where the bytes of the root are refused it is the cache that refuses
pub root_refused : (size : ℕ) (pages : Pages) (owner root : ℕ) (levels : List (List ℕ))
    (fault : SpaceFault) (result : Result Root SpaceFault) → IsTree size pages owner root levels
    → IsErrAnd result (λ f. f ≡ fault) → RefusesBytes size (pages root) fault
    → IsRootOf pages owner root result
root_refused size pages owner root levels fault (Ok found) tree none is = absurd none
root_refused size pages owner root levels fault (Err f) tree same is =
    subst (λ (x : SpaceFault). IsRootOf pages owner root (Err x)) (sym same) (by fault is)
  where
    by : (fault : SpaceFault) → RefusesBytes size (pages root) fault → IsRootOf pages owner root (Err fault)
    by (Full limit) none = none
    by (OfPage damage) zero_ = blank_is_none size owner (level_in (pages root)) root (pages root) zero_
        (root_node size pages owner root levels no_entry tree)
    by (OfPool f) is = tt
