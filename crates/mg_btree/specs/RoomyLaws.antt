-- The half to which an entry belongs covers it, and has room for it.
use Rattle.std.proofs.Common.{◌≡◌, ◌∙◌, refl, sym, subst, ◌<◌, ◌≤◌, ◌+◌, ◌/◌, ℕ, List, Option, length, Result, Ok, Err, arith}
use Rattle.std.proofs.Math.Nat.{lt_of_not-le}
use Rattle.std.specs.Prelude.{IfOk, IfSome}
use Rattle.std.specs.declared.cmp.Ordering.{Ordering}
use Rattle.std.specs.declared.cmp.Ordering.TheVariants.{Less, Equal, Greater}
use Rattle.mg_base.specs.Checks.{PassesAll}
use Rattle.mg_base.specs.CheckLaws.{front_checks}
use Rattle.mg_node.specs.declared.entry.Entry.{Entry}
use Rattle.mg_node.specs.declared.entry.TheConstants.{NODE_KIND}
use Rattle.mg_node.specs.NodePage.{IsAtLeast, IsBelow, entry_cmp, is_inner, level_in, node_checks}
use Rattle.mg_node.specs.NodeWalk.{least_len}
use Rattle.mg_pool.specs.Batch.{Changed}
use Rattle.mg_space.specs.declared.fault.SpaceFault.{SpaceFault}
use Rattle.mg_node_writing.specs.NodeChanges.{most_need, room_in}
use Rattle.mg_btree.specs.declared.growing.TwoPages.{TwoPages}
use Rattle.mg_btree.specs.declared.halves.Halves.{Halves}
use Rattle.mg_btree.specs.declared.halves.PageBytes.{PageBytes}
use Rattle.mg_btree.specs.Halves.{AreHalves, CoversBy, HasRoom, IsHalfFor, IsPlaceFor, IsRoomy}
use Rattle.mg_btree.specs.Making.{SplitsIn, SplitsRoot}
use Rattle.mg_btree.specs.SplitSteps.{own_passes}

room_for_any : (page : List ℕ) (size : ℕ) (e : Entry) → length page ≡ size → length e.key ≤ size / 8
    → most_need page ≤ room_in page → HasRoom page e
room_for_any page size e len short room = at (least_len (is_inner page)) room
  where
    at : (least : ℕ) → least + length page / 8 ≤ room_in page → least + length e.key ≤ room_in page
    at least most = omega (arith, most, short, len)

-- a page without room for an entry has less than the most that one may need
pub no_room_full : (page : List ℕ) (size : ℕ) (e : Entry) → length page ≡ size
    → length e.key ≤ size / 8 → (HasRoom page e → ⊥) → room_in page < most_need page
no_room_full page size e len short none =
    lt_of_not-le (λ room. none (room_for_any page size e len short room))

module _ (size owner level : ℕ) (e : Entry) (old : List ℕ) (own at : ℕ) (halves : Halves)
    (is : AreHalves old own at halves) (fields : PassesAll (node_checks old own owner))
    (len : length old ≡ size) (on_level : level_in old ≡ level) (covers : CoversBy old e)
    (short : length e.key ≤ size / 8)
  where
    left_roomy : IsBelow e halves.fence → IsRoomy size owner level e halves.left
    left_roomy less = record {
      place = record {
        len = is.pair.splits.left_size ∙ len;
        fields = subst (λ (k : ℕ). PassesAll (node_checks halves.left.bytes k owner)) (sym is.left_own)
            (subst PassesAll (sym (front_checks halves.left.bytes old own NODE_KIND owner 0
            is.pair.splits.left_front)) fields);
        lawful = is.pair.left_lawful;
        enough = λ inner. is.pair.left_two;
        on_level = is.pair.splits.left_level ∙ on_level;
        covers = (
          subst (λ (x : Option Entry). IfSome x (λ f. IsAtLeast e f)) (sym is.pair.splits.low) covers.0,
          subst (λ (x : Option Entry). IfSome x (λ f. IsBelow e f))
              (sym (is.pair.splits.middle ∙ is.fence)) less,
        );
      };
      room = room_for_any halves.left.bytes size e (is.pair.splits.left_size ∙ len) short is.pair.left_room;
    }

    right_roomy : IsAtLeast e halves.fence → IsRoomy size owner level e halves.right
    right_roomy up = record {
      place = record {
        len = is.pair.splits.right_size ∙ len;
        fields = subst (λ (k : ℕ). PassesAll (node_checks halves.right.bytes k owner)) (sym is.right_own)
            (is.pair.splits.right_fields owner (own_passes old own owner fields));
        lawful = is.pair.right_lawful;
        enough = λ inner. is.pair.right_two;
        on_level = is.pair.splits.right_level ∙ on_level;
        covers = (
          subst (λ (x : Option Entry). IfSome x (λ f. IsAtLeast e f)) (sym is.fence) up,
          subst (λ (x : Option Entry). IfSome x (λ f. IsBelow e f)) (sym is.pair.splits.high) covers.1,
        );
      };
      room = room_for_any halves.right.bytes size e (is.pair.splits.right_size ∙ len) short
          is.pair.right_room;
    }

    pub half_roomy : (half : PageBytes) → IsHalfFor halves e half → IsRoomy size owner level e half
    half_roomy half which = by (entry_cmp e halves.fence) refl
      where
        by : (o : Ordering) → entry_cmp e halves.fence ≡ o → IsRoomy size owner level e half
        by Less same = subst (IsRoomy size owner level e) (sym (which.lower same)) (left_roomy same)
        by Equal same =
            let up : IsAtLeast e halves.fence = λ less. let both : Less ≡ Equal = sym less ∙ same in cc in
            subst (IsRoomy size owner level e) (sym (which.upper up)) (right_roomy up)
        by Greater same =
            let up : IsAtLeast e halves.fence = λ less. let both : Less ≡ Greater = sym less ∙ same in cc in
            subst (IsRoomy size owner level e) (sym (which.upper up)) (right_roomy up)

-- after a root was split
pub root_roomy : (size owner level : ℕ) (old new : Changed) (full : PageBytes) (two : TwoPages) (e : Entry)
    (half : PageBytes) → IsPlaceFor size owner level e full → length e.key ≤ size / 8
    → SplitsRoot size old new owner level full two e half → IsRoomy size owner level e half
root_roomy size owner level old new full two e half place short splits =
    let is = splits.is in
    half_roomy size owner level e is.copy two.first.0 two.second.0 splits.growth.halves is.halves
    (is.copies.fields owner (own_passes full.bytes full.page.0 owner place.fields))
    (is.copies.size ∙ place.len) (is.copies.level ∙ place.on_level) (
      subst (λ (x : Option Entry). IfSome x (λ f. IsAtLeast e f)) (sym is.copies.low) place.covers.0,
      subst (λ (x : Option Entry). IfSome x (λ f. IsBelow e f)) (sym is.copies.high) place.covers.1,
    )
    short half splits.is_half

-- after a page was split
pub split_roomy : (size owner level : ℕ) (old new : Changed) (full above : PageBytes) (at : ℕ)
    (halves : Halves) (e : Entry) (result : Result PageBytes SpaceFault)
    → IsPlaceFor size owner level e full → length e.key ≤ size / 8
    → AreHalves full.bytes full.page.0 at halves → SplitsIn size old new halves above e result
    → IfOk result (IsRoomy size owner level e)
split_roomy size owner level old new full above at halves e (Ok half) place short is splits =
    half_roomy size owner level e full.bytes full.page.0 at halves is place.fields place.len place.on_level
    place.covers short half splits.is_half
split_roomy size owner level old new full above at halves e (Err fault) place short is splits = tt
