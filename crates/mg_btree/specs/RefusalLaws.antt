-- Why no room is made: pages that are taken, and one that is not.
use Rattle.std.proofs.Common.{◌≡◌, inl, inr, ◌∙◌, ap, refl, sym, subst, ◌<◌, ◌-◌, ℕ, suc, List, [], ◌∷◌, Result, Ok, Err, arith}
use Rattle.std.specs.Prelude.{IsErrAnd}
use Rattle.mg_base.specs.declared.geometry.Geometry.{Geometry}
use Rattle.mg_node.specs.declared.entry.Entry.{Entry}
use Rattle.mg_node.specs.NodePage.{level_in}
use Rattle.mg_image.specs.Form.{Pages}
use Rattle.mg_pool.specs.Batch.{Changed}
use Rattle.mg_space.specs.Taking.{RefusesTake, TakesPage}
use Rattle.mg_space.specs.declared.fault.SpaceFault.{SpaceFault}
use Rattle.mg_space.specs.declared.fault.SpaceFault.TheVariants.{Full, Pool as OfPool, Damaged as OfPage}
use Rattle.mg_btree.specs.declared.halves.PageBytes.{PageBytes}
use Rattle.mg_btree.specs.Rooms.{MakesRoomIn, RefusesAfter, RefusesRoom}

pub refuses_now : (g : Geometry) (old : Pages) (most : ℕ) (fault : SpaceFault) → RefusesTake g old fault
    → RefusesAfter g old most fault
refuses_now g old most fault refused = record {
  taken = [];
  few = omega arith;
  mid = old;
  takes = refl;
  refused = refused;
}

pub refuses_next : (g : Geometry) (old mid : Pages) (n less most : ℕ) (fault : SpaceFault)
    → TakesPage g old mid n → less < most → RefusesAfter g mid less fault → RefusesAfter g old most fault
refuses_next g old mid n less most fault takes more after = record {
  taken = n ∷ after.taken;
  few = let few = after.few in omega (arith, few, more);
  mid = after.mid;
  takes = (mid, takes, after.takes);
  refused = after.refused;
}

pub room_refused : (g : Geometry) (old : Pages) (root level : ℕ) (fault : SpaceFault)
    → RefusesAfter g old (suc (level_in (old root)) - level) fault → RefusesRoom g old root level fault
room_refused g old root level (Full limit) after = after
room_refused g old root level (OfPage damage) after = inl after
room_refused g old root level (OfPool fault) after = tt

-- a page was taken, and then the level above got no room
pub room_up : (g : Geometry) (old mid : Pages) (root level n : ℕ) (fault : SpaceFault)
    → TakesPage g old mid n → mid root ≡ old root → level < level_in (old root)
    → RefusesRoom g mid root (suc level) fault → RefusesRoom g old root level fault
room_up g old mid root level n (Full limit) takes same lower after =
    let top : level_in (mid root) ≡ level_in (old root) = ap level_in same in
    refuses_next g old mid n (suc (level_in (mid root)) - suc level) (suc (level_in (old root)) - level)
    (Full limit) takes (omega (arith, top, lower)) after
room_up g old mid root level n (OfPage damage) takes same lower (inl after) =
    let top : level_in (mid root) ≡ level_in (old root) = ap level_in same in
    inl (refuses_next g old mid n (suc (level_in (mid root)) - suc level)
    (suc (level_in (old root)) - level) (OfPage damage) takes (omega (arith, top, lower)) after)
room_up g old mid root level n (OfPage damage) takes same lower (inr high) =
    inr (ap level_in (sym same) ∙ high.0, high.1)
room_up g old mid root level n (OfPool fault) takes same lower after = tt

pub err_room : (g : Geometry) (old new : Pages) (before batch : Changed) (owner root : ℕ)
    (levels : List (List ℕ)) (level : ℕ) (e : Entry) (fault : SpaceFault)
    (result : Result PageBytes SpaceFault)
    → IsErrAnd result (λ f. f ≡ fault) → RefusesRoom g old root level fault
    → MakesRoomIn g old new before batch owner root levels level e result
err_room g old new before batch owner root levels level e fault (Ok page) none refused = absurd none
err_room g old new before batch owner root levels level e fault (Err f) same refused =
    subst (RefusesRoom g old root level) (sym same) refused
