-- Laws of the walk along the entries of a key.
use Rattle.std.proofs.Common.{◌≡◌, ◌≢◌, ◌⊎◌, ◌<◌, ◌≤◌, ◌+◌, ◌∙◌, ℕ, List, [], ◌∷◌, ◌++◌, Option, None, Some, Result, Ok, Err, ap, refl, sym, subst, inl, inr, arith}
use Rattle.std.specs.Prelude.{IfSome, IsErrAnd}
use Rattle.std.specs.declared.alloc.Global.{Global}
use Rattle.std.specs.declared.vec.Vec.{Vec}
use Rattle.std.specs.Ordering.{nat_cmp, ordering_reverse, ordering_then}
use Rattle.std.specs.Cmp.Lexicographic.{slice_cmp}
use Rattle.std.specs.FinMap.{nat_cmp-IsAntisymmetric, slice_cmp-IsAntisymmetric}
use Rattle.std.specs.declared.cmp.Ordering.{Ordering}
use Rattle.std.specs.declared.cmp.Ordering.TheVariants.{Less, Equal, Greater}
use Rattle.std.proofs.lemmas.Cmp.{nat_list_cmp_total, ranked, tied_itself}
use Rattle.mg_base.specs.Disk.{Meaning}
use Rattle.mg_base.specs.Image.{Image}
use Rattle.mg_base.specs.declared.geometry.Geometry.{Geometry}
use Rattle.mg_base.specs.declared.numbers.RecId.{RecId}
use Rattle.mg_image.specs.Form.{Pages}
use Rattle.mg_image.specs.Indexes.{Finds, IsTree}
use Rattle.mg_node.specs.EntryOrderLaws.{same_place_from_cmp}
use Rattle.mg_node.specs.NodePage.{IsBelow, entry_cmp}
use Rattle.mg_node.specs.declared.entry.Entry.{Entry}
use Rattle.mg_pool.specs.Pool.{IsPool}
use Rattle.mg_pool.specs.declared.pool.Pool.{Pool}
use Rattle.mg_space.specs.View.{KeepsStore, Tells, pool_answer, viewed}
use Rattle.mg_space.specs.ViewLaws.{CountsNow, fault_on, keeps_itself, keeps_on, tells_on}
use Rattle.mg_space.specs.declared.fault.SpaceFault.{SpaceFault}
use Rattle.mg_space.specs.declared.fault.SpaceFault.TheVariants.{Full, Pool as OfPool, Damaged as OfPage}
use Rattle.mg_seek.specs.TableRecords.{IsAmong}
use Rattle.mg_btree.specs.Changing.{IsLeaf}
use Rattle.mg_btree.specs.OnPageLaws.{below_from}
use Rattle.mg_btree.specs.Ranges.{GivesNext, IsInRange, ScansFrom, StepsOn, behind as bound_behind, no_pages}
use Rattle.mg_btree.specs.Reading.{Reads}
use Rattle.mg_btree.specs.SearchLaws.{viewed_same}
use Rattle.mg_btree.specs.declared.range.Step.{Step}
use Rattle.mg_btree.specs.declared.range.Walk.{Walk}
use Rattle.mg_lookup.specs.Along.{AreMet, IsAlong, IsOfKey, TellsSteps, floor_of, rank_of}
use Rattle.mg_lookup.specs.Records.{AreNamed, HasItsEntry, NamesRecords, entry_of}

-- ---- the order of the entries of a key

then_equal : (first second : Ordering) → first ≡ Equal → ordering_then first second ≡ second
then_equal Less second e = absurd cc
then_equal Equal second e = refl
then_equal Greater second e = absurd cc

-- of two entries with one key the lesser one has the lesser rank
pub rank_below : (a e : Entry) → a.key ≡ e.key → a.rec.slot < 65536 → IsBelow a e → rank_of a.rec < rank_of e.rec
rank_below a e same slot below = by (nat_cmp a.rec.page.0 e.rec.page.0) refl
  where
    tied : slice_cmp nat_cmp a.key e.key ≡ Equal
    tied = ap (λ (k : List ℕ). slice_cmp nat_cmp k e.key) same ∙ tied_itself nat_list_cmp_total e.key

    places : ordering_then (nat_cmp a.rec.page.0 e.rec.page.0) (nat_cmp a.rec.slot e.rec.slot) ≡ Less
    places = sym (then_equal (slice_cmp nat_cmp a.key e.key)
        (ordering_then (nat_cmp a.rec.page.0 e.rec.page.0) (nat_cmp a.rec.slot e.rec.slot)) tied) ∙ below

    by : (o : Ordering) → nat_cmp a.rec.page.0 e.rec.page.0 ≡ o → rank_of a.rec < rank_of e.rec
    by Less is = let pages = ranked a.rec.page.0 e.rec.page.0 Less (sym is) in omega (arith, slot)
    by Equal is =
        let pages = ranked a.rec.page.0 e.rec.page.0 Equal (sym is) in
        let slots = ranked a.rec.slot e.rec.slot Less (sym (sym (then_equal (nat_cmp a.rec.page.0 e.rec.page.0)
        (nat_cmp a.rec.slot e.rec.slot) is) ∙ places)) in
        omega (arith, pages, slots)
    by Greater is =
        let none : Greater ≡ Less = sym (ap (λ (o : Ordering). ordering_then o (nat_cmp a.rec.slot e.rec.slot)) is) ∙ places in
        absurd cc

-- so what is found behind the entries that were met has a rank behind theirs
pub rank_rises : (key : List ℕ) (last : Option Entry) (e : Entry) → IfSome last (IsOfKey key) → e.key ≡ key
    → IfSome last (λ a. IsBelow a e) → floor_of last ≤ rank_of e.rec
rank_rises key None e of_key is below = omega arith
rank_rises key (Some a) e of_key is below =
    let less = rank_below a e (of_key.key_is ∙ sym is) of_key.slot below in omega (arith, less)

-- an entry of the key is at or above the low end of the range
not_less : (key : List ℕ) → slice_cmp nat_cmp key key ≢ Less
not_less key less = let none : Equal ≡ Less = sym (tied_itself nat_list_cmp_total key) ∙ less in absurd cc

in_range : (key : List ℕ) (last : Option Entry) (p : RecId) → IfSome last (λ a. IsBelow a (entry_of key p))
    → IsInRange key last (entry_of key p)
in_range key last p behind = (not_less key, behind)

-- an entry that is not below another comes behind it, or has its record
placed : (key : List ℕ) (p : RecId) (e : Entry) → (IsBelow (entry_of key p) e → ⊥)
    → (p ≡ e.rec) ⊎ IsBelow e (entry_of key p)
placed key p e not_ = by (entry_cmp (entry_of key p) e) refl
  where
    by : (o : Ordering) → entry_cmp (entry_of key p) e ≡ o → (p ≡ e.rec) ⊎ IsBelow e (entry_of key p)
    by Less is = absurd (not_ is)
    by Equal is = inl (same_place_from_cmp (entry_of key p) e is).rec
    by Greater is = inr (below_from e (entry_of key p) is)

-- an entry of another key above the low end comes behind each entry of the key
other_key : (key : List ℕ) (p : RecId) (e : Entry) → slice_cmp nat_cmp e.key key ≢ Less → e.key ≢ key
    → IsBelow (entry_of key p) e
other_key key p e not_ differs = by (slice_cmp nat_cmp e.key key) refl
  where
    by : (o : Ordering) → slice_cmp nat_cmp e.key key ≡ o → IsBelow (entry_of key p) e
    by Less is = absurd (not_ is)
    by Equal is = absurd (differs (slice_cmp-IsAntisymmetric nat_cmp-IsAntisymmetric _ _ is))
    by Greater is =
        let less : slice_cmp nat_cmp key e.key ≡ Less =
        nat_list_cmp_total.antisymm key e.key ∙ ap ordering_reverse is in
        ap (λ (o : Ordering). ordering_then o (ordering_then (nat_cmp p.page.0 e.rec.page.0) (nat_cmp p.slot e.rec.slot))) less

-- ---- the records that were met

among_front : (found : List RecId) (rec p : RecId) → IsAmong found p → IsAmong (found ++ rec ∷ []) p
among_front [] rec p none = absurd none
among_front (first ∷ others) rec p (inl is) = inl is
among_front (first ∷ others) rec p (inr later) = inr (among_front others rec p later)

among_last : (found : List RecId) (rec p : RecId) → p ≡ rec → IsAmong (found ++ rec ∷ []) p
among_last [] rec p is = inl (sym is)
among_last (first ∷ others) rec p is = inr (among_last others rec p is)

behind : (first : RecId) (others : List RecId) (rec p : RecId) → IsAmong others p ⊎ (p ≡ rec)
    → IsAmong (first ∷ others) p ⊎ (p ≡ rec)
behind first others rec p (inl later) = inl (inr later)
behind first others rec p (inr is) = inr is

among_either : (found : List RecId) (rec p : RecId) → IsAmong (found ++ rec ∷ []) p → IsAmong found p ⊎ (p ≡ rec)
among_either [] rec p (inl is) = inr (sym is)
among_either [] rec p (inr none) = absurd none
among_either (first ∷ others) rec p (inl is) = inl (inl is)
among_either (first ∷ others) rec p (inr later) = behind first others rec p (among_either others rec p later)

module _ (view : Pages) (root : ℕ) (key : List ℕ) (found : List RecId) (last : Option Entry)
    (met : AreMet view root key found last) where
  -- nothing comes behind them
  pub met_all : GivesNext view root key last None → AreNamed view root key found
  met_all none = record { whole = λ p finds. by p finds (met.whole p finds); alone = met.alone }
    where
      by : (p : RecId) → Finds view (entry_of key p) root
          → IsAmong found p ⊎ IfSome last (λ e. IsBelow e (entry_of key p)) → IsAmong found p
      by p finds (inl among) = among
      by p finds (inr behind) = absurd (none (entry_of key p) finds (in_range key last p behind))

  -- what comes behind them is of another key
  pub met_before : (e : Entry) → GivesNext view root key last (Some e) → e.key ≢ key → AreNamed view root key found
  met_before e next differs = record { whole = λ p finds. by p finds (met.whole p finds); alone = met.alone }
    where
      by : (p : RecId) → Finds view (entry_of key p) root
          → IsAmong found p ⊎ IfSome last (λ e. IsBelow e (entry_of key p)) → IsAmong found p
      by p finds (inl among) = among
      by p finds (inr behind) = absurd (next.2 (entry_of key p) finds (in_range key last p behind)
          (other_key key p e next.1.0 differs))

  -- one more is met
  pub met_next : (e : Entry) → GivesNext view root key last (Some e) → e.key ≡ key
      → AreMet view root key (found ++ e.rec ∷ []) (Some e)
  met_next e next same = record {
    whole = λ p finds. by p finds (met.whole p finds);
    alone = λ p among. of p (among_either found e.rec p among);
  }
    where
      later : (p : RecId) → (p ≡ e.rec) ⊎ IsBelow e (entry_of key p)
          → IsAmong (found ++ e.rec ∷ []) p ⊎ IsBelow e (entry_of key p)
      later p (inl is) = inl (among_last found e.rec p is)
      later p (inr behind) = inr behind

      by : (p : RecId) → Finds view (entry_of key p) root
          → IsAmong found p ⊎ IfSome last (λ e. IsBelow e (entry_of key p))
          → IsAmong (found ++ e.rec ∷ []) p ⊎ IsBelow e (entry_of key p)
      by p finds (inl among) = inl (among_front found e.rec p among)
      by p finds (inr behind) = later p (placed key p e (next.2 (entry_of key p) finds (in_range key last p behind)))

      of : (p : RecId) → IsAmong found p ⊎ (p ≡ e.rec) → HasItsEntry view root key p
      of p (inl among) = met.alone p among
      of p (inr is) = record { entry = e; finds = next.0; key_is = same; rec_is = sym is }

-- ---- the walk

-- nothing was met yet
pub along_starts : {D L : Type 0} (m : Meaning D) (store : Pool D L) (walk : Walk) (key : List ℕ) → IsPool m store
    → store.offline ≡ None → IsLeaf store.geometry.size walk.leaf → IsAlong m store store walk key [] None walk 0
along_starts m store walk key pool online leaf = record {
  keeps = keeps_itself m store pool;
  faults = refl;
  online = online;
  leaf = leaf;
  of_key = tt;
  floor_is = refl;
  scans = λ image owner root levels tells scan. scan;
  met = λ image owner root levels tells scan.
      record { whole = λ p finds. inr tt; alone = λ p none. absurd none };
}

module _ {D L : Type 0} (m : Meaning D) (counts : CountsNow m) (old a b : Pool D L) (first : Walk) (key : List ℕ)
    (found : List RecId) (last : Option Entry) (walk : Walk) (floor : ℕ)
    (along : IsAlong m old a first key found last walk floor) where
  -- one step more is read
  pub along_reads : {T : Type 0} (result : Result T SpaceFault) → Reads m a b result → Reads m old b result
  along_reads result reads = record {
    keeps = keeps_on m counts old a b along.keeps reads.keeps;
    fault = fault_on m old a b (pool_answer result) along.keeps along.faults reads.fault;
    own = reads.own;
  }

  -- what it tells of a tree
  pub along_steps : (result : Result Step SpaceFault)
      → TellsSteps m a key last walk result
      → (image : Image) (owner root : ℕ) (levels : List (List ℕ)) → Tells m old.disk image
      → ScansFrom old.geometry.size (viewed old image no_pages) owner root levels key None first.leaf
      → StepsOn old.geometry.size (viewed old image no_pages) owner root levels key last walk.leaf result
  along_steps result steps image owner root levels tells scan =
      subst (λ (pages : Pages). StepsOn old.geometry.size pages owner root levels key last walk.leaf result)
      (viewed_same m old a image no_pages along.keeps)
      (subst (λ (g : Geometry). StepsOn g.size (viewed a image no_pages) owner root levels key last walk.leaf result)
      along.keeps.geometry (steps image owner root levels (tells_on m old a image along.keeps tells)
      (subst (λ (g : Geometry). ScansFrom g.size (viewed a image no_pages) owner root levels key last walk.leaf)
      (sym along.keeps.geometry)
      (subst (λ (pages : Pages). ScansFrom old.geometry.size pages owner root levels key last walk.leaf)
      (sym (viewed_same m old a image no_pages along.keeps)) (along.scans image owner root levels tells scan)))))

  -- one more is met
  pub along_next : (step : Step) (e : Entry) → step.found ≡ Some e → e.key ≡ key → e.rec.slot < 65536
      → Reads m a b (Ok step) → IsLeaf a.geometry.size step.walk.leaf
      → TellsSteps m a key last walk (Ok step)
      → IsAlong m old b first key (found ++ e.rec ∷ []) (Some e) step.walk (rank_of e.rec + 1)
  along_next step e is same slot reads leaf steps =
      let whole = along_reads (Ok step) reads in
      record {
        keeps = whole.keeps;
        faults = whole.fault.2;
        online = whole.fault.1;
        leaf = subst (λ (g : Geometry). IsLeaf g.size step.walk.leaf) along.keeps.geometry leaf;
        of_key = record { key_is = same; slot = slot };
        floor_is = refl;
        scans = λ image owner root levels tells scan.
            subst (λ (o : Option Entry). ScansFrom old.geometry.size (viewed old image no_pages) owner root levels key (bound_behind last o) step.walk.leaf) is
            (along_steps (Ok step) steps image owner root levels tells scan).goes_on;
        met = λ image owner root levels tells scan.
            met_next (viewed old image no_pages) root key found last (along.met image owner root levels tells scan) e
            (subst (GivesNext (viewed old image no_pages) root key last) is
            (along_steps (Ok step) steps image owner root levels tells scan).gives) same;
      }

-- ---- the ends of the walk

module _ {D L : Type 0} (m : Meaning D) (counts : CountsNow m) (old a b : Pool D L) (first : Walk) (key : List ℕ)
    (found : List RecId) (last : Option Entry) (walk : Walk) (floor : ℕ)
    (along : IsAlong m old a first key found last walk floor) where
  -- a step that is refused
  pub along_refused : (fault : SpaceFault) (result : Result (Vec RecId Global) SpaceFault)
      → IsErrAnd result (λ f. f ≡ fault)
      → TellsSteps m a key last walk (Err fault)
      → (image : Image) (owner root : ℕ) (levels : List (List ℕ)) → Tells m old.disk image
      → ScansFrom old.geometry.size (viewed old image no_pages) owner root levels key None first.leaf
      → NamesRecords (viewed old image no_pages) root key result
  along_refused fault (Ok x) none steps image owner root levels tells scan = absurd none
  along_refused fault (Err f) same steps image owner root levels tells scan =
      subst (λ (x : SpaceFault). NamesRecords (viewed old image no_pages) root key (Err x)) (sym same)
      (by fault (along_steps m counts old a b first key found last walk floor along (Err fault) steps image owner root levels tells scan))
    where
      by : (fault : SpaceFault)
          → StepsOn old.geometry.size (viewed old image no_pages) owner root levels key last walk.leaf (Err fault)
          → NamesRecords (viewed old image no_pages) root key (Err fault)
      by (Full limit) none = none
      by (OfPage damage) none = none
      by (OfPool f) is = tt

  -- no entry follows, or one of another key
  pub along_ends : (found_now : Vec RecId Global) (step : Step) → found_now.items ≡ found
      → (step.found ≡ None) ⊎ ((e : Entry) × (step.found ≡ Some e) × (e.key ≢ key))
      → TellsSteps m a key last walk (Ok step)
      → (image : Image) (owner root : ℕ) (levels : List (List ℕ)) → Tells m old.disk image
      → ScansFrom old.geometry.size (viewed old image no_pages) owner root levels key None first.leaf
      → AreNamed (viewed old image no_pages) root key found_now.items
  along_ends found_now step is ends steps image owner root levels tells scan =
      subst (AreNamed (viewed old image no_pages) root key) (sym is) (by ends)
    where
      given : GivesNext (viewed old image no_pages) root key last step.found
      given = (along_steps m counts old a b first key found last walk floor along (Ok step) steps image owner root levels tells scan).gives

      by : (step.found ≡ None) ⊎ ((e : Entry) × (step.found ≡ Some e) × (e.key ≢ key))
          → AreNamed (viewed old image no_pages) root key found
      by (inl none) = met_all (viewed old image no_pages) root key found last (along.met image owner root levels tells scan)
          (subst (GivesNext (viewed old image no_pages) root key last) none given)
      by (inr other) = met_before (viewed old image no_pages) root key found last
          (along.met image owner root levels tells scan) other.0
          (subst (GivesNext (viewed old image no_pages) root key last) other.1 given) other.2

-- what is found lies behind the entries that were met
pub found_behind : (key : List ℕ) (bound last found : Option Entry) (e : Entry) → IfSome found (IsInRange key bound)
    → found ≡ Some e → bound ≡ last → IfSome last (λ a. IsBelow a e)
found_behind key bound last found e within is same =
    subst (λ (o : Option Entry). IfSome o (λ a. IsBelow a e)) same
    (subst (λ (o : Option Entry). IfSome o (IsInRange key bound)) is within).1

-- the same walk by other names
pub along_as : {D L : Type 0} (m : Meaning D) (old new : Pool D L) (first : Walk) (key : List ℕ) (found others : List RecId)
    (last : Option Entry) (walk onward : Walk) (floor next : ℕ) → others ≡ found → onward ≡ walk → next ≡ floor
    → IsAlong m old new first key found last walk floor → IsAlong m old new first key others last onward next
along_as m old new first key found others last walk onward floor next same goes is along =
    subst (λ (fs : List RecId). IsAlong m old new first key fs last onward next) (sym same)
    (subst (λ (w : Walk). IsAlong m old new first key found last w next) (sym goes)
    (subst (λ (n : ℕ). IsAlong m old new first key found last walk n) (sym is) along))

-- ---- the call

-- a walk was begun in a tree, and its records are those of the tree
pub records_given : {D L : Type 0} (m : Meaning D) (old a : Pool D L) (root : ℕ) (low bytes key : List ℕ) (walk : Walk)
    (result : Result (Vec RecId Global) SpaceFault) → KeepsStore m old a → low ≡ key → bytes ≡ key
    → ((image : Image) (owner : ℕ) (levels : List (List ℕ)) → Tells m old.disk image
    → IsTree old.geometry.size (viewed old image no_pages) owner root levels
    → ScansFrom old.geometry.size (viewed old image no_pages) owner root levels low None walk.leaf)
    → ((image : Image) (owner root : ℕ) (levels : List (List ℕ)) → Tells m a.disk image
    → ScansFrom a.geometry.size (viewed a image no_pages) owner root levels bytes None walk.leaf
    → NamesRecords (viewed a image no_pages) root bytes result)
    → (image : Image) (owner : ℕ) (levels : List (List ℕ)) → Tells m old.disk image
    → IsTree old.geometry.size (viewed old image no_pages) owner root levels
    → NamesRecords (viewed old image no_pages) root key result
records_given m old a root low bytes key walk result keeps low_is bytes_is starts gives image owner levels tells tree =
    let scan = starts image owner levels tells tree in
    let there = subst (λ (g : Geometry). ScansFrom g.size (viewed a image no_pages) owner root levels bytes None walk.leaf)
    (sym keeps.geometry)
    (subst (λ (pages : Pages). ScansFrom old.geometry.size pages owner root levels bytes None walk.leaf)
    (sym (viewed_same m old a image no_pages keeps))
    (subst (λ (k : List ℕ). ScansFrom old.geometry.size (viewed old image no_pages) owner root levels k None walk.leaf)
    (low_is ∙ sym bytes_is) scan)) in
    subst (λ (k : List ℕ). NamesRecords (viewed old image no_pages) root k result) bytes_is
    (subst (λ (pages : Pages). NamesRecords pages root bytes result) (viewed_same m old a image no_pages keeps)
    (gives image owner root levels (tells_on m old a image keeps tells) there))
