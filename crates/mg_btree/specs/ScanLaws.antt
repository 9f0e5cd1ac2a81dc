-- Laws of the steps of a scan along the leaves.
use Rattle.std.proofs.Common.{◌≡◌, ◌≢◌, ◌∙◌, ap, refl, sym, subst, ◌+◌, ℕ, suc, List, [], Option, Some, None, Result, Ok, Err, arith}
use Rattle.std.specs.Prelude.{IfSome, IsErrAnd}
use Rattle.mg_base.specs.Disk.{Meaning}
use Rattle.mg_base.specs.Fields.{u32_at}
use Rattle.mg_base.specs.Image.{Image}
use Rattle.mg_base.specs.declared.damage.Damaged.{Damaged}
use Rattle.mg_base.specs.declared.fields.TheConstants.{OWNER_AT}
use Rattle.mg_base.specs.declared.geometry.TheConstants.{GREATEST_LIMIT}
use Rattle.mg_base.specs.declared.numbers.PageNo.{PageNo}
use Rattle.mg_node.specs.declared.entry.Entry.{Entry}
use Rattle.mg_node.specs.NodePage.{right_in}
use Rattle.mg_image.specs.Form.{Pages}
use Rattle.mg_image.specs.Indexes.{HasEntry, IsTree}
use Rattle.mg_pool.specs.Batch.{Changed}
use Rattle.mg_pool.specs.Pool.{IsPool}
use Rattle.mg_pool.specs.declared.pool.Pool.{Pool}
use Rattle.mg_pool.specs.declared.fault.PoolFault.TheVariants.{Memory}
use Rattle.mg_space.specs.View.{KeepsStore, Tells, pool_answer, viewed}
use Rattle.mg_space.specs.ViewLaws.{CountsNow, fault_on, keeps_itself, keeps_on, tells_on}
use Rattle.mg_space.specs.declared.fault.SpaceFault.{SpaceFault}
use Rattle.mg_space.specs.declared.fault.SpaceFault.TheVariants.{Full, Pool as OfPool, Damaged as OfPage}
use Rattle.mg_btree.specs.declared.node.ReadNode.{ReadNode}
use Rattle.mg_btree.specs.Reading.{IsNodeOn, IsReadNode, Reads, RefusesNode}
use Rattle.mg_btree.specs.Searching.{IsShort}
use Rattle.mg_btree.specs.SearchLaws.{short_ends, short_right, tree_page, tree_short, viewed_same}
use Rattle.mg_btree.specs.Ranges.{FoundOn, GivesRange, IsInRange, LooksOn, ScansFrom, Steps, StepsOn, no_pages, right_by}
use Rattle.mg_btree.specs.Changing.{IsLeaf}
use Rattle.mg_btree.specs.declared.range.Look.TheVariants.{Ends, GoesOn}
use Rattle.mg_btree.specs.declared.range.Step.{Step}
use Rattle.mg_btree.specs.RangeLaws.{goes_right, owner_of_leaf, right_is_node, steps_found, steps_none}
use Rattle.mg_btree.specs.Scans.{IsScanning}

pub scan_starts : {D L : Type 0} (m : Meaning D) (store : Pool D L) (batch : Changed)
    (first : ReadNode) (low : List ℕ) (bound : Option Entry) → IsPool m store → store.offline ≡ None
    → IsLeaf store.geometry.size first → IsScanning m store store batch first first low bound 0
scan_starts m store batch first low bound pool online leaf = record {
  keeps = keeps_itself m store pool;
  faults = refl;
  online = online;
  scans = λ image owner root levels tells scan. scan;
  place = λ image owner root levels tells scan. refl;
  leaf = leaf;
  short = λ image owner root levels left tells scan all.
      let same : left ≡ GREATEST_LIMIT = omega (arith, all) in
      subst (IsShort (viewed store image batch) first.page.0) (sym same)
      (tree_short store.geometry.size (viewed store image batch) owner root levels first.page.0 scan.tree
      scan.placed);
}

module _ {D L : Type 0} (m : Meaning D) (counts : CountsNow m) (old a : Pool D L) (batch : Changed)
    (first read : ReadNode) (low : List ℕ) (bound : Option Entry) (count : ℕ)
    (online : old.offline ≡ None) (scanning : IsScanning m old a batch first read low bound count)
  where
    -- no fault was met so far
    pub scan_fine : {T : Type 0} (x : T) → Reads m old a (Ok x)
    scan_fine x = record {
      keeps = scanning.keeps;
      fault = (online, scanning.online, scanning.faults);
      own = tt;
    }

    pub scan_damaged : {T : Type 0} (damage : Damaged) → Reads {T = T} m old a (Err (OfPage damage))
    scan_damaged damage = record {
      keeps = scanning.keeps;
      fault = (online, scanning.online, scanning.faults);
      own = tt;
    }

    pub scan_memory : {T : Type 0} (result : Result T SpaceFault)
        → IsErrAnd result (λ fault. fault ≡ OfPool Memory) → Reads m old a result
    scan_memory (Ok x) none = absurd none
    scan_memory (Err fault) same = rw same (record {
      keeps = scanning.keeps;
      fault = (online, scanning.online, scanning.faults);
      own = tt;
    })

    pub scan_reads : {T : Type 0} (b : Pool D L) (result : Result T SpaceFault) → Reads m a b result
        → Reads m old b result
    scan_reads b result reads = record {
      keeps = keeps_on m counts old a b scanning.keeps reads.keeps;
      fault = fault_on m old a b (pool_answer result) scanning.keeps scanning.faults reads.fault;
      own = reads.own;
    }

    pub scan_refused : (owner_ : ℕ) (fault : SpaceFault) (result : Result Step SpaceFault)
        → IsErrAnd result (λ f. f ≡ fault) → owner_ ≡ u32_at first.bytes OWNER_AT
        → read.node.right.0 ≢ 0
        → ((image : Image) → Tells m a.disk image
        → RefusesNode owner_ 0 read.node.right.0 (viewed a image batch read.node.right.0) fault)
        → (image : Image) (owner root : ℕ) (levels : List (List ℕ)) → Tells m old.disk image
        → ScansFrom old.geometry.size (viewed old image batch) owner root levels low bound first
        → StepsOn old.geometry.size (viewed old image batch) owner root levels low bound first result
    scan_refused owner_ fault (Ok found) none owner_is some refuses image owner root levels tells scan =
        absurd none
    scan_refused owner_ fault (Err f) same owner_is some refuses image owner root levels tells scan =
        subst (λ (x : SpaceFault). StepsOn old.geometry.size (viewed old image batch) owner root levels low
        bound first (Err x)) (sym same)
        (by fault (subst (λ (pages : Pages). RefusesNode owner_ 0 read.node.right.0 (pages read.node.right.0) fault)
        (viewed_same m old a image batch scanning.keeps) (refuses image (tells_on m old a image scanning.keeps tells))))
      where
        node : IsNodeOn owner_ 0 read.node.right.0 (viewed old image batch read.node.right.0)
        node = subst (λ (k : ℕ). IsNodeOn k 0 read.node.right.0 (viewed old image batch read.node.right.0))
            (sym (owner_is ∙ owner_of_leaf old.geometry.size (viewed old image batch) owner root levels low bound first scan))
            (right_is_node old.geometry.size (viewed old image batch) owner root levels low bound read
            (scanning.scans image owner root levels tells scan) some)

        by : (fault : SpaceFault)
            → RefusesNode owner_ 0 read.node.right.0 (viewed old image batch read.node.right.0) fault
            → StepsOn old.geometry.size (viewed old image batch) owner root levels low bound first (Err fault)
        by (Full limit) none = none
        by (OfPage damage) refuted = refuted node
        by (OfPool f) is = tt

    pub scan_next : (b : Pool D L) (next : ReadNode) (owner_ : ℕ) → Reads m a b (Ok next)
        → ((f : Entry) → HasEntry read.node.entries.items f → IsInRange low bound f → ⊥)
        → read.node.right.0 ≢ 0 → IsReadNode old.geometry.size owner_ 0 read.node.right.0 next
        → ((image : Image) → Tells m a.disk image → next.bytes ≡ viewed a image batch read.node.right.0)
        → IsScanning m old b batch first next low bound (count + 1)
    scan_next b next owner_ reads none some is seen =
        let whole = scan_reads b (Ok next) reads in
        record {
          keeps = whole.keeps;
          faults = whole.fault.2;
          online = whole.fault.1;
          scans = λ image owner root levels tells scan. on image owner root levels tells scan;
          place = λ image owner root levels tells scan.
              let there = scanning.scans image owner root levels tells scan in
              let more : count + 1 ≡ suc count = omega arith in
              is.number ∙ (there.says.right ∙ (ap right_in there.bytes
              ∙ (ap (λ (n : ℕ). right_in (viewed old image batch n))
              (scanning.place image owner root levels tells scan)
              ∙ ap (right_by (viewed old image batch) first.page.0) (sym more))));
          leaf = record { len = is.len; lawful = is.is.lawful; level = is.is.on_level };
          short = λ image owner root levels left tells scan all.
              let there = scanning.scans image owner root levels tells scan in
              subst (λ (n : ℕ). IsShort (viewed old image batch) n left)
              (sym (is.number ∙ (there.says.right ∙ ap right_in there.bytes)))
              (short_right (viewed old image batch) read.page.0 left
              (tree_page old.geometry.size (viewed old image batch) owner root levels read.page.0 there.tree
              there.placed)
              (scanning.short image owner root levels (suc left) tells scan (omega (arith, all))));
        }
      where
        on : (image : Image) (owner root : ℕ) (levels : List (List ℕ)) → Tells m old.disk image
            → ScansFrom old.geometry.size (viewed old image batch) owner root levels low bound first
            → ScansFrom old.geometry.size (viewed old image batch) owner root levels low bound next
        on image owner root levels tells scan =
            goes_right old.geometry.size (viewed old image batch) owner root levels low bound read
            (scanning.scans image owner root levels tells scan) next none some is.number
            (seen image (tells_on m old a image scanning.keeps tells)
            ∙ (ap (λ (pages : Pages). pages read.node.right.0) (viewed_same m old a image batch scanning.keeps)
            ∙ ap (viewed old image batch) (sym is.number))) is.says

    pub scan_ends : count ≡ GREATEST_LIMIT → (image : Image) (owner root : ℕ) (levels : List (List ℕ))
        → Tells m old.disk image
        → ScansFrom old.geometry.size (viewed old image batch) owner root levels low bound first → ⊥
    scan_ends all image owner root levels tells scan =
        let there = scanning.scans image owner root levels tells scan in
        tree_page old.geometry.size (viewed old image batch) owner root levels read.page.0 there.tree
        there.placed (short_ends (viewed old image batch) read.page.0
        (scanning.short image owner root levels 0 tells scan (omega (arith, all))))

    -- the walk ends at a leaf
    pub look_ends : (step : Step) → LooksOn low bound read count (Ends step) → (image : Image)
        (owner root : ℕ) (levels : List (List ℕ)) → Tells m old.disk image
        → ScansFrom old.geometry.size (viewed old image batch) owner root levels low bound first
        → Steps old.geometry.size (viewed old image batch) owner root levels low bound first step
    look_ends step (None, is, last) image owner root levels tells scan =
        steps_none old.geometry.size (viewed old image batch) owner root levels low bound read
        (scanning.scans image owner root levels tells scan) first count step is last.0 last.1
        (scanning.place image owner root levels tells scan)
    look_ends step (Some e, is, found) image owner root levels tells scan =
        steps_found old.geometry.size (viewed old image batch) owner root levels low bound read
        (scanning.scans image owner root levels tells scan) first count e step is found
        (scanning.place image owner root levels tells scan)

    pub look_leaf : (step : Step) → LooksOn low bound read count (Ends step)
        → IsLeaf old.geometry.size step.walk.leaf
    look_leaf step (found, is, there) =
        subst (λ (s : Step). IsLeaf old.geometry.size s.walk.leaf) (sym is) scanning.leaf

    -- or it goes on to the right neighbour, which is refused
    pub look_refused : (passed : ℕ) (right : PageNo) (owner_ : ℕ) (fault : SpaceFault)
        (result : Result Step SpaceFault) → LooksOn low bound read passed (GoesOn right)
        → IsErrAnd result (λ f. f ≡ fault) → owner_ ≡ u32_at first.bytes OWNER_AT
        → ((image : Image) → Tells m a.disk image
        → RefusesNode owner_ 0 right.0 (viewed a image batch right.0) fault)
        → (image : Image) (owner root : ℕ) (levels : List (List ℕ)) → Tells m old.disk image
        → ScansFrom old.geometry.size (viewed old image batch) owner root levels low bound first
        → StepsOn old.geometry.size (viewed old image batch) owner root levels low bound first result
    look_refused passed right owner_ fault result (same, some, none) err owner_is refuses =
        scan_refused owner_ fault result err owner_is some
        (λ image tells. subst (λ (n : PageNo). RefusesNode owner_ 0 n.0 (viewed a image batch n.0) fault) same
        (refuses image tells))

    -- or read
    pub look_next : (passed : ℕ) (right : PageNo) (b : Pool D L) (next : ReadNode) (owner_ : ℕ)
        → LooksOn low bound read passed (GoesOn right) → Reads m a b (Ok next)
        → IsReadNode a.geometry.size owner_ 0 right.0 next
        → ((image : Image) → Tells m a.disk image → next.bytes ≡ viewed a image batch right.0)
        → IsScanning m old b batch first next low bound (count + 1)
    look_next passed right b next owner_ (same, some, none) reads is seen =
        scan_next b next owner_ reads none some
        (subst (λ (n : ℕ). IsReadNode old.geometry.size owner_ 0 n next) (ap (λ n. n.0) same)
        (subst (λ (size : ℕ). IsReadNode size owner_ 0 right.0 next)
        (ap (λ g. g.size) scanning.keeps.geometry) is))
        (λ image tells. seen image tells ∙ ap (λ (n : PageNo). viewed a image batch n.0) same)

    -- a step that wants memory tells nothing of the tree
    pub look_wants : (result : Result Step SpaceFault) → IsErrAnd result (λ fault. fault ≡ OfPool Memory)
        → (image : Image) (owner root : ℕ) (levels : List (List ℕ)) → Tells m old.disk image
        → ScansFrom old.geometry.size (viewed old image batch) owner root levels low bound first
        → StepsOn old.geometry.size (viewed old image batch) owner root levels low bound first result
    look_wants (Ok step) none image owner root levels tells scan = absurd none
    look_wants (Err fault) same image owner root levels tells scan = rw same tt

pub err_is : {B : Type 0} (fault : SpaceFault) (result : Result B SpaceFault)
    → IsErrAnd result (λ f. f ≡ fault) → result ≡ Err fault
err_is fault (Ok x) none = absurd none
err_is fault (Err f) same = rw same refl

-- the same fault of two kinds of calls
err_as : {D L A B : Type 0} (m : Meaning D) (old new : Pool D L) (fault : SpaceFault)
    → Reads {T = A} m old new (Err fault) → Reads {T = B} m old new (Err fault)
err_as m old new (Full limit) reads =
    record { keeps = reads.keeps; fault = reads.fault; own = reads.own }
err_as m old new (OfPage damage) reads =
    record { keeps = reads.keeps; fault = reads.fault; own = reads.own }
err_as m old new (OfPool fault) reads =
    record { keeps = reads.keeps; fault = reads.fault; own = reads.own }

pub reads_err : {D L B : Type 0} (A : Type 0) (m : Meaning D) (old new : Pool D L) (fault : SpaceFault)
    (result : Result B SpaceFault) → IsErrAnd result (λ f. f ≡ fault)
    → Reads {T = A} m old new (Err fault) → Reads m old new result
reads_err A m old new fault (Ok x) none reads = absurd none
reads_err A m old new fault (Err f) same reads = rw same (err_as m old new fault reads)

-- what is given is what a step found
abbrev pub FoundBy : Result Step SpaceFault → Result (Option Entry) SpaceFault → Type 0
FoundBy (Ok step) result = result ≡ Ok step.found
FoundBy (Err fault) result = result ≡ Err fault

found_by : (size : ℕ) (pages : Pages) (owner root : ℕ) (levels : List (List ℕ)) (low : List ℕ)
    (bound : Option Entry) (start : ReadNode) (steps : Result Step SpaceFault)
    (result : Result (Option Entry) SpaceFault) → FoundBy steps result
    → StepsOn size pages owner root levels low bound start steps → GivesRange pages root low bound result
found_by size pages owner root levels low bound start (Ok step) result is steps = rw is steps.gives
found_by size pages owner root levels low bound start (Err (Full limit)) result is none = absurd none
found_by size pages owner root levels low bound start (Err (OfPage damage)) result is none = absurd none
found_by size pages owner root levels low bound start (Err (OfPool fault)) result is steps = rw is tt

-- a range is scanned from the leaf at which it begins
pub range_gives : {D L : Type 0} (m : Meaning D) (old a : Pool D L) (batch : Changed) (page : ℕ)
    (low : List ℕ) (bound : Option Entry) (start : ReadNode) (steps : Result Step SpaceFault)
    (result : Result (Option Entry) SpaceFault) → FoundBy steps result → KeepsStore m old a → batch.pages ≡ []
    → ((image : Image) (owner : ℕ) (levels : List (List ℕ)) → Tells m old.disk image
    → IsTree old.geometry.size (viewed old image batch) owner page levels
    → ScansFrom old.geometry.size (viewed old image batch) owner page levels low bound start)
    → ((image : Image) (owner root : ℕ) (levels : List (List ℕ)) → Tells m a.disk image
    → ScansFrom a.geometry.size (viewed a image batch) owner root levels low bound start
    → StepsOn a.geometry.size (viewed a image batch) owner root levels low bound start steps)
    → (image : Image) (owner : ℕ) (levels : List (List ℕ)) → Tells m old.disk image
    → IsTree old.geometry.size (viewed old image no_pages) owner page levels
    → GivesRange (viewed old image no_pages) page low bound result
range_gives m old a batch page low bound start steps result is keeps empty starts gives image owner levels
    tells tree =
    subst (λ (pages : Pages). GivesRange pages page low bound result)
    (viewed_same m old a image batch keeps ∙ plain)
    (found_by a.geometry.size (viewed a image batch) owner page levels low bound start steps result is (gives image owner page levels (tells_on m old a image keeps tells)
    (subst (λ (pages : Pages). ScansFrom a.geometry.size pages owner page levels low bound start)
    (sym (viewed_same m old a image batch keeps))
    (subst (λ (size : ℕ). ScansFrom size (viewed old image batch) owner page levels low bound start)
    (sym (ap (λ g. g.size) keeps.geometry)) (starts image owner levels tells
    (subst (λ (pages : Pages). IsTree old.geometry.size pages owner page levels) (sym plain) tree))))))
  where
    plain : viewed old image batch ≡ viewed old image no_pages
    plain = rw empty refl

-- what a leaf gives of a range lies in it
pub look_within : (low : List ℕ) (bound : Option Entry) (read : ReadNode) (passed : ℕ) (step : Step)
    → LooksOn low bound read passed (Ends step) → IfSome step.found (IsInRange low bound)
look_within low bound read passed step looks =
    subst (λ (s : Step). IfSome s.found (IsInRange low bound)) (sym looks.1) (by looks.0 looks.2)
  where
    by : (found : Option Entry) → FoundOn low bound read found → IfSome found (IsInRange low bound)
    by None on = tt
    by (Some e) on = on.within
