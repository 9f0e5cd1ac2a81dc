-- Laws of the steps of a search.
use Rattle.std.proofs.Common.{◌≡◌, ◌∙◌, ap, refl, sym, subst, ◌+◌, ℕ, suc, List, Result, Ok, Err, arith}
use Rattle.std.specs.Prelude.{IfSome, IsErrAnd}
use Rattle.mg_base.specs.Disk.{Meaning}
use Rattle.mg_base.specs.Image.{Image}
use Rattle.mg_base.specs.declared.damage.Damaged.{Damaged}
use Rattle.mg_base.specs.declared.geometry.TheConstants.{GREATEST_LIMIT}
use Rattle.mg_node.specs.declared.entry.Entry.{Entry}
use Rattle.mg_node.specs.NodePage.{IsBelow, IsNodePage, high_of, right_in}
use Rattle.mg_image.specs.Form.{Pages}
use Rattle.mg_pool.specs.Batch.{Changed}
use Rattle.mg_pool.specs.Fault.{TellsFault}
use Rattle.mg_pool.specs.Pool.{IsPool}
use Rattle.mg_pool.specs.declared.pool.Pool.{Pool}
use Rattle.mg_space.specs.View.{Tells, pool_answer, viewed}
use Rattle.mg_space.specs.ViewLaws.{CountsNow, fault_on, keeps_itself, keeps_on, tells_on}
use Rattle.mg_space.specs.declared.fault.SpaceFault.{SpaceFault}
use Rattle.mg_space.specs.declared.fault.SpaceFault.TheVariants.{Full, Pool as OfPool, Damaged as OfPage}
use Rattle.mg_btree.specs.declared.node.ReadNode.{ReadNode}
use Rattle.mg_btree.specs.Reading.{IsNodeOn, Reads, RefusesNode}
use Rattle.mg_btree.specs.Searching.{BeginsAt, ComesTo, IsShort}
use Rattle.mg_btree.specs.SearchLaws.{begins_node, begins_right, begins_short, begins_some, short_ends, short_right, viewed_same}
use Rattle.mg_btree.specs.Ways.{IsOnWay}

pub way_starts : {D L : Type 0} (m : Meaning D) (store : Pool D L) (batch : Changed)
    (owner level : ℕ) (e : Entry) (page : ℕ) → IsPool m store
    → IsOnWay m store store batch owner level e page page 0
way_starts m store batch owner level e page pool = record {
  keeps = keeps_itself m store pool;
  faults = refl;
  online = λ less. absurd (omega (arith, less));
  begins = λ image root levels tells begins. begins;
  short = λ image root levels left tells begins all.
      let same : left ≡ GREATEST_LIMIT = omega (arith, all) in
      subst (IsShort (viewed store image batch) page) (sym same) (begins_short store.geometry.size (viewed store image batch) owner root levels e level page begins);
}

-- the read of a node after a way
pub way_reads : {D L T : Type 0} (m : Meaning D) → CountsNow m → (old a b : Pool D L) (batch : Changed)
    (owner level : ℕ) (e : Entry) (page at count : ℕ) (result : Result T SpaceFault)
    → IsOnWay m old a batch owner level e page at count → Reads m a b result → Reads m old b result
way_reads m counts old a b batch owner level e page at count result way reads = record {
  keeps = keeps_on m counts old a b way.keeps reads.keeps;
  fault = fault_on m old a b (pool_answer result) way.keeps way.faults reads.fault;
  own = reads.own;
}

-- the damage of a node that was read
pub way_damaged : {D L T S : Type 0} (m : Meaning D) → CountsNow m → (old a b : Pool D L)
    (batch : Changed) (owner level : ℕ) (e : Entry) (page at count : ℕ) (first : Result T SpaceFault)
    (x : T) (damage : Damaged) (result : Result S SpaceFault)
    → IsOnWay m old a batch owner level e page at count → first ≡ Ok x → Reads m a b first
    → IsErrAnd result (λ fault. fault ≡ OfPage damage) → Reads m old b result
way_damaged m counts old a b batch owner level e page at count first x damage (Ok y) way ok reads none =
    absurd none
way_damaged m counts old a b batch owner level e page at count first x damage (Err fault) way ok reads is =
    let whole = way_reads m counts old a b batch owner level e page at count first way reads in
    let told = subst (λ r. TellsFault m old b (pool_answer r)) ok whole.fault in
    rw is (record { keeps = whole.keeps; fault = told; own = tt })

-- the search comes to no damage at a page
pub way_refused : {D L : Type 0} (m : Meaning D) (old a : Pool D L) (batch : Changed)
    (owner level : ℕ) (e : Entry) (page at count : ℕ) (fault : SpaceFault)
    (result : Result ReadNode SpaceFault) → IsOnWay m old a batch owner level e page at count
    → IsErrAnd result (λ f. f ≡ fault)
    → ((image : Image) → Tells m a.disk image
    → RefusesNode owner level at (viewed a image batch at) fault)
    → (image : Image) (root : ℕ) (levels : List (List ℕ)) → Tells m old.disk image
    → BeginsAt old.geometry.size (viewed old image batch) owner root levels e level page
    → ComesTo (viewed old image batch) levels result
way_refused m old a batch owner level e page at count fault (Ok read) way none refuses image root levels
    tells begins = absurd none
way_refused m old a batch owner level e page at count fault (Err f) way same refuses image root levels
    tells begins = subst (λ (x : SpaceFault). ComesTo (viewed old image batch) levels (Err x)) (sym same)
    (by fault (subst (λ (pages : Pages). RefusesNode owner level at (pages at) fault)
    (viewed_same m old a image batch way.keeps) (refuses image (tells_on m old a image way.keeps tells))))
  where
    node : IsNodeOn owner level at (viewed old image batch at)
    node = begins_node old.geometry.size (viewed old image batch) owner root levels e level at
        (way.begins image root levels tells begins)

    by : (fault : SpaceFault) → RefusesNode owner level at (viewed old image batch at) fault
        → ComesTo (viewed old image batch) levels (Err fault)
    by (Full limit) none = none
    by (OfPage damage) refuted = refuted node
    by (OfPool f) is = tt

-- the search goes on to the right
pub way_next : {D L T : Type 0} (m : Meaning D) → CountsNow m → (old a b : Pool D L) (batch : Changed)
    (owner level : ℕ) (e : Entry) (page at count right : ℕ) (result : Result T SpaceFault) (x : T)
    (bytes : List ℕ) → IsOnWay m old a batch owner level e page at count → result ≡ Ok x
    → Reads m a b result
    → ((image : Image) → Tells m a.disk image → bytes ≡ viewed a image batch at)
    → (IsNodePage bytes → IfSome (high_of bytes) (λ fence. IsBelow e fence) → ⊥)
    → right ≡ right_in bytes → IsOnWay m old b batch owner level e page right (count + 1)
way_next m counts old a b batch owner level e page at count right result x bytes way ok reads seen past is =
    let whole = way_reads m counts old a b batch owner level e page at count result way reads in
    let told = subst (λ r. TellsFault m old b (pool_answer r)) ok whole.fault in
    record {
      keeps = whole.keeps;
      faults = told.2;
      online = λ less. told.1;
      begins = λ image root levels tells begins. on image root levels tells (way.begins image root levels tells begins);
      short = λ image root levels left tells begins all.
          let there = way.begins image root levels tells begins in
          subst (λ (n : ℕ). IsShort (viewed old image batch) n left)
          (ap right_in (sym (same image tells)) ∙ sym is)
          (short_right (viewed old image batch) at left
          (begins_some old.geometry.size (viewed old image batch) owner root levels e level at there)
          (way.short image root levels (suc left) tells begins (omega (arith, all))));
    }
  where
    same : (image : Image) → Tells m old.disk image → bytes ≡ viewed old image batch at
    same image tells = seen image (tells_on m old a image way.keeps tells)
        ∙ ap (λ (pages : Pages). pages at) (viewed_same m old a image batch way.keeps)

    on : (image : Image) (root : ℕ) (levels : List (List ℕ)) → Tells m old.disk image
        → BeginsAt old.geometry.size (viewed old image batch) owner root levels e level at
        → BeginsAt old.geometry.size (viewed old image batch) owner root levels e level right
    on image root levels tells there =
        subst (BeginsAt old.geometry.size (viewed old image batch) owner root levels e level)
        (ap right_in (sym (same image tells)) ∙ sym is)
        (begins_right old.geometry.size (viewed old image batch) owner root levels e level at there
        (λ before. past (subst IsNodePage (sym (same image tells)) (begins_node old.geometry.size
        (viewed old image batch) owner root levels e level at there).lawful)
        (subst (λ (b : List ℕ). IfSome (high_of b) (λ fence. IsBelow e fence))
        (sym (same image tells)) before)))

-- a level does not come back
pub way_ends : {D L : Type 0} (m : Meaning D) (old a : Pool D L) (batch : Changed)
    (owner level : ℕ) (e : Entry) (page at count : ℕ)
    → IsOnWay m old a batch owner level e page at count → count ≡ GREATEST_LIMIT
    → (image : Image) (root : ℕ) (levels : List (List ℕ)) → Tells m old.disk image
    → BeginsAt old.geometry.size (viewed old image batch) owner root levels e level page → ⊥
way_ends m old a batch owner level e page at count way all image root levels tells begins =
    begins_some old.geometry.size (viewed old image batch) owner root levels e level at
    (way.begins image root levels tells begins)
    (short_ends (viewed old image batch) at (way.short image root levels 0 tells begins (omega (arith, all))))

-- where it does come back, no fault was met
pub way_circle : {D L T : Type 0} (m : Meaning D) (old a : Pool D L) (batch : Changed)
    (owner level : ℕ) (e : Entry) (page at count : ℕ)
    → IsOnWay m old a batch owner level e page at count → count ≡ GREATEST_LIMIT → (damage : Damaged)
    → Reads {T = T} m old a (Err (OfPage damage))
way_circle m old a batch owner level e page at count way all damage =
    let online = way.online (omega (arith, all)) in
    record {
      keeps = way.keeps;
      fault = (sym way.keeps.offline ∙ online, online, way.faults);
      own = tt;
    }
