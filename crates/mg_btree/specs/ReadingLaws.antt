-- Laws of calls that read index pages.
use Rattle.std.proofs.Common.{◌≡◌, ap, refl, sym, subst, ◌∙◌, ℕ, zero, suc, true, false, List, Result, Ok, Err}
use Rattle.std.specs.Prelude.{◌↔◌, IfOk, IsErrAnd, IsOk, MatchResult}
use Rattle.mg_base.specs.CheckLaws.{passes_from_verdict, verdict_from_passes}
use Rattle.mg_base.specs.Checks.{Check, PassesAll, common_checks, verdict}
use Rattle.mg_base.specs.declared.damage.Damaged.{Damaged}
use Rattle.mg_base.specs.declared.numbers.PageNo.{PageNo}
use Rattle.mg_base.specs.Disk.{Meaning}
use Rattle.mg_base.specs.Fields.{byte}
use Rattle.mg_base.specs.Image.{blank}
use Rattle.mg_node.specs.NodePage.{node_checks}
use Rattle.mg_node.specs.declared.node.Node.{Node}
use Rattle.mg_pool.specs.Fault.{TellsFault}
use Rattle.mg_pool.specs.declared.fault.PoolFault.TheVariants.{Memory}
use Rattle.mg_pool.specs.declared.pool.Pool.{Pool}
use Rattle.mg_space.specs.View.{pool_answer}
use Rattle.mg_space.specs.ViewLaws.{CountsNow, fault_on, keeps_on}
use Rattle.mg_space.specs.declared.fault.SpaceFault.{SpaceFault}
use Rattle.mg_space.specs.declared.fault.SpaceFault.TheVariants.{Full, Pool as OfPool, Damaged as OfPage}
use Rattle.mg_btree.specs.Reading.{IsNodeFrom, IsNodeOn, Reads, RefusesBytes, RefusesContent, RefusesNode}
use Rattle.mg_btree.specs.declared.node.ReadNode.{ReadNode}

blank_byte : (size : ℕ) → byte (blank size) 0 ≡ 0
blank_byte zero = refl
blank_byte (suc size) = refl

kind_is : (bytes : List ℕ) (n owner : ℕ) → PassesAll (node_checks bytes n owner) → byte bytes 0 ≡ 7
unfolding common_checks
kind_is bytes n owner passes = passes.0

-- a page of zeros is no index page
pub blank_is_none : (size owner level n : ℕ) (bytes : List ℕ) → bytes ≡ blank size
    → IsNodeOn owner level n bytes → ⊥
blank_is_none size owner level n bytes is node =
    let kind : byte bytes 0 ≡ 7 = kind_is bytes n owner node.fields in
    let none : byte bytes 0 ≡ 0 = ap (λ (b : List ℕ). byte b 0) is ∙ blank_byte size in
    let both : 7 ≡ 0 = sym kind ∙ none in absurd cc

-- where the bytes of a page were refused its node is
pub refuses_on : (size owner level n : ℕ) (bytes : List ℕ) (fault : SpaceFault)
    (result : Result ReadNode SpaceFault) → IsErrAnd result (λ f. f ≡ fault)
    → RefusesBytes size bytes fault
    → MatchResult result (λ read. read.bytes ≡ bytes) (RefusesNode owner level n bytes)
refuses_on size owner level n bytes fault (Ok read) none is = absurd none
refuses_on size owner level n bytes fault (Err f) same is =
    subst (RefusesNode owner level n bytes) (sym same) (at fault is)
  where
    at : (fault : SpaceFault) → RefusesBytes size bytes fault → RefusesNode owner level n bytes fault
    at (Full limit) none = none
    at (OfPage damage) zero_ = blank_is_none size owner level n bytes zero_
    at (OfPool f) is = tt

-- two calls that have only read are one
pub reads_on : {D L T S : Type 0} (m : Meaning D) → CountsNow m → (a b c : Pool D L)
    (first : Result T SpaceFault) (x : T) (result : Result S SpaceFault) → first ≡ Ok x
    → Reads m a b first → Reads m b c result → Reads m a c result
reads_on m counts a b c first x result ok before then_ =
    let fine = subst (λ r. TellsFault m a b (pool_answer r)) ok before.fault in
    record {
      keeps = keeps_on m counts a b c before.keeps then_.keeps;
      fault = fault_on m a b c (pool_answer result) before.keeps fine.2 then_.fault;
      own = then_.own;
    }

-- a test passes exactly where each of its checks does
pub tells_passes : (page : PageNo) (checks : List Check) (result : Result (Unit {0}) Damaged)
    → result ≡ verdict page checks → IsOk result ↔ PassesAll checks
tells_passes page checks (Ok x) is =
    ((λ fine. passes_from_verdict page checks (sym is)), (λ passes. refl))
tells_passes page checks (Err damage) is = (
  (λ fine. let both : false ≡ true = fine in absurd cc),
  (λ passes. let both : ◌≡◌ {A = Result (Unit {0}) Damaged} (Err damage) (Ok tt) =
      is ∙ verdict_from_passes page checks passes in absurd cc),
)

-- where a call failed nothing is said of what it gives
pub ok_of_err : {T E : Type 0} (P : T → Type 0) (Q : E → Type 0) (result : Result T E) → IsErrAnd result Q
    → IfOk result P
ok_of_err P Q (Ok x) none = absurd none
ok_of_err P Q (Err e) is = tt

-- bytes are not read for want of memory
pub content_wants : (owner level n : ℕ) (bytes : List ℕ) (result : Result Node SpaceFault)
    → IsErrAnd result (λ f. f ≡ OfPool Memory)
    → MatchResult result (IsNodeFrom owner level n bytes) (RefusesContent owner level n bytes)
content_wants owner level n bytes (Ok node) none = absurd none
content_wants owner level n bytes (Err fault) same = rw same refl

-- or they are no node of the level
pub content_damaged : (owner level n : ℕ) (bytes : List ℕ) (damage : Damaged) (result : Result Node SpaceFault)
    → IsErrAnd result (λ f. f ≡ OfPage damage) → (IsNodeOn owner level n bytes → ⊥)
    → MatchResult result (IsNodeFrom owner level n bytes) (RefusesContent owner level n bytes)
content_damaged owner level n bytes damage (Ok node) none is = absurd none
content_damaged owner level n bytes damage (Err fault) same is = rw same is

-- what was refused of bytes that were read is told of the page
pub content_seen : (owner level n : ℕ) (bytes seen : List ℕ) (fault : SpaceFault)
    (result : Result ReadNode SpaceFault) → bytes ≡ seen → IsErrAnd result (λ f. f ≡ fault)
    → RefusesContent owner level n bytes fault
    → MatchResult result (λ read. read.bytes ≡ seen) (RefusesNode owner level n seen)
content_seen owner level n bytes seen fault (Ok read) same none is = absurd none
content_seen owner level n bytes seen fault (Err f) same err is =
    subst (RefusesNode owner level n seen) (sym err) (by fault is)
  where
    by : (fault : SpaceFault) → RefusesContent owner level n bytes fault
        → RefusesNode owner level n seen fault
    by (Full limit) none = none
    by (OfPage damage) refuted = subst (λ (b : List ℕ). IsNodeOn owner level n b → ⊥) same refuted
    by (OfPool f) is = tt

-- and the call has only read
pub content_reads : {D L A : Type 0} (B : Type 0) (m : Meaning D) (old a : Pool D L) (x : A)
    (owner level n : ℕ) (bytes : List ℕ) (fault : SpaceFault) (result : Result B SpaceFault)
    → Reads m old a (Ok x) → IsErrAnd result (λ f. f ≡ fault) → RefusesContent owner level n bytes fault
    → Reads m old a result
content_reads B m old a x owner level n bytes fault (Ok y) reads none is = absurd none
content_reads B m old a x owner level n bytes fault (Err f) reads same is = rw same (by fault is)
  where
    by : (fault : SpaceFault) → RefusesContent owner level n bytes fault → Reads {T = B} m old a (Err fault)
    by (Full limit) none = absurd none
    by (OfPage damage) refuted = record { keeps = reads.keeps; fault = reads.fault; own = tt }
    by (OfPool f) wants = rw wants (record { keeps = reads.keeps; fault = reads.fault; own = tt })
