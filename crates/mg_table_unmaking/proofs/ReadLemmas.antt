-- What a row of calls tells of a cache that was read before it is the same of the cache before that reading.
use Rattle.std.proofs.Common.{◌≡◌, ℕ, List, Option, None, Some, Result, Ok, Err, subst, sym}
use Rattle.std.specs.Prelude.{IsErr, IsErrAnd, MatchResult}
use Rattle.mg_base.specs.Disk.{Meaning}
use Rattle.mg_base.specs.Image.{Image}
use Rattle.mg_base.specs.declared.geometry.Geometry.{Geometry}
use Rattle.mg_base.specs.declared.numbers.RecId.{RecId}
use Rattle.mg_chain.specs.Writing.{FreesAt, PutsAt, SlotIsReached, TakesOut, HasNewest, TurnsBack}
use Rattle.mg_heap.specs.Changing.{ChangesAtMost, ChangesOne, FreesCellAt, PutsCellAt}
use Rattle.mg_image.specs.Form.{Pages}
use Rattle.mg_pool.specs.Batch.{Changed}
use Rattle.mg_pool.specs.declared.pool.Pool.{Pool}
use Rattle.mg_space.specs.View.{KeepsStore, Tells, viewed}
use Rattle.mg_space.specs.ViewLaws.{tells_on, viewed_on}
use Rattle.mg_space.specs.declared.fault.SpaceFault.{SpaceFault}
use Rattle.mg_version.specs.declared.cell.Link.{Link}

-- a fault that a call met is handed on
pub handed_on : {T : Type 0} (result : Result T SpaceFault) (fault : SpaceFault)
    (P : T → Type 0) (Q : SpaceFault → Type 0) → IsErr result
    → IsErrAnd result (λ given. given ≡ fault) → Q fault → MatchResult result P Q
handed_on (Ok x) fault P Q err is holds = absurd cc
handed_on (Err e) fault P Q err is holds = subst Q (sym is) holds

-- what is seen once pages were read was seen before
pub as_before : {D L : Type 0} (m : Meaning D) (a b : Pool D L) (image : Image) (batch : Changed)
    (P : Pages → Type 0) → KeepsStore m a b → Tells m a.disk image
    → (Tells m b.disk image → P (viewed b image batch)) → P (viewed a image batch)
as_before m a b image batch P kept tells later =
    subst P (viewed_on m a b image batch kept) (later (tells_on m a b image kept tells))

module _ {D L : Type 0} (m : Meaning D) (a b : Pool D L) (kept : KeepsStore m a b) (image : Image) where
  seen_on : (batch : Changed) → viewed b image batch ≡ viewed a image batch
  seen_on batch = viewed_on m a b image batch kept

  puts_at_on : (old new : Changed) (at : RecId) (bytes : List ℕ) → PutsAt b image old new at bytes
      → PutsAt a image old new at bytes
  puts_at_on old new at bytes it = record {
    one = subst (λ (g : Geometry). ChangesOne g.size old new at.page.0) kept.geometry it.one;
    puts = subst (λ (pages : Pages). PutsCellAt (viewed a image old) pages at bytes) (seen_on new)
        (subst (λ (pages : Pages). PutsCellAt pages (viewed b image new) at bytes) (seen_on old) it.puts);
  }

  frees_at_on : (old new : Changed) (at : RecId) → FreesAt b image old new at → FreesAt a image old new at
  frees_at_on old new at it = record {
    at_most = subst (λ (g : Geometry). ChangesAtMost g.size old new at.page.0) kept.geometry it.at_most;
    frees = subst (λ (pages : Pages). FreesCellAt (viewed a image old) pages at) (seen_on new)
        (subst (λ (pages : Pages). FreesCellAt pages (viewed b image new) at) (seen_on old) it.frees);
  }

  turns_back_on : (old new : Changed) (rec : RecId) (to : Option Link)
      → TurnsBack b image old new rec to → TurnsBack a image old new rec to
  turns_back_on old new rec None it = frees_at_on old new rec it
  turns_back_on old new rec (Some link) it = record {
    bytes = it.bytes;
    spells = it.spells;
    puts = puts_at_on old new rec it.bytes it.puts;
  }

  slot_on : (batch : Changed) (owner page : ℕ) (back : Option Link) (pointers : List ℕ)
      → SlotIsReached (viewed b image batch) owner page back pointers
      → SlotIsReached (viewed a image batch) owner page back pointers
  slot_on batch owner page back pointers it =
      subst (λ (pages : Pages). SlotIsReached pages owner page back pointers) (seen_on batch) it

  -- the newest version of a record was taken out
  pub takes_out_on : (old new : Changed) (rec : RecId) → TakesOut b image old new rec → TakesOut a image old new rec
  takes_out_on old new rec it = record {
    newest = it.newest;
    owner = it.owner;
    was = it.was;
    its = subst (λ (pages : Pages). HasNewest pages rec it.newest it.owner it.was) (seen_on old) it.its;
    taken = record {
      slot_pointers = it.taken.slot_pointers;
      slot_reached = slot_on old it.owner rec.page.0 it.was.back it.taken.slot_pointers it.taken.slot_reached;
      freed = it.taken.freed;
      swings = record {
        turned = it.taken.swings.turned;
        turns = turns_back_on old it.taken.swings.turned rec it.was.back it.taken.swings.turns;
        frees = frees_at_on it.taken.swings.turned it.taken.freed it.newest.rec it.taken.swings.frees;
      };
      ordered = it.taken.ordered;
    };
  }
