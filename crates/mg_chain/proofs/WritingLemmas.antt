-- What a row of writing calls tells of a cache that was read before it is the same of the cache before
-- that reading.
use Rattle.std.proofs.Common.{◌≡◌, inl, inr, ℕ, List, Option, None, Some, subst, sym}
use Rattle.mg_base.specs.Disk.{Meaning}
use Rattle.mg_base.specs.Image.{Image}
use Rattle.mg_base.specs.declared.geometry.Geometry.{Geometry}
use Rattle.mg_base.specs.declared.numbers.RecId.{RecId}
use Rattle.mg_base.specs.declared.numbers.TxNo.{TxNo}
use Rattle.mg_heap.specs.Changing.{ChangesAtMost, ChangesOne, FreesCellAt, MayHave, PutsCellAt}
use Rattle.mg_heap.specs.Reach.{IsReached}
use Rattle.mg_heap.specs.RoomLaws.{adds_on}
use Rattle.mg_image.specs.Form.{Pages}
use Rattle.mg_pool.specs.Batch.{Changed}
use Rattle.mg_pool.specs.declared.pool.Pool.{Pool}
use Rattle.mg_space.specs.View.{KeepsStore, viewed}
use Rattle.mg_space.specs.ViewLaws.{viewed_on}
use Rattle.mg_version.specs.declared.cell.Link.{Link}
use Rattle.mg_chain.specs.Writing.{FreesAt, Moves, OverwritesOrMoves, PushesCell, PutsAt, PutsVersion, SlotIsReached, Swings, TakesCellOut, TurnsBack, TurnsTo}

module _ {D L : Type 0} (m : Meaning D) (a b : Pool D L) (kept : KeepsStore m a b) (image : Image) where
  seen_on : (batch : Changed) → viewed b image batch ≡ viewed a image batch
  seen_on batch = viewed_on m a b image batch kept

  pub puts_at_on : (old new : Changed) (at : RecId) (bytes : List ℕ) → PutsAt b image old new at bytes
      → PutsAt a image old new at bytes
  puts_at_on old new at bytes it = record {
    one = subst (λ (g : Geometry). ChangesOne g.size old new at.page.0) kept.geometry it.one;
    puts = subst (λ (pages : Pages). PutsCellAt (viewed a image old) pages at bytes) (seen_on new)
        (subst (λ (pages : Pages). PutsCellAt pages (viewed b image new) at bytes) (seen_on old) it.puts);
  }

  pub frees_at_on : (old new : Changed) (at : RecId) → FreesAt b image old new at
      → FreesAt a image old new at
  frees_at_on old new at it = record {
    at_most = subst (λ (g : Geometry). ChangesAtMost g.size old new at.page.0) kept.geometry it.at_most;
    frees = subst (λ (pages : Pages). FreesCellAt (viewed a image old) pages at) (seen_on new)
        (subst (λ (pages : Pages). FreesCellAt pages (viewed b image new) at) (seen_on old) it.frees);
  }

  pub turns_on : (old new : Changed) (rec : RecId) (link : Link) → TurnsTo b image old new rec link
      → TurnsTo a image old new rec link
  turns_on old new rec link it = record {
    bytes = it.bytes;
    spells = it.spells;
    puts = puts_at_on old new rec it.bytes it.puts;
  }

  pub turns_back_on : (old new : Changed) (rec : RecId) (to : Option Link)
      → TurnsBack b image old new rec to → TurnsBack a image old new rec to
  turns_back_on old new rec None it = frees_at_on old new rec it
  turns_back_on old new rec (Some link) it = turns_on old new rec link it

  pub swings_on : (old new : Changed) (rec left : RecId) (to : Option Link)
      → Swings b image old new rec left to → Swings a image old new rec left to
  swings_on old new rec left to it = record {
    turned = it.turned;
    turns = turns_back_on old it.turned rec to it.turns;
    frees = frees_at_on it.turned new left it.frees;
  }

  pub reached_on : (batch : Changed) (owner n : ℕ) (pointers : List ℕ)
      → IsReached (viewed b image batch) owner n pointers → IsReached (viewed a image batch) owner n pointers
  reached_on batch owner n pointers it =
      subst (λ (pages : Pages). IsReached pages owner n pointers) (seen_on batch) it

  pub slot_on : (batch : Changed) (owner page : ℕ) (back : Option Link) (pointers : List ℕ)
      → SlotIsReached (viewed b image batch) owner page back pointers
      → SlotIsReached (viewed a image batch) owner page back pointers
  slot_on batch owner page back pointers it =
      subst (λ (pages : Pages). SlotIsReached pages owner page back pointers) (seen_on batch) it

  pub puts_version_on : (old new : Changed) (owner : ℕ) (bytes : List ℕ) (at : RecId) (pointers : List ℕ)
      → PutsVersion b image old new owner bytes at pointers
      → PutsVersion a image old new owner bytes at pointers
  puts_version_on old new owner bytes at pointers it = record {
    adds = adds_on m a b kept image old new owner bytes at it.adds;
    reached = reached_on new owner at.page.0 pointers it.reached;
  }

  pub pushes_on : (old new : Changed) (rec : RecId) (newest : Link) (owner : ℕ) (bytes : List ℕ)
      (tx : TxNo) → PushesCell b image old new rec newest owner bytes tx
      → PushesCell a image old new rec newest owner bytes tx
  pushes_on old new rec newest owner bytes tx it = record {
    at = it.at;
    pointers = it.pointers;
    put = it.put;
    puts = puts_version_on old it.put owner bytes it.at it.pointers it.puts;
    turned = it.turned;
    turns = turns_on it.put it.turned rec (record { rec = it.at; tx = tx }) it.turns;
    ordered = it.ordered;
  }

  pub moves_on : (old new : Changed) (rec : RecId) (newest : Link) (owner : ℕ) (bytes : List ℕ)
      (tx : TxNo) (back : Option Link) → Moves b image old new rec newest owner bytes tx back
      → Moves a image old new rec newest owner bytes tx back
  moves_on old new rec newest owner bytes tx back it = record {
    at = it.at;
    pointers = it.pointers;
    put = it.put;
    puts = puts_version_on old it.put owner bytes it.at it.pointers it.puts;
    slot_pointers = it.slot_pointers;
    slot_reached = slot_on it.put owner rec.page.0 back it.slot_pointers it.slot_reached;
    freed = it.freed;
    swings = swings_on it.put it.freed rec newest.rec (Some (record { rec = it.at; tx = tx })) it.swings;
    ordered = it.ordered;
  }

  pub overwrites_on : (old new : Changed) (rec : RecId) (newest : Link) (owner : ℕ) (bytes : List ℕ)
      (tx : TxNo) (back : Option Link)
      → OverwritesOrMoves b image old new rec newest owner bytes tx back
      → OverwritesOrMoves a image old new rec newest owner bytes tx back
  overwrites_on old new rec newest owner bytes tx back (inl it) =
      inl (puts_at_on old new newest.rec bytes it)
  overwrites_on old new rec newest owner bytes tx back (inr (no_fit, it)) = inr (
    (λ may. no_fit (subst (λ (pages : Pages). MayHave (pages newest.rec.page.0) newest.rec.slot bytes)
        (sym (seen_on old)) may)),
    moves_on old new rec newest owner bytes tx back it,
  )

  pub takes_out_on : (old new : Changed) (rec : RecId) (newest : Link) (owner : ℕ)
      (back : Option Link) → TakesCellOut b image old new rec newest owner back
      → TakesCellOut a image old new rec newest owner back
  takes_out_on old new rec newest owner back it = record {
    slot_pointers = it.slot_pointers;
    slot_reached = slot_on old owner rec.page.0 back it.slot_pointers it.slot_reached;
    freed = it.freed;
    swings = swings_on old it.freed rec newest.rec back it.swings;
    ordered = it.ordered;
  }
