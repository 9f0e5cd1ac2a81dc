-- The cache of an engine before a batch and after it, as the laws on overlays and those of an engine take it.
use Rattle.mg_base.specs.Disk.{Meaning}
use Rattle.mg_base.specs.Image.{Image}
use Rattle.mg_base.specs.declared.transaction.TxState.{TxState}
use Rattle.mg_engine_step_laws.specs.writes.Batches.{ChangesRow}
use Rattle.mg_engine_step_laws.specs.writes.GoesOnLaws.{pool_is_kept}
use Rattle.mg_engine_step_laws.specs.writes.Knowing.{WasChanged}
use Rattle.mg_image.specs.Form.{Form}
use Rattle.mg_image_overlay_laws.specs.kept.KeptImages.{IsKept}
use Rattle.mg_lasting_laws.specs.Lasting.{LastsOn}
use Rattle.mg_model.specs.History.{Entries}
use Rattle.mg_model.specs.Machine.{state_of}
use Rattle.mg_model.specs.Openings.{everyone}
use Rattle.mg_model.specs.declared.opening.Opening.{Opening}
use Rattle.mg_overlay_laws.specs.Overlays.{left_state}
use Rattle.mg_pool.specs.Batch.{Changed}
use Rattle.mg_pool.specs.Pool.{IsPool, shown}
use Rattle.mg_pool.specs.declared.pool.Pool.{Pool}
use Rattle.mg_pool_overlay_laws.specs.Needs.{Asked, Sessions}
use Rattle.mg_tie_laws.specs.Changed.{KeptIn}
use Rattle.mg_engine_step_laws.specs.standing.Standing.{Remembers, Standing}
use Rattle.mg_image_overlay_laws.specs.pages.DataKept.{KeepsBits}
use Rattle.std.proofs.Common.{Some, subst, sym, ℕ, ◌∙◌, ◌≡◌}
use Rattle.std.proofs.Math.Path.{fun_ext}

-- every overlay is kept, by what has become of each transaction in memory
pub kept_from : {D L : Type 0} (m : Meaning D) (form : Form) (o : Opening) (h : Entries) (s : Standing)
    (store : Pool D L) (i : Image) (asked : Asked) (session : Sessions) → Remembers o h s → IsPool m store
    → m.held store.disk ≡ Some i → LastsOn m form o h store asked session
    → KeptIn form store.geometry.size o h s.state asked session store i
kept_from m form o h s store i asked session memory pool held lasts =
    subst (λ (state : ℕ → TxState). KeptIn form store.geometry.size o h state asked session store i)
    (sym (fun_ext memory.state)) (subst (λ (size : ℕ). KeptIn form size o h (state_of o h) asked session store i)
    pool.page_size (subst (λ (k : Image). KeptIn form store.dirty.size o h (state_of o h) asked session store k)
    same lasts.lasts.every))
  where
    same : lasts.image ≡ i
    same = let both : Some lasts.image ≡ Some i = sym lasts.held ∙ held in cc

module _ {D L : Type 0} (m : Meaning D) (form : Form) (o : Opening) (h : Entries) (s : Standing)
    (before after : Pool D L) (i j : Image) (batch : Changed) (asked : Asked) (session : Sessions)
    (memory : Remembers o h s) (was : WasChanged m before after i j batch)
    (lasts : LastsOn m form o h before asked session) where
  pub kept_now : KeptIn form before.geometry.size o h s.state asked session before i
  kept_now = kept_from m form o h s before i asked session memory was.pool was.changes.tells.held lasts

  -- so is the pool's own image, where all active ones count
  pub pool_now : IsKept form before.geometry.size o h (left_state everyone s.state) (shown before.dirty i)
      (shown before.dirty i)
  pool_now = pool_is_kept form D L before.geometry.size o h s.state asked session before i everyone kept_now

  pub pool_later : (later : Entries) → KeptIn form before.geometry.size o later s.state asked session after j
      → IsKept form before.geometry.size o later (left_state everyone s.state) (shown after.dirty j)
      (shown after.dirty j)
  pool_later later kept =
      pool_is_kept form D L before.geometry.size o later s.state asked session after j everyone kept

  -- the batch, as the laws of an engine take it
  pub row_changed : (later : Entries) → KeepsBits before.geometry.size (shown before.dirty i) (shown after.dirty j)
      → KeptIn form before.geometry.size o later s.state asked session after j
      → ChangesRow m form o h later before after i j batch asked session
  row_changed later bits kept = record {
    pool = was.pool;
    changes = was.changes;
    crash = was.crash;
    tells = was.tells;
    bits = bits;
    kept = subst (λ (state : ℕ → TxState). KeptIn form before.geometry.size o later state asked session after j)
        (fun_ext memory.state) kept;
  }
