-- Entries without pages: those after which all states, the next number and the versions are as before, and a
-- rollback, in what the cache is.
use Rattle.std.specs.Prelude.{◌≡◌, ℕ, true, false, ◌∷◌, Some}
use Rattle.mg_base.specs.Disk.{Meaning}
use Rattle.mg_base.specs.Image.{Image}
use Rattle.mg_base.specs.declared.transaction.TxState.TheVariants.{Active, Dead}
use Rattle.mg_model.specs.declared.opening.Opening.{Opening}
use Rattle.mg_model.specs.History.{Ends, Entries, Entry, effect_of}
use Rattle.mg_model.specs.Legal.{IsLawful, is_durable}
use Rattle.mg_model.specs.Machine.{state_of}
use Rattle.mg_image.specs.Form.{Form}
use Rattle.mg_pool.specs.Pool.{shown}
use Rattle.mg_pool.specs.declared.pool.Pool.{Pool}
use Rattle.mg_pool_overlay_laws.specs.Needs.{Asked, Sessions}
use Rattle.mg_lasting_laws.specs.Crashes.{may_last}
use Rattle.mg_lasting_laws.specs.Entries.{is_idle}
use Rattle.mg_lasting_laws.specs.Lasting.{LastsOn}
use Rattle.mg_engine_step_laws.specs.standing.Following.{FollowsEntry}
use Rattle.mg_engine_step_laws.specs.standing.QuietPages.{FindsAfter}
use Rattle.mg_engine_step_laws.specs.standing.Standing.{Standing, Stands}

-- an idle entry: a statement begins, a mark or a savepoint is set, or nothing comes of it, as of each event
-- that was refused, or that only found rows
abbrev pub IdleGoesOn : (D L : Type 0) → Meaning D → Form → Type 0
IdleGoesOn D L m form = (size : ℕ) (o : Opening) (h : Entries) (e : Entry) (s new : Standing)
    (pool : Pool D L) (i : Image) (asked : Asked) (session : Sessions)
    → Stands form size o h s (Some (shown pool.dirty i)) → LastsOn m form o h pool asked session
    → IsLawful o h e → is_durable e ≡ false → may_last e ≡ false → is_idle (effect_of e) ≡ true
    → FollowsEntry o h e s new → FindsAfter form size o h e s new (shown pool.dirty i)
    → Stands form size o (e ∷ h) new (Some (shown pool.dirty i))
    × LastsOn m form o (e ∷ h) pool asked session

-- a rollback: the cache lasts with the history that has it
abbrev pub RollbackLastsOn : (D L : Type 0) → Meaning D → Form → Type 0
RollbackLastsOn D L m form = (o : Opening) (h : Entries) (e : Entry) (t : ℕ) (pool : Pool D L)
    (asked : Asked) (session : Sessions) → is_durable e ≡ false → may_last e ≡ false
    → effect_of e ≡ Ends t Dead → state_of o h t ≡ Active → LastsOn m form o h pool asked session
    → LastsOn m form o (e ∷ h) pool asked session
