-- A transaction begins: its number is drawn on the pages, and the engine stands for the history with the begin.
use Rattle.std.specs.Prelude.{◌≡◌, ℕ, true, false, Some}
use Rattle.mg_base.specs.Disk.{Meaning}
use Rattle.mg_base.specs.Image.{Image}
use Rattle.mg_base.specs.declared.transaction.TxState.{TxState}
use Rattle.mg_model.specs.declared.event.Mode.{Mode}
use Rattle.mg_model.specs.declared.opening.Opening.{Opening}
use Rattle.mg_model.specs.History.{Begins, Entries, Entry, effect_of}
use Rattle.mg_model.specs.Legal.{IsLawful, is_durable}
use Rattle.mg_image.specs.Form.{Form}
use Rattle.mg_pool.specs.Pool.{IsPool, shown}
use Rattle.mg_pool.specs.declared.pool.Pool.{Pool}
use Rattle.mg_pool_overlay_laws.specs.Needs.{Asked, Sessions}
use Rattle.mg_txlist.specs.declared.list.TxList.{TxList}
use Rattle.mg_tie_laws.specs.DrawTies.{DrawsFrom}
use Rattle.mg_lasting_laws.specs.Crashes.{may_last}
use Rattle.mg_lasting_laws.specs.Lasting.{LastsOn}
use Rattle.mg_engine_step_laws.specs.standing.Following.{FollowsEntry}
use Rattle.mg_engine_step_laws.specs.standing.QuietPages.{FindsAfter, StaySound}
use Rattle.mg_engine_step_laws.specs.standing.Standing.{Standing, Stands}
use Rattle.mg_engine_step_laws.specs.writes.GoesOn.{HasGoneOn}

-- a number that is drawn leaves each sound image sound, with its layout and reading, whatever transactions
-- count as
abbrev pub DrawsStaySound : (D L : Type 0) → Meaning D → Form → Type 0
DrawsStaySound D L m form = (old new : TxList) (before after : Pool D L) (i j : Image)
    (state : ℕ → TxState) → DrawsFrom m old new before after i j
    → StaySound form before.geometry.size state (shown before.dirty i) (shown after.dirty j)

-- a transaction begins
abbrev pub BeginsGoOn : (D L : Type 0) → Meaning D → Form → Type 0
BeginsGoOn D L m form = (o : Opening) (h : Entries) (e : Entry) (t : ℕ) (mode : Mode)
    (s new : Standing) (old now : TxList) (before after : Pool D L) (i j : Image) (asked : Asked)
    (session now_session : Sessions)
    → Stands form before.geometry.size o h s (Some (shown before.dirty i))
    → LastsOn m form o h before asked session → IsPool m before
    → DrawsFrom m old now before after i j → m.tells after.disk ≡ true
    → IsLawful o h e → is_durable e ≡ false → may_last e ≡ false → effect_of e ≡ Begins t mode
    -- it has not asked for its commit, and who has asked keeps the session by which its pages are marked
    → asked t ≡ false → ((u : ℕ) → asked u ≡ true → now_session u ≡ session u)
    → FollowsEntry o h e s new
    → FindsAfter form before.geometry.size o h e s new (shown after.dirty j)
    → HasGoneOn m form before.geometry.size o h e new before after j asked now_session
