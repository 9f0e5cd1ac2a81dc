-- What a keeper collects is collected of the value in which it stands.
use Rattle.std.specs.Prelude.{◌≡◌, ◌⊎◌, Bool, false, Result, Ok, Err, IfOk, OnOk}
use Rattle.std.proofs.Common.{inl, inr}
use Rattle.mg_model.specs.declared.opening.Opening.{Opening}
use Rattle.mg_model.specs.declared.refusal.Refusal.{Refusal}
use Rattle.mg_model.specs.declared.table.Table.{Table}
use Rattle.mg_model.specs.History.{Entries}
use Rattle.mg_records.specs.Meaning.{Means}
use Rattle.mg_tending.specs.Collecting.{Collecting, Collects, CollectsEach, CollectsKey, SpokenIsCollected}
use Rattle.mg_value.specs.declared.value.Value.{Value}
use Rattle.mg_recording.specs.Via.{collecting_via, via}

module _ {R P T : Type 0} (m : Means R P) (c : Collecting R P) (keeper : T → R)
    (knows : T → Opening → Entries → Type 0) (old new : T) (table : Table) where
  -- a record at a place
  pub collects_via : (place : P) (gone : Bool) → Collects m c (keeper old) (keeper new) table place gone
      → Collects (via m keeper knows) (collecting_via c keeper) old new table place gone
  collects_via place gone it = record {
    record_left = λ o h stands has versions kept. let left = it.record_left o h stands.0 has versions kept in record {
      left = left.left;
      kept = left.kept;
      is = left.is;
      is_told = left.is_told;
    };
    other_left = it.other_left;
  }

  pub place_via : (place : P) (result : Result Bool Refusal)
      → IfOk result (λ gone. Collects m c (keeper old) (keeper new) table place gone)
      → IfOk result (λ gone. Collects (via m keeper knows) (collecting_via c keeper) old new table place gone)
  place_via place (Ok gone) it = collects_via place gone it
  place_via place (Err refusal) it = it

  -- the record of a key
  pub key_via : (key : Value) (result : Result Bool Refusal)
      → IfOk result (CollectsKey m c (keeper old) (keeper new) table key)
      → IfOk result (CollectsKey (via m keeper knows) (collecting_via c keeper) old new table key)
  key_via key (Ok gone) it = λ o h stands. on (it o h stands.0)
    where
      on : SpokenIsCollected m c (keeper old) (keeper new) table key gone
          ⊎ (c.silent (keeper old) table key × (gone ≡ false))
          → SpokenIsCollected (via m keeper knows) (collecting_via c keeper) old new table key gone
          ⊎ (c.silent (keeper old) table key × (gone ≡ false))
      on (inl spoken) = inl (record {
        place = spoken.place;
        speaks = spoken.speaks;
        collects = collects_via spoken.place gone spoken.collects;
      })
      on (inr silent) = inr silent
  key_via key (Err refusal) it = it

-- each record of each committed table
pub each_via : {R P T : Type 0} (m : Means R P) (c : Collecting R P) (keeper : T → R)
    (knows : T → Opening → Entries → Type 0) (old new : T) (result : Result (Unit {0}) Refusal)
    → OnOk result (CollectsEach m c (keeper old) (keeper new))
    → OnOk result (CollectsEach (via m keeper knows) (collecting_via c keeper) old new)
each_via m c keeper knows old new (Ok done) it = λ o h stands table committed place has versions kept.
    let left = it o h stands.0 table committed place has versions kept in record {
      left = left.left;
      kept = left.kept;
      is = left.is;
    }
each_via m c keeper knows old new (Err refusal) it = it
