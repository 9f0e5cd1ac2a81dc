-- Each write of a record takes the engine on to the longer history.
use Rattle.std.proofs.Common.{◌∷◌, refl}
use Rattle.mg_base.specs.Disk.{Meaning}
use Rattle.mg_model.specs.Laws.{OpeningsBegin}
use Rattle.mg_model.specs.Machine.{next_number, state_of}
use Rattle.mg_image.specs.Form.{Form}
use Rattle.mg_image.specs.ReadingLaws.{RowsAreOne}
use Rattle.mg_image_overlay_laws.specs.pages.Kinds.{HasNoSequences}
use Rattle.mg_image_overlay_laws.specs.kept.KeptImages.{keeping}
use Rattle.mg_overlay_laws.specs.BatchLaws.{good_of_pool}
use Rattle.mg_tie_laws.specs.Changed.{cache_over, needs_in}
use Rattle.mg_lasting_laws.specs.Crashes.{HoldsAcknowledged, LeavesSince}
use Rattle.mg_lasting_laws.specs.Lasting.{LastsOn}
use Rattle.mg_lasting_laws.specs.PoolLaws.{needs_are}
use Rattle.mg_pool.specs.Pool.{shown}
use Rattle.mg_engine_step_laws.specs.writes.Batches.{LeavesStates, RowsLast}
use Rattle.mg_engine_step_laws.specs.writes.GoesOn.{FirstsAreRead, MovesAreRead, PoolIsKept, PushesAreRead, ReplacementsAreRead, TakingOutIsRead, WritesGoOn}
use Rattle.mg_engine_step_laws.specs.writes.Reads.{first_bits, first_empty, first_reads, push_bits, push_reads}
use Rattle.mg_engine_step_laws.specs.writes.ReadsMoved.{back_bits, back_reads, move_bits, move_reads}
use Rattle.mg_engine_step_laws.specs.writes.ReadsOwn.{replace_bits, replace_reads}
use Rattle.mg_engine_step_laws.specs.writes.Writes.{WritesStand}
use Rattle.mg_engine_step_laws.specs.writes.WritesLaws.{next_stays, states_stay}

pub pool_is_kept : (form : Form) (D L : Type 0) → PoolIsKept form D L
pool_is_kept form D L size o h state asked session store image chosen every =
    let are = needs_are store.dirty store.graph image asked session in
    good_of_pool (keeping form size o h) state (cache_over store image) (needs_in asked session store)
    are.clean are.dirty every chosen

pub pushes_are_read : (form : Form) → RowsAreOne form.coding → HasNoSequences form → PushesAreRead form
pushes_are_read form one none size o h state pool grown mid changed layout r table orders batch end final p n
    l link c s kept sound row ends pushes of other its_row second = (
      push_reads form one none size state pool grown layout r sound table orders batch end final row ends mid
          changed p n l link pushes of other its_row c s second,
      push_bits form one none size state pool grown layout r sound table orders batch end final row ends mid
          changed p n l link pushes o h kept,
    )

pub firsts_are_read : (form : Form) → RowsAreOne form.coding → HasNoSequences form → FirstsAreRead form
firsts_are_read form one none size o h state pool grown mid changed layout r table orders batch end final p n
    link c s kept sound row ends adds of other its_row second = (
      first_reads form one none size state pool grown layout r sound table orders batch end final row ends mid
          changed p n link adds of other its_row c s second,
      first_bits form one none size state pool grown layout r sound table orders batch end final row ends mid
          changed p n link adds o h kept,
      first_empty form one none size state pool grown layout r sound table orders batch end final row ends mid
          changed p n link adds of other its_row c s second,
    )

pub replacements_are_read : (form : Form) → RowsAreOne form.coding → HasNoSequences form
    → ReplacementsAreRead form
replacements_are_read form one none size state pool changed layout r table p v n d older l c s sound replaces
    first at version slot of of_x other its_row second = (
      replace_reads form one none size state pool layout r sound p n.at table v l d older
          (record { slot = slot; first = first; at = at; version = version }) of changed n refl replaces of_x
          other its_row c s second,
      replace_bits form one none size state pool layout r sound p n.at table v l d older
          (record { slot = slot; first = first; at = at; version = version }) of changed n refl replaces of_x
          other its_row c s second,
    )

pub moves_are_read : (form : Form) → RowsAreOne form.coding → HasNoSequences form → MovesAreRead form
moves_are_read form one none size o h state pool grown mid turned changed layout r table orders batch end final
    p x v n d older l link c s kept sound row ends moves first at version of of_x other its_row second = (
      move_reads form one none size state pool grown layout r sound table orders batch end final row ends mid
          turned changed p x v n l link moves d older first at version of of_x other its_row c s second,
      move_bits form one none size state pool grown layout r sound table orders batch end final row ends mid
          turned changed p x v n l link moves o h kept,
    )

pub taking_out_is_read : (form : Form) → RowsAreOne form.coding → HasNoSequences form → TakingOutIsRead form
taking_out_is_read form one none size state pool turned changed layout r table p x v d older l c s sound takes
    first at version of of_x other second = (
      back_reads form one none size state pool turned changed layout r sound p x table v l takes d older first
          at version of of_x other c s second,
      back_bits form one none size state pool turned changed layout r sound p x table v l takes,
    )

pub writes_go_on : (D L : Type 0) (m : Meaning D) (form : Form) → OpeningsBegin → RowsLast D L m form
    → WritesStand form → WritesGoOn D L m form
writes_go_on D L m form begins last stand o h e s new before after i j batch asked session stands t name key
    row p n older table lasts changed lawful passing no_failure follows written = record {
      stands = stand before.geometry.size o h e s new (shown before.dirty i) (shown after.dirty j) stands t name key row p n older table lawful follows
          written;
      lasts = both.0;
      leaves = both.1;
    }
  where
    leaves : LeavesStates o h e
    leaves = record {
      states = λ u. states_stay o h e t name key row written.entry u (state_of o h u);
      next = next_stays o h e t name key row written.entry (next_number o h);
      quiet = passing;
      no_failure = no_failure;
    }

    both : LastsOn m form o (e ∷ h) after asked session
        × LeavesSince m before.disk after.disk (HoldsAcknowledged form before.dirty.size o h)
    both = last o h e before after i j batch asked session (begins o stands.opening) stands.legal leaves lasts
        changed
