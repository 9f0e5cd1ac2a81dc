-- An engine stands for the history with the entry, once all is taken back.
use Rattle.mg_base.specs.Disk.{Meaning}
use Rattle.mg_engine_step_laws.specs.backs.Midway.{EnginesGoBack}
use Rattle.mg_engine_step_laws.specs.backs.MidwayLaws.{midways_end}
use Rattle.mg_engine_step_laws.specs.backs.ShownEnd.{pages_back}
use Rattle.mg_image.specs.Form.{Form}
use Rattle.mg_lasting_laws.specs.Crashes.{HoldsAcknowledged, LeavesSince}
use Rattle.mg_lasting_laws.specs.Lasting.{LastsOn}
use Rattle.mg_model.specs.Laws.{OpeningsBegin}
use Rattle.mg_pool.specs.Pool.{shown}
use Rattle.mg_engine_step_laws.specs.standing.Following.{StandsOn}
use Rattle.std.proofs.Common.{Some, subst, sym, ℕ, ◌∷◌}

pub engines_go_back : (form : Form) (D L : Type 0) (m : Meaning D) → OpeningsBegin → StandsOn form
    → EnginesGoBack form D L m
engines_go_back form D L m begins on o h e point s new start pool k i has_asked session t whole stands size_is is_pool
    held goes taken lawful follows finds midway shown_ = record {
      stands = on pool.geometry.size o h e s new (Some (shown start.dirty k)) (Some (shown pool.dirty i)) stands lawful
          follows (pages_back form pool.geometry.size o h e point t whole s new (shown start.dirty k)
          (shown pool.dirty i) stands.shows (begins o stands.opening) (lawful, stands.legal) goes.back stands.memory
          goes.active taken follows finds shown_);
      lasts = both.0;
      leaves = subst (λ (n : ℕ). LeavesSince m start.disk pool.disk (HoldsAcknowledged form n o h)) (sym size_is)
          both.1;
    }
  where
    both : LastsOn m form o (e ∷ h) pool has_asked session
        × LeavesSince m start.disk pool.disk (HoldsAcknowledged form pool.geometry.size o h)
    both = midways_end form D L m o h e point s start pool i has_asked session t stands.memory goes is_pool held midway
