-- The stage before any step.
use Rattle.std.proofs.Common.{◌≡◌, ◌≤◌, ℕ, zero, suc, true, false, List, [], Option, None, length, replicate, refl, sym, ap, subst}
use Rattle.std.specs.Prelude.{get_or}
use Rattle.mg_model.specs.declared.opening.Opening.{Opening}
use Rattle.mg_model.specs.Answers.{is_active}
use Rattle.mg_model.specs.Machine.{state_of}
use Rattle.mg_records.specs.Meaning.{Means}
use Rattle.mg_script.specs.declared.line.TheConstants.{SESSIONS}
use Rattle.mg_interleavings.specs.declared.answered.Answered.{Answered}
use Rattle.mg_interleavings.specs.Interleavings.{Interleaves, begins}
use Rattle.mg_interleavings.specs.Standings.{Standing, at_start}
use Rattle.mg_courses.specs.Running.{RunMeans}
use Rattle.mg_pending.specs.declared.pending.Pending.{Pending}
use Rattle.mg_pending.specs.declared.transactions.Transaction.{Transaction}
use Rattle.mg_pending.specs.Standing.{AreReady, StandAt}
use Rattle.mg_pending.specs.Transactions.{no_transactions, number_in, transaction_at}
use Rattle.mg_floor.specs.declared.board.Board.{Board}
use Rattle.mg_floor.specs.declared.stage.Stage.{Stage}
use Rattle.mg_floor.specs.Boards.{IsAtStart, IsBoard, standing_of}
use Rattle.mg_floor.specs.Coming.{IsStage, Stands}
use Rattle.mg_floor.specs.Scripts.{AreOwnLines}

all_none : (n k : ℕ) → ◌≡◌ {A = Option Transaction} (get_or (replicate n None) k None) None
all_none zero k = refl
all_none (suc n) zero = refl
all_none (suc n) (suc k) = all_none n k

at_none : (session : ℕ) → transaction_at no_transactions session ≡ None
at_none session = all_none 17 session

module _ {R P Run : Type 0} (m : Means R P) (runs : RunMeans R Run) (r : R) where
  start_ready : ((session : ℕ) → m.is_free r session) → AreReady m runs r no_transactions []
  start_ready free = record {
    places = refl;
    free = λ session none. free session;
    works = λ session t is. absurd (cc (ap number_in (at_none session), is));
    ready = tt;
    apart = tt;
  }

  start_stand : (o : Opening) → m.stands r o [] → ((t : ℕ) → is_active (state_of o [] t) ≡ false)
      → StandAt m runs r o [] no_transactions [] []
  start_stand o stands none = record {
    stands = stands;
    legal = tt;
    its = λ session. sym (ap number_in (at_none session));
    modes = λ session x is. absurd (cc (at_none session, is));
    active = λ t. none t;
    agree = tt;
  }

standing_at_start : (b : Board) → IsAtStart b → standing_of b [] false ≡ at_start b.scripts.items
standing_at_start b start =
    ap (λ (x : List ℕ × List (List Answered)). record { places = x.0; answers = x.1; pending = []; stopped = false })
    (λ i. (start.places i, start.answers i))

module _ {R P Run : Type 0} (m : Means R P) (runs : RunMeans R Run) (s : Stage R Run)
    (transactions : s.sessions.transactions ≡ no_transactions) (pending : s.sessions.pending.items ≡ []) where
  pub open_ready : ((session : ℕ) → m.is_free s.keeper session) → m.is_size s.keeper s.size ≡ true → IsBoard s.board
      → AreOwnLines s.board.scripts.items → length s.board.scripts.items ≤ SESSIONS → IsStage m runs s
  open_ready free size board own few = record {
    ready = subst (λ (all : List (Option Transaction)). AreReady m runs s.keeper all s.sessions.pending.items)
        (sym transactions)
        (subst (λ (ps : List (Pending Run)). AreReady m runs s.keeper no_transactions ps) (sym pending)
        (start_ready m runs s.keeper free));
    sized = size;
    board = board;
    own = own;
    few = few;
  }

  pub open_stands : IsAtStart s.board → (o : Opening) → m.stands s.keeper o []
      → ((t : ℕ) → is_active (state_of o [] t) ≡ false) → Stands m runs s o [] []
  open_stands start o stands none = record {
    halted = false;
    flows = λ is. refl;
    came = subst (λ (x : Standing). Interleaves o s.size s.board.scripts.items x []) (sym (standing_at_start s.board start))
        begins;
    stand = subst (λ (all : List (Option Transaction)). StandAt m runs s.keeper o [] all s.sessions.pending.items [])
        (sym transactions)
        (subst (λ (ps : List (Pending Run)). StandAt m runs s.keeper o [] no_transactions ps []) (sym pending)
        (start_stand m runs s.keeper o stands none));
  }
