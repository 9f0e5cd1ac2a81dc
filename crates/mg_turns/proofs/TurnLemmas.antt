-- Several statements go on, one behind another.
use Rattle.std.proofs.Common.{◌≡◌, ℕ, true, false, List, [], Option, None, Some}
use Rattle.mg_model.specs.declared.opening.Opening.{Opening}
use Rattle.mg_model.specs.History.{Entries}
use Rattle.mg_records.specs.Crashing.{CrashesHold, HoldsOn}
use Rattle.mg_records.specs.Meaning.{Means}
use Rattle.mg_script.specs.declared.line.LineKind.{LineKind}
use Rattle.mg_script.specs.declared.reply.Reply.{Reply}
use Rattle.mg_transcript.specs.declared.turn.Spoken.{Spoken}
use Rattle.mg_transcript.specs.Lines.{Does, stops}
use Rattle.mg_transcript.specs.Lines as line
use Rattle.mg_transcript.specs.Sessions.{Unfinished}
use Rattle.mg_courses.specs.CarryLaws.{carries_none, carries_then}
use Rattle.mg_courses.specs.Running.{RunMeans}
use Rattle.mg_pending.specs.declared.pending.Pending.{Pending}
use Rattle.mg_pending.specs.declared.transactions.Transaction.{Transaction}
use Rattle.mg_pending.specs.AgreeLaws.{all_wait}
use Rattle.mg_pending.specs.Statements.{PassesNowhere, is_released}
use Rattle.mg_sessions.specs.Coming.{ComesTo}
use Rattle.mg_turns.specs.Turns.{LetsGo, Turned}
use Rattle.mg_turns.specs.declared.turn.TurnEnd.{TurnEnd}
use Rattle.mg_turns.specs.declared.turn.TurnEnd.TheVariants.{Whole, Stopped, NoRoom}

module _ {R P Run : Type 0} (m : Means R P) (runs : RunMeans R Run) where
  -- none has gone on yet
  pub lets_none : CrashesHold m → (r : R) (all : List (Option Transaction)) (ps : List (Pending Run))
      (before : List Spoken) → LetsGo m runs r r all ps all ps before before None
  lets_none crashes r all ps before o h us stand first size pending kind reply acts flows = record {
    after = h;
    then_ = us;
    does = record { acts = acts; ends = flows };
    stand = stand;
    carries = carries_none m crashes r o h stand.stands;
  }

  -- memory is short
  pub lets_short : CrashesHold m → (r : R) (all : List (Option Transaction)) (ps : List (Pending Run))
      (before : List Spoken) → LetsGo m runs r r all ps all ps before before (Some NoRoom)
  lets_short crashes r all ps before o h us stand first size pending kind reply acts flows = record {
    after = h;
    then_ = us;
    does = record { acts = acts; ends = flows };
    stand = stand;
    carries = carries_none m crashes r o h stand.stands;
  }

  module _ (lasts : HoldsOn m) (old mid new : R) (all all' all'' : List (Option Transaction))
      (ps ps' ps'' : List (Pending Run)) (before between released : List Spoken) (end : Option TurnEnd) where
    -- some more go on
    pub lets_then : LetsGo m runs old mid all ps all' ps' before between None
        → LetsGo m runs mid new all' ps' all'' ps'' between released end
        → LetsGo m runs old new all ps all'' ps'' before released end
    lets_then one two o h us stand first size pending kind reply acts flows =
        let came = one o h us stand first size pending kind reply acts flows in
        let more = two o came.after came.then_ came.stand first size pending kind reply came.does.acts
        came.does.ends in record {
          after = more.after;
          then_ = more.then_;
          does = more.does;
          stand = more.stand;
          carries = carries_then m lasts old mid new o h came.after more.after came.carries more.carries;
        }

  -- none is left
  pub lets_whole : (old new : R) (all all' : List (Option Transaction)) (ps ps' : List (Pending Run))
      (before released : List Spoken) → PassesNowhere (is_released all') ps'
      → LetsGo m runs old new all ps all' ps' before released None
      → LetsGo m runs old new all ps all' ps' before released (Some Whole)
  lets_whole old new all all' ps ps' before released none one o h us stand first size pending kind reply acts
      flows =
      let came = one o h us stand first size pending kind reply acts flows in record {
        after = came.after;
        then_ = came.then_;
        does = record {
          acts = came.does.acts;
          ends = record {
            flows = came.does.ends;
            all_wait = all_wait m runs new o came.after all' ps' came.then_ came.stand none;
          };
        };
        stand = came.stand;
        carries = came.carries;
      }

  -- a line was obeyed, and the run stops by what it was answered
  pub obeyed_stops : (old new : R) (all' : List (Option Transaction)) (ps' : List (Pending Run)) (o : Opening)
      (h : Entries) (size : ℕ) (us : List Unfinished) (kind : LineKind) (reply : Reply) → stops reply ≡ true
      → ComesTo m runs old new o h all' ps' (Does o h size us kind reply)
      → ComesTo m runs old new o h all' ps' (Turned o h size us kind reply [] (Some Stopped))
  obeyed_stops old new all' ps' o h size us kind reply stops_ came = record {
    after = came.after;
    then_ = came.then_;
    does = record { acts = line.itself reply came.after came.then_ came.does; ends = stops_ };
    stand = came.stand;
    carries = came.carries;
  }

  -- or statements go on behind it
  pub obeyed_then : HoldsOn m → (old mid new : R) (all' all'' : List (Option Transaction))
      (ps' ps'' : List (Pending Run)) (o : Opening) (h : Entries) (size : ℕ) (us : List Unfinished)
      (kind : LineKind) (reply : Reply) (released : List Spoken) (end : TurnEnd) → stops reply ≡ false
      → ComesTo m runs old mid o h all' ps' (Does o h size us kind reply)
      → LetsGo m runs mid new all' ps' all'' ps'' [] released (Some end)
      → ComesTo m runs old new o h all'' ps'' (Turned o h size us kind reply released (Some end))
  obeyed_then lasts old mid new all' all'' ps' ps'' o h size us kind reply released end flows came lets =
      let more = lets o came.after came.then_ came.stand h size us kind reply
      (line.itself reply came.after came.then_ came.does) flows in record {
        after = more.after;
        then_ = more.then_;
        does = more.does;
        stand = more.stand;
        carries = carries_then m lasts old mid new o h came.after more.after came.carries more.carries;
      }
