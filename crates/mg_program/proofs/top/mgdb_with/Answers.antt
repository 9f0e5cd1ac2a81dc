use Rattle.std.proofs.Common.{refl}
use Rattle.mg_words.specs.Words.{texts}
use Rattle.mg_commands.specs.declared.program.ProgramCommand.TheVariants.{ListLimbo, Run, Stat}
use Rattle.mg_program.proofs.ListingLemmas.{asked_one, lists_one, looked_no_usage, looked_range, tells_one}
use Rattle.mg_program.proofs.TopLemmas.{never_usage, range_of}
use Rattle.mg_program.proofs.top.mgdb_with.Goals as goal

-- ---- no command line

pub returns-in_default-clause-runs : goal.returns-in_default-clause-runs
returns-in_default-clause-runs g c = λ asked is. absurd (c.in_default.ensures (Run asked, is))

pub returns-in_default-clause-lists : goal.returns-in_default-clause-lists
returns-in_default-clause-lists g c = λ is. absurd (c.in_default.ensures (ListLimbo, is))

pub returns-in_default-clause-tells : goal.returns-in_default-clause-tells
returns-in_default-clause-tells g c = λ is. absurd (c.in_default.ensures (Stat, is))

-- ---- a run

pub returns-in-Run-clause-usage : goal.returns-in-Run-clause-usage
returns-in-Run-clause-usage g c = (
  λ two. absurd (never_usage c.run_asked-end.result.0 c.status.result c.status.ensures two),
  λ none. absurd (none (c.in-Some.command, c.in-Some.ensures)),
)

pub returns-in-Run-clause-untouched : goal.returns-in-Run-clause-untouched
returns-in-Run-clause-untouched g c = λ two. absurd (never_usage c.run_asked-end.result.0 c.status.result c.status.ensures two)

pub returns-in-Run-clause-runs : goal.returns-in-Run-clause-runs
returns-in-Run-clause-runs g c = λ asked is. record {
  asked = c.in-Run.asked;
  is_run = asked_one (texts c.args.words.now) c.in-Some.command c.in-Run.asked c.in-Run.is c.in-Some.ensures;
  end = c.run_asked-end.result.0;
  status_is = c.status.ensures;
  runs = c.run_asked-end.ensures;
}

pub returns-in-Run-clause-lists : goal.returns-in-Run-clause-lists
returns-in-Run-clause-lists g c = λ is. absurd (c.run_lines_list_none.ensures (texts c.args.words.now) c.in-Run.asked
    (asked_one (texts c.args.words.now) c.in-Some.command c.in-Run.asked c.in-Run.is c.in-Some.ensures) is)

pub returns-in-Run-clause-tells : goal.returns-in-Run-clause-tells
returns-in-Run-clause-tells g c = λ is. absurd (c.stat_lines_ask_once.ensures.runs (texts c.args.words.now) c.in-Run.asked
    (asked_one (texts c.args.words.now) c.in-Some.command c.in-Run.asked c.in-Run.is c.in-Some.ensures) is)

pub returns-in-Run-clause-range : goal.returns-in-Run-clause-range
returns-in-Run-clause-range g c = range_of c.run_asked-end.result.0 c.status.result c.status.ensures

-- ---- a list

pub returns-in-ListLimbo-clause-usage : goal.returns-in-ListLimbo-clause-usage
returns-in-ListLimbo-clause-usage g c = (
  λ two. absurd (looked_no_usage c.list_limbo-end.result.0 c.status-in-ListLimbo.result c.status-in-ListLimbo.ensures two),
  λ none. absurd (none (c.in-Some.command, c.in-Some.ensures)),
)

pub returns-in-ListLimbo-clause-untouched : goal.returns-in-ListLimbo-clause-untouched
returns-in-ListLimbo-clause-untouched g c =
    λ two. absurd (looked_no_usage c.list_limbo-end.result.0 c.status-in-ListLimbo.result c.status-in-ListLimbo.ensures two)

pub returns-in-ListLimbo-clause-runs : goal.returns-in-ListLimbo-clause-runs
returns-in-ListLimbo-clause-runs g c = λ asked is. absurd (c.run_lines_list_none.ensures (texts c.args.words.now) asked is
    (lists_one (texts c.args.words.now) c.in-Some.command c.in-ListLimbo.is c.in-Some.ensures))

pub returns-in-ListLimbo-clause-lists : goal.returns-in-ListLimbo-clause-lists
returns-in-ListLimbo-clause-lists g c = λ is. record {
  source_stays = refl;
  end = c.list_limbo-end.result.0;
  status_is = c.status-in-ListLimbo.ensures;
  lists = c.list_limbo-end.ensures;
}

pub returns-in-ListLimbo-clause-tells : goal.returns-in-ListLimbo-clause-tells
returns-in-ListLimbo-clause-tells g c = λ is. absurd (c.stat_lines_ask_once.ensures.lists (texts c.args.words.now)
    (lists_one (texts c.args.words.now) c.in-Some.command c.in-ListLimbo.is c.in-Some.ensures) is)

pub returns-in-ListLimbo-clause-range : goal.returns-in-ListLimbo-clause-range
returns-in-ListLimbo-clause-range g c =
    looked_range c.list_limbo-end.result.0 c.status-in-ListLimbo.result c.status-in-ListLimbo.ensures

-- ---- figures

pub returns-clause-usage : goal.returns-clause-usage
returns-clause-usage g c = (
  λ two. absurd (looked_no_usage c.tell_figures-end.result.0 c.status-in-Stat.result c.status-in-Stat.ensures two),
  λ none. absurd (none (c.in-Some.command, c.in-Some.ensures)),
)

pub returns-clause-untouched : goal.returns-clause-untouched
returns-clause-untouched g c =
    λ two. absurd (looked_no_usage c.tell_figures-end.result.0 c.status-in-Stat.result c.status-in-Stat.ensures two)

pub returns-clause-runs : goal.returns-clause-runs
returns-clause-runs g c = λ asked is. absurd (c.stat_lines_ask_once.ensures.runs (texts c.args.words.now) asked is
    (tells_one (texts c.args.words.now) c.in-Some.command c.in-Stat.is c.in-Some.ensures))

pub returns-clause-lists : goal.returns-clause-lists
returns-clause-lists g c = λ is. absurd (c.stat_lines_ask_once.ensures.lists (texts c.args.words.now) is
    (tells_one (texts c.args.words.now) c.in-Some.command c.in-Stat.is c.in-Some.ensures))

pub returns-clause-tells : goal.returns-clause-tells
returns-clause-tells g c = λ is. record {
  source_stays = refl;
  end = c.tell_figures-end.result.0;
  status_is = c.status-in-Stat.ensures;
  tells = c.tell_figures-end.ensures;
}

pub returns-clause-range : goal.returns-clause-range
returns-clause-range g c =
    looked_range c.tell_figures-end.result.0 c.status-in-Stat.result c.status-in-Stat.ensures
