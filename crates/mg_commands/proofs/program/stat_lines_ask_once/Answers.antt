use Rattle.mg_commands.specs.ProgramLaws.{list_tells_none, run_tells_none}
use Rattle.mg_commands.proofs.program.stat_lines_ask_once.Goals as goal

pub returns-clause-runs : goal.returns-clause-runs
returns-clause-runs c = run_tells_none

pub returns-clause-lists : goal.returns-clause-lists
returns-clause-lists c = list_tells_none
