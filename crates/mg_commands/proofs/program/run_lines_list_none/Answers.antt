use Rattle.mg_commands.specs.ProgramLaws.{run_lists_none}
use Rattle.mg_commands.proofs.program.run_lines_list_none.Goals as goal

pub returns : goal.returns
returns c = run_lists_none
