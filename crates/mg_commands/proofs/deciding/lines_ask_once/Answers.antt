use Rattle.mg_commands.specs.CommandLineLaws.{line_once}
use Rattle.mg_commands.proofs.deciding.lines_ask_once.Goals as goal

pub returns : goal.returns
returns c = line_once
