use Rattle.mg_scripts.specs.ReadableLaws.{scripts_can_be_obeyed}
use Rattle.mg_scripts.proofs.script.lines_of_scripts_can_be_obeyed.Goals as goal

pub returns : goal.returns
returns c = scripts_can_be_obeyed
