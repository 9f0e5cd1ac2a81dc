use Rattle.mg_check_pages.proofs.HeaderLemmas.{header_law}
use Rattle.mg_check_pages.proofs.laws.lawful_headers_pass.Goals as goal

pub returns : goal.returns
returns c = header_law
