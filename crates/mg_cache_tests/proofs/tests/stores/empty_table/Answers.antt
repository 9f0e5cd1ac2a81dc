use Rattle.std.proofs.Common.{rules}
use Rattle.mg_cache_tests.proofs.WholeLemmas.{whole_table}
use Rattle.mg_cache_tests.proofs.tests.stores.empty_table.Goals as goal

pub returns : goal.returns
returns c = record {
  whole = whole_table c.in_ok-batch.batch c.put.new.self c.pointer_page.result c.in_ok-batch.ensures.whole
      c.in_ok-put.ensures.puts (search rules);
}
