use Rattle.mg_lookup.proofs.laws.entries_are_enough.Goals as goal

pub returns : goal.returns
returns c state live view table key root records found of_table told have named = record {
  records = records;
  of_table = of_table;
  told = told;
  whole = λ rec among speaks. named.whole rec (have rec among speaks);
}
