use Rattle.mg_cache_tests.proofs.tests.calls.go_on.Given as goal

abbrev pub invariant-loop-place : goal.invariant-loop-place
invariant-loop-place g l = g.B.Bench.ready l.bench
