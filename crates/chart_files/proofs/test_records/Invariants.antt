use mathlib.Core.Path.{◌≡◌}
use mathlib.Core.List.{map}
use Rattle.prelude.specs.Lists.{all}
use Rattle.model.specs.ChartFile.{unused, unused_are_zero, in_code}
use Rattle.chart_files.proofs.test_records.Given as goal

abbrev pub invariant-loop-r : goal.invariant-loop-r
invariant-loop-r l =
    (l.clean ≡ all (λ r. unused_are_zero (unused r) r) (map (λ x. x.now) l.yielded)) × (l.coded ≡ all in_code (map (λ x. x.now) l.yielded))
