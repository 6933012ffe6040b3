use mathlib.Core.Path.{◌≡◌, refl}
use mathlib.Core.List.{List}
use Prim.Native.Nat.{ℕ, ◌+◌, ◌<◌}
use native.Mathlib.Omega.{arith}
use lib.ListN.{length, length-append}
use Rattle.chart_records.specs.declared.Shape.{Shape}
use Rattle.chart_records.specs.Accepted.{Accepted}
use Rattle.chart_records.specs.Places.{first_node}
use Rattle.chart_records.proofs.PlacesRead.{length-initial, length-homes, length-transitions, length-variables, length-nodes, most-charts, most-states, most-transitions, most-variables, most-nodes}
use Rattle.prelude.specs.Lists.{gather, upto}
use Rattle.model.specs.ChartSet.{ChartSet, read_charts}
use Rattle.model.specs.Translation.{transition_count, state_count, transition_clocks, waiting_clocks, literals_of, updates_of, resets_of, twin}
use Rattle.model.proofs.TranslationOrigins.{origins-count, edges-count}
use Rattle.model.proofs.TranslationCounts.{edges_few, literals-few, clocks-few, updates-few, resets-few}
use Rattle.model.proofs.TranslationAccepted.{length-twin}
use Rattle.translation.specs.Lengths.{of_transitions, idle_length}
use Rattle.translation.proofs.TablesCounts.{parts_are, no-idle-resets}
use Rattle.translation.proofs.lengths.twin_length.Goals as goal

-- copied records are few
few-copied : {s : List ℕ} {sh : Shape} → Accepted s sh → {n : ℕ} → n ≡ first_node sh → n + sh.nodes < 1500
few-copied {s} {sh} ok e =
    let is = ok.shape in
    omega (arith, e, most-charts s sh is, most-states s sh is, most-transitions s sh is, most-variables s sh is, most-nodes s sh is)

-- what the twin has: the copied, and what is counted
parts : (cs : ChartSet) (tests idle effects : ℕ) → tests ≡ length (of_transitions cs (literals_of cs)) + length (transition_clocks cs) → idle ≡ idle_length cs →
    effects ≡ length (of_transitions cs (updates_of cs)) + length (of_transitions cs (resets_of cs)) →
    length (twin cs).edges + length (twin cs).literals + length (twin cs).clocks + length (twin cs).updates + length (twin cs).resets ≡ transition_count cs + tests + idle + effects
parts cs tests idle effects a b d =
    omega (
      arith,
      edges-count cs,
      origins-count cs,
      length-append (transition_clocks cs) (gather (waiting_clocks cs) (upto (state_count cs))),
      parts_are cs (literals_of cs),
      parts_are cs (updates_of cs),
      parts_are cs (resets_of cs),
      no-idle-resets cs,
      a,
      b,
      d,
    )

few-counted : {s : List ℕ} {sh : Shape} → Accepted s sh → {tests idle effects : ℕ} →
    tests ≡ length (of_transitions (read_charts s) (literals_of (read_charts s))) + length (transition_clocks (read_charts s)) → idle ≡ idle_length (read_charts s) →
    effects ≡ length (of_transitions (read_charts s) (updates_of (read_charts s))) + length (of_transitions (read_charts s) (resets_of (read_charts s))) →
    tests + idle + effects < 20000
few-counted {s} {sh} ok {tests} {idle} {effects} a b d =
    let u = ok.unrefused in
    omega (arith, parts (read_charts s) tests idle effects a b d, edges_few s u, literals-few s u, clocks-few s u, updates-few s u, resets-few s u)

pub count_actions-requires : goal.count_actions-requires
count_actions-requires c =
    (c.requires, refl)

pub count_tests-tests-requires : goal.count_tests-tests-requires
count_tests-tests-requires c =
    (c.requires, refl, refl)

pub count_idle-idle-requires : goal.count_idle-idle-requires
count_idle-idle-requires c =
    (c.requires, c.count_actions.ensures, c.count_tests-tests.ensures.1, c.count_tests-tests.ensures.2, c.count_tests-tests.ensures.3)

pub count_effects-effects-requires : goal.count_effects-effects-requires
count_effects-effects-requires c =
    (c.requires, c.count_actions.ensures, c.count_idle-idle.ensures.1)

pub overflow_add-copied : goal.overflow_add-copied
overflow_add-copied c =
    omega (arith, few-copied c.requires c.first_node.ensures)

pub overflow_add-result : goal.overflow_add-result
overflow_add-result c =
    omega (arith, few-copied c.requires c.first_node.ensures, few-counted c.requires c.count_tests-tests.ensures.0 c.count_idle-idle.ensures.0 c.count_effects-effects.ensures)

pub overflow_add-result-2 : goal.overflow_add-result-2
overflow_add-result-2 c =
    omega (arith, few-copied c.requires c.first_node.ensures, few-counted c.requires c.count_tests-tests.ensures.0 c.count_idle-idle.ensures.0 c.count_effects-effects.ensures)

pub overflow_add-result-3 : goal.overflow_add-result-3
overflow_add-result-3 c =
    omega (arith, few-copied c.requires c.first_node.ensures, few-counted c.requires c.count_tests-tests.ensures.0 c.count_idle-idle.ensures.0 c.count_effects-effects.ensures)

pub overflow_mul-result : goal.overflow_mul-result
overflow_mul-result c =
    omega (arith, few-copied c.requires c.first_node.ensures, few-counted c.requires c.count_tests-tests.ensures.0 c.count_idle-idle.ensures.0 c.count_effects-effects.ensures)

pub returns : goal.returns
returns c =
    let s = c.args.s.now in
    let sh = c.args.shape in
    let is = c.requires.shape in
    omega (
      arith,
      length-twin s c.requires.unrefused,
      parts (read_charts s) c.count_tests-tests.result c.count_idle-idle.result c.count_effects-effects.result c.count_tests-tests.ensures.0 c.count_idle-idle.ensures.0 c.count_effects-effects.ensures,
      c.first_node.ensures,
      length-initial s sh is,
      length-homes s sh is,
      length-transitions s sh is,
      length-variables s sh is,
      length-nodes s sh is,
    )
