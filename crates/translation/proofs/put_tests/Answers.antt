use mathlib.Core.Path.{sym, ap}
use mathlib.Core.List.{◌++◌, map}
use Prim.Native.Nat.{◌*◌, ◌^◌}
use native.Mathlib.Omega.{arith}
use Rattle.expressions.specs.Nodes.{write_node}
use Rattle.model.specs.ChartSet.{read_charts}
use Rattle.model.specs.AutomataTable.{write_literal, write_clock, write_variable}
use Rattle.model.specs.Translation.{literals_of, twin}
use Rattle.twin_records.specs.Texts.{section}
use Rattle.twin_records.proofs.TextsWritten.{puts-as, puts_then}
use Rattle.translation.proofs.TextsFile.{by_edge-text}
use Rattle.translation.proofs.put_tests.Goals as goal

pub put_literals-idles_at-requires : goal.put_literals-idles_at-requires
put_literals-idles_at-requires c =
    (c.requires.0.accepted, c.requires.1, c.requires.0.has_rows, omega (arith, c.requires.3))

pub put_idle_literals-clocks_at-requires : goal.put_idle_literals-clocks_at-requires
put_idle_literals-clocks_at-requires c =
    (c.requires.0.accepted, c.requires.1, c.requires.2, c.requires.0.has_rows, c.requires.0.has_ends, omega (arith, c.requires.3, c.put_literals-idles_at.ensures.near))

pub put_clocks-variables_at-requires : goal.put_clocks-variables_at-requires
put_clocks-variables_at-requires c =
    (c.requires.0.accepted, c.requires.0.has_actions.first_of, omega (arith, c.requires.3, c.put_literals-idles_at.ensures.near, c.put_idle_literals-clocks_at.ensures.near))

pub put_variables-nodes_at-requires : goal.put_variables-nodes_at-requires
put_variables-nodes_at-requires c =
    (c.requires.0.accepted.shape, omega (arith, c.requires.3, c.put_literals-idles_at.ensures.near, c.put_idle_literals-clocks_at.ensures.near, c.put_clocks-variables_at.ensures.near))

pub put_nodes-requires : goal.put_nodes-requires
put_nodes-requires c =
    (c.requires.0.accepted, omega (arith, c.requires.3, c.put_literals-idles_at.ensures.near, c.put_idle_literals-clocks_at.ensures.near, c.put_clocks-variables_at.ensures.near, c.put_variables-nodes_at.ensures.near))

pub returns : goal.returns
returns c =
    let cs = read_charts c.args.s.now in
    puts-as _
    (ap (λ l. l ++ section 37 (map write_clock (twin cs).clocks) ++ section 38 (map write_variable cs.variables) ++ section 39 (map write_node cs.nodes))
    (sym (by_edge-text cs 36 write_literal (literals_of cs))))
    (puts_then (2 ^ 43) (omega arith)
    (puts_then (2 ^ 42) (omega arith)
    (puts_then (3 * 2 ^ 40) (omega arith) (puts_then (2 ^ 41) (omega arith) c.put_literals-idles_at.ensures c.put_idle_literals-clocks_at.ensures) c.put_clocks-variables_at.ensures)
    c.put_variables-nodes_at.ensures)
    c.put_nodes.ensures)
