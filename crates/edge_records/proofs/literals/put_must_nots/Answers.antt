use mathlib.Core.Path.{ap}
use mathlib.Core.Bool.{false}
use mathlib.Core.List.{map}
use Prim.Native.Nat.{◌≤◌, ◌<◌}
use native.Mathlib.Omega.{arith}
use lib.ListN.{get_or}
use Rattle.model.specs.ChartSet.{read_charts}
use Rattle.model.specs.Translation.{literal}
use Rattle.chart_records.proofs.PlacesRead.{most-states}
use Rattle.twin_records.specs.Texts.{literal_texts}
use Rattle.twin_records.proofs.TextsWritten.{puts-as}
use Rattle.edge_records.proofs.TextsEdges.{above-end}
use Rattle.edge_records.proofs.literals.put_must_nots.Goals as goal

pub bounds-ends-state : goal.bounds-ends-state
bounds-ends-state c =
    let known-state : c.args.state < 128 = let x = c.args in
    omega (arith, c.requires.4, most-states x.s.now x.shape c.requires.0.shape) in
    known-state

pub put_negations-requires : goal.put_negations-requires
put_negations-requires c =
    let known-state : c.args.state < 128 = let x = c.args in
    omega (arith, c.requires.4, most-states x.s.now x.shape c.requires.0.shape) in
    let end-here : get_or c.args.ends.now c.args.state 0 ≤ 16 = c.requires.3.short c.args.state known-state in
    (c.requires.0, c.requires.1, c.requires.2, c.requires.4, end-here, c.requires.5)

pub returns : goal.returns
returns c =
    let known-state : c.args.state < 128 = let x = c.args in
    omega (arith, c.requires.4, most-states x.s.now x.shape c.requires.0.shape) in
    let end-here : get_or c.args.ends.now c.args.state 0 ≤ 16 = c.requires.3.short c.args.state known-state in
    let x = c.args in
    let cs = read_charts x.s.now in
    puts-as _
    (ap (λ ts. literal_texts x.edge (map (literal cs false) ts)) (above-end x.s.now x.shape c.requires.0 x.rows.now c.requires.2 x.state (get_or x.ends.now x.state 0) c.requires.4 end-here (λ j a b. c.requires.3.empty x.state j known-state a b)))
    c.put_negations.ensures
