use mathlib.Core.Path.{ap}
use Prim.Native.Nat.{◌+◌, ◌<◌}
use native.Mathlib.Omega.{arith}
use Rattle.model.specs.Limits.{most_states}
use Rattle.model.specs.ChartSet.{read_charts}
use Rattle.chart_records.proofs.PlacesRead.{most-states}
use Rattle.paths.proofs.LedOfEdges.{idle-few}
use Rattle.paths.proofs.LedOfIdling.{idles-none, idles-room, idles-more, idles-all}
use Rattle.paths.proofs.idling_of.Goals as goal

pub loop-state-init : goal.loop-state-init
loop-state-init c =
    let a = c.args in idles-none a.s.now a.shape

pub bounds-states-i : goal.bounds-states-i
bounds-states-i c =
    let l = c.loop-state in
    omega (arith, idles-room c.args.s.now c.args.shape c.requires l.state l.count l.states l.invariant c.loop-state-test.true)

pub bounds-states-i-in-loop-state : goal.bounds-states-i-in-loop-state
bounds-states-i-in-loop-state c =
    let l = c.loop-state in
    idles-room c.args.s.now c.args.shape c.requires l.state l.count l.states l.invariant c.loop-state-test.true

pub idle_edges-count-requires : goal.idle_edges-count-requires
idle_edges-count-requires c =
    let l : c.loop-state.state < most_states = omega (arith, c.loop-state-test.true, most-states c.args.s.now c.args.shape c.requires.shape) in
    (c.requires, c.fill_actions.ensures.0.first_of, l)

pub overflow_add-count : goal.overflow_add-count
overflow_add-count c =
    let l = c.loop-state in
    omega (arith, idles-room c.args.s.now c.args.shape c.requires l.state l.count l.states l.invariant c.loop-state-test.true, c.idle_edges-count.ensures, idle-few (read_charts c.args.s.now) l.state)

pub loop-state-preserved : goal.loop-state-preserved
loop-state-preserved c =
    let l = c.loop-state in
    idles-more c.args.s.now c.args.shape c.requires l.state l.count l.states l.invariant c.loop-state-test.true _ (ap (λ n. l.count + n) c.idle_edges-count.ensures)

pub returns : goal.returns
returns c =
    let l = c.loop-state in
    idles-all c.args.s.now c.args.shape c.requires l.state l.count l.states l.invariant c.loop-state-test.false
