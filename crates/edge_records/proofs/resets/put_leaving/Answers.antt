use mathlib.Core.Path.{sym, ap, ◌∙◌}
use mathlib.Core.List.{List, map}
use Prim.Native.Nat.{ℕ, ◌<◌}
use native.Mathlib.Omega.{arith}
use Rattle.model.specs.ChartSet.{read_charts}
use Rattle.model.specs.Translation.{transition_count, clocks_of}
use Rattle.chart_records.proofs.PlacesRead.{transition-is, length-transitions, most-states, most-transitions}
use Rattle.chart_records.specs.declared.Shape.{Shape}
use Rattle.chart_records.specs.Accepted.{Accepted}
use Rattle.twin_records.specs.Texts.{reset_texts}
use Rattle.twin_records.proofs.TextsWritten.{along-start, along-rises, along-more, along-end, puts-as}
use Rattle.twin_records.proofs.TablesClocks.{clock-at}
use Rattle.edge_records.proofs.TextsEdges.{resets-text}
use Rattle.edge_records.proofs.resets.put_leaving.Goals as goal

few : (s : List ℕ) (sh : Shape) → Accepted s sh → transition_count (read_charts s) < 65536
few s sh ok = omega (arith, length-transitions s sh ok.shape, most-transitions s sh ok.shape)

small : (s : List ℕ) (sh : Shape) (st : ℕ) → Accepted s sh → st < sh.states → st < 128
small s sh st ok h = omega (arith, most-states s sh ok.shape)

pub bounds-leaving-state : goal.bounds-leaving-state
bounds-leaving-state c =
    let x = c.args in
    omega (arith, c.requires.3, most-states x.s.now x.shape c.requires.0.shape)

pub loop-t-init : goal.loop-t-init
loop-t-init c =
    let x = c.args in
    along-start _ _ _ x.leaving.now.first x.leaving.now.next c.requires.2 (few x.s.now x.shape c.requires.0) x.state (small x.s.now x.shape x.state c.requires.0 c.requires.3) _ _ _

pub bounds-clocks-i : goal.bounds-clocks-i
bounds-clocks-i c =
    let known : c.loop-t.t < transition_count (read_charts c.args.s.now) = (c.loop-t.invariant.at_hand.known c.loop-t-test.true).0 in
    let inside : (c.loop-t.t < c.args.shape.transitions) × (c.loop-t.t < 256) = let x = c.args in
    let e = length-transitions x.s.now x.shape c.requires.0.shape in
    (omega (arith, known), omega (arith, known, most-transitions x.s.now x.shape c.requires.0.shape)) in
    omega (arith, inside.1)

pub trigger_of-requires : goal.trigger_of-requires
trigger_of-requires c =
    let known : c.loop-t.t < transition_count (read_charts c.args.s.now) = (c.loop-t.invariant.at_hand.known c.loop-t-test.true).0 in
    let inside : (c.loop-t.t < c.args.shape.transitions) × (c.loop-t.t < 256) = let x = c.args in
    let e = length-transitions x.s.now x.shape c.requires.0.shape in
    (omega (arith, known), omega (arith, known, most-transitions x.s.now x.shape c.requires.0.shape)) in
    (c.requires.0.shape, inside.0)

pub put_reset-place-requires : goal.put_reset-place-requires
put_reset-place-requires c =
    let known : c.loop-t.t < transition_count (read_charts c.args.s.now) = (c.loop-t.invariant.at_hand.known c.loop-t-test.true).0 in
    let inside : (c.loop-t.t < c.args.shape.transitions) × (c.loop-t.t < 256) = let x = c.args in
    let e = length-transitions x.s.now x.shape c.requires.0.shape in
    (omega (arith, known), omega (arith, known, most-transitions x.s.now x.shape c.requires.0.shape)) in
    omega (arith, c.loop-t.invariant.near, inside.1, c.requires.4)

pub bounds-leaving-i : goal.bounds-leaving-i
bounds-leaving-i c =
    let known : c.loop-t.t < transition_count (read_charts c.args.s.now) = (c.loop-t.invariant.at_hand.known c.loop-t-test.true).0 in
    let inside : (c.loop-t.t < c.args.shape.transitions) × (c.loop-t.t < 256) = let x = c.args in
    let e = length-transitions x.s.now x.shape c.requires.0.shape in
    (omega (arith, known), omega (arith, known, most-transitions x.s.now x.shape c.requires.0.shape)) in
    omega (arith, inside.1)

pub loop-t-smaller : goal.loop-t-smaller
loop-t-smaller c =
    let known : c.loop-t.t < transition_count (read_charts c.args.s.now) = (c.loop-t.invariant.at_hand.known c.loop-t-test.true).0 in
    let inside : (c.loop-t.t < c.args.shape.transitions) × (c.loop-t.t < 256) = let x = c.args in
    let e = length-transitions x.s.now x.shape c.requires.0.shape in
    (omega (arith, known), omega (arith, known, most-transitions x.s.now x.shape c.requires.0.shape)) in
    let x = c.args in
    omega (arith, inside.1, along-rises _ _ _ x.leaving.now.first x.leaving.now.next c.requires.2 (few x.s.now x.shape c.requires.0) x.state (small x.s.now x.shape x.state c.requires.0 c.requires.3) _ _ _ c.loop-t.invariant c.loop-t-test.true)

pub loop-t-preserved : goal.loop-t-preserved
loop-t-preserved c =
    let known : c.loop-t.t < transition_count (read_charts c.args.s.now) = (c.loop-t.invariant.at_hand.known c.loop-t-test.true).0 in
    let inside : (c.loop-t.t < c.args.shape.transitions) × (c.loop-t.t < 256) = let x = c.args in
    let e = length-transitions x.s.now x.shape c.requires.0.shape in
    (omega (arith, known), omega (arith, known, most-transitions x.s.now x.shape c.requires.0.shape)) in
    let x = c.args in
    let t = c.loop-t.t in
    let clock = clock-at (read_charts x.s.now) x.clocks.now.own c.requires.1 t known in
    let trigger = c.trigger_of.ensures ∙ ap (λ y. y.trigger) (sym (transition-is x.s.now x.shape c.requires.0.shape t inside.0)) in
    along-more _ _ _ x.leaving.now.first x.leaving.now.next c.requires.2 (few x.s.now x.shape c.requires.0) x.state (small x.s.now x.shape x.state c.requires.0 c.requires.3) _ _ _ c.loop-t.invariant c.loop-t-test.true
    c.put_reset-place.auto.out
    (puts-as _ (λ i. reset_texts x.edge (map (λ _. clock i) (clocks_of (trigger i)))) c.put_reset-place.ensures)

pub returns : goal.returns
returns c =
    let x = c.args in
    along-end _ _ _ _ _ c.loop-t.invariant c.loop-t-test.false _ (resets-text (read_charts x.s.now) x.edge x.state)
