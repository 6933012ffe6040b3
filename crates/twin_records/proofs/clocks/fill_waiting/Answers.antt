use mathlib.Core.Path.{◌≡◌, sym, ap, ◌∙◌, subst}
use mathlib.Core.Bool.{cond}
use mathlib.Core.List.{List}
use Prim.Native.Nat.{ℕ, ◌+◌, ◌<◌}
use native.Mathlib.Omega.{arith}
use lib.Dec.{eqb}
use lib.ListN.{length, get_or, length-replicate}
use Rattle.chart_records.specs.declared.Shape.{Shape}
use Rattle.chart_records.specs.Accepted.{Accepted}
use Rattle.chart_records.specs.Places.{wait_at}
use Rattle.chart_steps.specs.Tables.{waiting_keys}
use Rattle.model.specs.ChartSet.{read_charts}
use Rattle.model.specs.Translation.{state_count}
use Rattle.chart_records.proofs.PlacesRead.{length-homes, most-states}
use Rattle.prelude.proofs.Filled.{Filled, filled_none, filled_more, filled-padded}
use Rattle.twin_records.specs.Tables.{waiting_place}
use Rattle.twin_records.proofs.TablesWaiting.{waiting_none, waiting-more, waiting_few, place-for, waits-count, waits-by}
use Rattle.twin_records.proofs.clocks.fill_waiting.Goals as goal

inside : {s : List ℕ} {sh : Shape} (ok : Accepted s sh) {st : ℕ} → st < sh.states → st < 128
inside {s} {sh} ok h = omega (arith, most-states s sh ok.shape)

pub loop-state-init : goal.loop-state-init
loop-state-init c =
    let cs = read_charts c.args.s.now in
    record {
      counted = c.requires.2 ∙ sym (waiting_none cs);
      filled = filled_none (waiting_place cs) 65535 c.args.waiting.now;
      long = ap length c.requires.3 ∙ length-replicate {A = ℕ} 128 65535;
    }

pub overflow_add-action : goal.overflow_add-action
overflow_add-action c =
    omega (arith, inside c.requires.0 c.loop-state-test.true)

pub bounds-first-state : goal.bounds-first-state
bounds-first-state c =
    omega (arith, inside c.requires.0 c.loop-state-test.true)

pub bounds-waiting-i : goal.bounds-waiting-i
bounds-waiting-i c =
    inside c.requires.0 c.loop-state-test.true

pub overflow_add-count : goal.overflow_add-count
overflow_add-count c =
    let x = c.args in
    let l = c.loop-state in
    omega (arith, l.invariant.counted, c.count_of-count.ensures.1, waiting_few x.s.now x.shape c.requires.0 l.state (omega arith))

pub loop-state-preserved : goal.loop-state-preserved
loop-state-preserved c =
    let x = c.args in
    let l = c.loop-state in
    let cs = read_charts x.s.now in
    let a = get_or x.first.now (waiting_keys + l.state) 0 in
    let ms = (wait_at x.s.now x.shape a).1 in
    let by = waits-by x.s.now x.shape c.requires.0 x.first.now c.requires.1 l.state c.loop-state-test.true in
    let own : c.number_for.result ≡ waiting_place cs l.state = c.number_for.ensures ∙ ap (cond (eqb a 65535) 65535) l.invariant.counted ∙ sym (place-for cs l.state a ms by) in
    record {
      counted = omega (arith, l.invariant.counted, c.count_of-count.ensures.0, waits-count cs l.state a ms by, waiting-more cs l.state);
      filled = filled_more (waiting_place cs) 65535 x.waiting.now l.waiting l.state c.number_for.result own l.invariant.filled (omega (arith, inside c.requires.0 c.loop-state-test.true, l.invariant.long));
      long = l.invariant.long;
    }

pub returns : goal.returns
returns c =
    let x = c.args in
    let l = c.loop-state in
    let cs = read_charts x.s.now in
    let size = length-homes x.s.now x.shape c.requires.0.shape in
    let e : l.state ≡ state_count cs = omega (arith, size) in
    filled-padded (waiting_place cs) 65535 128 (state_count cs) (omega (arith, most-states x.s.now x.shape c.requires.0.shape, size)) l.waiting
    (subst (λ l₀. Filled (waiting_place cs) 65535 l₀ l.waiting (state_count cs)) c.requires.3 (subst (Filled (waiting_place cs) 65535 x.waiting.now l.waiting) e l.invariant.filled))
