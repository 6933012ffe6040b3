use mathlib.Core.Path.{◌≡◌, sym, ap, ◌∙◌}
use mathlib.Core.List.{List}
use Prim.Native.Nat.{ℕ, ◌+◌, ◌<◌, ◌≤◌}
use native.Mathlib.Omega.{arith}
use lib.ListN.{length, get_or}
use Rattle.chart_records.specs.declared.Shape.{Shape}
use Rattle.chart_records.specs.Accepted.{Accepted}
use Rattle.chart_records.specs.Places.{transition_at}
use Rattle.chart_records.proofs.PlacesRead.{transition-is, length-homes, length-transitions, most-states, most-transitions}
use Rattle.chart_steps.proofs.Accepted.{source_known, target-known}
use Rattle.model.specs.ChartSet.{read_charts}
use Rattle.model.specs.Translation.{from_transition, transition_count, clocks_of_state, resets_of}
use Rattle.prelude.proofs.Sums.{sum_from}
use Rattle.model.proofs.TranslationCounts.{updates_of-few, resets_of-few}
use Rattle.twin_records.specs.Tables.{CountsActions, CountsResets}
use Rattle.edge_records.proofs.TextsEdges.{updates-count}
use Rattle.translation.proofs.TablesCounts.{sum-none, sum_more, effects_of, effects-are}
use Rattle.translation.proofs.lengths.count_effects.Goals as goal

module _ {s : List ℕ} {sh : Shape} (ok : Accepted s sh) {t : ℕ} (h : t < sh.transitions) where
  few : t < 256
  few = omega (arith, most-transitions s sh ok.shape)

  source-small : {source : ℕ} → source ≡ (transition_at s sh t).source → source < 128
  source-small leaves = omega (arith, source_known s sh ok t h, most-states s sh ok.shape)

  module _ {target : ℕ} (enters : target ≡ (transition_at s sh t).target) where
    target-in-set : target < length (read_charts s).homes
    target-in-set = omega (arith, target-known s sh ok t h, length-homes s sh ok.shape)

    target-small : target < 128
    target-small = omega (arith, target-in-set, length-homes s sh ok.shape, most-states s sh ok.shape)

    module _ {source : ℕ} (leaves : source ≡ (transition_at s sh t).source) (actions resets : List ℕ) (counts : CountsActions s sh actions) (clocks : CountsResets (read_charts s) resets) where
      -- what the tables have of a transition's edge: its updates and its resets
      abbrev in_tables : ℕ
      in_tables = get_or actions (128 + source) 0 + get_or actions (256 + t) 0 + get_or actions target 0 + get_or resets target 0

      same-resets : get_or resets target 0 ≡ length (resets_of (read_charts s) (from_transition t))
      same-resets = clocks target target-in-set ∙ ap (λ z. length (clocks_of_state (read_charts s) z)) (enters ∙ ap (λ y. y.target) (sym (transition-is s sh ok.shape t h)))

      effects-here : in_tables ≡ effects_of (read_charts s) t
      effects-here =
          omega (
            arith,
            updates-count s sh ok t source target h leaves enters,
            counts (128 + source) (omega (arith, source-small leaves)),
            counts (256 + t) (omega (arith, few)),
            counts target (omega (arith, target-small)),
            same-resets,
          )

      few-here : in_tables ≤ 41
      few-here =
          let g : t < transition_count (read_charts s) = omega (arith, length-transitions s sh ok.shape) in
          omega (arith, effects-here, updates_of-few s ok.unrefused t g, resets_of-few s ok.unrefused t g)

pub loop-t-init : goal.loop-t-init
loop-t-init c =
    (sym (sum-none (effects_of (read_charts c.args.s.now))), omega arith)

pub bounds-actions-leaving : goal.bounds-actions-leaving
bounds-actions-leaving c =
    omega (arith, source-small c.requires.0 c.loop-t-test.true c.source_of-source.ensures)

pub bounds-actions-crossing : goal.bounds-actions-crossing
bounds-actions-crossing c =
    omega (arith, few c.requires.0 c.loop-t-test.true)

pub overflow_add-n : goal.overflow_add-n
overflow_add-n c =
    omega (arith, few-here c.requires.0 c.loop-t-test.true c.target_of-target.ensures c.source_of-source.ensures _ _ c.requires.1 c.requires.2)

pub bounds-actions-target : goal.bounds-actions-target
bounds-actions-target c =
    omega (arith, target-small c.requires.0 c.loop-t-test.true c.target_of-target.ensures)

pub overflow_add-n-in-loop-t : goal.overflow_add-n-in-loop-t
overflow_add-n-in-loop-t c =
    omega (arith, few-here c.requires.0 c.loop-t-test.true c.target_of-target.ensures c.source_of-source.ensures _ _ c.requires.1 c.requires.2)

pub bounds-resets-target : goal.bounds-resets-target
bounds-resets-target c =
    target-small c.requires.0 c.loop-t-test.true c.target_of-target.ensures

pub overflow_add-n-in-loop-t-2 : goal.overflow_add-n-in-loop-t-2
overflow_add-n-in-loop-t-2 c =
    omega (arith, few-here c.requires.0 c.loop-t-test.true c.target_of-target.ensures c.source_of-source.ensures _ _ c.requires.1 c.requires.2)

pub overflow_add-n-in-loop-t-3 : goal.overflow_add-n-in-loop-t-3
overflow_add-n-in-loop-t-3 c =
    omega (arith, few-here c.requires.0 c.loop-t-test.true c.target_of-target.ensures c.source_of-source.ensures _ _ c.requires.1 c.requires.2, c.loop-t.invariant.1, few c.requires.0 c.loop-t-test.true)

pub loop-t-preserved : goal.loop-t-preserved
loop-t-preserved c =
    let l = c.loop-t in
    let here = effects-here c.requires.0 c.loop-t-test.true c.target_of-target.ensures c.source_of-source.ensures _ _ c.requires.1 c.requires.2 in
    let few = few-here c.requires.0 c.loop-t-test.true c.target_of-target.ensures c.source_of-source.ensures _ _ c.requires.1 c.requires.2 in
    (omega (arith, l.invariant.0, here, sum_more (effects_of (read_charts c.args.s.now)) l.t), omega (arith, l.invariant.1, few))

pub returns : goal.returns
returns c =
    let x = c.args in
    let l = c.loop-t in
    let cs = read_charts x.s.now in
    let e : l.t ≡ transition_count cs = omega (arith, length-transitions x.s.now x.shape c.requires.0.shape) in
    l.invariant.0 ∙ ap (sum_from (effects_of cs) 0) e ∙ effects-are cs
