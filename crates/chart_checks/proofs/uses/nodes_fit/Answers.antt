use mathlib.Core.Path.{◌≡◌, refl, sym, ap, ◌∙◌}
use mathlib.Core.Bool.{Bool, true, false, ◌&&◌}
use native.Mathlib.Omega.{arith}
use lib.Dec.{eqb}
use lib.ListN.{length, get_or}
use Rattle.prelude.specs.Lists.{all, upto}
use Rattle.expressions.specs.Nodes.{node_of}
use Rattle.expressions.specs.Sorts.{sort_of, is_truth, operands_fit}
use Rattle.expressions.specs.Uses.{add_uses}
use Rattle.model.specs.ChartSet.{read_charts}
use Rattle.model.specs.ChartFile.{transition_guards, action_guards, assigned, uses}
use Rattle.prelude.proofs.Numbers.{all_append}
use Rattle.chart_checks.specs.Used.{guard_use, action_use, all_uses, truths, numbers}
use Rattle.chart_records.proofs.PlacesRead.{lookup-is, length-nodes, most-nodes}
use Rattle.chart_checks.proofs.Used.{length-uses, used-is}
use Rattle.chart_checks.proofs.uses.nodes_fit.Goals as goal

regrouped : (a b c d : Bool) → ((a && b) && (c && d)) ≡ ((a && (b && c)) && d)
regrouped true true c d = refl
regrouped true false c d = refl
regrouped false b c d = refl

pub all_once-requires : goal.all_once-requires
all_once-requires c =
    let s = c.args.s.now in
    let sh = c.args.shape in
    let held : c.actions_fit-actions.new.uses ≡ all_uses s sh =
    c.actions_fit-actions.ensures.1
    ∙ ap (λ u. add_uses u (action_use s sh)) (c.guards_fit-guards.ensures.1 ∙ ap (λ u. add_uses u (guard_use s sh)) c.requires.3)
    in
    omega (arith, most-nodes s sh c.requires.0, ap length held ∙ length-uses s sh)

pub returns : goal.returns
returns c =
    let s = c.args.s.now in
    let sh = c.args.shape in
    let held : c.actions_fit-actions.new.uses ≡ all_uses s sh =
    c.actions_fit-actions.ensures.1
    ∙ ap (λ u. add_uses u (action_use s sh)) (c.guards_fit-guards.ensures.1 ∙ ap (λ u. add_uses u (guard_use s sh)) c.requires.3)
    in
    let operands =
    c.requires.2
    ∙ (λ i. operands_fit (sym (lookup-is s sh c.requires.0) i) (sym (length-nodes s sh c.requires.0) i))
    in
    let once = c.all_once.ensures ∙ ap (λ l. all (λ n. eqb (get_or l n 0) 1) (upto sh.nodes)) held ∙ sym (used-is s sh c.requires.0 c.requires.1) in (
      (λ j. operands j && c.guards_fit-guards.ensures.0 j && c.actions_fit-actions.ensures.0 j && once j)
          ∙ ap (λ b. b && all (λ n. eqb (uses (read_charts s) n) 1) (upto (length (read_charts s).nodes))) (regrouped (operands_fit (node_of (read_charts s).nodes) (length (read_charts s).nodes)) (truths (node_of (read_charts s).nodes) (transition_guards (read_charts s))) (truths (node_of (read_charts s).nodes) (action_guards (read_charts s))) (numbers (node_of (read_charts s).nodes) (assigned (read_charts s)))
          ∙ ap (λ b. operands_fit (node_of (read_charts s).nodes) (length (read_charts s).nodes) && b && numbers (node_of (read_charts s).nodes) (assigned (read_charts s))) (sym (all_append (λ n. is_truth (sort_of (node_of (read_charts s).nodes n))) (transition_guards (read_charts s)) (action_guards (read_charts s))))),
      held,
    )
