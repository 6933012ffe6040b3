-- Refusal 8, one transition and one action at a time. Assumes nothing: these are definitions.
use Rattle.std.specs.Prelude.{Bool, List, ◌++◌, ℕ, replicate}
use Rattle.model.specs.Limits.{most_nodes}
use Rattle.prelude.specs.Lists.{all, gather, upto}
use Rattle.expressions.specs.Nodes.{Node, node_at}
use Rattle.expressions.specs.Sorts.{sort_of, is_number, is_truth}
use Rattle.expressions.specs.Uses.{add_uses, all_operands}
use Rattle.model.specs.ChartFile.{guard_nodes, assigned_nodes}
use Rattle.chart_records.specs.declared.Shape.{Shape}
use Rattle.chart_records.specs.Places.{transition_at, action_at, node_part}

-- the node that transition t has as its guard, that action i has as its guard, and that it assigns, if there is one
module _ (s : List ℕ) (sh : Shape) where
  abbrev pub guard_at : ℕ → List ℕ
  guard_at t = guard_nodes (transition_at s sh t).guard

  abbrev pub condition_at : ℕ → List ℕ
  condition_at i = guard_nodes (action_at s sh i).1.guard

  abbrev pub assigned_at : ℕ → List ℕ
  assigned_at i = assigned_nodes (action_at s sh i).1.deed

  -- the nodes that are used as operands, as guards of transitions and by actions, and the uses of each node, counted in that order
  abbrev pub operand_use : List ℕ
  operand_use = all_operands (node_at (node_part s sh)) sh.nodes

  abbrev pub guard_use : List ℕ
  guard_use = gather guard_at (upto sh.transitions)

  abbrev pub action_use : List ℕ
  action_use = gather (λ i. condition_at i ++ assigned_at i) (upto sh.actions)

  abbrev pub all_uses : List ℕ
  all_uses = add_uses (add_uses (add_uses (replicate most_nodes 0) operand_use) guard_use) action_use

module _ (node : ℕ → Node) where
  abbrev pub truths : List ℕ → Bool
  truths ns = all (λ n. is_truth (sort_of (node n))) ns

  abbrev pub numbers : List ℕ → Bool
  numbers ns = all (λ n. is_number (sort_of (node n))) ns
