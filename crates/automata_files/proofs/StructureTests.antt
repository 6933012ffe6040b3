-- The tests of refusal 11 on what a framed file says, by the numbers of its things. Assumes nothing.
use mathlib.Core.Path.{◌≡◌, sym, ap, ◌∙◌}
use mathlib.Core.Bool.{Bool, not, ◌&&◌, ◌||◌}
use mathlib.Core.List.{List}
use Prim.Native.Nat.{ℕ, min, ◌≤◌}
use native.Mathlib.Omega.{arith}
use lib.Dec.{leb, eqb}
use lib.ListN.{length, get_or, replicate}
use Rattle.prelude.specs.Lists.{all, gather, upto}
use Rattle.expressions.specs.Nodes.{Node, node_of, node_at}
use Rattle.expressions.specs.Sorts.{sort_of, is_number, is_truth, operands_fit, operand_uses}
use Rattle.expressions.specs.Uses.{add_uses, all_operands}
use Rattle.prelude.proofs.Counts.{get_or-upto}
use Rattle.expressions.proofs.Uses.{counted, at-most-once}
use Rattle.model.specs.Owned.{home}
use Rattle.model.specs.AutomataTable.{read_automata}
use Rattle.model.specs.ChartFile.{guard_nodes, assigned_nodes}
use Rattle.model.specs.AutomataFile.{inside_automata, idle_edges_stay, table_nodes_fit}
use Rattle.chart_checks.specs.Used.{truths, numbers}
use Rattle.prelude.proofs.Maps.{all_map, gather-map}
use Rattle.prelude.proofs.Numbers.{all_alike, all_both}
use Rattle.prelude.proofs.Loops.{and_assoc}
use Rattle.chart_checks.proofs.Used.{all-gather}
use Rattle.automata_records.specs.declared.Shape.{Shape}
use Rattle.automata_records.specs.Shape.{IsShape}
use Rattle.automata_records.specs.Places.{edge_at, literal_at, update_at, node_part}
use Rattle.automata_records.specs.Structure.{edge_inside, initial_inside, idle_stays, guard_at, condition_at, assigned_at}
use Rattle.automata_records.proofs.NamedTests.{named-is}
use Rattle.automata_records.proofs.PlacesRead.{length-initial, length-nodes, edges_are, literals-are, updates-are, initial-is, lookup-is}

module _ (s : List ℕ) (sh : Shape) (is : IsShape s sh) where
  -- ---- ends of edges

  edges-inside :
      all (λ e. eqb (home (read_automata s).homes e.source) e.automaton && eqb (home (read_automata s).homes e.target) e.automaton) (read_automata s).edges
      ≡ all (edge_inside s sh) (upto sh.edges)
  edges-inside =
      ap (all (λ e. eqb (home (read_automata s).homes e.source) e.automaton && eqb (home (read_automata s).homes e.target) e.automaton)) (edges_are s sh is)
      ∙ all_map (edge_at s sh) (λ e. eqb (home (read_automata s).homes e.source) e.automaton && eqb (home (read_automata s).homes e.target) e.automaton) (upto sh.edges)

  initials-inside :
      all (λ a. eqb (home (read_automata s).homes (get_or (read_automata s).initial a 0)) a) (upto (length (read_automata s).initial))
      ≡ all (initial_inside s sh) (upto sh.automata)
  initials-inside =
      ap (λ n. all (λ a. eqb (home (read_automata s).homes (get_or (read_automata s).initial a 0)) a) (upto n)) (length-initial s sh is)
      ∙ all_alike (λ a. eqb (home (read_automata s).homes (get_or (read_automata s).initial a 0)) a) (initial_inside s sh) sh.automata
      (λ a h. ap (λ l. eqb (home (read_automata s).homes l) a) (initial-is s sh is a h))

  pub inside_is : inside_automata (read_automata s) ≡ (all (edge_inside s sh) (upto sh.edges) && all (initial_inside s sh) (upto sh.automata))
  inside_is = λ j. edges-inside j && initials-inside j

  pub idle-is : idle_edges_stay (read_automata s) ≡ all (idle_stays s sh) (upto sh.edges)
  idle-is =
      ap (all (λ e. not e.idles || eqb e.source e.target)) (edges_are s sh is)
      ∙ all_map (edge_at s sh) (λ e. not e.idles || eqb e.source e.target) (upto sh.edges)

  -- ---- nodes

  guards : truths (node_of (read_automata s).nodes) (gather (λ x. guard_nodes x.1.guard) (read_automata s).literals) ≡ all (λ l. truths (node_at (node_part s sh)) (guard_at s sh l)) (upto sh.literals)
  guards =
      (λ j. truths (lookup-is s sh is j) ((ap (gather (λ x. guard_nodes x.1.guard)) (literals-are s sh is) ∙ gather-map (literal_at s sh) (λ x. guard_nodes x.1.guard) (upto sh.literals)) j))
      ∙ all-gather (λ n. is_truth (sort_of (node_at (node_part s sh) n))) (guard_at s sh) (upto sh.literals)

  conditions : truths (node_of (read_automata s).nodes) (gather (λ x. guard_nodes x.1.guard) (read_automata s).updates) ≡ all (λ u. truths (node_at (node_part s sh)) (condition_at s sh u)) (upto sh.updates)
  conditions =
      (λ j. truths (lookup-is s sh is j) ((ap (gather (λ x. guard_nodes x.1.guard)) (updates-are s sh is) ∙ gather-map (update_at s sh) (λ x. guard_nodes x.1.guard) (upto sh.updates)) j))
      ∙ all-gather (λ n. is_truth (sort_of (node_at (node_part s sh) n))) (condition_at s sh) (upto sh.updates)

  assigned : numbers (node_of (read_automata s).nodes) (gather (λ x. assigned_nodes x.1.deed) (read_automata s).updates) ≡ all (λ u. numbers (node_at (node_part s sh)) (assigned_at s sh u)) (upto sh.updates)
  assigned =
      (λ j. numbers (lookup-is s sh is j) ((ap (gather (λ x. assigned_nodes x.1.deed)) (updates-are s sh is) ∙ gather-map (update_at s sh) (λ x. assigned_nodes x.1.deed) (upto sh.updates)) j))
      ∙ all-gather (λ n. is_number (sort_of (node_at (node_part s sh) n))) (assigned_at s sh) (upto sh.updates)

  pub nodes-is :
      table_nodes_fit (read_automata s)
      ≡ (operands_fit (node_at (node_part s sh)) sh.nodes
      && all (λ l. truths (node_at (node_part s sh)) (guard_at s sh l)) (upto sh.literals)
      && all (λ u. truths (node_at (node_part s sh)) (condition_at s sh u) && numbers (node_at (node_part s sh)) (assigned_at s sh u)) (upto sh.updates)
      && all (λ n. leb (operand_uses (node_at (node_part s sh)) sh.nodes n) 1) (upto sh.nodes))
  nodes-is =
      (λ j.
      operands_fit (lookup-is s sh is j) (length-nodes s sh is j)
      && guards j
      && conditions j
      && assigned j
      && all (λ n. leb (operand_uses (lookup-is s sh is j) (length-nodes s sh is j) n) 1) (upto (length-nodes s sh is j)))
      ∙ ap (λ b. b && all (λ n. leb (operand_uses (node_at (node_part s sh)) sh.nodes n) 1) (upto sh.nodes))
      (sym (and_assoc earlier (all (λ u. truths (node_at (node_part s sh)) (condition_at s sh u)) (upto sh.updates)) (all (λ u. numbers (node_at (node_part s sh)) (assigned_at s sh u)) (upto sh.updates)))
      ∙ ap (λ b. earlier && b) (sym (all_both (λ u. truths (node_at (node_part s sh)) (condition_at s sh u)) (λ u. numbers (node_at (node_part s sh)) (assigned_at s sh u)) (upto sh.updates))))
    where
      earlier : Bool
      earlier = operands_fit (node_at (node_part s sh)) sh.nodes && all (λ l. truths (node_at (node_part s sh)) (guard_at s sh l)) (upto sh.literals)

-- uses counted up to 2 tell which nodes are used twice
pub used-is : (node : ℕ → Node) (size : ℕ) (uses : List ℕ) → size ≤ 1024 → uses ≡ add_uses (replicate 1024 0) (all_operands node size) →
    all (λ n. leb (get_or uses n 0) 1) (upto size) ≡ all (λ n. leb (operand_uses node size n) 1) (upto size)
used-is node size uses l e =
    all_alike (λ n. leb (get_or uses n 0) 1) (λ n. leb (operand_uses node size n) 1) size
    (λ n h.
    ap (λ u. leb (get_or u n 0) 1) (e ∙ counted 1024 (all_operands node size))
    ∙ ap (λ m. leb m 1) (get_or-upto (λ k. min 2 (operand_uses node size k)) 0 1024 n (omega arith))
    ∙ at-most-once (operand_uses node size n))

-- what the names of all things come to
pub ruleset names = (named-is)
