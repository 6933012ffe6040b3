-- The nodes of a file that is accepted: they are its own, and as each is an operand once at most, their lines are short. Assumes nothing.
use mathlib.Core.Path.{◌≡◌, refl, sym, ap, subst, ◌∙◌}
use mathlib.Core.Bool.{Bool, true, false, not, cond}
use mathlib.Core.Option.{none}
use mathlib.Core.List.{List, map}
use Prim.Native.Nat.{ℕ, ◌≤◌, ◌<◌}
use native.Mathlib.Omega.{arith}
use borrow.Author.Tests.{ltb-true, ltb-false}
use lib.Dec.{leb, ltb, leb→le}
use lib.IntN.{pos}
use lib.ListN.{length, get_or-eq_default}
use Rattle.prelude.specs.Lists.{all, gather, upto}
use Rattle.prelude.proofs.Bools.{not-not}
use Rattle.prelude.proofs.Lists.{all_get_d, upto_all}
use Rattle.records.specs.Refusal.{Refusal, bad_table}
use Rattle.records.specs.Bytes.{byte}
use Rattle.expressions.specs.Nodes.{Node, unknown, node_of, node_at}
use Rattle.expressions.specs.Sorts.{sort_of, is_number, is_truth, operands_fit, operand_uses}
use Rattle.model.specs.ChartSet.{read_charts}
use Rattle.model.specs.ChartFile.{guard_nodes, assigned_nodes}
use Rattle.model.specs.AutomataTable.{read_automata}
use Rattle.model.specs.AutomataFile.{automata_refusal, table_tests, table_nodes_fit}
use Rattle.model.specs.Replay.{Replay}
use Rattle.model.proofs.ChartFile.{lowest-none, five-of, nodes-few, used-once}
use Rattle.chart_records.specs.Accepted as sets
use Rattle.chart_records.specs.Places as set-places
use Rattle.chart_records.specs.declared.Shape as set-shape
use Rattle.chart_records.proofs.PlacesRead as set_Reads
use Rattle.automata_records.specs.Accepted as tables
use Rattle.automata_records.specs.Places as table-places
use Rattle.automata_records.specs.declared.Shape as table-shape
use Rattle.automata_records.proofs.PlacesRead as table-reads
use Rattle.guards.specs.Texts.{text_of}
use Rattle.guards.specs.Trees.{constant}
use Rattle.guards.specs.Lists.{tree_by, tree_at, tree_of}
use Rattle.guard_writer.proofs.Short.{short-text}
use Rattle.listing.specs.Guards.{longest_guard, Short}
use Rattle.listing.specs.Listing.{nodes_of, HasNodes}

-- of no node the line is 0
unknown-short : (node : ℕ → Node) (g : ℕ) → node g ≡ unknown → length (text_of (tree_of node g)) ≡ 1
unfolding Replay tree_at text_of
unknown-short node g e = ap (λ x. length (text_of (tree_by (λ a. cond (ltb a g) (tree_at node g a) (constant (pos 0))) x))) e

short-nodes : (xs : List Node) → length xs ≤ 1024 → ((k : ℕ) → k < length xs → operand_uses (node_of xs) (length xs) k ≤ 1) → Short (node_of xs)
short-nodes xs few used = record { short = λ g. go g (ltb g (length xs)) refl }
  where
    go : (g : ℕ) (b : Bool) → ltb g (length xs) ≡ b → length (text_of (tree_of (node_of xs) g)) ≤ longest_guard
    go g true e =
        let l : g < length xs = ltb-true g (length xs) e in
        omega (arith, short-text (node_of xs) (length xs) g l (λ k h. used k (omega arith)))
    go g false e =
        let l : length xs ≤ g = ltb-false g (length xs) e in
        omega (arith, unknown-short (node_of xs) g (get_or-eq_default xs unknown l))

-- as the part of the file that has their records
nodes-of : (s nodes : List ℕ) (xs : List Node) → node_of xs ≡ node_at nodes → node_of xs ≡ nodes_of s → Short (node_of xs) → HasNodes s nodes
nodes-of s nodes xs part own short = record { same = sym part ∙ own; short = subst Short part short }

pub set-nodes : (s : List ℕ) (sh : set-shape.Shape) → sets.Accepted s sh → leb 33 (byte s 0) ≡ false → HasNodes s (set-places.node_part s sh)
set-nodes s sh ok e =
    let xs = (read_charts s).nodes in
    nodes-of s (set-places.node_part s sh) xs (set_Reads.lookup-is s sh ok.shape) (ap (λ b. node_of (cond b (read_automata s).nodes xs)) (sym e))
    (short-nodes xs (nodes-few s ok.unrefused) (λ k h. omega (arith, used-once s ok.unrefused k h)))

module _ (s : List ℕ) (ok : automata_refusal s ≡ none) where
  abbrev xs : List Node
  xs = (read_automata s).nodes

  -- 11: not "a node operand twice"
  once : (k : ℕ) → k < length xs → operand_uses (node_of xs) (length xs) k ≤ 1
  once k h =
      let tests : List (Refusal × Bool) = map (λ applies. (bad_table, applies)) (table_tests s) in
      leb→le (operand_uses (node_of xs) (length xs) k) 1
      (upto_all (λ n. leb (operand_uses (node_of xs) (length xs) n) 1) (length xs) k
      (five-of (operands_fit (node_of xs) (length xs))
      (all (λ n. is_truth (sort_of (node_of xs n))) (gather (λ x. guard_nodes x.1.guard) (read_automata s).literals))
      (all (λ n. is_truth (sort_of (node_of xs n))) (gather (λ x. guard_nodes x.1.guard) (read_automata s).updates))
      (all (λ n. is_number (sort_of (node_of xs n))) (gather (λ x. assigned_nodes x.1.deed) (read_automata s).updates))
      (all (λ n. leb (operand_uses (node_of xs) (length xs) n) 1) (upto (length xs)))
      (not-not (table_nodes_fit (read_automata s)) (all_get_d (λ x. not x.1) tests (bad_table, false) 9 (lowest-none tests ok) (omega arith)))).4 h)

pub table-nodes : (s : List ℕ) (sh : table-shape.Shape) → tables.Accepted s sh → leb 33 (byte s 0) ≡ true → HasNodes s (table-places.node_part s sh)
table-nodes s sh ok e =
    let xs = (read_automata s).nodes in
    nodes-of s (table-places.node_part s sh) xs (table-reads.lookup-is s sh ok.shape) (ap (λ b. node_of (cond b xs (read_charts s).nodes)) (sym e))
    (short-nodes xs (omega (arith, table-reads.length-nodes s sh ok.shape, table-reads.most-nodes s sh ok.shape)) (once s ok.unrefused))
