-- The two calls: a guard's line read into a lent buffer of records, and the line of a list of nodes written into a lent buffer. Assumes nothing: these are
-- definitions.
use Rattle.std.specs.Prelude.{not, ◌&&◌, List, ◌++◌, ℕ, ◌/◌, ◌-◌, ltb, length, drop}
use Rattle.records.specs.Refusal.{wrong_sort, short_space, val, ◌>>=◌, ◌>>◌, fault_if, unless_refused}
use Rattle.model.specs.Outcome.{Outcome, settled}
use Rattle.expressions.specs.Nodes.{node_at}
use Rattle.guards.specs.Trees.{is_truth, fits, node_count, nodes_from, records_of}
use Rattle.guards.specs.Grammar.{line_tree, Grammar}
use Rattle.guards.specs.Texts.{text_of}
use Rattle.guards.specs.Lists.{list_refusal, tree_of, GuardLists}

-- "the answer is the number of nodes or bytes written, and what lies beyond is kept"
abbrev pub written : ℕ → List ℕ → List ℕ → ℕ × List ℕ
written answer bytes lent = (answer, bytes ++ drop (length bytes) lent)

-- "A line outside the grammar .. is 22; a wrong sort of operand, or a number as the whole line, is 23; too little space for nodes or text is 24; they are
-- tried in that order." "Room for nodes is nodes_len / 16, rounded down."
abbrev pub read_guard : List ℕ → List ℕ → Outcome ℕ (List ℕ)
read_guard text lent = settled lent (do
  t ← line_tree text
  fault_if (not (fits t && is_truth t)) wrong_sort
  fault_if (ltb (length lent / 16) (node_count t)) short_space
  val (written (node_count t) (records_of (nodes_from 0 t)) lent))

-- "its last node is the root, and it first tests by 5, 6 .. and 8"; "a list of nodes handed to the writer likewise is its whole records"
abbrev pub written_line : List ℕ → List ℕ
written_line nodes = text_of (tree_of (node_at nodes) (length nodes / 16 - 1))

abbrev pub write_guard : List ℕ → List ℕ → Outcome ℕ (List ℕ)
write_guard nodes lent = settled lent (unless_refused (list_refusal (node_at nodes) (length nodes / 16)) (do
  let text = written_line nodes
  fault_if (ltb (length lent) (length text)) short_space
  val (written (length text) text lent)))

-- what a proof that computes with these opens
unfoldable pub GuardCalls : Type 0
unfolding Grammar GuardLists nodes_from fits text_of
GuardCalls = Unit
