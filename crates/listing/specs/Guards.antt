-- Guards as people type them: beside their nodes in a listing, and each on a line of its own. Assumes nothing: these are definitions.
use Rattle.std.proofs.Math.Option.{Option, some, none}
use Rattle.std.specs.Prelude.{List, [], ◌∷◌, ◌++◌, ℕ, ◌+◌, ◌*◌, ◌≤◌, length}
use Rattle.prelude.specs.Lists.{case_of}
use Rattle.records.specs.Bytes.{kind}
use Rattle.expressions.specs.Nodes.{Node}
use Rattle.model.specs.Limits.{most_nodes}
use Rattle.model.specs.ChartSet.{read_transition, read_action}
use Rattle.model.specs.AutomataTable.{read_literal, read_update}
use Rattle.model.specs.Replay.{feed}
use Rattle.lines.specs.Ascii.{ascii}
use Rattle.guards.specs.Texts.{text_of}
use Rattle.guards.specs.Lists.{tree_of}
use Rattle.listing_parts.specs.Parts.{named}

-- the node of a record's guard, which transitions, actions, literals and updates may have
abbrev pub guard_of : List ℕ → Option ℕ
guard_of r = case_of (kind r) ((3, (read_transition r).guard) ∷ (6, (read_action r).1.guard) ∷ (36, (read_literal r).1.guard) ∷ (40, (read_update r).1.guard) ∷ []) none

-- such a record by its number i
abbrev pub guarded_text : ℕ → List ℕ → List ℕ
guarded_text i r = case_of (kind r) ((3, named "transition " i) ∷ (6, named "action " i) ∷ (36, named "literal " i) ∷ []) (named "update " i)

-- a guard has 21 bytes to a node at most; a line has 256 of a record's fields besides, the parentheses around a guard and the line's end
abbrev pub longest_guard : ℕ
longest_guard = 21 * most_nodes

abbrev pub line_room : ℕ
line_room = 256 + longest_guard + 4

-- in a file with these nodes
module _ (node : ℕ → Node) where
  -- beside its node
  abbrev pub beside_text : Option ℕ → List ℕ
  beside_text none = []
  beside_text (some g) = ascii " (" ++ text_of (tree_of node g) ++ ascii ")"

  -- on a line of its own, behind what it guards
  abbrev pub alone_text : List ℕ → Option ℕ → List ℕ
  alone_text guarded none = []
  alone_text guarded (some g) = guarded ++ named ": guard node " g ++ ascii ": " ++ text_of (tree_of node g) ++ (feed ∷ [])

  -- no guard is longer than that
  pub record Short : Type 0 where
    pub short : (g : ℕ) → length (text_of (tree_of node g)) ≤ longest_guard
