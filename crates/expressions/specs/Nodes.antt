-- Kind 5 (39 in automata): nodes, and their records. Assumes nothing: these are definitions.
use Rattle.std.specs.Prelude.{List, [], ◌∷◌, ◌++◌, ℕ, ◌*◌, get_or, drop, ℤ, pos}
use Rattle.prelude.specs.Lists.{case_of, Lists}
use Rattle.arithmetic.specs.Operators.{Arithmetic, sum, difference, product, quotient, remainder, Comparison, equal, less, at_most, arithmetic_code, comparison_code}
use Rattle.records.specs.Bytes.{byte, two, four±, bytes2, bytes4±}

-- A node: its operator with the numbers of its operands, or with its constant, or with the number of its variable.
pub data Node : Type 0 where
  constant : ℤ → Node
  variable : ℕ → Node
  arithmetic : Arithmetic → ℕ → ℕ → Node
  choice : ℕ → ℕ → ℕ → Node
  comparison : Comparison → ℕ → ℕ → Node
  negation : ℕ → Node
  both : ℕ → ℕ → Node
  either : ℕ → ℕ → Node
  unknown : Node

-- Operators by their codes, of a record's operands and constant.
abbrev pub node_by : ℕ → ℕ → ℕ → ℕ → ℤ → Node
node_by operator a b c z =
    case_of operator
    ((1, constant z)
    ∷ (2, variable a)
    ∷ (3, arithmetic sum a b)
    ∷ (4, arithmetic difference a b)
    ∷ (5, arithmetic product a b)
    ∷ (6, arithmetic quotient a b)
    ∷ (7, arithmetic remainder a b)
    ∷ (8, choice a b c)
    ∷ (16, comparison equal a b)
    ∷ (17, comparison less a b)
    ∷ (18, comparison at_most a b)
    ∷ (19, negation a)
    ∷ (20, both a b)
    ∷ (21, either a b)
    ∷ [])
    unknown

-- "5 node: 1 operator; 2-3, 4-5, 6-7 operands; 8-11 constant." The record may go on after its 16 bytes.
abbrev pub read_node : List ℕ → Node
read_node r = node_by (byte r 1) (two r 2) (two r 4) (two r 6) (four± r 8)

-- Node n of a list of nodes, and of the bytes of such records; one past the end is unknown.
abbrev pub node_of : List Node → ℕ → Node
node_of nodes n = get_or nodes n unknown

abbrev pub node_at : List ℕ → ℕ → Node
node_at s n = read_node (drop (16 * n) s)

-- bytes 1 to 15: operator, three operands, constant, and what is unnamed
abbrev pub node_bytes : ℕ → ℕ → ℕ → ℕ → ℤ → List ℕ
node_bytes op a b c z = op ∷ bytes2 a ++ bytes2 b ++ bytes2 c ++ bytes4± z ++ (0 ∷ 0 ∷ 0 ∷ 0 ∷ [])

abbrev pub write_node : Node → List ℕ
write_node (constant z) = node_bytes 1 0 0 0 z
write_node (variable v) = node_bytes 2 v 0 0 (pos 0)
write_node (arithmetic o a b) = node_bytes (arithmetic_code o) a b 0 (pos 0)
write_node (choice t a b) = node_bytes 8 t a b (pos 0)
write_node (comparison o a b) = node_bytes (comparison_code o) a b 0 (pos 0)
write_node (negation a) = node_bytes 19 a 0 0 (pos 0)
write_node (both a b) = node_bytes 20 a b 0 (pos 0)
write_node (either a b) = node_bytes 21 a b 0 (pos 0)
write_node unknown = node_bytes 0 0 0 0 (pos 0)

unfoldable pub Nodes : Type 0
unfolding Lists
Nodes = Unit
