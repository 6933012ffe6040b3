-- The parts of a listing's lines that sets and tables share, as bytes. Assumes nothing: these are definitions.
use Rattle.std.proofs.Math.Option.{Option, some, none}
use Rattle.std.specs.Prelude.{List, [], ◌++◌, ℕ, ◌+◌, ◌≤◌, ℤ}
use Prim.Native.String.{String}
use Rattle.records.specs.Wrote.{Wrote}
use Rattle.expressions.specs.Nodes.{Node, constant, variable, arithmetic, choice, comparison, negation, both, either, unknown}
use Rattle.arithmetic.specs.Operators.{Arithmetic, sum, difference, product, quotient, remainder, Comparison, equal, less, at_most}
use Rattle.model.specs.Runs.{Variable, Deed, assign, raise, Action}
use Rattle.model.specs.Replay.{decimal, signed_decimal}
use Rattle.lines.specs.Ascii.{ascii}

-- The text was written, and the place behind it is so many bytes on at most.
pub record WroteNear (most : ℕ) (before : List ℕ) (at : ℕ) (text : List ℕ) (after : List ℕ) (next : ℕ) : Type 0 where
  pub wrote : Wrote before at text after next
  pub near : next ≤ at + most

-- a word, then a number
abbrev pub named : String → ℕ → List ℕ
named word n = ascii word ++ decimal n

abbrev pub named_signed : String → ℤ → List ℕ
named_signed word z = ascii word ++ signed_decimal z

-- a number and its unit
abbrev pub measured : String → ℕ → String → List ℕ
measured word n unit = named word n ++ ascii unit

abbrev pub guard_text : Option ℕ → List ℕ
guard_text none = ascii ", no guard"
guard_text (some n) = named ", guard node " n

abbrev pub deed_text : Deed → List ℕ
deed_text (assign v n) = named ": variable " v ++ named " := node " n
deed_text (raise e) = named ": raise event " e

-- an action or update without a guard says nothing of it
abbrev pub condition_text : Option ℕ → List ℕ
condition_text none = []
condition_text (some n) = named ", guard node " n

abbrev pub action_text : Action → List ℕ
action_text a = deed_text a.deed ++ condition_text a.guard

-- 4 and 38
abbrev pub variable_text : ℕ → Variable → List ℕ
variable_text i v = named "variable " i ++ named_signed ": " v.lowest ++ named_signed " to " v.highest ++ named_signed ", start " v.start

-- ---- nodes

-- two operands with what stands between them
abbrev pub operands_text : ℕ → List ℕ → ℕ → List ℕ
operands_text a word b = named ": node " a ++ (word ++ decimal b)

abbrev pub arithmetic_text : Arithmetic → ℕ → ℕ → List ℕ
arithmetic_text sum a b = operands_text a (ascii " + node ") b
arithmetic_text difference a b = operands_text a (ascii " - node ") b
arithmetic_text product a b = operands_text a (ascii " * node ") b
arithmetic_text quotient a b = operands_text a (ascii " / node ") b
arithmetic_text remainder a b = operands_text a (ascii " % node ") b

abbrev pub comparison_text : Comparison → ℕ → ℕ → List ℕ
comparison_text equal a b = operands_text a (ascii " = node ") b
comparison_text less a b = operands_text a (ascii " < node ") b
comparison_text at_most a b = operands_text a (ascii " <= node ") b

abbrev pub operator_text : Node → List ℕ
operator_text (constant z) = named_signed ": constant " z
operator_text (variable v) = named ": variable " v
operator_text (arithmetic o a b) = arithmetic_text o a b
operator_text (choice t a b) = operands_text t (ascii " ? node ") a ++ named " : node " b
operator_text (comparison o a b) = comparison_text o a b
operator_text (negation a) = named ": not node " a
operator_text (both a b) = operands_text a (ascii " and node ") b
operator_text (either a b) = operands_text a (ascii " or node ") b
operator_text unknown = ascii ": unknown"

-- 5 and 39
abbrev pub node_text : ℕ → Node → List ℕ
node_text i node = named "node " i ++ operator_text node
