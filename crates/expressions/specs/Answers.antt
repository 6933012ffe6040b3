-- The code's answers, read as the outcomes and the nodes of document 01. Assumes nothing: these are definitions.
use Rattle.std.specs.Prelude.{Bool, List, [], ◌∷◌, ℕ, ℤ, Result}
use Rattle.records.specs.Refusal.{Refusal, out_of_range, zero_divisor, Out}
use Rattle.records.specs.RefusalOf.{out_of}
use Rattle.expressions.specs.Nodes.{Node, constant, variable, arithmetic, choice, comparison, negation, both, either, unknown}
use Rattle.arithmetic.specs.Operators.{Arithmetic, sum, difference, product, quotient, remainder, Comparison, equal, less, at_most}
use Rattle.expressions.specs.Sorts.{Sort, a_number, a_truth}
use Rattle.expressions.specs.declared.outcomes.Reason.{Reason}
use Rattle.expressions.specs.declared.outcomes.Reason.TheVariants.{Range, Divisor}
use Rattle.expressions.specs.declared.nodes.Operator.{Operator}
use Rattle.expressions.specs.declared.nodes.Operator.TheVariants.{Sum, Difference, Product, Quotient, Remainder}
use Rattle.expressions.specs.declared.nodes.Relation.{Relation}
use Rattle.expressions.specs.declared.nodes.Relation.TheVariants.{Equal, Less, AtMost}
use Rattle.expressions.specs.declared.nodes.Node as declared-node
use Rattle.expressions.specs.declared.nodes.Node.TheVariants.{Constant, Variable, Arithmetic as Computed, Choice, Comparison as Compared, Negation, Both, Either, Unknown}
use Rattle.expressions.specs.declared.sorts.Sort as declared-sort
use Rattle.expressions.specs.declared.sorts.Operands as declared-operands

abbrev pub value_reason_of : Reason → Refusal
value_reason_of Range = out_of_range
value_reason_of Divisor = zero_divisor

abbrev pub number_of : Result ℤ Reason → Out ℤ
number_of r = out_of value_reason_of r

abbrev pub truth_of : Result Bool Reason → Out Bool
truth_of r = out_of value_reason_of r

abbrev pub operator_of : Operator → Arithmetic
operator_of Sum = sum
operator_of Difference = difference
operator_of Product = product
operator_of Quotient = quotient
operator_of Remainder = remainder

abbrev pub relation_of : Relation → Comparison
relation_of Equal = equal
relation_of Less = less
relation_of AtMost = at_most

abbrev pub node_for : declared-node.Node → Node
node_for (Constant z) = constant z
node_for (Variable v) = variable v
node_for (Computed o a b) = arithmetic (operator_of o) a b
node_for (Choice t a b) = choice t a b
node_for (Compared o a b) = comparison (relation_of o) a b
node_for (Negation a) = negation a
node_for (Both a b) = both a b
node_for (Either a b) = either a b
node_for Unknown = unknown

abbrev pub sort_for : declared-sort.Sort → Sort
sort_for declared-sort.TheVariants.Number = a_number
sort_for declared-sort.TheVariants.Truth = a_truth

abbrev pub operands_for : declared-operands.Operands → List (ℕ × Sort)
operands_for declared-operands.TheVariants.Leaf = []
operands_for (declared-operands.TheVariants.One s a) = (a, sort_for s) ∷ []
operands_for (declared-operands.TheVariants.Two s a b) = (a, sort_for s) ∷ (b, sort_for s) ∷ []
operands_for (declared-operands.TheVariants.Choice t a b) = (t, a_truth) ∷ (a, a_number) ∷ (b, a_number) ∷ []
