-- How many bytes are enough for the text of a tree: those that are each node's own. Assumes nothing: these are definitions.
use Rattle.std.specs.Prelude.{◌≡◌, true, cond, ◌||◌, List, [], ◌∷◌, ℕ, suc, ◌+◌, ◌*◌, ◌/◌, ◌≤◌, ltb, length}
use Rattle.std.proofs.Math.Option.{none}
use Rattle.prelude.specs.Lists.{all, upto}
use Rattle.expressions.specs.Nodes.{Node, node_at}
use Rattle.expressions.specs.Sorts.{Sort, sort_of, is_number, is_truth, variables_of, operand_fits, node_fits}
use Rattle.expressions.specs.Uses.{operand_numbers, all_operands}
use Rattle.guards.specs.Texts.{text_of, text_in}
use Rattle.model.specs.Limits.{most_variables}
use Rattle.guards.specs.Lists.{list_refusal, tree_of}
use Rattle.guards.specs.Calls.{written_line}
use Rattle.guard_writer.specs.Operands.{operand_tree}

unfoldable pub total : (ℕ → ℕ) → List ℕ → ℕ
total f [] = 0
total f (x ∷ xs) = f x + total f xs

-- those below b alone
abbrev pub cut : (ℕ → ℕ) → ℕ → ℕ → ℕ
cut f b a = cond (ltb a b) (f a) 0

module _ (node : ℕ → Node) where
  abbrev pub text_length : ℕ → ℕ
  text_length n = length (text_of (tree_of node n))

  -- what operand a of node n takes beyond its own text, in a place that takes levels up to k
  pub record Around (n k a : ℕ) (sort : Sort) (bytes : ℕ) : Type 0 where
    pub few : bytes ≤ 2
    pub enough : length (text_in k (operand_tree node n a)) ≤ bytes + cut text_length n a
    pub fits : operand_fits node n (a, sort) ≡ true

  -- what node n takes beyond the texts of its operands
  pub record Own (n bytes : ℕ) : Type 0 where
    pub few : bytes ≤ 21
    pub enough : text_length n ≤ bytes + total (cut text_length n) (operand_numbers (node n))

  -- the same of the first nodes together
  pub record OwnAll (size bytes : ℕ) : Type 0 where
    pub few : bytes ≤ 21 * size
    pub enough : (b : ℕ) → size ≤ suc b → total text_length (upto size) ≤ bytes + total (cut text_length b) (all_operands node size)

  -- node n by itself passes the tests of a list
  pub record Passes (n : ℕ) : Type 0 where
    pub known : (is_number (sort_of (node n)) || is_truth (sort_of (node n))) ≡ true
    pub variables : all (λ v. ltb v most_variables) (variables_of (node n)) ≡ true
    pub fits : node_fits node n ≡ true

-- an accepted list, for whose line so many bytes are enough
pub record Fits (nodes : List ℕ) (bytes : ℕ) : Type 0 where
  pub accepted : none ≡ list_refusal (node_at nodes) (length nodes / 16)
  pub enough : length (written_line nodes) ≤ bytes
