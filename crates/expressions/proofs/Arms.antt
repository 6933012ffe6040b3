-- What the arms of the two evaluators show, from what their calls ensure. Assumes nothing.
use mathlib.Core.Path.{◌≡◌, refl, sym, ap, ◌∙◌}
use mathlib.Core.Bool.{Bool, true, false}
use mathlib.Core.List.{List}
use Prim.Native.Nat.{ℕ, ◌+◌, ◌*◌, ◌≤◌, ◌<◌}
use lib.Dec.{eqb}
use lib.ListN.{get_or}
use lib.IntN.{ℤ, pos}
use Rattle.records.specs.Refusal.{Out, val, choose}
use Rattle.prelude.specs.Lists.{case_of}
use Rattle.records.specs.Bytes.{byte, two, four±}
use Rattle.expressions.specs.Nodes.{Node, node_by, node_at}
use Rattle.expressions.specs.Values.{number_by, truth_by, number, truth}
use Rattle.expressions.specs.OperandValues.{operand_number, operand_truth, compute_operands, compare_operands, decide}
use Rattle.expressions.specs.Coded.{HasFields, coded_node}
use Rattle.arithmetic.specs.Operators.{arithmetic_of, comparison_of}
use Rattle.expressions.specs.declared.nodes.Fields.{Fields}
use Rattle.expressions.proofs.Codes.{arithmetic-codes, comparison-codes, decided-codes, no_number, no_truth}
use Rattle.expressions.proofs.Fields.{coded-at}
use Rattle.expressions.proofs.Depth.{number-rule, truth-rule}

-- ---- outcomes

-- ---- nodes

-- The arms of node n, whose record has the fields f.
module _ (s : List ℕ) (vars : List ℤ) (n : ℕ) (f : Fields) (h : HasFields s n f) where
  abbrev N : ℕ → Out ℤ
  N = operand_number (node_at s) vars n

  abbrev B : ℕ → Out Bool
  B = operand_truth (node_at s) vars n

  number-arm : {x : Node} → x ≡ coded_node f (four± s (16 * n + 8)) → number_by N B vars x ≡ number (node_at s) vars n
  number-arm e = ap (number_by N B vars) (e ∙ coded-at s n f h) ∙ sym (number-rule vars (node_at s) n)

  truth-arm : {x : Node} → x ≡ coded_node f (four± s (16 * n + 8)) → truth_by N B vars x ≡ truth (node_at s) vars n
  truth-arm e = ap (truth_by N B vars) (e ∙ coded-at s n f h) ∙ sym (truth-rule vars (node_at s) n)

  coded : {k : ℕ} → f.code ≡ k → node_by k f.a f.b f.c (four± s (16 * n + 8)) ≡ coded_node f (four± s (16 * n + 8))
  coded e = ap (λ k. node_by k f.a f.b f.c (four± s (16 * n + 8))) (sym e)

  pub no-number-arm : (1 ≤ f.code → f.code ≤ 8 → ⊥) → val (pos 0) ≡ number (node_at s) vars n
  no-number-arm o = no_number N B vars f.code f.a f.b f.c (four± s (16 * n + 8)) o ∙ number-arm refl

  pub constant-arm : f.code ≡ 1 → val (four± s (16 * n + 8)) ≡ number (node_at s) vars n
  unfolding case_of
  constant-arm e = number-arm (coded e)

  pub variable-arm : f.code ≡ 2 → val (get_or vars f.a (pos 0)) ≡ number (node_at s) vars n
  unfolding case_of
  variable-arm e = number-arm (coded e)

  pub choice-arm : f.code ≡ 8 → choose (B f.a) (N f.b) (N f.c) ≡ number (node_at s) vars n
  unfolding case_of
  choice-arm e = number-arm (coded e)

  pub arithmetic-arm : 2 < f.code → f.code < 8 → compute_operands (node_at s) vars (arithmetic_of f.code) n f.a f.b ≡ number (node_at s) vars n
  arithmetic-arm l m = number-arm (arithmetic-codes f.code f.a f.b f.c (four± s (16 * n + 8)) l m)

  pub no-truth-arm : (16 ≤ f.code → f.code ≤ 21 → ⊥) → val false ≡ truth (node_at s) vars n
  no-truth-arm o = no_truth N B vars f.code f.a f.b f.c (four± s (16 * n + 8)) o ∙ truth-arm refl

  pub comparison-arm : 15 < f.code → f.code < 19 → compare_operands (node_at s) vars (comparison_of f.code) n f.a f.b ≡ truth (node_at s) vars n
  comparison-arm l m = truth-arm (comparison-codes f.code f.a f.b f.c (four± s (16 * n + 8)) l m)

  pub negation-arm : f.code ≡ 19 → choose (B f.a) (val false) (val true) ≡ truth (node_at s) vars n
  unfolding case_of
  negation-arm e = truth-arm (coded e)

  pub decided-arm : 19 < f.code → f.code < 22 → decide (eqb f.code 21) (B f.a) (B f.b) ≡ truth (node_at s) vars n
  decided-arm l m = decided-codes N B vars f.code f.a f.b f.c (four± s (16 * n + 8)) l m ∙ truth-arm refl

-- The leaves, where the record's bytes are read.
module _ (s : List ℕ) (vars : List ℤ) (n : ℕ) where
  abbrev fields : Fields
  fields = record { code = byte s (16 * n + 1); a = two s (16 * n + 2); b = two s (16 * n + 4); c = two s (16 * n + 6) }

  pub constant-leaf : byte s (16 * n + 1) ≡ 1 → val (four± s (16 * n + 8)) ≡ number (node_at s) vars n
  constant-leaf = constant-arm s vars n fields (record { code = refl; a = refl; b = refl; c = refl })

  pub variable-leaf : byte s (16 * n + 1) ≡ 2 → val (get_or vars (two s (16 * n + 2)) (pos 0)) ≡ number (node_at s) vars n
  variable-leaf = variable-arm s vars n fields (record { code = refl; a = refl; b = refl; c = refl })
