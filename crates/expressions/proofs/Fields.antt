-- The fields of a node's record, read where the record starts. Assumes nothing.
use mathlib.Core.Path.{◌≡◌, sym, ap, ◌∙◌}
use mathlib.Core.Bool.{◌&&◌}
use mathlib.Core.List.{List}
use Prim.Native.Nat.{ℕ, ◌+◌, ◌*◌, ◌^◌}
use native.Mathlib.Omega.{arith}
use lib.Dec.{leb}
use lib.IntN.{ℤ}
use lib.ListN.{drop}
use lib.Seq.{get_or-drop}
use Rattle.records.specs.Bytes.{byte, two, four±, signed}
use Rattle.expressions.specs.Nodes.{node_by, read_node, node_at}
use Rattle.expressions.specs.Sorts.{sort_of, is_number, is_truth, operands}
use Rattle.expressions.specs.Coded.{HasFields, coded_node}
use Rattle.expressions.specs.Answers.{operands_for}
use Rattle.expressions.specs.declared.nodes.Fields.{Fields}
use Rattle.expressions.specs.declared.sorts.Operands.{Operands}
use Rattle.expressions.proofs.Codes.{number-codes, truth-codes}

module _ (s : List ℕ) (k : ℕ) where
  byte-drop : (j : ℕ) → byte (drop k s) j ≡ byte s (k + j)
  byte-drop j = get_or-drop k s j 0

  two-drop : (j : ℕ) → two (drop k s) j ≡ two s (k + j)
  two-drop j =
      let next : byte (drop k s) (j + 1) ≡ byte s (k + j + 1) = byte-drop (j + 1) ∙ ap (byte s) (omega arith) in
      λ i. byte-drop j i + 256 * next i

  four±-drop : (j : ℕ) → four± (drop k s) j ≡ four± s (k + j)
  four±-drop j =
      let next : two (drop k s) (j + 2) ≡ two s (k + j + 2) = two-drop (j + 2) ∙ ap (two s) (omega arith) in
      λ i. signed (2 ^ 31) (two-drop j i + 65536 * next i)

  pub node-drop : read_node (drop k s) ≡ node_by (byte s (k + 1)) (two s (k + 2)) (two s (k + 4)) (two s (k + 6)) (four± s (k + 8))
  node-drop i = node_by (byte-drop 1 i) (two-drop 2 i) (two-drop 4 i) (two-drop 6 i) (four±-drop 8 i)

-- record n: its sort by its code, and its node by its fields
module _ (s : List ℕ) (n : ℕ) where
  pub number_at : (leb 1 (byte s (16 * n + 1)) && leb (byte s (16 * n + 1)) 8) ≡ is_number (sort_of (node_at s n))
  number_at = number-codes (byte s (16 * n + 1)) (two s (16 * n + 2)) (two s (16 * n + 4)) (two s (16 * n + 6)) (four± s (16 * n + 8)) ∙ ap (λ x. is_number (sort_of x)) (sym (node-drop s (16 * n)))

  pub truth-at : (leb 16 (byte s (16 * n + 1)) && leb (byte s (16 * n + 1)) 21) ≡ is_truth (sort_of (node_at s n))
  truth-at = truth-codes (byte s (16 * n + 1)) (two s (16 * n + 2)) (two s (16 * n + 4)) (two s (16 * n + 6)) (four± s (16 * n + 8)) ∙ ap (λ x. is_truth (sort_of x)) (sym (node-drop s (16 * n)))

  pub coded-at : (f : Fields) → HasFields s n f → coded_node f (four± s (16 * n + 8)) ≡ node_at s n
  coded-at f h = (λ i. node_by (h.code i) (h.a i) (h.b i) (h.c i) (four± s (16 * n + 8))) ∙ sym (node-drop s (16 * n))

  pub operands-read : (f : Fields) → HasFields s n f → (o : Operands) → ((z : ℤ) → operands_for o ≡ operands (coded_node f z)) → operands_for o ≡ operands (node_at s n)
  operands-read f h o e = e (four± s (16 * n + 8)) ∙ ap operands (coded-at f h)
