-- Nodes by the codes and operands of their records, as the code reads them. Assumes nothing: these are definitions.
use Rattle.std.specs.Prelude.{◌≡◌, List, ℕ, ◌+◌, ◌*◌, ℤ}
use Rattle.records.specs.Bytes.{byte, two}
use Rattle.expressions.specs.Nodes.{Node, node_by}
use Rattle.expressions.specs.declared.nodes.Fields.{Fields}

-- what stands in record n
pub record HasFields (s : List ℕ) (n : ℕ) (f : Fields) : Type 0 where
  pub code : f.code ≡ byte s (16 * n + 1)
  pub a : f.a ≡ two s (16 * n + 2)
  pub b : f.b ≡ two s (16 * n + 4)
  pub c : f.c ≡ two s (16 * n + 6)

-- the node, with a constant
abbrev pub coded_node : Fields → ℤ → Node
coded_node f z = node_by f.code f.a f.b f.c z
