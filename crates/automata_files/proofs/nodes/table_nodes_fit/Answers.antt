use mathlib.Core.Path.{sym, ap, ◌∙◌}
use mathlib.Core.Bool.{◌&&◌}
use Prim.Native.Nat.{ℕ}
use native.Mathlib.Omega.{arith}
use lib.ListN.{length, replicate, length-replicate}
use Rattle.expressions.specs.Nodes.{node_at}
use Rattle.expressions.specs.Uses.{all_operands}
use Rattle.expressions.proofs.Uses.{adds-length}
use Rattle.automata_records.specs.Places.{node_part}
use Rattle.automata_records.proofs.PlacesRead.{most-nodes}
use Rattle.automata_files.proofs.StructureTests.{nodes-is, used-is}
use Rattle.automata_files.proofs.nodes.table_nodes_fit.Goals as goal

pub none_twice-requires : goal.none_twice-requires
none_twice-requires c =
    let s = c.args.s.now in
    let sh = c.args.shape in
    omega (arith, most-nodes s sh c.requires.0, ap length c.requires.2 ∙ adds-length (replicate 1024 0) (all_operands (node_at (node_part s sh)) sh.nodes) ∙ length-replicate {A = ℕ} 1024 0)

pub returns : goal.returns
returns c =
    let s = c.args.s.now in
    let sh = c.args.shape in
    let node = node_at (node_part s sh) in
    let used = c.none_twice.ensures ∙ used-is node sh.nodes c.args.uses.now (most-nodes s sh c.requires.0) c.requires.2 in
    (λ j. c.requires.1 j && c.guards_fit.ensures j && c.updates_fit.ensures j && used j) ∙ sym (nodes-is s sh c.requires.0)
