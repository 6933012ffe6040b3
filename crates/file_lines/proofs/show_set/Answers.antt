-- An accepted set has its nodes.
use mathlib.Core.Path.{sym, subst}
use Rattle.chart_files.proofs.AcceptedByCheck.{accepted-of}
use Rattle.listing.specs.Listing.{HasNodes}
use Rattle.listing.proofs.FileNodes.{set-nodes}
use Rattle.file_lines.proofs.show_set.Goals as goal

pub print_records-requires : goal.print_records-requires
print_records-requires g c =
    let s = c.args.s.now in
    let shape = c.in-Ok.shape in
    subst (HasNodes s) (sym c.node_records-nodes.ensures) (set-nodes s shape (accepted-of s c.check.result c.check.ensures shape c.in-Ok.is) c.requires)
