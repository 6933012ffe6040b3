use mathlib.Core.Path.{ap, ◌∙◌}
use Rattle.guard_writer.specs.Codes.{code_level}
use Rattle.guard_writer.proofs.Codes.{record-by-level}
use Rattle.guard_writer.proofs.operators.level_at.Goals as goal

pub returns : goal.returns
returns c =
    let x = c.args in c.level.ensures ∙ ap code_level c.byte_at.ensures ∙ (record-by-level x.nodes.now x.n).same
