use mathlib.Core.Path.{sym}
use Rattle.guard_reader.proofs.PackedParts.{parsed_of-none, parsed_of-some}
use Rattle.guard_reader.proofs.rules.unpacked.Goals as goal

pub returns-then-r-eq0 : goal.returns-then-r-eq0
returns-then-r-eq0 c =
    sym (parsed_of-none c.args.r c.if-r-eq0.true)

pub returns : goal.returns
returns c =
    sym (parsed_of-some c.args.r c.if-r-eq0.false)
