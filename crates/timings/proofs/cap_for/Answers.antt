-- The top does not depend on the timing, and `after` is one.
use Rattle.std.proofs.Common.{sym, ap, ◌∙◌}
use Rattle.model.specs.AutomataTable.{after}
use Rattle.timings.specs.Growth.{timing_if, cap_for}
use Rattle.timings.proofs.cap_for.Goals as goal

pub returns-then-after : goal.returns-then-after
returns-then-after c = c.top.ensures after ∙ ap (λ b. cap_for (timing_if b) c.args.ticks) (sym c.if-after.true)
