-- The parts of a transition and of an action that the code has as enums, in the words of the model. Assumes nothing: these are definitions.
use Rattle.std.specs.Prelude.{ℕ, Option, Some, None}
use Rattle.std.proofs.Math.Option as Opt
use Rattle.model.specs.Runs as M
use Rattle.model.specs.ChartSet as C
use Rattle.chart_records.specs.declared.fields.Trigger.{Trigger}
use Rattle.chart_records.specs.declared.fields.Trigger.TheVariants.{Always, Event, After, Every}
use Rattle.chart_records.specs.declared.fields.Deed.{Deed}
use Rattle.chart_records.specs.declared.fields.Deed.TheVariants.{Assign, Raise}

abbrev pub trigger_for : Trigger → C.Trigger
trigger_for Always = C.always
trigger_for (Event e) = C.event e
trigger_for (After ms) = C.after ms
trigger_for (Every ms) = C.every ms

-- a guard's node, if there is a guard
abbrev pub guard_for : Option ℕ → Opt.Option ℕ
guard_for None = Opt.none
guard_for (Some n) = Opt.some n

abbrev pub deed_for : Deed → M.Deed
deed_for (Assign v n) = M.assign v n
deed_for (Raise e) = M.raise e
