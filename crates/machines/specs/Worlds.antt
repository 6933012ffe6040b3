-- The answers of deeds, as the model's outcomes. Assumes nothing: these are definitions.
use Rattle.std.specs.Prelude.{cond, List, ◌≡◌, ℕ, ◌+◌, leb, eqb, ℤ, Result}
use Rattle.records.specs.RefusalOf.{out_of}
use Rattle.records.specs.Refusal.{Refusal, refusal_number, out_of_range, zero_divisor, out_of_bounds, Out, val, fault, ◌>>=◌}
use Rattle.model.specs.Runs.{World, Run}
use Rattle.answers.specs.declared.Reason.{Reason}
use Rattle.answers.specs.Answers.{reason_of}

-- What a run has besides places, variables and events, and what no deed and no turn of a chart or automaton looks at: contracts take it as one.
pub record Moment : Type 0 where
  pub position : ℕ
  pub cycles : ℕ

abbrev pub moment : ℕ → ℕ → Moment
moment position cycles = record { position = position; cycles = cycles }

-- so many turns later in the same cycle
abbrev pub onward : ℕ → Moment → Moment
onward k m = moment (m.position + k) m.cycles

abbrev pub world_in : List ℤ → ℕ → Moment → World
world_in vars events m = record { vars = vars; events = events; position = m.position; cycles = m.cycles }

-- a run by its places, as the code has them in arrays
abbrev pub run_in : List ℕ → List ℕ → List ℤ → ℕ → Moment → Run
run_in at timers vars events m = record { at = at; timers = timers; world = world_in vars events m }

-- deeds leave the moment as it is
abbrev pub world_after : Result ℕ Reason → List ℤ → Moment → Out World
world_after r vars m = out_of reason_of r >>= λ events. val (world_in vars events m)

-- ---- answers as one number: below 2^32 it is what was found, and a fault is 2^32 and its number in the refusal table

abbrev pub coded_fault : ℕ → Refusal
coded_fault n = cond (eqb n 4_294_967_311) out_of_range (cond (eqb n 4_294_967_312) zero_divisor out_of_bounds)

abbrev pub coded : ℕ → Out ℕ
coded n = cond (leb n 4_294_967_295) (val n) (fault (coded_fault n))

-- and the number of each: exactly one stands for each outcome
abbrev pub code_of : Out ℕ → ℕ
code_of (val n) = n
code_of (fault w) = 4_294_967_296 + refusal_number w

abbrev pub IsCode : ℕ → Type 0
IsCode n = code_of (coded n) ≡ n

-- the same of events
abbrev pub world_by : ℕ → List ℤ → Moment → Out World
world_by code vars m = coded code >>= λ events. val (world_in vars events m)

-- variables and events alone, which is all that a guard and a trigger look at
abbrev pub bare_world : List ℤ → ℕ → World
bare_world vars events = world_in vars events (moment 0 0)
