-- The text of one replay line, and of the turns of any machine. Assumes nothing: these are definitions.
use Rattle.std.specs.Prelude.{Option, Some, None, List, [], ◌∷◌, ◌++◌, ℕ, ◌-◌, length, get_or, take, ℤ}
use Rattle.prelude.specs.Lists.{gather}
use Rattle.model.specs.Runs.{Run, Machine, Answer, taken, idle, time, Trace, done, stopped, turned}
use Rattle.model.specs.Replay.{decimal, signed_decimal, chosen, space, feed}

-- a part's turn takes a transition or an edge, or idles; time has no line
abbrev pub chosen_of : Option ℕ → Answer
chosen_of (Some t) = taken t
chosen_of None = idle

abbrev pub variables_text : List ℤ → List ℕ
variables_text vs = gather (λ v. space ∷ signed_decimal v) vs

-- "cycle, chart, transition or -, state after"
abbrev pub head_text : ℕ → ℕ → Answer → ℕ → List ℕ
head_text cycle chart a state = decimal cycle ++ (space ∷ decimal chart) ++ (space ∷ chosen a) ++ (space ∷ decimal state)

abbrev pub line_text : ℕ → ℕ → Answer → ℕ → List ℤ → List ℕ
line_text cycle chart a state variables = head_text cycle chart a state ++ variables_text variables ++ (feed ∷ [])

-- ---- of any machine, of which a line asks only how many variables it has; of chart sets it is the model's (proofs/Texts)

abbrev pub line_in : Machine → Run → Answer → Run → List ℕ
line_in m r₀ a r₁ =
    let p = r₀.world.position - 1 in
    line_text r₀.world.cycles p a (get_or r₁.at p 0) (take (length m.variables) r₁.world.vars)

-- time has no line
abbrev pub turn_text : Machine → Run → Answer → Run → List ℕ
turn_text m r₀ (taken t) r₁ = line_in m r₀ (taken t) r₁
turn_text m r₀ idle r₁ = line_in m r₀ idle r₁
turn_text m r₀ time r₁ = []

-- the turns done before a refusal or fault keep their lines
unfoldable pub trace_text : Machine → Trace → List ℕ
trace_text m done = []
trace_text m (stopped w) = []
trace_text m (turned r₀ a r₁ t) = turn_text m r₀ a r₁ ++ trace_text m t
