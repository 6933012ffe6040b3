-- The turns of a cycle, of any machine. Assumes nothing: these are definitions.
use Rattle.std.specs.Prelude.{◌≡◌, ℕ, ◌+◌, ◌≤◌, get_or}
use Rattle.records.specs.Refusal.{Out, val, fault, ◌>>=◌}
use Rattle.model.specs.Runs.{World, Run, Answer, Machine, turns, ended}

-- so many turns, and what is left to say once they are taken
abbrev pub after : Machine → ℕ → Run → Out Run
after m k r = ended r (turns m k r)

abbrev pub finish : Out Run → Out (Unit {0} × Run)
finish o = o >>= λ q. val (tt, q)

-- A run in the midst of a cycle: its position is one of so many parts' or time's, a cycle may still be done, and each timer is fit for its passing,
-- by the count, its number and its value.
pub record Ready (parts : ℕ) (fit : ℕ → ℕ → ℕ → Type 0) (r : Run) : Type 0 where
  pub begun : 1 ≤ r.world.position
  pub within : r.world.position ≤ parts + 1
  pub unfinished : r.world.cycles ≤ 999_999
  pub timers : (k : ℕ) → fit r.world.cycles k (get_or r.timers k 0)

-- what deeds keep: the position and the count
abbrev pub KeptWorld : World → Out World → Type 0
KeptWorld w (val v) = (v.position ≡ w.position) × (v.cycles ≡ w.cycles)
KeptWorld w (fault f) = Unit

-- what a part's turn keeps: the position and the count; and no timer grows
abbrev pub KeptRun : Run → Out (Answer × Run) → Type 0
KeptRun r (val x) =
    (x.1.world.position ≡ r.world.position) × (x.1.world.cycles ≡ r.world.cycles) × ((c : ℕ) → get_or x.1.timers c 0 ≤ get_or r.timers c 0)
KeptRun r (fault f) = Unit
