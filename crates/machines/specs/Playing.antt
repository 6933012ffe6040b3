-- Many cycles of any machine, one for each mask of events, until one is refused or faults. Assumes nothing: these are definitions.
use Rattle.std.specs.Prelude.{cond, List, [], ◌∷◌, ℕ, ◌+◌, eqb}
use Rattle.records.specs.Refusal.{Out, val, fault, unless_refused}
use Rattle.model.specs.Outcome.{Outcome, settled}
use Rattle.model.specs.Runs.{Run, Machine, cycle}
use Rattle.model.specs.Calls.{Format}

-- the cycles done, the run after them, and why the next was not done, if there was one to do
pub record Played : Type 0 where
  pub count : ℕ
  pub run : Run
  pub stop : Out (Unit {0})

abbrev pub later : ℕ → Played → Played
later n p = record { count = n + p.count; run = p.run; stop = p.stop }

-- a cycle from r, and then the rest
abbrev pub onwards : Run → Out (Unit {0} × Run) → (Run → Played) → Played
onwards r (val x) rest = later 1 (rest x.1)
onwards r (fault w) rest = record { count = 0; run = r; stop = fault w }

unfoldable pub played : Machine → List ℕ → Run → Played
played m [] r = record { count = 0; run = r; stop = val tt }
played m (events ∷ masks) r = onwards r (cycle m events r) (played m masks)

-- a stop is told where it comes before the first cycle
abbrev pub stopped_at : ℕ → Run → Out (Unit {0}) → Out (ℕ × Run)
stopped_at n r (val u) = val (n, r)
stopped_at n r (fault w) = cond (eqb n 0) (fault w) (val (n, r))

abbrev pub playing : Machine → List ℕ → Run → Out (ℕ × Run)
playing m masks r = stopped_at (played m masks r).count (played m masks r).run (played m masks r).stop

-- the call, closed
abbrev pub play_call : Format → List ℕ → List ℕ → Run → Outcome ℕ Run
play_call f s masks r = settled r (unless_refused (f.refusal s) (playing (f.machine s) masks r))
