-- The replay's lines, as bytes. Assumes nothing: these are definitions.
use Rattle.std.proofs.Math.Option.{Option, some, none}
use Rattle.std.specs.Prelude.{cond, List, [], ◌∷◌, ◌++◌, ℕ, zero, suc, ◌+◌, ◌-◌, ◌/◌, ◌%◌, ltb, length, get_or, take, drop, ℤ, pos, negsuc}
use Rattle.prelude.specs.Lists.{gather}
use Rattle.records.specs.Refusal.{Refusal, Out, val, fault}
use Rattle.records.specs.Bytes.{four}
use Rattle.model.specs.Runs.{Run, start, Answer, taken, idle, time, whole_cycle, Trace, done, stopped, turned, trace, ended}
use Rattle.model.specs.ChartSet.{ChartSet, read_charts}
use Rattle.model.specs.Charts.{charts, Charts}
use Rattle.model.specs.ChartFile.{charts_refusal, ChartFile}

-- ---- text

-- decimal digits, at most d of them; 20 are enough for 64 bits
unfoldable pub digits : ℕ → ℕ → List ℕ
digits zero n = []
digits (suc d) n = cond (ltb n 10) [] (digits d (n / 10)) ++ ((48 + n % 10) ∷ [])

abbrev pub decimal : ℕ → List ℕ
decimal n = digits 20 n

-- ASCII
abbrev pub minus : ℕ
minus = 45

abbrev pub space : ℕ
space = 32

abbrev pub feed : ℕ
feed = 10

abbrev pub signed_decimal : ℤ → List ℕ
signed_decimal (pos n) = decimal n
signed_decimal (negsuc n) = minus ∷ decimal (suc n)

-- ---- lines

-- "transition or -"
abbrev pub chosen : Answer → List ℕ
chosen (taken t) = decimal t
chosen idle = minus ∷ []
chosen time = minus ∷ []

-- "cycle, chart, transition or -, state after, variables", of a chart's turn taken in r₀
abbrev pub line : ChartSet → Run → Answer → Run → List ℕ
line cs r₀ a r₁ =
    let c = r₀.world.position - 1 in
    decimal r₀.world.cycles
    ++ (space ∷ decimal c)
    ++ (space ∷ chosen a)
    ++ (space ∷ decimal (get_or r₁.at c 0))
    ++ gather (λ v. space ∷ signed_decimal v) (take (length cs.variables) r₁.world.vars)
    ++ (feed ∷ [])

-- time has no line
abbrev pub turn_lines : ChartSet → Run → Answer → Run → List ℕ
turn_lines cs r₀ (taken t) r₁ = line cs r₀ (taken t) r₁
turn_lines cs r₀ idle r₁ = line cs r₀ idle r₁
turn_lines cs r₀ time r₁ = []

-- the turns done before a refusal or fault keep their lines
unfoldable pub trace_lines : ChartSet → Trace → List ℕ
trace_lines cs done = []
trace_lines cs (stopped w) = []
trace_lines cs (turned r₀ a r₁ t) = turn_lines cs r₀ a r₁ ++ trace_lines cs t

-- ---- the whole replay

-- "event masks of four bytes, little-endian": as many as whole ones fit
unfoldable pub cut_masks : ℕ → List ℕ → List ℕ
cut_masks zero input = []
cut_masks (suc k) input = four input 0 ∷ cut_masks k (drop 4 input)

abbrev pub masks : List ℕ → List ℕ
masks input = cut_masks (length input / 4) input

-- the lines printed, and the refusal that ended it, if one did
pub record Replayed : Type 0 where
  pub text : List ℕ
  pub end : Option Refusal

abbrev pub prepend : List ℕ → Replayed → Replayed
prepend lines p = record { text = lines ++ p.text; end = p.end }

-- after a cycle's lines: the next cycles from the run that it left, or the end
abbrev pub next : List ℕ → Out Run → (Run → Replayed) → Replayed
next lines (val r) rest = prepend lines (rest r)
next lines (fault w) rest = record { text = lines; end = some w }

-- a cycle for each mask; it "stops at a refusal, a partial mask or the end"
unfoldable pub replayed : ChartSet → List ℕ → Run → Replayed
replayed cs [] r = record { text = []; end = none }
replayed cs (mask ∷ rest) r =
    let t = trace (charts cs) (whole_cycle mask) r in
    next (trace_lines cs t) (ended r t) (replayed cs rest)

-- the file's refusal comes first, with no line
abbrev pub unless_ended : Option Refusal → Replayed → Replayed
unless_ended none p = p
unless_ended (some w) p = record { text = []; end = some w }

abbrev pub replay : List ℕ → List ℕ → Replayed
replay s input = unless_ended (charts_refusal s) (replayed (read_charts s) (masks input) (start (charts (read_charts s))))

-- what a proof that computes with these opens
unfoldable pub Replay : Type 0
unfolding digits trace_lines cut_masks replayed ChartFile Charts
Replay = Unit
