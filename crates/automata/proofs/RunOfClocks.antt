-- Clocks, as reads of the file's bytes: their tops, how they grow, and that there is room for it. Assumes nothing.
use mathlib.Core.Path.{◌≡◌, refl, sym, ap, ◌∙◌}
use mathlib.Core.Bool.{Bool, true, false, cond}
use mathlib.Core.List.{List}
use Prim.Native.Nat.{ℕ, ◌≤◌, ◌<◌}
use native.Mathlib.Nat.{zero-add}
use native.Mathlib.Omega.{arith}
use borrow.Author.Tests.{leb-true, ltb-true, lt-ltb}
use lib.Dec.{leb, ltb}
use lib.ListN.{length, get_or}
use Rattle.model.specs.Limits.{most_clocks}
use Rattle.prelude.specs.Lists.{all, upto, map_from}
use Rattle.model.specs.Runs.{Run, timers_possible}
use Rattle.model.specs.AutomataTable.{read_automata}
use Rattle.model.specs.AutomataTable as M
use Rattle.model.specs.Automata.{top, grown, clocks_grown, automata}
use Rattle.automata_records.specs.declared.Shape.{Shape}
use Rattle.automata_records.specs.Shape.{IsShape}
use Rattle.automata_records.specs.Places.{clock_at}
use Rattle.automata_records.proofs.PlacesRead.{most-clocks, length-clocks, clock-is}
use Rattle.automata_records.proofs.NamedThings.{ticks-known}
use Rattle.machines.proofs.Files.{all_alike}
use Rattle.prelude.proofs.Filled.{get_or-map_from}
use Rattle.machines.proofs.ChecksClauses.{all-upto}
use Rattle.automata_records.specs.Accepted.{Accepted}
use Rattle.timings.specs.Growth.{most_top, turn_for, cap_for}
use Rattle.timings.proofs.GrowthBounds.{top-most}
use Rattle.automata.specs.declared.runs.Limits.{Limits}
use Rattle.automata.specs.RunOf.{top_at, grown_at, ClocksPossible, turn_at, cap_at, HasLimits}

module _ (s : List ℕ) (sh : Shape) (is : IsShape s sh) (r : Run) where
  abbrev inside : ℕ → Bool
  inside k = leb (get_or r.timers k 0) (top_at s sh k)

  abbrev model : ℕ → Bool
  model k = leb (get_or r.timers k 0) (top (M.clock_at (read_automata s) k).timing (M.clock_at (read_automata s) k).ticks)

  pub clocks-are : timers_possible (automata (read_automata s)) r ≡ all inside (upto sh.clocks)
  clocks-are =
      ap (λ n. all model (upto n)) (length-clocks s sh is)
      ∙ all_alike model inside 0 sh.clocks (λ k a b. ap (λ c. leb (get_or r.timers k 0) (top c.timing c.ticks)) (clock-is s sh is k (omega arith)))

  pub grown-are : clocks_grown (read_automata s) r ≡ map_from 0 (grown_at s sh) r.timers
  grown-are =
      ap (λ n. map_from 0 (λ k x. cond (ltb k n) (grown (M.clock_at (read_automata s) k).timing (M.clock_at (read_automata s) k).ticks x) x) r.timers) (length-clocks s sh is)
      ∙ (λ i. map_from 0 (λ k x. one k x (ltb k sh.clocks) refl i) r.timers)
    where
      one : (k x : ℕ) (b : Bool) → ltb k sh.clocks ≡ b →
          cond b (grown (M.clock_at (read_automata s) k).timing (M.clock_at (read_automata s) k).ticks x) x ≡ cond b (grown (clock_at s sh k).timing (clock_at s sh k).ticks x) x
      one k x true e = ap (λ c. grown c.timing c.ticks x) (clock-is s sh is k (ltb-true k sh.clocks e))
      one k x false e = refl

pub low_of : (s : List ℕ) (sh : Shape) → Accepted s sh → (r : Run) → timers_possible (automata (read_automata s)) r ≡ true → ClocksPossible sh.clocks r.timers
low_of s sh ok r e k h =
    let t : top (clock_at s sh k).timing (clock_at s sh k).ticks ≤ most_top = top-most (clock_at s sh k).timing (clock_at s sh k).ticks (ticks-known s sh ok.shape ok.unrefused k h).1 in
    let l : get_or r.timers k 0 ≤ top_at s sh k = leb-true (get_or r.timers k 0) (top_at s sh k) (all-upto (λ j. leb (get_or r.timers j 0) (top_at s sh j)) sh.clocks k (sym (clocks-are s sh ok.shape r) ∙ e) h) in
    omega arith

-- the limits written over any numbers
module _ (s : List ℕ) (sh : Shape) (is : IsShape s sh) (l₀ : List ℕ) (long : length l₀ ≡ most_clocks) where
  turn-limits : (turn : List ℕ) → turn ≡ map_from 0 (turn_at s sh) l₀ → (k : ℕ) → k < sh.clocks → get_or turn k 0 ≡ turn_for (clock_at s sh k).timing (clock_at s sh k).ticks
  turn-limits turn e k h =
      ap (λ l. get_or l k 0) e
      ∙ get_or-map_from (turn_at s sh) 0 0 0 l₀ k (omega (arith, h, most-clocks s sh is, long))
      ∙ ap (λ n. turn_at s sh n (get_or l₀ k 0)) (zero-add k)
      ∙ ap (λ b. cond b (turn_for (clock_at s sh k).timing (clock_at s sh k).ticks) (get_or l₀ k 0)) (lt-ltb k sh.clocks h)

  cap-limits : (cap : List ℕ) → cap ≡ map_from 0 (cap_at s sh) l₀ → (k : ℕ) → k < sh.clocks → get_or cap k 0 ≡ cap_for (clock_at s sh k).timing (clock_at s sh k).ticks
  cap-limits cap e k h =
      ap (λ l. get_or l k 0) e
      ∙ get_or-map_from (cap_at s sh) 0 0 0 l₀ k (omega (arith, h, most-clocks s sh is, long))
      ∙ ap (λ n. cap_at s sh n (get_or l₀ k 0)) (zero-add k)
      ∙ ap (λ b. cond b (cap_for (clock_at s sh k).timing (clock_at s sh k).ticks) (get_or l₀ k 0)) (lt-ltb k sh.clocks h)

  pub has-limits : (x : Limits) → (x.turn ≡ map_from 0 (turn_at s sh) l₀) × (x.cap ≡ map_from 0 (cap_at s sh) l₀) → HasLimits s sh x
  has-limits x e = record { turns = turn-limits x.turn e.0; caps = cap-limits x.cap e.1 }
