-- Many cycles of two runs that any calls move alike: as many are done, and they leave runs that any calls move alike. Assumes nothing.
use mathlib.Core.Path.{◌≡◌, refl, ap, subst}
use mathlib.Core.Bool.{Bool, true, false, cond}
use mathlib.Core.Option.{none}
use mathlib.Core.List.{List, [], ◌∷◌}
use Prim.Native.Nat.{ℕ, ◌+◌}
use lib.Dec.{eqb}
use Rattle.records.specs.Refusal.{Out, val, fault, unless_refused}
use Rattle.model.specs.Outcome.{settled}
use Rattle.model.specs.Runs.{Run, Machine, Call, whole_cycle, cycle}
use Rattle.model.specs.Calls.{Format, chart_sets, automata_tables, cycle_call}
use Rattle.model.specs.Correspondence.{OutsMatch, MoveAlike}
use Rattle.machines.specs.Playing.{Played, onwards, played, stopped_at, playing}

module _ (s t : List ℕ) (ok : chart_sets.refusal s ≡ none) (ok' : automata_tables.refusal t ≡ none) where
  abbrev pub Alike : Run → Run → Type 0
  Alike r q = (calls : List Call) → MoveAlike s t calls r q

  abbrev m : Machine
  m = chart_sets.machine s

  abbrev m' : Machine
  m' = automata_tables.machine t

  call-is : (f : Format) (u : List ℕ) → f.refusal u ≡ none → (events : ℕ) (r : Run) → cycle_call f u events r ≡ settled r (cycle (f.machine u) events r)
  call-is f u e events r = ap (λ o. settled r (unless_refused o (cycle (f.machine u) events r))) e

  -- what is played on both sides
  abbrev Both : Played → Played → Type 0
  Both p p' = (p.count ≡ p'.count) × OutsMatch (λ _ _. Unit) p.stop p'.stop × Alike p.run p'.run

  -- a cycle's answers match, and what it leaves goes on alike
  cycle-matches : (events : ℕ) (r q : Run) → Alike r q →
      OutsMatch (λ _ _. Unit) (settled r (cycle m events r)).answer (settled q (cycle m' events q)).answer × Alike (settled r (cycle m events r)).lent (settled q (cycle m' events q)).lent
  unfolding MoveAlike
  cycle-matches events r q h =
      let a : cycle_call chart_sets s events r ≡ settled r (cycle m events r) = call-is chart_sets s ok events r in
      let b : cycle_call automata_tables t events q ≡ settled q (cycle m' events q) = call-is automata_tables t ok' events q in (
        subst (λ z. OutsMatch (λ _ _. Unit) (settled r (cycle m events r)).answer z.answer) b
            (subst (λ z. OutsMatch (λ _ _. Unit) z.answer (cycle_call automata_tables t events q).answer) a (h (whole_cycle events ∷ [])).1.0),
        λ calls. subst (λ z. MoveAlike s t calls (settled r (cycle m events r)).lent z.lent) b
            (subst (λ z. MoveAlike s t calls z.lent (cycle_call automata_tables t events q).lent) a (h (whole_cycle events ∷ calls)).2),
      )

  plays : (masks : List ℕ) (r q : Run) → Alike r q → Both (played m masks r) (played m' masks q)
  unfolding played
  plays [] r q h = (refl, tt, h)
  plays (events ∷ masks) r q h = by (plays masks) (cycle m events r) (cycle m' events q) (cycle-matches events r q h)
    where
      by : ((x y : Run) → Alike x y → Both (played m masks x) (played m' masks y)) → (o o' : Out (Unit {0} × Run)) →
          OutsMatch (λ _ _. Unit) (settled r o).answer (settled q o').answer × Alike (settled r o).lent (settled q o').lent →
          Both (onwards r o (played m masks)) (onwards q o' (played m' masks))
      by rest (val x) (val y) z = let p = rest x.1 y.1 z.1 in (ap (λ n. 1 + n) p.0, p.1, p.2)
      by rest (fault w) (fault v) z = (refl, z.0, h)
      by rest (val x) (fault v) z = absurd z.0
      by rest (fault w) (val y) z = absurd z.0

  -- the counts are equal, or the refusals or faults have the same number
  pub plays-alike : (masks : List ℕ) (r q : Run) → Alike r q →
      OutsMatch (λ n k. n ≡ k) (settled r (playing m masks r)).answer (settled q (playing m' masks q)).answer × Alike (settled r (playing m masks r)).lent (settled q (playing m' masks q)).lent
  plays-alike masks r q h = at (played m masks r) (played m' masks q) (plays masks r q h)
    where
      told : Out (ℕ × Run) → Out (ℕ × Run) → Type 0
      told o o' = OutsMatch (λ n k. n ≡ k) (settled r o).answer (settled q o').answer × Alike (settled r o).lent (settled q o').lent

      by : (n k : ℕ) → n ≡ k → (x y : Run) → Alike x y → (o o' : Out (Unit {0})) → OutsMatch (λ _ _. Unit) o o' → told (stopped_at n x o) (stopped_at k y o')
      by n k e x y a (val u) (val v) z = (e, a)
      by n k e x y a (fault w) (fault v) z = subst (λ j. told (stopped_at n x (fault w)) (stopped_at j y (fault v))) e (go (eqb n 0))
        where
          go : (b : Bool) → told (cond b (fault w) (val (n, x))) (cond b (fault v) (val (n, y)))
          go true = (z, h)
          go false = (refl, a)
      by n k e x y a (val u) (fault v) z = absurd z
      by n k e x y a (fault w) (val u) z = absurd z

      at : (p p' : Played) → Both p p' → told (stopped_at p.count p.run p.stop) (stopped_at p'.count p'.run p'.stop)
      at p p' z = by p.count p'.count z.0 p.run p'.run z.2 p.stop p'.stop z.1
