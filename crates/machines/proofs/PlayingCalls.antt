-- A call that plays many cycles is that many cycle calls, each on the run that the last one left, and it ends where the next of them would be refused or
-- fault. Assumes nothing.
use mathlib.Core.Path.{◌≡◌, refl, sym, ap, ◌∙◌, subst}
use mathlib.Core.Bool.{Bool, true, false, cond}
use mathlib.Core.List.{List, [], ◌∷◌}
use mathlib.Core.Option.{Option, some, none}
use Prim.Native.Nat.{ℕ, suc, ◌+◌, ◌<◌}
use native.Mathlib.Omega.{arith}
use borrow.Author.Tests.{eqb-true}
use lib.Dec.{eqb}
use lib.ListN.{length, get_or, take}
use Rattle.records.specs.Refusal.{Refusal, Out, val, fault, unless_refused}
use Rattle.model.specs.Outcome.{settled}
use Rattle.model.specs.Calls.{Format, cycle_call}
use Rattle.model.specs.Runs.{Run, cycle}
use Rattle.machines.specs.Playing.{Played, onwards, played, stopped_at, playing, play_call}

-- ---- cycle calls, one for each mask

module _ (f : Format) (s : List ℕ) where
  -- what they leave
  unfoldable pub calls_leave : List ℕ → Run → Run
  calls_leave [] r = r
  calls_leave (events ∷ masks) r = calls_leave masks (cycle_call f s events r).lent

  -- each is done
  unfoldable pub CallsDone : List ℕ → Run → Type 0
  CallsDone [] r = Unit
  CallsDone (events ∷ masks) r = ((cycle_call f s events r).answer ≡ val tt) × CallsDone masks (cycle_call f s events r).lent

  -- the call for mask n, after those before it, answers w
  abbrev pub StopsAt : List ℕ → ℕ → Run → Refusal → Type 0
  StopsAt masks n r w = (n < length masks) × ((cycle_call f s (get_or masks n 0) (calls_leave (take n masks) r)).answer ≡ fault w)

  -- what was played, as cycle calls
  abbrev AsCalls : List ℕ → Run → Played → Type 0
  AsCalls masks r p =
      CallsDone (take p.count masks) r × (p.run ≡ calls_leave (take p.count masks) r) × ((w : Refusal) → p.stop ≡ fault w → StopsAt masks p.count r w)
      × ((u : Unit {0}) → p.stop ≡ val u → p.count ≡ length masks)

  module _ (ok : f.refusal s ≡ none) where
    call-is : (events : ℕ) (r : Run) → cycle_call f s events r ≡ settled r (cycle (f.machine s) events r)
    call-is events r = ap (λ o. settled r (unless_refused o (cycle (f.machine s) events r))) ok

    as-calls : (masks : List ℕ) (r : Run) → AsCalls masks r (played (f.machine s) masks r)
    unfolding played calls_leave CallsDone
    as-calls [] r = (tt, refl, (λ w e. let z : ◌≡◌ {A = ℕ} 0 1 = cc in absurd (omega arith)), λ u e. refl)
    as-calls (events ∷ masks) r = by (λ q. as-calls masks q) (cycle (f.machine s) events r) refl
      where
        by : ((q : Run) → AsCalls masks q (played (f.machine s) masks q)) → (o : Out (Unit {0} × Run)) → cycle (f.machine s) events r ≡ o → AsCalls (events ∷ masks) r (onwards r o (played (f.machine s) masks))
        by rest (fault v) e = (
          tt,
          refl,
          (λ w d. (omega arith, ap (λ x. x.answer) (call-is events r ∙ ap (settled r) e) ∙ d)),
          λ u d. let z : ◌≡◌ {A = ℕ} 0 1 = cc in absurd (omega arith),
        )
        by rest (val x) e =
            let p = played (f.machine s) masks x.1 in
            let h : AsCalls masks x.1 p = rest x.1 in
            let c : cycle_call f s events r ≡ settled r (val x) = call-is events r ∙ ap (settled r) e in
            let left : (cycle_call f s events r).lent ≡ x.1 = ap (λ z. z.lent) c in
            let one : 1 + p.count ≡ suc p.count = omega arith in
            subst (λ n. CallsDone (take n (events ∷ masks)) r × (p.run ≡ calls_leave (take n (events ∷ masks)) r) × ((w : Refusal) → p.stop ≡ fault w → StopsAt (events ∷ masks) n r w) × ((u : Unit {0}) → p.stop ≡ val u → n ≡ length (events ∷ masks)))
            (sym one) (
              (ap (λ z. z.answer) c, subst (CallsDone (take p.count masks)) (sym left) h.0),
              h.1 ∙ ap (calls_leave (take p.count masks)) (sym left),
              (λ w d. let t : StopsAt masks p.count x.1 w = h.2 w d in
                  (omega (arith, t.0), subst (λ q. (cycle_call f s (get_or masks p.count 0) (calls_leave (take p.count masks) q)).answer ≡ fault w) (sym left) t.1)),
              λ u d. let k : p.count ≡ length masks = h.3 u d in omega (arith, k),
            )

  -- Cycles played: as many cycle calls are done, they leave the same run, and where masks are left the next call would be refused or fault.
  pub played-as-calls : (masks : List ℕ) (r : Run) (n : ℕ) → (play_call f s masks r).answer ≡ val n →
      CallsDone (take n masks) r × ((play_call f s masks r).lent ≡ calls_leave (take n masks) r) × ((n < length masks) → (w : Refusal) × StopsAt masks n r w)
  played-as-calls masks r n = by (f.refusal s) refl
    where
      PlayAnswered : Out (ℕ × Run) → Type 0
      PlayAnswered o = CallsDone (take n masks) r × ((settled r o).lent ≡ calls_leave (take n masks) r) × ((n < length masks) → (w : Refusal) × StopsAt masks n r w)

      at : AsCalls masks r (played (f.machine s) masks r) → (o : Out (Unit {0})) → (played (f.machine s) masks r).stop ≡ o →
          (settled r (stopped_at (played (f.machine s) masks r).count (played (f.machine s) masks r).run o)).answer ≡ val n → PlayAnswered (stopped_at (played (f.machine s) masks r).count (played (f.machine s) masks r).run o)
      at h (val u) q e =
          let k : (played (f.machine s) masks r).count ≡ n = cc in
          (subst (λ j. CallsDone (take j masks) r) k h.0, h.1 ∙ ap (λ j. calls_leave (take j masks) r) k, λ l. let all : (played (f.machine s) masks r).count ≡ length masks = h.3 u q in absurd (omega (arith, k, all)))
      at h (fault w) q e = within (eqb (played (f.machine s) masks r).count 0) e
        where
          within : (b : Bool) → (settled r (cond b (fault w) (val ((played (f.machine s) masks r).count, (played (f.machine s) masks r).run)))).answer ≡ val n →
              PlayAnswered (cond b (fault w) (val ((played (f.machine s) masks r).count, (played (f.machine s) masks r).run)))
          within true d = let z : ◌≡◌ {A = ℕ} 0 1 = cc in absurd (omega arith)
          within false d =
              let k : (played (f.machine s) masks r).count ≡ n = cc in
              (subst (λ j. CallsDone (take j masks) r) k h.0, h.1 ∙ ap (λ j. calls_leave (take j masks) r) k, λ l. (w, subst (λ j. StopsAt masks j r w) k (h.2 w q)))

      by : (o : Option Refusal) → f.refusal s ≡ o → (settled r (unless_refused o (playing (f.machine s) masks r))).answer ≡ val n → PlayAnswered (unless_refused o (playing (f.machine s) masks r))
      by (some w) q e = let z : ◌≡◌ {A = ℕ} 0 1 = cc in absurd (omega arith)
      by none q e = at (as-calls q masks r) (played (f.machine s) masks r).stop refl e

  -- Where none is played and there is a mask, the first cycle call answers the same, and the run is as it was.
  pub refused-as-call : (events : ℕ) (masks : List ℕ) (r : Run) (w : Refusal) → (play_call f s (events ∷ masks) r).answer ≡ fault w →
      ((cycle_call f s events r).answer ≡ fault w) × ((play_call f s (events ∷ masks) r).lent ≡ r)
  unfolding played
  refused-as-call events masks r w = by (f.refusal s)
    where
      at : (o : Out (Unit {0} × Run)) →
          (settled r (stopped_at (onwards r o (played (f.machine s) masks)).count (onwards r o (played (f.machine s) masks)).run (onwards r o (played (f.machine s) masks)).stop)).answer ≡ fault w →
          ((settled r o).answer ≡ fault w)
          × ((settled r (stopped_at (onwards r o (played (f.machine s) masks)).count (onwards r o (played (f.machine s) masks)).run (onwards r o (played (f.machine s) masks)).stop)).lent ≡ r)
      at (fault v) e = let z : v ≡ w = cc in (ap fault z, refl)
      at (val x) e = absurd (later-done (played (f.machine s) masks x.1).count (played (f.machine s) masks x.1).run (played (f.machine s) masks x.1).stop e)
        where
          later-done : (k : ℕ) (q : Run) (o : Out (Unit {0})) → (settled r (stopped_at (1 + k) q o)).answer ≡ fault w → ⊥
          later-done k q (val u) d = let z : ◌≡◌ {A = ℕ} 0 1 = cc in omega arith
          later-done k q (fault v) d = within (eqb (1 + k) 0) refl d
            where
              within : (b : Bool) → eqb (1 + k) 0 ≡ b → (settled r (cond b (fault v) (val (1 + k, q)))).answer ≡ fault w → ⊥
              within true i d = let z : 1 + k ≡ 0 = eqb-true (1 + k) 0 i in omega (arith, z)
              within false i d = let z : ◌≡◌ {A = ℕ} 0 1 = cc in omega arith

      by : (o : Option Refusal) → (settled r (unless_refused o (playing (f.machine s) (events ∷ masks) r))).answer ≡ fault w →
          ((settled r (unless_refused o (cycle (f.machine s) events r))).answer ≡ fault w) × ((settled r (unless_refused o (playing (f.machine s) (events ∷ masks) r))).lent ≡ r)
      by (some v) e = let z : v ≡ w = cc in (ap fault z, refl)
      by none e = at (cycle (f.machine s) events r) e
