use mathlib.Core.Path.{◌≡◌, ◌∙◌, subst}
use mathlib.Core.List.{List}
use Prim.Native.Nat.{ℕ, ◌<◌}
use native.Mathlib.Omega.{arith}
use lib.ListN.{length, replicate, length-replicate}
use Rattle.model.specs.Limits.{most_clocks}
use Rattle.automata_records.specs.declared.Shape.{Shape}
use Rattle.automata_records.specs.Places.{clock_at}
use Rattle.automata_records.proofs.PlacesRead.{most-clocks}
use Rattle.prelude.proofs.Filled.{Filled, filled_more, filled-mapped}
use Rattle.timings.specs.Growth.{turn_for, cap_for}
use Rattle.automata.proofs.RunOfClocks.{has-limits}
use Rattle.automata.proofs.runs.limits_of.Goals as goal

abbrev turns : List ℕ → Shape → ℕ → ℕ
turns s sh k = turn_for (clock_at s sh k).timing (clock_at s sh k).ticks

abbrev caps : List ℕ → Shape → ℕ → ℕ
caps s sh k = cap_for (clock_at s sh k).timing (clock_at s sh k).ticks

abbrev none : List ℕ
none = replicate most_clocks 65535

long : length none ≡ most_clocks
long = length-replicate {A = ℕ} most_clocks 65535

pub bounds-limits-i : goal.bounds-limits-i
bounds-limits-i c = omega (arith, c.loop-k-test.true, most-clocks c.args.s.now c.args.shape c.requires.shape)

pub bounds-limits-i-in-loop-k : goal.bounds-limits-i-in-loop-k
bounds-limits-i-in-loop-k c = omega (arith, c.loop-k-test.true, most-clocks c.args.s.now c.args.shape c.requires.shape)

pub loop-k-preserved : goal.loop-k-preserved
loop-k-preserved c =
    let few : c.loop-k.k < most_clocks = omega (arith, c.loop-k-test.true, most-clocks c.args.s.now c.args.shape c.requires.shape) in
    let a = c.args in
    let l = c.loop-k in (
      omega (arith, c.loop-k-test.true),
      filled_more (turns a.s.now a.shape) 0 none l.limits.turn l.k _
          (c.turn_for.ensures ∙ (λ i. turn_for (c.is_after.ensures i) (c.ticks_of.ensures i))) l.invariant.1 (omega (arith, few, long)),
      filled_more (caps a.s.now a.shape) 0 none l.limits.cap l.k _
          (c.cap_for.ensures ∙ (λ i. cap_for (c.is_after-in-loop-k.ensures i) (c.ticks_of-in-loop-k.ensures i))) l.invariant.2 (omega (arith, few, long)),
    )

pub returns-clause-written : goal.returns-clause-written
returns-clause-written c =
    let a = c.args in
    let l = c.loop-k in
    let end : l.k ≡ a.shape.clocks = omega (arith, l.invariant.0, c.loop-k-test.false) in (
      filled-mapped (λ k x. turns a.s.now a.shape k) a.shape.clocks none l.limits.turn (subst (Filled (turns a.s.now a.shape) 0 none l.limits.turn) end l.invariant.1),
      filled-mapped (λ k x. caps a.s.now a.shape k) a.shape.clocks none l.limits.cap (subst (Filled (caps a.s.now a.shape) 0 none l.limits.cap) end l.invariant.2),
    )

pub returns-clause-has_limits : goal.returns-clause-has_limits
returns-clause-has_limits c =
    let a = c.args in
    let l = c.loop-k in
    let end : l.k ≡ a.shape.clocks = omega (arith, l.invariant.0, c.loop-k-test.false) in
    has-limits a.s.now a.shape c.requires.shape none long l.limits (
      filled-mapped (λ k x. turns a.s.now a.shape k) a.shape.clocks none l.limits.turn (subst (Filled (turns a.s.now a.shape) 0 none l.limits.turn) end l.invariant.1),
      filled-mapped (λ k x. caps a.s.now a.shape k) a.shape.clocks none l.limits.cap (subst (Filled (caps a.s.now a.shape) 0 none l.limits.cap) end l.invariant.2),
    )
