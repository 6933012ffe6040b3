use mathlib.Core.Path.{◌≡◌, sym, ap, ◌∙◌, subst}
use Prim.Native.Nat.{ℕ}
use native.Mathlib.Omega.{arith}
use lib.ListN.{length, length-replicate}
use lib.Seq.{take-length}
use Rattle.prelude.specs.Lists.{gather}
use Rattle.model.specs.ChartSet.{read_charts, transition}
use Rattle.model.specs.Translation.{transition_count, clocks_of, clock_of}
use Rattle.chart_records.proofs.PlacesRead.{transition-is, length-transitions, most-transitions}
use Rattle.prelude.proofs.Filled.{Filled, filled_none, filled_more, filled-padded}
use Rattle.twin_records.proofs.TablesClocks.{clock-none, clock-more}
use Rattle.twin_records.proofs.clocks.fill_clocks.Goals as goal

pub loop-t-init : goal.loop-t-init
loop-t-init c =
    let cs = read_charts c.args.s.now in
    record {
      few = omega arith;
      counted = sym (clock-none cs);
      filled = filled_none (clock_of cs) 0 c.args.clocks.now;
      long = ap length c.requires.1 ∙ length-replicate {A = ℕ} 256 0;
    }

pub bounds-clocks-i : goal.bounds-clocks-i
bounds-clocks-i c =
    omega (arith, most-transitions c.args.s.now c.args.shape c.requires.0)

pub loop-t-preserved : goal.loop-t-preserved
loop-t-preserved c =
    let x = c.args in
    let l = c.loop-t in
    let cs = read_charts x.s.now in
    let own : c.clocks_in-count.result ≡ length (clocks_of (transition cs l.t).trigger) =
    c.clocks_in-count.ensures.0 ∙ ap (λ y. length (clocks_of y)) (c.trigger_of.ensures ∙ ap (λ y. y.trigger) (sym (transition-is x.s.now x.shape c.requires.0 l.t c.loop-t-test.true))) in
    record {
      few = omega (arith, l.invariant.few, c.clocks_in-count.ensures.1);
      counted = omega (arith, l.invariant.counted, own, clock-more cs l.t (omega (arith, length-transitions x.s.now x.shape c.requires.0)));
      filled = filled_more (clock_of cs) 0 x.clocks.now l.clocks l.t l.count l.invariant.counted l.invariant.filled (omega (arith, most-transitions x.s.now x.shape c.requires.0, l.invariant.long));
      long = l.invariant.long;
    }

pub returns : goal.returns
returns c =
    let x = c.args in
    let l = c.loop-t in
    let cs = read_charts x.s.now in
    let size = length-transitions x.s.now x.shape c.requires.0 in
    let e : l.t ≡ transition_count cs = omega (arith, size) in (
      l.invariant.counted ∙ ap (clock_of cs) e ∙ ap (λ ts. length (gather (λ y. clocks_of y.trigger) ts)) (take-length cs.transitions),
      filled-padded (clock_of cs) 0 256 (transition_count cs) (omega (arith, most-transitions x.s.now x.shape c.requires.0, size)) l.clocks
          (subst (λ l₀. Filled (clock_of cs) 0 l₀ l.clocks (transition_count cs)) c.requires.1 (subst (Filled (clock_of cs) 0 x.clocks.now l.clocks) e l.invariant.filled)),
    )
