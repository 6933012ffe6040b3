use mathlib.Core.Path.{◌≡◌, refl, sym, ◌∙◌, subst}
use mathlib.Core.List.{List}
use Prim.Native.Nat.{ℕ, ◌+◌, ◌-◌, ◌<◌}
use native.Mathlib.Omega.{arith}
use lib.ListN.{drop, replicate}
use lib.Seq.{drop-set-lt}
use Rattle.chart_records.specs.declared.Shape.{Shape}
use Rattle.chart_records.specs.Accepted.{Accepted}
use Rattle.chart_records.proofs.PlacesRead.{length-transitions, most-states, most-transitions}
use Rattle.machines.proofs.Chains.{Chains, chains-none, chains-more, chains-made}
use Rattle.chart_steps.proofs.TablesRow.{source_at}
use Rattle.chart_steps.proofs.Accepted.{source_known}
use Rattle.edge_records.proofs.TextsEdges.{leaving-are}
use Rattle.edge_records.proofs.resets.fill_leaving.Goals as goal

source-few : (s : List ℕ) (sh : Shape) → Accepted s sh → (t source : ℕ) → t < sh.transitions → source ≡ source_at s sh t → source < 128
source-few s sh ok t source h e = omega (arith, source_known s sh ok t h, most-states s sh ok.shape)

pub loop-t-init : goal.loop-t-init
loop-t-init c =
    let x = c.args in (
      subst (λ first. Chains (source_at x.s.now x.shape) 128 256 x.shape.transitions first x.next.now x.shape.transitions) (sym c.requires.1)
          (subst (λ next. Chains (source_at x.s.now x.shape) 128 256 x.shape.transitions (replicate {A = ℕ} 128 65535) next x.shape.transitions) (sym c.requires.2) (chains-none (source_at x.s.now x.shape) 128 256 x.shape.transitions)),
      refl,
    )

pub bounds-first-source : goal.bounds-first-source
bounds-first-source c =
    source-few c.args.s.now c.args.shape c.requires.0 (c.loop-t.t - 1) c.source_of-source.result (omega arith) c.source_of-source.ensures

pub bounds-first-source-in-loop-t : goal.bounds-first-source-in-loop-t
bounds-first-source-in-loop-t c =
    source-few c.args.s.now c.args.shape c.requires.0 (c.loop-t.t - 1) c.source_of-source.result (omega arith) c.source_of-source.ensures

pub bounds-next-t : goal.bounds-next-t
bounds-next-t c =
    omega (arith, most-transitions c.args.s.now c.args.shape c.requires.0.shape)

pub loop-t-preserved : goal.loop-t-preserved
loop-t-preserved c =
    let x = c.args in
    let l = c.loop-t in
    let e : l.t ≡ l.t - 1 + 1 = omega (arith, c.loop-t-test.true) in
    let few = source-few x.s.now x.shape c.requires.0 (l.t - 1) c.source_of-source.result (omega arith) c.source_of-source.ensures in (
      chains-more (source_at x.s.now x.shape) 128 256 x.shape.transitions l.first l.next (l.t - 1) c.source_of-source.result
          (subst (Chains (source_at x.s.now x.shape) 128 256 x.shape.transitions l.first l.next) e l.invariant.0)
          (omega (arith, most-transitions x.s.now x.shape c.requires.0.shape)) (sym c.source_of-source.ensures) few,
      drop-set-lt x.shape.transitions l.next (l.t - 1) _ (omega (arith, l.invariant.0.bound, c.loop-t-test.true)) ∙ l.invariant.1,
    )

pub returns : goal.returns
returns c =
    let x = c.args in
    let l = c.loop-t in
    let e : l.t ≡ 0 = omega (arith, c.loop-t-test.false) in (
      leaving-are x.s.now x.shape c.requires.0 l.first l.next
          (chains-made (source_at x.s.now x.shape) 128 256 x.shape.transitions l.first l.next
          (subst (Chains (source_at x.s.now x.shape) 128 256 x.shape.transitions l.first l.next) e l.invariant.0)),
      subst (λ n. drop n l.next ≡ drop n x.next.now) (sym (length-transitions x.s.now x.shape c.requires.0.shape)) l.invariant.1,
    )
