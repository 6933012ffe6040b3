use mathlib.Core.Path.{◌≡◌, sym, ap, ◌∙◌, subst}
use Prim.Native.Nat.{ℕ, ◌+◌, ◌-◌, ◌<◌}
use native.Mathlib.Omega.{arith}
use lib.ListN.{get_or}
use Rattle.model.specs.ChartSet.{read_charts}
use Rattle.model.specs.AutomataTable.{edge}
use Rattle.model.specs.Translation.{twin}
use Rattle.chart_records.specs.Places.{home_at, transition_at}
use Rattle.chart_steps.proofs.Accepted.{source_known}
use Rattle.paths.proofs.LedOfEdges.{home_known, low-automaton, low-source, low-target, idle-room, high-automaton, high-source, high-target}
use Rattle.paths.proofs.edge_of.Goals as goal

pub returns-then-e-shape : goal.returns-then-e-shape
returns-then-e-shape c =
    let a = c.args in
    let s = a.s.now in
    let sh = a.shape in
    let ok = c.requires.accepted.0 in
    let h = c.if-e-shape.true in
    let home : c.home_of-automaton.result ≡ home_at s sh (transition_at s sh a.e).source = c.home_of-automaton.ensures ∙ ap (home_at s sh) c.source_of-source.ensures in
    record {
      known = omega (arith, home, home_known s sh ok (transition_at s sh a.e).source (source_known s sh ok a.e h));
      automaton = home ∙ sym (low-automaton s sh ok a.e h);
      source = c.source_of-source.ensures ∙ sym (low-source s sh ok a.e h);
      target = c.target_of-target.ensures ∙ sym (low-target s sh ok a.e h);
    }

pub bounds-idling-i : goal.bounds-idling-i
bounds-idling-i c =
    let a = c.args in
    idle-room a.s.now a.shape c.requires.accepted.0 a.idling.now c.requires.accepted.1 (a.e - a.shape.transitions) (omega (arith, c.if-e-shape.false, c.requires.e_bound))

pub returns-else-e-shape : goal.returns-else-e-shape
returns-else-e-shape c =
    let a = c.args in
    let s = a.s.now in
    let sh = a.shape in
    let ok = c.requires.accepted.0 in
    let has = c.requires.accepted.1 in
    let j = a.e - sh.transitions in
    let n = get_or a.idling.now.states j 0 in
    let back : sh.transitions + j ≡ a.e = omega (arith, c.if-e-shape.false) in
    let h : j < a.idling.now.count = omega (arith, c.if-e-shape.false, c.requires.e_bound) in
    let at : (P : ℕ → Type 0) → P (sh.transitions + j) → P a.e = λ P. subst P back in
    record {
      known = omega (arith, c.home_of-automaton-else-e-shape.ensures, home_known s sh ok n (has.known j h));
      automaton = c.home_of-automaton-else-e-shape.ensures ∙ sym (at (λ e. (edge (twin (read_charts s)) e).automaton ≡ home_at s sh n) (high-automaton s sh ok a.idling.now has j h));
      source = sym (at (λ e. (edge (twin (read_charts s)) e).source ≡ n) (high-source s sh ok a.idling.now has j h));
      target = sym (at (λ e. (edge (twin (read_charts s)) e).target ≡ n) (high-target s sh ok a.idling.now has j h));
    }
