-- What a literal asks of two runs, by the fields that are read. Assumes nothing.
use mathlib.Core.Path.{◌≡◌, sym, ap, ◌∙◌, subst}
use mathlib.Core.Bool.{true, cond}
use mathlib.Core.List.{List}
use Prim.Native.Nat.{ℕ, ◌<◌}
use native.Mathlib.Omega.{arith}
use borrow.Author.Tests.{eq-eqb, ne_eqb}
use lib.Dec.{eqb}
use lib.ListN.{get_or}
use Rattle.automata_records.specs.declared.Shape.{Shape}
use Rattle.automata_records.specs.Places.{edge_at, literal_at}
use Rattle.automata_records.specs.Known.{LiteralTriggerKnown}
use Rattle.automata_records.proofs.PlacesRead.{most-automata}
use Rattle.automata_records.proofs.NamedThings.{automaton-known, literal-edge-known, literal-literal-trigger-known}
use Rattle.model.specs.AutomataTable.{LiteralTrigger, clock}
use Rattle.automata_records.specs.Accepted.{Accepted}
use Rattle.alike.specs.Alike.{literal_trigger_alike, literal_alike}

module _ (t : List ℕ) (sh : Shape) (l e a : ℕ) (p : e ≡ (literal_at t sh l).0) (q : a ≡ (edge_at t sh e).automaton) where
  literal-by : (ages locations clocks : List ℕ) (source : ℕ) → source ≡ (edge_at t sh e).source →
      literal_alike t sh ages locations clocks l ≡ cond (eqb (get_or locations a 0) source) (literal_trigger_alike t sh clocks (get_or ages a 0) (literal_at t sh l).1.trigger) true
  literal-by ages locations clocks source r =
      let a' : (edge_at t sh (literal_at t sh l).0).automaton ≡ a = sym (q ∙ ap (λ z. (edge_at t sh z).automaton) p) in
      let s' : (edge_at t sh (literal_at t sh l).0).source ≡ source = sym (r ∙ ap (λ z. (edge_at t sh z).source) p) in
      λ i. cond (eqb (get_or locations (a' i) 0) (s' i)) (literal_trigger_alike t sh clocks (get_or ages (a' i) 0) (literal_at t sh l).1.trigger) true

  -- where the literal's edge leaves another location
  pub literal-away : (ages locations clocks : List ℕ) (source : ℕ) → source ≡ (edge_at t sh e).source → (get_or locations a 0 ≡ source → ⊥) → true ≡ literal_alike t sh ages locations clocks l
  literal-away ages locations clocks source r away =
      sym (literal-by ages locations clocks source r ∙ ap (λ b. cond b (literal_trigger_alike t sh clocks (get_or ages a 0) (literal_at t sh l).1.trigger) true) (ne_eqb (get_or locations a 0) source away))

  -- where it leaves this one
  pub literal-here : (ages locations clocks : List ℕ) (source : ℕ) → source ≡ (edge_at t sh e).source → get_or locations a 0 ≡ source →
      (c : LiteralTrigger) → c ≡ (literal_at t sh l).1.trigger → literal_trigger_alike t sh clocks (get_or ages a 0) c ≡ literal_alike t sh ages locations clocks l
  literal-here ages locations clocks source r here c d =
      sym (literal-by ages locations clocks source r ∙ (λ i. cond (eq-eqb (get_or locations a 0) source here i) (literal_trigger_alike t sh clocks (get_or ages a 0) (sym d i)) true))

  pub automaton-in : Accepted t sh → l < sh.literals → a < 8
  automaton-in ok h =
      let b : e < sh.edges = subst (λ z. z < sh.edges) (sym p) (literal-edge-known t sh ok.shape ok.unrefused l h) in
      let k : (edge_at t sh e).automaton < sh.automata = automaton-known t sh ok.shape ok.unrefused e b in
      omega (arith, k, q, most-automata t sh ok.shape)

pub clock-in : (t : List ℕ) (sh : Shape) → Accepted t sh → (l : ℕ) → l < sh.literals → (k : ℕ) → clock k ≡ (literal_at t sh l).1.trigger → k < sh.clocks
clock-in t sh ok l h k e = subst (LiteralTriggerKnown sh.clocks) (sym e) (literal-literal-trigger-known t sh ok.shape ok.unrefused l h)
