-- The lines of a cycle, turn by turn, of any machine whose turns keep a run possible. Assumes nothing.
use mathlib.Core.Path.{◌≡◌, refl, sym, ap, ◌∙◌, subst}
use mathlib.Core.List.{List, [], ◌++◌, append_assoc, append-nil}
use Prim.Native.Nat.{ℕ, ◌+◌, ◌-◌, ◌*◌, ◌≤◌}
use native.Mathlib.Omega.{arith}
use lib.ListN.{length, get_or, take}
use Rattle.records.specs.Refusal.{Refusal, Out, val, fault, ◌>>=◌}
use Rattle.records.specs.Wrote.{Wrote, Begins}
use Rattle.records.proofs.Wrote.{nothing-wrote, wrote_then}
use Rattle.model.specs.Outcome.{Outcome, settled}
use Rattle.model.specs.Runs.{Run, Answer, taken, idle, time, Machine, parts, give, turn, whole_cycle, trace, cycle}
use Rattle.model.proofs.ChecksKept.{NotTime, Steady}
use Rattle.model.proofs.TurnsCycle.{traced, trace-by-turns, turn-begun}
use Rattle.machines.proofs.TurnsCycle.{turning, goes_on, moves-on, ends-at-time, ends-in-fault}
use Rattle.lines.specs.Text.{turn_text, trace_text}
use Rattle.replays.specs.Played.{answer_text}

-- what a cycle called with these events writes
abbrev pub lines_of : Machine → ℕ → Run → List ℕ
lines_of m given r = trace_text m (trace m (whole_cycle given) r)

-- In the midst of a cycle that was called in r₀: what is written and what is left make up the whole, no part's line is longer than 482 bytes, and there are
-- 8 parts at most.
pub record Underway (m : Machine) (before : List ℕ) (events : ℕ) (r₀ : Run) (now : List ℕ) (at : ℕ) (given : ℕ) (r : Run) : Type 0 where
  pub text : List ℕ
  pub wrote : Wrote before 0 text now at
  pub lines : lines_of m events r₀ ≡ text ++ lines_of m given r
  pub end : cycle m events r₀ ≡ cycle m given r
  pub near : at ≤ 482 * (r.world.position - 1)
  pub room : at ≤ 3856

pub underway : (m : Machine) (before : List ℕ) (events : ℕ) (r : Run) → Underway m before events r before 0 events r
underway m before events r = record {
  text = [];
  wrote = nothing-wrote before 0;
  lines = refl;
  end = refl;
  near = omega arith;
  room = omega arith;
}

-- the line of a turn's answer
answer-text : (m : Machine) (given : ℕ) (r : Run) (o : Out Answer) (a : Answer) (q : Run) (v : ℕ) → o ≡ val a → length m.variables ≡ v →
    answer_text r.world.cycles (r.world.position - 1) o (get_or q.at (r.world.position - 1) 0) (take v q.world.vars) ≡ turn_text m (give given r) a q
answer-text m given r o a q v e l =
    (λ i. answer_text r.world.cycles (r.world.position - 1) (e i) (get_or q.at (r.world.position - 1) 0) (take (sym l i) q.world.vars)) ∙ go a
  where
    go : (a : Answer) →
        answer_text r.world.cycles (r.world.position - 1) (val a) (get_or q.at (r.world.position - 1) 0) (take (length m.variables) q.world.vars) ≡ turn_text m (give given r) a q
    go (taken t) = refl
    go idle = refl
    go time = refl

-- ---- a turn of the present run, by what it answered

module _ (m : Machine) (ok : Steady m) (given : ℕ) (r : Run) (x : Outcome Answer Run) (is : x ≡ settled r (turn m given r)) where
  turned_so : (o : Out Answer) → x.answer ≡ o → turn m given r ≡ (o >>= λ a. val (a, x.lent))
  turned_so o e = turning m ok given r x is ∙ ap (λ o. o >>= λ a. val (a, x.lent)) e

  by_answer : (o : Out Answer) → x.answer ≡ o → lines_of m given r ≡ trace_text m (traced m (give given r) (o >>= λ a. val (a, x.lent)))
  by_answer o e = ap (trace_text m) (trace-by-turns m ok given r ∙ ap (traced m (give given r)) (turned_so o e))

  part-lines : (a : Answer) → x.answer ≡ val a → NotTime a → lines_of m given r ≡ turn_text m (give given r) a x.lent ++ lines_of m 0 x.lent
  unfolding trace_text
  part-lines (taken t) e n = by_answer (val (taken t)) e
  part-lines idle e n = by_answer (val idle) e
  part-lines time e n = absurd n

  time-lines : x.answer ≡ val time → lines_of m given r ≡ []
  unfolding trace_text
  time-lines e = by_answer (val time) e

  fault-lines : (w : Refusal) → x.answer ≡ fault w → lines_of m given r ≡ []
  unfolding trace_text
  fault-lines w e = by_answer (fault w) e

  -- a part's turn has a part's place, and goes one on
  pub part-place : (a : Answer) → x.answer ≡ val a → NotTime a →
      (1 ≤ r.world.position) × (r.world.position ≤ parts m) × (x.lent.world.position ≡ r.world.position + 1)
  part-place a e n =
      let m₁ = moves-on m ok given r x is a e n in
      (turn-begun m ok given r (a, x.lent) (turned_so (val a) e), m₁.0, m₁.1)

  module _ {before now : List ℕ} {events : ℕ} {r₀ : Run} {at : ℕ} (u : Underway m before events r₀ now at given r) where
    pub underway-next : (a : Answer) → x.answer ≡ val a → NotTime a → (later : List ℕ) (place v : ℕ) → parts m ≤ 8 → length m.variables ≡ v →
        Wrote now at (answer_text r.world.cycles (r.world.position - 1) x.answer (get_or x.lent.at (r.world.position - 1) 0) (take v x.lent.world.vars)) later place
        × (place ≤ at + 482) → Underway m before events r₀ later place 0 x.lent
    underway-next a e n later place v few l told =
        let p = part-place a e n in
        let line = turn_text m (give given r) a x.lent in
        let one : Wrote now at line later place = subst (λ t. Wrote now at t later place) (answer-text m given r x.answer a x.lent v e l) told.0 in
        record {
          text = u.text ++ line;
          wrote = wrote_then u.wrote one;
          lines = u.lines ∙ ap (λ t. u.text ++ t) (part-lines a e n) ∙ sym (append_assoc u.text line (lines_of m 0 x.lent));
          end = u.end ∙ goes_on m ok given r x is a e n;
          near = omega (arith, p.0, p.2, u.near, told.1);
          room = omega (arith, p.0, p.1, few, u.near, told.1);
        }

    -- Where no line is left, all are written: what a call promises that ends so.
    whole : (o : Out (Unit {0} × Run)) → lines_of m given r ≡ [] → cycle m given r ≡ o →
        Begins before (lines_of m events r₀) now at × ((at ≤ 3856) × (settled r₀ o ≡ settled r₀ (cycle m events r₀)))
    whole o nil e =
        let all : lines_of m events r₀ ≡ u.text = u.lines ∙ ap (λ t. u.text ++ t) nil ∙ append-nil u.text in
        let w : Wrote before 0 (lines_of m events r₀) now at = subst (λ t. Wrote before 0 t now at) (sym all) u.wrote in
        ((let b = w.behind in omega arith, w.written), (u.room, sym (ap (settled r₀) (u.end ∙ e))))

    pub finished : x.answer ≡ val time →
        Begins before (lines_of m events r₀) now at × ((at ≤ 3856) × (record { answer = val tt; lent = x.lent } ≡ settled r₀ (cycle m events r₀)))
    finished e = whole (val (tt, x.lent)) (time-lines e) (ends-at-time m ok given r x is e)

    pub failed : (w : Refusal) → x.answer ≡ fault w →
        Begins before (lines_of m events r₀) now at × ((at ≤ 3856) × (record { answer = fault w; lent = r₀ } ≡ settled r₀ (cycle m events r₀)))
    failed w e = whole (fault w) (fault-lines w e) (ends-in-fault m ok given r x is w e)
