use mathlib.Core.Path.{◌≡◌, ap, ◌∙◌}
use mathlib.Core.Bool.{cond}
use mathlib.Core.List.{List, [], ◌∷◌}
use Prim.Native.Nat.{ℕ, ◌+◌, ◌<◌}
use native.Mathlib.Omega.{arith}
use borrow.Author.Tests.{eq-eqb, ne_eqb}
use lib.Dec.{eqb}
use lib.ListN.{length, get_or}
use Rattle.model.specs.Limits.{most_states}
use Rattle.model.specs.ChartSet.{read_charts, waits}
use Rattle.model.specs.Translation.{idle_origins}
use Rattle.model.proofs.TranslationOrigins.{idle-length}
use Rattle.chart_records.specs.declared.Shape.{Shape}
use Rattle.chart_records.specs.Places.{wait_at}
use Rattle.chart_records.specs.Accepted.{Accepted}
use Rattle.chart_steps.specs.Tables.{waiting_keys, HasFirsts}
use Rattle.chart_steps.proofs.Waiting.{waits-first}
use Rattle.paths.proofs.idle_edges.Goals as goal

module _ (s : List ℕ) (sh : Shape) (ok : Accepted s sh) (first : List ℕ) (has : HasFirsts s sh first) (st : ℕ) (h : st < most_states) where
  abbrev at : ℕ
  at = get_or first (waiting_keys + st) 0

  time-is : waits (read_charts s) st ≡ cond (eqb at 65535) [] ((wait_at s sh at).1 ∷ [])
  time-is = waits-first s sh ok st at h (has (waiting_keys + st) (omega arith))

  edges-one : at ≡ 65535 → 1 ≡ length (idle_origins (read_charts s) st)
  edges-one e = omega (arith, idle-length (read_charts s) st, ap length (time-is ∙ ap (λ b. cond b [] ((wait_at s sh at).1 ∷ [])) (eq-eqb at 65535 e)))

  edges-two : (at ≡ 65535 → ⊥) → 2 ≡ length (idle_origins (read_charts s) st)
  edges-two n = omega (arith, idle-length (read_charts s) st, ap length (time-is ∙ ap (λ b. cond b [] ((wait_at s sh at).1 ∷ [])) (ne_eqb at 65535 n)))

pub returns-then-first-key : goal.returns-then-first-key
returns-then-first-key c =
    edges-one c.args.s.now c.args.shape c.requires.0 c.args.first.now c.requires.1 c.args.state c.requires.2 c.if-first-key.true

pub returns-else-first-key : goal.returns-else-first-key
returns-else-first-key c =
    edges-two c.args.s.now c.args.shape c.requires.0 c.args.first.now c.requires.1 c.args.state c.requires.2 c.if-first-key.false
