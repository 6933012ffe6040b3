-- What it means that bytes are read as a tree, as an operand, as a run of operators or as a choice; an operand is a run, and a run is a choice. Assumes nothing.
use mathlib.Core.Path.{◌≡◌, sym, ap, ◌∙◌}
use mathlib.Core.Bool.{false}
use mathlib.Core.Option.{none}
use mathlib.Core.List.{List, ◌++◌}
use Prim.Native.Nat.{ℕ, zero, suc, ◌+◌, ◌*◌, ◌≤◌}
use native.Mathlib.Omega.{arith}
use lib.Dec.{eqb}
use lib.ListN.{length, length-append}
use Rattle.records.specs.Bytes.{byte}
use Rattle.records.specs.Refusal.{Out, ◌>>=◌}
use Rattle.guards.specs.Trees.{Tree}
use Rattle.guards.specs.Grammar.{Read, read, unspaced, is_digit, operator_at, choice_at, binary_at, go_on, operand_at}
use Rattle.guards.proofs.Steps.{unspaced-length, Next, go_on-ends, choice_at-plain}

-- a tree is read, and the bytes behind it are left, but for spaces
pub record Reads (t : Tree) (r : List ℕ) (x : Out (Read Tree)) : Type 0 where
  pub left : List ℕ
  pub same : unspaced left ≡ unspaced r
  pub out : x ≡ read t left

-- a tree is read so far, and the operators behind it are next
pub record Goes (k : ℕ) (t : Tree) (r : List ℕ) (x : Out (Read Tree)) : Type 0 where
  pub depth : ℕ
  pub left : List ℕ
  pub same : unspaced left ≡ unspaced r
  pub enough : 3 * length (unspaced r) + 1 ≤ depth
  pub out : x ≡ go_on depth k t left

-- what may stand behind a choice
pub record End (r : List ℕ) : Type 0 where
  pub next : Next 7 r
  pub bare : eqb (byte (unspaced r) 0) 63 ≡ false

pub no-operator : (j : ℕ) (r : List ℕ) → is_digit (byte r 0) ≡ false → operator_at (unspaced r) ≡ none → Next j r
no-operator j r n e = record { no_digit = n; looser = λ o m f. let z : ◌≡◌ {A = ℕ} 0 1 = cc in absurd (omega arith) }

abbrev pub Operand : Tree → List ℕ → Type 0
Operand t s = (d : ℕ) (r : List ℕ) → is_digit (byte r 0) ≡ false → 3 * length (s ++ r) + 1 ≤ d → Reads t r (operand_at d (s ++ r))

abbrev pub Run : ℕ → Tree → List ℕ → Type 0
Run j t s = (d k : ℕ) (r : List ℕ) → j ≤ k → Next j r → 3 * length (s ++ r) + 2 ≤ d → Goes k t r (binary_at d k (s ++ r))

abbrev pub Whole : Tree → List ℕ → Type 0
Whole t s = (d : ℕ) (r : List ℕ) → End r → 3 * length (s ++ r) + 3 ≤ d → Reads t r (choice_at d (s ++ r))

pub record Complete (j : ℕ) (t : Tree) (s : List ℕ) : Type 0 where
  pub operand : j ≤ 1 → Operand t s
  pub run : j ≤ 6 → Run j t s
  pub whole : Whole t s

-- ---- an operand is a run of operators, and that a choice

pub rest-least : (s r : List ℕ) → length (unspaced r) ≤ length (s ++ r)
rest-least s r = omega (arith, unspaced-length r, length-append s r)

module _ (j : ℕ) (t : Tree) (s : List ℕ) where
  run_of : Operand t s → Run j t s
  unfolding binary_at
  run_of o zero k r l n h = absurd (omega arith)
  run_of o (suc d) k r l n h =
      let x : Reads t r (operand_at d (s ++ r)) = o d r n.no_digit (omega arith) in
      record { depth = d; left = x.left; same = x.same; enough = omega (arith, rest-least s r); out = ap (λ m. m >>= λ t. go_on d k t.got t.rest) x.out }

  -- before a looser operator the run is at its end
  pub run_ends : Run j t s → (d k : ℕ) (r : List ℕ) → j ≤ k → Next (suc k) r → 3 * length (s ++ r) + 2 ≤ d → Reads t r (binary_at d k (s ++ r))
  run_ends f d k r l n h =
      let x : Goes k t r (binary_at d k (s ++ r)) = f d k r l (record { no_digit = n.no_digit; looser = λ o m e. omega (arith, n.looser o m e) }) h in
      let enough : 1 ≤ x.depth = omega (arith, x.enough) in
      record { left = x.left; same = x.same; out = x.out ∙ go_on-ends x.depth k t x.left (λ o m e. n.looser o m (ap operator_at (sym x.same) ∙ e)) enough }

  whole_of : j ≤ 6 → Run j t s → Whole t s
  whole_of l f zero r e h = absurd (omega arith)
  whole_of l f (suc d) r e h =
      let x : Reads t r (binary_at d 6 (s ++ r)) = run_ends f d 6 r l e.next (omega arith) in
      record { left = x.left; same = x.same; out = choice_at-plain d (s ++ r) t x.left x.out (ap (λ u. eqb (byte u 0) 63) x.same ∙ e.bare) }

  pub of-operand : j ≤ 6 → Operand t s → Complete j t s
  of-operand l o = record { operand = λ h. o; run = λ h. run_of o; whole = whole_of l (run_of o) }

  pub of-run : 2 ≤ j → j ≤ 6 → Run j t s → Complete j t s
  of-run g l f = record { operand = λ h. absurd (omega arith); run = λ h. f; whole = whole_of l f }

  pub of-whole : 7 ≤ j → Whole t s → Complete j t s
  of-whole g f = record { operand = λ h. absurd (omega arith); run = λ h. absurd (omega arith); whole = f }
