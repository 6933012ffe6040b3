-- Whatever the rules derive is read as its tree, at any depth that the bytes allow and before any bytes that may stand behind it. Assumes nothing.
use mathlib.Core.Path.{◌≡◌, refl, sym, ap, ◌∙◌}
use mathlib.Core.List.{List, [], ◌∷◌, ◌++◌, append_assoc}
use Prim.Native.Nat.{ℕ, zero, suc, ◌+◌, ◌-◌, ◌*◌, ◌^◌, ◌≤◌}
use native.Mathlib.Omega.{arith}
use lib.IntN.{pos, neg_ℤ}
use lib.ListN.{length, drop, length-append}
use lib.Seq.{drop-append_seam}
use Rattle.records.specs.Refusal.{◌>>=◌}
use Rattle.model.specs.Replay.{decimal}
use Rattle.guards.specs.Trees.{Binary, Tree, constant, variable, negation, binary, choice, binary_level}
use Rattle.guards.specs.Texts.{sign}
use Rattle.guards.specs.Grammar.{read, unspaced, operator_at, past, numeral, choice_at, binary_at, go_on, operand_at, Grammar}
use Rattle.guards.specs.Rules.{Derives, named, positive, negative, enclosed, negated, joined, chosen, tighter, before, behind}
use Rattle.guards.proofs.Numerals.{Leading, decimal-leading, numeral-decimal}
use Rattle.guards.proofs.Derived.{joined-parts, choice-parts, Begun, Derives-begun, Begun-other}
use Rattle.guards.proofs.Steps.{operand_at-space, binary_at-space, choice_at-space, Level, binary_level-within, Signed, sign_read, Next, before-sign, spaced-next, go_on-goes, operand_at-enclosed, operand_at-negated, operand_at-named, operand_at-negative, operand_at-positive, past-mark, choice_at-chosen}
use Rattle.guards.proofs.Readings.{Reads, Goes, End, no-operator, Operand, Run, Whole, Complete, rest-least, run_ends, of-operand, of-run, of-whole}

-- ---- names and constants

variable-read : (v : ℕ) → v ≤ 63 → Operand (variable v) (118 ∷ decimal v)
variable-read v l zero r n h = absurd (omega arith)
variable-read v l (suc d) r n h =
    record { left = r; same = refl; out = operand_at-named d (decimal v ++ r) ∙ ap (λ m. m >>= λ n. read (variable n.got) n.rest) (numeral-decimal 63 v r (omega arith) n l) }

negative-read : (m : ℕ) → m ≤ 2 ^ 31 → Operand (constant (neg_ℤ (pos m))) (45 ∷ decimal m)
negative-read m l zero r n h = absurd (omega arith)
negative-read m l (suc d) r n h =
    record { left = r; same = refl; out = operand_at-negative d (decimal m ++ r) ∙ ap (λ m. m >>= λ n. read (constant (neg_ℤ (pos n.got))) n.rest) (numeral-decimal (2 ^ 31) m r (omega arith) n l) }

positive-read : (m : ℕ) → m ≤ 2 ^ 31 - 1 → Operand (constant (pos m)) (decimal m)
positive-read m l zero r n h = absurd (omega arith)
positive-read m l (suc d) r n h =
    let f : Leading m (decimal m) = decimal-leading m (omega arith) in
    record {
      left = r;
      same = refl;
      out =
          ap (λ ds. operand_at (suc d) (ds ++ r)) f.same
          ∙ operand_at-positive d (f.others ++ r) f.first f.digit
          ∙ ap (λ ds. numeral (2 ^ 31 - 1) (ds ++ r) >>= λ n. read (constant (pos n.got)) n.rest) (sym f.same)
          ∙ ap (λ m. m >>= λ n. read (constant (pos n.got)) n.rest) (numeral-decimal (2 ^ 31 - 1) m r (omega arith) n l);
    }

-- ---- parentheses and negations

closed-end : (r : List ℕ) → End (41 ∷ r)
unfolding Grammar
closed-end r = record { next = no-operator 7 (41 ∷ r) refl refl; bare = refl }

module _ (t : Tree) (s : List ℕ) where
  enclosed-read : Whole t s → Operand t (40 ∷ s ++ (41 ∷ []))
  unfolding unspaced
  enclosed-read f zero r n h = absurd (omega arith)
  enclosed-read f (suc d) r n h =
      let e : s ++ (41 ∷ []) ++ r ≡ s ++ (41 ∷ r) = append_assoc s (41 ∷ []) r in
      let x : Reads t (41 ∷ r) (choice_at d (s ++ (41 ∷ r))) = f d (41 ∷ r) (closed-end r) (omega (arith, ap length e)) in
      record {
        left = r;
        same = refl;
        out =
            ap (λ u. operand_at (suc d) (40 ∷ u)) e
            ∙ operand_at-enclosed d (s ++ (41 ∷ r))
            ∙ ap (λ m. m >>= λ t. past 41 t.rest >>= λ r. read t.got r) x.out
            ∙ ap (λ m. m >>= λ r. read t r) (past-mark 41 x.left r x.same);
      }

  negated-read : Operand t s → Operand (negation t) (33 ∷ s)
  negated-read f zero r n h = absurd (omega arith)
  negated-read f (suc d) r n h =
      let x : Reads t r (operand_at d (s ++ r)) = f d r n (omega arith) in
      record { left = x.left; same = x.same; out = operand_at-negated d (s ++ r) ∙ ap (λ m. m >>= λ t. read (negation t.got) t.rest) x.out }

-- ---- operators between operands

module _ (o : Binary) (a b : Tree) (s u : List ℕ) (begun : Begun u) (f : Run (binary_level o) a s) (g : Run (binary_level o - 1) b u) where
  -- from the left operand on
  operator-read : (d k : ℕ) (r left : List ℕ) → binary_level o ≤ k → Next (binary_level o) r → unspaced left ≡ sign o ++ (u ++ r) → 3 * length (u ++ r) + 4 ≤ d → Goes k (binary o a b) r (go_on d k a left)
  operator-read zero k r left l n e h = absurd (omega arith)
  operator-read (suc d) k r left l n e h =
      let w : Level o = binary_level-within o in
      let q : Signed o (u ++ r) = sign_read o (u ++ r) (Begun-other u r begun) in
      let x : Reads b r (binary_at d (binary_level o - 1) (u ++ r)) = run_ends (binary_level o - 1) b u g d (binary_level o - 1) r (omega arith) (record { no_digit = n.no_digit; looser = λ p m i. omega (arith, n.looser p m i, w.low) }) (omega arith) in
      record {
        depth = d;
        left = x.left;
        same = x.same;
        enough = omega (arith, rest-least u r);
        out =
            go_on-goes d k a left o (length (sign o)) (ap operator_at e ∙ q.found) l
            ∙ ap (λ v. binary_at d (binary_level o - 1) v >>= λ c. go_on d k (binary o a c.got) c.rest) (ap (drop (length (sign o))) e ∙ drop-append_seam (sign o) (u ++ r))
            ∙ ap (λ m. m >>= λ c. go_on d k (binary o a c.got) c.rest) x.out;
      }

  joined-read : Run (binary_level o) (binary o a b) (s ++ sign o ++ u)
  joined-read d k r l n h =
      let q : Signed o (u ++ r) = sign_read o (u ++ r) (Begun-other u r begun) in
      let e : s ++ sign o ++ u ++ r ≡ s ++ (sign o ++ (u ++ r)) = joined-parts s (sign o) u r in
      let x : Goes k a (sign o ++ (u ++ r)) (binary_at d k (s ++ (sign o ++ (u ++ r)))) = f d k (sign o ++ (u ++ r)) l (before-sign o (u ++ r) q) (omega (arith, ap length e)) in
      let y : Goes k (binary o a b) r (go_on x.depth k a x.left) = operator-read x.depth k r x.left l n (x.same ∙ q.bare) (omega (arith, x.enough, ap length q.bare, length-append (sign o) (u ++ r), q.filled)) in
      record { depth = y.depth; left = y.left; same = y.same; enough = y.enough; out = ap (binary_at d k) e ∙ x.out ∙ y.out }

-- ---- choices

module _ (t a b : Tree) (s u w : List ℕ) (f : Run 6 t s) (g : Whole a u) (h : Whole b w) where
  asked : (r : List ℕ) → Next 7 (63 ∷ r)
  unfolding Grammar
  asked r = no-operator 7 (63 ∷ r) refl refl

  parted : (r : List ℕ) → End (58 ∷ r)
  unfolding Grammar
  parted r = record { next = no-operator 7 (58 ∷ r) refl refl; bare = refl }

  chosen-read : Whole (choice t a b) (s ++ (63 ∷ u) ++ (58 ∷ w))
  unfolding unspaced
  chosen-read zero r e l = absurd (omega arith)
  chosen-read (suc d) r e l =
      let v : List ℕ = u ++ (58 ∷ w ++ r) in
      let i : s ++ (63 ∷ u) ++ (58 ∷ w) ++ r ≡ s ++ (63 ∷ v) = choice-parts s u w r in
      let x : Reads t (63 ∷ v) (binary_at d 6 (s ++ (63 ∷ v))) = run_ends 6 t s f d 6 (63 ∷ v) (omega arith) (asked v) (omega (arith, ap length i)) in
      let y : Reads a (58 ∷ w ++ r) (choice_at d v) = g d (58 ∷ w ++ r) (parted (w ++ r)) (omega (arith, ap length i, length-append s (63 ∷ v))) in
      let z : Reads b r (choice_at d (w ++ r)) = h d r e (omega (arith, ap length i, length-append s (63 ∷ v), length-append u (58 ∷ w ++ r))) in
      record {
        left = z.left;
        same = z.same;
        out =
            ap (choice_at (suc d)) i
            ∙ choice_at-chosen d (s ++ (63 ∷ v)) t x.left x.out v x.same
            ∙ ap (λ m. m >>= λ a. past 58 a.rest >>= λ u. choice_at d u >>= λ b. read (choice t a.got b.got) b.rest) y.out
            ∙ ap (λ m. m >>= λ u. choice_at d u >>= λ b. read (choice t a b.got) b.rest) (past-mark 58 y.left (w ++ r) y.same)
            ∙ ap (λ m. m >>= λ b. read (choice t a b.got) b.rest) z.out;
      }

-- ---- spaces

spaced-end : (r : List ℕ) → End r → End (32 ∷ r)
unfolding unspaced
spaced-end r e = record { next = spaced-next 7 r e.next; bare = e.bare }

module _ {j : ℕ} {t : Tree} {s : List ℕ} (c : Complete j t s) where
  space-before : Complete j t (32 ∷ s)
  space-before =
      record {
        operand = λ l d r n h. let x : Reads t r (operand_at d (s ++ r)) = c.operand l d r n (omega arith) in record { left = x.left; same = x.same; out = operand_at-space d (s ++ r) ∙ x.out };
        run = λ l d k r i n h.
            let x : Goes k t r (binary_at d k (s ++ r)) = c.run l d k r i n (omega arith) in
            record { depth = x.depth; left = x.left; same = x.same; enough = x.enough; out = binary_at-space d k (s ++ r) ∙ x.out };
        whole = λ d r e h. let x : Reads t r (choice_at d (s ++ r)) = c.whole d r e (omega arith) in record { left = x.left; same = x.same; out = choice_at-space d (s ++ r) ∙ x.out };
      }

  space-behind : Complete j t (s ++ (32 ∷ []))
  unfolding unspaced
  space-behind =
      record {
        operand = λ l d r n h.
            let x : Reads t (32 ∷ r) (operand_at d (s ++ (32 ∷ r))) = c.operand l d (32 ∷ r) refl (omega (arith, ap length (shifted r))) in
            record { left = x.left; same = x.same; out = ap (operand_at d) (shifted r) ∙ x.out };
        run = λ l d k r i n h.
            let x : Goes k t (32 ∷ r) (binary_at d k (s ++ (32 ∷ r))) = c.run l d k (32 ∷ r) i (spaced-next j r n) (omega (arith, ap length (shifted r))) in
            record { depth = x.depth; left = x.left; same = x.same; enough = x.enough; out = ap (binary_at d k) (shifted r) ∙ x.out };
        whole = λ d r e h.
            let x : Reads t (32 ∷ r) (choice_at d (s ++ (32 ∷ r))) = c.whole d (32 ∷ r) (spaced-end r e) (omega (arith, ap length (shifted r))) in
            record { left = x.left; same = x.same; out = ap (choice_at d) (shifted r) ∙ x.out };
      }
    where
      shifted : (r : List ℕ) → s ++ (32 ∷ []) ++ r ≡ s ++ (32 ∷ r)
      shifted r = append_assoc s (32 ∷ []) r

  bound-tighter : {k : ℕ} → j ≤ k → Complete k t s
  bound-tighter l =
      record {
        operand = λ h. c.operand (omega arith);
        run = λ h d k r i n. c.run (omega arith) d k r (omega arith) (record { no_digit = n.no_digit; looser = λ o m e. omega (arith, n.looser o m e) });
        whole = c.whole;
      }

-- ---- every derivation

pub Derives-complete : {j : ℕ} {t : Tree} {s : List ℕ} → Derives j t s → Complete j t s
Derives-complete (named {v} h) = of-operand 0 _ _ (omega arith) (variable-read v h)
Derives-complete (positive {n} h) = of-operand 0 _ _ (omega arith) (positive-read n h)
Derives-complete (negative {n} h) = of-operand 0 _ _ (omega arith) (negative-read n h)
Derives-complete (enclosed {t} {s} h) = of-operand 0 t _ (omega arith) (enclosed-read t s (Derives-complete h).whole)
Derives-complete (negated {t} {s} h) = of-operand 1 _ _ (omega arith) (negated-read t s ((Derives-complete h).operand (omega arith)))
Derives-complete (joined {o} {a} {b} {s} {u} f g) =
    let w : Level o = binary_level-within o in
    of-run (binary_level o) (binary o a b) (s ++ sign o ++ u) w.low w.high (joined-read o a b s u (Derives-begun g) ((Derives-complete f).run w.high) ((Derives-complete g).run (omega (arith, w.high))))
Derives-complete (chosen {t} {a} {b} {s} {u} {w} f g h) = of-whole 7 _ _ (omega arith) (chosen-read t a b s u w ((Derives-complete f).run (omega arith)) (Derives-complete g).whole (Derives-complete h).whole)
Derives-complete (tighter l h) = bound-tighter (Derives-complete h) l
Derives-complete (before h) = space-before (Derives-complete h)
Derives-complete (behind h) = space-behind (Derives-complete h)
