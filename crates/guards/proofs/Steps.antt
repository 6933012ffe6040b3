-- The reader's rules one step at a time: spaces, the bytes of an operator, what ends a run of operators, and the operands by their first byte. Assumes nothing.
use mathlib.Core.Path.{◌≡◌, refl, sym, ap, ◌∙◌, subst}
use mathlib.Core.Bool.{Bool, true, false, cond}
use mathlib.Core.Option.{Option, some, none}
use mathlib.Core.List.{List, [], ◌∷◌, ◌++◌}
use Prim.Native.Nat.{ℕ, zero, suc, ◌-◌, ◌≤◌, ◌<◌}
use native.Mathlib.Omega.{arith}
use borrow.Author.Tests.{le-leb, lt-leb, eq-eqb, ne_eqb}
use lib.Dec.{eqb}
use lib.ListN.{length, drop}
use Rattle.records.specs.Bytes.{byte}
use Rattle.records.specs.Refusal.{Out, val, ◌>>=◌}
use Rattle.arithmetic.specs.Operators.{sum, difference, product, quotient, remainder, equal, less, at_most}
use Rattle.guards.specs.Trees.{Binary, arithmetic, comparison, both, either, Tree, negation, binary, choice, binary_level}
use Rattle.guards.specs.Texts.{sign}
use Rattle.guards.specs.Grammar.{Read, read, outside, unspaced, is_digit, operator_at, by_operator, past, read_variable, read_positive, read_negative, choice_at, binary_at, go_on, operand_at, Grammar}
use Rattle.guards.proofs.Numerals.{digit-least, digit-most}

-- ---- spaces

pub unspaced-length : (s : List ℕ) → length (unspaced s) ≤ length s
unfolding unspaced
unspaced-length [] = omega arith
unspaced-length (b ∷ s) = go (eqb b 32) (unspaced-length s)
  where
    go : (t : Bool) → length (unspaced s) ≤ length s → length (cond t (unspaced s) (b ∷ s)) ≤ suc (length s)
    go true h = omega arith
    go false h = omega arith

pub operand_at-space : (d : ℕ) (s : List ℕ) → operand_at d (32 ∷ s) ≡ operand_at d s
unfolding Grammar
operand_at-space zero s = refl
operand_at-space (suc d) s = refl

pub binary_at-space : (d k : ℕ) (s : List ℕ) → binary_at d k (32 ∷ s) ≡ binary_at d k s
unfolding Grammar
binary_at-space zero k s = refl
binary_at-space (suc d) k s = ap (λ o. o >>= λ t. go_on d k t.got t.rest) (operand_at-space d s)

pub choice_at-space : (d : ℕ) (s : List ℕ) → choice_at d (32 ∷ s) ≡ choice_at d s
unfolding choice_at
choice_at-space zero s = refl
choice_at-space (suc d) s = rw (binary_at-space d 6 s) refl

-- ---- operators

pub record Level (o : Binary) : Type 0 where
  pub low : 2 ≤ binary_level o
  pub high : binary_level o ≤ 6

pub binary_level-within : (o : Binary) → Level o
binary_level-within (arithmetic sum) = record { low = omega arith; high = omega arith }
binary_level-within (arithmetic difference) = record { low = omega arith; high = omega arith }
binary_level-within (arithmetic product) = record { low = omega arith; high = omega arith }
binary_level-within (arithmetic quotient) = record { low = omega arith; high = omega arith }
binary_level-within (arithmetic remainder) = record { low = omega arith; high = omega arith }
binary_level-within (comparison o) = record { low = omega arith; high = omega arith }
binary_level-within both = record { low = omega arith; high = omega arith }
binary_level-within either = record { low = omega arith; high = omega arith }

-- the sign of an operator before bytes that do not begin with `=`
pub record Signed (o : Binary) (s : List ℕ) : Type 0 where
  pub bare : unspaced (sign o ++ s) ≡ sign o ++ s
  pub no_digit : is_digit (byte (sign o ++ s) 0) ≡ false
  pub found : operator_at (sign o ++ s) ≡ some (o, length (sign o))
  pub filled : 1 ≤ length (sign o)

pub sign_read : (o : Binary) (s : List ℕ) → (byte s 0 ≡ 61 → ⊥) → Signed o s
unfolding Grammar
sign_read (arithmetic sum) s n = record { bare = refl; no_digit = refl; found = refl; filled = omega arith }
sign_read (arithmetic difference) s n = record { bare = refl; no_digit = refl; found = refl; filled = omega arith }
sign_read (arithmetic product) s n = record { bare = refl; no_digit = refl; found = refl; filled = omega arith }
sign_read (arithmetic quotient) s n = record { bare = refl; no_digit = refl; found = refl; filled = omega arith }
sign_read (arithmetic remainder) s n = record { bare = refl; no_digit = refl; found = refl; filled = omega arith }
sign_read (comparison equal) s n = record { bare = refl; no_digit = refl; found = refl; filled = omega arith }
sign_read (comparison less) s n = record { bare = refl; no_digit = refl; found = rw (ne_eqb (byte s 0) 61 n) refl; filled = omega arith }
sign_read (comparison at_most) s n = record { bare = refl; no_digit = refl; found = refl; filled = omega arith }
sign_read both s n = record { bare = refl; no_digit = refl; found = refl; filled = omega arith }
sign_read either s n = record { bare = refl; no_digit = refl; found = refl; filled = omega arith }

-- what may stand behind a tree whose operators have levels up to j: the next operator, if one comes, has that level at least
pub record Next (j : ℕ) (r : List ℕ) : Type 0 where
  pub no_digit : is_digit (byte r 0) ≡ false
  pub looser : (o : Binary) (n : ℕ) → operator_at (unspaced r) ≡ some (o, n) → j ≤ binary_level o

pub before-sign : (o : Binary) (s : List ℕ) → Signed o s → Next (binary_level o) (sign o ++ s)
before-sign o s q = record { no_digit = q.no_digit; looser = λ p m i. subst (λ p. binary_level o ≤ binary_level p) (same-operator p m (sym q.found ∙ ap operator_at (sym q.bare) ∙ i)) (omega arith) }
  where
    same-operator : (p : Binary) (m : ℕ) → ◌≡◌ {A = Option (Binary × ℕ)} (some (o, length (sign o))) (some (p, m)) → o ≡ p
    same-operator p m e = let f : ◌≡◌ {A = Binary × ℕ} (o, length (sign o)) (p, m) = cc in ap (λ x. x.0) f

pub spaced-next : (j : ℕ) (r : List ℕ) → Next j r → Next j (32 ∷ r)
unfolding unspaced
spaced-next j r n = record { no_digit = refl; looser = n.looser }

module _ {A : Type 0} (k : ℕ) (ends : A) (goes_on : Binary → ℕ → A) where
  ends_by : (x : Option (Binary × ℕ)) → ((o : Binary) (n : ℕ) → x ≡ some (o, n) → k < binary_level o) → by_operator x k ends goes_on ≡ ends
  ends_by none h = refl
  ends_by (some x) h = ap (λ t. cond t (goes_on x.0 x.1) ends) (lt-leb (binary_level x.0) k (h x.0 x.1 refl))

  goes_by : (x : Option (Binary × ℕ)) (o : Binary) (n : ℕ) → x ≡ some (o, n) → binary_level o ≤ k → by_operator x k ends goes_on ≡ goes_on o n
  goes_by x o n e h = ap (λ y. by_operator y k ends goes_on) e ∙ ap (λ t. cond t (goes_on o n) ends) (le-leb (binary_level o) k h)

pub go_on-ends : (d k : ℕ) (t : Tree) (s : List ℕ) → ((o : Binary) (n : ℕ) → operator_at (unspaced s) ≡ some (o, n) → k < binary_level o) → 1 ≤ d → go_on d k t s ≡ read t s
unfolding go_on
go_on-ends zero k t s h l = absurd (omega arith)
go_on-ends (suc d) k t s h l = ends_by k (read t s) _ (operator_at (unspaced s)) h

pub go_on-goes :
    (d k : ℕ) (t : Tree) (s : List ℕ) (o : Binary) (n : ℕ)
    → operator_at (unspaced s) ≡ some (o, n)
    → binary_level o ≤ k
    → go_on (suc d) k t s ≡ (binary_at d (binary_level o - 1) (drop n (unspaced s)) >>= λ u. go_on d k (binary o t u.got) u.rest)
unfolding go_on
go_on-goes d k t s o n e h = goes_by k (read t s) _ (operator_at (unspaced s)) o n e h

-- ---- operands by their first byte

module _ (d : ℕ) (s : List ℕ) where
  pub operand_at-enclosed : operand_at (suc d) (40 ∷ s) ≡ (choice_at d s >>= λ t. past 41 t.rest >>= λ r. read t.got r)
  unfolding Grammar
  operand_at-enclosed = refl

  pub operand_at-negated : operand_at (suc d) (33 ∷ s) ≡ (operand_at d s >>= λ t. read (negation t.got) t.rest)
  unfolding Grammar
  operand_at-negated = refl

  pub operand_at-named : operand_at (suc d) (118 ∷ s) ≡ read_variable s
  unfolding Grammar
  operand_at-named = refl

  pub operand_at-negative : operand_at (suc d) (45 ∷ s) ≡ read_negative s
  unfolding Grammar
  operand_at-negative = refl

  pub operand_at-positive : (b : ℕ) → is_digit b ≡ true → operand_at (suc d) (b ∷ s) ≡ read_positive (b ∷ s)
  unfolding Grammar
  operand_at-positive b e =
      let l : 48 ≤ b = digit-least b e in
      let h : b ≤ 57 = digit-most b e in
      rw (ne_eqb b 32 (omega arith), ne_eqb b 40 (omega arith), ne_eqb b 33 (omega arith), ne_eqb b 118 (omega arith), ne_eqb b 45 (omega arith)) refl

-- ---- marks and choices

pub past-mark : (mark : ℕ) (s r : List ℕ) → unspaced s ≡ mark ∷ r → past mark s ≡ val r
past-mark mark s r e = ap (λ u. cond (eqb (byte u 0) mark) (val (drop 1 u)) outside) e ∙ ap (λ t. cond t (val r) outside) (eq-eqb mark mark refl)

module _ (d : ℕ) (s : List ℕ) (t : Tree) (rest : List ℕ) (e : binary_at d 6 s ≡ read t rest) where
  abbrev otherwise : List ℕ → Out (Read Tree)
  otherwise r = choice_at d r >>= λ a. past 58 a.rest >>= λ u. choice_at d u >>= λ b. read (choice t a.got b.got) b.rest

  by-mark : choice_at (suc d) s ≡ cond (eqb (byte (unspaced rest) 0) 63) (otherwise (drop 1 (unspaced rest))) (read t rest)
  unfolding choice_at
  by-mark =
      ap
      (λ m. m >>= λ t. let r = unspaced t.rest in cond (eqb (byte r 0) 63) (choice_at d (drop 1 r) >>= λ a. past 58 a.rest >>= λ u. choice_at d u >>= λ b. read (choice t.got a.got b.got) b.rest) (val t))
      e

  pub choice_at-plain : eqb (byte (unspaced rest) 0) 63 ≡ false → choice_at (suc d) s ≡ read t rest
  choice_at-plain f = by-mark ∙ ap (λ b. cond b (otherwise (drop 1 (unspaced rest))) (read t rest)) f

  pub choice_at-chosen : (r : List ℕ) → unspaced rest ≡ 63 ∷ r → choice_at (suc d) s ≡ (choice_at d r >>= λ a. past 58 a.rest >>= λ u. choice_at d u >>= λ b. read (choice t a.got b.got) b.rest)
  choice_at-chosen r f = by-mark ∙ ap (λ u. cond (eqb (byte u 0) 63) (otherwise (drop 1 u)) (read t rest)) f
