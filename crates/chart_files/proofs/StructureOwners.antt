-- Actions of an owner: states and transitions counted in one tally, the transitions' places after the states'. Assumes nothing.
use mathlib.Core.Path.{◌≡◌, refl, sym, ap, ◌∙◌}
use mathlib.Core.Bool.{Bool, true, false, cond, ◌&&◌, ◌||◌}
use mathlib.Core.List.{map}
use Prim.Native.Nat.{ℕ, zero, suc, ◌+◌, ◌≤◌, ◌<◌}
use native.Mathlib.Omega.{arith}
use borrow.Author.Tests.{eqb-true, eqb-false, eq-eqb, ne_eqb}
use lib.Dec.{leb, eqb}
use lib.ListN.{replicate}
use Rattle.prelude.specs.Lists.{all, count, from, upto}
use Rattle.expressions.proofs.Uses.{times}
use Rattle.prelude.proofs.Loops.{and_assoc}
use Rattle.chart_files.specs.Tallies.{none_above}
use Rattle.prelude.proofs.Maps.{count_map}
use Rattle.prelude.proofs.Numbers.{all_alike, count-alike}
use Rattle.chart_files.proofs.Tallies.{within-is}

-- the numbers below a + b: those below a, and those from a on
from-shift : (p : ℕ → Bool) (k m b : ℕ) → all p (from (k + m) b) ≡ all (λ j. p (k + j)) (from m b)
unfolding all from
from-shift p k m zero = refl
from-shift p k m (suc b) = ap (λ c. p (k + m) && c) (ap (λ n. all p (from n b)) (let e : suc (k + m) ≡ k + suc m = omega arith in e) ∙ from-shift p k (suc m) b)

from_parts : (p : ℕ → Bool) (k a b : ℕ) → all p (from k (a + b)) ≡ (all p (from k a) && all p (from (k + a) b))
unfolding all from
from_parts p k zero b = λ i. all p (from (let e : k ≡ k + 0 = omega arith in e i) (let e : 0 + b ≡ b = omega arith in e i))
from_parts p k (suc a) b =
    ap (λ n. all p (from k n)) (let e : suc a + b ≡ suc (a + b) = omega arith in e)
    ∙ ap (λ c. p k && c) (from_parts p (suc k) a b ∙ ap (λ n. all p (from (suc k) a) && all p (from n b)) (let e : suc k + a ≡ k + suc a = omega arith in e))
    ∙ and_assoc (p k) (all p (from (suc k) a)) (all p (from (k + suc a) b))

upto-parts : (p : ℕ → Bool) (a b : ℕ) → all p (upto (a + b)) ≡ (all p (upto a) && all (λ j. p (a + j)) (upto b))
upto-parts p a b = from_parts p 0 a b ∙ ap (λ c. all p (upto a) && c) (ap (λ n. all p (from n b)) (let e : 0 + a ≡ a + 0 = omega arith in e) ∙ from-shift p a 0 b)

module _ (n states transitions : ℕ) (place owner : ℕ → ℕ) where
  abbrev pub owner_key : ℕ → ℕ
  owner_key i = cond (eqb (place i) 3) (states + owner i) (owner i)

  -- every action has a place, and a state's is one of so many
  module _ (known : (i : ℕ) → i < n → (1 ≤ place i) × (place i ≤ 4) × (eqb (place i) 3 ≡ false → owner i < states)) where
    state-times : (j : ℕ) → j < states → count (λ i. (eqb (place i) 1 || eqb (place i) 2 || eqb (place i) 4) && eqb (owner i) j) (upto n) ≡ times j (map owner_key (upto n))
    state-times j h =
        count-alike (λ i. (eqb (place i) 1 || eqb (place i) 2 || eqb (place i) 4) && eqb (owner i) j) (λ i. eqb (owner_key i) j) n (λ i b. at (place i) (owner i) (known i b).0 (known i b).1)
        ∙ sym (count_map owner_key (λ k. eqb k j) (upto n))
      where
        at : (p x : ℕ) → 1 ≤ p → p ≤ 4 → ((eqb p 1 || eqb p 2 || eqb p 4) && eqb x j) ≡ eqb (cond (eqb p 3) (states + x) x) j
        at zero x a b = absurd (omega arith)
        at (suc zero) x a b = refl
        at (suc (suc zero)) x a b = refl
        at (suc (suc (suc zero))) x a b = sym (ne_eqb (states + x) j (λ e. omega arith))
        at (suc (suc (suc (suc zero)))) x a b = refl
        at (suc (suc (suc (suc (suc m))))) x a b = absurd (omega arith)

    transition-times : (j : ℕ) → count (λ i. eqb (place i) 3 && eqb (owner i) j) (upto n) ≡ times (states + j) (map owner_key (upto n))
    transition-times j =
        count-alike (λ i. eqb (place i) 3 && eqb (owner i) j) (λ i. eqb (owner_key i) (states + j)) n (λ i b. at (place i) (owner i) (known i b).0 (known i b).1 (known i b).2)
        ∙ sym (count_map owner_key (λ k. eqb k (states + j)) (upto n))
      where
        same : (x : ℕ) (b : Bool) → eqb x j ≡ b → b ≡ eqb (states + x) (states + j)
        same x true e = let q : x ≡ j = eqb-true x j e in sym (eq-eqb (states + x) (states + j) (omega arith))
        same x false e = sym (ne_eqb (states + x) (states + j) (λ q. eqb-false x j e (omega arith)))

        other : (x : ℕ) → x < states → false ≡ eqb x (states + j)
        other x l = sym (ne_eqb x (states + j) (λ e. omega arith))

        at : (p x : ℕ) → 1 ≤ p → p ≤ 4 → (eqb p 3 ≡ false → x < states) → (eqb p 3 && eqb x j) ≡ eqb (cond (eqb p 3) (states + x) x) (states + j)
        at zero x a b f = absurd (omega arith)
        at (suc zero) x a b f = other x (f refl)
        at (suc (suc zero)) x a b f = other x (f refl)
        at (suc (suc (suc zero))) x a b f = same x (eqb x j) refl
        at (suc (suc (suc (suc zero)))) x a b f = other x (f refl)
        at (suc (suc (suc (suc (suc m))))) x a b f = absurd (omega arith)

    pub owners-within :
        (all (λ j. leb (count (λ i. (eqb (place i) 1 || eqb (place i) 2 || eqb (place i) 4) && eqb (owner i) j) (upto n)) 8) (upto states)
        && all (λ j. leb (count (λ i. eqb (place i) 3 && eqb (owner i) j) (upto n)) 8) (upto transitions))
        ≡ none_above 8 (replicate (states + transitions) 0) (map owner_key (upto n))
    owners-within =
        (λ i. all_alike (λ j. leb (count (λ i. (eqb (place i) 1 || eqb (place i) 2 || eqb (place i) 4) && eqb (owner i) j) (upto n)) 8) (λ j. leb (times j (map owner_key (upto n))) 8) states (λ j h. ap (λ m. leb m 8) (state-times j h)) i
        && all (λ j. leb (transition-times j i) 8) (upto transitions))
        ∙ sym (upto-parts (λ j. leb (times j (map owner_key (upto n))) 8) states transitions)
        ∙ sym (within-is 8 (omega arith) (states + transitions) (map owner_key (upto n)))
