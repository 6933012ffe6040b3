-- Ages and clocks: a clock that stands where an age says holds where the trigger does, and goes on to where the next age says. Assumes nothing.
use mathlib.Core.Path.{◌≡◌, refl, ap, ◌∙◌}
use mathlib.Core.Bool.{Bool, true, false, cond}
use Prim.Native.Nat.{ℕ, zero, suc, ◌+◌, ◌-◌, ◌%◌, ◌≤◌, ◌<◌, min}
use native.Mathlib.Nat.{suc-mod, mod-lt, mod_self, mod-eq_of_lt, zero-mod}
use native.Mathlib.Omega.{arith}
use borrow.Author.Tests.{leb-true, leb-false, eq-eqb, ne_eqb}
use lib.Dec.{leb, ltb, eqb, eqb→eq, lt→ltb}
use Rattle.model.specs.Charts.{after_holds, every_holds}
use Rattle.model.specs.AutomataTable.{Timing, after, every}
use Rattle.model.specs.Automata.{top, grown}
use Rattle.model.specs.Correspondence.{clock_for}
use Rattle.prelude.proofs.Bools.{is_true, of-true, ne→eqb, eqb-ne, eqb-iff}

-- what stands for a timing trigger in a chart
abbrev pub timing_holds : Timing → ℕ → ℕ → Bool
timing_holds after d age = after_holds d age
timing_holds every d age = every_holds d age

-- ---- after

after_holds_lem : (d age : ℕ) → eqb (clock_for after d age) d ≡ after_holds d age
after_holds_lem d age = go (leb d age) refl
  where
    go : (p : Bool) → leb d age ≡ p → eqb (min age d) d ≡ p
    go true q = eq-eqb (min age d) d (omega (arith, leb-true d age q))
    go false q = ne_eqb (min age d) d (λ e. omega (arith, leb-false d age q))

after-grown : (d age : ℕ) → grown after d (clock_for after d age) ≡ clock_for after d (age + 1)
after-grown d age = omega arith

-- ---- every

next-mod : (a d : ℕ) → 0 < d → ((suc (a % d) ≡ d) → suc a % d ≡ 0) × ((suc (a % d) ≡ d → ⊥) → suc a % d ≡ suc (a % d))
next-mod a d h = (
  (λ e. suc-mod a d ∙ ap (λ n. n % d) e ∙ mod_self d),
  (λ f. let l : a % d < d = mod-lt a h in let k : suc (a % d) < d = ne l f in suc-mod a d ∙ mod-eq_of_lt k),
)
  where
    ne : a % d < d → (suc (a % d) ≡ d → ⊥) → suc (a % d) < d
    ne l f = omega arith

every_holds_lem : (d age : ℕ) → 0 < d → eqb (clock_for every d age) d ≡ every_holds d age
every_holds_lem d zero h = ne→eqb {a = 0} {b = d} (λ e. omega arith)
every_holds_lem d (suc a) h =
    rw (ne→eqb {a = suc a} {b = 0} (λ e. omega arith), is_true {b = ltb 0 (suc a)} (lt→ltb 0 (suc a) (omega arith)), pred-suc)
    (eqb-iff (a % d + 1) d (suc a % d) 0 (λ e. (next-mod a d h).0 (omega arith)) (λ e. go e (eqb (suc (a % d)) d) refl))
  where
    pred-suc : suc a - 1 ≡ a
    pred-suc = omega arith

    go : suc a % d ≡ 0 → (p : Bool) → eqb (suc (a % d)) d ≡ p → a % d + 1 ≡ d
    go e true q = let z : suc (a % d) ≡ d = eqb→eq (suc (a % d)) d (of-true q) in omega arith
    go e false q = let z : suc a % d ≡ suc (a % d) = (next-mod a d h).1 (eqb-ne q) in absurd (omega arith)

every-grown : (d age : ℕ) → 0 < d → grown every d (clock_for every d age) ≡ clock_for every d (age + 1)
every-grown d zero h = rw (ne→eqb {a = 0} {b = d} (λ e. omega arith)) (go)
  where
    go : 0 + 1 ≡ clock_for every d (0 + 1)
    go = rw zero-mod
every-grown d (suc a) h =
    rw (ne→eqb {a = suc a} {b = 0} (λ e. omega arith), ne→eqb {a = suc a + 1} {b = 0} (λ e. omega arith), pred-suc, pred-add)
    (go (eqb (a % d + 1) d) refl)
  where
    pred-suc : suc a - 1 ≡ a
    pred-suc = omega arith

    pred-add : suc a + 1 - 1 ≡ suc a
    pred-add = omega arith

    go : (p : Bool) → eqb (a % d + 1) d ≡ p → cond p 1 (a % d + 1 + 1) ≡ suc a % d + 1
    go true q =
        let z : a % d + 1 ≡ d = eqb→eq (a % d + 1) d (of-true q) in
        let y : suc a % d ≡ 0 = (next-mod a d h).0 (omega arith) in
        omega arith
    go false q =
        let y : suc a % d ≡ suc (a % d) = (next-mod a d h).1 (λ e. eqb-ne {a = a % d + 1} {b = d} q (omega arith)) in
        omega arith

-- ---- both

pub clock_for-holds : (k : Timing) (d age : ℕ) → 0 < d → eqb (clock_for k d age) d ≡ timing_holds k d age
clock_for-holds after d age h = after_holds_lem d age
clock_for-holds every d age h = every_holds_lem d age h

pub clock_for-grown : (k : Timing) (d age : ℕ) → 0 < d → grown k d (clock_for k d age) ≡ clock_for k d (age + 1)
clock_for-grown after d age h = after-grown d age
clock_for-grown every d age h = every-grown d age h

pub clock_for-fresh : (k : Timing) (d : ℕ) → clock_for k d 0 ≡ 0
clock_for-fresh after d = omega arith
clock_for-fresh every d = refl

-- a clock within its top stays so
pub grown-top : (k : Timing) (d x : ℕ) → 0 < d → x ≤ top k d → grown k d x ≤ top k d
grown-top after d x h l = omega arith
grown-top every d x h l = go (eqb x d) refl
  where
    go : (p : Bool) → eqb x d ≡ p → cond p 1 (x + 1) ≤ d
    go true q = omega arith
    go false q = let n : x ≡ d → ⊥ = eqb-ne q in omega arith
