-- Tests: what a passed test says, and equal tests. Assumes nothing.
use mathlib.Core.Path.{◌≡◌, refl, sym, subst}
use mathlib.Core.Bool.{Bool, true, false, not, ◌&&◌, ◌||◌}
use Prim.Native.Nat.{ℕ}
use lib.Dec.{T, eqb, eqb→eq, eqb_refl}

pub and_left : (a b : Bool) → T (a && b) → T a
and_left true b t = tt
and_left false b t = t

pub and_right : (a b : Bool) → T (a && b) → T b
and_right true b t = t
and_right false b t = absurd t

pub or_right : (a b : Bool) → T (a || b) → a ≡ false → T b
or_right true b t e = absurd (subst T e tt)
or_right false b t e = t

pub to-right : (a b : Bool) → T b → T (a || b)
to-right true b t = tt
to-right false b t = t

pub to-left : (a b : Bool) → T a → T (a || b)
to-left true b t = tt
to-left false b t = absurd t

pub is_true : {b : Bool} → T b → b ≡ true
is_true {b = true} t = refl
is_true {b = false} t = absurd t

pub is_false : {b : Bool} → T (not b) → b ≡ false
is_false {b = true} t = absurd t
is_false {b = false} t = refl

pub of-true : {b : Bool} → b ≡ true → T b
of-true e = subst T (sym e) tt

-- a test of the opposite outcomes
pub clash : {X : Type 0} {b : Bool} → T b → b ≡ false → X
clash t e = absurd (subst T e t)

pub not-of : (b : Bool) → (T b → ⊥) → T (not b)
not-of true f = f tt
not-of false f = tt

pub both_of : (a b : Bool) → T a → T b → T (a && b)
both_of true b s t = t
both_of false b s t = absurd s

pub not-not : (b : Bool) → T (not (not b)) → T b
not-not true t = t
not-not false t = t

pub not-false : {b : Bool} → b ≡ false → T (not b)
not-false e = subst (λ b. T (not b)) (sym e) tt

-- ---- equal numbers

pub eqb_comm : (a b : ℕ) → eqb a b ≡ eqb b a
eqb_comm a b = go (eqb a b) refl (eqb b a) refl
  where
    go : (p : Bool) → eqb a b ≡ p → (q : Bool) → eqb b a ≡ q → p ≡ q
    go true e true d = refl
    go false e false d = refl
    go true e false d = clash (subst (λ n. T (eqb n a)) (eqb→eq a b (of-true e)) (eqb_refl a)) d
    go false e true d = clash (subst (λ n. T (eqb n b)) (eqb→eq b a (of-true d)) (eqb_refl b)) e

pub eq→eqb : {a b : ℕ} → a ≡ b → eqb a b ≡ true
eq→eqb {a} {b} e = is_true (subst (λ n. T (eqb a n)) e (eqb_refl a))

pub ne→eqb : {a b : ℕ} → (a ≡ b → ⊥) → eqb a b ≡ false
ne→eqb {a} {b} f = go (eqb a b) refl
  where
    go : (p : Bool) → eqb a b ≡ p → p ≡ false
    go false q = refl
    go true q = absurd (f (eqb→eq a b (of-true q)))

pub eqb-ne : {a b : ℕ} → eqb a b ≡ false → a ≡ b → ⊥
eqb-ne {a} {b} e d = clash {b = eqb a b} (of-true (eq→eqb d)) e

-- equal tests of the same fact
pub eqb-iff : (a b x y : ℕ) → (a ≡ b → x ≡ y) → (x ≡ y → a ≡ b) → eqb a b ≡ eqb x y
eqb-iff a b x y f g = go (eqb a b) refl
  where
    go : (p : Bool) → eqb a b ≡ p → p ≡ eqb x y
    go true q = sym (eq→eqb (f (eqb→eq a b (of-true q))))
    go false q = sym (ne→eqb (λ e. eqb-ne q (g e)))
