-- Deeds: an assignment's cases, and a raised event's bits. Assumes nothing.
use mathlib.Core.Path.{◌≡◌, sym, ap, ◌∙◌}
use mathlib.Core.Bool.{Bool, true, false, not}
use mathlib.Core.List.{List}
use Prim.Native.Nat.{ℕ, suc, ◌+◌, ◌-◌, ◌*◌, ◌/◌, ◌%◌, ◌^◌, ◌≤◌, ◌<◌}
use native.Mathlib.Nat.{mod-lt, mul-le-mul_right, pow-succ'}
use native.Mathlib.Omega.{arith}
use borrow.Author.Tests.{leb-true, eqb-false}
use lib.IntN.{ℤ, pos, negsuc}
use lib.ListN.{get_or, set}
use lib.Pow.{pow_pos, pow-add, split, shr_lt}
use lib.Signed.{le_z, mag}
use Rattle.records.specs.Refusal.{Refusal, Out, val, fault, out_of_bounds, ◌>>=◌, ◌>>◌, fault_if}
use Rattle.prelude.proofs.Counts.{impossible}
use Rattle.expressions.specs.Nodes.{Node, node_of}
use Rattle.expressions.specs.Values.{number}
use Rattle.model.specs.Runs.{Variable, no_variable, in_bounds, present, World, set_var, assign, deed}
use Rattle.machines.specs.Worlds.{Moment, world_in}

-- ---- numbers within bounds

-- between two numbers of 16 bits, of 16 bits
pub between-bounds : (l z h : ℤ) → mag l < 2 ^ 15 → mag h < 2 ^ 15 → le_z l z ≡ true → le_z z h ≡ true → mag z < 2 ^ 15
between-bounds l (pos n) (pos m) a b e f = let k : n ≤ m = leb-true n m f in omega arith
between-bounds l (pos n) (negsuc m) a b e f = impossible (sym f)
between-bounds (pos m) (negsuc n) h a b e f = impossible (sym e)
between-bounds (negsuc m) (negsuc n) h a b e f = let k : n ≤ m = leb-true n m e in omega arith

-- ---- an assignment

module _ (nodes : List Node) (variables : List Variable) (vars : List ℤ) (events v n : ℕ) where
  abbrev fits : ℤ → Bool
  fits z = in_bounds (get_or variables v no_variable) z

  module _ (m : Moment) where
    abbrev then_set : ℤ → Out World
    then_set z = fault_if (not (fits z)) out_of_bounds >> val (set_var v z (world_in vars events m))

    pub assign-fault : (w : Refusal) → fault w ≡ number (node_of nodes) vars n → fault w ≡ deed nodes variables (assign v n) (world_in vars events m)
    assign-fault w e = ap (λ o. o >>= then_set) e

    assign-by : (z : ℤ) (b : Bool) → val z ≡ number (node_of nodes) vars n → fits z ≡ b →
        (fault_if (not b) out_of_bounds >> val (set_var v z (world_in vars events m))) ≡ deed nodes variables (assign v n) (world_in vars events m)
    assign-by z b e f = ap (λ y. fault_if (not y) out_of_bounds >> val (set_var v z (world_in vars events m))) (sym f) ∙ ap (λ o. o >>= then_set) e

    pub assign-outside : (z : ℤ) → val z ≡ number (node_of nodes) vars n → fits z ≡ false →
        fault out_of_bounds ≡ deed nodes variables (assign v n) (world_in vars events m)
    assign-outside z = assign-by z false

    pub assign-within : (z : ℤ) → val z ≡ number (node_of nodes) vars n → fits z ≡ true →
        val (world_in (set vars v z) events m) ≡ deed nodes variables (assign v n) (world_in vars events m)
    assign-within z = assign-by z true

-- ---- events

-- a bit that is 0 can be added
pub bit-fits : (e mask : ℕ) → e < 32 → mask < 2 ^ 32 → present e mask ≡ false → mask + 2 ^ e < 2 ^ 32
bit-fits e mask h m off =
    let k : ℕ = 31 - e in
    let i : suc k + e ≡ 32 = omega arith in
    let q : mask / 2 ^ e < 2 ^ suc k = shr_lt (suc k) e (rw i m) in
    let d : 2 ^ suc k ≡ 2 * 2 ^ k = pow-succ' 2 k in
    let o : mask / 2 ^ e % 2 ≡ 1 → ⊥ = eqb-false (mask / 2 ^ e % 2) 1 off in
    let u : mask / 2 ^ e + 2 ≤ 2 ^ suc k = omega arith in
    let w : (mask / 2 ^ e + 2) * 2 ^ e ≤ 2 ^ suc k * 2 ^ e = mul-le-mul_right (2 ^ e) u in
    let x : 2 ^ suc k * 2 ^ e ≡ 2 ^ 32 = sym (pow-add 2 (suc k) e) ∙ ap (λ n. 2 ^ n) i in
    let s : mask / 2 ^ e * 2 ^ e + mask % 2 ^ e ≡ mask = split mask e in
    let r : mask % 2 ^ e < 2 ^ e = mod-lt mask (pow_pos e) in
    omega arith
