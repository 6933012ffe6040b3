-- Records of nodes, for examples. A negative constant is given by its code, as 0xffff_ffff for −1. Assumes nothing.
use mathlib.Core.List.{List, ◌∷◌, ◌++◌}
use Prim.Native.Nat.{ℕ}
use Rattle.prelude.specs.Lists.{padded}
use Rattle.records.specs.Bytes.{bytes2, bytes4}

-- a record: the bytes given, then zeros
abbrev pub rec16 : List ℕ → List ℕ
rec16 body = padded 16 0 body

abbrev pub node : (operator a b c constant : ℕ) → List ℕ
node o a b c z = rec16 (5 ∷ o ∷ bytes2 a ++ bytes2 b ++ bytes2 c ++ bytes4 z)

abbrev pub constant : ℕ → List ℕ
constant z = node 1 0 0 0 z

abbrev pub read : (variable : ℕ) → List ℕ
read v = node 2 v 0 0 0

abbrev pub binary : (operator a b : ℕ) → List ℕ
binary o a b = node o a b 0 0
