-- Operands that have no operand: a variable or a constant by its first byte, and the tree that its record makes. Assumes nothing.
use mathlib.Core.Path.{◌≡◌, refl, sym, ap, ◌∙◌, subst}
use mathlib.Core.Bool.{true, false}
use mathlib.Core.List.{List, [], ◌∷◌}
use Prim.Native.Nat.{ℕ, ◌+◌, ◌*◌, ◌^◌, ◌≤◌, ◌<◌}
use native.Mathlib.Omega.{arith}
use Rattle.std.proofs.Common.{Option, Some, None}
use borrow.Author.Tests.{ne_eqb}
use lib.IntN.{ℤ}
use lib.ListN.{length, drop}
use lib.Seq.{sets, drop-drop}
use Rattle.prelude.specs.Lists.{case_of, gather}
use Rattle.records.specs.Bytes.{byte, unsigned}
use Rattle.records.specs.Refusal.{Out}
use Rattle.guards.specs.Trees.{Tree, constant, variable, is_truth, fits, node_count, nodes_from, records_of}
use Rattle.guards.specs.Grammar.{Read, outside, numeral, read_variable, read_positive, read_negative}
use Rattle.guard_reader.specs.Places.{ReadNumber, ReadsNumber}
use Rattle.guard_reader.specs.Parts.{node_bits, leaf_at, LeafIs, HasTree}
use Rattle.guard_reader.specs.declared.trees.Part.{Part}
use Rattle.guard_reader.proofs.FromPlace.{byte-first}

-- ---- what a number came to

module _ (text : List ℕ) (at most : ℕ) (r : Option (ℕ × ℕ)) (h : ReadsNumber text (at + 1) most (numeral most (drop at text)) r) where
  pub no_number : r ≡ None → numeral most (drop at text) ≡ outside
  no_number e = subst (ReadsNumber text (at + 1) most (numeral most (drop at text))) e h

  pub a_number : (n next : ℕ) → r ≡ Some (n, next) → ReadNumber text (at + 1) most (numeral most (drop at text)) n next
  a_number n next e = subst (ReadsNumber text (at + 1) most (numeral most (drop at text))) e h

-- ---- by the first byte

abbrev leaf_by : ℕ → List ℕ → Out (Read Tree)
leaf_by b s = case_of b ((118, read_variable (drop 1 s)) ∷ (45, read_negative (drop 1 s)) ∷ []) (read_positive s)

module _ (text : List ℕ) (at : ℕ) where
  by_byte : (b : ℕ) → byte text at ≡ b → leaf_at (drop at text) ≡ leaf_by b (drop at text)
  by_byte b e = ap (λ k. leaf_by k (drop at text)) (byte-first text at ∙ e)

  pub is_variable : byte text at ≡ 118 → leaf_at (drop at text) ≡ read_variable (drop (at + 1) text)
  unfolding case_of
  is_variable e = by_byte 118 e ∙ ap read_variable (drop-drop 1 at text)

  pub is_negative : byte text at ≡ 45 → leaf_at (drop at text) ≡ read_negative (drop (at + 1) text)
  unfolding case_of
  is_negative e = by_byte 45 e ∙ ap read_negative (drop-drop 1 at text)

  pub is_positive : (byte text at ≡ 118 → ⊥) → (byte text at ≡ 45 → ⊥) → leaf_at (drop at text) ≡ read_positive (drop at text)
  unfolding case_of
  is_positive n m = by_byte (byte text at) refl ∙ rw (ne_eqb (byte text at) 118 n, ne_eqb (byte text at) 45 m) refl

-- ---- the tree of one record

module _ {text : List ℕ} {at size : ℕ} {before after : List ℕ} {next : ℕ} {p : Part} (few : size ≤ at) (onward : at < next) (inside : next ≤ length text) where
  leaf-tree : (t : Tree) (node : List ℕ) → node_count t ≡ 1 → fits t ≡ true → is_truth t ≡ false → records_of (nodes_from size t) ≡ 5 ∷ node → LeafIs before size node next after p → HasTree text at size before after t p
  leaf-tree t node one sorted number same h =
      let behind : p.next ≡ next = h.part.behind in
      let counted : p.size ≡ size + 1 = h.part.counted in
      record {
        counted = counted ∙ ap (λ k. size + k) (sym one);
        fitting = h.fitting ∙ sym sorted;
        truthful = h.truthful ∙ sym number;
        written = h.part.written ∙ ap (sets before (16 * size)) (sym same);
        onward = omega arith;
        inside = omega arith;
        few = omega arith;
      }

  pub variable-tree : (v : ℕ) → LeafIs before size (node_bits 2 v 0 0 0) next after p → HasTree text at size before after (variable v) p
  unfolding node_count fits nodes_from gather
  variable-tree v h = leaf-tree (variable v) (node_bits 2 v 0 0 0) refl refl refl refl h

  pub constant-tree : (z : ℤ) (bits : ℕ) → bits ≡ unsigned (2 ^ 31) z → LeafIs before size (node_bits 1 0 0 0 bits) next after p → HasTree text at size before after (constant z) p
  unfolding node_count fits nodes_from gather
  constant-tree z bits e h = leaf-tree (constant z) (node_bits 1 0 0 0 bits) refl refl refl (ap (λ k. 5 ∷ node_bits 1 0 0 0 k) (sym e)) h
