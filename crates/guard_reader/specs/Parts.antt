-- Of the code: nodes written one behind the other, and trees that were read. Assumes nothing: these are definitions.
use Rattle.std.specs.Prelude.{◌≡◌, Bool, true, false, cond, ◌&&◌, Option, Some, None, List, [], ◌∷◌, ◌++◌, ℕ, ◌+◌, ◌*◌, ◌-◌, ◌/◌, ◌%◌, ◌≤◌, ◌<◌, leb, eqb, length, drop}
use Prim.Native.Char.{code}
use Rattle.std.proofs.lemmas.List.Edits.{sets}
use Rattle.prelude.specs.Lists.{case_of}
use Rattle.records.specs.Bytes.{byte, bytes2, bytes4}
use Rattle.records.specs.Refusal.{Out}
use Rattle.guards.specs.Trees.{Tree, is_truth, fits, pair_fits, node_count, nodes_from, records_of}
use Rattle.guards.specs.Grammar.{Read, read, outside, read_variable, read_negative, read_positive}
use Rattle.guard_reader.specs.declared.trees.Part.{Part}

-- ---- a node written behind those of its operands, and the tree that it makes

-- bytes 1 to 15 of a node's record, a constant given by its bits
abbrev pub node_bits : ℕ → ℕ → ℕ → ℕ → ℕ → List ℕ
node_bits code a b c bits = code ∷ bytes2 a ++ bytes2 b ++ bytes2 c ++ bytes4 bits ++ bytes4 0

-- the record of node `size`, and what is told of its tree
pub record PartIs (before : List ℕ) (size : ℕ) (node : List ℕ) (next : ℕ) (after : List ℕ) (r : Part) : Type 0 where
  pub written : after ≡ sets before (16 * size) (5 ∷ node)
  pub behind : r.next ≡ next
  pub counted : r.size ≡ size + 1

pub record LeafIs (before : List ℕ) (size : ℕ) (node : List ℕ) (next : ℕ) (after : List ℕ) (r : Part) : Type 0 where
  pub part : PartIs before size node next after r
  pub fitting : r.fits ≡ true
  pub truthful : r.truth ≡ false

pub record NegationIs (before : List ℕ) (t : Part) (after : List ℕ) (r : Part) : Type 0 where
  pub part : PartIs before t.size (node_bits 19 (t.size - 1) 0 0 0) t.next after r
  pub fitting : r.fits ≡ (t.fits && t.truth)
  pub truthful : r.truth ≡ true

-- of the codes 16 and above an operator gives a truth, of 20 and above it takes truths
pub record JoinIs (before : List ℕ) (code : ℕ) (a b : Part) (after : List ℕ) (r : Part) : Type 0 where
  pub part : PartIs before b.size (node_bits code (a.size - 1) (b.size - 1) 0 0) b.next after r
  pub fitting : r.fits ≡ (a.fits && b.fits && pair_fits (leb 20 code) a.truth b.truth)
  pub truthful : r.truth ≡ leb 16 code

pub record ChoiceIs (before : List ℕ) (t a b : Part) (after : List ℕ) (r : Part) : Type 0 where
  pub part : PartIs before b.size (node_bits 8 (t.size - 1) (a.size - 1) (b.size - 1) 0) b.next after r
  pub fitting : r.fits ≡ (t.fits && a.fits && b.fits && t.truth && pair_fits false a.truth b.truth)
  pub truthful : r.truth ≡ false

-- ---- reading

-- the grammar's operands that have no operand themselves
abbrev pub leaf_at : List ℕ → Out (Read Tree)
leaf_at s = case_of (byte s 0) ((code "v", read_variable (drop 1 s)) ∷ (code "-", read_negative (drop 1 s)) ∷ []) (read_positive s)

-- where a tree may begin: no more nodes are written than bytes are read
pub record Placed (text : List ℕ) (at size : ℕ) : Type 0 where
  pub inside : at ≤ length text
  pub short : length text ≤ 256
  pub few : size ≤ at

-- a tree that was read from `at` on, its nodes written from node `size` on
pub record HasTree (text : List ℕ) (at size : ℕ) (before after : List ℕ) (t : Tree) (p : Part) : Type 0 where
  pub counted : p.size ≡ size + node_count t
  pub fitting : p.fits ≡ fits t
  pub truthful : p.truth ≡ is_truth t
  pub written : after ≡ sets before (16 * size) (records_of (nodes_from size t))
  pub onward : at < p.next
  pub inside : p.next ≤ length text
  pub few : p.size + at ≤ p.next + size

-- A rule of the grammar at every depth from `least` on: it gives the tree, or it refuses.
pub record ReadTree (text : List ℕ) (at size : ℕ) (before after : List ℕ) (least : ℕ) (rule : ℕ → Out (Read Tree)) (p : Part) : Type 0 where
  pub tree : Tree
  pub same : (d : ℕ) → least ≤ d → rule d ≡ read tree (drop p.next text)
  pub has : HasTree text at size before after tree p

abbrev pub ReadsAs : List ℕ → ℕ → ℕ → List ℕ → List ℕ → ℕ → (ℕ → Out (Read Tree)) → Option Part → Type 0
ReadsAs text at size before after least rule (Some p) = ReadTree text at size before after least rule p
ReadsAs text at size before after least rule None = (d : ℕ) → least ≤ d → rule d ≡ outside

-- what a rule came to, from the one number that it answers
abbrev pub flag : Bool → ℕ
flag b = cond b 1 0

unfoldable pub parsed_of : ℕ → Option Part
parsed_of r = cond (eqb r 0) None (Some (record { next = r % 512; size = r / 512 % 512; fits = eqb (r / 262144 % 2) 1; truth = eqb (r / 524288 % 2) 1 }))

abbrev pub Reads : List ℕ → ℕ → ℕ → List ℕ → List ℕ → ℕ → (ℕ → Out (Read Tree)) → ℕ → Type 0
Reads text at size before after least rule r = ReadsAs text at size before after least rule (parsed_of r)

-- depths that are enough for a rule with so many bytes to go
abbrev pub operand_depth : ℕ → ℕ
operand_depth n = 3 * n + 1

abbrev pub binary_depth : ℕ → ℕ
binary_depth n = 3 * n + 2

abbrev pub choice_depth : ℕ → ℕ
choice_depth n = 3 * n + 3
