-- What a call of the reader wrote, handed to the writer: it is taken, and the line is that of the tree that was read. Assumes nothing.
use mathlib.Core.Path.{◌≡◌, refl, sym, ap, ◌∙◌}
use mathlib.Core.Bool.{Bool, true, false, not, ◌&&◌}
use mathlib.Core.Option.{none}
use mathlib.Core.List.{List, [], ◌++◌, append-nil}
use Prim.Native.Nat.{ℕ, ◌-◌, ◌*◌, ◌/◌}
use native.Mathlib.Omega.{arith}
use lib.Dec.{ltb}
use lib.ListN.{length, take, drop}
use lib.Seq.{take_at}
use Rattle.prelude.proofs.Counts.{and-true}
use Rattle.records.specs.Refusal.{wrong_sort, short_space, Out, val, fault, ◌>>=◌, ◌>>◌, fault_if, unless_refused}
use Rattle.model.specs.Outcome.{settled}
use Rattle.expressions.specs.Nodes.{node_at}
use Rattle.guards.specs.Trees.{Tree, is_truth, fits, node_count, nodes_from, records_of}
use Rattle.guards.specs.Grammar.{line_tree}
use Rattle.guards.specs.Texts.{text_of}
use Rattle.guards.specs.Lists.{list_refusal, tree_of}
use Rattle.guards.specs.Calls.{written, read_guard, written_line, write_guard}
use Rattle.guards.proofs.NodeRecords.{records_of-length}
use Rattle.guards.proofs.Numbering.{nodes_from-length}
use Rattle.guards.proofs.ReadLists.{list_refusal-read, tree_of-read}
use Rattle.guards.proofs.ReadTrees.{line_tree-writable}

-- ---- what an answer of the reader says

-- the tree of the line, of the right sorts, and its records in front of what was lent
pub record WasRead (text lent : List ℕ) (n : ℕ) (t : Tree) : Type 0 where
  pub line : line_tree text ≡ val t
  pub fit : fits t ≡ true
  pub truth : is_truth t ≡ true
  pub size : node_count t ≡ n
  pub lent_then : (read_guard text lent).lent ≡ records_of (nodes_from 0 t) ++ drop (length (records_of (nodes_from 0 t))) lent

-- what the reader does with a tree, given its tests
abbrev guard_by : List ℕ → Tree → Bool → Bool → Out (ℕ × List ℕ)
guard_by lent t sorts narrow = do
  fault_if (not sorts) wrong_sort
  fault_if narrow short_space
  val (written (node_count t) (records_of (nodes_from 0 t)) lent)

abbrev guard_of : List ℕ → Tree → Out (ℕ × List ℕ)
guard_of lent t = guard_by lent t (fits t && is_truth t) (ltb (length lent / 16) (node_count t))

guard_by-answer : (lent : List ℕ) (t : Tree) (n : ℕ) (a b : Bool) → (settled lent (guard_by lent t a b)).answer ≡ val n → (a ≡ true) × (b ≡ false) × (node_count t ≡ n)
guard_by-answer lent t n true true h = let z : ◌≡◌ {A = ℕ} 0 1 = cc in absurd (omega arith)
guard_by-answer lent t n true false h = (refl, refl, cc)
guard_by-answer lent t n false b h = let z : ◌≡◌ {A = ℕ} 0 1 = cc in absurd (omega arith)

pub read_guard-answer : (text lent : List ℕ) (n : ℕ) → (read_guard text lent).answer ≡ val n → (t : Tree) × WasRead text lent n t
read_guard-answer text lent n e = go (line_tree text) refl e
  where
    go : (o : Out Tree) → line_tree text ≡ o → (settled lent (o >>= guard_of lent)).answer ≡ val n → (t : Tree) × WasRead text lent n t
    go (val t) e h =
        let x = guard_by-answer lent t n (fits t && is_truth t) (ltb (length lent / 16) (node_count t)) h in
        let y = and-true (fits t) (is_truth t) x.0 in (
          t,
          record {
            line = e;
            fit = y.0;
            truth = y.1;
            size = x.2;
            lent_then = ap (λ o. (settled lent (o >>= guard_of lent)).lent) e ∙ (λ i. (settled lent (guard_by lent t (x.0 i) (x.1 i))).lent);
          },
        )
    go (fault w) e h = let z : ◌≡◌ {A = ℕ} 0 1 = cc in absurd (omega arith)

-- ---- handed to the writer

-- the nodes that the reader wrote, without what lies beyond
abbrev pub nodes_read : List ℕ → List ℕ → ℕ → List ℕ
nodes_read text lent n = take (16 * n) (read_guard text lent).lent

module _ (text lent : List ℕ) (n : ℕ) (t : Tree) (was : WasRead text lent n t) where
  records-size : length (records_of (nodes_from 0 t)) ≡ 16 * n
  records-size = records_of-length (nodes_from 0 t) ∙ ap (λ k. 16 * k) (nodes_from-length 0 t ∙ was.size)

  -- with nothing behind them
  records-read : nodes_read text lent n ≡ records_of (nodes_from 0 t) ++ []
  records-read =
      ap (take (16 * n)) was.lent_then
      ∙ take_at (records_of (nodes_from 0 t)) (drop (length (records_of (nodes_from 0 t))) lent) (16 * n) records-size
      ∙ sym (append-nil (records_of (nodes_from 0 t)))

  nodes-read : length (nodes_read text lent n) / 16 ≡ node_count t
  nodes-read =
      let a : length (nodes_read text lent n) ≡ 16 * n = ap length (records-read ∙ append-nil (records_of (nodes_from 0 t))) ∙ records-size in
      let b = was.size in
      omega arith

  pub list_refusal-reread : list_refusal (node_at (nodes_read text lent n)) (length (nodes_read text lent n) / 16) ≡ none
  list_refusal-reread =
      let h = line_tree-writable text t was.line in
      let few = h.1 in
      (λ i. list_refusal (node_at (records-read i)) (nodes-read i)) ∙ list_refusal-read t h.0 (omega arith) [] was.fit was.truth

  pub written_line-reread : written_line (nodes_read text lent n) ≡ text_of t
  written_line-reread =
      let h = line_tree-writable text t was.line in
      let few = h.1 in
      ap text_of ((λ i. tree_of (node_at (records-read i)) (nodes-read i - 1)) ∙ tree_of-read t h.0 (omega arith) [])

  -- "too little space for .. text is 24" is the only refusal left
  pub write_guard-reread : (out : List ℕ) →
      write_guard (nodes_read text lent n) out ≡ settled out (fault_if (ltb (length out) (length (text_of t))) short_space >> val (written (length (text_of t)) (text_of t) out))
  write_guard-reread out =
      λ i. settled out (
      unless_refused (list_refusal-reread i) (
      fault_if (ltb (length out) (length (written_line-reread i))) short_space >> val (written (length (written_line-reread i)) (written_line-reread i) out)))

-- all of it, of an answer
pub read_guard-reread : (text lent : List ℕ) (n : ℕ) → (read_guard text lent).answer ≡ val n →
    let nodes = nodes_read text lent n in
    (t : Tree) × (line_tree text ≡ val t) × (list_refusal (node_at nodes) (length nodes / 16) ≡ none) × (written_line nodes ≡ text_of t)
read_guard-reread text lent n e =
    let r = read_guard-answer text lent n e in
    let t = r.0 in
    let was = r.1 in
    (t, was.line, list_refusal-reread text lent n t was, written_line-reread text lent n t was)
