-- A whole line: its length, its tree and what stands behind it; and its nodes in a lent buffer. Assumes nothing.
use mathlib.Core.Path.{◌≡◌, refl, sym, ap, ◌∙◌}
use mathlib.Core.Bool.{Bool, true, false, not, ◌&&◌, ◌||◌}
use mathlib.Core.List.{List, ◌++◌}
use Prim.Native.Nat.{ℕ, ◌+◌, ◌-◌, ◌*◌, ◌/◌, ◌≤◌, ◌<◌}
use native.Mathlib.Omega.{arith}
use borrow.Author.Tests.{lt-ltb, le-ltb, ltb-false}
use lib.Dec.{ltb, eqb}
use lib.ListN.{length, take, drop, length-drop}
use lib.Seq.{sets-eq, take_at}
use Rattle.records.specs.Refusal.{broken_line, wrong_sort, short_space, Out, val, fault, ◌>>=◌, ◌>>◌, fault_if}
use Rattle.model.specs.Outcome.{settled}
use Rattle.guards.specs.Trees.{Tree, is_truth, fits, node_count, nodes_from, records_of}
use Rattle.guards.specs.Grammar.{Read, read, outside, unspaced, choice_at, line_tree}
use Rattle.guards.specs.Calls.{read_guard, written}
use Rattle.guards.proofs.NodeRecords.{records_of-length}
use Rattle.guards.proofs.Numbering.{nodes_from-length}
use Rattle.guard_reader.specs.Places.{Skipped}
use Rattle.guard_reader.specs.Parts.{ReadTree, choice_depth}
use Rattle.guard_reader.specs.Answer.{HasLine}
use Rattle.guard_reader.specs.declared.trees.Part.{Part}

second-false : (a b : Bool) → (a || b) ≡ false → b ≡ false
second-false true b e = absurd (let z : ◌≡◌ {A = ℕ} 0 1 = cc in omega arith)
second-false false b e = e

-- ---- the tree of a line

abbrev line_by : Bool → Out (Read Tree) → Out Tree
line_by wrong m = fault_if wrong broken_line >> (m >>= λ t. fault_if (ltb 0 (length (unspaced t.rest))) broken_line >> val t.got)

module _ (text : List ℕ) where
  abbrev wrong_length : Bool
  wrong_length = eqb (length text) 0 || ltb 256 (length text)

  pub line-length : wrong_length ≡ true → line_tree text ≡ outside
  line-length e = ap (λ w. line_by w (choice_at (3 * length text + 3) text)) e

  module _ (right : wrong_length ≡ false) where
    pub line-few : length text ≤ 256
    line-few = ltb-false 256 (length text) (second-false (eqb (length text) 0) (ltb 256 (length text)) right)

    line-by : (m : Out (Read Tree)) → choice_at (3 * length text + 3) text ≡ m → line_tree text ≡ line_by false m
    line-by m e = λ i. line_by (right i) (e i)

    pub line-outside : ((d : ℕ) → choice_depth (length text - 0) ≤ d → choice_at d (drop 0 text) ≡ outside) → line_tree text ≡ outside
    line-outside f = line-by outside (f (3 * length text + 3) (omega arith))

    module _ {before after : List ℕ} {p : Part} (r : ReadTree text 0 0 before after (choice_depth (length text - 0)) (λ d. choice_at d (drop 0 text)) p) {i : ℕ} (s : Skipped text p.next i) where
      behind : length (unspaced (drop p.next text)) ≡ length text - i
      behind = ap length (sym s.skips) ∙ length-drop i text

      line_read : line_tree text ≡ (fault_if (ltb 0 (length text - i)) broken_line >> val r.tree)
      line_read = line-by (read r.tree (drop p.next text)) (r.same (3 * length text + 3) (omega arith)) ∙ ap (λ n. fault_if (ltb 0 n) broken_line >> val r.tree) behind

      pub line-behind : i < length text → line_tree text ≡ outside
      line-behind l = line_read ∙ rw (lt-ltb 0 (length text - i) (omega arith)) refl

      pub line-whole : length text ≤ i → HasLine text before after p
      line-whole l =
          let few = line-few in
          let c : p.size ≡ 0 + node_count r.tree = r.has.counted in
          let n : p.next ≤ length text = r.has.inside in
          let f : p.size + 0 ≤ p.next + 0 = r.has.few in
          record {
            tree = r.tree;
            same = line_read ∙ rw (le-ltb 0 (length text - i) (omega arith)) refl;
            counted = omega arith;
            fitting = r.has.fitting;
            truthful = r.has.truthful;
            written = r.has.written;
            few = omega arith;
            short = few;
          }

-- ---- what is lent

pub guard-outside : (text lent : List ℕ) → line_tree text ≡ outside → read_guard text lent ≡ record { answer = fault broken_line; lent = lent }
guard-outside text lent e = ap (λ o. settled lent (o >>= λ t. fault_if (not (fits t && is_truth t)) wrong_sort >> (fault_if (ltb (length lent / 16) (node_count t)) short_space >> val (written (node_count t) (records_of (nodes_from 0 t)) lent)))) e

module _ {text before own : List ℕ} {p : Part} (h : HasLine text before own p) (lent : List ℕ) where
  abbrev verdict : Bool → Bool → Out (ℕ × List ℕ)
  verdict fitting room = do
    fault_if (not fitting) wrong_sort
    fault_if room short_space
    val (written (node_count h.tree) (records_of (nodes_from 0 h.tree)) lent)

  guard-by : (fitting room : Bool) → (fits h.tree && is_truth h.tree) ≡ fitting → ltb (length lent / 16) (node_count h.tree) ≡ room → read_guard text lent ≡ settled lent (verdict fitting room)
  guard-by fitting room e f = ap (λ o. settled lent (o >>= λ t. fault_if (not (fits t && is_truth t)) wrong_sort >> (fault_if (ltb (length lent / 16) (node_count t)) short_space >> val (written (node_count t) (records_of (nodes_from 0 t)) lent)))) h.same ∙ (λ i. settled lent (verdict (e i) (f i)))

  sorts : (fits h.tree && is_truth h.tree) ≡ (p.fits && p.truth)
  sorts i = sym h.fitting i && sym h.truthful i

  pub guard-sort : (p.fits && p.truth) ≡ false → read_guard text lent ≡ record { answer = fault wrong_sort; lent = lent }
  guard-sort e = guard-by false _ (sorts ∙ e) refl

  pub guard-short : (p.fits && p.truth) ≡ true → length lent / 16 < p.size → read_guard text lent ≡ record { answer = fault short_space; lent = lent }
  guard-short e l = let c : p.size ≡ node_count h.tree = h.counted in guard-by true true (sorts ∙ e) (lt-ltb (length lent / 16) (node_count h.tree) (omega arith))

  length-nodes : length (records_of (nodes_from 0 h.tree)) ≡ 16 * p.size
  length-nodes = records_of-length (nodes_from 0 h.tree) ∙ ap (λ k. 16 * k) (nodes_from-length 0 h.tree ∙ sym h.counted)

  pub own-nodes : 16 * length text ≤ length before → take (16 * p.size) own ≡ records_of (nodes_from 0 h.tree)
  own-nodes l =
      let n : length (records_of (nodes_from 0 h.tree)) ≡ 16 * p.size = length-nodes in
      let f : p.size ≤ length text = h.few in
      ap (take (16 * p.size)) (h.written ∙ sets-eq (records_of (nodes_from 0 h.tree)) before 0 (omega arith)) ∙ take_at (records_of (nodes_from 0 h.tree)) _ (16 * p.size) n

  pub guard-nodes : 16 * length text ≤ length before → (p.fits && p.truth) ≡ true → p.size ≤ length lent / 16 → record { answer = val p.size; lent = take (16 * p.size) own ++ drop (16 * p.size) lent } ≡ read_guard text lent
  guard-nodes b e l =
      let c : p.size ≡ node_count h.tree = h.counted in
      (λ i. record { answer = val (c i); lent = own-nodes b i ++ drop (sym length-nodes i) lent })
      ∙ sym (guard-by true false (sorts ∙ e) (le-ltb (length lent / 16) (node_count h.tree) (omega arith)))
