-- Trees that were read one behind the other, put together by the node that is written behind them. Assumes nothing.
use mathlib.Core.Path.{◌≡◌, refl, sym, ap, ◌∙◌, subst}
use mathlib.Core.Bool.{true, false, ◌&&◌}
use mathlib.Core.List.{List, [], ◌∷◌, ◌++◌}
use Prim.Native.Nat.{ℕ, ◌+◌, ◌-◌, ◌*◌, ◌≤◌, ◌<◌}
use native.Mathlib.Omega.{arith}
use lib.Dec.{leb}
use lib.ListN.{length}
use lib.Seq.{sets, length-sets}
use Rattle.prelude.proofs.Lists.{gather_append}
use Rattle.prelude.proofs.Gathered.{gather-one}
use Rattle.records.specs.Wrote.{Wrote}
use Rattle.records.proofs.Wrote.{wrote_then}
use Rattle.arithmetic.specs.Operators.{Arithmetic, sum, difference, product, quotient, remainder, Comparison, equal, less, at_most}
use Rattle.expressions.specs.Nodes as N
use Rattle.expressions.specs.Nodes.{Node}
use Rattle.guards.specs.Trees.{Binary, arithmetic, comparison, both, either, Tree, negation, binary, choice, gives_truth, takes_truths, fits, pair_fits, node_count, nodes_from, binary_node, node_record, records_of}
use Rattle.guards.proofs.NodeRecords.{records_of-length}
use Rattle.guards.proofs.Numbering.{node_count-some, nodes_from-length}
use Rattle.guard_reader.specs.Places.{binary_code}
use Rattle.guard_reader.specs.Parts.{node_bits, PartIs, NegationIs, JoinIs, ChoiceIs, HasTree}
use Rattle.guard_reader.specs.declared.trees.Part.{Part}

-- ---- what was written with a tree, and with the node behind it

module _ {text : List ℕ} {at size : ℕ} {before after : List ℕ} {t : Tree} {p : Part} (h : HasTree text at size before after t p) where
  pub tree-wrote : Wrote before (16 * size) (records_of (nodes_from size t)) after (16 * p.size)
  tree-wrote = record {
    behind =
        let c : p.size ≡ size + node_count t = h.counted in
        let l : length (records_of (nodes_from size t)) ≡ 16 * node_count t = records_of-length (nodes_from size t) ∙ ap (λ k. 16 * k) (nodes_from-length size t) in
        omega arith;
    written = h.written;
  }

  pub tree-length : length after ≡ length before
  tree-length = ap length h.written ∙ length-sets before (16 * size) (records_of (nodes_from size t))

  pub tree-positive : size < p.size
  tree-positive = let c : p.size ≡ size + node_count t = h.counted in let n : 1 ≤ node_count t = node_count-some t in omega arith

  pub tree-few : length text ≤ 256 → size ≤ at → p.size ≤ 256
  tree-few s e = let f : p.size + at ≤ p.next + size = h.few in let i : p.next ≤ length text = h.inside in omega arith

  -- what is told of it goes into one number
  pub tree-packs : length text ≤ 256 → size ≤ at → (0 < p.next) × (p.next ≤ 256) × (p.size ≤ 256)
  tree-packs s e = let o : at < p.next = h.onward in let i : p.next ≤ length text = h.inside in (omega arith, omega arith, tree-few s e)

one-record : (x : Node) → records_of (x ∷ []) ≡ node_record x
one-record x = gather-one node_record x

module _ {before mid after : List ℕ} {m next : ℕ} {r : Part} (size : ℕ) where
  node-behind : (xs : List Node) (x : Node) (node : List ℕ) → node_record x ≡ 5 ∷ node → Wrote before (16 * size) (records_of xs) mid (16 * m) → PartIs mid m node next after r → after ≡ sets before (16 * size) (records_of (xs ++ (x ∷ [])))
  node-behind xs x node e w h =
      let one : Wrote mid (16 * m) (5 ∷ node) after (16 * m + length (5 ∷ node)) = record { behind = refl; written = h.written } in
      (wrote_then w one).written ∙ ap (λ l. sets before (16 * size) (records_of xs ++ l)) (sym (one-record x ∙ e)) ∙ ap (sets before (16 * size)) (sym (gather_append node_record xs (x ∷ [])))

two-wrote : {l m r : List ℕ} {i j k : ℕ} (xs ys : List Node) → Wrote l i (records_of xs) m j → Wrote m j (records_of ys) r k → Wrote l i (records_of (xs ++ ys)) r k
two-wrote {l} {m} {r} {i} {j} {k} xs ys a b = rw (gather_append node_record xs ys) (wrote_then a b)

-- ---- the operators

module _ {text : List ℕ} {at size : ℕ} {before mid after : List ℕ} {t : Tree} {p r : Part} (from : ℕ) (behind : from < at) (h : HasTree text at size before mid t p) where
  pub negation-tree : NegationIs mid p after r → HasTree text from size before after (negation t) r
  unfolding node_count fits nodes_from
  negation-tree n =
      let c : p.size ≡ size + node_count t = h.counted in
      let i : p.next ≤ length text = h.inside in
      let f : p.size + at ≤ p.next + size = h.few in
      let o : at < p.next = h.onward in
      let e : r.next ≡ p.next = n.part.behind in
      let g : r.size ≡ p.size + 1 = n.part.counted in
      record {
        counted = omega arith;
        fitting = n.fitting ∙ (λ x. h.fitting x && h.truthful x);
        truthful = n.truthful;
        written = node-behind size (nodes_from size t) (N.negation (size + node_count t - 1)) _ (λ x. 5 ∷ node_bits 19 (sym c x - 1) 0 0 0) (tree-wrote h) n.part;
        onward = omega arith;
        inside = omega arith;
        few = omega arith;
      }

-- codes of operators that give a truth, and that take truths
module _ where
  arithmetic-gives : (o : Arithmetic) → leb 16 (binary_code (arithmetic o)) ≡ false
  arithmetic-gives sum = refl
  arithmetic-gives difference = refl
  arithmetic-gives product = refl
  arithmetic-gives quotient = refl
  arithmetic-gives remainder = refl

  arithmetic-takes : (o : Arithmetic) → leb 20 (binary_code (arithmetic o)) ≡ false
  arithmetic-takes sum = refl
  arithmetic-takes difference = refl
  arithmetic-takes product = refl
  arithmetic-takes quotient = refl
  arithmetic-takes remainder = refl

  comparison-gives : (o : Comparison) → leb 16 (binary_code (comparison o)) ≡ true
  comparison-gives equal = refl
  comparison-gives less = refl
  comparison-gives at_most = refl

  comparison-takes : (o : Comparison) → leb 20 (binary_code (comparison o)) ≡ false
  comparison-takes equal = refl
  comparison-takes less = refl
  comparison-takes at_most = refl

  code_gives : (o : Binary) → leb 16 (binary_code o) ≡ gives_truth o
  code_gives (arithmetic o) = arithmetic-gives o
  code_gives (comparison o) = comparison-gives o
  code_gives both = refl
  code_gives either = refl

  code-takes : (o : Binary) → leb 20 (binary_code o) ≡ takes_truths o
  code-takes (arithmetic o) = arithmetic-takes o
  code-takes (comparison o) = comparison-takes o
  code-takes both = refl
  code-takes either = refl

binary-record : (o : Binary) (a b : ℕ) → node_record (binary_node o a b) ≡ 5 ∷ node_bits (binary_code o) a b 0 0
binary-record (arithmetic o) a b = refl
binary-record (comparison o) a b = refl
binary-record both a b = refl
binary-record either a b = refl

module _ {text : List ℕ} {at second size : ℕ} {before mid last : List ℕ} {t u : Tree} {p q : Part} (h : HasTree text at size before mid t p) (g : HasTree text second p.size mid last u q) where
  both-wrote : Wrote before (16 * size) (records_of (nodes_from size t ++ nodes_from (size + node_count t) u)) last (16 * q.size)
  both-wrote = two-wrote (nodes_from size t) (nodes_from (size + node_count t) u) (tree-wrote h) (subst (λ k. Wrote mid (16 * p.size) (records_of (nodes_from k u)) last (16 * q.size)) h.counted (tree-wrote g))

module _ {text : List ℕ} {at second size : ℕ} {before mid last after : List ℕ} {t u : Tree} {p q r : Part} (h : HasTree text at size before mid t p) (g : HasTree text second p.size mid last u q) (behind : p.next < second) where
  pub joined-tree : (o : Binary) → JoinIs last (binary_code o) p q after r → HasTree text at size before after (binary o t u) r
  unfolding node_count fits nodes_from
  joined-tree o j =
      let c : p.size ≡ size + node_count t = h.counted in
      let d : q.size ≡ p.size + node_count u = g.counted in
      let s : q.size ≡ size + node_count t + node_count u = omega arith in
      let f : p.size + at ≤ p.next + size = h.few in
      let k : q.size + second ≤ q.next + p.size = g.few in
      let on : at < p.next = h.onward in
      let on2 : second < q.next = g.onward in
      let i : q.next ≤ length text = g.inside in
      let e : r.next ≡ q.next = j.part.behind in
      let n : r.size ≡ q.size + 1 = j.part.counted in
      record {
        counted = omega arith;
        fitting = j.fitting ∙ (λ x. h.fitting x && g.fitting x && pair_fits (code-takes o x) (h.truthful x) (g.truthful x));
        truthful = j.truthful ∙ code_gives o;
        written =
            node-behind size (nodes_from size t ++ nodes_from (size + node_count t) u) (binary_node o (size + node_count t - 1) (size + node_count t + node_count u - 1)) _ (binary-record o _ _ ∙ (λ x. 5 ∷ node_bits (binary_code o) (sym c x - 1) (sym s x - 1) 0 0)) (both-wrote h g) j.part;
        onward = omega arith;
        inside = omega arith;
        few = omega arith;
      }

module _
    {text : List ℕ}
    {at second third size : ℕ}
    {before mid next last after : List ℕ}
    {t u v : Tree}
    {p q w r : Part}
    (h : HasTree text at size before mid t p)
    (g : HasTree text second p.size mid next u q)
    (l : HasTree text third q.size next last v w)
    (behind : p.next < second)
    (beyond : q.next < third) where
  pub chosen-tree : ChoiceIs last p q w after r → HasTree text at size before after (choice t u v) r
  unfolding node_count fits nodes_from
  chosen-tree j =
      let c : p.size ≡ size + node_count t = h.counted in
      let d : q.size ≡ p.size + node_count u = g.counted in
      let s : q.size ≡ size + node_count t + node_count u = omega arith in
      let y : w.size ≡ q.size + node_count v = l.counted in
      let z : w.size ≡ size + node_count t + node_count u + node_count v = omega arith in
      let f : p.size + at ≤ p.next + size = h.few in
      let k : q.size + second ≤ q.next + p.size = g.few in
      let m : w.size + third ≤ w.next + q.size = l.few in
      let on : at < p.next = h.onward in
      let on2 : second < q.next = g.onward in
      let on3 : third < w.next = l.onward in
      let i : w.next ≤ length text = l.inside in
      let e : r.next ≡ w.next = j.part.behind in
      let n : r.size ≡ w.size + 1 = j.part.counted in
      let two = nodes_from size t ++ nodes_from (size + node_count t) u in
      record {
        counted = omega arith;
        fitting = j.fitting ∙ (λ x. h.fitting x && g.fitting x && l.fitting x && h.truthful x && pair_fits false (g.truthful x) (l.truthful x));
        truthful = j.truthful;
        written =
            node-behind size (two ++ nodes_from (size + node_count t + node_count u) v) (N.choice (size + node_count t - 1) (size + node_count t + node_count u - 1) (size + node_count t + node_count u + node_count v - 1)) _ (λ x. 5 ∷ node_bits 8 (sym c x - 1) (sym s x - 1) (sym z x - 1) 0) (two-wrote two (nodes_from (size + node_count t + node_count u) v) (both-wrote h g) (subst (λ k. Wrote next (16 * q.size) (records_of (nodes_from k v)) last (16 * w.size)) s (tree-wrote l))) j.part;
        onward = omega arith;
        inside = omega arith;
        few = omega arith;
      }
