-- The reader's numbering: how many nodes a tree has, that records can hold them, and where they stand in a list of nodes that has them. Assumes nothing.
use mathlib.Core.Path.{◌≡◌, refl, sym, ap, ◌∙◌, subst}
use mathlib.Core.Bool.{true, ◌&&◌}
use mathlib.Core.List.{List, [], ◌∷◌, ◌++◌}
use Prim.Native.Nat.{ℕ, ◌+◌, ◌-◌, ◌^◌, ◌≤◌, ◌<◌}
use native.Mathlib.Nat.{add-zero, add_assoc}
use native.Mathlib.Omega.{arith}
use borrow.Author.Tests.{ltb-true, leb-true}
use lib.ListN.{length, length-append, get_or-append}
use lib.Signed.{mag}
use Rattle.prelude.proofs.Counts.{and-true}
use Rattle.prelude.proofs.Lists.{get_or-append-at}
use Rattle.expressions.specs.Nodes as N
use Rattle.expressions.specs.Nodes.{Node, node_of}
use Rattle.guards.specs.Trees.{Binary, arithmetic, comparison, both, either, Tree, constant, variable, negation, binary, choice, node_count, binary_node, nodes_from, is_writable}
use Rattle.guards.proofs.NodeRecords.{Recordable, AllRecordable, recordable-append}

pub node_count-some : (t : Tree) → 1 ≤ node_count t
unfolding node_count
node_count-some (constant z) = omega arith
node_count-some (variable v) = omega arith
node_count-some (negation t) = omega arith
node_count-some (binary o a b) = omega arith
node_count-some (choice t a b) = omega arith

pub nodes_from-length : (m : ℕ) (t : Tree) → length (nodes_from m t) ≡ node_count t
unfolding nodes_from
nodes_from-length m (constant z) = refl
nodes_from-length m (variable v) = refl
nodes_from-length m (negation t) = length-append (nodes_from m t) _ ∙ ap (λ n. n + 1) (nodes_from-length m t)
nodes_from-length m (binary o a b) =
    let k = m + node_count a in
    length-append (nodes_from m a ++ nodes_from k b) _
    ∙ omega (arith, length-append (nodes_from m a) (nodes_from k b), nodes_from-length m a, nodes_from-length k b)
nodes_from-length m (choice t a b) =
    let k = m + node_count t in
    let l = k + node_count a in
    length-append (nodes_from m t ++ nodes_from k a ++ nodes_from l b) _
    ∙ omega (arith, length-append (nodes_from m t ++ nodes_from k a) (nodes_from l b), length-append (nodes_from m t) (nodes_from k a), nodes_from-length m t, nodes_from-length k a, nodes_from-length l b)

-- ---- records can hold them

binary-recordable : (o : Binary) (a b : ℕ) → a < 2 ^ 16 → b < 2 ^ 16 → Recordable (binary_node o a b)
binary-recordable (arithmetic o) a b p q = (p, q)
binary-recordable (comparison o) a b p q = (p, q)
binary-recordable both a b p q = (p, q)
binary-recordable either a b p q = (p, q)

pub nodes_from-recordable : (m : ℕ) (t : Tree) → is_writable t ≡ true → m + node_count t ≤ 2 ^ 16 → AllRecordable (nodes_from m t)
unfolding nodes_from is_writable
nodes_from-recordable m (constant z) w l = (ltb-true (mag z) (2 ^ 31) w, tt)
nodes_from-recordable m (variable v) w l = let h : v ≤ 63 = leb-true v 63 w in (omega arith, tt)
nodes_from-recordable m (negation t) w l = recordable-append (nodes_from m t) _ (nodes_from-recordable m t w (omega arith)) (omega (arith, node_count-some t), tt)
nodes_from-recordable m (binary o a b) w l =
    let k = m + node_count a in
    let u = and-true (is_writable a) (is_writable b) w in
    let x = node_count-some a in
    let y = node_count-some b in
    recordable-append (nodes_from m a ++ nodes_from k b) _
    (recordable-append (nodes_from m a) _ (nodes_from-recordable m a u.0 (omega arith)) (nodes_from-recordable k b u.1 (omega arith)))
    (binary-recordable o (k - 1) (k + node_count b - 1) (omega arith) (omega arith), tt)
nodes_from-recordable m (choice t a b) w l =
    let k = m + node_count t in
    let n = k + node_count a in
    let u = and-true (is_writable t && is_writable a) (is_writable b) w in
    let v = and-true (is_writable t) (is_writable a) u.0 in
    let x = node_count-some t in
    let y = node_count-some a in
    let z = node_count-some b in
    recordable-append (nodes_from m t ++ nodes_from k a ++ nodes_from n b) _
    (recordable-append (nodes_from m t ++ nodes_from k a) _
    (recordable-append (nodes_from m t) _ (nodes_from-recordable m t v.0 (omega arith)) (nodes_from-recordable k a v.1 (omega arith)))
    (nodes_from-recordable n b u.1 (omega arith)))
    ((omega arith, omega arith, omega arith), tt)

-- ---- where they stand

-- the nodes of a tree stand in a list of nodes from number m on
unfoldable pub Placed : (ℕ → Node) → ℕ → Tree → Type 0
Placed node m (constant z) = node m ≡ N.constant z
Placed node m (variable v) = node m ≡ N.variable v
Placed node m (negation t) = Placed node m t × (node (m + node_count t) ≡ N.negation (m + node_count t - 1))
Placed node m (binary o a b) =
    let k = m + node_count a in
    Placed node m a × Placed node k b × (node (k + node_count b) ≡ binary_node o (k - 1) (k + node_count b - 1))
Placed node m (choice t a b) =
    let k = m + node_count t in
    let l = k + node_count a in
    Placed node m t × Placed node k a × Placed node l b × (node (l + node_count b) ≡ N.choice (k - 1) (l - 1) (l + node_count b - 1))

module _ (node : ℕ → Node) where
  -- these nodes stand from number m on
  abbrev pub Holds : ℕ → List Node → Type 0
  Holds m xs = (i : ℕ) → i < length xs → node (m + i) ≡ node_of xs i

  holds-left : (m : ℕ) (xs ys : List Node) → Holds m (xs ++ ys) → Holds m xs
  holds-left m xs ys h i l = h i (omega (arith, length-append xs ys)) ∙ get_or-append xs ys N.unknown i l

  holds-right : (m n : ℕ) (xs ys : List Node) → length xs ≡ n → Holds m (xs ++ ys) → Holds (m + n) ys
  holds-right m n xs ys e h i l =
      ap node (let d : m + n + i ≡ m + (n + i) = omega arith in d)
      ∙ h (n + i) (omega (arith, length-append xs ys))
      ∙ get_or-append-at xs ys n i N.unknown e

  holds-one : (m : ℕ) (x : Node) → Holds m (x ∷ []) → node m ≡ x
  holds-one m x h = ap node (sym (add-zero m)) ∙ h 0 (omega arith)

  pub nodes_from-placed : (m : ℕ) (t : Tree) → Holds m (nodes_from m t) → Placed node m t
  unfolding nodes_from Placed
  nodes_from-placed m (constant z) h = holds-one m (N.constant z) h
  nodes_from-placed m (variable v) h = holds-one m (N.variable v) h
  nodes_from-placed m (negation t) h =
      (nodes_from-placed m t (holds-left m (nodes_from m t) _ h), holds-one (m + node_count t) _ (holds-right m (node_count t) (nodes_from m t) _ (nodes_from-length m t) h))
  nodes_from-placed m (binary o a b) h =
      let k = m + node_count a in
      let front = nodes_from m a ++ nodes_from k b in
      let x : Holds m front = holds-left m front _ h in
      let e : length front ≡ node_count a + node_count b = length-append (nodes_from m a) (nodes_from k b) ∙ (λ i. nodes_from-length m a i + nodes_from-length k b i) in (
        nodes_from-placed m a (holds-left m (nodes_from m a) (nodes_from k b) x),
        nodes_from-placed k b (holds-right m (node_count a) (nodes_from m a) (nodes_from k b) (nodes_from-length m a) x),
        ap node (add_assoc m (node_count a) (node_count b)) ∙ holds-one (m + (node_count a + node_count b)) _ (holds-right m (node_count a + node_count b) front _ e h),
      )
  nodes_from-placed m (choice t a b) h =
      let k = m + node_count t in
      let l = k + node_count a in
      let two = nodes_from m t ++ nodes_from k a in
      let front = two ++ nodes_from l b in
      let x : Holds m front = holds-left m front _ h in
      let y : Holds m two = holds-left m two (nodes_from l b) x in
      let d : length two ≡ node_count t + node_count a = length-append (nodes_from m t) (nodes_from k a) ∙ (λ i. nodes_from-length m t i + nodes_from-length k a i) in
      let e : length front ≡ node_count t + node_count a + node_count b = length-append two (nodes_from l b) ∙ (λ i. d i + nodes_from-length l b i) in
      let f : m + (node_count t + node_count a) ≡ l = sym (add_assoc m (node_count t) (node_count a)) in (
        nodes_from-placed m t (holds-left m (nodes_from m t) (nodes_from k a) y),
        nodes_from-placed k a (holds-right m (node_count t) (nodes_from m t) (nodes_from k a) (nodes_from-length m t) y),
        nodes_from-placed l b (subst (λ n. Holds n (nodes_from l b)) f (holds-right m (node_count t + node_count a) two (nodes_from l b) d x)),
        ap node (let g : l + node_count b ≡ m + (node_count t + node_count a + node_count b) = omega arith in g)
            ∙ holds-one (m + (node_count t + node_count a + node_count b)) _ (holds-right m (node_count t + node_count a + node_count b) front _ e h),
      )
