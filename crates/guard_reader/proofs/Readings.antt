-- What a rule comes to at every depth that is enough, from what its parts came to. Assumes nothing.
use mathlib.Core.Path.{◌≡◌, refl, sym, ap, ◌∙◌}
use mathlib.Core.Bool.{false}
use mathlib.Core.List.{List}
use Prim.Native.Nat.{ℕ, zero, suc, ◌+◌, ◌-◌, ◌*◌, ◌≤◌, ◌<◌}
use native.Mathlib.Omega.{arith}
use lib.ListN.{length, drop}
use Rattle.std.proofs.Common.{Option, Some, None}
use Rattle.records.specs.Bytes.{byte}
use Rattle.records.specs.Refusal.{Out, ◌>>=◌}
use Rattle.guards.specs.Trees.{Tree, negation, binary, choice}
use Rattle.guards.specs.Grammar.{Read, read, outside, operator_at, past, choice_at, binary_at, go_on, operand_at}
use Rattle.guard_reader.specs.Places.{Skipped, marked, MarkAt, SignIs}
use Rattle.guard_reader.specs.Parts.{leaf_at, Placed, HasTree, ReadTree, ReadsAs, parsed_of, Reads, NegationIs, JoinIs, ChoiceIs, operand_depth, binary_depth, choice_depth}
use Rattle.guard_reader.specs.declared.lexemes.Sign.{Sign}
use Rattle.guard_reader.specs.declared.trees.Part.{Part}
use Rattle.guard_reader.proofs.FromPlace.{byte_inside}
use Rattle.guard_reader.proofs.GrammarSteps.{operand-enclosed, operand-negated, operand-leaf, past-found, past-missing, go_on-ends, SignAt, go_on-goes, choice-outside, choice-bare, choice-chosen}
use Rattle.guard_reader.proofs.PartTrees.{negation-tree, joined-tree, chosen-tree}

-- a rule at some depth is the same rule one deeper than its parts
deeper : (P : ℕ → Type 0) (n : ℕ) → ((d : ℕ) → n ≤ d → P (suc d)) → (d : ℕ) → n + 1 ≤ d → P d
deeper P n f zero h = absurd (omega arith)
deeper P n f (suc d) h = f d (omega arith)

-- a tree read behind spaces and marks is read from before them
has-from : {text : List ℕ} {i size : ℕ} {before after : List ℕ} {t : Tree} {p : Part} (at : ℕ) → at ≤ i → HasTree text i size before after t p → HasTree text at size before after t p
has-from {text} {i} {size} {before} {after} {t} {p} at l h =
    let f : p.size + i ≤ p.next + size = h.few in
    let o : i < p.next = h.onward in
    record { counted = h.counted; fitting = h.fitting; truthful = h.truthful; written = h.written; onward = omega arith; inside = h.inside; few = omega arith }

-- and goes on to a mark behind it
has-to : {text : List ℕ} {at size : ℕ} {before after : List ℕ} {t : Tree} {p : Part} (next : ℕ) → p.next ≤ next → next ≤ length text → HasTree text at size before after t p → HasTree text at size before after t (record { next = next; size = p.size; fits = p.fits; truth = p.truth })
has-to {text} {at} {size} {before} {after} {t} {p} next l e h =
    let f : p.size + at ≤ p.next + size = h.few in
    let o : at < p.next = h.onward in
    record { counted = h.counted; fitting = h.fitting; truthful = h.truthful; written = h.written; onward = omega arith; inside = e; few = omega arith }

-- ---- an operand

module _ {text : List ℕ} {at i : ℕ} (s : Skipped text at i) where
  module _ (e : byte text i ≡ 40) where
    pub enclosed-outside : ((d : ℕ) → choice_depth (length text - (i + 1)) ≤ d → choice_at d (drop (i + 1) text) ≡ outside) → (d : ℕ) → operand_depth (length text - at) ≤ d → operand_at d (drop at text) ≡ outside
    enclosed-outside f =
        let y : i < length text = byte_inside text i (λ z. omega arith) in
        let l : at ≤ i = s.onward in
        deeper (λ d. operand_at d (drop at text) ≡ outside) (3 * (length text - at)) (λ d h. operand-enclosed d s e ∙ ap (λ o. o >>= λ t. past 41 t.rest >>= λ s. read t.got s) (f d (omega arith)))

    module _ {size : ℕ} {before after : List ℕ} {p : Part} (r : ReadTree text (i + 1) size before after (choice_depth (length text - (i + 1))) (λ d. choice_at d (drop (i + 1) text)) p) where
      enclosed-by : (d : ℕ) → 3 * (length text - at) ≤ d → operand_at (suc d) (drop at text) ≡ (past 41 (drop p.next text) >>= λ s. read r.tree s)
      enclosed-by d h =
          let y : i < length text = byte_inside text i (λ z. omega arith) in
          let l : at ≤ i = s.onward in
          operand-enclosed d s e ∙ ap (λ o. o >>= λ t. past 41 t.rest >>= λ s. read t.got s) (r.same d (omega arith))

      pub enclosed-open : marked text p.next 41 ≡ false → (d : ℕ) → operand_depth (length text - at) ≤ d → operand_at d (drop at text) ≡ outside
      enclosed-open m = deeper (λ d. operand_at d (drop at text) ≡ outside) (3 * (length text - at)) (λ d h. enclosed-by d h ∙ ap (λ o. o >>= λ s. read r.tree s) (past-missing text p.next 41 m))

      pub enclosed-read : (next : ℕ) → MarkAt text p.next 41 next → ReadTree text at size before after (operand_depth (length text - at)) (λ d. operand_at d (drop at text)) (record { next = next; size = p.size; fits = p.fits; truth = p.truth })
      enclosed-read next m = record {
        tree = r.tree;
        same = deeper (λ d. operand_at d (drop at text) ≡ read r.tree (drop next text)) (3 * (length text - at)) (λ d h. enclosed-by d h ∙ ap (λ o. o >>= λ s. read r.tree s) (past-found m));
        has = let l : at ≤ i = s.onward in let o : p.next < next = m.onward in has-to next (omega arith) m.inside (has-from at (omega arith) r.has);
      }

  module _ (e : byte text i ≡ 33) where
    pub negated-outside : ((d : ℕ) → operand_depth (length text - (i + 1)) ≤ d → operand_at d (drop (i + 1) text) ≡ outside) → (d : ℕ) → operand_depth (length text - at) ≤ d → operand_at d (drop at text) ≡ outside
    negated-outside f =
        let y : i < length text = byte_inside text i (λ z. omega arith) in
        let l : at ≤ i = s.onward in
        deeper (λ d. operand_at d (drop at text) ≡ outside) (3 * (length text - at)) (λ d h. operand-negated d s e ∙ ap (λ o. o >>= λ t. read (negation t.got) t.rest) (f d (omega arith)))

    pub negated-read : {size : ℕ} {before mid after : List ℕ} {p q : Part} → ReadTree text (i + 1) size before mid (operand_depth (length text - (i + 1))) (λ d. operand_at d (drop (i + 1) text)) p → NegationIs mid p after q → ReadTree text at size before after (operand_depth (length text - at)) (λ d. operand_at d (drop at text)) q
    negated-read {size} {before} {mid} {after} {p} {q} r n =
        let y : i < length text = byte_inside text i (λ z. omega arith) in
        let l : at ≤ i = s.onward in
        record {
          tree = negation r.tree;
          same = deeper (λ d. operand_at d (drop at text) ≡ read (negation r.tree) (drop q.next text)) (3 * (length text - at)) (λ d h. operand-negated d s e ∙ ap (λ o. o >>= λ t. read (negation t.got) t.rest) (r.same d (omega arith)) ∙ ap (λ k. read (negation r.tree) (drop k text)) (sym n.part.behind));
          has = negation-tree at (omega arith) r.has n;
        }

  leaf-as : (size : ℕ) (before after : List ℕ) → (byte text i ≡ 40 → ⊥) → (byte text i ≡ 33 → ⊥) → (r : Option Part) → ReadsAs text i size before after 0 (λ d. leaf_at (drop i text)) r → ReadsAs text at size before after (operand_depth (length text - at)) (λ d. operand_at d (drop at text)) r
  leaf-as size before after n m (Some p) r = record {
    tree = r.tree;
    same = deeper (λ d. operand_at d (drop at text) ≡ read r.tree (drop p.next text)) (3 * (length text - at)) (λ d h. operand-leaf d s n m ∙ r.same d (omega arith));
    has = has-from at s.onward r.has;
  }
  leaf-as size before after n m None r = deeper (λ d. operand_at d (drop at text) ≡ outside) (3 * (length text - at)) (λ d h. operand-leaf d s n m ∙ r d (omega arith))

  pub leaf-read : (size : ℕ) (before after : List ℕ) → (byte text i ≡ 40 → ⊥) → (byte text i ≡ 33 → ⊥) → (r : ℕ) → Reads text i size before after 0 (λ d. leaf_at (drop i text)) r → Reads text at size before after (operand_depth (length text - at)) (λ d. operand_at d (drop at text)) r
  leaf-read size before after n m r h = leaf-as size before after n m (parsed_of r) h

-- ---- operators of levels up to k: the tree so far, and the rule that goes on behind it

pub record GoesOn (text : List ℕ) (at k : ℕ) (t : Tree) (next d : ℕ) : Type 0 where
  pub depth : ℕ
  pub enough : operand_depth (length text - next) ≤ depth
  pub same : binary_at d k (drop at text) ≡ go_on depth k t (drop next text)

pub record Reading (text : List ℕ) (at k size : ℕ) (before after : List ℕ) (p : Part) : Type 0 where
  pub tree : Tree
  pub goes : (d : ℕ) → binary_depth (length text - at) ≤ d → GoesOn text at k tree p.next d
  pub has : HasTree text at size before after tree p

binary-by : (d k : ℕ) (s : List ℕ) → binary_at (suc d) k s ≡ (operand_at d s >>= λ t. go_on d k t.got t.rest)
unfolding binary_at
binary-by d k s = refl

deeper₂ : (P : ℕ → Type 0) (n : ℕ) → ((d : ℕ) → n + 1 ≤ d → P (suc d)) → (d : ℕ) → n + 2 ≤ d → P d
deeper₂ P n f zero h = absurd (omega arith)
deeper₂ P n f (suc d) h = f d (omega arith)

module _ (text : List ℕ) (at k : ℕ) where
  pub first-outside : ((d : ℕ) → operand_depth (length text - at) ≤ d → operand_at d (drop at text) ≡ outside) → (d : ℕ) → binary_depth (length text - at) ≤ d → binary_at d k (drop at text) ≡ outside
  first-outside f = deeper₂ (λ d. binary_at d k (drop at text) ≡ outside) (3 * (length text - at)) (λ d h. binary-by d k (drop at text) ∙ ap (λ o. o >>= λ t. go_on d k t.got t.rest) (f d h))

  pub first_read : {size : ℕ} {before after : List ℕ} {p : Part} → ReadTree text at size before after (operand_depth (length text - at)) (λ d. operand_at d (drop at text)) p → Reading text at k size before after p
  first_read {size} {before} {after} {p} r =
      let o : at < p.next = r.has.onward in
      record {
        tree = r.tree;
        goes = deeper₂ (GoesOn text at k r.tree p.next) (3 * (length text - at)) (λ d h. record { depth = d; enough = omega arith; same = binary-by d k (drop at text) ∙ ap (λ o. o >>= λ t. go_on d k t.got t.rest) (r.same d h) });
        has = r.has;
      }

-- a depth that is enough is one deeper than another
one_deeper : (P : ℕ → Type 0) (n depth : ℕ) → n + 1 ≤ depth → ((d : ℕ) → n ≤ d → P (suc d)) → P depth
one_deeper P n depth h f = deeper P n f depth h

module _ {text : List ℕ} {at k size i : ℕ} {before mid : List ℕ} {p : Part} (r : Reading text at k size before mid p) (w : Skipped text p.next i) where
  pub level-ends : (o : Option Sign) → SignIs (operator_at (drop i text)) i o → ((g : Sign) → o ≡ Some g → k < g.level) → ReadTree text at size before mid (binary_depth (length text - at)) (λ d. binary_at d k (drop at text)) p
  level-ends o s l = record {
    tree = r.tree;
    same = λ d h. (r.goes d h).same ∙ one_deeper (λ e. go_on e k r.tree (drop p.next text) ≡ read r.tree (drop p.next text)) (3 * (length text - p.next)) (r.goes d h).depth (r.goes d h).enough (λ e _. go_on-ends e k r.tree (drop p.next text) i o (rw (← w.skips) s) l);
    has = r.has;
  }

  module _ (g : Sign) (s : SignAt text i g) (tight : g.level ≤ k) where
    pub right-further : at < g.next
    right-further =
        let o : at < p.next = r.has.onward in
        let l : p.next ≤ i = w.onward in
        let n : i < g.next = s.onward in
        omega arith

    pub right-placed : Placed text at size → Placed text g.next p.size
    right-placed h =
        let o : at < p.next = r.has.onward in
        let l : p.next ≤ i = w.onward in
        let n : i < g.next = s.onward in
        let f : size ≤ at = h.few in
        let m : p.size + at ≤ p.next + size = r.has.few in
        record { inside = s.inside; short = h.short; few = omega arith }

    abbrev rule : ℕ → Out (Read Tree)
    rule d = binary_at d (g.level - 1) (drop g.next text)

    goes_by : (d : ℕ) → go_on (suc d) k r.tree (drop p.next text) ≡ (rule d >>= λ u. go_on d k (binary s.operator r.tree u.got) u.rest)
    goes_by d = go_on-goes d k r.tree w s tight ∙ ap (λ l. binary_at d (l - 1) (drop g.next text) >>= λ u. go_on d k (binary s.operator r.tree u.got) u.rest) (sym s.sign.level)

    pub right-outside : ((d : ℕ) → binary_depth (length text - g.next) ≤ d → rule d ≡ outside) → (d : ℕ) → binary_depth (length text - at) ≤ d → binary_at d k (drop at text) ≡ outside
    right-outside f d h =
        let l : p.next ≤ i = w.onward in
        let o : i < g.next = s.onward in
        let n : g.next ≤ length text = s.inside in
        (r.goes d h).same ∙ one_deeper (λ e. go_on e k r.tree (drop p.next text) ≡ outside) (3 * (length text - p.next)) (r.goes d h).depth (r.goes d h).enough (λ e z. goes_by e ∙ ap (λ o. o >>= λ u. go_on e k (binary s.operator r.tree u.got) u.rest) (f e (omega arith)))

    pub right-read : {last after : List ℕ} {q j : Part} → ReadTree text g.next p.size mid last (binary_depth (length text - g.next)) rule q → JoinIs last g.code p q after j → Reading text at k size before after j
    right-read {last} {after} {q} {j} u m =
        let l : p.next ≤ i = w.onward in
        let o : i < g.next = s.onward in
        let n : g.next ≤ length text = s.inside in
        let b : g.next < q.next = u.has.onward in
        let e : j.next ≡ q.next = m.part.behind in
        record {
          tree = binary s.operator r.tree u.tree;
          goes = λ d h. one_deeper (λ e. go_on e k r.tree (drop p.next text) ≡ binary_at d k (drop at text) → GoesOn text at k (binary s.operator r.tree u.tree) j.next d) (3 * (length text - p.next)) (r.goes d h).depth (r.goes d h).enough (λ f z y. record { depth = f; enough = omega arith; same = sym y ∙ goes_by f ∙ ap (λ o. o >>= λ u. go_on f k (binary s.operator r.tree u.got) u.rest) (u.same f (omega arith)) ∙ ap (λ x. go_on f k (binary s.operator r.tree u.tree) (drop x text)) (sym e) }) (sym (r.goes d h).same);
          has = joined-tree r.has u.has (omega arith) s.operator (rw (← s.sign.code) m);
        }

-- ---- a choice

deeper₃ : (P : ℕ → Type 0) (n : ℕ) → ((d : ℕ) → n + 2 ≤ d → P (suc d)) → (d : ℕ) → n + 3 ≤ d → P d
deeper₃ P n f zero h = absurd (omega arith)
deeper₃ P n f (suc d) h = f d (omega arith)

module _ (text : List ℕ) (at : ℕ) where
  abbrev whole : ℕ → Out (Read Tree)
  whole d = choice_at d (drop at text)

  pub bare-outside : ((d : ℕ) → binary_depth (length text - at) ≤ d → binary_at d 6 (drop at text) ≡ outside) → (d : ℕ) → choice_depth (length text - at) ≤ d → whole d ≡ outside
  bare-outside f = deeper₃ (λ d. whole d ≡ outside) (3 * (length text - at)) (λ d h. choice-outside text at d (f d h))

  module _ {size : ℕ} {before mid : List ℕ} {p : Part} (r : ReadTree text at size before mid (binary_depth (length text - at)) (λ d. binary_at d 6 (drop at text)) p) where
    pub bare-read : marked text p.next 63 ≡ false → ReadTree text at size before mid (choice_depth (length text - at)) whole p
    bare-read m = record {
      tree = r.tree;
      same = deeper₃ (λ d. whole d ≡ read r.tree (drop p.next text)) (3 * (length text - at)) (λ d h. choice-bare text at d r.tree p.next (r.same d h) m);
      has = r.has;
    }

    module _ {i : ℕ} (m : MarkAt text p.next 63 i) where
      begins : at < i
      begins = let o : at < p.next = r.has.onward in let n : p.next < i = m.onward in omega arith

      pub second-outside : ((d : ℕ) → choice_depth (length text - i) ≤ d → choice_at d (drop i text) ≡ outside) → (d : ℕ) → choice_depth (length text - at) ≤ d → whole d ≡ outside
      second-outside f =
          let l = begins in
          let n : i ≤ length text = m.inside in
          deeper₃ (λ d. whole d ≡ outside) (3 * (length text - at)) (λ d h. choice-chosen text at d r.tree p.next (r.same d h) m ∙ ap (λ o. o >>= λ a. past 58 a.rest >>= λ s. choice_at d s >>= λ b. read (choice r.tree a.got b.got) b.rest) (f d (omega arith)))

      module _ {next : List ℕ} {q : Part} (u : ReadTree text i p.size mid next (choice_depth (length text - i)) (λ d. choice_at d (drop i text)) q) where
        second-by : (d : ℕ) → binary_depth (length text - at) ≤ d → whole (suc d) ≡ (past 58 (drop q.next text) >>= λ s. choice_at d s >>= λ b. read (choice r.tree u.tree b.got) b.rest)
        second-by d h =
            let l = begins in
            let n : i ≤ length text = m.inside in
            choice-chosen text at d r.tree p.next (r.same d h) m ∙ ap (λ o. o >>= λ a. past 58 a.rest >>= λ s. choice_at d s >>= λ b. read (choice r.tree a.got b.got) b.rest) (u.same d (omega arith))

        pub colon-missing : marked text q.next 58 ≡ false → (d : ℕ) → choice_depth (length text - at) ≤ d → whole d ≡ outside
        colon-missing c = deeper₃ (λ d. whole d ≡ outside) (3 * (length text - at)) (λ d h. second-by d h ∙ ap (λ o. o >>= λ s. choice_at d s >>= λ b. read (choice r.tree u.tree b.got) b.rest) (past-missing text q.next 58 c))

        module _ {j : ℕ} (c : MarkAt text q.next 58 j) where
          third-by : (d : ℕ) → binary_depth (length text - at) ≤ d → whole (suc d) ≡ (choice_at d (drop j text) >>= λ b. read (choice r.tree u.tree b.got) b.rest)
          third-by d h = second-by d h ∙ ap (λ o. o >>= λ s. choice_at d s >>= λ b. read (choice r.tree u.tree b.got) b.rest) (past-found c)

          behind : at < j
          behind = let l = begins in let o : i < q.next = u.has.onward in let n : q.next < j = c.onward in omega arith

          pub third-outside : ((d : ℕ) → choice_depth (length text - j) ≤ d → choice_at d (drop j text) ≡ outside) → (d : ℕ) → choice_depth (length text - at) ≤ d → whole d ≡ outside
          third-outside f =
              let l = behind in
              let n : j ≤ length text = c.inside in
              deeper₃ (λ d. whole d ≡ outside) (3 * (length text - at)) (λ d h. third-by d h ∙ ap (λ o. o >>= λ b. read (choice r.tree u.tree b.got) b.rest) (f d (omega arith)))

          pub third-read : {last after : List ℕ} {w z : Part} → ReadTree text j q.size next last (choice_depth (length text - j)) (λ d. choice_at d (drop j text)) w → ChoiceIs last p q w after z → ReadTree text at size before after (choice_depth (length text - at)) whole z
          third-read {last} {after} {w} {z} v x =
              let l = behind in
              let n : j ≤ length text = c.inside in
              record {
                tree = choice r.tree u.tree v.tree;
                same = deeper₃ (λ d. whole d ≡ read (choice r.tree u.tree v.tree) (drop z.next text)) (3 * (length text - at)) (λ d h. third-by d h ∙ ap (λ o. o >>= λ b. read (choice r.tree u.tree b.got) b.rest) (v.same d (omega arith)) ∙ ap (λ k. read (choice r.tree u.tree v.tree) (drop k text)) (sym x.part.behind));
                has = chosen-tree r.has u.has v.has m.onward c.onward x;
              }
