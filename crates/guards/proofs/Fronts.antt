-- Bytes at the front that the rules derive, with spaces around them; and the sign or mark that stood there, where one was found. Assumes nothing.
use mathlib.Core.Path.{◌≡◌, refl, sym, ap, ◌∙◌, subst}
use mathlib.Core.Bool.{Bool, true, false, cond}
use mathlib.Core.Option.{some, none}
use mathlib.Core.List.{List, [], ◌∷◌, ◌++◌, append_assoc, append-nil}
use Prim.Native.Nat.{ℕ}
use native.Mathlib.Omega.{arith}
use borrow.Author.Tests.{eqb-true}
use lib.Dec.{eqb}
use lib.ListN.{drop}
use Rattle.prelude.specs.Lists.{case_of}
use Rattle.records.specs.Bytes.{byte}
use Rattle.records.specs.Refusal.{val}
use Rattle.arithmetic.specs.Operators.{sum, difference, product, quotient, remainder, equal, less, at_most}
use Rattle.guards.specs.Trees.{Binary, arithmetic, comparison, both, either, Tree}
use Rattle.guards.specs.Texts.{sign}
use Rattle.guards.specs.Grammar.{Read, read, outside, unspaced, operator_by, operator_at, past}
use Rattle.guards.specs.Rules.{Derives, before, behind}
use Rattle.guards.proofs.Values.{val_same, no_value, case-by}

-- s is bytes of the tree, then r
pub record Front (k : ℕ) (t : Tree) (s r : List ℕ) : Type 0 where
  pub front : List ℕ
  pub same : s ≡ front ++ r
  pub tree : Derives k t front

pub Front-read : {k : ℕ} {t : Tree} {s r : List ℕ} {x : Read Tree} → read t r ≡ val x → Front k t s r → Front k x.got s x.rest
Front-read {k} {s} e f = subst (λ x. Front k x.got s x.rest) (val_same e) f

-- ---- spaces

-- s is spaces, then r, and these spaces belong to the tree before them
pub record Padded (k : ℕ) (t : Tree) (p s r : List ℕ) : Type 0 where
  pub spaces : List ℕ
  pub same : s ≡ spaces ++ r
  pub tree : Derives k t (p ++ spaces)

module _ {k : ℕ} {t : Tree} where
  no-spaces : (p s : List ℕ) → Derives k t p → Padded k t p s s
  no-spaces p s d = record { spaces = []; same = refl; tree = subst (Derives k t) (sym (append-nil p)) d }

  pub Front-spaced : (s r : List ℕ) → Front k t (unspaced s) r → Front k t s r
  unfolding unspaced
  Front-spaced [] r f = f
  Front-spaced (b ∷ s) r f = go (eqb b 32) refl f (Front-spaced s r)
    where
      go : (c : Bool) → eqb b 32 ≡ c → Front k t (cond c (unspaced s) (b ∷ s)) r → (Front k t (unspaced s) r → Front k t s r) → Front k t (b ∷ s) r
      go true e f g = let h : Front k t s r = g f in record { front = 32 ∷ h.front; same = λ i. eqb-true b 32 e i ∷ h.same i; tree = before h.tree }
      go false e f g = f

  -- the spaces before what stands behind a tree belong to it
  pub padded : (p s : List ℕ) → Derives k t p → Padded k t p s (unspaced s)
  unfolding unspaced
  padded p [] d = no-spaces p [] d
  padded p (b ∷ s) d = go (eqb b 32) refl (padded (p ++ (32 ∷ [])) s (behind d))
    where
      go : (c : Bool) → eqb b 32 ≡ c → Padded k t (p ++ (32 ∷ [])) s (unspaced s) → Padded k t p (b ∷ s) (cond c (unspaced s) (b ∷ s))
      go true e f = record { spaces = 32 ∷ f.spaces; same = λ i. eqb-true b 32 e i ∷ f.same i; tree = subst (Derives k t) (append_assoc p (32 ∷ []) f.spaces) f.tree }
      go false e f = no-spaces p (b ∷ s) d

  pub Front-padded : {s r : List ℕ} → Front k t s r → Front k t s (unspaced r)
  Front-padded {r} f =
      let q : Padded k t f.front r (unspaced r) = padded f.front r f.tree in
      record { front = f.front ++ q.spaces; same = f.same ∙ ap (λ u. f.front ++ u) q.same ∙ sym (append_assoc f.front q.spaces (unspaced r)); tree = q.tree }

-- ---- a mark

pub byte-first : (c : ℕ) (s : List ℕ) → (c ≡ 0 → ⊥) → byte s 0 ≡ c → s ≡ c ∷ drop 1 s
byte-first c [] n e = absurd (n (sym e))
byte-first c (b ∷ s) n e = ap (λ b. b ∷ s) e

pub past-found : (mark : ℕ) (s r : List ℕ) → (mark ≡ 0 → ⊥) → past mark s ≡ val r → unspaced s ≡ mark ∷ r
past-found mark s r n e =
    case-by (byte (unspaced s) 0) mark (val (drop 1 (unspaced s))) outside (val r) e (λ f g. byte-first mark (unspaced s) n f ∙ ap (λ u. mark ∷ u) (val_same g)) no_value

pub Front-past : {k : ℕ} {t : Tree} {s r : List ℕ} (mark : ℕ) (u : List ℕ) → (mark ≡ 0 → ⊥) → Front k t s r → past mark r ≡ val u → Front k t s (mark ∷ u)
Front-past {k} {t} {s} {r} mark u n f e = subst (Front k t s) (past-found mark r u n e) (Front-padded f)

-- ---- an operator's sign

module _ (a : ℕ) (s : List ℕ) (x : Binary × ℕ) where
  abbrev Stood : Type 0
  Stood = a ∷ s ≡ sign x.0 ++ drop x.1 (a ∷ s)

  stood : (y : Binary × ℕ) → some y ≡ some x → a ∷ s ≡ sign y.0 ++ drop y.1 (a ∷ s) → Stood
  stood y e f = let same : y ≡ x = cc in subst (λ z. a ∷ s ≡ sign z.0 ++ drop z.1 (a ∷ s)) same f

  not_found : none ≡ some x → Stood
  not_found e = let z : ◌≡◌ {A = ℕ} 0 1 = cc in absurd (omega arith)

  one_byte : (o : Binary) (c : ℕ) → c ∷ s ≡ sign o ++ s → a ≡ c → some (o, 1) ≡ some x → Stood
  one_byte o c f e g = stood (o, 1) g (ap (λ b. b ∷ s) e ∙ f)

  two_bytes : (o : Binary) (c b : ℕ) → (b ≡ 0 → ⊥) → c ∷ b ∷ drop 1 s ≡ sign o ++ drop 1 s → a ≡ c → byte s 0 ≡ b → some (o, 2) ≡ some x → Stood
  two_bytes o c b n f e h g = stood (o, 2) g ((λ i. e i ∷ byte-first b s n h i) ∙ f)

  -- an operator whose two bytes are the same
  twice : (o : Binary) (c : ℕ) → (c ≡ 0 → ⊥) → c ∷ c ∷ drop 1 s ≡ sign o ++ drop 1 s → a ≡ c → cond (eqb (byte s 0) c) (some (o, 2)) none ≡ some x → Stood
  twice o c n f e g = case-by (byte s 0) c (some (o, 2)) none (some x) g (two_bytes o c c n f e) not_found

  by_bytes : operator_by a (byte s 0) ≡ some x → Stood
  unfolding case_of
  by_bytes e =
      case-by a 42 _ _ (some x) e (one_byte (arithmetic product) 42 refl) λ e.
      case-by a 47 _ _ (some x) e (one_byte (arithmetic quotient) 47 refl) λ e.
      case-by a 37 _ _ (some x) e (one_byte (arithmetic remainder) 37 refl) λ e.
      case-by a 43 _ _ (some x) e (one_byte (arithmetic sum) 43 refl) λ e.
      case-by a 45 _ _ (some x) e (one_byte (arithmetic difference) 45 refl) λ e.
      case-by a 60 _ _ (some x) e
      (λ f g. case-by (byte s 0) 61 _ _ (some x) g (two_bytes (comparison at_most) 60 61 (λ z. omega arith) refl f) (one_byte (comparison less) 60 refl f)) λ e.
      case-by a 61 _ _ (some x) e (twice (comparison equal) 61 (λ z. omega arith) refl) λ e.
      case-by a 38 _ _ (some x) e (twice both 38 (λ z. omega arith) refl) λ e.
      case-by a 124 _ _ (some x) e (twice either 124 (λ z. omega arith) refl) not_found

pub operator-found : (s : List ℕ) (o : Binary) (n : ℕ) → operator_at s ≡ some (o, n) → s ≡ sign o ++ drop n s
unfolding case_of
operator-found [] o n e = let z : ◌≡◌ {A = ℕ} 0 1 = cc in absurd (omega arith)
operator-found (a ∷ s) o n e = by_bytes a s (o, n) e
