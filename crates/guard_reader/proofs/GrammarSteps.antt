-- The grammar's rules one step at a time, at a place of a text: what comes next decides what the rule comes to. Assumes nothing.
use mathlib.Core.Path.{◌≡◌, refl, sym, ap, ◌∙◌, subst}
use mathlib.Core.Bool.{Bool, true, false, cond}
use mathlib.Core.Option as Opt
use mathlib.Core.Option.{some, none}
use mathlib.Core.List.{List, [], ◌∷◌}
use Prim.Native.Nat.{ℕ, zero, suc, ◌+◌, ◌-◌, ◌≤◌, ◌<◌}
use native.Mathlib.Omega.{arith}
use borrow.Author.Tests.{lt-leb, le-leb, ne_eqb, eqb-true}
use lib.Dec.{eqb}
use Rattle.std.proofs.Common.{Option, Some, None}
use lib.ListN.{length, drop}
use lib.Seq.{drop-drop}
use Rattle.prelude.specs.Lists.{case_of}
use Rattle.records.specs.Bytes.{byte}
use Rattle.records.specs.Refusal.{Out, val, ◌>>=◌}
use Rattle.guards.specs.Trees.{Binary, Tree, negation, binary, choice, binary_level}
use Rattle.guards.specs.Grammar.{Read, read, outside, unspaced, operator_by, operator_at, by_operator, past, read_variable, read_negative, read_positive, choice_at, binary_at, go_on, operand_at}
use Rattle.guard_reader.specs.Places.{Skipped, marked, MarkAt, IsSign, SignIs}
use Rattle.guard_reader.specs.Parts.{leaf_at}
use Rattle.guard_reader.specs.declared.lexemes.Sign.{Sign}
use Rattle.guard_reader.proofs.FromPlace.{byte-first, byte-second, byte_inside}

-- ---- an operand, by its first byte

abbrev enclosed : ℕ → List ℕ → Out (Read Tree)
enclosed d s = choice_at d s >>= λ t. past 41 t.rest >>= λ s. read t.got s

abbrev negated : ℕ → List ℕ → Out (Read Tree)
negated d s = operand_at d s >>= λ t. read (negation t.got) t.rest

abbrev operand_by : ℕ → ℕ → List ℕ → Out (Read Tree)
operand_by d b r = case_of b ((40, enclosed d (drop 1 r)) ∷ (33, negated d (drop 1 r)) ∷ (118, read_variable (drop 1 r)) ∷ (45, read_negative (drop 1 r)) ∷ []) (read_positive r)

module _ {text : List ℕ} {at i : ℕ} (d : ℕ) (s : Skipped text at i) where
  operand-by : operand_at (suc d) (drop at text) ≡ operand_by d (byte text i) (drop i text)
  unfolding operand_at
  operand-by = ap (λ r. operand_by d (byte r 0) r) (sym s.skips) ∙ ap (λ b. operand_by d b (drop i text)) (byte-first text i)

  pub operand-enclosed : byte text i ≡ 40 → operand_at (suc d) (drop at text) ≡ enclosed d (drop (i + 1) text)
  unfolding case_of
  operand-enclosed e = operand-by ∙ ap (λ b. operand_by d b (drop i text)) e ∙ ap (enclosed d) (drop-drop 1 i text)

  pub operand-negated : byte text i ≡ 33 → operand_at (suc d) (drop at text) ≡ negated d (drop (i + 1) text)
  unfolding case_of
  operand-negated e = operand-by ∙ ap (λ b. operand_by d b (drop i text)) e ∙ ap (negated d) (drop-drop 1 i text)

  pub operand-leaf : (byte text i ≡ 40 → ⊥) → (byte text i ≡ 33 → ⊥) → operand_at (suc d) (drop at text) ≡ leaf_at (drop i text)
  unfolding case_of
  operand-leaf n m = operand-by ∙ rw (ne_eqb (byte text i) 40 n, ne_eqb (byte text i) 33 m) (ap (λ b. case_of b ((118, read_variable (drop 1 (drop i text))) ∷ (45, read_negative (drop 1 (drop i text))) ∷ []) (read_positive (drop i text))) (sym (byte-first text i)))

-- ---- a mark that must come next

pub past-found : {text : List ℕ} {at mark next : ℕ} → MarkAt text at mark next → past mark (drop at text) ≡ val (drop next text)
past-found {text} {at} {mark} {next} m = rw m.found (ap val (sym m.rest))

pub past-missing : (text : List ℕ) (at mark : ℕ) → marked text at mark ≡ false → past mark (drop at text) ≡ outside
past-missing text at mark e = rw e refl

-- ---- operators: none, or one that binds looser, ends the level

module _ (d k : ℕ) (t : Tree) (s : List ℕ) where
  abbrev further : Binary → ℕ → Out (Read Tree)
  further o n = binary_at d (binary_level o - 1) (drop n (unspaced s)) >>= λ u. go_on d k (binary o t u.got) u.rest

  go-by : go_on (suc d) k t s ≡ by_operator (operator_at (unspaced s)) k (read t s) further
  unfolding go_on
  go-by = refl

  ends_by : (o : Opt.Option (Binary × ℕ)) (at : ℕ) (r : Option Sign) → SignIs o at r → ((g : Sign) → r ≡ Some g → k < g.level) → by_operator o k (read t s) further ≡ read t s
  ends_by none at r h l = refl
  ends_by (some x) at None h l = absurd h
  ends_by (some x) at (Some g) h l =
      let e : g.level ≡ binary_level x.0 = h.level in
      let m : k < g.level = l g refl in
      rw (lt-leb (binary_level x.0) k (omega arith)) refl

  pub go_on-ends : (at : ℕ) (r : Option Sign) → SignIs (operator_at (unspaced s)) at r → ((g : Sign) → r ≡ Some g → k < g.level) → go_on (suc d) k t s ≡ read t s
  go_on-ends at r h l = go-by ∙ ends_by (operator_at (unspaced s)) at r h l

-- ---- an operator has one byte or two, and none of them is 0

InBytes : ℕ → ℕ → Opt.Option (Binary × ℕ) → Type 0
InBytes a b none = Unit {0}
InBytes a b (some x) = (0 < x.1) × (0 < a) × (x.1 ≤ 2) × (x.1 ≡ 2 → 0 < b)

case-none : {A : Type 0} (P : A → Type 0) (a : ℕ) (default : A) → P default → P (case_of a [] default)
unfolding case_of
case-none P a default h = h

module _ {A : Type 0} (P : A → Type 0) (a key : ℕ) (x : A) (rest : List (ℕ × A)) (default : A) where
  case-on : (t : Bool) → eqb a key ≡ t → (a ≡ key → P x) → P (case_of a rest default) → P (cond t x (case_of a rest default))
  case-on true e h g = h (eqb-true a key e)
  case-on false e h g = g

  case-by : (a ≡ key → P x) → P (case_of a rest default) → P (case_of a ((key, x) ∷ rest) default)
  unfolding case_of
  case-by h g = case-on (eqb a key) refl h g

module _ (a b : ℕ) where
  no-operator : InBytes a b none
  unfolding InBytes
  no-operator = tt

  one_byte : (key : ℕ) → 0 < key → (o : Binary) → a ≡ key → InBytes a b (some (o, 1))
  unfolding InBytes
  one_byte key p o e = (omega arith, omega arith, omega arith, λ f. absurd (let z : ◌≡◌ {A = ℕ} 1 2 = f in omega arith))

  two_bytes : (key : ℕ) → 0 < key → (o : Binary) → a ≡ key → 0 < b → InBytes a b (some (o, 2))
  unfolding InBytes
  two_bytes key p o e q = (omega arith, omega arith, omega arith, λ f. q)

  with_second : (key second : ℕ) → 0 < key → 0 < second → (o : Binary) (other : Opt.Option (Binary × ℕ)) → a ≡ key → InBytes a b other → InBytes a b (cond (eqb b second) (some (o, 2)) other)
  with_second key second p q o other e g = by (eqb b second) refl
    where
      by : (t : Bool) → eqb b second ≡ t → InBytes a b (cond t (some (o, 2)) other)
      by true f = let z : b ≡ second = eqb-true b second f in two_bytes key p o e (omega arith)
      by false f = g

  operator-bytes : InBytes a b (operator_by a b)
  operator-bytes =
      case-by (InBytes a b) a 42 _ _ none (one_byte 42 (omega arith) _)
      (case-by (InBytes a b) a 47 _ _ none (one_byte 47 (omega arith) _)
      (case-by (InBytes a b) a 37 _ _ none (one_byte 37 (omega arith) _)
      (case-by (InBytes a b) a 43 _ _ none (one_byte 43 (omega arith) _)
      (case-by (InBytes a b) a 45 _ _ none (one_byte 45 (omega arith) _)
      (case-by (InBytes a b) a 60 _ _ none (λ e. with_second 60 61 (omega arith) (omega arith) _ _ e (one_byte 60 (omega arith) _ e))
      (case-by (InBytes a b) a 61 _ _ none (λ e. with_second 61 61 (omega arith) (omega arith) _ none e no-operator)
      (case-by (InBytes a b) a 38 _ _ none (λ e. with_second 38 38 (omega arith) (omega arith) _ none e no-operator)
      (case-by (InBytes a b) a 124 _ [] none (λ e. with_second 124 124 (omega arith) (omega arith) _ none e no-operator) (case-none (InBytes a b) a none no-operator)))))))))

bytes_inside : (i n l : ℕ) → 0 < n → n ≤ 2 → i < l → (n ≡ 2 → i + 1 < l) → i + n ≤ l
bytes_inside i zero l p m h f = absurd (omega arith)
bytes_inside i (suc zero) l p m h f = omega arith
bytes_inside i (suc (suc zero)) l p m h f = let g : i + 1 < l = f refl in omega arith
bytes_inside i (suc (suc (suc n))) l p m h f = absurd (omega arith)

-- an operator that begins at a place
pub record SignAt (text : List ℕ) (i : ℕ) (g : Sign) : Type 0 where
  pub operator : Binary
  pub bytes : ℕ
  pub same : operator_at (drop i text) ≡ some (operator, bytes)
  pub sign : IsSign operator bytes i g
  pub onward : i < g.next
  pub inside : g.next ≤ length text

module _ (text : List ℕ) (i : ℕ) (g : Sign) where
  found-by : (o : Opt.Option (Binary × ℕ)) → operator_at (drop i text) ≡ o → SignIs o i (Some g) → InBytes (byte text i) (byte text (i + 1)) o → SignAt text i g
  unfolding InBytes
  found-by none e h b = absurd h
  found-by (some x) e h b =
      let first : i < length text = byte_inside text i (λ z. omega arith) in
      let n : g.next ≡ i + x.1 = h.next in
      let second : x.1 ≡ 2 → i + 1 < length text = λ f. byte_inside text (i + 1) (λ z. let q : 0 < byte text (i + 1) = b.3 f in omega arith) in
      record { operator = x.0; bytes = x.1; same = e; sign = h; onward = omega arith; inside = let f : i + x.1 ≤ length text = bytes_inside i x.1 (length text) b.0 b.2 first second in omega arith }

  pub sign-found : SignIs (operator_at (drop i text)) i (Some g) → SignAt text i g
  sign-found h = found-by (operator_at (drop i text)) refl h (subst (InBytes (byte text i) (byte text (i + 1))) (λ x. operator_by (sym (byte-first text i) x) (sym (byte-second text i) x)) (operator-bytes (byte text i) (byte text (i + 1))))

module _ {text : List ℕ} {i at : ℕ} {g : Sign} (d k : ℕ) (t : Tree) (w : Skipped text at i) (s : SignAt text i g) (tight : g.level ≤ k) where
  pub go_on-goes : go_on (suc d) k t (drop at text) ≡ (binary_at d (binary_level s.operator - 1) (drop g.next text) >>= λ u. go_on d k (binary s.operator t u.got) u.rest)
  go_on-goes =
      let o = s.operator in
      let n = s.bytes in
      let l : binary_level o ≤ k = let e : g.level ≡ binary_level o = s.sign.level in omega arith in
      go-by d k t (drop at text)
      ∙ ap (λ o. by_operator o k (read t (drop at text)) (further d k t (drop at text))) (ap operator_at (sym w.skips) ∙ s.same)
      ∙ ap (λ b. cond b (further d k t (drop at text) o n) (read t (drop at text))) (le-leb (binary_level o) k l)
      ∙ ap (λ r. binary_at d (binary_level o - 1) r >>= λ u. go_on d k (binary o t u.got) u.rest) (ap (drop n) (sym w.skips) ∙ drop-drop n i text ∙ ap (λ j. drop j text) (sym s.sign.next))

-- ---- a choice, by the mark behind its first tree

abbrev chosen_by : ℕ → Read Tree → List ℕ → Out (Read Tree)
chosen_by d t r = choice_at d r >>= λ a. past 58 a.rest >>= λ s. choice_at d s >>= λ b. read (choice t.got a.got b.got) b.rest

choice-by : (d : ℕ) (s : List ℕ) → choice_at (suc d) s ≡ (binary_at d 6 s >>= λ t. cond (eqb (byte (unspaced t.rest) 0) 63) (chosen_by d t (drop 1 (unspaced t.rest))) (val t))
unfolding choice_at
choice-by d s = refl

module _ (text : List ℕ) (at d : ℕ) where
  pub choice-outside : binary_at d 6 (drop at text) ≡ outside → choice_at (suc d) (drop at text) ≡ outside
  choice-outside e = choice-by d (drop at text) ∙ ap (λ o. o >>= λ t. cond (eqb (byte (unspaced t.rest) 0) 63) (chosen_by d t (drop 1 (unspaced t.rest))) (val t)) e

  module _ (t : Tree) (next : ℕ) (e : binary_at d 6 (drop at text) ≡ read t (drop next text)) where
    choice-read : choice_at (suc d) (drop at text) ≡ cond (marked text next 63) (chosen_by d (record { got = t; rest = drop next text }) (drop 1 (unspaced (drop next text)))) (read t (drop next text))
    choice-read = choice-by d (drop at text) ∙ ap (λ o. o >>= λ t. cond (eqb (byte (unspaced t.rest) 0) 63) (chosen_by d t (drop 1 (unspaced t.rest))) (val t)) e

    pub choice-bare : marked text next 63 ≡ false → choice_at (suc d) (drop at text) ≡ read t (drop next text)
    choice-bare f = choice-read ∙ rw f refl

    pub choice-chosen : {i : ℕ} → MarkAt text next 63 i → choice_at (suc d) (drop at text) ≡ chosen_by d (record { got = t; rest = drop next text }) (drop i text)
    choice-chosen m = choice-read ∙ rw m.found (ap (chosen_by d (record { got = t; rest = drop next text })) (sym m.rest))
