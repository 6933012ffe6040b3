-- Open edges, one record after the other: an edge's literals, and the edges that leave a location. Assumes nothing.
use mathlib.Core.Path.{◌≡◌, refl, sym, ap, ◌∙◌}
use mathlib.Core.Bool.{Bool, true, false, not, cond}
use mathlib.Core.List.{List, [], ◌∷◌, map}
use Rattle.std.specs.Prelude.{Result}
use Prim.Native.Nat.{ℕ, ◌-◌}
use Rattle.prelude.specs.Lists.{keep, from}
use Rattle.records.specs.Refusal.{Refusal, Out, val, fault, ◌>>=◌, choose}
use Rattle.model.specs.Runs.{Run}
use Rattle.model.specs.AutomataTable.{Literal, Automata, read_automata}
use Rattle.model.specs.Automata.{condition_holds, literal_holds, reads, opens, the_one}
use Rattle.automata_records.specs.declared.Shape.{Shape}
use Rattle.automata_records.specs.Shape.{IsShape}
use Rattle.automata_records.specs.Places.{first_edge, first_literal}
use Rattle.automata_steps.specs.declared.edges.Tally.{Tally}
use Rattle.automata_steps.specs.declared.edges.Tally.TheVariants.{Nothing}
use Rattle.answers.specs.declared.Reason.{Reason}
use Rattle.automata_steps.specs.Index.{owned_by}
use Rattle.automata_steps.specs.StepOf.{edge_open, tally_of, counted_of, the_open}
use Rattle.automata_steps.proofs.IndexRecords.{own_edge, leaving-is}

-- ---- a literal, by its condition

module _ (au : Automata) (r : Run) (l : Literal) where
  by_sign : (b : Bool) → l.must ≡ b → (o : Out Bool) → o ≡ condition_holds au r l → cond b o (choose o (val false) (val true)) ≡ literal_holds au r l
  by_sign b d o e = λ i. cond (sym d i) (e i) (choose (e i) (val false) (val true))

  pub literal-fault : (w : Refusal) → fault w ≡ condition_holds au r l → fault w ≡ literal_holds au r l
  literal-fault w e = go l.must refl
    where
      go : (b : Bool) → l.must ≡ b → fault w ≡ literal_holds au r l
      go true d = by_sign true d (fault w) e
      go false d = by_sign false d (fault w) e

  pub literal-must : (h : Bool) → l.must ≡ true → val h ≡ condition_holds au r l → val h ≡ literal_holds au r l
  literal-must h d e = by_sign true d (val h) e

  pub literal-must-not : (h : Bool) → l.must ≡ false → val h ≡ condition_holds au r l → val (not h) ≡ literal_holds au r l
  literal-must-not true d e = by_sign false d (val true) e
  literal-must-not false d e = by_sign false d (val false) e

-- ---- an edge's literals

-- record n says the literal g n
module _ (holds : Literal → Out Bool) (g : ℕ → Literal) where
  abbrev pub read_on : List ℕ → Unit {0} → Out Bool
  read_on ns u = reads holds (map g ns)

  module _ (n : ℕ) where
    one : (rest : List ℕ) → read_on (n ∷ rest) tt ≡ choose (holds (g n)) (read_on rest tt) (val false)
    unfolding reads
    one rest = refl

    pub read-true : val true ≡ holds (g n) → (rest : List ℕ) → read_on (n ∷ rest) tt ≡ read_on rest tt
    read-true e rest = one rest ∙ ap (λ o. choose o (read_on rest tt) (val false)) (sym e)

    pub read-false : val false ≡ holds (g n) → (rest : List ℕ) → read_on (n ∷ rest) tt ≡ val false
    read-false e rest = one rest ∙ ap (λ o. choose o (read_on rest tt) (val false)) (sym e)

    pub read-fault : (w : Refusal) → fault w ≡ holds (g n) → (rest : List ℕ) → read_on (n ∷ rest) tt ≡ fault w
    read-fault w e rest = one rest ∙ ap (λ o. choose o (read_on rest tt) (val false)) (sym e)

  pub read_none : read_on [] tt ≡ val true
  unfolding reads
  read_none = refl

-- ---- the edges that leave a location

module _ (isOpen : ℕ → Out Bool) where
  abbrev more : Out (List ℕ) → ℕ → Tally → Bool → Out ℕ
  more es e t b = (es >>= λ rest. val (cond b (e ∷ rest) rest)) >>= tally_of t

  opens_one : (e : ℕ) (es : List ℕ) (t : Tally) → (opens isOpen (e ∷ es) >>= tally_of t) ≡ (isOpen e >>= more (opens isOpen es) e t)
  unfolding opens
  opens_one e es t = go (isOpen e)
    where
      go : (o : Out Bool) → ((o >>= λ b. opens isOpen es >>= λ rest. val (cond b (e ∷ rest) rest)) >>= tally_of t) ≡ (o >>= more (opens isOpen es) e t)
      go (val b) = refl
      go (fault w) = refl

  pub open-fault : (e : ℕ) (t : Tally) (w : Refusal) → fault w ≡ isOpen e → (es : List ℕ) → fault w ≡ (opens isOpen (e ∷ es) >>= tally_of t)
  open-fault e t w h es = sym (opens_one e es t ∙ ap (λ o. o >>= more (opens isOpen es) e t) (sym h))

  pub open-not : (e : ℕ) (t : Tally) → val false ≡ isOpen e → (es : List ℕ) → (opens isOpen es >>= tally_of t) ≡ (opens isOpen (e ∷ es) >>= tally_of t)
  open-not e t h es = go (opens isOpen es) ∙ sym (opens_one e es t ∙ ap (λ o. o >>= more (opens isOpen es) e t) (sym h))
    where
      go : (o : Out (List ℕ)) → (o >>= tally_of t) ≡ more o e t false
      go (val es) = refl
      go (fault w) = refl

  -- the tally t' has edge e besides those of t
  pub open_more : (e : ℕ) (t t' : Tally) → ((es : List ℕ) → tally_of t' es ≡ tally_of t (e ∷ es)) → val true ≡ isOpen e →
      (es : List ℕ) → (opens isOpen es >>= tally_of t') ≡ (opens isOpen (e ∷ es) >>= tally_of t)
  open_more e t t' d h es = go (opens isOpen es) ∙ sym (opens_one e es t ∙ ap (λ o. o >>= more (opens isOpen es) e t) (sym h))
    where
      go : (o : Out (List ℕ)) → (o >>= tally_of t') ≡ more o e t true
      go (val es) = d es
      go (fault w) = refl

  -- record n says edge n - start, and is passed over where it is not one of these
  module _ (start : ℕ) (mine : ℕ → Bool) where
    abbrev pub count_on : List ℕ → Tally → Out ℕ
    count_on ns t = opens isOpen (map (λ n. n - start) (keep mine ns)) >>= tally_of t

    pub counted : (n : ℕ) (t : Tally) (c : Result Tally Reason) →
        ((es : List ℕ) → counted_of isOpen c es ≡ (opens isOpen (cond (mine n) ((n - start) ∷ es) es) >>= tally_of t)) →
        (rest : List ℕ) → count_on (n ∷ rest) t ≡ counted_of isOpen c (map (λ n. n - start) (keep mine rest))
    unfolding keep
    counted n t c h rest = go (mine n) ∙ sym (h (map (λ n. n - start) (keep mine rest)))
      where
        go : (b : Bool) →
            (opens isOpen (map (λ n. n - start) (cond b (n ∷ keep mine rest) (keep mine rest))) >>= tally_of t)
            ≡ (opens isOpen (cond b ((n - start) ∷ map (λ n. n - start) (keep mine rest)) (map (λ n. n - start) (keep mine rest))) >>= tally_of t)
        go true = refl
        go false = refl

    pub count_none : (t : Tally) → count_on [] t ≡ tally_of t []
    unfolding opens keep
    count_none t = refl

-- all that leave a location are to be read
pub all-leaving : (s : List ℕ) (sh : Shape) (is : IsShape s sh) (r : Run) (a l : ℕ) →
    the_open (read_automata s) r a l
    ≡ count_on (edge_open (read_automata s) r) (first_edge sh) (own_edge s a) (keep (owned_by s l) (from (first_edge sh) (first_literal sh - first_edge sh))) Nothing
all-leaving s sh is r a l = ap (λ es. opens (edge_open (read_automata s) r) es >>= the_one) (leaving-is s sh is a l)
