-- A file's records are its chunks of 16 bytes. Assumes nothing.
use mathlib.Core.Path.{◌≡◌, refl, sym, ap, ◌∙◌}
use mathlib.Core.Bool.{Bool, true, false, ◌&&◌}
use mathlib.Core.List.{List, [], ◌∷◌, ◌++◌, map}
use Prim.Native.Nat.{ℕ, suc, ◌/◌}
use native.Mathlib.Omega.{arith}
use denote.Param.Members.{Mut}
use denote.Ref.{Bor}
use lib.ListN.{length, length-append}
use lib.Seq.{take_at, drop_at}
use Rattle.std.specs.Prelude.{Option}
use Rattle.std.specs.declared.slice.ChunksExact.{ChunksExact}
use Rattle.std.specs.Fn.{Called}
use Rattle.std.specs.Iterator.{YieldsThen}
use Rattle.std.specs.List.{FoldsTo, list_all}
use Rattle.std.specs.Option.{MatchOption}
use Rattle.std.specs.Slice.Iter.{chunks_exact_rest, chunks_exact_size, chunks_exact_steps}
use Rattle.std.proofs.lemmas.Iterator.{YieldsList}
use Rattle.std.proofs.lemmas.Iterator.Splits.{YieldsList-from_shown_while}
use Rattle.std.proofs.lemmas.Iterator.Search.{all_from_yields_List}
use Rattle.prelude.specs.Lists.{all}
use Rattle.prelude.proofs.Lists.{map-append}
use Rattle.prelude.proofs.Loops.{and_one}
use Rattle.prelude.proofs.Numbers.{all_append}
use Rattle.records.specs.Bytes.{cut, records}
use Rattle.records.proofs.Records.{length-records}

pub records-more : (x t : List ℕ) → length x ≡ 16 → records (x ++ t) ≡ x ∷ records t
unfolding cut
records-more x t h =
    let e : length (x ++ t) / 16 ≡ suc (length t / 16) = omega (arith, length-append x t) in
    ap (λ n. cut n (x ++ t)) e ∙ (λ i. take_at x t 16 h i ∷ cut (length t / 16) (drop_at x t 16 h i))

-- the chunks that are left are the records of the bytes that are left
pub chunks-are : (s : ChunksExact ℕ) → chunks_exact_size s ≡ 16 → YieldsList chunks_exact_steps (λ x. x.now) s (records (chunks_exact_rest s))
chunks-are =
    YieldsList-from_shown_while chunks_exact_steps (λ x. x.now) (λ s. records (chunks_exact_rest s)) (λ s. chunks_exact_size s ≡ 16)
    (λ s t p h. omega (arith, length-records (chunks_exact_rest s), h.1.0, p))
    (λ s x t p h. (h.0 ∙ p, ap records h.1.0 ∙ records-more x.now (chunks_exact_rest t) (h.1.1 ∙ p)))

list_all-is : {A : Type 0} (p : A → Bool) (xs : List A) → list_all p xs ≡ all p xs
unfolding all
list_all-is p [] = refl
list_all-is p (x ∷ xs) = ap (λ b. p x && b) (list_all-is p xs)

-- Of a closure that answers p of each chunk.
pub all_records : {F : Type 0} {g : Mut F (Bor (List ℕ) × Unit {0}) Bool} {it : ChunksExact ℕ} (p : List ℕ → Bool) (u : ChunksExact ℕ) (f : F) (r : Bool) →
    (xs : List (Bor (List ℕ))) × (o : Option (Bor (List ℕ))) × (j : F) × YieldsThen chunks_exact_steps it xs o u × FoldsTo (λ q x t. Called g q (x, tt) true t) f xs j
    × MatchOption o (r ≡ true) (λ x. (r ≡ false) × ((h : F) × Called g j (x, tt) false h)) →
    chunks_exact_size it ≡ 16 →
    ((x : Bor (List ℕ)) (b : Bool) (q : F) → Called g f (x, tt) b q → (q ≡ f) × (b ≡ p x.now)) →
    r ≡ all p (records (chunks_exact_rest it))
all_records {it = it} p u f r ran e answers = all_from_yields_List p u f r ran (chunks-are it e) answers ∙ list_all-is p (records (chunks_exact_rest it))

-- a test of all that came so far, and of one more
pub all-push : (p : List ℕ → Bool) (xs : List (Bor (List ℕ))) (x : Bor (List ℕ)) → all p (map (λ y. y.now) (xs ++ x ∷ [])) ≡ (all p (map (λ y. y.now) xs) && p x.now)
unfolding all
all-push p xs x =
    ap (all p) (map-append (λ y. y.now) xs (x ∷ []))
    ∙ all_append p (map (λ y. y.now) xs) (x.now ∷ [])
    ∙ ap (λ b. all p (map (λ y. y.now) xs) && b) (sym (and_one (p x.now)))
