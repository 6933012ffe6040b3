-- A struct that is lent, taken whole: the steps of `denote.Steps` for a declared struct of plain data, with the struct's machine value written out and its relation in hand. It names no field and says nothing of the crate: it can be copied as it stands.
--     opens-whole      a `&κ mut T` is opened: [obs; the borrow; the token] becomes [the struct's cell; the open borrow; obs; auth], and the relation at h is learned
--     closes-whole     it is closed at h', whose relation is shown: back to [obs; the borrow; the token]
--     looks-whole      a `&κ T` is looked into: [the fractured borrow; the token] becomes [a share of the cell; what shuts it; the fractured borrow], and the relation is learned
--     shuts-whole      it is shut: [the share; what shuts it] becomes [the token]
-- Assumes `Logic`.
use Prim.Native.Nat.{ℕ}
use mathlib.Core.List.{List, [], ◌∷◌}
use seplogic.Ra.Ura.{Ura}
use base.Fraction.{full_share}
use base.Stored.{Gv}
use base.Fml.{Lft, GName, Share, flft, fobs, fauth, fbor, fobor}
use types.Logic.{Logic}
use types.Kit.{Goal, Soaks, ◌$◌, Step, step, Item, ‵, Seq, move, drop}
use types.SemTy.{Body}
use denote.Laws.{Is, shows}
use denote.Memory.{cell_at, mem}
use denote.Steps.{opens, closes, owned, peeks}
use denote.Struct.Declared.{Declared, row, fields}
use denote.Struct.Struct.{Plains}
use denote.Struct.Steps.{spelt}
use denote.Struct.Laws as LL

module _ (D : Declared) (L : LL.Laws D) where
  module _ {M : Type 1} {𝓤 : Ura M} {𝓛 : Logic 𝓤} {K : Type 0} {Γ : List (Item 𝓤)} {G : Goal 𝓤 𝓛.H} where
    pub opens-whole : K → Soaks G → {κ : Lft} {q : Share} (h : D.D) {γ : GName} (b o : ℕ)
        → (Is (row D) h (LL.vals D L h) → Seq K 𝓛 (‵ (cell_at full_share (row D).mir (LL.vals D L h) b o) ∷ ‵ (fobor κ q (Body (mem (row D)) b o γ)) ∷ ‵ (fobs γ ((row D).coded.code h)) ∷ ‵ (fauth γ ((row D).coded.code h)) ∷ Γ) G)
        → Seq K 𝓛 (‵ (fobs γ ((row D).coded.code h)) ∷ ‵ (fbor κ (Body (mem (row D)) b o γ)) ∷ ‵ (flft κ q) ∷ Γ) G
    opens-whole t z h b o k =
        opens t z (row D) {h = h} b o (λ vs. spelt t (row D) (Is (row D)) (shows 𝓛 (row D)) (LL.vals D L) (LL.tells D L) full_share h vs b o $
        move t (1 ∷ []) $ peeks t (row D) (Is (row D)) (shows 𝓛 (row D)) h (LL.vals D L h) (λ g. drop t $ k g))

    pub closes-whole : K → Soaks G → Plains (fields D) → {κ : Lft} {q : Share} {u v : Gv} (h' : D.D) {γ : GName} (b o : ℕ) → Is (row D) h' (LL.vals D L h')
        → Step K 𝓛 (‵ (fobs γ ((row D).coded.code h')) ∷ ‵ (fbor κ (Body (mem (row D)) b o γ)) ∷ ‵ (flft κ q) ∷ Γ) G
        (‵ (cell_at full_share (row D).mir (LL.vals D L h') b o) ∷ ‵ (fobor κ q (Body (mem (row D)) b o γ)) ∷ ‵ (fobs γ u) ∷ ‵ (fauth γ v) ∷ Γ) G
    closes-whole t z pl h' b o is = step (λ s. owned t (row D) (Is (row D)) (LL.makes D pl 𝓛) h' (LL.vals D L h') is $ move t (1 ∷ 0 ∷ []) $ closes t z (row D) h' (LL.vals D L h') b o $ s)
