-- A run, a shape and an answer that are lent, as declared types: their rows, machine values and laws, whichever they are. Assumes nothing.
use mathlib.Core.Path.{◌≡◌, refl, sym, subst}
use mir.Syntax.{Ty}
use mir.Val.{Val}
use base.Fml.{ftrue}
use denote.Exit.{Exit, Last, left, yes}
use denote.Param.Drops.{struct-Drops, enum-Drops}
use denote.RattleType.{RattleType}
use denote.Struct.Struct.{Plains, Struct-Lawful, layout as struct-layout}
use denote.Struct.Declared.{Declared, fields, shape, row, field}
use denote.Struct.Laws as LL
use denote.Enum.Enum.{Few, Plainss, Enum-Lawful, layout as enum-layout}
use denote.Enum.Declared as ED
use denote.Enum.Laws as EL

-- a declared struct of plain data, and a declared enum
pub record Structure : Type 2 where
  pub type : Declared
  pub laws : LL.Laws type
  pub plain : Plains (fields type)
  pub copy : LL.Copyables type.parts

pub record Enumeration : Type 2 where
  pub type : ED.Declared
  pub laws : EL.Laws type
  pub few : Few (ED.shape type)
  pub plain : Plainss (ED.variants type)

module _ (S : Structure) where
  abbrev pub struct_row : RattleType
  struct_row = row S.type

  abbrev pub struct-mir : Ty
  struct-mir = struct-layout (shape S.type)

  abbrev pub struct_val : S.type.D → Val
  struct_val = LL.val S.type S.laws

  abbrev pub struct-field-laws : LL.FLaws (field S.type)
  struct-field-laws = record {
    val = LL.tuple_val S.type S.laws;
    tells = LL.tuple_Tells S.type S.laws;
    low = LL.val S.type S.laws;
    low-is = LL.tells S.type S.laws;
    lawful = λ 𝓛. Struct-Lawful 𝓛 (shape S.type) (LL.lawfuls 𝓛 S.type.parts S.laws);
    drops = λ 𝓛. struct-Drops 𝓛 (shape S.type) (LL.dropss 𝓛 S.type.parts S.laws);
  }

  -- at exit nothing is bound or said of a parameter of it
  pub bound : (x : S.type.D) → Last (struct_row.exit yes) x
  bound x = subst (λ (e : Exit S.type.D). Last e x) (sym (LL.still S.type S.copy yes)) tt

  pub silent : (x : S.type.D) (f : Last (struct_row.exit yes) x) → left (struct_row.exit yes) x f ≡ ftrue
  silent x = subst (λ (e : Exit S.type.D). (f : Last e x) → left e x f ≡ ftrue) (sym (LL.still S.type S.copy yes)) (λ f. refl)

module _ (E : Enumeration) where
  abbrev pub enum_row : RattleType
  enum_row = ED.row E.type

  abbrev pub enum-mir : Ty
  enum-mir = enum-layout (ED.shape E.type)

  abbrev pub enum-val : E.type.D → Val
  enum-val = EL.val E.type E.laws

  abbrev pub enum-field-laws : LL.FLaws (ED.field E.type)
  enum-field-laws = record {
    val = EL.sum-val E.type E.laws;
    tells = EL.Sum-Tells E.type E.laws;
    low = EL.val E.type E.laws;
    low-is = EL.tells E.type E.laws;
    lawful = λ 𝓛. Enum-Lawful 𝓛 (ED.shape E.type) E.few (EL.lawfulss 𝓛 E.type.parts E.laws);
    drops = λ 𝓛. enum-Drops 𝓛 (ED.shape E.type) (EL.dropsss 𝓛 E.type.parts E.laws);
  }
